-- Both links are known once the walk has come to one, and one record more.
use Rattle.std.proofs.Common.{ℕ, ◌+◌, ◌≤◌, List, IsTrue, refl, sym, ◌∙◌, ap, subst, inl, inr, arith, rules}
use Rattle.std.specs.Prelude.{IfSome}
use Rattle.tdb_words.specs.Word.{word}
use Rattle.tdb_space.specs.Form.{data_start, free_head}
use Rattle.tdb_space.specs.Chain.{Free}
use Rattle.tdb_free.specs.Walk.{LinkWithin}
use Rattle.tdb_free.proofs.Walked.{Seen, seen_more, seen_met, seen_far, within_more}
use Rattle.tdb_free.proofs.walk.find_links.Goals as goal
use Rattle.tdb_free.proofs.walk.find_links.Goals.{else-not-is_open-via-then-not-is_open+else-not-is_open-2, else-not-is_open-via-else-not-is_open}

pub returns-then-not-is_open-2-clause-first : goal.returns-then-not-is_open-2-clause-first
returns-then-not-is_open-2-clause-first g c told offs list =
    let f = g.S.Space.form c.args.s.now in
    let img = g.S.Space.image c.args.s.now in
    let l = c.loop-turn in
    let above : data_start f ≤ l.here.at = omega (arith, c.if-not-header_stands.ensures.above, c.hash_size.ensures, ap (λ x. x.chains) l.invariant.looked.form) in
    let next = word f.order img l.here.at in
    let seen = seen_more f img offs c.args.first l.to_first l._turn l.here next (l.invariant.first_seen told offs list) above refl in
    seen_met f img offs c.args.first c.known_at-to_first.result (l._turn + 1) l.here.at next
    (subst (λ k. Seen f img offs c.args.first k (l._turn + 1) l.here.at next) (sym c.known_at-to_first.ensures) seen) (sym c.if-not-is_open.ensures)

pub returns-then-not-is_open-2-clause-second : goal.returns-then-not-is_open-2-clause-second
returns-then-not-is_open-2-clause-second g c told offs list =
    let f = g.S.Space.form c.args.s.now in
    let img = g.S.Space.image c.args.s.now in
    let l = c.loop-turn in
    let above : data_start f ≤ l.here.at = omega (arith, c.if-not-header_stands.ensures.above, c.hash_size.ensures, ap (λ x. x.chains) l.invariant.looked.form) in
    let next = word f.order img l.here.at in
    let seen = seen_more f img offs c.args.second l.to_second l._turn l.here next (l.invariant.second_seen told offs list) above refl in
    seen_met f img offs c.args.second c.known_at-to_second.result (l._turn + 1) l.here.at next
    (subst (λ k. Seen f img offs c.args.second k (l._turn + 1) l.here.at next) (sym c.known_at-to_second.ensures) seen) (sym c.if-not-is_open-2.ensures)

pub loop-turn-preserved : goal.loop-turn-preserved
loop-turn-preserved g c =
    let f = g.S.Space.form c.args.s.now in
    let img = g.S.Space.image c.args.s.now in
    let size = g.S.Space.size c.args.s.now in
    let l = c.loop-turn in
    let v = l.invariant in
    let stands = c.if-not-header_stands.ensures in
    let above : data_start f ≤ l.here.at = omega (arith, stands.above, c.hash_size.ensures, ap (λ x. x.chains) v.looked.form) in
    let next = c.in_ok-read_word.field-0 in
    let led : l.here.before + 4 ≤ size = elim v.led [ inl e ↦ omega (arith, e, stands.above, stands.within, c.requires.length) | inr within ↦ within ] in
    let first_seen : IsTrue g.S.Space.tells → (offs : List ℕ) → Free f img (word f.order img free_head) offs → Seen f img offs c.args.first c.known_at-to_first.result (l._turn + 1) l.here.at next = λ told offs list.
    subst (λ k. Seen f img offs c.args.first k (l._turn + 1) l.here.at next) (sym c.known_at-to_first.ensures)
    (seen_more f img offs c.args.first l.to_first l._turn l.here next (v.first_seen told offs list) above (c.in_ok-read_word.ensures.value told ∙ (λ j. word (v.looked.form j).order (v.looked.image j) l.here.at))) in
    let second_seen : IsTrue g.S.Space.tells → (offs : List ℕ) → Free f img (word f.order img free_head) offs → Seen f img offs c.args.second c.known_at-to_second.result (l._turn + 1) l.here.at next = λ told offs list.
    subst (λ k. Seen f img offs c.args.second k (l._turn + 1) l.here.at next) (sym c.known_at-to_second.ensures)
    (seen_more f img offs c.args.second l.to_second l._turn l.here next (v.second_seen told offs list) above (c.in_ok-read_word.ensures.value told ∙ (λ j. word (v.looked.form j).order (v.looked.image j) l.here.at))) in
    record {
      first_seen = first_seen;
      second_seen = second_seen;
      first_within = subst (λ k. IfSome k (λ x. LinkWithin size c.args.first x)) (sym c.known_at-to_first.ensures) (within_more size c.args.first l.to_first l.here v.first_within v.led_aligned led);
      second_within = subst (λ k. IfSome k (λ x. LinkWithin size c.args.second x)) (sym c.known_at-to_second.ensures) (within_more size c.args.second l.to_second l.here v.second_within v.led_aligned led);
      led_aligned = stands.aligned;
      led = inr (omega (arith, stands.within, c.requires.length));
      looked = search rules;
      faults = search rules;
      bytes_read = search rules;
      most = search rules;
      few = λ told offs list most first_up_to second_up_to.
          elim c.else-not-is_open.branch [
            | else-not-is_open-via-then-not-is_open+else-not-is_open-2 w ↦
                seen_far f img offs c.args.second c.known_at-to_second.result (l._turn + 1) l.here.at next most (second_seen told offs list) (sym w.if-not-is_open-2.ensures) second_up_to
            | else-not-is_open-via-else-not-is_open w ↦
                seen_far f img offs c.args.first c.known_at-to_first.result (l._turn + 1) l.here.at next most (first_seen told offs list) (sym w.if-not-is_open.ensures) first_up_to
          ];
    }

-- the word of one record more couldn't be read
pub returns-in_err-read_word-clause-walked : goal.returns-in_err-read_word-clause-walked
returns-in_err-read_word-clause-walked g c told offs list most first_up_to second_up_to =
    let f = g.S.Space.form c.args.s.now in
    let img = g.S.Space.image c.args.s.now in
    let l = c.loop-turn in
    let above : data_start f ≤ l.here.at = omega (arith, c.if-not-header_stands.ensures.above, c.hash_size.ensures, ap (λ x. x.chains) l.invariant.looked.form) in
    let next = word f.order img l.here.at in
    let far : l._turn + 1 ≤ most = elim c.else-not-is_open.branch [
      | else-not-is_open-via-then-not-is_open+else-not-is_open-2 w ↦
          seen_far f img offs c.args.second c.known_at-to_second.result (l._turn + 1) l.here.at next most
          (subst (λ k. Seen f img offs c.args.second k (l._turn + 1) l.here.at next) (sym c.known_at-to_second.ensures) (seen_more f img offs c.args.second l.to_second l._turn l.here next (l.invariant.second_seen told offs list) above refl))
          (sym w.if-not-is_open-2.ensures) second_up_to
      | else-not-is_open-via-else-not-is_open w ↦
          seen_far f img offs c.args.first c.known_at-to_first.result (l._turn + 1) l.here.at next most
          (subst (λ k. Seen f img offs c.args.first k (l._turn + 1) l.here.at next) (sym c.known_at-to_first.ensures) (seen_more f img offs c.args.first l.to_first l._turn l.here next (l.invariant.first_seen told offs list) above refl))
          (sym w.if-not-is_open.ensures) first_up_to
    ] in
    record {
      no_more = omega (arith, l.invariant.most, far, c.read_word.ensures.bytes_read.no_more);
      never_falls = omega (arith, l.invariant.bytes_read, c.read_word.ensures.bytes_read.never_falls);
    }
