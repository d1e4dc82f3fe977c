-- The record by the window that was moved to it, with the tailer that was read.
use Rattle.std.proofs.Common.{◌≡◌, ◌+◌, ◌≤◌, sym, ◌∙◌, ap, subst, arith}
use Rattle.tdb_check.specs.InSequence.{IsWindowOn, reach_of}
use Rattle.tdb_words.specs.Word.{word}
use Rattle.tdb_check.proofs.Members.{member_at}
use Rattle.tdb_check.proofs.next_record.next_record.Goals as goal
use Rattle.tdb_check.proofs.next_record.next_record.Goals.{then-not-holds_key+in_ok-move_to, else-not-holds_key}

pub returns-clause-stands : goal.returns-clause-stands
returns-clause-stands g c told long shows aligned above =
    let img = g.S.Space.image c.args.s.now in
    let f = g.S.Space.form c.args.s.now in
    let now : IsWindowOn img c.if-not-holds_key.window = elim c.if-not-holds_key.branch [
      | then-not-holds_key+in_ok-move_to w ↦ subst (IsWindowOn img) (sym w.window-is) (w.in_ok-move_to.ensures.shows told shows)
      | else-not-holds_key w ↦ subst (IsWindowOn img) (sym w.window-is) shows
    ] in
    let form : g.S.Space.form c.if-not-holds_key.s ≡ f = elim c.if-not-holds_key.branch [
      | then-not-holds_key+in_ok-move_to w ↦ ap g.S.Space.form w.s-is ∙ w.in_ok-move_to.ensures.looked.form
      | else-not-holds_key w ↦ ap g.S.Space.form w.s-is
    ] in
    let image : g.S.Space.image c.if-not-holds_key.s ≡ img = elim c.if-not-holds_key.branch [
      | then-not-holds_key+in_ok-move_to w ↦ ap g.S.Space.image w.s-is ∙ w.in_ok-move_to.ensures.looked.image
      | else-not-holds_key w ↦ ap g.S.Space.image w.s-is
    ] in
    let there : IsWindowOn (g.S.Space.image c.if-not-holds_key.s) c.if-not-holds_key.window = subst (λ i. IsWindowOn i c.if-not-holds_key.window) (sym image) now in
    let tailer : c.in_ok-tailer.tailer ≡ word f.order img (c.args.at + 20 + c.in-Some.member.found.header.rec_len) =
    c.in_ok-tailer.ensures.value told there ∙ (λ j. word (form j).order (image j) (c.args.at + 20 + c.in-Some.member.found.header.rec_len)) in
    let reach : c.args.at + 24 ≤ reach_of c.if-not-holds_key.window = elim c.if-not-holds_key.branch [
      | then-not-holds_key+in_ok-move_to w ↦ subst (λ x. c.args.at + 24 ≤ reach_of x) (sym w.window-is) (omega (arith, w.in_ok-move_to.ensures.reach, c.requires.within))
      | else-not-holds_key w ↦ subst (λ x. c.args.at + 24 ≤ reach_of x) (sym w.window-is) (c.holds_key.ensures w.if-not-holds_key.false)
    ] in
    member_at f img c.bytes_from.result.now c.args.at c.args.len c.in_ok-tailer.tailer _ c.in-Some.member c.order.ensures c.hash.ensures c.hash_size.ensures long c.requires.within
    (omega (arith, c.bytes_from.ensures.size, reach)) (c.bytes_from.ensures.bytes img now) c.in-Some.ensures tailer c.if-tailer-rec_len.false aligned above
