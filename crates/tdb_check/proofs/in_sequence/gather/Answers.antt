-- One record more.
use Rattle.std.proofs.Common.{rules, ◌≡◌, ℕ, ◌+◌, ◌-◌, ◌*◌, ◌≤◌, [], ◌∷◌, ◌++◌, Bool, Option, Some, None, IsTrue, is_some, not, length, refl, sym, ◌∙◌, ap, subst, arith}
use Rattle.std.specs.Prelude.{IfSome}
use Rattle.std.proofs.lemmas.Bool.{false≢true}
use Rattle.tdb_words.specs.declared.record.Rec.{Rec}
use Rattle.tdb_space.specs.Form.{data_start}
use Rattle.tdb_space.specs.Record.{rec_len_of}
use Rattle.tdb_space.specs.Extents.{once, times}
use Rattle.tdb_check.specs.declared.extent.Extent.{Extent}
use Rattle.tdb_check.specs.declared.links.TheConstants.{NO_LIST}
use Rattle.tdb_check.specs.Area.{area_seen}
use Rattle.tdb_check.specs.InSequence.{IsWindowOn, MemberAt}
use Rattle.tdb_check.specs.Links.{GatheredTo}
use Rattle.tdb_check.proofs.Still.{still_then}
use Rattle.tdb_check.proofs.Rising.{rose_then}
use Rattle.tdb_check.proofs.PutDown.{standing_keyed, gathered_none, gathered_more, among_more}
use Rattle.tdb_check.proofs.in_sequence.gather.Goals as goal

-- what is said of the value of an option that has one
some_of : {T : Type 0} (o : Option T) (x : T) (P : T → Type 0) → o ≡ Some x → IfSome o P → P x
some_of o x P is h = subst (λ a. IfSome a P) is h

pub loop-at-init : goal.loop-at-init
loop-at-init g c =
    let f = g.S.Space.form c.args.s.now in
    let img = g.S.Space.image c.args.s.now in
    let start : c.records_start-start.result ≡ data_start f = c.records_start-start.ensures ∙ ap (λ n. 168 + 4 * (n + 1)) c.hash_size.ensures in
    let to = c.pass_area-at.result in
    record {
      gathered = λ told long put kept. gathered_none f img c.args.undo c.pass_area-at.new.undo c.args.lists.now c.args.keys.now to put kept (omega (arith, start, c.pass_area-at.ensures.forward))
          (subst (λ n. (i : ℕ) → times (area_seen c.args.undo) i ≡ once (n, to - n) i + times (area_seen c.pass_area-at.new.undo) i) start c.pass_area-at.ensures.passed);
      shows = λ told. c.in_ok-window.ensures.shows img;
      above = omega (arith, start, c.pass_area-at.ensures.forward);
      from = omega (arith, c.in_ok-window.ensures.at.0, c.pass_area-at.ensures.forward);
      start = omega (arith, start, c.in_ok-window.ensures.at.1);
      reach = omega (arith, start, c.in_ok-window.ensures.at.1, c.requires.heads);
      count = omega (arith, c.requires.none);
      bytes_read = search rules;
      looked = search rules;
      faults = search rules;
    }

pub loop-at-preserved : goal.loop-at-preserved
loop-at-preserved g c =
    let f = g.S.Space.form c.args.s.now in
    let img = g.S.Space.image c.args.s.now in
    let m = c.in-Some-2.member in
    let a = c.in_ok-member.ensures in
    let inv = c.loop-at.invariant in
    let place : c.in-Some.place ≡ c.loop-at.at = c.in-Some.ensures.0 in
    let fits : c.in-Some.place + 24 + m.found.header.rec_len ≤ c.args.len = some_of _ _ _ c.in-Some-2.is a.fits in
    let from : c.next_record.new.window.from ≤ c.in-Some.place + 20 + m.found.header.rec_len = some_of _ _ _ c.in-Some-2.is a.from in
    let at : IsTrue g.S.Space.tells → length img ≡ c.args.len → MemberAt f img c.in-Some.place m = λ told long.
    still_then (λ h i. MemberAt h i c.in-Some.place m) inv.looked.form inv.looked.image
    (some_of _ _ _ c.in-Some-2.is a.stands told (ap length inv.looked.image ∙ long) (subst (λ i. IsWindowOn i c.loop-at.window) (sym inv.looked.image) (inv.shows told))
    c.in-Some.ensures.2
    (subst (λ h. data_start h ≤ c.in-Some.place) (sym inv.looked.form) (omega (arith, place, inv.above)))) in
    let len : (told : IsTrue g.S.Space.tells) (long : length img ≡ c.args.len) → m.found.header.rec_len ≡ rec_len_of f.order img c.in-Some.place = λ told long. ap (λ (x : Rec). x.rec_len) (at told long).found.header in
    record {
      gathered = λ told long put kept.
          (let old = inv.gathered told long put kept in
          let there = at told long in
          let end : c.loop-at.at + 24 + m.found.header.rec_len ≡ c.in-Some.place + (24 + rec_len_of f.order img c.in-Some.place) = omega (arith, place, len told long) in
          gathered_more f img c.args.undo c.loop-at.left c.pass_area-at-in-loop-at.new.undo c.loop-at.lists c.put.new.self c.loop-at.keys c.note.new.self m.list c.in-Some.place (c.loop-at.at + 24 + m.found.header.rec_len) c.pass_area-at-in-loop-at.result
          (subst (GatheredTo f img c.args.undo c.loop-at.left c.loop-at.lists c.loop-at.keys) (sym place) old) (omega (arith, place, inv.above)) there.stands
          (λ xs p. c.in_ok-put.ensures.put f img xs p there.stands there.found.header)
          (λ xs k. c.in_ok-note.ensures f img xs k there.found (standing_keyed f m.list img c.in-Some.place there.stands))
          end c.pass_area-at-in-loop-at.ensures.forward c.pass_area-at-in-loop-at.ensures.passed);
      shows = λ told. subst (λ i. IsWindowOn i c.next_record.new.window) inv.looked.image (a.shows told (subst (λ i. IsWindowOn i c.loop-at.window) (sym inv.looked.image) (inv.shows told)));
      above = omega (arith, inv.above, c.pass_area-at-in-loop-at.ensures.forward);
      from = omega (arith, from, place, c.pass_area-at-in-loop-at.ensures.forward);
      start = omega (arith, inv.start, a.reach.0);
      reach = a.reach.1;
      count = omega (arith, inv.count, c.in_ok-put.ensures.count, c.pass_area-at-in-loop-at.ensures.forward);
      bytes_read = rose_then _ _ _ _ _ _ inv.bytes_read a.bytes_read (omega (arith, inv.start, a.reach.0));
      looked = search rules;
      faults = search rules;
    }

pub put-requires-clause-among : goal.put-requires-clause-among
put-requires-clause-among g c =
    among_more (g.S.Space.form c.loop-at.s).chains NO_LIST c.in-Some-2.member.list (omega (arith, ap (λ h. h.chains) c.loop-at.invariant.looked.form, c.hash_size.ensures, c.hash_size.type_inv))
    (some_of _ _ _ c.in-Some-2.is c.in_ok-member.ensures.among)

none_from : (b : Bool) (o : Option Extent) → is_some o ≡ not b → IsTrue b → o ≡ None
none_from b (Some e) is h = absurd (false≢true (sym (is ∙ ap not h)))
none_from b None is h = refl

pub returns-clause-gathered : goal.returns-clause-gathered
returns-clause-gathered g c all told long put kept =
    let f = g.S.Space.form c.args.s.now in
    let img = g.S.Space.image c.args.s.now in
    subst (λ o. GatheredTo f img c.args.undo o c.loop-at.lists c.loop-at.keys c.args.len) (none_from c.is_none.result c.loop-at.left c.is_none.ensures all)
    (subst (GatheredTo f img c.args.undo c.loop-at.left c.loop-at.lists c.loop-at.keys) c.if-at-len.false (c.loop-at.invariant.gathered told long put kept))
