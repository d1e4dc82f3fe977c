-- The area is dropped by the word at 44, and then given.
use Rattle.std.proofs.Common.{◌≡◌, ◌-◌, ℕ, List, length, sym, ◌∙◌, subst, arith}
use Rattle.tdb_space.specs.Chain.{free_of}
use Rattle.tdb_space.specs.Extents.{HandPair}
use Rattle.tdb_space.specs.Form.{Form}
use Rattle.tdb_free.specs.FreeList.{CanBeGiven, Given}
use Rattle.tdb_txn.specs.GivenUp.{AreaGivenUp}
use Rattle.tdb_txn.proofs.DroppedArea.{dropped, short_given_up, area_can_be_given, area_given_up}
use Rattle.tdb_txn.proofs.giving_up.drop_area.Goals as goal

-- what holds of a hand over one view holds of it over another of the same image
moved : (R : Form → List ℕ → HandPair → Type 0) (f k : Form) (a i : List ℕ) (h p : HandPair) → k ≡ f → i ≡ a → p ≡ h → R k i p → R f a h
moved R f k a i h p form image same r = subst (λ x. R x a h) form (subst (λ y. R k y h) image (subst (λ z. R k i z) same r))

pub returns-then-area-lt-LEAST_RECORD-clause-given_up :
    goal.returns-then-area-lt-LEAST_RECORD-clause-given_up
returns-then-area-lt-LEAST_RECORD-clause-given_up g c told small a A has long B =
    let S = g.S.Space in
    subst (λ x. AreaGivenUp (S.form c.args.s.now) a x c.args.area) (sym (c.in_ok-write_word.ensures.image told))
    (short_given_up (S.form c.args.s.now) a (S.image c.args.s.now) c.args.area A has B (g.met.S.Space.told_size c.args.s.now told ∙ sym long)
    c.if-area-lt-LEAST_RECORD.true)

pub returns-in-Ok-clause-given_up : goal.returns-in-Ok-clause-given_up
returns-in-Ok-clause-given_up g c told small a A has long B =
    let S = g.S.Space in
    let f = S.form c.args.s.now in
    let b = S.image c.args.s.now in
    let e = c.args.area in
    let size : length b ≡ length a = g.met.S.Space.told_size c.args.s.now told ∙ sym long in
    let d = dropped f a b e A has B size in
    let given = moved (λ x y z. CanBeGiven x y (free_of f d) z → Given x y (S.image c.give.new.s) (free_of f d) z) f (S.form c.write_word.new.self) d (S.image c.write_word.new.self)
    (e.0, e.1 - 24) c.new.result c.write_word.ensures.form (c.in_ok-write_word.ensures.image told) c.new.ensures
    (c.in-Ok.ensures.given told (free_of f d)) in
    area_given_up f a b e A has B size (S.image c.give.new.s) c.if-area-lt-LEAST_RECORD.false
    (given (area_can_be_given f a b e A has B size (omega (arith, small, long))))
