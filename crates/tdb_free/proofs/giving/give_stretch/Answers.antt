-- Both neighbours leave the list, and the hand that they make with the stretch becomes its first record.
use Rattle.std.proofs.Common.{◌≡◌, ◌⊎◌, ℕ, List, [], ◌∷◌, Option, refl, sym, ◌∙◌, subst, inl, inr, arith}
use Rattle.std.proofs.lemmas.Result.{on_ok_weaker, on_err_weaker}
use Rattle.tdb_space.specs.Form.{Form}
use Rattle.tdb_space.specs.Extents.{HandOk}
use Rattle.tdb_free.specs.declared.search.Spot.{Spot}
use Rattle.tdb_free.specs.FreeList.{MadeFirst, with_next, with_previous}
use Rattle.tdb_space.specs.Exchange.{InHands}
use Rattle.tdb_free.specs.GiveStopped.{GiveStopped}
use Rattle.tdb_free.specs.Search.{previous_then}
use Rattle.tdb_free.specs.Removal.{LeftOut}
use Rattle.tdb_free.specs.Stretch.{pair, found_pair}
use Rattle.tdb_free.proofs.Results.{on_err}
use Rattle.tdb_free.proofs.Stopped.{stopped_before, stopped_next, stopped_both, stopped_last}
use Rattle.tdb_free.proofs.GiveSteps.{given_last, given_steps}
use Rattle.tdb_free.proofs.giving.give_stretch.Goals as goal

-- what left the list, over another view of the same image
moved : (f k : Form) (a i b : List ℕ) (found found' : Option Spot) → k ≡ f → i ≡ a → found ≡ found' → LeftOut k i b found → LeftOut f a b found'
moved f k a i b found found' form image same left = subst (λ o. LeftOut f a b o) same (subst (λ x. LeftOut f x b found) image (subst (λ q. LeftOut q i b found) form left))

pub returns-clause-given : goal.returns-clause-given
returns-clause-given g c =
    let f = g.S.Space.form c.args.s.now in
    let a = g.S.Space.image c.args.s.now in
    let b = g.S.Space.image c.take_out.new.s in
    let cut = g.S.Space.image c.take_out-2.new.s in
    let d = g.S.Space.image c.put_first.new.s in
    let h = pair c.args.free in
    let beside = c.in_ok-beside.beside in
    let form = c.find_neighbours.ensures.looked.form in
    let form_then = c.take_out.ensures.wrote.form ∙ form in
    let form_last = c.take_out-2.ensures.wrote.form ∙ form_then in
    on_ok_weaker c.put_first.result (λ put told offs C.
    (let B = c.in_ok-beside.ensures.found told offs C.listed.list in
    let N = moved f (g.S.Space.form c.find_neighbours.new.s) a (g.S.Space.image c.find_neighbours.new.s) b beside.next beside.next form c.find_neighbours.ensures.looked.image refl (c.in_ok-take_out.ensures.left told) in
    let P = moved f (g.S.Space.form c.take_out.new.s) b b cut c.previous_then-previous.result (previous_then beside.next beside.previous) form_then refl c.previous_then-previous.ensures (c.in_ok-take_out-2.ensures.left told) in
    let last : pair c.with_previous.result ≡ with_previous (with_next h (found_pair beside.next)) (found_pair (previous_then beside.next beside.previous)) =
    c.with_previous.ensures ∙ (λ j. with_previous (c.with_next.ensures j) (found_pair (c.previous_then-previous.ensures j))) in
    let ok = (given_last f a offs h beside C B b N cut P).in_place in
    let M = subst (λ q. HandOk q cut (pair c.with_previous.result) → MadeFirst q cut d (pair c.with_previous.result)) form_last (put told) in
    given_steps f a offs h beside C B b N cut P d (subst (λ p. HandOk f cut p → MadeFirst f cut d p) last M ok))) c.put_first.ensures.put

-- no neighbour was found
pub returns-in_err-beside-clause-stopped : goal.returns-in_err-beside-clause-stopped
returns-in_err-beside-clause-stopped g c = on_err c.from_residual.result (λ told offs C.
    stopped_before (g.S.Space.form c.args.s.now) (g.S.Space.image c.args.s.now) (g.S.Space.image c.find_neighbours.new.s) offs (pair c.args.free) C c.find_neighbours.ensures.looked.image)

-- the record behind the hand stays in the list, or has left it
pub returns-in_err-take_out-clause-stopped : goal.returns-in_err-take_out-clause-stopped
returns-in_err-take_out-clause-stopped g c =
    let f = g.S.Space.form c.args.s.now in
    let a = g.S.Space.image c.args.s.now in
    let i = g.S.Space.image c.find_neighbours.new.s in
    let b = g.S.Space.image c.take_out.new.s in
    let beside = c.in_ok-beside.beside in
    let image = c.find_neighbours.ensures.looked.image in
    on_err c.from_residual-in_err-take_out.result (λ told offs C.
    elim (c.in_err-take_out.ensures.stopped told) [
      | inl same ↦ stopped_before f a b offs (pair c.args.free) C (same ∙ image)
      | inr left ↦
          stopped_next f a offs (pair c.args.free) beside C (c.in_ok-beside.ensures.found told offs C.listed.list) b
          (moved f (g.S.Space.form c.find_neighbours.new.s) a i b beside.next beside.next c.find_neighbours.ensures.looked.form image refl left)
    ])

-- the one before it stays, or has left too
pub returns-in_err-take_out-2-clause-stopped : goal.returns-in_err-take_out-2-clause-stopped
returns-in_err-take_out-2-clause-stopped g c =
    let f = g.S.Space.form c.args.s.now in
    let a = g.S.Space.image c.args.s.now in
    let i = g.S.Space.image c.find_neighbours.new.s in
    let b = g.S.Space.image c.take_out.new.s in
    let cut = g.S.Space.image c.take_out-2.new.s in
    let h = pair c.args.free in
    let beside = c.in_ok-beside.beside in
    let form = c.find_neighbours.ensures.looked.form in
    on_err c.from_residual-in_err-take_out-2.result (λ told offs C.
    (let B = c.in_ok-beside.ensures.found told offs C.listed.list in
    let N = moved f (g.S.Space.form c.find_neighbours.new.s) a i b beside.next beside.next form c.find_neighbours.ensures.looked.image refl (c.in_ok-take_out.ensures.left told) in
    elim (c.in_err-take_out-2.ensures.stopped told) [
      | inl same ↦ subst (λ img. GiveStopped f a img offs h) (sym same) (stopped_next f a offs h beside C B b N)
      | inr left ↦
          stopped_both f a offs h beside C B b N cut
          (moved f (g.S.Space.form c.take_out.new.s) b b cut c.previous_then-previous.result (previous_then beside.next beside.previous) (c.take_out.ensures.wrote.form ∙ form) refl c.previous_then-previous.ensures left)
    ]))

-- what they make with the hand was written in part, or is the first
pub returns-clause-stopped : goal.returns-clause-stopped
returns-clause-stopped g c =
    let f = g.S.Space.form c.args.s.now in
    let a = g.S.Space.image c.args.s.now in
    let b = g.S.Space.image c.take_out.new.s in
    let cut = g.S.Space.image c.take_out-2.new.s in
    let d = g.S.Space.image c.put_first.new.s in
    let h = pair c.args.free in
    let beside = c.in_ok-beside.beside in
    let form = c.find_neighbours.ensures.looked.form in
    let form_then = c.take_out.ensures.wrote.form ∙ form in
    let form_last = c.take_out-2.ensures.wrote.form ∙ form_then in
    on_err_weaker c.put_first.result (λ stopped told offs C.
    (let B = c.in_ok-beside.ensures.found told offs C.listed.list in
    let N = moved f (g.S.Space.form c.find_neighbours.new.s) a (g.S.Space.image c.find_neighbours.new.s) b beside.next beside.next form c.find_neighbours.ensures.looked.image refl (c.in_ok-take_out.ensures.left told) in
    let P = moved f (g.S.Space.form c.take_out.new.s) b b cut c.previous_then-previous.result (previous_then beside.next beside.previous) form_then refl c.previous_then-previous.ensures (c.in_ok-take_out-2.ensures.left told) in
    let last : pair c.with_previous.result ≡ with_previous (with_next h (found_pair beside.next)) (found_pair (previous_then beside.next beside.previous)) =
    c.with_previous.ensures ∙ (λ j. with_previous (c.with_next.ensures j) (found_pair (c.previous_then-previous.ensures j))) in
    let ok = (given_last f a offs h beside C B b N cut P).in_place in
    let M = subst (λ q. HandOk q cut (pair c.with_previous.result) → InHands q cut d (pair c.with_previous.result ∷ []) ⊎ MadeFirst q cut d (pair c.with_previous.result)) form_last (stopped told) in
    stopped_last f a offs h beside C B b N cut P d (subst (λ p. HandOk f cut p → InHands f cut d (p ∷ []) ⊎ MadeFirst f cut d p) last M ok))) c.put_first.ensures.stopped

-- what was read up to each end
pub returns-in_err-beside-clause-walked : goal.returns-in_err-beside-clause-walked
returns-in_err-beside-clause-walked g c told offs list most up_to =
    let walked = c.find_neighbours.ensures.walked told offs list most up_to in
    record { no_more = omega (arith, walked.no_more); never_falls = omega (arith, walked.never_falls) }

pub returns-in_err-take_out-clause-walked : goal.returns-in_err-take_out-clause-walked
returns-in_err-take_out-clause-walked g c told offs list most up_to =
    let walked = c.find_neighbours.ensures.walked told offs list most up_to in
    record { no_more = omega (arith, walked.no_more, c.take_out.ensures.bytes_read.no_more); never_falls = omega (arith, walked.never_falls, c.take_out.ensures.bytes_read.never_falls) }

pub returns-in_err-take_out-2-clause-walked : goal.returns-in_err-take_out-2-clause-walked
returns-in_err-take_out-2-clause-walked g c told offs list most up_to =
    let walked = c.find_neighbours.ensures.walked told offs list most up_to in
    record { no_more = omega (arith, walked.no_more, c.take_out.ensures.bytes_read.no_more, c.take_out-2.ensures.bytes_read.no_more); never_falls = omega (arith, walked.never_falls, c.take_out.ensures.bytes_read.never_falls, c.take_out-2.ensures.bytes_read.never_falls) }

pub returns-clause-walked : goal.returns-clause-walked
returns-clause-walked g c told offs list most up_to =
    let walked = c.find_neighbours.ensures.walked told offs list most up_to in
    record { no_more = omega (arith, walked.no_more, c.take_out.ensures.bytes_read.no_more, c.take_out-2.ensures.bytes_read.no_more, c.put_first.ensures.bytes_read.no_more); never_falls = omega (arith, walked.never_falls, c.take_out.ensures.bytes_read.never_falls, c.take_out-2.ensures.bytes_read.never_falls, c.put_first.ensures.bytes_read.never_falls) }
