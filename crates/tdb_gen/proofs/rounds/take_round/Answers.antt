-- Each opener took its turn, one after the other, or one broke off.
use Rattle.std.proofs.Common.{◌≡◌, ◌∷◌, [], Bool, false, Result, Ok, Err}
use Rattle.std.proofs.lemmas.Result.{err_from_is_err_and}
use Rattle.tdb_commands.specs.declared.play.Play.TheVariants.{Turn}
use Rattle.tdb_gen.specs.declared.fault.GenFault.{GenFault}
use Rattle.tdb_gen.specs.Plays.{round}
use Rattle.tdb_gen.specs.Taking.{Place, Taken}
use Rattle.tdb_gen.proofs.Resting.{rests_join}
use Rattle.tdb_gen.proofs.Takings.{taken_join, taken_more}
use Rattle.tdb_gen.proofs.rounds.take_round.Goals as goal
use Rattle.tdb_gen.proofs.rounds.take_round.Goals.{then-first, else-first}

-- two turns, and three
two : (t : Bool) (p q r : Place) (answer : Result (Unit {0}) GenFault) → Taken t p q (Turn 1 ∷ []) (Ok tt) → Taken t q r (Turn 2 ∷ []) answer → Taken t p r (Turn 1 ∷ Turn 2 ∷ []) answer
two t p q r answer A B = taken_join t p q r (Turn 1 ∷ []) A answer (Turn 2 ∷ []) B

three : (t : Bool) (p q r s : Place) (answer : Result (Unit {0}) GenFault) → Taken t p q (Turn 1 ∷ []) (Ok tt) → Taken t q r (Turn 2 ∷ []) (Ok tt) → Taken t r s (Turn 3 ∷ []) answer → Taken t p s round answer
three t p q r s answer A B C = taken_join t p r s (Turn 1 ∷ Turn 2 ∷ []) (two t p q r (Ok tt) A B) answer (Turn 3 ∷ []) C

pub returns-in_err-first-clause-taken : goal.returns-in_err-first-clause-taken
returns-in_err-first-clause-taken g c =
    let q = err_from_is_err_and c.from_residual.result c.from_residual.ensures.1 in
    rw (q.1, q.2) (taken_more _ _ _ (Turn 1 ∷ []) (Turn 2 ∷ Turn 3 ∷ []) c.in_err-first.field-0.0 c.in_err-first.ensures.taken)

pub returns-in_err-second-clause-taken : goal.returns-in_err-second-clause-taken
returns-in_err-second-clause-taken g c =
    let q = err_from_is_err_and c.from_residual-in_err-second.result c.from_residual-in_err-second.ensures.1 in
    let e = c.in_err-second.field-0.0 in
    rw (q.1, q.2) (taken_more _ _ _ (Turn 1 ∷ Turn 2 ∷ []) (Turn 3 ∷ []) e (two _ _ _ _ (Err e) c.in_ok-first.ensures.taken c.in_err-second.ensures.taken))

pub returns-in_err-third-clause-taken : goal.returns-in_err-third-clause-taken
returns-in_err-third-clause-taken g c =
    let q = err_from_is_err_and c.from_residual-in_err-third.result c.from_residual-in_err-third.ensures.1 in
    rw (q.1, q.2) (three _ _ _ _ _ (Err c.in_err-third.field-0.0) c.in_ok-first.ensures.taken c.in_ok-second.ensures.taken c.in_err-third.ensures.taken)

pub returns-then-second-clause-taken : goal.returns-then-second-clause-taken
returns-then-second-clause-taken g c = three _ _ _ _ _ (Ok tt) c.in_ok-first.ensures.taken c.in_ok-second.ensures.taken c.in_ok-third.ensures.taken

pub returns-else-second-clause-taken : goal.returns-else-second-clause-taken
returns-else-second-clause-taken g c = three _ _ _ _ _ (Ok tt) c.in_ok-first.ensures.taken c.in_ok-second.ensures.taken c.in_ok-third.ensures.taken

pub returns-else-second-clause-rests : goal.returns-else-second-clause-rests
returns-else-second-clause-rests g c last =
    let A = c.in_ok-first.ensures.taken in
    let B = two _ _ _ _ (Ok tt) A c.in_ok-second.ensures.taken in
    let none : (c.in_ok-first.first ≡ false) × (c.in_ok-second.second ≡ false) = elim c.if-first.branch [ then-first w ↦ (cc, cc) | else-first w ↦ (cc, cc) ] in
    rests_join _ _ _ _ (Turn 1 ∷ Turn 2 ∷ []) (Turn 3 ∷ []) B (rests_join _ _ _ _ (Turn 1 ∷ []) (Turn 2 ∷ []) A (c.in_ok-first.ensures.rests none.0) (c.in_ok-second.ensures.rests none.1)) (c.in_ok-third.ensures.rests last)
