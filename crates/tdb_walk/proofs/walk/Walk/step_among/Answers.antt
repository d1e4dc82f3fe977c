-- The step is one among the records of the other entries, and the opener's own entry is that of its place then.
use Rattle.std.proofs.Common.{◌-◌, IfOk, Result, Ok, Err, set, ◌∙◌, ap, subst}
use Rattle.std.proofs.lemmas.List.{set-set}
use Rattle.tdb_walk.specs.Spots.{Stepped}
use Rattle.tdb_walk.proofs.walk.Walk.step_among.Goals as goal

by_three : {T E : Type 0} (r : Result T E) (P Q R W : T → Type 0) → ((x : T) → P x → Q x → R x → W x) → IfOk r P → IfOk r Q → IfOk r R → IfOk r W
by_three (Ok x) P Q R W then p q r = then x p q r
by_three (Err e) P Q R W then p q r = tt

pub returns-clause-stepped : goal.returns-clause-stepped
returns-clause-stepped g c =
    by_three c.step-turn.result _ _ _ _
    (λ turn taken made knows. subst (λ l. Stepped g.S.Space.tells (g.S.Space.form c.args.s.now) (g.S.Space.image c.args.s.now) (g.S.Space.image c.step-turn.new.s) (g.S.Space.size c.args.s.now) c.args.locks.now c.step-turn.new.locks c.args.owner c.args.held.now l c.args.goal c.args.read_only c.args.self.now.cursor c.step-turn.new.self.cursor turn) c.set.ensures
    (record { taken = taken; made = made; knows = knows; placed = c.spot.ensures.placed })) c.step-turn.ensures.taken c.step-turn.ensures.made c.step-turn.ensures.knows

pub returns-clause-spots : goal.returns-clause-spots
returns-clause-spots g c =
    c.set-2.ensures ∙ ap (λ l. set l (c.args.owner - 1) c.spot.result) c.set.ensures ∙ set-set c.args.spots.now (c.args.owner - 1) _ c.spot.result ∙ ap (λ n. set c.args.spots.now (c.args.owner - 1) n) c.spot.ensures.offset
