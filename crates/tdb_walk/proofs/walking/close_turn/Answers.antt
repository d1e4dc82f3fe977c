-- The opener's entry is that of the cursor that it has left.
use Rattle.std.proofs.Common.{◌-◌, set, sym, ◌∙◌, ap}
use Rattle.std.proofs.lemmas.List.{set-set}
use Rattle.tdb_walk.specs.declared.walk.Walk.{Walk}
use Rattle.tdb_walk.specs.Spots.{spot_number}
use Rattle.tdb_walk.proofs.walking.close_turn.Goals.{in-Done, in_default}
use Rattle.tdb_space.proofs.Results.{on_err}
use Rattle.tdb_walk.proofs.walking.close_turn.Goals as goal

pub returns-clause-spots : goal.returns-clause-spots
returns-clause-spots g c =
    elim c.match-turn.branch [
      | in-Done w ↦
          w.spots-is ∙ w.set.ensures ∙ ap (λ l. set l (c.args.owner - 1) w.spot.result) c.step_among.ensures.spots ∙ set-set c.args.spots.now (c.args.owner - 1) _ w.spot.result
          ∙ ap (λ n. set c.args.spots.now (c.args.owner - 1) n) (w.spot.ensures.offset ∙ ap (λ (v : Walk). spot_number v.cursor.place) (sym w.walk-is))
      | in_default w ↦ w.spots-is ∙ c.step_among.ensures.spots ∙ ap (λ (v : Walk). set c.args.spots.now (c.args.owner - 1) (spot_number v.cursor.place)) (sym w.walk-is)
    ]

-- the step failed
pub returns-in_err-turn-clause-stopped : goal.returns-in_err-turn-clause-stopped
returns-in_err-turn-clause-stopped g c = on_err c.from_residual.result c.in_err-turn.ensures.stopped
