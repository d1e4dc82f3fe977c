use Rattle.std.proofs.Common.{◌≡◌, ℕ, length, Ok, sym, ◌∙◌, ap, subst}
use Rattle.tdb_disk.specs.Count.{Rose}
use Rattle.tdb_disk.specs.History.{seen}
use Rattle.tdb_answer.specs.Stops.{StopsOver}
use Rattle.tdb_answer.proofs.StopsTurning.{turns_of}
use Rattle.tdb_answer.proofs.playing.play_all.Goals as goal

-- the disk that comes back tells what the world told of the file
pub returns-clause-played : goal.returns-clause-played
returns-clause-played g c told state just = rw c.close.ensures.history (c.play_in-played.ensures.played told state just)

pub returns-clause-rises : goal.returns-clause-rises
returns-clause-rises g c = rw c.close.ensures.faults c.play_in-played.ensures.rises

pub returns-clause-quiet : goal.returns-clause-quiet
returns-clause-quiet g c = rw c.close.ensures.faults c.play_in-played.ensures.quiet

pub returns-clause-rose : goal.returns-clause-rose
returns-clause-rose g c told state just = rw c.close.ensures.faults (c.play_in-played.ensures.rose told state just)

-- what stops leave
pub returns-clause-stops : goal.returns-clause-stops
returns-clause-stops g c told state just =
    rw (c.close.ensures.history, c.close.ensures.faults)
    (turns_of c.args.world.world c.args.plays.now c.args.world.history c.play_in-played.new.world.history g.D.Disk.tells g.K.Sink.tells c.play_in-played.result _ (g.K.Sink.written c.args.output.now) (g.K.Sink.written c.play_in-played.new.output)
    state just (c.requires.accepted told) told
    (subst (λ (q : ℕ × ℕ). StopsOver c.args.world.world g.D.Disk.tells g.K.Sink.tells c.args.plays.now c.play_in-played.result (Rose c.args.world.faults c.play_in-played.new.world.faults → ⊥) c.args.world.history c.play_in-played.new.world.history q.0 q.1
    (g.K.Sink.written c.args.output.now) (g.K.Sink.written c.play_in-played.new.output))
    (λ j. (sym (c.stands.ensures.sized told) j, sym (ap (λ h. length (seen h)) (sym c.close.ensures.history) ∙ g.met.D.Disk.told_size c.close.result told ∙ c.close.ensures.size) j)) c.play_in-played.ensures.stops))
