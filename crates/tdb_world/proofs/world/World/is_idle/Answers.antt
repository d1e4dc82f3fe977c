-- One that isn't idle is absent or has a command.
use Rattle.std.proofs.Common.{sym}
use Rattle.std.proofs.lemmas.Bool.{true≢false}
use Rattle.tdb_world.proofs.OverFiles.{not_idle}
use Rattle.tdb_world.proofs.world.World.is_idle.Goals as goal

pub returns-in-Absent : goal.returns-in-Absent
returns-in-Absent g c = record { yes = λ e. absurd (true≢false (sym e)); no = λ _. not_idle c.args.self.now c.args.who c.standing.result c.in-Absent.is c.standing.ensures }
