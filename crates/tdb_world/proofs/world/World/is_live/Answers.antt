-- A live opener is idle or has a command.
use Rattle.std.proofs.lemmas.Bool.{true≢false}
use Rattle.tdb_world.proofs.OverFiles.{live_so}
use Rattle.tdb_world.proofs.world.World.is_live.Goals as goal

pub returns-in-Idle : goal.returns-in-Idle
returns-in-Idle g c = record { yes = λ _. live_so c.args.self.now c.args.who c.standing.result c.in-Idle.is c.standing.ensures; no = λ e. absurd (true≢false e) }
