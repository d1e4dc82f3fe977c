-- So many steps were taken, and nothing came between them.
use Rattle.std.proofs.Common.{◌≡◌, ◌≤◌, ℕ, [], IsTrue, true}
use Rattle.std.specs.Prelude.{Contains}
use Rattle.tdb_space.specs.Accepted.{AcceptWith}
use Rattle.tdb_space.specs.Frame.{Wrote}
use Rattle.tdb_law.specs.Commands.Command.{OnMap}
use Rattle.tdb_law.specs.MapCommands.{map_fills}
use Rattle.tdb_steps.specs.Machines.{Fits}
use Rattle.tdb_steps.specs.Room.{HasNoRoom}
use Rattle.tdb_steps.specs.PlainCommands.{IsKeyed, command_of}
use Rattle.tdb_walk.specs.declared.standing.Standing.TheVariants.{On}
use Rattle.tdb_walk.specs.NextLive.{StandsIn}
use Rattle.tdb_txn_turns.specs.InsideTxn.Spared.{StageSpares}
use Rattle.tdb_txn_turns.proofs.InsideTxn.WalkKept.{WalkSoFar}
use Rattle.tdb_txn_turns.proofs.InsideTxn.Progress.{IsOf, Progress}
use Rattle.tdb_txn_turns.proofs.inside_txn.alone.take_turns.Given as goal

abbrev pub invariant-loop-taken : goal.invariant-loop-taken
invariant-loop-taken g l = record {
  of : IsOf l.fn.machine.command l.fn.machine.seqnum l.machine l._taken;
  few : l._taken ≤ 6;
  fits : Fits l.machine (g.S.Space.size l.s) (g.S.Space.spare l.s);
  made : IsTrue g.S.Space.tells → AcceptWith (g.S.Space.form l.fn.s) (g.S.Space.image l.fn.s) []
      → Progress (g.S.Space.form l.fn.s) (g.S.Space.image l.fn.s) (g.S.Space.image l.s) l.fn.machine.command l.machine l._taken;
  spares : IsTrue g.S.Space.tells → AcceptWith (g.S.Space.form l.fn.s) (g.S.Space.image l.fn.s) [] → StageSpares l.stood_on l.machine.stage l.machine.command;
  walks : IsTrue g.S.Space.tells → AcceptWith (g.S.Space.form l.fn.s) (g.S.Space.image l.fn.s) [] → IsKeyed l.fn.machine.command → (chain off : ℕ) → Contains l.stood_on off → StandsIn (g.S.Space.form l.fn.s) (g.S.Space.image l.fn.s) (On chain off)
      → WalkSoFar (g.S.Space.form l.fn.s) (g.S.Space.image l.fn.s) (g.S.Space.image l.s) chain off (command_of l.fn.machine.command) l._taken;
  still : IsTrue g.S.Space.tells → AcceptWith (g.S.Space.form l.fn.s) (g.S.Space.image l.fn.s) [] → map_fills (command_of l.fn.machine.command) ≡ true → l._taken ≤ 3 → g.S.Space.image l.s ≡ g.S.Space.image l.fn.s;
  roomy : IsTrue g.S.Space.tells → AcceptWith (g.S.Space.form l.fn.s) (g.S.Space.image l.fn.s) [] → 4 ≤ l._taken → (len need : ℕ)
      → HasNoRoom (g.S.Space.form l.fn.s) (g.S.Space.image l.fn.s) l.limit (OnMap (command_of l.fn.machine.command)) len need → ⊥;
  longer : g.S.Space.size l.fn.s ≤ g.S.Space.size l.s;
  within : g.S.Space.size l.s ≤ l.limit;
  wrote : Wrote g.S.Space l.fn.s l.s;
  faults : g.S.Space.faults l.s ≡ g.S.Space.faults l.fn.s;
  bytes_read : g.S.Space.bytes_read l.fn.s ≤ g.S.Space.bytes_read l.s;
}
