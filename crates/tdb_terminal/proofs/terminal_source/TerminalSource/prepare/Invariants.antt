-- No read has failed so far.
use Rattle.std.proofs.Common.{◌≡◌}
use Rattle.tdb_terminal.specs.TerminalSource.{source_of}
use Rattle.tdb_terminal.proofs.terminal_source.TerminalSource.prepare.Given as goal

abbrev pub invariant-loop : goal.invariant-loop
invariant-loop g l = g.S.Source.faults (source_of l.self) ≡ g.S.Source.faults (source_of l.fn.self)
