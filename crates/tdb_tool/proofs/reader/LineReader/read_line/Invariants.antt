-- The line so far, what is at hand and what is left of the source are the text.
use Rattle.std.proofs.Common.{◌≡◌, ◌+◌, ◌-◌, ◌*◌, ◌≤◌, ◌++◌, false, length, IsTrue}
use Rattle.tdb_tool.specs.declared.limits.TheConstants.{LONGEST_LINE as LONGEST}
use Rattle.tdb_tool.specs.Lines.{IsBare, NeedsNoMore, unread}
use Rattle.tdb_tool.proofs.reader.LineReader.read_line.Given as goal

abbrev pub invariant-loop-self : goal.invariant-loop-self
invariant-loop-self g l = record {
  text : IsTrue g.S.Source.tells → unread l.fn.self ++ g.S.Source.left l.fn.input ≡ l.line ++ (unread l.self ++ g.S.Source.left l.input);
  bare : IsBare l.line;
  more : l.self.over ≡ false;
  no_sooner : NeedsNoMore l.fn.self → (l.self ≡ l.fn.self) × (l.input ≡ l.fn.input);
  place : l.self.at ≡ l.fn.self.at;
  len : length l.line ≤ LONGEST + 65536;
  faults : g.S.Source.faults l.input ≡ g.S.Source.faults l.fn.input;
}

abbrev pub decreases-loop-self : goal.decreases-loop-self
decreases-loop-self g l = 2 * (LONGEST + 1 - length l.line) + (1 - (l.self.end - l.self.start))
