-- The text so far was read, and what is left stands behind it.
use Rattle.std.proofs.Common.{◌≡◌, ◌+◌, ◌-◌, ◌<◌, ◌++◌, length, IsTrue}
use Rattle.tdb_script.specs.declared.limits.TheConstants.{LONGEST_SCRIPT as LONGEST}
use Rattle.tdb_answer.proofs.scripts.read_text.Given as goal

abbrev pub invariant-loop-input : goal.invariant-loop-input
invariant-loop-input g l = record {
  read : IsTrue g.S.Source.tells → g.S.Source.left l.fn.input ≡ l.text ++ g.S.Source.left l.input;
  room : 0 < length l.piece;
  faults : g.S.Source.faults l.input ≡ g.S.Source.faults l.fn.input;
}

abbrev pub decreases-loop-input : goal.decreases-loop-input
decreases-loop-input g l = LONGEST + 1 - length l.text
