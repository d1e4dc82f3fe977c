-- What was put so far and the numbers that are left make the line.
use Rattle.std.proofs.Common.{◌≡◌, ◌++◌, drop}
use Rattle.std.specs.List.{flat_map}
use Rattle.tdb_rewrite.specs.Text.{spaced_number}
use Rattle.tdb_rewrite.proofs.text.push_line.Given as goal

abbrev pub invariant-loop-number : goal.invariant-loop-number
invariant-loop-number l = l.text.items ++ flat_map spaced_number (drop l.number-index l.fn.numbers) ≡ l.fn.text.items ++ l.fn.word ++ flat_map spaced_number l.fn.numbers
