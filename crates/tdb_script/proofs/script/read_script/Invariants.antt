use Rattle.std.proofs.Common.{length, suc}
use Rattle.std.specs.Option.{option_map_or}
use Rattle.tdb_script.proofs.LoopLemmas.{Reading}
use Rattle.tdb_script.proofs.script.read_script.Given as goal

-- the plays so far are those of the lines before the place
abbrev pub invariant-loop-left : goal.invariant-loop-left
invariant-loop-left l = Reading l.fn.text l.plays l.at l.left

abbrev pub decreases-loop-left : goal.decreases-loop-left
decreases-loop-left l = option_map_or (λ rest. suc (length rest.now)) l.left 0
