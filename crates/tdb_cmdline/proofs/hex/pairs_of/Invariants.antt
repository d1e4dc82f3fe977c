-- The bytes so far are those in front of what the pairs that are left write.
use Rattle.std.proofs.Common.{◌≡◌, ◌++◌, length}
use Rattle.std.specs.Option.{option_map}
use Rattle.tdb_cmdline.specs.Hex.{hex_pairs}
use Rattle.tdb_cmdline.proofs.hex.pairs_of.Given as goal

abbrev pub invariant-loop-left : goal.invariant-loop-left
invariant-loop-left l = record { read : hex_pairs l.fn.digits ≡ option_map (λ rest. l.bytes.items ++ rest) (hex_pairs l.left) }

abbrev pub decreases-loop-left : goal.decreases-loop-left
decreases-loop-left l = length l.left
