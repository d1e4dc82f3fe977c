-- What was put so far and the lines that are left make the text.
use Rattle.std.proofs.Common.{◌≡◌, ◌++◌, drop}
use Rattle.tdb_rewrite.specs.Text.{spots_text}
use Rattle.tdb_rewrite.proofs.text.push_spots.Given as goal

abbrev pub invariant-loop-spot : goal.invariant-loop-spot
invariant-loop-spot l = l.text.items ++ spots_text (drop l.spot-index l.fn.spots) ≡ l.fn.text.items ++ spots_text l.fn.spots
