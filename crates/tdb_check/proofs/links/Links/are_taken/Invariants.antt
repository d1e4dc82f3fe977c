-- The records so far were taken out.
use Rattle.std.proofs.Common.{◌≡◌, ℕ, ◌<◌, get_or}
use Rattle.tdb_check.specs.declared.links.TheConstants.{NO_LIST}
use Rattle.tdb_check.specs.declared.links.Link.{Link}
use Rattle.tdb_check.proofs.links.Links.are_taken.Given as goal

abbrev pub invariant-loop-i : goal.invariant-loop-i
invariant-loop-i l = (k : ℕ) (d : Link) → k < l.i → (get_or l.self.links.items k d).list ≡ NO_LIST
