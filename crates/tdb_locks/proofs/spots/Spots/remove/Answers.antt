use Rattle.std.proofs.Common.{◌∙◌, sym}
use Rattle.tdb_locks.proofs.Standing.{without_first-None, without_first-Some}
use Rattle.tdb_locks.proofs.spots.Spots.remove.Goals as goal

pub returns-in-Some : goal.returns-in-Some
returns-in-Some c = rw (c.remove.ensures.items, c.self.view_is) (without_first-Some _ _ _ (rw (c.deref.ensures.value, c.self.view_is) at (sym c.first_place.ensures) ∙ c.in-Some.is))

pub returns-in_default : goal.returns-in_default
returns-in_default c = without_first-None _ _ (rw (c.deref.ensures.value, c.self.view_is) at (sym c.first_place.ensures) ∙ c.in_default.is)
