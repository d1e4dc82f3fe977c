-- A world of which all is as it was but the room that is ready for the next commands of a transaction.
use Rattle.std.specs.Prelude.{◌≡◌, ℕ, Option, None, Some}
use Rattle.tdb_txn_owner.specs.ButRoom.{stage_left, HolderButRoom}
use Rattle.tdb_txn_owner.specs.Holders.{HolderState}
use Rattle.tdb_world.specs.Whole.{Whole}

-- all of the one aside, where there is one, is as it was but the room of its transaction
abbrev pub AsideButRoom : Option HolderState → Option HolderState → Type 0
AsideButRoom (Some old) (Some new) = HolderButRoom old new
AsideButRoom old new = new ≡ old

-- so it is of the world, of which the one aside is a part
pub record WholeButRoom (old new : Whole) : Type 0 where
  pub aside : AsideButRoom old.aside new.aside
  pub rest : new ≡ record old { aside = new.aside }

-- how many pages are in stock for the next commands of the one aside
abbrev pub aside_left : Option HolderState → ℕ
aside_left None = 0
aside_left (Some h) = stage_left h.stage
