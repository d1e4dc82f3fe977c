-- What a lock of all records among the openers comes to, which the next turn of the one aside wants.
use Rattle.std.specs.Prelude.{ℕ, ◌≡◌, List, Bool, true, false, Option, None, Some}
use Rattle.tdb_law.specs.Effects.{IsFirstConflict}
use Rattle.tdb_commands.specs.InLaw.{law_opener}
use Rattle.tdb_txn_owner.specs.Holders.{HolderState}
use Rattle.tdb_txn_owner.specs.Wanting.{stage_wants}
use Rattle.tdb_txn_owner.specs.declared.wanting.Wants.{Wants}
use Rattle.tdb_openers.specs.Aside.{wants_all, AreFree, HoldsRecords}
use Rattle.tdb_openers.specs.Died.{HasDied}
use Rattle.tdb_openers.specs.Turning.{law_table}
use Rattle.tdb_openers.specs.Worlds.{World, IsNumber}
use Rattle.tdb_openers.specs.declared.opener.Opener.{Opener}
use Rattle.tdb_world.specs.Whole.{Whole, WorldFits}

-- The opener has it, and no other's lock was in the way; where it wants none all is as it was.
abbrev pub Claimed : World → ℕ → Opener → Wants → World → Type 0
Claimed old who x (Wants.Records kind) new = HoldsRecords old who x (Some (kind, 1)) new × AreFree old who kind
Claimed old who x wants new = new ≡ old

-- another opener's lock is the first in the way
abbrev pub IsBarred : World → ℕ → Wants → ℕ → ℕ → Type 0
IsBarred w who (Wants.Records kind) owner byte = IsFirstConflict (law_table w.table) (law_opener who) (wants_all kind) (law_opener owner) byte
IsBarred w who wants owner byte = ⊥

-- The opener is back among the others: it holds no record any more, and has ended if it closes.
abbrev pub IsReleased : World → ℕ → Opener → Bool → World → Type 0
IsReleased old who x true new = (mid : World) × HoldsRecords old who x None mid × HasDied mid who new
IsReleased old who x false new = HoldsRecords old who x None new

-- What is left of the openers and of the one aside: it is aside still, or is back among them.
abbrev pub IsSettled : World → ℕ → Opener → Bool → Option HolderState → World → Type 0
IsSettled old who x closes (Some h) new = new ≡ old
IsSettled old who x closes None new = IsReleased old who x closes new

-- Before the turn for which the lock is taken: the openers were so before that lock, and all of the world stood then.
pub record ClaimStands (w : Whole) (h : HolderState) (img : List ℕ) (size : ℕ) (before : World) (x : Opener) : Type 0 where
  pub number : IsNumber before h.owner x
  pub claimed : Claimed before h.owner x (stage_wants h.stage) w.openers
  pub fits : WorldFits (record w { openers = before; aside = Some h }) img size
