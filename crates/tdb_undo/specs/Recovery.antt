-- A recovery: what it has read before it writes, and what a stop of it leaves.
use Rattle.std.specs.Prelude.{◌≡◌, ℕ, ◌+◌, ◌<◌, ◌≤◌, ◌⊎◌, Bool, ◌&&◌, not, nat_le, nat_lt, if◌then◌else◌, List, length, slice_index}
use Rattle.tdb_disk.specs.History.{History}
use Rattle.tdb_disk.specs.Stop.{Leaves}
use Rattle.tdb_words.specs.declared.word.Order.{Order}
use Rattle.tdb_space.specs.Form.{Form}
use Rattle.tdb_space.specs.Opening.{entries, last_covering, given_back, lies_in, is_open, restored}
use Rattle.tdb_space.specs.Record.{rec_len_of}
use Rattle.tdb_space.specs.Undoing.{area_at, old_size, UndoneAlike, TailOf}
use Rattle.tdb_space.specs.RecoverySteps.{Behind, TailAt}
use Rattle.tdb_undo.specs.declared.area.Area.{Area}
use Rattle.tdb_undo.specs.Area.{IsAreaOf}
use Rattle.tdb_words.specs.Header.{known_length}

-- what was read of an image before an undo: its undo area, its first 64 bytes, and what the entries give back of these
pub record ReadFrom (f : Form) (img : List ℕ) (a : Area) (before after : List ℕ) : Type 0 where
  pub area : IsAreaOf f.order img a
  pub front : (i : ℕ) → i < known_length → slice_index before i ≡ slice_index img i
  pub given : (i : ℕ) → i < known_length → slice_index after i ≡ given_back (last_covering (entries f img) i) i (slice_index before i)

-- What a stop of the recovery of image a leaves: an image that is undone like a, the restored image, or that one in
-- front and behind it zeros, or an undo area whose gate is shut
pub data Undoing (f : Form) (a c : List ℕ) : Type 0 where
  alike : UndoneAlike f a c → Undoing f a c
  exact : c ≡ restored f a → Undoing f a c
  tail : old_size f a ≤ area_at f a → TailOf f (restored f a) c → Undoing f a c

-- a byte from the old length on, up to the end of a file of so many bytes, outside the undo area
abbrev pub is_past : Area → ℕ → ℕ → Bool
is_past a len i = nat_le a.header.key_len i && (nat_lt i len && not (lies_in a.at (24 + a.header.rec_len) i))

-- so many bytes of an image from an offset on are 0
abbrev pub ZeroAt : ℕ → ℕ → List ℕ → Type 0
ZeroAt at count img = (i : ℕ) → at ≤ i → i < at + count → slice_index img i ≡ 0

-- From one image to another only the words of the header at an offset change, but not its last one, the gate; its
-- rec_len stays or is 0
pub record HeaderTouched (o : Order) (at : ℕ) (old new : List ℕ) : Type 0 where
  pub size : length new ≡ length old
  pub others : (i : ℕ) → (i < at) ⊎ (at + 20 ≤ i) → slice_index new i ≡ slice_index old i
  pub len : (rec_len_of o new at ≡ rec_len_of o old at) ⊎ (rec_len_of o new at ≡ 0)

-- every image that a stop now leaves is undone like this one
abbrev pub AllAlike : Form → List ℕ → History → Type 0
AllAlike f a h = (image : List ℕ) → Leaves h image → UndoneAlike f a image

-- this undo area stands behind the restored image, its gate is shut, and between and behind them there are zeros
abbrev pub ShutBehind : Form → List ℕ → Area → List ℕ → Type 0
ShutBehind f a area c = Behind f (restored f a) area.at (area.at + 24 + area.header.rec_len) × TailAt f (restored f a) area.at (area.at + 24 + area.header.rec_len) c

-- how many syncs the recovery of an image makes: none where there is nothing to undo, three where the undo area stands
-- below the old length, and else six
abbrev pub recovery_syncs : Form → List ℕ → ℕ
recovery_syncs f img = if is_open f img then (if nat_lt (area_at f img) (old_size f img) then 3 else 6) else 0
