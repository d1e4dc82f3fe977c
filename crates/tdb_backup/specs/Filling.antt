-- What adding a pair makes of an image, and why it is refused.
use Rattle.std.specs.Prelude.{◌≡◌, ℕ, ◌+◌, ◌<◌, ◌≤◌, List, [], ◌∷◌, length, slice_index, Some}
use Rattle.std.specs.Map.{update}
use Rattle.tdb_words.specs.declared.record.TheConstants.{USED}
use Rattle.tdb_words.specs.declared.word.Order.{Order}
use Rattle.tdb_words.specs.Header.{area_head}
use Rattle.tdb_words.specs.Word.{word}
use Rattle.tdb_space.specs.Form.{Form, data_start}
use Rattle.tdb_space.specs.Record.{magic_of}
use Rattle.tdb_space.specs.Chain.{chain_of, free_of}
use Rattle.tdb_space.specs.Pairs.{pairs, map_of, same_key, home}
use Rattle.tdb_space.specs.Extents.{HandPair, times, all_extents}
use Rattle.tdb_space.specs.Accepted.{AcceptWith}
use Rattle.tdb_free.specs.Growth.{NoRoom}
use Rattle.tdb_free.specs.declared.refusal.FreeRefusal as Free
use Rattle.tdb_space.specs.NewRecord.{rec_len_for}
use Rattle.tdb_backup.specs.Room.{room_in, room_left}
use Rattle.tdb_backup.specs.declared.refusal.AddRefusal.{AddRefusal}
use Rattle.tdb_backup.specs.declared.refusal.AddRefusal.TheVariants as Add
use Rattle.tdb_backup.specs.declared.refusal.InsertRefusal.{InsertRefusal}
use Rattle.tdb_backup.specs.declared.refusal.InsertRefusal.TheVariants.{Full, Io, Memory}

-- From image a to image b a key and its value were added: b is accepted, and its map is that of a with the value at the
-- key.
pub record Added (f : Form) (a b key value : List ℕ) : Type 0 where
  pub accepted : AcceptWith f b []
  pub map : (k : List ℕ) → map_of f b k ≡ update same_key (map_of f a) key (Some value) k

-- each of these records is used
abbrev pub AllUsed : Order → List ℕ → List ℕ → Type 0
AllUsed o img [] = Unit {0}
AllUsed o img (x ∷ xs) = (magic_of o img x ≡ USED) × AllUsed o img xs

-- no byte from the data start on is lost: each is held just once, by a record of a chain or of the free list, by the
-- undo area or by one of these hands
abbrev pub HoldsEach : Form → List ℕ → List HandPair → Type 0
HoldsEach f img hands = (i : ℕ) → data_start f ≤ i → i < length img → times (all_extents f img (chain_of f img) (free_of f img) hands) i ≡ 1

-- From image a to image b a key and its value became the first pair of the key's chain. Each other chain has the pairs
-- that it had. Where every record of a chain was used, every one is; the word of the undo area stays. Where there is no
-- undo area and no byte was lost, none is.
pub record PutFirst (f : Form) (a b key value : List ℕ) : Type 0 where
  pub own : pairs f.order b (chain_of f b (home f key)) ≡ (key, value) ∷ pairs f.order a (chain_of f a (home f key))
  pub others : (j : ℕ) → j < f.chains → (j ≡ home f key → ⊥) → pairs f.order b (chain_of f b j) ≡ pairs f.order a (chain_of f a j)
  pub used : ((j : ℕ) → j < f.chains → AllUsed f.order a (chain_of f a j)) → (j : ℕ) → j < f.chains → AllUsed f.order b (chain_of f b j)
  pub area : word f.order b area_head ≡ word f.order a area_head
  pub each : word f.order a area_head ≡ 0 → HoldsEach f a [] → HoldsEach f b []

-- from image a to image b each byte of the header stays
abbrev pub KeepsHeader : List ℕ → List ℕ → Type 0
KeepsHeader a b = (i : ℕ) → i < 168 → slice_index b i ≡ slice_index a i

-- From image a to image b a record of so many bytes behind its header was added: what is left of the room is what a
-- take leaves within the limit, and the header stays.
pub record Filled (f : Form) (a b : List ℕ) (rec_len limit : ℕ) : Type 0 where
  pub room : room_left limit (room_in f a) rec_len ≡ Some (room_in f b)
  pub header : KeepsHeader a b

-- An image of `len` bytes has no room for `need` bytes more, the record and its header: no free record is long enough,
-- the image can't grow by so many, and it is as it was.
pub record HasNoRoom (f : Form) (a b : List ℕ) (rec_len limit len need : ℕ) : Type 0 where
  pub told_len : len ≡ length a
  pub told_need : need ≡ 24 + rec_len
  pub no_room : NoRoom f a b (free_of f a) rec_len limit

-- why a record of so many bytes isn't added to image a, within a limit, where the image is b then
abbrev pub InsertCause : Form → List ℕ → List ℕ → ℕ → ℕ → InsertRefusal → Type 0
InsertCause f a b rec_len limit (Full len need) = HasNoRoom f a b rec_len limit len need
InsertCause f a b rec_len limit Io = Unit {0}
InsertCause f a b rec_len limit Memory = b ≡ a

-- an insert is refused as the record that it takes
abbrev pub of_free : Free.FreeRefusal → InsertRefusal
of_free (Free.TheVariants.Full len need) = Full len need
of_free Free.TheVariants.Io = Io

-- from image a to image b a key and its value were added, within a limit
pub record Inserted (f : Form) (a b key value : List ℕ) (limit : ℕ) : Type 0 where
  pub added : Added f a b key value
  pub filled : Filled f a b (rec_len_for (length key) (length value)) limit

-- Why a key and its value weren't added to image a, or the last log didn't take that the file grew by them. The image
-- is b then.
abbrev pub AddCause : Form → List ℕ → List ℕ → List ℕ → List ℕ → ℕ → AddRefusal → Type 0
AddCause f a b key value limit (Add.Insert e) = InsertCause f a b (rec_len_for (length key) (length value)) limit e
AddCause f a b key value limit (Add.Log refusal) = Inserted f a b key value limit
