-- The growth of a file that has no free record long enough, and what is taken from the file then.
use Rattle.std.specs.Prelude.{◌≡◌, ℕ, ◌+◌, ◌-◌, ◌*◌, ◌/◌, ◌%◌, ◌^◌, ◌<◌, ◌≤◌, max, nat_le, List, ◌∷◌, length, Option, None, Some, if◌then◌else◌}
use Rattle.tdb_disk.specs.Image.{padded}
use Rattle.tdb_space.specs.Form.{Form, data_start}
use Rattle.tdb_space.specs.Extents.{HandPair}
use Rattle.tdb_free.specs.FreeList.{ListedOnce, Given, free_pairs, first_fit}
use Rattle.tdb_free.specs.TakenFrom.{TakenFrom}
use Rattle.tdb_free.specs.declared.refusal.FreeRefusal.{FreeRefusal}
use Rattle.tdb_free.specs.declared.refusal.FreeRefusal.TheVariants.{Full, Io}

-- a number, rounded up to a multiple of 4096
abbrev pub whole_pages : ℕ → ℕ
whole_pages n = (n + 4095) / 4096 * 4096

-- the length to which a file grows where no limit is near: the greater of the length with what is needed and the length
-- with a quarter as much again, in whole pages
abbrev pub usual_length : ℕ → ℕ → ℕ
usual_length len need = whole_pages (max (len + need) (len + len / 4))

-- The length to which a file grows for so many bytes more, within a limit: the usual one, or just enough where that
-- passes the limit, or none where just enough passes it too
abbrev pub grown_length : ℕ → ℕ → ℕ → Option ℕ
grown_length len need limit =
    if nat_le (usual_length len need) limit then Some (usual_length len need) else if nat_le (len + need) limit then Some (len + need) else None

-- A record can be taken from an image whose free list has its records at these offsets, and the image can grow: no byte
-- of the list is held twice, the image is whole words, reaches behind the heads, and is short enough for the words of a
-- file.
pub record CanBeTaken (f : Form) (img offs : List ℕ) : Type 0 where
  pub listed : ListedOnce f img offs
  pub aligned : length img % 4 ≡ 0
  pub above : data_start f ≤ length img
  pub short : length img < 2 ^ 32

-- what a file that grows from a length to another gains, as a hand
abbrev pub grown_hand : ℕ → ℕ → HandPair
grown_hand len to = (len, to - len - 24)

-- From image a to image b a hand was taken from what the file had grown by: no record of the old list was long enough,
-- the image was padded to the length that it grows to, what it gained was given to the list, and the hand was taken
-- from the list then.
pub record TakenGrown (f : Form) (a b offs : List ℕ) (rec_len limit : ℕ) (hand : HandPair) : Type 0 where
  pub none_before : first_fit (free_pairs f a offs) rec_len ≡ None
  pub to : ℕ
  pub grown : grown_length (length a) (24 + rec_len) limit ≡ Some to
  pub given : List ℕ
  pub gain : Given f (padded a to) given offs (grown_hand (length a) to)
  pub taken : TakenFrom f given b (gain.at ∷ gain.stay) rec_len hand

-- a hand was taken from the list as it was, or after the file had grown
pub data TakenBy (f : Form) (a b offs : List ℕ) (rec_len limit : ℕ) (hand : HandPair) : Type 0 where
  as_it_was : TakenFrom f a b offs rec_len hand → TakenBy f a b offs rec_len limit hand
  after_growth : TakenGrown f a b offs rec_len limit hand → TakenBy f a b offs rec_len limit hand

-- there is no room for a record: none of the list is long enough, so many bytes more would pass the limit, and the
-- image is as it was
pub record NoRoom (f : Form) (a b offs : List ℕ) (rec_len limit : ℕ) : Type 0 where
  pub none_fits : first_fit (free_pairs f a offs) rec_len ≡ None
  pub past : limit < length a + (24 + rec_len)
  pub same : b ≡ a

-- a refusal for want of room is right
abbrev pub RefusedRightly : Form → List ℕ → List ℕ → List ℕ → ℕ → ℕ → FreeRefusal → Type 0
RefusedRightly f a b offs rec_len limit (Full len need) = NoRoom f a b offs rec_len limit
RefusedRightly f a b offs rec_len limit Io = Unit {0}

-- a refusal for want of room says how long the file was, and how much a record needs with its header
abbrev pub SaysLengths : ℕ → ℕ → FreeRefusal → Type 0
SaysLengths size rec_len (Full len need) = (len ≡ size) × (need ≡ 24 + rec_len)
SaysLengths size rec_len Io = Unit {0}
