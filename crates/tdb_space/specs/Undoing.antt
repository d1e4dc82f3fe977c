-- What a stop of a recovery may leave: images that open to the map of the restored one, again and again.
use Rattle.std.specs.Prelude.{◌≡◌, ℕ, ◌+◌, ◌%◌, ◌<◌, ◌≤◌, ◌⊎◌, Option, None, List, length, slice_index}
use Rattle.tdb_words.specs.Word.{word}
use Rattle.tdb_words.specs.Header.{sequence_of, area_head, known_length, sequence_at}
use Rattle.tdb_space.specs.Form.{Form, form_of}
use Rattle.tdb_space.specs.Record.{rec_len_of, key_len_of}
use Rattle.tdb_space.specs.Extents.{times, area}
use Rattle.tdb_space.specs.Accepted.{AreaOk, Shut, Accept}
use Rattle.tdb_space.specs.Exchange.{Agree}
use Rattle.tdb_space.specs.Moved.{StaysAccepted}
use Rattle.tdb_space.specs.Opening.{entries, Undoable, last_covering, given_back, restored, Opens, own_map, OpensTo, Mild}

-- where the undo area of an image stands
abbrev pub area_at : Form → List ℕ → ℕ
area_at f img = word f.order img area_head

-- where it ends
abbrev pub area_end : Form → List ℕ → ℕ
area_end f img = area_at f img + 24 + rec_len_of f.order img (area_at f img)

-- the length that the file had, and has again after the undo
abbrev pub old_size : Form → List ℕ → ℕ
old_size f img = key_len_of f.order img (area_at f img)

-- Image c has all of image a that its undo reads: the word at 44, the undo area, and below the old length each byte
-- that no entry covers. It is as long as the undo needs. Every other byte may be another, and the length too.
pub record SameUndo (f : Form) (a c : List ℕ) : Type 0 where
  pub reach : old_size f a ≤ length c
  pub room : area_end f a ≤ length c
  pub there : Agree a c area_head (area_head + 4)
  pub area_bytes : Agree a c (area_at f a) (area_end f a)
  pub others : (i : ℕ) → i < old_size f a → last_covering (entries f a) i ≡ None → slice_index c i ≡ slice_index a i

-- The gate of image a is open, and image c is undone like it: it has what the undo of a reads, whole words, and the
-- bytes by which the header of a is known.
pub record UndoneAlike (f : Form) (a c : List ℕ) : Type 0 where
  pub sized : length c % 4 ≡ 0
  pub reach : old_size f a ≤ length c
  pub room : area_end f a ≤ length c
  pub area_bytes : Agree a c (area_at f a) (area_end f a)
  pub front : (i : ℕ) → (i < sequence_at) ⊎ ((sequence_at + 4 ≤ i) × (i < known_length)) → slice_index c i ≡ slice_index a i
  pub others : (i : ℕ) → i < old_size f a → last_covering (entries f a) i ≡ None → slice_index c i ≡ slice_index a i

-- Image b is image a with all that its entries give back, outside the undo area and the word at 44. The undo area and
-- that word stay; from the old length on the bytes outside the area may be any.
pub record Written (f : Form) (a b : List ℕ) : Type 0 where
  pub sized : length b ≡ length a
  pub inside : (i : ℕ) → i < old_size f a → (i < area_head) ⊎ (area_head + 4 ≤ i) → (i < area_at f a) ⊎ (area_end f a ≤ i)
      → slice_index b i ≡ given_back (last_covering (entries f a) i) i (slice_index a i)
  pub there : Agree a b area_head (area_head + 4)
  pub area_bytes : Agree a b (area_at f a) (area_end f a)

-- Image r, which has no undo area, stands in front of image c, but for the word at 44. What follows is an undo area
-- whose gate is shut, where there is one, and zeros.
pub record TailOf (f : Form) (r c : List ℕ) : Type 0 where
  pub longer : length r ≤ length c
  pub sized : length c % 4 ≡ 0
  pub front : (i : ℕ) → i < length r → (i < area_head) ⊎ (area_head + 4 ≤ i) → slice_index c i ≡ slice_index r i
  pub area_ok : AreaOk f c
  pub shut : Shut f c
  pub behind : (word f.order c area_head ≡ 0) ⊎ (length r ≤ word f.order c area_head)
  pub zeros : (i : ℕ) → length r ≤ i → i < length c → times (area f.order c) i ≡ 0 → slice_index c i ≡ 0

-- Image c may be left while an image is restored to image r. It opens to the map of r, with the sequence number of r.
-- It has nothing to undo any more, or can be recovered anew, since it is Mild: so the same holds of what a stop of that
-- recovery leaves.
pub record Reopens (r c : List ℕ) : Type 0 where
  pub opens : OpensTo c (own_map r)
  pub again : Shut (form_of c) c ⊎ Mild c
  pub sequence : sequence_of (restored (form_of c) c) ≡ sequence_of r

-- the file that an image is read as depends only on what its undo reads
abbrev pub SameUndoRestores : Type 0
SameUndoRestores = (f : Form) (a c : List ℕ) → Undoable f a → SameUndo f a c → Undoable f c × (restored f c ≡ restored f a)

-- an image that is undone like one that can be undone is read as the same file
abbrev pub AlikeRestores : Type 0
AlikeRestores = (f : Form) (a c : List ℕ) → Undoable f a → UndoneAlike f a c → Undoable f c × (restored f c ≡ restored f a)

-- so it opens to the map to which that one opens
abbrev pub AlikeOpens : Type 0
AlikeOpens = (a c : List ℕ) (m : List ℕ → Option (List ℕ)) → OpensTo a m → Undoable (form_of a) a → UndoneAlike (form_of a) a c → OpensTo c m

-- and it reopens, where that one does and is Mild
abbrev pub ReopensAlike : Type 0
ReopensAlike = (r a c : List ℕ) → Reopens r a → Mild a → UndoneAlike (form_of a) a c → Reopens r c

-- What a stop of a recovery leaves is recovered again: what that may leave in its turn reopens like it. So it goes on.
abbrev pub ReopensAgain : Type 0
ReopensAgain = (r c d : List ℕ) → Reopens r c → Reopens (restored (form_of c) c) d → Reopens r d

-- an image that is undone like another reopens to the restored image of that one, where it opens and is Mild
abbrev pub AlikeReopens : Type 0
AlikeReopens = (a c : List ℕ) → Opens a → Mild a → UndoneAlike (form_of a) a c → Reopens (restored (form_of a) a) c

-- an accepted image that has no undo area, with a shut one or zeros behind it, reopens
abbrev pub TailReopens : Type 0
TailReopens = (r c : List ℕ) → Accept r → word (form_of r).order r area_head ≡ 0 → TailOf (form_of r) r c → Reopens r c

-- and so does an accepted image as it is
abbrev pub ExactReopens : Type 0
ExactReopens = (r : List ℕ) → Accept r → Reopens r r

-- so does an image that stays accepted with the same map and the same sequence number
abbrev pub StaysReopens : Type 0
StaysReopens = (r c : List ℕ) → StaysAccepted (form_of r) r c → Agree r c sequence_at (sequence_at + 4) → Reopens r c
