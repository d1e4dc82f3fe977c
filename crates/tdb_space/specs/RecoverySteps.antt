-- The steps of a recovery, as images: what each may leave, byte by byte, and how each goes on from the one before it.
use Rattle.std.specs.Prelude.{◌≡◌, ℕ, ◌+◌, ◌%◌, ◌<◌, ◌≤◌, ◌⊎◌, Bool, false, None, List, length, take, slice_index}
use Rattle.tdb_disk.specs.Image.{overlay}
use Rattle.tdb_words.specs.Word.{word, bytes_of_word}
use Rattle.tdb_words.specs.Header.{area_head, known_length, sequence_at}
use Rattle.tdb_space.specs.Form.{Form, data_start}
use Rattle.tdb_space.specs.Record.{rec_len_of}
use Rattle.tdb_space.specs.Opening.{Undoable, entries, last_covering, restored}
use Rattle.tdb_space.specs.Undoing.{area_at, area_end, old_size, UndoneAlike, Written, TailOf}

-- These places of image a may be written while it is restored, in any order, with any bytes: no place by which the
-- header is known, none of the word at 44 and of the undo area, and below the old length only places that an entry
-- covers.
pub record IsHarmless (f : Form) (a : List ℕ) (places : ℕ → Bool) : Type 0 where
  pub front : (i : ℕ) → (i < sequence_at) ⊎ ((sequence_at + 4 ≤ i) × (i < known_length)) → places i ≡ false
  pub area_bytes : (i : ℕ) → area_at f a ≤ i → i < area_end f a → places i ≡ false
  pub others : (i : ℕ) → i < old_size f a → last_covering (entries f a) i ≡ None → places i ≡ false

-- the bytes of image b from the old length of image a on are 0, outside the undo area
abbrev pub BlankPast : Form → List ℕ → List ℕ → Type 0
BlankPast f a b = (i : ℕ) → old_size f a ≤ i → i < length b → (i < area_at f a) ⊎ (area_end f a ≤ i) → slice_index b i ≡ 0

-- an undo area from x up to e, in whole words, stands behind image r, which reaches the data
pub record Behind (f : Form) (r : List ℕ) (x e : ℕ) : Type 0 where
  pub aligned : x % 4 ≡ 0
  pub end_aligned : e % 4 ≡ 0
  pub long : data_start f ≤ length r
  pub past : length r ≤ x
  pub room : x + 24 ≤ e

-- The undo area from x up to e stands behind image r, and its gate is shut. Its content and the other words of its
-- header may be any; between r and the area and behind the area there are zeros.
pub record TailAt (f : Form) (r : List ℕ) (x e : ℕ) (c : List ℕ) : Type 0 where
  pub sized : length c % 4 ≡ 0
  pub reach : e ≤ length c
  pub front : (i : ℕ) → i < length r → (i < area_head) ⊎ (area_head + 4 ≤ i) → slice_index c i ≡ slice_index r i
  pub there : word f.order c area_head ≡ x
  pub gate : (i : ℕ) → x + 20 ≤ i → i < x + 24 → slice_index c i ≡ 0
  pub zeros : (i : ℕ) → length r ≤ i → i < length c → (i < x) ⊎ (e ≤ i) → slice_index c i ≡ 0
  pub len : rec_len_of f.order c x + (x + 24) ≡ e

-- The content of that undo area is zeros too, and its length is the old one or 0. The words of its header may be any,
-- but for the gate.
pub record Emptied (f : Form) (r : List ℕ) (x e : ℕ) (c : List ℕ) : Type 0 where
  pub sized : length c % 4 ≡ 0
  pub reach : e ≤ length c
  pub front : (i : ℕ) → i < length r → (i < area_head) ⊎ (area_head + 4 ≤ i) → slice_index c i ≡ slice_index r i
  pub there : word f.order c area_head ≡ x
  pub gate : (i : ℕ) → x + 20 ≤ i → i < x + 24 → slice_index c i ≡ 0
  pub zeros : (i : ℕ) → length r ≤ i → i < length c → (i < x) ⊎ (x + 24 ≤ i) → slice_index c i ≡ 0
  pub len : (rec_len_of f.order c x + (x + 24) ≡ e) ⊎ (rec_len_of f.order c x ≡ 0)

-- there is no undo area any more, and only zeros stand behind image r
pub record ZerosBehind (r c : List ℕ) : Type 0 where
  pub sized : length c % 4 ≡ 0
  pub longer : length r ≤ length c
  pub front : (i : ℕ) → i < length r → (i < area_head) ⊎ (area_head + 4 ≤ i) → slice_index c i ≡ slice_index r i
  pub head : (i : ℕ) → area_head ≤ i → i < area_head + 4 → slice_index c i ≡ 0
  pub zeros : (i : ℕ) → length r ≤ i → i < length c → slice_index c i ≡ 0

-- each of the three is an image with that one in front and an undo area that is shut, or zeros, behind it
pub record StepsAreTails (f : Form) (r : List ℕ) (x e : ℕ) (c : List ℕ) : Type 0 where
  pub shut : Behind f r x e → TailAt f r x e c → TailOf f r c
  pub emptied : Behind f r x e → Emptied f r x e c → TailOf f r c
  pub blank : data_start f ≤ length r → ZerosBehind r c → TailOf f r c

-- whichever image and area
abbrev pub EachStepIsTail : Type 0
EachStepIsTail = (f : Form) (r : List ℕ) (x e : ℕ) (c : List ℕ) → StepsAreTails f r x e c

-- How each step behind the restored image r goes on from the one before it, with any bytes that a stop may leave of it:
-- the content is written; all of it is 0; a word of the header is set to 0, but for the gate; once they all are, so is
-- the word at 44; the zeros are cut, some or all of them.
pub record EmptyingSteps (f : Form) (r : List ℕ) (x e : ℕ) : Type 0 where
  pub torn : (c d : List ℕ) → TailAt f r x e c → length d ≡ length c → ((i : ℕ) → (i < x + 24) ⊎ (e ≤ i) → slice_index d i ≡ slice_index c i) → TailAt f r x e d
  pub emptied : (c : List ℕ) → TailAt f r x e c → ((i : ℕ) → x + 24 ≤ i → i < e → slice_index c i ≡ 0) → Emptied f r x e c
  pub header : (c : List ℕ) (k : ℕ) → Emptied f r x e c → k % 4 ≡ 0 → k < 20 → Emptied f r x e (overlay c (x + k) (bytes_of_word f.order 0))
  pub dropped : (c d : List ℕ) → Emptied f r x e c → ((i : ℕ) → x ≤ i → i < x + 24 → slice_index c i ≡ 0) → length d ≡ length c
      → ((i : ℕ) → (i < area_head) ⊎ (area_head + 4 ≤ i) → slice_index d i ≡ slice_index c i) → ((i : ℕ) → area_head ≤ i → i < area_head + 4 → slice_index d i ≡ 0) → ZerosBehind r d
  pub cut : (c d : List ℕ) → ZerosBehind r c → d ≡ take (length d) c → length r ≤ length d → length d % 4 ≡ 0 → ZerosBehind r d
  pub done : (c : List ℕ) → ZerosBehind r c → ((i : ℕ) → area_head ≤ i → i < area_head + 4 → slice_index r i ≡ 0) → length c ≡ length r → c ≡ r

-- whichever image and area
abbrev pub EachStepGoesOn : Type 0
EachStepGoesOn = (f : Form) (r : List ℕ) (x e : ℕ) → Behind f r x e → EmptyingSteps f r x e

-- What the first steps leave is undone alike: at first the image itself; with any bytes at harmless places; and cut, as
-- far as to the old length, where the undo area stands below it.
pub record StaysAlike (f : Form) (a : List ℕ) : Type 0 where
  pub itself : length a % 4 ≡ 0 → UndoneAlike f a a
  pub torn : (c d : List ℕ) (places : ℕ → Bool) → IsHarmless f a places → UndoneAlike f a c → length d ≡ length c
      → ((i : ℕ) → places i ≡ false → slice_index d i ≡ slice_index c i) → UndoneAlike f a d
  pub cut : (c d : List ℕ) → area_at f a < old_size f a → UndoneAlike f a c → d ≡ take (length d) c → length d % 4 ≡ 0 → old_size f a ≤ length d → UndoneAlike f a d

-- whichever image can be undone
abbrev pub FirstStepsAreAlike : Type 0
FirstStepsAreAlike = (f : Form) (a : List ℕ) → Undoable f a → StaysAlike f a

-- Where all is written and the undo area stands below the old length, the image that is cut there and whose gate is
-- then shut is the restored one, byte for byte.
abbrev pub LowIsExact : Type 0
LowIsExact = (f : Form) (a b c : List ℕ) → Undoable f a → area_at f a < old_size f a → Written f a b → length c ≡ old_size f a
    → ((i : ℕ) → i < old_size f a → (i < area_at f a + 20) ⊎ (area_at f a + 24 ≤ i) → slice_index c i ≡ slice_index b i)
    → ((i : ℕ) → area_at f a + 20 ≤ i → i < area_at f a + 24 → slice_index c i ≡ 0) → c ≡ restored f a

-- Where all is written and the undo area stands at the old length or behind it, the image whose gate is then shut has
-- the restored one in front, and the area behind it.
abbrev pub HighIsTail : Type 0
HighIsTail = (f : Form) (a b c : List ℕ) → Undoable f a → old_size f a ≤ area_at f a → length a % 4 ≡ 0 → Written f a b → BlankPast f a b → length c ≡ length b
    → ((i : ℕ) → (i < area_at f a + 20) ⊎ (area_at f a + 24 ≤ i) → slice_index c i ≡ slice_index b i)
    → ((i : ℕ) → area_at f a + 20 ≤ i → i < area_at f a + 24 → slice_index c i ≡ 0)
    → Behind f (restored f a) (area_at f a) (area_end f a) × TailAt f (restored f a) (area_at f a) (area_end f a) c
