-- The history of a disk: the bytes that it began with and the calls since that changed it.
use Rattle.std.specs.Prelude.{◌≡◌, ℕ, ◌+◌, List, ◌⊎◌, length, take}
use Rattle.tdb_disk.specs.Image.{overlay, padded}

-- what a call did: wrote a range, wrote an aligned word, changed the length, or made all of it last
pub data Event : Type 0 where
  wrote : ℕ → List ℕ → Event
  wrote_word : ℕ → List ℕ → Event
  grew : ℕ → Event
  cut : ℕ → Event
  synced : Event

-- the bytes at first, all of them on the medium, and what was done since, the last call outermost
pub data History : Type 0 where
  began : List ℕ → History
  called : History → Event → History

-- an image after one call
abbrev pub applied : Event → List ℕ → List ℕ
applied (wrote at bytes) image = overlay image at bytes
applied (wrote_word at bytes) image = overlay image at bytes
applied (grew to) image = padded image to
applied (cut to) image = take to image
applied synced image = image

-- what a read gives
abbrev pub seen : History → List ℕ
seen (began bytes) = bytes
seen (called h event) = applied event (seen h)

-- how many calls there were
abbrev pub clock : History → ℕ
clock (began bytes) = 0
clock (called h event) = clock h + 1

-- a call that did this or, where it failed, maybe nothing
abbrev pub Tried : Event → History → History → Type 0
Tried event old new = (new ≡ old) ⊎ (new ≡ called old event)

-- a write into a range that, where it failed, maybe did nothing or left other bytes in the range
abbrev pub TriedOver : ℕ → ℕ → History → History → Type 0
TriedOver at n old new =
    (new ≡ old) ⊎ ((bytes : List ℕ) × (length bytes ≡ n) × (new ≡ called old (wrote at bytes)))

-- one history goes on from another
abbrev pub Extends : History → History → Type 0
Extends old (began bytes) = old ≡ began bytes
Extends old (called h event) = (old ≡ called h event) ⊎ Extends old h
