-- What mending has to do with opening and with accepted images.
use Rattle.std.specs.Prelude.{◌≡◌, ◌⊎◌, ℕ, List}
use Rattle.tdb_space.specs.Form.{form_of}
use Rattle.tdb_space.specs.Pairs.{order_of}
use Rattle.tdb_space.specs.Accepted.{Accept}
use Rattle.tdb_space.specs.FirstFault.{Fault}
use Rattle.tdb_space.specs.Opening.{restored, Opens}
use Rattle.tdb_rewrite.specs.Readable.{Readable}
use Rattle.tdb_mend.specs.Mutexes.{database_in}
use Rattle.tdb_mend.specs.Mended.{mended, without_strays, bytes_mended, IsSoundButStrays, CanBeMended, IsMendFault}

-- a file that opens is read as opening it reads it, byte for byte
abbrev pub OpensAndMendsAlike : Type 0
OpensAndMendsAlike = (img : List ℕ) → Opens img → CanBeMended img × (mended img ≡ restored (form_of img) img)

-- and its database stands at its front
abbrev pub OpensAtFront : Type 0
OpensAtFront = (img : List ℕ) → Opens img → database_in img ≡ img

-- in an accepted file no byte is changed to read it
abbrev pub AcceptedIsAsItIs : Type 0
AcceptedIsAsItIs = (img : List ℕ) → Accept img → (mended img ≡ img) × (bytes_mended img ≡ 0)

-- Stray bytes count for nothing: an image that has no other fault is accepted without them, with the same header and
-- the same pairs in the same order, and its pairs can be read with them
abbrev pub StraysCountForNothing : Type 0
StraysCountForNothing = (img : List ℕ) → IsSoundButStrays img
    → Accept (without_strays img) × (form_of (without_strays img) ≡ form_of img)
    × (order_of (form_of img) (without_strays img) ≡ order_of (form_of img) img) × Readable (form_of img) img

-- an image can be mended, or a fault keeps it from that
abbrev pub MendsOrFault : Type 0
MendsOrFault = (img : List ℕ) → CanBeMended img ⊎ ((e : Fault) × IsMendFault img e)

-- never both, and there is one such fault
abbrev pub OneMendFault : Type 0
OneMendFault = (img : List ℕ) (a b : Fault) → IsMendFault img a → (IsMendFault img b → a ≡ b) × (CanBeMended img → ⊥)
