-- What a reader has taken of a dump text.
use Rattle.std.specs.Prelude.{◌≡◌, ℕ, false, ◌+◌, ◌-◌, ◌^◌, min, List, [], ◌∷◌, ◌++◌, length, Option, None, Some}
use Rattle.tdb_dump.specs.declared.pairs.Pair.{Pair}
use Rattle.tdb_dump.specs.declared.key_set.KeySet.{KeySet}
use Rattle.tdb_dump.specs.declared.reader.Reader.{Reader}
use Rattle.tdb_dump.specs.declared.reader.ReadRefusal.{ReadRefusal}
use Rattle.tdb_dump.specs.declared.reader.ReadRefusal.TheVariants.{Malformed, Memory}
use Rattle.tdb_dump.specs.declared.partial.Field.TheVariants.{Key}
use Rattle.tdb_dump.specs.declared.partial.Step.TheVariants.{Between}
use Rattle.tdb_dump.specs.KeySet.{has}
use Rattle.tdb_dump.specs.Spelled.{has_key}
use Rattle.tdb_dump.specs.BadAt.{BeginsWith}
use Rattle.tdb_dump.specs.Expected.{at_step}
use Rattle.tdb_dump.specs.Partial.{state_of}
use Rattle.tdb_dump.specs.Reading.{Going, Refused, EndsBadly}

-- a place as a number of 64 bits shows it
abbrev pub shown : ℕ → ℕ
shown place = min place (2 ^ 64 - 1)

-- the refusal that stands, if one does
abbrev pub refusal_of : Reader → Option ReadRefusal
refusal_of r = r.refusal

-- the set has the keys of the pairs
abbrev pub HasKeysOf : KeySet → List Pair → Type 0
HasKeysOf keys pairs = (q : List ℕ) → has keys q ≡ has_key pairs q

-- the reader has taken the text, and given the pairs of its whole records
pub record Goes (text : List ℕ) (pairs : List Pair) (r : Reader) : Type 0 where
  pub going : Going text pairs (state_of r.partial)
  pub keys : HasKeysOf r.keys pairs
  pub start : r.start ≡ shown (length going.front)
  pub taken : r.taken ≡ shown (length text)

-- a record ended: its pair has a key that no pair before has
pub record AddsRecord (old new : Reader) (pair : Pair) : Type 0 where
  pub pair_is : pair ≡ record { key = (state_of old.partial).key; value = (state_of old.partial).value }
  pub keys : (before : List Pair) → HasKeysOf old.keys before → (has_key before pair.key ≡ false) × HasKeysOf new.keys (before ++ pair ∷ [])
  pub state : state_of new.partial ≡ at_step Between Key [] []
  pub taken : new.taken ≡ shown (old.taken + 1)
  pub start : new.start ≡ new.taken

-- the text stops to be dump text at the place that is shown so, however it goes on
abbrev pub RefusedAt : List ℕ → List Pair → ℕ → Type 0
RefusedAt text pairs at = (place : ℕ) × (at ≡ shown place) × Refused text pairs place

-- the text ends as no dump text does, and stops to be one at the place that is shown so
abbrev pub EndsBadlyAt : List ℕ → List Pair → ℕ → Type 0
EndsBadlyAt text pairs at = (place : ℕ) × (at ≡ shown place) × EndsBadly text pairs place

-- whatever the reader had taken and given, it still has
abbrev pub StillGoes : Reader → Reader → Type 0
StillGoes old new = (text : List ℕ) (pairs : List Pair) → Goes text pairs old → Goes text pairs new

-- the reader has taken a front of the text, given the pairs of all records that are whole in it, and taken nothing
-- behind
abbrev pub GoesNoFurther : List ℕ → List Pair → Reader → Type 0
GoesNoFurther text pairs r = (front : List ℕ) × (rest : List ℕ) × (text ≡ front ++ rest) × Goes front pairs r

-- The reader has taken the text in some pieces, and given these pairs, of whole records that the text begins with: as
-- long as it refused nothing, of all of them; where it refused the text, of those before the place that it names; where
-- memory was wanting, of those before the place at which it was.
pub record Took (text : List ℕ) (pairs : List Pair) (r : Reader) : Type 0 where
  pub begins : BeginsWith text pairs
  pub goes : refusal_of r ≡ None → Goes text pairs r
  pub refused : (at : ℕ) → refusal_of r ≡ Some (Malformed at) → RefusedAt text pairs at
  pub wanting : refusal_of r ≡ Some Memory → GoesNoFurther text pairs r
