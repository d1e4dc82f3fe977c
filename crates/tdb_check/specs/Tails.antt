-- The dead records at the ends of chains: what is kept of them, and what a walk leaves there.
use Rattle.std.specs.Prelude.{◌≡◌, ◌≢◌, ℕ, ◌≤◌, List, [], ◌∷◌, Option, Some, None, IsSome, nat_lt, if◌then◌else◌}
use Rattle.std.specs.Ordering.{nat_cmp}
use Rattle.std.specs.BTreeMap.{get}
use Rattle.tdb_words.specs.declared.record.TheConstants.{USED}
use Rattle.tdb_space.specs.Form.{Form}
use Rattle.tdb_space.specs.Record.{Whole, IsChained, magic_of, next_of}
use Rattle.tdb_space.specs.Chain.{Member, Linked}
use Rattle.tdb_space.specs.Extents.{Extent as Held, times, extents, extent_at}
use Rattle.tdb_check.specs.declared.extent.Extent.{Extent}
use Rattle.tdb_check.specs.declared.tails.Tails.{Tails}
use Rattle.tdb_check.specs.Extent.{extent_seen, extents_seen}

-- what is kept of the record at an offset
abbrev pub least_from : Tails → ℕ → Option Extent
least_from t at = get nat_cmp t.least at

-- each of these records is kept
abbrev pub AllKept : Tails → List Extent → Type 0
AllKept t [] = Unit {0}
AllKept t (e ∷ es) = IsSome (least_from t e.off) × AllKept t es

-- the one of two extents with the lower offset
abbrev pub lower_of : Extent → Option Extent → Extent
lower_of e None = e
lower_of e (Some o) = if nat_lt o.off e.off then o else e

-- a record is whole and dead
pub record Dead (f : Form) (img : List ℕ) (at : ℕ) : Type 0 where
  pub whole : Whole f img at
  pub chained : IsChained (magic_of f.order img at)
  pub unused : magic_of f.order img at ≢ USED

-- From an offset dead records follow one another to the end of a chain. This extent is that of the least of their
-- offsets, and was put down.
pub record KnownTail (f : Form) (img : List ℕ) (seen : List Held) (at : ℕ) (least : Extent) : Type 0 where
  pub xs : List ℕ
  pub linked : Linked f IsChained img at xs
  pub unused : (z : ℕ) → Member z xs → magic_of f.order img z ≢ USED
  pub member : Member least.off xs
  pub extent : extent_seen least ≡ extent_at f.order img least.off
  pub low : (z : ℕ) → Member z xs → least.off ≤ z
  pub held : 1 ≤ times seen least.off

-- each record that is kept is the first of a known tail
abbrev pub TailsOf : Form → List ℕ → List Held → Tails → Type 0
TailsOf f img seen t = (at : ℕ) (least : Extent) → least_from t at ≡ Some least → KnownTail f img seen at least

-- at an offset a chain ends, or a known tail begins
abbrev pub EndsAt : Form → List ℕ → List Held → ℕ → Option Extent → Type 0
EndsAt f img seen at None = at ≡ 0
EndsAt f img seen at (Some least) = KnownTail f img seen at least

-- the first of some offsets, or else another one
abbrev pub first_or : ℕ → List ℕ → ℕ
first_or at [] = at
first_or at (x ∷ xs) = x

-- dead records follow one another, and the last leads to an offset
abbrev pub LeadsTo : Form → List ℕ → List ℕ → ℕ → Type 0
LeadsTo f img [] at = Unit {0}
LeadsTo f img (x ∷ xs) at = Dead f img x × (next_of f.order img x ≡ first_or at xs) × LeadsTo f img xs at

-- Dead records lead to the end of a chain or to a known tail. These are their extents, which were put down.
pub record Closing (f : Form) (img : List ℕ) (seen : List Held) (t : Tails) (dead : List Extent) (rest : Option Extent) : Type 0 where
  pub xs : List ℕ
  pub end : ℕ
  pub leads : LeadsTo f img xs end
  pub shown : extents_seen dead ≡ extents f.order img xs
  pub ends : EndsAt f img seen end rest
  pub held : (z : ℕ) → Member z xs → 1 ≤ times seen z
  pub tails : TailsOf f img seen t
