-- Which bytes change, by what was read of the file and the bytes of a page.
use Rattle.std.proofs.Common.{◌≡◌, ◌∙◌, ℕ, ◌+◌, ◌<◌, ◌≤◌, List, slice_index, sym, ap, arith}
use Rattle.tdb_space.specs.Extents.{Extent}
use Rattle.tdb_space.specs.Runs.{Changed}
use Rattle.tdb_txn.specs.Found.{Counts, StandsAt}

-- a byte that counts and is another one changes
pub changed_here : (file page a b : List ℕ) (old : ℕ) (skip : Extent) (first k at count : ℕ) → at ≡ first + k → k < count → first + count ≤ old
    → StandsAt file count first a → StandsAt page count first b → Counts skip at → (slice_index page k ≡ slice_index file k → ⊥) → Changed a b old skip at
changed_here file page a b old skip first k at count is low inside was now counts differs = record {
  low = omega (arith, is, low, inside);
  beside = counts.beside;
  outside = counts.outside;
  differs = λ same. differs (now k low ∙ ap (slice_index b) (sym is) ∙ same ∙ ap (slice_index a) is ∙ sym (was k low));
}

-- one that doesn't count doesn't change
pub not_counted : (a b : List ℕ) (old : ℕ) (skip : Extent) (i : ℕ) → (Counts skip i → ⊥) → Changed a b old skip i → ⊥
not_counted a b old skip i never here = never (record { beside = here.beside; outside = here.outside })

-- nor does one that is the same
pub not_differing : (file page a b : List ℕ) (old : ℕ) (skip : Extent) (first k i count : ℕ) → i ≡ first + k → k < count
    → StandsAt file count first a → StandsAt page count first b → slice_index page k ≡ slice_index file k → Changed a b old skip i → ⊥
not_differing file page a b old skip first k i count is low was now same here =
    here.differs (ap (slice_index b) is ∙ sym (now k low) ∙ same ∙ was k low ∙ ap (slice_index a) (sym is))
