-- The places of keys, by their marks.
use Rattle.std.specs.Prelude.{◌≡◌, ℕ, ◌+◌, ◌^◌, ◌<◌, ◌≤◌, Bool, false, ◌||◌, List, length, Option, None, Some, nat_lt, slice_range, if◌then◌else◌}
use Rattle.std.specs.Ordering.{nat_cmp}
use Rattle.std.specs.Cmp.Lexicographic.{slice_cmp}
use Rattle.std.specs.Str.{bytes_eq}
use Rattle.std.specs.BTreeMap.{BTreeMap, get}
use Rattle.std.specs.BTreeSet.{BTreeSet, contains}
use Rattle.tdb_words.specs.Hash.{h_jenkins}
use Rattle.tdb_dump.specs.declared.key_set.Place.{Place}

-- the mark of a key: Jenkins' hash, and 0 for a key of 2^32 bytes or more
unfoldable pub mark_of : List ℕ → ℕ
mark_of key = if nat_lt (length key) (2 ^ 32) then h_jenkins key else 0

-- the bytes at a place
abbrev pub bytes_at : List ℕ → Place → List ℕ
bytes_at bytes p = slice_range bytes p.start p.end

-- whether the place that a mark has, if it has one, is that of the key
abbrev pub is_there : List ℕ → List ℕ → Option Place → Bool
is_there bytes key None = false
is_there bytes key (Some p) = bytes_eq key (bytes_at bytes p)

-- whether a key is at its mark's place or among the others
abbrev pub has_in : BTreeMap ℕ Place → List ℕ → BTreeSet (List ℕ) → List ℕ → Bool
has_in first bytes others key = is_there bytes key (get nat_cmp first (mark_of key)) || contains (slice_cmp nat_cmp) others key

-- each place is one of the bytes
abbrev pub AllWithin : BTreeMap ℕ Place → List ℕ → Type 0
AllWithin first bytes = (mark : ℕ) (p : Place) → get nat_cmp first mark ≡ Some p → (p.start ≤ p.end) × (p.end ≤ length bytes)

-- no key that could have a place of its own is among the others
abbrev pub NoneBeside : BTreeMap ℕ Place → List ℕ → BTreeSet (List ℕ) → Type 0
NoneBeside first bytes others = (key : List ℕ) → get nat_cmp first (mark_of key) ≡ None → length bytes + length key < 2 ^ 32 → contains (slice_cmp nat_cmp) others key ≡ false
