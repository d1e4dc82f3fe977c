-- What a search of the free list finds.
use Rattle.std.specs.Prelude.{◌≡◌, ℕ, ◌+◌, ◌%◌, ◌≤◌, ◌==◌, Bool, List, [], ◌∷◌, Option, None, Some, IfSome, if◌then◌else◌}
use Rattle.std.specs.List.{find}
use Rattle.tdb_space.specs.Form.{Form, free_head}
use Rattle.tdb_space.specs.Record.{next_of, rec_len_of}
use Rattle.tdb_space.specs.Chain.{Leads}
use Rattle.tdb_space.specs.Extents.{HandPair}
use Rattle.tdb_free.specs.FreeList.{free_pairs, starts_at, ends_at, end_of}
use Rattle.tdb_space.specs.Standing.{Stands}
use Rattle.tdb_free.specs.declared.search.Spot.{Spot}
use Rattle.tdb_free.specs.declared.neighbours.Neighbours.{Neighbours}

-- A record of the free list with these records is the first that passes a test: the word before it leads to it, and
-- what stands of its header is the image's
pub record IsFirst (f : Form) (img offs : List ℕ) (test : HandPair → Bool) (p : Spot) : Type 0 where
  pub leads : Leads free_head offs p.before p.off
  pub next : p.next ≡ next_of f.order img p.off
  pub rec_len : p.rec_len ≡ rec_len_of f.order img p.off
  pub first : find test (free_pairs f img offs) ≡ Some (p.off, p.rec_len)

-- the first record of the list that passes a test was found, or there is none
abbrev pub IsSpot : Form → List ℕ → List ℕ → (HandPair → Bool) → Option Spot → Type 0
IsSpot f img offs test None = find test (free_pairs f img offs) ≡ None
IsSpot f img offs test (Some p) = IsFirst f img offs test p

-- how many of these records stand in front of the first that passes a test, or of the end where none does
abbrev pub count_before : (HandPair → Bool) → List HandPair → ℕ
count_before test [] = 0
count_before test (p ∷ ps) = if test p then 0 else 1 + count_before test ps

-- the record can stand where it was found, and the word that leads to it is aligned and ends within the length
pub record SpotWithin (p : Spot) (f : Form) (len : ℕ) : Type 0 where
  pub aligned : p.before % 4 ≡ 0
  pub led : p.before + 4 ≤ len
  pub stands : Stands f len p.off p.rec_len

-- the offset and the rec_len of a record that was found
abbrev pub spot_pair : Spot → HandPair
spot_pair p = (p.off, p.rec_len)

-- A record as it stands in the list once another has left it: where the other led to it, the word that led to the other
-- does, and where it led to the other, it leads on to what came behind that.
abbrev pub once_left : Spot → Spot → Spot
once_left p other = record {
  off = p.off;
  before = if p.before == other.off then other.before else p.before;
  next = if other.before == p.off then other.next else p.next;
  rec_len = p.rec_len;
}

-- a record, if one was found and it ends at a place
abbrev pub that_ends : Option Spot → ℕ → Option Spot
that_ends None at = None
that_ends (Some p) at = if ends_at at (spot_pair p) then Some p else None

-- the record before a hand, once the one behind it has left the list, where these were found
abbrev pub previous_then : Option Spot → Option Spot → Option Spot
previous_then None previous = previous
previous_then (Some next) None = None
previous_then (Some next) (Some previous) = Some (once_left previous next)

-- the records beside a hand were found: the first that starts where it ends, and the first that ends where it starts
pub record Beside (f : Form) (img offs : List ℕ) (hand : HandPair) (found : Neighbours) : Type 0 where
  pub next : IsSpot f img offs (starts_at (end_of hand)) found.next
  pub previous : IsSpot f img offs (ends_at hand.0) found.previous

-- each of them can stand where it was found, beside the hand
pub record BesideWithin (f : Form) (len : ℕ) (hand : HandPair) (found : Neighbours) : Type 0 where
  pub next : IfSome found.next (λ p. SpotWithin p f len)
  pub previous : IfSome found.previous (λ p. SpotWithin p f len)
  pub starts : IfSome found.next (λ p. p.off ≡ end_of hand)
  pub ends : IfSome found.previous (λ p. p.off + 24 + p.rec_len ≡ hand.0)
