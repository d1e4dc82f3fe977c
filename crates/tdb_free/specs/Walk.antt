-- What a walk along the free list tells of the records that it seeks, each by its offset.
use Rattle.std.specs.Prelude.{◌≡◌, ℕ, ◌+◌, ◌%◌, ◌≤◌, ◌==◌, List, Option, None, Some, ⊤, if◌then◌else◌}
use Rattle.std.specs.List.{find}
use Rattle.tdb_space.specs.Form.{Form, free_head}
use Rattle.tdb_space.specs.Chain.{Leads}
use Rattle.tdb_space.specs.Extents.{HandPair}
use Rattle.tdb_free.specs.FreeList.{free_pairs, starts_at, ends_at, end_of}
use Rattle.tdb_free.specs.Look.{LooksFree, EndsFree}
use Rattle.tdb_free.specs.Search.{IsSpot, count_before}
use Rattle.tdb_free.specs.declared.search.Spot.{Spot}
use Rattle.tdb_free.specs.declared.walk.Link.{Link}

-- the link to a record that is sought, once the walk has come to another link: what was known, or this one if it leads
-- there
abbrev pub known_at : Option ℕ → Option Link → Link → Option Link
known_at sought (Some k) here = Some k
known_at None None here = None
known_at (Some off) None here = if off == here.at then Some here else None

-- the link that led to a record that was found
abbrev pub link_of : Spot → Link
link_of p = record { before = p.before; at = p.off }

-- the link of the list that leads to the record that is sought; none, where it isn't in the list or none is sought
abbrev pub IsLed : Form → List ℕ → List ℕ → Option ℕ → Option Link → Type 0
IsLed f img offs None known = known ≡ None
IsLed f img offs (Some off) None = find (starts_at off) (free_pairs f img offs) ≡ None
IsLed f img offs (Some off) (Some k) = (k.at ≡ off) × Leads free_head offs k.before k.at

-- the record of the list that is sought; none, where it isn't in the list or none is sought
abbrev pub IsFound : Form → List ℕ → List ℕ → Option ℕ → Option Spot → Type 0
IsFound f img offs None found = found ≡ None
IsFound f img offs (Some off) found = IsSpot f img offs (starts_at off) found

-- a link that leads to what is sought, by an aligned word that ends within the length
pub record LinkWithin (len : ℕ) (sought : Option ℕ) (k : Link) : Type 0 where
  pub aligned : k.before % 4 ≡ 0
  pub led : k.before + 4 ≤ len
  pub leads_there : sought ≡ Some k.at

-- where a record is sought, no more than so many stand in the list in front of it
abbrev pub IsUpTo : Form → List ℕ → List ℕ → Option ℕ → ℕ → Type 0
IsUpTo f img offs None most = ⊤
IsUpTo f img offs (Some off) most = count_before (starts_at off) (free_pairs f img offs) ≤ most

-- no more than so many records stand in the list in front of those beside a hand that look free
pub record FreeBesideUpTo (f : Form) (img offs : List ℕ) (hand : HandPair) (most : ℕ) : Type 0 where
  pub next : LooksFree f.order img (end_of hand) → count_before (starts_at (end_of hand)) (free_pairs f img offs) ≤ most
  pub previous : EndsFree f.order img hand.0 → count_before (ends_at hand.0) (free_pairs f img offs) ≤ most
