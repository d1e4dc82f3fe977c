-- What the walk along all chains leaves, and the first fault that it meets.
use Rattle.std.specs.Prelude.{◌≡◌, ◌≢◌, ◌⊎◌, ℕ, ◌<◌, ◌≤◌, List, ◌++◌, length}
use Rattle.tdb_space.specs.Form.{Form, chain_head}
use Rattle.tdb_space.specs.Chain.{chain_of}
use Rattle.tdb_space.specs.Pairs.{joined, pairs, order_of}
use Rattle.tdb_space.specs.Extents.{Extent as Held, times, extents}
use Rattle.tdb_space.specs.FirstFault.{Fault, chain_number, Sound, FirstInList}
use Rattle.tdb_check.specs.declared.extent.Extent.{Extent}
use Rattle.tdb_check.specs.Extent.{extents_seen}

-- Extents that were put down show which bytes are held. They are the extents that hold them, each as often as it stands
-- in a list; only of a part that two lists share it may be that not each was put down again. Then a byte, no further on
-- than each that is held more often, is held twice among those put down.
pub record Shows (seen held : List Held) : Type 0 where
  pub no_more : (i : ℕ) → times seen i ≤ times held i
  pub twice : (i : ℕ) → times seen i ≢ times held i → (k : ℕ) × (k ≤ i) × (2 ≤ times seen k)
  pub whole : (seen ≡ held) ⊎ ((k : ℕ) × (2 ≤ times seen k))

-- the extents of all records of all chains, chain 0 first, each along its chain
abbrev pub chain_extents : Form → List ℕ → List Held
chain_extents f img = joined f.chains (λ j. extents f.order img (chain_of f img j))

-- each chain is sound, the extents of their records were put behind those before, and so many of the records are used
pub record ChainsFollowed (f : Form) (img : List ℕ) (old new : List Extent) (live : ℕ) : Type 0 where
  pub sound : (j : ℕ) → j < f.chains → Sound f (chain_number j) img (chain_head j)
  pub shows : Shows (extents_seen new) (extents_seen old ++ chain_extents f img)
  pub used : live ≡ length (order_of f img)

-- the first n chains are sound, the extents of their records were put behind those before, and so many of the records
-- are used
pub record ChainsTo (f : Form) (img : List ℕ) (n : ℕ) (old new : List Extent) (live : ℕ) : Type 0 where
  pub sound : (j : ℕ) → j < n → Sound f (chain_number j) img (chain_head j)
  pub shows : Shows (extents_seen new) (extents_seen old ++ joined n (λ j. extents f.order img (chain_of f img j)))
  pub used : live ≡ length (joined n (λ j. pairs f.order img (chain_of f img j)))

-- the first fault of the chains: all chains before its own are sound
abbrev pub FirstInChains : Form → List ℕ → Fault → Type 0
FirstInChains f img e =
    (j : ℕ) × (j < f.chains) × ((i : ℕ) → i < j → Sound f (chain_number i) img (chain_head i)) × FirstInList f (chain_number j) img (chain_head j) e
