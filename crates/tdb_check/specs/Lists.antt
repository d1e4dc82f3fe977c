-- What the walks along all lists of a file leave, and the first fault that they meet.
use Rattle.std.specs.Prelude.{◌≡◌, ◌⊎◌, ℕ, ◌<◌, ◌==◌, List, ◌++◌, length, count_by}
use Rattle.tdb_words.specs.declared.record.TheConstants.{DEAD}
use Rattle.tdb_space.specs.Form.{Form, chain_head, free_head}
use Rattle.tdb_space.specs.Record.{magic_of}
use Rattle.tdb_space.specs.Chain.{free_of}
use Rattle.tdb_space.specs.Pairs.{order_of}
use Rattle.tdb_space.specs.Extents.{Extent as Held, extents}
use Rattle.tdb_space.specs.FirstFault.{Fault, chain_number, free_list, Sound, FirstInList}
use Rattle.tdb_check.specs.declared.lists.Listed.{Listed}
use Rattle.tdb_check.specs.Extent.{extents_seen}
use Rattle.tdb_check.specs.Chains.{Shows, chain_extents, FirstInChains}
use Rattle.tdb_check.specs.Report.{chained}
use Rattle.tdb_check.specs.Stray.{NoOverlapAmong}

-- the extents of all records of the chains, and of those of the free list
abbrev pub listed_extents : Form → List ℕ → List Held
listed_extents f img = chain_extents f img ++ extents f.order img (free_of f img)

-- each chain is sound
abbrev pub AllChainsSound : Form → List ℕ → Type 0
AllChainsSound f img = (j : ℕ) → j < f.chains → Sound f (chain_number j) img (chain_head j)

-- Each chain and the free list are sound, the extents of their records were put down, and their records are counted;
-- the dead ones where no two of the extents share a byte.
pub record ListsFollowed (f : Form) (img : List ℕ) (l : Listed) : Type 0 where
  pub chains : AllChainsSound f img
  pub frees : Sound f free_list img free_head
  pub shows : Shows (extents_seen l.extents.items) (listed_extents f img)
  pub live : l.live ≡ length (order_of f img)
  pub dead : NoOverlapAmong (extents_seen l.extents.items) → l.dead ≡ count_by (λ x. magic_of f.order img x == DEAD) (chained f img)
  pub free : l.free ≡ length (free_of f img)

-- the first fault of the lists: the chains' first one, or else that of the free list
abbrev pub FirstInLists : Form → List ℕ → Fault → Type 0
FirstInLists f img e = FirstInChains f img e ⊎ (AllChainsSound f img × FirstInList f free_list img free_head e)
