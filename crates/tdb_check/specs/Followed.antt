-- What a walk along a list leaves.
use Rattle.std.specs.Prelude.{◌≡◌, ℕ, List, [], ◌++◌, length}
use Rattle.tdb_words.specs.Word.{word}
use Rattle.tdb_space.specs.Form.{Form, chain_head}
use Rattle.tdb_space.specs.Chain.{chain_of}
use Rattle.tdb_space.specs.Pairs.{pairs}
use Rattle.tdb_space.specs.Extents.{Extent as Held, extents}
use Rattle.tdb_space.specs.FirstFault.{ListKind, chain_number, Passed, Sound}
use Rattle.tdb_check.specs.declared.extent.Extent.{Extent}
use Rattle.tdb_check.specs.Extent.{extents_seen}
use Rattle.tdb_check.specs.Chains.{Shows}

-- the list from a head is sound, and the extents of its records were put behind those before
abbrev pub FollowedTo : Form → ListKind → List ℕ → ℕ → List Extent → List Extent → Type 0
FollowedTo f kind img head old new =
    (xs : List ℕ) × (last : ℕ) × Passed f kind img [] head xs last × (word f.order img last ≡ 0) × (extents_seen new ≡ extents_seen old ++ extents f.order img xs)

-- Chain j is sound, and so many of its records are used. Where the extents that were there show which bytes some others
-- hold, the new ones show which bytes those and the chain's records hold.
pub record ChainFollowed (f : Form) (j : ℕ) (img : List ℕ) (old new : List Extent) (live : ℕ) : Type 0 where
  pub sound : Sound f (chain_number j) img (chain_head j)
  pub shows : (held : List Held) → Shows (extents_seen old) held → Shows (extents_seen new) (held ++ extents f.order img (chain_of f img j))
  pub used : live ≡ length (pairs f.order img (chain_of f img j))
