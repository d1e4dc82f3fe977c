-- What is counted in a file that is mended.
use Rattle.std.specs.Prelude.{ℕ, ◌-◌, ◌==◌, not, Bool, List, count_by, length, slice_index}
use Rattle.std.specs.List.{range_with_len}
use Rattle.tdb_space.specs.Extents.{Extent as Held}
use Rattle.tdb_space.specs.Form.{Form, free_head}
use Rattle.tdb_space.specs.FirstFault.{free_list, Sound}
use Rattle.tdb_check.specs.Chains.{Shows}
use Rattle.tdb_check.specs.Extent.{extents_seen}
use Rattle.tdb_check.specs.Lists.{AllChainsSound, listed_extents}
use Rattle.tdb_check.specs.Stray.{is_content, is_stray_among}
use Rattle.tdb_check.specs.declared.extent.Extent.{Extent}

-- two bytes differ
abbrev pub differs : ℕ × ℕ → Bool
differs pair = not (pair.0 == pair.1)

-- how many bytes from one offset up to another are neither 0 nor padding
abbrev pub content_between : List ℕ → ℕ → ℕ → ℕ
content_between img from to = count_by (λ i. is_content (slice_index img i)) (range_with_len from (to - from))

-- how many bytes from an offset on none of these extents holds that are neither 0 nor padding
abbrev pub strays_among : List Held → ℕ → List ℕ → ℕ
strays_among es start img = count_by (is_stray_among es start img) (range_with_len 0 (length img))

-- the chains and the free list of an image are sound, and these extents of their records were put down
pub record ListsShown (f : Form) (img : List ℕ) (es : List Extent) : Type 0 where
  pub chains : AllChainsSound f img
  pub frees : Sound f free_list img free_head
  pub shows : Shows (extents_seen es) (listed_extents f img)
