-- The undo area of a transaction's image is given up, so that another one can be placed.
use Rattle.std.specs.Prelude.{◌≡◌, ℕ, ◌+◌, ◌-◌, ◌<◌, ◌≤◌, ◌⊎◌, List, [], length, slice_index}
use Rattle.tdb_words.specs.Word.{word}
use Rattle.tdb_words.specs.Header.{area_head}
use Rattle.tdb_space.specs.Accepted.{AcceptWith}
use Rattle.tdb_space.specs.Chain.{free_of}
use Rattle.tdb_space.specs.Extents.{Extent, once}
use Rattle.tdb_space.specs.Form.{Form, SameHeader}
use Rattle.tdb_space.specs.Pairs.{order_of}
use Rattle.tdb_free.specs.FreeList.{Given}

-- from image a to image c the undo area in an extent is dropped: there are zeros, and the word at 44 is 0
pub record AreaZeroed (f : Form) (a c : List ℕ) (e : Extent) : Type 0 where
  pub size : length c ≡ length a
  pub none : word f.order c area_head ≡ 0
  pub inside : (i : ℕ) → 1 ≤ once e i → slice_index c i ≡ 0
  pub beside : (i : ℕ) → (i < area_head) ⊎ (area_head + 4 ≤ i) → once e i ≡ 0 → slice_index c i ≡ slice_index a i

-- from image c to image b an extent goes to the free list, where it has 28 bytes or more; a shorter one can be no
-- record, and nothing changes
pub data ExtentGiven (f : Form) (c b : List ℕ) (e : Extent) : Type 0 where
  given : 28 ≤ e.1 → Given f c b (free_of f c) (e.0, e.1 - 24) → ExtentGiven f c b e
  too_short : e.1 < 28 → b ≡ c → ExtentGiven f c b e

-- From image a of a transaction to image b its undo area in an extent is given up: that is dropped, and goes to the
-- free list. Image b is accepted with no undo area, has the header of a, and its chains hold the same pairs in the same
-- order.
pub record AreaGivenUp (f : Form) (a b : List ℕ) (e : Extent) : Type 0 where
  pub between : List ℕ
  pub zeroed : AreaZeroed f a between e
  pub given : ExtentGiven f between b e
  pub accepted : AcceptWith f b []
  pub none : word f.order b area_head ≡ 0
  pub same_order : order_of f b ≡ order_of f a
  pub same_header : SameHeader a b
  pub size : length b ≡ length a
