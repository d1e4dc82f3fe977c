-- What a take and a give leave alone, whatever they answer.
use Rattle.std.specs.Prelude.{◌≡◌, ℕ, ◌+◌, ◌<◌, ◌≤◌, List, length, slice_index}
use Rattle.tdb_space.specs.Form.{Form, free_head}
use Rattle.tdb_space.specs.Extents.{HandPair, once, times, extents, hand_extents}

-- From image a to image b the file doesn't become shorter. Below its old length at most these bytes change: the head of
-- the free list, the records of the list, which stood at these offsets, and these hands. So the header stays as it was.
pub record OnlyListChanges (f : Form) (a b offs : List ℕ) (hands : List HandPair) : Type 0 where
  pub longer : length a ≤ length b
  pub header : (i : ℕ) → i < free_head → slice_index b i ≡ slice_index a i
  pub others : (i : ℕ) → i < length a → once (free_head, 4) i + times (extents f.order a offs) i + times (hand_extents hands) i ≡ 0 → slice_index b i ≡ slice_index a i
