-- What reading the pairs of an image rests on.
use Rattle.std.specs.Prelude.{ℕ, ◌<◌, ◌≤◌, List, length}
use Rattle.std.specs.List.{IsDistinct}
use Rattle.std.specs.Map.{keys_of}
use Rattle.tdb_space.specs.Form.{Form, data_start}
use Rattle.tdb_space.specs.Chain.{chain_of, HasChains}
use Rattle.tdb_space.specs.Pairs.{order_of, same_key}
use Rattle.tdb_space.specs.Accepted.{AllFiled}

-- The pairs of an image can be read, and make a map: the image reaches the data, each chain head has its chain, each
-- used record is filed by its key's hash, and no key comes twice. An accepted image is such. Nothing is said of the
-- free list, the undo area, bytes that two records hold, and stray bytes.
pub record Readable (f : Form) (img : List ℕ) : Type 0 where
  pub some : 0 < f.chains
  pub long : data_start f ≤ length img
  pub chains : HasChains f img
  pub filed : (j : ℕ) → j < f.chains → AllFiled f img j (chain_of f img j)
  pub differ : IsDistinct same_key (keys_of (order_of f img))
