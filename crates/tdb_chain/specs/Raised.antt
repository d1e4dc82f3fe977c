-- What raising the sequence number makes of an image.
use Rattle.std.specs.Prelude.{ℕ, ◌+◌, ◌%◌, ◌^◌, List}
use Rattle.tdb_space.specs.Form.{Form}
use Rattle.tdb_space.specs.Extents.{HandPair}
use Rattle.tdb_space.specs.Exchange.{ButSequence}
use Rattle.tdb_space.specs.Stays.{ChainsStay, FreeStays}

-- the number that comes after one of 32 bits
abbrev pub next_number : ℕ → ℕ
next_number n = (n + 1) % 2 ^ 32

-- From image a, accepted with some hands, to image b at most the sequence number changed: b is accepted with them, the
-- map, all chains and the free list stay.
pub record OnlySequence (f : Form) (a b : List ℕ) (hands : List HandPair) : Type 0 where
  pub beside : ButSequence a b
  pub stay : ChainsStay f a b hands
  pub frees : FreeStays f a b
