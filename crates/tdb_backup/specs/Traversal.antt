-- What a walk over all pairs of an image has given.
use Rattle.std.specs.Prelude.{◌≡◌, ℕ, ◌+◌, ◌-◌, ◌*◌, ◌/◌, ◌≤◌, List, ◌++◌, length}
use Rattle.tdb_space.specs.Form.{Form}
use Rattle.tdb_space.specs.Chain.{Chain, chain_of}
use Rattle.tdb_space.specs.Pairs.{joined, pairs}
use Rattle.tdb_space.specs.Accepted.{AllFiled}
use Rattle.tdb_backup.specs.declared.traversal.Traversal.{Traversal}
use Rattle.tdb_backup.specs.Held.{pair_held}

-- the pair that was read last
abbrev pub pair_at_hand : Traversal → List ℕ × List ℕ
pair_at_hand t = pair_held t.held

-- the pairs of the first n chains, in order
abbrev pub pairs_below : Form → List ℕ → ℕ → List (List ℕ × List ℕ)
pairs_below f img n = joined n (λ j. pairs f.order img (chain_of f img j))

-- The walk has given these pairs. The records at some offsets are still ahead of it in the chain at hand, from that at
-- which it stands on; with their pairs the given ones are those of all chains up to that one.
pub record Gave (f : Form) (img : List ℕ) (given : List (List ℕ × List ℕ)) (t : Traversal) : Type 0 where
  pub ahead : List ℕ
  pub chain : ℕ
  pub linked : Chain f img t.at ahead
  pub filed : AllFiled f img chain ahead
  pub below : t.next_chain ≤ f.chains
  pub all : pairs_below f img t.next_chain ≡ given ++ pairs f.order img ahead
  pub room : length ahead ≤ t.left

-- the walk has given these pairs, which are those of all chains up to the one at hand, and stands at its end
pub record GaveChains (f : Form) (img : List ℕ) (given : List (List ℕ × List ℕ)) (t : Traversal) : Type 0 where
  pub at_end : t.at ≡ 0
  pub below : t.next_chain ≤ f.chains
  pub all : pairs_below f img t.next_chain ≡ given

-- how many records the walk reads at most from here on, in a file of so many chains and bytes
abbrev pub most_left : ℕ → ℕ → Traversal → ℕ
most_left chains len t = (chains - t.next_chain) * (len / 4) + t.left
