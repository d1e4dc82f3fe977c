-- The first chain of an image that has a record.
use Rattle.std.specs.Prelude.{◌≡◌, ℕ, ◌+◌, ◌-◌, ◌*◌, ◌≤◌, ◌<◌, min, List, Option, None, Some}
use Rattle.tdb_words.specs.declared.word.Order.{Order}
use Rattle.tdb_words.specs.Word.{word}
use Rattle.tdb_space.specs.Form.{Form, chain_head}
use Rattle.tdb_walk.specs.declared.heads.Head.{Head}

-- no chain from one number up to another has a record, where these are the words of the heads
abbrev pub AreEmpty : (ℕ → ℕ) → ℕ → ℕ → Type 0
AreEmpty head from to = (j : ℕ) → from ≤ j → j < to → head j ≡ 0

-- the chain of this head is the first from one number up to another that has a record
pub record IsFirst (head : ℕ → ℕ) (from to : ℕ) (found : Head) : Type 0 where
  pub empty : AreEmpty head from found.chain
  pub least : from ≤ found.chain
  pub below : found.chain < to
  pub leads : found.first ≡ head found.chain
  pub filled : found.first ≡ 0 → ⊥

-- the first one that has a record, or none has
abbrev pub FindsFilled : (ℕ → ℕ) → ℕ → ℕ → Option Head → Type 0
FindsFilled head from to None = AreEmpty head from to
FindsFilled head from to (Some found) = IsFirst head from to found

-- among the chains of an image from a number on
abbrev pub IsFirstFilled : Form → List ℕ → ℕ → Option Head → Type 0
IsFirstFilled f img from found = FindsFilled (λ j. word f.order img (chain_head j)) from f.chains found

-- among so many words that stand one after another, the first of which is the head of a chain
pub record WordAt (o : Order) (words : List ℕ) (chain i : ℕ) (found : Head) : Type 0 where
  pub numbered : found.chain ≡ chain + i
  pub leads : found.first ≡ word o words (4 * i)
  pub filled : found.first ≡ 0 → ⊥
  pub empty : (j : ℕ) → j < i → word o words (4 * j) ≡ 0

abbrev pub IsFirstWord : Order → List ℕ → ℕ → ℕ → Option Head → Type 0
IsFirstWord o words count chain None = (j : ℕ) → j < count → word o words (4 * j) ≡ 0
IsFirstWord o words count chain (Some found) = (i : ℕ) × (i < count) × WordAt o words chain i found

-- How many bytes of heads a search from a chain on reads at most: where none has a record, each head once; else those
-- up to the one that is found, and a block of up to 1024 from there on.
abbrev pub heads_read : ℕ → ℕ → Option Head → ℕ
heads_read chains from None = 4 * (chains - from)
heads_read chains from (Some found) = 4 * (found.chain - from) + 4 * min 1024 (chains - found.chain)

-- no chain of an image from a number on has a record
abbrev pub NoneFilled : Form → List ℕ → ℕ → Type 0
NoneFilled f img from = AreEmpty (λ j. word f.order img (chain_head j)) from f.chains
