-- The heads of a block of chains, which are read at once.
use Rattle.std.proofs.Common.{◌≡◌, ℕ, ◌+◌, ◌*◌, ◌<◌, ◌≤◌, ◌-◌, List, Some, None, take, drop, sym, ◌∙◌, ap, subst, inl, inr, arith}
use Rattle.std.proofs.lemmas.Bool.{cases_lt}
use Rattle.tdb_words.specs.declared.word.Order.{Order}
use Rattle.tdb_words.specs.Word.{word}
use Rattle.tdb_words.proofs.Words.{word_of_part}
use Rattle.tdb_space.specs.Form.{chain_head}
use Rattle.tdb_walk.specs.declared.heads.Head.{Head}
use Rattle.tdb_walk.specs.Heads.{AreEmpty, IsFirst, IsFirstWord}

module _ (o : Order) (img words : List ℕ) (count chain from : ℕ) (read : words ≡ take (4 * count) (drop (chain_head chain) img)) (least : from ≤ chain) (before : AreEmpty (λ j. word o img (chain_head j)) from chain) where
  -- a word of the block is the head of a chain
  head_at : (i : ℕ) → i < count → word o words (4 * i) ≡ word o img (chain_head (chain + i))
  head_at i low = ap (λ w. word o w (4 * i)) read ∙ word_of_part o img (chain_head chain) (4 * count) (4 * i) (omega (arith, low)) ∙ ap (word o img) (omega arith)

  -- the chains before the block are empty, and so are some of the block
  empty_to : (n : ℕ) → n ≤ count → ((j : ℕ) → j < n → word o words (4 * j) ≡ 0) → AreEmpty (λ j. word o img (chain_head j)) from (chain + n)
  empty_to n low none j above below =
      elim (cases_lt j chain) [
        | inl early ↦ before j above early
        | inr late ↦
            let at : chain + (j - chain) ≡ j = omega (arith, late) in
            ap (λ k. word o img (chain_head k)) (sym at) ∙ sym (head_at (j - chain) (omega (arith, late, below, low))) ∙ none (j - chain) (omega (arith, late, below))
      ]

  -- none of the block has a record
  pub block_empty : IsFirstWord o words count chain None → AreEmpty (λ j. word o img (chain_head j)) from (chain + count)
  block_empty none = empty_to count (omega arith) none

  -- one of the block is the first that has
  pub block_found : (to : ℕ) (head : Head) → chain + count ≤ to → IsFirstWord o words count chain (Some head) → IsFirst (λ j. word o img (chain_head j)) from to head
  block_found to head fits (i, low, at) = record {
    empty = subst (AreEmpty (λ j. word o img (chain_head j)) from) (sym at.numbered) (empty_to i (omega (arith, low)) at.empty);
    least = omega (arith, least, at.numbered);
    below = omega (arith, at.numbered, low, fits);
    leads = at.leads ∙ head_at i low ∙ ap (λ k. word o img (chain_head k)) (sym at.numbered);
    filled = at.filled;
  }
