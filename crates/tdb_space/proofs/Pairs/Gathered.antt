-- The pairs of the first chains of an image.
use Rattle.std.proofs.Common.{◌≡◌, ℕ, ◌+◌, ◌<◌, List, ◌++◌, below_more, sym, ◌∙◌, ap, subst}
use Rattle.tdb_words.specs.Word.{word}
use Rattle.tdb_space.specs.Form.{Form, chain_head}
use Rattle.tdb_space.specs.Record.{IsChained, AllFit}
use Rattle.tdb_space.specs.Chain.{Chain, chain_of}
use Rattle.tdb_space.specs.Pairs.{pairs, joined}
use Rattle.tdb_space.proofs.Chain.Walks.{walk_meets}
use Rattle.tdb_space.proofs.Pairs.Listed.{joined_more}

-- the first n heads have chains whose used records fit, and these are their pairs
pub record Gathered (f : Form) (img : List ℕ) (n : ℕ) (found : List (List ℕ × List ℕ)) : Type 0 where
  pub chains : (j : ℕ) → j < n → Chain f img (word f.order img (chain_head j)) (chain_of f img j)
  pub fit : (j : ℕ) → j < n → AllFit f.order img (chain_of f img j)
  pub held : found ≡ joined n (λ j. pairs f.order img (chain_of f img j))

-- one more chain
pub gathered_more : (f : Form) (img : List ℕ) (n : ℕ) (found more : List (List ℕ × List ℕ)) (offs : List ℕ) → Gathered f img n found → Chain f img (word f.order img (chain_head n)) offs → AllFit f.order img offs → more ≡ found ++ pairs f.order img offs → Gathered f img (n + 1) more
gathered_more f img n found more offs h chain fit e =
    let met : chain_of f img n ≡ offs = walk_meets f IsChained img (word f.order img (chain_head n)) offs chain in
    record {
      chains = below_more (λ j. Chain f img (word f.order img (chain_head j)) (chain_of f img j)) n h.chains (subst (Chain f img (word f.order img (chain_head n))) (sym met) chain);
      fit = below_more (λ j. AllFit f.order img (chain_of f img j)) n h.fit (subst (AllFit f.order img) (sym met) fit);
      held = e ∙ ap (λ ps. ps ++ pairs f.order img offs) h.held ∙ ap (λ offs. joined n (λ j. pairs f.order img (chain_of f img j)) ++ pairs f.order img offs) (sym met)
          ∙ sym (joined_more n (λ j. pairs f.order img (chain_of f img j)));
    }

-- where a chain's used records don't all fit, the chains' don't
pub unfit : (f : Form) (img : List ℕ) (j : ℕ) (offs : List ℕ) → Chain f img (word f.order img (chain_head j)) offs → (AllFit f.order img offs → ⊥) → AllFit f.order img (chain_of f img j) → ⊥
unfit f img j offs chain too_long fit =
    too_long (subst (AllFit f.order img) (walk_meets f IsChained img (word f.order img (chain_head j)) offs chain) fit)
