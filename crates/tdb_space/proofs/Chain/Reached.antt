-- A walk along the chain of a key remembers the word that led to where it is: that word leads there in the chain.
use Rattle.std.proofs.Common.{◌≡◌, ℕ, List, [], ◌∷◌, refl, sym, subst, inl, inr}
use Rattle.tdb_words.specs.Word.{word}
use Rattle.tdb_space.specs.Form.{Form, chain_head}
use Rattle.tdb_space.specs.Record.{IsChained}
use Rattle.tdb_space.specs.Chain.{Chain, IsLink, chain_of, Leads}
use Rattle.tdb_space.specs.Pairs.{home}
use Rattle.tdb_space.specs.Accepted.{IsFiled}
use Rattle.tdb_space.proofs.Chain.Walks.{linked_one}
use Rattle.tdb_space.proofs.Pairs.Maps.{home_below}
use Rattle.tdb_space.proofs.Chain.Ahead.{Ahead}

-- the word at `before` leads to `at`, and what leads on from there leads on in the key's chain
pub record Reached (f : Form) (img k : List ℕ) (before at : ℕ) : Type 0 where
  pub led : word f.order img before ≡ at
  pub leads : (left : List ℕ) → Chain f img at left → (c y : ℕ) → Leads before left c y → Leads (chain_head (home f k)) (chain_of f img (home f k)) c y

-- at first that is the head of the chain
pub reached_start : (f : Form) (img k : List ℕ) → IsFiled f img → Reached f img k (chain_head (home f k)) (word f.order img (chain_head (home f k)))
reached_start f img k h = record {
  led = refl;
  leads = λ left p c y led.
      (let same : left ≡ chain_of f img (home f k) = linked_one f IsChained img (word f.order img (chain_head (home f k))) left (chain_of f img (home f k)) p (h.chains (home f k) (home_below f k h.some)) in
      subst (λ xs. Leads (chain_head (home f k)) xs c y) same led);
}

-- then it is the record that was passed
pub reached_more : (f : Form) (img k : List ℕ) (before at : ℕ) → IsLink f img at → Reached f img k before at → Reached f img k at (word f.order img at)
reached_more f img k before at link r = record {
  led = refl;
  leads = λ left p c y led. r.leads (at ∷ left) (refl, link.0, link.1, p) c y (inr led);
}

-- it leads to the record that is there
pub reached_here : (f : Form) (img k : List ℕ) (passed before at : ℕ) → Ahead f img k passed at → (at ≡ 0 → ⊥) → Reached f img k before at → Leads (chain_head (home f k)) (chain_of f img (home f k)) before at
reached_here f img k passed before at h some r = from_left h.left h.chain
  where
    from_left : (left : List ℕ) → Chain f img at left → Leads (chain_head (home f k)) (chain_of f img (home f k)) before at
    from_left [] p = absurd (some p)
    from_left (x ∷ xs) p = r.leads (x ∷ xs) p before at (inl (refl, sym p.0))
