-- The walk along a chain to the place of one of its records.
use Rattle.std.proofs.Common.{◌≡◌, ℕ, ◌+◌, ◌<◌, ◌≤◌, List, [], ◌∷◌, length, refl, sym, ◌∙◌, ap, subst, inl, inr, arith}
use Rattle.std.specs.Prelude.{◌/◌}
use Rattle.std.proofs.lemmas.Bool.{false≢true}
use Rattle.tdb_words.specs.Word.{word}
use Rattle.tdb_space.specs.Form.{Form, chain_head}
use Rattle.tdb_space.specs.Record.{Whole, IsChained}
use Rattle.tdb_space.specs.Chain.{Chain, Member, Leads, chain_of}
use Rattle.tdb_space.specs.Extents.{HandPair}
use Rattle.tdb_space.specs.Accepted.{AcceptWith}
use Rattle.tdb_space.proofs.Chain.Walks.{linked_short, member_cases}

-- so many records of a chain were passed, the one at this offset is further on, and the word at `before` leads to the
-- rest
pub record Comes (f : Form) (img : List ℕ) (chain off passed before at : ℕ) : Type 0 where
  pub rest : List ℕ
  pub linked : Chain f img at rest
  pub room : passed + length rest ≤ length img / 4
  pub there : Member off rest
  pub leads : (b y : ℕ) → Leads before rest b y → Leads (chain_head chain) (chain_of f img chain) b y

pub comes_start : (f : Form) (img : List ℕ) (chain off before at : ℕ) (hands : List HandPair) → AcceptWith f img hands → chain < f.chains → Member off (chain_of f img chain) → before ≡ chain_head chain → at ≡ word f.order img before → Comes f img chain off 0 before at
comes_start f img chain off before at hands A below there head first =
    let linked = A.chains chain below in
    record {
      rest = chain_of f img chain;
      linked = subst (λ y. Chain f img y (chain_of f img chain)) (sym (first ∙ ap (word f.order img) head)) linked;
      room = omega (arith, linked_short f IsChained img (word f.order img (chain_head chain)) (chain_of f img chain) linked);
      there = there;
      leads = λ b y led. subst (λ p. Leads p (chain_of f img chain) b y) head led;
    }

module _ (f : Form) (img : List ℕ) (chain off passed before at : ℕ) (w : Comes f img chain off passed before at) where
  -- a record stands there
  pub comes_whole : Whole f img at
  comes_whole = go w.rest w.linked w.there
    where
      go : (rest : List ℕ) → Chain f img at rest → Member off rest → Whole f img at
      go [] p m = absurd (false≢true m)
      go (x ∷ xs) p m = subst (Whole f img) (sym p.0) p.1

  -- as many records were passed as the image has words
  pub comes_short : length img / 4 ≤ passed → ⊥
  comes_short all = go w.rest w.room w.there
    where
      go : (rest : List ℕ) → passed + length rest ≤ length img / 4 → Member off rest → ⊥
      go [] room m = false≢true m
      go (x ∷ xs) room m = absurd (omega (arith, room, all))

  -- it is the one
  pub comes_here : at ≡ off → Leads (chain_head chain) (chain_of f img chain) before off
  comes_here here = go w.rest w.linked w.there w.leads
    where
      go : (rest : List ℕ) → Chain f img at rest → Member off rest → ((b y : ℕ) → Leads before rest b y → Leads (chain_head chain) (chain_of f img chain) b y) → Leads (chain_head chain) (chain_of f img chain) before off
      go [] p m leads = absurd (false≢true m)
      go (x ∷ xs) p m leads = leads before off (inl (refl, sym p.0 ∙ here))

  -- it isn't
  pub comes_more : (at ≡ off → ⊥) → Comes f img chain off (passed + 1) at (word f.order img at)
  comes_more other = go w.rest w.linked w.there w.room w.leads
    where
      go : (rest : List ℕ) → Chain f img at rest → Member off rest → passed + length rest ≤ length img / 4 → ((b y : ℕ) → Leads before rest b y → Leads (chain_head chain) (chain_of f img chain) b y) → Comes f img chain off (passed + 1) at (word f.order img at)
      go [] p m room leads = absurd (false≢true m)
      go (x ∷ xs) p m room leads = record {
        rest = xs;
        linked = subst (λ y. Chain f img (word f.order img y) xs) (sym p.0) p.3;
        room = omega (arith, room);
        there = elim (member_cases off x xs m) [ inl here ↦ absurd (other (p.0 ∙ sym here)) | inr there ↦ there ];
        leads = λ b y led. leads b y (inr (subst (λ q. Leads q xs b y) p.0 led));
      }
