-- A chain that was followed from its first record up to some offset.
use Rattle.std.proofs.Common.{◌≡◌, ℕ, ◌≤◌, List, [], ◌∷◌, ◌++◌, length, append_assoc, append-nil, length-append, refl, sym, ◌∙◌, ap, subst, arith}
use Rattle.std.specs.Prelude.{◌/◌}
use Rattle.tdb_words.specs.Word.{word}
use Rattle.tdb_space.specs.Form.{Form}
use Rattle.tdb_space.specs.Record.{IsChained}
use Rattle.tdb_space.specs.Chain.{Chain, IsLink}
use Rattle.tdb_space.proofs.Chain.Walks.{linked_short}

-- from the first offset the records at these offsets come first in any chain, and at this offset the rest of it begins
pub record Followed (f : Form) (img : List ℕ) (first at : ℕ) (offs : List ℕ) : Type 0 where
  pub joins : (rest : List ℕ) → Chain f img at rest → Chain f img first (offs ++ rest)
  pub only : (all : List ℕ) → Chain f img first all → (rest : List ℕ) × (all ≡ offs ++ rest) × Chain f img at rest

pub followed_none : (f : Form) (img : List ℕ) (first : ℕ) → Followed f img first first []
followed_none f img first = record {
  joins = λ rest p. p;
  only = λ all p. (all, refl, p);
}

-- one more record
pub followed_more : (f : Form) (img : List ℕ) (first at : ℕ) (offs : List ℕ) → Followed f img first at offs → IsLink f img at → Followed f img first (word f.order img at) (offs ++ at ∷ [])
followed_more f img first at offs h link = record {
  joins = λ rest p. subst (Chain f img first) (sym (append_assoc offs (at ∷ []) rest)) (h.joins (at ∷ rest) (refl, link.0, link.1, p));
  only = λ all p. next all (h.only all p);
}
  where
    next : (all : List ℕ) → ((rest : List ℕ) × (all ≡ offs ++ rest) × Chain f img at rest) → (rest : List ℕ) × (all ≡ (offs ++ at ∷ []) ++ rest) × Chain f img (word f.order img at) rest
    next all ([], e, p) = absurd (omega (arith, p, link.0.above))
    next all (x ∷ xs, e, p) =
        (xs, e ∙ ap (λ y. offs ++ y ∷ xs) (sym p.0) ∙ sym (append_assoc offs (at ∷ []) xs), subst (λ y. Chain f img (word f.order img y) xs) (sym p.0) p.3)

-- at 0 the chain ends
pub followed_end : (f : Form) (img : List ℕ) (first at : ℕ) (offs : List ℕ) → Followed f img first at offs → at ≡ 0 → Chain f img first offs
followed_end f img first at offs h zero_there = subst (Chain f img first) (append-nil offs) (h.joins [] zero_there)

-- at an offset that is neither 0 nor a record's there is no chain
pub followed_stuck : (f : Form) (img : List ℕ) (first at : ℕ) (offs : List ℕ) → Followed f img first at offs → (at ≡ 0 → ⊥) → (IsLink f img at → ⊥) → (all : List ℕ) → Chain f img first all → ⊥
followed_stuck f img first at offs h some stuck all p = no_rest (h.only all p)
  where
    no_rest : ((rest : List ℕ) × (all ≡ offs ++ rest) × Chain f img at rest) → ⊥
    no_rest ([], e, q) = some q
    no_rest (x ∷ xs, e, q) = stuck (subst (IsLink f img) (sym q.0) (q.1, q.2))

-- past as many records as the image has words there is no chain
pub followed_long : (f : Form) (img : List ℕ) (first at : ℕ) (offs : List ℕ) → Followed f img first at offs → (at ≡ 0 → ⊥) → length img / 4 ≤ length offs → (all : List ℕ) → Chain f img first all → ⊥
followed_long f img first at offs h some long all p = no_rest (h.only all p)
  where
    short : length all ≤ length img / 4
    short = linked_short f IsChained img first all p

    no_rest : ((rest : List ℕ) × (all ≡ offs ++ rest) × Chain f img at rest) → ⊥
    no_rest ([], e, q) = some q
    no_rest (x ∷ xs, e, q) = absurd (omega (arith, short, ap length e, length-append offs (x ∷ xs)))
