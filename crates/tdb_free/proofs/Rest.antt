-- A walk along the free list, record by record: which were passed, and which are left.
use Rattle.std.proofs.Common.{◌≡◌, ℕ, ◌+◌, ◌<◌, ◌≤◌, List, [], ◌∷◌, ◌++◌, length, append_assoc, length-append, refl, sym, ◌∙◌, ap, subst, arith}
use Rattle.std.specs.Prelude.{◌/◌}
use Rattle.tdb_words.specs.Word.{word}
use Rattle.tdb_space.specs.Form.{Form, free_head}
use Rattle.tdb_space.specs.Record.{Whole, IsFree}
use Rattle.tdb_space.specs.Chain.{Free}
use Rattle.tdb_space.proofs.Chain.Walks.{linked_short}

-- so many records of a free list were passed, and from this offset on these are left
pub record Rest (f : Form) (img offs passed left : List ℕ) (turn at : ℕ) : Type 0 where
  pub parts : offs ≡ passed ++ left
  pub linked : Free f img at left
  pub count : length passed ≡ turn

-- what is left where a record stands: it, and the others
pub rest_more : (f : Form) (img offs passed left : List ℕ) (turn at : ℕ) → Rest f img offs passed left turn at → (at ≡ 0 → ⊥)
    → (others : List ℕ) × (left ≡ at ∷ others) × Rest f img offs (passed ++ at ∷ []) others (turn + 1) (word f.order img at)
rest_more f img offs passed [] turn at r some = absurd (some r.linked)
rest_more f img offs passed (x ∷ xs) turn at r some =
    let e : x ≡ at = sym r.linked.0 in (
      xs,
      ap (λ y. y ∷ xs) e,
      record {
        parts = r.parts ∙ ap (λ y. passed ++ y ∷ xs) e ∙ sym (append_assoc passed (at ∷ []) xs);
        linked = subst (λ y. Free f img (word f.order img y) xs) e r.linked.3;
        count = omega (arith, length-append passed (at ∷ []), r.count);
      },
    )

-- where no record stands whole, none is left
pub rest_none : (f : Form) (img offs passed left : List ℕ) (turn at : ℕ) → Rest f img offs passed left turn at → (Whole f img at → ⊥) → left ≡ []
rest_none f img offs passed [] turn at r never = refl
rest_none f img offs passed (x ∷ xs) turn at r never = absurd (never (subst (Whole f img) (sym r.linked.0) r.linked.1))

-- nor after as many records as the image has words
pub rest_all : (f : Form) (img offs passed left : List ℕ) (turn at : ℕ) → Free f img (word f.order img free_head) offs → Rest f img offs passed left turn at → length img / 4 ≤ turn → left ≡ []
rest_all f img offs passed [] turn at free r all = refl
rest_all f img offs passed (x ∷ xs) turn at free r all =
    absurd (omega (arith, linked_short f IsFree img (word f.order img free_head) offs free, ap length r.parts, length-append passed (x ∷ xs), r.count, all))

-- an image that ends before the head of the list has no free record
pub free_short : (f : Form) (img offs : List ℕ) (at : ℕ) → Free f img at offs → length img < 172 → Free f img 0 offs
free_short f img [] at free short = refl
free_short f img (x ∷ xs) at free short = absurd (omega (arith, free.1.within, free.1.above, short))
