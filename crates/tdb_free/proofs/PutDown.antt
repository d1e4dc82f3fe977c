-- The walk that puts the free records down, turn by turn.
use Rattle.std.proofs.Common.{◌≡◌, ℕ, ◌+◌, ◌≤◌, List, [], ◌∷◌, ◌++◌, length, append-nil, refl, sym, ◌∙◌, ap, subst}
use Rattle.std.specs.Prelude.{◌/◌}
use Rattle.tdb_words.specs.declared.record.Rec.{Rec}
use Rattle.tdb_words.specs.Record.{rec_at}
use Rattle.tdb_words.specs.Word.{word}
use Rattle.tdb_space.specs.Form.{Form, free_head}
use Rattle.tdb_space.specs.Record.{Whole, rec_len_of}
use Rattle.tdb_space.specs.Chain.{Free}
use Rattle.tdb_free.specs.FreeList.{free_pairs}
use Rattle.tdb_free.proofs.Rest.{Rest, rest_more, rest_none, rest_all}

-- so many records of a free list were passed and are put down
pub record PutDown (f : Form) (img offs : List ℕ) (records : List (ℕ × ℕ)) (turn at : ℕ) : Type 0 where
  pub passed : List ℕ
  pub left : List ℕ
  pub rest : Rest f img offs passed left turn at
  pub records_put : records ≡ free_pairs f img passed

pub put_start : (f : Form) (img offs : List ℕ) (at : ℕ) → Free f img at offs → PutDown f img offs [] 0 at
put_start f img offs at free = record { passed = []; left = offs; rest = record { parts = refl; linked = free; count = refl }; records_put = refl }

pairs_more : (f : Form) (img xs : List ℕ) (x : ℕ) → free_pairs f img (xs ++ x ∷ []) ≡ free_pairs f img xs ++ (x, rec_len_of f.order img x) ∷ []
pairs_more f img [] x = refl
pairs_more f img (y ∷ ys) x = ap (λ ps. (y, rec_len_of f.order img y) ∷ ps) (pairs_more f img ys x)

module _ (f : Form) (img offs : List ℕ) (records : List (ℕ × ℕ)) (turn at : ℕ) (h : PutDown f img offs records turn at) where
  -- one record more
  pub put_more : (r : Rec) (more : List (ℕ × ℕ)) → (at ≡ 0 → ⊥) → r ≡ rec_at f.order img at → more ≡ records ++ (at, r.rec_len) ∷ [] → PutDown f img offs more (turn + 1) r.next
  put_more r more some read put =
      let next = rest_more f img offs h.passed h.left turn at h.rest some in
      record {
        passed = h.passed ++ at ∷ [];
        left = next.0;
        rest = subst (Rest f img offs (h.passed ++ at ∷ []) next.0 (turn + 1)) (sym (ap (λ (q : Rec). q.next) read)) next.2;
        records_put = put ∙ (λ j. h.records_put j ++ (at, (read j).rec_len) ∷ []) ∙ sym (pairs_more f img h.passed at);
      }

  whole_list : h.left ≡ [] → records ≡ free_pairs f img offs
  whole_list none = h.records_put ∙ ap (free_pairs f img) (sym (h.rest.parts ∙ ap (λ xs. h.passed ++ xs) none ∙ append-nil h.passed))

  -- no record stands there
  pub put_end : (Whole f img at → ⊥) → records ≡ free_pairs f img offs
  put_end never = whole_list (rest_none f img offs h.passed h.left turn at h.rest never)

  -- as many records were passed as the image has words
  pub put_all : Free f img (word f.order img free_head) offs → length img / 4 ≤ turn → records ≡ free_pairs f img offs
  put_all free all = whole_list (rest_all f img offs h.passed h.left turn at free h.rest all)
