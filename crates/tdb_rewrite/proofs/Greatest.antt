-- The greatest rec_len of the free list, record by record.
use Rattle.std.proofs.Common.{◌≡◌, ℕ, max, List, [], map, Some, sym, ◌∙◌, ap}
use Rattle.std.specs.Prelude.{fold}
use Rattle.tdb_words.specs.declared.record.Rec.{Rec}
use Rattle.tdb_space.specs.Form.{Form}
use Rattle.tdb_space.specs.Record.{rec_len_of}
use Rattle.tdb_rewrite.specs.Walk.{Ahead, Gives}
use Rattle.tdb_rewrite.specs.declared.walk.Listed.{Listed}
use Rattle.tdb_rewrite.specs.declared.walk.ListWalk.{ListWalk}

-- what is ahead and the greatest so far make the greatest of all
pub record Largest (f : Form) (img offs : List ℕ) (largest : ℕ) (walk : ListWalk) : Type 0 where
  pub left : List ℕ
  pub ahead : Ahead f img left walk
  pub all : fold max largest (map (rec_len_of f.order img) left) ≡ fold max 0 (map (rec_len_of f.order img) offs)

module _ (f : Form) (img offs : List ℕ) (largest : ℕ) (walk next : ListWalk) (h : Largest f img offs largest walk) where
  -- one record more
  pub largest_more : (found : Listed) (more : ℕ) → Gives f img h.left (Some found) next → more ≡ max largest found.rec.rec_len → Largest f img offs more next
  largest_more found more g is = record {
    left = g.0;
    ahead = g.3;
    all = ap (λ n. fold max n (map (rec_len_of f.order img) g.0)) (is ∙ ap (λ (r : Rec). max largest r.rec_len) g.2)
        ∙ sym (ap (λ ys. fold max largest (map (rec_len_of f.order img) ys)) g.1) ∙ h.all;
  }

  -- all of them
  pub largest_all : h.left ≡ [] → largest ≡ fold max 0 (map (rec_len_of f.order img) offs)
  largest_all none = sym (ap (λ ys. fold max largest (map (rec_len_of f.order img) ys)) none) ∙ h.all
