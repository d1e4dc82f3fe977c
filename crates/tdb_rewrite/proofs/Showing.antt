-- The lines of a chain, record by record.
use Rattle.std.proofs.Common.{◌≡◌, ◌≢◌, ℕ, List, [], ◌∷◌, ◌++◌, length, map, append_assoc, append-nil, Some, refl, sym, ◌∙◌, ap, arith}
use Rattle.std.specs.Prelude.{insert}
use Rattle.std.proofs.lemmas.List.{map-append}
use Rattle.tdb_space.specs.Form.{Form}
use Rattle.tdb_rewrite.specs.Walk.{Ahead, Gives}
use Rattle.tdb_rewrite.specs.Lines.{spot_of, spot_at, under_head}
use Rattle.tdb_rewrite.specs.declared.walk.Listed.{Listed}
use Rattle.tdb_rewrite.specs.declared.walk.ListWalk.{ListWalk}
use Rattle.tdb_rewrite.specs.declared.spot.Spot.{Spot}
use Rattle.tdb_rewrite.specs.declared.spot.Spot.TheVariants.{Chain}

-- no line stands over no lines
pub head_none : (j : ℕ) (spots : List Spot) → length spots ≡ 0 → spots ≡ under_head j spots
head_none j [] none = refl
head_none j (s ∷ ss) none = absurd (omega arith)

-- over others one that says how many they are
pub head_put : (j : ℕ) (spots : List Spot) → length spots ≢ 0 → insert spots 0 (Chain j (length spots)) ≡ under_head j spots
head_put j [] some = absurd (some refl)
head_put j (s ∷ ss) some = refl

-- some records of a list were passed, and these are their lines
pub record Noted (f : Form) (img offs : List ℕ) (lines : List Spot) (walk : ListWalk) : Type 0 where
  pub passed : List ℕ
  pub left : List ℕ
  pub parts : offs ≡ passed ++ left
  pub ahead : Ahead f img left walk
  pub shown : lines ≡ map (spot_at f.order img) passed

pub noted_first : (f : Form) (img offs : List ℕ) (lines : List Spot) (walk : ListWalk) → Ahead f img offs walk → lines ≡ [] → Noted f img offs lines walk
noted_first f img offs lines walk ahead none = record { passed = []; left = offs; parts = refl; ahead = ahead; shown = none }

module _ (f : Form) (img offs : List ℕ) (lines : List Spot) (walk next : ListWalk) (h : Noted f img offs lines walk) where
  -- one record more
  pub noted_more : (found : Listed) (more : List Spot) → Gives f img h.left (Some found) next → more ≡ lines ++ spot_of found.off found.rec ∷ [] → Noted f img offs more next
  noted_more found more g put = record {
    passed = h.passed ++ found.off ∷ [];
    left = g.0;
    parts = h.parts ∙ ap (λ ys. h.passed ++ ys) g.1 ∙ sym (append_assoc h.passed (found.off ∷ []) g.0);
    ahead = g.3;
    shown = put ∙ (λ j. h.shown j ++ spot_of found.off (g.2 j) ∷ []) ∙ sym (map-append (spot_at f.order img) h.passed (found.off ∷ []));
  }

  -- all of them
  pub noted_all : h.left ≡ [] → lines ≡ map (spot_at f.order img) offs
  noted_all none = h.shown ∙ ap (map (spot_at f.order img)) (sym (h.parts ∙ ap (λ ys. h.passed ++ ys) none ∙ append-nil h.passed))
