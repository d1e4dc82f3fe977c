-- A view whose form and image are as they were.
use Rattle.std.proofs.Common.{◌≡◌, ℕ, List, sym, subst}
use Rattle.tdb_space.specs.Form.{Form}

-- what holds of a form and an image holds of the same ones
pub same_view : (P : Form → List ℕ → Type 0) (f f2 : Form) (img img2 : List ℕ) → f2 ≡ f → img2 ≡ img → P f img → P f2 img2
same_view P f f2 img img2 form image p = subst (λ g. P g img2) (sym form) (subst (P f) (sym image) p)
