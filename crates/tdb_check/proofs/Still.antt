-- What holds of the form and the bytes of a view that was left as it was.
use Rattle.std.proofs.Common.{◌≡◌, ℕ, List, subst}
use Rattle.tdb_space.specs.Form.{Form}

pub still_then : (P : Form → List ℕ → Type 0) {f f2 : Form} {img img2 : List ℕ} → f2 ≡ f → img2 ≡ img → P f2 img2 → P f img
still_then P {f} {f2} {img} {img2} form image p = subst (λ g. P g img) form (subst (P f2) image p)
