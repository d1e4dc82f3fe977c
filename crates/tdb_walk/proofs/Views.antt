-- What is known of a view after calls that only looked.
use Rattle.std.proofs.Common.{◌≡◌, ℕ, List, Ok, Err, subst}
use Rattle.std.specs.Prelude.{Result, OnOk}
use Rattle.tdb_space.specs.Form.{Form}

-- what holds of a view after a call that only looked holds of the view before it
pub moved : (P : Form → List ℕ → Type 0) (f g : Form) (a v : List ℕ) → g ≡ f → v ≡ a → P g v → P f a
moved P f g a v same_form same_image holds = subst (P f) same_image (subst (λ x. P x v) same_form holds)

-- what holds where a call was done
pub on_ok_more : {V E P Q : Type 0} (r : Result V E) → (P → Q) → OnOk r P → OnOk r Q
on_ok_more (Ok v) more p = more p
on_ok_more (Err e) more p = p
