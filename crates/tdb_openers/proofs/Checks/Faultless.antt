-- A check of an accepted file finds no fault.
use Rattle.std.proofs.Common.{◌≡◌, ℕ, List, [], sym, subst}
use Rattle.tdb_words.specs.declared.what.What.{What}
use Rattle.tdb_space.specs.Form.{Form}
use Rattle.tdb_space.specs.Accepted.{AcceptWith}
use Rattle.tdb_space.specs.FirstFault.{IsFirstFault}
use Rattle.tdb_space.proofs.FirstFault.Faults.{none_first}
use Rattle.tdb_space.proofs.FirstFault.Agreed.{accepted_no_fault}
use Rattle.tdb_check.specs.declared.refusal.CheckRefusal.{CheckRefusal}
use Rattle.tdb_check.specs.declared.refusal.CheckRefusal.TheVariants.{Corrupt}
use Rattle.tdb_check.specs.Report.{IsFormOf}
use Rattle.tdb_check.specs.Seen.{Names}

pub no_fault : (f : Form) (img : List ℕ) (what : What) (at : ℕ) (e : CheckRefusal) → e ≡ Corrupt what at → AcceptWith f img [] → (IsFormOf f img → Names e (IsFirstFault img)) → ⊥
no_fault f img what at e is A names =
    none_first img (what, at) (subst (λ r. Names r (IsFirstFault img)) is (names (λ ok. sym A.form))) (accepted_no_fault img (subst (λ g. AcceptWith g img []) (sym A.form) A))
