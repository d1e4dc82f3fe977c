-- What holds of an answer that is an error, or is none.
use Rattle.std.proofs.Common.{◌≡◌, sym, subst}
use Rattle.std.specs.Prelude.{Result, Ok, Err, IfErr, OnOk, OnErr}

-- what holds of every error
pub if_err : {V F : Type 0} (P : F → Type 0) (r : Result V F) → ((e : F) → P e) → IfErr r P
if_err P (Ok v) all = tt
if_err P (Err e) all = all e

-- what holds of the error that is there
pub if_this_err : {V F : Type 0} (P : F → Type 0) (r : Result V F) (e : F) → r ≡ Err e → P e → IfErr r P
if_this_err P r e is p = subst (λ x. IfErr x P) (sym is) p

-- what holds anyhow holds of an answer that is no error
pub on_ok : {V F P : Type 0} (r : Result V F) → P → OnOk r P
on_ok (Ok v) p = p
on_ok (Err e) p = tt

-- and of one that is one
pub on_err : {V F P : Type 0} (r : Result V F) → P → OnErr r P
on_err (Ok v) p = tt
on_err (Err e) p = p
