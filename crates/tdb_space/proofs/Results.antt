-- What holds of an answer.
use Rattle.std.proofs.Common.{◌≡◌, Result, Ok, Err, refl}
use Rattle.std.specs.Prelude.{IsOk, OnErr}

-- what holds anyway holds on a refusal
pub on_err : {T E P : Type 0} (r : Result T E) → P → OnErr r P
on_err (Ok x) p = tt
on_err (Err e) p = p

-- an answer that is Ok is no other
pub ok_not : {T E : Type 0} (r : Result T E) → IsOk r → ((x : T) → r ≡ Ok x → ⊥) → ⊥
ok_not (Ok x) ok never = never x refl
ok_not (Err e) ok never = cc ok
