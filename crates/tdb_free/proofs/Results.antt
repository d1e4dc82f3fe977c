-- What holds of an answer.
use Rattle.std.proofs.Common.{Result, Ok, Err}
use Rattle.std.specs.Prelude.{IfOk, OnOk, OnErr}

-- what holds of the answer and what an answer brings hold together
pub ok_both : {X E : Type 0} (r : Result X E) (P R : X → Type 0) (Q : Type 0) → IfOk r P → OnOk r Q → ((x : X) → P x → Q → R x) → IfOk r R
ok_both (Ok x) P R Q p q both = both x p q
ok_both (Err e) P R Q p q both = tt

-- what holds anyway holds on a refusal
pub on_err : {T E P : Type 0} (r : Result T E) → P → OnErr r P
on_err (Ok x) p = tt
on_err (Err e) p = p
