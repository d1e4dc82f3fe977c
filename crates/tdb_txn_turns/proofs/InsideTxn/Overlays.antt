-- What holds of an answer, also over the view of a transaction's pages, which leaves the file as it is.
use Rattle.std.proofs.Common.{◌≡◌, List, ℕ, ◌∷◌, subst}
use Rattle.std.specs.Prelude.{Result, Ok, Err, IfOk, OnOk}
use Rattle.tdb_txn.specs.declared.txn.Txn.{Txn}

-- what holds of an answer by a fact of it, by two, or by three
pub weaker : {V F : Type 0} (r : Result V F) (P Q : V → Type 0) → ((v : V) → P v → Q v) → IfOk r P → IfOk r Q
weaker (Ok v) P Q then p = then v p
weaker (Err e) P Q then p = tt

pub weaker_by : {V F : Type 0} (r : Result V F) (P Q R : V → Type 0) → ((v : V) → P v → Q v → R v) → IfOk r P → IfOk r Q → IfOk r R
weaker_by (Ok v) P Q R then p q = then v p q
weaker_by (Err e) P Q R then p q = tt

pub weaker_three : {V F : Type 0} (r : Result V F) (P Q R S : V → Type 0) → ((v : V) → P v → Q v → R v → S v) → IfOk r P → IfOk r Q → IfOk r R → IfOk r S
weaker_three (Ok v) P Q R S then p q s = then v p q s
weaker_three (Err e) P Q R S then p q s = tt

pub ok_so : {V F : Type 0} (r : Result V F) (P : V → Type 0) (Q : Type 0) → ((v : V) → P v → Q) → IfOk r P → OnOk r Q
ok_so (Ok v) P Q then p = then v p
ok_so (Err e) P Q then p = tt

-- the first name of two is the same
pub first_name : (a b : ℕ) (rest more : List ℕ) → ◌≡◌ {A = List ℕ} (a ∷ rest) (b ∷ more) → a ≡ b
first_name a b rest more same = cc

-- What holds over one view of a transaction, before a call and after it, holds of its pages over the file.
pub over_file : {V F : Type 0} (answer : Result V F) (P : Txn → List ℕ → Txn → List ℕ → V → Type 0) (old view new after : Txn) (base was now : List ℕ) → view ≡ old → was ≡ base → now ≡ base → after ≡ new
    → IfOk answer (P view was after now) → IfOk answer (P old base new base)
over_file answer P old view new after base was now same_view same_was same_now same_after done =
    subst (λ t. IfOk answer (P old base t base)) same_after
    (subst (λ x. IfOk answer (P old base after x)) same_now
    (subst (λ x. IfOk answer (P old x after now)) same_was
    (subst (λ t. IfOk answer (P t was after now)) same_view done)))
