-- A list of logs as the image of a list of anything that is a log.
use Rattle.std.proofs.Common.{◌≡◌, ◌≢◌, ℕ, zero, suc, ◌-◌, List, [], ◌∷◌, ◌++◌, map, length, take, get_or, Result, Ok, Err, OnOk, OnErr, IfErr, IsTrue, refl, ap, subst, arith}
use Rattle.std.proofs.Math.ListN.{set}
use Rattle.tdb_disk.specs.Count.{HasCauseOf}
use Rattle.tdb_log.specs.Logs.{Logged, Took, Refused, LastBecame, LastRefused, but_last}
use Rattle.tdb_log.specs.declared.log.LogRefusal.{LogRefusal}
use Rattle.tdb_log.specs.declared.log.LogRefusal.TheVariants.{Failed, Memory}
use Rattle.tdb_log.specs.declared.notice.Notice.{Notice}

module _ {A : Type 0} (f : A → Logged) where
  -- all but the last are the logs but the last
  pub but_last_taken : (xs : List A) (n : ℕ) → n ≡ length xs - 1 → map f (take n xs) ≡ but_last (map f xs)
  but_last_taken [] zero e = refl
  but_last_taken [] (suc n) e = refl
  but_last_taken (x ∷ []) zero e = refl
  but_last_taken (x ∷ []) (suc n) e = absurd (omega arith)
  but_last_taken (x ∷ y ∷ ys) zero e = absurd (omega arith)
  but_last_taken (x ∷ y ∷ ys) (suc n) e = ap (λ (ls : List Logged). f x ∷ ls) (but_last_taken (y ∷ ys) n (omega arith))

  -- where the last element became another, so did the last log
  pub last_set : (Became : Logged → Logged → Type 0) (xs : List A) (n : ℕ) (old new : A) → length xs ≡ suc n → old ≡ get_or xs n old → Became (f old) (f new)
      → LastBecame Became (map f xs) (map f (set xs n new))
  last_set Became [] n old new long at B = absurd (omega arith)
  last_set Became (x ∷ []) zero old new long at B = (f new, refl, subst (λ z. Became (f z) (f new)) at B)
  last_set Became (x ∷ []) (suc n) old new long at B = absurd (omega arith)
  last_set Became (x ∷ y ∷ ys) zero old new long at B = absurd (omega arith)
  last_set Became (x ∷ y ∷ ys) (suc n) old new long at B = (map f (set (y ∷ ys) n new), refl, last_set Became (y ∷ ys) n old new (omega arith) at B)

  -- where there is an element, there is a log
  some_log : (xs : List A) (n : ℕ) → length xs ≡ suc n → map f xs ≢ []
  some_log [] n long none = absurd (omega (arith, long))
  some_log (x ∷ xs) n long none = cc

  -- where the last element refused, so did the last log
  pub last_refused : (refusal : LogRefusal) (xs : List A) (n : ℕ) (old new : A) → length xs ≡ suc n → old ≡ get_or xs n old → Refused refusal (f old) (f new)
      → LastRefused refusal (map f xs) (map f (set xs n new))
  last_refused refusal xs n old new long at refused = record { some = some_log xs n long; last = last_set (Refused refusal) xs n old new long at refused }

-- what a log took, and what it refused
pub took_of : (notice : Notice) (old new : Logged) (r : Result (Unit {0}) LogRefusal) → OnOk r (IsTrue old.tells → new.notices ≡ old.notices ++ notice ∷ []) → new.tells ≡ old.tells
    → HasCauseOf Failed old.faults new.faults r → OnOk r (Took notice old new)
took_of notice old new (Ok v) taken tells cause = record { tells = tells; notices = taken; faults = cause.done }
took_of notice old new (Err e) taken tells cause = tt

pub refused_of : (old new : Logged) (r : Result (Unit {0}) LogRefusal) → OnErr r (IsTrue old.tells → new.notices ≡ old.notices) → new.tells ≡ old.tells
    → HasCauseOf Failed old.faults new.faults r → IfErr r (λ refusal. Refused refusal old new)
refused_of old new (Ok v) kept tells cause = tt
refused_of old new (Err e) kept tells cause = record {
  tells = tells;
  notices = kept;
  failed = λ is. cause.failed is;
  wanting = λ is. cause.refused (λ (no : e ≡ Failed). let both : Memory ≡ Failed = cc (is, no) in cc both);
}
