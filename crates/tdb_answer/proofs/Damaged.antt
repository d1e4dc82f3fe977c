-- A file that can't be mended is refused in one way, and one that can isn't.
use Rattle.std.proofs.Common.{◌≡◌, ℕ, ◌≤◌, ◌⊎◌, List, length, Option, None, Some, refl, sym, ◌∙◌, ap, inl, inr, arith}
use Rattle.std.specs.Prelude.{Bool, IfSome}
use Rattle.tdb_disk.specs.History.{History}
use Rattle.tdb_words.specs.declared.what.What.{What}
use Rattle.tdb_words.specs.declared.what.What.TheVariants.{Short, Header as BadHeader}
use Rattle.tdb_space.specs.FirstFault.{Fault}
use Rattle.tdb_mend.specs.Mutexes.{database_in}
use Rattle.tdb_mend.specs.Files.{file_front_fault as front_fault, IsFileMendFault as IsMendFault}
use Rattle.tdb_mend.proofs.Faults.{one_mend_fault}
use Rattle.tdb_open.specs.declared.halt.Refusal.{Refusal}
use Rattle.tdb_open.specs.declared.halt.Refusal.TheVariants.{TooLong, Header, Corrupt, NeedsRecovery}
use Rattle.tdb_open.specs.declared.limits.TheConstants.{LONGEST_FILE}
use Rattle.tdb_answer.specs.declared.ending.Ending.TheVariants.{Refused}
use Rattle.tdb_answer.specs.Commands.Mend.{StaysSynced}
use Rattle.tdb_answer.specs.Damaged.{CanMend, IsUnmendable}
use Rattle.tdb_answer.specs.Ending.{status_of}

-- a fault of the header isn't that the file is short, and no fault is none
not_short : (o : Option Fault) (w : What) (at : ℕ) → o ≡ Some (BadHeader, 0) → w ≡ Short → o ≡ Some (w, at) → ⊥
not_short o w at header short is =
    let x : Fault = (BadHeader, 0) in
    let y : Fault = (w, at) in
    let both : Some x ≡ Some y = sym header ∙ is in
    let same : x ≡ y = cc in
    let kinds : BadHeader ≡ Short = ap (λ (e : Fault). e.0) same ∙ short in cc

not_none : (o : Option Fault) (e : Fault) → o ≡ None → o ≡ Some e → ⊥
not_none o e none is = cc

-- two faults of other parts than the header
corrupt_one : (img : List ℕ) (v w : What) (a b : ℕ) → IsUnmendable img (Corrupt v a) → IsUnmendable img (Corrupt w b) → Corrupt v a ≡ Corrupt w b
corrupt_one img v w a b p q = of p.1 q.1
  where
    of : ((v ≡ Short) × (front_fault img ≡ Some (v, a))) ⊎ ((front_fault img ≡ None) × IsMendFault img (v, a)) → ((w ≡ Short) × (front_fault img ≡ Some (w, b))) ⊎ ((front_fault img ≡ None) × IsMendFault img (w, b)) → Corrupt v a ≡ Corrupt w b
    of (inl s) (inl t) =
        let x : Fault = (v, a) in
        let y : Fault = (w, b) in
        let both : Some x ≡ Some y = sym s.1 ∙ t.1 in
        let same : x ≡ y = cc in ap (λ (e : Fault). Corrupt e.0 e.1) same
    of (inl s) (inr t) = absurd (not_none (front_fault img) (v, a) t.0 s.1)
    of (inr s) (inl t) = absurd (not_none (front_fault img) (w, b) s.0 t.1)
    of (inr s) (inr t) = ap (λ (e : Fault). Corrupt e.0 e.1) ((one_mend_fault (database_in img) (v, a) (w, b) s.1).0 t.1)

-- a fault of the header and another
header_apart : (img : List ℕ) (w : What) (at : ℕ) → front_fault img ≡ Some (BadHeader, 0) → IsUnmendable img (Corrupt w at) → ⊥
header_apart img w at header q = of q.1
  where
    of : ((w ≡ Short) × (front_fault img ≡ Some (w, at))) ⊎ ((front_fault img ≡ None) × IsMendFault img (w, at)) → ⊥
    of (inl s) = not_short (front_fault img) w at header s.0 s.1
    of (inr t) = not_none (front_fault img) (BadHeader, 0) t.0 header

pub unmendable_one : (img : List ℕ) (r s : Refusal) → IsUnmendable img r → IsUnmendable img s → r ≡ s
unmendable_one img (TooLong a) (TooLong b) p q = ap TooLong (p.0 ∙ sym q.0)
unmendable_one img (TooLong a) (Header f) p q = absurd (omega (arith, p.0, p.1, q.0))
unmendable_one img (TooLong a) (Corrupt w at) p q = absurd (omega (arith, p.0, p.1, q.0))
unmendable_one img (Header f) (TooLong b) p q = absurd (omega (arith, q.0, q.1, p.0))
unmendable_one img (Header f) (Header g) p q = let both : Some f ≡ Some g = sym p.2 ∙ q.2 in cc
unmendable_one img (Header f) (Corrupt w at) p q = absurd (header_apart img w at p.1 q)
unmendable_one img (Corrupt v a) (TooLong b) p q = absurd (omega (arith, q.0, q.1, p.0))
unmendable_one img (Corrupt v a) (Header g) p q = absurd (header_apart img v a q.1 p)
unmendable_one img (Corrupt v a) (Corrupt w b) p q = corrupt_one img v w a b p q
unmendable_one img (TooLong a) NeedsRecovery p q = absurd q
unmendable_one img (Header f) NeedsRecovery p q = absurd q
unmendable_one img (Corrupt w at) NeedsRecovery p q = absurd q
unmendable_one img NeedsRecovery s p q = absurd p

pub not_mended : (img : List ℕ) (r : Refusal) → CanMend img → IsUnmendable img r → ⊥
not_mended img (TooLong len) can p = absurd (omega (arith, p.0, p.1, can.within))
not_mended img (Header f) can p = not_none (front_fault img) (BadHeader, 0) can.front p.1
not_mended img (Corrupt w at) can p = of p.1
  where
    of : ((w ≡ Short) × (front_fault img ≡ Some (w, at))) ⊎ ((front_fault img ≡ None) × IsMendFault img (w, at)) → ⊥
    of (inl s) = not_none (front_fault img) (w, at) can.front s.1
    of (inr t) = (one_mend_fault (database_in img) (w, at) (w, at) t.1).1 can.mends
not_mended img NeedsRecovery can p = p

-- one that is no longer than the longest is refused with status 3
pub unmendable_three : (img : List ℕ) (r : Refusal) → IsUnmendable img r → length img ≤ LONGEST_FILE → status_of (Refused r) ≡ 3
unmendable_three img (TooLong len) p short = absurd (omega (arith, p.0, p.1, short))
unmendable_three img (Header f) p short = refl
unmendable_three img (Corrupt w at) p short = refl
unmendable_three img NeedsRecovery p short = refl

-- what holds of a value that is there gives more of it
pub if_some_weaker : (r : Option Bool) (P Q : Bool → Type 0) → ((b : Bool) → P b → Q b) → IfSome r P → IfSome r Q
if_some_weaker None P Q more holds = tt
if_some_weaker (Some b) P Q more holds = more b holds

-- a file that wasn't touched is as it was
pub stays_synced : (held : Option History) → StaysSynced held held
stays_synced None = refl
stays_synced (Some h) = (h, refl, inl refl)
