-- Kinds as numbers: two owners may share a byte exactly where their strengths add up to 2 at most.
use Rattle.std.proofs.Common.{◌≡◌, ◌≢◌, ◌≤◌, ◌<◌, ◌+◌, List, None, Option, Some, arith, true, refl, ℕ, inl, inr}
use Rattle.std.proofs.lemmas.Bool.{cases_lt, false≢true}
use Rattle.tdb_locks.specs.LockTable.{IsFree, held, kinds_conflict}
use Rattle.tdb_locks.specs.declared.kind.Kind.TheVariants.{Read, Write}
use Rattle.tdb_locks.specs.declared.kind.Kind.{Kind}
use Rattle.tdb_locks.specs.declared.piece.Piece.{Piece}

-- how strongly a kind is held: 0 for none, 1 for reading, 2 for writing
abbrev pub strength : Option Kind → ℕ
strength None = 0
strength (Some Read) = 1
strength (Some Write) = 2

pub strength-le : (o : Option Kind) → strength o ≤ 2
strength-le None = omega arith
strength-le (Some Read) = omega arith
strength-le (Some Write) = omega arith

pub kinds_conflict-strength : (a b : Kind) → kinds_conflict a b ≡ true → 2 < strength (Some a) + strength (Some b)
kinds_conflict-strength Read Read conflict = absurd (false≢true conflict)
kinds_conflict-strength Read Write conflict = omega arith
kinds_conflict-strength Write Read conflict = omega arith
kinds_conflict-strength Write Write conflict = omega arith

pub strength-kinds_conflict : (a b : Kind) → 2 < strength (Some a) + strength (Some b) → kinds_conflict a b ≡ true
strength-kinds_conflict Read Read strong = absurd (omega arith)
strength-kinds_conflict Read Write strong = refl
strength-kinds_conflict Write Read strong = refl
strength-kinds_conflict Write Write strong = refl

-- where nothing conflicts, another owner's strength leaves room for the wanted one
pub strength-free : (ps : List Piece) (owner start end : ℕ) (want : Kind) → IsFree ps owner start end want → (other byte : ℕ) → other ≢ owner → start ≤ byte → byte < end → strength (held ps other byte) + strength (Some want) ≤ 2
strength-free ps owner start end want free other byte differs low high = at (held ps other byte) refl
  where
    room : (k : Kind) → (kinds_conflict k want ≡ true → ⊥) → strength (Some k) + strength (Some want) ≤ 2
    room k none = elim (cases_lt 2 (strength (Some k) + strength (Some want))) [ inl strong ↦ absurd (none (strength-kinds_conflict k want strong)) | inr weak ↦ weak ]

    at : (o : Option Kind) → held ps other byte ≡ o → strength o + strength (Some want) ≤ 2
    at None holds = omega (arith, strength-le (Some want))
    at (Some k) holds = room k (λ writes. free.free other byte k (record { other_owner = differs; from_start = low; before_end = high; holds = holds; writes = writes }))
