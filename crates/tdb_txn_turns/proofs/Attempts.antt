-- What an opener holds where it takes a range, is blocked, or finds no memory.
use Rattle.std.proofs.Common.{◌≡◌, ◌≢◌, ℕ, ◌+◌, ◌<◌, ◌≤◌, List, true, false, Option, None, Some, ap, inl, inr, ◌⊎◌, refl, arith}
use Rattle.std.proofs.lemmas.Bool.{cases_lt, false_from_ne_true}
use Rattle.tdb_locks.specs.LockTable.{ChangesRange, held}
use Rattle.tdb_locks.specs.LockTable as Table
use Rattle.tdb_locks.specs.declared.kind.Kind.{Kind}
use Rattle.tdb_locks.specs.declared.kind.Kind.TheVariants.{Read, Write}
use Rattle.tdb_locks.specs.declared.piece.Piece.{Piece}
use Rattle.tdb_locks.proofs.Strengths as Kinds
use Rattle.tdb_law.specs.Rows.{lock}
use Rattle.tdb_law.specs.Held.{covers}
use Rattle.tdb_law.specs.Effects.{IsFirstConflict, IsFree}
use Rattle.tdb_law.proofs.Locks.{within_covers, covers_within}
use Rattle.tdb_steps.specs.LockRows.{strength_of}
use Rattle.tdb_steps.specs.Holdings.{strength, table_of}
use Rattle.tdb_txn_turns.specs.Holding.{want_of, MayRaise, AttemptMade}
use Rattle.tdb_txn_turns.specs.declared.taking.Attempt.TheVariants as Attempt

-- the strength of a kind is that of the lock table
same_strength : (o : Option Kind) → strength o ≡ Kinds.strength o
same_strength None = refl
same_strength (Some Read) = refl
same_strength (Some Write) = refl

pub at_most_two : (o : Option Kind) → strength o ≤ 2
at_most_two o = let e = same_strength o in omega (arith, e, Kinds.strength-le o)

module _ (old : List Piece) (owner start end : ℕ) (kind : Kind) where
  abbrev pub want : ℕ → ℕ
  want = want_of (lock 0 start end (strength_of kind))

  abbrev Inside : ℕ → Type 0
  Inside b = (start ≤ b) × (b < end) × (want b ≡ strength_of kind)

  abbrev Outside : ℕ → Type 0
  Outside b = ((b < start) ⊎ (end ≤ b)) × (want b ≡ 0)

  place : (b : ℕ) → Inside b ⊎ Outside b
  place b = elim (cases_lt b start) [
    | inl low ↦ inr (inl low, bare (λ e. let parts = within_covers (lock 0 start end (strength_of kind)) b e in omega (arith, low, parts.0)))
    | inr from ↦ elim (cases_lt b end) [
      | inl to ↦ inl (from, to, let e : covers (lock 0 start end (strength_of kind)) b ≡ true = covers_within (lock 0 start end (strength_of kind)) b from to in rw e refl)
      | inr past ↦ inr (inr past, bare (λ e. let parts = within_covers (lock 0 start end (strength_of kind)) b e in omega (arith, past, parts.1)))
    ]
  ]
    where
      bare : (covers (lock 0 start end (strength_of kind)) b ≡ true → ⊥) → want b ≡ 0
      bare never = let e : covers (lock 0 start end (strength_of kind)) b ≡ false = false_from_ne_true (covers (lock 0 start end (strength_of kind)) b) never in rw e refl

  -- a range that is free conflicts with nothing
  free : Table.IsFree old owner start end kind → IsFree (table_of old) owner want
  free none = record { free = at }
    where
      at : (p b : ℕ) → p ≢ owner → want b + table_of old p b ≤ 2
      at p b differs = elim (place b) [
        | inl inside ↦
            let room = Kinds.strength-free old owner start end kind none p b differs inside.0 inside.1 in
            let one = same_strength (held old p b) in
            let two = same_strength (Some kind) in
            omega (arith, room, one, two, inside.2)
        | inr outside ↦ let most = at_most_two (held old p b) in omega (arith, outside.1, most)
      ]

  -- the first conflict in the range is that of what is wanted
  first : (other byte : ℕ) (there : Kind) → Table.IsFirstConflict old owner start end kind other byte there → IsFirstConflict (table_of old) owner want other byte
  first other byte there F = record { other = F.conflict.other_owner; conflict = strong; least = least }
    where
      strong : 2 < want byte + table_of old other byte
      strong = elim (place byte) [
        | inl inside ↦
            let more = Kinds.kinds_conflict-strength there kind F.conflict.writes in
            let one = same_strength (Some there) in
            let two = same_strength (Some kind) in
            let holds : table_of old other byte ≡ strength (Some there) = ap strength F.conflict.holds in
            omega (arith, inside.2, more, one, two, holds)
        | inr outside ↦ absurd (let from = F.conflict.from_start in let to = F.conflict.before_end in elim outside.0 [ inl low ↦ omega (arith, low, from) | inr past ↦ omega (arith, past, to) ])
      ]

      at : (p b : ℕ) → p ≢ owner → 2 < want b + table_of old p b → (o : Option Kind) → held old p b ≡ o → (byte < b) ⊎ ((byte ≡ b) × (other ≤ p))
      at p b differs more None holds = let none : table_of old p b ≡ 0 = ap strength holds in let most = at_most_two (Some kind) in absurd (elim (place b) [ inl inside ↦ omega (arith, more, none, most, inside.2) | inr outside ↦ omega (arith, more, none, outside.1) ])
      at p b differs more (Some k) holds = elim (place b) [
        | inl inside ↦
            let seen : table_of old p b ≡ strength (Some k) = ap strength holds in
            let one = same_strength (Some k) in
            let two = same_strength (Some kind) in
            F.least p b k (record { other_owner = differs; from_start = inside.0; before_end = inside.1; holds = holds; writes = Kinds.strength-kinds_conflict k kind (omega (arith, more, seen, one, two, inside.2)) })
        | inr outside ↦ let most = at_most_two (held old p b) in absurd (omega (arith, more, outside.1, most))
      ]

      least : (p b : ℕ) → p ≢ owner → 2 < want b + table_of old p b → (byte < b) ⊎ ((byte ≡ b) × (other ≤ p))
      least p b differs more = at p b differs more (held old p b) refl

  pub taken_made : (new : List Piece) → MayRaise want owner old → Table.IsFree old owner start end kind → ChangesRange old new owner start end (Some kind) → AttemptMade want want owner old new Attempt.Taken
  taken_made new low none C = (
    free none,
    λ b. elim (place b) [
      | inl inside ↦
          let now : table_of new owner b ≡ strength_of kind = ap strength (C.inside b inside.0 inside.1) in
          let some = strength_some kind in
          let less = low b (omega (arith, inside.2, some)) in
          omega (arith, now, less, inside.2)
      | inr outside ↦ let same : table_of new owner b ≡ table_of old owner b = ap strength (elim outside.0 [ inl below ↦ C.below b below | inr above ↦ C.above b above ]) in omega (arith, same, outside.1)
    ],
  )
    where
      strength_some : (k : Kind) → 0 < strength_of k
      strength_some Read = omega arith
      strength_some Write = omega arith

  pub blocked_made : (new : List Piece) (other byte : ℕ) (there : Kind) → Table.IsFirstConflict old owner start end kind other byte there → new ≡ old → AttemptMade want want owner old new (Attempt.Blocked other byte)
  blocked_made new other byte there F same = (first other byte there F, λ b. ap (λ ps. table_of ps owner b) same)

  pub starved_made : (new : List Piece) → Table.IsFree old owner start end kind → ((b : ℕ) → held new owner b ≡ None) → AttemptMade want want owner old new Attempt.Starved
  starved_made new none gone = (free none, λ b. ap strength (gone b))
