-- The locks of a commit's row, turn by turn.
use Rattle.std.proofs.Common.{◌≡◌, ◌≢◌, ℕ, ◌+◌, ◌<◌, ◌≤◌, max, List, Bool, true, false, refl, arith, inl, inr, sym, ap, ◌∙◌, ◌==◌, None}
use Rattle.std.specs.Prelude.{if◌then◌else◌}
use Rattle.std.proofs.lemmas.Bool.{cases_Bool, cases_lt, cases_eq, eq-eqb, ne_eqb}
use Rattle.tdb_locks.specs.LockTable.{ChangesRange, held}
use Rattle.tdb_locks.specs.declared.piece.Piece.{Piece}
use Rattle.tdb_law.specs.Rows.{lock, lock_all, commit_locks}
use Rattle.tdb_law.specs.Held.{covers, locked_next}
use Rattle.tdb_law.proofs.Locks.{within_covers}
use Rattle.tdb_steps.specs.Holdings.{strength, table_of}
use Rattle.tdb_txn_turns.specs.Holding.{first_next, want_of, HoldsRow, MayRaise, AttemptMade, NumberMade, OthersHold}
use Rattle.tdb_txn_turns.specs.Prepares.{start_held}
use Rattle.tdb_txn_turns.specs.declared.taking.Attempt.{Attempt}
use Rattle.tdb_txn_turns.specs.declared.taking.Attempt.TheVariants.{Taken, Blocked, Starved}
use Rattle.tdb_txn_turns.proofs.Attempts.{at_most_two}

-- a lock for writing is as strong as any
pub may_write : (turn start end owner : ℕ) (ps : List Piece) → MayRaise (want_of (lock turn start end 2)) owner ps
may_write turn start end owner ps b some = elim (cases_Bool (covers (lock turn start end 2) b)) [
  | inl over ↦ let most = at_most_two (held ps owner b) in let e : want_of (lock turn start end 2) b ≡ 2 = rw over refl in omega (arith, most, e)
  | inr never ↦ absurd (let e : want_of (lock turn start end 2) b ≡ 0 = rw never refl in omega (arith, some, e))
]

-- the first turn wants all records, the second the opening lock, and the sequence number's too where that counts; the
-- others nothing
pub first_wants : (numbered : Bool) (b : ℕ) → locked_next (commit_locks numbered) 0 b ≡ want_of (lock_all 0 2) b
first_wants true b = omega arith
first_wants false b = omega arith

pub second_wants : (b : ℕ) → locked_next (commit_locks false) 1 b ≡ want_of (lock 0 0 1 2) b
second_wants b = omega arith

pub both_wanted : (b : ℕ) → locked_next (commit_locks true) 1 b ≡ max (want_of (lock 0 0 1 2) b) (want_of (lock 1 48 49 2) b)
both_wanted b = omega arith

pub third_wants : (numbered : Bool) (b : ℕ) → locked_next (commit_locks numbered) 2 b ≡ 0
third_wants true b = refl
third_wants false b = refl

pub third_first : (numbered : Bool) (b : ℕ) → first_next (commit_locks numbered) 2 b ≡ 0
third_first true b = refl
third_first false b = refl

pub fourth_wants : (numbered : Bool) (b : ℕ) → locked_next (commit_locks numbered) 3 b ≡ 0
fourth_wants true b = refl
fourth_wants false b = refl

pub fifth_wants : (numbered : Bool) (b : ℕ) → locked_next (commit_locks numbered) 4 b ≡ 0
fifth_wants true b = refl
fifth_wants false b = refl

-- before the second turn nothing is held of the opening lock
pub opening_free : (numbered : Bool) (owner : ℕ) (ps : List Piece) → HoldsRow (commit_locks numbered) start_held owner 1 ps → table_of ps owner 0 ≡ 0
opening_free true owner ps H = H 0
opening_free false owner ps H = H 0

-- beyond the first byte the opening lock wants nothing
opening_bare : (b : ℕ) → b ≢ 0 → want_of (lock 0 0 1 2) b ≡ 0
opening_bare b some = elim (cases_Bool (covers (lock 0 0 1 2) b)) [
  | inl over ↦ absurd (let parts = within_covers (lock 0 0 1 2) b over in some (omega (arith, parts.1)))
  | inr never ↦ rw never refl
]

-- where both are free, the number's first conflict is the first
module _ (owner : ℕ) (old mid new : List Piece) (O : OthersHold owner old mid) (M : AttemptMade (want_of (lock 0 0 1 2)) (want_of (lock 0 0 1 2)) owner old mid Taken) (bare : table_of old owner 0 ≡ 0) where
  pub both_made : (attempt : Attempt) → NumberMade owner mid new attempt → AttemptMade (locked_next (commit_locks true) 1) (first_next (commit_locks true) 1) owner old new attempt
  both_made Taken N = (
    record { free = λ p b differs. let one = M.0.free p b differs in let two = N.0.free p b differs in let same = O p b differs in omega (arith, both_wanted b, one, two, same) },
    λ b. let now = N.1 b in let was = M.1 b in omega (arith, both_wanted b, now, was),
  )
  both_made (Blocked o byte) N = (
    record {
      other = N.0.other;
      conflict = let more = N.0.conflict in let same = O o byte N.0.other in omega (arith, both_wanted byte, more, same);
      least = λ p b differs more. N.0.least p b differs (let one = M.0.free p b differs in let same = O p b differs in omega (arith, both_wanted b, one, more, same));
    },
    λ b. elim (cases_eq b 0) [
      | inl first ↦ (let now = N.1 b in let e : (b == 0) ≡ true = eq-eqb b 0 first in now ∙ rw e refl) ∙ sym bare ∙ ap (table_of old owner) (sym first)
      | inr later ↦ (let now = N.1 b in let e : (b == 0) ≡ false = ne_eqb b 0 later in let was = M.1 b in let none = opening_bare b later in let here : table_of new owner b ≡ table_of mid owner b = now ∙ rw e refl in omega (arith, here, was, none))
    ],
  )
  both_made Starved N = (M.0, N.1)

-- what is held once the opening lock is let go
pub opening_gone : (owner : ℕ) (old new : List Piece) → ChangesRange old new owner 0 1 None → (b : ℕ) → table_of new owner b ≡ (if b == 0 then 0 else table_of old owner b)
opening_gone owner old new C b = elim (cases_eq b 0) [
  | inl first ↦ let e : (b == 0) ≡ true = eq-eqb b 0 first in ap strength (C.inside b (omega arith) (omega (arith, first))) ∙ sym (rw e refl)
  | inr later ↦ let e : (b == 0) ≡ false = ne_eqb b 0 later in ap strength (C.above b (omega (arith, later))) ∙ sym (rw e refl)
]

-- a conflict at the opening lock is before one at the number's
number_late : (b : ℕ) → 0 < want_of (lock 1 48 49 2) b → 48 ≤ b
number_late b some = elim (cases_Bool (covers (lock 1 48 49 2) b)) [
  | inl over ↦ let parts = within_covers (lock 1 48 49 2) b over in parts.0
  | inr never ↦ absurd (let e : want_of (lock 1 48 49 2) b ≡ 0 = rw never refl in omega (arith, some, e))
]

opening_early : (b : ℕ) → 0 < want_of (lock 0 0 1 2) b → b ≡ 0
opening_early b some = elim (cases_eq b 0) [ inl first ↦ first | inr later ↦ absurd (let none = opening_bare b later in omega (arith, some, none)) ]

module _ (owner : ℕ) (old new : List Piece) where
  blocked_both : (o byte : ℕ) → AttemptMade (want_of (lock 0 0 1 2)) (want_of (lock 0 0 1 2)) owner old new (Blocked o byte) → AttemptMade (locked_next (commit_locks true) 1) (first_next (commit_locks true) 1) owner old new (Blocked o byte)
  blocked_both o byte M = (
    record {
      other = M.0.other;
      conflict = let more = M.0.conflict in omega (arith, both_wanted byte, more);
      least = λ p b differs more. elim (cases_lt 2 (want_of (lock 0 0 1 2) b + table_of old p b)) [
        | inl strong ↦ M.0.least p b differs strong
        | inr weak ↦ inl (
            let late = number_late b (let most = at_most_two (held old p b) in omega (arith, both_wanted b, more, weak, most)) in
            let early = opening_early byte (let strong = M.0.conflict in let most = at_most_two (held old o byte) in omega (arith, strong, most)) in
            omega (arith, late, early))
      ];
    },
    M.1,
  )

  alike : (attempt : Attempt) → AttemptMade (want_of (lock 0 0 1 2)) (want_of (lock 0 0 1 2)) owner old new attempt → AttemptMade (locked_next (commit_locks false) 1) (first_next (commit_locks false) 1) owner old new attempt
  alike Taken M = (record { free = λ p b differs. let one = M.0.free p b differs in omega (arith, second_wants b, one) }, λ b. let now = M.1 b in omega (arith, second_wants b, now))
  alike (Blocked o byte) M = (record { other = M.0.other; conflict = let more = M.0.conflict in omega (arith, second_wants byte, more); least = λ p b differs more. M.0.least p b differs (omega (arith, second_wants b, more)) }, M.1)
  alike Starved M = M

  -- the opening lock alone, where the number doesn't count or the attempt failed
  pub one_made : (numbered : Bool) (attempt : Attempt) → ((numbered ≡ true) × (attempt ≡ Taken) → ⊥) → AttemptMade (want_of (lock 0 0 1 2)) (want_of (lock 0 0 1 2)) owner old new attempt
      → AttemptMade (locked_next (commit_locks numbered) 1) (first_next (commit_locks numbered) 1) owner old new attempt
  one_made false attempt never M = alike attempt M
  one_made true Taken never M = absurd (never (refl, refl))
  one_made true (Blocked o byte) never M = blocked_both o byte M
  one_made true Starved never M = M
