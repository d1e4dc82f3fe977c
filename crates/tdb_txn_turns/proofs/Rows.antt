-- A turn that takes what its row wants leaves what the row says.
use Rattle.std.proofs.Common.{◌≡◌, ℕ, List, Bool, true, false, refl, arith, ◌∙◌}
use Rattle.tdb_locks.specs.declared.piece.Piece.{Piece}
use Rattle.tdb_law.specs.Commands.Reply.{Done}
use Rattle.tdb_law.specs.Commands.Turn.{Step, Ends}
use Rattle.tdb_law.specs.Rows.{Lock}
use Rattle.tdb_law.specs.Held.{locked_next}
use Rattle.tdb_law.specs.Effects.{IsFirstConflict, IsFree}
use Rattle.tdb_steps.specs.Holdings.{table_of}
use Rattle.tdb_steps.proofs.Holdings.{next_turn, idle_free}
use Rattle.tdb_txn_turns.specs.Holding.{attempt_turn, first_next, held_after, AttemptMade, HoldsRow, OthersHold, RowTurned}
use Rattle.tdb_txn_turns.specs.declared.taking.Attempt.{Attempt}
use Rattle.tdb_txn_turns.specs.declared.taking.Attempt.TheVariants.{Taken, Blocked, Starved}

-- what is wanted alike is free alike, and has the same first conflict
free_alike : (table : ℕ → ℕ → ℕ) (who : ℕ) (want like : ℕ → ℕ) → ((b : ℕ) → like b ≡ want b) → IsFree table who want → IsFree table who like
free_alike table who want like same F = record { free = λ p b differs. let e = same b in let room = F.free p b differs in omega (arith, e, room) }

first_alike : (table : ℕ → ℕ → ℕ) (who : ℕ) (want like : ℕ → ℕ) (o byte : ℕ) → ((b : ℕ) → like b ≡ want b) → IsFirstConflict table who want o byte → IsFirstConflict table who like o byte
first_alike table who want like o byte same F = record {
  other = F.other;
  conflict = let e = same byte in let more = F.conflict in omega (arith, e, more);
  least = λ p b differs more. F.least p b differs (let e = same b in omega (arith, e, more));
}

module _ (stays : Bool) (row : List Lock) (kept : ℕ → ℕ) (owner n : ℕ) (old new : List Piece) (want first : ℕ → ℕ) (wants : (b : ℕ) → locked_next row n b ≡ want b) (firsts : (b : ℕ) → first_next row n b ≡ first b) (H : HoldsRow row kept owner n old) (O : OthersHold owner old new) where
  at_end : (s : Bool) (b : ℕ) → table_of new owner b ≡ 0 → table_of new owner b ≡ held_after s row kept n (attempt_turn Starved) b
  at_end true b none = none
  at_end false b none = none

  pub row_turned : (attempt : Attempt) → AttemptMade want first owner old new attempt → RowTurned stays row kept owner n old new (attempt_turn attempt)
  row_turned Taken made = record {
    holds = λ b. let now = made.1 b in let was = H b in let more = next_turn row n b in let e = wants b in omega (arith, now, was, more, e);
    others = O;
    rightly = free_alike (table_of old) owner want (locked_next row n) wants made.0;
  }
  row_turned (Blocked o byte) made = record {
    holds = λ b. made.1 b ∙ H b;
    others = O;
    rightly = first_alike (table_of old) owner want (locked_next row n) o byte wants made.0;
  }
  row_turned Starved made = record {
    holds = λ b. at_end stays b (made.1 b);
    others = O;
    rightly = free_alike (table_of old) owner first (first_next row n) firsts made.0;
  }

-- an end without a want, after which the opener holds what it held
pub row_stays : (row : List Lock) (kept : ℕ → ℕ) (owner n : ℕ) (old : List Piece) → HoldsRow row kept owner n old → ((b : ℕ) → locked_next row n b ≡ 0)
    → RowTurned true row kept owner n old old (Ends Done)
row_stays row kept owner n old H none = record {
  holds = H;
  others = λ o b differs. refl;
  rightly = idle_free old owner (locked_next row n) none;
}

-- a step without a want
pub row_steps : (stays : Bool) (row : List Lock) (kept : ℕ → ℕ) (owner n : ℕ) (old : List Piece) → HoldsRow row kept owner n old → ((b : ℕ) → locked_next row n b ≡ 0)
    → RowTurned stays row kept owner n old old Step
row_steps stays row kept owner n old H none = record {
  holds = λ b. let was = H b in let more = next_turn row n b in let e = none b in omega (arith, was, more, e);
  others = λ o b differs. refl;
  rightly = idle_free old owner (locked_next row n) none;
}
