-- From the numbers of the lock table to those of the law, and what a turn makes of the table.
use Rattle.std.proofs.Common.{◌≡◌, ◌≢◌, ℕ, ◌+◌, ◌-◌, ◌<◌, ◌≤◌, max, List, Option, Some, None, refl, ◌∙◌, ap, inl, inr, arith, zero-le, le_refl, subst, suc, zero}
use Rattle.std.proofs.lemmas.Bool.{cases_eq}
use Rattle.tdb_space.specs.Form.{Form}
use Rattle.tdb_locks.specs.LockTable.{held}
use Rattle.tdb_locks.specs.declared.kind.Kind.{Kind}
use Rattle.tdb_locks.specs.declared.kind.Kind.TheVariants.{Read, Write}
use Rattle.tdb_locks.specs.declared.piece.Piece.{Piece}
use Rattle.tdb_law.specs.Commands.{Command, Turn}
use Rattle.tdb_law.specs.Openers.{Own, Spot}
use Rattle.tdb_law.specs.Ends.{IsRow}
use Rattle.tdb_law.specs.Held.{holding}
use Rattle.tdb_law.specs.Effects.{IsFree, IsFirstConflict, task_left}
use Rattle.tdb_steps.specs.Holdings.{strength, table_of}
use Rattle.tdb_openers.specs.Turning.{law_table, OpenerHolds, TurnsLocks}

-- nobody holds a byte more strongly than for writing
pub at_most_two : (o : Option Kind) → strength o ≤ 2
at_most_two None = zero-le
at_most_two (Some Read) = omega arith
at_most_two (Some Write) = le_refl 2

module _ (ps : List Piece) (who : ℕ) (want : ℕ → ℕ) where
  pub free_law : IsFree (table_of ps) (who + 1) want → IsFree (law_table ps) who want
  free_law F = record { free = λ p b differs. F.free (p + 1) b (λ e. differs (omega (arith, e))) }

  -- the first conflict is of an opener, since nobody has number 0
  pub first_law : (o byte : ℕ) → ((b : ℕ) → table_of ps 0 b ≡ 0) → want byte ≤ 2 → IsFirstConflict (table_of ps) (who + 1) want o byte → IsFirstConflict (law_table ps) who want (o - 1) byte
  first_law o byte none most F = record {
    other = λ e. F.other (omega (arith, some, e));
    conflict = let strong = F.conflict in let same = ap (λ q. table_of ps q byte) back in omega (arith, strong, same);
    least = λ p b differs more. elim (F.least (p + 1) b (λ e. differs (omega (arith, e))) more) [ inl sooner ↦ inl sooner | inr same ↦ inr (same.0, let less = same.1 in omega (arith, less)) ];
  }
    where
      some : 0 < o
      some = elim (cases_eq o 0) [
        | inl e ↦ absurd (let strong = F.conflict in let same = ap (λ q. table_of ps q byte) e in let zero_here = none byte in omega (arith, strong, same, zero_here, most))
        | inr differs ↦ omega (arith, differs)
      ]

      back : o - 1 + 1 ≡ o
      back = omega (arith, some)

module _ (f : Form) (x y : Own) (s z : Spot) (c : Command) (n who : ℕ) (old new : List Piece) (H : OpenerHolds f x s c n who old) where
  -- the opener holds no more than it held
  pub apart_less : ((b : ℕ) → law_table new who b ≤ law_table old who b) → (o b : ℕ) → o ≢ who → law_table new who b + law_table old o b ≤ 2
  apart_less less o b differs = let room = H.apart o b differs in let l = less b in omega (arith, room, l)

  -- or at most what it wanted besides, which was free
  pub apart_free : (want : ℕ → ℕ) → IsFree (law_table old) who want → ((b : ℕ) → law_table new who b ≤ max (law_table old who b) (want b)) → (o b : ℕ) → o ≢ who → law_table new who b + law_table old o b ≤ 2
  apart_free want F most o b differs = let room = H.apart o b differs in let more = F.free o b differs in let m = most b in omega (arith, room, more, m)

  pub turned_locks : (turn : Turn) → IsRow f c x n turn → ((b : ℕ) → law_table new who b ≡ holding f y z (task_left c n turn) b) → ((o b : ℕ) → o ≢ who + 1 → table_of new o b ≡ table_of old o b)
      → ((o b : ℕ) → o ≢ who → law_table new who b + law_table old o b ≤ 2) → TurnsLocks f x y z c n (task_left c n turn) who old new turn
  turned_locks turn row holds others apart = record {
    row = row;
    leaves = refl;
    holds = holds;
    others = λ o b differs. others (o + 1) b (λ e. differs (omega (arith, e)));
    apart = λ o b differs. let room = apart o b differs in let same = others (o + 1) b (λ e. differs (omega (arith, e))) in omega (arith, room, same);
    numbered = λ b. others 0 b (λ e. omega (arith, e)) ∙ H.numbered b;
  }

  -- two openers of the table don't conflict
  pub apart_table : (o b : ℕ) → o ≢ who + 1 → table_of old (who + 1) b + table_of old o b ≤ 2
  apart_table zero b differs = let none = H.numbered b in let most = at_most_two (held old (who + 1) b) in omega (arith, none, most)
  apart_table (suc o) b differs = subst (λ q. table_of old (who + 1) b + table_of old q b ≤ 2) (omega arith) (H.apart o b (λ e. differs (omega (arith, e))))
