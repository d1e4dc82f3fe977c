-- Before a turn of the one aside nobody else stands in its way: by what it wants, and by the lock of all records that
-- was taken for it.
use Rattle.std.proofs.Common.{◌≡◌, ◌≢◌, ℕ, ◌+◌, ◌<◌, ◌≤◌, List, Bool, true, false, nat_le, nat_lt, refl, ap, inl, inr, arith}
use Rattle.std.specs.Prelude.{if◌then◌else◌}
use Rattle.std.proofs.Math.Bool.{and-false}
use Rattle.std.proofs.lemmas.Bool.{cases_lt, eq-eqb, ne_eqb}
use Rattle.std.proofs.lemmas.Bool.Decides.{nat_tests}
use Rattle.tdb_space.specs.Form.{Form}
use Rattle.tdb_locks.specs.declared.piece.Piece.{Piece}
use Rattle.tdb_law.specs.Effects.{IsFree}
use Rattle.tdb_law.specs.Held.{covers, locked_next}
use Rattle.tdb_law.specs.Openers.{Task}
use Rattle.tdb_law.specs.Rows.{commit_locks, lock}
use Rattle.tdb_law.specs.OneAside.Own.{side_wants}
use Rattle.tdb_law.specs.OneAside.Sides.{Past, Side, beside, but_at}
use Rattle.tdb_txn_turns.specs.Holding.{want_of}
use Rattle.tdb_txn_owner.specs.Turned.{MayTurn}
use Rattle.tdb_txn_owner.specs.Wanting.{wanted_by}
use Rattle.tdb_txn_owner.specs.declared.wanting.Wants.{Wants}
use Rattle.tdb_txn_owner.proofs.Waiting.{commit_wants}
use Rattle.tdb_commands.specs.declared.options.Options.{Options}
use Rattle.tdb_openers.specs.Aside.{wants_all}
use Rattle.tdb_openers.specs.States.{state_of, WorldStands}
use Rattle.tdb_openers.specs.Turning.{law_table}
use Rattle.tdb_openers.specs.declared.opener.Opener.{Opener}
use Rattle.tdb_openers.proofs.ExplicitLocks.Aside.{left_apart}
use Rattle.tdb_openers.proofs.Joining.Opening.{low_is_free}

-- a function with another value at one opener, there and elsewhere
pub at_here : {A : Type 0} (here : ℕ) (x : A) (g : ℕ → A) → but_at here x g here ≡ x
at_here here x g = rw (eq-eqb here here refl) refl

pub at_else : {A : Type 0} (here : ℕ) (x : A) (g : ℕ → A) (o : ℕ) → o ≢ here → but_at here x g o ≡ g o
at_else here x g o differs = rw (ne_eqb o here differs) refl

-- whether others leave the records free that a turn wants
abbrev pub LeavesFree : List Piece → ℕ → Wants → Type 0
LeavesFree ps o (Wants.Records kind) = IsFree (law_table ps) o (wants_all kind)
LeavesFree ps o wants = Unit {0}

-- above the free list's byte the opening locks want nothing
high_wants : (numbered : Bool) (b : ℕ) → 164 ≤ b → locked_next (commit_locks numbered) 1 b ≡ 0
high_wants numbered b high =
    let one : nat_lt b 1 ≡ false = grind (arith, nat_tests) in
    let past : nat_lt b 49 ≡ false = grind (arith, nat_tests) in
    let from : nat_le 48 b ≡ true = grind (arith, nat_tests) in
    go numbered one past from
  where
    go : (numbered : Bool) → nat_lt b 1 ≡ false → nat_lt b 49 ≡ false → nat_le 48 b ≡ true → locked_next (commit_locks numbered) 1 b ≡ 0
    go true one past from = rw (one, and-false (nat_le 0 b), from, past) (omega arith)
    go false one past from = rw (one, and-false (nat_le 0 b)) (omega arith)

-- the transaction lock is of one byte
txn_most : (z : Bool) → (if z then 2 else 0) ≤ 2
txn_most true = omega arith
txn_most false = omega arith

txn_high : (b : ℕ) → 164 ≤ b → want_of (lock 0 8 9 2) b ≡ 0
txn_high b high =
    let past : nat_lt b 9 ≡ false = grind (arith, nat_tests) in
    let from : nat_le 8 b ≡ true = grind (arith, nat_tests) in
    rw (from, past) refl

module _ (f : Form) (options : Options) (xs : List Opener) (ps : List Piece) (img : List ℕ) (size : ℕ) (W : WorldStands f options xs ps img size) where
  theirs : (o b : ℕ) → law_table ps o b ≤ 2
  theirs o b = let most = left_apart ps o b in omega (arith, most)

  low : (o b : ℕ) → b < 164 → law_table ps o b ≡ 0
  low o b below = low_is_free f options xs ps img size W (o + 1) b below

  pub free_of : (here : ℕ) (wants : Wants) → LeavesFree ps here wants → (o b : ℕ) → o ≢ here → wanted_by wants b + law_table ps o b ≤ 2
  free_of here Wants.Nothing F o b ne = let most = theirs o b in omega (arith, most)
  free_of here Wants.Transaction F o b ne = elim (cases_lt b 164) [
    | inl below ↦ (let none = low o b below in let most = txn_most (covers (lock 0 8 9 2) b) in omega (arith, none, most))
    | inr high ↦ (let none = txn_high b high in let most = theirs o b in omega (arith, none, most))
  ]
  free_of here (Wants.Records kind) F o b ne = F.free o b ne
  free_of here (Wants.Opening numbered) F o b ne = elim (cases_lt b 164) [
    | inl below ↦ (let none = low o b below in let most = commit_wants numbered 1 b in omega (arith, none, most))
    | inr high ↦ (let none = high_wants numbered b high in let most = theirs o b in omega (arith, none, most))
  ]

  module _ (img2 : List ℕ) (past : Past) (s : Side) (t : Task) (wants : Wants) (wanted : (b : ℕ) → side_wants f s t b ≡ wanted_by wants b) (F : LeavesFree ps s.here wants) where
    abbrev table : ℕ → ℕ → ℕ
    table = (beside (state_of f options xs ps img2) past s).table

    pub may_turn : MayTurn f table s t
    may_turn = record {
      in_table = λ b. ap (λ g. g b) (at_here s.here s.table (law_table ps));
      free = record {
        free = λ o b ne.
            let other : table o b ≡ law_table ps o b = ap (λ (g : ℕ → ℕ). g b) (at_else s.here s.table (law_table ps) o ne) in
            let room = free_of s.here wants F o b ne in let same = wanted b in omega (arith, other, room, same);
      };
    }
