-- What an opener holds before a turn of a check, and before one that asks for the sequence number.
use Rattle.std.proofs.Common.{◌≡◌, ℕ, ◌+◌, ◌<◌, ◌≤◌, ◌⊎◌, max, List, Bool, true, false, nat_lt, None, is_some, refl, ap, inl, inr, arith}
use Rattle.std.specs.Prelude.{◌&&◌, ◌||◌, if◌then◌else◌}
use Rattle.tdb_space.specs.Form.{Form}
use Rattle.tdb_locks.specs.HeldLocks.{HeldLocks, AreCounts}
use Rattle.tdb_locks.specs.LockTable as Table
use Rattle.tdb_locks.specs.declared.piece.Piece.{Piece}
use Rattle.tdb_law.specs.Commands.Command.{OnMap, Seqnum}
use Rattle.tdb_law.specs.Commands.MapCommand.{Check}
use Rattle.tdb_law.specs.Openers.{Own}
use Rattle.tdb_law.specs.Refusals.{refusal}
use Rattle.tdb_law.specs.Rows.{locks_by}
use Rattle.tdb_law.specs.Held.{covers, held, locked, kept}
use Rattle.tdb_law.specs.World.{HasFewChains}
use Rattle.tdb_law.proofs.Covered.{none_held}
use Rattle.tdb_law.proofs.Locks.{within_covers}
use Rattle.tdb_commands.specs.declared.command.Command.TheVariants as Given
use Rattle.tdb_steps.specs.LockRows.{locks_in, lock_of, start_of, end_of, AllStandAlone}
use Rattle.tdb_steps.specs.declared.rows.LockRow.{LockRow}
use Rattle.std.proofs.lemmas.Bool.{false_from_ne_true}
use Rattle.tdb_steps.specs.Holdings.{table_of, HoldsBefore}
use Rattle.tdb_commands.specs.declared.options.Options.{Options}
use Rattle.tdb_openers.specs.Openers.{AtRest, own_with}
use Rattle.tdb_openers.specs.Given.{holds_chains}
use Rattle.tdb_openers.specs.Turning.{OpenerHolds, resting}
use Rattle.tdb_openers.specs.Checked.{check_locks, all_lock, free_lock}
use Rattle.tdb_openers.specs.Ended.{MayCount}
use Rattle.tdb_openers.proofs.ExplicitLocks.Beside.{beside_all, beside_free, below_bare, not_first, not_second}
use Rattle.tdb_openers.proofs.ExplicitLocks.Granted.{untold_of, not_told, none_held_there}
use Rattle.tdb_openers.proofs.ExplicitLocks.Shifted.{apart_table}

none_if : (s t : Bool) → t ≡ false → ◌≡◌ {A = ℕ} (if s && t then 1 else 0) 0
none_if true t e = rw e refl
none_if false t e = refl

-- a lock of a row covers no byte outside its region
bare_lock : (r : LockRow) (b : ℕ) → (b < start_of r.region) ⊎ (end_of r.region ≤ b) → covers (lock_of r) b ≡ false
bare_lock r b out = false_from_ne_true (covers (lock_of r) b) (λ e. let parts = within_covers (lock_of r) b e in elim out [ inl low ↦ omega (arith, low, parts.0) | inr past ↦ omega (arith, past, parts.1) ])

-- the byte before the lock of the sequence number is free
pub number_alone : (f : Form) (options : Options) (live : Bool) (old : HeldLocks) (rest : AtRest) (who : ℕ) (ps : List Piece) → MayCount f options live old rest who ps → Table.held ps (who + 1) 47 ≡ None
number_alone f options live old rest who ps M =
    none_held_there (Table.held ps (who + 1) 47) (let whole = M.holds.holds 47 in let none = none_held f Seqnum (own_with options live old rest) (resting rest) 47 in let bare = below_bare f M.few options live old rest M.counts M.holds.rests 47 (omega arith) in omega (arith, whole, none, bare))

module _ (f : Form) (few : HasFewChains f) (options : Options) (live : Bool) (old : HeldLocks) (rest : AtRest) (counts : AreCounts old.chains) (n who : ℕ) (ps : List Piece)
    (R : refusal f (OnMap Check) (own_with options live old rest) ≡ None) (H : OpenerHolds f (own_with options live old rest) (resting rest) (OnMap Check) n who ps) where
  abbrev x : Own
  x = own_with options live old rest

  -- what the steps so far have locked is that of the rows
  locked_is : (b : ℕ) → held f (OnMap Check) x (resting rest) n b ≡ locked (locks_in check_locks) n b
  unfolding held
  locked_is b = ap (λ q. locked (locks_by f q (OnMap Check) x false) n b) R

  whole : (b : ℕ) → table_of ps (who + 1) b ≡ max (locked (locks_in check_locks) n b) (kept f x (resting rest) b)
  whole b = let h = H.holds b in let l = locked_is b in omega (arith, h, l)

  nothing_stands : (holds_chains old ≡ false) × (is_some rest.shown ≡ false)
  nothing_stands = let none = not_told (holds_chains old || is_some rest.shown) _ (untold_of f options live old rest counts Given.Check R) in (not_first (holds_chains old) (is_some rest.shown) none, not_second (holds_chains old) (is_some rest.shown) none)

  pub check_before : HoldsBefore old (kept f x (resting rest)) (who + 1) n ps check_locks
  check_before = record {
    holds = whole;
    apart = apart_table f x x (resting rest) (resting rest) (OnMap Check) n who ps ps H;
    first = beside_all f few options live old rest counts H.rests 0 _ (λ k. absurd (cc k)) (λ bare. nothing_stands);
    second = beside_free f few options live old rest counts H.rests 1 _;
  }

  -- the bytes before the two locks are free
  unlocked : (b : ℕ) → (b ≡ 167) ⊎ (b ≡ 163) → locked (locks_in check_locks) n b ≡ 0
  unlocked b (inl e) =
      let one = none_if (nat_lt 0 n) _ (bare_lock all_lock b (inl (omega (arith, e)))) in
      let two = none_if (nat_lt 1 n) _ (bare_lock free_lock b (inr (omega (arith, e)))) in
      omega (arith, one, two)
  unlocked b (inr e) =
      let one = none_if (nat_lt 0 n) _ (bare_lock all_lock b (inl (omega (arith, e)))) in
      let two = none_if (nat_lt 1 n) _ (bare_lock free_lock b (inl (omega (arith, e)))) in
      omega (arith, one, two)

  free_at : (b : ℕ) → (b ≡ 167) ⊎ (b ≡ 163) → Table.held ps (who + 1) b ≡ None
  free_at b e = none_held_there (Table.held ps (who + 1) b) (let w = whole b in let u = unlocked b e in let bare = below_bare f few options live old rest counts H.rests b (elim e [ inl a ↦ omega (arith, a) | inr a ↦ omega (arith, a) ]) in omega (arith, w, u, bare))

  pub check_alone : AllStandAlone old (who + 1) ps check_locks
  check_alone = record { first = λ bare b next. free_at b (inl (omega (arith, next))); second = λ bare b next. free_at b (inr (omega (arith, next))) }
