-- The turns of a check, in the words of plain commands.
use Rattle.std.proofs.Common.{◌≡◌, ℕ, ◌≤◌, max, List, Bool, true, false, Some, refl, sym, ◌∙◌, ap, subst, arith, zero-le, le_refl}
use Rattle.std.specs.Prelude.{if◌then◌else◌}
use Rattle.std.specs.FinMap.{len}
use Rattle.tdb_space.specs.Form.{Form}
use Rattle.tdb_locks.specs.HeldLocks.{HeldLocks}
use Rattle.tdb_locks.specs.declared.piece.Piece.{Piece}
use Rattle.tdb_locks.specs.declared.turn.Turn.{Turn}
use Rattle.tdb_locks.specs.declared.turn.Turn.TheVariants.{Step, Blocked, Done}
use Rattle.tdb_law.specs.Commands as Law
use Rattle.tdb_law.specs.Commands.Command.{OnMap}
use Rattle.tdb_law.specs.Commands.MapCommand.{Check}
use Rattle.tdb_law.specs.Commands.Reply.{Memory}
use Rattle.tdb_law.specs.Commands.Turn.{Ends}
use Rattle.tdb_law.specs.Openers.{Map}
use Rattle.tdb_law.specs.Held.{locked, locked_next}
use Rattle.tdb_steps.specs.LockRows.{start_of, end_of, is_covered, strength_of, locks_in}
use Rattle.tdb_steps.specs.Holdings.{table_of, HoldsBefore, KeptBeside, LocksTurned}
use Rattle.tdb_steps.specs.PlainCommands.{turn_of, reply_of, IsMapOf}
use Rattle.tdb_steps.specs.Machines.{MapTurned}
use Rattle.tdb_steps.specs.Memory.{StarvesOutside, may_starve}
use Rattle.tdb_steps.specs.Machines.MapTurned.{map_waits, map_goes_on, map_answers, map_starves}
use Rattle.tdb_steps.specs.declared.rows.LockRow.{LockRow}
use Rattle.tdb_steps.proofs.Holdings.{want, lock_free, lock_blocked, lock_holds, let_go_holds, let_go_others, others_changed}
use Rattle.tdb_openers.specs.declared.job.Checking.{Checking}
use Rattle.tdb_openers.specs.declared.job.Checking.TheVariants as Checkings
use Rattle.tdb_openers.specs.Openers.{CheckAfter}
use Rattle.tdb_openers.specs.Checked.{all_lock, free_lock, check_locks, CheckLocks}

small : (t : Bool) → (if t then 1 else 0) ≤ 1
small true = le_refl 1
small false = zero-le

both_small : (x y : ℕ) → x ≤ 1 → y ≤ 1 → max x (max y 0) ≤ 1
both_small x y a b = omega (arith, a, b)

-- nothing is locked more strongly than for reading
low : (n b : ℕ) → locked (locks_in check_locks) n b ≤ 1
low n b = both_small _ _ (small _) (small _)

max_none : (x : ℕ) → max x 0 ≡ x
max_none x = omega arith

none_max : (x : ℕ) → max 0 (max x 0) ≡ x
none_max x = omega arith

-- what the first two turns want, and that the next two want nothing
next_all : (n b : ℕ) → n ≡ 0 → locked_next (locks_in check_locks) n b ≡ want all_lock b
next_all n b is = subst (λ x. locked_next (locks_in check_locks) x b ≡ want all_lock b) (sym is) (max_none (want all_lock b))

next_free : (n b : ℕ) → n ≡ 1 → locked_next (locks_in check_locks) n b ≡ want free_lock b
next_free n b is = subst (λ x. locked_next (locks_in check_locks) x b ≡ want free_lock b) (sym is) (none_max (want free_lock b))

module _ (held : HeldLocks) (kept : ℕ → ℕ) (owner n : ℕ) (ps qs : List Piece) (H : HoldsBefore held kept owner n ps check_locks) where
  -- a turn that takes a lock
  row_table : (r : LockRow) → strength_of r.kind ≡ 1 → KeptBeside held kept r → ((b : ℕ) → locked_next (locks_in check_locks) n b ≡ want r b) → (turn : Turn) → CheckLocks held owner ps qs r turn → LocksTurned (locks_in check_locks) kept owner n ps qs (turn_of turn)
  row_table r reads K next Step T = record {
    holds = lock_holds held kept owner n ps check_locks H r K next qs (λ b. let l = low n b in omega (arith, l, reads)) T.covered T.bare;
    others = others_changed (is_covered held r) ps qs owner (start_of r.region) (end_of r.region) (Some r.kind) T.covered T.bare;
    rightly = lock_free held kept owner n ps check_locks H r K next T.free;
  }
  row_table r reads K next (Blocked other byte) T = record {
    holds = λ b. ap (λ t. table_of t owner b) T.0 ∙ H.holds b;
    others = λ o b differs. ap (λ t. table_of t o b) T.0;
    rightly = lock_blocked held kept owner n ps check_locks H r K next other byte T.1.0 T.1.1;
  }
  row_table r reads K next (Done reply) T = record {
    holds = let_go_holds held kept owner n ps qs all_lock (Some free_lock) H T.2;
    others = let_go_others held kept owner n ps qs all_lock (Some free_lock) T.2;
    rightly = lock_free held kept owner n ps check_locks H r K next (λ bare. T.1);
  }

  pub all_table : n ≡ 0 → (turn : Turn) → CheckLocks held owner ps qs all_lock turn → LocksTurned (locks_in check_locks) kept owner n ps qs (turn_of turn)
  all_table is turn T = row_table all_lock refl H.first (λ b. next_all n b is) turn T

  pub free_table : n ≡ 1 → (turn : Turn) → CheckLocks held owner ps qs free_lock turn → LocksTurned (locks_in check_locks) kept owner n ps qs (turn_of turn)
  free_table is turn T = row_table free_lock refl H.second (λ b. next_free n b is) turn T

-- the turns of the first two locks
module _ (f : Form) (img : List ℕ) (m : Map) (is : IsMapOf f img m) (n : ℕ) where
  pub lock_map : (held : HeldLocks) (owner : ℕ) (ps qs : List Piece) (r : LockRow) (turn : Turn) → CheckLocks held owner ps qs r turn → MapTurned f img Check n m (turn_of turn)
  lock_map held owner ps qs r Step T = map_goes_on refl refl is
  lock_map held owner ps qs r (Blocked other byte) T = map_waits other byte refl refl is
  lock_map held owner ps qs r (Done reply) T = map_starves (ap (λ q. Law.Turn.Ends (reply_of q)) T.0) refl is

  pub number_map : (keys : ℕ) → 1 ≤ n → keys ≡ len m → MapTurned f img Check n m (Law.Turn.Ends (Law.Reply.Number keys))
  number_map keys some e = map_answers (Law.Reply.Number keys) refl some refl (ap Law.Reply.Number e) is

-- memory is wanting for a lock or for the count
map_so : {b c : Law.MapCommand} → OnMap b ≡ OnMap c → b ≡ c
map_so e = cc

check_early : (f : Form) (checking : Checking) (n : ℕ) → ((keys : ℕ) → checking ≡ Checkings.Counted keys → ⊥) → CheckAfter checking n → may_starve f Check n ≡ true
check_early f Checkings.Begun n early at = ap (may_starve f Check) at
check_early f Checkings.Records n early at = ap (may_starve f Check) at
check_early f Checkings.FreeList n early at = ap (may_starve f Check) at
check_early f (Checkings.Counted keys) n early at = absurd (early keys refl)

pub check_starves : (f : Form) (checking : Checking) (n : ℕ) (turn : Law.Turn) → ((keys : ℕ) → checking ≡ Checkings.Counted keys → turn ≡ Ends Memory → ⊥) → CheckAfter checking n → StarvesOutside f (record { command = OnMap Check; steps = n }) turn
check_starves f checking n turn early at c on e = subst (λ x. may_starve f x n ≡ true) (map_so on) (check_early f checking n (λ keys is. early keys is e) at)
