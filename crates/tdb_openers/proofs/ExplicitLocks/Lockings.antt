-- Turns of commands on explicit locks, in the words of the law.
use Rattle.std.proofs.Common.{◌≡◌, ◌≢◌, ℕ, ◌+◌, ◌-◌, ◌≤◌, max, List, [], ◌∷◌, Bool, true, false, None, Some, sym, ◌∙◌, ap, arith, zero-le}
use Rattle.std.specs.Prelude.{◌&&◌, if◌then◌else◌}
use Rattle.std.proofs.lemmas.Bool.{eq-eqb}
use Rattle.tdb_space.specs.Form.{Form}
use Rattle.tdb_locks.specs.HeldLocks.{HeldLocks}
use Rattle.tdb_locks.specs.LockTable as Table
use Rattle.tdb_locks.specs.declared.kind.Kind.{Kind}
use Rattle.tdb_locks.specs.declared.kind.Kind.TheVariants.{Read, Write}
use Rattle.tdb_locks.specs.declared.piece.Piece.{Piece}
use Rattle.tdb_law.specs.Commands.{LockCommand}
use Rattle.tdb_law.specs.Commands.Command.{OnLocks}
use Rattle.tdb_law.specs.Commands.LockCommand.{ChainLockNb}
use Rattle.tdb_law.specs.Commands.Reply.{Done, Memory, Busy}
use Rattle.tdb_law.specs.Commands.Turn.{Blocked, Ends}
use Rattle.tdb_law.specs.Openers.{Own, View}
use Rattle.tdb_law.specs.Rows.{lock_locks}
use Rattle.tdb_law.specs.Outcomes.{own_locked}
use Rattle.tdb_law.specs.Ends.{lock_starves, waits}
use Rattle.tdb_law.specs.Held.{covers, kept, holding, locked, locked_next}
use Rattle.tdb_law.specs.Effects.{IsFree, IsFirstConflict}
use Rattle.tdb_law.proofs.Locks.{locked_none}
use Rattle.tdb_law.proofs.Covered.{none_held}
use Rattle.tdb_steps.specs.LockRows.{lock_of, strength_of, start_of, end_of, is_covered}
use Rattle.tdb_steps.specs.Holdings.{table_of, KeptBeside, HoldsBefore}
use Rattle.tdb_steps.specs.declared.rows.LockRow.{LockRow}
use Rattle.tdb_steps.proofs.Holdings.{want, lock_free, lock_blocked, lock_holds, others_changed, next_turn}
use Rattle.tdb_commands.specs.declared.options.Options.{Options}
use Rattle.tdb_openers.specs.Openers.{AtRest, own_with}
use Rattle.tdb_openers.specs.Turning.{law_table, wants, resting}
use Rattle.tdb_openers.specs.Locked.{IsTaken, MayLock, LockingTurned}
use Rattle.tdb_openers.proofs.ExplicitLocks.Shifted.{free_law, first_law, apart_less, apart_free, apart_table, turned_locks}
use Rattle.tdb_openers.proofs.ExplicitLocks.Effected.{ends_row, wants_locks, file_answers, file_waits, file_starves, file_busy}

strong_most : (k : Kind) → strength_of k ≤ 2
strong_most Read = omega arith
strong_most Write = omega arith

if_most : (t : Bool) (s : ℕ) → s ≤ 2 → (if t then s else 0) ≤ 2
if_most true s h = h
if_most false s h = zero-le

module _ (f : Form) (options : Options) (live : Bool) (old new : HeldLocks) (rest : AtRest) (k : LockCommand) (who : ℕ) (ps qs : List Piece) (M : MayLock f options live old rest k who ps) where
  abbrev x : Own
  x = own_with options live old rest

  abbrev y : Own
  y = own_with options live new rest

  -- before its first turn an opener holds what it keeps
  pub holds_kept : (b : ℕ) → law_table ps who b ≡ kept f x (resting rest) b
  holds_kept b = let whole = M.holds.holds b in let none = none_held f (OnLocks k) x (resting rest) b in omega (arith, whole, none)

  -- and after its end
  ended : (b : ℕ) → law_table qs who b ≡ kept f y (resting rest) b → law_table qs who b ≡ holding f y (resting rest) None b
  ended b e = omega (arith, e)

  -- a table that stays
  still : y ≡ x → qs ≡ ps → (b : ℕ) → law_table qs who b ≡ kept f y (resting rest) b
  still e same b = ap (λ t. law_table t who b) same ∙ holds_kept b ∙ ap (λ o. kept f o (resting rest) b) (sym e)

  still_others : qs ≡ ps → (o b : ℕ) → o ≢ who + 1 → table_of qs o b ≡ table_of ps o b
  still_others same o b differs = ap (λ t. table_of t o b) same

  still_apart : qs ≡ ps → (o b : ℕ) → o ≢ who → law_table qs who b + law_table ps o b ≤ 2
  still_apart same = apart_less f x y (resting rest) (resting rest) (OnLocks k) 0 who ps qs M.holds (λ b. let e = ap (λ t. law_table t who b) same in omega (arith, e))

  -- memory is wanting, and all stays
  pub starved : lock_starves k ≡ true → y ≡ x → qs ≡ ps → LockingTurned f options live old new rest k who ps qs (Ends Memory)
  starved s e same = record {
    locks = turned_locks f x y (resting rest) (resting rest) (OnLocks k) 0 who ps qs M.holds (Ends Memory) (ends_row f x k M.granted Memory) (λ b. ended b (still e same b)) (still_others same) (still_apart same);
    file = λ v img. file_starves f x k M.granted (resting rest) v y who ps img s e;
  }

  -- what is counted or let go, with no lock of a row
  pub freed : lock_locks f k ≡ [] → y ≡ own_locked f k x → ((b : ℕ) → law_table qs who b ≡ kept f y (resting rest) b) → ((b : ℕ) → law_table qs who b ≤ law_table ps who b)
      → ((o b : ℕ) → o ≢ who + 1 → table_of qs o b ≡ table_of ps o b) → LockingTurned f options live old new rest k who ps qs (Ends Done)
  freed none e holds less others = record {
    locks = turned_locks f x y (resting rest) (resting rest) (OnLocks k) 0 who ps qs M.holds (Ends Done) (ends_row f x k M.granted Done) (λ b. ended b (holds b)) others (apart_less f x y (resting rest) (resting rest) (OnLocks k) 0 who ps qs M.holds less);
    file = λ v img. file_answers f x k M.granted (resting rest) v y who ps img (record { free = free v }) e;
  }
    where
      free : (v : View) (o b : ℕ) → o ≢ who → wants f (OnLocks k) x (resting rest) v 0 b + law_table ps o b ≤ 2
      free v o b differs =
          let w : wants f (OnLocks k) x (resting rest) v 0 b ≡ 0 = wants_locks f x k M.granted (resting rest) v b ∙ ap (λ ls. locked_next ls 0 b) none in
          let room = M.holds.apart o b differs in
          omega (arith, w, room)

  module _ (r : LockRow) (first : r.turn ≡ 0) (is : lock_locks f k ≡ lock_of r ∷ []) (K : KeptBeside old (kept f x (resting rest)) r) where
    before : HoldsBefore old (kept f x (resting rest)) (who + 1) 0 ps (record { first = r; second = None })
    before = record {
      holds = λ b. let whole = holds_kept b in let none = locked_none (lock_of r ∷ []) b in omega (arith, whole, none);
      apart = apart_table f x y (resting rest) (resting rest) (OnLocks k) 0 who ps qs M.holds;
      first = K;
      second = tt;
    }

    next : (b : ℕ) → locked_next (lock_of r ∷ []) 0 b ≡ want r b
    next b = ap (λ t. max (if t && covers (lock_of r) b then strength_of r.kind else 0) 0) (eq-eqb r.turn 0 first) ∙ omega arith

    wanted_here : (v : View) (b : ℕ) → wants f (OnLocks k) x (resting rest) v 0 b ≡ locked_next (lock_of r ∷ []) 0 b
    wanted_here v b = wants_locks f x k M.granted (resting rest) v b ∙ ap (λ ls. locked_next ls 0 b) is

    free_wants : (v : View) → IsFree (law_table ps) who (locked_next (lock_of r ∷ []) 0) → IsFree (law_table ps) who (wants f (OnLocks k) x (resting rest) v 0)
    free_wants v F = record { free = λ o b differs. let room = F.free o b differs in let w = wanted_here v b in omega (arith, room, w) }

    conflict_wants : (v : View) (o byte : ℕ) → IsFirstConflict (law_table ps) who (locked_next (lock_of r ∷ []) 0) o byte → IsFirstConflict (law_table ps) who (wants f (OnLocks k) x (resting rest) v 0) o byte
    conflict_wants v o byte C = record {
      other = C.other;
      conflict = let strong = C.conflict in let w = wanted_here v byte in omega (arith, strong, w);
      least = λ p b differs more. C.least p b differs (let w = wanted_here v b in omega (arith, more, w));
    }

    want_most : (b : ℕ) → locked_next (lock_of r ∷ []) 0 b ≤ 2
    want_most b = let e = next b in let m = if_most (covers (lock_of r) b) (strength_of r.kind) (strong_most r.kind) in omega (arith, e, m)

    -- the lock of its row is taken
    pub taken : IsTaken old (who + 1) ps qs r → y ≡ own_locked f k x → ((b : ℕ) → kept f (own_locked f k x) (resting rest) b ≡ max (locked (lock_of r ∷ []) 1 b) (kept f x (resting rest) b)) → LockingTurned f options live old new rest k who ps qs (Ends Done)
    taken T e more = record {
      locks = turned_locks f x y (resting rest) (resting rest) (OnLocks k) 0 who ps qs M.holds (Ends Done) (ends_row f x k M.granted Done) (λ b. ended b (now b ∙ sym (more b) ∙ ap (λ o. kept f o (resting rest) b) (sym e)))
          (others_changed (is_covered old r) ps qs (who + 1) (start_of r.region) (end_of r.region) (Some r.kind) T.covered T.bare)
          (apart_free f x y (resting rest) (resting rest) (OnLocks k) 0 who ps qs M.holds (locked_next (lock_of r ∷ []) 0) free (λ b. let n = now b in let h = holds_kept b in let l = next_turn (lock_of r ∷ []) 0 b in let none = locked_none (lock_of r ∷ []) b in omega (arith, n, h, l, none)));
      file = λ v img. file_answers f x k M.granted (resting rest) v y who ps img (free_wants v free) e;
    }
      where
        now : (b : ℕ) → law_table qs who b ≡ max (locked (lock_of r ∷ []) 1 b) (kept f x (resting rest) b)
        now = lock_holds old (kept f x (resting rest)) (who + 1) 0 ps (record { first = r; second = None }) before r K next qs (λ b. let none = locked_none (lock_of r ∷ []) b in omega (arith, none)) T.covered T.bare

        free : IsFree (law_table ps) who (locked_next (lock_of r ∷ []) 0)
        free = free_law ps who (locked_next (lock_of r ∷ []) 0) (lock_free old (kept f x (resting rest)) (who + 1) 0 ps (record { first = r; second = None }) before r K next T.free)

    in_the_way : (v : View) (o byte : ℕ) (kind : Kind) → Table.IsFirstConflict ps (who + 1) (start_of r.region) (end_of r.region) r.kind o byte kind → IsFirstConflict (law_table ps) who (wants f (OnLocks k) x (resting rest) v 0) (o - 1) byte
    in_the_way v o byte kind C = conflict_wants v (o - 1) byte (first_law ps who (locked_next (lock_of r ∷ []) 0) o byte M.holds.numbered (want_most byte)
        (lock_blocked old (kept f x (resting rest)) (who + 1) 0 ps (record { first = r; second = None }) before r K next o byte kind C))

    -- another opener's lock is in the way
    pub blocked : waits (OnLocks k) ≡ true → (o byte : ℕ) (kind : Kind) → Table.IsFirstConflict ps (who + 1) (start_of r.region) (end_of r.region) r.kind o byte kind → y ≡ x → qs ≡ ps → LockingTurned f options live old new rest k who ps qs (Blocked (o - 1) byte)
    blocked w o byte kind C e same = record {
      locks = turned_locks f x y (resting rest) (resting rest) (OnLocks k) 0 who ps qs M.holds (Blocked (o - 1) byte) w
          (λ b. let s = still e same b in let none = none_held f (OnLocks k) y (resting rest) b in omega (arith, s, none)) (still_others same) (still_apart same);
      file = λ v img. file_waits f x k M.granted (resting rest) v y who ps img (o - 1) byte (in_the_way v o byte kind C) e;
    }

-- a lock that isn't waited for is busy
module _ (f : Form) (options : Options) (live : Bool) (old new : HeldLocks) (rest : AtRest) (key : List ℕ) (who : ℕ) (ps qs : List Piece) (M : MayLock f options live old rest (ChainLockNb key) who ps) where
  pub busied : (r : LockRow) → r.turn ≡ 0 → lock_locks f (ChainLockNb key) ≡ lock_of r ∷ [] → KeptBeside old (kept f (own_with options live old rest) (resting rest)) r → (o byte : ℕ) (kind : Kind)
      → Table.IsFirstConflict ps (who + 1) (start_of r.region) (end_of r.region) r.kind o byte kind → own_with options live new rest ≡ own_with options live old rest → qs ≡ ps → LockingTurned f options live old new rest (ChainLockNb key) who ps qs (Ends (Busy (o - 1) byte))
  busied r first is K o byte kind C e same = record {
    locks = turned_locks f (own_with options live old rest) (own_with options live new rest) (resting rest) (resting rest) (OnLocks (ChainLockNb key)) 0 who ps qs M.holds (Ends (Busy (o - 1) byte)) (ends_row f (own_with options live old rest) (ChainLockNb key) M.granted (Busy (o - 1) byte))
        (λ b. ended f options live old new rest (ChainLockNb key) who ps qs M b (still f options live old new rest (ChainLockNb key) who ps qs M e same b))
        (still_others f options live old new rest (ChainLockNb key) who ps qs M same) (still_apart f options live old new rest (ChainLockNb key) who ps qs M same);
    file = λ v img. file_busy f (own_with options live old rest) (own_with options live new rest) (resting rest) v key M.granted who ps img (o - 1) byte (in_the_way f options live old new rest (ChainLockNb key) who ps qs M r first is K v o byte kind C) e;
  }
