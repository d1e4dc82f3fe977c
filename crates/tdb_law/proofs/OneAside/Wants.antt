-- What commands that are on no transaction want: no byte below that of the sequence number, and each at most for
-- writing.
use Rattle.std.proofs.Common.{◌≡◌, ℕ, ◌<◌, ◌≤◌, List, [], ◌∷◌, Bool, true, false, nat_lt, ◌==◌, Option, Some, None, is_none, refl, zero-le, ◌∙◌, ap, arith}
use Rattle.std.specs.Prelude.{◌&&◌, if◌then◌else◌}
use Rattle.std.proofs.lemmas.Bool.{lt-leb}
use Rattle.std.proofs.Math.Bool.{and-false}
use Rattle.tdb_space.specs.Form.{Form, data_start}
use Rattle.tdb_law.specs.Commands.{MapCommand, LockCommand, WalkCommand, Command}
use Rattle.tdb_law.specs.Commands.MapCommand.{Fetch, Has, Delete, Store, Insert, Modify, Append, Wipe, Check}
use Rattle.tdb_law.specs.Commands.LockCommand.{ChainLock, ChainLockNb, ChainUnlock, LockAll, LockAllRead, UnlockAll}
use Rattle.tdb_law.specs.Commands.WalkCommand.{First, Next, EndWalk, Close}
use Rattle.tdb_law.specs.Commands.Command.{OnMap, OnLocks, Seqnum, OnGroup, OnWalk}
use Rattle.tdb_law.specs.Openers.{Own, Spot, View}
use Rattle.tdb_law.specs.Refusals.{Refusal, refusal}
use Rattle.tdb_law.specs.Rows.{Lock, map_locks, lock_locks, walk_locks, locks_by, locks}
use Rattle.tdb_law.specs.Held.{is_chain, covers, strongest, locked_next, is_gone, wanted, moves_at}
use Rattle.tdb_law.specs.OneAside.Turns.{IsApart}

-- Each lock of a row begins at the byte of the sequence number at least, and is for reading or writing.
abbrev AllWell : List Lock → Type 0
AllWell [] = Unit {0}
AllWell (l ∷ ls) = (48 ≤ l.start) × (l.strength ≤ 2) × AllWell ls

none_below : (picks : Lock → Bool) (b : ℕ) (ls : List Lock) → AllWell ls → b < 48 → strongest picks ls b ≡ 0
none_below picks b [] well low = refl
none_below picks b (l ∷ ls) well low =
    let off : covers l b ≡ false = ap (λ z. z && nat_lt b l.end) (lt-leb l.start b (omega (arith, low, well.0))) in
    let none : (if picks l && covers l b then l.strength else 0) ≡ 0 = ap (λ z. if picks l && z then l.strength else 0) off ∙ ap (λ z. if z then l.strength else 0) (and-false (picks l)) in
    omega (arith, none, none_below picks b ls well.2 low)

one_most : (z : Bool) (strength : ℕ) → strength ≤ 2 → (if z then strength else 0) ≤ 2
one_most true strength most = most
one_most false strength most = zero-le

most : (picks : Lock → Bool) (b : ℕ) (ls : List Lock) → AllWell ls → strongest picks ls b ≤ 2
most picks b [] well = zero-le
most picks b (l ∷ ls) well = omega (arith, one_most (picks l && covers l b) l.strength well.1, most picks b ls well.2)

map_well : (f : Form) (c : MapCommand) → AllWell (map_locks f c)
map_well f (Fetch k) = (omega arith, omega arith, tt)
map_well f (Has k) = (omega arith, omega arith, tt)
map_well f (Delete k) = (omega arith, omega arith, (omega arith, omega arith, tt))
map_well f (Store k v) = (omega arith, omega arith, (omega arith, omega arith, tt))
map_well f (Insert k v) = (omega arith, omega arith, (omega arith, omega arith, tt))
map_well f (Modify k v) = (omega arith, omega arith, (omega arith, omega arith, tt))
map_well f (Append k v) = (omega arith, omega arith, (omega arith, omega arith, tt))
map_well f Wipe = (omega arith, omega arith, (omega arith, omega arith, tt))
map_well f Check = (omega arith, omega arith, (omega arith, omega arith, tt))

lock_well : (f : Form) (c : LockCommand) → AllWell (lock_locks f c)
lock_well f (ChainLock k) = (omega arith, omega arith, tt)
lock_well f (ChainLockNb k) = (omega arith, omega arith, tt)
lock_well f (ChainUnlock k) = tt
lock_well f LockAll = (omega arith, omega arith, tt)
lock_well f LockAllRead = (omega arith, omega arith, tt)
lock_well f UnlockAll = tt

walk_well : (f : Form) (w : WalkCommand) (k : Option (List ℕ)) (purging : Bool) → AllWell (walk_locks f w k purging)
walk_well f w None purging = tt
walk_well f First (Some k) false = tt
walk_well f Next (Some k) false = (omega arith, omega arith, tt)
walk_well f EndWalk (Some k) false = tt
walk_well f Close (Some k) false = tt
walk_well f w (Some k) true = (omega arith, omega arith, (omega arith, omega arith, tt))

-- a row outside a transaction, or none
or_none : (z : Bool) (ls : List Lock) → AllWell ls → AllWell (if z then ls else [])
or_none true ls well = well
or_none false ls well = tt

locks_well : (f : Form) (q : Option Refusal) (c : Command) (x : Own) (purging : Bool) → IsApart q c → AllWell (locks_by f q c x purging)
locks_well f (Some q) c x purging apart = tt
locks_well f None (OnMap c) x purging apart = or_none (is_none x.txn) _ (map_well f c)
locks_well f None (OnLocks c) x purging apart = or_none (is_none x.txn) _ (lock_well f c)
locks_well f None Seqnum x purging apart = or_none (is_none x.txn) _ (omega arith, omega arith, tt)
locks_well f None (OnGroup g) x purging apart = absurd apart
locks_well f None (OnWalk w) x purging apart = or_none (is_none x.txn) _ (walk_well f w x.cursor purging)

module _ (f : Form) (c : Command) (x : Own) (a : Spot) (v : View) (n b : ℕ) (apart : IsApart (refusal f c x) c) where
  well : AllWell (locks f c x a.purging)
  well = locks_well f (refusal f c x) c x a.purging apart

  way_part : (m o w : Bool) → is_chain f b ≡ false → ◌≡◌ {A = ℕ} (if m && (o && (is_chain f b && w)) then 1 else 0) 0
  way_part true true w e = rw e refl
  way_part true false w e = refl
  way_part false o w e = refl

  pub wants_low : b < 48 → wanted f c x a v n b ≡ 0
  unfolding wanted
  wants_low low =
      let way : is_chain f b ≡ false = ap (λ z. z && nat_lt b (data_start f)) (lt-leb 168 b (omega (arith, low))) in
      omega (arith, row_part (is_gone c a) (none_below (λ l. l.turn == n) b (locks f c x a.purging) well low), way_part (moves_at f c x a n) (is_none x.txn) (v.way b) way)
    where
      row_part : (g : Bool) → locked_next (locks f c x a.purging) n b ≡ 0 → (if g then 0 else locked_next (locks f c x a.purging) n b) ≡ 0
      row_part true e = refl
      row_part false e = e

  pub wants_most : wanted f c x a v n b ≤ 2
  unfolding wanted
  wants_most = omega (arith, row_part (is_gone c a) (most (λ l. l.turn == n) b (locks f c x a.purging) well), one_most (moves_at f c x a n && (is_none x.txn && (is_chain f b && v.way b))) 1 (omega arith))
    where
      row_part : (g : Bool) → locked_next (locks f c x a.purging) n b ≤ 2 → (if g then 0 else locked_next (locks f c x a.purging) n b) ≤ 2
      row_part true e = zero-le
      row_part false e = e
