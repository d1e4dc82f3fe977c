-- What a report takes an opener to hold and to want is at least what it holds and wants.
use Rattle.std.proofs.Common.{◌≡◌, ℕ, ◌+◌, ◌≤◌, max, List, [], ◌∷◌, Bool, true, false, cond, nat_le, Option, Some, None, is_some, refl, sym, ◌∙◌, ap, subst, inl, inr, arith, zero-le, le_refl}
use Rattle.std.specs.Prelude.{◌&&◌}
use Rattle.std.proofs.lemmas.Bool.{cases_eq, ne_eqb, eq-eqb, le-leb}
use Rattle.tdb_space.specs.Form.{Form, data_start}
use Rattle.tdb_law.specs.Commands.{Command}
use Rattle.tdb_law.specs.Commands.Command.{OnMap, OnLocks, Seqnum, OnGroup, OnWalk}
use Rattle.tdb_law.specs.Openers.{Own, Txn, Spot, View, Task, outside}
use Rattle.tdb_law.specs.Refusals.{has_cursor}
use Rattle.tdb_law.specs.Rows.{Lock, lock, lock_all, start_locks, locks}
use Rattle.tdb_law.specs.Outcomes.{moves}
use Rattle.tdb_law.specs.Held.{locked, locked_next, txn_held, stand_held, kept_by, kept, is_gone, held, task_held, decided, moves_at, is_chain, wanted, may_held, may_want}
use Rattle.tdb_law.specs.Replay.{begun_held, may_keep}
use Rattle.tdb_law.specs.Standing.{IsSame}
use Rattle.tdb_law.proofs.Locks.{locked_more, first_locked}
use Rattle.tdb_law.proofs.Covered.{none_held}

gone_le : (z : Bool) (u v : ℕ) → u ≤ v → cond z 0 u ≤ v
gone_le true u v le = zero-le
gone_le false u v le = le

either_purging : (g : Bool → ℕ) (z : Bool) → g z ≤ max (g true) (g false)
either_purging g true = omega arith
either_purging g false = omega arith

pub held_may : (f : Form) (c : Command) (x : Own) (a : Spot) (n b : ℕ) → held f c x a n b ≤ may_held f c x n b
unfolding held may_held
held_may f c x a n b = gone_le (is_gone c a) _ _ (either_purging (λ z. locked (locks f c x z) n b) a.purging)

walk_weaker : (p q o h v : Bool) → cond ((p && q) && (o && (h && v))) 1 0 ≤ cond (p && (o && h)) 1 0
walk_weaker false q o h v = zero-le
walk_weaker true false o h v = zero-le
walk_weaker true true false h v = zero-le
walk_weaker true true true false v = zero-le
walk_weaker true true true true false = zero-le
walk_weaker true true true true true = le_refl 1

move_weaker : (f : Form) (c : Command) (x : Own) (a : Spot) (n : ℕ) (o h v : Bool) → cond (moves_at f c x a n && (o && (h && v))) 1 0 ≤ cond (moves f c x && (o && h)) 1 0
move_weaker f (OnMap c) x a n o h v = zero-le
move_weaker f (OnLocks c) x a n o h v = zero-le
move_weaker f Seqnum x a n o h v = zero-le
move_weaker f (OnGroup c) x a n o h v = zero-le
move_weaker f (OnWalk c) x a n o h v = walk_weaker (moves f (OnWalk c) x) _ o h v

pub wanted_may : (f : Form) (c : Command) (x : Own) (a : Spot) (v : View) (n b : ℕ) → wanted f c x a v n b ≤ may_want f c x n b
unfolding wanted may_want
wanted_may f c x a v n b =
    omega (arith, gone_le (is_gone c a) _ _ (either_purging (λ z. locked_next (locks f c x z) n b) a.purging), move_weaker f c x a n (outside x) (is_chain f b) (v.way b))

-- a turn more of a command holds at most what it held and wanted
gone_more : (z : Bool) (ls : List Lock) (n b : ℕ) → cond z 0 (locked ls (n + 1) b) ≤ max (cond z 0 (locked ls n b)) (cond z 0 (locked_next ls n b))
gone_more true ls n b = zero-le
gone_more false ls n b = locked_more ls n b

pub held_more : (f : Form) (c : Command) (x : Own) (a : Spot) (v : View) (n b : ℕ) → held f c x a (n + 1) b ≤ max (held f c x a n b) (wanted f c x a v n b)
unfolding held wanted
held_more f c x a v n b = omega (arith, gone_more (is_gone c a) (locks f c x a.purging) n b)

-- what its row wants it wants
pub row_wanted : (f : Form) (c : Command) (x : Own) (a : Spot) (v : View) (n b : ℕ) → cond (is_gone c a) 0 (locked_next (locks f c x a.purging) n b) ≤ wanted f c x a v n b
unfolding wanted
row_wanted f c x a v n b = omega arith

-- the decision on a purge changes nothing of what is held so far
decided_gone : (f : Form) (c : Command) (x : Own) (a : Spot) (v : View) (n b : ℕ) → n ≡ 0 → held f c x (decided a v n) n b ≡ held f c x a n b
decided_gone f c x a v n b e = subst (λ k. held f c x (decided a v k) k b ≡ held f c x a k b) (sym e) (none_held f c x (decided a v 0) b ∙ sym (none_held f c x a b))

pub decided_held : (f : Form) (c : Command) (x : Own) (a : Spot) (v : View) (n b : ℕ) → held f c x (decided a v n) n b ≡ held f c x a n b
decided_held f c x a v n b =
    elim (cases_eq n 0) [
      | inl e ↦ decided_gone f c x a v n b e
      | inr ne ↦ (let same : decided a v n ≡ a = ap (λ z. record a { purging = cond z v.must a.purging }) (ne_eqb n 0 ne) in ap (λ s. held f c x s n b) same)
    ]

-- what is kept may be kept, where a cursor's record is one
stand_may : (f : Form) (x : Own) (o : Option ℕ) (b : ℕ) → ((place : ℕ) → o ≡ Some place → (data_start f ≤ place) × (is_some x.cursor ≡ true)) → stand_held o b ≤ cond (has_cursor x && nat_le (data_start f) b) 1 0
stand_may f x None b on = zero-le
stand_may f x (Some place) b on =
    elim (cases_eq place b) [
      | inl here ↦ (let high : nat_le (data_start f) b ≡ true = le-leb (data_start f) b (omega (arith, (on place refl).0, here)) in
          rw (eq-eqb place b here, (on place refl).1, high) (le_refl 1))
      | inr apart ↦ rw (ne_eqb place b apart) zero-le
    ]

keep_may_in : (f : Form) (o : Option Txn) (x : Own) (a : Spot) (b : ℕ) → ((place : ℕ) → a.stands ≡ Some place → (data_start f ≤ place) × (is_some x.cursor ≡ true)) → kept_by f o x a b ≤ may_keep f o x b
keep_may_in f None x a b on = omega (arith, stand_may f x a.stands b on)
keep_may_in f (Some t) x a b on = le_refl _

pub keep_may : (f : Form) (x : Own) (a : Spot) (b : ℕ) → ((place : ℕ) → a.stands ≡ Some place → (data_start f ≤ place) × (is_some x.cursor ≡ true)) → kept f x a b ≤ may_keep f x.txn x b
keep_may f x a b on = keep_may_in f x.txn x a b on

-- a command that had no line has had no step and holds nothing
pub task_may : (f : Form) (x : Own) (a : Spot) (u t : Option Task) (b : ℕ) → IsSame u t → task_held f x a t b ≤ begun_held f x u b
task_may f x a None None b same = le_refl 0
task_may f x a None (Some t) b same = (let e : held f t.command x a t.steps b ≡ 0 = ap (λ n. held f t.command x a n b) same ∙ none_held f t.command x a b in omega (arith, e))
task_may f x a (Some u) None b same = absurd same
task_may f x a (Some u) (Some t) b same = subst (λ z. held f z.command x a z.steps b ≤ may_held f u.command x u.steps b) same (held_may f u.command x a u.steps b)

-- who has a transaction holds the transaction lock
pub txn_lock : (t : Txn) → 2 ≤ txn_held t 8
txn_lock t = let got : 2 ≤ locked start_locks 2 8 = first_locked (lock 0 8 9 2) (lock_all 1 1 ∷ []) 2 8 (omega arith) refl in omega arith
