-- Who is blocked waits for a command that has had more steps.
use Rattle.std.proofs.Common.{◌≡◌, ℕ, zero, suc, ◌+◌, ◌<◌, ◌≤◌, max, List, [], ◌∷◌, Bool, true, false, cond, nat_lt, ◌==◌, Option, Some, None, is_none, unwrap_or, refl, sym, ◌∙◌, ap, inl, inr, ◌⊎◌, arith, zero-le, le_refl}
use Rattle.std.specs.Prelude.{◌&&◌, if◌then◌else◌}
use Rattle.std.specs.FinMap.{get, get-empty}
use Rattle.std.specs.Ordering.{nat_cmp}
use Rattle.std.proofs.lemmas.Bool.{eqb-true, ltb-true}
use Rattle.tdb_space.specs.Form.{Form, data_start}
use Rattle.tdb_law.specs.Commands.{MapCommand, Command}
use Rattle.tdb_law.specs.Commands.MapCommand.{Fetch, Has, Delete, Store, Insert, Modify, Append, Wipe, Check}
use Rattle.tdb_law.specs.Commands.Command.{OnMap, OnLocks, Seqnum, OnGroup, OnWalk}
use Rattle.tdb_law.specs.Ends.{map_last, last_by, last_step}
use Rattle.tdb_law.specs.Held.{covers, strongest, locked, locked_next, all_held, stand_held, kept_by, kept, held, task_held, decided, wanted}
use Rattle.tdb_law.specs.Openers.{Own, Spot, View, Task, count_at}
use Rattle.tdb_law.specs.Refusals.{Refusal, refusal}
use Rattle.tdb_law.specs.Rows.{Lock, lock_chain, lock_free, map_locks, locks_by}
use Rattle.tdb_law.specs.Turned.{want}
use Rattle.tdb_law.specs.World.{State}
use Rattle.tdb_law.proofs.Locks.{within_covers}
use Rattle.tdb_gen.specs.Rounds.{IsOnKey, IsBare, OnKeys}

-- After so many steps a command's next turn wants the byte: its first turn that of a chain, its third that of the free
-- list.
abbrev Wants : ℕ → ℕ → Type 0
Wants n b = ((n ≡ 0) × (168 ≤ b)) ⊎ ((n ≡ 2) × (b ≡ 164))

-- So many steps have locked the byte.
abbrev HasLocked : ℕ → ℕ → Type 0
HasLocked n b = ((1 ≤ n) × (168 ≤ b)) ⊎ ((3 ≤ n) × (b ≡ 164))

-- a lock of a row that is picked and covers the byte
picked : (p v : Bool) (s : ℕ) → 1 ≤ (if p && v then s else 0) → (p ≡ true) × (v ≡ true)
picked true true s h = (refl, refl)
picked true false s h = absurd (omega (arith, h))
picked false v s h = absurd (omega (arith, h))

picked_most : (p v : Bool) → (if p && v then 2 else 0) ≤ 2
picked_most true true = le_refl 2
picked_most true false = zero-le
picked_most false v = zero-le

reading_most : (p v : Bool) → (if p && v then 1 else 0) ≤ 2
reading_most true true = omega arith
reading_most true false = zero-le
reading_most false v = zero-le

either : (a b : ℕ) → 1 ≤ max a b → (1 ≤ a) ⊎ (1 ≤ b)
either zero b h = inr (omega (arith, h))
either (suc a) b h = inl (omega arith)

alone : (a : ℕ) → 1 ≤ max a 0 → 1 ≤ a
alone a h = omega (arith, h)

-- the lock of a chain, and that of the free list
chain_wanted : (f : Form) (k : List ℕ) (s n b : ℕ) → 1 ≤ (if (0 == n) && covers (lock_chain f 0 k s) b then s else 0) → Wants n b
chain_wanted f k s n b h =
    let q = picked (0 == n) (covers (lock_chain f 0 k s) b) s h in
    let w = within_covers (lock_chain f 0 k s) b q.1 in
    inl (sym (eqb-true 0 n q.0), omega (arith, w.0))

free_wanted : (n b : ℕ) → 1 ≤ (if (2 == n) && covers (lock_free 2 2) b then 2 else 0) → Wants n b
free_wanted n b h =
    let q = picked (2 == n) (covers (lock_free 2 2) b) 2 h in
    let w = within_covers (lock_free 2 2) b q.1 in
    inr (sym (eqb-true 2 n q.0), omega (arith, w.0, w.1))

chain_locked : (f : Form) (k : List ℕ) (s n b : ℕ) → 1 ≤ (if nat_lt 0 n && covers (lock_chain f 0 k s) b then s else 0) → HasLocked n b
chain_locked f k s n b h =
    let q = picked (nat_lt 0 n) (covers (lock_chain f 0 k s) b) s h in
    let w = within_covers (lock_chain f 0 k s) b q.1 in
    let low = ltb-true 0 n q.0 in
    inl (omega (arith, low), omega (arith, w.0))

free_locked : (n b : ℕ) → 1 ≤ (if nat_lt 2 n && covers (lock_free 2 2) b then 2 else 0) → HasLocked n b
free_locked n b h =
    let q = picked (nat_lt 2 n) (covers (lock_free 2 2) b) 2 h in
    let w = within_covers (lock_free 2 2) b q.1 in
    let low = ltb-true 2 n q.0 in
    inr (omega (arith, low), omega (arith, w.0, w.1))

-- the row of a look, and that of a change
reader_wants : (f : Form) (k : List ℕ) (n b : ℕ) → 1 ≤ locked_next (lock_chain f 0 k 1 ∷ []) n b → Wants n b
reader_wants f k n b h = chain_wanted f k 1 n b (alone _ h)

writer_wants : (f : Form) (k : List ℕ) (n b : ℕ) → 1 ≤ locked_next (lock_chain f 0 k 2 ∷ lock_free 2 2 ∷ []) n b → Wants n b
writer_wants f k n b h =
    elim (either _ _ h) [
      | inl chain ↦ chain_wanted f k 2 n b chain
      | inr free ↦ free_wanted n b (alone _ free)
    ]

reader_has : (f : Form) (k : List ℕ) (n b : ℕ) → 1 ≤ locked (lock_chain f 0 k 1 ∷ []) n b → HasLocked n b
reader_has f k n b h = chain_locked f k 1 n b (alone _ h)

writer_has : (f : Form) (k : List ℕ) (n b : ℕ) → 1 ≤ locked (lock_chain f 0 k 2 ∷ lock_free 2 2 ∷ []) n b → HasLocked n b
writer_has f k n b h =
    elim (either _ _ h) [
      | inl chain ↦ chain_locked f k 2 n b chain
      | inr free ↦ free_locked n b (alone _ free)
    ]

reader_most : (p : Lock → Bool) (f : Form) (k : List ℕ) (b : ℕ) → strongest p (lock_chain f 0 k 1 ∷ []) b ≤ 2
reader_most p f k b = omega (arith, reading_most (p (lock_chain f 0 k 1)) (covers (lock_chain f 0 k 1) b))

writer_most : (p : Lock → Bool) (f : Form) (k : List ℕ) (b : ℕ) → strongest p (lock_chain f 0 k 2 ∷ lock_free 2 2 ∷ []) b ≤ 2
writer_most p f k b = omega (arith, picked_most (p (lock_chain f 0 k 2)) (covers (lock_chain f 0 k 2) b), picked_most (p (lock_free 2 2)) (covers (lock_free 2 2) b))

-- by the command
map_wants : (f : Form) (c : MapCommand) (n b : ℕ) → IsOnKey (OnMap c) → 1 ≤ locked_next (map_locks f c) n b → Wants n b
map_wants f (Fetch k) n b key h = reader_wants f k n b h
map_wants f (Has k) n b key h = reader_wants f k n b h
map_wants f (Delete k) n b key h = writer_wants f k n b h
map_wants f (Store k v) n b key h = writer_wants f k n b h
map_wants f (Insert k v) n b key h = writer_wants f k n b h
map_wants f (Modify k v) n b key h = writer_wants f k n b h
map_wants f (Append k v) n b key h = writer_wants f k n b h
map_wants f Wipe n b key h = absurd key
map_wants f Check n b key h = absurd key

map_has : (f : Form) (c : MapCommand) (n b : ℕ) → IsOnKey (OnMap c) → 1 ≤ locked (map_locks f c) n b → HasLocked n b
map_has f (Fetch k) n b key h = reader_has f k n b h
map_has f (Has k) n b key h = reader_has f k n b h
map_has f (Delete k) n b key h = writer_has f k n b h
map_has f (Store k v) n b key h = writer_has f k n b h
map_has f (Insert k v) n b key h = writer_has f k n b h
map_has f (Modify k v) n b key h = writer_has f k n b h
map_has f (Append k v) n b key h = writer_has f k n b h
map_has f Wipe n b key h = absurd key
map_has f Check n b key h = absurd key

map_most : (p : Lock → Bool) (f : Form) (c : MapCommand) (b : ℕ) → IsOnKey (OnMap c) → strongest p (map_locks f c) b ≤ 2
map_most p f (Fetch k) b key = reader_most p f k b
map_most p f (Has k) b key = reader_most p f k b
map_most p f (Delete k) b key = writer_most p f k b
map_most p f (Store k v) b key = writer_most p f k b
map_most p f (Insert k v) b key = writer_most p f k b
map_most p f (Modify k v) b key = writer_most p f k b
map_most p f (Append k v) b key = writer_most p f k b
map_most p f Wipe b key = absurd key
map_most p f Check b key = absurd key

-- a command that is refused, or inside a transaction, takes no lock
some_wants : (z : Bool) (f : Form) (c : MapCommand) (n b : ℕ) → IsOnKey (OnMap c) → 1 ≤ locked_next (if z then map_locks f c else []) n b → Wants n b
some_wants true f c n b key h = map_wants f c n b key h
some_wants false f c n b key h = absurd (omega (arith, h))

some_has : (z : Bool) (f : Form) (c : MapCommand) (n b : ℕ) → IsOnKey (OnMap c) → 1 ≤ locked (if z then map_locks f c else []) n b → HasLocked n b
some_has true f c n b key h = map_has f c n b key h
some_has false f c n b key h = absurd (omega (arith, h))

some_most : (z : Bool) (p : Lock → Bool) (f : Form) (c : MapCommand) (b : ℕ) → IsOnKey (OnMap c) → strongest p (if z then map_locks f c else []) b ≤ 2
some_most true p f c b key = map_most p f c b key
some_most false p f c b key = zero-le

row_wants : (q : Option Refusal) (f : Form) (c : MapCommand) (x : Own) (purging : Bool) (n b : ℕ) → IsOnKey (OnMap c) → 1 ≤ locked_next (locks_by f q (OnMap c) x purging) n b → Wants n b
row_wants (Some q) f c x purging n b key h = absurd (omega (arith, h))
row_wants None f c x purging n b key h = some_wants (is_none x.txn) f c n b key h

row_has : (q : Option Refusal) (f : Form) (c : MapCommand) (x : Own) (purging : Bool) (n b : ℕ) → IsOnKey (OnMap c) → 1 ≤ locked (locks_by f q (OnMap c) x purging) n b → HasLocked n b
row_has (Some q) f c x purging n b key h = absurd (omega (arith, h))
row_has None f c x purging n b key h = some_has (is_none x.txn) f c n b key h

row_most : (q : Option Refusal) (p : Lock → Bool) (f : Form) (c : MapCommand) (x : Own) (purging : Bool) (b : ℕ) → IsOnKey (OnMap c) → strongest p (locks_by f q (OnMap c) x purging) b ≤ 2
row_most (Some q) p f c x purging b key = zero-le
row_most None p f c x purging b key = some_most (is_none x.txn) p f c b key

-- what a command on one key wants, and what it has locked
command_wants : (f : Form) (c : Command) (x : Own) (a : Spot) (v : View) (n b : ℕ) → IsOnKey c → 1 ≤ wanted f c x a v n b → Wants n b
unfolding wanted
command_wants f (OnMap c) x a v n b key h = row_wants (refusal f (OnMap c) x) f c x a.purging n b key (omega (arith, h))
command_wants f (OnLocks c) x a v n b key h = absurd key
command_wants f Seqnum x a v n b key h = absurd key
command_wants f (OnGroup c) x a v n b key h = absurd key
command_wants f (OnWalk c) x a v n b key h = absurd key

command_wants_most : (f : Form) (c : Command) (x : Own) (a : Spot) (v : View) (n b : ℕ) → IsOnKey c → wanted f c x a v n b ≤ 2
unfolding wanted
command_wants_most f (OnMap c) x a v n b key = omega (arith, row_most (refusal f (OnMap c) x) (λ l. l.turn == n) f c x a.purging b key)
command_wants_most f (OnLocks c) x a v n b key = absurd key
command_wants_most f Seqnum x a v n b key = absurd key
command_wants_most f (OnGroup c) x a v n b key = absurd key
command_wants_most f (OnWalk c) x a v n b key = absurd key

command_has : (f : Form) (c : Command) (x : Own) (a : Spot) (n b : ℕ) → IsOnKey c → 1 ≤ held f c x a n b → HasLocked n b
unfolding held
command_has f (OnMap c) x a n b key h = row_has (refusal f (OnMap c) x) f c x a.purging n b key h
command_has f (OnLocks c) x a n b key h = absurd key
command_has f Seqnum x a n b key h = absurd key
command_has f (OnGroup c) x a n b key h = absurd key
command_has f (OnWalk c) x a n b key h = absurd key

command_has_most : (f : Form) (c : Command) (x : Own) (a : Spot) (n b : ℕ) → IsOnKey c → held f c x a n b ≤ 2
unfolding held
command_has_most f (OnMap c) x a n b key = row_most (refusal f (OnMap c) x) (λ l. nat_lt l.turn n) f c x a.purging b key
command_has_most f (OnLocks c) x a n b key = absurd key
command_has_most f Seqnum x a n b key = absurd key
command_has_most f (OnGroup c) x a n b key = absurd key
command_has_most f (OnWalk c) x a n b key = absurd key

-- it has at most six steps
last_most : (z : Bool) (c : MapCommand) → IsOnKey (OnMap c) → (if z then map_last c else 0) ≤ 6
last_most false c key = zero-le
last_most true (Fetch k) key = omega arith
last_most true (Has k) key = omega arith
last_most true (Delete k) key = omega arith
last_most true (Store k v) key = omega arith
last_most true (Insert k v) key = omega arith
last_most true (Modify k v) key = omega arith
last_most true (Append k v) key = omega arith
last_most true Wipe key = absurd key
last_most true Check key = absurd key

last_by_most : (q : Option Refusal) (c : MapCommand) (x : Own) → IsOnKey (OnMap c) → last_by q (OnMap c) x ≤ 6
last_by_most (Some q) c x key = zero-le
last_by_most None c x key = last_most (is_none x.txn) c key

pub keyed_last : (f : Form) (c : Command) (x : Own) → IsOnKey c → last_step f c x ≤ 6
keyed_last f (OnMap c) x key = last_by_most (refusal f (OnMap c) x) c x key
keyed_last f (OnLocks c) x key = absurd key
keyed_last f Seqnum x key = absurd key
keyed_last f (OnGroup c) x key = absurd key
keyed_last f (OnWalk c) x key = absurd key

-- who has neither a transaction nor explicit locks and stands nowhere keeps nothing
no_count : (z : Bool) → ◌≡◌ {A = ℕ} (cond (z && false) 2 0) 0
no_count true = refl
no_count false = refl

pub bare_kept : (f : Form) (x : Own) (a : Spot) (b : ℕ) → IsBare x → a.stands ≡ None → kept f x a b ≡ 0
bare_kept f x a b B off =
    let none : count_at x b ≡ 0 = ap (λ m. unwrap_or (get m b) 0) B.counts ∙ ap (λ o. unwrap_or o 0) (get-empty nat_cmp b) in
    let chain : cond (nat_lt b (data_start f) && nat_lt 0 (count_at x b)) 2 0 ≡ 0 = ap (λ n. cond (nat_lt b (data_start f) && nat_lt 0 n) 2 0) none ∙ no_count (nat_lt b (data_start f)) in
    let records : all_held x.all b ≡ 0 = ap (λ o. all_held o b) B.all in
    let spot : stand_held a.stands b ≡ 0 = ap (λ o. stand_held o b) off in
    let outside : kept f x a b ≡ kept_by f None x a b = ap (λ o. kept_by f o x a b) B.txn in
    omega (arith, chain, records, spot, outside)

module _ (f : Form) (w : State) (K : OnKeys f w) where
  -- who holds a byte has locked it by its command
  task_has : (p b : ℕ) (t : Option Task) → w.task p ≡ t → 1 ≤ task_held f (w.own p) (w.spot p) t b → (u : Task) × (w.task p ≡ Some u) × HasLocked u.steps b
  task_has p b None is h = absurd (omega (arith, h))
  task_has p b (Some u) is h = (u, is, command_has f u.command (w.own p) (w.spot p) u.steps b (K.busy p u is).keyed h)

  task_most : (p b : ℕ) (t : Option Task) → w.task p ≡ t → task_held f (w.own p) (w.spot p) t b ≤ 2
  task_most p b None is = zero-le
  task_most p b (Some u) is = command_has_most f u.command (w.own p) (w.spot p) u.steps b (K.busy p u is).keyed

  table_task : (p b : ℕ) → w.table p b ≡ task_held f (w.own p) (w.spot p) (w.task p) b
  table_task p b = let none = bare_kept f (w.own p) (w.spot p) b (K.bare p) (K.nowhere p) in let is = K.agrees p b in omega (arith, none, is)

  -- who is in the way of a command has had more steps
  pub ahead : (o : ℕ) (t : Task) → w.task o ≡ Some t → (p b : ℕ) → 2 < want f w o t b + w.table p b → (u : Task) × (w.task p ≡ Some u) × (t.steps < u.steps)
  ahead o t is p b over =
      let key = (K.busy o t is).keyed in
      let same = table_task p b in
      let few = task_most p b (w.task p) refl in
      let most = command_wants_most f t.command (w.own o) (decided (w.spot o) (w.view o) t.steps) (w.view o) t.steps b key in
      let wants = command_wants f t.command (w.own o) (decided (w.spot o) (w.view o) t.steps) (w.view o) t.steps b key (omega (arith, over, same, few)) in
      let q = task_has p b (w.task p) refl (omega (arith, over, same, most)) in
      (q.0, q.1, later t.steps q.0.steps b wants q.2)
    where
      later : (n m b : ℕ) → Wants n b → HasLocked m b → n < m
      later n m b (inl x) (inl y) = omega (arith, x.0, y.0)
      later n m b (inl x) (inr y) = absurd (omega (arith, x.1, y.1))
      later n m b (inr x) (inl y) = absurd (omega (arith, x.1, y.1))
      later n m b (inr x) (inr y) = omega (arith, x.0, y.0)
