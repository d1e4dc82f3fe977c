-- What a report tells of a turn is what its rules allow.
use Rattle.std.proofs.Common.{◌≡◌, ℕ, ◌+◌, ◌<◌, ◌≤◌, max, List, [], Bool, true, false, cond, Option, Some, None, is_none, is_some, refl, sym, ◌∙◌, ap, subst, subst₂, inl, inr, ◌⊎◌, arith, ◌≢◌}
use Rattle.std.specs.Prelude.{◌&&◌}
use Rattle.std.specs.FinMap.{get}
use Rattle.std.proofs.lemmas.Bool.{cases_eq}
use Rattle.tdb_space.specs.Form.{Form, data_start}
use Rattle.tdb_law.specs.Commands.{Command, Reply, Turn}
use Rattle.tdb_law.specs.Commands.GroupCommand.{Start, Commit, Prepare, Cancel}
use Rattle.tdb_law.specs.Commands.Command.{OnMap, OnLocks, Seqnum, OnGroup, OnWalk}
use Rattle.tdb_law.specs.Commands.Reply.{Done, End, Memory, Pair, Busy, Full, Number}
use Rattle.tdb_law.specs.Commands.Turn.{Step, Blocked, Ends}
use Rattle.tdb_law.specs.Openers.{Own, Txn, Map, Spot, Task, seen, image_or}
use Rattle.tdb_law.specs.Refusals.{Refusal, refusal, chain_byte}
use Rattle.tdb_law.specs.Rows.{is_changed, changed_by, commits_in, gate_shut, commit_changed, was_planned}
use Rattle.tdb_law.specs.Outcomes.{moves, told, own_after, commits}
use Rattle.tdb_law.specs.Counting.{number_seen}
use Rattle.tdb_law.specs.Held.{decided}
use Rattle.tdb_law.specs.World.{State, IsPending, IsSound}
use Rattle.tdb_law.specs.Effects.{IsFree, IsFirstConflict, Effect, Finds}
use Rattle.tdb_law.specs.Effects.Effect.{effect_waits, effect_goes_on, effect_changes, effect_answers, effect_shows, effect_starves, effect_is_full, effect_is_busy, effect_numbers, effect_finishes}
use Rattle.tdb_law.specs.Walks.{Walked}
use Rattle.tdb_law.specs.Walks.Walked.{walk_steps, walk_rests, walk_ends, walk_arrives, walk_finishes, walk_halts, walk_fails}
use Rattle.tdb_law.specs.Turned.{Turned, want}
use Rattle.tdb_law.specs.Replay.{Replay, steps_of, shown_now, due_now, line_own}
use Rattle.tdb_law.specs.Standing.{IsSame, Stands}
use Rattle.tdb_law.proofs.Local.{changing}
use Rattle.tdb_law.proofs.Pending.{pending_touches, own_pending, not_pending}
use Rattle.tdb_law.proofs.Mapped.{own_line, quiet_moves}
use Rattle.std.proofs.lemmas.Bool.{leb-true}
use Rattle.tdb_law.specs.Openers.{outside}
use Rattle.tdb_law.specs.Refusals.{says}
use Rattle.tdb_law.specs.Refusals.Refusal.{OnlyReads, IsPrepared, LocksStand, NothingLocked, NeverNests, NoneOpen, IsDoomed}
use Rattle.tdb_law.specs.Rows.{lock, lock_all, locks_by, locks, commit_locks, plan_locks}
use Rattle.tdb_law.specs.Ends.{IsRow, starves}
use Rattle.tdb_law.specs.Outcomes.{counts_by, counts, told_by, own_by, fills, busies, moves_by, own_started}
use Rattle.std.specs.Prelude.{nat_le, ◌∷◌}
use Rattle.std.proofs.Common.{le_refl, le_trans}
use Rattle.tdb_law.specs.Counting.{is_numbered, brings_by, brings}
use Rattle.tdb_law.specs.Held.{locked, locked_next, txn_held, prepared_held, kept_by, kept, held, is_gone, holding, may_want}
use Rattle.tdb_law.specs.Effects.Finds.{finds_pair, finds_end}
use Rattle.tdb_law.specs.Replay.{begun_held, may_keep, may_hold, IsOf, IsInTheWay, Says, IsAlone, AllowsTurn, Allows}
use Rattle.tdb_law.specs.Replay.Says.{says_plain, says_pair, says_end, says_number, says_memory, says_full, says_busy}
use Rattle.tdb_law.specs.Standing.{IsBringing}
use Rattle.tdb_law.proofs.Local.{same_told}
use Rattle.tdb_law.proofs.Locks.{first_locked, rest_locked, locked_reached}
use Rattle.tdb_law.proofs.Covered.{held_by}
use Rattle.tdb_law.proofs.May.{wanted_may, task_may, keep_may, txn_lock, row_wanted, decided_held}
use Rattle.tdb_law.proofs.Sound.{sound_after, before}
use Rattle.tdb_law.proofs.Mapped.{agree, quiet_counts, plain_own}
use Rattle.tdb_law.proofs.Moving.{new_pair, all_shown}
use Rattle.tdb_law.proofs.Tests.{never_true, and_both}

-- a pending commit that brings its number holds the byte of the sequence number
numbered_locks : (n : ℕ) → 2 ≤ n → 2 ≤ locked (commit_locks true) n 48
numbered_locks n le =
    le_trans (first_locked (lock 1 48 49 2) [] n 48 le refl)
    (le_trans (rest_locked (lock 1 0 1 2) (lock 1 48 49 2 ∷ []) n 48) (rest_locked (lock_all 0 2) (lock 1 0 1 2 ∷ lock 1 48 49 2 ∷ []) n 48))

planned_48 : (z : Txn) (a b : Bool) (p : Option ℕ) (n : ℕ) → z.numbered ≡ true → (a && b && was_planned p) && gate_shut p n ≡ true
    → 2 ≤ max (locked (cond (a && b && is_none p) (commit_locks z.numbered) []) n 48) (prepared_held z p 48)
planned_48 z false b p n num e = absurd (never_true e)
planned_48 z true false p n num e = absurd (never_true e)
planned_48 z true true None n num e = let got : 2 ≤ locked (commit_locks z.numbered) n 48 = subst (λ v. 2 ≤ locked (commit_locks v) n 48) (sym num) (numbered_locks n (omega (arith, leb-true 8 n e))) in omega arith
planned_48 z true true (Some steps) n num e =
    let four : 4 ≤ steps = leb-true 4 steps (and_both (nat_le 4 steps) (nat_le 3 n) (and_both (nat_le 1 steps) (nat_le 4 steps && nat_le 3 n) e).1).0 in
    let got : 2 ≤ locked (commit_locks z.numbered) steps 48 = subst (λ v. 2 ≤ locked (commit_locks v) steps 48) (sym num) (numbered_locks steps (omega (arith, four))) in
    omega arith

commit_48 : (f : Form) (o : Option Txn) (x : Own) (a : Spot) (n : ℕ) → commits o && is_numbered o ≡ true → commit_changed o n ≡ true → 2 ≤ max (locked (plan_locks o) n 48) (kept_by f o x a 48)
commit_48 f None x a n e made = absurd (never_true e)
commit_48 f (Some z) x a n e made = let got = planned_48 z (nat_le z.depth 1) z.changed z.prepared n (and_both (commits_in z) z.numbered e).1 made in omega arith

brings_48_by : (f : Form) (q : Option Refusal) (c : Command) (x : Own) (a : Spot) (n : ℕ) → brings_by q c x ≡ true → changed_by q c x n ≡ true → 2 ≤ max (held_by f q c x a n 48) (kept f x a 48)
brings_48_by f (Some q) c x a n e made = absurd (never_true e)
brings_48_by f None (OnMap c) x a n e made = absurd (never_true e)
brings_48_by f None (OnLocks c) x a n e made = absurd (never_true e)
brings_48_by f None Seqnum x a n e made = absurd (never_true e)
brings_48_by f None (OnGroup Start) x a n e made = absurd (never_true e)
brings_48_by f None (OnGroup Commit) x a n e made = commit_48 f x.txn x a n e made
brings_48_by f None (OnGroup Prepare) x a n e made = absurd (never_true e)
brings_48_by f None (OnGroup Cancel) x a n e made = absurd (never_true e)
brings_48_by f None (OnWalk c) x a n e made = absurd (never_true e)

brings_48 : (f : Form) (c : Command) (x : Own) (a : Spot) (n : ℕ) → brings f c x ≡ true → is_changed f c x n ≡ true → 2 ≤ max (held f c x a n 48) (kept f x a 48)
unfolding held is_changed
brings_48 f c x a n e made = brings_48_by f (refusal f c x) c x a n e made

-- a commit that brings has a transaction
brings_txn_by : (q : Option Refusal) (c : Command) (x : Own) → brings_by q c x ≡ true → is_none x.txn ≡ true → ⊥
brings_txn_by (Some q) c x e none = never_true e
brings_txn_by None (OnMap c) x e none = never_true e
brings_txn_by None (OnLocks c) x e none = never_true e
brings_txn_by None Seqnum x e none = never_true e
brings_txn_by None (OnGroup Start) x e none = never_true e
brings_txn_by None (OnGroup Commit) x e none = go x.txn (and_both _ _ e).0 none
  where
    go : (o : Option Txn) → commits o ≡ true → is_none o ≡ true → ⊥
    go None e2 n2 = never_true e2
    go (Some z) e2 n2 = never_true n2
brings_txn_by None (OnGroup Prepare) x e none = never_true e
brings_txn_by None (OnGroup Cancel) x e none = never_true e
brings_txn_by None (OnWalk c) x e none = never_true e

-- the row of a Seqnum outside a transaction locks the byte in its one turn
seqnum_48_by : (f : Form) (q : Option Refusal) (c : Command) (x : Own) (a : Spot) (n : ℕ) → counts_by q c ≡ true → is_none x.txn ≡ true
    → 1 ≤ max (held_by f q c x a n 48) (cond (is_gone c a) 0 (locked_next (locks_by f q c x a.purging) n 48))
seqnum_48_by f (Some q) c x a n e out = absurd (never_true e)
seqnum_48_by f None (OnMap c) x a n e out = absurd (never_true e)
seqnum_48_by f None (OnLocks c) x a n e out = absurd (never_true e)
seqnum_48_by f None Seqnum x a n e out =
    let one : 1 ≤ locked (lock 0 48 49 1 ∷ []) 1 48 = first_locked (lock 0 48 49 1) [] 1 48 (le_refl 1) refl in
    let both : 1 ≤ max (locked (lock 0 48 49 1 ∷ []) n 48) (locked_next (lock 0 48 49 1 ∷ []) n 48) = omega (arith, one, locked_reached (lock 0 48 49 1 ∷ []) n 48) in
    subst (λ o. 1 ≤ max (locked (cond o (lock 0 48 49 1 ∷ []) []) n 48) (locked_next (cond o (lock 0 48 49 1 ∷ []) []) n 48)) (sym out) both
seqnum_48_by f None (OnGroup c) x a n e out = absurd (never_true e)
seqnum_48_by f None (OnWalk c) x a n e out = absurd (never_true e)

seqnum_48 : (f : Form) (c : Command) (x : Own) (a : Spot) (n : ℕ) → counts f c x ≡ true → is_none x.txn ≡ true
    → 1 ≤ max (held f c x a n 48) (cond (is_gone c a) 0 (locked_next (locks f c x a.purging) n 48))
unfolding held
seqnum_48 f c x a n e out = seqnum_48_by f (refusal f c x) c x a n e out

-- what a Start that is done leaves
not_done : (x : Own) (q : Refusal) → Done ≡ says x q → ⊥
not_done x OnlyReads e = cc
not_done x IsPrepared e = cc
not_done x LocksStand e = cc
not_done x NothingLocked e = cc
not_done x NeverNests e = cc
not_done x NoneOpen e = cc
not_done x IsDoomed e = cc

started_txn : (f : Form) (q : Option Refusal) (x : Own) (n : ℕ) (m : Map) → Done ≡ told_by q (OnGroup Start) x m → is_some (own_by f q (OnGroup Start) x n Done m).txn ≡ true
started_txn f (Some q) x n m e = absurd (not_done x q e)
started_txn f None x n m e = go x.txn
  where
    go : (o : Option Txn) → is_some (own_started o x m).txn ≡ true
    go None = refl
    go (Some z) = refl

txn_there : (o : Option Txn) → is_some o ≡ true → (z : Txn) × (o ≡ Some z)
txn_there None e = absurd (never_true e)
txn_there (Some z) e = (z, refl)

-- two transactions can't stand in one world
pub one_txn : (f : Form) (w : State) → IsSound f w → (o p : ℕ) → o ≢ p → is_some (w.own o).txn ≡ true → is_some (w.own p).txn ≡ true → ⊥
one_txn f w S o p ne one two =
    let a = txn_there (w.own o).txn one in
    let b = txn_there (w.own p).txn two in
    let at_o : kept f (w.own o) (w.spot o) 8 ≡ txn_held a.0 8 = ap (λ v. kept_by f v (w.own o) (w.spot o) 8) a.1 in
    let at_p : kept f (w.own p) (w.spot p) 8 ≡ txn_held b.0 8 = ap (λ v. kept_by f v (w.own p) (w.spot p) 8) b.1 in
    omega (arith, S.agrees o 8, S.agrees p 8, at_o, at_p, txn_lock a.0, txn_lock b.0, S.apart o p 8 ne)

-- what an opener holds a report takes it to hold
pub table_may : (f : Form) (w : State) → IsSound f w → (s : Replay) → Stands f w s → (o b : ℕ) → w.table o b ≤ may_hold f s o b
table_may f w S s P o b =
    let stood : (place : ℕ) → (w.spot o).stands ≡ Some place → (data_start f ≤ place) × (is_some (w.own o).cursor ≡ true) = λ place on. (let was = S.stands o place on in (was.1, was.2)) in
    let task_le = task_may f (w.own o) (w.spot o) (s.begun o) (w.task o) b (P.same o) in
    let keep_le = keep_may f (w.own o) (w.spot o) b stood in
    subst (λ y. w.table o b ≤ max (begun_held f y (s.begun o) b) (may_keep f y.txn y b)) (sym (P.owns o)) (omega (arith, S.agrees o b, task_le, keep_le))

module _ (f : Form) (old new : State) (who : ℕ) (task : Task) (turn : Turn) (S : IsSound f old) (T : Turned f old who task turn new) (s : Replay) (P : Stands f old s) where
  abbrev c : Command
  c = task.command

  abbrev n : ℕ
  n = task.steps

  abbrev x : Own
  x = old.own who

  abbrev m : Map
  m = s.map

  abbrev W : ℕ → ℕ
  W = want f old who task

  abbrev TheEffect : Type 0
  TheEffect = Effect f (IsFree old.table who (want f old who task)) (IsFirstConflict old.table who (want f old who task)) (Finds f (old.table who) (want f old who task) (seen x old.file))
      (number_seen x old.number (old.image_number who)) c n x old.file turn (new.own who) new.file

  begun_of : (b : Option Task) → IsSame b (Some task) → (steps_of b ≡ n) × IsOf b c
  begun_of None same = (sym same, tt)
  begun_of (Some u) same = (ap (λ z. z.steps) same, ap (λ z. z.command) same)

  here : (steps_of (s.begun who) ≡ n) × IsOf (s.begun who) c
  here = begun_of (s.begun who) (subst (IsSame (s.begun who)) T.mine (P.same who))

  pub same_steps : steps_of (s.begun who) ≡ n
  same_steps = here.0

  in_the_way : (o b : ℕ) → IsFirstConflict old.table who W o b → IsInTheWay f s who c o b
  in_the_way o b first = record {
    other = first.other;
    conflict =
        (let le = wanted_may f c x (decided (old.spot who) (old.view who) n) (old.view who) n b in
        subst₂ (λ y k. 2 < may_want f c y k b + may_hold f s o b) (sym (P.owns who)) (sym same_steps) (omega (arith, first.conflict, le, table_may f old S s P o b)));
  }

  own_there : s.own who ≡ x
  own_there = P.owns who

  -- the number that a Seqnum replies
  number_here : counts f c x ≡ true → IsFree old.table who W → number_seen x old.number (old.image_number who) ≡ number_seen x s.number (s.image_number who)
  number_here counting free =
      ap (number_seen x old.number) (sym (P.image_number who)) ∙ by_number P.number
    where
      other : (by : IsBringing f old) → by.owner ≢ who
      other by is = not_pending f old new who task turn T by.command by.own (quiet_counts f old new who task turn S T s P counting) (subst (λ o. IsPending f old o by.command by.own) is by.pending)

      has_txn : (by : IsBringing f old) → is_some (old.own by.owner).txn ≡ true
      has_txn by = go (old.own by.owner).txn refl
        where
          go : (o : Option Txn) → (old.own by.owner).txn ≡ o → is_some (old.own by.owner).txn ≡ true
          go None e = absurd (brings_txn_by (refusal f by.command by.own) by.command by.own by.brings (ap is_none (ap (λ v. v.txn) (sym by.pending.owned) ∙ e)))
          go (Some z) e = ap is_some e

      held_48 : (by : IsBringing f old) → 2 ≤ old.table by.owner 48
      held_48 by =
          let p = by.pending in
          let bring : brings f p.task.command (old.own by.owner) ≡ true = subst₂ (λ d y. brings f d y ≡ true) (sym p.command) (sym p.owned) by.brings in
          let made : is_changed f p.task.command (old.own by.owner) p.task.steps ≡ true = subst₂ (λ d y. is_changed f d y p.task.steps ≡ true) (sym p.command) (sym p.owned) p.made in
          let got = brings_48 f p.task.command (old.own by.owner) (old.spot by.owner) p.task.steps bring made in
          let there : old.table by.owner 48 ≡ max (held f p.task.command (old.own by.owner) (old.spot by.owner) p.task.steps 48) (kept f (old.own by.owner) (old.spot by.owner) 48) =
          S.agrees by.owner 48 ∙ ap (λ t. holding f (old.own by.owner) (old.spot by.owner) t 48) p.has_task in
          subst (λ u. 2 ≤ u) (sym there) got

      no_bringing : (by : IsBringing f old) → (o : Option Txn) → x.txn ≡ o → ⊥
      no_bringing by None e =
          let D = decided (old.spot who) (old.view who) n in
          let mine = seqnum_48 f c x D n counting (ap is_none e) in
          omega (
            arith,
            mine,
            before f old new who task turn S T 48,
            decided_held f c x (old.spot who) (old.view who) n 48,
            row_wanted f c x D (old.view who) n 48,
            held_48 by,
            free.free by.owner 48 (other by),
            S.apart by.owner who 48 (other by),
          )
      no_bringing by (Some z) e = one_txn f old S by.owner who (other by) (has_txn by) (ap is_some e)

      by_number : (s.number ≡ old.number) ⊎ IsBringing f old → number_seen x old.number (s.image_number who) ≡ number_seen x s.number (s.image_number who)
      by_number same_or =
          elim same_or [
            | inl same ↦ ap (λ q. number_seen x q (s.image_number who)) (sym same)
            | inr by ↦ absurd (no_bringing by x.txn refl)
          ]

  -- a pair that a move finds is one of the map that the opener sees
  seen_pair : (k v : List ℕ) → moves f c x ≡ true → IsFree old.table who W → get (seen x old.file) k ≡ Some v → 1 ≤ max (old.table who (chain_byte f k)) (W (chain_byte f k)) → get (seen x m) k ≡ Some v
  seen_pair k v moving free found chain = go x.txn found
    where
      file_same : get old.file k ≡ get m k
      file_same =
          elim (P.maps.each k) [
            | inl same ↦ same
            | inr by ↦ elim (cases_eq by.owner who) [
              | inl is ↦ absurd (not_pending f old new who task turn T by.command by.own (quiet_moves f old new who task turn S T s P moving) (subst (λ o. IsPending f old o by.command by.own) is by.pending))
              | inr ne ↦ absurd (omega (arith, chain, pending_touches f old S by.owner by.command by.own by.pending k by.touched, free.free by.owner (chain_byte f k) ne, S.apart by.owner who (chain_byte f k) ne))
            ]
          ]

      go : (o : Option Txn) → get (image_or o old.file) k ≡ Some v → get (image_or o m) k ≡ Some v
      go None e = sym file_same ∙ e
      go (Some z) e = e

  moves_there : (b : Bool) → moves f c x ≡ b → moves f c (s.own who) ≡ b
  moves_there b e = ap (λ y. moves f c y) own_there ∙ e

  counts_there : (b : Bool) → counts f c x ≡ b → counts f c (s.own who) ≡ b
  counts_there b e = ap (λ y. counts f c y) own_there ∙ e

  told_there : (r : Reply) → told f c x m ≡ r → told f c (s.own who) m ≡ r
  told_there r e = ap (λ y. told f c y m) own_there ∙ e

  -- a pair, by the walk
  pair_new : (r : Reply) (k v : List ℕ) → turn ≡ Ends r → r ≡ Pair k v → moves f c x ≡ true → Walked f old new who c n turn → shown_now f s who c k ≡ false
  pair_new r k v e is moving (walk_steps e2 shift) = cc
  pair_new r k v e is moving (walk_rests o b e2 gone shift) = cc
  pair_new r k v e is moving (walk_ends r2 e2 still shift) = absurd (never_true (sym still ∙ moving))
  pair_new r k v e is moving (walk_arrives k2 v2 e2 moving2 A) = subst (λ q. shown_now f s who c q ≡ false) (same_key (sym e2 ∙ (e ∙ ap Ends is))) (new_pair f old new who task turn S T s P k2 A)
    where
      same_key : Ends (Pair k2 v2) ≡ Ends (Pair k v) → k2 ≡ k
      same_key e3 = cc
  pair_new r k v e is moving (walk_finishes e2 moving2 F) = cc
  pair_new r k v e is moving (walk_halts o b e2 moving2 gone outside M) = cc
  pair_new r k v e is moving (walk_fails e2 moving2) = cc

  end_shown : (r : Reply) → turn ≡ Ends r → r ≡ End → moves f c x ≡ true → Walked f old new who c n turn → (k : List ℕ) → due_now f s who c k ≡ true → shown_now f s who c k ≡ true
  end_shown r e is moving (walk_steps e2 shift) k = cc
  end_shown r e is moving (walk_rests o b e2 gone shift) k = cc
  end_shown r e is moving (walk_ends r2 e2 still shift) k = absurd (never_true (sym still ∙ moving))
  end_shown r e is moving (walk_arrives k2 v2 e2 moving2 A) k = cc
  end_shown r e is moving (walk_finishes e2 moving2 F) k = all_shown f old new who task turn S T s P moving F k
  end_shown r e is moving (walk_halts o b e2 moving2 gone outside M) k = cc
  end_shown r e is moving (walk_fails e2 moving2) k = cc

  found_says : (r : Reply) → turn ≡ Ends r → moves f c x ≡ true → IsFree old.table who W → Finds f (old.table who) W (seen x old.file) r → Says f s who c r
  found_says r e moving free (finds_pair k v is there chain) =
      says_pair k v (moves_there true moving) is (ap (λ y. get (seen y m) k) own_there ∙ seen_pair k v moving free there chain) (pair_new r k v e is moving T.walks)
  found_says r e moving free (finds_end is) = says_end (moves_there true moving) is (end_shown r e is moving T.walks)

  same_reply : (r q : Reply) → turn ≡ Ends r → turn ≡ Ends q → r ≡ q
  same_reply r q e e2 = inner (sym e ∙ e2)
    where
      inner : Ends r ≡ Ends q → r ≡ q
      inner e3 = cc

  says_by : (r : Reply) → turn ≡ Ends r → TheEffect → Says f s who c r
  says_by r e (effect_waits o b e2 conflict not_yet file own) = cc
  says_by r e (effect_goes_on e2 free same file own) = cc
  says_by r e (effect_changes e2 free late not_yet made done file own) = cc
  says_by r e (effect_answers q e2 free moving counting ready not_yet reply_is file own) =
      says_plain (moves_there false moving) (counts_there false counting)
      (same_reply r q e e2 ∙ (reply_is ∙ (same_told f c x old.file m (agree f old new who task turn S T s P ready not_yet) ∙ sym (told_there _ refl))))
  says_by r e (effect_shows q e2 free moving found file own) = subst (Says f s who c) (same_reply q r e2 e) (found_says q e2 moving free found)
  says_by r e (effect_starves e2 want_of not_yet file own) = says_memory (same_reply r Memory e e2) (ap (λ y. starves f c y) own_there ∙ want_of)
  says_by r e (effect_is_full len need e2 free filling ready not_yet done file own) =
      says_full len need (same_reply r (Full len need) e e2) (ap (λ y. fills f c y) own_there ∙ filling)
      (told_there Done (sym (same_told f c x old.file m (agree f old new who task turn S T s P ready not_yet)) ∙ done))
  says_by r e (effect_is_busy o b e2 conflict busy file own) = says_busy o b (same_reply r (Busy o b) e e2) (ap (λ y. busies f c y) own_there ∙ busy) (in_the_way o b conflict)
  says_by r e (effect_numbers q e2 free counting same file own) =
      says_number q (counts_there true counting) (same_reply r (Number q) e e2) (same ∙ (number_here counting free ∙ ap (λ y. number_seen y s.number (s.image_number who)) (sym own_there)))
  says_by r e (effect_finishes e2 free made file own) =
      says_plain (moves_there false ((changing f c x n made).moves)) (counts_there false ((changing f c x n made).counts))
      (same_reply r Done e e2 ∙ sym (told_there Done (P.maps.replies who c x (own_pending f old new who task turn T made))))

  -- after a Start no other opener has a transaction
  start_done : (r : Reply) → turn ≡ Ends r → c ≡ OnGroup Start → r ≡ Done → is_some (new.own who).txn ≡ true
  start_done r e is done = by_says (says_by r e T.effect)
    where
      moves_not : moves f c (s.own who) ≡ true → ⊥
      moves_not moving = go (refusal f c (s.own who)) (subst (λ d. moves_by (refusal f c (s.own who)) d (s.own who) ≡ true) is moving)
        where
          go : (q : Option Refusal) → moves_by q (OnGroup Start) (s.own who) ≡ true → ⊥
          go None e2 = never_true e2
          go (Some q) e2 = never_true e2

      told_done : Done ≡ told f c x m → is_some (new.own who).txn ≡ true
      told_done told_is =
          let line : new.own who ≡ own_after f c x n Done m = own_line f old new who task turn S T s P ∙ (ap (λ u. line_own f c x n u m) (e ∙ ap Ends done) ∙ plain_own f c x m n Done refl) in
          ap (λ y. is_some y.txn) line ∙ subst (λ d. Done ≡ told f d x m → is_some (own_after f d x n Done m).txn ≡ true) (sym is) (started_txn f (refusal f (OnGroup Start) x) x n m) told_is

      by_says : Says f s who c r → is_some (new.own who).txn ≡ true
      by_says (says_plain moving counting told_is) = told_done (sym done ∙ (told_is ∙ ap (λ y. told f c y m) own_there))
      by_says (says_pair k v moving is2 there unseen) = absurd (moves_not moving)
      by_says (says_end moving is2 all) = absurd (moves_not moving)
      by_says (says_number q counting is2 same) = cc
      by_says (says_memory is2 want_of) = cc
      by_says (says_full len need is2 filling told_is) = cc
      by_says (says_busy o b is2 busy way) = cc

  no_txn : (o : Option Txn) → (is_some o ≡ true → ⊥) → o ≡ None
  no_txn None e = refl
  no_txn (Some z) e = absurd (e refl)

  alone : (r : Reply) → turn ≡ Ends r → IsAlone s who c r
  alone r e is done o ne =
      ap (λ y. y.txn) (P.owns o) ∙ no_txn (old.own o).txn
      (λ there. one_txn f new (sound_after f old new who task turn S T) o who ne (ap (λ y. is_some y.txn) (T.others_own o ne) ∙ there) (start_done r e is done))

  blocked_by : (o b : ℕ) → turn ≡ Blocked o b → TheEffect → IsInTheWay f s who c o b
  blocked_by o b e (effect_waits p d e2 conflict not_yet file own) = subst₂ (λ u v. IsInTheWay f s who c u v) (owner_same (sym e2 ∙ e)) (byte_same (sym e2 ∙ e)) (in_the_way p d conflict)
    where
      owner_same : Blocked p d ≡ Blocked o b → p ≡ o
      owner_same e3 = cc

      byte_same : Blocked p d ≡ Blocked o b → d ≡ b
      byte_same e3 = cc
  blocked_by o b e (effect_goes_on e2 free same file own) = cc
  blocked_by o b e (effect_changes e2 free late not_yet made done file own) = cc
  blocked_by o b e (effect_answers q e2 free moving counting ready not_yet reply_is file own) = cc
  blocked_by o b e (effect_shows q e2 free moving found file own) = cc
  blocked_by o b e (effect_starves e2 want_of not_yet file own) = cc
  blocked_by o b e (effect_is_full len need e2 free filling ready not_yet done file own) = cc
  blocked_by o b e (effect_is_busy p d e2 conflict busy file own) = cc
  blocked_by o b e (effect_numbers q e2 free counting same file own) = cc
  blocked_by o b e (effect_finishes e2 free made file own) = cc

  tells_by : (u : Turn) → turn ≡ u → AllowsTurn f s who c u
  tells_by Step e = tt
  tells_by (Blocked o b) e = blocked_by o b e T.effect
  tells_by (Ends r) e = (says_by r e T.effect, alone r e)

  pub allows : Allows f s who c turn
  allows = record {
    live = ap (λ y. y.live) (P.owns who) ∙ S.busy_there who task T.mine;
    begun = here.1;
    row = subst₂ (λ y k. IsRow f c y k turn) (sym (P.owns who)) (sym same_steps) T.row;
    tells = tells_by turn refl;
  }
