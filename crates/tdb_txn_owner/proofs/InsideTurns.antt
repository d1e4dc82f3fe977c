-- The turns of commands that are done in one turn inside a transaction, or end it so, are turns of the opener aside.
use Rattle.std.proofs.Common.{◌≡◌, ℕ, ◌≤◌, ◌<◌, true, false, nat_lt, Some, None, refl, sym, ap, ◌∙◌, subst, inl, arith}
use Rattle.std.specs.Prelude.{is_none, is_some}
use Rattle.std.proofs.lemmas.Bool.{le-leb, lt-ltb}
use Rattle.tdb_space.specs.Form.{Form}
use Rattle.tdb_law.specs.Commands.{Command}
use Rattle.tdb_law.specs.Commands.GroupCommand.{Start, Commit, Prepare, Cancel}
use Rattle.tdb_law.specs.Commands.WalkCommand.{Close}
use Rattle.tdb_law.specs.Commands.Command.{OnMap, OnLocks, Seqnum, OnGroup, OnWalk}
use Rattle.tdb_law.specs.Commands.Reply.{Done}
use Rattle.tdb_law.specs.Commands.Turn.{Ends}
use Rattle.tdb_law.specs.Openers.{Map, Mark, Own, Txn, closed, ended, nowhere}
use Rattle.tdb_law.specs.Refusals.{refusal, says}
use Rattle.tdb_law.specs.Rows.{all_end, changed_by, is_changed, start_locks}
use Rattle.tdb_law.specs.Outcomes.{moves, own_refused, reads}
use Rattle.tdb_law.specs.Effects.Effect.{effect_answers}
use Rattle.tdb_law.specs.Walks.{Lost, Shift}
use Rattle.tdb_law.specs.Walks.Walked.{walk_ends}
use Rattle.tdb_law.specs.Held.{holding, kept, locked, txn_held}
use Rattle.tdb_txn_turns.specs.InsideTxn.Laws.{IsEnd}
use Rattle.tdb_txn_turns.specs.InsideTxn.Turns.{ReadsAll}
use Rattle.tdb_txn_turns.proofs.InsideTxn.Inside.{left_so, nothing_held}
use Rattle.tdb_law.specs.OneAside.Sides.{Side}
use Rattle.tdb_txn_owner.specs.Ends.{CancelEnds, RefusalEnds, EndIsOwn, CloseIsOwn, InsideIsOwn, WalkShifts, GoesOnHolding, task_of}
use Rattle.tdb_txn_owner.proofs.GroupCounts.{end_settles, image_kept}
use Rattle.tdb_txn_owner.proofs.Keeping.{keeps_nothing}
use Rattle.tdb_txn_owner.proofs.Turning.{EffectIs, own_turned, still_turned, rests, group_still}

-- a Cancel isn't refused where there is a transaction
cancel_granted : (f : Form) (x : Own) (txn : Txn) → x.txn ≡ Some txn → refusal f (OnGroup Cancel) x ≡ None
unfolding refusal
cancel_granted f x txn has = rw has refl

pub cancel_ends : CancelEnds
cancel_ends f x txn n p has outer =
    left_so f x (ended x) (OnGroup Cancel) None (cancel_granted f x txn has) Done
    (record {
      ends = refl;
      unlocked = λ purging. refl;
      unmoved = refl;
      uncounted = refl;
      looks = refl;
      unchanged = refl;
      told = λ m. refl;
      map = λ m. refl;
      own = λ m. let last : nat_lt 1 txn.depth ≡ false = ap (nat_lt 1) outer in rw (has, last) refl;
      number = λ n p. refl;
      image_number = λ n p. refl;
      within = ap is_none has;
    }) n p (nothing_held f x)

pub refusal_ends : RefusalEnds
refusal_ends f x txn c why n p has outer end R =
    left_so f x (ended x) c (Some why) R (says x why)
    (record {
      ends = refl;
      unlocked = λ purging. refl;
      unmoved = refl;
      uncounted = refl;
      looks = refl;
      unchanged = refl;
      told = λ m. refl;
      map = λ m. refl;
      own = λ m. left_ended c end;
      number = λ n p. refl;
      image_number = λ n p. refl;
      within = ap is_none has;
    }) n p (nothing_held f x)
  where
    last : nat_lt 1 txn.depth ≡ false
    last = ap (nat_lt 1) outer

    left_ended : (c : Command) → IsEnd c → own_refused c x ≡ ended x
    left_ended (OnMap c) end = absurd end
    left_ended (OnLocks c) end = absurd end
    left_ended Seqnum end = absurd end
    left_ended (OnGroup Start) end = absurd end
    left_ended (OnGroup Commit) end = rw (has, last) refl
    left_ended (OnGroup Prepare) end = rw (has, last) refl
    left_ended (OnGroup Cancel) end = absurd end
    left_ended (OnWalk w) end = absurd end

pub end_is_own : EndIsOwn
end_is_own f table m q old new s z x txn g r has E none B L =
    own_turned f table m m q q old new s z x (ended x) (task_of (OnGroup g) 0) (Ends r) old.settled (old.numbers s.here) B L
    E.row (E.effect table s.here _ m) (λ b. none b ∙ sym (E.holds b))
    (rests f table m m q q old new s z x (ended x) (task_of (OnGroup g) 0) (Ends r) old.settled (old.numbers s.here) B L (group_still f g x) (λ shown. absurd (cc shown)))
    (sym (end_settles f x (ap is_none has) (OnGroup g) 0 r old.settled)) (sym E.number) (sym (image_kept f x (ap is_none has) g r q (old.numbers s.here)))

-- a Close isn't refused
module _ (f : Form) (x : Own) where
  close_granted : refusal f (OnWalk Close) x ≡ None
  unfolding refusal
  close_granted = refl

  close_unchanged : is_changed f (OnWalk Close) x 0 ≡ false
  unfolding is_changed
  close_unchanged = ap (λ o. changed_by o (OnWalk Close) x 0) close_granted

  close_answers : (m : Map) → EffectIs f (OnWalk Close) 0 x m (Ends Done) (closed x) m
  close_answers m free conflict finds number isfree =
      effect_answers Done refl isfree (rw close_granted refl) (rw close_granted refl)
      (λ k reading. absurd (let none : reads f (OnWalk Close) x k ≡ false = rw close_granted refl in cc)) close_unchanged (rw close_granted refl) (rw close_granted refl) (rw close_granted refl)

pub close_is_own : CloseIsOwn
close_is_own f table m q old new s z x txn has none B L =
    still_turned f table m m q q old new s z x (closed x) (task_of (OnWalk Close) 0) (Ends Done) old.settled (old.numbers s.here) B L (rw granted refl) (λ shown. absurd (cc shown))
    (inl (rw (granted, has) refl)) (close_answers f x m)
    (λ b. let e = none b in let bare = keeps_nothing f (closed x) refl refl refl b in omega (arith, e, bare))
    (sym (end_settles f x (ap is_none has) (OnWalk Close) 0 Done old.settled)) (rw granted refl) (rw granted refl)
  where
    granted : refusal f (OnWalk Close) x ≡ None
    granted = close_granted f x

-- the opener of a transaction reads all records
reads_locked : (b : ℕ) → 168 ≤ b → b < all_end → 1 ≤ locked start_locks 2 b
reads_locked b above below = rw (le-leb 168 b above, lt-ltb b all_end below) (omega arith)

pub reads_all : (f : Form) (table : ℕ → ℕ → ℕ) (s z : Side) (x : Own) (txn : Txn) → x.txn ≡ Some txn → s.own ≡ x → GoesOnHolding f table s z → ReadsAll table s.here
reads_all f table s z x txn has is G b above below =
    let e = G.in_table b in let held = G.holds b in let same = ap (λ o. holding f o nowhere s.task b) is in
    let mine : kept f x nowhere b ≡ txn_held txn b = rw has refl in let some = reads_locked b above below in omega (arith, e, held, same, mine, some)

pub inside_is_own : InsideIsOwn
inside_is_own f table m n q old new s z x y txn c r has I G walks B L =
    own_turned f table m m n n old new s z x y (task_of c 0) (Ends r) old.settled q B L
    I.row (λ free. I.effect table s.here _ m free (reads_all f table s z x txn has B.own G))
    (λ b. G.goes_on b ∙ G.holds b ∙ ap (λ o. holding f o nowhere s.task b) B.own ∙ ap (λ u. holding f x nowhere u b) B.task ∙ sym (I.holds nowhere nowhere b)) walks
    (sym (end_settles f x (ap is_none has) c 0 r old.settled)) (sym I.number) I.image_number

pub walk_shifts : WalkShifts
walk_shifts f m mm s z x y c n r is later here still shift w v W V =
    walk_ends r refl (ap (moves f c) own_before ∙ still) (λ shown.
    subst (λ h. ShiftBy (w.own s.here) (w.mark s.here) (v.mark h)) here
    (subst (λ b. ShiftBy (w.own s.here) (w.mark s.here) b) (sym V.mark) (subst (λ a. ShiftBy (w.own s.here) a z.mark) (sym W.mark) (subst (λ o. ShiftBy o s.mark z.mark) (sym own_before)
    (shift (sym (ap (λ (o : Own). is_some o.cursor) (ap (λ h. v.own h) (sym here) ∙ V.own ∙ later)) ∙ shown))))))
  where
    own_before : w.own s.here ≡ x
    own_before = W.own ∙ is

    ShiftBy : Own → Mark → Mark → Type 0
    ShiftBy o a b = Shift f (Lost f c n o (Ends r) true a) a b
