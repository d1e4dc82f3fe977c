-- The end of a cursor that stands on no record, by an EndWalk or a Close.
use Rattle.std.proofs.Common.{◌≡◌, ℕ, max, List, [], ◌∷◌, true, false, Option, Some, None, is_none, is_some, refl, sym, ◌∙◌, ap, subst, inl, arith}
use Rattle.std.specs.Prelude.{if◌then◌else◌}
use Rattle.tdb_space.specs.Form.{Form}
use Rattle.tdb_law.specs.Commands.{WalkCommand}
use Rattle.tdb_law.specs.Commands.WalkCommand.{First, Next, EndWalk, Close}
use Rattle.tdb_law.specs.Commands.Command.{OnWalk}
use Rattle.tdb_law.specs.Commands.Reply.{Done}
use Rattle.tdb_law.specs.Commands.Turn.{Ends}
use Rattle.tdb_law.specs.Openers.{Own, Spot, Task, seen}
use Rattle.tdb_law.specs.Refusals.{refusal, is_prepared, first_that_applies}
use Rattle.tdb_law.specs.Refusals.Refusal.{IsPrepared}
use Rattle.tdb_law.specs.Rows.{walk_locks, locks_by, changed_by, is_changed}
use Rattle.tdb_law.specs.Outcomes.{moves_by, moves, walk_moves, walk_told, counts_by, told_by, map_by, reads_by, own_by, own_walked}
use Rattle.tdb_law.specs.Ends.{walk_ends, ends_by}
use Rattle.tdb_law.specs.Counting.{number_seen, number_by, image_number_by, settles_by}
use Rattle.tdb_law.specs.Held.{stand_held, explicit_held, kept_by, kept, holding, decided}
use Rattle.tdb_law.specs.World.{State, IsSound}
use Rattle.tdb_law.specs.Effects.{Effect, IsFree, IsFirstConflict, Finds}
use Rattle.tdb_law.specs.Effects.Effect.{effect_answers}
use Rattle.tdb_law.specs.Effects.Stays.{stands_nowhere}
use Rattle.tdb_law.specs.Turned.{Turned, want}
use Rattle.tdb_law.specs.Walks.{Walked}
use Rattle.tdb_law.proofs.Covered.{none_held}
use Rattle.tdb_law.proofs.Kept.{closed_base}
use Rattle.tdb_law.proofs.Walking.{put_here, put_else}
use Rattle.tdb_law.proofs.Tests.{never_true}
use Rattle.tdb_law.specs.OneAside.Turns.{LeavesNothing, IsLeave, held_after, without_cursor}
use Rattle.tdb_law.specs.OneAside.Laws.{LeavingIsTurned}
use Rattle.tdb_law.proofs.OneAside.Idle.{still_shift, wants_nothing, nothing_free}

-- none of the two is refused outside a transaction
leave_granted : (f : Form) (c : WalkCommand) (x : Own) → IsLeave c → x.txn ≡ None → refusal f (OnWalk c) x ≡ None
unfolding refusal
leave_granted f First x is out = absurd is
leave_granted f Next x is out = absurd is
leave_granted f EndWalk x is out = ap (λ o. first_that_applies ((is_prepared o, IsPrepared) ∷ [])) out
leave_granted f Close x is out = refl

-- it may end at its first turn, moves nothing, and is told to be done
leave_ends : (c : WalkCommand) (cursor : Option (List ℕ)) → IsLeave c → walk_ends c cursor 0 ≡ true
leave_ends First cursor is = absurd is
leave_ends Next cursor is = absurd is
leave_ends EndWalk None is = refl
leave_ends EndWalk (Some k) is = refl
leave_ends Close None is = refl
leave_ends Close (Some k) is = refl

leave_still : (c : WalkCommand) (x : Own) → IsLeave c → walk_moves c x ≡ false
leave_still First x is = absurd is
leave_still Next x is = absurd is
leave_still EndWalk x is = refl
leave_still Close x is = refl

leave_told : (c : WalkCommand) → IsLeave c → Done ≡ walk_told c
leave_told First is = absurd is
leave_told Next is = absurd is
leave_told EndWalk is = refl
leave_told Close is = refl

-- where it has nothing to purge it locks nothing
leave_bare : (f : Form) (c : WalkCommand) (cursor : Option (List ℕ)) → IsLeave c → walk_locks f c cursor false ≡ []
leave_bare f First cursor is = absurd is
leave_bare f Next cursor is = absurd is
leave_bare f EndWalk None is = refl
leave_bare f EndWalk (Some k) is = refl
leave_bare f Close None is = refl
leave_bare f Close (Some k) is = refl

-- and its opener has no cursor afterwards
leave_ended : (c : WalkCommand) (x : Own) → IsLeave c → (own_walked c x Done).cursor ≡ None
leave_ended First x is = absurd is
leave_ended Next x is = absurd is
leave_ended EndWalk x is = refl
leave_ended Close x is = refl

-- what the opener keeps, where its cursor stands on no record
pub kept_off : (f : Form) (x : Own) (a : Spot) (b : ℕ) → x.txn ≡ None → a.stands ≡ None → kept f x a b ≡ max (explicit_held f x b) 0
kept_off f x a b out off = ap (λ o. kept_by f o x a b) out ∙ ap (λ o. max (explicit_held f x b) (stand_held o b)) off

-- afterwards it keeps that, and after a Close nothing
leave_keeps : (f : Form) (c : WalkCommand) (x : Own) (a : Spot) (held : ℕ → ℕ) (b : ℕ) → IsLeave c → x.txn ≡ None → a.stands ≡ None → held b ≡ kept f x a b → held_after c held b ≡ kept f (own_walked c x Done) a b
leave_keeps f First x a held b is out off whole = absurd is
leave_keeps f Next x a held b is out off whole = absurd is
leave_keeps f EndWalk x a held b is out off whole = whole ∙ kept_off f x a b out off ∙ sym (kept_off f (own_walked EndWalk x Done) a b out off)
leave_keeps f Close x a held b is out off whole = sym (kept_off f (own_walked Close x Done) a b refl off ∙ omega (arith, closed_base f 0 b x))

module _ (f : Form) (w : State) (who : ℕ) (c : WalkCommand) (S : IsSound f w) (ready : w.stale ≡ false) (mine : w.task who ≡ Some (record { command = OnWalk c; steps = 0 })) (is : IsLeave c) (L : LeavesNothing w who) where
  abbrev x : Own
  x = w.own who

  abbrev y : Own
  y = own_walked c x Done

  abbrev t : Task
  t = record { command = OnWalk c; steps = 0 }

  abbrev new : State
  new = without_cursor c w who

  abbrev a : Spot
  a = decided (w.spot who) (w.view who) 0

  granted : refusal f (OnWalk c) x ≡ None
  granted = leave_granted f c x is L.outside

  own_here : new.own who ≡ y
  own_here = put_here w.own who y who refl

  still : moves f (OnWalk c) x ≡ false
  still = ap (λ q. moves_by q (OnWalk c) x) granted ∙ leave_still c x is

  wants_none : (b : ℕ) → want f w who t b ≡ 0
  wants_none b = wants_nothing f (OnWalk c) x a (w.view who) 0 b still
      (ap (λ q. locks_by f q (OnWalk c) x a.purging) granted ∙ ap (λ o. if is_none o then walk_locks f c x.cursor a.purging else []) L.outside ∙ ap (walk_locks f c x.cursor) L.clean ∙ leave_bare f c x.cursor is)

  abbrev EffectTo : Own → Type 0
  EffectTo z = Effect f (IsFree w.table who (want f w who t)) (IsFirstConflict w.table who (want f w who t)) (Finds f (w.table who) (want f w who t) (seen x w.file)) (number_seen x w.number (w.image_number who)) (OnWalk c) 0 x w.file (Ends Done) z w.file

  effect : EffectTo y
  unfolding is_changed
  effect = effect_answers Done refl (nothing_free f w who t S wants_none) still (ap (λ q. counts_by q (OnWalk c)) granted)
      (λ k reading. absurd (never_true (sym (ap (λ q. reads_by q (OnWalk c) x k) granted) ∙ reading))) (ap (λ q. changed_by q (OnWalk c) x 0) granted)
      (leave_told c is ∙ sym (ap (λ q. told_by q (OnWalk c) x w.file) granted)) (sym (ap (λ q. map_by q (OnWalk c) x w.file) granted)) (sym (ap (λ q. own_by f q (OnWalk c) x 0 Done w.file) granted))

  -- before its first turn the command has locked nothing
  whole : (b : ℕ) → w.table who b ≡ kept f x (w.spot who) b
  whole b = S.agrees who b ∙ ap (λ u. holding f x (w.spot who) u b) mine ∙ omega (arith, none_held f (OnWalk c) x (w.spot who) b)

  holds : (b : ℕ) → new.table who b ≡ holding f (new.own who) (new.spot who) (new.task who) b
  holds b =
      let now = ap (λ g. g b) (put_here w.table who (held_after c (w.table who)) who refl) in
      let keeps = leave_keeps f c x (w.spot who) (w.table who) b is L.outside L.stands (whole b) in
      let after : holding f (new.own who) (new.spot who) (new.task who) b ≡ holding f y (w.spot who) None b = (λ i. holding f (own_here i) (w.spot who) (put_here w.task who None who refl i) b) in
      omega (arith, now, keeps, after)

  left : Turned f w who t (Ends Done) new
  left = record {
    mine = mine;
    joined = refl;
    others = λ o ne. put_else w.task who None o ne;
    others_own = λ o ne. put_else w.own who y o ne;
    others_spot = λ o ne. refl;
    others_hold = λ o b ne. ap (λ g. g b) (put_else w.table who (held_after c (w.table who)) o ne);
    others_number = λ o ne. refl;
    others_walk = λ o ne. still_shift f _ _;
    row = inl (ap (λ q. ends_by q (OnWalk c) x 0 Done) granted ∙ ap (λ o. if is_none o then walk_ends c x.cursor 0 else true) L.outside ∙ leave_ends c x.cursor is);
    leaves = put_here w.task who None who refl;
    leaves_spot = (stands_nowhere L.stands, L.near);
    effect = subst EffectTo (sym own_here) effect;
    holds = holds;
    walks = Walked.walk_ends Done refl still (λ cursor. absurd (never_true (sym (ap (λ (z : Own). is_some z.cursor) own_here ∙ ap is_some (leave_ended c x is)) ∙ cursor)));
    ready = ready;
    stale = ready;
    settled = sym (ap (λ q. if settles_by q (OnWalk c) x then true else w.settled) granted);
    number = sym (ap (λ q. number_by q (OnWalk c) x w.number (w.image_number who)) granted);
    image_number = sym (ap (λ q. image_number_by q (OnWalk c) x w.number (w.image_number who)) granted);
  }

pub leaving_is_turned : LeavingIsTurned
leaving_is_turned f w who t c S ready mine new asks is L =
    let same : record { command = OnWalk c; steps = 0 } ≡ t = λ i. record { command = sym asks i; steps = sym new i } in
    subst (λ u. w.task who ≡ Some u → Turned f w who u (Ends Done) (without_cursor c w who)) same (λ mine. left f w who c S ready mine is L) mine
