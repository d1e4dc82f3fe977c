-- A turn of the opener aside, from what is known before it and after it, where its command is no move.
use Rattle.std.proofs.Common.{◌≡◌, ℕ, List, Bool, true, false, Option, Some, None, is_some, refl, sym, ap, ◌∙◌, subst, inl}
use Rattle.tdb_space.specs.Form.{Form}
use Rattle.tdb_law.specs.Commands.{Command, GroupCommand, Reply, Turn}
use Rattle.tdb_law.specs.Commands.WalkCommand.{Close}
use Rattle.tdb_law.specs.Commands.Command.{OnGroup, OnWalk}
use Rattle.tdb_law.specs.Commands.Turn.{Step, Blocked, Ends}
use Rattle.tdb_law.specs.Openers.{Own, Map, Mark, Spot, Task, nowhere, seen}
use Rattle.tdb_law.specs.Refusals.{Refusal, refusal}
use Rattle.tdb_law.specs.Outcomes.{moves, moves_by}
use Rattle.tdb_law.specs.Ends.{IsRow}
use Rattle.tdb_law.specs.Counting.{number_seen, image_number_after, settled_after}
use Rattle.tdb_law.specs.Held.{holding}
use Rattle.tdb_law.specs.World.{State}
use Rattle.tdb_law.specs.Effects.{Effect, IsFree, IsFirstConflict, Finds, task_left}
use Rattle.tdb_law.specs.Turned.{number_next}
use Rattle.tdb_law.specs.Walks.{Lost, Shift, Walked}
use Rattle.tdb_law.specs.Walks.Walked.{walk_steps, walk_rests, walk_ends}
use Rattle.tdb_law.specs.OneAside.Sides.{Past, Side}
use Rattle.tdb_law.specs.OneAside.Own.{OwnTurned, ShowsSide, side_wants}
use Rattle.tdb_txn_owner.specs.Ends.{MarkRests, TurnBegins, TurnLeaves}

-- a walk that isn't moved
pub still_shift : (f : Form) (lost : List ℕ → Type 0) (mark later : Mark) → later ≡ mark → Shift f lost mark later
still_shift f lost mark later same = subst (λ z. Shift f lost mark z) (sym same) (record { inside = refl; reached = refl; fewer = λ k e. inl e; kept = λ k e. inl e })

-- The effect of a turn on the file and on the opener, whatever is wanted, found and seen.
abbrev pub EffectIs : Form → Command → ℕ → Own → Map → Turn → Own → Map → Type 1
EffectIs f c n x m turn y mm = (free : Type 0) (conflict : ℕ → ℕ → Type 0) (finds : Reply → Type 0) (number : ℕ) → free → Effect f free conflict finds number c n x m turn y mm

module _ (f : Form) (table : ℕ → ℕ → ℕ) (m mm : Map) (q qq : ℕ) (old new : Past) (s z : Side) (x y : Own) (t : Task) (turn : Turn) (settled : Bool) (number : ℕ)
    (B : TurnBegins f table s x t) (L : TurnLeaves old new s z t turn y settled number) where
  -- what is left of the walk, by the states before the turn and after it
  pub rests : moves f t.command x ≡ false → MarkRests y turn s.mark z.mark → (w v : State) → ShowsSide w s m → ShowsSide v z mm → Walked f w v s.here t.command t.steps turn
  rests still R w v S Z = go turn R
    where
      own_before : w.own s.here ≡ x
      own_before = S.own ∙ B.own

      own_later : v.own s.here ≡ y
      own_later = ap (λ h. v.own h) (sym L.here) ∙ Z.own ∙ L.own

      mark_later : z.mark ≡ s.mark → v.mark s.here ≡ w.mark s.here
      mark_later same = ap (λ h. v.mark h) (sym L.here) ∙ Z.mark ∙ same ∙ sym S.mark

      go : (u : Turn) → MarkRests y u s.mark z.mark → Walked f w v s.here t.command t.steps u
      go Step R = walk_steps refl (still_shift f (Lost f t.command t.steps (w.own s.here) Step true (w.mark s.here)) (w.mark s.here) (v.mark s.here) (mark_later R))
      go (Blocked o b) R = walk_rests o b refl (ap (λ h. (v.spot h).gone) (sym L.here) ∙ ap (λ (a : Spot). a.gone) Z.spot ∙ sym (ap (λ (a : Spot). a.gone) S.spot))
          (still_shift f (Lost f t.command t.steps (w.own s.here) (Blocked o b) true (w.mark s.here)) (w.mark s.here) (v.mark s.here) (mark_later R))
      go (Ends r) R = walk_ends r refl (ap (moves f t.command) own_before ∙ still)
          (λ shown. still_shift f (Lost f t.command t.steps (w.own s.here) (Ends r) true (w.mark s.here)) (w.mark s.here) (v.mark s.here) (mark_later (R (sym (ap (λ (o : Own). is_some o.cursor) own_later) ∙ shown))))

  abbrev EffectAt : Own → Own → Type 0
  EffectAt o p = Effect f (IsFree table s.here (side_wants f s t)) (IsFirstConflict table s.here (side_wants f s t)) (Finds f (table s.here) (side_wants f s t) (seen o m)) (number_seen o q (old.numbers s.here))
      t.command t.steps o m turn p mm

  pub own_turned : IsRow f t.command x t.steps turn → (IsFree table s.here (side_wants f s t) → EffectAt x y) → ((b : ℕ) → z.table b ≡ holding f y nowhere (task_left t.command t.steps turn) b)
      → ((w v : State) → ShowsSide w s m → ShowsSide v z mm → Walked f w v s.here t.command t.steps turn)
      → settled ≡ settled_after f t.command x t.steps turn old.settled → qq ≡ number_next f t.command t.steps x turn q (old.numbers s.here)
      → number ≡ image_number_after f t.command x turn q (old.numbers s.here) → OwnTurned f table m mm q qq old new s z t turn
  own_turned row effect holds walks settles counts numbers = record {
    mine = B.task;
    here = L.here;
    keeps = B.keeps;
    row = subst (λ o. IsRow f t.command o t.steps turn) (sym B.own) row;
    leaves = L.task;
    effect = subst (λ o. EffectAt o z.own) (sym B.own) (subst (λ o. EffectAt x o) (sym L.own) (effect B.free));
    holds = λ b. holds b ∙ sym (ap (λ o. holding f o nowhere z.task b) L.own ∙ ap (λ u. holding f y nowhere u b) L.task);
    walks = walks;
    settled = L.settled ∙ settles ∙ sym (ap (λ o. settled_after f t.command o t.steps turn old.settled) B.own);
    number = counts ∙ sym (ap (λ o. number_next f t.command t.steps o turn q (old.numbers s.here)) B.own);
    image_number = L.number ∙ numbers ∙ sym (ap (λ o. image_number_after f t.command o turn q (old.numbers s.here)) B.own);
    other_numbers = L.others;
  }

  -- where the walk of its cursor stays
  pub still_turned : moves f t.command x ≡ false → MarkRests y turn s.mark z.mark → IsRow f t.command x t.steps turn → EffectIs f t.command t.steps x m turn y mm
      → ((b : ℕ) → z.table b ≡ holding f y nowhere (task_left t.command t.steps turn) b)
      → settled ≡ settled_after f t.command x t.steps turn old.settled → qq ≡ number_next f t.command t.steps x turn q (old.numbers s.here)
      → number ≡ image_number_after f t.command x turn q (old.numbers s.here) → OwnTurned f table m mm q qq old new s z t turn
  still_turned still M row effect holds settles counts numbers = own_turned row (effect _ _ _ _) holds (rests still M) settles counts numbers

-- a Close is no move
pub close_still : (f : Form) (x : Own) → moves f (OnWalk Close) x ≡ false
close_still f x = go (refusal f (OnWalk Close) x)
  where
    go : (o : Option Refusal) → moves_by o (OnWalk Close) x ≡ false
    go None = refl
    go (Some why) = refl

-- a command on the transaction is no move
pub group_still : (f : Form) (g : GroupCommand) (x : Own) → moves f (OnGroup g) x ≡ false
group_still f g x = go (refusal f (OnGroup g) x)
  where
    go : (o : Option Refusal) → moves_by o (OnGroup g) x ≡ false
    go None = refl
    go (Some why) = refl
