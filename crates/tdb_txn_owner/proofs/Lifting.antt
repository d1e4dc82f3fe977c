-- A turn of the opener aside is a turn of the whole state.
use Rattle.std.proofs.Common.{◌≡◌, ◌≢◌, ℕ, false, ◌==◌, refl, sym, ap, ◌∙◌, subst, inl}
use Rattle.std.specs.Prelude.{if◌then◌else◌}
use Rattle.std.proofs.Math.Path.{fun_ext}
use Rattle.std.proofs.lemmas.Bool.{eq-eqb, ne_eqb}
use Rattle.tdb_space.specs.Form.{Form}
use Rattle.tdb_law.specs.Commands.{Turn}
use Rattle.tdb_law.specs.Commands.Turn.{Step, Blocked, Ends}
use Rattle.tdb_law.specs.Openers.{Own, Task, View, nowhere, seen}
use Rattle.tdb_law.specs.Ends.{IsRow}
use Rattle.tdb_law.specs.Counting.{number_seen, image_number_after, settled_after}
use Rattle.tdb_law.specs.Held.{decided, holding, wanted}
use Rattle.tdb_law.specs.World.{State}
use Rattle.tdb_law.specs.Effects.{Effect, IsFree, IsFirstConflict, Finds, SpotLeft}
use Rattle.tdb_law.specs.Effects.Stays.{stands_nowhere}
use Rattle.tdb_law.specs.Turned.{Turned, number_next, want}
use Rattle.tdb_law.specs.Walks.{Lost, Shift}
use Rattle.tdb_txn_turns.proofs.InsideTxn.Inside.{same_either}
use Rattle.tdb_law.specs.OneAside.Sides.{Past, Side, alone, beside, but_at, heads_ahead}
use Rattle.tdb_law.specs.OneAside.Own.{OwnTurned, side_wants}
use Rattle.tdb_txn_owner.specs.Lifts.{Shows, ShownTurns, OthersKeep, IsBack, BesideTurns, BesideEnds, BesideBegins}

-- where nothing has to be purged nothing is decided
decides_nothing : (v : View) (n : ℕ) → v.must ≡ false → decided nowhere v n ≡ nowhere
decides_nothing v n none = ap (λ m. record nowhere { purging = if n == 0 then m else false }) none ∙ ap (λ m. record nowhere { purging = m }) (same_either (n == 0) false)

-- a cursor that stands on no record before a turn and after it
leaves_nowhere : (f : Form) (table wants : ℕ → ℕ) (t : Task) (x y : Own) (v : View) (turn : Turn) → v.must ≡ false → SpotLeft f table wants t.command t.steps x y nowhere v nowhere turn
leaves_nowhere f table wants t x y v Step none = sym (decides_nothing v t.steps none)
leaves_nowhere f table wants t x y v (Blocked o b) none = inl refl
leaves_nowhere f table wants t x y v (Ends r) none = (stands_nowhere refl, refl)

module _ (f : Form) (old new : State) (past later : Past) (s z : Side) (t : Task) (turn : Turn) (S : Shows old past s) (view : old.view s.here ≡ s.view) (Z : Shows new later z)
    (K : OthersKeep f old new s t turn) (O : OwnTurned f old.table old.file new.file old.number new.number past later s z t turn) where
  abbrev EffectBy : (ℕ → ℕ) → Own → ℕ → Own → Type 0
  EffectBy wants x p y = Effect f (IsFree old.table s.here wants) (IsFirstConflict old.table s.here wants) (Finds f (old.table s.here) wants (seen x old.file)) (number_seen x old.number p)
      t.command t.steps x old.file turn y new.file

  spot : old.spot s.here ≡ nowhere
  spot = S.side.spot

  wants_so : (b : ℕ) → want f old s.here t b ≡ side_wants f s t b
  wants_so b =
      ap (λ x. wanted f t.command x (decided (old.spot s.here) (old.view s.here) t.steps) (old.view s.here) t.steps b) S.side.own
      ∙ ap (λ v. wanted f t.command s.own (decided (old.spot s.here) v t.steps) v t.steps b) view
      ∙ ap (λ a. wanted f t.command s.own (decided a s.view t.steps) s.view t.steps b) spot
      ∙ ap (λ a. wanted f t.command s.own a s.view t.steps b) (decides_nothing s.view t.steps O.keeps)

  -- what the state says of the opener after the turn, where it was before
  here : z.here ≡ s.here
  here = O.here

  own_after : new.own s.here ≡ z.own
  own_after = ap (λ h. new.own h) (sym here) ∙ Z.side.own

  effect : EffectBy (want f old s.here t) (old.own s.here) (old.image_number s.here) (new.own s.here)
  effect =
      subst (λ y. EffectBy (want f old s.here t) (old.own s.here) (old.image_number s.here) y) (sym own_after)
      (subst (λ p. EffectBy (want f old s.here t) (old.own s.here) p z.own) (sym (S.numbers s.here))
      (subst (λ x. EffectBy (want f old s.here t) x (past.numbers s.here) z.own) (sym S.side.own)
      (subst (λ w. EffectBy w s.own (past.numbers s.here) z.own) (sym (fun_ext wants_so)) O.effect)))

  holds : (b : ℕ) → new.table s.here b ≡ holding f (new.own s.here) (new.spot s.here) (new.task s.here) b
  holds b =
      subst (λ h. new.table h b ≡ holding f (new.own h) (new.spot h) (new.task h) b) here
      (Z.side.table b ∙ O.holds b ∙ sym (ap (λ y. holding f y nowhere z.task b) Z.side.own)
      ∙ sym (ap (λ a. holding f (new.own z.here) a z.task b) Z.side.spot) ∙ sym (ap (λ u. holding f (new.own z.here) (new.spot z.here) u b) Z.task))

  pub shown_turned : Turned f old s.here t turn new
  shown_turned = record {
    mine = S.task ∙ O.mine;
    joined = K.joined;
    others = K.task;
    others_own = K.own;
    others_spot = K.spot;
    others_hold = K.table;
    others_number = λ o differs. Z.numbers o ∙ O.other_numbers o differs ∙ sym (S.numbers o);
    others_walk = λ o differs. subst (λ x. Shift f (Lost f t.command t.steps x turn false (old.mark o)) (old.mark o) (new.mark o)) (sym S.side.own) (K.mark o differs);
    row = subst (λ x. IsRow f t.command x t.steps turn) (sym S.side.own) O.row;
    leaves = ap (λ h. new.task h) (sym here) ∙ Z.task ∙ O.leaves;
    leaves_spot = spot_left;
    effect = effect;
    holds = holds;
    walks = O.walks old new S.side Z.side;
    ready = K.ready;
    stale = K.stale;
    settled = Z.settled ∙ O.settled ∙ sym (ap (λ x. settled_after f t.command x t.steps turn old.settled) S.side.own ∙ ap (λ b. settled_after f t.command s.own t.steps turn b) S.settled);
    number = O.number ∙ sym (ap (λ x. number_next f t.command t.steps x turn old.number (old.image_number s.here)) S.side.own ∙ ap (λ p. number_next f t.command t.steps s.own turn old.number p) (S.numbers s.here));
    image_number = Z.numbers s.here ∙ O.image_number
        ∙ sym (ap (λ x. image_number_after f t.command x turn old.number (old.image_number s.here)) S.side.own ∙ ap (λ p. image_number_after f t.command s.own turn old.number p) (S.numbers s.here));
  }
    where
      spot_left : SpotLeft f (old.table s.here) (want f old s.here t) t.command t.steps (old.own s.here) (new.own s.here) (old.spot s.here) (old.view s.here) (new.spot s.here) turn
      spot_left =
          subst (λ a. SpotLeft f (old.table s.here) (want f old s.here t) t.command t.steps (old.own s.here) (new.own s.here) a (old.view s.here) (new.spot s.here) turn) (sym spot)
          (subst (λ b. SpotLeft f (old.table s.here) (want f old s.here t) t.command t.steps (old.own s.here) (new.own s.here) nowhere (old.view s.here) b turn) (sym (ap (λ h. new.spot h) (sym here) ∙ Z.side.spot))
          (leaves_nowhere f (old.table s.here) (want f old s.here t) t (old.own s.here) (new.own s.here) (old.view s.here) turn (ap (λ (v : View). v.must) view ∙ O.keeps)))

pub shown_turns : ShownTurns
shown_turns f old new past later s z t turn S view Z K O = shown_turned f old new past later s z t turn S view Z K O

-- a function with another value at one opener, there and elsewhere
but_here : {A : Type 0} (here : ℕ) (x : A) (g : ℕ → A) → but_at here x g here ≡ x
but_here here x g = rw (eq-eqb here here refl) refl

but_else : {A : Type 0} (here : ℕ) (x : A) (g : ℕ → A) (o : ℕ) → o ≢ here → but_at here x g o ≡ g o
but_else here x g o differs = rw (ne_eqb o here differs) refl

-- the two kinds of states in which the opener of a side is seen
beside_shows : (p : State) (past : Past) (s : Side) → Shows (beside p past s) past s
beside_shows p past s = record {
  side = record {
    own = but_here s.here s.own p.own;
    mark = but_here s.here s.mark p.mark;
    spot = but_here s.here nowhere p.spot;
    table = λ b. ap (λ g. g b) (but_here s.here s.table p.table);
    file = refl;
  };
  task = but_here s.here s.task p.task;
  settled = refl;
  numbers = λ o. refl;
}

beside_view : (p : State) (past : Past) (s : Side) → (beside p past s).view s.here ≡ s.view
beside_view p past s = but_here s.here s.view (if s.shuts then (λ o. heads_ahead s.heads (p.mark o)) else p.view)

alone_shows : (p : State) (past : Past) (s : Side) → IsBack p s → Shows (alone p past) past s
alone_shows p past s B = record {
  side = record { own = B.own; mark = B.mark; spot = B.spot; table = B.table; file = refl };
  task = B.task;
  settled = refl;
  numbers = λ o. refl;
}

-- all others are the same in these states as in the plain ones
module _ (f : Form) (p q : State) (past later : Past) (s z : Side) (t : Task) (turn : Turn) (here : z.here ≡ s.here) (K : OthersKeep f p q s t turn) where
  elsewhere : {A : Type 0} (x : A) (g : ℕ → A) (o : ℕ) → o ≢ s.here → but_at z.here x g o ≡ g o
  elsewhere x g o differs = but_else z.here x g o (λ e. differs (e ∙ here))

  abbrev ShiftsFrom : State → State → ℕ → Type 0
  ShiftsFrom a b o = Shift f (Lost f t.command t.steps s.own turn false (a.mark o)) (a.mark o) (b.mark o)

  keep_beside : OthersKeep f (beside p past s) (beside q later z) s t turn
  keep_beside = record {
    joined = K.joined;
    task = λ o differs. elsewhere z.task q.task o differs ∙ K.task o differs ∙ sym (but_else s.here s.task p.task o differs);
    own = λ o differs. elsewhere z.own q.own o differs ∙ K.own o differs ∙ sym (but_else s.here s.own p.own o differs);
    spot = λ o differs. elsewhere nowhere q.spot o differs ∙ K.spot o differs ∙ sym (but_else s.here nowhere p.spot o differs);
    table = λ o b differs. ap (λ g. g b) (elsewhere z.table q.table o differs) ∙ K.table o b differs ∙ sym (ap (λ g. g b) (but_else s.here s.table p.table o differs));
    mark = λ o differs. rw (but_else s.here s.mark p.mark o differs, elsewhere z.mark q.mark o differs) (K.mark o differs);
    ready = K.ready;
    stale = K.stale;
  }

  keep_ends : OthersKeep f (beside p past s) (alone q later) s t turn
  keep_ends = record {
    joined = K.joined;
    task = λ o differs. K.task o differs ∙ sym (but_else s.here s.task p.task o differs);
    own = λ o differs. K.own o differs ∙ sym (but_else s.here s.own p.own o differs);
    spot = λ o differs. K.spot o differs ∙ sym (but_else s.here nowhere p.spot o differs);
    table = λ o b differs. K.table o b differs ∙ sym (ap (λ g. g b) (but_else s.here s.table p.table o differs));
    mark = λ o differs. rw (but_else s.here s.mark p.mark o differs) (K.mark o differs);
    ready = K.ready;
    stale = K.stale;
  }

  keep_begins : OthersKeep f (alone p past) (beside q later z) s t turn
  keep_begins = record {
    joined = K.joined;
    task = λ o differs. elsewhere z.task q.task o differs ∙ K.task o differs;
    own = λ o differs. elsewhere z.own q.own o differs ∙ K.own o differs;
    spot = λ o differs. elsewhere nowhere q.spot o differs ∙ K.spot o differs;
    table = λ o b differs. ap (λ g. g b) (elsewhere z.table q.table o differs) ∙ K.table o b differs;
    mark = λ o differs. rw (elsewhere z.mark q.mark o differs) (K.mark o differs);
    ready = K.ready;
    stale = K.stale;
  }

pub beside_turns : BesideTurns
beside_turns f p q past later s z t turn O K =
    shown_turned f (beside p past s) (beside q later z) past later s z t turn (beside_shows p past s) (beside_view p past s) (beside_shows q later z) (keep_beside f p q past later s z t turn O.here K) O

pub beside_ends : BesideEnds
beside_ends f p q past later s z t turn O K B =
    shown_turned f (beside p past s) (alone q later) past later s z t turn (beside_shows p past s) (beside_view p past s) (alone_shows q later z B) (keep_ends f p q past later s z t turn O.here K) O

pub beside_begins : BesideBegins
beside_begins f p q past later s z t turn O K B view =
    shown_turned f (alone p past) (beside q later z) past later s z t turn (alone_shows p past s B) view (beside_shows q later z) (keep_begins f p q past later s z t turn O.here K) O
