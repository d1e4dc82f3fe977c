-- The law of one turn.
use Rattle.std.proofs.Common.{◌≡◌, ℕ, ◌+◌, List, true, false, Option, Some, None, refl, sym, ◌∙◌, ap, subst, subst₂, inl, inr}
use Rattle.std.proofs.lemmas.Bool.{cases_eq}
use Rattle.tdb_space.specs.Form.{Form}
use Rattle.tdb_law.specs.Commands.{Command, Turn}
use Rattle.tdb_law.specs.Commands.Turn.{Step, Blocked, Ends}
use Rattle.tdb_law.specs.Openers.{Own, Task, seen, has}
use Rattle.tdb_law.specs.Outcomes.{touched}
use Rattle.tdb_law.specs.World.{State, IsSound}
use Rattle.tdb_law.specs.Effects.{SpotLeft, task_left}
use Rattle.tdb_law.specs.Turned.{Turned, want}
use Rattle.tdb_law.specs.Replay.{Replay, taken, turned_state, less_due}
use Rattle.tdb_law.specs.Standing.{IsSame, Stands}
use Rattle.tdb_law.specs.Counting.{settled_after, image_number_after}
use Rattle.tdb_law.specs.Laws.{LawfulTurn, TurnIsLawful}
use Rattle.tdb_law.proofs.Walking.{put_here, put_else, owed_parts}
use Rattle.tdb_law.proofs.Shifting.{t, after_line, owns_after, begun_here}
use Rattle.tdb_law.proofs.Moving.{walks_after}
use Rattle.tdb_law.proofs.Numbers.{image_after, number_stands, shut_after}
use Rattle.tdb_law.proofs.Untouched.{untouched_after}
use Rattle.tdb_law.proofs.Sound.{sound_after}
use Rattle.tdb_law.proofs.Mapped.{maps_after}
use Rattle.tdb_law.proofs.Saying.{allows, same_steps}

pub self_same : (u : Option Task) → IsSame u u
self_same None = tt
self_same (Some z) = refl

module _ (f : Form) (old new : State) (who : ℕ) (task : Task) (turn : Turn) (S : IsSound f old) (T : Turned f old who task turn new) (s : Replay) (P : Stands f old s) where
  abbrev c : Command
  c = task.command

  abbrev n : ℕ
  n = task.steps

  abbrev x : Own
  x = old.own who

  abbrev z : Replay
  z = after_line f old new who task turn S T s P

  same_now : (o : ℕ) → IsSame (z.begun o) (new.task o)
  same_now o =
      elim (cases_eq o who) [
        | inl e ↦ subst₂ IsSame (sym (put_here s.begun who (task_left c n turn) o e)) (sym (ap new.task e ∙ T.leaves)) (self_same (task_left c n turn))
        | inr ne ↦ subst₂ IsSame (sym (put_else s.begun who (task_left c n turn) o ne)) (sym (T.others o ne)) (P.same o)
      ]

  gone_by : (u : Turn) → turn ≡ u → z.begun who ≡ None → (new.spot who).gone ≡ false
  gone_by Step e none = absurd (some_none (sym (begun_here f old new who task turn S T s P ∙ ap (task_left c n) e) ∙ none))
    where
      some_none : ◌≡◌ {A = Option Task} (Some (record { command = c; steps = n + 1 })) None → ⊥
      some_none e2 = cc
  gone_by (Blocked o b) e none = absurd (some_none (sym (begun_here f old new who task turn S T s P ∙ ap (task_left c n) e) ∙ none))
    where
      some_none : ◌≡◌ {A = Option Task} (Some (record { command = c; steps = n })) None → ⊥
      some_none e2 = cc
  gone_by (Ends r) e none = (subst (SpotLeft f (old.table who) (want f old who task) c n x (new.own who) (old.spot who) (old.view who) (new.spot who)) e T.leaves_spot).1

  gone_now : (o : ℕ) → z.begun o ≡ None → (new.spot o).gone ≡ false
  gone_now o none =
      elim (cases_eq o who) [
        | inl e ↦ subst (λ p. (new.spot p).gone ≡ false) (sym e) (gone_by turn refl (subst (λ p. z.begun p ≡ None) e none))
        | inr ne ↦ ap (λ v. v.gone) (T.others_spot o ne) ∙ P.gone o (sym (put_else s.begun who (task_left c n turn) o ne) ∙ none)
      ]

  due_now_seen : (o : ℕ) (k : List ℕ) → z.due o k ≡ true → (has (seen (new.own o) z.map) k ≡ true) × (taken f z o k ≡ false)
  due_now_seen o k owed =
      let parts = owed_parts f (touched c turn) (t f old new who task turn S T s P) o k owed in
      (subst (λ y. has (seen y z.map) k ≡ true) (owns_after f old new who task turn S T s P o) parts.2, parts.3)

  image_now : (o : ℕ) → z.image_number o ≡ new.image_number o
  image_now o =
      elim (cases_eq o who) [
        | inl e ↦ put_here s.image_number who (image_number_after f c x turn s.number (s.image_number who)) o e ∙ (image_after f old new who task turn S T s P ∙ ap new.image_number (sym e))
        | inr ne ↦ put_else s.image_number who (image_number_after f c x turn s.number (s.image_number who)) o ne ∙ (P.image_number o ∙ sym (T.others_number o ne))
      ]

  stands_now : Stands f new z
  stands_now = record {
    joined = P.joined ∙ sym T.joined;
    same = same_now;
    owns = owns_after f old new who task turn S T s P;
    stale = P.stale ∙ (T.ready ∙ sym T.stale);
    settled = ap (settled_after f c x n turn) P.settled ∙ sym T.settled;
    maps = maps_after f old new who task turn S T s P;
    gone = gone_now;
    due = due_now_seen;
    walks = walks_after f old new who task turn S T s P;
    image_number = image_now;
    shut = shut_after f old new who task turn S T s P;
    number = number_stands f old new who task turn S T s P;
    untouched = untouched_after f old new who task turn S T s P;
  }

  lawful : LawfulTurn f new s who c turn
  lawful = record {
    sound = sound_after f old new who task turn S T;
    allowed = allows f old new who task turn S T s P;
    stands = subst₂ (λ y k. Stands f new (less_due f (touched c turn) (turned_state f s who c y k turn))) (sym (P.owns who)) (sym (same_steps f old new who task turn S T s P)) stands_now;
  }

pub turn_lawful : TurnIsLawful
turn_lawful f old new who task turn s S P T = lawful f old new who task turn S T s P
