-- Turns and plays one after the other, where a gate may have been undone before a turn.
use Rattle.std.proofs.Common.{◌≡◌, ℕ, ◌+◌, ◌<◌, List, [], ◌∷◌, ◌++◌, Bool, true, false, refl, sym, ◌∙◌, ap, subst, inl, inr, append-nil}
use Rattle.tdb_space.specs.Form.{Form}
use Rattle.tdb_law.specs.Commands.{Command, Turn}
use Rattle.tdb_law.specs.Commands.Turn.{Step}
use Rattle.tdb_law.specs.World.{State}
use Rattle.tdb_law.specs.Events.{Given}
use Rattle.tdb_law.specs.Lines.{Line}
use Rattle.tdb_law.specs.Lines.Line.{Took}
use Rattle.tdb_law.specs.Turned.{Turned}
use Rattle.tdb_law.specs.Plays.{Clears, Advances, Goes, most_turns}
use Rattle.tdb_law.specs.Plays.Play.{TakeTurn, Go, Do}
use Rattle.tdb_law.specs.Plays.Clears.{clears_nothing, clears_gate}
use Rattle.tdb_law.specs.Plays.Gives.{gives_turns, gives_all}
use Rattle.tdb_openers.specs.Played.{Steps, TakesOne, TakesLast, PlaysLast}
use Rattle.tdb_openers.specs.Played.Begun.{begun_turn, begun_turns, begun_command}
use Rattle.tdb_openers.proofs.Joining.Courses.{steps_step, steps_last, steps_only, turn_last as one_turn_last}
use Rattle.tdb_world.specs.Courses.Turns.{IsToldOf, TakesOrClears, GoesOrClears}

-- The command of an opener stays when a gate is undone, and the world isn't stale then.
pub clears_task : (f : Form) (old new : State) (lines : List Line) → Clears f old lines new → new.task ≡ old.task
clears_task f old new lines (clears_nothing ready none same) = ap (λ (w : State). w.task) same
clears_task f old new lines (clears_gate bytes to e U) = ap (λ (w : State). w.task) U.rest

pub fresh_after : (f : Form) (old new : State) (lines : List Line) → Clears f old lines new → new.stale ≡ false
fresh_after f old new lines (clears_nothing ready none same) = ap (λ (w : State). w.stale) same ∙ ready
fresh_after f old new lines (clears_gate bytes to e U) = U.now

-- nothing in front of a turn but the undone gate
clears_none : (f : Form) (old new : State) (lines : List Line) → old.stale ≡ false → Clears f old lines new → (lines ≡ []) × (new ≡ old)
clears_none f old new lines fresh (clears_nothing ready none same) = (none, same)
clears_none f old new lines fresh (clears_gate bytes to e U) = absurd (let both : true ≡ false = sym U.was ∙ fresh in cc both)

advances_clear : (f : Form) (old mid new : State) (who : ℕ) (turn : Turn) (front rest : List Line) → Clears f old front mid → Advances f mid who turn rest new → Advances f old who turn (front ++ rest) new
advances_clear f old mid new who turn front rest C A =
    let none = clears_none f mid A.mid A.front (fresh_after f old mid front C) A.clears in
    record {
      mid = mid;
      task = A.task;
      front = front;
      tail = A.tail;
      clears = C;
      turned = subst (λ z. Turned f z who A.task turn new) none.1 A.turned;
      grows = A.grows;
      parts = ap (λ ls. front ++ ls) (A.parts ∙ ap (λ ls. ls ++ Took who A.task.command turn ∷ A.tail) none.0);
    }

takes_clear : (f : Form) (old mid new : State) (who : ℕ) (more : Bool) (front rest : List Line) → Clears f old front mid → TakesOne f mid who more rest new → TakesOne f old who more (front ++ rest) new
takes_clear f old mid new who true front rest C T = advances_clear f old mid new who Step front rest C T
takes_clear f old mid new who false front rest C T = (T.0, T.1, advances_clear f old mid new who T.0 front rest C T.2)

-- A turn behind what was undone.
module _ (f : Form) (old mid : State) (who : ℕ) (c : Command) (front : List Line) (C : Clears f old front mid) (told : IsToldOf old who c) where
  told_still : IsToldOf mid who c
  told_still t e = told t (ap (λ g. g who) (sym (clears_task f old mid front C)) ∙ e)

  pub clear_takes : (more : Bool) (rest : List Line) (new : State) → (IsToldOf mid who c → TakesOne f mid who more rest new) → TakesOne f old who more (front ++ rest) new
  clear_takes more rest new T = takes_clear f old mid new who more front rest C (T told_still)

  may_take : (rest : List Line) (new : State) → TakesLast f mid who rest new → TakesOrClears f old who (front ++ rest) new
  may_take rest new (inl none) =
      inr (subst (λ ls. Clears f old ls new) (sym (ap (λ ls. front ++ ls) none.0 ∙ append-nil front)) (subst (Clears f old front) (sym none.1) C))
  may_take rest new (inr one) = inl (inr (one.0, takes_clear f old mid new who one.0 front rest C one.1))

  pub clear_last : (rest : List Line) (new : State) → (IsToldOf mid who c → TakesLast f mid who rest new) → TakesOrClears f old who (front ++ rest) new
  clear_last rest new T = may_take rest new (T told_still)

-- steps, and then a turn
abbrev pub GoesAfter : Form → ℕ → State → ℕ → Bool → List Line → State → Type 0
GoesAfter f n old who true lines new = Steps f (n + 1) old who lines new
GoesAfter f n old who false lines new = Goes f most_turns old who lines new

pub goes_after : (f : Form) (n : ℕ) (old mid new : State) (who : ℕ) (more : Bool) (front rest : List Line) → n < 9 → Steps f n old who front mid → TakesOne f mid who more rest new
    → GoesAfter f n old who more (front ++ rest) new
goes_after f n old mid new who true front rest low S T = steps_step f n old mid new who front rest S T
goes_after f n old mid new who false front rest low S T = steps_last f n old mid new who front rest low S T

-- the last of some turns
pub steps_then : (f : Form) (n : ℕ) (old mid new : State) (who : ℕ) (front rest : List Line) → n < 9 → Steps f n old who front mid → TakesOrClears f mid who rest new → GoesOrClears f old who (front ++ rest) new
steps_then f n old mid new who front rest low S (inl (inl none)) = inl (n, (mid, front, rest, refl, S, inl none))
steps_then f n old mid new who front rest low S (inl (inr (true, T))) = inl (n + 1, steps_only f (n + 1) old new who (front ++ rest) (steps_step f n old mid new who front rest S T))
steps_then f n old mid new who front rest low S (inl (inr (false, T))) = inr (steps_last f n old mid new who front rest low S T)
steps_then f n old mid new who front rest low S (inr C) = inl (n, (mid, front, rest, refl, S, inr C))

module _ (f : Form) (old : State) where
  -- what is told of a turn, of turns, and of a command that is given and its turns, as of a play
  pub turn_last : (who : ℕ) (lines : List Line) (new : State) → TakesOrClears f old who lines new → PlaysLast f old (TakeTurn who) lines new
  turn_last who lines new (inl T) = one_turn_last f old who lines new T
  turn_last who lines new (inr C) = inl (begun_turn who refl C)

  pub go_last : (who : ℕ) (lines : List Line) (new : State) → GoesOrClears f old who lines new → PlaysLast f old (Go who) lines new
  go_last who lines new (inl some) = inl (begun_turns who some.0 refl some.1)
  go_last who lines new (inr all) = inr (gives_turns who refl all)

  pub do_last : (who : ℕ) (c : Command) (mid : State) → Given old who c mid → (lines : List Line) (new : State) → GoesOrClears f mid who lines new → PlaysLast f old (Do who c) lines new
  do_last who c mid G lines new (inl some) = inl (begun_command who some.0 c mid refl G some.1)
  do_last who c mid G lines new (inr all) = inr (gives_all who c mid refl G all)
