-- Each step leads further on the same record, and the last turn ends.
use Rattle.std.proofs.Common.{◌≡◌, ◌<◌, ℕ, Bool, List, [], Option, None, false, IsTrue, refl, sym, ◌∙◌, ap, subst, arith}
use Rattle.std.specs.Prelude.{◌^◌}
use Rattle.tdb_space.specs.Form.{Form}
use Rattle.tdb_space.specs.Accepted.{AcceptWith}
use Rattle.tdb_locks.specs.declared.turn.Reply.{Reply}
use Rattle.tdb_locks.specs.declared.turn.Turn.TheVariants as Turns
use Rattle.tdb_law.specs.Commands.Reply.{Memory}
use Rattle.tdb_steps.specs.PlainCommands.{reply_of}
use Rattle.tdb_walk.specs.declared.standing.Standing.{Standing}
use Rattle.tdb_walk.specs.declared.stage.Stage.{Stage}
use Rattle.tdb_walk.specs.declared.stage.Goal.{Goal}
use Rattle.tdb_walk.specs.declared.stage.Goal.TheVariants.{First, Next, Leave}
use Rattle.tdb_walk.specs.Cursors.{At, Knows, StepTaken, StepMade, act_of, spared_of}
use Rattle.tdb_walk.specs.Again.{RestsAt, cursor_after}
use Rattle.tdb_walk.specs.declared.walk.Walk.{Walk}
use Rattle.tdb_txn_turns.specs.InsideTxn.Walks.{CursorDone, RestsIn, all_written, shown_by}
use Rattle.tdb_txn_turns.proofs.InsideTxn.Cursors.{IsAlive, Led, alive_first, alive_on, cursor_done, far_few, never_leave_waits, never_waits, rests_again, shows_then, steps_on}
use Rattle.tdb_txn_turns.proofs.inside_txn.walk_alone.take_walk.Goals as goal

-- what is known over a view is known over one of the same form and image
module _ (f h : Form) (a d : List ℕ) (form : h ≡ f) (image : d ≡ a) where
  accepted_there : AcceptWith f a [] → AcceptWith h d []
  accepted_there A = subst (λ x. AcceptWith x d []) (sym form) (subst (λ y. AcceptWith f y []) (sym image) A)

  known_there : (place : Standing) (stage : Stage) → Knows f a place stage → Knows h d place stage
  known_there place stage K = subst (λ x. Knows x d place stage) (sym form) (subst (λ y. Knows f y place stage) (sym image) K)

  known_here : (place : Standing) (stage : Stage) → Knows h d place stage → Knows f a place stage
  known_here place stage K = subst (λ x. Knows x a place stage) form (subst (λ y. Knows h y place stage) image K)

  alive_there : (place : Standing) (stage : Stage) → IsAlive f a place stage → IsAlive h d place stage
  alive_there place stage L = subst (λ x. IsAlive x d place stage) (sym form) (subst (λ y. IsAlive f y place stage) (sym image) L)

  alive_here : (place : Standing) (stage : Stage) → IsAlive h d place stage → IsAlive f a place stage
  alive_here place stage L = subst (λ x. IsAlive x a place stage) form (subst (λ y. IsAlive h y place stage) image L)

  rests_there : (walk : Walk) → RestsIn f a walk → RestsIn h d walk
  rests_there walk R = subst (λ x. RestsIn x d walk) (sym form) (subst (λ y. RestsIn f y walk) (sym image) R)

  done_here : (b : List ℕ) (goal : Goal) (old new : Walk) (reply : Reply) → CursorDone h d b goal old new (reply_of reply) → CursorDone f a b goal old new (reply_of reply)
  done_here b goal old new reply D = subst (λ x. CursorDone x a b goal old new (reply_of reply)) form (subst (λ y. CursorDone h y b goal old new (reply_of reply)) image D)

pub loop-taken-init : goal.loop-taken-init
loop-taken-init g c = record {
  counted = omega arith;
  few = far_few c.args.walk.now.cursor.stage;
  place = refl;
  shown = refl;
  image = refl;
  size = refl;
  wrote = record { form = refl; disk = λ e. refl; under = refl };
  faults = refl;
  knows = λ told small A K. K;
  alive = λ told small A R. alive_first (g.S.Space.form c.args.s.now) (g.S.Space.image c.args.s.now) c.args.walk.now R;
}

pub loop-taken-preserved : goal.loop-taken-preserved
loop-taken-preserved g c =
    let S = g.S.Space in
    let a = c.args.s.now in
    let b = c.loop-taken.s in
    let was = c.loop-taken.walk in
    let now = c.step_alone.new.walk in
    let I = c.loop-taken.invariant in
    let e = c.in_ok-turn.ensures in
    let W = e.wrote in
    let P = steps_on (S.form b) now.cursor c.args.goal was.cursor.place was.cursor.stage e.taken.1.due
    (subst (λ t. Led (S.form b) now.cursor c.args.goal was.cursor.place was.cursor.stage e.taken.1.due t) c.in-Step.is e.taken.1.led) in
    let L = e.idle P.nothing in
    let more = P.further in
    let before = I.counted in
    record {
      counted = omega (arith, more, before);
      few = P.few;
      place = P.here ∙ I.place;
      shown = e.shown ∙ ap (λ t. cursor_after t now.cursor.place was.shown) c.in-Step.is ∙ I.shown;
      image = L.image ∙ I.image;
      size = e.size ∙ I.size;
      wrote = record { form = W.form ∙ I.wrote.form; disk = λ z. W.disk z ∙ I.wrote.disk z; under = W.under ∙ I.wrote.under };
      faults = e.cause.done ∙ I.faults;
      knows = λ told small A K.
          let form = I.wrote.form in
          known_here (S.form a) (S.form b) (S.image a) (S.image c.step_alone.new.s) form (L.image ∙ I.image) now.cursor.place now.cursor.stage
          (e.knows told (subst (λ n. n < 2 ^ 32) (sym I.size) small) [] (accepted_there (S.form a) (S.form b) (S.image a) (S.image b) form I.image A)
          (known_there (S.form a) (S.form b) (S.image a) (S.image b) form I.image was.cursor.place was.cursor.stage (I.knows told small A K)));
      alive = λ told small A R.
          let form = I.wrote.form in
          alive_here (S.form a) (S.form b) (S.image a) (S.image b) form I.image now.cursor.place now.cursor.stage
          (alive_on (S.form b) (S.image b) now.cursor c.args.goal was.cursor.place was.cursor.stage e.taken.1.due
          (e.taken.1.decided told [] (accepted_there (S.form a) (S.form b) (S.image a) (S.image b) form I.image A)
          (known_there (S.form a) (S.form b) (S.image a) (S.image b) form I.image was.cursor.place was.cursor.stage (I.knows told small A R.knows)))
          (subst (λ t. Led (S.form b) now.cursor c.args.goal was.cursor.place was.cursor.stage e.taken.1.due t) c.in-Step.is e.taken.1.led));
    }

pub returns-in-Done-clause-rests : goal.returns-in-Done-clause-rests
returns-in-Done-clause-rests g c R =
    let S = g.S.Space in
    let was = c.loop-taken.walk in
    let now = c.step_alone.new.walk in
    let I = c.loop-taken.invariant in
    let e = c.in_ok-turn.ensures in
    let f = S.form c.loop-taken.s in
    let d = S.image c.loop-taken.s in
    let T = subst (λ t. StepTaken (IsTrue S.tells) f d [] e.taken.0 1 all_written [] c.args.goal false was.cursor now.cursor t) c.in-Done.is e.taken.1 in
    subst (λ x. RestsAt x now.shown now.cursor.place now.cursor.stage) I.wrote.form
    (rests_again f d (S.image c.step_alone.new.s) c.args.goal c.args.walk.now was now c.in-Done.reply e.taken.0 (IsTrue S.tells) I.place I.shown
    (e.shown ∙ ap (λ t. cursor_after t now.cursor.place was.shown) c.in-Done.is) T
    (subst (λ x. RestsAt x c.args.walk.now.shown c.args.walk.now.cursor.place c.args.walk.now.cursor.stage) (sym I.wrote.form) R))

pub returns-in-Done-clause-done : goal.returns-in-Done-clause-done
returns-in-Done-clause-done g c told small A R =
    let S = g.S.Space in
    let was = c.loop-taken.walk in
    let now = c.step_alone.new.walk in
    let I = c.loop-taken.invariant in
    let e = c.in_ok-turn.ensures in
    let f = S.form c.loop-taken.s in
    let d = S.image c.loop-taken.s in
    let b = S.image c.step_alone.new.s in
    let F = S.form c.args.s.now in
    let a = S.image c.args.s.now in
    let form = I.wrote.form in
    let T = subst (λ t. StepTaken (IsTrue S.tells) f d [] e.taken.0 1 all_written [] c.args.goal false was.cursor now.cursor t) c.in-Done.is e.taken.1 in
    let few = subst (λ n. n < 2 ^ 32) (sym I.size) small in
    let A2 = accepted_there F f a d form I.image A in
    let K2 = known_there F f a d form I.image was.cursor.place was.cursor.stage (I.knows told small A R.knows) in
    done_here F f a d form I.image b c.args.goal c.args.walk.now now c.in-Done.reply
    (cursor_done f d b c.args.goal c.args.walk.now was now c.in-Done.reply e.taken.0 (IsTrue S.tells) I.place I.shown
    (e.shown ∙ ap (λ t. cursor_after t now.cursor.place was.shown) c.in-Done.is) T told A2 (rests_there F f a d form I.image c.args.walk.now R) K2
    (alive_there F f a d form I.image was.cursor.place was.cursor.stage (I.alive told small A R))
    (subst (λ t. StepMade f d b [] was.cursor now.cursor t) c.in-Done.is (e.made told few [] A2 K2)) (e.knows told few [] A2 K2))

pub returns-in-Blocked-clause-done : goal.returns-in-Blocked-clause-done
returns-in-Blocked-clause-done g c told small A R =
    let S = g.S.Space in
    let was = c.loop-taken.walk in
    let now = c.step_alone.new.walk in
    let I = c.loop-taken.invariant in
    let e = c.in_ok-turn.ensures in
    let f = S.form c.loop-taken.s in
    let d = S.image c.loop-taken.s in
    let form = I.wrote.form in
    let T = subst (λ t. StepTaken (IsTrue S.tells) f d [] e.taken.0 1 all_written [] c.args.goal false was.cursor now.cursor t) c.in-Blocked.is e.taken.1 in
    let A2 = accepted_there (S.form c.args.s.now) f (S.image c.args.s.now) d form I.image A in
    let K2 = known_there (S.form c.args.s.now) f (S.image c.args.s.now) d form I.image was.cursor.place was.cursor.stage (I.knows told small A R.knows) in
    absurd (never_waits f now.cursor d (act_of c.args.goal was.cursor.place was.cursor.stage T.due) (spared_of c.args.goal was.cursor.place) was.cursor c.in-Blocked.owner c.in-Blocked.byte T.led (T.moved told [] A2 K2))

pub returns-in-Done-clause-shown : goal.returns-in-Done-clause-shown
returns-in-Done-clause-shown g c =
    let f = g.S.Space.form c.loop-taken.s in
    let was = c.loop-taken.walk in
    let now = c.step_alone.new.walk in
    let I = c.loop-taken.invariant in
    let e = c.in_ok-turn.ensures in
    let r = c.in-Done.reply in
    e.shown ∙ ap (λ t. cursor_after t now.cursor.place was.shown) c.in-Done.is
    ∙ shows_then f now.cursor r was.shown c.args.goal was.cursor.place was.cursor.stage e.taken.1.due
    (subst (λ t. Led f now.cursor c.args.goal was.cursor.place was.cursor.stage e.taken.1.due t) c.in-Done.is e.taken.1.led)
    ∙ ap (shown_by c.args.goal (reply_of r)) I.shown

-- a leave isn't blocked, and a move that were would end the cursor
blocked_shows : (f : Form) (goal : Goal) (place : Standing) (stage : Stage) (due : Bool) (later : At) (other byte : ℕ) (key : Option (List ℕ)) → Led f later goal place stage due (Turns.Blocked other byte) → None ≡ shown_by goal Memory key
blocked_shows f First place stage due later other byte key led = refl
blocked_shows f Next place stage due later other byte key led = refl
blocked_shows f Leave place stage due later other byte key led = absurd (never_leave_waits f later place stage due other byte led)

pub returns-in-Blocked-clause-shown : goal.returns-in-Blocked-clause-shown
returns-in-Blocked-clause-shown g c =
    let f = g.S.Space.form c.loop-taken.s in
    let was = c.loop-taken.walk in
    let later = c.step_alone.new.walk.cursor in
    let T = c.in_ok-turn.ensures.taken.1 in
    c.new.ensures.shown
    ∙ blocked_shows f c.args.goal was.cursor.place was.cursor.stage T.due later c.in-Blocked.owner c.in-Blocked.byte c.args.walk.now.shown
    (subst (λ t. Led f later c.args.goal was.cursor.place was.cursor.stage T.due t) c.in-Blocked.is T.led)
