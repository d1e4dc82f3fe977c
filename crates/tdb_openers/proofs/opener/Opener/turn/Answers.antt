-- The turn is one of its task's job, and what is left of the task is put back.
use Rattle.std.proofs.Common.{◌≡◌, Some, sym, ◌∙◌, ap, subst, arith, unwrap_or}
use Rattle.tdb_openers.specs.Cursors.{is_stood, CursorsBeside, LeavesCursors}
use Rattle.tdb_openers.specs.Turning.{resting, ImageBefore, TurnsLocks, TurnsFile, TurnsImage}
use Rattle.tdb_openers.specs.Calm.{IsMidway}
use Rattle.tdb_openers.specs.Openers.{rest_of, own_of, command_in, walk_of, steps_of, law_task, TaskStands}
use Rattle.tdb_openers.specs.Worlds.{law_of_task}
use Rattle.tdb_commands.specs.InLaw.{law_turn}
use Rattle.tdb_steps.proofs.Made.{of_both}
use Rattle.tdb_steps.specs.Room.{FullOutside}
use Rattle.tdb_openers.specs.Jobs.{IsPlain}
use Rattle.std.proofs.lemmas.Result.{IfOk-weaker, on_err_weaker}
use Rattle.tdb_openers.proofs.PlainTurns.TaskReady.{task_few, task_ready, after_beside}
use Rattle.tdb_openers.proofs.Walks.Rests.{walk_still, walk_rests}
use Rattle.tdb_openers.specs.Stopped.{JobStopped}
use Rattle.tdb_steps.specs.Memory.{StarvesOutside}
use Rattle.tdb_openers.proofs.opener.Opener.turn.Goals as goal

pub after-requires : goal.after-requires
after-requires g c = record {
  few = (let six = task_few (g.S.Space.form c.args.s.now) c.args.options.now c.args.self.now (g.S.Space.size c.args.s.now) c.args.owner c.args.locks.now c.requires.stands c.requires.holds c.in-Some.now
      (sym c.take.ensures.value ∙ c.in-Some.is) in
      omega (arith, six));
}

pub turn-turn-requires-clause-ready : goal.turn-turn-requires-clause-ready
turn-turn-requires-clause-ready g c =
    let now = c.in-Some.now in
    let busy : c.args.self.now.task ≡ Some now = sym c.take.ensures.value ∙ c.in-Some.is in
    let h = c.requires.holds now busy in (
      rest_of c.args.self.now.walk,
      now.steps,
      h.0,
      task_ready (g.S.Space.form c.args.s.now) c.args.options.now c.args.self.now (g.S.Space.size c.args.s.now) c.args.owner c.args.locks.now c.requires.stands c.requires.holds now busy h.0 h.1,
    )

pub turn-turn-requires-clause-beside : goal.turn-turn-requires-clause-beside
turn-turn-requires-clause-beside g c =
    let busy : c.args.self.now.task ≡ Some c.in-Some.now = sym c.take.ensures.value ∙ c.in-Some.is in
    sym (ap walk_of busy) ∙ c.requires.beside

pub returns-clause-file : goal.returns-clause-file
returns-clause-file g c =
    let f = g.S.Space.form c.args.s.now in
    let a = g.S.Space.image c.args.s.now in
    let b = g.S.Space.image c.turn-turn.new.s in
    let now = c.in-Some.now in
    let busy : c.args.self.now.task ≡ Some now = sym c.take.ensures.value ∙ c.in-Some.is in
    of_both c.turn-turn.result _ _ _
    (λ turn filed left told v t who others e number I.
    let same : now ≡ t = ap (λ o. unwrap_or o now) (sym busy ∙ e) in
    let ready = task_ready f c.args.options.now c.args.self.now (g.S.Space.size c.args.s.now) c.args.owner c.args.locks.now c.requires.stands c.requires.holds now busy who number in
    let F = filed told (rest_of c.args.self.now.walk) v now.steps who others ready (subst (λ u. ImageBefore f u.job a others) (sym same) I) in
    subst (λ u. TurnsFile f (own_of c.args.options.now c.args.self.now) (own_of c.args.options.now (record { live = c.args.self.now.live; held = c.turn-turn.new.held; task = c.after.result; walk = c.args.self.now.walk })) (resting (rest_of c.args.self.now.walk)) v (command_in u.job) u.steps who
    c.args.locks.now a b (law_turn turn) × TurnsImage f u c.after.result a b others
    × (CursorsBeside f a (is_stood c.args.spots.now) u → LeavesCursors f (own_of c.args.options.now c.args.self.now) u c.after.result (law_turn turn) a b (is_stood c.args.spots.now))) same
    (F.file, subst (λ z. TurnsImage f now z a b others) (sym left) F.image, λ C. subst (λ z. LeavesCursors f (own_of c.args.options.now c.args.self.now) now z (law_turn turn) a b (is_stood c.args.spots.now)) (sym left) (F.cursors C))) c.turn-turn.ensures.file c.after.ensures.left

pub returns-clause-full : goal.returns-clause-full
returns-clause-full g c =
    let f = g.S.Space.form c.args.s.now in
    let a = g.S.Space.image c.args.s.now in
    let now = c.in-Some.now in
    let busy : c.args.self.now.task ≡ Some now = sym c.take.ensures.value ∙ c.in-Some.is in
    IfOk-weaker c.turn-turn.result _ _
    (λ turn full told t who others e number I plain.
    let same : now ≡ t = ap (λ o. unwrap_or o now) (sym busy ∙ e) in
    let ready = task_ready f c.args.options.now c.args.self.now (g.S.Space.size c.args.s.now) c.args.owner c.args.locks.now c.requires.stands c.requires.holds now busy who number in
    subst (λ u. FullOutside f a c.args.options.now.limit (law_of_task u) (law_turn turn)) same
    (full told (rest_of c.args.self.now.walk) now.steps who others ready (subst (λ u. ImageBefore f u.job a others) (sym same) I) (subst (λ u. IsPlain u.job) (sym same) plain))) c.turn-turn.ensures.full

pub returns-clause-locks : goal.returns-clause-locks
returns-clause-locks g c =
    let f = g.S.Space.form c.args.s.now in
    let now = c.in-Some.now in
    let x = own_of c.args.options.now c.args.self.now in
    let y = own_of c.args.options.now (record { live = c.args.self.now.live; held = c.turn-turn.new.held; task = c.after.result; walk = c.args.self.now.walk }) in
    let ps = c.args.locks.now in
    let qs = c.turn-turn.new.locks in
    let busy : c.args.self.now.task ≡ Some now = sym c.take.ensures.value ∙ c.in-Some.is in
    of_both c.turn-turn.result _ _ _
    (λ turn turned left t who e number.
    let same : now ≡ t = ap (λ o. unwrap_or o now) (sym busy ∙ e) in
    let ready = task_ready f c.args.options.now c.args.self.now (g.S.Space.size c.args.s.now) c.args.owner ps c.requires.stands c.requires.holds now busy who number in
    subst (λ u. TurnsLocks f x y (resting (rest_of c.args.self.now.walk)) (command_in u.job) u.steps (law_task c.after.result) who ps qs (law_turn turn)) same
    (subst (λ z. TurnsLocks f x y (resting (rest_of c.args.self.now.walk)) (command_in now.job) now.steps (law_task z) who ps qs (law_turn turn)) (sym left) (turned (rest_of c.args.self.now.walk) now.steps who ready).locks)) c.turn-turn.ensures.turned c.after.ensures.left

pub returns-clause-stands : goal.returns-clause-stands
returns-clause-stands g c =
    let f = g.S.Space.form c.args.s.now in
    let now = c.in-Some.now in
    let y = own_of c.args.options.now (record { live = c.args.self.now.live; held = c.turn-turn.new.held; task = c.after.result; walk = c.args.self.now.walk }) in
    let busy : c.args.self.now.task ≡ Some now = sym c.take.ensures.value ∙ c.in-Some.is in
    let h = c.requires.holds now busy in
    of_both c.turn-turn.result _ _ _
    (λ turn turned left.
    let ready = task_ready f c.args.options.now c.args.self.now (g.S.Space.size c.args.s.now) c.args.owner c.args.locks.now c.requires.stands c.requires.holds now busy h.0 h.1 in
    let T = turned (rest_of c.args.self.now.walk) now.steps h.0 ready in
    record {
      stands = (
        c.turn-turn.ensures.well,
        subst (λ z. TaskStands f y z (g.S.Space.size c.turn-turn.new.s)) (sym left) T.stands,
        walk_still f c.turn-turn.new.held y (walk_of c.after.result) (steps_of c.after.result) c.args.self.now.walk.cursor c.requires.stands.stands.2.placed
            (walk_rests f c.args.self.now.held (own_of c.args.options.now c.args.self.now) (walk_of c.args.self.now.task) (steps_of c.args.self.now.task) c.args.self.now.walk.cursor c.requires.stands.stands.2 c.requires.beside)
            (ap walk_of left ∙ after_beside c.turn-turn.new.self now.steps (law_turn turn) c.turn-turn.ensures.beside),
      );
      busy_live = λ u e. T.lives u (sym left ∙ e) ∙ c.requires.stands.busy_live now busy;
    }) c.turn-turn.ensures.turned c.after.ensures.left

pub returns-clause-cause : goal.returns-clause-cause
returns-clause-cause g c told t who others e number I =
    let f = g.S.Space.form c.args.s.now in
    let now = c.in-Some.now in
    let busy : c.args.self.now.task ≡ Some now = sym c.take.ensures.value ∙ c.in-Some.is in
    let same : now ≡ t = ap (λ o. unwrap_or o now) (sym busy ∙ e) in
    let ready = task_ready f c.args.options.now c.args.self.now (g.S.Space.size c.args.s.now) c.args.owner c.args.locks.now c.requires.stands c.requires.holds now busy who number in
    c.turn-turn.ensures.cause told (rest_of c.args.self.now.walk) now.steps who others ready (subst (λ u. ImageBefore f u.job (g.S.Space.image c.args.s.now) others) (sym same) I)

pub returns-clause-calm : goal.returns-clause-calm
returns-clause-calm g c who number =
    let now = c.in-Some.now in
    let busy : c.args.self.now.task ≡ Some now = sym c.take.ensures.value ∙ c.in-Some.is in
    c.turn-turn.ensures.calm (rest_of c.args.self.now.walk) now.steps who
    (task_ready (g.S.Space.form c.args.s.now) c.args.options.now c.args.self.now (g.S.Space.size c.args.s.now) c.args.owner c.args.locks.now c.requires.stands c.requires.holds now busy who number)

pub returns-clause-spared : goal.returns-clause-spared
returns-clause-spared g c t e spares =
    let f = g.S.Space.form c.args.s.now in
    let now = c.in-Some.now in
    let busy : c.args.self.now.task ≡ Some now = sym c.take.ensures.value ∙ c.in-Some.is in
    let same : now ≡ t = ap (λ o. unwrap_or o now) (sym busy ∙ e) in
    let h = c.requires.holds now busy in
    c.turn-turn.ensures.spared (rest_of c.args.self.now.walk) now.steps h.0
    (task_ready f c.args.options.now c.args.self.now (g.S.Space.size c.args.s.now) c.args.owner c.args.locks.now c.requires.stands c.requires.holds now busy h.0 h.1)
    (subst (λ u. IsMidway f (own_of c.args.options.now c.args.self.now) (law_of_task u) → ⊥) (sym same) spares)

pub returns-clause-stopped : goal.returns-clause-stopped
returns-clause-stopped g c =
    let f = g.S.Space.form c.args.s.now in
    let a = g.S.Space.image c.args.s.now in
    let b = g.S.Space.image c.turn-turn.new.s in
    let now = c.in-Some.now in
    let cursor = c.args.self.now.walk.cursor in
    let busy : c.args.self.now.task ≡ Some now = sym c.take.ensures.value ∙ c.in-Some.is in
    on_err_weaker c.turn-turn.result
    (λ stopped told t who others e number I.
    (let same : now ≡ t = ap (λ o. unwrap_or o now) (sym busy ∙ e) in
    let ready = task_ready f c.args.options.now c.args.self.now (g.S.Space.size c.args.s.now) c.args.owner c.args.locks.now c.requires.stands c.requires.holds now busy who number in
    subst (λ u. JobStopped f a b cursor u.job u.steps others) same
    (stopped told cursor (rest_of c.args.self.now.walk) now.steps who others ready (subst (λ u. ImageBefore f u.job a others) (sym same) I)))) c.turn-turn.ensures.stopped

pub returns-clause-starves : goal.returns-clause-starves
returns-clause-starves g c =
    let f = g.S.Space.form c.args.s.now in
    let now = c.in-Some.now in
    let busy : c.args.self.now.task ≡ Some now = sym c.take.ensures.value ∙ c.in-Some.is in
    let h = c.requires.holds now busy in
    IfOk-weaker c.turn-turn.result _ _
    (λ turn starves t e.
    let same : now ≡ t = ap (λ o. unwrap_or o now) (sym busy ∙ e) in
    let ready = task_ready f c.args.options.now c.args.self.now (g.S.Space.size c.args.s.now) c.args.owner c.args.locks.now c.requires.stands c.requires.holds now busy h.0 h.1 in
    subst (λ u. StarvesOutside f (law_of_task u) (law_turn turn)) same (starves (rest_of c.args.self.now.walk) now.steps h.0 ready)) c.turn-turn.ensures.starves
