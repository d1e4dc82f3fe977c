-- A turn of the command is one of its machine, which keeps the command.
use Rattle.std.proofs.Common.{sym, ◌∙◌, ap, subst}
use Rattle.std.proofs.lemmas.Result.{IfOk-weaker, on_err_weaker}
use Rattle.tdb_law.specs.Commands.Command.{OnMap}
use Rattle.tdb_steps.specs.PlainCommands.{command_of}
use Rattle.tdb_steps.specs.Room.{FullOutside}
use Rattle.tdb_steps.specs.Machines.{MachineStopped}
use Rattle.tdb_commands.specs.InLaw.{law_turn}
use Rattle.tdb_openers.specs.declared.job.Job.TheVariants.{Plain}
use Rattle.tdb_openers.specs.Openers.{own_with, command_in}
use Rattle.tdb_openers.specs.Turning.{ImageBefore, resting}
use Rattle.tdb_openers.specs.Calm.{IsMidway}
use Rattle.tdb_openers.specs.Jobs.{JobIsReady, JobTurned, JobFiled}
use Rattle.tdb_openers.proofs.Checks.CheckJob.{of_three}
use Rattle.tdb_steps.specs.Memory.{StarvesOutside}
use Rattle.tdb_openers.proofs.told.PlainJob.turn.Goals as goal

pub plain_turn-requires-clause-ready : goal.plain_turn-requires-clause-ready
plain_turn-requires-clause-ready g c =
    let w = c.requires.ready in
    (w.0, w.1, w.2, w.3, w.4, subst (λ d. JobIsReady (g.S.Space.form c.args.s.now) (own_with w.0 w.1 c.args.held.now w.2) (resting w.2) (Plain d) w.3 w.4 c.args.owner (g.S.Space.size c.args.s.now) c.args.locks.now) (sym c.self.view_is) w.5)

pub invariant_of-self : goal.invariant_of-self
invariant_of-self g c = c.self.invariant ∙ sym (ap (λ p. OnMap (command_of p)) c.plain_turn.ensures.same)

pub returns-clause-turned : goal.returns-clause-turned
returns-clause-turned g c =
    let f = g.S.Space.form c.args.s.now in
    let held = c.args.held.now in
    let size = g.S.Space.size c.args.s.now in
    let e = c.self.view_is in
    let new = c.plain_turn.new.machine in
    IfOk-weaker c.plain_turn.result _ _
    (λ turn turned options live rest n who J.
    subst (λ d. JobTurned f (own_with options live held rest) (own_with options live held rest) (resting rest) (Plain d) (Plain new) n who (g.S.Space.size c.plain_turn.new.s) c.args.locks.now c.plain_turn.new.locks (law_turn turn)) e
    (turned options live rest n who (subst (λ d. JobIsReady f (own_with options live held rest) (resting rest) (Plain d) n who c.args.owner size c.args.locks.now) (sym e) J))) c.plain_turn.ensures.turned

pub returns-clause-filed : goal.returns-clause-filed
returns-clause-filed g c =
    let f = g.S.Space.form c.args.s.now in
    let held = c.args.held.now in
    let a = g.S.Space.image c.args.s.now in
    let b = g.S.Space.image c.plain_turn.new.s in
    let size = g.S.Space.size c.args.s.now in
    let e = c.self.view_is in
    let new = c.plain_turn.new.machine in
    of_three c.plain_turn.result _ _ _ _
    (λ turn file image cursors told small options live rest v n who others J I.
    let ready = subst (λ d. JobIsReady f (own_with options live held rest) (resting rest) (Plain d) n who c.args.owner size c.args.locks.now) (sym e) J in
    let before = subst (λ d. ImageBefore f (Plain d) a others) (sym e) I in
    subst (λ d. JobFiled f (own_with options live held rest) (own_with options live held rest) (resting rest) v (Plain d) (Plain new) n who c.args.locks.now a b others c.args.stood_on.now (law_turn turn)) e
    (record { file = file told small options live rest v n who others ready before; image = image told small options live rest n who others ready before; cursors = cursors told small options live rest n who others ready before }))
    c.plain_turn.ensures.file c.plain_turn.ensures.image c.plain_turn.ensures.cursors

pub returns-clause-full : goal.returns-clause-full
returns-clause-full g c =
    let f = g.S.Space.form c.args.s.now in
    let held = c.args.held.now in
    let a = g.S.Space.image c.args.s.now in
    let size = g.S.Space.size c.args.s.now in
    let e = c.self.view_is in
    IfOk-weaker c.plain_turn.result _ _
    (λ turn full told small options live rest n who others J I.
    let ready = subst (λ d. JobIsReady f (own_with options live held rest) (resting rest) (Plain d) n who c.args.owner size c.args.locks.now) (sym e) J in
    let before = subst (λ d. ImageBefore f (Plain d) a others) (sym e) I in
    subst (λ d. FullOutside f a c.args.limit (record { command = command_in (Plain d); steps = n }) (law_turn turn)) e (full told small options live rest n who others ready before)) c.plain_turn.ensures.full

pub returns-clause-calm : goal.returns-clause-calm
returns-clause-calm g c options live rest n who J =
    c.plain_turn.ensures.calm options live rest n who
    (subst (λ d. JobIsReady (g.S.Space.form c.args.s.now) (own_with options live c.args.held.now rest) (resting rest) (Plain d) n who c.args.owner (g.S.Space.size c.args.s.now) c.args.locks.now) (sym c.self.view_is) J)

pub returns-clause-spared : goal.returns-clause-spared
returns-clause-spared g c options live rest n who J spares =
    let f = g.S.Space.form c.args.s.now in
    let x = own_with options live c.args.held.now rest in
    c.plain_turn.ensures.spared options live rest n who
    (subst (λ d. JobIsReady f x (resting rest) (Plain d) n who c.args.owner (g.S.Space.size c.args.s.now) c.args.locks.now) (sym c.self.view_is) J)
    (subst (λ d. IsMidway f x (record { command = command_in (Plain d); steps = n }) → ⊥) (sym c.self.view_is) spares)

pub returns-clause-stopped : goal.returns-clause-stopped
returns-clause-stopped g c =
    let f = g.S.Space.form c.args.s.now in
    let held = c.args.held.now in
    let a = g.S.Space.image c.args.s.now in
    let b = g.S.Space.image c.plain_turn.new.s in
    let size = g.S.Space.size c.args.s.now in
    let e = c.self.view_is in
    on_err_weaker c.plain_turn.result
    (λ stopped told small options live rest n who others J I.
    (let ready = subst (λ d. JobIsReady f (own_with options live held rest) (resting rest) (Plain d) n who c.args.owner size c.args.locks.now) (sym e) J in
    let before = subst (λ d. ImageBefore f (Plain d) a others) (sym e) I in
    subst (λ d. MachineStopped f a b d n others) e (stopped told small options live rest n who others ready before))) c.plain_turn.ensures.stopped

pub returns-clause-starves : goal.returns-clause-starves
returns-clause-starves g c =
    let f = g.S.Space.form c.args.s.now in
    let held = c.args.held.now in
    let size = g.S.Space.size c.args.s.now in
    let e = c.self.view_is in
    IfOk-weaker c.plain_turn.result _ _
    (λ turn starves options live rest n who J.
    subst (λ d. StarvesOutside f (record { command = command_in (Plain d); steps = n }) (law_turn turn)) e
    (starves options live rest n who (subst (λ d. JobIsReady f (own_with options live held rest) (resting rest) (Plain d) n who c.args.owner size c.args.locks.now) (sym e) J))) c.plain_turn.ensures.starves
