-- Each stage turns as its own function does.
use Rattle.std.proofs.Common.{◌≡◌, ℕ, List, Some, sym, ◌∙◌, ap, subst}
use Rattle.tdb_disk.specs.Count.{HasCause}
use Rattle.tdb_disk.specs.History.{History}
use Rattle.tdb_disk.specs.Stop.{LeavesOnly}
use Rattle.tdb_space.specs.Form.{Form, form_in}
use Rattle.tdb_txn.specs.Committing.{MayCommit}
use Rattle.tdb_txn_owner.specs.declared.stage.Stage.TheVariants as Stage
use Rattle.tdb_txn_owner.specs.Holders.{StageMayLeave}
use Rattle.tdb_txn_turns.specs.Starts.{start_steps}
use Rattle.tdb_commands.specs.InLaw.{law_turn}
use Rattle.tdb_txn_owner.specs.Stages.{IsFit, KnowsFile}
use Rattle.tdb_txn_owner.proofs.HolderTurns.{open_form, TurnsAt}
use Rattle.tdb_txn_owner.proofs.Opened.{weaker, weaker_with}
use Rattle.tdb_txn_owner.proofs.Room.{open_stage, prepared_spares, start_spares, turned_never, FullsAt}
use Rattle.tdb_txn_owner.proofs.Synced.{never_planned, PlansAt}
use Rattle.tdb_txn_owner.proofs.txn_owner.stage_turn.Goals as goal

pub returns-in-Open-clause-stops : goal.returns-in-Open-clause-stops
returns-in-Open-clause-stops g c told f k =
    let h = g.D.Disk.history c.args.d.now in
    subst (λ stage. KnowsFile f stage h k → LeavesOnly h (g.D.Disk.history c.open_turn.new.d) (StageMayLeave stage h k)) (sym (c.in-Open.is ∙ ap (Stage.Open c.in-Open.txn) c.given-command.ensures))
    (λ K.
    let same = open_form f c.args.header.now c.args.options.now.limit (g.D.Disk.size c.args.d.now) c.in-Open.txn c.given-command.result h k
    (subst (λ stage. IsFit stage c.args.header.now c.args.options.now.limit (g.D.Disk.size c.args.d.now)) (c.in-Open.is ∙ ap (Stage.Open c.in-Open.txn) c.given-command.ensures) c.requires.fits).0 K in
    c.open_turn.ensures.stops told k (subst (λ g. KnowsFile g (Stage.Open c.in-Open.txn (Some c.given-command.result)) h k) same K))

pub returns-in-Open-clause-cause : goal.returns-in-Open-clause-cause
returns-in-Open-clause-cause g c told f k =
    let h = g.D.Disk.history c.args.d.now in
    subst (λ stage. KnowsFile f stage h k → HasCause (g.D.Disk.faults c.args.d.now) (g.D.Disk.faults c.open_turn.new.d) c.open_turn.result) (sym (c.in-Open.is ∙ ap (Stage.Open c.in-Open.txn) c.given-command.ensures))
    (λ K. c.open_turn.ensures.cause told (subst (λ img. MayCommit c.in-Open.txn.own.txn img) (sym K.at.0.file) K.at.0.may))

pub returns-in-Committing-clause-turned : goal.returns-in-Committing-clause-turned
returns-in-Committing-clause-turned g c =
    let a = c.args in
    let f = form_in a.header.now in
    let o = a.options.now in
    weaker c.commit_turn.result _ _
    (λ went turn told. subst (λ stage. TurnsAt f o a.owner a.locks.now c.commit_turn.new.locks stage (g.D.Disk.history a.d.now) (g.D.Disk.history c.commit_turn.new.d) went) (sym c.in-Committing.is)
    (λ table k past s t S K begins has M. turn told f o table k past s t S K has M)) c.commit_turn.ensures.turned

pub returns-in-Prepared-clause-turned : goal.returns-in-Prepared-clause-turned
returns-in-Prepared-clause-turned g c =
    let a = c.args in
    let f = form_in a.header.now in
    let o = a.options.now in
    let is = c.in-Prepared.is ∙ ap (Stage.Prepared c.in-Prepared.left) c.given-command-in-Prepared.ensures in
    weaker c.prepared_turn.result _ _
    (λ went turn told. subst (λ stage. TurnsAt f o a.owner a.locks.now c.prepared_turn.new.locks stage (g.D.Disk.history a.d.now) (g.D.Disk.history c.prepared_turn.new.d) went) (sym is)
    (λ table k past s t S K begins has M. turn told table k past s t S K has M)) c.prepared_turn.ensures.turned

pub returns-in-Prepared-clause-stops : goal.returns-in-Prepared-clause-stops
returns-in-Prepared-clause-stops g c told f k =
    let h = g.D.Disk.history c.args.d.now in
    let left = c.in-Prepared.left in
    let command = Some c.given-command-in-Prepared.result in
    subst (λ stage. KnowsFile f stage h k → LeavesOnly h (g.D.Disk.history c.prepared_turn.new.d) (StageMayLeave stage h k)) (sym (c.in-Prepared.is ∙ ap (Stage.Prepared left) c.given-command-in-Prepared.ensures))
    (λ K. c.prepared_turn.ensures.stops told k.file k.image K.at.0)

pub returns-in-Finishing-clause-turned : goal.returns-in-Finishing-clause-turned
returns-in-Finishing-clause-turned g c =
    let a = c.args in
    let f = form_in a.header.now in
    let o = a.options.now in
    weaker c.finish_turn.result _ _
    (λ went turn told. subst (λ stage. TurnsAt f o a.owner a.locks.now c.finish_turn.new.locks stage (g.D.Disk.history a.d.now) (g.D.Disk.history c.finish_turn.new.d) went) (sym c.in-Finishing.is)
    (λ table k past s t S K begins has M. turn told f o table k past s t S K has M)) c.finish_turn.ensures.turned

pub returns-in-Preparing-clause-turned : goal.returns-in-Preparing-clause-turned
returns-in-Preparing-clause-turned g c =
    let a = c.args in
    let f = form_in a.header.now in
    let o = a.options.now in
    weaker c.prepare_turn.result _ _
    (λ went turn told. subst (λ stage. TurnsAt f o a.owner a.locks.now c.prepare_turn.new.locks stage (g.D.Disk.history a.d.now) (g.D.Disk.history c.prepare_turn.new.d) went) (sym c.in-Preparing.is)
    (λ table k past s t S K begins has M. turn told f o table k past s t S K has M)) c.prepare_turn.ensures.turned

-- Full, as each stage's own function tells it, or by the law, where no command may end so
pub returns-in-Starting-clause-full : goal.returns-in-Starting-clause-full
returns-in-Starting-clause-full g c =
    let a = c.args in
    let f = form_in a.header.now in
    let o = a.options.now in
    weaker c.start_turn.result _ _
    (λ went turn told. subst (λ stage. FullsAt f o a.owner a.locks.now stage (g.D.Disk.history a.d.now) (law_turn went.turn)) (sym c.in-Starting.is)
    (λ table k past s t S K begins has M. let T = turn told table k past s t S K begins has M in
    turned_never f table _ _ _ _ _ _ _ _ t (law_turn went.turn) T.turned (start_spares f (start_steps c.in-Starting.starting) s.own t has))) c.start_turn.ensures.turned

pub returns-in-Open-clause-full : goal.returns-in-Open-clause-full
returns-in-Open-clause-full g c =
    let a = c.args in
    let f = form_in a.header.now in
    let o = a.options.now in
    let h = g.D.Disk.history a.d.now in
    let txn = c.in-Open.txn in
    let command = c.given-command.result in
    weaker_with c.open_turn.result _ _ _
    (λ went turn full told. subst (λ stage. FullsAt f o a.owner a.locks.now stage h (law_turn went.turn)) (sym (c.in-Open.is ∙ ap (Stage.Open txn) c.given-command.ensures))
    (open_stage f o a.owner a.locks.now c.open_turn.new.locks txn command h (g.D.Disk.history c.open_turn.new.d) went (turn told) (full told))) c.open_turn.ensures.turned c.open_turn.ensures.full

pub returns-in-Committing-clause-full : goal.returns-in-Committing-clause-full
returns-in-Committing-clause-full g c =
    let a = c.args in
    weaker c.commit_turn.result _ _
    (λ went full told. subst (λ stage. FullsAt (form_in a.header.now) a.options.now a.owner a.locks.now stage (g.D.Disk.history a.d.now) (law_turn went.turn)) (sym c.in-Committing.is)
    (λ table k past s t S K begins has M. full told k.file k.image K.at.0)) c.commit_turn.ensures.full

pub returns-in-Preparing-clause-full : goal.returns-in-Preparing-clause-full
returns-in-Preparing-clause-full g c =
    let a = c.args in
    weaker c.prepare_turn.result _ _
    (λ went full told. subst (λ stage. FullsAt (form_in a.header.now) a.options.now a.owner a.locks.now stage (g.D.Disk.history a.d.now) (law_turn went.turn)) (sym c.in-Preparing.is)
    (λ table k past s t S K begins has M. full told k.file k.image K.at)) c.prepare_turn.ensures.full

pub returns-in-Prepared-clause-full : goal.returns-in-Prepared-clause-full
returns-in-Prepared-clause-full g c =
    let a = c.args in
    let f = form_in a.header.now in
    let o = a.options.now in
    let is = c.in-Prepared.is ∙ ap (Stage.Prepared c.in-Prepared.left) c.given-command-in-Prepared.ensures in
    weaker c.prepared_turn.result _ _
    (λ went turn told. subst (λ stage. FullsAt f o a.owner a.locks.now stage (g.D.Disk.history a.d.now) (law_turn went.turn)) (sym is)
    (λ table k past s t S K begins has M. let T = turn told table k past s t S K has M in let O = S.own.has in
    turned_never f table _ _ _ _ _ _ _ _ t (law_turn went.turn) T.turned (prepared_spares f s.own S.own.txn _ O.outer.has O.outer.outer O.prepared_is t.command))) c.prepared_turn.ensures.turned

pub returns-in-Finishing-clause-full : goal.returns-in-Finishing-clause-full
returns-in-Finishing-clause-full g c =
    let a = c.args in
    let f = form_in a.header.now in
    let o = a.options.now in
    weaker c.finish_turn.result _ _
    (λ went turn told. subst (λ stage. FullsAt f o a.owner a.locks.now stage (g.D.Disk.history a.d.now) (law_turn went.turn)) (sym c.in-Finishing.is)
    (λ table k past s t S K begins has M. let T = turn told f o table k past s t S K has M in let O = S.own.has in
    turned_never f table _ _ _ _ _ _ _ _ t (law_turn went.turn) T.turned (prepared_spares f s.own S.own.txn 4 O.outer.has O.outer.outer O.prepared_is t.command))) c.finish_turn.ensures.turned

-- how many syncs a step makes that sees to the undo area, as its own function tells it; nothing is said of the others
pub returns-in-Starting-clause-plans : goal.returns-in-Starting-clause-plans
returns-in-Starting-clause-plans g c =
    let h = g.D.Disk.history c.args.d.now in
    let before = g.D.Disk.syncs c.args.d.now in
    let now = g.D.Disk.syncs c.start_turn.new.d in
    weaker c.start_turn.result _ _
    (λ went turn told. subst (λ stage. PlansAt stage h went.turn before now) (sym c.in-Starting.is)
    (never_planned (Stage.Starting c.in-Starting.starting) h went.turn before now (λ r. tt))) c.start_turn.ensures.turned

pub returns-in-Open-clause-plans : goal.returns-in-Open-clause-plans
returns-in-Open-clause-plans g c =
    let h = g.D.Disk.history c.args.d.now in
    let before = g.D.Disk.syncs c.args.d.now in
    let now = g.D.Disk.syncs c.open_turn.new.d in
    weaker c.open_turn.result _ _
    (λ went turn told. subst (λ stage. PlansAt stage h went.turn before now) (sym c.in-Open.is)
    (never_planned (Stage.Open c.in-Open.txn c.in-Open.command) h went.turn before now (λ r. tt))) c.open_turn.ensures.turned

pub returns-in-Prepared-clause-plans : goal.returns-in-Prepared-clause-plans
returns-in-Prepared-clause-plans g c =
    let h = g.D.Disk.history c.args.d.now in
    let before = g.D.Disk.syncs c.args.d.now in
    let now = g.D.Disk.syncs c.prepared_turn.new.d in
    weaker c.prepared_turn.result _ _
    (λ went turn told. subst (λ stage. PlansAt stage h went.turn before now) (sym c.in-Prepared.is)
    (never_planned (Stage.Prepared c.in-Prepared.left c.in-Prepared.command) h went.turn before now (λ r. tt))) c.prepared_turn.ensures.turned

pub returns-in-Finishing-clause-plans : goal.returns-in-Finishing-clause-plans
returns-in-Finishing-clause-plans g c =
    let h = g.D.Disk.history c.args.d.now in
    let before = g.D.Disk.syncs c.args.d.now in
    let now = g.D.Disk.syncs c.finish_turn.new.d in
    weaker c.finish_turn.result _ _
    (λ went turn told. subst (λ stage. PlansAt stage h went.turn before now) (sym c.in-Finishing.is)
    (never_planned (Stage.Finishing c.in-Finishing.finishing) h went.turn before now (λ r. tt))) c.finish_turn.ensures.turned

pub returns-in-Committing-clause-plans : goal.returns-in-Committing-clause-plans
returns-in-Committing-clause-plans g c =
    let h = g.D.Disk.history c.args.d.now in
    let before = g.D.Disk.syncs c.args.d.now in
    let now = g.D.Disk.syncs c.commit_turn.new.d in
    weaker c.commit_turn.result _ _
    (λ went plans told. subst (λ stage. PlansAt stage h went.turn before now) (sym c.in-Committing.is) (λ f k K. plans told k.file k.image K.at.0)) c.commit_turn.ensures.plans

pub returns-in-Preparing-clause-plans : goal.returns-in-Preparing-clause-plans
returns-in-Preparing-clause-plans g c =
    let h = g.D.Disk.history c.args.d.now in
    let before = g.D.Disk.syncs c.args.d.now in
    let now = g.D.Disk.syncs c.prepare_turn.new.d in
    weaker c.prepare_turn.result _ _
    (λ went plans told. subst (λ stage. PlansAt stage h went.turn before now) (sym c.in-Preparing.is) (λ f k K. plans told k.file k.image K.at)) c.prepare_turn.ensures.plans
