-- How an opener stands is how it stands in the state.
use Rattle.std.proofs.Common.{[], slice_get, sym, ◌∙◌, ap, subst}
use Rattle.tdb_law.specs.Openers.{Own}
use Rattle.tdb_law.proofs.Tests.{never_true}
use Rattle.tdb_commands.specs.InLaw.{law_opener}
use Rattle.tdb_openers.specs.Openers.{law_task, own_at, task_at}
use Rattle.tdb_openers.specs.Worlds.{law_of_task, IsBusy, IsFree}
use Rattle.tdb_world.specs.Steps.HasCommand.{by_aside, by_start, by_job}
use Rattle.tdb_world.specs.Steps.HasNoCommand.{idle_aside, idle_among}
use Rattle.tdb_world.specs.Whole.{Whole}
use Rattle.tdb_world.proofs.Standings.{busy_among, own_in, there_named}
use Rattle.tdb_world.proofs.all_openers.AllOpeners.standing.Goals as goal

pub returns-then-is_idle-clause-idle : goal.returns-then-is_idle-clause-idle
returns-then-is_idle-clause-idle c = λ e. idle_aside c.in-Some.holder.now c.in-Some.ensures.some.0 c.in-Some.ensures.some.1 (c.is_idle.ensures.task c.if-is_idle.true)

pub returns-else-is_idle-clause-busy : goal.returns-else-is_idle-clause-busy
returns-else-is_idle-clause-busy c = λ e. let T = c.is_idle.ensures.busy c.if-is_idle.false in by_aside c.in-Some.holder.now T.0 c.in-Some.ensures.some.0 c.in-Some.ensures.some.1 T.1

pub returns-then-is_starting-clause-busy : goal.returns-then-is_starting-clause-busy
returns-then-is_starting-clause-busy c = λ e. by_start (sym c.is_starting.ensures ∙ c.if-is_starting.true) c.in_default.ensures.none

pub returns-clause-absent : goal.returns-clause-absent
returns-clause-absent c = λ e history state is.
    ap (λ (x : Own). x.live) (own_in c.args.self.now c.args.who c.requires.named c.in_default.ensures.none history state is) ∙ ap (λ z. (own_at z.options (slice_get z.openers (law_opener c.args.who))).live) (ap (λ (z : Whole). z.openers) (sym c.self.view_is)) ∙ c.standing.ensures.absent e []

pub returns-clause-idle : goal.returns-clause-idle
returns-clause-idle c = λ e. let X = c.standing.ensures.idle e in idle_among X.0 (subst (λ z. IsFree z c.args.who X.0) (ap (λ (z : Whole). z.openers) c.self.view_is) X.1) (sym c.is_starting.ensures ∙ c.if-is_starting.false) c.in_default.ensures.none

pub returns-clause-busy : goal.returns-clause-busy
returns-clause-busy c = λ e. let X = c.standing.ensures.busy e in by_job X.0 X.1 (subst (λ z. IsBusy z c.args.who X.0 X.1) (ap (λ (z : Whole). z.openers) c.self.view_is) X.2) (sym c.is_starting.ensures ∙ c.if-is_starting.false) c.in_default.ensures.none

pub returns-clause-nobody : goal.returns-clause-nobody
returns-clause-nobody c = λ e busy.
    let w = c.args.self.now in
    let B = busy_among w c.args.who c.in_default.ensures.none (sym c.is_starting.ensures ∙ c.if-is_starting.false) busy in
    let live = c.requires.fits.2.openers.sound.busy_there (law_opener c.args.who) (law_of_task B.1) (ap task_at (there_named w.openers c.args.who B.0 B.2.number) ∙ ap law_task B.2.busy) in
    let dead = ap (λ z. (own_at z.options (slice_get z.openers (law_opener c.args.who))).live) (ap (λ (z : Whole). z.openers) (sym c.self.view_is)) ∙ c.standing.ensures.absent e [] in
    never_true (sym dead ∙ live)
