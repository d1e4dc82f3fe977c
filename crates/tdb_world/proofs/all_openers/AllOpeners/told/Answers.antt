-- The command that is told is that of the state.
use Rattle.std.proofs.Common.{◌≡◌, ◌≤◌, Some, refl, sym, ◌∙◌, ap, subst, arith}
use Rattle.std.proofs.lemmas.Result.{IfOk-weaker}
use Rattle.tdb_law.specs.Openers.{Task}
use Rattle.tdb_commands.specs.InLaw.{law_command, law_opener}
use Rattle.tdb_openers.specs.Openers.{law_task, task_at}
use Rattle.tdb_openers.specs.Worlds.{IsBusy}
use Rattle.tdb_openers.proofs.Joining.Stood.{injected}
use Rattle.tdb_world.specs.Whole.{Whole}
use Rattle.tdb_world.specs.Steps.HasCommand.{by_start}
use Rattle.tdb_world.proofs.Standings.{aside_has, aside_task, among_has, busy_among, task_in, there_named}
use Rattle.tdb_world.proofs.all_openers.AllOpeners.told.Goals as goal

pub returns-in-Some-clause-told : goal.returns-in-Some-clause-told
returns-in-Some-clause-told c =
    let h = c.in-Some.holder.now in
    let F = c.requires.fits in
    IfOk-weaker c.told.result _ _
    (λ command told history state t is has.
    told t (sym (aside_task c.args.self.now h F.0 F.1 F.2 c.in-Some.ensures.some.0 history state is) ∙ ap (λ n. state.task (law_opener n)) (sym c.in-Some.ensures.some.1) ∙ has))
    c.told.ensures

pub returns-clause-told : goal.returns-clause-told
returns-clause-told c =
    let w = c.args.self.now in
    let none = sym c.is_starting.ensures ∙ c.if-is_starting.false in
    let B = busy_among w c.args.who c.in_default.ensures.none none c.requires.busy in
    let counted = B.2.number.counted in
    let named : 1 ≤ c.args.who = omega (arith, counted) in
    IfOk-weaker c.told-2.result _ _
    (λ command told history state t is has.
    let mine : task_at (Some B.0) ≡ Some t =
    ap task_at (sym (there_named w.openers c.args.who B.0 B.2.number)) ∙ sym (task_in w c.args.who named c.in_default.ensures.none history state none is) ∙ has in
    told B.0 B.1 (subst (λ z. IsBusy z c.args.who B.0 B.1) (ap (λ (z : Whole). z.openers) (sym c.self.view_is)) B.2) ∙ ap (λ (u : Task). u.command) (injected (ap law_task (sym B.2.busy) ∙ mine)))
    c.told-2.ensures

-- and it is the one that the opener has in the world
pub returns-in-Some-clause-has : goal.returns-in-Some-clause-has
returns-in-Some-clause-has c =
    let S = c.in-Some.ensures.some in
    IfOk-weaker c.told.result _ _ (λ command told. aside_has c.args.self.now c.args.who (law_command command) c.in-Some.holder.now S.0 S.1 told c.requires.busy) c.told.ensures

pub returns-then-is_starting-clause-has : goal.returns-then-is_starting-clause-has
returns-then-is_starting-clause-has c = (by_start (sym c.is_starting.ensures ∙ c.if-is_starting.true) c.in_default.ensures.none, refl)

pub returns-clause-has : goal.returns-clause-has
returns-clause-has c =
    let none = sym c.is_starting.ensures ∙ c.if-is_starting.false in
    IfOk-weaker c.told-2.result _ _
    (λ command told.
    among_has c.args.self.now c.args.who (law_command command) c.in_default.ensures.none none
    (λ x t B. told x t (subst (λ z. IsBusy z c.args.who x t) (ap (λ (z : Whole). z.openers) (sym c.self.view_is)) B)) c.requires.busy)
    c.told-2.ensures
