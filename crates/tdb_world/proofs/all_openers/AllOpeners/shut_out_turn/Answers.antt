-- The turn is that of an opener that is shut out, or one that asks for the sequence number.
use Rattle.std.proofs.Common.{◌≡◌, ◌≢◌, ℕ, List, sym, ◌∙◌, ap, subst}
use Rattle.tdb_space.specs.Form.{form_in}
use Rattle.tdb_law.specs.Commands.{Turn}
use Rattle.tdb_law.specs.Commands.Reply.{Number}
use Rattle.tdb_law.specs.Commands.Turn.{Blocked, Ends}
use Rattle.tdb_law.specs.Effects.{IsFree}
use Rattle.tdb_law.specs.Turned.{want}
use Rattle.tdb_law.specs.OneAside.Sides.{Past, Side, beside}
use Rattle.tdb_commands.specs.InLaw.{law_opener, law_turn}
use Rattle.tdb_openers.specs.ShutOut.{ShutsOut, IsTurnBeside}
use Rattle.tdb_openers.specs.Worlds.{World, law_of_task, state_in, IsBusy, Stands}
use Rattle.tdb_openers.specs.declared.job.Task.{Task}
use Rattle.tdb_openers.specs.declared.opener.Opener.{Opener}
use Rattle.tdb_openers.proofs.Barred.ShutOut.{IsBarred}
use Rattle.tdb_world.specs.Whole.{Whole}
use Rattle.tdb_world.proofs.AskingTurns.{number_barred, number_free}
use Rattle.tdb_world.proofs.all_openers.AllOpeners.shut_out_turn.Goals as goal

openers_are : (v w : Whole) → v ≡ w → v.openers ≡ w.openers
openers_are v w e = ap (λ (z : Whole). z.openers) e

-- a turn beside the one aside, of openers that are these
abbrev Beside : World → World → ℕ → ℕ → List ℕ → Past → Side → Opener → Task → Turn → Type 0
Beside z v who holder img past s x t turn = IsBusy z who x t → ShutsOut z img past s holder → IsTurnBeside z v img past s (law_opener who) (law_of_task t) turn

abbrev Numbered : World → World → ℕ → ℕ → List ℕ → Past → Side → Opener → Task → Type 0
Numbered z v who holder img past s x t =
    let q = beside (state_in z img) past s in
    IsBusy z who x t → holder ≢ who → ShutsOut z img past s holder → IsFree q.table (law_opener who) (want (form_in z.header) q (law_opener who) (law_of_task t))
    → IsTurnBeside z v img past s (law_opener who) (law_of_task t) (Ends (Number q.number))

pub turn_shut_out-requires-clause-still : goal.turn_shut_out-requires-clause-still
turn_shut_out-requires-clause-still c x t B moves = c.requires.still x t (subst (λ z. IsBusy z c.args.who x t) (openers_are _ _ c.self.view_is) B) moves

pub returns-in-Some-clause-openers : goal.returns-in-Some-clause-openers
returns-in-Some-clause-openers c img size W = c.in-Some.ensures.stands img size (subst (λ z. Stands z img size) (sym (openers_are _ _ c.self.view_is)) W)

pub returns-in-Some-clause-step : goal.returns-in-Some-clause-step
returns-in-Some-clause-step c = c.in-Some.ensures.step

pub returns-in-Some-clause-turned : goal.returns-in-Some-clause-turned
returns-in-Some-clause-turned c img past s x t B O barred free =
    subst (λ z. Beside z c.turn_shut_out.new.self c.args.who c.args.holder img past s x t (law_turn c.in-Some.turn)) (openers_are _ _ c.self.view_is) (c.in-Some.ensures.turned img past s x t) B O

pub returns-then-bars-clause-turned : goal.returns-then-bars-clause-turned
returns-then-bars-clause-turned c img past s x t B O barred free =
    let w = c.args.self.now.openers in
    let is : c.turn_shut_out.new.self ≡ w = c.in_default.ensures.same ∙ openers_are _ _ c.self.view_is in
    let C : IsBarred w img past s c.args.holder c.args.who x t c.requires.stands.0 c.requires.stands.1 = record { busy = B; other = c.requires.other; shuts = O; stands = c.requires.stands.2 } in
    let asking = c.in_default.ensures.asks x t (subst (λ z. IsBusy z c.args.who x t) (sym (openers_are _ _ c.self.view_is)) B) in
    subst (λ z. IsTurnBeside w z img past s (law_opener c.args.who) (law_of_task t) (Blocked (law_opener c.args.holder) 48)) (sym is) (number_barred C asking (barred c.if-bars.true))

pub end_seqnum-requires-clause-asks : goal.end_seqnum-requires-clause-asks
end_seqnum-requires-clause-asks c =
    let x = c.requires.busy.0 in
    let t = c.requires.busy.1 in
    let B = subst (λ z. IsBusy z c.args.who x t) (sym (openers_are _ _ c.self.view_is)) c.requires.busy.2 in
    (x, t, subst (λ z. IsBusy z c.args.who x t) (sym c.in_default.ensures.same) B, ap (λ z. z.command) (c.in_default.ensures.asks x t B))

pub returns-clause-openers : goal.returns-clause-openers
returns-clause-openers c img size W = c.end_seqnum.ensures.stands img size (subst (λ z. Stands z img size) (sym (c.in_default.ensures.same ∙ openers_are _ _ c.self.view_is)) W)

pub returns-clause-turned : goal.returns-clause-turned
returns-clause-turned c img past s x t B O barred free =
    let w = c.args.self.now.openers in
    let is : c.turn_shut_out.new.self ≡ w = c.in_default.ensures.same ∙ openers_are _ _ c.self.view_is in
    let C : IsBarred w img past s c.args.holder c.args.who x t c.requires.stands.0 c.requires.stands.1 = record { busy = B; other = c.requires.other; shuts = O; stands = c.requires.stands.2 } in
    let asking = c.in_default.ensures.asks x t (subst (λ z. IsBusy z c.args.who x t) (sym (openers_are _ _ c.self.view_is)) B) in
    let now = free c.if-bars.false in
    subst (λ n. IsTurnBeside w c.end_seqnum.new.self img past s (law_opener c.args.who) (law_of_task t) (Ends (Number n)))
    (sym (c.from.ensures ∙ ap (λ (z : Whole). z.number) c.self.view_is ∙ now.1))
    (subst (λ z. Numbered z c.end_seqnum.new.self c.args.who c.args.holder img past s x t) is (c.end_seqnum.ensures.turned c.args.holder img past s x t) B c.requires.other O (number_free C asking now.0))
