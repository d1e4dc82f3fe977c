-- The turn moves a cursor, or it doesn't look at the file.
use Rattle.std.proofs.Common.{ap, sym, subst}
use Rattle.std.specs.Prelude.{MatchBool}
use Rattle.std.proofs.lemmas.Result.{IfOk-weaker}
use Rattle.tdb_openers.specs.ShutOut.{IsMove}
use Rattle.tdb_openers.specs.Worlds.{IsBusy}
use Rattle.tdb_world.specs.Whole.{Whole}
use Rattle.tdb_world.proofs.all_openers.AllOpeners.turn_beside.Goals as goal

pub passing_turn-requires-clause-busy : goal.passing_turn-requires-clause-busy
passing_turn-requires-clause-busy g c =
    let x = c.requires.busy.0 in
    let t = c.requires.busy.1 in
    let B = c.requires.busy.2 in
    let there = subst (λ z. IsBusy z c.args.who x t) (sym (ap (λ (z : Whole). z.openers) c.self.view_is)) B in
    (x, t, B, subst (λ z. MatchBool z (IsMove t.job) (IsMove t.job → ⊥)) c.if-moves.true (c.moves.ensures x t there))

pub shut_out_turn-requires-clause-still : goal.shut_out_turn-requires-clause-still
shut_out_turn-requires-clause-still g c x t B =
    let there = subst (λ z. IsBusy z c.args.who x t) (sym (ap (λ (z : Whole). z.openers) c.self.view_is)) B in
    subst (λ z. MatchBool z (IsMove t.job) (IsMove t.job → ⊥)) c.if-moves.false (c.moves.ensures x t there)

pub returns-then-moves-clause-turned : goal.returns-then-moves-clause-turned
returns-then-moves-clause-turned g c =
    IfOk-weaker c.passing_turn.result _ _ (λ turn turned told img past s x t B O barred free shows. turned told img past s x t B O shows) c.passing_turn.ensures.turned

pub returns-clause-turned : goal.returns-clause-turned
returns-clause-turned g c told img past s x t B O barred free shows = c.shut_out_turn.ensures.turned img past s x t B O barred free
