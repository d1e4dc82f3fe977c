-- No tailer, so nothing looks free.
use Rattle.std.proofs.Common.{ℕ, subst}
use Rattle.std.specs.Prelude.{MatchOption}
use Rattle.tdb_free.specs.Look.{StartsByTailer}
use Rattle.tdb_free.proofs.look.free_start_before.Goals as goal

pub returns-in-None-clause-start : goal.returns-in-None-clause-start
returns-in-None-clause-start g c told ends =
    let order = (g.S.Space.form c.args.s.now).order in
    let img = g.S.Space.image c.args.s.now in
    subst (λ o. MatchOption o ((x : ℕ) → StartsByTailer order img c.args.at x → ⊥) (λ x. StartsByTailer order img c.args.at x)) c.in-None.is (c.in_ok-start.ensures.start told) ends.0 ends.1
