-- What is said of the view after room was made is so of the view before.
use Rattle.std.proofs.Common.{◌<◌, [], sym, subst}
use Rattle.std.specs.Prelude.{◌^◌}
use Rattle.tdb_space.specs.Accepted.{AcceptWith}
use Rattle.tdb_space.proofs.Results.{on_err, ok_not}
use Rattle.tdb_steps.specs.Wiped.{Wiped, WipeStopped}
use Rattle.tdb_steps.proofs.Made.{moved}
use Rattle.tdb_steps.proofs.WipeMade.{wiped_made}
use Rattle.tdb_steps.proofs.wipe_turns.wipe_all.Goals as goal

pub returns-in_err-wipe-clause-stopped : goal.returns-in_err-wipe-clause-stopped
returns-in_err-wipe-clause-stopped g c =
    on_err c.from_residual.result (λ told. moved (λ f a. AcceptWith f a [] → WipeStopped f a (g.S.Space.image c.wipe.new.s))
    (g.S.Space.form c.args.s.now) (g.S.Space.form c.ready.new.self) (g.S.Space.image c.args.s.now) (g.S.Space.image c.ready.new.self) c.ready.ensures.form c.ready.ensures.image
    (c.in_err-wipe.ensures.stopped told))

pub returns-clause-rightly : goal.returns-clause-rightly
returns-clause-rightly g c told small =
    moved (λ f a. AcceptWith f a [] → Wiped f a (g.S.Space.image c.wipe.new.s))
    (g.S.Space.form c.args.s.now) (g.S.Space.form c.ready.new.self) (g.S.Space.image c.args.s.now) (g.S.Space.image c.ready.new.self) c.ready.ensures.form c.ready.ensures.image
    (c.in_ok-wipe.ensures.wiped told (subst (λ n. n < 2 ^ 32) (sym c.ready.ensures.size) small))

pub returns-clause-made : goal.returns-clause-made
returns-clause-made g c told small others none A =
    wiped_made (g.S.Space.form c.args.s.now) (g.S.Space.image c.args.s.now) (g.S.Space.image c.wipe.new.s) others none
    (returns-clause-rightly g c told small (subst (AcceptWith (g.S.Space.form c.args.s.now) (g.S.Space.image c.args.s.now)) none A))

-- where the room has no bound, it could be made
pub returns-in_default-clause-starves : goal.returns-in_default-clause-starves
returns-in_default-clause-starves g c is free = ok_not c.ready.result (c.ready.ensures.unbounded free) c.in_default.not-Ok
