use Rattle.std.proofs.Common.{Err, refl, ◌∙◌, ap, subst, inr}
use Rattle.std.specs.Prelude.{IsSome}
use Rattle.std.proofs.lemmas.Bool.{false≢true}
use Rattle.tdb_answer.specs.Ending.{CountedBy}
use Rattle.tdb_answer.proofs.BackingUp.{untaken_anew, untaken_counted}
use Rattle.tdb_answer.proofs.commands.backup.take_anew.Goals as goal

-- nothing stands at the name any more, so only want of memory and a failed call keep it from being taken
pub returns-in-Err-clause-known : goal.returns-in-Err-clause-known
returns-in-Err-clause-known g c =
    untaken_anew g.F.D.Disk.tells c.args.name.now c.in-Err.refusal c.untaken.result
    (λ is. c.in-Err.ensures.missing_how (ap Err is) refl)
    (λ is told. false≢true (subst IsSome (c.in-Ok.ensures.gone told) ((c.in-Err.ensures.there told).0 (ap Err is)).0))
    c.untaken.ensures

pub returns-in-Err-clause-left : goal.returns-in-Err-clause-left
returns-in-Err-clause-left g c told = inr (c.in-Err.ensures.refused_held c.args.name.now ∙ c.in-Ok.ensures.gone told)

pub returns-in-Err-clause-counted : goal.returns-in-Err-clause-counted
returns-in-Err-clause-counted g c =
    let after = g.F.Files.faults c.take.new.self in
    subst (λ n. CountedBy n after c.untaken.result) c.in-Ok.ensures.cause.done
    (untaken_counted (g.F.Files.faults c.remove.new.self) after c.args.name.now c.in-Err.refusal c.untaken.result c.in-Err.ensures.cause.never_falls c.in-Err.ensures.cause.failed c.in-Err.ensures.cause.refused c.untaken.ensures)
