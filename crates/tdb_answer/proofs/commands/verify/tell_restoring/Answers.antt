use Rattle.std.proofs.Common.{◌≡◌, ◌++◌, take, Err, rules, refl, ◌∙◌, ap}
use Rattle.tdb_answer.specs.declared.commands.verify.Unverified.TheVariants.{Ends, Unprinted}
use Rattle.tdb_answer.specs.declared.ending.Ending.TheVariants.{NoMemory}
use Rattle.tdb_answer.proofs.Verifying.{took_nothing}
use Rattle.tdb_answer.proofs.commands.verify.tell_restoring.Goals as goal

-- there was no memory for the line
pub returns-in_err-line-clause-untold : goal.returns-in_err-line-clause-untold
returns-in_err-line-clause-untold g c =
    let is : c.from_residual.result ≡ Err (Ends NoMemory) = search rules in
    rw is (refl, took_nothing g.K.Sink.tells (g.K.Sink.written c.args.output.now))

-- it wasn't written whole
pub returns-in_err-write-clause-untold : goal.returns-in_err-write-clause-untold
returns-in_err-write-clause-untold g c =
    let is : c.from_residual-in_err-write.result ≡ Err Unprinted = search rules in
    rw is (λ heard.
    (let part = c.in_err-write.ensures.some heard in
    (part.0, part.2 ∙ ap (λ l. g.K.Sink.written c.args.output.now ++ take part.0 l) (c.as_slice.ensures ∙ c.in_ok-line.ensures))))
