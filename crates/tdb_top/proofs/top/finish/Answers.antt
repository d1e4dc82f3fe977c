use Rattle.std.proofs.Common.{refl, sym, subst, inl}
use Rattle.tdb_answer.specs.declared.ending.Ending.{Ending as EndingIs}
use Rattle.tdb_answer.specs.Ending.{PrintedFor}
use Rattle.tdb_answer.specs.Output.{output_by}
use Rattle.tdb_answer.specs.Looks.{rest_of, ending_of}
use Rattle.tdb_answer.specs.Printed.{Finishes}
use Rattle.tdb_top.proofs.top.finish.Goals as goal

-- the output failed in the text
pub returns-in-Err : goal.returns-in-Err
returns-in-Err g c =
    let w = g.K.Sink.written c.args.output.now in
    let n = g.K.Sink.faults c.args.output.now in
    subst (λ r. (e : EndingIs) × PrintedFor e (ending_of r) × Finishes r (output_by g.K.Sink.tells w w n n) e 8) (sym c.in-Err.is)
    (rest_of c.in-Err.field-0, inl refl, (refl, refl, refl, refl))
