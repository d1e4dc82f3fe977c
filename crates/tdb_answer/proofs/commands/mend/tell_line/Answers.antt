use Rattle.std.proofs.Common.{length, refl, sym, arith}
use Rattle.std.proofs.lemmas.List.{take_all}
use Rattle.tdb_answer.proofs.commands.mend.tell_line.Goals as goal

-- the line was printed
pub returns-in-Ok-clause-left : goal.returns-in-Ok-clause-left
returns-in-Ok-clause-left g c told = (refl, refl)

pub returns-in-Ok-clause-began : goal.returns-in-Ok-clause-began
returns-in-Ok-clause-began g c told = (c.args.line.now, refl, c.in-Ok.ensures.all told)

-- it wasn't, and the new file was removed
pub returns-in-Ok-remove-clause-left : goal.returns-in-Ok-remove-clause-left
returns-in-Ok-remove-clause-left g c told = c.in-Ok-remove.ensures.gone told

pub returns-in-Ok-remove-clause-began : goal.returns-in-Ok-remove-clause-began
returns-in-Ok-remove-clause-began g c told =
    let line = c.args.line.now in
    let part = c.in-Err.ensures.some told in
    (line, (length line, sym (take_all (length line) line (omega arith))), part.0, part.2)

-- or it couldn't be removed
pub returns-in-Err-remove-clause-began : goal.returns-in-Err-remove-clause-began
returns-in-Err-remove-clause-began g c told =
    let line = c.args.line.now in
    let part = c.in-Err.ensures.some told in
    (line, (length line, sym (take_all (length line) line (omega arith))), part.0, part.2)
