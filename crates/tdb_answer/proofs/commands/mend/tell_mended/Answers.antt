use Rattle.std.proofs.Common.{ℕ, List, ◌∙◌, subst}
use Rattle.tdb_answer.specs.Commands.Mend.{mended_line}
use Rattle.tdb_answer.specs.Looks.{Began, StandsBefore}
use Rattle.tdb_answer.proofs.Looking.{nothing}
use Rattle.tdb_answer.proofs.Mending.{untold_asked, unmended_asked, unmended_unread, unmended_unlogged, unmended_stands}
use Rattle.tdb_answer.proofs.commands.mend.tell_mended.Goals as goal

-- the line says how many bytes
pub returns-in-Ok-clause-began : goal.returns-in-Ok-clause-began
returns-in-Ok-clause-began g c told =
    subst (λ (line : List ℕ). Began (StandsBefore line) (g.K.Sink.written c.args.output.now) (g.K.Sink.written c.tell_line.new.output) c.tell_line.result) (c.as_slice.ensures ∙ c.in-Ok.ensures) (c.tell_line.ensures.began told)

-- there was no memory for it
pub returns-in-Err-clause-left : goal.returns-in-Err-clause-left
returns-in-Err-clause-left g c told = c.untold.ensures.left told

pub returns-in-Err-clause-asked : goal.returns-in-Err-clause-asked
returns-in-Err-clause-asked g c = unmended_asked c.untold.result (untold_asked c.untold.result c.untold.ensures.known)

pub returns-in-Err-clause-unread : goal.returns-in-Err-clause-unread
returns-in-Err-clause-unread g c = unmended_unread c.untold.result (untold_asked c.untold.result c.untold.ensures.known)

pub returns-in-Err-clause-unlogged : goal.returns-in-Err-clause-unlogged
returns-in-Err-clause-unlogged g c = unmended_unlogged c.untold.result (untold_asked c.untold.result c.untold.ensures.known)

pub returns-in-Err-clause-began : goal.returns-in-Err-clause-began
returns-in-Err-clause-began g c told =
    let line = mended_line c.args.changed in
    nothing (StandsBefore line) c.untold.result (g.K.Sink.written c.args.output.now) (unmended_stands line c.untold.result (untold_asked c.untold.result c.untold.ensures.known))
