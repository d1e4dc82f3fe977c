use Rattle.std.proofs.Common.{sym, ◌∙◌, subst}
use Rattle.tdb_answer.specs.declared.ending.Reply.TheVariants.{Done}
use Rattle.tdb_answer.specs.Commands.Convert.{converted_line}
use Rattle.tdb_answer.specs.Ending.{CountedBy}
use Rattle.tdb_answer.specs.Looks.{StandsBefore, ending_of}
use Rattle.tdb_answer.proofs.Converting.{told_left, unconverted_asked, unconverted_unread, unconverted_stands}
use Rattle.tdb_answer.proofs.Hearing.{converted_as}
use Rattle.tdb_answer.proofs.Looking.{nothing}
use Rattle.tdb_answer.proofs.commands.convert.convert.Goals as goal

-- the new file was made, and that was told, or wasn't
pub returns-in-Ok-clause-left : goal.returns-in-Ok-clause-left
returns-in-Ok-clause-left g c told =
    let held = g.F.Files.held in
    let new = c.args.new.now in
    told_left c.args.made c.args.prefix.now c.args.file.now new (held c.args.files.now c.args.file.now) (held c.args.files.now new) (held c.convert_file.new.files new) (held c.tell_converted.new.files new)
    c.tell_converted.result (c.in-Ok.ensures.made told) (c.tell_converted.ensures.left told)

pub returns-in-Ok-clause-kept : goal.returns-in-Ok-clause-kept
returns-in-Ok-clause-kept g c told = c.tell_converted.ensures.others c.args.file.now (λ same. c.requires.differ (sym same)) ∙ c.in-Ok.ensures.kept told

pub returns-in-Ok-clause-counted : goal.returns-in-Ok-clause-counted
returns-in-Ok-clause-counted g c =
    subst (λ n. CountedBy n (g.F.Files.faults c.tell_converted.new.files) (ending_of c.tell_converted.result)) (c.in-Ok.ensures.counted.sound (λ is. cc)) c.tell_converted.ensures.counted

pub returns-in-Ok-clause-heard : goal.returns-in-Ok-clause-heard
returns-in-Ok-clause-heard g c told =
    converted_as c.args.made.limit (g.F.Files.held c.args.files.now c.args.file.now) Done (ending_of c.tell_converted.result) (g.L.Logs.logs c.args.logs.now) (g.L.Logs.logs c.convert_file.new.logs)
    c.tell_converted.ensures.unlogged (c.in-Ok.ensures.heard told)

-- it wasn't made
pub returns-in-Err-clause-left : goal.returns-in-Err-clause-left
returns-in-Err-clause-left g c told = c.in-Err.ensures.refused told

pub returns-in-Err-clause-asked : goal.returns-in-Err-clause-asked
returns-in-Err-clause-asked g c = unconverted_asked c.in-Err.ending c.in-Err.ensures.known

pub returns-in-Err-clause-unread : goal.returns-in-Err-clause-unread
returns-in-Err-clause-unread g c = unconverted_unread c.in-Err.ending c.in-Err.ensures.known

pub returns-in-Err-clause-began : goal.returns-in-Err-clause-began
returns-in-Err-clause-began g c told =
    nothing (StandsBefore converted_line) c.in-Err.ending (g.K.Sink.written c.args.output.now) (unconverted_stands converted_line c.in-Err.ending c.in-Err.ensures.known)
