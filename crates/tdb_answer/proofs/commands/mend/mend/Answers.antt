use Rattle.std.proofs.Common.{sym, subst}
use Rattle.tdb_answer.specs.Commands.Mend.{MendText, StaysSynced, mended_line}
use Rattle.tdb_answer.specs.Ending.{CountedBy}
use Rattle.tdb_answer.specs.Looks.{StandsBefore, ending_of}
use Rattle.tdb_answer.proofs.Looking.{began_as, nothing}
use Rattle.tdb_answer.proofs.Mending.{mend_told_left, unmended_asked, unmended_unread, unmended_unlogged, unmended_text}
use Rattle.tdb_answer.proofs.commands.mend.mend.Goals as goal

-- the new file was made, and that was told, or wasn't
pub returns-in-Ok-clause-left : goal.returns-in-Ok-clause-left
returns-in-Ok-clause-left g c told =
    let held = g.F.Files.held in
    let new = c.args.new.now in
    mend_told_left c.args.file.now new (held c.args.files.now c.args.file.now) (held c.args.files.now new) (held c.mend_file.new.files new) (held c.tell_mended.new.files new)
    c.tell_mended.result (c.in-Ok.ensures.made told) (c.tell_mended.ensures.left told)

pub returns-in-Ok-clause-kept : goal.returns-in-Ok-clause-kept
returns-in-Ok-clause-kept g c told =
    subst (StaysSynced (g.F.Files.held c.args.files.now c.args.file.now)) (sym (c.tell_mended.ensures.others c.args.file.now (λ same. c.requires.differ (sym same)))) (c.in-Ok.ensures.kept told)

pub returns-in-Ok-clause-counted : goal.returns-in-Ok-clause-counted
returns-in-Ok-clause-counted g c =
    subst (λ n. CountedBy n (g.F.Files.faults c.tell_mended.new.files) (ending_of c.tell_mended.result)) (c.in-Ok.ensures.counted.sound (λ is. cc)) c.tell_mended.ensures.counted

pub returns-in-Ok-clause-began : goal.returns-in-Ok-clause-began
returns-in-Ok-clause-began g c told heard =
    let held = g.F.Files.held c.args.files.now c.args.file.now in
    began_as (StandsBefore (mended_line c.in-Ok.changed)) (MendText held) (g.K.Sink.written c.args.output.now) (g.K.Sink.written c.tell_mended.new.output) c.tell_mended.result
    (c.in-Ok.ensures.told told) (c.tell_mended.ensures.began heard)

-- it wasn't made
pub returns-in-Err-clause-left : goal.returns-in-Err-clause-left
returns-in-Err-clause-left g c told = c.in-Err.ensures.refused told

pub returns-in-Err-clause-asked : goal.returns-in-Err-clause-asked
returns-in-Err-clause-asked g c = unmended_asked c.in-Err.ending c.in-Err.ensures.known

pub returns-in-Err-clause-unread : goal.returns-in-Err-clause-unread
returns-in-Err-clause-unread g c = unmended_unread c.in-Err.ending c.in-Err.ensures.known

pub returns-in-Err-clause-unlogged : goal.returns-in-Err-clause-unlogged
returns-in-Err-clause-unlogged g c = unmended_unlogged c.in-Err.ending c.in-Err.ensures.known

pub returns-in-Err-clause-began : goal.returns-in-Err-clause-began
returns-in-Err-clause-began g c told heard =
    let held = g.F.Files.held c.args.files.now c.args.file.now in
    nothing (MendText held) c.in-Err.ending (g.K.Sink.written c.args.output.now) (unmended_text held c.in-Err.ending c.in-Err.ensures.known)
