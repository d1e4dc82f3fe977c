use Rattle.std.proofs.Common.{refl, sym, subst, inr}
use Rattle.tdb_cmdline.specs.declared.ask.Task.TheVariants.{Turns}
use Rattle.tdb_script.specs.Script.{Script}
use Rattle.tdb_answer.specs.Input.{input_by}
use Rattle.tdb_answer.specs.Output.{output_by}
use Rattle.tdb_answer.specs.Looks.{ending_of}
use Rattle.tdb_answer.specs.Reads.{AskCause}
use Rattle.tdb_answer.proofs.StopsTurning.{unscripted_stops}
use Rattle.tdb_answer.specs.Commands.Turns.{TurnsHeard}
use Rattle.tdb_answer.specs.Scripts.{unscripted}
use Rattle.tdb_answer.proofs.Turning.{plays_asked, unscripted_asked, heard_nothing, heard_unscripted, all_asked}
use Rattle.tdb_answer.proofs.commands.turns.turns_on_file.Goals as goal

-- the script was read
pub returns-in-Ok-clause-cause : goal.returns-in-Ok-clause-cause
returns-in-Ok-clause-cause g c told =
    plays_asked (input_by g.S.Source.tells (g.S.Source.left c.args.input.now) (g.S.Source.faults c.args.input.now) (g.S.Source.faults c.plays_on.new.input)) c.args.options.now c.args.name.now (g.F.Files.held c.args.files.now c.args.name.now)
    (g.F.Files.faults c.args.files.now) (g.F.Files.faults c.play_on_file.new.files) (ending_of c.play_on_file.result) (λ heard. (c.in-Ok.plays, c.in-Ok.ensures.script heard)) (c.play_on_file.ensures.cause told)

-- there is none
pub returns-in-Err-clause-cause : goal.returns-in-Err-clause-cause
returns-in-Err-clause-cause g c told =
    let input = input_by g.S.Source.tells (g.S.Source.left c.args.input.now) (g.S.Source.faults c.args.input.now) (g.S.Source.faults c.plays_on.new.input) in
    let faults = g.F.Files.faults c.args.files.now in
    let held = g.F.Files.held c.args.files.now c.args.name.now in
    subst (AskCause input (Turns c.args.options.now) c.args.name.now held faults faults) (sym c.from.ensures)
    (unscripted_asked input c.args.options.now c.args.name.now held faults faults c.in-Err.fault c.in-Err.ensures.refused (λ is. c.in-Err.ensures.cause.failed is))

-- what stops leave
pub returns-in-Ok-clause-stops : goal.returns-in-Ok-clause-stops
returns-in-Ok-clause-stops g c told =
    let text = g.S.Source.left c.args.input.now in
    (c.as_slice.result.now, inr (λ heard. subst (Script text) (sym c.as_slice.ensures) (c.in-Ok.ensures.script heard)), c.play_on_file.ensures.stops told)

pub returns-in-Err-clause-stops : goal.returns-in-Err-clause-stops
returns-in-Err-clause-stops g c told =
    let input = input_by g.S.Source.tells (g.S.Source.left c.args.input.now) (g.S.Source.faults c.args.input.now) (g.S.Source.faults c.plays_on.new.input) in
    unscripted_stops input c.args.options.now (g.F.Files.held c.args.files.now c.args.name.now) g.K.Sink.tells _ _ _ (g.K.Sink.written c.args.output.now)

-- what logs heard where there is none
pub returns-in-Err-clause-logged : goal.returns-in-Err-clause-logged
returns-in-Err-clause-logged g c told =
    let logs = g.L.Logs.logs c.args.logs.now in
    let held = g.F.Files.held c.args.files.now c.args.name.now in
    subst (λ e. TurnsHeard c.args.options.now held e logs logs) (sym c.from.ensures) (heard_nothing c.args.options.now held (unscripted c.in-Err.fault) logs logs (heard_unscripted c.in-Err.fault) refl)

-- all plays of the script were taken and told
pub returns-in-Ok-clause-played : goal.returns-in-Ok-clause-played
returns-in-Ok-clause-played g c told is =
    let text = g.S.Source.left c.args.input.now in
    let input = input_by g.S.Source.tells text (g.S.Source.faults c.args.input.now) (g.S.Source.faults c.plays_on.new.input) in
    let output = output_by g.K.Sink.tells (g.K.Sink.written c.args.output.now) (g.K.Sink.written c.play_on_file.new.output) (g.K.Sink.faults c.args.output.now) (g.K.Sink.faults c.play_on_file.new.output) in
    all_asked c.args.options.now input output (g.L.Logs.logs c.args.logs.now) (g.L.Logs.logs c.play_on_file.new.logs) c.as_slice.result.now (g.F.Files.held c.args.files.now c.args.name.now) (g.F.Files.held c.play_on_file.new.files c.args.name.now)
    (λ heard. subst (Script text) (sym c.as_slice.ensures) (c.in-Ok.ensures.script heard)) (c.play_on_file.ensures.whole told is)
