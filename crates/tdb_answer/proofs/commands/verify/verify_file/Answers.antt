use Rattle.std.proofs.Common.{◌≡◌, Err, rules, sym, subst}
use Rattle.std.proofs.lemmas.Result.{on_ok_weaker, IfErr-weaker}
use Rattle.tdb_answer.specs.Commands.Verify.{at_names}
use Rattle.tdb_answer.proofs.Verifying.{count_told, count_untold, line_known, line_cause}
use Rattle.tdb_cmdline.specs.CopyNames.{copy_name}
use Rattle.tdb_answer.specs.Heard.{CountHeard, count_ending}
use Rattle.tdb_answer.proofs.Hearing.{count_heard}
use Rattle.tdb_answer.proofs.commands.verify.verify_file.Goals as goal

-- its keys weren't found
pub returns-in_err-keys-clause-untold : goal.returns-in_err-keys-clause-untold
returns-in_err-keys-clause-untold g c =
    let is : c.from_residual.result ≡ Err c.in_err-keys.field-0.0 = search rules in
    rw is c.in_err-keys.ensures.unfound

-- they were, and are told
pub returns-clause-told : goal.returns-clause-told
returns-clause-told g c = on_ok_weaker c.tell_count.result (λ took told.
    count_told g.K.Sink.tells c.args.suffix.now c.args.file.now (at_names c.args.suffix.now c.args.file.now (g.F.Files.held c.args.files.now)) (at_names c.args.suffix.now c.args.file.now (g.F.Files.held c.find_keys.new.files))
    (g.K.Sink.written c.args.output.now) (g.K.Sink.written c.find_keys.new.output) (g.K.Sink.written c.tell_count.new.output) c.in_ok-keys.keys (c.in_ok-keys.ensures.found told) took)
    c.tell_count.ensures.told

pub returns-clause-untold : goal.returns-clause-untold
returns-clause-untold g c = IfErr-weaker c.tell_count.result _ _ (λ u line told.
    count_untold g.K.Sink.tells c.args.suffix.now c.args.file.now (at_names c.args.suffix.now c.args.file.now (g.F.Files.held c.args.files.now)) (at_names c.args.suffix.now c.args.file.now (g.F.Files.held c.find_keys.new.files))
    (g.K.Sink.written c.args.output.now) (g.K.Sink.written c.find_keys.new.output) (g.K.Sink.written c.tell_count.new.output) c.in_ok-keys.keys (c.in_ok-keys.ensures.found told) u line)
    c.tell_count.ensures.untold

pub returns-clause-known : goal.returns-clause-known
returns-clause-known g c = IfErr-weaker c.tell_count.result _ _ line_known c.tell_count.ensures.known

pub returns-clause-cause : goal.returns-clause-cause
returns-clause-cause g c = line_cause (g.F.Files.faults c.args.files.now) (g.F.Files.faults c.find_keys.new.files) c.tell_count.result c.in_ok-keys.ensures.cause.done c.tell_count.ensures.known

-- what logs heard of it
pub returns-in_err-keys-clause-heard : goal.returns-in_err-keys-clause-heard
returns-in_err-keys-clause-heard g c told =
    let held = g.F.Files.held c.args.files.now in
    let file = c.args.file.now in
    let is : c.from_residual.result ≡ Err c.in_err-keys.field-0.0 = search rules in
    subst (λ r. CountHeard (held file) (held (copy_name c.args.suffix.now file)) (count_ending r) (g.L.Logs.logs c.args.logs.now) (g.L.Logs.logs c.find_keys.new.logs)) (sym is) (c.in_err-keys.ensures.heard told)

pub returns-clause-heard : goal.returns-clause-heard
returns-clause-heard g c told =
    let held = g.F.Files.held c.args.files.now in
    let file = c.args.file.now in
    count_heard (held file) (held (copy_name c.args.suffix.now file)) c.tell_count.result (g.L.Logs.logs c.args.logs.now) (g.L.Logs.logs c.find_keys.new.logs) c.tell_count.ensures.known (c.in_ok-keys.ensures.heard told)
