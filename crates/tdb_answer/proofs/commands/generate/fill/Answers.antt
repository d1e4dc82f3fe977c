use Rattle.std.proofs.Common.{◌≡◌, true, List, ℕ, Result, Ok, Err, ap, refl, subst, arith}
use Rattle.tdb_disk.specs.Count.{HasCauseOf}
use Rattle.tdb_disk.specs.History.{seen}
use Rattle.tdb_words.specs.declared.word.Order.TheVariants.{Little}
use Rattle.tdb_words.specs.declared.hash.HashKind.TheVariants.{Old}
use Rattle.tdb_space.specs.Form.{Form, form_in}
use Rattle.tdb_commands.specs.declared.options.Options.{Options}
use Rattle.tdb_gen.specs.Generated.{GeneratedOver}
use Rattle.tdb_gen.specs.declared.fault.GenFault.{GenFault}
use Rattle.tdb_gen.specs.declared.fault.GenFault.TheVariants.{Io}
use Rattle.tdb_gen.specs.declared.summary.Summary.{Summary}
use Rattle.tdb_cmdline.specs.declared.limits.TheConstants.{DEFAULT_SIZE}
use Rattle.tdb_open.specs.Creating.{IsNewFile}
use Rattle.tdb_answer.specs.Commands.Generate.{gen_options, new_file}
use Rattle.tdb_answer.specs.Commands.Restore.{new_form}
use Rattle.tdb_answer.proofs.Generating.{done_finished, filled_broken, not_made}
use Rattle.tdb_answer.proofs.commands.generate.fill.Goals as goal
use Rattle.tdb_answer.proofs.commands.generate.fill.Goals.{After-generate-disk}

-- a new file is so short that it is always made, unless a call failed
pub returns-in-Err-clause-cause : goal.returns-in-Err-clause-cause
returns-in-Err-clause-cause g c told =
    let N = c.in-Err.ensures.refused in
    let device = not_made g.D.Disk _ _ _ _ _ (omega arith) N in
    record { never_falls = N.cause.never_falls; failed = λ is. N.cause.failed device; refused = λ other. absurd (other refl); done = tt }

-- what was done on it
done : (g : _) (c : After-generate-disk g) → g.D.Disk.tells ≡ true
    → GeneratedOver new_form gen_options new_file c.args.commands c.args.seed (seen (g.D.Disk.history c.generate-disk.result.0)) (g.L.Logs.logs c.args.logs.now) (g.L.Logs.logs c.generate-disk.new.logs) c.generate-disk.result.1
done g c told =
    let M = c.in-Ok.ensures.made in
    subst (λ (q : Form × (Options × List ℕ)). GeneratedOver q.0 q.1.0 q.1.1 c.args.commands c.args.seed (seen (g.D.Disk.history c.generate-disk.result.0)) (g.L.Logs.logs c.args.logs.now) (g.L.Logs.logs c.generate-disk.new.logs) c.generate-disk.result.1)
    (λ j. (ap form_in M.header j, (M.begun.options j, (M.made told).file.bytes j))) (c.generate-disk.ensures.generated told)

ended : (g : _) (c : After-generate-disk g) → (answer : Result Summary GenFault) → c.generate-disk.result.1 ≡ answer → g.D.Disk.tells ≡ true
    → GeneratedOver new_form gen_options new_file c.args.commands c.args.seed (seen (g.D.Disk.history c.generate-disk.result.0)) (g.L.Logs.logs c.args.logs.now) (g.L.Logs.logs c.generate-disk.new.logs) answer
ended g c answer is told =
    subst (GeneratedOver new_form gen_options new_file c.args.commands c.args.seed (seen (g.D.Disk.history c.generate-disk.result.0)) (g.L.Logs.logs c.args.logs.now) (g.L.Logs.logs c.generate-disk.new.logs)) is (done g c told)

-- not all commands were done on it
pub returns-in-Err-made-clause-generated : goal.returns-in-Err-made-clause-generated
returns-in-Err-made-clause-generated g c told =
    filled_broken c.args.commands c.args.seed _ _ c.in-Err-made.fault (g.D.Disk.history c.generate-disk.result.0) (ended g ((goal.at.returns-in-Err-made-clause-generated g c).After-generate-disk) (Err c.in-Err-made.fault) c.in-Err-made.is told)

-- they all were, and then the file was synced and its text made, or not
pub returns-in-Ok-made-clause-generated : goal.returns-in-Ok-made-clause-generated
returns-in-Ok-made-clause-generated g c told =
    let a = (goal.at.returns-in-Ok-made-clause-generated g c).After-generate-disk in
    let file = (c.in-Ok.ensures.made.made told).file in
    done_finished c.args.commands c.args.seed _ _ c.in-Ok-made.summary (g.D.Disk.history c.generate-disk.result.0) (g.D.Disk.history c.finish-text.new.disk) c.finish-text.result
    c.finish-text.ensures.text (c.finish-text.ensures.done told) c.finish-text.ensures.fault (subst (IsNewFile DEFAULT_SIZE Little Old) file.bytes file) (ended g a (Ok c.in-Ok-made.summary) c.in-Ok-made.is told)

-- how often the disk had failed then
pub returns-in-Err-made-clause-cause : goal.returns-in-Err-made-clause-cause
returns-in-Err-made-clause-cause g c told =
    subst (λ k. HasCauseOf {V = List ℕ} Io k (g.D.Disk.faults c.generate-disk.result.0) (Err c.in-Err-made.fault)) c.in-Ok.ensures.made.faults
    (let C = subst (HasCauseOf Io c.in-Ok.world.faults (g.D.Disk.faults c.generate-disk.result.0)) c.in-Err-made.is (c.generate-disk.ensures.cause told) in
    record { never_falls = C.never_falls; failed = C.failed; refused = C.refused; done = tt })
