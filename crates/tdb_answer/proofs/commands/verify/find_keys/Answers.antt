use Rattle.std.proofs.Common.{◌≡◌, Err, rules, inl, inr, refl, sym, ◌∙◌, subst}
use Rattle.tdb_answer.specs.declared.commands.verify.Unverified.TheVariants.{Ends}
use Rattle.tdb_cmdline.specs.CopyNames.{copy_name, temporary_name}
use Rattle.tdb_answer.proofs.Verifying.{copy_apart, temporary_apart, not_copied, opened_found, not_opened, faulty, faulty_kept, restoring_untold, restored_found, not_restored}
use Rattle.tdb_answer.specs.declared.ending.Ending.TheVariants.{Replied}
use Rattle.tdb_answer.specs.declared.ending.Reply.TheVariants.{Copied, Verified}
use Rattle.tdb_answer.specs.Heard.{CopiedHeard, CountHeard, count_ending}
use Rattle.tdb_answer.proofs.Hearing.{copied_as, opened_as, line_heard}
use Rattle.tdb_answer.proofs.commands.verify.find_keys.Goals as goal
use Rattle.tdb_answer.proofs.commands.verify.find_keys.Goals.{After-count_keys}

-- nothing changed at the other names as the file was opened
copy_same : (g : _) (c : After-count_keys g) → g.F.Files.held c.count_keys.new.files (copy_name c.args.suffix.now c.args.file.now) ≡ g.F.Files.held c.args.files.now (copy_name c.args.suffix.now c.args.file.now)
copy_same g c = c.count_keys.ensures.others (copy_name c.args.suffix.now c.args.file.now) (copy_apart c.args.suffix.now c.args.file.now c.requires.some)

temporary_same : (g : _) (c : After-count_keys g) → g.F.Files.held c.count_keys.new.files (temporary_name c.args.file.now) ≡ g.F.Files.held c.args.files.now (temporary_name c.args.file.now)
temporary_same g c = c.count_keys.ensures.others (temporary_name c.args.file.now) (temporary_apart c.args.file.now)

-- it was opened
pub returns-in-Ok-clause-found : goal.returns-in-Ok-clause-found
returns-in-Ok-clause-found g c told =
    let a = (goal.at.returns-in-Ok-clause-found g c).After-count_keys in
    opened_found g.K.Sink.tells c.args.suffix.now c.args.file.now (g.F.Files.held c.args.files.now) (g.F.Files.held c.count_keys.new.files) (copy_same g a) (temporary_same g a)
    c.in-Ok.keys (g.K.Sink.written c.args.output.now) (c.in-Ok.ensures.counted told)

-- it wasn't, and isn't to be restored
pub returns-then-not-tells_fault-clause-unfound : goal.returns-then-not-tells_fault-clause-unfound
returns-then-not-tells_fault-clause-unfound g c told =
    let a = (goal.at.returns-then-not-tells_fault-clause-unfound g c).After-count_keys in
    not_opened g.K.Sink.tells c.args.suffix.now c.args.file.now (g.F.Files.held c.args.files.now) (g.F.Files.held c.count_keys.new.files) (copy_same g a) (temporary_same g a)
    c.in-Err.ending (g.K.Sink.written c.args.output.now) (c.in-Err.ensures.unopened told) (sym c.tells_fault.ensures ∙ c.if-not-tells_fault.true)

-- that it is restored wasn't told
pub returns-in_err-tell_restoring-clause-unfound : goal.returns-in_err-tell_restoring-clause-unfound
returns-in_err-tell_restoring-clause-unfound g c =
    let a = (goal.at.returns-in_err-tell_restoring-clause-unfound g c).After-count_keys in
    let old = g.F.Files.held c.args.files.now in
    let mid = g.F.Files.held c.count_keys.new.files in
    let file = c.args.file.now in
    let tells = sym c.tells_fault.ensures ∙ c.if-not-tells_fault.false in
    let is : c.from_residual.result ≡ Err c.in_err-tell_restoring.field-0.0 = search rules in
    rw is (λ told.
    restoring_untold g.K.Sink.tells c.args.suffix.now file old mid (copy_same g a) (temporary_same g a)
    (faulty file (old file) (mid file) c.in-Err.ending (c.in-Err.ensures.unopened told) tells) (faulty_kept file (old file) (mid file) c.in-Err.ending (c.in-Err.ensures.unopened told) tells)
    (g.K.Sink.written c.args.output.now) (g.K.Sink.written c.tell_restoring.new.output) c.in_err-tell_restoring.field-0.0 c.in_err-tell_restoring.ensures.untold)

-- it wasn't restored
pub returns-in_err-keys-clause-unfound : goal.returns-in_err-keys-clause-unfound
returns-in_err-keys-clause-unfound g c =
    let a = (goal.at.returns-in_err-keys-clause-unfound g c).After-count_keys in
    let old = g.F.Files.held c.args.files.now in
    let mid = g.F.Files.held c.count_keys.new.files in
    let file = c.args.file.now in
    let e = c.in_err-keys.field-0.0 in
    let tells = sym c.tells_fault.ensures ∙ c.if-not-tells_fault.false in
    let is : c.from_residual-in_err-keys.result ≡ Err (Ends e) = search rules in
    rw is (λ told.
    not_restored g.K.Sink.tells c.args.suffix.now file old mid (copy_same g a) (temporary_same g a)
    (faulty file (old file) (mid file) c.in-Err.ending (c.in-Err.ensures.unopened told) tells) (faulty_kept file (old file) (mid file) c.in-Err.ending (c.in-Err.ensures.unopened told) tells)
    (g.K.Sink.written c.args.output.now) (g.K.Sink.written c.tell_restoring.new.output) c.in_ok-tell_restoring.ensures.told (g.F.Files.held c.restore_file.new.files) (g.F.Files.faults c.count_keys.new.files) (g.F.Files.faults c.restore_file.new.files)
    e (not_copied e c.in_err-keys.ensures.known) (c.in_err-keys.ensures.done told))

-- it was
pub returns-clause-found : goal.returns-clause-found
returns-clause-found g c told =
    let a = (goal.at.returns-clause-found g c).After-count_keys in
    let old = g.F.Files.held c.args.files.now in
    let mid = g.F.Files.held c.count_keys.new.files in
    let file = c.args.file.now in
    let tells = sym c.tells_fault.ensures ∙ c.if-not-tells_fault.false in
    restored_found g.K.Sink.tells c.args.suffix.now file old mid (copy_same g a) (temporary_same g a)
    (faulty file (old file) (mid file) c.in-Err.ending (c.in-Err.ensures.unopened told) tells) (faulty_kept file (old file) (mid file) c.in-Err.ending (c.in-Err.ensures.unopened told) tells)
    (g.K.Sink.written c.args.output.now) (g.K.Sink.written c.tell_restoring.new.output) c.in_ok-tell_restoring.ensures.told (g.F.Files.held c.restore_file.new.files) (g.F.Files.faults c.count_keys.new.files) (g.F.Files.faults c.restore_file.new.files)
    c.in_ok-keys.keys (c.in_ok-keys.ensures.done told) (c.in_ok-keys.ensures.keys told)

-- what logs heard of it
pub returns-in-Ok-clause-heard : goal.returns-in-Ok-clause-heard
returns-in-Ok-clause-heard g c told =
    inl (opened_as (g.F.Files.held c.args.files.now c.args.file.now) Copied (Replied Verified) (g.L.Logs.logs c.args.logs.now) (g.L.Logs.logs c.count_keys.new.logs) (λ is. cc) (c.in-Ok.ensures.heard told))

pub returns-then-not-tells_fault-clause-heard : goal.returns-then-not-tells_fault-clause-heard
returns-then-not-tells_fault-clause-heard g c told = inl (c.in-Err.ensures.heard told)

pub returns-in_err-tell_restoring-clause-heard : goal.returns-in_err-tell_restoring-clause-heard
returns-in_err-tell_restoring-clause-heard g c told =
    let held = g.F.Files.held c.args.files.now in
    let file = c.args.file.now in
    let logs = g.L.Logs.logs c.args.logs.now in
    let later = g.L.Logs.logs c.count_keys.new.logs in
    let u = c.in_err-tell_restoring.field-0.0 in
    let is : c.from_residual.result ≡ Err u = search rules in
    subst (λ r. CountHeard (held file) (held (copy_name c.args.suffix.now file)) (count_ending r) logs later) (sym is)
    (line_heard (held file) (held (copy_name c.args.suffix.now file)) c.in-Err.ending u logs later (sym c.tells_fault.ensures ∙ c.if-not-tells_fault.false) (c.in-Err.ensures.heard told) c.in_err-tell_restoring.ensures.known)

pub returns-in_err-keys-clause-heard : goal.returns-in_err-keys-clause-heard
returns-in_err-keys-clause-heard g c told =
    let a = (goal.at.returns-in_err-keys-clause-heard g c).After-count_keys in
    let held = g.F.Files.held c.args.files.now in
    let file = c.args.file.now in
    let logs = g.L.Logs.logs c.args.logs.now in
    let between = g.L.Logs.logs c.count_keys.new.logs in
    let later = g.L.Logs.logs c.restore_file.new.logs in
    let e = c.in_err-keys.field-0.0 in
    let is : c.from_residual-in_err-keys.result ≡ Err (Ends e) = search rules in
    subst (λ r. CountHeard (held file) (held (copy_name c.args.suffix.now file)) (count_ending r) logs later) (sym is)
    (inr (c.in-Err.ending, between, sym c.tells_fault.ensures ∙ c.if-not-tells_fault.false, c.in-Err.ensures.heard told, subst (λ o. CopiedHeard o e between later) (copy_same g a) (c.in_err-keys.ensures.heard told)))

pub returns-clause-heard : goal.returns-clause-heard
returns-clause-heard g c told =
    let a = (goal.at.returns-clause-heard g c).After-count_keys in
    let held = g.F.Files.held c.args.files.now in
    let file = c.args.file.now in
    let between = g.L.Logs.logs c.count_keys.new.logs in
    let later = g.L.Logs.logs c.restore_file.new.logs in
    inr (
      c.in-Err.ending,
      between,
      sym c.tells_fault.ensures ∙ c.if-not-tells_fault.false,
      c.in-Err.ensures.heard told,
      copied_as (held (copy_name c.args.suffix.now file)) (Replied Verified) between later (inl refl) (subst (λ o. CopiedHeard o (Replied Copied) between later) (copy_same g a) (c.in_ok-keys.ensures.heard told)),
    )
