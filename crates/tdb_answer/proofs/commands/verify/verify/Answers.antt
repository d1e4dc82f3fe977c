use Rattle.std.proofs.Common.{◌∷◌, ◌∙◌, ap, inl, inr, refl}
use Rattle.std.proofs.lemmas.Bool.{and_parts}
use Rattle.tdb_answer.specs.declared.commands.verify.Unverified.TheVariants.{Ends}
use Rattle.tdb_answer.proofs.Verifying.{told_leaves, ends_leaves, untold_leaves, ends_cause}
use Rattle.tdb_answer.proofs.commands.verify.verify.Goals as goal

-- all were told
pub returns-in-Ok-clause-cause : goal.returns-in-Ok-clause-cause
returns-in-Ok-clause-cause g c told = let all = c.in-Ok.ensures.told told in inl (all.text, all.tells)

pub returns-in-Ok-clause-left : goal.returns-in-Ok-clause-left
returns-in-Ok-clause-left g c told =
    told_leaves g.K.Sink.tells c.args.suffix.now (c.args.file.now ∷ c.args.more.now) (g.F.Files.held c.args.files.now) (g.F.Files.held c.verify_files.new.files) (g.K.Sink.written c.args.output.now) (g.K.Sink.written c.verify_files.new.output) (c.in-Ok.ensures.told told)

pub returns-in-Ok-clause-began : goal.returns-in-Ok-clause-began
returns-in-Ok-clause-began g c both =
    let parts = and_parts g.K.Sink.tells g.F.D.Disk.tells both in
    let all = c.in-Ok.ensures.told parts.1 in
    (all.text, inl all.tells, all.took parts.0)

-- it ended before
pub returns-in-Err-Ends-clause-cause : goal.returns-in-Err-Ends-clause-cause
returns-in-Err-Ends-clause-cause g c told =
    ends_cause g.K.Sink.tells c.args.suffix.now (c.args.file.now ∷ c.args.more.now) (g.F.Files.held c.args.files.now) (g.F.Files.held c.verify_files.new.files) (g.K.Sink.written c.args.output.now) (g.K.Sink.written c.verify_files.new.output)
    (g.F.Files.faults c.args.files.now) (g.F.Files.faults c.verify_files.new.files) c.in-Err-Ends.ending (λ is. c.in-Err-Ends.ensures.cause.failed (c.in-Err-Ends.field-0-is ∙ ap Ends is)) ((rw c.in-Err-Ends.field-0-is at c.in-Err-Ends.ensures.untold) told)

pub returns-in-Err-Ends-clause-left : goal.returns-in-Err-Ends-clause-left
returns-in-Err-Ends-clause-left g c told =
    ends_leaves g.K.Sink.tells c.args.suffix.now (c.args.file.now ∷ c.args.more.now) (g.F.Files.held c.args.files.now) (g.F.Files.held c.verify_files.new.files) (g.K.Sink.written c.args.output.now) (g.K.Sink.written c.verify_files.new.output)
    c.in-Err-Ends.ending (rw c.in-Err-Ends.field-0-is at c.in-Err-Ends.ensures.known) ((rw c.in-Err-Ends.field-0-is at c.in-Err-Ends.ensures.untold) told)

pub returns-in-Err-Ends-clause-began : goal.returns-in-Err-Ends-clause-began
returns-in-Err-Ends-clause-began g c both =
    let parts = and_parts g.K.Sink.tells g.F.D.Disk.tells both in
    let some = (rw c.in-Err-Ends.field-0-is at c.in-Err-Ends.ensures.untold) parts.1 in
    (some.0, some.1, some.3 parts.0)

-- its output failed
pub returns-in-Err-Unprinted-clause-cause : goal.returns-in-Err-Unprinted-clause-cause
returns-in-Err-Unprinted-clause-cause g c told = inr (inr (inl refl))

pub returns-in-Err-Unprinted-clause-left : goal.returns-in-Err-Unprinted-clause-left
returns-in-Err-Unprinted-clause-left g c told =
    untold_leaves g.K.Sink.tells c.args.suffix.now (c.args.file.now ∷ c.args.more.now) (g.F.Files.held c.args.files.now) (g.F.Files.held c.verify_files.new.files) (g.K.Sink.written c.args.output.now) (g.K.Sink.written c.verify_files.new.output)
    ((rw c.in-Err-Unprinted.field-0-is at c.in-Err-Unprinted.ensures.untold) told)

pub returns-in-Err-Unprinted-clause-began : goal.returns-in-Err-Unprinted-clause-began
returns-in-Err-Unprinted-clause-began g c both =
    let parts = and_parts g.K.Sink.tells g.F.D.Disk.tells both in
    let some = (rw c.in-Err-Unprinted.field-0-is at c.in-Err-Unprinted.ensures.untold) parts.1 in
    let part = some.3 parts.0 in
    (some.0, inr (inr (inl refl), some.1), part.0, part.1)

-- what logs heard of it
pub returns-in-Err-Ends-clause-heard : goal.returns-in-Err-Ends-clause-heard
returns-in-Err-Ends-clause-heard g c told = (rw c.in-Err-Ends.field-0-is at c.in-Err-Ends.ensures.heard) told

pub returns-in-Err-Unprinted-clause-heard : goal.returns-in-Err-Unprinted-clause-heard
returns-in-Err-Unprinted-clause-heard g c told = (rw c.in-Err-Unprinted.field-0-is at c.in-Err-Unprinted.ensures.heard) told
