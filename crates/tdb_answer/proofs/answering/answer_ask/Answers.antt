use Rattle.std.proofs.Common.{◌≡◌, ◌∷◌, ℕ, List, Ok, string_bytes, refl, sym, ◌∙◌, ap, subst, inl, inr}
use Rattle.std.specs.Prelude.{IsTrue, OnErr}
use Rattle.std.proofs.lemmas.Bool.{and_parts}
use Rattle.tdb_disk.specs.Count.{Rose}
use Rattle.tdb_commands.specs.declared.options.Options.{Options}
use Rattle.tdb_answer.specs.Commands.Create.{CreateCause, CreateLeaves}
use Rattle.tdb_answer.specs.Ending.{MadeSo}
use Rattle.tdb_answer.specs.Input.{input_by}
use Rattle.tdb_answer.specs.Reads.{AskCause, AskEnds, GenCause}
use Rattle.tdb_answer.specs.Left.{TaskLeaves, SameElse}
use Rattle.tdb_cmdline.specs.CopyNames.{temporary_name}
use Rattle.tdb_answer.specs.Commands.Backup.{BackupCause}
use Rattle.tdb_answer.specs.Commands.Repack.{RepackLeaves}
use Rattle.tdb_answer.specs.Commands.Restore.{RestoreHeard}
use Rattle.tdb_answer.specs.Commands.Convert.{ConvertLeaves, converted_line}
use Rattle.tdb_answer.specs.Commands.Mend.{MendLeaves, MendText, StaysSynced}
use Rattle.tdb_answer.specs.Commands.Merge.{MergeLeaves}
use Rattle.tdb_answer.specs.Commands.Moving.{MoveLeaves}
use Rattle.tdb_cmdline.specs.declared.ask.Task.{Task}
use Rattle.tdb_cmdline.specs.declared.ask.Task.TheVariants.{Turns, Verify, Convert, Mend}
use Rattle.tdb_answer.specs.Commands.Generate.{GenHeard}
use Rattle.tdb_answer.specs.Commands.Verify.{VerifyText, VerifyCause}
use Rattle.tdb_answer.specs.Looks.{ending_of, Began, StandsBefore}
use Rattle.tdb_answer.specs.Printed.{TaskText, task_tells}
use Rattle.tdb_answer.specs.Heard.{TaskHeard, VerifyHeard, ConvertHeard, MergeHeard, MoveHeard}
use Rattle.tdb_answer.specs.Stops.{SaysAllLines, StopsScripted}
use Rattle.tdb_answer.proofs.Looking.{began_as}
use Rattle.tdb_answer.proofs.Acting.{made_cause, made_left, backup_ends, verify_ends, gen_ends}
use Rattle.tdb_answer.proofs.Unlogged.{made_unlogged}
use Rattle.tdb_answer.proofs.Repacking.{repack_ends}
use Rattle.tdb_answer.proofs.Converting.{convert_ends}
use Rattle.tdb_answer.proofs.Mending.{mend_ends}
use Rattle.tdb_answer.proofs.Merging.{merge_ends}
use Rattle.tdb_answer.proofs.Moving.{move_ends}
use Rattle.tdb_disk.specs.declared.files.Take.TheVariants.{Existing, New}
use Rattle.tdb_answer.specs.Takes.{MayTakeEach, copies_take, verified_take}
use Rattle.tdb_answer.proofs.Taking.{named}
use Rattle.tdb_answer.proofs.answering.answer_ask.Goals as goal

-- why a file was made, or wasn't
pub returns-in-Create-clause-cause : goal.returns-in-Create-clause-cause
returns-in-Create-clause-cause g c told =
    let held = g.F.Files.held c.args.files.now in
    let before = g.F.Files.faults c.args.files.now in
    let now = g.F.Files.faults c.create_file-creation.new.files in
    let name = string_bytes c.args.ask.now.file in
    let creation = c.create_file-creation.result in
    subst (λ task. AskEnds (input_by g.S.Source.tells (g.S.Source.left c.args.input.now) (g.S.Source.faults c.args.input.now) (g.S.Source.faults c.args.input.now)) task name held before now c.made.result) (sym c.in-Create.is)
    (inl (inl (made_cause c.in-Create.file name (held name) before now creation c.made.result
    (subst (λ n. CreateCause c.in-Create.file (held n) before now creation) c.as_str-name.ensures.value (c.create_file-creation.ensures.cause told))
    (subst (λ n. MadeSo n creation c.made.result) c.as_str-name.ensures.value c.made.ensures))))

-- and what is left at its name
pub returns-in-Create-clause-left : goal.returns-in-Create-clause-left
returns-in-Create-clause-left g c told =
    let held = g.F.Files.held c.args.files.now in
    let given = g.F.Files.held c.create_file-creation.new.files in
    let name = string_bytes c.args.ask.now.file in
    let file = c.in-Create.file in
    let before = g.F.Files.faults c.args.files.now in
    let now = g.F.Files.faults c.create_file-creation.new.files in
    let creation = c.create_file-creation.result in
    subst (λ task. TaskLeaves (input_by g.S.Source.tells (g.S.Source.left c.args.input.now) (g.S.Source.faults c.args.input.now) (g.S.Source.faults c.args.input.now)) task name held c.made.result given) (sym c.in-Create.is)
    (made_left file name (held name) before now (given name) creation c.made.result
    (subst (λ n. CreateCause file (held n) before now creation) c.as_str-name.ensures.value (c.create_file-creation.ensures.cause told))
    (subst (λ n. CreateLeaves file.form (held n) creation (given n)) c.as_str-name.ensures.value (c.create_file-creation.ensures.left told))
    (subst (λ n. MadeSo n creation c.made.result) c.as_str-name.ensures.value c.made.ensures))

-- why a file was restored, or wasn't
pub returns-in-Restore-clause-cause : goal.returns-in-Restore-clause-cause
returns-in-Restore-clause-cause g c told =
    let held = g.F.Files.held c.args.files.now in
    let input = input_by g.S.Source.tells (g.S.Source.left c.args.input.now) (g.S.Source.faults c.args.input.now) (g.S.Source.faults c.restore_file.new.input) in
    let is = sym c.in-Restore.is in
    inl (subst (λ (q : Task × List ℕ). AskCause input q.0 q.1 (held q.1) (g.F.Files.faults c.args.files.now) (g.F.Files.faults c.restore_file.new.files) c.restore_file.result) (λ j. (is j, c.as_str-name.ensures.value j)) (c.restore_file.ensures.cause told))

-- why files were backed up, or weren't
pub returns-in-Backup-clause-cause : goal.returns-in-Backup-clause-cause
returns-in-Backup-clause-cause g c told =
    let held = g.F.Files.held c.args.files.now in
    let before = g.F.Files.faults c.args.files.now in
    let now = g.F.Files.faults c.back_up.new.files in
    let e = c.back_up.result in
    backup_ends (input_by g.S.Source.tells (g.S.Source.left c.args.input.now) (g.S.Source.faults c.args.input.now) (g.S.Source.faults c.args.input.now)) c.args.ask.now.task c.in-Backup.more c.in-Backup.suffix (string_bytes c.args.ask.now.file) held before now e c.in-Backup.is
    (subst (λ (q : List ℕ × List (List ℕ)). BackupCause (q.0 ∷ q.1) held before now e) (λ j. (c.as_str-name.ensures.value j, c.as_slice.ensures j)) (c.back_up.ensures.done told).cause)

-- why files were verified, or weren't
pub returns-in-Verify-clause-cause : goal.returns-in-Verify-clause-cause
returns-in-Verify-clause-cause g c told =
    let held = g.F.Files.held c.args.files.now in
    let before = g.F.Files.faults c.args.files.now in
    let now = g.F.Files.faults c.verify.new.files in
    let e = ending_of c.verify.result in
    verify_ends (input_by g.S.Source.tells (g.S.Source.left c.args.input.now) (g.S.Source.faults c.args.input.now) (g.S.Source.faults c.args.input.now)) c.args.ask.now.task c.in-Verify.more c.in-Verify.suffix (string_bytes c.args.ask.now.file) held before now e c.in-Verify.is
    (subst (λ (q : List ℕ × (List ℕ × List (List ℕ))). VerifyCause q.0 (q.1.0 ∷ q.1.1) held before now e) (λ j. (c.as_str-in-Verify.ensures j, (c.as_str-name.ensures.value j, c.as_slice-in-Verify.ensures j))) (c.verify.ensures.cause told))

-- and what was printed of them
pub returns-in-Verify-clause-began : goal.returns-in-Verify-clause-began
returns-in-Verify-clause-began g c =
    let held = g.F.Files.held c.args.files.now in
    let before = g.K.Sink.written c.args.output.now in
    let now = g.K.Sink.written c.verify.new.output in
    let r = c.verify.result in
    let name = string_bytes c.args.ask.now.file in
    subst (λ t. IsTrue (task_tells t g.F.D.Disk.tells g.K.Sink.tells) → Began (TaskText t name held) before now r) (sym c.in-Verify.is)
    (λ told. began_as (VerifyText c.as_str-in-Verify.result.now (c.as_str-name.result.now ∷ c.as_slice-in-Verify.result.now) held) (TaskText (Verify c.in-Verify.more c.in-Verify.suffix) name held) before now r
    (λ e text is. subst (λ (q : List ℕ × (List ℕ × List (List ℕ))). VerifyText q.0 (q.1.0 ∷ q.1.1) held e text) (λ j. (c.as_str-in-Verify.ensures j, (c.as_str-name.ensures.value j, c.as_slice-in-Verify.ensures j))) is)
    (c.verify.ensures.began told))

-- why a file was written anew, or wasn't
pub returns-in-Repack-clause-cause : goal.returns-in-Repack-clause-cause
returns-in-Repack-clause-cause g c told =
    let held = g.F.Files.held c.args.files.now in
    let given = g.F.Files.held c.repack.new.files in
    let name = string_bytes c.args.ask.now.file in
    let limit = c.in-Repack.limit in
    let e = c.repack.result in
    repack_ends (input_by g.S.Source.tells (g.S.Source.left c.args.input.now) (g.S.Source.faults c.args.input.now) (g.S.Source.faults c.args.input.now)) c.args.ask.now.task limit name held
    (g.F.Files.faults c.args.files.now) (g.F.Files.faults c.repack.new.files) c.in-Repack.is e (given name) (held (temporary_name name)) (given (temporary_name name))
    (subst (λ n. RepackLeaves limit n held e given) c.as_str-name.ensures.value (c.repack.ensures.left told)) c.repack.ensures.counted

-- and what is left at its names
pub returns-in-Repack-clause-left : goal.returns-in-Repack-clause-left
returns-in-Repack-clause-left g c told =
    let held = g.F.Files.held c.args.files.now in
    let given = g.F.Files.held c.repack.new.files in
    let name = string_bytes c.args.ask.now.file in
    let limit = c.in-Repack.limit in
    let e = c.repack.result in
    subst (λ task. TaskLeaves (input_by g.S.Source.tells (g.S.Source.left c.args.input.now) (g.S.Source.faults c.args.input.now) (g.S.Source.faults c.args.input.now)) task name held e given) (sym c.in-Repack.is)
    (subst (λ n. RepackLeaves limit n held e given) c.as_str-name.ensures.value (c.repack.ensures.left told))

-- nothing changed at other names
pub returns-in-Repack-clause-others : goal.returns-in-Repack-clause-others
returns-in-Repack-clause-others g c =
    let held = g.F.Files.held c.args.files.now in
    let given = g.F.Files.held c.repack.new.files in
    subst (λ task. SameElse task (string_bytes c.args.ask.now.file) held given) (sym c.in-Repack.is)
    (λ other apart. c.repack.ensures.others other (λ is. apart (inl (is ∙ c.as_str-name.ensures.value))) (λ is. apart (inr (is ∙ ap temporary_name c.as_str-name.ensures.value))))

-- another file has another name
pub convert-requires-clause-differ : goal.convert-requires-clause-differ
convert-requires-clause-differ g c is =
    let fits = rw c.in-Convert.is at c.requires.fits in
    fits.0 (sym c.as_str-in-Convert.ensures ∙ is ∙ c.as_str-name.ensures.value)

-- why another file was made of the pairs of one, or wasn't
pub returns-in-Convert-clause-cause : goal.returns-in-Convert-clause-cause
returns-in-Convert-clause-cause g c told =
    let held = g.F.Files.held c.args.files.now in
    let given = g.F.Files.held c.convert.new.files in
    let e = ending_of c.convert.result in
    convert_ends (input_by g.S.Source.tells (g.S.Source.left c.args.input.now) (g.S.Source.faults c.args.input.now) (g.S.Source.faults c.args.input.now)) c.args.ask.now.task c.in-Convert.made c.in-Convert.prefix c.in-Convert.new (string_bytes c.args.ask.now.file) held
    (g.F.Files.faults c.args.files.now) (g.F.Files.faults c.convert.new.files) c.in-Convert.is e (given c.in-Convert.new)
    (subst (λ (q : List ℕ × (List ℕ × List ℕ)). ConvertLeaves c.in-Convert.made q.1.1 q.0 q.1.0 (held q.0) (held q.1.0) e (given q.1.0)) (λ j. (c.as_str-name.ensures.value j, (c.as_str-in-Convert.ensures j, c.as_slice-in-Convert.ensures j))) (c.convert.ensures.left told))
    c.convert.ensures.counted

-- and what is left at the names of both
pub returns-in-Convert-clause-left : goal.returns-in-Convert-clause-left
returns-in-Convert-clause-left g c told =
    let held = g.F.Files.held c.args.files.now in
    let given = g.F.Files.held c.convert.new.files in
    let e = ending_of c.convert.result in
    subst (λ task. TaskLeaves (input_by g.S.Source.tells (g.S.Source.left c.args.input.now) (g.S.Source.faults c.args.input.now) (g.S.Source.faults c.args.input.now)) task (string_bytes c.args.ask.now.file) held e given) (sym c.in-Convert.is) (
      subst (λ n. given n ≡ held n) c.as_str-name.ensures.value (c.convert.ensures.kept told),
      subst (λ (q : List ℕ × (List ℕ × List ℕ)). ConvertLeaves c.in-Convert.made q.1.1 q.0 q.1.0 (held q.0) (held q.1.0) e (given q.1.0)) (λ j. (c.as_str-name.ensures.value j, (c.as_str-in-Convert.ensures j, c.as_slice-in-Convert.ensures j))) (c.convert.ensures.left told),
    )

pub returns-in-Convert-clause-others : goal.returns-in-Convert-clause-others
returns-in-Convert-clause-others g c =
    let held = g.F.Files.held c.args.files.now in
    let given = g.F.Files.held c.convert.new.files in
    subst (λ task. SameElse task (string_bytes c.args.ask.now.file) held given) (sym c.in-Convert.is)
    (λ other apart. c.convert.ensures.others other (λ is. apart (inl (is ∙ c.as_str-name.ensures.value))) (λ is. apart (inr (is ∙ c.as_str-in-Convert.ensures))))

-- and what was printed of it
pub returns-in-Convert-clause-began : goal.returns-in-Convert-clause-began
returns-in-Convert-clause-began g c =
    let held = g.F.Files.held c.args.files.now in
    let before = g.K.Sink.written c.args.output.now in
    let now = g.K.Sink.written c.convert.new.output in
    let r = c.convert.result in
    let name = string_bytes c.args.ask.now.file in
    subst (λ t. IsTrue (task_tells t g.F.D.Disk.tells g.K.Sink.tells) → Began (TaskText t name held) before now r) (sym c.in-Convert.is)
    (λ told. began_as (StandsBefore converted_line) (TaskText (Convert c.in-Convert.new c.in-Convert.made c.in-Convert.prefix) name held) before now r (λ e text is. is) (c.convert.ensures.began told))

-- and so has the new file of what can be read of one
pub mend-requires-clause-differ : goal.mend-requires-clause-differ
mend-requires-clause-differ g c is =
    let fits = rw c.in-Mend.is at c.requires.fits in
    fits (sym c.as_str-in-Mend.ensures ∙ is ∙ c.as_str-name.ensures.value)

-- why it was made, or wasn't
pub returns-in-Mend-clause-cause : goal.returns-in-Mend-clause-cause
returns-in-Mend-clause-cause g c told =
    let held = g.F.Files.held c.args.files.now in
    let given = g.F.Files.held c.mend.new.files in
    let e = ending_of c.mend.result in
    mend_ends (input_by g.S.Source.tells (g.S.Source.left c.args.input.now) (g.S.Source.faults c.args.input.now) (g.S.Source.faults c.args.input.now)) c.args.ask.now.task c.in-Mend.new (string_bytes c.args.ask.now.file) held
    (g.F.Files.faults c.args.files.now) (g.F.Files.faults c.mend.new.files) c.in-Mend.is e (given c.in-Mend.new)
    (subst (λ (q : List ℕ × List ℕ). MendLeaves q.0 q.1 (held q.0) (held q.1) e (given q.1)) (λ j. (c.as_str-name.ensures.value j, c.as_str-in-Mend.ensures j)) (c.mend.ensures.left told))
    c.mend.ensures.counted

-- and what is left at the names of both
pub returns-in-Mend-clause-left : goal.returns-in-Mend-clause-left
returns-in-Mend-clause-left g c told =
    let held = g.F.Files.held c.args.files.now in
    let given = g.F.Files.held c.mend.new.files in
    let e = ending_of c.mend.result in
    subst (λ task. TaskLeaves (input_by g.S.Source.tells (g.S.Source.left c.args.input.now) (g.S.Source.faults c.args.input.now) (g.S.Source.faults c.args.input.now)) task (string_bytes c.args.ask.now.file) held e given) (sym c.in-Mend.is) (
      subst (λ n. StaysSynced (held n) (given n)) c.as_str-name.ensures.value (c.mend.ensures.kept told),
      subst (λ (q : List ℕ × List ℕ). MendLeaves q.0 q.1 (held q.0) (held q.1) e (given q.1)) (λ j. (c.as_str-name.ensures.value j, c.as_str-in-Mend.ensures j)) (c.mend.ensures.left told),
    )

pub returns-in-Mend-clause-others : goal.returns-in-Mend-clause-others
returns-in-Mend-clause-others g c =
    let held = g.F.Files.held c.args.files.now in
    let given = g.F.Files.held c.mend.new.files in
    subst (λ task. SameElse task (string_bytes c.args.ask.now.file) held given) (sym c.in-Mend.is)
    (λ other apart. c.mend.ensures.others other (λ is. apart (inl (is ∙ c.as_str-name.ensures.value))) (λ is. apart (inr (is ∙ c.as_str-in-Mend.ensures))))

-- and what was printed of it
pub returns-in-Mend-clause-began : goal.returns-in-Mend-clause-began
returns-in-Mend-clause-began g c =
    let held = g.F.Files.held c.args.files.now in
    let before = g.K.Sink.written c.args.output.now in
    let now = g.K.Sink.written c.mend.new.output in
    let r = c.mend.result in
    let name = string_bytes c.args.ask.now.file in
    subst (λ t. IsTrue (task_tells t g.F.D.Disk.tells g.K.Sink.tells) → Began (TaskText t name held) before now r) (sym c.in-Mend.is)
    (λ both.
    (let parts = and_parts g.K.Sink.tells g.F.D.Disk.tells both in
    began_as (MendText (held c.as_str-name.result.now)) (TaskText (Mend c.in-Mend.new) name held) before now r
    (λ e text is. subst (λ n. MendText (held n) e text) c.as_str-name.ensures.value is)
    (c.mend.ensures.began parts.1 parts.0)))

-- the other file has another name
pub merge_file-requires-clause-differ : goal.merge_file-requires-clause-differ
merge_file-requires-clause-differ g c is =
    let fits = rw c.in-Merge.is at c.requires.fits in
    fits.0 (sym c.as_str-in-Merge.ensures ∙ is ∙ c.as_str-name.ensures.value)

-- why the pairs of a file were stored into another one, or weren't
pub returns-in-Merge-clause-cause : goal.returns-in-Merge-clause-cause
returns-in-Merge-clause-cause g c told =
    let held = g.F.Files.held c.args.files.now in
    let given = g.F.Files.held c.merge_file.new.files in
    let e = c.merge_file.result in
    merge_ends (input_by g.S.Source.tells (g.S.Source.left c.args.input.now) (g.S.Source.faults c.args.input.now) (g.S.Source.faults c.args.input.now)) c.args.ask.now.task c.in-Merge.into c.in-Merge.prefix (string_bytes c.args.ask.now.file) c.in-Merge.limit held
    (g.F.Files.faults c.args.files.now) (g.F.Files.faults c.merge_file.new.files) c.in-Merge.is g.F.D.Disk.tells e (given c.in-Merge.into) told
    (subst (λ (q : List ℕ × (List ℕ × List ℕ)). MergeLeaves c.in-Merge.limit q.1.1 q.0 q.1.0 (held q.0) (held q.1.0) e (given q.1.0)) (λ j. (c.as_str-name.ensures.value j, (c.as_str-in-Merge.ensures j, c.as_slice-in-Merge.ensures j))) (c.merge_file.ensures.left told))
    c.merge_file.ensures.counted

-- and what is left at the names of both
pub returns-in-Merge-clause-left : goal.returns-in-Merge-clause-left
returns-in-Merge-clause-left g c told =
    let held = g.F.Files.held c.args.files.now in
    let given = g.F.Files.held c.merge_file.new.files in
    let e = c.merge_file.result in
    subst (λ task. TaskLeaves (input_by g.S.Source.tells (g.S.Source.left c.args.input.now) (g.S.Source.faults c.args.input.now) (g.S.Source.faults c.args.input.now)) task (string_bytes c.args.ask.now.file) held e given) (sym c.in-Merge.is) (
      subst (λ n. given n ≡ held n) c.as_str-name.ensures.value (c.merge_file.ensures.kept told),
      subst (λ (q : List ℕ × (List ℕ × List ℕ)). MergeLeaves c.in-Merge.limit q.1.1 q.0 q.1.0 (held q.0) (held q.1.0) e (given q.1.0)) (λ j. (c.as_str-name.ensures.value j, (c.as_str-in-Merge.ensures j, c.as_slice-in-Merge.ensures j))) (c.merge_file.ensures.left told),
    )

pub returns-in-Merge-clause-others : goal.returns-in-Merge-clause-others
returns-in-Merge-clause-others g c =
    let held = g.F.Files.held c.args.files.now in
    let given = g.F.Files.held c.merge_file.new.files in
    subst (λ task. SameElse task (string_bytes c.args.ask.now.file) held given) (sym c.in-Merge.is)
    (λ other apart. c.merge_file.ensures.others other (λ is. apart (inl (is ∙ c.as_str-name.ensures.value))) (λ is. apart (inr (is ∙ c.as_str-in-Merge.ensures))))

-- and the file into which a key is moved has another one
pub move_file-requires-clause-differ : goal.move_file-requires-clause-differ
move_file-requires-clause-differ g c is =
    let fits = rw c.in-Move.is at c.requires.fits in
    fits.0 (sym c.as_str-in-Move.ensures ∙ is ∙ c.as_str-name.ensures.value)

-- why the key was moved, or wasn't
pub returns-in-Move-clause-cause : goal.returns-in-Move-clause-cause
returns-in-Move-clause-cause g c told =
    let held = g.F.Files.held c.args.files.now in
    let given = g.F.Files.held c.move_file.new.files in
    let e = c.move_file.result in
    move_ends (input_by g.S.Source.tells (g.S.Source.left c.args.input.now) (g.S.Source.faults c.args.input.now) (g.S.Source.faults c.args.input.now)) c.args.ask.now.task c.in-Move.key c.in-Move.into (string_bytes c.args.ask.now.file) c.in-Move.limit held
    (g.F.Files.faults c.args.files.now) (g.F.Files.faults c.move_file.new.files) c.in-Move.is g.F.D.Disk.tells e (given (string_bytes c.args.ask.now.file)) (given c.in-Move.into) told
    (subst (λ (q : List ℕ × (List ℕ × List ℕ)). MoveLeaves c.in-Move.limit q.1.1 q.0 q.1.0 (held q.0) (given q.0) (held q.1.0) (given q.1.0) e) (λ j. (c.as_str-name.ensures.value j, (c.as_str-in-Move.ensures j, c.as_slice-in-Move.ensures j))) (c.move_file.ensures.left told))
    c.move_file.ensures.counted

-- and what is left at the names of both
pub returns-in-Move-clause-left : goal.returns-in-Move-clause-left
returns-in-Move-clause-left g c told =
    let held = g.F.Files.held c.args.files.now in
    let given = g.F.Files.held c.move_file.new.files in
    let e = c.move_file.result in
    subst (λ task. TaskLeaves (input_by g.S.Source.tells (g.S.Source.left c.args.input.now) (g.S.Source.faults c.args.input.now) (g.S.Source.faults c.args.input.now)) task (string_bytes c.args.ask.now.file) held e given) (sym c.in-Move.is)
    (subst (λ (q : List ℕ × (List ℕ × List ℕ)). MoveLeaves c.in-Move.limit q.1.1 q.0 q.1.0 (held q.0) (given q.0) (held q.1.0) (given q.1.0) e) (λ j. (c.as_str-name.ensures.value j, (c.as_str-in-Move.ensures j, c.as_slice-in-Move.ensures j))) (c.move_file.ensures.left told))

pub returns-in-Move-clause-others : goal.returns-in-Move-clause-others
returns-in-Move-clause-others g c =
    let held = g.F.Files.held c.args.files.now in
    let given = g.F.Files.held c.move_file.new.files in
    subst (λ task. SameElse task (string_bytes c.args.ask.now.file) held given) (sym c.in-Move.is)
    (λ other apart. c.move_file.ensures.others other (λ is. apart (inl (is ∙ c.as_str-name.ensures.value))) (λ is. apart (inr (is ∙ c.as_str-in-Move.ensures))))

-- why generated commands ended so
pub returns-in-Generate-clause-cause : goal.returns-in-Generate-clause-cause
returns-in-Generate-clause-cause g c told =
    let held = g.F.Files.held c.args.files.now in
    let before = g.F.Files.faults c.args.files.now in
    let now = g.F.Files.faults c.generate_file.new.files in
    let e = c.generate_file.result in
    gen_ends (input_by g.S.Source.tells (g.S.Source.left c.args.input.now) (g.S.Source.faults c.args.input.now) (g.S.Source.faults c.args.input.now)) c.args.ask.now.task c.in-Generate.commands c.in-Generate.seed (string_bytes c.args.ask.now.file) held before now e c.in-Generate.is
    (subst (λ n. GenCause c.in-Generate.commands c.in-Generate.seed n (held n) before now e) c.as_str-name.ensures.value (c.generate_file.ensures.cause told))

-- what logs heard of a file that was to be made, of the pairs on the input too, of a rescue and of a mending
pub returns-in-Create-clause-told : goal.returns-in-Create-clause-told
returns-in-Create-clause-told g c told =
    let held = g.F.Files.held c.args.files.now in
    let now = g.F.Files.held c.create_file-creation.new.files in
    let logs = g.L.Logs.logs c.args.logs.now in
    let input = input_by g.S.Source.tells (g.S.Source.left c.args.input.now) (g.S.Source.faults c.args.input.now) (g.S.Source.faults c.args.input.now) in
    subst (λ t. TaskHeard input t (string_bytes c.args.ask.now.file) held now c.made.result logs logs) (sym c.in-Create.is)
    (refl, made_unlogged c.as_str-name.result.now c.create_file-creation.result c.made.result c.made.ensures)

pub returns-in-Restore-clause-told : goal.returns-in-Restore-clause-told
returns-in-Restore-clause-told g c told =
    let held = g.F.Files.held c.args.files.now in
    let now = g.F.Files.held c.restore_file.new.files in
    let input = input_by g.S.Source.tells (g.S.Source.left c.args.input.now) (g.S.Source.faults c.args.input.now) (g.S.Source.faults c.restore_file.new.input) in
    let e = c.restore_file.result in
    let logs = g.L.Logs.logs c.args.logs.now in
    let later = g.L.Logs.logs c.restore_file.new.logs in
    subst (λ t. TaskHeard input t (string_bytes c.args.ask.now.file) held now e logs later) (sym c.in-Restore.is)
    (subst (λ n. RestoreHeard c.in-Restore.limit input (held n) e logs later) c.as_str-name.ensures.value (c.restore_file.ensures.told told))

pub returns-in-Rescue-clause-told : goal.returns-in-Rescue-clause-told
returns-in-Rescue-clause-told g c told =
    let held = g.F.Files.held c.args.files.now in
    let now = g.F.Files.held c.rescue_on_file.new.files in
    let logs = g.L.Logs.logs c.args.logs.now in
    let input = input_by g.S.Source.tells (g.S.Source.left c.args.input.now) (g.S.Source.faults c.args.input.now) (g.S.Source.faults c.args.input.now) in
    subst (λ t. TaskHeard input t (string_bytes c.args.ask.now.file) held now (ending_of c.rescue_on_file.result) logs logs) (sym c.in-Rescue.is)
    (refl, c.rescue_on_file.ensures.unlogged told)

pub returns-in-Mend-clause-told : goal.returns-in-Mend-clause-told
returns-in-Mend-clause-told g c told =
    let held = g.F.Files.held c.args.files.now in
    let now = g.F.Files.held c.mend.new.files in
    let logs = g.L.Logs.logs c.args.logs.now in
    let input = input_by g.S.Source.tells (g.S.Source.left c.args.input.now) (g.S.Source.faults c.args.input.now) (g.S.Source.faults c.args.input.now) in
    subst (λ t. TaskHeard input t (string_bytes c.args.ask.now.file) held now (ending_of c.mend.result) logs logs) (sym c.in-Mend.is)
    (refl, c.mend.ensures.unlogged)

-- and of files that were verified
pub returns-in-Verify-clause-told : goal.returns-in-Verify-clause-told
returns-in-Verify-clause-told g c told =
    let held = g.F.Files.held c.args.files.now in
    let now = g.F.Files.held c.verify.new.files in
    let e = ending_of c.verify.result in
    let logs = g.L.Logs.logs c.args.logs.now in
    let later = g.L.Logs.logs c.verify.new.logs in
    let input = input_by g.S.Source.tells (g.S.Source.left c.args.input.now) (g.S.Source.faults c.args.input.now) (g.S.Source.faults c.args.input.now) in
    subst (λ t. TaskHeard input t (string_bytes c.args.ask.now.file) held now e logs later) (sym c.in-Verify.is)
    (subst (λ (q : List ℕ × (List ℕ × List (List ℕ))). VerifyHeard q.0 (q.1.0 ∷ q.1.1) held e logs later) (λ j. (c.as_str-in-Verify.ensures j, (c.as_str-name.ensures.value j, c.as_slice-in-Verify.ensures j))) (c.verify.ensures.heard told))

-- of a file of whose pairs another one was to be made
pub returns-in-Convert-clause-told : goal.returns-in-Convert-clause-told
returns-in-Convert-clause-told g c told =
    let held = g.F.Files.held c.args.files.now in
    let now = g.F.Files.held c.convert.new.files in
    let e = ending_of c.convert.result in
    let logs = g.L.Logs.logs c.args.logs.now in
    let later = g.L.Logs.logs c.convert.new.logs in
    let input = input_by g.S.Source.tells (g.S.Source.left c.args.input.now) (g.S.Source.faults c.args.input.now) (g.S.Source.faults c.args.input.now) in
    subst (λ t. TaskHeard input t (string_bytes c.args.ask.now.file) held now e logs later) (sym c.in-Convert.is)
    (subst (λ n. ConvertHeard c.in-Convert.made.limit (held n) e logs later) c.as_str-name.ensures.value (c.convert.ensures.heard told))

-- of a file whose pairs were to be stored into another one
pub returns-in-Merge-clause-told : goal.returns-in-Merge-clause-told
returns-in-Merge-clause-told g c told =
    let held = g.F.Files.held c.args.files.now in
    let now = g.F.Files.held c.merge_file.new.files in
    let e = c.merge_file.result in
    let logs = g.L.Logs.logs c.args.logs.now in
    let later = g.L.Logs.logs c.merge_file.new.logs in
    let input = input_by g.S.Source.tells (g.S.Source.left c.args.input.now) (g.S.Source.faults c.args.input.now) (g.S.Source.faults c.args.input.now) in
    subst (λ t. TaskHeard input t (string_bytes c.args.ask.now.file) held now e logs later) (sym c.in-Merge.is)
    (subst (λ n. MergeHeard c.in-Merge.limit (held n) e logs later) c.as_str-name.ensures.value (c.merge_file.ensures.heard told))

-- and of one whose key was to be moved into another one
pub returns-in-Move-clause-told : goal.returns-in-Move-clause-told
returns-in-Move-clause-told g c told =
    let held = g.F.Files.held c.args.files.now in
    let now = g.F.Files.held c.move_file.new.files in
    let e = c.move_file.result in
    let logs = g.L.Logs.logs c.args.logs.now in
    let later = g.L.Logs.logs c.move_file.new.logs in
    let input = input_by g.S.Source.tells (g.S.Source.left c.args.input.now) (g.S.Source.faults c.args.input.now) (g.S.Source.faults c.args.input.now) in
    subst (λ t. TaskHeard input t (string_bytes c.args.ask.now.file) held now e logs later) (sym c.in-Move.is)
    (subst (λ n. MoveHeard c.in-Move.limit (held n) e logs later) c.as_str-name.ensures.value (c.move_file.ensures.heard told))

-- and of generated commands
pub returns-in-Generate-clause-told : goal.returns-in-Generate-clause-told
returns-in-Generate-clause-told g c told =
    let held = g.F.Files.held c.args.files.now in
    let now = g.F.Files.held c.generate_file.new.files in
    let e = c.generate_file.result in
    let logs = g.L.Logs.logs c.args.logs.now in
    let later = g.L.Logs.logs c.generate_file.new.logs in
    let input = input_by g.S.Source.tells (g.S.Source.left c.args.input.now) (g.S.Source.faults c.args.input.now) (g.S.Source.faults c.args.input.now) in
    subst (λ t. TaskHeard input t (string_bytes c.args.ask.now.file) held now e logs later) (sym c.in-Generate.is)
    (subst (λ n. GenHeard c.in-Generate.commands c.in-Generate.seed (now n) e logs later) c.as_str-name.ensures.value (c.generate_file.ensures.told told))

-- what stops leave of a file of turns
pub returns-in-Turns-clause-stops : goal.returns-in-Turns-clause-stops
returns-in-Turns-clause-stops g c options is told =
    let input = input_by g.S.Source.tells (g.S.Source.left c.args.input.now) (g.S.Source.faults c.args.input.now) (g.S.Source.faults c.turns_on_file.new.input) in
    let same : c.in-Turns.options ≡ options = (let one : Turns c.in-Turns.options ≡ Turns options = sym c.in-Turns.is ∙ is in cc) in
    subst (λ (q : List ℕ × Options). StopsScripted input q.1 (g.F.Files.held c.args.files.now q.0) (g.F.Files.held c.turns_on_file.new.files q.0) g.K.Sink.tells (SaysAllLines c.turns_on_file.result) (OnErr c.turns_on_file.result ⊥)
    (Rose (g.F.Files.faults c.args.files.now) (g.F.Files.faults c.turns_on_file.new.files) → ⊥) (g.K.Sink.written c.args.output.now) (g.K.Sink.written c.turns_on_file.new.output))
    (λ j. (c.as_str-name.ensures.value j, same j)) (c.turns_on_file.ensures.stops told)

-- the files that a task takes may be taken so
pub act_on_file-requires-clause-take : goal.act_on_file-requires-clause-take
act_on_file-requires-clause-take g c = (named g.F.Files.may_take c.in-On.is c.as_str-name.ensures.value c.requires.take).0

pub look_on_file-requires-clause-take : goal.look_on_file-requires-clause-take
look_on_file-requires-clause-take g c = (named g.F.Files.may_take c.in-Read.is c.as_str-name.ensures.value c.requires.take).0

pub rescue_on_file-requires-clause-take : goal.rescue_on_file-requires-clause-take
rescue_on_file-requires-clause-take g c = (named g.F.Files.may_take c.in-Rescue.is c.as_str-name.ensures.value c.requires.take).0

pub print_on_file-requires-clause-take : goal.print_on_file-requires-clause-take
print_on_file-requires-clause-take g c = (named g.F.Files.may_take c.in-Print.is c.as_str-name.ensures.value c.requires.take).0

pub create_file-creation-requires-clause-take : goal.create_file-creation-requires-clause-take
create_file-creation-requires-clause-take g c = (named g.F.Files.may_take c.in-Create.is c.as_str-name.ensures.value c.requires.take).0

pub restore_file-requires-clause-take : goal.restore_file-requires-clause-take
restore_file-requires-clause-take g c = (named g.F.Files.may_take c.in-Restore.is c.as_str-name.ensures.value c.requires.take).0

pub session_on_file-requires-clause-take : goal.session_on_file-requires-clause-take
session_on_file-requires-clause-take g c = (named g.F.Files.may_take c.in-Session.is c.as_str-name.ensures.value c.requires.take).0

pub generate_file-requires-clause-take : goal.generate_file-requires-clause-take
generate_file-requires-clause-take g c = (named g.F.Files.may_take c.in-Generate.is c.as_str-name.ensures.value c.requires.take).0

pub turns_on_file-requires-clause-take : goal.turns_on_file-requires-clause-take
turns_on_file-requires-clause-take g c = (named g.F.Files.may_take c.in-Turns.is c.as_str-name.ensures.value c.requires.take).0

pub repack-requires-clause-take_file : goal.repack-requires-clause-take_file
repack-requires-clause-take_file g c = (named g.F.Files.may_take c.in-Repack.is c.as_str-name.ensures.value c.requires.take).0

pub repack-requires-clause-take_new : goal.repack-requires-clause-take_new
repack-requires-clause-take_new g c = (named g.F.Files.may_take c.in-Repack.is c.as_str-name.ensures.value c.requires.take).1.0

pub convert-requires-clause-take_file : goal.convert-requires-clause-take_file
convert-requires-clause-take_file g c = (named g.F.Files.may_take c.in-Convert.is c.as_str-name.ensures.value c.requires.take).0

pub convert-requires-clause-take_new : goal.convert-requires-clause-take_new
convert-requires-clause-take_new g c = subst (λ n. g.F.Files.may_take n New) (sym c.as_str-in-Convert.ensures) (named g.F.Files.may_take c.in-Convert.is c.as_str-name.ensures.value c.requires.take).1.0

pub mend-requires-clause-take_file : goal.mend-requires-clause-take_file
mend-requires-clause-take_file g c = (named g.F.Files.may_take c.in-Mend.is c.as_str-name.ensures.value c.requires.take).0

pub mend-requires-clause-take_new : goal.mend-requires-clause-take_new
mend-requires-clause-take_new g c = subst (λ n. g.F.Files.may_take n New) (sym c.as_str-in-Mend.ensures) (named g.F.Files.may_take c.in-Mend.is c.as_str-name.ensures.value c.requires.take).1.0

pub merge_file-requires-clause-take_file : goal.merge_file-requires-clause-take_file
merge_file-requires-clause-take_file g c = (named g.F.Files.may_take c.in-Merge.is c.as_str-name.ensures.value c.requires.take).0

pub merge_file-requires-clause-take_into : goal.merge_file-requires-clause-take_into
merge_file-requires-clause-take_into g c = subst (λ n. g.F.Files.may_take n Existing) (sym c.as_str-in-Merge.ensures) (named g.F.Files.may_take c.in-Merge.is c.as_str-name.ensures.value c.requires.take).1.0

pub move_file-requires-clause-take_file : goal.move_file-requires-clause-take_file
move_file-requires-clause-take_file g c = (named g.F.Files.may_take c.in-Move.is c.as_str-name.ensures.value c.requires.take).0

pub move_file-requires-clause-take_into : goal.move_file-requires-clause-take_into
move_file-requires-clause-take_into g c = subst (λ n. g.F.Files.may_take n Existing) (sym c.as_str-in-Move.ensures) (named g.F.Files.may_take c.in-Move.is c.as_str-name.ensures.value c.requires.take).1.0

pub back_up-requires-clause-take : goal.back_up-requires-clause-take
back_up-requires-clause-take g c =
    subst (λ (q : List ℕ × List (List ℕ)). MayTakeEach g.F.Files.may_take (copies_take q.0 (c.as_str-name.result.now ∷ q.1)))
    (λ j. (sym c.as_str.ensures j, sym c.as_slice.ensures j)) (named g.F.Files.may_take c.in-Backup.is c.as_str-name.ensures.value c.requires.take)

pub verify-requires-clause-take : goal.verify-requires-clause-take
verify-requires-clause-take g c =
    subst (λ (q : List ℕ × List (List ℕ)). MayTakeEach g.F.Files.may_take (verified_take q.0 (c.as_str-name.result.now ∷ q.1)))
    (λ j. (sym c.as_str-in-Verify.ensures j, sym c.as_slice-in-Verify.ensures j)) (named g.F.Files.may_take c.in-Verify.is c.as_str-name.ensures.value c.requires.take)
