use Rattle.std.proofs.Common.{◌≡◌, ◌≤◌, true, false, Err, None, refl, sym, ◌∙◌, ap, subst, inl, inr, arith, ◌<◌, List, ℕ}
use Rattle.std.proofs.lemmas.Result.{IfErr-at_err}
use Rattle.tdb_disk.specs.Count.{Rose}
use Rattle.tdb_disk.specs.History.{seen}
use Rattle.std.specs.Prelude.{IsTrue}
use Rattle.tdb_backup.specs.Restoring.{TextHeard}
use Rattle.tdb_backup.specs.declared.refusal.RestoreRefusal.TheVariants as R
use Rattle.tdb_cmdline.specs.declared.ask.Task.TheVariants.{Restore}
use Rattle.tdb_answer.specs.Commands.Create.{new_file_of}
use Rattle.tdb_answer.specs.Commands.Restore.{new_form}
use Rattle.tdb_answer.specs.Ending.{task_failed, CountedBy}
use Rattle.tdb_answer.specs.Input.{Input, input_by}
use Rattle.tdb_answer.specs.declared.ending.Ending.TheVariants.{Replied, DeviceFault}
use Rattle.tdb_answer.specs.declared.ending.Reply.TheVariants.{Restored}
use Rattle.tdb_answer.proofs.Acting.{rose_earlier}
use Rattle.tdb_answer.proofs.Held.{same_or_other}
use Rattle.tdb_answer.proofs.Looking.{files_counted}
use Rattle.tdb_answer.proofs.Restoring.{none_held, untaken_new, whole_cause, refused_cause, refused_asked, fresh_heard, untaken_heard, removed_left, failed_left, refused_counted, failed_counted, refused_heard}
use Rattle.tdb_answer.proofs.commands.restore.restore_file.Goals as goal
use Rattle.tdb_answer.proofs.commands.restore.restore_file.Goals.{After-give}

-- no file was at the name
fresh : (g : _) (c : After-give g) → g.F.D.Disk.tells ≡ true → g.F.Files.held c.args.files.now c.args.name.now ≡ None
fresh g c told = none_held (g.F.Files.held c.args.files.now c.args.name.now) (λ some. let wrong = (c.in-Ok.ensures.there told).1 (some, refl) in cc)

-- the input
abbrev heard_so : (g : _) (c : After-give g) → Input
heard_so g c = input_by g.S.Source.tells (g.S.Source.left c.args.input.now) (g.S.Source.faults c.args.input.now) (g.S.Source.faults c.fill-filled.new.input)

-- the file was given back
back : (g : _) (c : After-give g) (other : List ℕ) → g.F.Files.is_taken c.give.new.self other ≡ false
back g c other = elim (same_or_other other c.args.name.now) [
  | inl same ↦ subst (λ n. g.F.Files.is_taken c.give.new.self n ≡ false) (sym same) c.give.ensures.free
  | inr apart ↦ c.give.ensures.taken_others other apart ∙ c.in-Ok.ensures.taken_others other apart ∙ c.requires.free other
]

-- the file wasn't taken
pub returns-in-Err-clause-cause : goal.returns-in-Err-clause-cause
returns-in-Err-clause-cause g c told =
    inl (untaken_new (Restore c.args.limit) c.args.name.now (g.F.Files.held c.args.files.now c.args.name.now) _ _ (λ h. refl) c.in-Err.refusal _
    (λ is. c.in-Err.ensures.missing_how (ap Err is) refl) (λ is. ((c.in-Err.ensures.there told).0 (ap Err is)).0)
    (λ is. c.in-Err.ensures.cause.failed is) c.untaken.ensures)

-- all pairs came into it
pub returns-in-Ok-filled-clause-cause : goal.returns-in-Ok-filled-clause-cause
returns-in-Ok-filled-clause-cause g c told =
    let a = (goal.at.returns-in-Ok-filled-clause-cause g c).After-give in
    whole_cause (heard_so g a) c.args.limit c.args.name.now (g.F.Files.held c.args.files.now c.args.name.now) _ _ (fresh g a told)
    (λ heard. (seen (g.F.D.Disk.history c.fill-filled.new.disk), (c.in-Ok-filled.ensures.restored heard told).restored))

-- its disk failed
pub returns-in-Err-Io-clause-cause : goal.returns-in-Err-Io-clause-cause
returns-in-Err-Io-clause-cause g c told =
    let start = g.F.D.Disk.faults c.in-Ok.disk in
    let last = g.F.D.Disk.faults c.fill-filled.new.disk in
    let rose : Rose start last = IfErr-at_err (λ e. e ≡ R.Io → Rose start last) c.in-Err-Io.is c.fill-filled.ensures.write_cause.failed (rw c.in-Err-Io.is at c.in-Err-Io.field-0-is) in
    let some : 0 < last = omega (arith, rose, c.in-Ok.ensures.disk_faults) in
    inl (task_failed (rose_earlier (g.F.Files.faults c.args.files.now) (g.F.Files.faults c.take.new.self) (g.F.Files.faults c.give.new.self) c.in-Ok.ensures.cause.never_falls (c.give.ensures.faulty some)))

-- not all pairs came into it, and it was removed
pub returns-in-Ok-remove : goal.returns-in-Ok-remove
returns-in-Ok-remove g c =
    let a = (goal.at.returns-in-Ok-remove g c).After-give in
    let before = g.F.Files.faults c.args.files.now in
    let given = g.F.Files.faults c.give.new.self in
    let after = g.F.Files.faults c.remove.new.self in
    let r = c.in-Err-filled.refusal in
    let e = c.from.result in
    let is = c.from.ensures in
    let w = c.in-Err-filled.ensures.write_cause in
    let v = c.in-Err-filled.ensures.read_cause in
    let start = g.F.D.Disk.faults c.in-Ok.disk in
    let last = g.F.D.Disk.faults c.fill-filled.new.disk in
    let counted : CountedBy before after e = subst (λ n. CountedBy before n e) (sym c.in-Ok-remove.ensures.cause.done)
    (files_counted before (g.F.Files.faults c.take.new.self) given start last e
    c.in-Ok.ensures.cause.done c.in-Ok.ensures.disk_faults (refused_counted start last r e is w.never_falls w.failed w.refused) c.give.ensures.sound c.give.ensures.faulty c.give.ensures.faults) in
    record {
      cause = λ told. refused_cause (heard_so g a) c.args.limit c.args.name.now (g.F.Files.held c.args.files.now c.args.name.now) before after (fresh g a told) r e is counted
          (λ heard. c.in-Err-filled.ensures.refused heard told) v.failed;
      left = λ told. removed_left c.args.limit (heard_so g a) (g.F.Files.held c.args.files.now c.args.name.now) (g.F.Files.held c.remove.new.self c.args.name.now) r e (fresh g a told) (c.in-Ok-remove.ensures.gone told) is;
      others = λ other apart. c.remove.ensures.others other apart ∙ c.give.ensures.held_others other apart ∙ c.in-Ok.ensures.held_others other apart;
      given_back = λ other. c.remove.ensures.taken other ∙ back g a other;
      counted = counted;
      heard = refused_heard (g.S.Source.faults c.args.input.now) (g.S.Source.faults c.fill-filled.new.input) r e is v.failed v.refused;
      asked = refused_asked r e is;
      told = λ told. fresh_heard c.args.limit (heard_so g a) (g.F.Files.held c.args.files.now c.args.name.now) (fresh g a told) e (g.L.Logs.logs c.args.logs.now) (g.L.Logs.logs c.fill-filled.new.logs)
          (λ heard. inr (r, inl is, c.in-Err-filled.ensures.heard heard told));
    }

-- it couldn't be removed
pub returns-in-Err-remove : goal.returns-in-Err-remove
returns-in-Err-remove g c =
    let a = (goal.at.returns-in-Err-remove g c).After-give in
    let before = g.F.Files.faults c.args.files.now in
    let given = g.F.Files.faults c.give.new.self in
    let after = g.F.Files.faults c.remove.new.self in
    let later : before ≤ given = omega (arith, c.in-Ok.ensures.cause.done, c.give.ensures.faults) in
    let rose : Rose before after = rose_earlier before given after later c.in-Err-remove.ensures.cause.failed in
    record {
      cause = λ told. inl (task_failed rose);
      left = λ told. failed_left c.args.limit (heard_so g a) (g.F.Files.held c.args.files.now c.args.name.now) (g.F.Files.held c.remove.new.self c.args.name.now) (fresh g a told);
      others = λ other apart. c.remove.ensures.others other apart ∙ c.give.ensures.held_others other apart ∙ c.in-Ok.ensures.held_others other apart;
      given_back = λ other. c.remove.ensures.taken other ∙ back g a other;
      counted = failed_counted before given after later c.in-Err-remove.ensures.cause.never_falls c.in-Err-remove.ensures.cause.failed;
      heard = record { failed = λ is. cc; told = inr (inr refl) };
      asked = λ is. cc;
      told = λ told. fresh_heard c.args.limit (heard_so g a) (g.F.Files.held c.args.files.now c.args.name.now) (fresh g a told) DeviceFault (g.L.Logs.logs c.args.logs.now) (g.L.Logs.logs c.fill-filled.new.logs)
          (λ heard. inr (c.in-Err-filled.refusal, inr refl, c.in-Err-filled.ensures.heard heard told));
    }

-- what logs heard of it
pub returns-in-Err-clause-told : goal.returns-in-Err-clause-told
returns-in-Err-clause-told g c told =
    untaken_heard c.args.limit (input_by g.S.Source.tells (g.S.Source.left c.args.input.now) (g.S.Source.faults c.args.input.now) (g.S.Source.faults c.args.input.now)) c.args.name.now (g.F.Files.held c.args.files.now c.args.name.now) (g.L.Logs.logs c.args.logs.now)
    c.in-Err.refusal c.untaken.result (λ is. c.in-Err.ensures.missing_how (ap Err is) refl) (λ is. ((c.in-Err.ensures.there told).0 (ap Err is)).0) c.untaken.ensures

pub returns-in-Ok-filled-clause-told : goal.returns-in-Ok-filled-clause-told
returns-in-Ok-filled-clause-told g c told =
    let a = (goal.at.returns-in-Ok-filled-clause-told g c).After-give in
    fresh_heard c.args.limit (heard_so g a) (g.F.Files.held c.args.files.now c.args.name.now) (fresh g a told) (Replied Restored) (g.L.Logs.logs c.args.logs.now) (g.L.Logs.logs c.fill-filled.new.logs)
    (λ heard. inl (refl, c.in-Ok-filled.ensures.told heard told))

pub returns-in-Err-Io-clause-told : goal.returns-in-Err-Io-clause-told
returns-in-Err-Io-clause-told g c told =
    let a = (goal.at.returns-in-Err-Io-clause-told g c).After-give in
    let logs = g.L.Logs.logs c.args.logs.now in
    let later = g.L.Logs.logs c.fill-filled.new.logs in
    fresh_heard c.args.limit (heard_so g a) (g.F.Files.held c.args.files.now c.args.name.now) (fresh g a told) DeviceFault logs later
    (λ heard. inr (
      _,
      inr refl,
      IfErr-at_err (λ e. IsTrue g.S.Source.tells → IsTrue g.F.D.Disk.tells → TextHeard c.args.limit new_form (new_file_of new_form) (g.S.Source.left c.args.input.now) logs later e)
          c.in-Err-Io.is c.fill-filled.ensures.heard heard told,
    ))
