-- A new file holds no pair; and a sync leaves what was restored.
use Rattle.std.proofs.Common.{◌≡◌, ℕ, ◌^◌, ◌<◌, ◌≤◌, List, [], Option, None, Some, length, append-nil, refl, sym, ◌∙◌, ap, subst, inl, inr, arith}
use Rattle.std.specs.Prelude.{IsTrue, IsSome, slice_index}
use Rattle.std.specs.Map.{lookup}
use Rattle.std.proofs.lemmas.Bool.{false≢true}
use Rattle.tdb_words.specs.declared.word.Order.TheVariants.{Little}
use Rattle.tdb_words.specs.declared.hash.HashKind.TheVariants.{Old}
use Rattle.tdb_disk.specs.Count.{Rose}
use Rattle.tdb_disk.specs.History.{History, seen, synced, called}
use Rattle.tdb_disk.specs.declared.files.TakeRefusal.{TakeRefusal}
use Rattle.tdb_disk.specs.declared.files.TakeRefusal.TheVariants as Take
use Rattle.tdb_disk.proofs.Runs.{quiet_synced}
use Rattle.tdb_space.specs.Pairs.{order_of, same_key}
use Rattle.tdb_space.specs.Accepted.{AcceptWith}
use Rattle.tdb_backup.specs.Building.{HoldsPairs}
use Rattle.tdb_backup.specs.Restoring.{Restored, TextHeard, TextTold, keys_and_values}
use Rattle.tdb_backup.proofs.Restored.{begun_none}
use Rattle.tdb_log.specs.Logs.{Logged}
use Rattle.tdb_log.specs.declared.log.LogRefusal.TheVariants as L
use Rattle.tdb_answer.specs.Commands.Create.{new_file_of}
use Rattle.tdb_backup.specs.Room.{room_in}
use Rattle.tdb_backup.specs.declared.refusal.RestoreRefusal.{RestoreRefusal}
use Rattle.tdb_backup.specs.declared.refusal.RestoreRefusal.TheVariants as R
use Rattle.tdb_cmdline.specs.declared.limits.TheConstants.{DEFAULT_SIZE}
use Rattle.tdb_open.specs.Creating.{IsNewFile}
use Rattle.tdb_cmdline.specs.declared.ask.Task.{Task}
use Rattle.tdb_cmdline.specs.declared.ask.Task.TheVariants.{Restore}
use Rattle.tdb_answer.specs.declared.ending.Ending.{Ending}
use Rattle.tdb_answer.specs.declared.ending.Ending.TheVariants as E
use Rattle.tdb_answer.specs.declared.ending.Reply.TheVariants as Reply
use Rattle.tdb_answer.specs.Commands.Restore.{new_form, IsRestored, RestoreHeard, RestoringHeard, TextRefused, of_restore, ReadSo, read_whole, read_refused, HeardBy}
use Rattle.tdb_answer.specs.Ending.{status_of, Untaken, TaskDue, TaskCause, task_due, task_failed, task_unlogged, task_wanting, CountedBy}
use Rattle.tdb_answer.specs.Input.{Input}
use Rattle.tdb_answer.specs.Left.{RestoreLeaves}
use Rattle.tdb_answer.specs.Reads.{AskCause}
use Rattle.tdb_answer.proofs.Acting.{rose_earlier}

module _ (img : List ℕ) (file : IsNewFile DEFAULT_SIZE Little Old img) where
  pub holds_nothing : (limit : ℕ) → HoldsPairs limit (new_file_of new_form) new_form img []
  holds_nothing limit = record {
    accepted = subst (λ f. AcceptWith f img []) file.form file.accepted;
    map = λ k. ap (lookup (same_key k)) (subst (λ f. order_of f img ≡ []) file.form file.empty);
    room = ap (λ i. Some (room_in new_form i)) (sym file.bytes);
    header = λ i _. ap (λ b. slice_index b i) file.bytes;
  }

  -- and is short enough
  pub new_short : (size : ℕ) → length img ≡ size → size < 2 ^ 32
  new_short size is = omega (arith, is, file.long)

-- a sync puts what was restored on the medium
pub restored_synced : (limit : ℕ) (text : List ℕ) (old now : History) → Restored limit (new_file_of new_form) new_form (seen old) text → now ≡ called old synced → IsRestored limit text now
restored_synced limit text old now restored done = record {
  restored = subst (λ img. Restored limit (new_file_of new_form) new_form img text) (sym (ap seen done)) restored;
  quiet = quiet_synced old now done;
}

-- nothing is held where it isn't so that something is
pub none_held : (held : Option History) → (IsSome held → ⊥) → held ≡ None
none_held None other = refl
none_held (Some h) other = absurd (other refl)

module _ (input : Input) (limit : ℕ) (name : List ℕ) (held : Option History) (before after : ℕ) (fresh : held ≡ None) where
  by_input : (e : Ending) → ReadSo input limit e → AskCause input (Restore limit) name held before after e
  by_input e read = inr (inl (record { limit = limit; restores = refl; none = fresh; read = read }))

  -- all pairs came into the file
  pub whole_cause : (IsTrue input.tells → (img : List ℕ) × Restored limit (new_file_of new_form) new_form img input.text) → AskCause input (Restore limit) name held before after (E.Replied Reply.Restored)
  whole_cause whole = by_input (E.Replied Reply.Restored) (read_whole whole)

  refusal_cause : (r : RestoreRefusal) → CountedBy before after (of_restore r) → (IsTrue input.tells → TextRefused input.text limit r) → (r ≡ R.Input → Rose input.faults_before input.faults_after)
      → AskCause input (Restore limit) name held before after (of_restore r)
  refusal_cause R.Io counted text rose = inl (task_failed (counted.failed refl))
  refusal_cause R.Input counted text rose = by_input E.InputFault (read_refused R.Input (λ e. cc) text rose)
  refusal_cause (R.Malformed at) counted text rose = by_input (E.Malformed at) (read_refused (R.Malformed at) (λ e. cc) text rose)
  refusal_cause (R.Full len need) counted text rose = by_input (E.Replied (Reply.Full len need)) (read_refused (R.Full len need) (λ e. cc) text rose)
  refusal_cause R.Memory counted text rose = by_input E.NoMemory (read_refused R.Memory (λ e. cc) text rose)
  refusal_cause (R.Log L.Failed) counted text rose = inl task_unlogged
  refusal_cause (R.Log L.Memory) counted text rose = inl task_wanting

  -- they didn't
  pub refused_cause : (r : RestoreRefusal) (e : Ending) → e ≡ of_restore r → CountedBy before after e → (IsTrue input.tells → TextRefused input.text limit r) → (r ≡ R.Input → Rose input.faults_before input.faults_after)
      → AskCause input (Restore limit) name held before after e
  refused_cause r e is counted text rose =
      subst (AskCause input (Restore limit) name held before after) (sym is) (refusal_cause r (subst (CountedBy before after) is counted) text rose)

-- a file that wasn't taken, and that a task was to make
pub untaken_new : (task : Task) (name : List ℕ) (held : Option History) (before after : ℕ) → ((h : History) → TaskDue task name (Some h) (E.There name)) → (refusal : TakeRefusal) (e : Ending) → (refusal ≡ Take.Missing → ⊥) → (refusal ≡ Take.There → IsSome held) → (refusal ≡ Take.Failed → Rose before after)
    → Untaken name refusal e → TaskCause task name held before after e
untaken_new task name held before after due Take.Missing e free some rose is = absurd (free refl)
untaken_new task name held before after due Take.There e free some rose (inl is) = subst (TaskCause task name held before after) (sym is) (task_due (E.There name) (there held (some refl)))
  where
    there : (o : Option History) → IsSome o → TaskDue task name o (E.There name)
    there None some = absurd (false≢true some)
    there (Some h) some = due h
untaken_new task name held before after due Take.There e free some rose (inr is) = subst (TaskCause task name held before after) (sym is) task_wanting
untaken_new task name held before after due Take.Failed e free some rose is = subst (TaskCause task name held before after) (sym is) (task_failed (rose refl))
untaken_new task name held before after due Take.Memory e free some rose is = subst (TaskCause task name held before after) (sym is) task_wanting

-- the ending of a refusal has a status of its own, and isn't the usage
refusal_status : (r : RestoreRefusal) → status_of (of_restore r) ≡ 0 → ⊥
refusal_status R.Io is = absurd (omega (arith, is))
refusal_status R.Input is = absurd (omega (arith, is))
refusal_status (R.Malformed at) is = absurd (omega (arith, is))
refusal_status (R.Full len need) is = absurd (omega (arith, is))
refusal_status R.Memory is = absurd (omega (arith, is))
refusal_status (R.Log L.Failed) is = absurd (omega (arith, is))
refusal_status (R.Log L.Memory) is = absurd (omega (arith, is))

refusal_asked : (r : RestoreRefusal) → of_restore r ≡ E.Usage → ⊥
refusal_asked R.Io is = cc
refusal_asked R.Input is = cc
refusal_asked (R.Malformed at) is = cc
refusal_asked (R.Full len need) is = cc
refusal_asked R.Memory is = cc
refusal_asked (R.Log L.Failed) is = cc
refusal_asked (R.Log L.Memory) is = cc

pub refused_asked : (r : RestoreRefusal) (e : Ending) → e ≡ of_restore r → e ≡ E.Usage → ⊥
refused_asked r e is usage = refusal_asked r (sym is ∙ usage)

-- what is left where the file is gone again
pub removed_left : (limit : ℕ) (input : Input) (held now : Option History) (r : RestoreRefusal) (e : Ending) → held ≡ None → now ≡ None → e ≡ of_restore r → RestoreLeaves limit input held e now
removed_left limit input held now r e fresh gone is = record {
  left = inl (gone ∙ sym fresh);
  done = λ nil. absurd (refusal_status r (sym (ap status_of is) ∙ nil));
  there = λ some. absurd (false≢true (subst IsSome fresh some));
}

-- a call that failed leaves anything where nothing was
pub failed_left : (limit : ℕ) (input : Input) (held now : Option History) → held ≡ None → RestoreLeaves limit input held E.DeviceFault now
failed_left limit input held now fresh = record {
  left = inr (inr refl);
  done = λ is. absurd (omega (arith, is));
  there = λ some. absurd (false≢true (subst IsSome fresh some));
}

-- how often the disk and the input failed
refusal_counted : (start last : ℕ) (r : RestoreRefusal) → start ≤ last → (r ≡ R.Io → Rose start last) → ((r ≡ R.Io → ⊥) → last ≡ start) → CountedBy start last (of_restore r)
refusal_counted start last R.Io low failed refused = record { never_falls = low; failed = λ is. failed refl; sound = λ other. absurd (other refl) }
refusal_counted start last R.Input low failed refused = record { never_falls = low; failed = λ is. cc; sound = λ other. refused (λ e. cc) }
refusal_counted start last (R.Malformed at) low failed refused = record { never_falls = low; failed = λ is. cc; sound = λ other. refused (λ e. cc) }
refusal_counted start last (R.Full len need) low failed refused = record { never_falls = low; failed = λ is. cc; sound = λ other. refused (λ e. cc) }
refusal_counted start last R.Memory low failed refused = record { never_falls = low; failed = λ is. cc; sound = λ other. refused (λ e. cc) }
refusal_counted start last (R.Log L.Failed) low failed refused = record { never_falls = low; failed = λ is. cc; sound = λ other. refused (λ e. cc) }
refusal_counted start last (R.Log L.Memory) low failed refused = record { never_falls = low; failed = λ is. cc; sound = λ other. refused (λ e. cc) }

pub refused_counted : (start last : ℕ) (r : RestoreRefusal) (e : Ending) → e ≡ of_restore r → start ≤ last → (r ≡ R.Io → Rose start last) → ((r ≡ R.Io → ⊥) → last ≡ start) → CountedBy start last e
refused_counted start last r e is low failed refused = subst (CountedBy start last) (sym is) (refusal_counted start last r low failed refused)

-- a call of the files failed at the end
pub failed_counted : (before mid after : ℕ) → before ≤ mid → mid ≤ after → Rose mid after → CountedBy before after E.DeviceFault
failed_counted before mid after later last rose = record {
  never_falls = omega (arith, later, last);
  failed = λ is. rose_earlier before mid after later rose;
  sound = λ other. absurd (other refl);
}

refusal_heard : (start last : ℕ) (r : RestoreRefusal) → (r ≡ R.Input → Rose start last) → ((r ≡ R.Input → ⊥) → last ≡ start) → HeardBy start last (of_restore r)
refusal_heard start last R.Input failed refused = record { failed = λ is. failed refl; told = inr (inl refl) }
refusal_heard start last R.Io failed refused = record { failed = λ is. cc; told = inl (refused (λ e. cc)) }
refusal_heard start last (R.Malformed at) failed refused = record { failed = λ is. cc; told = inl (refused (λ e. cc)) }
refusal_heard start last (R.Full len need) failed refused = record { failed = λ is. cc; told = inl (refused (λ e. cc)) }
refusal_heard start last R.Memory failed refused = record { failed = λ is. cc; told = inl (refused (λ e. cc)) }
refusal_heard start last (R.Log L.Failed) failed refused = record { failed = λ is. cc; told = inl (refused (λ e. cc)) }
refusal_heard start last (R.Log L.Memory) failed refused = record { failed = λ is. cc; told = inl (refused (λ e. cc)) }

pub refused_heard : (start last : ℕ) (r : RestoreRefusal) (e : Ending) → e ≡ of_restore r → (r ≡ R.Input → Rose start last) → ((r ≡ R.Input → ⊥) → last ≡ start) → HeardBy start last e
refused_heard start last r e is failed refused = subst (HeardBy start last) (sym is) (refusal_heard start last r failed refused)

-- what logs heard of the growths of a restored file: none yet, or all of them
module _ (limit : ℕ) (text : List ℕ) where
  pub untold_yet : (logs : List Logged) → TextHeard limit new_form (new_file_of new_form) text logs logs R.Io
  untold_yet logs = ([], begun_none text, record { given = []; rest = []; split = refl; told = refl })

  pub told_but : (old new : List Logged) → TextTold limit new_form (new_file_of new_form) text old new → TextHeard limit new_form (new_file_of new_form) text old new R.Io
  told_but old new (pairs, dump, told) =
      (pairs, (text, [], sym (append-nil text), dump), record { given = keys_and_values pairs; rest = []; split = sym (append-nil (keys_and_values pairs)); told = told })

module _ (limit : ℕ) (input : Input) where
  -- no file was at the name
  pub fresh_heard : (held : Option History) → held ≡ None → (e : Ending) (old new : List Logged) → (IsTrue input.tells → RestoringHeard limit input.text e old new) → RestoreHeard limit input held e old new
  fresh_heard held none e old new heard = subst (λ o. RestoreHeard limit input o e old new) (sym none) heard

  -- want of memory before a file is made tells nothing
  pub restore_wanting : (held : Option History) (logs : List Logged) → RestoreHeard limit input held E.NoMemory logs logs
  restore_wanting None logs = λ told. inr (R.Memory, inl refl, untold_yet limit input.text logs)
  restore_wanting (Some h) logs = (refl, λ is. cc)

  -- no file was taken
  module _ (name : List ℕ) (held : Option History) (logs : List Logged) where
    failing : (e : Ending) → e ≡ E.DeviceFault → (o : Option History) → RestoreHeard limit input o e logs logs
    failing e is None = λ told. inr (R.Io, inr is, untold_yet limit input.text logs)
    failing e is (Some h) = (refl, λ logged. let both : E.DeviceFault ≡ E.LogFault = sym is ∙ logged in cc)

    there : (e : Ending) → e ≡ E.There name → (o : Option History) → IsSome o → RestoreHeard limit input o e logs logs
    there e is None some = absurd (false≢true some)
    there e is (Some h) some = (refl, λ logged. let both : E.There name ≡ E.LogFault = sym is ∙ logged in cc)

    wanting : (e : Ending) → e ≡ E.NoMemory → RestoreHeard limit input held e logs logs
    wanting e is = subst (λ x. RestoreHeard limit input held x logs logs) (sym is) (restore_wanting held logs)

    pub untaken_heard : (refusal : TakeRefusal) (e : Ending) → (refusal ≡ Take.Missing → ⊥) → (refusal ≡ Take.There → IsSome held) → Untaken name refusal e → RestoreHeard limit input held e logs logs
    untaken_heard Take.Missing e free some is = absurd (free refl)
    untaken_heard Take.There e free some (inl is) = there e is held (some refl)
    untaken_heard Take.There e free some (inr is) = wanting e is
    untaken_heard Take.Failed e free some is = failing e is held
    untaken_heard Take.Memory e free some is = wanting e is
