-- What logs heard of commands over files, from what they heard of their parts.
use Rattle.std.proofs.Common.{◌≡◌, ◌⊎◌, ◌<◌, ℕ, ◌∷◌, [], true, false, length, List, Option, None, Some, Result, Ok, Err, refl, sym, ◌∙◌, ap, subst, inl, inr, arith}
use Rattle.std.specs.Prelude.{IfErr}
use Rattle.tdb_disk.specs.History.{History, seen}
use Rattle.tdb_disk.specs.declared.files.TakeRefusal.{TakeRefusal}
use Rattle.tdb_disk.specs.declared.files.TakeRefusal.TheVariants as Take
use Rattle.tdb_check.specs.Report.{Counted}
use Rattle.tdb_log.specs.Logs.{Logged, ToldAll, ToldUpTo, growth}
use Rattle.tdb_log.specs.declared.log.LogRefusal.{LogRefusal}
use Rattle.tdb_cmdline.specs.Ask.{Ask}
use Rattle.tdb_cmdline.specs.CopyNames.{copy_name, IsNameAmong}
use Rattle.tdb_cmdline.specs.declared.ask.Task.{Task}
use Rattle.tdb_cmdline.specs.declared.ask.Task.TheVariants.{Create, On, Read, Rescue, Print, Repack, Restore, Backup, Verify, Convert, Merge, Mend, Move, Turns, Session, Generate}
use Rattle.tdb_open.specs.declared.halt.Fault.{Fault}
use Rattle.tdb_open.specs.declared.halt.Fault.TheVariants as F
use Rattle.tdb_open.specs.declared.halt.Halt.{Halt}
use Rattle.tdb_open.specs.declared.halt.Halt.TheVariants as H
use Rattle.tdb_open.specs.declared.opening.Opened.{Opened}
use Rattle.tdb_open.specs.Notices.{BelowHeard}
use Rattle.tdb_open.specs.Opening.{opened_bytes, of_fault}
use Rattle.tdb_answer.specs.declared.ending.Ending.{Ending}
use Rattle.tdb_answer.specs.declared.ending.Ending.TheVariants as E
use Rattle.tdb_answer.specs.declared.ending.Reply.{Reply}
use Rattle.tdb_answer.specs.declared.ending.Reply.TheVariants.{Copied, Verified}
use Rattle.tdb_answer.specs.declared.commands.verify.Unverified.{Unverified}
use Rattle.tdb_answer.specs.declared.commands.verify.Unverified.TheVariants.{Ends, Unprinted}
use Rattle.tdb_answer.specs.Commands.Print.{PrintEnds}
use Rattle.tdb_answer.specs.Commands.Backup.{CopyingHeard}
use Rattle.tdb_answer.specs.Commands.Restore.{RestoreHeard}
use Rattle.tdb_answer.specs.Commands.Session.{SessionHeard, served_halt}
use Rattle.tdb_answer.specs.Commands.Turns.{TurnsHeard, turned_nothing}
use Rattle.tdb_answer.specs.Commands.Verify.{tells_fault, IsKnown}
use Rattle.tdb_answer.specs.Ending.{Untaken, status_of, of_halt}
use Rattle.tdb_answer.specs.Heard.{FileHeard, heard_nothing, heard_halt, heard_more, ToldFor, GrowthHeard, ActedHeard, ActHeard, LookHeard, PrintHeard, ConvertHeard, MergeHeard, MoveHeard, OpenHeard, CopiedHeard, BackupHeard, CountHeard, VerifyHeard, count_ending, TaskHeard, AskHeard}
use Rattle.tdb_answer.specs.Input.{Input}
use Rattle.tdb_answer.proofs.BackingUp.{made_as, made_told, verified_but}
use Rattle.tdb_answer.proofs.Copies.{Held}
use Rattle.tdb_answer.proofs.Restoring.{restore_wanting}
use Rattle.tdb_answer.proofs.Unlogged.{untaken_unlogged}
use Rattle.tdb_answer.proofs.Verifying.{unverified_some}

pub grown_refused : (from to : ℕ) (old new : List Logged) (refusal : LogRefusal) → ToldUpTo refusal (growth from to) old new → GrowthHeard {A = Unit {0}} from to old new (Err F.Log)
grown_refused from to old new refusal refused = (refusal, refused)

-- a command that is told no more
told_none : (e : Ending) (logs : List Logged) → (e ≡ E.LogFault → ⊥) → ToldFor e [] logs logs
told_none (E.Replied reply) logs other = refl
told_none (E.Refused refusal) logs other = refl
told_none (E.Missing name) logs other = refl
told_none (E.There name) logs other = refl
told_none E.Usage logs other = refl
told_none E.DeviceFault logs other = refl
told_none E.InputFault logs other = refl
told_none (E.Malformed at) logs other = refl
told_none E.NoMemory logs other = refl
told_none E.LogFault logs other = absurd (other refl)

pub opened_alone : (read : List ℕ) (Opening : List Logged → List Logged → Result Opened Halt → Type 0) (e : Ending) (o : Opened) (old new : List Logged) → Counted read o.report → Opening old new (Ok o) → (e ≡ E.LogFault → ⊥) → FileHeard read Opening e (ToldFor e []) old new
opened_alone read Opening e o old new counted opened other = heard_more o new counted opened (told_none e new other)

-- an opening that halted
pub halted_heard : (read : List ℕ) (Opening : List Logged → List Logged → Result Opened Halt → Type 0) (halt : Halt) (e : Ending) (More : List Logged → List Logged → Type 0) (old new : List Logged) → Opening old new (Err halt) → e ≡ of_halt halt → FileHeard read Opening e More old new
halted_heard read Opening halt e More old new opened is = heard_halt halt is opened

-- an act on an opened file
module _ (limit : ℕ) (img read : List ℕ) (now : ℕ) (o : Opened) (before between after : List Logged) (reads : read ≡ opened_bytes img) (counted : Counted (opened_bytes img) o.report) (opened : BelowHeard limit img before between (Ok o)) where
  fault_told : (fault : Fault) → GrowthHeard {A = Reply} (length read) now between after (Err fault) → ToldFor (of_halt (of_fault fault)) (growth (length read) now) between after
  fault_told F.Device heard = heard
  fault_told F.Memory heard = heard
  fault_told F.Log heard = heard

  pub faulted_heard : (fault : Fault) → GrowthHeard {A = Reply} (length read) now between after (Err fault) → ActedHeard limit img now (of_halt (of_fault fault)) before after
  faulted_heard fault heard = heard_more o between counted opened (subst (λ i. ToldFor (of_halt (of_fault fault)) (growth (length i) now) between after) reads (fault_told fault heard))

  pub replied_heard : (reply : Reply) → ToldAll (growth (length read) now) between after → ActedHeard limit img now (E.Replied reply) before after
  replied_heard reply heard = heard_more o between counted opened (subst (λ i. ToldAll (growth (length i) now) between after) reads heard)

-- a file that wasn't taken
module _ (name : List ℕ) (refusal : TakeRefusal) (e : Ending) (logs : List Logged) (not_new : refusal ≡ Take.There → ⊥) (untaken : Untaken name refusal e) where
  untaken_ends : (r : TakeRefusal) → Untaken name r e → (r ≡ Take.Missing → ⊥) → (r ≡ Take.There → ⊥) → (e ≡ E.DeviceFault) ⊎ (e ≡ E.NoMemory)
  untaken_ends Take.Missing is there other = absurd (there refl)
  untaken_ends Take.There is there other = absurd (other refl)
  untaken_ends Take.Failed is there other = inl is
  untaken_ends Take.Memory is there other = inr is

  untaken_heard : (read : List ℕ) (Opening : List Logged → List Logged → Result Opened Halt → Type 0) (More : List Logged → List Logged → Type 0) (h : History) → (refusal ≡ Take.Missing → Some h ≡ None) → FileHeard read Opening e More logs logs
  untaken_heard read Opening More h gone = heard_nothing (untaken_ends refusal untaken (λ is. let wrong = gone is in cc) not_new) refl

  pub act_untaken : (limit : ℕ) (held now : Option History) → (refusal ≡ Take.Missing → held ≡ None) → ActHeard limit held now e logs logs
  act_untaken limit None now gone = (refl, untaken_unlogged name refusal e untaken)
  act_untaken limit (Some h) now gone = untaken_heard _ _ _ h gone

  pub look_untaken : (held : Option History) → (refusal ≡ Take.Missing → held ≡ None) → LookHeard held e logs logs
  look_untaken None gone = (refl, untaken_unlogged name refusal e untaken)
  look_untaken (Some h) gone = untaken_heard _ _ _ h gone

  pub convert_untaken : (limit : ℕ) (held : Option History) → (refusal ≡ Take.Missing → held ≡ None) → ConvertHeard limit held e logs logs
  convert_untaken limit None gone = (refl, untaken_unlogged name refusal e untaken)
  convert_untaken limit (Some h) gone = untaken_heard _ _ _ h gone

  pub merge_untaken : (limit : ℕ) (held : Option History) → (refusal ≡ Take.Missing → held ≡ None) → MergeHeard limit held e logs logs
  merge_untaken limit None gone = (refl, untaken_unlogged name refusal e untaken)
  merge_untaken limit (Some h) gone = untaken_heard _ _ _ h gone

  pub move_untaken : (limit : ℕ) (held : Option History) → (refusal ≡ Take.Missing → held ≡ None) → MoveHeard limit held e logs logs
  move_untaken limit None gone = (refl, untaken_unlogged name refusal e untaken)
  move_untaken limit (Some h) gone = untaken_heard _ _ _ h gone

  pub print_untaken : (limit : ℕ) (held : Option History) → (refusal ≡ Take.Missing → held ≡ None) → PrintHeard limit held e logs logs
  print_untaken limit None gone = (refl, untaken_unlogged name refusal e untaken)
  print_untaken limit (Some h) gone = untaken_heard _ _ _ h gone

  pub open_untaken : (held : Option History) → (refusal ≡ Take.Missing → held ≡ None) → OpenHeard held e logs logs
  open_untaken None gone = (refl, untaken_unlogged name refusal e untaken)
  open_untaken (Some h) gone = untaken_heard _ _ _ h gone

  pub copied_untaken : (held : Option History) → (refusal ≡ Take.Missing → held ≡ None) → CopiedHeard held e logs logs
  copied_untaken None gone = (refl, untaken_unlogged name refusal e untaken)
  copied_untaken (Some h) gone = untaken_heard _ _ _ h gone

-- a file that was taken is what was held at its name
pub act_taken : (limit : ℕ) (held given : Option History) (h k : History) (e : Ending) (old new : List Logged) → held ≡ Some h → given ≡ Some k → ActedHeard limit (seen h) (length (seen k)) e old new → ActHeard limit held given e old new
act_taken limit held given h k e old new there is heard = subst (λ (q : Option History × Option History). ActHeard limit q.0 q.1 e old new) (λ j. (sym there j, sym is j)) heard

-- no log refuses a printing
pub print_unlogged : (e : Ending) → PrintEnds e → e ≡ E.LogFault → ⊥
print_unlogged e ends is = subst PrintEnds is ends

-- what is heard of a file that was opened is the same however the command ends
halt_no_reply : (halt : Halt) (reply : Reply) → E.Replied reply ≡ of_halt halt → ⊥
halt_no_reply (H.Refused refusal) reply is = cc
halt_no_reply H.Device reply is = cc
halt_no_reply H.Memory reply is = cc
halt_no_reply H.Log reply is = cc

pub opened_as : (held : Option History) (reply : Reply) (e : Ending) (old new : List Logged) → (e ≡ E.LogFault → ⊥) → OpenHeard held (E.Replied reply) old new → OpenHeard held e old new
opened_as None reply e old new other heard = (heard.0, other)
opened_as (Some h) reply e old new other (heard_nothing (inl is) same) = cc
opened_as (Some h) reply e old new other (heard_nothing (inr is) same) = cc
opened_as (Some h) reply e old new other (heard_halt halt is opened) = absurd (halt_no_reply halt reply is)
opened_as (Some h) reply e old new other (heard_more o mid counted opened told) = heard_more o mid counted opened (subst (λ l. ToldFor e [] mid l) (sym told) (told_none e mid other))

-- and so it is of a copy that was made
pub copied_as : (held : Option History) (e : Ending) (old new : List Logged) → (e ≡ E.Replied Verified) ⊎ (e ≡ E.DeviceFault) ⊎ (e ≡ E.NoMemory) → CopiedHeard held (E.Replied Copied) old new → CopiedHeard held e old new
copied_as None e old new how heard = (heard.0, other how)
  where
    other : (e ≡ E.Replied Verified) ⊎ (e ≡ E.DeviceFault) ⊎ (e ≡ E.NoMemory) → e ≡ E.LogFault → ⊥
    other (inl is) logged = let both : E.Replied Verified ≡ E.LogFault = sym is ∙ logged in cc
    other (inr (inl is)) logged = let both : E.DeviceFault ≡ E.LogFault = sym is ∙ logged in cc
    other (inr (inr is)) logged = let both : E.NoMemory ≡ E.LogFault = sym is ∙ logged in cc
copied_as (Some h) e old new how (heard_nothing (inl is) same) = cc
copied_as (Some h) e old new how (heard_nothing (inr is) same) = cc
copied_as (Some h) e old new how (heard_halt halt is opened) = absurd (halt_no_reply halt Copied is)
copied_as (Some h) e old new how (heard_more o mid counted opened told) = heard_more o mid counted opened (made_as (opened_bytes (seen h)) e mid new how (made_told (opened_bytes (seen h)) mid new told))

pub opened_below_as : (limit : ℕ) (held : Option History) (reply : Reply) (e : Ending) (old new : List Logged) → (e ≡ E.LogFault → ⊥) → PrintHeard limit held (E.Replied reply) old new → PrintHeard limit held e old new
opened_below_as limit None reply e old new other heard = (heard.0, other)
opened_below_as limit (Some h) reply e old new other (heard_nothing (inl is) same) = cc
opened_below_as limit (Some h) reply e old new other (heard_nothing (inr is) same) = cc
opened_below_as limit (Some h) reply e old new other (heard_halt halt is opened) = absurd (halt_no_reply halt reply is)
opened_below_as limit (Some h) reply e old new other (heard_more o mid counted opened told) = heard_more o mid counted opened (subst (λ l. ToldFor e [] mid l) (sym told) (told_none e mid other))

pub converted_as : (limit : ℕ) (held : Option History) (reply : Reply) (e : Ending) (old new : List Logged) → (e ≡ E.LogFault → ⊥) → ConvertHeard limit held (E.Replied reply) old new → ConvertHeard limit held e old new
converted_as limit None reply e old new other heard = (heard.0, other)
converted_as limit (Some h) reply e old new other (heard_nothing (inl is) same) = cc
converted_as limit (Some h) reply e old new other (heard_nothing (inr is) same) = cc
converted_as limit (Some h) reply e old new other (heard_halt halt is opened) = absurd (halt_no_reply halt reply is)
converted_as limit (Some h) reply e old new other (heard_more o mid counted opened told) = heard_more o mid counted opened (subst (λ l. ToldFor e [] mid l) (sym told) (told_none e mid other))

-- want of memory before a file is opened tells nothing of it
pub look_wanting : (held : Option History) (logs : List Logged) → LookHeard held E.NoMemory logs logs
look_wanting None logs = (refl, λ is. cc)
look_wanting (Some h) logs = heard_nothing (inr refl) refl

pub convert_wanting : (limit : ℕ) (held : Option History) (logs : List Logged) → ConvertHeard limit held E.NoMemory logs logs
convert_wanting limit None logs = (refl, λ is. cc)
convert_wanting limit (Some h) logs = heard_nothing (inr refl) refl

pub merge_wanting : (limit : ℕ) (held : Option History) (logs : List Logged) → MergeHeard limit held E.NoMemory logs logs
merge_wanting limit None logs = (refl, λ is. cc)
merge_wanting limit (Some h) logs = heard_nothing (inr refl) refl

pub move_wanting : (limit : ℕ) (held : Option History) (logs : List Logged) → MoveHeard limit held E.NoMemory logs logs
move_wanting limit None logs = (refl, λ is. cc)
move_wanting limit (Some h) logs = heard_nothing (inr refl) refl

pub print_wanting : (limit : ℕ) (held : Option History) (logs : List Logged) → PrintHeard limit held E.NoMemory logs logs
print_wanting limit None logs = (refl, λ is. cc)
print_wanting limit (Some h) logs = heard_nothing (inr refl) refl

pub open_wants : (held : Option History) (logs : List Logged) → OpenHeard held E.NoMemory logs logs
open_wants None logs = (refl, λ is. cc)
open_wants (Some h) logs = heard_nothing (inr refl) refl

pub copy_wants : (held : Option History) (logs : List Logged) → CopiedHeard held E.NoMemory logs logs
copy_wants None logs = (refl, λ is. cc)
copy_wants (Some h) logs = heard_nothing (inr refl) refl

verified_wanting : (held : Option History) (old new : List Logged) → CopiedHeard held (E.Replied Verified) old new → CopiedHeard held E.NoMemory old new
verified_wanting None old new heard = (heard.0, λ is. cc)
verified_wanting (Some h) old new (heard_nothing (inl is) same) = cc
verified_wanting (Some h) old new (heard_nothing (inr is) same) = cc
verified_wanting (Some h) old new (heard_halt halt is opened) = absurd (halt_no_reply halt Verified is)
verified_wanting (Some h) old new (heard_more o mid counted opened told) = heard_more o mid counted opened (verified_but (opened_bytes (seen h)) mid new told)

counted_wanting : (own copy : Option History) (old new : List Logged) → CountHeard own copy (E.Replied Verified) old new → CountHeard own copy E.NoMemory old new
counted_wanting own copy old new (inl heard) = inl (opened_as own Verified E.NoMemory old new (λ is. cc) heard)
counted_wanting own copy old new (inr on) = inr (on.0, on.1, on.2, on.3, verified_wanting copy on.1 new on.4)

-- a line wasn't told, and so no more was done: that a file is restored, or how many keys it has
pub line_heard : (own copy : Option History) (refused : Ending) (u : Unverified) (old new : List Logged) → tells_fault refused ≡ true → OpenHeard own refused old new → (u ≡ Ends E.NoMemory) ⊎ (u ≡ Unprinted) → CountHeard own copy (count_ending {A = Unit {0}} (Err u)) old new
line_heard own copy refused u old new tells heard (inl is) = subst (λ x. CountHeard own copy (count_ending {A = Unit {0}} (Err x)) old new) (sym is) (inr (refused, new, tells, heard, copy_wants copy new))
line_heard own copy refused u old new tells heard (inr is) = subst (λ x. CountHeard own copy (count_ending {A = Unit {0}} (Err x)) old new) (sym is) (inr (refused, new, tells, heard, copy_wants copy new))

pub count_heard : (own copy : Option History) (r : Result (Unit {0}) Unverified) (old new : List Logged) → IfErr r (λ u. (u ≡ Ends E.NoMemory) ⊎ (u ≡ Unprinted)) → CountHeard own copy (E.Replied Verified) old new → CountHeard own copy (count_ending r) old new
count_heard own copy (Ok v) old new known heard = heard
count_heard own copy (Err u) old new (inl is) heard = subst (λ x. CountHeard own copy (count_ending {A = Unit {0}} (Err x)) old new) (sym is) (counted_wanting own copy old new heard)
count_heard own copy (Err u) old new (inr is) heard = subst (λ x. CountHeard own copy (count_ending {A = Unit {0}} (Err x)) old new) (sym is) (counted_wanting own copy old new heard)

-- from what is heard of the files that are still to be backed up follows what is heard of all
abbrev pub BackupCarries : List (List ℕ) → Held → List Logged → List (List ℕ) → List Logged → Type 0
BackupCarries all held before rest between = (e : Ending) (after : List Logged) → BackupHeard rest held e between after → BackupHeard all held e before after

module _ (all : List (List ℕ)) (held : Held) (start : List Logged) (file : List ℕ) (files : List (List ℕ)) (before : List Logged) (carries : BackupCarries all held start (file ∷ files) before) where
  pub backup_on : (between : List Logged) → CopiedHeard (held file) (E.Replied Copied) before between → BackupCarries all held start files between
  backup_on between one e after rest = carries e after (inr (between, one, rest))

  pub backup_end : (e : Ending) (after : List Logged) → (e ≡ E.Replied Copied → ⊥) → CopiedHeard (held file) e before after → BackupHeard all held e start after
  backup_end e after other one = carries e after (inl (other, one))

-- and the same of those that are still to be verified
abbrev pub VerifyCarries : List ℕ → List (List ℕ) → Held → List Logged → List (List ℕ) → List Logged → Type 0
VerifyCarries suffix all held before rest between = (e : Ending) (after : List Logged) → VerifyHeard suffix rest held e between after → VerifyHeard suffix all held e before after

module _ (suffix : List ℕ) (all : List (List ℕ)) (held : Held) (start : List Logged) (file : List ℕ) (files : List (List ℕ)) (before : List Logged) (carries : VerifyCarries suffix all held start (file ∷ files) before) where
  pub verify_on : (between : List Logged) → CountHeard (held file) (held (copy_name suffix file)) (E.Replied Verified) before between → VerifyCarries suffix all held start files between
  verify_on between one e after rest = carries e after (inr (between, one, rest))

  pub verify_end : (u : Unverified) (after : List Logged) → IsKnown u → CountHeard (held file) (held (copy_name suffix file)) (count_ending {A = Unit {0}} (Err u)) before after → VerifyHeard suffix all held (count_ending {A = Unit {0}} (Err u)) start after
  verify_end (Ends e) after known one = carries e after (inl ((λ is. unverified_some e known (ap status_of is)), one))
  verify_end Unprinted after known one = carries E.NoMemory after (inl ((λ is. cc), one))

-- what is heard of a file of which nothing changed since
pub heard_at : (suffix : List ℕ) (now old : Held) (name file : List ℕ) (files : List (List ℕ)) (e : Ending) (before after : List Logged) → name ≡ file → ((other : List ℕ) → IsNameAmong true suffix (file ∷ files) other → now other ≡ old other)
    → CountHeard (now name) (now (copy_name suffix name)) e before after → CountHeard (old file) (old (copy_name suffix file)) e before after
heard_at suffix now old name file files e before after is same heard =
    subst (λ (q : Option History × Option History). CountHeard q.0 q.1 e before after)
    (λ j. ((ap now is ∙ same file (inl (inl refl))) j, (ap (λ f. now (copy_name suffix f)) is ∙ same (copy_name suffix file) (inl (inr (inl refl)))) j)) heard

-- want of memory for the words tells nothing
task_unheard : (input : Input) (task : Task) (name : List ℕ) (held : Held) (logs : List Logged) → TaskHeard input task name held held E.NoMemory logs logs
task_unheard input (On act) name held logs = of (held name)
  where
    of : (o : Option History) → ActHeard act.limit o o E.NoMemory logs logs
    of None = (refl, λ is. cc)
    of (Some h) = heard_nothing (inr refl) refl
task_unheard input (Read look) name held logs = look_wanting (held name) logs
task_unheard input Rescue name held logs = (refl, λ is. cc)
task_unheard input (Print printout limit) name held logs = print_wanting limit (held name) logs
task_unheard input (Repack limit) name held logs = print_wanting limit (held name) logs
task_unheard input (Convert new made prefix) name held logs = convert_wanting made.limit (held name) logs
task_unheard input (Mend new) name held logs = (refl, λ is. cc)
task_unheard input (Merge into prefix limit) name held logs = merge_wanting limit (held name) logs
task_unheard input (Move key into limit) name held logs = move_wanting limit (held name) logs
task_unheard input (Create form) name held logs = (refl, λ is. cc)
task_unheard input (Restore limit) name held logs = restore_wanting limit input (held name) logs
task_unheard input (Backup more suffix) name held logs = inl ((λ is. cc), copy_wants (held name) logs)
task_unheard input (Verify more suffix) name held logs = inl ((λ is. cc), inl (open_wants (held name) logs))
task_unheard input (Turns options) name held logs = of (held name)
  where
    of : (o : Option History) → TurnsHeard options o E.NoMemory logs logs
    of None = (refl, λ is. cc)
    of (Some h) = turned_nothing tt refl
task_unheard input (Session limit) name held logs = of (held name)
  where
    of : (o : Option History) → SessionHeard limit o E.NoMemory logs logs
    of None = (refl, λ is. cc)
    of (Some h) = served_halt H.Memory refl (inl refl)
task_unheard input (Generate commands seed) name held logs = inl refl

pub ask_unheard : (input : Input) (ask : Option Ask) (held : Held) (logs : List Logged) → AskHeard input ask held held E.NoMemory logs logs
ask_unheard input None held logs = (refl, λ is. cc)
ask_unheard input (Some ask) held logs = task_unheard input ask.task ask.file held logs
