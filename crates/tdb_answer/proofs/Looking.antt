-- What a look into a file gives, from what its parts gave.
use Rattle.std.proofs.Common.{◌≡◌, ℕ, ◌<◌, ◌≤◌, List, [], Option, None, Some, Result, Ok, Err, refl, sym, ◌∙◌, ap, subst, inl, inr, arith}
use Rattle.std.proofs.lemmas.List.{append-nil}
use Rattle.tdb_disk.specs.Count.{Rose}
use Rattle.tdb_disk.specs.History.{History, seen}
use Rattle.tdb_disk.specs.declared.files.TakeRefusal.{TakeRefusal}
use Rattle.tdb_disk.specs.declared.files.TakeRefusal.TheVariants as Take
use Rattle.tdb_cmdline.specs.declared.ask.Task.TheVariants.{Read}
use Rattle.tdb_dump.specs.declared.listing.Listing.TheVariants.{Pairs}
use Rattle.tdb_answer.specs.declared.ending.Ending.{Ending}
use Rattle.tdb_answer.specs.declared.ending.Unprinted.{Unprinted}
use Rattle.tdb_answer.specs.declared.ending.Ending.TheVariants as E
use Rattle.tdb_cmdline.specs.declared.look.Look.{Look}
use Rattle.tdb_cmdline.specs.declared.look.Look.TheVariants.{Dump, Value}
use Rattle.tdb_answer.specs.Ending.{TaskDue, TaskCause, task_due, task_failed, task_wanting, task_unlogged, CountedBy, Untaken}
use Rattle.tdb_answer.specs.Looks.{LookEnds, LookText, StandsBefore, Began}
use Rattle.tdb_answer.specs.Commands.Dump.{pairs_text}
use Rattle.tdb_answer.specs.Commands.Print.{PrintEnds}
use Rattle.tdb_open.specs.Opening.{CanRead}

-- how a look ended is why its task ends so
pub look_cause : (look : Look) (name : List ℕ) (h : History) (held : Option History) (before after : ℕ) (e : Ending) → held ≡ Some h → LookEnds look (seen h) e → CountedBy before after e → TaskCause (Read look) name held before after e
look_cause look name h held before after (E.Replied reply) there ends counted =
    task_due (E.Replied reply) (subst (λ o. TaskDue (Read look) name o (E.Replied reply)) (sym there) (inl (record { can_read = ends.0; replied = ap E.Replied ends.1 })))
look_cause look name h held before after (E.Refused refusal) there ends counted =
    task_due (E.Refused refusal) (subst (λ o. TaskDue (Read look) name o (E.Refused refusal)) (sym there) (inr (record { refusal = refusal; right = ends; refused = refl })))
look_cause look name h held before after E.DeviceFault there ends counted = task_failed (counted.failed refl)
look_cause look name h held before after E.NoMemory there ends counted = task_wanting
look_cause look name h held before after E.LogFault there ends counted = task_unlogged
look_cause look name h held before after (E.Missing n) there ends counted = absurd ends
look_cause look name h held before after (E.There n) there ends counted = absurd ends
look_cause look name h held before after E.Usage there ends counted = absurd ends
look_cause look name h held before after E.InputFault there ends counted = absurd ends
look_cause look name h held before after (E.Malformed at) there ends counted = absurd ends

-- nothing was written
pub nothing : (Text : Ending → List ℕ → Type 0) (e : Ending) (written : List ℕ) → Text e [] → Began Text written written (Ok e)
nothing Text e written none = ([], none, sym (append-nil written))

-- before the line of a file that wasn't taken nothing stands
pub untaken_stands : (text name : List ℕ) (refusal : TakeRefusal) (e : Ending) → Untaken name refusal e → StandsBefore text e []
untaken_stands text name Take.Missing e (inl is) = subst (λ x. StandsBefore text x []) (sym is) refl
untaken_stands text name Take.Missing e (inr is) = subst (λ x. StandsBefore text x []) (sym is) (0, refl)
untaken_stands text name Take.There e (inl is) = subst (λ x. StandsBefore text x []) (sym is) refl
untaken_stands text name Take.There e (inr is) = subst (λ x. StandsBefore text x []) (sym is) (0, refl)
untaken_stands text name Take.Failed e is = subst (λ x. StandsBefore text x []) (sym is) (0, refl)
untaken_stands text name Take.Memory e is = subst (λ x. StandsBefore text x []) (sym is) (0, refl)

pub untaken_text : (look : Look) (held : Option History) (name : List ℕ) (refusal : TakeRefusal) (e : Ending) → Untaken name refusal e → LookText look held e []
untaken_text (Value key) held name refusal e is = refl
untaken_text Dump None name refusal e is = refl
untaken_text Dump (Some h) name refusal e is = untaken_stands (pairs_text Pairs (seen h)) name refusal e is

-- a dump ends as its printing does
pub dump_ends : (img : List ℕ) (e : Ending) → CanRead img → PrintEnds e → LookEnds Dump img e
dump_ends img (E.Replied reply) can ends = (can, ends)
dump_ends img E.DeviceFault can ends = tt
dump_ends img E.NoMemory can ends = tt
dump_ends img E.LogFault can ends = tt
dump_ends img (E.Refused refusal) can ends = absurd ends
dump_ends img (E.Missing name) can ends = absurd ends
dump_ends img (E.There name) can ends = absurd ends
dump_ends img E.Usage can ends = absurd ends
dump_ends img E.InputFault can ends = absurd ends
dump_ends img (E.Malformed at) can ends = absurd ends

-- how often the files failed, by how often the disk did that was taken and given back
pub files_counted : (before mid now start last : ℕ) (e : Ending) → mid ≡ before → start ≡ 0 → CountedBy start last e → (last ≡ 0 → now ≡ mid) → (0 < last → Rose mid now) → mid ≤ now → CountedBy before now e
files_counted before mid now start last e took fresh counted sound faulty later = record {
  never_falls = omega (arith, took, later);
  failed = λ is.
      (let rose = counted.failed is in
      let some : 0 < last = omega (arith, rose, fresh) in
      subst (λ n. Rose n now) took (faulty some));
  sound = λ other. sound (counted.sound other ∙ fresh) ∙ took;
}

-- what was written is told in other words
pub began_as : (T U : Ending → List ℕ → Type 0) (before now : List ℕ) (r : Result Ending Unprinted) → ((e : Ending) (text : List ℕ) → T e text → U e text) → Began T before now r → Began U before now r
began_as T U before now (Ok e) more began = (began.0, more e began.0 began.1, began.2)
began_as T U before now (Err rest) more began = (began.0, more _ began.0 began.1, began.2, began.3)
