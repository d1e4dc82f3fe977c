-- What a run has printed, from the text that was written first and what was written behind it.
use Rattle.std.proofs.Common.{◌≡◌, ℕ, ◌+◌, true, false, List, [], ◌∷◌, ◌++◌, length, Option, None, Some, take, Result, Ok, Err, refl, sym, ◌∙◌, ap, subst, inl, inr, arith}
use Rattle.std.specs.Prelude.{Bool, ◌&&◌, IsTrue}
use Rattle.std.proofs.lemmas.Bool.{false≢true, cases_lt}
use Rattle.std.proofs.lemmas.List.{append_assoc, take-append-le, take_all}
use Rattle.std.proofs.Math.Seq.{take-append-add, take-append_seam}
use Rattle.tdb_disk.specs.Count.{Rose, HasCause}
use Rattle.tdb_disk.specs.History.{History}
use Rattle.tdb_cmdline.specs.declared.ask.Task.{Task}
use Rattle.tdb_cmdline.specs.declared.ask.Task.TheVariants.{Create, On, Read, Rescue, Print, Repack, Restore, Backup, Verify, Convert, Merge, Mend, Move, Turns, Session, Generate}
use Rattle.tdb_answer.specs.declared.ending.Ending.{Ending}
use Rattle.tdb_answer.specs.declared.ending.Ending.TheVariants.{Replied, Refused, Missing, There, Usage, DeviceFault, InputFault, Malformed, NoMemory, LogFault}
use Rattle.tdb_answer.specs.declared.ending.Unprinted.{Unprinted}
use Rattle.tdb_answer.specs.declared.ending.Unprinted.TheVariants as Rest
use Rattle.tdb_answer.specs.declared.ending.Reply.{Reply}
use Rattle.tdb_answer.specs.declared.ending.Reply.TheVariants as R
use Rattle.tdb_cmdline.specs.declared.look.Look.{Look}
use Rattle.tdb_cmdline.specs.declared.look.Look.TheVariants.{Dump, Value}
use Rattle.tdb_cmdline.specs.Ask.{Ask}
use Rattle.tdb_answer.specs.Ending.{TakesMemory, PrintedFor, text_of}
use Rattle.tdb_answer.specs.Output.{output_by}
use Rattle.tdb_answer.specs.Looks.{LookText, StandsBefore, before_reply, rest_of, ending_of, Began}
use Rattle.tdb_cmdline.specs.declared.printout.Printout.{Printout}
use Rattle.tdb_answer.specs.Commands.Print.{PrintText}
use Rattle.tdb_answer.specs.Commands.Rescue.{RescueText}
use Rattle.tdb_answer.specs.Commands.Convert.{converted_line}
use Rattle.tdb_answer.specs.Commands.Mend.{MendText}
use Rattle.tdb_answer.specs.Commands.Session.{SessionText}
use Rattle.tdb_answer.specs.Commands.Turns.{TurnsText}
use Rattle.tdb_commands.specs.declared.options.Options.{Options}
use Rattle.tdb_answer.specs.Printed.{TaskText, TextBefore, task_tells, ask_tells, IsSilent, Finishes, Writes}
use Rattle.tdb_answer.proofs.Verifying.{front_wanting}

-- before a line that takes memory stands nothing, so nothing stands before the line that tells of its want
reply_wanting : (text written : List ℕ) (r : Reply) → TakesMemory (Replied r) → written ≡ before_reply r text → written ≡ []
reply_wanting text written R.Done takes is = is
reply_wanting text written (R.Value value) takes is = is
reply_wanting text written (R.Escaped value) takes is = is
reply_wanting text written R.Dumped takes is = absurd (false≢true takes)
reply_wanting text written R.Restored takes is = is
reply_wanting text written R.Copied takes is = absurd (false≢true takes)
reply_wanting text written R.Verified takes is = is
reply_wanting text written R.Played takes is = is
reply_wanting text written R.Closed takes is = is
reply_wanting text written (R.Generated summary) takes is = is
reply_wanting text written (R.Number n) takes is = is
reply_wanting text written (R.Pair key value) takes is = is
reply_wanting text written R.End takes is = is
reply_wanting text written R.KeyMissing takes is = is
reply_wanting text written R.KeyThere takes is = is
reply_wanting text written R.NoTransaction takes is = is
reply_wanting text written (R.Full len need) takes is = is

stands_wanting : (text written : List ℕ) (t : Ending) → TakesMemory t → StandsBefore text t written → StandsBefore text NoMemory written
stands_wanting text written (Replied r) takes stands = (0, reply_wanting text written r takes stands)
stands_wanting text written (Refused refusal) takes stands = (0, stands)
stands_wanting text written (Missing name) takes stands = (0, stands)
stands_wanting text written (There name) takes stands = (0, stands)
stands_wanting text written Usage takes stands = (0, stands)
stands_wanting text written DeviceFault takes stands = stands
stands_wanting text written InputFault takes stands = (0, stands)
stands_wanting text written (Malformed at) takes stands = (0, stands)
stands_wanting text written NoMemory takes stands = stands
stands_wanting text written LogFault takes stands = (0, stands)

-- so of turns
turns_wanting : (options : Options) (held : Option History) (written : List ℕ) (t : Ending) → TurnsText options held t written → TurnsText options held NoMemory written
turns_wanting options None written t text = text
turns_wanting options (Some h) written (Replied r) text = inr text
turns_wanting options (Some h) written (Refused refusal) text = inl text
turns_wanting options (Some h) written (Missing name) text = inl text
turns_wanting options (Some h) written (There name) text = inl text
turns_wanting options (Some h) written Usage text = inl text
turns_wanting options (Some h) written DeviceFault text = text
turns_wanting options (Some h) written InputFault text = inl text
turns_wanting options (Some h) written (Malformed at) text = inl text
turns_wanting options (Some h) written NoMemory text = text
turns_wanting options (Some h) written LogFault text = text

-- and of a session
session_wanting : (limit : ℕ) (held : Option History) (written : List ℕ) (t : Ending) → SessionText limit held t written → SessionText limit held NoMemory written
session_wanting limit None written t text = text
session_wanting limit (Some h) written (Replied r) text = inr text
session_wanting limit (Some h) written (Refused refusal) text = inl text
session_wanting limit (Some h) written (Missing name) text = inl text
session_wanting limit (Some h) written (There name) text = inl text
session_wanting limit (Some h) written Usage text = inl text
session_wanting limit (Some h) written DeviceFault text = text
session_wanting limit (Some h) written InputFault text = inr text
session_wanting limit (Some h) written (Malformed at) text = inr text
session_wanting limit (Some h) written NoMemory text = text
session_wanting limit (Some h) written LogFault text = text

look_wanting : (look : Look) (held : Option History) (written : List ℕ) (t : Ending) → TakesMemory t → LookText look held t written → LookText look held NoMemory written
look_wanting (Value key) held written t takes text = text
look_wanting Dump None written t takes text = text
look_wanting Dump (Some h) written t takes text = stands_wanting _ written t takes text

print_wanting : (printout : Printout) (held : Option History) (written : List ℕ) (t : Ending) → TakesMemory t → PrintText printout held t written → PrintText printout held NoMemory written
print_wanting printout None written t takes text = text
print_wanting printout (Some h) written t takes text = stands_wanting _ written t takes text

rescue_wanting : (held : Option History) (written : List ℕ) (t : Ending) → TakesMemory t → RescueText held t written → RescueText held NoMemory written
rescue_wanting None written t takes text = text
rescue_wanting (Some h) written t takes text = stands_wanting _ written t takes text

mend_wanting : (held : Option History) (written : List ℕ) (t : Ending) → TakesMemory t → MendText held t written → MendText held NoMemory written
mend_wanting None written t takes text = text
mend_wanting (Some h) written t takes text = stands_wanting _ written t takes text

task_wanting : (task : Task) (name : List ℕ) (held : List ℕ → Option History) (written : List ℕ) (t : Ending) → TakesMemory t → TaskText task name held t written → TaskText task name held NoMemory written
task_wanting (On act) name held written t takes text = text
task_wanting (Create form) name held written t takes text = text
task_wanting (Restore limit) name held written t takes text = text
task_wanting (Backup more suffix) name held written t takes text = text
task_wanting (Verify more suffix) name held written t takes text = front_wanting suffix (name ∷ more) held t written text
task_wanting (Turns options) name held written t takes text = turns_wanting options (held name) written t text
task_wanting (Session limit) name held written t takes text = session_wanting limit (held name) written t text
task_wanting (Generate commands seed) name held written t takes text = text
task_wanting (Read look) name held written t takes text = look_wanting look (held name) written t takes text
task_wanting Rescue name held written t takes text = rescue_wanting (held name) written t takes text
task_wanting (Print printout limit) name held written t takes text = print_wanting printout (held name) written t takes text
task_wanting (Repack limit) name held written t takes text = text
task_wanting (Convert new made prefix) name held written t takes text = stands_wanting converted_line written t takes text
task_wanting (Mend new) name held written t takes text = mend_wanting (held name) written t takes text
task_wanting (Merge into prefix limit) name held written t takes text = text
task_wanting (Move key into limit) name held written t takes text = text

text_wanting : (ask : Option Ask) (held : List ℕ → Option History) (written : List ℕ) (t : Ending) → TakesMemory t → TextBefore ask held t written → TextBefore ask held NoMemory written
text_wanting None held written t takes text = text
text_wanting (Some ask) held written t takes text = task_wanting ask.task ask.file held written t takes text

-- nothing may stand before the line that tells of want of memory
look_nothing : (look : Look) (held : Option History) → LookText look held NoMemory []
look_nothing (Value key) held = refl
look_nothing Dump None = refl
look_nothing Dump (Some h) = (0, refl)

print_nothing : (printout : Printout) (held : Option History) → PrintText printout held NoMemory []
print_nothing printout None = refl
print_nothing printout (Some h) = (0, refl)

turns_nothing : (options : Options) (held : Option History) → TurnsText options held NoMemory []
turns_nothing options None = refl
turns_nothing options (Some h) = inl refl

session_nothing : (limit : ℕ) (held : Option History) → SessionText limit held NoMemory []
session_nothing limit None = refl
session_nothing limit (Some h) = inl refl

rescue_nothing : (held : Option History) → RescueText held NoMemory []
rescue_nothing None = refl
rescue_nothing (Some h) = (0, refl)

mend_nothing : (held : Option History) → MendText held NoMemory []
mend_nothing None = refl
mend_nothing (Some h) = (0, refl)

task_nothing : (task : Task) (name : List ℕ) (held : List ℕ → Option History) → TaskText task name held NoMemory []
task_nothing (On act) name held = refl
task_nothing (Create form) name held = refl
task_nothing (Restore limit) name held = refl
task_nothing (Backup more suffix) name held = refl
task_nothing (Verify more suffix) name held = inr (inr (inl refl), inl (inl refl))
task_nothing (Turns options) name held = turns_nothing options (held name)
task_nothing (Session limit) name held = session_nothing limit (held name)
task_nothing (Generate commands seed) name held = refl
task_nothing (Read look) name held = look_nothing look (held name)
task_nothing Rescue name held = rescue_nothing (held name)
task_nothing (Print printout limit) name held = print_nothing printout (held name)
task_nothing (Repack limit) name held = refl
task_nothing (Convert new made prefix) name held = (0, refl)
task_nothing (Mend new) name held = mend_nothing (held name)
task_nothing (Merge into prefix limit) name held = refl
task_nothing (Move key into limit) name held = refl

pub nothing_before : (ask : Option Ask) (held : List ℕ → Option History) → TextBefore ask held NoMemory []
nothing_before None held = refl
nothing_before (Some ask) held = task_nothing ask.task ask.file held

-- so what was written before the line of the ending that was found stands before the line that is printed
text_printed : (ask : Option Ask) (held : List ℕ → Option History) (written : List ℕ) (e t : Ending) → PrintedFor e t → TextBefore ask held t written → TextBefore ask held e written
text_printed ask held written e t (inl same) text = subst (λ x. TextBefore ask held x written) (sym same) text
text_printed ask held written e t (inr want) text = subst (λ x. TextBefore ask held x written) (sym want.0) (text_wanting ask held written t want.1 text)

-- where it is told what a run prints, the output tells
and_left : (a b : Bool) → IsTrue (a && b) → IsTrue a
and_left true b h = refl
and_left false b h = h

task_heard : (task : Task) (files output : Bool) → IsTrue (task_tells task files output) → IsTrue output
task_heard (On act) files output told = told
task_heard (Create form) files output told = told
task_heard (Restore limit) files output told = told
task_heard (Backup more suffix) files output told = told
task_heard (Verify more suffix) files output told = and_left output files told
task_heard (Turns options) files output told = and_left output files told
task_heard (Session limit) files output told = and_left output files told
task_heard (Generate commands seed) files output told = told
task_heard Rescue files output told = and_left output files told
task_heard (Print printout limit) files output told = and_left output files told
task_heard (Repack limit) files output told = told
task_heard (Convert new made prefix) files output told = told
task_heard (Mend new) files output told = and_left output files told
task_heard (Merge into prefix limit) files output told = told
task_heard (Move key into limit) files output told = told
task_heard (Read (Value key)) files output told = told
task_heard (Read Dump) files output told = and_left output files told

heard : (ask : Option Ask) (files output : Bool) → IsTrue (ask_tells ask files output) → IsTrue output
heard None files output told = told
heard (Some ask) files output told = task_heard ask.task files output told

-- an ending that writes nothing has no text, and that of a dump isn't one
silent_text : (e : Ending) → IsSilent e → text_of e ≡ []
silent_text e (inl is) = ap text_of is
silent_text e (inr (inl is)) = ap text_of is
silent_text e (inr (inr (inl is))) = ap text_of is
silent_text e (inr (inr (inr is))) = ap text_of is

-- a front of a list is one of a longer list
front_of_more : (xs ys : List ℕ) (n : ℕ) → (m : ℕ) × (take m (xs ++ ys) ≡ take n xs)
front_of_more xs ys n = elim (cases_lt n (length xs)) [
  | inl lt ↦ (n, take-append-le n xs ys (omega arith))
  | inr le ↦ (length xs, take-append_seam xs ys ∙ sym (take_all n xs le))
]

-- what is left to be told is written
rest_tells : (rest : Unprinted) → IsSilent (rest_of rest) → ⊥
rest_tells Rest.Pairs (inl is) = cc
rest_tells Rest.Pairs (inr (inl is)) = cc
rest_tells Rest.Pairs (inr (inr (inl is))) = cc
rest_tells Rest.Pairs (inr (inr (inr is))) = cc
rest_tells Rest.Report (inl is) = cc
rest_tells Rest.Report (inr (inl is)) = cc
rest_tells Rest.Report (inr (inr (inl is))) = cc
rest_tells Rest.Report (inr (inr (inr is))) = cc
rest_tells Rest.Fault (inl is) = cc
rest_tells Rest.Fault (inr (inl is)) = cc
rest_tells Rest.Fault (inr (inr (inl is))) = cc
rest_tells Rest.Fault (inr (inr (inr is))) = cc
rest_tells Rest.Files (inl is) = cc
rest_tells Rest.Files (inr (inl is)) = cc
rest_tells Rest.Files (inr (inr (inl is))) = cc
rest_tells Rest.Files (inr (inr (inr is))) = cc

module _ (ask : Option Ask) (held : List ℕ → Option History) (files tells : Bool) (before mid after : List ℕ) (start middle last : ℕ) where
  abbrev Text : Ending → List ℕ → Type 0
  Text = TextBefore ask held

  -- the text, and then the line or a part of it; or a part of the text, where the output failed in it
  pub written : (r : Result Ending Unprinted) (e : Ending) (status : ℕ) → PrintedFor e (ending_of r)
      → (IsTrue (ask_tells ask files tells) → Began (TextBefore ask held) before mid r) → HasCause start middle r → Finishes r (output_by tells mid after middle last) e status
      → Writes (ask_tells ask files tells) (output_by tells before after start last) (TextBefore ask held) e status
  written (Ok found) e status printed began cause (inl all) = inl (record {
    exits = all.exits;
    sound = all.sound ∙ cause.done;
    written = λ told.
        (let b = began told in
        (b.0, text_printed ask held b.0 e found printed b.1, all.written (heard ask files tells told) ∙ ap (λ x. x ++ text_of e) b.2));
  })
  written (Ok found) e status printed began cause (inr part) = inr (record {
    writes = λ silent. part.some (silent_text e silent);
    exits = part.exits;
    failed = subst (λ n. Rose n last) cause.done part.failed;
    written = λ told.
        (let b = began told in
        let p = part.written (heard ask files tells told) in (
          b.0,
          text_printed ask held b.0 e found printed b.1,
          length b.0 + p.0,
          p.1 ∙ ap (λ x. x ++ take p.0 (text_of e)) b.2 ∙ append_assoc before b.0 (take p.0 (text_of e)) ∙ ap (λ x. before ++ x) (sym (take-append-add b.0 (text_of e) p.0)),
        ));
  })
  written (Err fault) e status printed began cause done = inr (record {
    writes = λ silent. rest_tells fault (subst IsSilent done.0 silent);
    exits = done.1;
    failed = subst (λ n. Rose start n) (sym done.3) cause.failed;
    written = λ told.
        (let b = began told in
        let front = front_of_more b.0 (text_of e) b.2 in (
          b.0,
          subst (λ x. TextBefore ask held x b.0) (sym done.0) b.1,
          front.0,
          done.2 ∙ b.3 ∙ ap (λ x. before ++ x) (sym front.1),
        ));
  })
