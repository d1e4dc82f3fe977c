-- What answering words leads to, before the line of the ending is printed.
use Rattle.std.specs.Prelude.{◌≡◌, ◌⊎◌, ℕ, List, Option, None, Some, Bool, false, IsTrue, Result, Ok, OnErr}
use Rattle.tdb_disk.specs.Count.{HasCause, Rose}
use Rattle.tdb_cmdline.specs.Ask.{Ask}
use Rattle.tdb_cmdline.specs.declared.ask.Task.TheVariants.{Turns, Session}
use Rattle.tdb_commands.specs.declared.options.Options.{Options}
use Rattle.tdb_answer.specs.declared.ending.Ending.{Ending}
use Rattle.tdb_answer.specs.declared.ending.Ending.TheVariants.{Replied, Usage, NoMemory}
use Rattle.tdb_answer.specs.declared.ending.Reply.TheVariants.{Played}
use Rattle.tdb_answer.specs.declared.ending.Unprinted.{Unprinted}
use Rattle.tdb_answer.specs.Commands.Restore.{HeardBy, of_input}
use Rattle.tdb_answer.specs.Commands.Session.{SessionHeld}
use Rattle.tdb_answer.specs.Commands.Turns.{AllPlayed}
use Rattle.tdb_answer.specs.Ending.{CountedAsked}
use Rattle.tdb_answer.specs.Heard.{AskHeard}
use Rattle.tdb_answer.specs.Left.{Leaving}
use Rattle.tdb_answer.specs.Looks.{ending_of, Began}
use Rattle.tdb_answer.specs.Printed.{TextBefore, ask_tells}
use Rattle.tdb_answer.specs.Reads.{ask_reads}
use Rattle.tdb_answer.specs.Run.{MayEnd}
use Rattle.tdb_answer.specs.Stops.{SaysAllLines, StopsScripted}
use Rattle.tdb_top.specs.Outside.{Outside, input_between, output_between}

-- What the words ask for was answered between two moments, by files that tell what they hold or don't, an input and an
-- output. The ending has its cause, and the files are left as it says. What was printed is the text before its line. Of
-- turns and of a session it is said what stops leave, and what was done. The logs are told it. Failed calls are told,
-- and the usage is answered exactly where the words ask for nothing, but for want of memory.
pub record AnsweredWords (tells input_tells output_tells : Bool) (ask : Option Ask) (before after : Outside) (answer : Result Ending Unprinted) : Type 0 where
  pub cause : IsTrue tells → MayEnd ask before.held (input_between input_tells before after) before.faults after.faults (ending_of answer)
  pub left : IsTrue tells → Leaving (input_between input_tells before after) ask before.held (ending_of answer) after.held
  pub began : IsTrue (ask_tells ask tells output_tells) → Began (TextBefore ask before.held) before.written after.written answer
  pub played : (options : Options) (name : List ℕ) → ask ≡ Some (record { file = name; task = Turns options }) → IsTrue tells → answer ≡ Ok (Replied Played)
      → AllPlayed options (input_between input_tells before after) (output_between output_tells before after) before.logs after.logs (before.held name) (after.held name)
  pub stops : (options : Options) (name : List ℕ) → ask ≡ Some (record { file = name; task = Turns options }) → IsTrue tells
      → StopsScripted (input_between input_tells before after) options (before.held name) (after.held name) output_tells (SaysAllLines answer) (OnErr answer ⊥)
      (Rose before.faults after.faults → ⊥) before.written after.written
  pub served : (limit : ℕ) (name : List ℕ) → ask ≡ Some (record { file = name; task = Session limit }) → IsTrue tells
      → SessionHeld limit (input_between input_tells before after) (before.held name) (after.held name) output_tells before.written after.written before.logs after.logs answer
  pub told : IsTrue tells → AskHeard (input_between input_tells before after) ask before.held after.held (ending_of answer) before.logs after.logs
  pub counted : CountedAsked tells ask before.faults after.faults (ending_of answer)
  pub output_cause : HasCause before.write_faults after.write_faults answer
  pub heard : HeardBy before.read_faults after.read_faults (ending_of answer)
  pub unread : ask_reads ask ≡ false → of_input (ending_of answer) ≡ false
  pub usage : ending_of answer ≡ Usage → ask ≡ None
  pub usage_exact : ask ≡ None → (ending_of answer ≡ Usage) ⊎ (ending_of answer ≡ NoMemory)
