-- The script on the input.
use Rattle.std.specs.Prelude.{ℕ, List}
use Rattle.tdb_script.specs.Script.{BadAt}
use Rattle.tdb_script.specs.declared.script.ScriptRefusal as Script
use Rattle.tdb_answer.specs.declared.ending.Ending.{Ending}
use Rattle.tdb_answer.specs.declared.ending.Ending.TheVariants as Ends
use Rattle.tdb_answer.specs.declared.scripts.ScriptFault.{ScriptFault}
use Rattle.tdb_answer.specs.declared.scripts.ScriptFault.TheVariants.{Input, Malformed, Memory}

-- why a text gives no plays: it stops being a script at a place; for the other causes nothing is said of it
abbrev pub IsUnscripted : List ℕ → ScriptFault → Type 0
IsUnscripted text Input = Unit {0}
IsUnscripted text (Malformed at) = BadAt text at
IsUnscripted text Memory = Unit {0}

-- the fault of a text that isn't read as a script
abbrev pub of_script : Script.ScriptRefusal → ScriptFault
of_script (Script.TheVariants.Malformed at) = Malformed at
of_script Script.TheVariants.Memory = Memory

-- the ending of turns whose script has this fault
abbrev pub unscripted : ScriptFault → Ending
unscripted Input = Ends.InputFault
unscripted (Malformed at) = Ends.Malformed at
unscripted Memory = Ends.NoMemory
