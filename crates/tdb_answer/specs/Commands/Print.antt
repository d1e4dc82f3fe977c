-- The commands that print what a file holds: its pairs or its keys, its summary, its chains or its free list.
use Rattle.std.specs.Prelude.{◌≡◌, ◌≤◌, ℕ, Option, None, Some, List, [], length}
use Rattle.tdb_disk.specs.History.{History, seen}
use Rattle.tdb_space.specs.Form.{form_of}
use Rattle.tdb_rewrite.specs.Text.{chains_text, free_text, info_text}
use Rattle.tdb_cmdline.specs.declared.printout.Printout.{Printout}
use Rattle.tdb_cmdline.specs.declared.printout.Printout.TheVariants.{Pairs, Summary, Chains, FreeList}
use Rattle.tdb_answer.specs.declared.ending.Ending.{Ending}
use Rattle.tdb_answer.specs.declared.ending.Ending.TheVariants.{Replied, Refused, DeviceFault, NoMemory, LogFault}
use Rattle.tdb_answer.specs.declared.ending.Reply.TheVariants.{Dumped}
use Rattle.tdb_answer.specs.Commands.Dump.{pairs_text}
use Rattle.tdb_answer.specs.Looks.{StandsBefore}
use Rattle.tdb_open.specs.Opening.{opened_bytes, CanOpen, UndoneIfOpen, SameOrUndone, LookBroken, IsRefusedBelow, OpenedBelow}

-- how the printing of an opened file ends: all was printed, or a call failed or memory was wanting
abbrev pub PrintEnds : Ending → Type 0
PrintEnds (Replied reply) = reply ≡ Dumped
PrintEnds DeviceFault = Unit {0}
PrintEnds NoMemory = Unit {0}
PrintEnds _ = ⊥

-- What it leaves of a file that has to be opened first and may have so many bytes, where it ends so: the file as its
-- opening leaves it. It is printed of a file that has no more and can be opened.
abbrev pub PrintLeft : ℕ → History → Ending → History → Type 0
PrintLeft limit old (Replied reply) now = (length (seen old) ≤ limit) × CanOpen (seen old) × (reply ≡ Dumped) × UndoneIfOpen old now
PrintLeft limit old (Refused refusal) now = IsRefusedBelow limit (seen old) refusal × OpenedBelow limit old now
PrintLeft limit old DeviceFault now = LookBroken old now
PrintLeft limit old NoMemory now = SameOrUndone old now
PrintLeft limit old LogFault now = OpenedBelow limit old now
PrintLeft limit old _ now = ⊥

-- and what it leaves at the name of its file; where none was it leaves none
abbrev pub PrintLeaves : ℕ → Option History → Ending → Option History → Type 0
PrintLeaves limit None e now = now ≡ None
PrintLeaves limit (Some old) e now = (h : History) × (now ≡ Some h) × PrintLeft limit old e h

-- what is printed of a file with these bytes: its pairs, so; or what it holds in numbers; or its chains, or its free
-- list
abbrev pub printout_text : Printout → List ℕ → List ℕ
printout_text (Pairs listing) img = pairs_text listing img
printout_text Summary img = info_text img
printout_text Chains img = chains_text (form_of img) img
printout_text FreeList img = free_text (form_of img) img

-- what is printed before the line of an ending, by what is held at the name of the file: this of what that is read as
abbrev pub PrintText : Printout → Option History → Ending → List ℕ → Type 0
PrintText printout None e written = written ≡ []
PrintText printout (Some h) e written = StandsBefore (printout_text printout (opened_bytes (seen h))) e written
