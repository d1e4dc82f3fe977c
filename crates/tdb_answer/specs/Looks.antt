-- What the commands do that read a file alone: what each replies, and what it prints before that.
use Rattle.std.specs.Prelude.{◌≡◌, ◌++◌, ℕ, Bool, ◌&&◌, Option, None, Some, List, [], take, Result, Ok, Err}
use Rattle.tdb_disk.specs.History.{History, seen}
use Rattle.tdb_cmdline.specs.declared.look.Look.{Look}
use Rattle.tdb_cmdline.specs.declared.look.Look.TheVariants.{Dump, Value}
use Rattle.tdb_dump.specs.declared.listing.Listing.TheVariants.{Pairs}
use Rattle.tdb_answer.specs.declared.ending.Ending.{Ending}
use Rattle.tdb_answer.specs.declared.ending.Ending.TheVariants.{Replied, Refused, Missing, There, Usage, DeviceFault, InputFault, Malformed, NoMemory, LogFault}
use Rattle.tdb_answer.specs.declared.ending.Unprinted.{Unprinted}
use Rattle.tdb_answer.specs.declared.ending.Unprinted.TheVariants as Rest
use Rattle.tdb_answer.specs.declared.ending.Reply.{Reply}
use Rattle.tdb_answer.specs.declared.ending.Reply.TheVariants.{Copied, Dumped, Played}
use Rattle.tdb_open.specs.Opening.{CanRead, IsRefusedToRead}
use Rattle.tdb_answer.specs.Commands.Dump.{value_reply, pairs_text}

-- what a look replies over a file with these bytes
abbrev pub look_reply : Look → List ℕ → Reply
look_reply Dump img = Dumped
look_reply (Value key) img = value_reply key img

-- How a look into a file with these bytes ends: a reply over a file that can be read, a refusal, or a fault or want of
-- memory. It doesn't end as other tasks do.
abbrev pub LookEnds : Look → List ℕ → Ending → Type 0
LookEnds look img (Replied reply) = CanRead img × (reply ≡ look_reply look img)
LookEnds look img (Refused refusal) = IsRefusedToRead img refusal
LookEnds look img DeviceFault = Unit {0}
LookEnds look img NoMemory = Unit {0}
LookEnds look img LogFault = Unit {0}
LookEnds look img (Missing name) = ⊥
LookEnds look img (There name) = ⊥
LookEnds look img Usage = ⊥
LookEnds look img InputFault = ⊥
LookEnds look img (Malformed at) = ⊥

-- what of a text stands before the line of a reply: all of it before the ones for which no line is written any more
abbrev pub before_reply : Reply → List ℕ → List ℕ
before_reply Dumped text = text
before_reply Copied text = text
before_reply _ text = []

-- What may stand of a text before the line of an ending: some bytes, from its first one on, where a call failed or
-- memory was wanting; and nothing before a line that isn't a reply's.
abbrev pub StandsBefore : List ℕ → Ending → List ℕ → Type 0
StandsBefore text (Replied reply) written = written ≡ before_reply reply text
StandsBefore text DeviceFault written = (n : ℕ) × (written ≡ take n text)
StandsBefore text NoMemory written = (n : ℕ) × (written ≡ take n text)
StandsBefore text LogFault written = written ≡ []
StandsBefore text _ written = written ≡ []

-- what a look prints before its line, by what is held at the name of its file: a dump the text of all pairs
abbrev pub LookText : Look → Option History → Ending → List ℕ → Type 0
LookText Dump None e written = written ≡ []
LookText Dump (Some h) e written = StandsBefore (pairs_text Pairs (seen h)) e written
LookText (Value key) held e written = written ≡ []

-- whether it is told what a look prints before its line: a dump prints what the file holds, where its disk tells that
abbrev pub look_tells : Look → Bool → Bool → Bool
look_tells Dump files output = output && files
look_tells (Value key) files output = output

-- What was left to be told where the output failed: that all was printed, or that a call of a disk failed. How a
-- verification of the files would have ended that weren't looked at isn't known, so that it ends as one for which
-- memory was wanting: that may come at any file, and says nothing of those behind it. So ends a conversion whose new
-- file is removed again.
abbrev pub rest_of : Unprinted → Ending
rest_of Rest.Pairs = Replied Dumped
rest_of Rest.Report = Replied Played
rest_of Rest.Fault = DeviceFault
rest_of Rest.Files = NoMemory

-- how it ended that wrote to the output
abbrev pub ending_of : Result Ending Unprinted → Ending
ending_of (Ok e) = e
ending_of (Err unprinted) = rest_of unprinted

-- What was written before the line of an ending, behind what was there; where the output failed, a part of it, from the
-- first byte on.
abbrev pub Began : (Ending → List ℕ → Type 0) → List ℕ → List ℕ → Result Ending Unprinted → Type 0
Began Text before now (Ok e) = (text : List ℕ) × Text e text × (now ≡ before ++ text)
Began Text before now (Err unprinted) = (text : List ℕ) × Text (rest_of unprinted) text × (n : ℕ) × (now ≡ before ++ take n text)
