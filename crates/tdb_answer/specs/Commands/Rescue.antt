-- The command that prints what can still be read of a file that may be damaged.
use Rattle.std.specs.Prelude.{◌≡◌, ◌⊎◌, ◌<◌, ◌≤◌, ℕ, Option, None, Some, List, [], length}
use Rattle.tdb_words.specs.declared.what.What.TheVariants.{Short}
use Rattle.tdb_words.specs.Header.{HeaderOk, header_fault, header_length}
use Rattle.tdb_disk.specs.History.{History, seen}
use Rattle.tdb_space.specs.Form.{form_of}
use Rattle.tdb_rescue.specs.Text.{rescued_text}
use Rattle.tdb_open.specs.declared.halt.Halt.{Halt}
use Rattle.tdb_open.specs.declared.halt.Halt.TheVariants as H
use Rattle.tdb_open.specs.declared.halt.Refusal.{Refusal}
use Rattle.tdb_open.specs.declared.halt.Refusal.TheVariants.{TooLong, Header, Corrupt, NeedsRecovery}
use Rattle.tdb_open.specs.declared.limits.TheConstants.{LONGEST_FILE}
use Rattle.tdb_answer.specs.declared.ending.Ending.{Ending}
use Rattle.tdb_answer.specs.declared.ending.Ending.TheVariants.{Replied, Refused, DeviceFault, NoMemory}
use Rattle.tdb_answer.specs.declared.ending.Reply.TheVariants.{Dumped}
use Rattle.tdb_answer.specs.Looks.{StandsBefore}

-- what can be read of a file with these bytes is printed: it isn't too long, and has a header without a fault
pub record CanRescue (img : List ℕ) : Type 0 where
  pub within : length img ≤ LONGEST_FILE
  pub header : HeaderOk img

-- it is refused so: it is too long, or too short for a header, or its header has a fault, of which the first is told
abbrev pub IsUnreadable : List ℕ → Refusal → Type 0
IsUnreadable img (TooLong len) = (len ≡ length img) × (LONGEST_FILE < len)
IsUnreadable img (Header fault) = (length img ≤ LONGEST_FILE) × (header_length ≤ length img) × (header_fault img ≡ Some fault)
IsUnreadable img (Corrupt what at) = (length img ≤ LONGEST_FILE) × (what ≡ Short) × (at ≡ length img) × (at < header_length)
IsUnreadable img NeedsRecovery = ⊥

-- where a look at its header halted, it is refused so, or a call failed
abbrev pub RescueHalts : List ℕ → Halt → Type 0
RescueHalts img (H.Refused refusal) = IsUnreadable img refusal
RescueHalts img H.Device = Unit {0}
RescueHalts img H.Memory = ⊥
RescueHalts img H.Log = ⊥

-- how the command ends over a file with these bytes: all that can be read was printed, or it is refused
abbrev pub RescueDue : List ℕ → Ending → Type 0
RescueDue img e = (CanRescue img × (e ≡ Replied Dumped)) ⊎ ((refusal : Refusal) × IsUnreadable img refusal × (e ≡ Refused refusal))

-- and that a call failed, or memory was wanting
abbrev pub RescueEnds : List ℕ → Ending → Type 0
RescueEnds img (Replied reply) = CanRescue img × (reply ≡ Dumped)
RescueEnds img (Refused refusal) = IsUnreadable img refusal
RescueEnds img DeviceFault = Unit {0}
RescueEnds img NoMemory = Unit {0}
RescueEnds img _ = ⊥

-- what is printed before the line of an ending, by what is held at the name of the file: the dump text of the pairs
-- that can be read in its bytes
abbrev pub RescueText : Option History → Ending → List ℕ → Type 0
RescueText None e written = written ≡ []
RescueText (Some h) e written = StandsBefore (rescued_text (form_of (seen h)) (seen h)) e written
