-- What is outside of the program at one moment.
use Rattle.std.specs.Prelude.{ℕ, List, Option, Bool}
use Rattle.tdb_disk.specs.History.{History}
use Rattle.tdb_disk.specs.declared.files.Files as Files
use Rattle.tdb_disk.specs.declared.source.Source as Source
use Rattle.tdb_disk.specs.declared.sink.Sink as Sink
use Rattle.tdb_log.specs.Logs.{Logged}
use Rattle.tdb_log.specs.declared.logs.Logs as Logs
use Rattle.tdb_answer.specs.Input.{Input, input_by}
use Rattle.tdb_answer.specs.Output.{Output, output_by}

-- What is held at each name, and how often calls of the files have failed; what the input has left, and how often a
-- read of it has failed; what the output took, and how often a write to it has failed; and what each log heard.
pub record Outside : Type 0 where
  pub held : List ℕ → Option History
  pub faults : ℕ
  pub left : List ℕ
  pub read_faults : ℕ
  pub written : List ℕ
  pub write_faults : ℕ
  pub logs : List Logged

-- what files, an input, an output and logs tell
abbrev pub outside : {F D S K L : Type 0} → Files.Ghosts F D → Source.Ghosts S → Sink.Ghosts K → Logs.Ghosts L → F → S → K → L → Outside
outside f s k l files input output logs = record {
  held = f.held files;
  faults = f.faults files;
  left = s.left input;
  read_faults = s.faults input;
  written = k.written output;
  write_faults = k.faults output;
  logs = l.logs logs;
}

-- the input between two moments, which tells what it has left or doesn't, and so the output
abbrev pub input_between : Bool → Outside → Outside → Input
input_between tells before after = input_by tells before.left before.read_faults after.read_faults

abbrev pub output_between : Bool → Outside → Outside → Output
output_between tells before after = output_by tells before.written after.written before.write_faults after.write_faults
