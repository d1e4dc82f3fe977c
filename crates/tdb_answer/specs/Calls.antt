-- The calls of which the lines of a report tell, since its file was opened.
use Rattle.std.specs.Prelude.{◌≡◌, ◌⊎◌, List, []}
use Rattle.tdb_disk.specs.History.{History, seen}
use Rattle.tdb_space.specs.Form.{form_of}
use Rattle.tdb_commands.specs.declared.line.Line.{Line}
use Rattle.tdb_commands.specs.declared.options.Options.{Options}
use Rattle.tdb_open.specs.Opening.{opened_bytes}
use Rattle.tdb_tool.specs.Calls.{TellsCalls}

-- There are no lines; or the file was opened, as the bytes that it was read as at first, and the lines tell the calls
-- that were made on it since: each line that tells of a turn stands for one that ended with Full exactly where there
-- was no room. The last call left the file as it is now, but for what the call may have changed at which the disk
-- failed.
abbrev pub TellsCallsSince : Options → History → History → Type 0 → List Line → Type 0
TellsCallsSince options old now sound lines =
    (lines ≡ []) ⊎ ((opened : History) × (seen opened ≡ opened_bytes (seen old)) × TellsCalls (form_of (seen opened)) options opened now sound lines)
