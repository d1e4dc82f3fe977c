-- What a session prints of the replies to its plays.
use Rattle.std.specs.Prelude.{ℕ, Bool, true, false, Option, Some, List, [], ◌∷◌, ◌++◌}
use Rattle.std.specs.List.{flat_map, list_any}
use Rattle.tdb_dump.specs.Listing.{entry_text}
use Rattle.tdb_dump.specs.declared.listing.Listing.{Listing}
use Rattle.tdb_locks.specs.declared.turn.Reply.{Reply}
use Rattle.tdb_locks.specs.declared.turn.Turn.{Turn}
use Rattle.tdb_commands.specs.declared.line.Line.{Line}
use Rattle.tdb_script.specs.Text.{reply_text}

-- a reply with a newline
abbrev pub printed_reply : Reply → List ℕ
printed_reply reply = reply_text reply ++ 10 ∷ []

-- What is printed of a reply: where pairs are listed what is written of a pair, and nothing of the end; else the reply.
abbrev pub told_as : Option Listing → Reply → List ℕ
told_as (Some listing) (Reply.Pair key value) = entry_text listing key value
told_as (Some listing) Reply.End = []
told_as listing reply = printed_reply reply

-- of a turn: of the reply that it ends with, if it does
abbrev pub turn_text : Option Listing → Turn → List ℕ
turn_text listing (Turn.Done reply) = told_as listing reply
turn_text listing turn = []

-- of a line: of the turn that it tells, if it tells one
abbrev pub line_text : Option Listing → Line → List ℕ
line_text listing (Line.Took who command turn) = turn_text listing turn
line_text listing line = []

-- of lines, in order
abbrev pub lines_text : Option Listing → List Line → List ℕ
lines_text listing lines = flat_map (line_text listing) lines

-- a turn ends with a pair; a line tells one; one of the lines does
abbrev pub ends_with_pair : Turn → Bool
ends_with_pair (Turn.Done (Reply.Pair key value)) = true
ends_with_pair turn = false

abbrev pub tells_pair : Line → Bool
tells_pair (Line.Took who command turn) = ends_with_pair turn
tells_pair line = false

abbrev pub tell_pair : List Line → Bool
tell_pair lines = list_any tells_pair lines
