-- Which plays may be taken.
use Rattle.std.specs.Prelude.{◌≤◌, List}
use Rattle.std.specs.List.{All}
use Rattle.tdb_commands.specs.declared.play.Play.{Play}
use Rattle.tdb_commands.specs.declared.play.Play.TheVariants as Plays
use Rattle.tdb_commands.specs.Short.{IsShortCommand}

-- an opener is named by a number from 1 on, and the key and the value of its command are short enough for the words of
-- a file
abbrev pub IsPlayable : Play → Type 0
IsPlayable Plays.Join = Unit {0}
IsPlayable Plays.SetLog = Unit {0}
IsPlayable (Plays.Give who command) = (1 ≤ who) × IsShortCommand command
IsPlayable (Plays.Do who command) = (1 ≤ who) × IsShortCommand command
IsPlayable (Plays.Turn who) = 1 ≤ who
IsPlayable (Plays.Go who) = 1 ≤ who
IsPlayable (Plays.Die who) = 1 ≤ who

abbrev pub ArePlayable : List Play → Type 0
ArePlayable plays = All IsPlayable plays
