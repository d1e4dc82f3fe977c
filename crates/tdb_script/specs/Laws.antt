-- The laws of scripts, over the definitions alone.
use Rattle.std.specs.Prelude.{◌≡◌, ℕ, ◌<◌, List, ◌++◌, length}
use Rattle.tdb_script.specs.declared.limits.TheConstants.{LONGEST_SCRIPT}
use Rattle.tdb_commands.specs.declared.play.Play.{Play}
use Rattle.tdb_script.specs.Script.{Script, BadAt}

-- a text is a script of one list of plays
abbrev pub HasOneReading : Type 0
HasOneReading = (text : List ℕ) (plays others : List Play) → Script text plays → Script text others → plays ≡ others

-- a text stops being a script at one place
abbrev pub HasOneBadPlace : Type 0
HasOneBadPlace = (text : List ℕ) (place other : ℕ) → BadAt text place → BadAt text other → place ≡ other

-- and a script stops at none
abbrev pub HasNoBadPlace : Type 0
HasNoBadPlace = (text : List ℕ) (plays : List Play) (place : ℕ) → Script text plays → BadAt text place → ⊥

-- a text that is too long stops at the same place whatever stands behind it, so no more of it has to be read
abbrev pub StaysBad : Type 0
StaysBad = (text more : List ℕ) (place : ℕ) → LONGEST_SCRIPT < length text → BadAt text place → BadAt (text ++ more) place
