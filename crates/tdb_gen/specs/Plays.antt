-- The plays of generated commands.
use Rattle.std.specs.Prelude.{ℕ, ◌+◌, ◌-◌, ◌*◌, ◌/◌, ◌%◌, List, [], ◌∷◌, ◌++◌, map, min}
use Rattle.std.specs.List.{flat_map, range_with_len}
use Rattle.tdb_commands.specs.declared.play.Play.{Play}
use Rattle.tdb_commands.specs.declared.play.Play.TheVariants.{Join, Give, Turn}
use Rattle.tdb_gen.specs.Numbers.{number_at}
use Rattle.tdb_gen.specs.Commands.{command_of}

-- three openers join
abbrev pub joins : List Play
joins = Join ∷ Join ∷ Join ∷ []

-- The command with this index, which is counted from 0, is given to one of the three openers: to each in its turn.
abbrev pub gift : ℕ → ℕ → Play
gift seed i = Give (1 + i % 3) (command_of (number_at seed i))

-- so many commands from an index on
abbrev pub gifts : ℕ → ℕ → ℕ → List Play
gifts seed start count = map (gift seed) (range_with_len start count)

-- each opener takes a turn; so many times
abbrev pub round : List Play
round = Turn 1 ∷ Turn 2 ∷ Turn 3 ∷ []

abbrev pub rounds : ℕ → List Play
rounds count = flat_map (λ i. round) (range_with_len 0 count)

-- how many groups of three so many commands are, of which the last may be shorter
abbrev pub groups : ℕ → ℕ
groups n = (n + 2) / 3

-- The plays of a group, which is counted from 0: its commands are given, and then 24 rounds of turns taken.
abbrev pub group_plays : ℕ → ℕ → ℕ → List Play
group_plays n seed group = gifts seed (3 * group) (min 3 (n - 3 * group)) ++ rounds 24

-- the plays of so many groups, one list for each
abbrev pub group_list : ℕ → ℕ → ℕ → List (List Play)
group_list n seed count = map (group_plays n seed) (range_with_len 0 count)

-- lists of plays as one
abbrev pub together : List (List Play) → List Play
together parts = flat_map (λ plays. plays) parts

-- all plays of n commands from a seed on
abbrev pub gen_plays : ℕ → ℕ → List Play
gen_plays n seed = joins ++ together (group_list n seed (groups n))
