-- The command that is made of a number.
use Rattle.std.specs.Prelude.{ℕ, ◌+◌, ◌/◌, ◌%◌, ◌^◌, ◌==◌, List, ◌++◌, codes, decimal, nat_lt, replicate, if◌then◌else◌}
use Rattle.tdb_commands.specs.declared.command.Command.{Command}
use Rattle.tdb_commands.specs.declared.command.Command.TheVariants.{Store, Delete, Append, Fetch, Has}
use Rattle.tdb_steps.specs.declared.flag.Flag.TheVariants.{Replace}

-- which of a thousand keys it is about; the key is the letter k and this number in decimal
abbrev pub key_number : ℕ → ℕ
key_number x = x / 2 ^ 16 % 1000

abbrev pub key_of : ℕ → List ℕ
key_of x = codes "k" ++ decimal (key_number x)

-- a value of so many bytes, each the same small letter, by the key
abbrev pub value_of : ℕ → ℕ → List ℕ
value_of x n = replicate n (97 + key_number x % 26)

-- how long the value of a store is
abbrev pub value_length : ℕ → ℕ
value_length x = x / 2 ^ 4 % 256

-- one of eight kinds: four of them are a store
abbrev pub kind_of : ℕ → ℕ
kind_of x = x / 2 ^ 8 % 8

abbrev pub command_of : ℕ → Command
command_of x =
    if nat_lt (kind_of x) 4 then Store (key_of x) (value_of x (value_length x)) Replace
    else if kind_of x == 4 then Delete (key_of x)
    else if kind_of x == 5 then Append (key_of x) (value_of x 4)
    else if kind_of x == 6 then Fetch (key_of x)
    else Has (key_of x)
