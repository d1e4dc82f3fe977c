-- The commands on a file that is there: what each asks for with its arguments.
use Rattle.std.specs.Prelude.{ℕ, Option, None, Some, List, [], ◌∷◌}
use Rattle.std.specs.Option.{option_map, option_and_then}
use Rattle.tdb_cmdline.specs.declared.act.Verb.{Verb}
use Rattle.tdb_cmdline.specs.declared.act.Verb.TheVariants.{Show, Insert, Store, Delete}
use Rattle.tdb_cmdline.specs.declared.act.Spelling.{Spelling}
use Rattle.tdb_cmdline.specs.declared.act.Spelling.TheVariants.{Letters, HexPairs}
use Rattle.tdb_cmdline.specs.Words.{value_of, hex_value_of, of_one, of_two}
use Rattle.tdb_cmdline.specs.declared.printout.Printout.{Printout}

-- `show` KEY
abbrev pub show_of : List (List ℕ) → Option Verb
show_of arguments = of_one (λ word. option_map Show (value_of word)) arguments

-- the key or the value that a word stands for, which is spelled so
abbrev pub spelled : Spelling → List ℕ → Option (List ℕ)
spelled Letters word = value_of word
spelled HexPairs word = hex_value_of word

-- KEY DATA: the key and the value that two words stand for
abbrev pub pair_of : Spelling → List (List ℕ) → Option (List ℕ × List ℕ)
pair_of spelling arguments =
    of_two (λ first second. option_and_then (λ key. option_map (λ value. (key, value)) (spelled spelling second)) (spelled spelling first)) arguments

-- `insert` KEY DATA
abbrev pub insert_of : List (List ℕ) → Option Verb
insert_of arguments = option_map (λ pair. Insert pair.0 pair.1) (pair_of Letters arguments)

-- `store` KEY DATA
abbrev pub store_of : List (List ℕ) → Option Verb
store_of arguments = option_map (λ pair. Store pair.0 pair.1) (pair_of Letters arguments)

-- `storehex` KEY DATA, both as pairs of hexadecimal digits
abbrev pub storehex_of : List (List ℕ) → Option Verb
storehex_of arguments = option_map (λ pair. Store pair.0 pair.1) (pair_of HexPairs arguments)

-- `delete` KEY
abbrev pub delete_of : List (List ℕ) → Option Verb
delete_of arguments = of_one (λ word. option_map Delete (value_of word)) arguments

-- `erase`, `check`, `first`, `next`, `transaction_start`, `transaction_commit`, `transaction_cancel` and `quit`,
-- without arguments: the verb that the word asks for
abbrev pub alone_of : Verb → List (List ℕ) → Option Verb
alone_of verb [] = Some verb
alone_of verb (word ∷ rest) = None

-- `dump`, `keys`, `hexkeys`, `info`, `list` and `free`, without arguments: what is printed
abbrev pub print_of : Printout → List (List ℕ) → Option Printout
print_of printout [] = Some printout
print_of printout (word ∷ rest) = None
