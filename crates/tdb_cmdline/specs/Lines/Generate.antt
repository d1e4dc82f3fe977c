-- What the command does that has generated commands done on a new file.
use Rattle.std.specs.Prelude.{ℕ, Option, List}
use Rattle.std.specs.Option.{option_map, option_and_then}
use Rattle.tdb_cmdline.specs.declared.ask.Task.{Task}
use Rattle.tdb_cmdline.specs.declared.ask.Task.TheVariants.{Generate}
use Rattle.tdb_cmdline.specs.Words.{commands_of, seed_of}

-- N SEED: so many commands, made of that number
abbrev pub generate_of : List ℕ → List ℕ → Option Task
generate_of commands seed = option_and_then (λ n. option_map (λ s. Generate n s) (seed_of seed)) (commands_of commands)
