-- How turns open their file.
use Rattle.std.specs.Prelude.{ℕ, not, Option, List, codes}
use Rattle.std.specs.Option.{option_map}
use Rattle.tdb_commands.specs.declared.options.Options.{Options}
use Rattle.tdb_cmdline.specs.declared.options.GivenOption.{GivenOption}
use Rattle.tdb_cmdline.specs.declared.options.Line.{Line}
use Rattle.tdb_cmdline.specs.Options.{is_given, limit_in}

-- with this limit, and the flags that were given
abbrev pub options_with : List GivenOption → ℕ → Options
options_with given limit = record {
  limit = limit;
  nesting = not (is_given (codes "--no-nesting") given);
  read_only = is_given (codes "--read-only") given;
  seqnum = is_given (codes "--seqnum") given;
}

abbrev pub options_in : Line → Option Options
options_in line = option_map (options_with line.options) (limit_in line)
