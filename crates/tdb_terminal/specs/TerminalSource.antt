-- What a contract sees of a source at a terminal: the source that it reads.
use Rattle.tdb_terminal.specs.declared.terminal_source.TerminalSource.{TerminalSource}

-- the source that it reads
abbrev pub source_of : {S K : Type 0} → TerminalSource S K → S
source_of terminal = terminal.source
