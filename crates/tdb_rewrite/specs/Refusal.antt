-- Why a file isn't summed up, or not shown.
use Rattle.tdb_check.specs.declared.refusal.CheckRefusal as Check
use Rattle.tdb_space.specs.FirstFault.{Fault}
use Rattle.tdb_backup.specs.declared.refusal.DumpRefusal as Dump
use Rattle.tdb_free.specs.declared.list_refusal.ListRefusal as List
use Rattle.tdb_rewrite.specs.declared.refusal.LinesRefusal as Lines
use Rattle.tdb_rewrite.specs.declared.refusal.ShowRefusal as Show
use Rattle.tdb_rewrite.specs.declared.refusal.SummaryRefusal.{SummaryRefusal}
use Rattle.tdb_rewrite.specs.declared.refusal.SummaryRefusal.TheVariants.{Corrupt, Io, Memory}

-- a summary is refused as its check
abbrev pub of_check : Check.CheckRefusal → SummaryRefusal
of_check (Check.TheVariants.Corrupt what at) = Corrupt what at
of_check Check.TheVariants.Io = Io
of_check Check.TheVariants.Memory = Memory

-- where the answer is a fault of the file, it is one of these
abbrev pub Names : SummaryRefusal → (Fault → Type 0) → Type 0
Names (Corrupt what at) P = P (what, at)
Names Io P = Unit {0}
Names Memory P = Unit {0}

-- what is shown is refused as a dump, as the lines of a chain, and as the free list
abbrev pub of_dump : Dump.DumpRefusal → Show.ShowRefusal
of_dump Dump.TheVariants.Io = Show.TheVariants.Io
of_dump Dump.TheVariants.Failed = Show.TheVariants.Failed
of_dump Dump.TheVariants.Memory = Show.TheVariants.Memory

abbrev pub of_lines : Lines.LinesRefusal → Show.ShowRefusal
of_lines Lines.TheVariants.Io = Show.TheVariants.Io
of_lines Lines.TheVariants.Memory = Show.TheVariants.Memory

abbrev pub of_list : List.ListRefusal → Show.ShowRefusal
of_list List.TheVariants.Io = Show.TheVariants.Io
of_list List.TheVariants.Memory = Show.TheVariants.Memory
