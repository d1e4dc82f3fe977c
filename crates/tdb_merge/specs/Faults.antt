-- Why a merge broke off, by what broke off in it.
use Rattle.std.specs.Prelude.{Result, Ok, Err}
use Rattle.tdb_chain.specs.declared.refusal.ValueRefusal.{ValueRefusal}
use Rattle.tdb_chain.specs.declared.refusal.ValueRefusal.TheVariants as Unread
use Rattle.tdb_log.specs.declared.log.LogRefusal.{LogRefusal}
use Rattle.tdb_log.specs.declared.log.LogRefusal.TheVariants as Unheard
use Rattle.tdb_openers.specs.declared.fault.RunFault.{RunFault}
use Rattle.tdb_openers.specs.declared.fault.RunFault.TheVariants as Run
use Rattle.tdb_merge.specs.declared.fault.MergeFault.{MergeFault}
use Rattle.tdb_merge.specs.declared.fault.MergeFault.TheVariants.{Full, Starved, Read, Device, Log, Memory}

-- a play, a log, or the reading of a pair
abbrev pub of_run : RunFault → MergeFault
of_run Run.Io = Device
of_run Run.Memory = Memory

abbrev pub of_log : LogRefusal → MergeFault
of_log Unheard.Failed = Log
of_log Unheard.Memory = Memory

abbrev pub of_value : ValueRefusal → MergeFault
of_value Unread.Io = Read
of_value Unread.Memory = Memory

-- what holds unless the disk of the file failed into which pairs are merged, and what holds where it did
abbrev pub UnlessDevice : Result (Unit {0}) MergeFault → Type 0 → Type 0
UnlessDevice (Ok v) p = p
UnlessDevice (Err (Full len need)) p = p
UnlessDevice (Err Starved) p = p
UnlessDevice (Err Read) p = p
UnlessDevice (Err Device) p = Unit {0}
UnlessDevice (Err Log) p = p
UnlessDevice (Err Memory) p = p

abbrev pub OnDevice : Result (Unit {0}) MergeFault → Type 0 → Type 0
OnDevice (Ok v) p = Unit {0}
OnDevice (Err (Full len need)) p = Unit {0}
OnDevice (Err Starved) p = Unit {0}
OnDevice (Err Read) p = Unit {0}
OnDevice (Err Device) p = p
OnDevice (Err Log) p = Unit {0}
OnDevice (Err Memory) p = Unit {0}
