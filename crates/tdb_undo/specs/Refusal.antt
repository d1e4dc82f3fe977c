-- What a refusal says.
use Rattle.tdb_space.specs.FirstFault.{Fault}
use Rattle.tdb_undo.specs.declared.refusal.UndoRefusal.{UndoRefusal}
use Rattle.tdb_undo.specs.declared.refusal.UndoRefusal.TheVariants.{UndoBad, Io}

-- where the answer is a fault of the undo area, it is one of these
abbrev pub Names : UndoRefusal → (Fault → Type 0) → Type 0
Names (UndoBad what at) P = P (what, at)
Names Io P = Unit {0}

-- the disk failed
abbrev pub IsIo : UndoRefusal → Type 0
IsIo (UndoBad what at) = ⊥
IsIo Io = Unit {0}
