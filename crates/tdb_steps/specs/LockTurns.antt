-- What the two kinds of turns of a machine do: those that take a lock, and those that don't.
use Rattle.std.specs.Prelude.{ℕ, ◌≡◌, List, true, false, Some}
use Rattle.tdb_locks.specs.HeldLocks.{HeldLocks}
use Rattle.tdb_locks.specs.LockTable.{ChangesRange, IsFree, IsFirstConflict}
use Rattle.tdb_locks.specs.declared.kind.Kind.{Kind}
use Rattle.tdb_locks.specs.declared.piece.Piece.{Piece}
use Rattle.tdb_locks.specs.declared.turn.Reply.{Reply}
use Rattle.tdb_locks.specs.declared.turn.Turn.{Turn}
use Rattle.tdb_locks.specs.declared.turn.Turn.TheVariants.{Step, Blocked, Done}
use Rattle.tdb_steps.specs.declared.rows.LockRow.{LockRow}
use Rattle.tdb_steps.specs.declared.rows.Rows.{Rows}
use Rattle.tdb_space.specs.Form.{Form}
use Rattle.tdb_steps.specs.Stages.{locked_stage}
use Rattle.tdb_steps.specs.declared.stage.Next.{Next}
use Rattle.tdb_steps.specs.LockRows.{start_of, end_of, is_covered, AreLetGo}
use Rattle.tdb_steps.specs.Machines.{Doing, begun, CommandRightly}

-- A turn that takes a lock of a row: the lock is taken or was covered, and the stage is the next; or the turn is
-- blocked by the first conflict, and nothing changes; or memory is wanting, and all is let go.
abbrev pub LockLed : HeldLocks → ℕ → List Piece → List Piece → Rows → LockRow → Doing → Doing → Turn → Type 0
LockLed locks owner old new rows r d e Step =
    (e ≡ record d { stage = locked_stage d.command d.stage }) × (is_covered locks r ≡ true → new ≡ old)
    × (is_covered locks r ≡ false → ChangesRange old new owner (start_of r.region) (end_of r.region) (Some r.kind) × IsFree old owner (start_of r.region) (end_of r.region) r.kind)
LockLed locks owner old new rows r d e (Blocked other byte) =
    (e ≡ d) × (new ≡ old) × (kind : Kind) × IsFirstConflict old owner (start_of r.region) (end_of r.region) r.kind other byte kind
LockLed locks owner old new rows r d e (Done reply) =
    (reply ≡ Reply.Memory) × (e ≡ begun d.command d.chain d.seqnum) × IsFree old owner (start_of r.region) (end_of r.region) r.kind × AreLetGo locks owner old new rows

-- a turn that takes no lock leads on, or ends
abbrev pub ActLed : Doing → Doing → Turn → Type 0
ActLed d e Step = Unit {0}
ActLed d e (Blocked other byte) = ⊥
ActLed d e (Done reply) = e ≡ begun d.command d.chain d.seqnum

-- how a turn that takes no lock leads on, or ends, from image a to image b: as its command's turns go
abbrev pub ActRightly : Form → List ℕ → List ℕ → Doing → Doing → ℕ → List ℕ → Turn → Type 0
ActRightly f a b d e limit stood_on Step = CommandRightly f a b d.command d.whole limit stood_on d.stage (Next.Step e.stage)
ActRightly f a b d e limit stood_on (Blocked other byte) = ⊥
ActRightly f a b d e limit stood_on (Done reply) = CommandRightly f a b d.command d.whole limit stood_on d.stage (Next.Done reply)
