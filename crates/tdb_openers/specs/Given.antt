-- The commands that openers may give, and how they hold locks between two calls.
use Rattle.std.specs.Prelude.{ℕ, ◌≡◌, ◌<◌, ◌+◌, ◌-◌, ◌^◌, Bool, true, false, length, Option, None, Some, IfSome, nat_lt, ◌==◌, ◌&&◌, ◌||◌, if◌then◌else◌}
use Rattle.std.specs.List.{sum}
use Rattle.std.specs.Map.{values_of}
use Rattle.tdb_space.specs.Form.{Form}
use Rattle.tdb_locks.specs.HeldLocks.{HeldLocks, AreCounts, total_of}
use Rattle.tdb_locks.specs.declared.kind.Kind.{Kind}
use Rattle.tdb_locks.specs.declared.kind.Kind.TheVariants.{Read, Write}
use Rattle.tdb_locks.specs.declared.turn.Reply.{Reply}
use Rattle.tdb_law.specs.Openers.{Own}
use Rattle.tdb_law.specs.Refusals.{refusal}
use Rattle.tdb_commands.specs.InLaw.{law_command}
use Rattle.tdb_commands.specs.declared.command.Command.{Command}
use Rattle.tdb_commands.specs.declared.command.Command.TheVariants as Given
use Rattle.tdb_openers.specs.declared.job.Locking.{Locking}
use Rattle.tdb_openers.specs.declared.job.Locking.TheVariants as Lockings

-- the key of a command on explicit locks is short enough for the words of a file
abbrev pub IsShortLocking : Locking → Type 0
IsShortLocking (Lockings.Chain key) = length key < 2 ^ 32
IsShortLocking (Lockings.ChainNb key) = length key < 2 ^ 32
IsShortLocking (Lockings.Unchain key) = length key < 2 ^ 32
IsShortLocking _ = Unit {0}

-- the commands that need no transaction
abbrev pub IsServed : Command → Type 0
IsServed Given.Start = ⊥
IsServed Given.Commit = ⊥
IsServed Given.Prepare = ⊥
IsServed Given.Cancel = ⊥
IsServed _ = Unit {0}

-- The command begins a transaction: it is a Start, and the opener's own state doesn't refuse it.
pub record IsBeginning (f : Form) (x : Own) (c : Command) : Type 0 where
  pub start : c ≡ Given.Start
  pub granted : refusal f (law_command c) x ≡ None

-- an opener holds a chain explicitly; it holds all records for reading
abbrev pub holds_chains : HeldLocks → Bool
holds_chains held = nat_lt 0 (sum (values_of held.chains))

abbrev pub reads_records : Option (Kind × ℕ) → Bool
reads_records None = false
reads_records (Some (Read, count)) = true
reads_records (Some (Write, count)) = false

-- the count of an opener's locks: its explicit ones, and one more for a cursor
abbrev pub held_count : HeldLocks → Bool → ℕ
held_count held walks = total_of held + (if walks then 1 else 0)

-- the reply to an unlock of all records that is refused: they aren't held, or a chain is held or a cursor stands that
-- only their last lock covers
abbrev pub unlock_told : HeldLocks → Bool → Option (Kind × ℕ) → Option Reply
unlock_told held walks None = Some Reply.NotLocked
unlock_told held walks (Some all) = if (all.1 == 1) && (holds_chains held || walks) then Some (Reply.HeldLocks (held_count held walks)) else None

abbrev pub unlock_all_told : HeldLocks → Bool → Option Reply
unlock_all_told held walks = unlock_told held walks held.all

-- What holds of an opener's explicit locks between two calls: chains have counts, a lock of all records was taken once
-- at least, who holds all records for reading holds no chain, and there are so few that a word of 64 bits counts them
-- and a cursor.
pub record IsWellHeld (held : HeldLocks) : Type 0 where
  pub counts : AreCounts held.chains
  pub taken : IfSome held.all (λ all. 0 < all.1)
  pub apart : reads_records held.all ≡ true → holds_chains held ≡ false
  pub few : total_of held < 2 ^ 64 - 1
