-- Openers that join, stand, are given a command, and die.
use Rattle.std.specs.Prelude.{ℕ, ◌≡◌, ◌≤◌, ◌<◌, ◌+◌, ◌⊎◌, length, false}
use Rattle.tdb_disk.specs.History.{History}
use Rattle.tdb_law.specs.World.{State}
use Rattle.tdb_commands.specs.InLaw.{law_opener, law_command}
use Rattle.tdb_commands.specs.declared.command.Command.{Command}
use Rattle.tdb_openers.specs.declared.standings.OpenerStanding.{OpenerStanding}
use Rattle.tdb_openers.specs.declared.standings.OpenerStanding.TheVariants.{Absent, Idle, Busy}
use Rattle.tdb_world.specs.declared.all_openers.JoinRefusal.{JoinRefusal}
use Rattle.tdb_world.specs.declared.all_openers.JoinRefusal.TheVariants.{Blocked, Many, Memory}
use Rattle.tdb_world.specs.States.{IsStateOf}
use Rattle.tdb_world.specs.Steps.{DeathLeads, GiftLeads, HasCommand, HasNoCommand, HasRoom, JoinLeads}
use Rattle.tdb_world.specs.OverFile.{OverFile, OnlyInMemory}

-- An opener joined, and has this number.
pub record HasJoined (old new : OverFile) (who : ℕ) : Type 0 where
  pub number : who ≡ length old.world.openers.openers + 1
  pub leads : (h : History) → JoinLeads old.world new.world h who
  pub stale : new.world.stale ≡ old.world.stale
  pub memory : OnlyInMemory old new

-- None could: another one commits and holds the lock of those that open, or so many have joined; else memory is
-- wanting.
abbrev pub CannotJoin : OverFile → JoinRefusal → Type 0
CannotJoin w (Blocked owner) = (length w.world.openers.openers < 1000) × ((h : History) (state : State) → IsStateOf w.world h state → 1 ≤ state.table (law_opener owner) 0)
CannotJoin w (Many count) = (count ≡ 1000) × (length w.world.openers.openers ≡ 1000)
CannotJoin w Memory = Unit {0}

-- no live opener has this number
pub record IsAbsent (w : OverFile) (who : ℕ) : Type 0 where
  pub gone : (h : History) (state : State) → IsStateOf w.world h state → (state.own (law_opener who)).live ≡ false
  pub nothing : HasCommand w.world who → ⊥

-- the opener with this number stands so
abbrev pub StandsSo : OverFile → ℕ → OpenerStanding → Type 0
StandsSo w who Absent = IsAbsent w who
StandsSo w who Idle = HasNoCommand w.world who
StandsSo w who Busy = HasCommand w.world who

-- it is live, with a command or without
abbrev pub IsLive : OverFile → ℕ → Type 0
IsLive w who = HasNoCommand w.world who ⊎ HasCommand w.world who

-- An opener was given a command.
pub record WasGiven (old new : OverFile) (who : ℕ) (command : Command) : Type 0 where
  pub room : HasRoom old.world who command
  pub busy : HasCommand new.world who
  pub leads : (h : History) → GiftLeads old.world new.world h who (law_command command)
  pub stale : new.world.stale ≡ old.world.stale
  pub memory : OnlyInMemory old new

-- One died.
pub record HasDied (old new : OverFile) (who : ℕ) : Type 0 where
  pub leads : (h : History) → DeathLeads old.world new.world h who
  pub memory : OnlyInMemory old new
