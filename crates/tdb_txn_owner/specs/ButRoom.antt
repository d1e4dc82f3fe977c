-- An opener with a transaction of which all is as it was but the room that is ready for its next commands.
use Rattle.std.specs.Prelude.{◌≡◌, ℕ, Option}
use Rattle.tdb_txn.specs.Txn.{txn_left, SameButRoom}
use Rattle.tdb_commands.specs.declared.command.Command.{Command}
use Rattle.tdb_txn_owner.specs.declared.open_txn.OpenTxn.{OpenTxn}
use Rattle.tdb_txn_owner.specs.declared.stage.Stage.{Stage}
use Rattle.tdb_txn_owner.specs.declared.stage.Stage.TheVariants as At
use Rattle.tdb_txn_owner.specs.Holders.{HolderState}

-- all of an open transaction is as it was but the room that is ready for its next commands
pub record OpenButRoom (old new : OpenTxn) : Type 0 where
  pub txn : SameButRoom old.own.txn new.own.txn
  pub changed : new.own.changed ≡ old.own.changed
  pub numbered : new.own.numbered ≡ old.own.numbered
  pub held : new.held ≡ old.held
  pub walk : new.walk ≡ old.walk

-- so it is of a stage: the transaction that is open at it is as it was but for its room; each other stage is the same
pub data StageButRoom (old new : Stage) : Type 0 where
  open_stage : (t u : OpenTxn) (command : Option Command) → old ≡ At.Open t command → new ≡ At.Open u command → OpenButRoom t u → StageButRoom old new
  same_stage : new ≡ old → StageButRoom old new

-- so it is of the opener: its number and its locks stay
pub record HolderButRoom (old new : HolderState) : Type 0 where
  pub owner : new.owner ≡ old.owner
  pub locks : new.locks ≡ old.locks
  pub stage : StageButRoom old.stage new.stage

-- how many pages are in stock for the next commands of a transaction that is open
abbrev pub stage_left : Stage → ℕ
stage_left (At.Open txn command) = txn_left txn.own.txn
stage_left stage = 0
