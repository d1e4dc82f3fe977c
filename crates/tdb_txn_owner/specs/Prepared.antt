-- A prepared transaction: what the commands that it doesn't take are told.
use Rattle.std.specs.Prelude.{◌≡◌, ◌&&◌, None, if◌then◌else◌}
use Rattle.tdb_locks.specs.declared.turn.Reply.{Reply}
use Rattle.tdb_locks.specs.declared.turn.Turn.{Turn}
use Rattle.tdb_law.specs.Commands.{Reply as LawReply}
use Rattle.tdb_commands.specs.InLaw.{law_reply}
use Rattle.tdb_commands.specs.declared.command.Command.{Command}
use Rattle.tdb_commands.specs.declared.options.Options.{Options}
use Rattle.tdb_txn_owner.specs.declared.stage.PreparedTxn.{PreparedTxn}
use Rattle.tdb_txn_owner.specs.declared.stage.Stage.TheVariants as At
use Rattle.tdb_txn_owner.specs.declared.stage.Went.{Went}
use Rattle.tdb_txn_owner.specs.Refusing.{is_writer}
use Rattle.tdb_txn_owner.specs.Wents.{goes_on}

-- what a command is told that it doesn't take
abbrev pub prepared_told : Options → Command → LawReply
prepared_told o c = if o.read_only && is_writer c then LawReply.ReadOnly else LawReply.InTransaction

-- such a command is done, and leaves it as it is
abbrev pub IsRefused : Options → PreparedTxn → Command → Went → Type 0
IsRefused o left c went = (r : Reply) × (law_reply r ≡ prepared_told o c) × (went ≡ goes_on (Turn.Done r) (At.Prepared left None))
