-- What the state of an opener with a transaction refuses, by its options, its transaction, its explicit locks and its
-- cursor.
use Rattle.std.specs.Prelude.{◌≡◌, ℕ, ◌+◌, Bool, true, false, ◌&&◌, not, nat_lt, ◌==◌, Option, None, Some, is_none, is_some, if◌then◌else◌}
use Rattle.tdb_space.specs.Form.{Form}
use Rattle.tdb_space.specs.Pairs.{home}
use Rattle.tdb_locks.specs.HeldLocks.{HeldLocks, count_of, total_of}
use Rattle.tdb_locks.specs.declared.turn.Reply.{Reply}
use Rattle.tdb_law.specs.Openers.{Own, Txn}
use Rattle.tdb_txn_turns.specs.InsideTxn.Counted.{IsCounted}
use Rattle.tdb_commands.specs.declared.command.Command.{Command}
use Rattle.tdb_commands.specs.declared.command.Command.TheVariants as Given
use Rattle.tdb_commands.specs.declared.options.Options.{Options}
use Rattle.tdb_commands.specs.InLaw.{options_of}
use Rattle.tdb_txn_owner.specs.declared.refusing.Level.{Level}

-- The opener has a transaction at this level, and these explicit locks.
pub record StandsAt (o : Options) (level : Level) (held : HeldLocks) (x : Own) : Type 0 where
  pub options : x.options ≡ options_of o
  pub txn : Txn
  pub has : x.txn ≡ Some txn
  pub prepared : is_some txn.prepared ≡ level.prepared
  pub nested : nat_lt 1 txn.depth ≡ level.nested
  pub doomed : txn.doomed ≡ level.doomed
  pub counted : IsCounted held x
  pub walks : is_some x.cursor ≡ level.walks

-- a command that changes the map, or begins a transaction, in which commands do
abbrev pub is_writer : Command → Bool
is_writer (Given.Store key value flag) = true
is_writer (Given.Append key value) = true
is_writer (Given.Delete key) = true
is_writer Given.Wipe = true
is_writer Given.Start = true
is_writer _ = false

-- a command that a prepared transaction takes
abbrev pub passes_prepared : Command → Bool
passes_prepared Given.Commit = true
passes_prepared Given.Cancel = true
passes_prepared Given.Close = true
passes_prepared _ = false

-- the count of explicit locks, and one more for a cursor
abbrev pub counted_with : HeldLocks → Bool → ℕ
counted_with held walks = total_of held + (if walks then 1 else 0)

-- the replies to what is refused inside a transaction that isn't prepared
abbrev pub commit_told : Level → HeldLocks → Option Reply
commit_told level held =
    if level.doomed then Some Reply.Doomed else if not level.nested && nat_lt 0 (total_of held) then Some (Reply.HeldLocks (counted_with held level.walks)) else None

abbrev pub inside_told : Form → Level → Bool → HeldLocks → Command → Option Reply
inside_told f level nesting held Given.Wipe = if level.walks then Some (Reply.HeldLocks (counted_with held level.walks)) else None
inside_told f level nesting held (Given.ChainUnlock key) = if count_of held (home f key) == 0 then Some Reply.NotLocked else None
inside_told f level nesting held Given.UnlockAll = if is_none held.all then Some Reply.NotLocked else None
inside_told f level nesting held Given.Start = if nesting then None else Some Reply.Nesting
inside_told f level nesting held Given.Commit = commit_told level held
inside_told f level nesting held Given.Prepare = if level.nested then None else commit_told level held
inside_told f level nesting held _ = None
