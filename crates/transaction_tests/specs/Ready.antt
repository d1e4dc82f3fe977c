-- What holds of a transaction between two steps of a test.
use Rattle.std.specs.Prelude.{ℕ, ◌≡◌, ◌≤◌}
use Rattle.tdb_words.specs.declared.word.Order.TheVariants.{Little}
use Rattle.tdb_words.specs.declared.hash.HashKind.TheVariants.{Old}
use Rattle.tdb_txn.specs.Txn.{txn_start, txn_size}
use Rattle.tdb_txn_turns.specs.declared.inside_txn.own_txn.OwnTxn.{OwnTxn}
use Rattle.tdb_txn_turns.specs.InsideTxn.OwnTxns.{form_of}

-- It is one of a file of this length, with the header of the tests.
pub record IsReady (own : OwnTxn) (size : ℕ) : Type 0 where
  pub sized : size ≡ txn_start own.txn
  pub form : form_of own ≡ record { order = Little; hash = Old; chains = 131 }
  pub within : txn_size own.txn ≤ 1048576
