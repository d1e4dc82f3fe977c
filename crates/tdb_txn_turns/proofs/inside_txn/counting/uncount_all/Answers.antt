-- The count of all records falls by one, or there is none.
use Rattle.std.proofs.Common.{sym, ◌∙◌, subst}
use Rattle.tdb_locks.specs.HeldLocks.{SetsAll}
use Rattle.tdb_txn_turns.proofs.InsideTxn.ExplicitLocks.{unlock_refuses, unlock_counts}
use Rattle.tdb_txn_turns.proofs.inside_txn.counting.uncount_all.Goals as goal

pub returns-in_default-clause-turned : goal.returns-in_default-clause-turned
returns-in_default-clause-turned c f x t I C = unlock_refuses f x t I c.args.held.now c.args.held.now C (sym c.all.ensures ∙ c.in_default.is)

pub returns-clause-turned : goal.returns-clause-turned
returns-clause-turned c f x t I C =
    unlock_counts f x t I c.args.held.now c.set_all.new.self C c.in-Some.all (sym c.all.ensures ∙ c.in-Some.is)
    (subst (SetsAll c.args.held.now c.set_all.new.self) c.less_of.ensures c.set_all.ensures)
