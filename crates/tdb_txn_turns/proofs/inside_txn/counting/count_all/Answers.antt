-- The count of all records rises by one, or is at its greatest.
use Rattle.std.proofs.Common.{Some, refl, ◌∙◌, ap, subst}
use Rattle.tdb_locks.specs.HeldLocks.{SetsAll}
use Rattle.tdb_txn_turns.specs.InsideTxn.Counted.{one_more}
use Rattle.tdb_txn_turns.proofs.InsideTxn.ExplicitLocks.{all_starves, all_counts}
use Rattle.tdb_txn_turns.proofs.inside_txn.counting.count_all.Goals as goal

pub returns-in_default-clause-turned : goal.returns-in_default-clause-turned
returns-in_default-clause-turned c f x t I C = all_starves f x t I c.args.held.now c.args.held.now C c.args.kind refl

pub returns-clause-turned : goal.returns-clause-turned
returns-clause-turned c f x t I C =
    all_counts f x t I c.args.held.now c.set_all.new.self C c.args.kind
    (subst (λ a. SetsAll c.args.held.now c.set_all.new.self (Some a)) (c.in-Some.ensures ∙ ap (λ o. one_more o c.args.kind) c.all.ensures) c.set_all.ensures)
