-- The count falls by one, or there is none.
use Rattle.std.proofs.Common.{sym, ◌∙◌}
use Rattle.tdb_txn_turns.proofs.InsideTxn.ExplicitLocks.{unchain_refuses, unchain_counts}
use Rattle.tdb_txn_turns.proofs.inside_txn.counting.uncount_chain.Goals as goal

pub returns-then-chain_count-eq0-clause-turned : goal.returns-then-chain_count-eq0-clause-turned
returns-then-chain_count-eq0-clause-turned c f x t key at I C = unchain_refuses f x t I key c.args.held.now c.args.held.now c.args.chain at C (sym c.chain_count.ensures ∙ c.if-chain_count-eq0.true)

pub returns-clause-turned : goal.returns-clause-turned
returns-clause-turned c f x t key at I C =
    unchain_counts f x t I key c.args.held.now c.lower_chain.new.self c.args.chain at C c.lower_chain.ensures.lowered (λ e. c.if-chain_count-eq0.false (c.chain_count.ensures ∙ e))
