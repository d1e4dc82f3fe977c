-- The count rises by one, or memory is wanting.
use Rattle.std.proofs.Common.{refl, arith}
use Rattle.tdb_txn_turns.proofs.InsideTxn.ExplicitLocks.{chain_starves, chain_nb_starves, chain_counts, chain_nb_counts}
use Rattle.tdb_txn_turns.proofs.inside_txn.counting.count_chain.Goals as goal

pub returns-then-chain_count-clause-turned : goal.returns-then-chain_count-clause-turned
returns-then-chain_count-clause-turned c f x t key at I C = chain_starves f x t I key c.args.held.now c.args.held.now c.args.chain at C refl

pub returns-then-chain_count-clause-at_once : goal.returns-then-chain_count-clause-at_once
returns-then-chain_count-clause-at_once c f x t key at I C = chain_nb_starves f x t I key c.args.held.now c.args.held.now c.args.chain at C refl

pub returns-in-Ok-clause-turned : goal.returns-in-Ok-clause-turned
returns-in-Ok-clause-turned c f x t key at I C =
    chain_counts f x t I key c.args.held.now c.raise_chain.new.self c.args.chain at C c.in-Ok.ensures.ok
    (let full = c.if-chain_count.false in let range = c.chain_count.type_inv in let is = c.chain_count.ensures in omega (arith, full, range, is))

pub returns-in-Ok-clause-at_once : goal.returns-in-Ok-clause-at_once
returns-in-Ok-clause-at_once c f x t key at I C =
    chain_nb_counts f x t I key c.args.held.now c.raise_chain.new.self c.args.chain at C c.in-Ok.ensures.ok
    (let full = c.if-chain_count.false in let range = c.chain_count.type_inv in let is = c.chain_count.ensures in omega (arith, full, range, is))

pub returns-in-Err-clause-turned : goal.returns-in-Err-clause-turned
returns-in-Err-clause-turned c f x t key at I C = chain_starves f x t I key c.args.held.now c.raise_chain.new.self c.args.chain at C c.in-Err.ensures.err

pub returns-in-Err-clause-at_once : goal.returns-in-Err-clause-at_once
returns-in-Err-clause-at_once c f x t key at I C = chain_nb_starves f x t I key c.args.held.now c.raise_chain.new.self c.args.chain at C c.in-Err.ensures.err
