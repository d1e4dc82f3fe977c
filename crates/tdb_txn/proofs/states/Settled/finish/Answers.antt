use Rattle.std.proofs.Common.{ℕ, subst}
use Rattle.tdb_disk.specs.Stop.{LeavesOnly}
use Rattle.tdb_txn.proofs.Words.{WithWord}
use Rattle.tdb_txn.proofs.StatesKept.{finish_stops}
use Rattle.tdb_txn.proofs.states.Settled.finish.Goals as goal

pub returns-in_err-set_word-clause-stops : goal.returns-in_err-set_word-clause-stops
returns-in_err-set_word-clause-stops g c told a b state =
    let old = g.D.Disk.history c.args.d.now in
    let new = g.D.Disk.history c.set_word.new.d in
    finish_stops c.args.self.plan old new a b c.word_bytes.result c.word_bytes.ensures.bytes state
    (subst (λ (n : ℕ). LeavesOnly old new (WithWord old n c.word_bytes.result)) c.gate.ensures (c.set_word.ensures.stops told state.quiet))

pub returns-clause-stops : goal.returns-clause-stops
returns-clause-stops g c told a b state =
    let old = g.D.Disk.history c.args.d.now in
    let new = g.D.Disk.history c.set_word.new.d in
    finish_stops c.args.self.plan old new a b c.word_bytes.result c.word_bytes.ensures.bytes state
    (subst (λ (n : ℕ). LeavesOnly old new (WithWord old n c.word_bytes.result)) c.gate.ensures (c.set_word.ensures.stops told state.quiet))
