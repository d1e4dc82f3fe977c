use Rattle.std.proofs.Common.{◌≡◌, ℕ, subst}
use Rattle.tdb_disk.specs.History.{seen}
use Rattle.tdb_disk.specs.Image.{overlay}
use Rattle.tdb_disk.specs.Stop.{LeavesOnly}
use Rattle.tdb_txn.proofs.Words.{WithWord}
use Rattle.tdb_txn.proofs.GateShut.{undo_stops, undo_done}
use Rattle.tdb_txn.proofs.states.Prepared.undo.Goals as goal

pub returns-in_err-set_word-clause-stops : goal.returns-in_err-set_word-clause-stops
returns-in_err-set_word-clause-stops g c told a b state =
    let old = g.D.Disk.history c.args.d.now in
    let new = g.D.Disk.history c.set_word.new.d in
    undo_stops c.args.self.plan old new a b c.word_bytes-shut.result c.word_bytes-shut.ensures.bytes state
    (subst (λ (n : ℕ). LeavesOnly old new (WithWord old n c.word_bytes-shut.result)) c.gate.ensures (c.set_word.ensures.stops told state.quiet))

pub returns-clause-stops : goal.returns-clause-stops
returns-clause-stops g c told a b state =
    let old = g.D.Disk.history c.args.d.now in
    let new = g.D.Disk.history c.set_word.new.d in
    undo_stops c.args.self.plan old new a b c.word_bytes-shut.result c.word_bytes-shut.ensures.bytes state
    (subst (λ (n : ℕ). LeavesOnly old new (WithWord old n c.word_bytes-shut.result)) c.gate.ensures (c.set_word.ensures.stops told state.quiet))

pub returns-clause-undone : goal.returns-clause-undone
returns-clause-undone g c told a b state =
    let old = g.D.Disk.history c.args.d.now in
    let new = g.D.Disk.history c.set_word.new.d in
    undo_done c.args.self.plan old new a b c.word_bytes-shut.result c.word_bytes-shut.ensures.bytes state
    (subst (λ (n : ℕ). seen new ≡ overlay (seen old) n c.word_bytes-shut.result) c.gate.ensures (c.in_ok-set_word.ensures.set told))
    (c.in_ok-set_word.ensures.quiet told)
