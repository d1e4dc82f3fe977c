use Rattle.tdb_txn.proofs.Words.{word_tried, word_synced}
use Rattle.tdb_txn.proofs.gate_word.set_word.Goals as goal

pub returns-in_err-write_word-clause-stops : goal.returns-in_err-write_word-clause-stops
returns-in_err-write_word-clause-stops g c told quiet =
    word_tried (g.D.Disk.history c.args.d.now) (g.D.Disk.history c.write_word.new.self) c.args.at c.args.w quiet c.write_word.ensures.tried

pub returns-clause-stops : goal.returns-clause-stops
returns-clause-stops g c told quiet =
    word_synced (g.D.Disk.history c.args.d.now) (g.D.Disk.history c.write_word.new.self) (g.D.Disk.history c.sync.new.self) c.args.at c.args.w quiet
    c.write_word.ensures.tried c.sync.ensures.tried
