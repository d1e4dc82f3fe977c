-- The two words, and the bytes behind them.
use Rattle.std.proofs.Common.{◌+◌, length, ap, inl, inr, arith}
use Rattle.std.proofs.lemmas.Result.{on_ok_weaker}
use Rattle.tdb_disk.specs.History.{seen}
use Rattle.tdb_space.specs.Opening.{lies_in}
use Rattle.tdb_undo.proofs.Blocks.{start_torn, write_torn, wider_torn, join_torn}
use Rattle.tdb_undo.proofs.Lies.{lies, lies_not, lies_outside}
use Rattle.tdb_undo.proofs.Puts.{entry_put}
use Rattle.tdb_undo.proofs.content.put_entry.Goals as goal

pub returns-in_err-write-clause-stops : goal.returns-in_err-write-clause-stops
returns-in_err-write-clause-stops g c told =
    write_torn (g.D.Disk.history c.args.d.now) (g.D.Disk.history c.args.d.now) (g.D.Disk.history c.write.new.self) (lies_in c.args.place (8 + c.args.run.1)) c.args.place (length c.two_words-words.result) (λ i low high. lies c.args.place (8 + c.args.run.1) i low (omega (arith, high))) (start_torn (g.D.Disk.history c.args.d.now) (lies_in c.args.place (8 + c.args.run.1))) c.write.ensures.tried

pub returns-clause-stops : goal.returns-clause-stops
returns-clause-stops g c told =
    join_torn (g.D.Disk.history c.args.d.now) (g.D.Disk.history c.write.new.self) (g.D.Disk.history c.copy_bytes.new.d) (lies_in c.args.place (8 + c.args.run.1)) (write_torn (g.D.Disk.history c.args.d.now) (g.D.Disk.history c.args.d.now) (g.D.Disk.history c.write.new.self) (lies_in c.args.place (8 + c.args.run.1)) c.args.place (length c.two_words-words.result) (λ i low high. lies c.args.place (8 + c.args.run.1) i low (omega (arith, high))) (start_torn (g.D.Disk.history c.args.d.now) (lies_in c.args.place (8 + c.args.run.1))) c.write.ensures.tried)
    (wider_torn (g.D.Disk.history c.write.new.self) (g.D.Disk.history c.copy_bytes.new.d) (lies_in (c.args.place + 8) c.args.run.1) (lies_in c.args.place (8 + c.args.run.1)) (λ i out. lies_not (c.args.place + 8) c.args.run.1 i (elim (lies_outside c.args.place (8 + c.args.run.1) i out) [ inl low ↦ inl (omega (arith, low)) | inr high ↦ inr (omega (arith, high)) ])) (c.copy_bytes.ensures.stops told))

pub returns-clause-put : goal.returns-clause-put
returns-clause-put g c =
    on_ok_weaker c.copy_bytes.result (λ put told. (let long = g.met.D.Disk.told_size c.args.d.now told in
    entry_put c.args.order c.args.place c.args.run (seen (g.D.Disk.history c.args.d.now)) (seen (g.D.Disk.history c.write.new.self)) (seen (g.D.Disk.history c.copy_bytes.new.d)) c.two_words-words.result (omega (arith, long, c.requires.target)) c.requires.apart (omega arith) c.two_words-words.ensures.first c.two_words-words.ensures.second (ap seen (c.in_ok-write.ensures.done told)) (put told))) c.copy_bytes.ensures.put
