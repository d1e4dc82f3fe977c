use Rattle.std.proofs.Common.{length, ◌∙◌, ap, arith}
use Rattle.std.proofs.lemmas.Result.{on_ok_weaker}
use Rattle.tdb_disk.specs.History.{called, synced}
use Rattle.tdb_space.proofs.Exchange.Overlaid.{word_length}
use Rattle.tdb_answer.proofs.Rewriting.{got_sequence}
use Rattle.tdb_answer.proofs.commands.rewriting.set_sequence.Goals as goal

pub returns-clause-got : goal.returns-clause-got
returns-clause-got g c = on_ok_weaker c.sync.result (λ done told.
    (let old = g.D.Disk.history c.args.disk.now in
    let bytes = c.word_bytes.result in
    got_sequence c.args.order c.args.number bytes old (g.D.Disk.history c.sync.new.self)
    (ap length c.word_bytes.ensures.bytes ∙ word_length c.args.order c.args.number) c.word_bytes.ensures.read_back (omega (arith, c.requires.reaches, g.met.D.Disk.told_size c.args.disk.now told))
    (done told ∙ ap (λ h. called h synced) (c.in_ok-write_word.ensures.done told))))
    c.sync.ensures.done
