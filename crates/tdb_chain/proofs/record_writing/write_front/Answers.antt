-- Three writes, one behind the other, are one.
use Rattle.std.proofs.Common.{◌≡◌, ◌+◌, length, ◌∙◌, ap, arith}
use Rattle.tdb_disk.specs.Image.{overlay}
use Rattle.tdb_words.specs.Record.{bytes_of_rec}
use Rattle.tdb_space.proofs.NewRecord.RecordBytes.{rec_length}
use Rattle.tdb_chain.proofs.Writing.{three_written}
use Rattle.tdb_chain.proofs.record_writing.write_front.Goals as goal

pub returns-clause-written : goal.returns-clause-written
returns-clause-written g c told =
    let f = g.S.Space.form c.args.s.now in
    let a = g.S.Space.image c.args.s.now in
    let at = c.args.at in
    let key = c.args.key.now in
    let value = c.args.value.now in
    let header = bytes_of_rec f.order c.args.rec.now in
    let long : length header ≡ 24 = rec_length f.order c.args.rec.now in
    let is : c.rec_bytes-header.result ≡ header = c.rec_bytes-header.ensures.bytes ∙ ap (λ o. bytes_of_rec o c.args.rec.now) c.order.ensures in
    three_written a (g.S.Space.image c.put.new.s) (g.S.Space.image c.put-2.new.s) (g.S.Space.image c.put-3.new.s) at (at + 24) (at + 24 + length key) header key value
    (omega (arith, long)) (omega (arith, long)) (omega (arith, long, c.requires.within, g.met.S.Space.told_size c.args.s.now told))
    (c.in_ok-put.ensures.written told ∙ ap (overlay a at) is) (c.in_ok-put-2.ensures.written told) (c.in_ok-put-3.ensures.written told)
