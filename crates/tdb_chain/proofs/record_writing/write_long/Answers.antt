-- The three parts of the record's bytes, one behind the other.
use Rattle.std.proofs.Common.{◌≡◌, ◌+◌, ◌-◌, ◌*◌, ◌++◌, length, replicate, length-append, ◌∙◌, ap, arith}
use Rattle.std.specs.Prelude.{◌/◌, ◌%◌}
use Rattle.std.proofs.lemmas.List.{length-replicate}
use Rattle.tdb_disk.specs.Image.{overlay}
use Rattle.tdb_words.specs.declared.record.TheConstants.{PADDING}
use Rattle.tdb_words.specs.Word.{bytes_of_word}
use Rattle.tdb_words.specs.Record.{bytes_of_rec}
use Rattle.tdb_space.proofs.Exchange.Overlaid.{word_length}
use Rattle.tdb_space.proofs.NewRecord.RecordBytes.{rec_length}
use Rattle.tdb_chain.proofs.Writing.{three_written, record_parts}
use Rattle.tdb_chain.proofs.record_writing.write_long.Goals as goal

pub returns-clause-written : goal.returns-clause-written
returns-clause-written g c told =
    let f = g.S.Space.form c.args.s.now in
    let a = g.S.Space.image c.args.s.now in
    let at = c.args.at in
    let r = c.args.rec.now in
    let key = c.args.key.now in
    let value = c.args.value.now in
    let held = length key + length value in
    let padding = r.rec_len - held - 4 in
    let whole = padding / 4096 in
    let rest = padding % 4096 in
    let front = bytes_of_rec f.order r ++ key ++ value in
    let middle = replicate (4096 * whole) PADDING in
    let last = replicate rest PADDING ++ bytes_of_word f.order (24 + r.rec_len) in
    let front_long : length front ≡ 24 + held = omega (arith, length-append (bytes_of_rec f.order r ++ key) value, length-append (bytes_of_rec f.order r) key, rec_length f.order r) in
    let middle_long : length middle ≡ 4096 * whole = length-replicate (4096 * whole) PADDING in
    let last_long : length last ≡ rest + 4 = omega (arith, length-append (replicate rest PADDING) (bytes_of_word f.order (24 + r.rec_len)), length-replicate rest PADDING, word_length f.order (24 + r.rec_len)) in
    let sum : 4096 * whole + rest ≡ padding = omega arith in
    let order = ap (λ x. x.order) (c.write_padding.ensures.wrote.form ∙ c.write_front.ensures.wrote.form) in
    three_written a (g.S.Space.image c.write_front.new.s) (g.S.Space.image c.write_padding.new.s) (g.S.Space.image c.write_end.new.s) at (at + 24 + held) (at + 24 + held + 4096 * whole) front middle last
    (omega (arith, front_long)) (omega (arith, front_long, middle_long))
    (omega (arith, front_long, middle_long, last_long, sum, c.requires.fits, c.requires.within, g.met.S.Space.told_size c.args.s.now told))
    (c.in_ok-write_front.ensures.written told) (c.in_ok-write_padding.ensures.written told)
    (c.in_ok-write_end.ensures.written told ∙ ap (λ o. overlay (g.S.Space.image c.write_padding.new.s) (at + 24 + held + 4096 * whole) (replicate rest PADDING ++ bytes_of_word o (24 + r.rec_len))) order)
    ∙ ap (overlay a at) (record_parts f.order r key value whole rest (omega (arith, sum)))
