-- The pair in the bytes that were read.
use Rattle.std.proofs.Common.{◌≡◌, ◌+◌, ◌-◌, ◌++◌, length, take, drop, ◌∙◌, ap, rules}
use Rattle.std.proofs.Math.Seq.{take-append_seam}
use Rattle.tdb_dump.specs.DumpText.{pair_text}
use Rattle.tdb_space.specs.Record.{key_at, data_at}
use Rattle.tdb_rescue.proofs.Bytes.{first_part, second_slice}
use Rattle.tdb_rescue.proofs.rescuing.push_text.Goals as goal

pub returns-clause-text : goal.returns-clause-text
returns-clause-text g c told shows is =
    let img = g.S.Space.image c.args.s.now in
    let o = (g.S.Space.form c.args.s.now).order in
    let at = c.args.at + 24 in
    let k = c.args.rec.now.key_len in
    let d = c.args.rec.now.data_len in
    let read = c.read.new.buf in
    let room = c.resize.new.self in
    let held : room.len ≡ length read = search rules in
    let size : length c.deref_mut.result.now ≡ k + d = search rules in
    let long : length read ≡ k + d = search rules in
    let whole = ap (λ n. take n (read ++ drop (length read) room.items)) held ∙ take-append_seam read (drop (length read) room.items) in
    let bytes : read ≡ take (k + d) (drop at img) = c.in_ok-read.ensures.bytes told shows ∙ ap (λ n. take n (drop at img)) size in
    let key : take k c.deref.result.now ≡ key_at o img c.args.at =
    ap (take k) (c.deref.ensures.value ∙ whole) ∙ first_part img read at k d bytes ∙ ap (λ r. take r.key_len (drop at img)) is in
    let value : take (length c.deref-2.result.now - k) (drop k c.deref-2.result.now) ≡ data_at o img c.args.at =
    ap (λ xs. take (length xs - k) (drop k xs)) (c.deref-2.ensures.value ∙ whole) ∙ second_slice img read at k d long bytes ∙ ap (λ r. take r.data_len (drop (at + r.key_len) img)) is in
    c.in_ok-push_pair.ensures ∙ (λ j. c.args.text.now.items ++ pair_text (key j) (value j))
