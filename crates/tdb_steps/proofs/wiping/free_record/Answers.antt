-- The header and the tailer are written.
use Rattle.std.proofs.Common.{◌≡◌, ◌+◌, ◌-◌, ◌≤◌, length, sym, ◌∙◌, ap, subst, arith, rules}
use Rattle.tdb_disk.specs.Image.{overlay}
use Rattle.tdb_disk.specs.Stop.{Torn}
use Rattle.tdb_words.specs.Word.{word}
use Rattle.tdb_words.specs.Record.{rec_at}
use Rattle.tdb_steps.specs.Wiped.{MadeFree}
use Rattle.tdb_free.specs.Shortened.{free_record}
use Rattle.tdb_steps.proofs.FreeWrites.{torn_wider, torn_then, header_torn, both_torn, record_freed}
use Rattle.tdb_steps.proofs.wiping.free_record.Goals as goal

pub returns-in_err-write-clause-only : goal.returns-in_err-write-clause-only
returns-in_err-write-clause-only g c told =
    let a = g.S.Space.image c.args.s.now in
    let b = g.S.Space.image c.write.new.self in
    let long : length c.rec_bytes.result ≡ 24 = search rules in
    torn_wider c.args.from 24 c.args.from c.args.count a b (omega arith) (omega (arith, c.requires.long))
    (subst (λ n. Torn c.args.from n a b) long (c.in_err-write.ensures.image told))

pub returns-in_err-write-2-clause-only : goal.returns-in_err-write-2-clause-only
returns-in_err-write-2-clause-only g c told =
    let a = g.S.Space.image c.args.s.now in
    let mid = g.S.Space.image c.write.new.self in
    let b = g.S.Space.image c.write-2.new.self in
    let from = c.args.from in
    let n = c.args.count in
    let long : length c.rec_bytes.result ≡ 24 = search rules in
    let four : length c.word_bytes-tailer.result ≡ 4 = search rules in
    let within : from + n ≤ length a = omega (arith, g.met.S.Space.told_size c.args.s.now told, c.requires.within) in
    torn_then from n a mid b
    (subst (Torn from n a) (sym (c.in_ok-write.ensures.image told)) (header_torn (g.S.Space.form c.args.s.now) a from n c.args.next c.rec_bytes.result c.word_bytes-tailer.result long four c.requires.long within))
    (torn_wider (from + n - 4) 4 from n mid b (omega (arith, c.requires.long)) (omega (arith, c.requires.long)) (subst (λ k. Torn (from + n - 4) k mid b) four (c.in_err-write-2.ensures.image told)))

pub returns-clause-only : goal.returns-clause-only
returns-clause-only g c told =
    let a = g.S.Space.image c.args.s.now in
    let from = c.args.from in
    let n = c.args.count in
    let long : length c.rec_bytes.result ≡ 24 = search rules in
    let four : length c.word_bytes-tailer.result ≡ 4 = search rules in
    let written : g.S.Space.image c.write-2.new.self ≡ overlay (overlay a from c.rec_bytes.result) (from + n - 4) c.word_bytes-tailer.result =
    c.in_ok-write-2.ensures.image told ∙ ap (λ i. overlay i (from + n - 4) c.word_bytes-tailer.result) (c.in_ok-write.ensures.image told) in
    subst (Torn from n a) (sym written)
    (both_torn (g.S.Space.form c.args.s.now) a from n c.args.next c.rec_bytes.result c.word_bytes-tailer.result long four c.requires.long (omega (arith, g.met.S.Space.told_size c.args.s.now told, c.requires.within)))

pub returns-clause-freed : goal.returns-clause-freed
returns-clause-freed g c told =
    let f = g.S.Space.form c.args.s.now in
    let a = g.S.Space.image c.args.s.now in
    let from = c.args.from in
    let n = c.args.count in
    let header = c.rec_bytes.result in
    let tailer = c.word_bytes-tailer.result in
    let long : length header ≡ 24 = search rules in
    let four : length tailer ≡ 4 = search rules in
    let order : c.order-order.result ≡ f.order = c.order-order.ensures in
    let says : rec_at f.order header 0 ≡ free_record c.args.next (n - 24) = ap (λ o. rec_at o header 0) (sym order) ∙ c.rec_bytes.ensures.read_back in
    let tail : word f.order tailer 0 ≡ n = ap (λ o. word o tailer 0) (sym order) ∙ c.word_bytes-tailer.ensures.read_back in
    let written : g.S.Space.image c.write-2.new.self ≡ overlay (overlay a from header) (from + n - 4) tailer =
    c.in_ok-write-2.ensures.image told ∙ ap (λ i. overlay i (from + n - 4) tailer) (c.in_ok-write.ensures.image told) in
    subst (λ b. MadeFree f a b from n c.args.next from) (sym written)
    (record_freed f a from n c.args.next header tailer long four c.requires.long (omega (arith, g.met.S.Space.told_size c.args.s.now told, c.requires.within)) says tail)
