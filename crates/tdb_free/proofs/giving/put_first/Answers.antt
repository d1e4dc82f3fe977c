-- The three writes make the stretch the first free record.
use Rattle.std.proofs.Common.{rules, ◌≡◌, ◌+◌, length, refl, sym, ◌∙◌, ap, subst, inl, inr, arith, IsTrue}
use Rattle.std.proofs.lemmas.Result.{on_ok_weaker, on_err_weaker}
use Rattle.tdb_disk.specs.Image.{overlay}
use Rattle.tdb_disk.specs.Stop.{Torn}
use Rattle.tdb_words.specs.declared.record.TheConstants.{FREE}
use Rattle.tdb_words.specs.Word.{word, bytes_of_word}
use Rattle.tdb_words.specs.Record.{rec_at}
use Rattle.tdb_words.proofs.Words.{word_made}
use Rattle.tdb_space.specs.Form.{free_head}
use Rattle.tdb_space.specs.Extents.{HandOk}
use Rattle.tdb_free.specs.FreeList.{MadeFirst}
use Rattle.tdb_free.specs.Stretch.{pair}
use Rattle.tdb_free.proofs.Inside.{inside_same, inside_torn, inside_then_torn, inside_both}
use Rattle.tdb_free.proofs.PutFirst.{made_first}
use Rattle.tdb_free.proofs.Results.{on_err}
use Rattle.tdb_space.proofs.Exchange.Overlaid.{word_length}
use Rattle.tdb_free.proofs.giving.put_first.Given as given
use Rattle.tdb_free.proofs.giving.put_first.Goals as goal

-- once the head leads to the record, it is the first
made : (g : given.Over) (c : goal.After-write_link g) → IsTrue g.S.Space.tells → HandOk (g.S.Space.form c.args.s.now) (g.S.Space.image c.args.s.now) (pair c.args.free.now)
    → g.S.Space.image c.write_link.new.s ≡ overlay (g.S.Space.image c.write-2.new.self) 168 (bytes_of_word (g.S.Space.form c.write-2.new.self).order c.args.free.now.off)
    → MadeFirst (g.S.Space.form c.args.s.now) (g.S.Space.image c.args.s.now) (g.S.Space.image c.write_link.new.s) (pair c.args.free.now)
made g c told hand last =
    let f = g.S.Space.form c.args.s.now in
    let img = g.S.Space.image c.args.s.now in
    let off = c.args.free.now.off in
    let n = c.args.free.now.rec_len in
    let order : c.order-order.result ≡ f.order = c.order-order.ensures in
    let next : c.in_ok-read_word.field-0 ≡ word f.order img free_head = c.in_ok-read_word.ensures.value told in
    let read : rec_at f.order c.rec_bytes.result 0 ≡ record { next = c.in_ok-read_word.field-0; rec_len = n; key_len = 0; data_len = 0; full_hash = 0; magic = FREE } =
    ap (λ o. rec_at o c.rec_bytes.result 0) (sym order) ∙ c.rec_bytes.ensures.read_back in
    let tailer : word f.order c.word_bytes-tailer.result 0 ≡ 24 + n = ap (λ o. word o c.word_bytes-tailer.result 0) (sym order) ∙ c.word_bytes-tailer.ensures.read_back in
    let header_length : length c.rec_bytes.result ≡ 24 = search rules in
    let tailer_length : length c.word_bytes-tailer.result ≡ 4 = search rules in
    let e1 = c.in_ok-write.ensures.image told ∙ ap (λ i. overlay i off c.rec_bytes.result) c.read_word.ensures.looked.image in
    let e2 = c.in_ok-write-2.ensures.image told ∙ ap (λ i. overlay i (off + 20 + n) c.word_bytes-tailer.result) e1 in
    let form = c.write-2.ensures.form ∙ c.write.ensures.form ∙ c.read_word.ensures.looked.form in
    let e3 = last ∙ (λ j. overlay (e2 j) 168 (bytes_of_word (form j).order off)) in
    subst (λ b. MadeFirst f img b (off, n)) (sym e3)
    (made_first f img off n c.rec_bytes.result c.word_bytes-tailer.result (bytes_of_word f.order off) hand c.requires.least header_length tailer_length (word_length f.order off)
    (record { next = c.in_ok-read_word.field-0; rec_len = n; key_len = 0; data_len = 0; full_hash = 0; magic = FREE }) read next refl refl refl refl refl tailer (word_made f.order off (omega (arith, c.requires.short))))

pub returns-clause-put : goal.returns-clause-put
returns-clause-put g c = on_ok_weaker c.write_link.result (λ written told hand. made g c told hand (written told)) c.write_link.ensures.image

-- the head was not read
pub returns-in_err-read_word-clause-stopped : goal.returns-in_err-read_word-clause-stopped
returns-in_err-read_word-clause-stopped g c = on_err c.from_residual.result (λ told hand.
    (inl (inside_same (g.S.Space.form c.args.s.now) (g.S.Space.image c.args.s.now) (g.S.Space.image c.read_word.new.s) c.args.free.now.off c.args.free.now.rec_len c.read_word.ensures.looked.image)))

-- the header was written in part
pub returns-in_err-write-clause-stopped : goal.returns-in_err-write-clause-stopped
returns-in_err-write-clause-stopped g c = on_err c.from_residual-in_err-write.result (λ told hand.
    (let b = g.S.Space.image c.write.new.self in
    let off = c.args.free.now.off in
    let long : length c.rec_bytes.result ≡ 24 = search rules in
    let torn = subst (λ n. Torn off n (g.S.Space.image c.read_word.new.s) b) long (c.in_err-write.ensures.image told) in
    inl (inside_torn (g.S.Space.form c.args.s.now) (g.S.Space.image c.args.s.now) b off c.args.free.now.rec_len (subst (λ i. Torn off 24 i b) c.read_word.ensures.looked.image torn))))

-- the tailer was
pub returns-in_err-write-2-clause-stopped : goal.returns-in_err-write-2-clause-stopped
returns-in_err-write-2-clause-stopped g c = on_err c.from_residual-in_err-write-2.result (λ told hand.
    (let a = g.S.Space.image c.args.s.now in
    let mid = g.S.Space.image c.write.new.self in
    let b = g.S.Space.image c.write-2.new.self in
    let off = c.args.free.now.off in
    let n = c.args.free.now.rec_len in
    let long : length c.rec_bytes.result ≡ 24 = search rules in
    let four : length c.word_bytes-tailer.result ≡ 4 = search rules in
    let torn = subst (λ m. Torn (off + 20 + n) m mid b) four (c.in_err-write-2.ensures.image told) in
    let header : mid ≡ overlay a off c.rec_bytes.result = c.in_ok-write.ensures.image told ∙ ap (λ i. overlay i off c.rec_bytes.result) c.read_word.ensures.looked.image in
    inl (inside_then_torn (g.S.Space.form c.args.s.now) a b off n mid c.rec_bytes.result long header torn)))

-- both were written, and the head is as it was, or leads to the record
pub returns-clause-stopped : goal.returns-clause-stopped
returns-clause-stopped g c =
    let a = g.S.Space.image c.args.s.now in
    let mid = g.S.Space.image c.write.new.self in
    let b = g.S.Space.image c.write_link.new.s in
    let off = c.args.free.now.off in
    let n = c.args.free.now.rec_len in
    let long : length c.rec_bytes.result ≡ 24 = search rules in
    let four : length c.word_bytes-tailer.result ≡ 4 = search rules in
    on_err_weaker c.write_link.result (λ stopped told hand.
    (let header : mid ≡ overlay a off c.rec_bytes.result = c.in_ok-write.ensures.image told ∙ ap (λ i. overlay i off c.rec_bytes.result) c.read_word.ensures.looked.image in
    elim (stopped told) [
      | inl same ↦ inl (inside_both (g.S.Space.form c.args.s.now) a b off n mid c.rec_bytes.result long header c.word_bytes-tailer.result four (same ∙ c.in_ok-write-2.ensures.image told))
      | inr written ↦ inr (made g c told hand written)
    ])) c.write_link.ensures.stopped
