-- The map has the new value, and only the value and the word of its length are written.
use Rattle.std.proofs.Common.{◌≡◌, ◌+◌, List, [], ◌∷◌, length, refl, ◌∙◌, ap, inl, inr, arith}
use Rattle.tdb_disk.specs.Image.{overlay}
use Rattle.tdb_words.specs.Word.{bytes_of_word}
use Rattle.tdb_space.specs.Extents.{Extent}
use Rattle.tdb_space.proofs.Exchange.Overlaid.{word_length, only_same, only_then, put_only}
use Rattle.tdb_space.proofs.Results.{on_err}
use Rattle.tdb_chain.specs.Stopped.{UpdateStopped}
use Rattle.tdb_chain.specs.Stopped.UpdateStopped.{value_torn, value_whole}
use Rattle.tdb_chain.proofs.Stopped.{update_stopped}
use Rattle.tdb_chain.proofs.Touched.{updated_set}
use Rattle.tdb_chain.proofs.in_place.update_in_place.Goals as goal

pub returns-in_err-write_word-clause-written : goal.returns-in_err-write_word-clause-written
returns-in_err-write_word-clause-written g c told =
    let a = g.S.Space.image c.args.s.now in
    let m = g.S.Space.image c.write.new.self in
    let b = g.S.Space.image c.write_word.new.self in
    let off = c.args.p.now.off in
    let at = off + 24 + c.args.p.now.rec.key_len in
    let value = c.args.value.now in
    let word = c.word_bytes.result in
    let written : List Extent = (off + 12, 4) ∷ (at, length value) ∷ [] in
    let four : length word ≡ 4 = ap length c.word_bytes.ensures.bytes ∙ word_length c.order.result (length value) in
    only_then written a m b
    (put_only at (length value) value written a m refl (λ i none. omega (arith, none)) (c.in_ok-write.ensures.image told))
    (elim (c.in_err-write_word.ensures.image told) [
      | inl same ↦ only_same written m b same
      | inr put ↦ put_only (off + 12) 4 word written m b four (λ i none. omega (arith, none)) put
    ])

pub returns-clause-written : goal.returns-clause-written
returns-clause-written g c told =
    let a = g.S.Space.image c.args.s.now in
    let m = g.S.Space.image c.write.new.self in
    let b = g.S.Space.image c.write_word.new.self in
    let off = c.args.p.now.off in
    let at = off + 24 + c.args.p.now.rec.key_len in
    let value = c.args.value.now in
    let word = c.word_bytes.result in
    let written : List Extent = (off + 12, 4) ∷ (at, length value) ∷ [] in
    let four : length word ≡ 4 = ap length c.word_bytes.ensures.bytes ∙ word_length c.order.result (length value) in
    only_then written a m b
    (put_only at (length value) value written a m refl (λ i none. omega (arith, none)) (c.in_ok-write.ensures.image told))
    (put_only (off + 12) 4 word written m b four (λ i none. omega (arith, none)) (c.in_ok-write_word.ensures.image told))

pub returns-clause-set : goal.returns-clause-set
returns-clause-set g c told hands key accepted holds =
    let f = g.S.Space.form c.args.s.now in
    let a = g.S.Space.image c.args.s.now in
    let b = g.S.Space.image c.write_word.new.self in
    let p = c.args.p.now in
    let value = c.args.value.now in
    let order = c.order.ensures ∙ ap (λ x. x.order) c.write.ensures.form in
    updated_set f a b hands key p accepted holds value c.requires.short c.requires.fits
    (c.in_ok-write_word.ensures.image told
    ∙ ap (λ bytes. overlay (g.S.Space.image c.write.new.self) (p.off + 12) bytes) (c.word_bytes.ensures.bytes ∙ ap (λ o. bytes_of_word o (length value)) order)
    ∙ ap (λ img. overlay img (p.off + 12) (bytes_of_word f.order (length value))) (c.in_ok-write.ensures.image told))

-- the value was written in part
pub returns-in_err-write-clause-stopped : goal.returns-in_err-write-clause-stopped
returns-in_err-write-clause-stopped g c = on_err c.from_residual.result (λ told. value_torn (c.in_err-write.ensures.image told))

pub returns-in_err-write-clause-stopped_kept : goal.returns-in_err-write-clause-stopped_kept
returns-in_err-write-clause-stopped_kept g c = on_err c.from_residual.result (λ told hands key accepted holds.
    update_stopped (g.S.Space.form c.args.s.now) (g.S.Space.image c.args.s.now) (g.S.Space.image c.write.new.self) hands key c.args.p.now c.args.value.now accepted holds c.requires.short c.requires.fits
    (value_torn (c.in_err-write.ensures.image told)))

-- it was written whole, and the word of its length is the old or the new one
pub returns-in_err-write_word-clause-stopped : goal.returns-in_err-write_word-clause-stopped
returns-in_err-write_word-clause-stopped g c = on_err c.from_residual-in_err-write_word.result (λ told.
    (let f = g.S.Space.form c.args.s.now in
    let a = g.S.Space.image c.args.s.now in
    let m = g.S.Space.image c.write.new.self in
    let p = c.args.p.now in
    let value = c.args.value.now in
    let order = c.order.ensures ∙ ap (λ x. x.order) c.write.ensures.form in
    let first : m ≡ overlay a (p.off + 24 + p.rec.key_len) value = c.in_ok-write.ensures.image told in
    let bytes : c.word_bytes.result ≡ bytes_of_word f.order (length value) = c.word_bytes.ensures.bytes ∙ ap (λ o. bytes_of_word o (length value)) order in
    value_whole
    (elim (c.in_err-write_word.ensures.image told) [
      | inl same ↦ inl (same ∙ first)
      | inr put ↦ inr (put ∙ (λ j. overlay (first j) (p.off + 12) (bytes j)))
    ])))

pub returns-in_err-write_word-clause-stopped_kept : goal.returns-in_err-write_word-clause-stopped_kept
returns-in_err-write_word-clause-stopped_kept g c = on_err c.from_residual-in_err-write_word.result (λ told hands key accepted holds.
    (let f = g.S.Space.form c.args.s.now in
    let a = g.S.Space.image c.args.s.now in
    let m = g.S.Space.image c.write.new.self in
    let p = c.args.p.now in
    let value = c.args.value.now in
    let order = c.order.ensures ∙ ap (λ x. x.order) c.write.ensures.form in
    let first : m ≡ overlay a (p.off + 24 + p.rec.key_len) value = c.in_ok-write.ensures.image told in
    let bytes : c.word_bytes.result ≡ bytes_of_word f.order (length value) = c.word_bytes.ensures.bytes ∙ ap (λ o. bytes_of_word o (length value)) order in
    let b = g.S.Space.image c.write_word.new.self in
    let stopped : UpdateStopped f.order a b p value = value_whole
    (elim (c.in_err-write_word.ensures.image told) [
      | inl same ↦ inl (same ∙ first)
      | inr put ↦ inr (put ∙ (λ j. overlay (first j) (p.off + 12) (bytes j)))
    ]) in
    update_stopped f a b hands key p value accepted holds c.requires.short c.requires.fits stopped))
