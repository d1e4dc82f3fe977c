-- The map loses the key.
use Rattle.std.proofs.Common.{◌+◌, ◌∙◌, ap, inl, inr}
use Rattle.tdb_disk.specs.Image.{overlay}
use Rattle.tdb_words.specs.declared.record.TheConstants.{DEAD}
use Rattle.tdb_words.specs.Word.{bytes_of_word}
use Rattle.tdb_space.proofs.Results.{on_err}
use Rattle.tdb_chain.proofs.Touched.{marked_set}
use Rattle.tdb_chain.proofs.in_place.mark_dead.Goals as goal

pub returns-clause-set : goal.returns-clause-set
returns-clause-set g c told hands key accepted holds =
    let f = g.S.Space.form c.args.s.now in
    let a = g.S.Space.image c.args.s.now in
    let b = g.S.Space.image c.write_word.new.self in
    let p = c.args.p.now in
    marked_set f a b hands key p accepted holds
    (c.in_ok-write_word.ensures.image told ∙ ap (λ bytes. overlay a (p.off + 20) bytes) (c.word_bytes.ensures.bytes ∙ ap (λ o. bytes_of_word o DEAD) c.order.ensures))

-- the word is as it was, or that of a dead record
pub returns-in_err-write_word-clause-stopped : goal.returns-in_err-write_word-clause-stopped
returns-in_err-write_word-clause-stopped g c = on_err c.from_residual.result (λ told hands key accepted holds.
    (let f = g.S.Space.form c.args.s.now in
    let a = g.S.Space.image c.args.s.now in
    let b = g.S.Space.image c.write_word.new.self in
    let p = c.args.p.now in
    elim (c.in_err-write_word.ensures.image told) [
      | inl same ↦ inl same
      | inr put ↦ inr (marked_set f a b hands key p accepted holds (put ∙ ap (λ bytes. overlay a (p.off + 20) bytes) (c.word_bytes.ensures.bytes ∙ ap (λ o. bytes_of_word o DEAD) c.order.ensures)))
    ]))
