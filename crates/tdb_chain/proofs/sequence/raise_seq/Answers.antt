-- The number that was read is raised, and at most it changes.
use Rattle.std.proofs.Common.{◌≡◌, ◌∙◌, ap, inl, inr, arith}
use Rattle.tdb_disk.specs.Image.{overlay}
use Rattle.tdb_words.specs.Word.{word, bytes_of_word}
use Rattle.tdb_space.proofs.Exchange.Overlaid.{word_put}
use Rattle.tdb_chain.specs.Raised.{next_number}
use Rattle.tdb_chain.proofs.Raised.{only_sequence}
use Rattle.tdb_chain.proofs.sequence.raise_seq.Goals as goal

pub returns-in_err-write_word-clause-kept : goal.returns-in_err-write_word-clause-kept
returns-in_err-write_word-clause-kept g c told hands accepted =
    let f = g.S.Space.form c.args.s.now in
    let a = g.S.Space.image c.args.s.now in
    let b = g.S.Space.image c.write_word.new.self in
    let w = next_number c.in_ok-number.number in
    let image = c.read_word.ensures.looked.image ∙ c.len.ensures.image in
    let order = c.order.ensures ∙ ap (λ x. x.order) (c.read_word.ensures.looked.form ∙ c.len.ensures.form) in
    let bytes : c.word_bytes.result ≡ bytes_of_word f.order w = c.word_bytes.ensures.bytes ∙ ap (λ o. bytes_of_word o w) order in
    only_sequence f a b hands w accepted
    (elim (c.in_err-write_word.ensures.image told) [
      | inl same ↦ inl (same ∙ image)
      | inr put ↦ inr (put ∙ (λ j. overlay (image j) 48 (bytes j)))
    ])

pub returns-clause-kept : goal.returns-clause-kept
returns-clause-kept g c told hands accepted =
    let f = g.S.Space.form c.args.s.now in
    let a = g.S.Space.image c.args.s.now in
    let b = g.S.Space.image c.write_word.new.self in
    let w = next_number c.in_ok-number.number in
    let image = c.read_word.ensures.looked.image ∙ c.len.ensures.image in
    let order = c.order.ensures ∙ ap (λ x. x.order) (c.read_word.ensures.looked.form ∙ c.len.ensures.form) in
    let bytes : c.word_bytes.result ≡ bytes_of_word f.order w = c.word_bytes.ensures.bytes ∙ ap (λ o. bytes_of_word o w) order in
    only_sequence f a b hands w accepted (inr (c.in_ok-write_word.ensures.image told ∙ (λ j. overlay (image j) 48 (bytes j))))

pub returns-clause-raised : goal.returns-clause-raised
returns-clause-raised g c told long =
    let f = g.S.Space.form c.args.s.now in
    let a = g.S.Space.image c.args.s.now in
    let w = next_number c.in_ok-number.number in
    let image = c.read_word.ensures.looked.image ∙ c.len.ensures.image in
    let order = c.order.ensures ∙ ap (λ x. x.order) (c.read_word.ensures.looked.form ∙ c.len.ensures.form) in
    let bytes : c.word_bytes.result ≡ bytes_of_word f.order w = c.word_bytes.ensures.bytes ∙ ap (λ o. bytes_of_word o w) order in
    let number : c.in_ok-number.number ≡ word f.order a 48 = c.in_ok-number.ensures.value told ∙ (λ j. word (c.len.ensures.form j).order (c.len.ensures.image j) 48) in
    ap (λ img. word f.order img 48) (c.in_ok-write_word.ensures.image told ∙ (λ j. overlay (image j) 48 (bytes j)))
    ∙ word_put f.order a 48 w (omega arith) (omega (arith, long, g.met.S.Space.told_size c.args.s.now told))
    ∙ ap next_number number
