-- The record stands in what was the hand, and the head leads to it.
use Rattle.std.proofs.Common.{◌≡◌, ◌+◌, ◌<◌, ◌^◌, [], ◌∷◌, length, sym, ◌∙◌, ap, subst, inl, inr, arith, rules}
use Rattle.std.specs.Prelude.{◌%◌}
use Rattle.tdb_disk.specs.Image.{overlay}
use Rattle.tdb_words.specs.Word.{word, bytes_of_word}
use Rattle.tdb_words.specs.declared.record.TheConstants.{USED}
use Rattle.tdb_space.specs.Form.{chain_head}
use Rattle.tdb_space.specs.Pairs.{home}
use Rattle.tdb_space.specs.NewRecord.{record_bytes}
use Rattle.tdb_space.specs.Stays.{OnlyIn}
use Rattle.tdb_space.proofs.Pairs.Maps.{home_below}
use Rattle.tdb_space.proofs.Results.{on_err}
use Rattle.tdb_chain.proofs.Linked.{put_in_front, put_padded}
use Rattle.tdb_chain.proofs.Stopped.{in_hand_same, in_hand_only}
use Rattle.tdb_chain.proofs.linking.put_in_front.Goals as goal

pub returns-clause-put : goal.returns-clause-put
returns-clause-put g c told small hand =
    let f = g.S.Space.form c.args.s.now in
    let a = g.S.Space.image c.args.s.now in
    let m = g.S.Space.image c.write_record.new.s in
    let b = g.S.Space.image c.put_word.new.s in
    let at = c.args.at in
    let n = c.args.rec_len in
    let key = c.args.key.now in
    let value = c.args.value.now in
    let first = c.in_ok-read_word.field-0 in
    let chain : c.chain_of.result ≡ home f key = c.chain_of.ensures ∙ (λ j. c.requires.hash j % c.hash_size.ensures j) in
    let head : c.chain_head-head.result ≡ chain_head (home f key) = c.chain_head-head.ensures ∙ ap chain_head chain in
    let looked = c.read_word.ensures.looked in
    let form = c.write_record.ensures.wrote.form ∙ looked.form in
    let size : length a ≡ g.S.Space.size c.args.s.now = g.met.S.Space.told_size c.args.s.now told in
    put_in_front f a m b (at, n) key value first hand (home_below f key c.requires.chains) (omega (arith, size, small)) c.requires.fits
    (c.in_ok-read_word.ensures.value told ∙ ap (word f.order a) head) (search rules)
    (c.in_ok-write_record.ensures.written told ∙ (λ j. overlay (looked.image j) at
    (record_bytes (looked.form j).order (record { next = first; rec_len = n; key_len = length key; data_len = length value; full_hash = c.requires.hash j; magic = USED }) key value)))
    (c.in_ok-put_word.ensures.written told ∙ (λ j. overlay m (head j) (bytes_of_word (form j).order at)))

pub returns-clause-padded : goal.returns-clause-padded
returns-clause-padded g c told small hand =
    let f = g.S.Space.form c.args.s.now in
    let a = g.S.Space.image c.args.s.now in
    let m = g.S.Space.image c.write_record.new.s in
    let b = g.S.Space.image c.put_word.new.s in
    let at = c.args.at in
    let n = c.args.rec_len in
    let key = c.args.key.now in
    let value = c.args.value.now in
    let first = c.in_ok-read_word.field-0 in
    let chain : c.chain_of.result ≡ home f key = c.chain_of.ensures ∙ (λ j. c.requires.hash j % c.hash_size.ensures j) in
    let head : c.chain_head-head.result ≡ chain_head (home f key) = c.chain_head-head.ensures ∙ ap chain_head chain in
    let looked = c.read_word.ensures.looked in
    let form = c.write_record.ensures.wrote.form ∙ looked.form in
    let size : length a ≡ g.S.Space.size c.args.s.now = g.met.S.Space.told_size c.args.s.now told in
    λ i from to.
    put_padded f a m b (at, n) key value first hand (home_below f key c.requires.chains) (omega (arith, size, small)) c.requires.fits
    (c.in_ok-read_word.ensures.value told ∙ ap (word f.order a) head) (search rules)
    (c.in_ok-write_record.ensures.written told ∙ (λ j. overlay (looked.image j) at
    (record_bytes (looked.form j).order (record { next = first; rec_len = n; key_len = length key; data_len = length value; full_hash = c.requires.hash j; magic = USED }) key value)))
    (c.in_ok-put_word.ensures.written told ∙ (λ j. overlay m (head j) (bytes_of_word (form j).order at)))
    i (omega (arith, from)) to

-- the head was not read
pub returns-in_err-read_word-clause-stopped : goal.returns-in_err-read_word-clause-stopped
returns-in_err-read_word-clause-stopped g c = on_err c.from_residual.result (λ told small hand.
    inl (in_hand_same (g.S.Space.form c.args.s.now) (g.S.Space.image c.args.s.now) (g.S.Space.image c.read_word.new.s) (c.args.at, c.args.rec_len) c.read_word.ensures.looked.image))

-- the record was written in part
pub returns-in_err-write_record-clause-stopped : goal.returns-in_err-write_record-clause-stopped
returns-in_err-write_record-clause-stopped g c = on_err c.from_residual-in_err-write_record.result (λ told small hand.
    (let a = g.S.Space.image c.args.s.now in
    let v = g.S.Space.image c.read_word.new.s in
    let b = g.S.Space.image c.write_record.new.s in
    let looked = c.read_word.ensures.looked in
    let long : length b ≡ length a = g.met.S.Space.told_size c.write_record.new.s told ∙ c.write_record.ensures.size ∙ looked.size ∙ sym (g.met.S.Space.told_size c.args.s.now told) in
    inl (in_hand_only (g.S.Space.form c.args.s.now) a v b c.args.at c.args.rec_len looked.image long (c.write_record.ensures.only told))))

-- it was written, and the head is as it was, or leads to it
pub returns-in_err-put_word-clause-stopped : goal.returns-in_err-put_word-clause-stopped
returns-in_err-put_word-clause-stopped g c = on_err c.from_residual-in_err-put_word.result (λ told small hand.
    (let f = g.S.Space.form c.args.s.now in
    let a = g.S.Space.image c.args.s.now in
    let v = g.S.Space.image c.read_word.new.s in
    let m = g.S.Space.image c.write_record.new.s in
    let b = g.S.Space.image c.put_word.new.s in
    let at = c.args.at in
    let n = c.args.rec_len in
    let key = c.args.key.now in
    let value = c.args.value.now in
    let first = c.in_ok-read_word.field-0 in
    let fits : first < 2 ^ 32 = search rules in
    let chain : c.chain_of.result ≡ home f key = c.chain_of.ensures ∙ (λ j. c.requires.hash j % c.hash_size.ensures j) in
    let head : c.chain_head-head.result ≡ chain_head (home f key) = c.chain_head-head.ensures ∙ ap chain_head chain in
    let looked = c.read_word.ensures.looked in
    let form = c.write_record.ensures.wrote.form ∙ looked.form in
    let size : length a ≡ g.S.Space.size c.args.s.now = g.met.S.Space.told_size c.args.s.now told in
    let long : length b ≡ length a = g.met.S.Space.told_size c.put_word.new.s told ∙ c.put_word.ensures.size ∙ c.write_record.ensures.size ∙ looked.size ∙ sym size in
    elim (c.put_word.ensures.old_or_new told) [
      | inl same ↦ inl (in_hand_only f a v b at n looked.image long (subst (OnlyIn ((at, 24 + n) ∷ []) v) (sym same) (c.write_record.ensures.only told)))
      | inr put ↦
          inr (put_in_front f a m b (at, n) key value first hand (home_below f key c.requires.chains) (omega (arith, size, small)) c.requires.fits
          (c.in_ok-read_word.ensures.value told ∙ ap (word f.order a) head) fits
          (c.in_ok-write_record.ensures.written told ∙ (λ j. overlay (looked.image j) at
          (record_bytes (looked.form j).order (record { next = first; rec_len = n; key_len = length key; data_len = length value; full_hash = c.requires.hash j; magic = USED }) key value)))
          (put ∙ (λ j. overlay m (head j) (bytes_of_word (form j).order at))))
    ]))
