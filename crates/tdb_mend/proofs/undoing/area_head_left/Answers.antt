-- It is 0, or as it was read.
use Rattle.std.proofs.Common.{◌≡◌, ◌+◌, true, false, take, drop, length, refl, sym, ◌∙◌, ap}
use Rattle.std.specs.Prelude.{nat_lt, nat_le, slice_index}
use Rattle.std.proofs.lemmas.Bool.{ltb-true, ltb-false, lt-leb, le-leb}
use Rattle.tdb_space.proofs.Exchange.Overlaid.{word_length}
use Rattle.tdb_undo.proofs.Empties.{zero_word, zero_there}
use Rattle.tdb_mend.proofs.Pieces.{part_byte}
use Rattle.tdb_mend.proofs.undoing.area_head_left.Goals as goal

pub returns-then-not-stays-clause-four : goal.returns-then-not-stays-clause-four
returns-then-not-stays-clause-four g c = ap length c.word_bytes.ensures.bytes ∙ word_length c.order.result 0

pub returns-then-not-stays-clause-bytes : goal.returns-then-not-stays-clause-bytes
returns-then-not-stays-clause-bytes g c told k low =
    let a = c.args.area.now in
    let past : nat_lt a.at a.header.key_len ≡ false = sym c.stays.ensures ∙ c.if-not-stays.true in
    let gone : nat_le a.header.key_len a.at ≡ true = le-leb a.header.key_len a.at (ltb-false a.at a.header.key_len past) in
    let none : slice_index c.word_bytes.result k ≡ 0 = ap (λ xs. slice_index xs k) (c.word_bytes.ensures.bytes ∙ sym (zero_word c.order.result)) ∙ zero_there k in
    none ∙ sym (rw gone refl)

pub returns-clause-four : goal.returns-clause-four
returns-clause-four g c = c.read.auto.buf

pub returns-clause-bytes : goal.returns-clause-bytes
returns-clause-bytes g c told k low =
    let a = c.args.area.now in
    let img = g.S.Space.image c.args.s.now in
    let stays : nat_lt a.at a.header.key_len ≡ true = sym c.stays.ensures ∙ c.if-not-stays.false in
    let there : nat_le a.header.key_len a.at ≡ false = lt-leb a.header.key_len a.at (ltb-true a.at a.header.key_len stays) in
    let read : c.read.new.buf ≡ take 4 (drop 44 img) = c.in_ok-read.ensures.bytes told in
    let here : slice_index c.read.new.buf k ≡ slice_index img (44 + k) = ap (λ xs. slice_index xs k) read ∙ part_byte img 44 4 k low in
    here ∙ sym (rw there refl)
