-- An image of which at most the word at 48 changed differs at most in the sequence number.
use Rattle.std.proofs.Common.{ℕ, List, length, ap, ◌∙◌, inl, inr, arith}
use Rattle.std.specs.Prelude.{slice_index}
use Rattle.tdb_disk.proofs.Image.{length-overlay, overlay_below, overlay_above}
use Rattle.tdb_words.specs.declared.word.Order.{Order}
use Rattle.tdb_words.specs.Word.{bytes_of_word}
use Rattle.tdb_space.specs.Form.{Form}
use Rattle.tdb_space.specs.Extents.{HandPair}
use Rattle.tdb_space.specs.Accepted.{AcceptWith}
use Rattle.tdb_space.specs.Exchange.{ButSequence}
use Rattle.tdb_space.proofs.Exchange.Overlaid.{word_length}
use Rattle.tdb_space.proofs.Stays.Changes.{sequence_stays, sequence_frees}
use Rattle.tdb_chain.specs.Changed.{OldOrWord}
use Rattle.tdb_chain.specs.Raised.{OnlySequence}

but_sequence : (o : Order) (a b : List ℕ) (w : ℕ) → OldOrWord o a 48 w b → ButSequence a b
but_sequence o a b w (inl same) = record { size = ap length same; others = λ i _. ap (λ img. slice_index img i) same }
but_sequence o a b w (inr put) = record {
  size = ap length put ∙ length-overlay a 48 (bytes_of_word o w);
  others = λ i beside.
      ap (λ img. slice_index img i) put
      ∙ elim beside [ inl under ↦ overlay_below a 48 (bytes_of_word o w) i under | inr over ↦ overlay_above a 48 (bytes_of_word o w) i (omega (arith, over, word_length o w)) ];
}

-- so an accepted one holds the same
pub only_sequence : (f : Form) (a b : List ℕ) (hands : List HandPair) (w : ℕ) → AcceptWith f a hands → OldOrWord f.order a 48 w b → OnlySequence f a b hands
only_sequence f a b hands w A written =
    let beside = but_sequence f.order a b w written in
    record { beside = beside; stay = sequence_stays f a b hands A beside; frees = sequence_frees f a b hands A beside }
