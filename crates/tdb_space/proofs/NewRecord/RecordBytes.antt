-- The parts of a record's bytes, and that they are read back where they were written.
use Rattle.std.proofs.Common.{◌≡◌, ℕ, ◌+◌, ◌-◌, ◌<◌, ◌≤◌, List, ◌++◌, length, take, drop, replicate, append_assoc, add-zero, refl, sym, ◌∙◌, ap, arith}
use Rattle.std.specs.Prelude.{slice_index}
use Rattle.std.proofs.Math.Seq.{take-append_seam, drop-append_seam, drop-append-add, take-length}
use Rattle.std.proofs.lemmas.Grind.{common_steps}
use Rattle.std.proofs.lemmas.List.{length-replicate, get_or-replicate, get_or-append-add, get_or_append_left}
use Rattle.tdb_disk.specs.Image.{overlay}
use Rattle.tdb_disk.proofs.Image.{overlay_in}
use Rattle.tdb_words.specs.declared.record.TheConstants.{PADDING}
use Rattle.tdb_words.specs.declared.record.Rec.{Rec}
use Rattle.tdb_words.specs.declared.word.Order.{Order}
use Rattle.tdb_words.specs.declared.word.Order.TheVariants.{Little, Big}
use Rattle.tdb_words.specs.Word.{bytes_of_word}
use Rattle.tdb_words.specs.Record.{bytes_of_rec}
use Rattle.tdb_space.specs.Exchange.{Agree, WrittenAt}
use Rattle.tdb_space.specs.NewRecord.{record_bytes}
use Rattle.tdb_space.proofs.Exchange.Kept.{part_kept}
use Rattle.tdb_space.proofs.Exchange.Overlaid.{word_length, part_overlaid}

-- a header has 24 bytes
pub rec_length : (o : Order) (r : Rec) → length (bytes_of_rec o r) ≡ 24
rec_length Little r = refl
rec_length Big r = refl

-- five lists, one behind the other
module _ (h k v p t : List ℕ) where
  nested : h ++ k ++ v ++ p ++ t ≡ h ++ (k ++ (v ++ (p ++ t)))
  nested = simp append_assoc

  pub five_length : length (h ++ k ++ v ++ p ++ t) ≡ length h + length k + length v + length p + length t
  five_length = grind (arith, common_steps)

  pub first_part : take (length h) (h ++ k ++ v ++ p ++ t) ≡ h
  first_part = ap (take (length h)) nested ∙ take-append_seam h (k ++ (v ++ (p ++ t)))

  behind_first : (m : ℕ) → drop (length h + m) (h ++ k ++ v ++ p ++ t) ≡ drop m (k ++ (v ++ (p ++ t)))
  behind_first m = ap (drop (length h + m)) nested ∙ drop-append-add h (k ++ (v ++ (p ++ t))) m

  pub second_part : take (length k) (drop (length h) (h ++ k ++ v ++ p ++ t)) ≡ k
  second_part = ap (λ l. take (length k) (drop (length h) l)) nested ∙ ap (take (length k)) (drop-append_seam h (k ++ (v ++ (p ++ t)))) ∙ take-append_seam k (v ++ (p ++ t))

  pub third_part : take (length v) (drop (length h + length k) (h ++ k ++ v ++ p ++ t)) ≡ v
  third_part = ap (take (length v)) (behind_first (length k) ∙ drop-append_seam k (v ++ (p ++ t))) ∙ take-append_seam v (p ++ t)

  pub last_part : take (length t) (drop (length h + (length k + (length v + length p))) (h ++ k ++ v ++ p ++ t)) ≡ t
  last_part =
      ap (take (length t)) (
      behind_first (length k + (length v + length p)) ∙ drop-append-add k (v ++ (p ++ t)) (length v + length p)
      ∙ drop-append-add v (p ++ t) (length p) ∙ drop-append_seam p t
      )
      ∙ take-length t

  pub fourth_at : (j : ℕ) → j < length p → slice_index (h ++ k ++ v ++ p ++ t) (length h + (length k + (length v + j))) ≡ slice_index p j
  fourth_at j low =
      ap (λ l. slice_index l (length h + (length k + (length v + j)))) nested
      ∙ get_or-append-add h (k ++ (v ++ (p ++ t))) (length k + (length v + j)) 0 ∙ get_or-append-add k (v ++ (p ++ t)) (length v + j) 0 ∙ get_or-append-add v (p ++ t) j 0
      ∙ get_or_append_left p t 0 j low

-- the bytes of a record that has room for what it holds
module _ (o : Order) (r : Rec) (key value : List ℕ) (fits : length key + length value + 4 ≤ r.rec_len) where
  abbrev header : List ℕ
  header = bytes_of_rec o r

  abbrev padding : List ℕ
  padding = replicate (r.rec_len - (length key + length value + 4)) PADDING

  abbrev tailer : List ℕ
  tailer = bytes_of_word o (24 + r.rec_len)

  header_long : length header ≡ 24
  header_long = rec_length o r

  padding_long : length padding ≡ r.rec_len - (length key + length value + 4)
  padding_long = length-replicate (r.rec_len - (length key + length value + 4)) PADDING

  tailer_long : length tailer ≡ 4
  tailer_long = word_length o (24 + r.rec_len)

  pub record_length : length (record_bytes o r key value) ≡ 24 + r.rec_len
  record_length = omega (arith, fits, five_length header key value padding tailer, header_long, padding_long, tailer_long)

  -- they are written within an image
  module _ (a : List ℕ) (at : ℕ) (within : at + 24 + r.rec_len ≤ length a) where
    abbrev now : List ℕ
    now = overlay a at (record_bytes o r key value)

    part : (k n : ℕ) → k + n ≤ 24 + r.rec_len → take n (drop (at + k) now) ≡ take n (drop k (record_bytes o r key value))
    part k n inside = part_overlaid a at (record_bytes o r key value) k n (omega (arith, inside, record_length)) (omega (arith, within, record_length))

    pub record_written : WrittenAt o (overlay a at (record_bytes o r key value)) at r key value
    record_written = record {
      header = ap (λ i. take 24 (drop i now)) (sym (add-zero at)) ∙ part 0 24 (omega (arith, fits)) ∙ ap (λ n. take n (record_bytes o r key value)) (sym header_long) ∙ first_part header key value padding tailer;
      key_there = part 24 (length key) (omega (arith, fits)) ∙ ap (λ i. take (length key) (drop i (record_bytes o r key value))) (sym header_long) ∙ second_part header key value padding tailer;
      value_there = ap (λ i. take (length value) (drop i now)) (let place : at + 24 + length key ≡ at + (24 + length key) = omega arith in place)
          ∙ part (24 + length key) (length value) (omega (arith, fits)) ∙ ap (λ i. take (length value) (drop (i + length key) (record_bytes o r key value))) (sym header_long)
          ∙ third_part header key value padding tailer;
      tailer = ap (λ i. take 4 (drop i now)) (let place : at + 20 + r.rec_len ≡ at + (20 + r.rec_len) = omega arith in place)
          ∙ part (20 + r.rec_len) 4 (omega arith)
          ∙ ap (λ i. take 4 (drop i (record_bytes o r key value))) (let place : 20 + r.rec_len ≡ length header + (length key + (length value + length padding)) = omega (arith, fits, header_long, padding_long) in place)
          ∙ ap (λ n. take n (drop (length header + (length key + (length value + length padding))) (record_bytes o r key value))) (sym tailer_long)
          ∙ last_part header key value padding tailer;
    }

    -- between the value and the tailer stands padding
    pub record_padded : (i : ℕ) → at + 24 + length key + length value ≤ i → i < at + 20 + r.rec_len → slice_index (overlay a at (record_bytes o r key value)) i ≡ PADDING
    record_padded i from to =
        let j = i - (at + 24 + length key + length value) in
        let low : j < length padding = omega (arith, from, to, padding_long) in
        overlay_in a at (record_bytes o r key value) i (omega (arith, from)) (omega (arith, to, record_length)) (omega (arith, to, within))
        ∙ ap (slice_index (record_bytes o r key value)) (let place : i - at ≡ length header + (length key + (length value + j)) = omega (arith, from, header_long) in place)
        ∙ fourth_at header key value padding tailer j low
        ∙ get_or-replicate (r.rec_len - (length key + length value + 4)) j PADDING 0 (omega (arith, low, padding_long))

-- a record that was written stays where its bytes do
pub written_kept : (o : Order) (a b : List ℕ) (at : ℕ) (r : Rec) (key value : List ℕ) → length key + length value + 4 ≤ r.rec_len → at + 24 + r.rec_len ≤ length a → length a ≤ length b → Agree a b at (at + 24 + r.rec_len) → WrittenAt o a at r key value → WrittenAt o b at r key value
written_kept o a b at r key value fits within longer same W = record {
  header = part_kept a b at 24 (omega (arith, within)) longer (λ i low high. same i (omega (arith, low)) (omega (arith, high))) ∙ W.header;
  key_there = part_kept a b (at + 24) (length key) (omega (arith, within, fits)) longer (λ i low high. same i (omega (arith, low)) (omega (arith, high, fits))) ∙ W.key_there;
  value_there = part_kept a b (at + 24 + length key) (length value) (omega (arith, within, fits)) longer (λ i low high. same i (omega (arith, low)) (omega (arith, high, fits))) ∙ W.value_there;
  tailer = part_kept a b (at + 20 + r.rec_len) 4 (omega (arith, within)) longer (λ i low high. same i (omega (arith, low)) (omega (arith, high))) ∙ W.tailer;
}
