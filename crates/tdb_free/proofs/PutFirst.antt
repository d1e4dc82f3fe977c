-- A stretch whose header and tailer are written, and to which the head of the free list then leads, is its first
-- record.
use Rattle.std.proofs.Common.{◌≡◌, ℕ, ◌+◌, ◌<◌, ◌≤◌, ◌⊎◌, List, length, add-zero, sym, ◌∙◌, ap, inl, inr, arith}
use Rattle.std.specs.Prelude.{slice_index, ◌%◌}
use Rattle.tdb_disk.specs.Image.{overlay}
use Rattle.tdb_disk.proofs.Image.{length-overlay, overlay_below, overlay_above, overlay_in}
use Rattle.tdb_words.specs.declared.word.Order.{Order}
use Rattle.tdb_words.specs.declared.record.Rec.{Rec}
use Rattle.tdb_words.specs.declared.record.TheConstants.{FREE}
use Rattle.tdb_words.specs.Word.{word}
use Rattle.tdb_words.specs.Record.{rec_at}
use Rattle.tdb_words.proofs.Words.{word_from_bytes, word_agrees}
use Rattle.tdb_space.specs.Form.{Form, data_start, free_head}
use Rattle.tdb_space.specs.Extents.{HandOk, once}
use Rattle.tdb_space.specs.Exchange.{PutFree}
use Rattle.tdb_space.proofs.Extents.Counts.{where_is}
use Rattle.tdb_space.proofs.Extents.Counts.Lies.{lies, below, above}
use Rattle.tdb_space.specs.Stays.{OnlyIn}
use Rattle.tdb_free.specs.FreeList.{MadeFirst, put_words}

-- a word of what was written over an image, and one before it and behind it
pub word_written : (o : Order) (img : List ℕ) (at : ℕ) (bytes : List ℕ) (k : ℕ) → at + length bytes ≤ length img → k + 4 ≤ length bytes → word o (overlay img at bytes) (at + k) ≡ word o bytes k
word_written o img at bytes k within low =
    word_from_bytes o (overlay img at bytes) bytes (at + k) k (λ j less. overlay_in img at bytes (at + k + j) (omega arith) (omega (arith, low, less)) (omega (arith, low, less, within)) ∙ ap (slice_index bytes) (omega arith))

word_below : (o : Order) (img : List ℕ) (at : ℕ) (bytes : List ℕ) (p : ℕ) → p + 4 ≤ at → word o (overlay img at bytes) p ≡ word o img p
word_below o img at bytes p low = word_agrees o (overlay img at bytes) img p (λ i from to. overlay_below img at bytes i (omega arith))

word_above : (o : Order) (img : List ℕ) (at : ℕ) (bytes : List ℕ) (p : ℕ) → at + length bytes ≤ p → word o (overlay img at bytes) p ≡ word o img p
word_above o img at bytes p high = word_agrees o (overlay img at bytes) img p (λ i from to. overlay_above img at bytes i (omega arith))

-- a byte outside what was written stays
stays : (img : List ℕ) (at : ℕ) (bytes : List ℕ) (i n : ℕ) → length bytes ≡ n → once (at, n) i ≡ 0 → slice_index (overlay img at bytes) i ≡ slice_index img i
stays img at bytes i n long none =
    elim (where_is (at, n) i) [
      | lies _ _ one ↦ absurd (omega (arith, one, none))
      | below under _ ↦ overlay_below img at bytes i under
      | above over _ ↦ overlay_above img at bytes i (omega (arith, over, long))
    ]

-- the three writes change only what is written where a record becomes the first
put_only : (a : List ℕ) (off n : ℕ) (header tailer first : List ℕ) → length header ≡ 24 → length tailer ≡ 4 → length first ≡ 4 → OnlyIn (put_words (off, n)) a (overlay (overlay (overlay a off header) (off + 20 + n) tailer) 168 first)
put_only a off n header tailer first header_length tailer_length first_length i none =
    let head_none : once (free_head, 4) i ≡ 0 = omega (arith, none) in
    let header_none : once (off, 24) i ≡ 0 = omega (arith, none) in
    let tailer_none : once (off + 20 + n, 4) i ≡ 0 = omega (arith, none) in
    stays (overlay (overlay a off header) (off + 20 + n) tailer) 168 first i 4 first_length head_none ∙ stays (overlay a off header) (off + 20 + n) tailer i 4 tailer_length tailer_none ∙ stays a off header i 24 header_length header_none

module _ (f : Form) (a : List ℕ) (off n : ℕ) (header tailer first : List ℕ) (hand : HandOk f a (off, n)) (least : 4 ≤ n) (header_length : length header ≡ 24) (tailer_length : length tailer ≡ 4) (first_length : length first ≡ 4) where
  abbrev with_header : List ℕ
  with_header = overlay a off header

  abbrev with_tailer : List ℕ
  with_tailer = overlay with_header (off + 20 + n) tailer

  abbrev now : List ℕ
  now = overlay with_tailer 168 first

  same_length : length with_header ≡ length a
  same_length = length-overlay a off header

  same_length_then : length with_tailer ≡ length a
  same_length_then = length-overlay with_header (off + 20 + n) tailer ∙ same_length

  -- each word of the header is the one that was written
  header_word : (k : ℕ) → k + 4 ≤ 24 → word f.order now (off + k) ≡ word f.order header k
  header_word k low =
      word_above f.order with_tailer 168 first (off + k) (omega (arith, first_length, hand.above))
      ∙ word_below f.order with_header (off + 20 + n) tailer (off + k) (omega (arith, low, least))
      ∙ word_written f.order a off header k (omega (arith, header_length, hand.within)) (omega (arith, low, header_length))

  tailer_word : word f.order now (off + 20 + n) ≡ word f.order tailer 0
  tailer_word =
      word_above f.order with_tailer 168 first (off + 20 + n) (omega (arith, first_length, hand.above))
      ∙ ap (word f.order with_tailer) (sym (add-zero (off + 20 + n)))
      ∙ word_written f.order with_header (off + 20 + n) tailer 0 (omega (arith, tailer_length, hand.within, same_length)) (omega (arith, tailer_length))

  first_word : word f.order now free_head ≡ word f.order first 0
  first_word = word_written f.order with_tailer 168 first 0 (omega (arith, first_length, hand.within, hand.above, same_length_then)) (omega (arith, first_length))

  low_stays : (i : ℕ) → i < data_start f → (i < free_head) ⊎ (free_head + 4 ≤ i) → slice_index now i ≡ slice_index a i
  low_stays i under apart =
      elim apart [
        | inl less ↦ overlay_below with_tailer 168 first i less
        | inr over ↦ overlay_above with_tailer 168 first i (omega (arith, over, first_length))
      ]
      ∙ overlay_below with_header (off + 20 + n) tailer i (omega (arith, under, hand.above))
      ∙ overlay_below a off header i (omega (arith, under, hand.above))

  high_stays : (i : ℕ) → data_start f ≤ i → (i < off) ⊎ (off + 24 + n ≤ i) → slice_index now i ≡ slice_index a i
  high_stays i from apart =
      overlay_above with_tailer 168 first i (omega (arith, from, first_length))
      ∙ elim apart [
        | inl less ↦ overlay_below with_header (off + 20 + n) tailer i (omega (arith, less)) ∙ overlay_below a off header i less
        | inr over ↦ overlay_above with_header (off + 20 + n) tailer i (omega (arith, over, tailer_length)) ∙ overlay_above a off header i (omega (arith, over, header_length))
      ]

  put_free : (r : Rec) → rec_at f.order header 0 ≡ r → r.next ≡ word f.order a free_head → r.rec_len ≡ n → r.magic ≡ FREE → word f.order tailer 0 ≡ 24 + n → word f.order first 0 ≡ off → PutFree f a now (off, n)
  put_free r read next rec_len magic tail leads =
      let len : word f.order now (off + 4) ≡ n = header_word 4 (omega arith) ∙ ap (λ (q : Rec). q.rec_len) read ∙ rec_len in
      record {
        size = length-overlay with_tailer 168 first ∙ same_length_then;
        low = low_stays;
        high = high_stays;
        whole = record {
          aligned = hand.aligned;
          above = hand.above;
          len_aligned = ap (λ m. m % 4) len ∙ hand.len_aligned;
          len_least = omega (arith, len, least);
          within = omega (arith, len, hand.within, length-overlay with_tailer 168 first, same_length_then);
          tailer = ap (λ m. word f.order now (off + 20 + m)) len ∙ tailer_word ∙ tail ∙ ap (λ m. 24 + m) (sym len);
        };
        is_free = header_word 20 (omega arith) ∙ ap (λ (q : Rec). q.magic) read ∙ magic;
        length_kept = len;
        next = ap (word f.order now) (sym (add-zero off)) ∙ header_word 0 (omega arith) ∙ ap (λ (q : Rec). q.next) read ∙ next;
        head = first_word ∙ leads;
      }

  -- and the record holds nothing
  pub made_first : (r : Rec) → rec_at f.order header 0 ≡ r → r.next ≡ word f.order a free_head → r.rec_len ≡ n → r.magic ≡ FREE → r.key_len ≡ 0 → r.data_len ≡ 0 → r.full_hash ≡ 0 → word f.order tailer 0 ≡ 24 + n → word f.order first 0 ≡ off → MadeFirst f a now (off, n)
  made_first r read next rec_len magic no_key no_value no_hash tail leads = record {
    put = put_free r read next rec_len magic tail leads;
    empty = record {
      key_len = header_word 8 (omega arith) ∙ ap (λ (q : Rec). q.key_len) read ∙ no_key;
      data_len = header_word 12 (omega arith) ∙ ap (λ (q : Rec). q.data_len) read ∙ no_value;
      full_hash = header_word 16 (omega arith) ∙ ap (λ (q : Rec). q.full_hash) read ∙ no_hash;
    };
    others = put_only a off n header tailer first header_length tailer_length first_length;
  }
