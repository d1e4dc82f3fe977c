-- A record whose parts are written into a hand stands there whole, with its key and its value.
use Rattle.std.proofs.Common.{◌≡◌, ℕ, ◌+◌, ◌<◌, ◌≤◌, ◌^◌, List, length, take, drop, add-zero, sym, ◌∙◌, ap, arith}
use Rattle.std.specs.Prelude.{◌%◌}
use Rattle.tdb_words.specs.declared.record.TheConstants.{USED}
use Rattle.tdb_words.specs.Word.{word}
use Rattle.tdb_words.specs.Record.{rec_at}
use Rattle.tdb_words.specs.Hash.{h_of}
use Rattle.tdb_words.proofs.Words.{word_of_part, word_made, rec_of_part, rec_made}
use Rattle.tdb_space.specs.Form.{Form}
use Rattle.tdb_space.specs.Record.{next_of, rec_len_of, key_len_of, data_len_of}
use Rattle.tdb_space.specs.Extents.{HandPair, HandOk}
use Rattle.tdb_space.specs.Exchange.{WrittenAt, Filled, new_record}

-- the header that was written is read back
header_read : (f : Form) (b : List ℕ) (h : HandPair) (next : ℕ) (k v : List ℕ) → next < 2 ^ 32 → 24 + h.1 < 2 ^ 32 → length k + length v + 4 ≤ h.1 → h_of f.hash k < 2 ^ 32 → WrittenAt f.order b h.0 (new_record f next h.1 k v) k v → rec_at f.order b h.0 ≡ new_record f next h.1 k v
header_read f b h next k v next_fits len_fits room hash_fits W =
    sym (rec_of_part f.order b h.0 24 (omega arith)) ∙ ap (λ bytes. rec_at f.order bytes 0) W.header
    ∙ rec_made f.order (new_record f next h.1 k v) (word_made f.order next next_fits) (word_made f.order h.1 (omega arith)) (word_made f.order (length k) (omega arith)) (word_made f.order (length v) (omega arith)) (word_made f.order (h_of f.hash k) hash_fits) (word_made f.order USED (omega arith))

-- the record fills the hand, and leads to what was to be next
pub filled_written : (f : Form) (b : List ℕ) (h : HandPair) (next : ℕ) (k v : List ℕ) → HandOk f b h → next < 2 ^ 32 → 24 + h.1 < 2 ^ 32 → length k + length v + 4 ≤ h.1 → h_of f.hash k < 2 ^ 32 → WrittenAt f.order b h.0 (new_record f next h.1 k v) k v → Filled f b h k v × (next_of f.order b h.0 ≡ next)
filled_written f b h next k v hand next_fits len_fits room hash_fits W =
    let read = header_read f b h next k v next_fits len_fits room hash_fits W in
    let rec_len : rec_len_of f.order b h.0 ≡ h.1 = ap (λ r. r.rec_len) read in
    let key_len : key_len_of f.order b h.0 ≡ length k = ap (λ r. r.key_len) read in
    let data_len : data_len_of f.order b h.0 ≡ length v = ap (λ r. r.data_len) read in
    let tailer : word f.order b (h.0 + 20 + h.1) ≡ 24 + h.1 =
    ap (word f.order b) (sym (add-zero (h.0 + 20 + h.1))) ∙ sym (word_of_part f.order b (h.0 + 20 + h.1) 4 0 (omega arith)) ∙ ap (λ bytes. word f.order bytes 0) W.tailer ∙ word_made f.order (24 + h.1) len_fits in (
      record {
        whole = record {
          aligned = hand.aligned;
          above = hand.above;
          len_aligned = ap (λ n. n % 4) rec_len ∙ hand.len_aligned;
          len_least = omega (arith, rec_len, room);
          within = omega (arith, rec_len, hand.within);
          tailer = ap (λ n. word f.order b (h.0 + 20 + n)) rec_len ∙ tailer ∙ ap (λ n. 24 + n) (sym rec_len);
        };
        used = ap (λ r. r.magic) read;
        length_kept = rec_len;
        fits = omega (arith, rec_len, key_len, data_len, room);
        has_key = ap (λ n. take n (drop (h.0 + 24) b)) key_len ∙ W.key_there;
        has_value = ap (λ n. take n (drop (h.0 + 24 + key_len_of f.order b h.0) b)) data_len ∙ ap (λ n. take (length v) (drop (h.0 + 24 + n) b)) key_len ∙ W.value_there;
        hashed = ap (λ r. r.full_hash) read;
      },
      ap (λ r. r.next) read,
    )
