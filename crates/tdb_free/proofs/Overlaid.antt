-- The header and the tailer of a free record that are written are read back.
use Rattle.std.proofs.Common.{◌≡◌, ℕ, ◌+◌, ◌≤◌, List, length, take, drop, add-zero, sym, ◌∙◌, ap, inl, inr, arith}
use Rattle.tdb_disk.specs.Image.{overlay}
use Rattle.tdb_disk.proofs.Image.{length-overlay, overlay_below, overlay_above}
use Rattle.tdb_words.specs.declared.record.Rec.{Rec}
use Rattle.tdb_words.specs.Word.{word}
use Rattle.tdb_words.specs.Record.{rec_at}
use Rattle.tdb_words.proofs.Words.{word_agrees, word_of_part}
use Rattle.tdb_space.specs.Form.{Form}
use Rattle.tdb_space.specs.Record.{next_of}
use Rattle.tdb_space.proofs.Exchange.Overlaid.{word_overlaid}
use Rattle.tdb_free.specs.Shortened.{Shortened, free_record}

-- the words of a header behind the first are written, and then a tailer
module _ (f : Form) (a : List ℕ) (at rec_len : ℕ) (header part tailer : List ℕ) (part_is : part ≡ take 20 (drop 4 header)) (long : length part ≡ 20) (four : length tailer ≡ 4) (least : 4 ≤ rec_len) (within : at + 24 + rec_len ≤ length a) where
  abbrev mid : List ℕ
  mid = overlay a (at + 4) part

  abbrev last : List ℕ
  last = overlay mid (at + 20 + rec_len) tailer

  sized : length mid ≡ length a
  sized = length-overlay a (at + 4) part

  below_tailer : (k : ℕ) → k ≤ 20 → word f.order last (at + k) ≡ word f.order mid (at + k)
  below_tailer k low = word_agrees f.order last mid (at + k) (λ i from to. overlay_below mid (at + 20 + rec_len) tailer i (omega (arith, to, low, least)))

  word_there : (k : ℕ) → k ≤ 16 → word f.order last (at + (4 + k)) ≡ word f.order header (4 + k)
  word_there k low =
      below_tailer (4 + k) (omega (arith, low))
      ∙ ap (word f.order mid) the_place
      ∙ word_overlaid f.order a (at + 4) part k (omega (arith, low, long)) (omega (arith, long, within))
      ∙ ap (λ bytes. word f.order bytes k) part_is
      ∙ word_of_part f.order header 4 20 k (omega (arith, low))
    where
      the_place : at + (4 + k) ≡ at + 4 + k
      the_place = omega arith

  next_there : word f.order last at ≡ next_of f.order a at
  next_there =
      word_agrees f.order last a at (λ i from to. overlay_below mid (at + 20 + rec_len) tailer i (omega (arith, to, least)) ∙ overlay_below a (at + 4) part i (omega (arith, to)))

  pub shortened_written : (r : Rec) → rec_at f.order header 0 ≡ r → r ≡ free_record r.next rec_len → word f.order tailer 0 ≡ 24 + rec_len → Shortened f a last at rec_len
  shortened_written r header_is made tailer_is =
      let is = header_is ∙ made in
      record {
        size = length-overlay mid (at + 20 + rec_len) tailer ∙ sized;
        header = λ j. record {
          next = next_there j;
          rec_len = (word_there 0 (omega arith) ∙ ap (λ (q : Rec). q.rec_len) is) j;
          key_len = (word_there 4 (omega arith) ∙ ap (λ (q : Rec). q.key_len) is) j;
          data_len = (word_there 8 (omega arith) ∙ ap (λ (q : Rec). q.data_len) is) j;
          full_hash = (word_there 12 (omega arith) ∙ ap (λ (q : Rec). q.full_hash) is) j;
          magic = (word_there 16 (omega arith) ∙ ap (λ (q : Rec). q.magic) is) j;
        };
        tailer = ap (word f.order last) (sym (add-zero (at + 20 + rec_len))) ∙ word_overlaid f.order mid (at + 20 + rec_len) tailer 0 (omega (arith, four)) (omega (arith, four, sized, within)) ∙ tailer_is;
        others = λ i outside beside.
            elim beside [ inl under ↦ overlay_below mid (at + 20 + rec_len) tailer i under | inr over ↦ overlay_above mid (at + 20 + rec_len) tailer i (omega (arith, four, over)) ]
            ∙ elim outside [ inl under ↦ overlay_below a (at + 4) part i under | inr over ↦ overlay_above a (at + 4) part i (omega (arith, long, over)) ];
      }
