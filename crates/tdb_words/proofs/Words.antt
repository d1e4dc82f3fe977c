-- How words and record headers are read from a part of an image, or from another image with the same bytes there.
use Rattle.std.proofs.Common.{◌≡◌, ℕ, ◌+◌, ◌*◌, ◌<◌, ◌≤◌, List, take, drop, ap, ◌∙◌, arith}
use Rattle.std.specs.Prelude.{slice_index, ◌/◌, ◌%◌, ◌^◌}
use Rattle.std.proofs.lemmas.List.{get_or-drop, get_or-take}
use native.Mathlib.Numerals.{unary_clauses}
use Rattle.tdb_words.specs.declared.word.Order.{Order}
use Rattle.tdb_words.specs.declared.word.Order.TheVariants.{Little, Big}
use Rattle.tdb_words.specs.declared.record.Rec.{Rec}
use Rattle.tdb_words.specs.Word.{word, bytes_of_word}
use Rattle.tdb_words.specs.Record.{rec_at, bytes_of_rec}

-- four bytes that stand, each at its place, at `a` of one image and at `b` of another make one word
pub word_from_bytes : (o : Order) (x y : List ℕ) (a b : ℕ) → ((j : ℕ) → j < 4 → slice_index x (a + j) ≡ slice_index y (b + j)) → word o x a ≡ word o y b
unfolding word
word_from_bytes o x y a b same =
    let e0 : slice_index x a ≡ slice_index y b = simp unary_clauses at (same 0 (omega arith)) in
    let e1 : slice_index x (a + 1) ≡ slice_index y (b + 1) = same 1 (omega arith) in
    let e2 : slice_index x (a + 2) ≡ slice_index y (b + 2) = same 2 (omega arith) in
    let e3 : slice_index x (a + 3) ≡ slice_index y (b + 3) = same 3 (omega arith) in
    cc

-- two images that agree on the four bytes at an offset have one word there
pub word_agrees : (o : Order) (x y : List ℕ) (at : ℕ) → ((i : ℕ) → at ≤ i → i < at + 4 → slice_index x i ≡ slice_index y i) → word o x at ≡ word o y at
word_agrees o x y at same = word_from_bytes o x y at at (λ j low. same (at + j) (omega arith) (omega arith))

-- a word of a part of an image is the word of the image at that place
pub word_of_part : (o : Order) (img : List ℕ) (at n i : ℕ) → i + 4 ≤ n → word o (take n (drop at img)) i ≡ word o img (at + i)
word_of_part o img at n i within = word_from_bytes o (take n (drop at img)) img i (at + i) (λ j low. get_or-take n (drop at img) (i + j) 0 (omega arith) ∙ get_or-drop at img (i + j) 0 ∙ ap (slice_index img) (omega arith))

-- a record header read from a part of an image is that of the image at that place
pub rec_of_part : (o : Order) (img : List ℕ) (at n : ℕ) → 24 ≤ n → rec_at o (take n (drop at img)) 0 ≡ rec_at o img at
rec_of_part o img at n within =
    let e0 : word o (take n (drop at img)) 0 ≡ word o img at = simp unary_clauses at (word_of_part o img at n 0 (omega arith)) in
    let e1 : word o (take n (drop at img)) 4 ≡ word o img (at + 4) = word_of_part o img at n 4 (omega arith) in
    let e2 : word o (take n (drop at img)) 8 ≡ word o img (at + 8) = word_of_part o img at n 8 (omega arith) in
    let e3 : word o (take n (drop at img)) 12 ≡ word o img (at + 12) = word_of_part o img at n 12 (omega arith) in
    let e4 : word o (take n (drop at img)) 16 ≡ word o img (at + 16) = word_of_part o img at n 16 (omega arith) in
    let e5 : word o (take n (drop at img)) 20 ≡ word o img (at + 20) = word_of_part o img at n 20 (omega arith) in
    cc

-- the bytes of a number, the lowest first, make the number
quad_made : (w : ℕ) → w < 2 ^ 32 → w % 256 + 256 * (w / 256 % 256) + 65536 * (w / 65536 % 256) + 16777216 * (w / 16777216 % 256) ≡ w
quad_made w fits = omega arith

-- the word that the four bytes of a number make is the number
pub word_made : (o : Order) (w : ℕ) → w < 2 ^ 32 → word o (bytes_of_word o w) 0 ≡ w
unfolding word
word_made Little w fits = quad_made w fits
word_made Big w fits = quad_made w fits

-- the record header that the 24 bytes of one make is that one, where each of its words is made by its bytes
pub rec_made : (o : Order) (r : Rec) → word o (bytes_of_word o r.next) 0 ≡ r.next → word o (bytes_of_word o r.rec_len) 0 ≡ r.rec_len → word o (bytes_of_word o r.key_len) 0 ≡ r.key_len → word o (bytes_of_word o r.data_len) 0 ≡ r.data_len → word o (bytes_of_word o r.full_hash) 0 ≡ r.full_hash → word o (bytes_of_word o r.magic) 0 ≡ r.magic → rec_at o (bytes_of_rec o r) 0 ≡ r
unfolding word
rec_made Little r e0 e1 e2 e3 e4 e5 = λ j. record {
  next = e0 j;
  rec_len = e1 j;
  key_len = e2 j;
  data_len = e3 j;
  full_hash = e4 j;
  magic = e5 j;
}
rec_made Big r e0 e1 e2 e3 e4 e5 = λ j. record {
  next = e0 j;
  rec_len = e1 j;
  key_len = e2 j;
  data_len = e3 j;
  full_hash = e4 j;
  magic = e5 j;
}
