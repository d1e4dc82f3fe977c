-- What a window onto an image shows: its first bytes from an offset on.
use Rattle.std.proofs.Common.{◌≡◌, ℕ, ◌+◌, ◌-◌, ◌≤◌, List, ◌++◌, length, take, drop, refl, sym, ◌∙◌, ap, arith}
use Rattle.std.proofs.Math.Seq.{take-add}
use Rattle.std.proofs.lemmas.List.{drop-take}
use Rattle.std.proofs.lemmas.Grind.{common_steps}
use Rattle.tdb_words.specs.declared.word.Order.{Order}
use Rattle.tdb_words.specs.Word.{word}
use Rattle.tdb_words.proofs.Words.{word_of_part}

-- a word within the window is the image's
pub window_word : (o : Order) (img window : List ℕ) (at place : ℕ) → place + 4 ≤ length window → window ≡ take (length window) (drop at img) → word o (take ((place + 4) - place) (drop place window)) 0 ≡ word o img (at + place)
window_word o img window at place within shows =
    let four : (place + 4) - place ≡ 4 = omega arith in
    let front : place + 0 ≡ place = omega arith in
    ap (λ n. word o (take n (drop place window)) 0) four ∙ word_of_part o window place 4 0 (omega arith) ∙ ap (word o window) front
    ∙ ap (λ w. word o w place) shows ∙ word_of_part o img at (length window) place within

-- so are its bytes
pub window_bytes : (img window : List ℕ) (at from count : ℕ) → from + count ≤ length window → window ≡ take (length window) (drop at img) → take count (drop from window) ≡ take count (drop (at + from) img)
window_bytes img window at from count within shows =
    let place : drop from (drop at img) ≡ drop (at + from) img = grind (arith, common_steps) in
    let front : take (from + count) (take (length window) (drop at img)) ≡ take (from + count) (drop at img) = grind (arith, common_steps) in
    sym (drop-take from count window) ∙ ap (λ w. drop from (take (from + count) w)) shows ∙ ap (drop from) front ∙ drop-take from count (drop at img) ∙ ap (take count) place

-- a piece that was read behind others
pub pieces_join : (img : List ℕ) (off done count : ℕ) (piece : List ℕ) → piece ≡ take count (drop (off + done) img) → take done (drop off img) ++ piece ≡ take (done + count) (drop off img)
pieces_join img off done count piece e =
    let place : drop (off + done) img ≡ drop done (drop off img) = grind (arith, common_steps) in
    ap (λ p. take done (drop off img) ++ p) (e ∙ ap (take count) place) ∙ sym (take-add done count (drop off img))

-- bytes from two offsets on are the same up to the end of a piece, where they are before it and in it
pub pieces_same : (img : List ℕ) (first second done count : ℕ) → take done (drop first img) ≡ take done (drop second img) → take count (drop (first + done) img) ≡ take count (drop (second + done) img) → take (done + count) (drop first img) ≡ take (done + count) (drop second img)
pieces_same img first second done count before here =
    sym (pieces_join img first done count (take count (drop (first + done) img)) refl)
    ∙ (λ i. before i ++ here i)
    ∙ pieces_join img second done count (take count (drop (second + done) img)) refl

-- a piece of bytes that are the same
pub piece_same : (img : List ℕ) (first second done count all : ℕ) → done + count ≤ all → take all (drop first img) ≡ take all (drop second img) → take count (drop (first + done) img) ≡ take count (drop (second + done) img)
piece_same img first second done count all within same = sym (part first) ∙ ap (λ bytes. drop done (take (done + count) bytes)) same ∙ part second
  where
    part : (from : ℕ) → drop done (take (done + count) (take all (drop from img))) ≡ take count (drop (from + done) img)
    part from =
        let front : take (done + count) (take all (drop from img)) ≡ take (done + count) (drop from img) = grind (arith, common_steps) in
        let place : drop done (drop from img) ≡ drop (from + done) img = grind (arith, common_steps) in
        ap (drop done) front ∙ drop-take done count (drop from img) ∙ ap (take count) place
