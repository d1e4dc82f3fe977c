-- A key that is compared with a part of an image piece by piece.
use Rattle.std.proofs.Common.{◌≡◌, ℕ, ◌+◌, ◌-◌, ◌≤◌, List, ◌++◌, length, take, drop, length-take, length-drop, sym, ◌∙◌, ap, arith}
use Rattle.std.proofs.Math.Seq.{take-add}
use Rattle.std.proofs.lemmas.List.{drop-take}
use Rattle.std.proofs.lemmas.Grind.{common_steps}

-- one piece more
pub piece_joined : (img key : List ℕ) (off done count : ℕ) → take done (drop off img) ≡ take done key → take count (drop (off + done) img) ≡ take count (drop done key) → take (done + count) (drop off img) ≡ take (done + count) key
piece_joined img key off done count so_far piece =
    let from : drop done (drop off img) ≡ drop (off + done) img = grind (arith, common_steps) in
    take-add done count (drop off img) ∙ (λ j. so_far j ++ (ap (take count) from ∙ piece) j) ∙ sym (take-add done count key)

-- a piece of a key that stands there stands at its place
pub piece_of : (img key : List ℕ) (off done count : ℕ) → done + count ≤ length key → take (length key) (drop off img) ≡ key → take count (drop (off + done) img) ≡ take count (drop done key)
piece_of img key off done count within whole =
    let from : drop (off + done) img ≡ drop done (drop off img) = grind (arith, common_steps) in
    let front : take (done + count) (drop off img) ≡ take (done + count) (take (length key) (drop off img)) = grind (arith, common_steps) in
    ap (take count) from ∙ sym (drop-take done count (drop off img)) ∙ ap (drop done) (front ∙ ap (take (done + count)) whole) ∙ drop-take done count key

-- a piece as the code cuts it out
part : List ℕ → ℕ → ℕ → List ℕ
part key done count = take ((done + count) - done) (drop done key)

part_is : (key : List ℕ) (done count : ℕ) → part key done count ≡ take count (drop done key)
unfolding part
part_is key done count = let e : (done + count) - done ≡ count = omega arith in ap (λ n. take n (drop done key)) e

part_length : (key : List ℕ) (done count : ℕ) → done + count ≤ length key → length (part key done count) ≡ count
unfolding part
part_length key done count within = omega (arith, length-take ((done + count) - done) (drop done key), length-drop done key)

-- both, for the piece as it is cut out
pub part_joined : (img key : List ℕ) (off done count : ℕ) → done + count ≤ length key → take done (drop off img) ≡ take done key → take (length (take ((done + count) - done) (drop done key))) (drop (off + done) img) ≡ take ((done + count) - done) (drop done key) → take (done + count) (drop off img) ≡ take (done + count) key
unfolding part
part_joined img key off done count within so_far piece =
    piece_joined img key off done count so_far (ap (λ n. take n (drop (off + done) img)) (sym (part_length key done count within)) ∙ piece ∙ part_is key done count)

pub part_of : (img key : List ℕ) (off done count : ℕ) → done + count ≤ length key → take (length key) (drop off img) ≡ key → take (length (take ((done + count) - done) (drop done key))) (drop (off + done) img) ≡ take ((done + count) - done) (drop done key)
unfolding part
part_of img key off done count within whole =
    ap (λ n. take n (drop (off + done) img)) (part_length key done count within) ∙ piece_of img key off done count within whole ∙ sym (part_is key done count)
