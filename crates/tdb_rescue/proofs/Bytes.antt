-- Bytes of an image that a window holds.
use Rattle.std.proofs.Common.{◌≡◌, ℕ, ◌+◌, ◌-◌, ◌≤◌, List, ◌++◌, length, take, drop, sym, ◌∙◌, ap, arith}
use Rattle.std.proofs.Math.Seq.{take-add}
use Rattle.std.proofs.lemmas.List.{drop-take, drop-drop, take-take}

-- some of the bytes that are held
pub held_part : (img bytes : List ℕ) (from k c : ℕ) → k + c ≤ length bytes → bytes ≡ take (length bytes) (drop from img) → take c (drop k bytes) ≡ take c (drop (from + k) img)
held_part img bytes from k c within shows =
    let sum : k + (length bytes - k) ≡ length bytes = omega (arith, within) in
    let few : c ≤ length bytes - k = omega (arith, within) in
    ap (λ b. take c (drop k b)) shows ∙ ap (λ m. take c (drop k (take m (drop from img)))) (sym sum)
    ∙ ap (take c) (drop-take k (length bytes - k) (drop from img)) ∙ take-take c (length bytes - k) (drop k (drop from img)) few ∙ ap (take c) (drop-drop k from img)

-- a piece behind the bytes so far
pub piece_joined : (img piece : List ℕ) (off done count : ℕ) → piece ≡ take count (drop (off + done) img) → take done (drop off img) ++ piece ≡ take (done + count) (drop off img)
piece_joined img piece off done count read =
    ap (λ p. take done (drop off img) ++ p) (read ∙ ap (take count) (sym (drop-drop done off img))) ∙ sym (take-add done count (drop off img))

-- the key and the value in the bytes behind a header
pub first_part : (img room : List ℕ) (at k d : ℕ) → room ≡ take (k + d) (drop at img) → take k room ≡ take k (drop at img)
first_part img room at k d read = ap (take k) read ∙ take-take k (k + d) (drop at img) (omega arith)

second_part : (img room : List ℕ) (at k d : ℕ) → room ≡ take (k + d) (drop at img) → drop k room ≡ take d (drop (at + k) img)
second_part img room at k d read = ap (drop k) read ∙ drop-take k d (drop at img) ∙ ap (take d) (drop-drop k at img)

pub second_slice : (img room : List ℕ) (at k d : ℕ) → length room ≡ k + d → room ≡ take (k + d) (drop at img) → take (length room - k) (drop k room) ≡ take d (drop (at + k) img)
second_slice img room at k d long read =
    let count : length room - k ≡ d = omega (arith, long) in
    ap (λ n. take n (drop k room)) count ∙ ap (take d) (second_part img room at k d read) ∙ take-take d d (drop (at + k) img) (omega arith)
