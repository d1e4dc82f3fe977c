-- How the default hash grows by one byte.
use Rattle.std.proofs.Common.{◌≡◌, ℕ, ◌+◌, ◌*◌, ◌%◌, ◌^◌, ◌<◌, List, [], ◌∷◌, ◌++◌, length, sum_by, sym, ap, ◌∙◌, arith, zero-add, take, get_or, append_assoc}
use Rattle.std.specs.List.{enumerate_from}
use Rattle.std.proofs.lemmas.List.Sums.{sum_by-append}
use Rattle.std.proofs.lemmas.List.{length_push, take_more}
use Rattle.tdb_words.specs.Hash.{shifted_byte, shifted_sum}
use Rattle.tdb_words.specs.Running.{OldHolds}

-- one more byte comes last, with its place
enumerate_push : (n : ℕ) (xs : List ℕ) (x : ℕ) → enumerate_from n (xs ++ x ∷ []) ≡ enumerate_from n xs ++ (n + length xs, x) ∷ []
enumerate_push n [] x = ap (λ i. (i, x) ∷ []) (omega arith)
enumerate_push n (y ∷ xs) x = ap (λ rest. (n, y) ∷ rest) (enumerate_push (n + 1) xs x ∙ ap (λ i. enumerate_from (n + 1) xs ++ (i, x) ∷ []) (omega arith))

-- the sum grows by the byte, shifted by its place
shifted_sum_push : (xs : List ℕ) (x : ℕ) → shifted_sum (xs ++ x ∷ []) ≡ shifted_sum xs + x * 2 ^ (5 * length xs % 24)
shifted_sum_push xs x =
    ap (sum_by shifted_byte) (enumerate_push 0 xs x)
    ∙ sum_by-append shifted_byte (enumerate_from 0 xs) ((0 + length xs, x) ∷ [])
    ∙ ap (λ t. shifted_sum xs + t) (zero-add _ ∙ ap (λ i. x * 2 ^ (5 * i % 24)) (zero-add (length xs)))

-- the running sum and shift after one more byte
pub old_more : (value shift n x : ℕ) (bytes : List ℕ) → OldHolds value shift n bytes → OldHolds ((value + x * 2 ^ shift) % 2 ^ 32) ((shift + 5) % 24) n (bytes ++ x ∷ [])
old_more value shift n x bytes held = record {
  sum =
      let e = shifted_sum_push bytes x in
      let s : x * 2 ^ shift ≡ x * 2 ^ (5 * length bytes % 24) = ap (λ k. x * 2 ^ k) held.next in
      omega (arith, held.sum);
  next = let e = length_push bytes x in omega (arith, held.next);
}

-- a turn of the loop over a piece
pub old_turn : (value shift next n x i : ℕ) (bytes piece : List ℕ) → i < length piece → x ≡ get_or piece i 0 → next ≡ (shift + 5) % 24 → OldHolds value shift n (bytes ++ take i piece) → OldHolds ((value + x * 2 ^ shift % 4294967296) % 4294967296) next n (bytes ++ take (i + 1) piece)
old_turn value shift next n x i bytes piece low is after held =
    let grown : bytes ++ take (i + 1) piece ≡ (bytes ++ take i piece) ++ x ∷ [] =
    ap (λ p. bytes ++ p) (take_more piece i 0 low ∙ ap (λ b. take i piece ++ b ∷ []) (sym is)) ∙ sym (append_assoc bytes (take i piece) (x ∷ [])) in
    let more = old_more value shift n x (bytes ++ take i piece) held in
    let flat : (value + x * 2 ^ shift % 4294967296) % 4294967296 ≡ (value + x * 2 ^ shift) % 2 ^ 32 = omega arith in
    rw (flat, after, grown) more
