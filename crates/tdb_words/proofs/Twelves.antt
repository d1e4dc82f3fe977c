-- A list cut into twelves, and what Jenkins' hash makes of it piece by piece.
use Rattle.std.proofs.Common.{◌≡◌, ℕ, zero, suc, ◌+◌, ◌*◌, ◌-◌, ◌%◌, ◌^◌, ◌<◌, ◌≤◌, List, [], ◌∷◌, ◌++◌, length, take, drop, fold, sym, ap, ◌∙◌, arith, refl, length-drop, zero-add}
use Rattle.std.specs.Prelude.{slice_index}
use Rattle.std.proofs.lemmas.List.{get_or-take, take-append-le, drop-append-le, drop-drop, take_all}
use Rattle.std.proofs.lemmas.List.Sums.{fold_push}
use Rattle.tdb_words.specs.declared.jenkins.Mixer.{Mixer}
use Rattle.tdb_words.specs.Hash.{twelves, words_plus, round, mix_of}
use Rattle.tdb_words.specs.Word.{word}
use Rattle.tdb_words.specs.declared.word.Order.TheVariants.{Little}
use Rattle.tdb_words.proofs.Words.{word_from_bytes}

-- twelve bytes are added alike whatever stands after them
pub added_alike : (s : Mixer) (xs ys : List ℕ) → ((i : ℕ) → i < 12 → slice_index xs i ≡ slice_index ys i) → words_plus s xs ≡ words_plus s ys
added_alike s xs ys same =
    let e0 : word Little xs 0 ≡ word Little ys 0 = word_from_bytes Little xs ys 0 0 (λ j low. same (0 + j) (omega arith)) in
    let e1 : word Little xs 4 ≡ word Little ys 4 = word_from_bytes Little xs ys 4 4 (λ j low. same (4 + j) (omega arith)) in
    let e2 : word Little xs 8 ≡ word Little ys 8 = word_from_bytes Little xs ys 8 8 (λ j low. same (8 + j) (omega arith)) in
    λ j. record { a = (s.a + e0 j) % 2 ^ 32; b = (s.b + e1 j) % 2 ^ 32; c = (s.c + e2 j) % 2 ^ 32 }

pub added_front : (s : Mixer) (xs : List ℕ) → words_plus s (take 12 xs) ≡ words_plus s xs
added_front s xs = added_alike s (take 12 xs) xs (λ i low. get_or-take 12 xs i 0 low)

-- what a slice from a place to the end holds
pub rest_from : (k : ℕ) (xs : List ℕ) → take (length xs - k) (drop k xs) ≡ drop k xs
rest_from k xs = take_all (length xs - k) (drop k xs) (omega (arith, length-drop k xs))

-- the pieces of two lists joined, the first of which has whole twelves
pub twelves_join : (k m : ℕ) (xs ys : List ℕ) → length xs ≡ 12 * k → twelves (k + m) (xs ++ ys) ≡ twelves k xs ++ twelves m ys
twelves_join zero m [] ys size = ap (λ k. twelves k ys) (zero-add m)
twelves_join zero m (x ∷ xs) ys size = absurd (omega (arith, size))
twelves_join (suc k) m xs ys size =
    let e : suc k + m ≡ suc (k + m) = omega arith in
    let enough : 12 ≤ length xs = omega (arith, size) in
    let left : length (drop 12 xs) ≡ 12 * k = omega (arith, size, length-drop 12 xs) in
    rw e ((λ j. take-append-le 12 xs ys enough j ∷ twelves (k + m) (drop-append-le 12 xs ys enough j)) ∙ ap (λ r. take 12 xs ∷ r) (twelves_join k m (drop 12 xs) ys left))

-- the first pieces of a list are those of what it is the front of
pub twelves_front : (k : ℕ) (xs ys : List ℕ) → 12 * k ≤ length xs → twelves k (xs ++ ys) ≡ twelves k xs
twelves_front zero xs ys low = refl
twelves_front (suc k) xs ys low =
    let enough : 12 ≤ length xs = omega (arith, low) in
    let left : 12 * k ≤ length (drop 12 xs) = omega (arith, low, length-drop 12 xs) in
    (λ j. take-append-le 12 xs ys enough j ∷ twelves k (drop-append-le 12 xs ys enough j)) ∙ ap (λ r. take 12 xs ∷ r) (twelves_front k (drop 12 xs) ys left)

-- one piece more
pub twelves_more : (k : ℕ) (xs : List ℕ) → twelves (k + 1) xs ≡ twelves k xs ++ take 12 (drop (12 * k) xs) ∷ []
twelves_more zero xs = refl
twelves_more (suc k) xs =
    let e : suc k + 1 ≡ suc (k + 1) = omega arith in
    let at : 12 + 12 * k ≡ 12 * suc k = omega arith in
    rw e (ap (λ r. take 12 xs ∷ r) (twelves_more k (drop 12 xs) ∙ ap (λ d. twelves k (drop 12 xs) ++ take 12 d ∷ []) (drop-drop (12 * k) 12 xs ∙ ap (λ n. drop n xs) at)))

-- one round more
pub round_more : (s t : Mixer) (k : ℕ) (xs : List ℕ) → s ≡ fold round t (twelves k xs) → mix_of (words_plus s (drop (12 * k) xs)) ≡ fold round t (twelves (k + 1) xs)
round_more s t k xs so_far =
    ap mix_of (sym (added_front s (drop (12 * k) xs)) ∙ ap (λ u. words_plus u (take 12 (drop (12 * k) xs))) so_far)
    ∙ sym (fold_push round t (twelves k xs) (take 12 (drop (12 * k) xs)))
    ∙ ap (fold round t) (sym (twelves_more k xs))
