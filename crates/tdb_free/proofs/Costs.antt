-- What goes along the free list reads, where the whole list is gone along, and where its first record ends the search.
use Rattle.std.proofs.Common.{◌≡◌, ℕ, ◌+◌, ◌≤◌, Bool, List, [], ◌∷◌, length, Some, refl, inl, inr, ap, arith}
use Rattle.std.specs.Prelude.{◌%◌}
use Rattle.std.specs.List.{find}
use Rattle.std.proofs.lemmas.Bool.{cases_Bool, le-leb}
use Rattle.tdb_disk.specs.Image.{padded}
use Rattle.tdb_space.specs.Form.{Form}
use Rattle.tdb_space.specs.Extents.{HandPair}
use Rattle.tdb_free.specs.FreeList.{Given, free_pairs, is_long_enough, give_to, with_next, with_previous, without_first, starts_at, ends_at, end_of}
use Rattle.tdb_free.specs.Search.{count_before}
use Rattle.tdb_free.specs.Walk.{FreeBesideUpTo}
use Rattle.tdb_free.specs.Growth.{CanBeTaken, grown_length, grown_hand}
use Rattle.tdb_free.specs.Reads.{search_reads}
use Rattle.tdb_free.proofs.Passed.{count_here, count_later}
use Rattle.tdb_free.proofs.Growth.{grows, next_longer, previous_longer}

-- no more records stand in front of one than the list has
count_most : (test : HandPair → Bool) (ps : List HandPair) → count_before test ps ≤ length ps
count_most test [] = omega arith
count_most test (p ∷ ps) =
    elim (cases_Bool (test p)) [
      | inl passes ↦ omega (arith, count_here test p ps passes)
      | inr fails ↦ omega (arith, count_later test p ps fails, count_most test ps)
    ]

pub pairs_long : (f : Form) (img offs : List ℕ) → length (free_pairs f img offs) ≡ length offs
pairs_long f img [] = refl
pairs_long f img (x ∷ xs) = omega (arith, pairs_long f img xs)

-- so also in front of those beside a hand
pub beside_most : (f : Form) (img offs : List ℕ) (hand : HandPair) → FreeBesideUpTo f img offs hand (length offs)
beside_most f img offs hand =
    let long = pairs_long f img offs in
    record {
      next = λ _. omega (arith, long, count_most (starts_at (end_of hand)) (free_pairs f img offs));
      previous = λ _. omega (arith, long, count_most (ends_at hand.0) (free_pairs f img offs));
    }

-- after a give of a hand that is long enough the first record is
given_first : (pairs : List HandPair) (h : HandPair) (rec_len : ℕ) → rec_len ≤ h.1 → count_before (is_long_enough rec_len) (give_to pairs h) ≡ 0
given_first pairs h rec_len long =
    let behind = find (starts_at (end_of h)) pairs in
    let others = without_first (starts_at (end_of h)) pairs in
    let joined = with_next h behind in
    let before = find (ends_at h.0) others in
    count_here (is_long_enough rec_len) (with_previous joined before) (without_first (ends_at h.0) others)
    (le-leb rec_len (with_previous joined before).1 (omega (arith, long, next_longer h behind, previous_longer joined before)))

-- so the search after a growth ends there
pub second_search : (f : Form) (a offs : List ℕ) (rec_len limit to : ℕ) (C : CanBeTaken f a offs) → rec_len % 4 ≡ 0 → grown_length (length a) (24 + rec_len) limit ≡ Some to → (w : List ℕ) (G : Given f (padded a to) w offs (grown_hand (length a) to))
    → search_reads rec_len (free_pairs f w (G.at ∷ G.stay)) ≡ 28
second_search f a offs rec_len limit to C words e w G =
    let grown = grows (length a) (24 + rec_len) limit to C.aligned (omega (arith, words)) e in
    let first = given_first (free_pairs f (padded a to) offs) (grown_hand (length a) to) rec_len (omega (arith, grown.enough)) in
    omega (arith, ap (count_before (is_long_enough rec_len)) G.pairs, first)
