-- Where a sorted table is split by an owner and a byte, and what a cut leaves at that place.
use Rattle.std.proofs.Common.{◌≡◌, ◌≤◌, ◌<◌, ◌+◌, ◌-◌, ◌++◌, ◌∷◌, ◌∙◌, [], All, Bool, List, None, Option, Some, length, take, drop, get_or, min, max, false, true, refl, ap, sym, inl, inr, ℕ, arith}
use Rattle.std.specs.List.{cons_option}
use Rattle.std.specs.List.Sorted.{IsPartitionedBy, IsPartitionPoint}
use Rattle.std.specs.Option.{option_to_list}
use Rattle.std.proofs.lemmas.Bool.{cases_lt, eq-eqb, le-ltb, lt-ltb}
use Rattle.std.proofs.lemmas.Bool.Decides.{nat_tests}
use Rattle.std.proofs.lemmas.List.{drop_all, drop_more, get_or-take, get_or-drop, length-take, length-drop, get_or_default, nil_from_length, take-append-drop, take_all, take_more}
use Rattle.std.proofs.lemmas.List.Elements.{All-head, All-tail, filter_map-append}
use Rattle.tdb_locks.proofs.Tables.{IsTable-drop, IsTable-follows, IsTable-take}
use Rattle.tdb_locks.specs.LockTable.{Follows, IsPiece, IsTable, before, from, part_before, part_from}
use Rattle.tdb_locks.specs.Search.{IsSplitBy, ends_by, starts_before}
use Rattle.tdb_locks.specs.declared.piece.Piece.{Piece}

-- a test that no piece passes after one that fails it splits a table
pub record Splits (test : Piece → Bool) : Type 0 where
  pub earlier : (p q : Piece) → IsPiece p → IsPiece q → Follows p q → test q ≡ true → test p ≡ true

pub IsPartitionedBy-table : (test : Piece → Bool) → Splits test → (ps : List Piece) → IsTable ps → IsPartitionedBy test ps
IsPartitionedBy-table test splits ps table i j d i≤j j<n passes = elim (cases_lt i j) [
  | inl less ↦ splits.earlier (get_or ps i d) (get_or ps j d) (table.pieces i d (omega arith)) (table.pieces j d j<n) (table.sorted i j d less j<n) passes
  | inr more ↦ let same : i ≡ j = omega arith in rw same passes
]

pub ends_by-splits : (owner byte : ℕ) → Splits (ends_by owner byte)
ends_by-splits owner byte = record { earlier = λ p q piece_p piece_q follows passes. ends p q piece_q follows.owners follows.apart passes }
  where
    ends : (p q : Piece) → IsPiece q → p.owner ≤ q.owner → (p.owner ≡ q.owner → p.end ≤ q.start) → ends_by owner byte q ≡ true → ends_by owner byte p ≡ true
    ends p q piece owners apart passes = grind (arith, nat_tests)

pub starts_before-splits : (owner byte : ℕ) → Splits (starts_before owner byte)
starts_before-splits owner byte = record { earlier = λ p q piece_p piece_q follows passes. starts p q piece_p follows.owners follows.apart passes }
  where
    starts : (p q : Piece) → IsPiece p → p.owner ≤ q.owner → (p.owner ≡ q.owner → p.end ≤ q.start) → starts_before owner byte q ≡ true → starts_before owner byte p ≡ true
    starts p q piece owners apart passes = grind (arith, nat_tests)

pub IsSplitBy-point : (test : Piece → Bool) (ps : List Piece) (i : ℕ) → i ≤ length ps → IsPartitionPoint (λ p. test p ≡ true) (λ p. test p ≡ false) ps i → IsSplitBy test ps i
IsSplitBy-point test ps i within point = record {
  within = within;
  front = λ k d k<n. rw (get_or-take i ps k d (omega (arith, length-take i ps))) (point.0 k d (omega arith) (omega (arith, length-take i ps)));
  back = λ k d k<n. rw (get_or-drop i ps k d) (point.1 (i + k) d (omega arith) (omega (arith, length-drop i ps)));
}

-- a piece that ends by the byte is kept whole by a cut there
ends_by-kept : (o s : ℕ) (p : Piece) → IsPiece p → ends_by o s p ≡ true → part_before o s p ≡ Some p
ends_by-kept o s p piece ends =
    let same : p.owner ≡ o → min p.end s ≡ p.end = λ owned. grind (arith, nat_tests) in
    elim (cases_lt p.owner o) [
      | inl less ↦ rw (lt-ltb p.owner o less)
      | inr more ↦
          let owned : p.owner ≡ o = grind (arith, nat_tests) in
          let starts : p.start < s = grind (arith, nat_tests) in
          rw (le-ltb p.owner o more, eq-eqb p.owner o owned, lt-ltb p.start s starts, same owned)
    ]

-- after a piece that goes past the byte nothing is left before it
ends_by-nothing : (o s : ℕ) (p q : Piece) → ends_by o s p ≡ false → Follows p q → part_before o s q ≡ None
ends_by-nothing o s p q past follows = grind (arith, nat_tests)

starts_before-kept : (o e : ℕ) (p : Piece) → IsPiece p → starts_before o e p ≡ false → part_from o e p ≡ Some p
starts_before-kept o e p piece later =
    let same : p.owner ≡ o → max p.start e ≡ p.start = λ owned. grind (arith, nat_tests) in
    elim (cases_lt o p.owner) [
      | inl more ↦ rw (lt-ltb o p.owner more)
      | inr less ↦
          let owned : p.owner ≡ o = grind (arith, nat_tests) in
          let ends : e < p.end = grind (arith, nat_tests) in
          rw (le-ltb o p.owner less, eq-eqb p.owner o owned, lt-ltb e p.end ends, same owned)
    ]

starts_before-nothing : (o e : ℕ) (p q : Piece) → starts_before o e q ≡ true → Follows p q → part_from o e p ≡ None
starts_before-nothing o e p q starts follows = grind (arith, nat_tests)

before-kept : (o s : ℕ) (ps : List Piece) → All IsPiece ps → All (λ p. ends_by o s p ≡ true) ps → before o s ps ≡ ps
before-kept o s [] pieces ends = refl
before-kept o s (p ∷ ps) pieces ends =
    let first = ends_by-kept o s p (All-head IsPiece p ps pieces) (All-head (λ q. ends_by o s q ≡ true) p ps ends) in
    rw (first, before-kept o s ps (All-tail IsPiece p ps pieces) (All-tail (λ q. ends_by o s q ≡ true) p ps ends))

before-nothing : (o s : ℕ) (p : Piece) (ps : List Piece) → ends_by o s p ≡ false → All (Follows p) ps → before o s ps ≡ []
before-nothing o s p [] past follows = refl
before-nothing o s p (q ∷ qs) past follows =
    rw (ends_by-nothing o s p q past (All-head (Follows p) q qs follows), before-nothing o s p qs past (All-tail (Follows p) q qs follows))

from-kept : (o e : ℕ) (ps : List Piece) → All IsPiece ps → All (λ p. starts_before o e p ≡ false) ps → from o e ps ≡ ps
from-kept o e [] pieces later = refl
from-kept o e (p ∷ ps) pieces later =
    let first = starts_before-kept o e p (All-head IsPiece p ps pieces) (All-head (λ q. starts_before o e q ≡ false) p ps later) in
    rw (first, from-kept o e ps (All-tail IsPiece p ps pieces) (All-tail (λ q. starts_before o e q ≡ false) p ps later))

from-nothing : (o e : ℕ) (q : Piece) (ps : List Piece) → starts_before o e q ≡ true → All (λ p. Follows p q) ps → from o e ps ≡ []
from-nothing o e q [] starts follows = refl
from-nothing o e q (p ∷ ps) starts follows =
    rw (starts_before-nothing o e p q starts (All-head (λ x. Follows x q) p ps follows), from-nothing o e q ps starts (All-tail (λ x. Follows x q) p ps follows))

cons_option-nil : (x : Option Piece) (xs : List Piece) → xs ≡ [] → cons_option x xs ≡ option_to_list x
cons_option-nil None xs nil = nil
cons_option-nil (Some y) xs nil = ap (λ ys. y ∷ ys) nil

part_before-cut : (o byte : ℕ) (p : Piece) → ends_by o byte p ≡ false → p.owner ≡ o → p.start < byte → part_before o byte p ≡ Some (record p { end = byte })
part_before-cut o byte p past owned starts =
    let cut_off : min p.end byte ≡ byte = grind (arith, nat_tests) in
    rw (le-ltb p.owner o (omega arith), eq-eqb p.owner o owned, lt-ltb p.start byte starts, cut_off)

part_before-none : (o byte : ℕ) (p : Piece) → ends_by o byte p ≡ false → (p.owner ≡ o → byte ≤ p.start) → part_before o byte p ≡ None
part_before-none o byte p past later = grind (arith, nat_tests)

part_from-cut : (o byte : ℕ) (p : Piece) → starts_before o byte p ≡ true → p.owner ≡ o → byte < p.end → part_from o byte p ≡ Some (record p { start = byte })
part_from-cut o byte p starts owned ends =
    let cut_off : max p.start byte ≡ byte = grind (arith, nat_tests) in
    rw (le-ltb o p.owner (omega arith), eq-eqb p.owner o owned, lt-ltb byte p.end ends, cut_off)

part_from-none : (o byte : ℕ) (p : Piece) → starts_before o byte p ≡ true → (p.owner ≡ o → p.end ≤ byte) → part_from o byte p ≡ None
part_from-none o byte p starts earlier = grind (arith, nat_tests)

-- of pieces that start before the byte only the last can go past it
from-last : (o byte : ℕ) (xs : List Piece) (p : Piece) → IsTable xs → starts_before o byte p ≡ true → 0 < length xs → p ≡ get_or xs (length xs - 1) p → from o byte xs ≡ option_to_list (part_from o byte p)
from-last o byte xs p table starts some is =
    let n = length xs - 1 in
    let within : n < length xs = omega arith in
    let whole : n + 1 ≡ length xs = omega arith in
    let parts : xs ≡ take n xs ++ p ∷ [] = sym (take_all (n + 1) xs (omega arith)) ∙ (take_more xs n p within ∙ ap (λ x. take n xs ++ x ∷ []) (sym is)) in
    let before_it : All (λ x. Follows x p) (take n xs) = λ k d k<n. rw (get_or-take n xs k d (omega (arith, length-take n xs)), is ∙ get_or_default xs n p d within) (table.sorted k n d (omega (arith, length-take n xs)) within) in
    ap (from o byte) parts ∙ (filter_map-append (part_from o byte) (take n xs) (p ∷ []) ∙ (ap (λ ys. ys ++ from o byte (p ∷ [])) (from-nothing o byte p (take n xs) starts before_it) ∙ cons_option-nil (part_from o byte p) [] refl))

module _ (o byte i : ℕ) (ps : List Piece) (table : IsTable ps) where
  before-split : IsSplitBy (ends_by o byte) ps i → before o byte ps ≡ take i ps ++ before o byte (drop i ps)
  before-split split =
      ap (before o byte) (sym (take-append-drop i ps)) ∙ (filter_map-append (part_before o byte) (take i ps) (drop i ps)
      ∙ ap (λ xs. xs ++ before o byte (drop i ps)) (before-kept o byte (take i ps) (IsTable-take i ps table).pieces split.front))

  pub rest-of : (test : Piece → Bool) (p : Piece) → i < length ps → p ≡ get_or ps i p → drop i ps ≡ p ∷ drop (i + 1) ps
  rest-of test p inside is = drop_more ps i p inside ∙ ap (λ x. x ∷ drop (i + 1) ps) (sym is)

  pub fails-at : (test : Piece → Bool) (p : Piece) → IsSplitBy test ps i → i < length ps → p ≡ get_or ps i p → test p ≡ false
  fails-at test p split inside is = All-head (λ q. test q ≡ false) p (drop (i + 1) ps) (rw (rest-of test p inside is) at split.back)

  before-at : (p : Piece) → IsSplitBy (ends_by o byte) ps i → i < length ps → p ≡ get_or ps i p → before o byte ps ≡ take i ps ++ option_to_list (part_before o byte p)
  before-at p split inside is =
      let there = rest-of (ends_by o byte) p inside is in
      let rest = rw there at (IsTable-drop i ps table) in
      let nothing = before-nothing o byte p (drop (i + 1) ps) (fails-at (ends_by o byte) p split inside is) (IsTable-follows p (drop (i + 1) ps) rest) in
      before-split split ∙ ap (λ xs. take i ps ++ xs) (ap (before o byte) there ∙ cons_option-nil (part_before o byte p) (before o byte (drop (i + 1) ps)) nothing)

  pub left-some : (p : Piece) → IsSplitBy (ends_by o byte) ps i → i < length ps → p ≡ get_or ps i p → p.owner ≡ o → p.start < byte → before o byte ps ≡ take i ps ++ (record p { end = byte }) ∷ []
  left-some p split inside is owned starts = before-at p split inside is ∙ ap (λ x. take i ps ++ option_to_list x) (part_before-cut o byte p (fails-at (ends_by o byte) p split inside is) owned starts)

  pub left-none : (p : Piece) → IsSplitBy (ends_by o byte) ps i → i < length ps → p ≡ get_or ps i p → (p.owner ≡ o → byte ≤ p.start) → before o byte ps ≡ take i ps ++ []
  left-none p split inside is later = before-at p split inside is ∙ ap (λ x. take i ps ++ option_to_list x) (part_before-none o byte p (fails-at (ends_by o byte) p split inside is) later)

  pub left-end : IsSplitBy (ends_by o byte) ps i → length ps ≤ i → before o byte ps ≡ take i ps ++ []
  left-end split past = before-split split ∙ ap (λ xs. take i ps ++ before o byte xs) (drop_all i ps past)

  from-split : IsSplitBy (starts_before o byte) ps i → from o byte ps ≡ from o byte (take i ps) ++ drop i ps
  from-split split =
      ap (from o byte) (sym (take-append-drop i ps)) ∙ (filter_map-append (part_from o byte) (take i ps) (drop i ps)
      ∙ ap (λ xs. from o byte (take i ps) ++ xs) (from-kept o byte (drop i ps) (IsTable-drop i ps table).pieces split.back))

  passes-last : (test : Piece → Bool) (p : Piece) → IsSplitBy test ps i → 0 < length (take i ps) → p ≡ get_or (take i ps) (length (take i ps) - 1) p → test p ≡ true
  passes-last test p split some is = rw is (split.front (length (take i ps) - 1) p (omega arith))

  from-at : (p : Piece) → IsSplitBy (starts_before o byte) ps i → 0 < length (take i ps) → p ≡ get_or (take i ps) (length (take i ps) - 1) p → from o byte ps ≡ option_to_list (part_from o byte p) ++ drop i ps
  from-at p split some is = from-split split ∙ ap (λ xs. xs ++ drop i ps) (from-last o byte (take i ps) p (IsTable-take i ps table) (passes-last (starts_before o byte) p split some is) some is)

  pub right-some : (p : Piece) → IsSplitBy (starts_before o byte) ps i → 0 < length (take i ps) → p ≡ get_or (take i ps) (length (take i ps) - 1) p → p.owner ≡ o → byte < p.end → from o byte ps ≡ (record p { start = byte }) ∷ drop i ps
  right-some p split some is owned ends = from-at p split some is ∙ ap (λ x. option_to_list x ++ drop i ps) (part_from-cut o byte p (passes-last (starts_before o byte) p split some is) owned ends)

  pub right-none : (p : Piece) → IsSplitBy (starts_before o byte) ps i → 0 < length (take i ps) → p ≡ get_or (take i ps) (length (take i ps) - 1) p → (p.owner ≡ o → p.end ≤ byte) → from o byte ps ≡ drop i ps
  right-none p split some is earlier = from-at p split some is ∙ ap (λ x. option_to_list x ++ drop i ps) (part_from-none o byte p (passes-last (starts_before o byte) p split some is) earlier)

  pub right-end : IsSplitBy (starts_before o byte) ps i → length (take i ps) ≡ 0 → from o byte ps ≡ drop i ps
  right-end split none = from-split split ∙ ap (λ xs. from o byte xs ++ drop i ps) (nil_from_length (take i ps) none)
