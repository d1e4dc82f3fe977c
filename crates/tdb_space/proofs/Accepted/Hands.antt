-- Hands: where they stand, and that they may be joined, cut and put in another order.
use Rattle.std.proofs.Common.{◌≡◌, ℕ, ◌+◌, ◌<◌, ◌≤◌, List, [], ◌∷◌, length, sym, ◌∙◌, ap, inl, inr, arith}
use Rattle.std.specs.Prelude.{◌%◌}
use Rattle.std.proofs.lemmas.Bool.{cases_lt}
use Rattle.tdb_space.specs.Form.{Form, data_start}
use Rattle.tdb_space.specs.Chain.{chain_of, free_of}
use Rattle.tdb_space.specs.Extents.{HandPair, AllHandOk, once, times, all_extents, hand_extents}
use Rattle.tdb_space.specs.Accepted.{AcceptWith}
use Rattle.tdb_space.proofs.Extents.Counts.{once_lies, once_joined, times_all}

-- hands stay in place in an image that doesn't become shorter
pub hands_kept : (f : Form) (a b : List ℕ) (hands : List HandPair) → length a ≤ length b → AllHandOk f a hands → AllHandOk f b hands
hands_kept f a b [] longer held = tt
hands_kept f a b (h ∷ hs) longer held = (
  record { aligned = held.0.aligned; len_aligned = held.0.len_aligned; above = held.0.above; within = omega (arith, longer, held.0.within) },
  hands_kept f a b hs longer held.1,
)

-- a byte of a hand stands behind the heads and within the image
pub hands_within : (f : Form) (a : List ℕ) (hands : List HandPair) (i : ℕ) → AllHandOk f a hands → 1 ≤ times (hand_extents hands) i → (data_start f ≤ i) × (i < length a)
hands_within f a [] i held some = absurd (omega (arith, some))
hands_within f a (h ∷ hs) i held some =
    elim (cases_lt 0 (once (h.0, 24 + h.1) i)) [
      | inl here ↦ let lies = once_lies (h.0, 24 + h.1) i (omega (arith, here)) in (omega (arith, lies.0, held.0.above), omega (arith, lies.1, held.0.within))
      | inr elsewhere ↦ hands_within f a hs i held.1 (omega (arith, some, elsewhere))
    ]

-- so none holds a byte below the records
pub hands_above : (f : Form) (a : List ℕ) (hands : List HandPair) (i : ℕ) → AllHandOk f a hands → i < data_start f → times (hand_extents hands) i ≡ 0
hands_above f a hands i held low =
    elim (cases_lt 0 (times (hand_extents hands) i)) [ inl some ↦ absurd (omega (arith, low, (hands_within f a hands i held (omega (arith, some))).0)) | inr none ↦ omega (arith, none) ]

-- hands that hold the same bytes may stand for others
pub hands_for : (f : Form) (a : List ℕ) (hands news : List HandPair) → AcceptWith f a hands → AllHandOk f a news → ((i : ℕ) → times (hand_extents news) i ≡ times (hand_extents hands) i) → AcceptWith f a news
hands_for f a hands news A held same =
    let counts : (i : ℕ) → times (all_extents f a (chain_of f a) (free_of f a) news) i ≡ times (all_extents f a (chain_of f a) (free_of f a) hands) i =
    λ i. omega (arith, same i, times_all f a (chain_of f a) (free_of f a) news i, times_all f a (chain_of f a) (free_of f a) hands i) in
    record {
      header = A.header;
      form = A.form;
      some = A.some;
      sized = A.sized;
      long = A.long;
      area_ok = A.area_ok;
      shut = A.shut;
      chains = A.chains;
      frees = A.frees;
      filed = A.filed;
      keys = A.keys;
      held = held;
      apart = λ i. omega (arith, counts i, A.apart i);
      stray = λ i above below none. A.stray i above below (sym (counts i) ∙ none);
    }

-- two hands in the other order
pub turn_hands : (f : Form) (a : List ℕ) (g h : HandPair) (hs : List HandPair) → AcceptWith f a (g ∷ h ∷ hs) → AcceptWith f a (h ∷ g ∷ hs)
turn_hands f a g h hs A = hands_for f a (g ∷ h ∷ hs) (h ∷ g ∷ hs) A (A.held.1.0, (A.held.0, A.held.1.1)) (λ i. omega arith)

-- two hands that meet are one
pub join_hands : (f : Form) (a : List ℕ) (at m n : ℕ) (hs : List HandPair) → AcceptWith f a ((at, m) ∷ (at + 24 + m, n) ∷ hs) → AcceptWith f a ((at, m + 24 + n) ∷ hs)
join_hands f a at m n hs A =
    let first = A.held.0 in
    let second = A.held.1.0 in
    hands_for f a ((at, m) ∷ (at + 24 + m, n) ∷ hs) ((at, m + 24 + n) ∷ hs) A
    (record { aligned = first.aligned; len_aligned = omega (arith, first.len_aligned, second.len_aligned); above = first.above; within = omega (arith, second.within) }, A.held.1.1)
    (λ i.
    (let split = once_joined at (24 + m) (24 + n) i in
    let length_there : 24 + (m + 24 + n) ≡ 24 + m + (24 + n) = omega arith in
    let place : at + 24 + m ≡ at + (24 + m) = omega arith in
    let whole : once (at, 24 + (m + 24 + n)) i ≡ once (at, 24 + m + (24 + n)) i = ap (λ l. once (at, l) i) length_there in
    let rest : once (at + 24 + m, 24 + n) i ≡ once (at + (24 + m), 24 + n) i = ap (λ p. once (p, 24 + n) i) place in
    omega (arith, split, whole, rest)))

-- and one hand is two that meet
pub cut_hand : (f : Form) (a : List ℕ) (at m n : ℕ) (hs : List HandPair) → m % 4 ≡ 0 → n % 4 ≡ 0 → AcceptWith f a ((at, m + 24 + n) ∷ hs) → AcceptWith f a ((at, m) ∷ (at + 24 + m, n) ∷ hs)
cut_hand f a at m n hs aligned_m aligned_n A =
    let whole_hand = A.held.0 in
    hands_for f a ((at, m + 24 + n) ∷ hs) ((at, m) ∷ (at + 24 + m, n) ∷ hs) A (
      record { aligned = whole_hand.aligned; len_aligned = aligned_m; above = whole_hand.above; within = omega (arith, whole_hand.within) },
      (record { aligned = omega (arith, whole_hand.aligned, aligned_m); len_aligned = aligned_n; above = omega (arith, whole_hand.above); within = omega (arith, whole_hand.within) }, A.held.1),
    )
    (λ i.
    (let split = once_joined at (24 + m) (24 + n) i in
    let length_there : 24 + (m + 24 + n) ≡ 24 + m + (24 + n) = omega arith in
    let place : at + 24 + m ≡ at + (24 + m) = omega arith in
    let whole : once (at, 24 + (m + 24 + n)) i ≡ once (at, 24 + m + (24 + n)) i = ap (λ l. once (at, l) i) length_there in
    let rest : once (at + 24 + m, 24 + n) i ≡ once (at + (24 + m), 24 + n) i = ap (λ p. once (p, 24 + n) i) place in
    omega (arith, split, whole, rest)))
