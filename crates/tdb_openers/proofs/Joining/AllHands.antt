-- The records that commands hold, all together: those of one opener come first, and go back to their place.
use Rattle.std.proofs.Common.{◌≡◌, ◌≢◌, ℕ, zero, suc, ◌+◌, ◌<◌, ◌≤◌, List, [], ◌∷◌, ◌++◌, refl, sym, ◌∙◌, ap, subst, inl, inr, arith}
use Rattle.std.proofs.lemmas.Bool.{cases_eq}
use Rattle.tdb_space.specs.Form.{Form}
use Rattle.tdb_space.specs.Pairs.{joined}
use Rattle.tdb_space.specs.Extents.{HandPair, times, hand_extents, AllHandOk}
use Rattle.tdb_space.specs.Accepted.{AcceptWith}
use Rattle.tdb_space.proofs.Accepted.Hands.{hands_for}
use Rattle.tdb_space.proofs.Chain.Trades.{hands_both}

hand_times : (xs ys : List HandPair) (i : ℕ) → times (hand_extents (xs ++ ys)) i ≡ times (hand_extents xs) i + times (hand_extents ys) i
hand_times [] ys i = omega arith
hand_times (x ∷ xs) ys i = omega (arith, hand_times xs ys i)

ok_split : (f : Form) (img : List ℕ) (xs ys : List HandPair) → AllHandOk f img (xs ++ ys) → AllHandOk f img xs × AllHandOk f img ys
ok_split f img [] ys ok = (tt, ok)
ok_split f img (x ∷ xs) ys ok = (let rest = ok_split f img xs ys ok.1 in ((ok.0, rest.0), rest.1))

-- lists that are joined are all in place where each is
ok_each : (f : Form) (img : List ℕ) (g : ℕ → List HandPair) (n o : ℕ) → o < n → AllHandOk f img (joined n g) → AllHandOk f img (g o)
ok_each f img g zero o low ok = absurd (omega (arith, low))
ok_each f img g (suc n) o low ok =
    let parts = ok_split f img (joined n g) (g n) ok in
    elim (cases_eq o n) [
      | inl is ↦ subst (λ p. AllHandOk f img (g p)) (sym is) parts.1
      | inr ne ↦ ok_each f img g n o (omega (arith, low, ne)) parts.0
    ]

ok_all : (f : Form) (img : List ℕ) (g : ℕ → List HandPair) (n : ℕ) → ((o : ℕ) → o < n → AllHandOk f img (g o)) → AllHandOk f img (joined n g)
ok_all f img g zero each = tt
ok_all f img g (suc n) each = hands_both f img (joined n g) (g n) (ok_all f img g n (λ o low. each o (omega (arith, low)))) (each n (omega arith))

pub joined_none : (n : ℕ) (g : ℕ → List HandPair) → ((o : ℕ) → g o ≡ []) → joined n g ≡ []
joined_none zero g none = refl
joined_none (suc n) g none = ap (λ l. l ++ g n) (joined_none n g none) ∙ none n

-- lists that are the same one by one, joined
pub joined_same : (n : ℕ) (g h : ℕ → List HandPair) → ((o : ℕ) → o < n → h o ≡ g o) → joined n h ≡ joined n g
joined_same zero g h same = refl
joined_same (suc n) g h same = ap (λ l. l ++ h n) (joined_same n g h (λ o low. same o (omega (arith, low)))) ∙ ap (λ l. joined n g ++ l) (same n (omega arith))

-- g are the hands of all, and h those of all but one
module _ (who : ℕ) (g h : ℕ → List HandPair) (none : h who ≡ []) (same : (o : ℕ) → o ≢ who → h o ≡ g o) where
  below_same : (n : ℕ) → n ≤ who → joined n h ≡ joined n g
  below_same n le = joined_same n g h (λ o low. same o (λ is. omega (arith, is, low, le)))

  split_times : (n i : ℕ) → who < n → times (hand_extents (joined n g)) i ≡ times (hand_extents (g who ++ joined n h)) i
  split_times zero i low = absurd (omega (arith, low))
  split_times (suc n) i low =
      let all = hand_times (joined n g) (g n) i in
      let parted = hand_times (joined n h) (h n) i in
      let first = hand_times (g who) (joined (suc n) h) i in
      elim (cases_eq n who) [
        | inl is ↦ (let rest : times (hand_extents (joined n h)) i ≡ times (hand_extents (joined n g)) i = ap (λ l. times (hand_extents l) i) (below_same n (omega (arith, is))) in
            let mine : times (hand_extents (g n)) i ≡ times (hand_extents (g who)) i = ap (λ o. times (hand_extents (g o)) i) is in
            let gone : times (hand_extents (h n)) i ≡ 0 = ap (λ l. times (hand_extents l) i) (ap h is ∙ none) in
            omega (arith, all, parted, first, rest, mine, gone))
        | inr ne ↦ (let rest = split_times n i (omega (arith, low, ne)) in
            let other : times (hand_extents (h n)) i ≡ times (hand_extents (g n)) i = ap (λ l. times (hand_extents l) i) (same n ne) in
            let before = hand_times (g who) (joined n h) i in
            omega (arith, all, parted, first, rest, other, before))
      ]

  module _ (f : Form) (img : List ℕ) (n : ℕ) (low : who < n) where
    pub to_front : AcceptWith f img (joined n g) → AcceptWith f img (g who ++ joined n h)
    to_front A = hands_for f img (joined n g) (g who ++ joined n h) A (hands_both f img (g who) (joined n h) (ok_each f img g n who low A.held) (ok_all f img h n others)) (λ i. sym (split_times n i low))
      where
        others : (o : ℕ) → o < n → AllHandOk f img (h o)
        others o below = elim (cases_eq o who) [
          | inl is ↦ subst (AllHandOk f img) (sym (ap h is ∙ none)) tt
          | inr ne ↦ subst (AllHandOk f img) (sym (same o ne)) (ok_each f img g n o below A.held)
        ]

    pub from_front : AcceptWith f img (g who ++ joined n h) → AcceptWith f img (joined n g)
    from_front A = hands_for f img (g who ++ joined n h) (joined n g) A (ok_all f img g n each) (λ i. split_times n i low)
      where
        each : (o : ℕ) → o < n → AllHandOk f img (g o)
        each o below =
            let parts = ok_split f img (g who) (joined n h) A.held in
            elim (cases_eq o who) [
              | inl is ↦ subst (λ p. AllHandOk f img (g p)) (sym is) parts.0
              | inr ne ↦ subst (AllHandOk f img) (same o ne) (ok_each f img h n o below parts.1)
            ]
