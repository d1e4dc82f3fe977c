-- The image behind a world is accepted with all hands after a turn: the opener's own hands come first, and then go back
-- to their place.
use Rattle.std.proofs.Common.{◌≡◌, ℕ, zero, suc, ◌+◌, ◌<◌, ◌≤◌, List, [], ◌∷◌, ◌++◌, true, cond, ◌==◌, Some, None, refl, sym, ◌∙◌, ap, subst, inl, inr, arith, append-nil}
use Rattle.std.specs.Prelude.{if◌then◌else◌}
use Rattle.std.specs.FinMap.{find, get-from_entries}
use Rattle.std.specs.Map.{lookup}
use Rattle.std.proofs.lemmas.Bool.{cases_Bool, cases_eq, ne_eqb, eq-eqb}
use Rattle.tdb_space.specs.Form.{Form}
use Rattle.tdb_space.specs.Pairs.{joined, order_of, same_key}
use Rattle.tdb_space.specs.Extents.{HandPair, times, hand_extents, AllHandOk}
use Rattle.tdb_space.specs.Accepted.{AcceptWith}
use Rattle.tdb_space.proofs.Accepted.Hands.{hands_for}
use Rattle.tdb_space.proofs.Chain.Trades.{hands_both}
use Rattle.tdb_space.proofs.Pairs.Maps.{same_key-refl, same_key-other}
use Rattle.tdb_law.specs.Openers.{bytes_cmp, is_key}
use Rattle.tdb_law.specs.Images.{ImageMapAnswers, TurnKeepsImage, ImageIsPlain, IdleIsAccepted}
use Rattle.tdb_law.proofs.Maps.{keys_total, is_key-eq, is_key-refl}
use Rattle.tdb_law.proofs.Sound.{who_joined}
use Rattle.tdb_law.proofs.Plainly.{file_plain}
use Rattle.tdb_law.proofs.Tests.{never_true}

-- two tests of keys agree
pub same_test : (k q : List ℕ) → is_key q k ≡ same_key k q
same_test k q =
    elim (cases_Bool (is_key q k)) [
      | inl e ↦ e ∙ sym (subst (λ u. same_key k u ≡ true) (is_key-eq q k e) (same_key-refl k))
      | inr off ↦ off ∙ sym (same_key-other k q (λ e. never_true (sym off ∙ subst (λ u. is_key q u ≡ true) (sym e) (is_key-refl q))))
    ]

found : (k : List ℕ) (es : List (List ℕ × List ℕ)) → find bytes_cmp k es ≡ lookup (same_key k) es
found k [] = refl
found k (e ∷ es) = ap (λ b. cond b (Some e.1) (find bytes_cmp k es)) (same_test k e.0) ∙ ap (cond (same_key k e.0) (Some e.1)) (found k es)

pub image_answers : ImageMapAnswers
image_answers f img k = get-from_entries keys_total (order_of f img) k ∙ found k (order_of f img)

-- hands in another order
hand_times : (xs ys : List HandPair) (i : ℕ) → times (hand_extents (xs ++ ys)) i ≡ times (hand_extents xs) i + times (hand_extents ys) i
hand_times [] ys i = omega arith
hand_times (x ∷ xs) ys i = omega (arith, hand_times xs ys i)

ok_split : (f : Form) (img : List ℕ) (xs ys : List HandPair) → AllHandOk f img (xs ++ ys) → AllHandOk f img xs × AllHandOk f img ys
ok_split f img [] ys ok = (tt, ok)
ok_split f img (x ∷ xs) ys ok = (let rest = ok_split f img xs ys ok.1 in ((ok.0, rest.0), rest.1))

-- all hands but one opener's
abbrev but : ℕ → (ℕ → List HandPair) → ℕ → List HandPair
but who g o = if o == who then [] else g o

but_else : (who : ℕ) (g : ℕ → List HandPair) (o : ℕ) → (o ≡ who → ⊥) → but who g o ≡ g o
but_else who g o ne = rw (ne_eqb o who ne) refl

joined_same : (n : ℕ) (g h : ℕ → List HandPair) → ((o : ℕ) → o < n → g o ≡ h o) → joined n g ≡ joined n h
joined_same zero g h same = refl
joined_same (suc n) g h same =
    ap (λ l. l ++ g n) (joined_same n g h (λ o low. same o (omega arith))) ∙ ap (λ l. joined n h ++ l) (same n (omega arith))

module _ (who : ℕ) (g : ℕ → List HandPair) where
  below_same : (n : ℕ) → n ≤ who → joined n (but who g) ≡ joined n g
  below_same n le = joined_same n (but who g) g (λ o low. but_else who g o (λ is. omega (arith, is)))

  but_here : but who g who ≡ []
  but_here = rw (eq-eqb who who refl) refl

  split_times : (n i : ℕ) → who < n → times (hand_extents (joined n g)) i ≡ times (hand_extents (g who ++ joined n (but who g))) i
  split_times zero i low = absurd (omega (arith, low))
  split_times (suc n) i low =
      elim (cases_eq n who) [
        | inl is ↦ (let rest : joined (suc n) (but who g) ≡ joined n g = ap (λ l. joined n (but who g) ++ l) (ap (but who g) is ∙ but_here) ∙ (append-nil (joined n (but who g)) ∙ below_same n (omega (arith, is))) in
            let count : times (hand_extents (g who ++ joined (suc n) (but who g))) i ≡ times (hand_extents (g who ++ joined n g)) i = ap (λ l. times (hand_extents (g who ++ l)) i) rest in
            let mine : times (hand_extents (g n)) i ≡ times (hand_extents (g who)) i = ap (λ o. times (hand_extents (g o)) i) is in
            omega (arith, count, mine, hand_times (joined n g) (g n) i, hand_times (g who) (joined n g) i))
        | inr ne ↦ (let other : times (hand_extents (joined n (but who g) ++ but who g n)) i ≡ times (hand_extents (joined n (but who g) ++ g n)) i =
            ap (λ l. times (hand_extents (joined n (but who g) ++ l)) i) (but_else who g n ne) in
            omega (
              arith,
              other,
              split_times n i (omega (arith, low, ne)),
              hand_times (joined n g) (g n) i,
              hand_times (g who) (joined n (but who g)) i,
              hand_times (g who) (joined (suc n) (but who g)) i,
              hand_times (joined n (but who g)) (g n) i,
            ))
      ]

  module _ (f : Form) (img : List ℕ) where
    split_ok : (n : ℕ) → who < n → AllHandOk f img (joined n g) → AllHandOk f img (g who) × AllHandOk f img (joined n (but who g))
    split_ok zero low ok = absurd (omega (arith, low))
    split_ok (suc n) low ok =
        (let parts = ok_split f img (joined n g) (g n) ok in
        elim (cases_eq n who) [
          | inl is ↦ (
            subst (λ o. AllHandOk f img (g o)) is parts.1,
            hands_both f img (joined n (but who g)) (but who g n) (subst (AllHandOk f img) (sym (below_same n (omega (arith, is)))) parts.0) (subst (AllHandOk f img) (sym (ap (but who g) is ∙ but_here)) tt),
          )
          | inr ne ↦ (let rest = split_ok n (omega (arith, low, ne)) parts.0 in
              (rest.0, hands_both f img (joined n (but who g)) (but who g n) rest.1 (subst (AllHandOk f img) (sym (but_else who g n ne)) parts.1)))
        ])

    join_ok : (n : ℕ) → who < n → AllHandOk f img (g who) → AllHandOk f img (joined n (but who g)) → AllHandOk f img (joined n g)
    join_ok zero low mine others = absurd (omega (arith, low))
    join_ok (suc n) low mine others =
        (let parts = ok_split f img (joined n (but who g)) (but who g n) others in
        elim (cases_eq n who) [
          | inl is ↦ hands_both f img (joined n g) (g n) (subst (AllHandOk f img) (below_same n (omega (arith, is))) parts.0) (subst (λ o. AllHandOk f img (g o)) (sym is) mine)
          | inr ne ↦ hands_both f img (joined n g) (g n) (join_ok n (omega (arith, low, ne)) mine parts.0) (subst (AllHandOk f img) (but_else who g n ne) parts.1)
        ])

    -- one opener's hands first, and back
    to_front : (n : ℕ) → who < n → AcceptWith f img (joined n g) → AcceptWith f img (g who ++ joined n (but who g))
    to_front n low A =
        (let parts = split_ok n low A.held in
        hands_for f img (joined n g) (g who ++ joined n (but who g)) A (hands_both f img (g who) (joined n (but who g)) parts.0 parts.1) (λ i. sym (split_times n i low)))

    from_front : (n : ℕ) → who < n → AcceptWith f img (g who ++ joined n (but who g)) → AcceptWith f img (joined n g)
    from_front n low A =
        (let parts = ok_split f img (g who) (joined n (but who g)) A.held in
        hands_for f img (g who ++ joined n (but who g)) (joined n g) A (join_ok n low parts.0 parts.1) (λ i. split_times n i low))

pub turn_keeps_image : TurnKeepsImage
turn_keeps_image f old new who task turn a b before after S T H I =
    let low : who < old.joined = who_joined f old new who task turn S T in
    let rest : joined old.joined (but who before) ≡ joined old.joined (but who after) =
    joined_same old.joined (but who before) (but who after) (λ o below. same o) in
    let made = I.made (joined old.joined (but who before)) (to_front who before f a old.joined low H.accepted) in
    record {
      accepted = subst (λ n. AcceptWith f b (joined n after)) (sym T.joined) (from_front who after f b old.joined low (subst (λ l. AcceptWith f b (after who ++ l)) rest made));
      idle = λ o none.
          (elim (cases_eq o who) [
            | inl is ↦ ap after is ∙ I.idle (subst (λ p. new.task p ≡ None) is none)
            | inr ne ↦ I.others o ne ∙ H.idle o (sym (T.others o ne) ∙ none)
          ]);
      map = I.map;
    }
  where
    same : (o : ℕ) → but who before o ≡ but who after o
    same o =
        elim (cases_eq o who) [
          | inl is ↦ rw (eq-eqb o who is) refl
          | inr ne ↦ but_else who before o ne ∙ (sym (I.others o ne) ∙ sym (but_else who after o ne))
        ]

pub image_plain : ImageIsPlain
image_plain f w s img hands S P H k free = sym (H.map k) ∙ file_plain f w s S P k free

joined_none : (n : ℕ) (g : ℕ → List HandPair) → ((o : ℕ) → g o ≡ []) → joined n g ≡ []
joined_none zero g none = refl
joined_none (suc n) g none = ap (λ l. l ++ g n) (joined_none n g none) ∙ none n

pub idle_accepted : IdleIsAccepted
idle_accepted f w img hands H idle = subst (AcceptWith f img) (joined_none w.joined hands (λ o. H.idle o (idle o))) H.accepted
