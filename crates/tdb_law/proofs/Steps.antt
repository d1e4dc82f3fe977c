-- A cursor's steps go on.
use Rattle.std.proofs.Common.{◌≡◌, ℕ, ◌+◌, ◌<◌, ◌≤◌, List, ◌∷◌, Bool, true, false, cond, ◌==◌, nat_le, nat_lt, Option, Some, None, refl, sym, ◌∙◌, ap, inl, inr, ◌⊎◌, arith}
use Rattle.std.specs.Prelude.{◌&&◌}
use Rattle.std.proofs.lemmas.Bool.{cases_Bool, cases_eq, eqb-true, eqb-false, leb-true, le-leb, ltb-true, lt-ltb, ltb-false}
use Rattle.tdb_space.specs.Form.{Form}
use Rattle.tdb_space.specs.Pairs.{home}
use Rattle.tdb_space.proofs.Pairs.Maps.{home_below}
use Rattle.tdb_law.specs.Openers.{is_key}
use Rattle.tdb_law.specs.Layout.{Cell, Chains, live_in, behind}
use Rattle.tdb_law.specs.Going.{key_met, ToNext, ToFirst, PastLast, PastEmpty, StepsJoin, NoneLeft}
use Rattle.tdb_law.proofs.Maps.{is_key-eq}
use Rattle.tdb_law.proofs.Tests.{never_true, and_both, and_make, or_cases, or_second}

-- a key of a record and those behind it is the one come to, or is behind
met : (c : Cell) (rest : List Cell) (k : List ℕ) → live_in (c ∷ rest) k ≡ true → (key_met c ≡ Some k) ⊎ (live_in rest k ≡ true)
met c rest k e =
    elim (or_cases (c.live && is_key c.key k) (live_in rest k) e) [
      | inl here ↦ (let parts = and_both c.live (is_key c.key k) here in inl (rw parts.0 (ap Some (sym (is_key-eq c.key k parts.1)))))
      | inr there ↦ inr there
    ]

pub to_next : ToNext
to_next f cs i p c rest at_p at_c = record {
  reached = omega arith;
  fewer = λ k. fewer k (home f k == i);
  kept = λ k. kept k (home f k == i);
}
  where
    here : (k : List ℕ) → live_in (behind (cs i) p) k ≡ live_in (c ∷ rest) k
    here k = ap (λ l. live_in l k) at_p

    there : (k : List ℕ) → live_in (behind (cs i) c.place) k ≡ live_in rest k
    there k = ap (λ l. live_in l k) at_c

    fewer : (k : List ℕ) (b : Bool) → cond b (live_in (behind (cs i) c.place) k) (nat_lt i (home f k) && live_in (cs (home f k)) k) ≡ true → cond b (live_in (behind (cs i) p) k) (nat_lt i (home f k) && live_in (cs (home f k)) k) ≡ true
    fewer k true e = here k ∙ or_second (c.live && is_key c.key k) (live_in rest k) (sym (there k) ∙ e)
    fewer k false e = e

    kept : (k : List ℕ) (b : Bool) → cond b (live_in (behind (cs i) p) k) (nat_lt i (home f k) && live_in (cs (home f k)) k) ≡ true
        → (key_met c ≡ Some k) ⊎ (cond b (live_in (behind (cs i) c.place) k) (nat_lt i (home f k) && live_in (cs (home f k)) k) ≡ true)
    kept k true e = elim (met c rest k (sym (here k) ∙ e)) [ inl key ↦ inl key | inr later ↦ inr (there k ∙ later) ]
    kept k false e = inr e

pub to_first : ToFirst
to_first f cs i c rest at_i at_c = record {
  reached = omega arith;
  fewer = λ k. fewer k (home f k == i) refl;
  kept = λ k. kept k (home f k == i) refl;
}
  where
    chain : (k : List ℕ) → (home f k == i) ≡ true → live_in (cs (home f k)) k ≡ live_in (c ∷ rest) k
    chain k e = ap (λ j. live_in (cs j) k) (eqb-true (home f k) i e) ∙ ap (λ l. live_in l k) at_i

    there : (k : List ℕ) → live_in (behind (cs i) c.place) k ≡ live_in rest k
    there k = ap (λ l. live_in l k) at_c

    fewer : (k : List ℕ) (b : Bool) → (home f k == i) ≡ b → cond b (live_in (behind (cs i) c.place) k) (nat_lt i (home f k) && live_in (cs (home f k)) k) ≡ true → nat_le i (home f k) && live_in (cs (home f k)) k ≡ true
    fewer k true is e =
        and_make (nat_le i (home f k)) (live_in (cs (home f k)) k) (le-leb i (home f k) (omega (arith, eqb-true (home f k) i is)))
        (chain k is ∙ or_second (c.live && is_key c.key k) (live_in rest k) (sym (there k) ∙ e))
    fewer k false is e =
        (let parts = and_both (nat_lt i (home f k)) (live_in (cs (home f k)) k) e in
        let low : i < home f k = ltb-true i (home f k) parts.0 in
        and_make (nat_le i (home f k)) (live_in (cs (home f k)) k) (le-leb i (home f k) (omega arith)) parts.1)

    kept : (k : List ℕ) (b : Bool) → (home f k == i) ≡ b → nat_le i (home f k) && live_in (cs (home f k)) k ≡ true
        → (key_met c ≡ Some k) ⊎ (cond b (live_in (behind (cs i) c.place) k) (nat_lt i (home f k) && live_in (cs (home f k)) k) ≡ true)
    kept k true is e =
        (let parts = and_both (nat_le i (home f k)) (live_in (cs (home f k)) k) e in
        elim (met c rest k (sym (chain k is) ∙ parts.1)) [ inl key ↦ inl key | inr later ↦ inr (there k ∙ later) ])
    kept k false is e =
        (let parts = and_both (nat_le i (home f k)) (live_in (cs (home f k)) k) e in
        let from : i ≤ home f k = leb-true i (home f k) parts.0 in
        let apart : home f k ≡ i → ⊥ = eqb-false (home f k) i is in
        inr (and_make (nat_lt i (home f k)) (live_in (cs (home f k)) k) (lt-ltb i (home f k) (omega (arith, from, apart))) parts.1))

-- the chains from the next one on are those after this one
after_chain : (f : Form) (cs : Chains) (i : ℕ) (k : List ℕ) → nat_lt i (home f k) ≡ nat_le (i + 1) (home f k)
after_chain f cs i k =
    elim (cases_Bool (nat_lt i (home f k))) [
      | inl low ↦ low ∙ sym (le-leb (i + 1) (home f k) (let le : i < home f k = ltb-true i (home f k) low in omega arith))
      | inr high ↦ high ∙ sym (not_le (ltb-false i (home f k) high))
    ]
  where
    not_le : home f k ≤ i → nat_le (i + 1) (home f k) ≡ false
    not_le le = elim (cases_Bool (nat_le (i + 1) (home f k))) [ inr off ↦ off | inl on ↦ absurd (omega (arith, le, leb-true (i + 1) (home f k) on)) ]

pub past_last : PastLast
past_last f cs i p none = record {
  reached = omega arith;
  fewer = λ k. fewer k (home f k == i) refl;
  kept = λ k e. inr (kept k (home f k == i) refl e);
}
  where
    fewer : (k : List ℕ) (b : Bool) → (home f k == i) ≡ b → nat_le (i + 1) (home f k) && live_in (cs (home f k)) k ≡ true → cond b (live_in (behind (cs i) p) k) (nat_lt i (home f k) && live_in (cs (home f k)) k) ≡ true
    fewer k true is e =
        absurd (omega (arith, eqb-true (home f k) i is, leb-true (i + 1) (home f k) (and_both (nat_le (i + 1) (home f k)) (live_in (cs (home f k)) k) e).0))
    fewer k false is e = ap (λ b. b && live_in (cs (home f k)) k) (after_chain f cs i k) ∙ e

    kept : (k : List ℕ) (b : Bool) → (home f k == i) ≡ b → cond b (live_in (behind (cs i) p) k) (nat_lt i (home f k) && live_in (cs (home f k)) k) ≡ true → nat_le (i + 1) (home f k) && live_in (cs (home f k)) k ≡ true
    kept k true is e = absurd (never_true (sym (ap (λ l. live_in l k) none) ∙ e))
    kept k false is e = ap (λ b. b && live_in (cs (home f k)) k) (sym (after_chain f cs i k)) ∙ e

pub past_empty : PastEmpty
past_empty f cs i none = record {
  reached = omega arith;
  fewer = λ k e.
      (let parts = and_both (nat_le (i + 1) (home f k)) (live_in (cs (home f k)) k) e in
      let low : i + 1 ≤ home f k = leb-true (i + 1) (home f k) parts.0 in
      and_make (nat_le i (home f k)) (live_in (cs (home f k)) k) (le-leb i (home f k) (omega arith)) parts.1);
  kept = λ k e.
      (let parts = and_both (nat_le i (home f k)) (live_in (cs (home f k)) k) e in
      let low : i ≤ home f k = leb-true i (home f k) parts.0 in
      elim (cases_eq (home f k) i) [
        | inl is ↦ absurd (never_true (sym (ap (λ j. live_in (cs j) k) is ∙ ap (λ l. live_in l k) none) ∙ parts.1))
        | inr apart ↦ inr (and_make (nat_le (i + 1) (home f k)) (live_in (cs (home f k)) k) (le-leb (i + 1) (home f k) (omega (arith, low, apart))) parts.1)
      ]);
}

none_key : (k : List ℕ) → ◌≡◌ {A = Option (List ℕ)} None (Some k) → ⊥
none_key k e = cc

pub steps_join : StepsJoin
steps_join f cs a b c key one two = record {
  reached = omega (arith, one.reached, two.reached);
  fewer = λ k e. one.fewer k (two.fewer k e);
  kept = λ k e. (elim (one.kept k e) [ inl met_key ↦ absurd (none_key k met_key) | inr later ↦ two.kept k later ]);
}

pub none_left : NoneLeft
none_left f cs i k past some =
    elim (cases_Bool (nat_le i (home f k))) [
      | inl low ↦ absurd (omega (arith, past, leb-true i (home f k) low, home_below f k some))
      | inr off ↦ rw off refl
    ]
