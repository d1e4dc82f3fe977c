-- Where the pairs that can be read stand, and that those of an accepted image are among them.
use Rattle.std.proofs.Common.{◌≡◌, ℕ, zero, suc, ◌+◌, ◌-◌, ◌*◌, ◌<◌, true, false, List, [], ◌∷◌, length, Contains, slice_index_or, refl, sym, ◌∙◌, ap, subst, inl, inr, arith}
use Rattle.std.specs.Prelude.{◌/◌, ◌⊎◌}
use Rattle.std.proofs.lemmas.Bool.{cases_Bool, cases_eq, eqb-true, eq-eqb}
use Rattle.std.proofs.lemmas.List.Elements.{Contains-append_cases}
use Rattle.tdb_words.specs.declared.record.TheConstants.{USED}
use Rattle.tdb_space.specs.Form.{Form, data_start}
use Rattle.tdb_space.specs.Record.{IsChained, next_of, key_at, data_at, magic_of}
use Rattle.tdb_space.specs.Chain.{Linked, chain_of}
use Rattle.tdb_space.specs.Pairs.{joined, pairs}
use Rattle.tdb_space.specs.Accepted.{AllFiled}
use Rattle.tdb_space.proofs.Pairs.Maps.{pairs_used, pairs_other}
use Rattle.tdb_rescue.specs.Rescued.{is_readable, entry_at, rescued}
use Rattle.tdb_rescue.specs.Laws.{Stands, RescuedStand, AcceptedRescued}
use Rattle.tdb_rescue.proofs.Passing.{passes_from, passes_to, room_from, room_to}
use Rattle.tdb_rescue.proofs.Places.{rescued_from, first_place}

-- an element of a list is its first or one of the others
first_or_other : {X : Type 0} (x : X) (xs : List X) (e : X) → Contains (x ∷ xs) e → (e ≡ x) ⊎ Contains xs e
first_or_other x xs e h = by h.0 h.1 h.2
  where
    by : (k : ℕ) → k < length (x ∷ xs) → slice_index_or (x ∷ xs) k e ≡ e → (e ≡ x) ⊎ Contains xs e
    by zero l p = inl (sym p)
    by (suc k) l p = inr (k, omega (arith, l), p)

one_more : {X : Type 0} (x : X) (xs : List X) (e : X) → Contains xs e → Contains (x ∷ xs) e
one_more x xs e h = let lt = h.1 in (suc h.0, omega (arith, lt), h.2)

module _ (f : Form) (img : List ℕ) where
  -- an entry of some places is that of one of them, at which a pair can be read
  from_place : (n at : ℕ) (e : ℕ × List ℕ × List ℕ) → Contains (rescued_from f img at n) e → (i : ℕ) × (is_readable f img (at + 4 * i) ≡ true) × (e ≡ entry_at f.order img (at + 4 * i))
  from_place zero at e h = absurd (omega (arith, h.1))
  from_place (suc n) at e h =
      elim (cases_Bool (is_readable f img at)) [
        | inl found ↦ elim (first_or_other (entry_at f.order img at) (rescued_from f img (at + 4) n) e (subst (λ xs. Contains xs e) (first_place f img at n true found) h)) [
          | inl here ↦
              let same : at ≡ at + 4 * 0 = omega arith in
              (0, subst (λ x. is_readable f img x ≡ true) same found, here ∙ ap (entry_at f.order img) same)
          | inr there ↦ later (from_place n (at + 4) e there)
        ]
        | inr none ↦ later (from_place n (at + 4) e (subst (λ xs. Contains xs e) (first_place f img at n false none) h))
      ]
    where
      later : (i : ℕ) × (is_readable f img (at + 4 + 4 * i) ≡ true) × (e ≡ entry_at f.order img (at + 4 + 4 * i)) → (i : ℕ) × (is_readable f img (at + 4 * i) ≡ true) × (e ≡ entry_at f.order img (at + 4 * i))
      later w =
          let same : at + 4 + 4 * w.0 ≡ at + 4 * (w.0 + 1) = omega arith in
          (w.0 + 1, subst (λ x. is_readable f img x ≡ true) same w.1, w.2 ∙ ap (entry_at f.order img) same)

  -- and each place at which a pair can be read has its entry
  to_place : (n i at place : ℕ) → place ≡ at + 4 * i → i < n → is_readable f img place ≡ true → Contains (rescued_from f img at n) (entry_at f.order img place)
  to_place zero i at place there below found = absurd (omega (arith, below))
  to_place (suc n) zero at place there below found =
      let same : place ≡ at = omega (arith, there) in
      subst (λ xs. Contains xs (entry_at f.order img place)) (sym (first_place f img at n true (subst (λ x. is_readable f img x ≡ true) same found)))
      (0, omega arith, sym (ap (entry_at f.order img) same))
  to_place (suc n) (suc i) at place there below found =
      let others = to_place n i (at + 4) place (omega (arith, there)) (omega (arith, below)) found in
      elim (cases_Bool (is_readable f img at)) [
        | inl first ↦ subst (λ xs. Contains xs (entry_at f.order img place)) (sym (first_place f img at n true first)) (one_more (entry_at f.order img at) (rescued_from f img (at + 4) n) (entry_at f.order img place) others)
        | inr first ↦ subst (λ xs. Contains xs (entry_at f.order img place)) (sym (first_place f img at n false first)) others
      ]

  -- at a multiple of 4 behind the heads, a pair that can be read stands there
  stands_at : (at i : ℕ) → at ≡ data_start f + 4 * i → is_readable f img at ≡ true → Stands f img at (key_at f.order img at) (data_at f.order img at)
  stands_at at i there found =
      let p = passes_from f img at found in
      let r = room_from f img at p.room in
      record {
        whole = record { aligned = omega (arith, there); above = omega (arith, there); len_aligned = r.len_aligned; len_least = omega (arith, r.fits); within = r.within; tailer = eqb-true _ _ p.tailed };
        used = p.used;
        fits = r.fits;
        hashed = p.hashed;
        holds_key = refl;
        holds_value = refl;
      }

  pub stands_from : (at : ℕ) (key value : List ℕ) → Contains (rescued f img) (at, key, value) → Stands f img at key value
  stands_from at key value h =
      let w = from_place (length img / 4) (data_start f) (at, key, value) h in
      let s = stands_at (data_start f + 4 * w.0) w.0 refl w.1 in
      let back = sym w.2 in
      subst (λ (e : ℕ × List ℕ × List ℕ). Stands f img e.0 e.1 e.2) back s

  pub stands_to : (at : ℕ) (key value : List ℕ) → Stands f img at key value → Contains (rescued f img) (at, key, value)
  stands_to at key value s =
      let i = (at - data_start f) / 4 in
      let there : at ≡ data_start f + 4 * i = omega (arith, s.whole.aligned, s.whole.above) in
      let below : i < length img / 4 = omega (arith, s.whole.within, s.whole.len_least, s.whole.above) in
      let room = room_to f img at (record { len_aligned = s.whole.len_aligned; within = s.whole.within; fits = s.fits }) in
      let found = passes_to f img at (record { used = s.used; room = room; tailed = eq-eqb _ _ s.whole.tailer; hashed = s.hashed }) in
      subst (λ k. Contains (rescued f img) (at, k, value)) (sym s.holds_key)
      (subst (λ v. Contains (rescued f img) (at, key_at f.order img at, v)) (sym s.holds_value) (to_place (length img / 4) i (data_start f) at there below found))

  -- each pair of a chain stands somewhere
  of_chain : (j at : ℕ) (xs key value : List ℕ) → Linked f IsChained img at xs → AllFiled f img j xs → Contains (pairs f.order img xs) (key, value) → (x : ℕ) × Stands f img x key value
  of_chain j at [] key value linked filed h = absurd (omega (arith, h.1))
  of_chain j at (x ∷ xs) key value linked filed h =
      elim (cases_eq (magic_of f.order img x) USED) [
        | inl used ↦ elim (first_or_other (key_at f.order img x, data_at f.order img x) (pairs f.order img xs) (key, value) (subst (λ ps. Contains ps (key, value)) (pairs_used f.order img x xs used) h)) [
          | inl here ↦ (
            x,
            record { whole = linked.1; used = used; fits = (filed.0 used).fits; hashed = (filed.0 used).hashed; holds_key = ap (λ p. p.0) here; holds_value = ap (λ p. p.1) here },
          )
          | inr there ↦ of_chain j (next_of f.order img x) xs key value linked.3 filed.1 there
        ]
        | inr other ↦ of_chain j (next_of f.order img x) xs key value linked.3 filed.1 (subst (λ ps. Contains ps (key, value)) (pairs_other f.order img x xs other) h)
      ]

-- an element of joined lists is one of one of them
of_joined : {T : Type 0} (n : ℕ) (F : ℕ → List T) (e : T) → Contains (joined n F) e → (j : ℕ) × (j < n) × Contains (F j) e
of_joined zero F e h = absurd (omega (arith, h.1))
of_joined (suc n) F e h =
    elim (Contains-append_cases (joined n F) (F n) e h) [
      | inl early ↦ let w = of_joined n F e early in let lt = w.1 in (w.0, omega (arith, lt), w.2)
      | inr last ↦ (n, omega arith, last)
    ]

pub rescued_stand : RescuedStand
rescued_stand f img at key value = (stands_from f img at key value, stands_to f img at key value)

pub accepted_rescued : AcceptedRescued
accepted_rescued f img hands key value A h =
    let w = of_joined f.chains (λ j. pairs f.order img (chain_of f img j)) (key, value) h in
    let s = of_chain f img w.0 _ (chain_of f img w.0) key value (A.chains w.0 w.1) (A.filed w.0 w.1) w.2 in
    (s.0, stands_to f img s.0 key value s.1)
