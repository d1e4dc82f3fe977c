-- A text that is written piece by piece: what was written of it, and what is still held.
use Rattle.std.proofs.Common.{◌≡◌, ℕ, ◌+◌, ◌<◌, ◌≤◌, List, [], ◌∷◌, ◌++◌, length, take, drop, append_assoc, append-nil, zero, suc, refl, sym, ◌∙◌, ap, inl, inr, arith}
use Rattle.std.proofs.lemmas.Bool.{cases_eq}
use Rattle.std.proofs.lemmas.List.{length-append, length-take-le, take_at, take-append-le, take-append-drop}
use Rattle.tdb_space.specs.Pairs.{joined}
use Rattle.tdb_backup.specs.Dump.{WroteFront, HandedOn}

-- the front of a list and some of what follows
take_over : (xs ys zs : List ℕ) (n : ℕ) → n ≤ length ys → take (length xs + n) (xs ++ ys ++ zs) ≡ xs ++ take n ys
take_over xs ys zs n short =
    let split : xs ++ ys ≡ xs ++ take n ys ++ drop n ys = ap (λ t. xs ++ t) (sym (take-append-drop n ys)) ∙ sym (append_assoc xs (take n ys) (drop n ys)) in
    let long : length (xs ++ take n ys) ≡ length xs + n = omega (arith, length-append xs (take n ys), length-take-le n ys short) in
    let within : length xs + n ≤ length (xs ++ ys) = omega (arith, length-append xs ys, short) in
    take-append-le (length xs + n) (xs ++ ys) zs within ∙ ap (take (length xs + n)) split ∙ take_at (xs ++ take n ys) (drop n ys) (length xs + n) long

-- the front of joined lists is that of the first ones
pub joined_front : {T : Type 0} (n m : ℕ) (F : ℕ → List T) → n ≤ m → (rest : List T) × (joined m F ≡ joined n F ++ rest)
joined_front n zero F le = ([], let e : zero ≡ n = omega (arith, le) in ap (λ k. joined k F) e ∙ sym (append-nil (joined n F)))
joined_front n (suc m) F le =
    elim (cases_eq n (suc m)) [
      | inl e ↦ ([], ap (λ k. joined k F) (sym e) ∙ sym (append-nil (joined n F)))
      | inr other ↦
          let below = joined_front n m F (omega (arith, le, other)) in
          (below.0 ++ F m, ap (λ xs. xs ++ F m) below.1 ∙ append_assoc (joined n F) below.0 (F m))
    ]

-- this text was written behind what was there, up to what is still held of it
pub record Streamed (before now held text : List ℕ) : Type 0 where
  pub done : List ℕ
  pub wrote : now ≡ before ++ done
  pub all : done ++ held ≡ text

-- at first nothing was written, and nothing is held
pub streamed_start : (before : List ℕ) → Streamed before before [] []
streamed_start before = record { done = []; wrote = sym (append-nil before); all = refl }

module _ (before now held text : List ℕ) (d : Streamed before now held text) where
  -- a piece more is held
  pub streamed_more : (more piece : List ℕ) → more ≡ held ++ piece → Streamed before now more (text ++ piece)
  streamed_more more piece e = record {
    done = d.done;
    wrote = d.wrote;
    all = ap (λ t. d.done ++ t) e ∙ sym (append_assoc d.done held piece) ∙ ap (λ t. t ++ piece) d.all;
  }

  -- what was held is handed on
  pub streamed_on : (later left : List ℕ) → HandedOn now held later left → Streamed before later left text
  streamed_on later left on =
      elim on [
        | inl same ↦ record { done = d.done; wrote = same.0 ∙ d.wrote; all = ap (λ t. d.done ++ t) same.1 ∙ d.all }
        | inr wrote ↦ record {
          done = d.done ++ held;
          wrote = wrote.0 ∙ ap (λ t. t ++ held) d.wrote ∙ append_assoc before d.done held;
          all = ap (λ t. d.done ++ held ++ t) wrote.1 ∙ append-nil (d.done ++ held) ∙ d.all;
        }
      ]

  -- where nothing is held any more, all of the text was written
  pub streamed_end : held ≡ [] → now ≡ before ++ text
  streamed_end none = d.wrote ∙ ap (λ t. before ++ t) (sym (append-nil d.done) ∙ ap (λ t. d.done ++ t) (sym none) ∙ d.all)

  module _ (whole rest : List ℕ) (front : whole ≡ text ++ rest) where
    -- what was written is a front of a text that goes on so
    pub streamed_front : WroteFront before whole now
    streamed_front =
        let split : whole ≡ d.done ++ (held ++ rest) = front ∙ ap (λ x. x ++ rest) (sym d.all) ∙ append_assoc d.done held rest in
        let cut : take (length d.done) whole ≡ d.done = ap (take (length d.done)) split ∙ take_at d.done (held ++ rest) (length d.done) refl in
        (length d.done, omega (arith, ap length split, length-append d.done (held ++ rest)), d.wrote ∙ ap (λ x. before ++ x) (sym cut))

    -- and so it is where only some of what was held is written
    pub streamed_failed : (later : List ℕ) → WroteFront now held later → WroteFront before whole later
    streamed_failed later wrote =
        let n = wrote.0 in
        let split : whole ≡ d.done ++ held ++ rest = front ∙ ap (λ x. x ++ rest) (sym d.all) in
        let cut : take (length d.done + n) whole ≡ d.done ++ take n held = ap (take (length d.done + n)) split ∙ take_over d.done held rest n wrote.1 in (
          length d.done + n,
          omega (arith, wrote.1, ap length split, length-append (d.done ++ held) rest, length-append d.done held),
          wrote.2 ∙ ap (λ x. x ++ take n held) d.wrote ∙ append_assoc before d.done (take n held) ∙ ap (λ x. before ++ x) (sym cut),
        )

-- the last that was held is handed on
pub streamed_all : (before now held text later left : List ℕ) → Streamed before now held text → HandedOn now held later left → length left < 1 → later ≡ before ++ text
streamed_all before now held text later left d on short = streamed_end before later left text (streamed_on before now held text d later left on) (none left short)
  where
    none : (xs : List ℕ) → length xs < 1 → xs ≡ []
    none [] short = refl
    none (x ∷ xs) short = absurd (omega (arith, short))
