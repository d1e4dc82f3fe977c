-- How far a rescue has come: what it has found, what it has written of it, and what it still holds.
use Rattle.std.proofs.Common.{◌≡◌, ℕ, ◌+◌, ◌<◌, ◌≤◌, Bool, true, false, List, [], ◌∷◌, ◌++◌, length, map, take, drop, append_assoc, append-nil, length-append, length-take-le, take_at, take-append-drop, Result, Ok, Err, OnErr, refl, sym, ◌∙◌, ap, subst, inl, inr, arith}
use mir.Val.{bool_byte}
use Rattle.std.specs.Prelude.{MatchBool}
use Rattle.std.specs.List.{flat_map}
use Rattle.std.proofs.lemmas.List.{take-append-le, map-append, length_push}
use Rattle.std.proofs.lemmas.List.Concat.{flat_map-append}
use Rattle.tdb_dump.specs.declared.pairs.Pair.{Pair}
use Rattle.tdb_dump.specs.DumpText.{pair_text}
use Rattle.tdb_space.specs.Form.{Form, data_start}
use Rattle.tdb_space.specs.Record.{key_at, data_at}
use Rattle.tdb_rescue.specs.Rescued.{is_readable, entry_at, rescued}
use Rattle.tdb_rescue.specs.Text.{as_pair, text_of, rescued_text, WroteFront, HandedOn}
use Rattle.tdb_rescue.proofs.Places.{UpTo, rescued_from, up_to_start, up_to_passed, up_to_met, up_to_end}

-- what holds anyway holds on a refusal
pub on_err : {T E P : Type 0} (r : Result T E) → P → OnErr r P
on_err (Ok x) p = tt
on_err (Err e) p = p

-- of a text nothing was written yet
pub wrote_nothing : (before text : List ℕ) → WroteFront before text before
wrote_nothing before text = (0, omega arith, sym (append-nil before))

-- the front of a list and some of what follows
take_over : (xs ys zs : List ℕ) (n : ℕ) → n ≤ length ys → take (length xs + n) (xs ++ ys ++ zs) ≡ xs ++ take n ys
take_over xs ys zs n short =
    let split : xs ++ ys ≡ xs ++ take n ys ++ drop n ys = ap (λ t. xs ++ t) (sym (take-append-drop n ys)) ∙ sym (append_assoc xs (take n ys) (drop n ys)) in
    let long : length (xs ++ take n ys) ≡ length xs + n = omega (arith, length-append xs (take n ys), length-take-le n ys short) in
    let within : length xs + n ≤ length (xs ++ ys) = omega (arith, length-append xs ys, short) in
    take-append-le (length xs + n) (xs ++ ys) zs within ∙ ap (take (length xs + n)) split ∙ take_at (xs ++ take n ys) (drop n ys) (length xs + n) long

-- the texts of two lists of entries follow one another
text_split : (xs ys : List (ℕ × List ℕ × List ℕ)) → text_of (xs ++ ys) ≡ text_of xs ++ text_of ys
text_split xs ys =
    ap (λ ps. flat_map (λ (q : Pair). pair_text q.key q.value) ps) (map-append as_pair xs ys)
    ∙ flat_map-append (λ (q : Pair). pair_text q.key q.value) (map as_pair xs) (map as_pair ys)

-- the text of some entries was written behind what was there, up to what is still held of it
pub record Written (before now held : List ℕ) (given : List (ℕ × List ℕ × List ℕ)) : Type 0 where
  pub done : List ℕ
  pub wrote : now ≡ before ++ done
  pub all : done ++ held ≡ text_of given

-- one more is held
written_pair : (before now held more : List ℕ) (given : List (ℕ × List ℕ × List ℕ)) (e : ℕ × List ℕ × List ℕ) → Written before now held given → more ≡ held ++ pair_text e.1 e.2 → Written before now more (given ++ e ∷ [])
written_pair before now held more given e w is = record {
  done = w.done;
  wrote = w.wrote;
  all = ap (λ t. w.done ++ t) is ∙ sym (append_assoc w.done held (pair_text e.1 e.2)) ∙ ap (λ t. t ++ pair_text e.1 e.2) w.all
      ∙ sym (text_split given (e ∷ []) ∙ ap (λ t. text_of given ++ t) (append-nil (pair_text e.1 e.2)));
}

-- what was held is handed on
written_on : (before now held later left : List ℕ) (given : List (ℕ × List ℕ × List ℕ)) → Written before now held given → HandedOn now held later left → Written before later left given
written_on before now held later left given w on =
    elim on [
      | inl same ↦ record { done = w.done; wrote = same.0 ∙ w.wrote; all = ap (λ t. w.done ++ t) same.1 ∙ w.all }
      | inr wrote ↦ record {
        done = w.done ++ held;
        wrote = wrote.0 ∙ ap (λ t. t ++ held) w.wrote ∙ append_assoc before w.done held;
        all = ap (λ t. w.done ++ held ++ t) wrote.1 ∙ append-nil (w.done ++ held) ∙ w.all;
      }
    ]

-- All pairs that can be read before a place were found, so many; and where the sink tells, their text was written, up
-- to what is still held of it.
pub record Progress (sink : Type 0) (f : Form) (img before now held : List ℕ) (at count : ℕ) : Type 0 where
  pub given : List (ℕ × List ℕ × List ℕ)
  pub up_to : UpTo f img at given
  pub number : count ≡ length given
  pub text : sink → Written before now held given

module _ (sink : Type 0) (f : Form) (img before : List ℕ) where
  pub progress_start : (now held : List ℕ) (at count : ℕ) → at ≡ data_start f → count ≡ 0 → now ≡ before → held ≡ [] → Progress sink f img before now held at count
  progress_start now held at count e none same nothing = record {
    given = [];
    up_to = up_to_start f img at e;
    number = none;
    text = λ _. record { done = []; wrote = same ∙ sym (append-nil before); all = nothing };
  }

  -- the pair at the place was put at the end, where one can be read there
  pub progress_pushed : (now held more : List ℕ) (at count next : ℕ) (b : Bool) → Progress sink f img before now held at count → at + 4 ≤ length img → b ≡ is_readable f img at
      → MatchBool b (more ≡ held ++ pair_text (key_at f.order img at) (data_at f.order img at)) (more ≡ held) → next ≡ count + bool_byte b → Progress sink f img before now more (at + 4) next
  progress_pushed now held more at count next true p within found pushed sum = record {
    given = p.given ++ entry_at f.order img at ∷ [];
    up_to = up_to_met f img at p.given within p.up_to (sym found);
    number = omega (arith, sum, p.number, length_push p.given (entry_at f.order img at));
    text = λ told. written_pair before now held more p.given (entry_at f.order img at) (p.text told) pushed;
  }
  progress_pushed now held more at count next false p within found pushed sum = record {
    given = p.given;
    up_to = up_to_passed f img at p.given within p.up_to (sym found);
    number = omega (arith, sum, p.number);
    text = λ told. (let w = p.text told in record { done = w.done; wrote = w.wrote; all = ap (λ t. w.done ++ t) pushed ∙ w.all });
  }

  -- the same, where the place is looked at in a form and an image that are these
  pub progress_next : (k : Form) (v : List ℕ) → k ≡ f → v ≡ img → (now held more : List ℕ) (at count next : ℕ) (b : Bool) → Progress sink f img before now held at count → at + 4 ≤ length img → b ≡ is_readable k v at
      → MatchBool b (more ≡ held ++ pair_text (key_at k.order v at) (data_at k.order v at)) (more ≡ held) → next ≡ count + bool_byte b → Progress sink f img before now more (at + 4) next
  progress_next k v form image now held more at count next b p within found pushed sum =
      progress_pushed now held more at count next b p within (found ∙ (λ j. is_readable (form j) (image j) at))
      (subst (λ t. MatchBool b (more ≡ held ++ t) (more ≡ held)) (λ j. pair_text (key_at (form j).order (image j) at) (data_at (form j).order (image j) at)) pushed) sum

  -- what was held is handed on
  pub progress_on : (now held later left : List ℕ) (at count : ℕ) → Progress sink f img before now held at count → (sink → HandedOn now held later left) → Progress sink f img before later left at count
  progress_on now held later left at count p on = record {
    given = p.given;
    up_to = p.up_to;
    number = p.number;
    text = λ told. written_on before now held later left p.given (p.text told) (on told);
  }

  module _ (now held : List ℕ) (at count : ℕ) (p : Progress sink f img before now held at count) where
    -- the text of what was found is a front of the whole
    rest : (more : List ℕ) × (rescued_text f img ≡ text_of p.given ++ more)
    rest = let more = rescued_from f img at p.up_to.left in (text_of more, ap text_of p.up_to.split ∙ text_split p.given more)

    -- where only some of what was held is written, a front of the whole was written
    pub progress_failed : sink → (later : List ℕ) → WroteFront now held later → WroteFront before (rescued_text f img) later
    progress_failed told later wrote =
        let w = p.text told in
        let more = rest in
        let n = wrote.0 in
        let whole : rescued_text f img ≡ w.done ++ held ++ more.0 = more.1 ∙ ap (λ x. x ++ more.0) (sym w.all) in
        let cut : take (length w.done + n) (rescued_text f img) ≡ w.done ++ take n held = ap (take (length w.done + n)) whole ∙ take_over w.done held more.0 n wrote.1 in (
          length w.done + n,
          omega (arith, wrote.1, ap length whole, length-append (w.done ++ held) more.0, length-append w.done held),
          wrote.2 ∙ ap (λ x. x ++ take n held) w.wrote ∙ append_assoc before w.done (take n held) ∙ ap (λ x. before ++ x) (sym cut),
        )

    -- what was written is a front of the whole
    pub progress_front : sink → WroteFront before (rescued_text f img) now
    progress_front told = progress_failed told now (wrote_nothing now held)

    -- no place is left, so all pairs were found
    pub progress_number : length img < at + 28 → count ≡ length (rescued f img)
    progress_number near = p.number ∙ ap length (sym (up_to_end f img at p.given p.up_to near))

    -- and their text was written where nothing is held any more
    pub progress_done : length img < at + 28 → sink → (later left : List ℕ) → HandedOn now held later left → length left < 1 → later ≡ before ++ rescued_text f img
    progress_done near told later left on short =
        let w = written_on before now held later left p.given (p.text told) on in
        w.wrote ∙ ap (λ t. before ++ t) (sym (append-nil w.done) ∙ ap (λ t. w.done ++ t) (sym (none left short)) ∙ w.all ∙ ap text_of (sym (up_to_end f img at p.given p.up_to near)))
      where
        none : (xs : List ℕ) → length xs < 1 → xs ≡ []
        none [] short = refl
        none (x ∷ xs) short = absurd (omega (arith, short))
