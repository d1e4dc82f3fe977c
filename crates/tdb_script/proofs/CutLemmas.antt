-- A text is cut at its first newline, and a line at its first blank.
use Rattle.std.proofs.Common.{◌≡◌, ℕ, zero, suc, ◌+◌, ◌-◌, ◌<◌, ◌≤◌, true, false, List, [], ◌∷◌, length, get_or, take, drop, refl, sym, ap, ◌∙◌, arith, Some, None, not, subst, Bool, ◌==◌, inl, inr}
use Rattle.std.proofs.lemmas.Bool.{cases_lt}
use Rattle.std.proofs.lemmas.List.{take_all, drop_all, length-take, length-drop, get_or-drop, drop_more}
use Rattle.std.proofs.lemmas.List.Quantifiers.{position-Some}
use Rattle.std.proofs.lemmas.List.Sums.{fails_before_first, passes_at_first}
use Rattle.std.proofs.lemmas.List.Splits.{slice_split_first, slice_split_none, slice_split-cons_yes}
use Rattle.std.proofs.lemmas.Grind.{common_steps}
use Rattle.std.proofs.lemmas.Bool.Decides.{nat_tests}
use Rattle.std.specs.Prelude.{position, filter}
use Rattle.std.proofs.lemmas.List.Sums.{prefix_len-le-length}
use Rattle.std.specs.List.{slice_split, position_or_len}
use Rattle.tdb_script.specs.Lines.{is_newline, is_blank, lines_of, words_of}

module _ {X : Type 0} (p : X → Bool) where
  -- a place that was found is the first
  pub found_place : (xs : List X) (i : ℕ) → position p xs ≡ Some i → position_or_len p xs ≡ i
  found_place xs i e = grind (arith, common_steps)

  pub found_inside : (xs : List X) (i : ℕ) → position p xs ≡ Some i → i < length xs
  found_inside xs i e = grind (arith, common_steps)

  pub not_found : (xs : List X) → position p xs ≡ None → length xs ≤ position_or_len p xs
  not_found xs e = grind (arith, common_steps)

  pub not_found_len : (xs : List X) → position p xs ≡ None → position_or_len p xs ≡ length xs
  not_found_len xs e = omega (arith, not_found xs e, prefix_len-le-length (λ x. not (p x)) xs)

  pub none_passes : (xs : List X) → length xs ≤ position_or_len p xs → slice_split p xs ≡ xs ∷ []
  none_passes xs l = slice_split_none p xs (λ k d lt. fails_before_first p xs k d (omega arith))

  -- cut at a place that was found
  pub split_found : (xs : List X) (i : ℕ) (d : X) → i < length xs → position_or_len p xs ≡ i → slice_split p xs ≡ take i xs ∷ slice_split p (drop (i + 1) xs)
  split_found xs i d l e = subst (λ n. slice_split p xs ≡ take n xs ∷ slice_split p (drop (n + 1) xs)) e (slice_split_first p xs d (omega arith))

-- the rest behind a place, as a slice shows it
pub rest_behind : {X : Type 0} (xs : List X) (n : ℕ) → take (length xs - n) (drop n xs) ≡ drop n xs
rest_behind xs n = take_all (length xs - n) (drop n xs) (omega (arith, length-drop n xs))

pub line_found : (text : List ℕ) (end : ℕ) → position is_newline text ≡ Some end → lines_of text ≡ take end text ∷ lines_of (take (length text - (end + 1)) (drop (end + 1) text))
unfolding lines_of
line_found text end e =
    split_found is_newline text end 0 (found_inside is_newline text end e) (found_place is_newline text end e)
    ∙ ap (λ rest. take end text ∷ slice_split is_newline rest) (sym (rest_behind text (end + 1)))

pub line_last : (text : List ℕ) → position is_newline text ≡ None → lines_of text ≡ text ∷ []
unfolding lines_of
line_last text e = none_passes is_newline text (not_found is_newline text e)

-- a blank in front counts for nothing
pub words_blank : (b : ℕ) (line : List ℕ) → is_blank b ≡ true → words_of (b ∷ line) ≡ words_of line
unfolding words_of
words_blank b line e = ap (filter (λ w. not (length w == 0))) (slice_split-cons_yes is_blank b line e)

pub words_behind : (line : List ℕ) (start : ℕ) → start ≤ length line → ((k : ℕ) → k < start → is_blank (get_or line k 0) ≡ true) → words_of line ≡ words_of (drop start line)
words_behind line zero l h = refl
words_behind [] (suc n) l h = absurd (omega arith)
words_behind (b ∷ line) (suc n) l h = words_blank b line (h 0 (omega arith)) ∙ words_behind line n (omega arith) (λ k lt. h (suc k) (omega arith))

was_not : (b : Bool) → not b ≡ false → b ≡ true
was_not true e = refl
was_not false e = sym e

was_so : (b : Bool) → not b ≡ true → b ≡ false
was_so true e = sym e
was_so false e = refl

words_of_none : words_of [] ≡ []
unfolding words_of
words_of_none = refl

-- a line of blanks has no word
pub words_none : (line : List ℕ) → position (λ b. not (is_blank b)) line ≡ None → words_of line ≡ []
words_none line e =
    let far = not_found (λ b. not (is_blank b)) line e in
    words_behind line (length line) (omega arith) (λ k lt. was_not (is_blank (get_or line k 0)) (fails_before_first (λ b. not (is_blank b)) line k 0 (omega arith)))
    ∙ ap words_of (drop_all (length line) line (omega arith)) ∙ words_of_none

-- a line's words are those from its first byte on that isn't blank
pub words_start : (line : List ℕ) (start : ℕ) → position (λ b. not (is_blank b)) line ≡ Some start → words_of line ≡ words_of (drop start line)
words_start line start e =
    let found = position-Some (λ b. not (is_blank b)) line start 0 e in
    words_behind line start (omega arith) (λ k lt. was_not (is_blank (get_or line k 0)) (found.2 k lt))

-- the rest then begins with a word
pub word_there : (line : List ℕ) (start : ℕ) → position (λ b. not (is_blank b)) line ≡ Some start → 0 < position_or_len is_blank (drop start line)
word_there line start e =
    let found = position-Some (λ b. not (is_blank b)) line start 0 e in
    let same : start + 0 ≡ start = omega arith in
    begins (drop start line) (omega (arith, length-drop start line, found.0))
    (ap is_blank (get_or-drop start line 0 0 ∙ ap (λ k. get_or line k 0) same) ∙ was_so (is_blank (get_or line start 0)) found.1)
  where
    begins : (rest : List ℕ) → 0 < length rest → is_blank (get_or rest 0 0) ≡ false → 0 < position_or_len is_blank rest
    begins [] l e = absurd (omega arith)
    begins (b ∷ rest) l e = grind (arith, common_steps)

-- the part in front of the words that are left, where it is a word
keeps_first : (word : List ℕ) (parts : List (List ℕ)) → 0 < length word → filter (λ w. not (length w == 0)) (word ∷ parts) ≡ word ∷ filter (λ w. not (length w == 0)) parts
keeps_first word parts l = let e : (length word == 0) ≡ false = grind (arith, nat_tests) in rw e

-- a word in front is the first
pub words_first : (text : List ℕ) (len : ℕ) → position_or_len is_blank text ≡ len → 0 < len → len < length text → words_of text ≡ take len text ∷ words_of (drop len text)
unfolding words_of
words_first text len e some inside =
    let d : drop len text ≡ get_or text len 0 ∷ drop (len + 1) text = drop_more text len 0 inside in
    let b : is_blank (get_or text len 0) ≡ true = subst (λ n. is_blank (get_or text n 0) ≡ true) e (passes_at_first is_blank text 0 (omega arith)) in
    ap (filter (λ w. not (length w == 0))) (split_found is_blank text len 0 inside e)
    ∙ keeps_first (take len text) (slice_split is_blank (drop (len + 1) text)) (omega (arith, length-take len text))
    ∙ ap (λ ws. take len text ∷ ws) (sym (ap words_of d ∙ words_blank (get_or text len 0) (drop (len + 1) text) b))

pub words_last : (text : List ℕ) (len : ℕ) → position_or_len is_blank text ≡ len → 0 < len → length text ≤ len → words_of text ≡ take len text ∷ words_of (drop len text)
unfolding words_of
words_last text len e some out =
    ap (filter (λ w. not (length w == 0))) (none_passes is_blank text (omega arith))
    ∙ keeps_first text [] (omega (arith, prefix_len-le-length (λ b. not (is_blank b)) text))
    ∙ ap (λ w. w ∷ words_of []) (sym (take_all len text out)) ∙ ap (λ r. take len text ∷ words_of r) (sym (drop_all len text out))

pub words_cut : (text : List ℕ) (len : ℕ) → position_or_len is_blank text ≡ len → 0 < len → words_of text ≡ take len text ∷ words_of (drop len text)
words_cut text len e some = elim (cases_lt len (length text)) [ inl l ↦ words_first text len e some l | inr l ↦ words_last text len e some l ]

-- the first word of a line, cut out by two places
pub words_found : (line rest word left : List ℕ) (start len : ℕ) → position (λ b. not (is_blank b)) line ≡ Some start → rest ≡ drop start line → len ≡ position_or_len is_blank rest → word ≡ take len rest → left ≡ drop len rest → words_of line ≡ word ∷ words_of left
words_found line rest word left start len e r l w d =
    let there : 0 < position_or_len is_blank rest = subst (λ q. 0 < position_or_len is_blank q) (sym r) (word_there line start e) in
    words_start line start e ∙ ap words_of (sym r) ∙ words_cut rest len (sym l) (omega (arith, there, l))
    ∙ ap (λ q. q ∷ words_of (drop len rest)) (sym w) ∙ ap (λ q. word ∷ words_of q) (sym d)
