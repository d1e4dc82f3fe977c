-- The parts of a text that is cut: how long they are, and which stay where the text goes on.
use Rattle.std.proofs.Common.{◌≡◌, ℕ, ◌+◌, ◌<◌, ◌≤◌, List, [], ◌∷◌, ◌++◌, length, length-append, refl, sym, ap, ◌∙◌, subst, Bool, true, false, cond, not, ◌==◌, inl, inr, ◌⊎◌, arith}
use Rattle.std.specs.Prelude.{filter}
use Rattle.std.specs.List.{slice_split, onto_first}
use Rattle.std.proofs.lemmas.List.Sums.{sum_by-append, sum_by-cons}
use Rattle.std.proofs.lemmas.List.Splits.{length-slice_split}
use Rattle.tdb_script.specs.declared.limits.TheConstants.{LONGEST_SCRIPT}
use Rattle.tdb_script.specs.Lines.{is_newline, is_blank, lines_of, words_of, width}
use Rattle.tdb_script.specs.Script.{StopsIn, EndsWithin, BadAt}
use Rattle.tdb_script.specs.Laws.{StaysBad}
use Rattle.tdb_script.proofs.LawLemmas.{Cause}

-- no part has more than so many elements
abbrev pub NoLonger : ℕ → List (List ℕ) → Type 0
NoLonger n [] = Unit {0}
NoLonger n (part ∷ parts) = (length part ≤ n) × NoLonger n parts

weaker : (n m : ℕ) (parts : List (List ℕ)) → n ≤ m → NoLonger n parts → NoLonger m parts
weaker n m [] l h = tt
weaker n m (part ∷ parts) l h = (omega (arith, h.0, l), weaker n m parts l h.1)

parts_no_longer : (p : ℕ → Bool) (xs : List ℕ) → NoLonger (length xs) (slice_split p xs)
parts_no_longer p [] = (omega arith, tt)
parts_no_longer p (x ∷ xs) = of (p x) (slice_split p xs) (parts_no_longer p xs)
  where
    of : (b : Bool) (parts : List (List ℕ)) → NoLonger (length xs) parts → NoLonger (length (x ∷ xs)) (cond b ([] ∷ parts) (onto_first x parts))
    of true parts h = (omega arith, weaker (length xs) (length (x ∷ xs)) parts (omega arith) h)
    of false [] h = (omega arith, tt)
    of false (part ∷ parts) h = (omega (arith, h.0), weaker (length xs) (length (x ∷ xs)) parts (omega arith) h.1)

kept_no_longer : (n : ℕ) (p : List ℕ → Bool) (parts : List (List ℕ)) → NoLonger n parts → NoLonger n (filter p parts)
kept_no_longer n p [] h = tt
kept_no_longer n p (part ∷ parts) h = of (p part) (kept_no_longer n p parts h.1)
  where
    of : (b : Bool) → NoLonger n (filter p parts) → NoLonger n (cond b (part ∷ filter p parts) (filter p parts))
    of true rest = (h.0, rest)
    of false rest = rest

-- a line is no longer than its text, and a word no longer than its line
pub lines_no_longer : (text : List ℕ) → NoLonger (length text) (lines_of text)
unfolding lines_of
lines_no_longer text = parts_no_longer is_newline text

pub words_no_longer : (n : ℕ) (line : List ℕ) → length line ≤ n → NoLonger n (words_of line)
unfolding words_of
words_no_longer n line l = weaker (length line) n (filter (λ w. not (length w == 0)) (slice_split is_blank line)) l
    (kept_no_longer (length line) (λ w. not (length w == 0)) (slice_split is_blank line) (parts_no_longer is_blank line))

-- the lines of a text have its bytes, and a newline that the last line lacks
width_cons : (line : List ℕ) (lines : List (List ℕ)) → width (line ∷ lines) ≡ length line + 1 + width lines
width_cons line lines = sum_by-cons (λ l. length l + 1) line lines

width_split : (text : List ℕ) → width (slice_split is_newline text) ≡ length text + 1
width_split [] = refl
width_split (b ∷ text) = of (is_newline b) (slice_split is_newline text) (width_split text)
  where
    of : (c : Bool) (parts : List (List ℕ)) → width parts ≡ length text + 1 → width (cond c ([] ∷ parts) (onto_first b parts)) ≡ length (b ∷ text) + 1
    of true parts h = omega (arith, h, width_cons [] parts)
    of false [] h = absurd (omega (arith, h))
    of false (part ∷ parts) h = omega (arith, h, width_cons part parts, width_cons (b ∷ part) parts)

-- The parts of a list that goes on: the last one does, and other parts follow.
abbrev longer : List (List ℕ) → List ℕ → List (List ℕ) → List (List ℕ)
longer [] first more = first ∷ more
longer (part ∷ []) first more = (part ++ first) ∷ more
longer (part ∷ next ∷ parts) first more = part ∷ longer (next ∷ parts) first more

split_longer : (p : ℕ → Bool) (xs ys first : List ℕ) (more : List (List ℕ)) → slice_split p ys ≡ first ∷ more → slice_split p (xs ++ ys) ≡ longer (slice_split p xs) first more
split_longer p [] ys first more e = e
split_longer p (x ∷ xs) ys first more e =
    ap (λ parts. cond (p x) ([] ∷ parts) (onto_first x parts)) (split_longer p xs ys first more e)
    ∙ of (p x) (slice_split p xs) (omega (arith, length-slice_split p xs))
  where
    of : (b : Bool) (parts : List (List ℕ)) → 0 < length parts → cond b ([] ∷ longer parts first more) (onto_first x (longer parts first more)) ≡ longer (cond b ([] ∷ parts) (onto_first x parts)) first more
    of b [] l = absurd (omega arith)
    of true (part ∷ parts) l = refl
    of false (part ∷ []) l = refl
    of false (part ∷ next ∷ parts) l = refl

longer_at : (before : List (List ℕ)) (line : List ℕ) (after : List (List ℕ)) (first : List ℕ) (more : List (List ℕ)) → longer (before ++ line ∷ after) first more ≡ before ++ longer (line ∷ after) first more
longer_at [] line after first more = refl
longer_at (b ∷ []) line after first more = refl
longer_at (b ∷ c ∷ before) line after first more = ap (λ ls. b ∷ ls) (longer_at (c ∷ before) line after first more)

first_part : (p : ℕ → Bool) (ys : List ℕ) → (first : List ℕ) × (more : List (List ℕ)) × (slice_split p ys ≡ first ∷ more)
first_part p ys = of (slice_split p ys) refl
  where
    of : (parts : List (List ℕ)) → slice_split p ys ≡ parts → (first : List ℕ) × (more : List (List ℕ)) × (slice_split p ys ≡ first ∷ more)
    of [] e = absurd (omega (arith, length-slice_split p ys, ap length e))
    of (first ∷ more) e = (first, more, e)

-- the lines of a text that goes on, where it is cut at one of them
longer_lines : (text more line first : List ℕ) (before after rest : List (List ℕ)) → slice_split is_newline more ≡ first ∷ rest → lines_of text ≡ before ++ line ∷ after → lines_of (text ++ more) ≡ before ++ longer (line ∷ after) first rest
unfolding lines_of
longer_lines text more line first before after rest cut e =
    split_longer is_newline text more first rest cut ∙ ap (λ ls. longer ls first rest) e ∙ longer_at before line after first rest

width_lines : (text : List ℕ) → width (lines_of text) ≡ length text + 1
unfolding lines_of
width_lines text = width_split text

module _ (text more : List ℕ) (place : ℕ) (long : LONGEST_SCRIPT < length text) where
  still_within : (before : List (List ℕ)) → (length text ≤ LONGEST_SCRIPT) ⊎ (width before ≤ LONGEST_SCRIPT) → width before ≤ LONGEST_SCRIPT
  still_within before (inl short) = absurd (omega (arith, short, long))
  still_within before (inr within) = within

  -- the last line doesn't end within the longest script
  not_last : (before : List (List ℕ)) (line : List ℕ) → lines_of text ≡ before ++ line ∷ [] → EndsWithin text before line → ⊥
  not_last before line e (inl short) = omega (arith, short, long)
  not_last before line e (inr within) = omega (arith, within, long, width_lines text, ap width e, sum_by-append (λ l. length l + 1) before (line ∷ []), width_cons line [])

  bad_by : (before after : List (List ℕ)) (line : List ℕ) (stops : StopsIn text before line) → stops.after ≡ after → Cause text before line place → BadAt (text ++ more) place
  bad_by before [] line stops e (inl x) = absurd (not_last before line (stops.lines ∙ ap (λ ls. before ++ line ∷ ls) e) x.0)
  bad_by before [] line stops e (inr x) =
      let (first, rest, cut) = first_part is_newline more in
      record {
        before = before;
        line = line ++ first;
        stops = record {
          after = rest;
          plays = stops.plays;
          lines = longer_lines text more line first before [] rest cut (stops.lines ∙ ap (λ ls. before ++ line ∷ ls) e);
          say = stops.say;
          within = inr (still_within before stops.within);
        };
        cause = inr ((omega (arith, x.0.0, length-append text more), omega (arith, x.0.1, length-append line first)), x.1);
      }
  bad_by before (next ∷ after) line stops e x =
      let (first, rest, cut) = first_part is_newline more in
      record {
        before = before;
        line = line;
        stops = record {
          after = longer (next ∷ after) first rest;
          plays = stops.plays;
          lines = longer_lines text more line first before (next ∷ after) rest cut (stops.lines ∙ ap (λ ls. before ++ line ∷ ls) e);
          say = stops.say;
          within = inr (still_within before stops.within);
        };
        cause = of x;
      }
    where
      of : Cause text before line place → Cause (text ++ more) before line place
      of (inl y) = inl (within y.0, y.1, y.2)
        where
          within : EndsWithin text before line → EndsWithin (text ++ more) before line
          within (inl short) = absurd (omega (arith, short, long))
          within (inr l) = inr l
      of (inr y) = inr ((omega (arith, y.0.0, length-append text more), y.0.1), y.1)

pub stays_bad : StaysBad
stays_bad text more place long b = bad_by text more place long b.before b.stops.after b.line b.stops refl b.cause
