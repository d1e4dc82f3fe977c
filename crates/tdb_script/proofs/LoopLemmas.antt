-- A script that is read line by line.
use Rattle.std.proofs.Common.{◌≡◌, ℕ, ◌+◌, ◌<◌, ◌≤◌, false, List, [], ◌∷◌, ◌++◌, length, refl, sym, ap, ◌∙◌, subst, Option, Some, None, inl, inr, arith, Bor, ◌⊎◌}
use Rattle.std.proofs.lemmas.List.{append_assoc}
use Rattle.std.proofs.lemmas.List.Sums.{sum_by-append, sum_by-cons}
use Rattle.std.specs.Option.{option_map_or}
use Rattle.tdb_commands.specs.declared.play.Play.{Play}
use Rattle.tdb_script.specs.declared.limits.TheConstants.{LONGEST_SCRIPT}
use Rattle.tdb_script.specs.Lines.{lines_of, words_of, width}
use Rattle.tdb_script.specs.Script.{is_skipped, Says, SaysNothing, LinesSay, with_said, Script, StopsIn, StarvesIn, EndsWithin, BadAt}
use Rattle.tdb_script.proofs.ReadLemmas.{say_more}

-- the lines that are left
abbrev pub left_lines : Option (Bor (List ℕ)) → List (List ℕ)
left_lines left = option_map_or (λ rest. lines_of rest.now) left []

-- the place behind the text, as if its last line had a newline
abbrev pub reach_of : ℕ → Option (Bor (List ℕ)) → ℕ
reach_of at left = option_map_or (λ rest. at + length rest.now + 1) left at

-- The plays are those of the lines before a place, and the others are left. Where the text is too long, these lines end
-- within the longest script.
pub record Reading (text : List ℕ) (plays : List Play) (at : ℕ) (left : Option (Bor (List ℕ))) : Type 0 where
  pub before : List (List ℕ)
  pub lines : lines_of text ≡ before ++ left_lines left
  pub say : LinesSay before plays
  pub place : at ≡ width before
  pub reach : reach_of at left ≡ length text + 1
  pub short : (length text ≤ LONGEST_SCRIPT) ⊎ (at ≤ LONGEST_SCRIPT)

-- nothing is read yet
pub begun : (text : Bor (List ℕ)) → Reading text.now [] 0 (Some text)
begun text = record { before = []; lines = refl; say = refl; place = refl; reach = omega arith; short = inr (omega arith) }

width-more : (before : List (List ℕ)) (line : List ℕ) → width (before ++ line ∷ []) ≡ width before + length line + 1
width-more before line = omega (arith, sum_by-append (λ l. length l + 1) before (line ∷ []), sum_by-cons (λ l. length l + 1) line [])

reach-more : (at end len : ℕ) (line : List ℕ) (rest : Bor (List ℕ)) (more : Option (Bor (List ℕ))) → at + length rest.now + 1 ≡ len + 1 → length rest.now ≡ length line + option_map_or (λ r. 1 + length r.now) more 0 → end ≡ at + length line → reach_of (end + 1) more ≡ len + 1
reach-more at end len line rest None r l e = omega arith
reach-more at end len line rest (Some next) r l e = omega arith

within_more : (text : List ℕ) (end : ℕ) → (length text ≤ LONGEST_SCRIPT) ⊎ (end < LONGEST_SCRIPT) → (length text ≤ LONGEST_SCRIPT) ⊎ (end + 1 ≤ LONGEST_SCRIPT)
within_more text end (inl l) = inl l
within_more text end (inr l) = inr (omega arith)

-- one more line was read
pub read_more : (text : List ℕ) (plays : List Play) (at end : ℕ) (rest : Bor (List ℕ)) (line : List ℕ) (more : Option (Bor (List ℕ))) (said : Option Play)
    → Reading text plays at (Some rest) → lines_of rest.now ≡ line ∷ left_lines more → length rest.now ≡ length line + option_map_or (λ r. 1 + length r.now) more 0
    → Says (words_of line) said → end ≡ at + length line → (length text ≤ LONGEST_SCRIPT) ⊎ (end < LONGEST_SCRIPT)
    → Reading text (plays ++ with_said said []) (end + 1) more
read_more text plays at end rest line more said g cut len says e within = record {
  before = g.before ++ line ∷ [];
  lines = g.lines ∙ ap (λ ls. g.before ++ ls) cut ∙ sym (append_assoc g.before (line ∷ []) (left_lines more));
  say = say_more g.before line plays said g.say says;
  place = omega (arith, width-more g.before line, g.place);
  reach = reach-more at end (length text) line rest more g.reach len e;
  short = within_more text end within;
}

fits_by : (text : List ℕ) (at : ℕ) → (length text ≤ LONGEST_SCRIPT) ⊎ (at ≤ LONGEST_SCRIPT) → at ≡ length text + 1 → length text ≤ LONGEST_SCRIPT
fits_by text at (inl l) e = l
fits_by text at (inr l) e = omega arith

append_nothing : {A : Type 0} (xs : List A) → xs ++ [] ≡ xs
append_nothing [] = refl
append_nothing (x ∷ xs) = ap (λ l. x ∷ l) (append_nothing xs)

-- every line was read
pub read_all : (text : List ℕ) (plays : List Play) (at : ℕ) → Reading text plays at None → Script text plays
read_all text plays at g = record {
  fits = fits_by text at g.short g.reach;
  says = subst (λ ls. LinesSay ls plays) (sym (g.lines ∙ append_nothing g.before)) g.say;
}

within_before : (text : List ℕ) (at w : ℕ) → at ≡ w → (length text ≤ LONGEST_SCRIPT) ⊎ (at ≤ LONGEST_SCRIPT) → (length text ≤ LONGEST_SCRIPT) ⊎ (w ≤ LONGEST_SCRIPT)
within_before text at w e (inl l) = inl l
within_before text at w e (inr l) = inr (omega arith)

stops : (text : List ℕ) (plays : List Play) (at : ℕ) (rest : Bor (List ℕ)) (line : List ℕ) (more : Option (Bor (List ℕ))) (g : Reading text plays at (Some rest)) → lines_of rest.now ≡ line ∷ left_lines more → StopsIn text g.before line
stops text plays at rest line more g cut = record {
  after = left_lines more;
  plays = plays;
  lines = g.lines ∙ ap (λ ls. g.before ++ ls) cut;
  say = g.say;
  within = within_before text at (width g.before) g.place g.short;
}

ends_within : (text line : List ℕ) (before : List (List ℕ)) (at end : ℕ) → at ≡ width before → end ≡ at + length line → (length text ≤ LONGEST_SCRIPT) ⊎ (end < LONGEST_SCRIPT) → EndsWithin text before line
ends_within text line before at end e f (inl l) = inl l
ends_within text line before at end e f (inr l) = inr (omega arith)

-- a line says nothing that a script may say
pub read_bad : (text : List ℕ) (plays : List Play) (at end : ℕ) (rest : Bor (List ℕ)) (line : List ℕ) (more : Option (Bor (List ℕ)))
    → Reading text plays at (Some rest) → lines_of rest.now ≡ line ∷ left_lines more → SaysNothing (words_of line)
    → end ≡ at + length line → (length text ≤ LONGEST_SCRIPT) ⊎ (end < LONGEST_SCRIPT) → BadAt text at
read_bad text plays at end rest line more g cut none e within = record {
  before = g.before;
  line = line;
  stops = stops text plays at rest line more g cut;
  cause = inl (ends_within text line g.before at end g.place e within, none, g.place);
}

-- memory is wanting for a line that isn't skipped
pub read_starved : (text : List ℕ) (plays : List Play) (at end : ℕ) (rest : Bor (List ℕ)) (line : List ℕ) (more : Option (Bor (List ℕ)))
    → Reading text plays at (Some rest) → lines_of rest.now ≡ line ∷ left_lines more → is_skipped (words_of line) ≡ false
    → end ≡ at + length line → (length text ≤ LONGEST_SCRIPT) ⊎ (end < LONGEST_SCRIPT) → (before : List (List ℕ)) × (last : List ℕ) × StarvesIn text before last
read_starved text plays at end rest line more g cut counts e within = (
  g.before,
  line,
  record {
    stops = stops text plays at rest line more g cut;
    within = ends_within text line g.before at end g.place e within;
    counts = counts;
  },
)

-- the longest script ends in a line
pub read_long : (text : List ℕ) (plays : List Play) (at end : ℕ) (rest : Bor (List ℕ)) (line : List ℕ) (more : Option (Bor (List ℕ)))
    → Reading text plays at (Some rest) → lines_of rest.now ≡ line ∷ left_lines more → LONGEST_SCRIPT < length text → end ≡ at + length line → LONGEST_SCRIPT ≤ end
    → BadAt text LONGEST_SCRIPT
read_long text plays at end rest line more g cut long e past = record {
  before = g.before;
  line = line;
  stops = stops text plays at rest line more g cut;
  cause = inr ((long, omega (arith, g.place)), refl);
}

-- the place behind a line is within the text
pub ends_in : (text : List ℕ) (plays : List Play) (at : ℕ) (rest : Bor (List ℕ)) (line : List ℕ) (more : Option (Bor (List ℕ)))
    → Reading text plays at (Some rest) → length rest.now ≡ length line + option_map_or (λ r. 1 + length r.now) more 0 → at + length line ≤ length text
ends_in text plays at rest line more g len = let reach = g.reach in omega (arith, reach, len)
