-- A text is one script at most, and has one bad place at most.
use Rattle.std.proofs.Common.{◌≡◌, ℕ, ◌+◌, ◌<◌, ◌≤◌, List, [], ◌∷◌, ◌++◌, length, refl, sym, ap, ◌∙◌, subst, Option, Some, None, inl, inr, arith, ◌⊎◌, get_or, drop}
use Rattle.std.proofs.lemmas.Bool.{false≢true}
use Rattle.std.proofs.lemmas.List.Sums.{sum_by-append, sum_by-cons}
use Rattle.tdb_commands.specs.declared.play.Play.{Play}
use Rattle.tdb_script.specs.declared.limits.TheConstants.{LONGEST_SCRIPT}
use Rattle.tdb_script.specs.Lines.{lines_of, words_of, width}
use Rattle.tdb_script.specs.Rows.{row_of, bare_plays, opener_plays, command_plays}
use Rattle.tdb_script.specs.Script.{IsCommand, IsPlay, IsOpenerPlay, Says, SaysNothing, LinesSay, with_said, Script, StopsIn, EndsWithin, Crosses}
use Rattle.tdb_script.specs.Laws.{HasOneReading, HasOneBadPlace, HasNoBadPlace}
use Rattle.tdb_script.proofs.ReadLemmas.{same_some, one_command}

one_opener_play : (name : List ℕ) (who : ℕ) (words : List (List ℕ)) (play other : Play) → IsOpenerPlay name who words play → IsOpenerPlay name who words other → play ≡ other
one_opener_play name who words play other (inl x) (inl y) = same_some play other (row_of (opener_plays who) name) x.1 y.1
one_opener_play name who words play other (inl x) (inr y) = absurd (subst (λ ws. IsCommand ws y.0) x.0 y.1)
one_opener_play name who words play other (inr x) (inl y) = absurd (subst (λ ws. IsCommand ws x.0) y.0 x.1)
one_opener_play name who words play other (inr x) (inr y) =
    same_some play other (row_of (command_plays who x.0) name) x.2
    (subst (λ c. row_of (command_plays who c) name ≡ Some other) (one_command words y.0 x.0 y.1 x.1) y.2)

one_play : (words : List (List ℕ)) (play other : Play) → IsPlay words play → IsPlay words other → play ≡ other
one_play [] play other p q = absurd p
one_play (name ∷ []) play other p q = same_some play other (row_of bare_plays name) p q
one_play (name ∷ number ∷ words) play other p q =
    one_opener_play name p.0 words play other p.2 (subst (λ who. IsOpenerPlay name who words other) (q.1.value ∙ sym p.1.value) q.2)

one_said : (words : List (List ℕ)) (said other : Option Play) → Says words said → Says words other → said ≡ other
one_said words None None x y = refl
one_said words None (Some other) x y = absurd (false≢true (sym y.0 ∙ x))
one_said words (Some play) None x y = absurd (false≢true (sym x.0 ∙ y))
one_said words (Some play) (Some other) x y = ap Some (one_play words play other x.1 y.1)

one_reading : (lines : List (List ℕ)) (plays others : List Play) → LinesSay lines plays → LinesSay lines others → plays ≡ others
one_reading [] plays others p q = p ∙ sym q
one_reading (line ∷ lines) plays others p q =
    p.4 ∙ ap (λ s. with_said s p.1) (one_said (words_of line) p.0 q.0 p.2 q.2) ∙ ap (λ l. with_said q.0 l) (one_reading lines p.1 q.1 p.3 q.3) ∙ sym q.4

pub one_script : HasOneReading
one_script text plays others p q = one_reading (lines_of text) plays others p.says q.says

-- a line among those that say something says something
says_at : (before : List (List ℕ)) (line : List ℕ) (after : List (List ℕ)) (plays : List Play) → LinesSay (before ++ line ∷ after) plays → SaysNothing (words_of line) → ⊥
says_at [] line after plays p none = none p.0 p.2
says_at (first ∷ before) line after plays p none = says_at before line after p.1 p.3 none

no_cause : (text : List ℕ) (plays : List Play) (place : ℕ) → Script text plays → (before : List (List ℕ)) (line : List ℕ) → StopsIn text before line
    → (EndsWithin text before line × SaysNothing (words_of line) × (place ≡ width before)) ⊎ (Crosses text before line × (place ≡ LONGEST_SCRIPT)) → ⊥
no_cause text plays place p before line s (inl x) = says_at before line s.after plays (subst (λ ls. LinesSay ls plays) s.lines p.says) x.1
no_cause text plays place p before line s (inr x) = let fits = p.fits in let long = x.0.0 in absurd (omega (arith, fits, long))

pub no_place : HasNoBadPlace
no_place text plays place p b = no_cause text plays place p b.before b.line b.stops b.cause

-- where two lists of lines that are cut at a line are one list, they are cut at one line, or one of them further on
pub data Cut (before : List (List ℕ)) (line : List ℕ) (others : List (List ℕ)) (other : List ℕ) : Type 0 where
  same : before ≡ others → line ≡ other → Cut before line others other
  further : (mid : List (List ℕ)) → others ≡ before ++ line ∷ mid → Cut before line others other
  nearer : (mid : List (List ℕ)) → before ≡ others ++ other ∷ mid → Cut before line others other

more_cut : (first second : List ℕ) (before : List (List ℕ)) (line : List ℕ) (others : List (List ℕ)) (other : List ℕ) → first ≡ second → Cut before line others other → Cut (first ∷ before) line (second ∷ others) other
more_cut first second before line others other e (same p q) = same (ap (λ l. l ∷ before) e ∙ ap (λ ls. second ∷ ls) p) q
more_cut first second before line others other e (further mid p) = further mid (ap (λ l. l ∷ others) (sym e) ∙ ap (λ ls. first ∷ ls) p)
more_cut first second before line others other e (nearer mid p) = nearer mid (ap (λ l. l ∷ before) e ∙ ap (λ ls. second ∷ ls) p)

head_of : (l m : List ℕ) (ls ms : List (List ℕ)) → l ∷ ls ≡ m ∷ ms → l ≡ m
head_of l m ls ms e = ap (λ xs. get_or xs 0 []) e

tail_of : (l m : List ℕ) (ls ms : List (List ℕ)) → l ∷ ls ≡ m ∷ ms → ls ≡ ms
tail_of l m ls ms e = ap (λ xs. drop 1 xs) e

cut_of : (before : List (List ℕ)) (line : List ℕ) (after others : List (List ℕ)) (other : List ℕ) (rest : List (List ℕ)) → before ++ line ∷ after ≡ others ++ other ∷ rest → Cut before line others other
cut_of [] line after [] other rest e = same refl (head_of line other after rest e)
cut_of [] line after (first ∷ others) other rest e = further others (ap (λ l. l ∷ others) (sym (head_of line first after (others ++ other ∷ rest) e)))
cut_of (first ∷ before) line after [] other rest e = nearer before (ap (λ l. l ∷ before) (head_of first other (before ++ line ∷ after) rest e))
cut_of (first ∷ before) line after (second ∷ others) other rest e =
    more_cut first second before line others other (head_of first second (before ++ line ∷ after) (others ++ other ∷ rest) e)
    (cut_of before line after others other rest (tail_of first second (before ++ line ∷ after) (others ++ other ∷ rest) e))

abbrev pub Cause : List ℕ → List (List ℕ) → List ℕ → ℕ → Type 0
Cause text before line place =
    (EndsWithin text before line × SaysNothing (words_of line) × (place ≡ width before)) ⊎ (Crosses text before line × (place ≡ LONGEST_SCRIPT))

not_both : (text : List ℕ) (before : List (List ℕ)) (line : List ℕ) → EndsWithin text before line → Crosses text before line → ⊥
not_both text before line (inl l) c = let long = c.0 in absurd (omega (arith, l, long))
not_both text before line (inr l) c = let past = c.1 in absurd (omega (arith, l, past))

same_place : (text : List ℕ) (before : List (List ℕ)) (line : List ℕ) (place other : ℕ) → Cause text before line place → Cause text before line other → place ≡ other
same_place text before line place other (inl x) (inl y) = x.2 ∙ sym y.2
same_place text before line place other (inl x) (inr y) = absurd (not_both text before line x.0 y.0)
same_place text before line place other (inr x) (inl y) = absurd (not_both text before line y.0 x.0)
same_place text before line place other (inr x) (inr y) = x.1 ∙ sym y.1

past_longest : (before : List (List ℕ)) (line : List ℕ) (mid : List (List ℕ)) → width before + length line < width (before ++ line ∷ mid)
past_longest before line mid = omega (arith, sum_by-append (λ l. length l + 1) before (line ∷ mid), sum_by-cons (λ l. length l + 1) line mid)

-- a text that stops in a line doesn't stop in one further on
not_further : (text : List ℕ) (before : List (List ℕ)) (line : List ℕ) (place : ℕ) (others : List (List ℕ)) (other : List ℕ) (mid : List (List ℕ)) → Cause text before line place → StopsIn text others other → others ≡ before ++ line ∷ mid → ⊥
not_further text before line place others other mid (inl x) s e = says_at before line mid s.plays (subst (λ ls. LinesSay ls s.plays) e s.say) x.1
not_further text before line place others other mid (inr x) s e = short s.within
  where
    short : (length text ≤ LONGEST_SCRIPT) ⊎ (width others ≤ LONGEST_SCRIPT) → ⊥
    short (inl l) = let long = x.0.0 in absurd (omega (arith, l, long))
    short (inr l) = let past = x.0.1 in absurd (omega (arith, l, past, ap width e, past_longest before line mid))

places_by : (text : List ℕ) (before : List (List ℕ)) (line : List ℕ) (others : List (List ℕ)) (last : List ℕ) (place other : ℕ) → StopsIn text before line → Cause text before line place → StopsIn text others last → Cause text others last other → Cut before line others last → place ≡ other
places_by text before line others last place other s x t y (same p q) =
    same_place text before line place other x (subst (λ l. Cause text before l other) (sym q) (subst (λ ls. Cause text ls last other) (sym p) y))
places_by text before line others last place other s x t y (further mid e) = absurd (not_further text before line place others last mid x t e)
places_by text before line others last place other s x t y (nearer mid e) = absurd (not_further text others last other before line mid y s e)

pub one_place : HasOneBadPlace
one_place text place other b d =
    places_by text b.before b.line d.before d.line place other b.stops b.cause d.stops d.cause
    (cut_of b.before b.line b.stops.after d.before d.line d.stops.after (sym b.stops.lines ∙ d.stops.lines))
