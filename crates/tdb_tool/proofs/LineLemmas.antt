-- A line that is put together from the bytes up to its newline.
use Rattle.std.proofs.Common.{◌≡◌, ℕ, zero, suc, ◌+◌, ◌-◌, ◌<◌, ◌≤◌, true, false, Bool, List, [], ◌∷◌, ◌++◌, length, get_or, take, drop, take-append-drop, None, Some, refl, sym, ◌∙◌, ap, subst, inl, inr, arith, length-append, if◌then◌else◌, Option}
use Rattle.std.specs.Prelude.{position, IsTrue, MatchOption}
use Rattle.std.specs.List.{All, slice_split, onto_first}
use Rattle.std.proofs.lemmas.List.{append_assoc, append-nil, drop_more, drop-drop, drop-take, get_or-take, get_or_at, length-take}
use Rattle.std.proofs.lemmas.List.Elements.{All-append}
use Rattle.std.proofs.lemmas.List.Splits.{slice_split_at, slice_split_none, slice_split-cons_yes, slice_split-cons_no}
use Rattle.std.proofs.lemmas.List.Sums.{fails_before_first, passes_at_first}
use Rattle.std.proofs.lemmas.Bool.Decides.{nat_tests}
use Rattle.tdb_script.specs.Lines.{is_newline, lines_of}
use Rattle.tdb_script.proofs.CutLemmas.{found_place, found_inside, not_found}
use Rattle.tdb_tool.specs.declared.limits.TheConstants.{LONGEST_LINE}
use Rattle.tdb_tool.specs.declared.asking.Asked.{Asked}
use Rattle.tdb_tool.specs.declared.asking.Asked.TheVariants as Asks
use Rattle.tdb_tool.specs.declared.fault.SessionEnd.TheVariants.{Ended, Malformed}
use Rattle.tdb_tool.specs.Asked.{LineIs, NextIs}
use Rattle.tdb_tool.specs.Asking.{Fits, EndsBefore}
use Rattle.tdb_tool.specs.declared.reader.LineReader.{LineReader}
use Rattle.tdb_tool.specs.Lines.{IsBare, NeedsNoMore, FirstLine, unread}

-- a reader that needs no more for its next line isn't at the end of bytes without a newline
pub no_line : (r : LineReader) → NeedsNoMore r → r.over ≡ false → IsBare (unread r) → ⊥
no_line r (inl over) more bare = cc (sym over ∙ more)
no_line r (inr (front, rest, e)) more bare =
    let whole = subst IsBare e bare in
    let is : is_newline 10 ≡ false = ap is_newline (sym (get_or_at front 10 rest 0 (length front) refl)) ∙ whole (length front) 0 (omega (arith, length-append front (10 ∷ rest))) in cc is

-- a line goes on with the bytes at hand, and then with what was read
pub gone_on : (text line new hand left read rest : List ℕ) → text ≡ line ++ (hand ++ left) → new ≡ line ++ hand → left ≡ read ++ rest → text ≡ new ++ (read ++ rest)
gone_on text line new hand left read rest e is goes =
    e ∙ sym (append_assoc line hand left) ∙ ap (λ l. l ++ left) (sym is) ∙ ap (λ t. new ++ t) goes

pub still_bare : (line new hand : List ℕ) → IsBare line → IsBare hand → new ≡ line ++ hand → IsBare new
still_bare line new hand so too is = subst IsBare (sym is) (All-append (λ b. is_newline b ≡ false) line hand so too)

-- where no newline was found there is none
pub bare_whole : (bytes : List ℕ) → position is_newline bytes ≡ None → IsBare bytes
bare_whole bytes e k d l = fails_before_first is_newline bytes k d (let far = not_found is_newline bytes e in omega (arith, far, l))

-- and there is none before the first that was found
pub bare_front : (bytes : List ℕ) (end : ℕ) → position is_newline bytes ≡ Some end → IsBare (take end bytes)
bare_front bytes end e k d l =
    let place = found_place is_newline bytes end e in
    let inside : k < end = omega (arith, l, length-take end bytes) in
    ap is_newline (get_or-take end bytes k d inside) ∙ fails_before_first is_newline bytes k d (omega (arith, inside, place))

newline : (b : ℕ) → is_newline b ≡ true → b ≡ 10
newline b e = grind (arith, nat_tests)

pub cut_found : (bytes : List ℕ) (end : ℕ) → position is_newline bytes ≡ Some end → bytes ≡ take end bytes ++ 10 ∷ drop (end + 1) bytes
cut_found bytes end e =
    let place = found_place is_newline bytes end e in
    let inside = found_inside is_newline bytes end e in
    let is : get_or bytes end 0 ≡ 10 = newline (get_or bytes end 0) (subst (λ n. is_newline (get_or bytes n 0) ≡ true) place (passes_at_first is_newline bytes 0 (omega (arith, inside, place)))) in
    sym (take-append-drop end bytes) ∙ ap (λ ds. take end bytes ++ ds) (drop_more bytes end 0 inside ∙ ap (λ b. b ∷ drop (end + 1) bytes) is)

-- what is behind a place of a part
pub part_behind : (piece : List ℕ) (start end n : ℕ) → n ≤ end - start → drop n (take (end - start) (drop start piece)) ≡ take (end - (start + n)) (drop (start + n) piece)
part_behind piece start end n l =
    ap (λ m. drop n (take m (drop start piece))) (let e : end - start ≡ n + (end - (start + n)) = omega (arith, l) in e)
    ∙ drop-take n (end - (start + n)) (drop start piece) ∙ ap (take (end - (start + n))) (drop-drop n start piece)

pub moved : (slice piece before after : List ℕ) (start end at : ℕ) → slice ≡ take (end - start) (drop start piece) → position is_newline slice ≡ Some at → after ≡ before ++ take at slice
    → (front : List ℕ) × IsBare front × (take (end - start) (drop start piece) ≡ front ++ 10 ∷ take (end - (start + (at + 1))) (drop (start + (at + 1)) piece)) × (after ≡ before ++ front)
moved slice piece before after start end at same e is =
    let inside : at < length slice = found_inside is_newline slice at e in
    let fits : at + 1 ≤ end - start = omega (arith, inside, ap length same, length-take (end - start) (drop start piece)) in
    (take at slice, bare_front slice at e, sym same ∙ cut_found slice at e ∙ ap (λ r. take at slice ++ 10 ∷ r) (ap (drop (at + 1)) same ∙ part_behind piece start end (at + 1) fits), is)

pub moved_all : (slice hand before after : List ℕ) (start end : ℕ) → slice ≡ hand → position is_newline slice ≡ None → after ≡ before ++ slice → start ≡ end → IsBare hand × (after ≡ before ++ hand) × (start ≡ end)
moved_all slice hand before after start end same e is done = (subst IsBare same (bare_whole slice e), is ∙ ap (λ t. before ++ t) same, done)

-- bytes that are all used
pub used : (piece : List ℕ) (start end : ℕ) → start ≡ end → take (end - start) (drop start piece) ≡ []
used piece start end e = ap (λ n. take n (drop start piece)) (let none : end - start ≡ 0 = omega (arith, e) in none)

-- the first line of a text, which ends at a newline or with the text; or goes on
line_ended : (line rest : List ℕ) → IsBare line → lines_of (line ++ 10 ∷ rest) ≡ line ∷ lines_of rest
unfolding lines_of
line_ended line rest bare = slice_split_at is_newline line 10 rest bare refl

line_alone : (line : List ℕ) → IsBare line → lines_of line ≡ line ∷ []
unfolding lines_of
line_alone line bare = slice_split_none is_newline line bare

some_line : (p : ℕ → Bool) (text : List ℕ) → (first : List ℕ) × (others : List (List ℕ)) × (slice_split p text ≡ first ∷ others)
some_line p [] = ([], [], refl)
some_line p (b ∷ text) = of (p b) refl (some_line p text)
  where
    of : (t : Bool) → p b ≡ t → (first : List ℕ) × (others : List (List ℕ)) × (slice_split p text ≡ first ∷ others) → (first : List ℕ) × (others : List (List ℕ)) × (slice_split p (b ∷ text) ≡ first ∷ others)
    of true e r = ([], slice_split p text, slice_split-cons_yes p b text e)
    of false e r = (b ∷ r.0, r.1, slice_split-cons_no p b text e ∙ ap (onto_first b) r.2)

part_line : (p : ℕ → Bool) (line rest : List ℕ) → All (λ b. p b ≡ false) line → (more : List ℕ) × (others : List (List ℕ)) × (slice_split p (line ++ rest) ≡ (line ++ more) ∷ others)
part_line p [] rest bare = some_line p rest
part_line p (b ∷ line) rest bare =
    let r = part_line p line rest (λ k d l. bare (suc k) d (omega (arith, l))) in
    (r.0, r.1, slice_split-cons_no p b (line ++ rest) (bare zero 0 (omega arith)) ∙ ap (onto_first b) r.2)

-- the line is read to its newline
pub first_ended : (text line before front rest : List ℕ) → text ≡ before ++ (front ++ 10 ∷ rest) → IsBare before → IsBare front → line ≡ before ++ front → FirstLine text line (lines_of rest)
first_ended text line before front rest e bare more is =
    inl (ap lines_of (e ∙ sym (append_assoc before front (10 ∷ rest)) ∙ ap (λ l. l ++ 10 ∷ rest) (sym is)) ∙ line_ended line rest (subst IsBare (sym is) (All-append (λ b. is_newline b ≡ false) before front bare more)))

-- it is read to the end of the text
pub first_alone : (text line before front : List ℕ) → text ≡ before ++ front → IsBare before → IsBare front → line ≡ before ++ front → FirstLine text line []
first_alone text line before front e bare more is =
    inl (ap lines_of (e ∙ sym is) ∙ line_alone line (subst IsBare (sym is) (All-append (λ b. is_newline b ≡ false) before front bare more)))

-- it is read so far that it is too long
pub first_long : (text line rest : List ℕ) (others : List (List ℕ)) → text ≡ line ++ rest → IsBare line → LONGEST_LINE < length line → FirstLine text line others
unfolding lines_of
first_long text line rest others e bare long =
    let r = part_line is_newline line rest bare in inr (long, r.0, r.1, ap (slice_split is_newline) e ∙ r.2)

-- what a reader has read of a line
pub read_ended : (text before after hand rest left : List ℕ) (over : Bool) → text ≡ before ++ (hand ++ left) → IsBare before → ((front : List ℕ) × IsBare front × (hand ≡ front ++ 10 ∷ rest) × (after ≡ before ++ front)) → over ≡ false
    → FirstLine text after (if over then [] else lines_of (rest ++ left))
read_ended text before after hand rest left over e bare m more =
    subst (λ o. FirstLine text after (if o then [] else lines_of (rest ++ left))) (sym more)
    (first_ended text after before m.0 (rest ++ left) (e ∙ ap (λ t. before ++ t) (ap (λ h. h ++ left) m.2 ∙ append_assoc m.0 (10 ∷ rest) left)) bare m.1 m.3)

pub read_last : (text before after hand left more last : List ℕ) → text ≡ before ++ (hand ++ left) → IsBare before → IsBare hand → after ≡ before ++ hand → left ≡ more ++ last → more ≡ [] → last ≡ [] → FirstLine text after []
read_last text before after hand left more last e bare front is split none end =
    first_alone text after before hand (e ∙ ap (λ t. before ++ t) (ap (λ l. hand ++ l) (split ∙ ap (λ m. m ++ last) none ∙ end) ∙ append-nil hand)) bare front is

-- a line that doesn't fit
pub unfit : (text line : List ℕ) (rest : List (List ℕ)) (at place : ℕ) (over : Bool) → over ≡ false → FirstLine text line rest → place ≡ at → (Fits place line → ⊥)
    → (x : List ℕ) × (others : List (List ℕ)) × ((if over then [] else lines_of text) ≡ x ∷ others) × (Fits at x → ⊥)
unfit text line rest at place over more first same wrong =
    subst (λ o. (x : List ℕ) × (others : List (List ℕ)) × ((if o then [] else lines_of text) ≡ x ∷ others) × (Fits at x → ⊥)) (sym more) (of first)
  where
    of : FirstLine text line rest → (x : List ℕ) × (others : List (List ℕ)) × (lines_of text ≡ x ∷ others) × (Fits at x → ⊥)
    of (inl e) = (line, rest, e, λ fits. wrong (subst (λ n. Fits n line) (sym same) fits))
    of (inr (long, tail, others, e)) = (line ++ tail, others, e, λ fits. (let short = fits.short in omega (arith, long, short, length-append line tail)))

-- what holds by the one that there is
pub matched : {X : Type 0} (P : Type 0) (Q : X → Type 0) (o : Option X) (x : X) → o ≡ Some x → MatchOption o P Q → Q x
matched P Q o x e m = subst (λ z. MatchOption z P Q) e m

-- what the first of some lines asks for is what is next of them
pub next_is : (tells : Bool) (at : ℕ) (old : List (List ℕ)) (line : List ℕ) (next : ℕ) (new : List (List ℕ)) (asked : Asked) → (IsTrue tells → old ≡ line ∷ new) → next ≡ at + length line + 1 → LineIs at line asked
    → NextIs tells at old asked next new
next_is tells at old line next new Asks.Nothing first is L = (line, first, is, L)
next_is tells at old line next new (Asks.Order order) first is L = (line, first, is, L)
next_is tells at old line next new (Asks.End Ended) first is L = λ told. subst (λ ls. EndsBefore at ls Ended) (sym (first told)) L
next_is tells at old line next new (Asks.End (Malformed place)) first is L = λ told. subst (λ ls. EndsBefore at ls (Malformed place)) (sym (first told)) L
