-- How far entries were written back.
use Rattle.std.proofs.Common.{◌≡◌, ℕ, ◌+◌, ◌-◌, ◌<◌, ◌≤◌, ◌&&◌, ◌||◌, Bool, true, false, Option, Some, None, List, [], ◌∷◌, length, drop, slice_index, refl, sym, ◌∙◌, ap, subst, inl, inr, arith}
use Rattle.std.specs.Prelude.{nat_lt, nat_le, is_some}
use Rattle.std.specs.List.{filter, last_or}
use Rattle.std.proofs.lemmas.Bool.{cases_Bool, and_parts, and_from, and_left, and_right, not_from_true, or_parts, ltb-false}
use Rattle.std.proofs.lemmas.List.{get_or-take, get_or-drop}
use Rattle.tdb_disk.specs.History.{History}
use Rattle.tdb_disk.specs.Stop.{LeavesOnly}
use Rattle.tdb_words.specs.declared.word.Order.{Order}
use Rattle.tdb_words.specs.declared.what.What.TheVariants.{UndoBad}
use Rattle.tdb_words.specs.Word.{word}
use Rattle.tdb_space.specs.Exchange.{Agree}
use Rattle.tdb_space.specs.Opening.{Entry, entry_at, entry_fault, is_bad_entry, covers, last_covering, given_back, lies_in}
use Rattle.tdb_undo.specs.declared.area.Area.{Area}
use Rattle.tdb_undo.specs.Torn.{TornIn, Put}
use Rattle.tdb_undo.specs.Entries.{entries_stop, entries_in, one_back, is_writable, is_given, is_written, Given}
use Rattle.tdb_undo.proofs.Blocks.{wider_torn, join_torn}
use Rattle.tdb_undo.proofs.Lies.{lies, lies_where}
use Rattle.tdb_undo.proofs.Rest.{rest, rest_next, rest_none, enough, one_then}
use Rattle.tdb_undo.proofs.Gives.{stop, false_where}

-- a byte that an entry covers is covered by the entries from it on, and one that later entries cover too
covered_first : (e : Entry) (es : List Entry) (i : ℕ) → covers i e ≡ true → is_some (last_covering (e ∷ es) i) ≡ true
covered_first e es i h = rw h (some_from e (filter (covers i) es))
  where
    some_from : (e : Entry) (xs : List Entry) → is_some (last_or (Some e) xs) ≡ true
    some_from e [] = refl
    some_from e (x ∷ xs) = some_from x xs

covered_later : (e : Entry) (es : List Entry) (i : ℕ) → is_some (last_covering es i) ≡ true → is_some (last_covering (e ∷ es) i) ≡ true
covered_later e es i h = go (covers i e) refl
  where
    go : (b : Bool) → covers i e ≡ b → is_some (last_covering (e ∷ es) i) ≡ true
    go true is = covered_first e es i is
    go false is = rw is h

-- How far entries were written back to an image: those from this place on are still to come. What they give back of the
-- bytes that may be written to is what all of them give back of the first image.
pub record Giving (o : Order) (a : Area) (first : List ℕ) (start place : ℕ) (now : List ℕ) : Type 0 where
  pub no_fault : entry_fault (entries_stop a) a.header.key_len (rest o first place (entries_stop a)) ≡ None
  pub among : (i : ℕ) → is_some (last_covering (rest o first place (entries_stop a)) i) ≡ true → is_some (last_covering (rest o first start (entries_stop a)) i) ≡ true
  pub size : length now ≡ length first
  pub others : (i : ℕ) → is_writable a i ≡ false → slice_index now i ≡ slice_index first i
  pub given : (i : ℕ) → is_writable a i ≡ true
      → given_back (last_covering (rest o first place (entries_stop a)) i) i (slice_index now i) ≡ given_back (last_covering (rest o first start (entries_stop a)) i) i (slice_index first i)

pub giving_none : (o : Order) (a : Area) (first : List ℕ) (start : ℕ) → entry_fault (entries_stop a) a.header.key_len (rest o first start (entries_stop a)) ≡ None → Giving o a first start start first
giving_none o a first start good = record {
  no_fault = good;
  among = λ i covered. covered;
  size = refl;
  others = λ i _. refl;
  given = λ i _. refl;
}

-- a byte of the area isn't written to
in_area : (a : Area) (i : ℕ) → a.at ≤ i → i < stop a → is_writable a i ≡ false
in_area a i low high = and_right (nat_le 64 i) _ (not_from_true _ (lies a.at (24 + a.header.rec_len) i low (omega (arith, high))))

-- so the content reads as at first
pub content_same : (o : Order) (a : Area) (first now : List ℕ) (start place : ℕ) → a.header.data_len ≤ a.header.rec_len → a.at + 24 ≤ place
    → Giving o a first start place now → Agree first now place (entries_stop a)
content_same o a first now start place fits above g = λ i low high. g.others i (in_area a i (omega (arith, low, above)) (omega (arith, high, fits)))

-- one entry more
module _ (o : Order) (a : Area) (first now after : List ℕ) (start place : ℕ) (g : Giving o a first start place now)
    (fits : a.header.data_len ≤ a.header.rec_len) (above : a.at + 24 ≤ place) (low : place + 8 < entries_stop a) where
  abbrev e : Entry
  e = entry_at o first place

  abbrev es : List Entry
  es = rest o first (place + 8 + word o first (place + 4)) (entries_stop a)

  next : rest o first place (entries_stop a) ≡ e ∷ es
  next = rest_next o first place (entries_stop a) low

  good : entry_fault (entries_stop a) a.header.key_len (e ∷ es) ≡ None
  good = ap (entry_fault (entries_stop a) a.header.key_len) (sym next) ∙ g.no_fault

  -- it has no fault, and those behind it have none
  parts : (b : Bool) → is_bad_entry (entries_stop a) a.header.key_len e ≡ b → (b ≡ false) × (entry_fault (entries_stop a) a.header.key_len es ≡ None)
  parts true is = absurd (let h : Some (UndoBad, place) ≡ None = sym (rw is refl) ∙ good in cc)
  parts false is = (refl, sym (rw is refl) ∙ good)

  pub next_sound : is_bad_entry (entries_stop a) a.header.key_len e ≡ false
  next_sound = let p = parts (is_bad_entry (entries_stop a) a.header.key_len e) refl in p.0

  pub next_fits : (place + 8 + e.len ≤ entries_stop a) × (e.off + e.len ≤ a.header.key_len)
  next_fits = let p = or_parts _ _ next_sound in (ltb-false _ _ p.0, ltb-false _ _ p.1)

  -- what it is written to is written to by all
  pub given_written : (i : ℕ) → is_given a e.off e.len i ≡ true → is_written a (rest o first start (entries_stop a)) i ≡ true
  given_written i h =
      let p = and_parts (lies_in e.off e.len i) (is_writable a i) h in
      and_from _ _ (g.among i (rw next (covered_first e es i p.0))) p.1

  kept : (i : ℕ) → e.off ≤ i → i < e.off + e.len → slice_index now (place + 8 + (i - e.off)) ≡ slice_index e.olds (i - e.off)
  kept i from to =
      g.others (place + 8 + (i - e.off)) (in_area a (place + 8 + (i - e.off)) (omega (arith, above)) (omega (arith, above, from, to, next_fits.0, fits)))
      ∙ sym (get_or-drop (place + 8) first (i - e.off) 0)
      ∙ sym (get_or-take e.len (drop (place + 8) first) (i - e.off) 0 (omega (arith, from, to)))

  -- a byte that may be written to holds what it gives back
  back : Put (is_given a e.off e.len) (λ i. slice_index now (place + 8 + (i - e.off))) now after → (i : ℕ) → is_writable a i ≡ true → slice_index after i ≡ one_back e i (slice_index now i)
  back put i may = go (covers i e) refl
    where
      go : (b : Bool) → covers i e ≡ b → slice_index after i ≡ one_back e i (slice_index now i)
      go true is = let w = lies_where e.off e.len i is in put.inside i (and_from _ _ is may) ∙ kept i w.0 w.1 ∙ rw is refl
      go false is = put.others i (and_left _ _ is) ∙ rw is refl

  pub giving_more : Put (is_given a e.off e.len) (λ i. slice_index now (place + 8 + (i - e.off))) now after → Giving o a first start (place + 8 + word o first (place + 4)) after
  giving_more put = record {
    no_fault = let p = parts (is_bad_entry (entries_stop a) a.header.key_len e) refl in p.1;
    among = λ i covered. g.among i (rw next (covered_later e es i covered));
    size = put.size ∙ g.size;
    others = λ i out. put.others i (and_right _ _ out) ∙ g.others i out;
    given = λ i may.
        ap (given_back (last_covering es i) i) (back put i may)
        ∙ sym (one_then e es i (slice_index now i))
        ∙ ap (λ l. given_back (last_covering l i) i (slice_index now i)) (sym next)
        ∙ g.given i may;
  }

-- there is no further entry
pub giving_all : (o : Order) (a : Area) (first now : List ℕ) (start place : ℕ) → Giving o a first start place now → entries_stop a ≤ place + 8
    → Given a (rest o first start (entries_stop a)) first now
giving_all o a first now start place g high = record {
  size = g.size;
  others = λ i out. elim (cases_Bool (is_writable a i)) [
    | inr closed ↦ g.others i closed
    | inl may ↦ whole i may ∙ ap (λ e. given_back e i (slice_index first i)) (none_there (last_covering (rest o first start (entries_stop a)) i) (false_left _ _ out may))
  ];
  inside = λ i in_it. whole i (and_parts _ _ in_it).1;
}
  where
    whole : (i : ℕ) → is_writable a i ≡ true → slice_index now i ≡ given_back (last_covering (rest o first start (entries_stop a)) i) i (slice_index first i)
    whole i may = ap (λ l. given_back (last_covering l i) i (slice_index now i)) (sym (rest_none o first place (entries_stop a) high)) ∙ g.given i may

    false_left : (x y : Bool) → (x && y) ≡ false → y ≡ true → x ≡ false
    false_left true y h t = absurd (let e : true ≡ false = sym t ∙ h in cc)
    false_left false y h t = refl

    none_there : (o : Option Entry) → is_some o ≡ false → o ≡ None
    none_there None h = refl
    none_there (Some e) h = absurd (cc)

-- the same, by the two words of the entry that were read
module _ (o : Order) (a : Area) (first now : List ℕ) (place off len : ℕ) (g : Giving o a first (a.at + 24) place now)
    (fits : a.header.data_len ≤ a.header.rec_len) (above : a.at + 24 ≤ place) (low : place + 8 < entries_stop a)
    (is_off : off ≡ word o first place) (is_len : len ≡ word o first (place + 4)) where
  all_of : entries_in o first a ≡ rest o first (a.at + 24) (entries_stop a)
  all_of = enough o first a.header.data_len (entries_stop a) (a.at + 24) (entries_stop a) (omega arith) (omega arith)

  pub given_within : (i : ℕ) → is_written a (entries_in o first a) i ≡ false → is_given a off len i ≡ false
  given_within i out = false_where (is_given a off len i) (λ h. clash (is_written a (entries_in o first a) i)
      (subst (λ es. is_written a es i ≡ true) (sym all_of)
      (given_written o a first now now (a.at + 24) place g fits above low i
      (subst (λ n. is_given a (word o first place) n i ≡ true) is_len (subst (λ n. is_given a n len i ≡ true) is_off h)))) out)
    where
      clash : (b : Bool) → b ≡ true → b ≡ false → ⊥
      clash b right wrong = cc

  pub more_torn : (h mid new : History) → LeavesOnly h mid (TornIn (is_written a (entries_in o first a)) h) → LeavesOnly mid new (TornIn (is_given a off len) mid)
      → LeavesOnly h new (TornIn (is_written a (entries_in o first a)) h)
  more_torn h mid new so_far step =
      join_torn h mid new (is_written a (entries_in o first a)) so_far (wider_torn mid new (is_given a off len) (is_written a (entries_in o first a)) given_within step)

  pub giving_read : (after : List ℕ) → Put (is_given a off len) (λ i. slice_index now (place + 8 + (i - off))) now after → Giving o a first (a.at + 24) (place + 8 + len) after
  giving_read after put =
      subst (λ n. Giving o a first (a.at + 24) (place + 8 + n) after) (sym is_len)
      (giving_more o a first now after (a.at + 24) place g fits above low
      (subst (λ n. Put (is_given a (word o first place) n) (λ i. slice_index now (place + 8 + (i - word o first place))) now after) is_len
      (subst (λ n. Put (is_given a n len) (λ i. slice_index now (place + 8 + (i - n))) now after) is_off put)))

  -- it has no fault
  pub read_sound : (nat_lt (entries_stop a) (place + 8 + len) || nat_lt a.header.key_len (off + len)) ≡ false
  read_sound =
      (λ j. nat_lt (entries_stop a) (place + 8 + is_len j) || nat_lt a.header.key_len (is_off j + is_len j))
      ∙ next_sound o a first now now (a.at + 24) place g fits above low
