-- How far entries were given back.
use Rattle.std.proofs.Common.{◌≡◌, ℕ, ◌+◌, ◌-◌, ◌<◌, ◌≤◌, Bool, true, false, Some, None, List, ◌∷◌, length, drop, slice_index, refl, sym, ◌∙◌, ap, subst, inl, inr, arith}
use Rattle.std.specs.Prelude.{nat_lt, if◌then◌else◌}
use Rattle.std.proofs.lemmas.Bool.{cases_Bool, and_from, and_left, and_right, not_from_true, le-ltb, lt-ltb}
use Rattle.std.proofs.lemmas.List.{get_or-take, get_or-drop}
use Rattle.tdb_words.specs.declared.word.Order.{Order}
use Rattle.tdb_words.specs.declared.what.What.TheVariants.{UndoBad}
use Rattle.tdb_words.specs.Word.{word}
use Rattle.tdb_words.proofs.Words.{word_agrees}
use Rattle.tdb_space.specs.Opening.{Entry, entry_at, covers, last_covering, given_back}
use Rattle.tdb_undo.specs.Torn.{Put}
use Rattle.tdb_undo.specs.Entries.{one_back}
use Rattle.tdb_undo.proofs.Lies.{lies, lies_where}
use Rattle.tdb_undo.proofs.Rest.{rest, rest_next, rest_none, enough, one_then}
use Rattle.tdb_mend.specs.declared.area.UndoArea.{UndoArea}
use Rattle.tdb_mend.specs.Giving.{content_end_of, entries_of, may_give, gives, GivenBack}
use Rattle.tdb_mend.specs.WideUndo.{unparsed}

-- How far the entries of an undo area were given back to an image: those from this place on are still to come, and
-- those before it are parsed. What they give back of the bytes that may be given is what all of them give back of the
-- first image.
pub record Giving (o : Order) (a : UndoArea) (first : List ℕ) (place : ℕ) (now : List ℕ) : Type 0 where
  pub parsed : unparsed (content_end_of a) (entries_of o first a) ≡ unparsed (content_end_of a) (rest o first place (content_end_of a))
  pub size : length now ≡ length first
  pub others : (i : ℕ) → may_give a i ≡ false → slice_index now i ≡ slice_index first i
  pub given : (i : ℕ) → may_give a i ≡ true
      → given_back (last_covering (rest o first place (content_end_of a)) i) i (slice_index now i) ≡ given_back (last_covering (entries_of o first a) i) i (slice_index first i)

all_of : (o : Order) (a : UndoArea) (first : List ℕ) → entries_of o first a ≡ rest o first (a.at + 24) (content_end_of a)
all_of o a first = enough o first a.header.data_len (content_end_of a) (a.at + 24) (content_end_of a) (omega arith) (omega arith)

pub giving_none : (o : Order) (a : UndoArea) (first : List ℕ) → Giving o a first (a.at + 24) first
giving_none o a first = record {
  parsed = ap (unparsed (content_end_of a)) (all_of o a first);
  size = refl;
  others = λ i _. refl;
  given = λ i _. ap (λ es. given_back (last_covering es i) i (slice_index first i)) (sym (all_of o a first));
}

-- a byte of the area isn't given back
in_area : (a : UndoArea) (i : ℕ) → a.at ≤ i → i < a.at + 24 + a.header.rec_len → may_give a i ≡ false
in_area a i low high = and_right (nat_lt i a.header.key_len) _ (not_from_true _ (lies a.at (24 + a.header.rec_len) i low (omega (arith, high))))

module _ (o : Order) (a : UndoArea) (first now : List ℕ) (place : ℕ) (g : Giving o a first place now) (fits : a.header.data_len ≤ a.header.rec_len) (above : a.at + 24 ≤ place) where
  -- so the words of an entry read as at first
  pub word_same : (at : ℕ) → place ≤ at → at + 4 ≤ content_end_of a → word o now at ≡ word o first at
  word_same at from to = word_agrees o now first at (λ i low high. g.others i (in_area a i (omega (arith, low, from, above)) (omega (arith, high, to, fits))))

  -- one entry more, by its two words
  module _ (off len : ℕ) (low : place + 8 < content_end_of a) (is_off : off ≡ word o first place) (is_len : len ≡ word o first (place + 4)) where
    abbrev es : List Entry
    es = rest o first (place + 8 + word o first (place + 4)) (content_end_of a)

    next : rest o first place (content_end_of a) ≡ entry_at o first place ∷ es
    next = rest_next o first place (content_end_of a) low

    -- it passes the end
    pub given_bad : content_end_of a < place + 8 + len → unparsed (content_end_of a) (entries_of o first a) ≡ Some (UndoBad, place)
    given_bad past =
        let over : content_end_of a < place + 8 + word o first (place + 4) = omega (arith, past, is_len) in
        g.parsed ∙ ap (unparsed (content_end_of a)) next ∙ rw (lt-ltb (content_end_of a) (place + 8 + word o first (place + 4)) over) refl

    -- it doesn't
    module _ (after : List ℕ) (within : place + 8 + len ≤ content_end_of a) (put : Put (gives a off len) (λ i. slice_index now (place + 8 + (i - off))) now after) where
      parsed_on : unparsed (content_end_of a) (rest o first place (content_end_of a)) ≡ unparsed (content_end_of a) es
      parsed_on =
          let under : place + 8 + word o first (place + 4) ≤ content_end_of a = omega (arith, within, is_len) in
          ap (unparsed (content_end_of a)) next ∙ rw (le-ltb (content_end_of a) (place + 8 + word o first (place + 4)) under) refl

      putting : Put (gives a (word o first place) (word o first (place + 4))) (λ i. slice_index now (place + 8 + (i - word o first place))) now after
      putting =
          subst (λ n. Put (gives a (word o first place) n) (λ i. slice_index now (place + 8 + (i - word o first place))) now after) is_len
          (subst (λ n. Put (gives a n len) (λ i. slice_index now (place + 8 + (i - n))) now after) is_off put)

      kept : (i : ℕ) → word o first place ≤ i → i < word o first place + word o first (place + 4) → slice_index now (place + 8 + (i - word o first place)) ≡ slice_index (entry_at o first place).olds (i - word o first place)
      kept i from to =
          g.others (place + 8 + (i - word o first place)) (in_area a (place + 8 + (i - word o first place)) (omega (arith, above)) (omega (arith, above, from, to, within, is_len, fits)))
          ∙ sym (get_or-drop (place + 8) first (i - word o first place) 0)
          ∙ sym (get_or-take (word o first (place + 4)) (drop (place + 8) first) (i - word o first place) 0 (omega (arith, from, to)))

      -- a byte that may be given holds what it gives back
      back : (i : ℕ) → may_give a i ≡ true → slice_index after i ≡ one_back (entry_at o first place) i (slice_index now i)
      back i may = go (covers i (entry_at o first place)) refl
        where
          go : (b : Bool) → covers i (entry_at o first place) ≡ b → slice_index after i ≡ one_back (entry_at o first place) i (slice_index now i)
          go true is = let w = lies_where (word o first place) (word o first (place + 4)) i is in putting.inside i (and_from _ _ is may) ∙ kept i w.0 w.1 ∙ rw is refl
          go false is = putting.others i (and_left _ _ is) ∙ rw is refl

      more : Giving o a first (place + 8 + word o first (place + 4)) after
      more = record {
        parsed = g.parsed ∙ parsed_on;
        size = putting.size ∙ g.size;
        others = λ i out. putting.others i (and_right _ _ out) ∙ g.others i out;
        given = λ i may.
            ap (given_back (last_covering es i) i) (back i may)
            ∙ sym (one_then (entry_at o first place) es i (slice_index now i))
            ∙ ap (λ l. given_back (last_covering l i) i (slice_index now i)) (sym next)
            ∙ g.given i may;
      }

      pub giving_more : Giving o a first (place + 8 + len) after
      giving_more = subst (λ n. Giving o a first (place + 8 + n) after) (sym is_len) more

-- there is no further entry
pub giving_all : (o : Order) (a : UndoArea) (first now : List ℕ) (place : ℕ) → Giving o a first place now → content_end_of a ≤ place + 8
    → (unparsed (content_end_of a) (entries_of o first a) ≡ None) × GivenBack a (entries_of o first a) first now
giving_all o a first now place g high = (
  g.parsed ∙ ap (unparsed (content_end_of a)) (rest_none o first place (content_end_of a) high),
  record {
    size = g.size;
    each = λ i. elim (cases_Bool (may_give a i)) [
      | inl may ↦ whole i may
      | inr closed ↦ left i closed
    ];
  },
)
  where
    whole : (i : ℕ) → may_give a i ≡ true → slice_index now i ≡ (if may_give a i then given_back (last_covering (entries_of o first a) i) i (slice_index first i) else slice_index first i)
    whole i may =
        let all : slice_index now i ≡ given_back (last_covering (entries_of o first a) i) i (slice_index first i) =
        ap (λ l. given_back (last_covering l i) i (slice_index now i)) (sym (rest_none o first place (content_end_of a) high)) ∙ g.given i may in
        rw may all

    left : (i : ℕ) → may_give a i ≡ false → slice_index now i ≡ (if may_give a i then given_back (last_covering (entries_of o first a) i) i (slice_index first i) else slice_index first i)
    left i closed = rw closed (g.others i closed)
