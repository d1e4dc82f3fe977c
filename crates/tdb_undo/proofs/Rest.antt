-- The entries of an undo area from one of them on.
use Rattle.std.proofs.Common.{◌≡◌, ℕ, zero, suc, ◌+◌, ◌<◌, ◌≤◌, Bool, true, false, Option, Some, None, List, [], ◌∷◌, refl, sym, ◌∙◌, ap, arith}
use Rattle.std.specs.Prelude.{nat_lt, slice_index, if◌then◌else◌}
use Rattle.std.specs.List.{filter, last_or}
use Rattle.std.proofs.lemmas.Bool.{lt-ltb, le-ltb}
use Rattle.tdb_words.specs.declared.word.Order.{Order}
use Rattle.tdb_words.specs.declared.what.What.TheVariants.{UndoBad}
use Rattle.tdb_words.specs.Word.{word}
use Rattle.tdb_space.specs.Opening.{Entry, entry_at, entries_from, entry_fault, is_bad_entry, covers, last_covering, given_back}
use Rattle.tdb_undo.specs.Entries.{lengths, one_back}

-- the entries from a place on; the end of the content bounds how many there are
abbrev pub rest : Order → List ℕ → ℕ → ℕ → List Entry
rest o img place end = entries_from o img end place end

-- any bound that reaches the end serves
pub enough : (o : Order) (img : List ℕ) (m n place end : ℕ) → end ≤ place + m → end ≤ place + n → entries_from o img m place end ≡ entries_from o img n place end
enough o img zero zero place end one two = refl
enough o img zero (suc n) place end one two = rw (le-ltb (place + 8) end (omega (arith, one))) refl
enough o img (suc m) zero place end one two = rw (le-ltb (place + 8) end (omega (arith, two))) refl
enough o img (suc m) (suc n) place end one two =
    ap (λ es. if nat_lt (place + 8) end then entry_at o img place ∷ es else [])
    (enough o img m n (place + 8 + word o img (place + 4)) end (omega (arith, one)) (omega (arith, two)))

-- one more entry, or none
pub rest_next : (o : Order) (img : List ℕ) (place end : ℕ) → place + 8 < end
    → rest o img place end ≡ entry_at o img place ∷ rest o img (place + 8 + word o img (place + 4)) end
rest_next o img place zero low = absurd (omega (arith, low))
rest_next o img place (suc n) low =
    rw (lt-ltb (place + 8) (suc n) low)
    (ap (λ es. entry_at o img place ∷ es) (enough o img n (suc n) (place + 8 + word o img (place + 4)) (suc n) (omega arith) (omega arith)))

pub rest_none : (o : Order) (img : List ℕ) (place end : ℕ) → end ≤ place + 8 → rest o img place end ≡ []
rest_none o img place zero high = refl
rest_none o img place (suc n) high = rw (le-ltb (place + 8) (suc n) high) refl

-- what an entry gives back before others do
last_from : (o : Option Entry) (es : List Entry) (i byte : ℕ) → given_back (last_or o es) i byte ≡ given_back (last_or None es) i (given_back o i byte)
last_from None [] i byte = refl
last_from (Some e) [] i byte = refl
last_from o (e ∷ es) i byte = last_from (Some e) es i byte ∙ sym (last_from (Some e) es i (given_back o i byte))

pub one_then : (e : Entry) (es : List Entry) (i byte : ℕ) → given_back (last_covering (e ∷ es) i) i byte ≡ given_back (last_covering es i) i (one_back e i byte)
one_then e es i byte = go (covers i e) refl
  where
    go : (b : Bool) → covers i e ≡ b → given_back (last_covering (e ∷ es) i) i byte ≡ given_back (last_covering es i) i (one_back e i byte)
    go true is = rw is (last_from (Some e) (filter (covers i) es) i byte)
    go false is = rw is refl

-- How far a test of entries has come: those before this place have no fault. `total` counts their bytes, and `front`
-- has what they give back of the first 64 bytes
pub record Tested (o : Order) (img : List ℕ) (start end old place total : ℕ) (first front : List ℕ) : Type 0 where
  pub no_fault : entry_fault end old (rest o img start end) ≡ entry_fault end old (rest o img place end)
  pub count : total + lengths (rest o img place end) ≡ lengths (rest o img start end)
  pub given : (i : ℕ) → i < 64 → given_back (last_covering (rest o img place end) i) i (slice_index front i) ≡ given_back (last_covering (rest o img start end) i) i (slice_index first i)

pub tested_none : (o : Order) (img : List ℕ) (start end old : ℕ) (first : List ℕ) → Tested o img start end old start 0 first first
tested_none o img start end old first = record { no_fault = refl; count = omega arith; given = λ i low. refl }

-- one entry more without a fault
pub tested_more : (o : Order) (img : List ℕ) (start end old place total : ℕ) (first front after : List ℕ) → Tested o img start end old place total first front
    → place + 8 < end → is_bad_entry end old (entry_at o img place) ≡ false
    → ((i : ℕ) → i < 64 → slice_index after i ≡ one_back (entry_at o img place) i (slice_index front i))
    → Tested o img start end old (place + 8 + word o img (place + 4)) (total + word o img (place + 4)) first after
tested_more o img start end old place total first front after t low good taken =
    let next = rest_next o img place end low in
    let e = entry_at o img place in
    let es = rest o img (place + 8 + word o img (place + 4)) end in
    record {
      no_fault = t.no_fault ∙ ap (entry_fault end old) next ∙ rw good refl;
      count = omega (arith, t.count, ap lengths next);
      given = λ i within.
          ap (given_back (last_covering es i) i) (taken i within)
          ∙ sym (one_then e es i (slice_index front i))
          ∙ ap (λ l. given_back (last_covering l i) i (slice_index front i)) (sym next)
          ∙ t.given i within;
    }

-- the next entry has a fault, the first of all
pub tested_bad : (o : Order) (img : List ℕ) (start end old place total : ℕ) (first front : List ℕ) → Tested o img start end old place total first front
    → place + 8 < end → is_bad_entry end old (entry_at o img place) ≡ true
    → entry_fault end old (rest o img start end) ≡ Some (UndoBad, place)
tested_bad o img start end old place total first front t low bad = t.no_fault ∙ ap (entry_fault end old) (rest_next o img place end low) ∙ rw bad refl

-- there is no further entry
pub tested_all : (o : Order) (img : List ℕ) (start end old place total : ℕ) (first front : List ℕ) → Tested o img start end old place total first front
    → end ≤ place + 8
    → (entry_fault end old (rest o img start end) ≡ None) × (total ≡ lengths (rest o img start end))
    × ((i : ℕ) → i < 64 → slice_index front i ≡ given_back (last_covering (rest o img start end) i) i (slice_index first i))
tested_all o img start end old place total first front t high =
    let none = rest_none o img place end high in (
      t.no_fault ∙ ap (entry_fault end old) none,
      omega (arith, t.count, ap lengths none),
      λ i low. ap (λ l. given_back (last_covering l i) i (slice_index front i)) (sym none) ∙ t.given i low,
    )
