-- What an undo gives, byte by byte, and that its undo area is shut.
use Rattle.std.proofs.Common.{◌≡◌, ℕ, ◌+◌, ◌<◌, ◌≤◌, ◌⊎◌, ◌&&◌, ◌||◌, Bool, true, false, List, length, refl, sym, ◌∙◌, ap, subst, inl, inr, arith}
use Rattle.std.specs.Prelude.{◌%◌, nat_lt, nat_le, slice_index}
use Rattle.std.proofs.lemmas.Bool.{cases_Bool, cases_lt, and_parts, or_parts, not-true, eqb-true, eq-eqb, ltb-false, le-leb, lt-leb, lt-ltb, le-ltb}
use Rattle.std.proofs.lemmas.List.FromFn.{length-map-range_with_len, get_or-map-range_with_len}
use Rattle.tdb_words.specs.declared.record.TheConstants.{GATE_OPEN, GATE_SHUT}
use Rattle.tdb_words.specs.declared.word.Order.{Order}
use Rattle.tdb_words.specs.Word.{word}
use Rattle.tdb_words.proofs.Words.{word_agrees}
use Rattle.tdb_space.specs.Form.{Form, form_of, data_start}
use Rattle.tdb_space.specs.Record.{rec_len_of, key_len_of, magic_of}
use Rattle.tdb_space.specs.Accepted.{AreaInPlace, AreaOk, Shut, Accept}
use Rattle.tdb_space.specs.FirstFault.{is_out}
use Rattle.tdb_space.specs.Opening.{Entry, entries, is_bad_cut, Undoable, lies_in, undone_byte, undone, is_open, restored, own_map, OpensTo}
use Rattle.tdb_space.proofs.FirstFault.Cleared.{none_parts, stands_from, stands_to, long_to}
use Rattle.tdb_space.proofs.Accepted.Fresh.{word_zero}

-- a byte of what an undo gives, and how many there are in it
pub undone_read : (o : Order) (img : List ℕ) (x : ℕ) (es : List Entry) (i : ℕ) → i < key_len_of o img x → slice_index (undone o img x es) i ≡ undone_byte o img x es i
undone_read o img x es i low = get_or-map-range_with_len (undone_byte o img x es) 0 (key_len_of o img x) i i 0 low (omega arith)

pub undone_length : (o : Order) (img : List ℕ) (x : ℕ) (es : List Entry) → length (undone o img x es) ≡ key_len_of o img x
undone_length o img x es = length-map-range_with_len (undone_byte o img x es) 0 (key_len_of o img x)

-- a byte lies in some bytes, or before or after them
lies : (from count i : ℕ) → from ≤ i → i < from + count → lies_in from count i ≡ true
lies from count i high low = rw (le-leb from i high) (lt-ltb i (from + count) low)

lies_not : (from count i : ℕ) → (i < from) ⊎ (from + count ≤ i) → lies_in from count i ≡ false
lies_not from count i (inl before) = rw (lt-leb from i before) refl
lies_not from count i (inr after) = rw (le-ltb i (from + count) after) (never (nat_le from i))
  where
    never : (b : Bool) → (b && false) ≡ false
    never true = refl
    never false = refl

-- an undo area that stands behind the heads: the bytes of the word at 44, of the area's gate, and of the rest of the
-- area
module _ (o : Order) (img : List ℕ) (x : ℕ) (es : List Entry) (behind : 172 ≤ x) where
  word_cleared : (i : ℕ) → 44 ≤ i → i < 48 → key_len_of o img x ≤ x → undone_byte o img x es i ≡ 0
  word_cleared i from to past = rw (lies_not (x + 20) 4 i (inl (omega arith))) (rw (lies 44 4 i from to) (rw (le-leb (key_len_of o img x) x past) refl))

  word_stays : (i : ℕ) → 44 ≤ i → i < 48 → x < key_len_of o img x → undone_byte o img x es i ≡ slice_index img i
  word_stays i from to within = rw (lies_not (x + 20) 4 i (inl (omega arith))) (rw (lies 44 4 i from to) (rw (lt-leb (key_len_of o img x) x within) refl))

  gate_cleared : (i : ℕ) → x + 20 ≤ i → i < x + 24 → undone_byte o img x es i ≡ 0
  gate_cleared i from to = rw (lies (x + 20) 4 i from (omega arith)) refl

  area_stays : (i : ℕ) → x ≤ i → i < x + 20 → undone_byte o img x es i ≡ slice_index img i
  area_stays i from to =
      rw (lies_not (x + 20) 4 i (inl to))
      (rw (lies_not 44 4 i (inr (omega arith)))
      (rw (lies x (24 + rec_len_of o img x) i from (omega arith)) refl))

-- what an image that can be undone says of its undo area: the old length is one
pub record OldLength (f : Form) (img : List ℕ) (x : ℕ) : Type 0 where
  pub above : data_start f ≤ key_len_of f.order img x
  pub within : key_len_of f.order img x ≤ length img
  pub apart : x < key_len_of f.order img x → x + 24 + rec_len_of f.order img x ≤ key_len_of f.order img x

pub old_length : (f : Form) (img : List ℕ) → Undoable f img → OldLength f img (word f.order img 44)
old_length f img u =
    let x = word f.order img 44 in
    let n = key_len_of f.order img x in
    let cut : is_bad_cut f img x ≡ false = (none_parts _ _ _ u.no_fault).0 in
    let a = or_parts (nat_lt n (data_start f) || nat_lt (length img) n) (nat_lt x n && nat_lt n (x + 24 + rec_len_of f.order img x)) cut in
    let c = or_parts (nat_lt n (data_start f)) (nat_lt (length img) n) a.0 in
    record {
      above = ltb-false n (data_start f) c.0;
      within = ltb-false (length img) n c.1;
      apart = λ low. ltb-false n (x + 24 + rec_len_of f.order img x) (second (nat_lt x n) _ (lt-ltb x n low) a.1);
    }
  where
    second : (a b : Bool) → a ≡ true → (a && b) ≡ false → b ≡ false
    second true b e h = h
    second false b e h = cc

-- the gate is open where it is said to be, and not where it is shut
open_gate : (f : Form) (img : List ℕ) → is_open f img ≡ true → (is_out f img (word f.order img 44) ≡ false) × (magic_of f.order img (word f.order img 44) ≡ GATE_OPEN)
open_gate f img h =
    let parts = and_parts _ _ h in
    (not-true (is_out f img (word f.order img 44)) (and_parts _ _ parts.0).0, eqb-true (magic_of f.order img (word f.order img 44)) GATE_OPEN parts.1)

not_shut : (f : Form) (img : List ℕ) → is_open f img ≡ true → Shut f img → ⊥
not_shut f img h (inl none) = absurd (omega (arith, none, (stands_from f img (word f.order img 44) (open_gate f img h).0).1))
not_shut f img h (inr shut) = absurd (omega (arith, shut, (open_gate f img h).1))

pub read_as_it_is : (f : Form) (img : List ℕ) → Shut f img → restored f img ≡ img
read_as_it_is f img shut = elim (cases_Bool (is_open f img)) [ inl gate ↦ absurd (not_shut f img gate shut) | inr closed ↦ rw closed refl ]

pub read_undone : (f : Form) (img : List ℕ) → Undoable f img → restored f img ≡ undone f.order img (word f.order img 44) (entries f img)
read_undone f img u =
    let x = word f.order img 44 in
    let p = u.in_place in
    rw (stands_to f img x p.aligned p.above (omega (arith, p.within))) (rw (long_to f img x p.len_aligned p.within) (rw (eq-eqb (magic_of f.order img x) GATE_OPEN u.gate_open) refl))

-- what the undo of an image gives has no undo area any more, or the same one, shut
module _ (f : Form) (img : List ℕ) (u : Undoable f img) where
  abbrev x : ℕ
  x = word f.order img 44

  abbrev after : List ℕ
  after = undone f.order img x (entries f img)

  old : OldLength f img x
  old = old_length f img u

  read : (i : ℕ) → i < key_len_of f.order img x → slice_index after i ≡ undone_byte f.order img x (entries f img) i
  read = undone_read f.order img x (entries f img)

  behind : 172 ≤ x
  behind = omega (arith, u.in_place.above)

  no_area : key_len_of f.order img x ≤ x → word f.order after 44 ≡ 0
  no_area past = word_zero f.order after 44 (λ i from to. read i (omega (arith, old.above, to)) ∙ word_cleared f.order img x (entries f img) behind i from to past)

  same_area : x < key_len_of f.order img x → word f.order after 44 ≡ x
  same_area within = word_agrees f.order after img 44 (λ i from to. read i (omega (arith, old.above, to)) ∙ word_stays f.order img x (entries f img) behind i from to within)

  area_len : x < key_len_of f.order img x → rec_len_of f.order after x ≡ rec_len_of f.order img x
  area_len within = word_agrees f.order after img (x + 4) (λ i from to. read i (omega (arith, old.apart within, to)) ∙ area_stays f.order img x (entries f img) behind i (omega (arith, from)) (omega (arith, to)))

  area_shut : x < key_len_of f.order img x → magic_of f.order after x ≡ GATE_SHUT
  area_shut within = word_zero f.order after (x + 20) (λ i from to. read i (omega (arith, old.apart within, to)) ∙ gate_cleared f.order img x (entries f img) behind i from (omega (arith, to)))

  in_place : x < key_len_of f.order img x → AreaInPlace f after x
  in_place within =
      let len : rec_len_of f.order after x ≡ rec_len_of f.order img x = area_len within in
      record {
        aligned = u.in_place.aligned;
        above = u.in_place.above;
        len_aligned = ap (λ m. m % 4) len ∙ u.in_place.len_aligned;
        within = omega (arith, len, old.apart within, undone_length f.order img x (entries f img));
        gate = inr (area_shut within);
      }

  shut_after : AreaOk f after × Shut f after
  shut_after =
      elim (cases_lt x (key_len_of f.order img x)) [
        | inr past ↦ (inl (no_area past), inl (no_area past))
        | inl within ↦ (inr (subst (AreaInPlace f after) (sym (same_area within)) (in_place within)), inr (ap (magic_of f.order after) (same_area within) ∙ area_shut within))
      ]

  pub undone_once : AreaOk f (restored f img) × Shut f (restored f img)
  undone_once = subst (λ r. AreaOk f r × Shut f r) (sym (read_undone f img u)) shut_after

pub accepted_opens : (img : List ℕ) → Accept img → OpensTo img (own_map img)
accepted_opens img h =
    let same : restored (form_of img) img ≡ img = read_as_it_is (form_of img) img h.shut in
    record {
      opens = record {
        header = h.header;
        sized = h.sized;
        long = h.long;
        area_ok = h.area_ok;
        undo = inl h.shut;
        accepted = subst Accept (sym same) h;
      };
      holds = λ key. ap (λ r. own_map r key) same;
    }
