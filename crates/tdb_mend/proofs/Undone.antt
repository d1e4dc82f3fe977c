-- What a wide undo leaves, byte for byte, and what an image is read as by how its undo area stands.
use Rattle.std.proofs.Common.{◌≡◌, ◌≢◌, ℕ, ◌+◌, ◌-◌, ◌<◌, ◌≤◌, ◌&&◌, ◌||◌, not, Bool, true, false, List, length, take, map, max, Option, Some, None, refl, sym, ◌∙◌, ap, inl, inr, arith}
use Rattle.std.specs.Prelude.{◌==◌, nat_lt, nat_le, slice_index, if◌then◌else◌}
use Rattle.std.specs.List.{range_with_len}
use Rattle.std.proofs.lemmas.Bool.{cases_Bool, cases_lt, and_parts, or_parts, not-true, ltb-false, lt-ltb, le-ltb, ne_eqb}
use Rattle.std.proofs.lemmas.List.{get_or_default, get_or-take, length-take, same_lists}
use Rattle.std.proofs.lemmas.List.FromFn.{length-map-range_with_len, get_or-map-range_with_len}
use Rattle.tdb_words.specs.declared.record.TheConstants.{GATE_OPEN, GATE_SHUT}
use Rattle.tdb_words.specs.declared.what.What.TheVariants.{AreaBad, UndoBad}
use Rattle.tdb_words.specs.Word.{word, bytes_of_word}
use Rattle.tdb_disk.specs.Image.{overlay}
use Rattle.tdb_disk.proofs.Image.{length-overlay, overlay_below, overlay_above, overlay_in}
use Rattle.tdb_space.specs.Form.{Form, form_of, data_start}
use Rattle.tdb_space.specs.Record.{magic_of}
use Rattle.tdb_space.specs.FirstFault.{Fault, is_out, is_long}
use Rattle.tdb_space.specs.Opening.{Entry, last_covering, given_back, lies_in, is_open}
use Rattle.tdb_space.proofs.FirstFault.Cleared.{none_parts, stands_from}
use Rattle.tdb_undo.proofs.Lies.{lies_where, lies_outside}
use Rattle.tdb_mend.specs.declared.area.UndoArea.{UndoArea}
use Rattle.tdb_mend.specs.Area.{area_of, content_fault_in, state_fault, wide_len_of, Stands}
use Rattle.tdb_mend.specs.Giving.{content_end_of, entries_of, may_give, GivenBack}
use Rattle.tdb_mend.specs.Mended.{padding_word, lacks_header, without_area, mend_fault, undone_as}
use Rattle.tdb_mend.specs.WideUndo.{unparsed, widely_undone, wide_fault_at}

-- what the undo of an area with these entries gives, by what was read of the area
abbrev pub by_area : UndoArea → List ℕ → List Entry → ℕ → ℕ
by_area a img es i =
    if lies_in (a.at + 20) 4 i then 0
    else if lies_in 44 4 i then (if nat_le a.header.key_len a.at then 0 else slice_index img i)
    else if lies_in a.at (24 + a.header.rec_len) i then slice_index img i
    else given_back (last_covering es i) i (slice_index img i)

abbrev pub undone_by_area : UndoArea → List ℕ → List Entry → List ℕ
undone_by_area a img es = map (by_area a img es) (range_with_len 0 (wide_len_of a))

-- and what is wrong with it
abbrev pub wide_fault_in : UndoArea → ℕ → ℕ → List Entry → Option Fault
wide_fault_in a start len es =
    if nat_lt a.header.key_len start || nat_lt len a.header.key_len then Some (UndoBad, a.at + 8)
    else if nat_lt a.header.rec_len a.header.data_len then Some (UndoBad, a.at + 12)
    else unparsed (content_end_of a) es

-- these are of the area of an image
module _ (f : Form) (img : List ℕ) (a : UndoArea) (is : a ≡ area_of f.order img) where
  pub same_undone : undone_by_area a img (entries_of f.order img a) ≡ widely_undone f img
  same_undone = ap (λ x. undone_by_area x img (entries_of f.order img x)) is

  same_fault : wide_fault_at f img a.at ≡ wide_fault_in a (data_start f) (length img) (entries_of f.order img a)
  same_fault = ap (λ x. wide_fault_at f img x.at) is ∙ ap (λ x. wide_fault_in x (data_start f) (length img) (entries_of f.order img x)) (sym is)

  -- its old length or the length of its content is wrong
  pub content_bad : (len : ℕ) (e : Fault) → length img ≡ len → content_fault_in a (data_start f) len ≡ Some e → wide_fault_at f img a.at ≡ Some e
  content_bad len e long bad =
      same_fault ∙ ap (λ n. wide_fault_in a (data_start f) n (entries_of f.order img a)) long
      ∙ go (nat_lt a.header.key_len (data_start f) || nat_lt len a.header.key_len) (nat_lt a.header.rec_len a.header.data_len) _ _ _ bad
    where
      go : (p q : Bool) (x y : Fault) (later : Option Fault) → (if p then Some x else if q then Some y else None) ≡ Some e → (if p then Some x else if q then Some y else later) ≡ Some e
      go true q x y later h = h
      go false true x y later h = h
      go false false x y later h = absurd (cc)

  -- they aren't, so the fault is one of its entries
  pub content_good : (len : ℕ) (o : Option Fault) → length img ≡ len → content_fault_in a (data_start f) len ≡ None → unparsed (content_end_of a) (entries_of f.order img a) ≡ o → wide_fault_at f img a.at ≡ o
  content_good len o long good left =
      same_fault ∙ ap (λ n. wide_fault_in a (data_start f) n (entries_of f.order img a)) long
      ∙ go (nat_lt a.header.key_len (data_start f) || nat_lt len a.header.key_len) (nat_lt a.header.rec_len a.header.data_len) _ _ _ good ∙ left
    where
      go : (p q : Bool) (x y : Fault) (later : Option Fault) → (if p then Some x else if q then Some y else None) ≡ None → (if p then Some x else if q then Some y else later) ≡ later
      go true q x y later h = absurd (cc)
      go false true x y later h = absurd (cc)
      go false false x y later h = refl

-- what it says that the old length and the length of the content are right
pub content_parts : (a : UndoArea) (start len : ℕ) → content_fault_in a start len ≡ None → (start ≤ a.header.key_len) × (a.header.key_len ≤ len) × (a.header.data_len ≤ a.header.rec_len)
content_parts a start len good =
    let p = none_parts (nat_lt a.header.key_len start || nat_lt len a.header.key_len) _ _ good in
    let q = none_parts (nat_lt a.header.rec_len a.header.data_len) _ _ p.1 in
    let r = or_parts (nat_lt a.header.key_len start) (nat_lt len a.header.key_len) p.0 in
    (ltb-false a.header.key_len start r.0, ltb-false len a.header.key_len r.1, ltb-false a.header.rec_len a.header.data_len q.0)

-- how many bytes are left
pub wide_within : (a : UndoArea) (start len : ℕ) → Stands start len a → content_fault_in a start len ≡ None → (start ≤ wide_len_of a) × (wide_len_of a ≤ len)
wide_within a start len st good =
    let p = content_parts a start len good in
    elim (cases_lt a.at a.header.key_len) [
      | inl stays ↦
          let both : (start ≤ max a.header.key_len (a.at + 24 + a.header.rec_len)) × (max a.header.key_len (a.at + 24 + a.header.rec_len) ≤ len) =
          (omega (arith, p.0), omega (arith, p.1, st.within)) in
          rw (lt-ltb a.at a.header.key_len stays) both
      | inr past ↦
          let both : (start ≤ a.header.key_len) × (a.header.key_len ≤ len) = (p.0, p.1) in
          rw (le-ltb a.at a.header.key_len past) both
    ]

-- The bytes after the undo: b is the image with what the entries gave back, c has the word at 44 that is left, and d a
-- shut gate.
module _ (a : UndoArea) (img : List ℕ) (es : List Entry) (start len : ℕ) (b c d h z : List ℕ) (st : Stands start len a) (heads : 48 ≤ start) (long : length img ≡ len) (good : content_fault_in a start len ≡ None)
    (given : GivenBack a es img b) (four : length h ≡ 4) (head : (k : ℕ) → k < 4 → slice_index h k ≡ (if nat_le a.header.key_len a.at then 0 else slice_index img (44 + k)))
    (four_z : length z ≡ 4) (zeros : (k : ℕ) → slice_index z k ≡ 0) (is_c : c ≡ overlay b 44 h) (is_d : d ≡ overlay c (a.at + 20) z) where
  size_c : length c ≡ len
  size_c = ap length is_c ∙ length-overlay b 44 h ∙ given.size ∙ long

  size_d : length d ≡ len
  size_d = ap length is_d ∙ length-overlay c (a.at + 20) z ∙ size_c

  -- a byte of the gate word, and one beside it
  at_gate : (i : ℕ) → lies_in (a.at + 20) 4 i ≡ true → slice_index d i ≡ 0
  at_gate i in_it =
      let w = lies_where (a.at + 20) 4 i in_it in
      ap (λ x. slice_index x i) is_d ∙ overlay_in c (a.at + 20) z i w.0 (omega (arith, w.1, four_z)) (omega (arith, w.1, st.within, size_c)) ∙ zeros (i - (a.at + 20))

  beside_gate : (i : ℕ) → lies_in (a.at + 20) 4 i ≡ false → slice_index d i ≡ slice_index c i
  beside_gate i out =
      ap (λ x. slice_index x i) is_d
      ∙ elim (lies_outside (a.at + 20) 4 i out) [
        | inl low ↦ overlay_below c (a.at + 20) z i low
        | inr high ↦ overlay_above c (a.at + 20) z i (omega (arith, high, four_z))
      ]

  -- a byte of the word at 44, and one beside it
  at_head : (i : ℕ) → lies_in 44 4 i ≡ true → slice_index c i ≡ (if nat_le a.header.key_len a.at then 0 else slice_index img i)
  at_head i in_it =
      let w = lies_where 44 4 i in_it in
      let there : 44 + (i - 44) ≡ i = omega (arith, w.0) in
      ap (λ x. slice_index x i) is_c ∙ overlay_in b 44 h i w.0 (omega (arith, w.1, four)) (omega (arith, w.1, heads, st.above, st.within, given.size, long))
      ∙ head (i - 44) (omega (arith, w.0, w.1)) ∙ ap (λ n. if nat_le a.header.key_len a.at then 0 else slice_index img n) there

  beside_head : (i : ℕ) → lies_in 44 4 i ≡ false → slice_index c i ≡ slice_index b i
  beside_head i out =
      ap (λ x. slice_index x i) is_c
      ∙ elim (lies_outside 44 4 i out) [
        | inl low ↦ overlay_below b 44 h i low
        | inr high ↦ overlay_above b 44 h i (omega (arith, high, four))
      ]

  -- a byte of the area stays
  in_area : (i : ℕ) → lies_in a.at (24 + a.header.rec_len) i ≡ true → slice_index b i ≡ slice_index img i
  in_area i in_it =
      let closed : may_give a i ≡ false = no_gift (nat_lt i a.header.key_len) in
      given.each i ∙ rw closed refl
    where
      no_gift : (x : Bool) → (x && not (lies_in a.at (24 + a.header.rec_len) i)) ≡ false
      no_gift true = rw in_it refl
      no_gift false = refl

  -- each other one that is left is given back
  elsewhere : (i : ℕ) → i < wide_len_of a → lies_in a.at (24 + a.header.rec_len) i ≡ false → slice_index b i ≡ given_back (last_covering es i) i (slice_index img i)
  elsewhere i low out =
      let below : i < a.header.key_len = elim (cases_lt a.at a.header.key_len) [
        | inr past ↦ (let same : wide_len_of a ≡ a.header.key_len = rw (le-ltb a.at a.header.key_len past) refl in omega (arith, low, same))
        | inl stays ↦
            (let same : wide_len_of a ≡ max a.header.key_len (a.at + 24 + a.header.rec_len) = rw (lt-ltb a.at a.header.key_len stays) refl in
            elim (lies_outside a.at (24 + a.header.rec_len) i out) [ inl before ↦ omega (arith, before, stays) | inr behind ↦ omega (arith, low, same, behind) ])
      ] in
      given.each i ∙ rw (lt-ltb i a.header.key_len below) (rw out refl)

  byte : (i : ℕ) → i < wide_len_of a → slice_index d i ≡ by_area a img es i
  byte i low = elim (cases_Bool (lies_in (a.at + 20) 4 i)) [
    | inl gate ↦ at_gate i gate ∙ rw gate refl
    | inr no_gate ↦
        beside_gate i no_gate
        ∙ rw no_gate
        (elim (cases_Bool (lies_in 44 4 i)) [
          | inl word_there ↦ at_head i word_there ∙ rw word_there refl
          | inr no_word ↦
              beside_head i no_word
              ∙ rw no_word
              (elim (cases_Bool (lies_in a.at (24 + a.header.rec_len) i)) [
                | inl area ↦ in_area i area ∙ rw area refl
                | inr out ↦ elsewhere i low out ∙ rw out refl
              ])
        ])
  ]

  pub undone_is : take (wide_len_of a) d ≡ undone_by_area a img es
  undone_is =
      let n : ℕ = wide_len_of a in
      let fits = (wide_within a start len st good).1 in
      let sized : length (take (wide_len_of a) d) ≡ wide_len_of a = omega (arith, length-take (wide_len_of a) d, size_d, fits) in
      let made = length-map-range_with_len (by_area a img es) 0 (wide_len_of a) in
      same_lists (take (wide_len_of a) d) (undone_by_area a img es) (sized ∙ sym made)
      (λ k e low.
      (let under : k < wide_len_of a = omega (arith, low, sized) in
      get_or_default (take (wide_len_of a) d) k e 0 low ∙ get_or-take (wide_len_of a) d k 0 under ∙ byte k under
      ∙ sym (get_or-map-range_with_len (by_area a img es) 0 (wide_len_of a) k k 0 under (omega arith)) ∙ get_or_default (undone_by_area a img es) k 0 e (omega (arith, under, made))))

-- what mending finds wrong with an undo area, by how that stands
pub state_bad : (f : Form) (img : List ℕ) (e : Fault) → state_fault f img ≡ Some e → mend_fault f img ≡ Some e
state_bad f img e bad =
    let at : ℕ = word f.order img 44 in
    go (word f.order img 44 == 0) (is_out f img (word f.order img 44)) (magic_of f.order img (word f.order img 44) == padding_word) (is_long f img (word f.order img 44))
    (magic_of f.order img (word f.order img 44) == GATE_OPEN) (magic_of f.order img (word f.order img 44) == GATE_SHUT) (wide_fault_at f img (word f.order img 44)) (AreaBad, 44) (AreaBad, at + 4) (AreaBad, at + 20) bad
  where
    go : (none out pads long gate shut : Bool) (wide : Option Fault) (x y z : Fault)
        → (if none then None else if out then Some x else if pads then None else if long then Some y else if not gate && not shut then Some z else None) ≡ Some e
        → (if none then None else if out then Some x else if pads then None else if long then Some y else if gate then wide else if not shut then Some z else None) ≡ Some e
    go true out pads long gate shut wide x y z h = h
    go false true pads long gate shut wide x y z h = h
    go false false true long gate shut wide x y z h = h
    go false false false true gate shut wide x y z h = h
    go false false false false true shut wide x y z h = absurd (cc)
    go false false false false false true wide x y z h = h
    go false false false false false false wide x y z h = h

-- the tests of an area without a header, of an open one and of any other
lacks_none : (none out pads long gate shut : Bool) (wide : Option Fault) (x y z : Fault) → (not out && pads) ≡ true
    → (if none then None else if out then Some x else if pads then None else if long then Some y else if gate then wide else if not shut then Some z else None) ≡ None
lacks_none true out pads long gate shut wide x y z h = refl
lacks_none false true pads long gate shut wide x y z h = absurd (cc)
lacks_none false false true long gate shut wide x y z h = refl
lacks_none false false false long gate shut wide x y z h = absurd (cc)

open_wide : (out pads long gate shut : Bool) (wide : Option Fault) (x y z : Fault) → (not out && pads) ≡ false → (not out && not long && gate) ≡ true
    → (if out then Some x else if pads then None else if long then Some y else if gate then wide else if not shut then Some z else None) ≡ wide
open_wide true pads long gate shut wide x y z has h = absurd (cc)
open_wide false true long gate shut wide x y z has h = absurd (cc)
open_wide false false true gate shut wide x y z has h = absurd (cc)
open_wide false false false true shut wide x y z has h = refl
open_wide false false false false shut wide x y z has h = absurd (cc)

still_none : (none out pads long gate shut : Bool) (wide : Option Fault) (x y z : Fault) → (not out && pads) ≡ false → (not out && not long && gate) ≡ false
    → (if none then None else if out then Some x else if pads then None else if long then Some y else if not gate && not shut then Some z else None) ≡ None
    → (if none then None else if out then Some x else if pads then None else if long then Some y else if gate then wide else if not shut then Some z else None) ≡ None
still_none true out pads long gate shut wide x y z has closed h = refl
still_none false true pads long gate shut wide x y z has closed h = h
still_none false false true long gate shut wide x y z has closed h = h
still_none false false false true gate shut wide x y z has closed h = h
still_none false false false false true shut wide x y z has closed h = absurd (cc)
still_none false false false false false true wide x y z has closed h = refl
still_none false false false false false false wide x y z has closed h = h

module _ (f : Form) (img : List ℕ) where
  abbrev at : ℕ
  at = word f.order img 44

  -- what a file is read as whose area has no header
  pub lacking_none : lacks_header f img ≡ true → mend_fault f img ≡ None
  lacking_none lacks =
      lacks_none (at == 0) (is_out f img at) (magic_of f.order img at == padding_word) (is_long f img at) (magic_of f.order img at == GATE_OPEN) (magic_of f.order img at == GATE_SHUT) (wide_fault_at f img at) (AreaBad, 44) (AreaBad, at + 4) (AreaBad, at + 20) lacks

  pub lacking_read : f ≡ form_of img → lacks_header f img ≡ true → undone_as img ≡ overlay img 44 (bytes_of_word f.order 0)
  lacking_read own lacks =
      let there : undone_as img ≡ without_area (form_of img) img = rw (ap (λ x. lacks_header x img) (sym own) ∙ lacks) refl in
      there ∙ ap (λ x. without_area x img) (sym own)

  -- whose gate is open
  pub open_fault : lacks_header f img ≡ false → is_open f img ≡ true → mend_fault f img ≡ wide_fault_at f img at
  open_fault has gate =
      let parts = and_parts _ _ gate in
      let stands = stands_from f img at (not-true (is_out f img at) (and_parts _ _ parts.0).0) in
      let some : at ≢ 0 = λ none. absurd (omega (arith, none, stands.1)) in
      rw (ne_eqb at 0 some)
      (open_wide (is_out f img at) (magic_of f.order img at == padding_word) (is_long f img at) (magic_of f.order img at == GATE_OPEN) (magic_of f.order img at == GATE_SHUT) (wide_fault_at f img at) (AreaBad, 44) (AreaBad, at + 4) (AreaBad, at + 20) has gate)

  pub open_read : f ≡ form_of img → lacks_header f img ≡ false → is_open f img ≡ true → undone_as img ≡ widely_undone f img
  open_read own has gate =
      let there : undone_as img ≡ widely_undone (form_of img) img = rw (ap (λ x. lacks_header x img) (sym own) ∙ has) (rw (ap (λ x. is_open x img) (sym own) ∙ gate) refl) in
      there ∙ ap (λ x. widely_undone x img) (sym own)

  -- and any other
  pub still_fault : state_fault f img ≡ None → lacks_header f img ≡ false → is_open f img ≡ false → mend_fault f img ≡ None
  still_fault none has closed =
      still_none (at == 0) (is_out f img at) (magic_of f.order img at == padding_word) (is_long f img at) (magic_of f.order img at == GATE_OPEN) (magic_of f.order img at == GATE_SHUT) (wide_fault_at f img at) (AreaBad, 44) (AreaBad, at + 4) (AreaBad, at + 20) has closed none

  pub still_read : f ≡ form_of img → lacks_header f img ≡ false → is_open f img ≡ false → undone_as img ≡ img
  still_read own has closed = rw (ap (λ x. lacks_header x img) (sym own) ∙ has) (rw (ap (λ x. is_open x img) (sym own) ∙ closed) refl)
