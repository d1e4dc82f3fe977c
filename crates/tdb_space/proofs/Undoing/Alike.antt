-- An image that has what the undo of another reads is undone like it, and read as the same file.
use Rattle.std.proofs.Common.{◌≡◌, ℕ, zero, suc, ◌+◌, ◌<◌, ◌≤◌, ◌⊎◌, ◌&&◌, ◌||◌, Bool, true, false, List, ◌∷◌, length, take, drop, Option, Some, None, refl, sym, ◌∙◌, ap, subst, inl, inr, arith}
use Rattle.std.specs.Prelude.{◌%◌, nat_lt, nat_le, slice_index, if◌then◌else◌}
use Rattle.std.proofs.lemmas.Bool.{cases_lt, or_parts, ltb-false, le-leb, lt-leb, lt-ltb, le-ltb}
use Rattle.std.proofs.lemmas.Grind.{same_number_lists}
use Rattle.std.proofs.lemmas.List.{get_or-take}
use Rattle.tdb_words.specs.declared.word.Order.{Order}
use Rattle.tdb_words.specs.Word.{word}
use Rattle.tdb_words.specs.Header.{sequence_of}
use Rattle.tdb_space.specs.Form.{Form, form_of, data_start, SameHeader}
use Rattle.tdb_space.specs.Record.{rec_len_of, key_len_of, data_len_of, magic_of}
use Rattle.tdb_space.specs.Accepted.{AreaInPlace, Accept}
use Rattle.tdb_space.specs.Exchange.{Agree}
use Rattle.tdb_space.specs.Opening.{Entry, entry_at, entries_from, entries_end, entries, is_bad_cut, entry_fault, undo_fault_at, Undoable, lies_in, last_covering, given_back, undone_byte, undone, restored, Opens, own_map, OpensTo, Mild}
use Rattle.tdb_space.specs.Undoing.{area_at, area_end, old_size, SameUndo, UndoneAlike, Reopens}
use Rattle.tdb_space.proofs.FirstFault.Cleared.{none_parts, none_both, or_none, below_to}
use Rattle.tdb_space.proofs.Form.Headers.{form_kept, header_kept}
use Rattle.tdb_space.proofs.Exchange.Kept.{word_kept}
use Rattle.tdb_space.proofs.Moved.SameLists.{part_same}
use Rattle.tdb_space.proofs.Opening.Undone.{undone_read, undone_length, OldLength, old_length, read_undone, read_as_it_is, accepted_opens}

-- a byte lies in so many bytes from an offset on, or before them, or behind them
pub data LiesIn (from count i : ℕ) : Type 0 where
  within : from ≤ i → i < from + count → lies_in from count i ≡ true → LiesIn from count i
  before : i < from → lies_in from count i ≡ false → LiesIn from count i
  behind : from + count ≤ i → lies_in from count i ≡ false → LiesIn from count i

-- a test and false is false
pub never_both : (b : Bool) → (b && false) ≡ false
never_both true = refl
never_both false = refl

pub where_lies : (from count i : ℕ) → LiesIn from count i
where_lies from count i =
    elim (cases_lt i from) [
      | inl low ↦ before low (rw (lt-leb from i low) refl)
      | inr high ↦
          elim (cases_lt i (from + count)) [
            | inl inside ↦ within high inside (rw (le-leb from i high) (lt-ltb i (from + count) inside))
            | inr past ↦ behind past (rw (le-ltb i (from + count) past) (never_both (nat_le from i)))
          ]
    ]

-- there is none, or there is one
pub none_or_some : {T : Type 0} (o : Option T) → (o ≡ None) ⊎ ((x : T) × (o ≡ Some x))
none_or_some None = inl refl
none_or_some (Some x) = inr (x, refl)

-- the byte that an undo gives, from the area's offset, the old length, the area's length and the byte that stands there
abbrev pub chosen : ℕ → ℕ → ℕ → List Entry → ℕ → ℕ → ℕ
chosen x size len es i byte =
    if lies_in (x + 20) 4 i then 0
    else if lies_in 44 4 i then (if nat_le size x then 0 else byte)
    else if lies_in x (24 + len) i then byte
    else given_back (last_covering es i) i byte

-- it depends on that byte only in the word at 44, in the area, and where no entry covers it
chosen_same : (x size len : ℕ) (es : List Entry) (i a b : ℕ) → (44 ≤ i → i < 48 → b ≡ a) → (x ≤ i → i < x + 24 + len → b ≡ a) → (last_covering es i ≡ None → b ≡ a) → chosen x size len es i b ≡ chosen x size len es i a
chosen_same x size len es i a b there area_bytes others =
    elim (where_lies 44 4 i) [
      | within from to _ ↦ ap (chosen x size len es i) (there from to)
      | before _ out ↦ beside out
      | behind _ out ↦ beside out
    ]
  where
    outside : lies_in 44 4 i ≡ false → lies_in x (24 + len) i ≡ false → chosen x size len es i b ≡ chosen x size len es i a
    outside out far =
        elim (none_or_some (last_covering es i)) [
          | inl none ↦ ap (chosen x size len es i) (others none)
          | inr some ↦ rw out (rw far (rw some.1 refl))
        ]

    beside : lies_in 44 4 i ≡ false → chosen x size len es i b ≡ chosen x size len es i a
    beside out =
        elim (where_lies x (24 + len) i) [
          | within from to _ ↦ ap (chosen x size len es i) (area_bytes from (omega (arith, to)))
          | before _ far ↦ outside out far
          | behind _ far ↦ outside out far
        ]

-- entries that are good, and whose bytes stay, are the same entries
pub entries_alike : (o : Order) (a c : List ℕ) (from to : ℕ) → Agree a c from to → to ≤ length a → to ≤ length c → (n at end size : ℕ) → from ≤ at → end ≤ to → entry_fault end size (entries_from o a n at end) ≡ None → entries_from o c n at end ≡ entries_from o a n at end
entries_alike o a c from to same in_a in_c zero at end size low high good = refl
entries_alike o a c from to same in_a in_c (suc n) at end size low high good =
    elim (cases_lt (at + 8) end) [
      | inr past ↦ rw (le-ltb (at + 8) end past) refl
      | inl more ↦
          let test : nat_lt (at + 8) end ≡ true = lt-ltb (at + 8) end more in
          let good_all : entry_fault end size (entry_at o a at ∷ entries_from o a n (at + 8 + word o a (at + 4)) end) ≡ None = rw test at good in
          let parts = none_parts _ _ _ good_all in
          let fits : at + 8 + word o a (at + 4) ≤ end = ltb-false end (at + 8 + word o a (at + 4)) (or_parts _ _ parts.0).0 in
          let off : word o c at ≡ word o a at = word_kept o a c at from to same low (omega (arith, more, high)) in
          let len : word o c (at + 4) ≡ word o a (at + 4) = word_kept o a c (at + 4) from to same (omega (arith, low)) (omega (arith, more, high)) in
          let olds : take (word o c (at + 4)) (drop (at + 8) c) ≡ take (word o a (at + 4)) (drop (at + 8) a) =
          ap (λ k. take k (drop (at + 8) c)) len
          ∙ part_same a c (at + 8) (word o a (at + 4)) (omega (arith, fits, high, in_a)) (omega (arith, fits, high, in_c)) (λ i above below. same i (omega (arith, low, above)) (omega (arith, below, fits, high))) in
          let rest : entries_from o c n (at + 8 + word o c (at + 4)) end ≡ entries_from o a n (at + 8 + word o a (at + 4)) end =
          ap (λ k. entries_from o c n (at + 8 + k) end) len ∙ entries_alike o a c from to same in_a in_c n (at + 8 + word o a (at + 4)) end size (omega (arith, low)) high parts.1 in
          rw test (λ j. record { place = at; off = off j; len = len j; olds = olds j } ∷ rest j)
    ]

-- what an image that can be undone says of its entries
pub record GoodEntries (f : Form) (img : List ℕ) : Type 0 where
  pub content : data_len_of f.order img (area_at f img) ≤ rec_len_of f.order img (area_at f img)
  pub each : entry_fault (entries_end f.order img (area_at f img)) (old_size f img) (entries f img) ≡ None

pub good_entries : (f : Form) (img : List ℕ) → Undoable f img → GoodEntries f img
good_entries f img u =
    let second = none_parts _ _ _ (none_parts _ _ _ u.no_fault).1 in
    record { content = ltb-false (rec_len_of f.order img (area_at f img)) (data_len_of f.order img (area_at f img)) second.0; each = second.1 }

module _ (f : Form) (a c : List ℕ) (u : Undoable f a) (s : SameUndo f a c) where
  abbrev x : ℕ
  x = area_at f a

  behind_heads : 172 ≤ x
  behind_heads = omega (arith, u.in_place.above)

  there : word f.order c 44 ≡ x
  there = word_kept f.order a c 44 44 48 s.there (omega arith) (omega arith)

  rec_len : rec_len_of f.order c x ≡ rec_len_of f.order a x
  rec_len = word_kept f.order a c (x + 4) x (area_end f a) s.area_bytes (omega arith) (omega arith)

  key_len : key_len_of f.order c x ≡ key_len_of f.order a x
  key_len = word_kept f.order a c (x + 8) x (area_end f a) s.area_bytes (omega arith) (omega arith)

  data_len : data_len_of f.order c x ≡ data_len_of f.order a x
  data_len = word_kept f.order a c (x + 12) x (area_end f a) s.area_bytes (omega arith) (omega arith)

  gate : magic_of f.order c x ≡ magic_of f.order a x
  gate = word_kept f.order a c (x + 20) x (area_end f a) s.area_bytes (omega arith) (omega arith)

  -- the entries of an undo area at an offset
  abbrev entries_there : List ℕ → ℕ → List Entry
  entries_there img at = entries_from f.order img (data_len_of f.order img at) (at + 24) (at + 24 + data_len_of f.order img at)

  same_entries : entries f c ≡ entries f a
  same_entries =
      let g = good_entries f a u in
      ap (entries_there c) there ∙ ap (λ n. entries_from f.order c n (x + 24) (x + 24 + n)) data_len
      ∙ entries_alike f.order a c x (area_end f a) s.area_bytes u.in_place.within s.room (data_len_of f.order a x) (x + 24) (x + 24 + data_len_of f.order a x) (old_size f a) (omega arith) (omega (arith, g.content)) g.each

  in_place : AreaInPlace f c x
  in_place = record {
    aligned = u.in_place.aligned;
    above = u.in_place.above;
    len_aligned = ap (λ n. n % 4) rec_len ∙ u.in_place.len_aligned;
    within = omega (arith, rec_len, s.room);
    gate = inl (gate ∙ u.gate_open);
  }

  old : OldLength f a x
  old = old_length f a u

  cut_two : (nat_lt x (key_len_of f.order c x) && nat_lt (key_len_of f.order c x) (x + 24 + rec_len_of f.order c x)) ≡ false
  cut_two =
      elim (cases_lt x (key_len_of f.order c x)) [
        | inl low ↦ rw (below_to (key_len_of f.order c x) (x + 24 + rec_len_of f.order c x) (omega (arith, key_len, rec_len, old.apart (omega (arith, low, key_len))))) (never_both (nat_lt x (key_len_of f.order c x)))
        | inr high ↦ rw (below_to x (key_len_of f.order c x) high) refl
      ]

  good_cut : is_bad_cut f c x ≡ false
  good_cut =
      or_none (nat_lt (key_len_of f.order c x) (data_start f) || nat_lt (length c) (key_len_of f.order c x)) (nat_lt x (key_len_of f.order c x) && nat_lt (key_len_of f.order c x) (x + 24 + rec_len_of f.order c x))
      (or_none (nat_lt (key_len_of f.order c x) (data_start f)) (nat_lt (length c) (key_len_of f.order c x)) (below_to (key_len_of f.order c x) (data_start f) (omega (arith, key_len, old.above))) (below_to (length c) (key_len_of f.order c x) (omega (arith, key_len, s.reach))))
      cut_two

  no_fault_there : undo_fault_at f c x (entries f a) ≡ None
  no_fault_there =
      let g = good_entries f a u in
      let each : entry_fault (entries_end f.order c x) (key_len_of f.order c x) (entries f a) ≡ None = (λ j. entry_fault (x + 24 + data_len j) (key_len j) (entries f a)) ∙ g.each in
      none_both _ _ _ good_cut (none_both _ _ _ (below_to (rec_len_of f.order c x) (data_len_of f.order c x) (omega (arith, rec_len, data_len, g.content))) each)

  pub same_undoable : Undoable f c
  same_undoable = record {
    in_place = subst (AreaInPlace f c) (sym there) in_place;
    gate_open = ap (magic_of f.order c) there ∙ gate ∙ u.gate_open;
    no_fault = (λ j. undo_fault_at f c (there j) (same_entries j)) ∙ no_fault_there;
  }

  byte_same : (i : ℕ) → i < old_size f a → undone_byte f.order c x (entries f a) i ≡ undone_byte f.order a x (entries f a) i
  byte_same i low =
      (λ j. chosen x (key_len j) (rec_len j) (entries f a) i (slice_index c i))
      ∙ chosen_same x (old_size f a) (rec_len_of f.order a x) (entries f a) i (slice_index a i) (slice_index c i) (λ from to. s.there i from to) (λ from to. s.area_bytes i from to) (s.others i low)

  undone_alike : undone f.order c x (entries f a) ≡ undone f.order a x (entries f a)
  undone_alike =
      let sizes : length (undone f.order c x (entries f a)) ≡ length (undone f.order a x (entries f a)) = undone_length f.order c x (entries f a) ∙ key_len ∙ sym (undone_length f.order a x (entries f a)) in
      same_number_lists (undone f.order c x (entries f a)) (undone f.order a x (entries f a)) sizes (λ i low.
      (let low_c : i < key_len_of f.order c x = omega (arith, low, undone_length f.order c x (entries f a)) in
      let low_a : i < old_size f a = omega (arith, low_c, key_len) in
      undone_read f.order c x (entries f a) i low_c ∙ byte_same i low_a ∙ sym (undone_read f.order a x (entries f a) i low_a)))

  pub same_restored : restored f c ≡ restored f a
  same_restored = read_undone f c same_undoable ∙ (λ j. undone f.order c (there j) (same_entries j)) ∙ undone_alike ∙ sym (read_undone f a u)

pub same_undo_restores : (f : Form) (a c : List ℕ) → Undoable f a → SameUndo f a c → Undoable f c × (restored f c ≡ restored f a)
same_undo_restores f a c u s = (same_undoable f a c u s, same_restored f a c u s)

-- what is undone like an image has what its undo reads
pub alike_same : (f : Form) (a c : List ℕ) → UndoneAlike f a c → SameUndo f a c
alike_same f a c s = record {
  reach = s.reach;
  room = s.room;
  there = λ i _ to. s.front i (inl to);
  area_bytes = s.area_bytes;
  others = s.others;
}

pub alike_restores : (f : Form) (a c : List ℕ) → Undoable f a → UndoneAlike f a c → Undoable f c × (restored f c ≡ restored f a)
alike_restores f a c u s = same_undo_restores f a c u (alike_same f a c s)

-- an image that can be undone is undone like itself
pub alike_self : (f : Form) (a : List ℕ) → length a % 4 ≡ 0 → Undoable f a → UndoneAlike f a a
alike_self f a sized u = record {
  sized = sized;
  reach = (old_length f a u).within;
  room = u.in_place.within;
  area_bytes = λ i _ _. refl;
  front = λ i _. refl;
  others = λ i _ _. refl;
}

-- a change of what the undo doesn't read, at any length that reaches the old one and the area's end
pub alike_more : (f : Form) (a c d : List ℕ) → UndoneAlike f a c → length d % 4 ≡ 0 → old_size f a ≤ length d → area_end f a ≤ length d → Agree c d (area_at f a) (area_end f a) → ((i : ℕ) → (i < 48) ⊎ ((52 ≤ i) × (i < 64)) → slice_index d i ≡ slice_index c i) → ((i : ℕ) → i < old_size f a → last_covering (entries f a) i ≡ None → slice_index d i ≡ slice_index c i) → UndoneAlike f a d
alike_more f a c d s sized reach room area_bytes front others = record {
  sized = sized;
  reach = reach;
  room = room;
  area_bytes = λ i from to. area_bytes i from to ∙ s.area_bytes i from to;
  front = λ i where_at. front i where_at ∙ s.front i where_at;
  others = λ i low none. others i low none ∙ s.others i low none;
}

-- a cut down to the old length or less far, where the area stands below it
pub alike_shrunk : (f : Form) (a c d : List ℕ) → Undoable f a → area_at f a < old_size f a → UndoneAlike f a c → d ≡ take (length d) c → length d % 4 ≡ 0 → old_size f a ≤ length d → UndoneAlike f a d
alike_shrunk f a c d u low s cut sized reach =
    let old = old_length f a u in
    let same : (i : ℕ) → i < old_size f a → slice_index d i ≡ slice_index c i = λ i under. ap (λ r. slice_index r i) cut ∙ get_or-take (length d) c i 0 (omega (arith, under, reach)) in
    alike_more f a c d s sized reach (omega (arith, reach, old.apart low)) (λ i _ to. same i (omega (arith, to, old.apart low))) (λ i where_at. same i (elim where_at [ inl under ↦ omega (arith, under, old.above) | inr over ↦ omega (arith, over.1, old.above) ])) (λ i under _. same i under)

module _ (a c : List ℕ) (h : Opens a) (u : Undoable (form_of a) a) (s : UndoneAlike (form_of a) a c) where
  abbrev f : Form
  f = form_of a

  same_header : SameHeader a c
  same_header i where_at = s.front i (elim where_at [ inl low ↦ inl (omega (arith, low)) | inr high ↦ inr high ])

  same_form : form_of c ≡ form_of a
  same_form = form_kept a c same_header

  both : Undoable f c × (restored f c ≡ restored f a)
  both = alike_restores f a c u s

  undoable : Undoable (form_of c) c
  undoable = subst (λ g. Undoable g c) (sym same_form) both.0

  read_as : restored (form_of c) c ≡ restored (form_of a) a
  read_as = ap (λ g. restored g c) same_form ∙ both.1

  long : data_start f ≤ length c
  long = omega (arith, s.reach, (old_length f a u).above)

  alike_opens : Opens c
  alike_opens = record {
    header = header_kept a c (omega (arith, long)) same_header h.header;
    sized = s.sized;
    long = subst (λ g. data_start g ≤ length c) (sym same_form) long;
    area_ok = inr undoable.in_place;
    undo = inr undoable;
    accepted = subst Accept (sym read_as) h.accepted;
  }

  pub alike_mild : Mild a → Mild c
  alike_mild m = record {
    undoable = undoable;
    header = λ i where_at. ap (λ r. slice_index r i) read_as ∙ m.header i where_at ∙ sym (same_header i where_at);
  }

pub alike_opens_to : (a c : List ℕ) (m : List ℕ → Option (List ℕ)) → OpensTo a m → Undoable (form_of a) a → UndoneAlike (form_of a) a c → OpensTo c m
alike_opens_to a c m h u s = record { opens = alike_opens a c h.opens u s; holds = λ key. ap (λ r. own_map r key) (read_as a c h.opens u s) ∙ h.holds key }

pub reopens_alike : (r a c : List ℕ) → Reopens r a → Mild a → UndoneAlike (form_of a) a c → Reopens r c
reopens_alike r a c h m s = record {
  opens = alike_opens_to a c (own_map r) h.opens m.undoable s;
  again = inr (alike_mild a c h.opens.opens m.undoable s m);
  sequence = ap sequence_of (read_as a c h.opens.opens m.undoable s) ∙ h.sequence;
}

pub alike_reopens : (a c : List ℕ) → Opens a → Mild a → UndoneAlike (form_of a) a c → Reopens (restored (form_of a) a) c
alike_reopens a c h m s =
    reopens_alike (restored (form_of a) a) a c (record { opens = record { opens = h; holds = λ key. refl }; again = inr m; sequence = refl }) m s

pub reopens_again : (r c d : List ℕ) → Reopens r c → Reopens (restored (form_of c) c) d → Reopens r d
reopens_again r c d h k = record {
  opens = record { opens = k.opens.opens; holds = λ key. k.opens.holds key ∙ h.opens.holds key };
  again = k.again;
  sequence = k.sequence ∙ h.sequence;
}

pub exact_reopens : (r : List ℕ) → Accept r → Reopens r r
exact_reopens r h = record {
  opens = accepted_opens r h;
  again = inl h.shut;
  sequence = ap sequence_of (read_as_it_is (form_of r) r h.shut);
}
