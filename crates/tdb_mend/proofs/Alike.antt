-- A file that opens is mended to what opening restores, and an accepted one to itself.
use Rattle.std.proofs.Common.{◌≡◌, ℕ, ◌+◌, ◌<◌, ◌≤◌, ◌⊎◌, ◌&&◌, not, true, false, List, [], ◌∷◌, length, map, drop, None, refl, sym, ◌∙◌, ap, subst, inl, inr, arith}
use Rattle.std.specs.Prelude.{◌==◌, max, nat_lt, slice_index}
use Rattle.std.specs.List.{range_with_len}
use Rattle.std.proofs.lemmas.Bool.{cases_Bool, cases_lt, cases_eq, and_parts, or_parts, not-true, eqb-true, eq-eqb, ne_eqb, lt-ltb, le-ltb}
use Rattle.std.proofs.lemmas.List.{get_or_default, same_lists}
use Rattle.tdb_words.specs.declared.record.TheConstants.{GATE_OPEN, GATE_SHUT}
use Rattle.tdb_words.specs.declared.word.Order.{Order}
use Rattle.tdb_words.specs.Word.{word}
use Rattle.tdb_space.specs.Form.{Form, form_of, data_start}
use Rattle.tdb_space.specs.Record.{rec_len_of, key_len_of, data_len_of, magic_of}
use Rattle.tdb_space.specs.Accepted.{AreaInPlace, AreaOk, Shut}
use Rattle.tdb_space.specs.FirstFault.{is_out, NoStray, is_stray}
use Rattle.tdb_space.specs.Opening.{Entry, entries, entries_end, is_bad_cut, is_bad_entry, entry_fault, Undoable, undone_byte, undone, is_open, restored, Opens}
use Rattle.tdb_space.proofs.FirstFault.Agreed.{accepted_no_fault}
use Rattle.tdb_space.proofs.FirstFault.Cleared.{none_parts, none_both, stands_from, stands_to, long_to}
use Rattle.tdb_space.proofs.Opening.Undone.{old_length, read_as_it_is, accepted_opens}
use Rattle.tdb_check.proofs.Gaps.{count_no}
use Rattle.tdb_mend.specs.WideUndo.{wide_length, widely_undone, is_no_length, unparsed, wide_fault_at}
use Rattle.tdb_mend.specs.Mended.{padding_word, lacks_header, mend_fault, mend_fault_at, undone_as, read_as, without_strays, bytes_changed, strays, IsSoundButStrays}
use Rattle.tdb_mend.specs.Mutexes.{without_mutexes}
use Rattle.tdb_mend.specs.Laws.{OpensAndMendsAlike, OpensAtFront, AcceptedIsAsItIs}
use Rattle.tdb_mend.proofs.Unlocked.{sound_here, sound_unlocked}
use Rattle.tdb_mend.proofs.Strays.{kept_length, kept_byte}

-- an image without stray bytes is itself without them
pub nothing_stray : (img : List ℕ) → NoStray img → without_strays img ≡ img
nothing_stray img clean =
    same_lists (without_strays img) img (kept_length img)
    (λ k d low. get_or_default (without_strays img) k d 0 low ∙ kept_byte img k (clean k) ∙ get_or_default img k 0 d (omega (arith, low, kept_length img)))

-- where the undo area isn't cut in two, a wide undo leaves as many bytes as the file had
wide_length_is : (o : Order) (img : List ℕ) (x : ℕ) → (x < key_len_of o img x → x + 24 + rec_len_of o img x ≤ key_len_of o img x) → wide_length o img x ≡ key_len_of o img x
wide_length_is o img x apart = elim (cases_lt x (key_len_of o img x)) [
  | inl stays ↦
      let most : max (key_len_of o img x) (x + 24 + rec_len_of o img x) ≡ key_len_of o img x = omega (arith, apart stays) in
      rw (lt-ltb x (key_len_of o img x) stays) most
  | inr past ↦ rw (le-ltb x (key_len_of o img x) past) refl
]

-- so it gives what any undo gives
wide_same : (f : Form) (img : List ℕ) → Undoable f img → widely_undone f img ≡ undone f.order img (word f.order img 44) (entries f img)
wide_same f img u =
    let x = word f.order img 44 in
    ap (λ n. map (undone_byte f.order img x (entries f img)) (range_with_len 0 n)) (wide_length_is f.order img x (old_length f img u).apart)

-- an undo area in place has a header
not_lacking : (f : Form) (img : List ℕ) → AreaOk f img → lacks_header f img ≡ false
not_lacking f img ok = elim (cases_Bool (lacks_header f img)) [
  | inr has ↦ has
  | inl lacks ↦
      let parts = and_parts _ _ lacks in
      let stands = stands_from f img (word f.order img 44) (not-true (is_out f img (word f.order img 44)) parts.0) in
      absurd (never ok stands.1 (eqb-true (magic_of f.order img (word f.order img 44)) padding_word parts.1))
]
  where
    never : AreaOk f img → data_start f ≤ word f.order img 44 → magic_of f.order img (word f.order img 44) ≡ padding_word → ⊥
    never (inl none) above magic = absurd (omega (arith, none, above))
    never (inr place) above magic = elim place.gate [ inl gate ↦ absurd (omega (arith, gate, magic)) | inr gate ↦ absurd (omega (arith, gate, magic)) ]

-- nothing is shut in an undo area that is open
not_shut : (f : Form) (img : List ℕ) → is_open f img ≡ true → Shut f img → ⊥
not_shut f img h shut =
    let parts = and_parts _ _ h in
    let stands = stands_from f img (word f.order img 44) (not-true (is_out f img (word f.order img 44)) (and_parts _ _ parts.0).0) in
    let gate = eqb-true (magic_of f.order img (word f.order img 44)) GATE_OPEN parts.1 in
    elim shut [ inl none ↦ absurd (omega (arith, none, stands.1)) | inr closed ↦ absurd (omega (arith, closed, gate)) ]

-- what the undo area of a file that opens leaves of it
undone_opened : (img : List ℕ) → Opens img → undone_as img ≡ restored (form_of img) img
undone_opened img o =
    let f = form_of img in
    rw (not_lacking f img o.area_ok)
    (elim (cases_Bool (is_open f img)) [
      | inr closed ↦ rw closed refl
      | inl gate ↦
          elim o.undo [
            | inl shut ↦ absurd (not_shut f img gate shut)
            | inr u ↦ rw gate (wide_same f img u)
          ]
    ])

-- what a file that opens is read as: its header doesn't tell of mutexes
read_opened : (img : List ℕ) → Opens img → read_as img ≡ restored (form_of img) img
read_opened img o = ap without_mutexes (undone_opened img o) ∙ sound_unlocked (restored (form_of img) img) o.accepted.header.no_fault

-- entries of which none is bad are parsed
all_parsed : (end old : ℕ) (es : List Entry) → entry_fault end old es ≡ None → unparsed end es ≡ None
all_parsed end old [] h = refl
all_parsed end old (e ∷ es) h =
    let parts = none_parts (is_bad_entry end old e) _ _ h in
    let good = or_parts (nat_lt end (e.place + 8 + e.len)) (nat_lt old (e.off + e.len)) parts.0 in
    none_both (nat_lt end (e.place + 8 + e.len)) _ _ good.0 (all_parsed end old es parts.1)

-- nothing is wrong with an undo area that can be undone
wide_none : (f : Form) (img : List ℕ) → Undoable f img → wide_fault_at f img (word f.order img 44) ≡ None
wide_none f img u =
    let x = word f.order img 44 in
    let n = key_len_of f.order img x in
    let a = none_parts (is_bad_cut f img x) _ _ u.no_fault in
    let b = none_parts (nat_lt (rec_len_of f.order img x) (data_len_of f.order img x)) _ _ a.1 in
    let whole = or_parts (is_no_length f img x) (nat_lt x n && nat_lt n (x + 24 + rec_len_of f.order img x)) a.0 in
    none_both (is_no_length f img x) _ _ whole.0
    (none_both (nat_lt (rec_len_of f.order img x) (data_len_of f.order img x)) _ _ b.0
    (all_parsed (entries_end f.order img x) n (entries f img) b.1))

no_mend_fault : (img : List ℕ) → Opens img → mend_fault (form_of img) img ≡ None
no_mend_fault img o =
    let f = form_of img in
    elim (cases_eq (word f.order img 44) 0) [
      | inl none ↦ rw (eq-eqb (word f.order img 44) 0 none) refl
      | inr some ↦ rw (ne_eqb (word f.order img 44) 0 some) (at_place f o.area_ok o.undo some)
    ]
  where
    at_gate : (f : Form) → AreaInPlace f img (word f.order img 44) → Shut f img ⊎ Undoable f img → (word f.order img 44 ≡ 0 → ⊥) → mend_fault_at f img (word f.order img 44) ≡ None
    at_gate f place undo some =
        let x = word f.order img 44 in
        rw (stands_to f img x place.aligned place.above (omega (arith, place.within)))
        (rw (ne_eqb (magic_of f.order img x) padding_word (elim place.gate [ inl gate ↦ (λ e. absurd (omega (arith, e, gate))) | inr gate ↦ (λ e. absurd (omega (arith, e, gate))) ]))
        (rw (long_to f img x place.len_aligned place.within)
        (elim undo [
          | inr u ↦ rw (eq-eqb (magic_of f.order img x) GATE_OPEN u.gate_open) (wide_none f img u)
          | inl shut ↦
              elim shut [
                | inl none ↦ absurd (some none)
                | inr gate ↦ rw (ne_eqb (magic_of f.order img x) GATE_OPEN (λ e. absurd (omega (arith, e, gate)))) (rw (eq-eqb (magic_of f.order img x) GATE_SHUT gate) refl)
              ]
        ])))

    at_place : (f : Form) → AreaOk f img → Shut f img ⊎ Undoable f img → (word f.order img 44 ≡ 0 → ⊥) → mend_fault_at f img (word f.order img 44) ≡ None
    at_place f (inl none) undo some = absurd (some none)
    at_place f (inr place) undo some = at_gate f place undo some

pub opens_and_mends_alike : OpensAndMendsAlike
opens_and_mends_alike img o =
    let f = form_of img in
    let same = read_opened img o in
    let sound = accepted_no_fault (restored f img) o.accepted in (
      record {
        no_fault = no_mend_fault img o;
        sound = subst IsSoundButStrays (sym same) (record { lists = sound.lists; apart = sound.apart });
      },
      ap without_strays same ∙ nothing_stray (restored f img) sound.clean,
    )

pub accepted_is_as_it_is : AcceptedIsAsItIs
accepted_is_as_it_is img A =
    let opens = (accepted_opens img A).opens in
    let as_it_is : restored (form_of img) img ≡ img = read_as_it_is (form_of img) img A.shut in
    let same : read_as img ≡ img = read_opened img opens ∙ as_it_is in
    let none_changed : bytes_changed img img ≡ 0 = count_no (λ i. not (slice_index img i == slice_index img i)) 0 (length img) (λ i high low. ap not (eq-eqb (slice_index img i) (slice_index img i) refl)) in
    let none_stray : strays img ≡ 0 = count_no (is_stray img) 0 (length img) (λ i high low. (accepted_no_fault img A).clean i) in (
      (opens_and_mends_alike img opens).1 ∙ as_it_is,
      ap (λ x. bytes_changed img x + strays x) same ∙ omega (arith, none_changed, none_stray),
    )

pub opens_at_front : OpensAtFront
opens_at_front img o = ap (λ n. drop n img) (sound_here img o.header.no_fault)
