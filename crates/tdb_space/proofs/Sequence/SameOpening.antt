-- Two images that differ at most in the sequence number, the word at 48: they can be undone and opened alike, and are
-- read as images that differ at most there too.
use Rattle.std.proofs.Common.{◌≡◌, ℕ, zero, suc, ◌+◌, ◌<◌, ◌≤◌, ◌⊎◌, ◌&&◌, ◌||◌, Bool, true, false, not, List, [], ◌∷◌, length, take, Option, Some, refl, sym, ◌∙◌, ap, subst, inl, inr, arith}
use Rattle.std.specs.Prelude.{◌%◌, ◌==◌, nat_lt, nat_le, slice_index, if◌then◌else◌}
use Rattle.std.proofs.lemmas.Bool.{cases_Bool, cases_lt, and_parts, not-true}
use Rattle.std.proofs.lemmas.List.{get_or_past}
use Rattle.tdb_words.specs.declared.record.TheConstants.{GATE_OPEN}
use Rattle.tdb_words.specs.declared.what.What.TheVariants.{UndoBad}
use Rattle.tdb_words.specs.declared.word.Order.{Order}
use Rattle.tdb_words.specs.Word.{word}
use Rattle.tdb_words.specs.Header.{HeaderOk}
use Rattle.tdb_space.specs.Form.{Form, form_of, data_start}
use Rattle.tdb_space.specs.Record.{key_len_of, data_len_of, magic_of}
use Rattle.tdb_space.specs.Pairs.{map_of}
use Rattle.tdb_space.specs.Accepted.{AreaOk, Shut, AcceptWith, Accept}
use Rattle.tdb_space.specs.FirstFault.{is_out, is_long}
use Rattle.tdb_space.specs.Exchange.{ButSequence}
use Rattle.tdb_space.specs.Opening.{Entry, entry_at, entries_from, entries_end, entries, is_bad_cut, entry_fault, undo_fault_at, undo_fault, Undoable, lies_in, last_covering, given_back, undone_byte, undone, is_open, restored, Opens, own_map, OpensTo, Mild}
use Rattle.tdb_space.specs.Sequence.{SameOpening}
use Rattle.tdb_space.proofs.Sequence.SameImages.{sequence_accepted, sequence_map}
use Rattle.tdb_space.proofs.Opening.Undone.{undone_read, undone_length}
use Rattle.tdb_space.proofs.Sequence.SameRecords.{turned, word_past, rest_past, rec_len_past, key_len_past, data_len_past, magic_past}
use Rattle.tdb_space.proofs.Sequence.SameFront.{same_form, same_header_fault, same_out, past_out, same_long, same_area_word, same_area_place, same_area_ok, same_shut, same_gate}

-- accepted alike, each by its own header
own_accepted : (a b : List ℕ) → ButSequence a b → Accept a → Accept b
own_accepted a b s h = subst (λ f. AcceptWith f b []) (sym (same_form a b s)) (sequence_accepted (form_of a) a b [] h s)

own_same : (a b : List ℕ) → ButSequence a b → Accept a → (key : List ℕ) → own_map b key ≡ own_map a key
own_same a b s h key = ap (λ f. map_of f b key) (same_form a b s) ∙ sequence_map (form_of a) a b [] h s key

-- the entries of an undo area at an offset
abbrev entries_there : Form → List ℕ → ℕ → List Entry
entries_there f img x = entries_from f.order img (data_len_of f.order img x) (x + 24) (entries_end f.order img x)

module _ (a b : List ℕ) (s : ButSequence a b) where
  -- the entries of an undo area past the sequence number
  entry_same : (o : Order) (at : ℕ) → 52 ≤ at → entry_at o b at ≡ entry_at o a at
  entry_same o at past = λ j. record {
    place = at;
    off = word_past a b s o at past j;
    len = word_past a b s o (at + 4) (omega (arith, past)) j;
    olds = take (word_past a b s o (at + 4) (omega (arith, past)) j) (rest_past a b s (at + 8) (omega (arith, past)) j);
  }

  entries_past : (o : Order) (n at end : ℕ) → 52 ≤ at → entries_from o b n at end ≡ entries_from o a n at end
  entries_past o zero at end past = refl
  entries_past o (suc n) at end past =
      let more : entries_from o b n (at + 8 + word o b (at + 4)) end ≡ entries_from o a n (at + 8 + word o a (at + 4)) end =
      ap (λ w. entries_from o b n (at + 8 + w) end) (word_past a b s o (at + 4) (omega (arith, past))) ∙ entries_past o n (at + 8 + word o a (at + 4)) end (omega (arith, past)) in
      λ j. if nat_lt (at + 8) end then entry_same o at past j ∷ more j else []

  entries_at : (f : Form) (x : ℕ) → 52 ≤ x → entries_there f b x ≡ entries_there f a x
  entries_at f x past =
      ap (λ n. entries_from f.order b n (x + 24) (x + 24 + n)) (data_len_past a b s f.order x past)
      ∙ entries_past f.order (data_len_of f.order a x) (x + 24) (x + 24 + data_len_of f.order a x) (omega (arith, past))

  entries_same : (f : Form) → 52 ≤ word f.order a 44 → entries f b ≡ entries f a
  entries_same f past = ap (entries_there f b) (same_area_word a b s f) ∙ entries_at f (word f.order a 44) past

  -- what is wrong with them
  cut_same : (f : Form) (x : ℕ) → 52 ≤ x → is_bad_cut f b x ≡ is_bad_cut f a x
  cut_same f x past =
      let key_len = key_len_past a b s f.order x past in
      λ j.
      nat_lt (key_len j) (data_start f) || nat_lt (s.size j) (key_len j)
      || nat_lt x (key_len j) && nat_lt (key_len j) (x + 24 + rec_len_past a b s f.order x past j)

  fault_at : (f : Form) (x : ℕ) (es : List Entry) → 52 ≤ x → undo_fault_at f b x es ≡ undo_fault_at f a x es
  fault_at f x es past =
      let data_len = data_len_past a b s f.order x past in
      λ j.
      if cut_same f x past j then Some (UndoBad, x + 8)
      else if nat_lt (rec_len_past a b s f.order x past j) (data_len j) then Some (UndoBad, x + 12)
      else entry_fault (x + 24 + data_len j) (key_len_past a b s f.order x past j) es

  undo_fault_same : (f : Form) → 52 ≤ word f.order a 44 → undo_fault f b ≡ undo_fault f a
  undo_fault_same f past = (λ j. undo_fault_at f b (same_area_word a b s f j) (entries_same f past j)) ∙ fault_at f (word f.order a 44) (entries f a) past

  undoable_same : (f : Form) → Undoable f a → Undoable f b
  undoable_same f u = record {
    in_place = same_area_place a b s f u.in_place;
    gate_open = same_gate a b s f u.in_place ∙ u.gate_open;
    no_fault = undo_fault_same f (omega (arith, u.in_place.above)) ∙ u.no_fault;
  }

  -- what the undo gives
  undone_byte_same : (o : Order) (x : ℕ) (es : List Entry) (i : ℕ) → 52 ≤ x → slice_index b i ≡ slice_index a i → undone_byte o b x es i ≡ undone_byte o a x es i
  undone_byte_same o x es i past byte =
      λ j.
      if lies_in (x + 20) 4 i then 0
      else if lies_in 44 4 i then (if nat_le (key_len_past a b s o x past j) x then 0 else byte j)
      else if lies_in x (24 + rec_len_past a b s o x past j) i then byte j
      else given_back (last_covering es i) i (byte j)

  undone_same : (o : Order) (x : ℕ) (es : List Entry) → 52 ≤ x → ButSequence (undone o a x es) (undone o b x es)
  undone_same o x es past =
      let key_len : key_len_of o b x ≡ key_len_of o a x = key_len_past a b s o x past in
      let size : length (undone o b x es) ≡ length (undone o a x es) = undone_length o b x es ∙ key_len ∙ sym (undone_length o a x es) in
      record {
        size = size;
        others = λ i apart.
            elim (cases_lt i (key_len_of o a x)) [
              | inl low ↦ undone_read o b x es i (omega (arith, low, key_len)) ∙ undone_byte_same o x es i past (s.others i apart) ∙ sym (undone_read o a x es i low)
              | inr high ↦ get_or_past (undone o b x es) i 0 (omega (arith, high, key_len, undone_length o b x es)) ∙ sym (get_or_past (undone o a x es) i 0 (omega (arith, high, undone_length o a x es)))
            ];
      }

  -- an undo area whose gate is open stands past the sequence number
  open_past : (f : Form) → is_open f a ≡ true → is_out f a (word f.order a 44) ≡ false
  open_past f h = not-true (is_out f a (word f.order a 44)) (and_parts _ _ (and_parts _ _ h).0).0

  open_same : (f : Form) → is_open f b ≡ is_open f a
  open_same f = ap (open_at b) (same_area_word a b s f) ∙ at_place (word f.order a 44)
    where
      open_at : List ℕ → ℕ → Bool
      open_at img x = not (is_out f img x) && not (is_long f img x) && (magic_of f.order img x == GATE_OPEN)

      at_place : (x : ℕ) → open_at b x ≡ open_at a x
      at_place x =
          elim (cases_Bool (is_out f a x)) [
            | inl out ↦ rw (same_out a b s f x ∙ out) (rw out refl)
            | inr stands ↦
                let past = past_out a b s f x stands in
                λ j. not (same_out a b s f x j) && not (same_long a b s f x past j) && (magic_past a b s f.order x past j == GATE_OPEN)
          ]

  pub read_same : (f : Form) → ButSequence (restored f a) (restored f b)
  read_same f =
      elim (cases_Bool (is_open f a)) [
        | inl gate ↦
            let past = past_out a b s f (word f.order a 44) (open_past f gate) in
            let there : undone f.order b (word f.order b 44) (entries f b) ≡ undone f.order b (word f.order a 44) (entries f a) = λ j. undone f.order b (same_area_word a b s f j) (entries_same f past j) in
            rw (open_same f ∙ gate) (rw gate (subst (ButSequence (undone f.order a (word f.order a 44) (entries f a))) (sym there) (undone_same f.order (word f.order a 44) (entries f a) past)))
        | inr closed ↦ rw (open_same f ∙ closed) (rw closed s)
      ]

  pub read_by_header : ButSequence (restored (form_of a) a) (restored (form_of b) b)
  read_by_header = subst (λ f. ButSequence (restored (form_of a) a) (restored f b)) (sym (same_form a b s)) (read_same (form_of a))

  undo_same : (f : Form) → AreaOk f a → Shut f a ⊎ Undoable f a → Shut f b ⊎ Undoable f b
  undo_same f ok (inl shut) = inl (same_shut a b s f ok shut)
  undo_same f ok (inr undoable) = inr (undoable_same f undoable)

  opens_same : Opens a → Opens b
  opens_same h =
      let long : data_start (form_of a) ≤ length b = omega (arith, h.long, s.size) in
      let header : HeaderOk b = record { long_enough = omega (arith, h.header.long_enough, s.size); no_fault = same_header_fault a b s ∙ h.header.no_fault } in
      record {
        header = header;
        sized = ap (λ n. n % 4) s.size ∙ h.sized;
        long = subst (λ f. data_start f ≤ length b) (sym (same_form a b s)) long;
        area_ok = subst (λ f. AreaOk f b) (sym (same_form a b s)) (same_area_ok a b s (form_of a) h.area_ok);
        undo = subst (λ f. Shut f b ⊎ Undoable f b) (sym (same_form a b s)) (undo_same (form_of a) h.area_ok h.undo);
        accepted = own_accepted (restored (form_of a) a) (restored (form_of b) b) read_by_header h.accepted;
      }

  opens_to_same : (m : List ℕ → Option (List ℕ)) → OpensTo a m → OpensTo b m
  opens_to_same m h = record {
    opens = opens_same h.opens;
    holds = λ key. own_same (restored (form_of a) a) (restored (form_of b) b) read_by_header h.opens.accepted key ∙ h.holds key;
  }

  beside : (i : ℕ) → (i < 44) ⊎ ((52 ≤ i) × (i < 64)) → (i < 48) ⊎ (52 ≤ i)
  beside i (inl low) = inl (omega (arith, low))
  beside i (inr high) = inr high.0

  mild_same : Mild a → Mild b
  mild_same h = record {
    undoable = subst (λ f. Undoable f b) (sym (same_form a b s)) (undoable_same (form_of a) h.undoable);
    header = λ i where_at. read_by_header.others i (beside i where_at) ∙ h.header i where_at ∙ sym (s.others i (beside i where_at));
  }

pub same_opening : (a b : List ℕ) → ButSequence a b → SameOpening a b
same_opening a b s =
    let t = turned a b s in
    record {
      undoable = λ f. (undoable_same a b s f, undoable_same b a t f);
      mild = (mild_same a b s, mild_same b a t);
      read_as = read_same a b s;
      opens = (opens_same a b s, opens_same b a t);
      opens_to = λ m. (opens_to_same a b s m, opens_to_same b a t m);
    }
