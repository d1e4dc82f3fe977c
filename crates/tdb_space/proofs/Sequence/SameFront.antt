-- Two images that differ at most in the sequence number, the word at 48: their headers, their fronts and their undo
-- areas have the same faults.
use Rattle.std.proofs.Common.{◌≡◌, ℕ, ◌+◌, ◌<◌, ◌≤◌, ◌||◌, false, not, List, take, min, Some, None, refl, sym, ◌∙◌, ap, subst, inl, inr, arith}
use Rattle.std.specs.Prelude.{◌%◌, ◌==◌, nat_lt, is_some, if◌then◌else◌}
use Rattle.std.proofs.lemmas.Bool.{cases_Bool}
use Rattle.std.proofs.lemmas.Grind.{same_number_lists}
use Rattle.std.proofs.lemmas.List.{length-take, get_or-take}
use Rattle.tdb_words.specs.declared.record.TheConstants.{GATE_OPEN, GATE_SHUT}
use Rattle.tdb_words.specs.declared.what.What.TheVariants.{Short, Header, AreaBad, UndoBad}
use Rattle.tdb_words.specs.Word.{word}
use Rattle.tdb_words.specs.Header.{header_fault}
use Rattle.tdb_words.proofs.SameHeader.{same_fault}
use Rattle.tdb_space.specs.Form.{Form, form_of, data_start, SameHeader}
use Rattle.tdb_space.specs.Record.{rec_len_of, magic_of}
use Rattle.tdb_space.specs.Accepted.{AreaInPlace, AreaOk, Shut}
use Rattle.tdb_space.specs.FirstFault.{is_out, is_long, front_fault, area_fault, area_fault_at}
use Rattle.tdb_space.specs.Exchange.{ButSequence}
use Rattle.tdb_space.specs.Sequence.{SameFront}
use Rattle.tdb_space.proofs.Form.Headers.{form_kept}
use Rattle.tdb_space.proofs.FirstFault.Cleared.{stands_from}
use Rattle.tdb_space.proofs.Sequence.SameRecords.{word_beside, rec_len_past, magic_past}

module _ (a b : List ℕ) (s : ButSequence a b) where
  known : SameHeader a b
  known i where_at = s.others i (elim where_at [ inl low ↦ inl (omega arith) | inr both ↦ inr both.0 ])

  pub same_form : form_of b ≡ form_of a
  same_form = form_kept a b known

  text : take 10 b ≡ take 10 a
  text = same_number_lists (take 10 b) (take 10 a) (length-take 10 b ∙ ap (min 10) s.size ∙ sym (length-take 10 a)) (λ k low.
      (let short : k < 10 = omega (arith, low, length-take 10 b) in
      get_or-take 10 b k 0 short ∙ s.others k (inl (omega arith)) ∙ sym (get_or-take 10 a k 0 short)))

  pub same_header_fault : header_fault b ≡ header_fault a
  same_header_fault = same_fault b a (record { text = text; low = λ i above below. s.others i (inl (omega arith)); high = λ i above below. s.others i (inr above) })

  pub same_front_fault : front_fault b ≡ front_fault a
  same_front_fault =
      λ j.
      if nat_lt (s.size j) 168 then Some (Short, s.size j)
      else if is_some (same_header_fault j) then Some (Header, 0)
      else if not (s.size j % 4 == 0) || nat_lt (s.size j) (data_start (same_form j)) then Some (Short, s.size j)
      else None

  -- the tests of a place where a record's header or an undo area is to stand
  pub same_out : (f : Form) (x : ℕ) → is_out f b x ≡ is_out f a x
  same_out f x = λ j. not (x % 4 == 0) || nat_lt x (data_start f) || nat_lt (s.size j) (x + 24)

  pub past_out : (f : Form) (x : ℕ) → is_out f a x ≡ false → 52 ≤ x
  past_out f x stands = omega (arith, (stands_from f a x stands).1)

  pub same_long : (f : Form) (x : ℕ) → 52 ≤ x → is_long f b x ≡ is_long f a x
  same_long f x past = λ j. not (rec_len_past a b s f.order x past j % 4 == 0) || nat_lt (s.size j) (x + 24 + rec_len_past a b s f.order x past j)

  -- where the undo area stands
  pub same_area_word : (f : Form) → word f.order b 44 ≡ word f.order a 44
  same_area_word f = word_beside a b s f.order 44 (inl (omega arith))

  area_at : (f : Form) (x : ℕ) → area_fault_at f b x ≡ area_fault_at f a x
  area_at f x =
      elim (cases_Bool (is_out f a x)) [
        | inl out ↦ rw (same_out f x ∙ out) (rw out refl)
        | inr stands ↦
            let past = past_out f x stands in
            λ j.
            if same_out f x j then Some (AreaBad, 44)
            else if same_long f x past j then Some (AreaBad, x + 4)
            else if magic_past a b s f.order x past j == GATE_OPEN then Some (UndoBad, x + 20)
            else if not (magic_past a b s f.order x past j == GATE_SHUT) then Some (AreaBad, x + 20)
            else None
      ]

  pub same_area_fault : (f : Form) → area_fault f b ≡ area_fault f a
  same_area_fault f = λ j. if same_area_word f j == 0 then None else (ap (area_fault_at f b) (same_area_word f) ∙ area_at f (word f.order a 44)) j

  pub same_area_place : (f : Form) → AreaInPlace f a (word f.order a 44) → AreaInPlace f b (word f.order b 44)
  same_area_place f place =
      let x = word f.order a 44 in
      let past : 52 ≤ x = omega (arith, place.above) in
      let len : rec_len_of f.order b x ≡ rec_len_of f.order a x = rec_len_past a b s f.order x past in
      let gate : magic_of f.order b x ≡ magic_of f.order a x = magic_past a b s f.order x past in
      let there : AreaInPlace f b x = record {
        aligned = place.aligned;
        above = place.above;
        len_aligned = ap (λ n. n % 4) len ∙ place.len_aligned;
        within = omega (arith, len, s.size, place.within);
        gate = elim place.gate [ inl is_open ↦ inl (gate ∙ is_open) | inr is_shut ↦ inr (gate ∙ is_shut) ];
      } in
      subst (AreaInPlace f b) (sym (same_area_word f)) there

  pub same_area_ok : (f : Form) → AreaOk f a → AreaOk f b
  same_area_ok f (inl none) = inl (same_area_word f ∙ none)
  same_area_ok f (inr place) = inr (same_area_place f place)

  -- the gate of an undo area that is in place
  pub same_gate : (f : Form) → AreaInPlace f a (word f.order a 44) → magic_of f.order b (word f.order b 44) ≡ magic_of f.order a (word f.order a 44)
  same_gate f place = ap (magic_of f.order b) (same_area_word f) ∙ magic_past a b s f.order (word f.order a 44) (omega (arith, place.above))

  pub same_shut : (f : Form) → AreaOk f a → Shut f a → Shut f b
  same_shut f ok (inl none) = inl (same_area_word f ∙ none)
  same_shut f (inl none) (inr shut) = inl (same_area_word f ∙ none)
  same_shut f (inr place) (inr shut) = inr (same_gate f place ∙ shut)

pub same_front : (a b : List ℕ) → ButSequence a b → SameFront a b
same_front a b s = record { header = same_header_fault a b s; form = same_form a b s; front = same_front_fault a b s; undo_area = same_area_fault a b s }
