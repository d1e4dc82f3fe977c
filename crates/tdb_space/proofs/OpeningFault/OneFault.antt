-- An image opens, or opening it meets just one first fault.
use Rattle.std.proofs.Common.{◌≡◌, ◌≢◌, ℕ, ◌+◌, ◌⊎◌, not, List, Option, Some, None, refl, sym, ◌∙◌, subst, inl, inr, arith}
use Rattle.std.specs.Prelude.{◌==◌, if◌then◌else◌}
use Rattle.std.proofs.lemmas.Bool.{cases_eq, eq-eqb, ne_eqb}
use Rattle.tdb_words.specs.declared.record.TheConstants.{GATE_OPEN, GATE_SHUT}
use Rattle.tdb_words.specs.declared.what.What.TheVariants.{AreaBad}
use Rattle.tdb_words.specs.Word.{word}
use Rattle.tdb_space.specs.Form.{Form, form_of}
use Rattle.tdb_space.specs.Record.{magic_of}
use Rattle.tdb_space.specs.Accepted.{AreaInPlace, AreaOk, Shut}
use Rattle.tdb_space.specs.FirstFault.{Fault, is_out, is_long, front_fault, area_fault, area_fault_at, IsFirstFault, at_front, at_area, in_chain, in_free_list, at_overlap, at_stray}
use Rattle.tdb_space.specs.Opening.{undo_fault, Undoable, restored, Opens}
use Rattle.tdb_space.specs.OpeningFault.{opening_fault_at, opening_fault, IsOpeningFault, in_front, in_undo_area, in_restored}
use Rattle.tdb_space.proofs.FirstFault.Cleared.{none_parts, none_both, stands_from, stands_to, long_from, long_to, same_from, same_to}
use Rattle.tdb_space.proofs.FirstFault.Faults.{one_first, none_first}
use Rattle.tdb_space.proofs.FirstFault.Agreed.{front_ok, front_none, accepted_no_fault}
use Rattle.tdb_space.proofs.FirstFault.Refused.{fault_or_accepted}
use Rattle.tdb_space.proofs.Opening.Undone.{read_as_it_is}
use Rattle.tdb_space.proofs.Undoing.Alike.{none_or_some}

-- opening finds nothing wrong with an undo area that is in place, and shut or undoable
opening_at_from : (f : Form) (img : List ℕ) → opening_fault_at f img (word f.order img 44) ≡ None → AreaInPlace f img (word f.order img 44) × (Shut f img ⊎ Undoable f img)
opening_at_from f img h =
    let x = word f.order img 44 in
    let a = none_parts (is_out f img x) _ _ h in
    let b = none_parts (is_long f img x) _ _ a.1 in
    let s = stands_from f img x a.0 in
    let l = long_from f img x b.0 in
    elim (cases_eq (magic_of f.order img x) GATE_OPEN) [
      | inl gate ↦
          let good : undo_fault f img ≡ None = rw (eq-eqb (magic_of f.order img x) GATE_OPEN gate) at b.1 in
          let place : AreaInPlace f img x = record { aligned = s.0; above = s.1; len_aligned = l.0; within = l.1; gate = inl gate } in
          (place, inr (record { in_place = place; gate_open = gate; no_fault = good }))
      | inr other ↦
          let rest : (if not (magic_of f.order img x == GATE_SHUT) then Some (AreaBad, x + 20) else None) ≡ None = rw (ne_eqb (magic_of f.order img x) GATE_OPEN other) at b.1 in
          let shut = same_from (magic_of f.order img x) GATE_SHUT (none_parts _ _ _ rest).0 in
          (record { aligned = s.0; above = s.1; len_aligned = l.0; within = l.1; gate = inr shut }, inl (inr shut))
    ]

pub opening_from : (f : Form) (img : List ℕ) → opening_fault f img ≡ None → AreaOk f img × (Shut f img ⊎ Undoable f img)
opening_from f img h =
    elim (cases_eq (word f.order img 44) 0) [
      | inl none ↦ (inl none, inl (inl none))
      | inr some ↦
          let there : opening_fault_at f img (word f.order img 44) ≡ None = rw (ne_eqb (word f.order img 44) 0 some) at h in
          let ok = opening_at_from f img there in
          (inr ok.0, ok.1)
    ]

opening_at_to : (f : Form) (img : List ℕ) → AreaInPlace f img (word f.order img 44) → (magic_of f.order img (word f.order img 44) ≡ GATE_SHUT) ⊎ Undoable f img → opening_fault_at f img (word f.order img 44) ≡ None
opening_at_to f img p gate =
    let x = word f.order img 44 in
    none_both (is_out f img x) _ _ (stands_to f img x p.aligned p.above (omega (arith, p.within)))
    (none_both (is_long f img x) _ _ (long_to f img x p.len_aligned p.within)
    (elim gate [
      | inl shut ↦ rw (ne_eqb (magic_of f.order img x) GATE_OPEN (λ e. absurd (omega (arith, e, shut)))) (none_both (not (magic_of f.order img x == GATE_SHUT)) _ _ (same_to (magic_of f.order img x) GATE_SHUT shut) refl)
      | inr u ↦ rw (eq-eqb (magic_of f.order img x) GATE_OPEN u.gate_open) u.no_fault
    ]))

pub opening_to : (f : Form) (img : List ℕ) → AreaOk f img → Shut f img ⊎ Undoable f img → opening_fault f img ≡ None
opening_to f img ok undo =
    elim (cases_eq (word f.order img 44) 0) [
      | inl none ↦ rw (eq-eqb (word f.order img 44) 0 none) refl
      | inr some ↦ rw (ne_eqb (word f.order img 44) 0 some) (from_parts ok undo some)
    ]
  where
    from_parts : AreaOk f img → Shut f img ⊎ Undoable f img → word f.order img 44 ≢ 0 → opening_fault_at f img (word f.order img 44) ≡ None
    from_parts (inl none) s some = absurd (some none)
    from_parts (inr a) (inl (inl none)) some = absurd (some none)
    from_parts (inr a) (inl (inr shut)) some = opening_at_to f img a (inl shut)
    from_parts (inr a) (inr u) some = opening_at_to f img a (inr u)

-- what an image that opens has in its front and in its undo area
front_opens : (img : List ℕ) → Opens img → front_fault img ≡ None
front_opens img h = front_none img (record { header = h.header; sized = h.sized; long = h.long })

area_opens : (img : List ℕ) → Opens img → opening_fault (form_of img) img ≡ None
area_opens img h = opening_to (form_of img) img h.area_ok h.undo

pub opens_or_fault : (img : List ℕ) → Opens img ⊎ ((e : Fault) × IsOpeningFault img e)
opens_or_fault img =
    elim (none_or_some (front_fault img)) [
      | inr found ↦ inr (found.0, in_front found.0 found.1)
      | inl front ↦
          elim (none_or_some (opening_fault (form_of img) img)) [
            | inr found ↦ inr (found.0, in_undo_area found.0 front found.1)
            | inl area ↦
                elim (fault_or_accepted (restored (form_of img) img)) [
                  | inr found ↦ inr (found.0, in_restored found.0 front area found.1)
                  | inl accepted ↦
                      let ok = front_ok img front in
                      let undo = opening_from (form_of img) img area in
                      inl (record { header = ok.header; sized = ok.sized; long = ok.long; area_ok = undo.0; undo = undo.1; accepted = accepted })
                ]
          ]
    ]

some_none : (e : Fault) (o : Option Fault) → o ≡ Some e → o ≡ None → ⊥
some_none e o s n = cc

same_some : (a b : Fault) (o : Option Fault) → o ≡ Some a → o ≡ Some b → a ≡ b
same_some a b o s t = cc

pub one_opening : (img : List ℕ) (a b : Fault) → IsOpeningFault img a → IsOpeningFault img b → a ≡ b
one_opening img _ _ (in_front a p) (in_front b q) = same_some a b (front_fault img) p q
one_opening img _ _ (in_front a p) (in_undo_area b f q) = absurd (some_none a (front_fault img) p f)
one_opening img _ _ (in_front a p) (in_restored b f o q) = absurd (some_none a (front_fault img) p f)
one_opening img _ _ (in_undo_area a f p) (in_front b q) = absurd (some_none b (front_fault img) q f)
one_opening img _ _ (in_undo_area a f p) (in_undo_area b g q) = same_some a b (opening_fault (form_of img) img) p q
one_opening img _ _ (in_undo_area a f p) (in_restored b g o q) = absurd (some_none a (opening_fault (form_of img) img) p o)
one_opening img _ _ (in_restored a f o p) (in_front b q) = absurd (some_none b (front_fault img) q f)
one_opening img _ _ (in_restored a f o p) (in_undo_area b g q) = absurd (some_none b (opening_fault (form_of img) img) q o)
one_opening img _ _ (in_restored a f o p) (in_restored b g n q) = one_first (restored (form_of img) img) a b p q

pub never_both_ways : (img : List ℕ) (e : Fault) → IsOpeningFault img e → Opens img → ⊥
never_both_ways img _ (in_front e p) h = some_none e (front_fault img) p (front_opens img h)
never_both_ways img _ (in_undo_area e f p) h = some_none e (opening_fault (form_of img) img) p (area_opens img h)
never_both_ways img _ (in_restored e f o p) h = none_first (restored (form_of img) img) e p (accepted_no_fault (restored (form_of img) img) h.accepted)

-- where nothing has to be undone, an opening looks at the undo area as a check does
same_area : (f : Form) (img : List ℕ) → Shut f img → opening_fault f img ≡ area_fault f img
same_area f img shut =
    elim (cases_eq (word f.order img 44) 0) [
      | inl none ↦ rw (eq-eqb (word f.order img 44) 0 none) refl
      | inr some ↦ rw (ne_eqb (word f.order img 44) 0 some) (there (elim shut [ inl none ↦ absurd (some none) | inr gate ↦ gate ]))
    ]
  where
    there : magic_of f.order img (word f.order img 44) ≡ GATE_SHUT → opening_fault_at f img (word f.order img 44) ≡ area_fault_at f img (word f.order img 44)
    there gate = rw (ne_eqb (magic_of f.order img (word f.order img 44)) GATE_OPEN (λ e. absurd (omega (arith, e, gate)))) refl

module _ (img : List ℕ) (shut : Shut (form_of img) img) where
  as_check : opening_fault (form_of img) img ≡ area_fault (form_of img) img
  as_check = same_area (form_of img) img shut

  opening_first : (e : Fault) → IsOpeningFault img e → IsFirstFault img e
  opening_first _ (in_front e p) = at_front e p
  opening_first _ (in_undo_area e f p) = at_area e f (sym as_check ∙ p)
  opening_first _ (in_restored e f o p) = subst (λ l. IsFirstFault l e) (read_as_it_is (form_of img) img shut) p

  later : (e : Fault) → front_fault img ≡ None → area_fault (form_of img) img ≡ None → IsFirstFault img e → IsOpeningFault img e
  later e front area p = in_restored e front (as_check ∙ area) (subst (λ l. IsFirstFault l e) (sym (read_as_it_is (form_of img) img shut)) p)

  first_opening : (e : Fault) → IsFirstFault img e → IsOpeningFault img e
  first_opening _ (at_front e p) = in_front e p
  first_opening _ (at_area e f p) = in_undo_area e f (as_check ∙ p)
  first_opening _ (in_chain e j heads low before p) = later e heads.0 heads.1 (in_chain e j heads low before p)
  first_opening _ (in_free_list e heads chains p) = later e heads.0 heads.1 (in_free_list e heads chains p)
  first_opening _ (at_overlap at lists p) = later _ lists.heads.0 lists.heads.1 (at_overlap at lists p)
  first_opening _ (at_stray at lists apart p) = later _ lists.heads.0 lists.heads.1 (at_stray at lists apart p)

pub same_where_shut : (img : List ℕ) (e : Fault) → Shut (form_of img) img → (IsOpeningFault img e → IsFirstFault img e) × (IsFirstFault img e → IsOpeningFault img e)
same_where_shut img e shut = (opening_first img shut e, first_opening img shut e)
