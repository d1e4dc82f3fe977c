-- What a recovery writes first is harmless, and all of it is what the entries give back.
use Rattle.std.proofs.Common.{◌≡◌, ℕ, ◌+◌, ◌<◌, ◌≤◌, ◌⊎◌, ◌%◌, ◌||◌, Bool, true, false, Option, Some, None, List, length, not, slice_index, refl, sym, ◌∙◌, ap, subst, inl, inr, arith}
use Rattle.std.specs.Prelude.{nat_lt, is_some}
use Rattle.std.proofs.lemmas.Bool.{cases_Bool, cases_lt, and_left, and_right, and_cases, and_from, or_from, or_parts, not-false, not_from_true, not_from_false, eqb-true, eq-eqb, lt-ltb, le-ltb, lt-leb, le-leb}
use Rattle.tdb_disk.specs.History.{History, seen}
use Rattle.tdb_disk.specs.Stop.{LeavesOnly, Quiet}
use Rattle.tdb_disk.proofs.Runs.{leaves_weaker}
use Rattle.tdb_words.specs.Word.{word}
use Rattle.tdb_words.specs.Record.{rec_at}
use Rattle.tdb_space.specs.Form.{Form, data_start, SameHeader}
use Rattle.tdb_space.specs.Opening.{Entry, entries, entry_fault, Undoable, last_covering, given_back, lies_in, restored}
use Rattle.tdb_space.specs.Undoing.{area_at, area_end, old_size, UndoneAlike, Written}
use Rattle.tdb_space.specs.RecoverySteps.{IsHarmless}
use Rattle.tdb_space.proofs.RecoverySteps.Steps.{restored_given, alike_torn}
use Rattle.tdb_space.proofs.Undoing.Alike.{alike_self, good_entries}
use Rattle.tdb_space.proofs.Opening.Undone.{OldLength, old_length}
use Rattle.tdb_undo.specs.declared.area.Area.{Area}
use Rattle.tdb_undo.specs.Area.{IsAreaOf}
use Rattle.tdb_undo.specs.Torn.{TornIn, Put}
use Rattle.tdb_undo.specs.Entries.{entries_in, entries_stop, is_written, Given}
use Rattle.tdb_undo.specs.Front.{differs}
use Rattle.tdb_undo.specs.Recovery.{ReadFrom}
use Rattle.tdb_undo.proofs.Blocks.{wider_torn, join_torn}
use Rattle.tdb_undo.proofs.Lies.{lies, lies_not}

-- the area that was read, and the image's
module _ (f : Form) (img : List ℕ) (a : Area) (is : IsAreaOf f.order img a) where
  pub same_header : a.header ≡ rec_at f.order img (area_at f img)
  same_header = is.head ∙ ap (rec_at f.order img) is.there

  pub same_end : a.at + 24 + a.header.rec_len ≡ area_end f img
  same_end = λ j. is.there j + 24 + (same_header j).rec_len

  pub same_old : a.header.key_len ≡ old_size f img
  same_old = λ j. (same_header j).key_len

  pub same_entries : entries_in f.order img a ≡ entries f img
  same_entries = λ j. entries_in f.order img (record { at = is.there j; header = same_header j })

  pub no_entry_fault : Undoable f img → entry_fault (entries_stop a) a.header.key_len (entries_in f.order img a) ≡ None
  no_entry_fault u =
      (λ j. entry_fault (is.there j + 24 + (same_header j).data_len) (same_header j).key_len (entries_in f.order img (record { at = is.there j; header = same_header j })))
      ∙ (good_entries f img u).each

clash : (b : Bool) → b ≡ true → b ≡ false → ⊥
clash b right wrong = cc

some_none : (o : Option Entry) → is_some o ≡ false → o ≡ None
some_none None h = refl
some_none (Some e) h = absurd (cc)

none_some : (o : Option Entry) → o ≡ None → is_some o ≡ false
none_some o h = ap is_some h

module _ (f : Form) (img : List ℕ) (a : Area) (before after : List ℕ) (u : Undoable f img) (r : ReadFrom f img a before after) where
  abbrev es : List Entry
  es = entries_in f.order img a

  -- all places that are written: those of the entries, and the first bytes that become others
  abbrev places : ℕ → Bool
  places i = is_written a es i || differs before after i

  old : OldLength f img (word f.order img 44)
  old = old_length f img u

  above : data_start f ≤ area_at f img
  above = u.in_place.above

  low_written : (i : ℕ) → i < 64 → is_written a es i ≡ false
  low_written i low = and_right _ _ (and_left _ _ (lt-leb 64 i low))

  high_differs : (i : ℕ) → 64 ≤ i → differs before after i ≡ false
  high_differs i high = and_left _ _ (le-ltb i 64 high)

  head_differs : (i : ℕ) → 44 ≤ i → i < 48 → differs before after i ≡ false
  head_differs i low high = and_right _ _ (and_left _ _ (not_from_true _ (lies 44 4 i low (omega (arith, high)))))

  same_differs : (i : ℕ) → slice_index before i ≡ slice_index after i → differs before after i ≡ false
  same_differs i same = and_right _ _ (and_right _ _ (not_from_true _ (eq-eqb (slice_index before i) (slice_index after i) same)))

  in_area : (i : ℕ) → area_at f img ≤ i → i < area_end f img → is_written a es i ≡ false
  in_area i low high = and_right _ _ (and_right _ _ (not_from_true _ (lies a.at (24 + a.header.rec_len) i (omega (arith, low, r.area.there)) (omega (arith, high, same_end f img a r.area)))))

  covered_none : (i : ℕ) → last_covering (entries f img) i ≡ None → is_written a es i ≡ false
  covered_none i none = and_left _ _ (none_some _ (ap (λ l. last_covering l i) (same_entries f img a r.area) ∙ none))

  pub harmless : SameHeader img (restored f img) → IsHarmless f img places
  harmless mild = record {
    front = λ i where_at. or_from _ _
        (low_written i (elim where_at [ inl low ↦ omega (arith, low) | inr high ↦ omega (arith, high.1) ]))
        (front_same i where_at);
    area_bytes = λ i low high. or_from _ _ (in_area i low high) (high_differs i (omega (arith, above, low)));
    others = λ i low none. or_from _ _ (covered_none i none)
        (elim (cases_lt i 64) [
          | inr high ↦ high_differs i high
          | inl front ↦ same_differs i (sym (r.given i front ∙ ap (λ o. given_back o i (slice_index before i)) none))
        ]);
  }
    where
      unchanged : (i : ℕ) → i < 64 → (i < 44) ⊎ (48 ≤ i) → (i < 44) ⊎ ((52 ≤ i) × (i < 64)) → slice_index before i ≡ slice_index after i
      unchanged i front apart known =
          r.front i front
          ∙ sym (mild i known)
          ∙ restored_given f img u i (omega (arith, front, old.above)) apart (inl (omega (arith, front, above)))
          ∙ ap (given_back (last_covering (entries f img) i) i) (sym (r.front i front))
          ∙ sym (r.given i front)

      front_same : (i : ℕ) → (i < 48) ⊎ ((52 ≤ i) × (i < 64)) → differs before after i ≡ false
      front_same i (inr high) = same_differs i (unchanged i high.1 (inr (omega (arith, high.0))) (inr high))
      front_same i (inl low) = elim (cases_lt i 44) [
        | inl under ↦ same_differs i (unchanged i (omega (arith, under)) (inl under) (inl under))
        | inr head ↦ head_differs i head low
      ]

  -- a stop of both runs
  pub both_alike : (h mid new : History) → img ≡ seen h → Quiet h → length img % 4 ≡ 0 → SameHeader img (restored f img)
      → LeavesOnly h mid (TornIn (is_written a es) h) → LeavesOnly mid new (TornIn (differs before after) mid) → LeavesOnly h new (UndoneAlike f img)
  both_alike h mid new is quiet sized mild one two =
      leaves_weaker h new (TornIn places h) (UndoneAlike f img)
      (λ image torn. alike_torn f img torn.0 image places (harmless mild)
      (subst (UndoneAlike f img) (is ∙ sym (quiet torn.0 torn.1)) (alike_self f img sized u)) torn.2.size torn.2.others)
      (join_torn h mid new places
      (wider_torn h mid (is_written a es) places (λ i out. (or_parts _ _ out).0) one)
      (wider_torn mid new (differs before after) places (λ i out. (or_parts _ _ out).1) two))

  pub first_alike : (h mid : History) → img ≡ seen h → Quiet h → length img % 4 ≡ 0 → SameHeader img (restored f img)
      → LeavesOnly h mid (TornIn (is_written a es) h) → LeavesOnly h mid (UndoneAlike f img)
  first_alike h mid is quiet sized mild one =
      leaves_weaker h mid (TornIn places h) (UndoneAlike f img)
      (λ image torn. alike_torn f img torn.0 image places (harmless mild)
      (subst (UndoneAlike f img) (is ∙ sym (quiet torn.0 torn.1)) (alike_self f img sized u)) torn.2.size torn.2.others)
      (wider_torn h mid (is_written a es) places (λ i out. (or_parts _ _ out).0) one)

  -- what both runs wrote
  pub all_written : (b c : List ℕ) → Given a es img b → Put (differs before after) (slice_index after) b c → Written f img c
  all_written b c given put = record {
    sized = put.size ∙ given.size;
    inside = λ i low apart outside. elim (cases_lt i 64) [
      | inl front ↦ first_bytes i front apart
      | inr high ↦ put.others i (high_differs i high) ∙ later_bytes i high outside
    ];
    there = λ i low high. put.others i (head_differs i low high) ∙ given.others i (low_written i (omega (arith, high)));
    area_bytes = λ i low high. put.others i (high_differs i (omega (arith, above, low))) ∙ given.others i (in_area i low high);
  }
    where
      told : (i : ℕ) → i < 64 → slice_index after i ≡ given_back (last_covering (entries f img) i) i (slice_index img i)
      told i front = r.given i front ∙ ap (given_back (last_covering (entries f img) i) i) (r.front i front)

      kept : (i : ℕ) → i < 64 → (i < 44) ⊎ (48 ≤ i) → differs before after i ≡ false → slice_index before i ≡ slice_index after i
      kept i front apart same = elim (and_cases (nat_lt i 64) _ same) [
        | inl wrong ↦ absurd (clash (nat_lt i 64) (lt-ltb i 64 front) wrong)
        | inr rest ↦ elim (and_cases (not (lies_in 44 4 i)) _ rest) [
          | inl wrong ↦ absurd (clash (lies_in 44 4 i) (not-false _ wrong) (lies_not 44 4 i (elim apart [ inl low ↦ inl low | inr high ↦ inr (omega (arith, high)) ])))
          | inr equal ↦ eqb-true (slice_index before i) (slice_index after i) (not-false _ equal)
        ]
      ]

      first_bytes : (i : ℕ) → i < 64 → (i < 44) ⊎ (48 ≤ i) → slice_index c i ≡ given_back (last_covering (entries f img) i) i (slice_index img i)
      first_bytes i front apart = elim (cases_Bool (differs before after i)) [
        | inl other ↦ put.inside i other ∙ told i front
        | inr same ↦ put.others i same ∙ given.others i (low_written i front) ∙ sym (r.front i front) ∙ kept i front apart same ∙ told i front
      ]

      later_bytes : (i : ℕ) → 64 ≤ i → (i < area_at f img) ⊎ (area_end f img ≤ i) → slice_index b i ≡ given_back (last_covering (entries f img) i) i (slice_index img i)
      later_bytes i high outside = elim (cases_Bool (is_some (last_covering es i))) [
        | inl some ↦ (
            given.inside i (and_from _ _ some (and_from _ _ (le-leb 64 i high) (not_from_false _ (lies_not a.at (24 + a.header.rec_len) i (elim outside [ inl low ↦ inl (omega (arith, low, r.area.there)) | inr past ↦ inr (omega (arith, past, same_end f img a r.area)) ])))))
            ∙ ap (λ l. given_back (last_covering l i) i (slice_index img i)) (same_entries f img a r.area))
        | inr none ↦ (
            given.others i (and_left _ _ none)
            ∙ ap (λ o. given_back o i (slice_index img i)) (sym (ap (λ l. last_covering l i) (sym (same_entries f img a r.area)) ∙ some_none _ none)))
      ]
