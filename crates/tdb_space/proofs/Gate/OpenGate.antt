-- An accepted image reopens with its gate open, where its entries give back what stands there and no record is cut off.
use Rattle.std.proofs.Common.{◌≡◌, ℕ, ◌+◌, ◌<◌, ◌≤◌, ◌⊎◌, List, [], length, sym, ◌∙◌, ap, subst, inl, inr, arith}
use Rattle.std.specs.Prelude.{slice_index, ◌%◌}
use Rattle.std.proofs.lemmas.Bool.{cases_lt}
use Rattle.tdb_disk.proofs.Image.{length-overlay}
use Rattle.tdb_words.specs.declared.record.TheConstants.{GATE_OPEN}
use Rattle.tdb_words.specs.Word.{word, bytes_of_word}
use Rattle.tdb_words.specs.Header.{sequence_of}
use Rattle.tdb_words.proofs.Words.{word_agrees}
use Rattle.tdb_space.specs.Form.{Form, form_of, data_start, SameHeader}
use Rattle.tdb_space.specs.Record.{rec_len_of, key_len_of}
use Rattle.tdb_space.specs.Pairs.{map_of}
use Rattle.tdb_space.specs.Extents.{times, area}
use Rattle.tdb_space.specs.Accepted.{AreaInPlace, AcceptWith, Accept}
use Rattle.tdb_space.specs.Opening.{entries, Undoable, last_covering, given_back, restored, Opens, own_map, Mild}
use Rattle.tdb_space.specs.Moved.{AreaMoved, StaysAccepted}
use Rattle.tdb_space.specs.Undoing.{area_at, area_end, old_size, Reopens}
use Rattle.tdb_space.specs.Gate.{gate_opened, IsReadyToOpen}
use Rattle.tdb_space.proofs.Form.Headers.{form_kept, header_kept}
use Rattle.tdb_space.proofs.Opening.Undone.{old_length, undone_once}
use Rattle.tdb_space.proofs.Undoing.Alike.{none_or_some}
use Rattle.tdb_space.proofs.Moved.SameLists.{moved_stays}
use Rattle.tdb_space.proofs.Undoing.Tails.{lists_within, no_area_held}
use Rattle.tdb_space.proofs.RecoverySteps.Steps.{restored_length, restored_given, restored_area, restored_stays, restored_no_area}
use Rattle.tdb_space.proofs.RecoverySteps.Emptying.{word_beside}
use Rattle.tdb_space.proofs.Gate.Contents.{in_lists, area_apart, chain_in_lists, area_out, area_not, area_same}

module _ (f : Form) (a : List ℕ) (A : AcceptWith f a []) (h : IsReadyToOpen f a) where
  abbrev b : List ℕ
  b = gate_opened f a

  abbrev r : List ℕ
  r = restored f (gate_opened f a)

  size : length b ≡ length a
  size = length-overlay a (area_at f a + 20) (bytes_of_word f.order GATE_OPEN)

  u : Undoable f b
  u = h.undoable

  off_gate : (i : ℕ) → (i < area_at f a + 20) ⊎ (area_at f a + 24 ≤ i) → slice_index b i ≡ slice_index a i
  off_gate i out = word_beside f.order a (area_at f a + 20) GATE_OPEN i (elim out [ inl lt ↦ inl lt | inr le ↦ inr (omega (arith, le)) ])

  in_place : AreaInPlace f a (area_at f a)
  in_place =
      elim A.area_ok [
        | inl none ↦
            let gone : word f.order b 44 ≡ 0 = word_agrees f.order b a 44 (λ i from _. off_gate i (inr (omega (arith, from, none)))) ∙ none in
            absurd (omega (arith, gone, u.in_place.above))
        | inr place ↦ place
      ]

  some : word f.order a 44 ≡ 0 → ⊥
  some none = absurd (omega (arith, none, in_place.above))

  there : word f.order b 44 ≡ word f.order a 44
  there = word_agrees f.order b a 44 (λ i _ to. off_gate i (inl (omega (arith, to, in_place.above))))

  rec_len : rec_len_of f.order b (area_at f b) ≡ rec_len_of f.order a (area_at f a)
  rec_len = ap (rec_len_of f.order b) there ∙ word_agrees f.order b a (area_at f a + 4) (λ i _ to. off_gate i (inl (omega (arith, to))))

  same_old : old_size f b ≡ old_size f a
  same_old = ap (key_len_of f.order b) there ∙ word_agrees f.order b a (area_at f a + 8) (λ i _ to. off_gate i (inl (omega (arith, to))))

  -- outside the undo area and the word at 44 the undo gives what stands there
  given : (i : ℕ) → i < old_size f a → (i < 44) ⊎ (48 ≤ i) → (i < area_at f a) ⊎ (area_end f a ≤ i) → slice_index r i ≡ slice_index a i
  given i low beside out =
      restored_given f b u i (omega (arith, low, same_old)) beside (elim out [ inl lt ↦ inl (omega (arith, lt, there)) | inr le ↦ inr (omega (arith, le, there, rec_len)) ])
      ∙ elim (none_or_some (last_covering (entries f b) i)) [
        | inl none ↦ ap (λ o. given_back o i (slice_index b i)) none ∙ off_gate i (elim out [ inl lt ↦ inl (omega (arith, lt)) | inr le ↦ inr (omega (arith, le)) ])
        | inr found ↦ ap (λ o. given_back o i (slice_index b i)) found.1 ∙ h.holds i found.0 found.1
      ]

  reach : length r ≡ old_size f a
  reach = restored_length f b u ∙ same_old

  old_above : data_start f ≤ old_size f a
  old_above = omega (arith, (old_length f b u).above, same_old)

  -- a byte of a list stays
  held_stays : (i : ℕ) → 1 ≤ in_lists f a i → (i < length r) × (slice_index r i ≡ slice_index a i)
  held_stays i held =
      let low : i < old_size f a = h.low i held in (
        omega (arith, low, reach),
        given i low (inr (omega (arith, (lists_within f a A i held).0))) (area_not f a i some (omega (arith, held, area_apart f a A i))),
      )

  -- the undo area that is left is the same one, or there is none
  area_left : (area f.order r ≡ area f.order a) ⊎ ((old_size f a ≤ area_at f a) × (word f.order r 44 ≡ 0))
  area_left =
      elim (cases_lt (area_at f a) (old_size f a)) [
        | inr past ↦ inr (past, restored_no_area f b u (omega (arith, past, there, same_old)))
        | inl low ↦
            let low_b : area_at f b < old_size f b = omega (arith, low, there, same_old) in
            let apart : area_end f b ≤ old_size f b = (old_length f b u).apart low_b in
            let at : word f.order r 44 ≡ word f.order a 44 = word_agrees f.order r b 44 (restored_stays f b u low_b) ∙ there in
            let len_there : rec_len_of f.order r (area_at f b) ≡ rec_len_of f.order b (area_at f b) = word_agrees f.order r b (area_at f b + 4) (λ i from to. restored_area f b u i (omega (arith, to, apart)) (omega (arith, from)) (omega (arith, to)) (inl (omega (arith, to)))) in
            let len : rec_len_of f.order r (area_at f a) ≡ rec_len_of f.order a (area_at f a) = ap (rec_len_of f.order r) (sym there) ∙ len_there ∙ rec_len in
            inl (area_same f a r at len)
      ]

  area_kept : (i : ℕ) → 1 ≤ times (area f.order r) i → 1 ≤ times (area f.order a) i
  area_kept i held = elim area_left [ inl same ↦ (let e = ap (λ es. times es i) same in omega (arith, held, e)) | inr gone ↦ absurd (omega (arith, held, no_area_held f r i gone.1)) ]

  outside : (i : ℕ) → i < length r → times (area f.order r) i ≡ 0 → times (area f.order a) i ≡ 0
  outside i low none =
      elim area_left [
        | inl same ↦ (let e = ap (λ es. times es i) same in omega (arith, none, e))
        | inr gone ↦ area_out f a i (inl (omega (arith, low, reach, gone.0)))
      ]

  moved : AreaMoved f a r
  moved = record {
    sized = ap (λ n. n % 4) reach ∙ h.words;
    long = omega (arith, reach, old_above);
    low = λ i under beside. given i (omega (arith, under, old_above)) (elim beside [ inl lt ↦ inl lt | inr le ↦ inr (omega (arith, le)) ]) (inl (omega (arith, under, in_place.above)));
    chains = λ k low i held. held_stays i (chain_in_lists f a k i low held);
    frees = λ i held. held_stays i (omega (arith, held));
    area_ok = (undone_once f b u).0;
    shut = (undone_once f b u).1;
    apart = λ i held. omega (arith, area_kept i held, area_apart f a A i);
    others = λ i from to none. (let out = outside i to none in inl (out, given i (omega (arith, to, reach)) (inr (omega (arith, from))) (area_not f a i some out)));
  }

  restored_accepted : StaysAccepted f a r
  restored_accepted = moved_stays f a r A moved

  same_header : SameHeader a b
  same_header i where_at = off_gate i (inl (elim where_at [ inl lt ↦ omega (arith, lt, in_place.above) | inr both ↦ omega (arith, both.1, in_place.above) ]))

  same_number : word f.order r 48 ≡ word f.order a 48
  same_number = word_agrees f.order r a 48 (λ i from to. given i (omega (arith, to, old_above)) (inr from) (inl (omega (arith, to, in_place.above))))

  restored_header : SameHeader a r
  restored_header i where_at = given i (elim where_at [ inl lt ↦ omega (arith, lt, old_above) | inr both ↦ omega (arith, both.1, old_above) ]) (elim where_at [ inl lt ↦ inl lt | inr both ↦ inr (omega (arith, both.0)) ]) (inl (elim where_at [ inl lt ↦ omega (arith, lt, in_place.above) | inr both ↦ omega (arith, both.1, in_place.above) ]))

module _ (a : List ℕ) (A : Accept a) (h : IsReadyToOpen (form_of a) a) where
  abbrev own : Form
  own = form_of a

  abbrev opened : List ℕ
  opened = gate_opened own a

  pub own_form : form_of opened ≡ own
  own_form = form_kept a opened (same_header own a A h)

  undoable : Undoable (form_of opened) opened
  undoable = subst (λ g. Undoable g opened) (sym own_form) h.undoable

  read_as : restored (form_of opened) opened ≡ restored own opened
  read_as = ap (λ g. restored g opened) own_form

  stays : StaysAccepted own a (restored own opened)
  stays = restored_accepted own a A h

  form_after : form_of (restored own opened) ≡ own
  form_after = stays.accepted.form

  accepted_after : Accept (restored own opened)
  accepted_after = subst (λ g. AcceptWith g (restored own opened) []) (sym form_after) stays.accepted

  long : data_start own ≤ length opened
  long = omega (arith, size own a A h, A.long)

  opens : Opens opened
  opens = record {
    header = header_kept a opened (omega (arith, long)) (same_header own a A h) A.header;
    sized = ap (λ n. n % 4) (size own a A h) ∙ A.sized;
    long = subst (λ g. data_start g ≤ length opened) (sym own_form) long;
    area_ok = inr undoable.in_place;
    undo = inr undoable;
    accepted = subst Accept (sym read_as) accepted_after;
  }

  mild : Mild opened
  mild = record {
    undoable = undoable;
    header = λ i where_at. ap (λ l. slice_index l i) read_as ∙ restored_header own a A h i where_at ∙ sym (same_header own a A h i where_at);
  }

  pub gate_keeps : Mild opened × Reopens a opened
  gate_keeps = (
    mild,
    record {
      opens = record { opens = opens; holds = λ key. ap (λ l. own_map l key) read_as ∙ ap (λ g. map_of g (restored own opened) key) form_after ∙ stays.same_map key };
      again = inr mild;
      sequence = ap sequence_of read_as ∙ ap (λ g. word g.order (restored own opened) 48) form_after ∙ same_number own a A h;
    },
  )
