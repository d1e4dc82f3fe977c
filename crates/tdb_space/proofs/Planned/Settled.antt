-- What a commit makes of the file once all is written and the gate is shut: it holds the map of the transaction.
use Rattle.std.proofs.Common.{◌≡◌, ℕ, ◌+◌, ◌<◌, ◌≤◌, ◌⊎◌, List, [], length, refl, sym, ◌∙◌, ap, subst, inl, inr, arith}
use Rattle.std.specs.Prelude.{slice_index, ◌%◌, nat_le}
use Rattle.std.proofs.lemmas.Bool.{cases_lt, cases_eq, le-leb, lt-leb, lt-ltb, le-ltb}
use Rattle.std.proofs.lemmas.Grind.{same_number_lists}
use Rattle.std.proofs.lemmas.List.FromFn.{length-map-range_with_len, get_or-map-range_with_len}
use Rattle.tdb_disk.proofs.Image.{length-overlay}
use Rattle.tdb_words.specs.declared.record.TheConstants.{GATE_OPEN, GATE_SHUT}
use Rattle.tdb_words.specs.Word.{word, bytes_of_word}
use Rattle.tdb_words.proofs.Words.{word_agrees}
use Rattle.tdb_space.specs.Form.{Form, form_of, data_start}
use Rattle.tdb_space.specs.Record.{rec_len_of, magic_of}
use Rattle.tdb_space.specs.Extents.{times, area}
use Rattle.tdb_space.specs.Accepted.{AreaInPlace, AcceptWith, Accept}
use Rattle.tdb_space.specs.Opening.{Mild}
use Rattle.tdb_space.specs.Moved.{AreaMoved, StaysAccepted}
use Rattle.tdb_space.specs.Undoing.{Reopens}
use Rattle.tdb_space.specs.Gate.{gate_opened}
use Rattle.tdb_space.specs.Scheme.{Scheme, with_gate, Within, IsPlanFor}
use Rattle.tdb_space.specs.Runs.{Changed}
use Rattle.tdb_space.specs.Planned.{IsPlanned, kept, fresh, settled_byte, settled_with, PutRuns, PutRange, Fills}
use Rattle.tdb_space.proofs.Extents.Counts.{once_out}
use Rattle.tdb_space.proofs.Accepted.Fresh.{word_zero}
use Rattle.tdb_space.proofs.Form.Headers.{form_kept}
use Rattle.tdb_space.proofs.Undoing.Alike.{never_both, alike_mild}
use Rattle.tdb_space.proofs.Moved.SameLists.{moved_stays, stays_reopens}
use Rattle.tdb_space.proofs.Undoing.Tails.{lists_within, held_past, no_area_held}
use Rattle.tdb_space.proofs.RecoverySteps.Emptying.{word_beside, word_cleared}
use Rattle.tdb_space.proofs.Gate.Contents.{in_lists, area_apart, chain_in_lists, area_in, area_out, area_not}
use Rattle.tdb_space.proofs.Gate.OpenGate.{gate_keeps, own_form}
use Rattle.tdb_space.proofs.Scheme.WritesUndone.{opened_reopens, runs_alike}
use Rattle.tdb_space.proofs.Runs.Stretches.{near_itself}
use Rattle.tdb_space.proofs.Planned.Ready.{long_area, plan_lies, area_within, plan_ready, plan_fits, same_gate}

-- a byte of what is settled: that of b where it is written, and else that of the image
settled_read : (p : Scheme) (b img : List ℕ) (i : ℕ) → i < length img → slice_index (settled_with p b img) i ≡ settled_byte p b img i
settled_read p b img i low = get_or-map-range_with_len (settled_byte p b img) 0 (length img) i i 0 low (omega arith)

settled_size : (p : Scheme) (b img : List ℕ) → length (settled_with p b img) ≡ length img
settled_size p b img = length-map-range_with_len (settled_byte p b img) 0 (length img)

settled_run : (p : Scheme) (b img : List ℕ) (i : ℕ) → 1 ≤ times p.runs i → settled_byte p b img i ≡ slice_index b i
settled_run p b img i held = rw (lt-ltb 0 (times p.runs i) (omega (arith, held))) refl

settled_past : (p : Scheme) (b img : List ℕ) (i : ℕ) → times p.runs i ≡ 0 → p.old_length ≤ i → i < length b → settled_byte p b img i ≡ slice_index b i
settled_past p b img i none past low = rw (le-ltb 0 (times p.runs i) (omega (arith, none))) (rw (le-leb p.old_length i past) (rw (lt-ltb i (length b) low) refl))

settled_else : (p : Scheme) (b img : List ℕ) (i : ℕ) → times p.runs i ≡ 0 → (i < p.old_length) ⊎ (length b ≤ i) → settled_byte p b img i ≡ slice_index img i
settled_else p b img i none (inl low) = rw (le-ltb 0 (times p.runs i) (omega (arith, none))) (rw (lt-leb p.old_length i low) refl)
settled_else p b img i none (inr past) = rw (le-ltb 0 (times p.runs i) (omega (arith, none))) (rw (le-ltb i (length b) past) (rw (never_both (nat_le p.old_length i)) refl))

-- all is written: the runs, and then what lies from the old length on
pub settled_is : (p : Scheme) (b a c d : List ℕ) → PutRuns b p.runs a c → PutRange b p.old_length (length b) c d → d ≡ settled_with p b a
settled_is p b a c d runs rest =
    same_number_lists d (settled_with p b a) (rest.size ∙ runs.size ∙ sym (settled_size p b a)) (λ i below_d.
    (let low : i < length a = omega (arith, below_d, rest.size, runs.size) in byte i low ∙ sym (settled_read p b a i low)))
  where
    off : (i : ℕ) → (i < p.old_length) ⊎ (length b ≤ i) → slice_index d i ≡ settled_byte p b a i
    off i out =
        elim (cases_lt 0 (times p.runs i)) [
          | inl held ↦ rest.beside i out ∙ runs.inside i (omega (arith, held)) ∙ sym (settled_run p b a i (omega (arith, held)))
          | inr free ↦ (let none : times p.runs i ≡ 0 = omega (arith, free) in rest.beside i out ∙ runs.beside i none ∙ sym (settled_else p b a i none out))
        ]

    behind_old : (i : ℕ) → i < length a → p.old_length ≤ i → i < length b → slice_index d i ≡ settled_byte p b a i
    behind_old i low from to =
        rest.inside i from to (omega (arith, low, runs.size))
        ∙ elim (cases_lt 0 (times p.runs i)) [
          | inl held ↦ sym (settled_run p b a i (omega (arith, held)))
          | inr free ↦ sym (settled_past p b a i (omega (arith, free)) from to)
        ]

    byte : (i : ℕ) → i < length a → slice_index d i ≡ settled_byte p b a i
    byte i low =
        elim (cases_lt i p.old_length) [
          | inl under ↦ off i (inl under)
          | inr from ↦ elim (cases_lt i (length b)) [ inl to ↦ behind_old i low from to | inr past ↦ off i (inr past) ]
        ]

module _ (p : Scheme) (a b : List ℕ) (A : Accept a) (B : Accept b) (h : IsPlanned p a b) where
  abbrev f : Form
  f = form_of a

  abbrev img : List ℕ
  img = with_gate GATE_OPEN p a

  abbrev done : List ℕ
  done = settled_with p b (with_gate GATE_OPEN p a)

  abbrev c : List ℕ
  c = with_gate GATE_SHUT p (settled_with p b (with_gate GATE_OPEN p a))

  size_img : length img ≡ length a
  size_img = length-overlay a p.gate (bytes_of_word p.order GATE_OPEN)

  size_done : length done ≡ length a
  size_done = settled_size p b img ∙ size_img

  size_c : length c ≡ length a
  size_c = length-overlay done p.gate (bytes_of_word p.order GATE_SHUT) ∙ size_done

  -- a byte off the gate
  off_gate : (i : ℕ) → i < length a → (i < p.area + 20) ⊎ (p.area + 24 ≤ i) → slice_index c i ≡ settled_byte p b img i
  off_gate i low out = word_beside p.order done p.gate GATE_SHUT i (elim out [ inl lt ↦ inl (omega (arith, lt, h.gate)) | inr le ↦ inr (omega (arith, le, h.gate)) ]) ∙ settled_read p b img i (omega (arith, low, size_img))

  img_off : (i : ℕ) → (i < p.area + 20) ⊎ (p.area + 24 ≤ i) → slice_index img i ≡ slice_index a i
  img_off i out = word_beside p.order a p.gate GATE_OPEN i (elim out [ inl lt ↦ inl (omega (arith, lt, h.gate)) | inr le ↦ inr (omega (arith, le, h.gate)) ])

  -- a byte that isn't written stays
  stays_a : (i : ℕ) → i < length a → (i < p.area + 20) ⊎ (p.area + 24 ≤ i) → times p.runs i ≡ 0 → (i < p.old_length) ⊎ (length b ≤ i) → slice_index c i ≡ slice_index a i
  stays_a i low out none where_at = off_gate i low out ∙ settled_else p b img i none where_at ∙ img_off i out

  beside_gate : (i : ℕ) → (i < p.area) ⊎ (p.area + p.area_length ≤ i) → (i < p.area + 20) ⊎ (p.area + 24 ≤ i)
  beside_gate i out = elim out [ inl lt ↦ inl (omega (arith, lt)) | inr le ↦ inr (omega (arith, le, long_area p a b A h)) ]

  -- outside the area and the word at 44 each byte of b stands
  is_b : (i : ℕ) → i < length b → i < length a → (i < 44) ⊎ (48 ≤ i) → (i < p.area) ⊎ (p.area + p.area_length ≤ i) → slice_index c i ≡ slice_index b i
  is_b i low_b low_a beside out =
      elim (cases_lt 0 (times p.runs i)) [
        | inl held ↦ off_gate i low_a (beside_gate i out) ∙ settled_run p b img i (omega (arith, held))
        | inr free ↦
            let none : times p.runs i ≡ 0 = omega (arith, free) in
            elim (cases_lt i p.old_length) [
              | inr past ↦ off_gate i low_a (beside_gate i out) ∙ settled_past p b img i none past low_b
              | inl low ↦ stays_a i low_a (beside_gate i out) none (inl low) ∙ unchanged low none
            ]
      ]
    where
      unchanged : i < p.old_length → times p.runs i ≡ 0 → slice_index a i ≡ slice_index b i
      unchanged low none =
          elim (cases_eq (slice_index b i) (slice_index a i)) [
            | inl same ↦ sym same
            | inr differs ↦
                let change : Changed a b p.old_length (p.area, p.area_length) i = record { low = low; beside = beside; outside = once_out (p.area, p.area_length) i out; differs = differs } in
                absurd (omega (arith, none, h.runs.all i (near_itself (Changed a b p.old_length (p.area, p.area_length)) i change)))
          ]

  -- in the area, but for its gate, and in the word at 44 each byte of a stands
  in_area : (i : ℕ) → p.area ≤ i → i < p.area + p.area_length → (i < p.area + 20) ⊎ (p.area + 24 ≤ i) → slice_index c i ≡ slice_index a i
  in_area i from to out =
      stays_a i (omega (arith, to, (area_within p a b A h).2)) out ((plan_lies p a b A h).clear i from to)
      (elim h.placed [ kept _ _ low _ ↦ inl (omega (arith, low, to)) | fresh _ at _ ↦ inr (omega (arith, at, from)) ])

  there_c : word f.order c 44 ≡ p.area
  there_c =
      word_agrees f.order c a 44 (λ i from to. stays_a i (omega (arith, to, A.long)) (inl (omega (arith, to, (area_within p a b A h).1))) ((plan_lies p a b A h).front i (inl to)) (inl (omega (arith, to, h.old_above)))) ∙ h.there

  rec_len_c : rec_len_of f.order c p.area ≡ rec_len_of f.order a p.area
  rec_len_c = word_agrees f.order c a (p.area + 4) (λ i from to. in_area i (omega (arith, from)) (omega (arith, to, long_area p a b A h)) (inl (omega (arith, to))))

  gate_c : magic_of f.order c p.area ≡ GATE_SHUT
  gate_c = word_zero f.order c (p.area + 20) (λ i from to. word_cleared p.order done p.gate i (omega (arith, from, h.gate)) (omega (arith, to, h.gate)) (omega (arith, h.gate, size_done, (area_within p a b A h).2, long_area p a b A h)))

  in_place_c : AreaInPlace f c p.area
  in_place_c =
      let w = area_within p a b A h in
      record {
        aligned = w.0;
        above = w.1;
        len_aligned = elim A.area_ok [ inl none ↦ absurd (h.some none) | inr place ↦ (let len = ap (rec_len_of f.order a) h.there in ap (λ n. n % 4) (rec_len_c ∙ sym len) ∙ place.len_aligned) ];
        within = omega (arith, rec_len_c, size_c, h.long, w.2);
        gate = inr gate_c;
      }

  some_c : word f.order c 44 ≡ 0 → ⊥
  some_c none = absurd (omega (arith, none, there_c, (area_within p a b A h).1))

  -- where the undo area of c holds a byte, and where it doesn't
  outside_c : (i : ℕ) → times (area f.order c) i ≡ 0 → (i < p.area) ⊎ (p.area + p.area_length ≤ i)
  outside_c i none =
      let len = ap (rec_len_of f.order c) there_c in
      elim (area_not f c i some_c none) [ inl lt ↦ inl (omega (arith, lt, there_c)) | inr le ↦ inr (omega (arith, le, there_c, len, rec_len_c, h.long)) ]

  inside_c : (i : ℕ) → 1 ≤ times (area f.order c) i → (p.area ≤ i) × (i < p.area + p.area_length)
  inside_c i held =
      let len = ap (rec_len_of f.order c) there_c in (
        elim (cases_lt i p.area) [ inr from ↦ from | inl low ↦ absurd (omega (arith, held, area_out f c i (inl (omega (arith, low, there_c))))) ],
        elim (cases_lt i (p.area + p.area_length)) [ inl to ↦ to | inr past ↦ absurd (omega (arith, held, area_out f c i (inr (omega (arith, past, there_c, len, rec_len_c, h.long))))) ],
      )

  form_b : form_of b ≡ f
  form_b = form_kept a b h.header

  accepted_b : AcceptWith f b []
  accepted_b = subst (λ g. AcceptWith g b []) form_b B

  -- the lists of b hold no byte of the area, and none past the end of c
  apart_b : (i : ℕ) → p.area ≤ i → i < p.area + p.area_length → in_lists f b i ≡ 0
  apart_b i from to =
      elim h.placed [
        | fresh _ at _ ↦ held_past f b accepted_b i (omega (arith, at, from))
        | kept there len _ _ ↦
            let same = ap (rec_len_of f.order b) there in
            let held : times (area f.order b) i ≡ 1 = area_in f b i (λ none. absurd (omega (arith, none, there, (area_within p a b A h).1))) (omega (arith, there, from)) (omega (arith, there, same, len, to)) in
            omega (arith, held, area_apart f b accepted_b i)
      ]

  reach : length b ≤ length a
  reach = elim h.placed [ kept _ _ _ size ↦ omega (arith, size) | fresh _ at size ↦ omega (arith, at, size) ]

  listed_b : (i : ℕ) → 1 ≤ in_lists f b i → (i < length c) × (slice_index c i ≡ slice_index b i)
  listed_b i held =
      let w = lists_within f b accepted_b i held in
      let out : (i < p.area) ⊎ (p.area + p.area_length ≤ i) =
      elim (cases_lt i p.area) [
        | inl low ↦ inl low
        | inr from ↦ elim (cases_lt i (p.area + p.area_length)) [ inr past ↦ inr past | inl to ↦ absurd (omega (arith, held, apart_b i from to)) ]
      ] in
      (omega (arith, size_c, w.1, reach), is_b i w.1 (omega (arith, w.1, reach)) (inr (omega (arith, w.0))) out)

  -- outside the area, where b has no byte, none is left
  others_b : (i : ℕ) → data_start f ≤ i → i < length c → times (area f.order c) i ≡ 0 → ((times (area f.order b) i ≡ 0) × (slice_index c i ≡ slice_index b i)) ⊎ (slice_index c i ≡ 0)
  others_b i from to none =
      let out = outside_c i none in
      elim h.placed [
        | kept there len _ size ↦
            let same = ap (rec_len_of f.order b) there in
            inl (area_out f b i (elim out [ inl lt ↦ inl (omega (arith, lt, there)) | inr le ↦ inr (omega (arith, le, there, same, len)) ]), is_b i (omega (arith, to, size_c, size)) (omega (arith, to, size_c)) (inr (omega (arith, from))) out)
        | fresh gone at size ↦
            let low : i < length b = elim out [ inl lt ↦ omega (arith, lt, at) | inr le ↦ absurd (omega (arith, le, to, size_c, size)) ] in
            inl (no_area_held f b i gone, is_b i low (omega (arith, to, size_c)) (inr (omega (arith, from))) out)
      ]

  moved : AreaMoved f b c
  moved = record {
    sized = ap (λ n. n % 4) size_c ∙ A.sized;
    long = omega (arith, size_c, A.long);
    low = λ i under beside. is_b i (omega (arith, under, accepted_b.long)) (omega (arith, under, A.long)) (elim beside [ inl lt ↦ inl lt | inr le ↦ inr (omega (arith, le)) ]) (inl (omega (arith, under, (area_within p a b A h).1)));
    chains = λ k low i held. listed_b i (chain_in_lists f b k i low held);
    frees = λ i held. listed_b i (omega (arith, held));
    area_ok = inr (subst (AreaInPlace f c) (sym there_c) in_place_c);
    shut = inr (ap (magic_of f.order c) there_c ∙ gate_c);
    apart = λ i held. (let w = inside_c i held in apart_b i w.0 w.1);
    others = others_b;
  }

  becomes : Reopens b c
  becomes =
      stays_reopens b c (subst (λ g. StaysAccepted g b c) (sym form_b) (moved_stays f b c accepted_b moved))
      (λ i from to. is_b i (omega (arith, to, accepted_b.long)) (omega (arith, to, A.long)) (inr from) (inl (omega (arith, to, (area_within p a b A h).1))))

  at_gate : (d : List ℕ) → Within p (with_gate GATE_OPEN p a) d → Within p (gate_opened f a) d
  at_gate d w = subst (λ l. Within p l d) (same_gate p a b A h) w

  undoes : (d : List ℕ) → Within p (with_gate GATE_OPEN p a) d → Reopens a d
  undoes d w = opened_reopens a d p A (plan_ready p a b A h) (plan_fits p a b A h) (at_gate d w)

  mild : (d : List ℕ) → Within p (with_gate GATE_OPEN p a) d → Mild d
  mild d w =
      let ready = plan_ready p a b A h in
      let keeps = gate_keeps a A ready in
      let opens = keeps.1.opens.opens in
      alike_mild (gate_opened f a) d opens keeps.0.undoable (runs_alike (form_of (gate_opened f a)) p (gate_opened f a) d opens.sized keeps.0.undoable (subst (λ g. IsPlanFor g p (gate_opened f a)) (sym (own_form a A ready)) (plan_fits p a b A h)) (at_gate d w)) keeps.0

  pub plan_fills : Fills p a b
  plan_fills = record { clear = λ i from to. (plan_lies p a b A h).clear i from to; mild = mild; undoes = undoes; becomes = becomes; size = size_c; reaches = reach; reads = λ i low. is_b i low (omega (arith, low, reach)) }
