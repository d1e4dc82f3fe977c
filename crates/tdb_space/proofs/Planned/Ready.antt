-- A plan that is ready: with its gate open the file can be undone, its entries are the runs, and no record is cut off.
use Rattle.std.proofs.Common.{◌≡◌, ℕ, zero, suc, ◌+◌, ◌<◌, ◌≤◌, ◌⊎◌, ◌&&◌, ◌||◌, false, List, [], ◌∷◌, length, None, refl, sym, ◌∙◌, ap, subst, inl, inr, arith}
use Rattle.std.specs.Prelude.{slice_index, ◌%◌, ◌^◌, nat_lt}
use Rattle.std.proofs.lemmas.Bool.{cases_lt}
use Rattle.tdb_disk.specs.Image.{overlay}
use Rattle.tdb_disk.proofs.Image.{length-overlay, overlay_in}
use Rattle.tdb_words.specs.declared.record.TheConstants.{GATE_OPEN}
use Rattle.tdb_words.specs.declared.word.Order.{Order}
use Rattle.tdb_words.specs.Word.{word, bytes_of_word}
use Rattle.tdb_words.proofs.Words.{word_agrees, word_from_bytes, word_made}
use Rattle.tdb_space.specs.Form.{Form, form_of, data_start, chain_head, free_head}
use Rattle.tdb_space.specs.Record.{Whole, IsChained, IsFree, rec_len_of, key_len_of, data_len_of, magic_of}
use Rattle.tdb_space.specs.Chain.{Linked, chain_of, free_of}
use Rattle.tdb_space.specs.Pairs.{joined}
use Rattle.tdb_space.specs.Extents.{Extent, once, times, extents, extent_at}
use Rattle.tdb_space.specs.Accepted.{AreaInPlace, Accept}
use Rattle.tdb_space.specs.Opening.{entries_from, entries, is_bad_cut, entry_fault, undo_fault_at, Undoable, last_covering}
use Rattle.tdb_space.specs.Undoing.{area_at, old_size}
use Rattle.tdb_space.specs.Gate.{gate_opened, IsReadyToOpen}
use Rattle.tdb_space.specs.Scheme.{Scheme, with_gate, IsPlanFor}
use Rattle.tdb_space.specs.Runs.{InOrder, RunsLie}
use Rattle.tdb_space.specs.Planned.{content_length, IsPlanned, kept, fresh}
use Rattle.tdb_space.proofs.Extents.Counts.{once_in, once_lies, once_out, times-append}
use Rattle.tdb_space.proofs.FirstFault.Cleared.{none_both, or_none, below_to}
use Rattle.tdb_space.proofs.Accepted.Fresh.{word_zero}
use Rattle.tdb_space.proofs.Undoing.Alike.{never_both, entries_alike}
use Rattle.tdb_space.proofs.Undoing.Tails.{lists_within}
use Rattle.tdb_space.proofs.RecoverySteps.Emptying.{four_bytes, word_beside}
use Rattle.tdb_space.proofs.Gate.Contents.{in_lists, area_apart, area_not, chain_in_lists}
use Rattle.tdb_space.proofs.Runs.Stretches.{runs_lie}
use Rattle.tdb_space.proofs.Planned.Content.{entries_for, parsed, AllBy, entries_good, run_covered, covering_gives}

-- a word that was set
pub word_set : (o : Order) (c : List ℕ) (at w : ℕ) → w < 2 ^ 32 → at + 4 ≤ length c → word o (overlay c at (bytes_of_word o w)) at ≡ w
word_set o c at w fits room =
    word_from_bytes o (overlay c at (bytes_of_word o w)) (bytes_of_word o w) at 0 (λ j low.
    (overlay_in c at (bytes_of_word o w) (at + j) (omega arith) (omega (arith, low, four_bytes o w)) (omega (arith, low, room)) ∙ ap (slice_index (bytes_of_word o w)) (omega arith)))
    ∙ word_made o w fits

-- runs in order whose bytes stand below a length end by it
ends_by : (size from : ℕ) (es : List Extent) → InOrder from es → ((i : ℕ) → 1 ≤ times es i → i < size) → AllBy size es
ends_by size from [] o low = tt
ends_by size from (e ∷ es) o low = (last_low e es o.1 (λ i held. low i held), ends_by size (e.0 + e.1 + 1) es o.2 (λ i held. low i (omega (arith, held))))
  where
    last_low : (e : Extent) (es : List Extent) → 1 ≤ e.1 → ((i : ℕ) → 1 ≤ times (e ∷ es) i → i < size) → e.0 + e.1 ≤ size
    last_low (at, zero) es some all = absurd (omega (arith, some))
    last_low (at, suc n) es some all = omega (arith, all (at + n) (omega (arith, once_in (at, suc n) (at + n) (omega arith) (omega arith))))

-- a record whose bytes from a length on are zeros ends by that length, since its tailer isn't 0
record_low : (f : Form) (a : List ℕ) (x size : ℕ) → Whole f a x → size % 4 ≡ 0 → ((i : ℕ) → x ≤ i → i < x + 24 + rec_len_of f.order a x → size ≤ i → slice_index a i ≡ 0) → x + 24 + rec_len_of f.order a x ≤ size
record_low f a x size w words zeros =
    elim (cases_lt size (x + 24 + rec_len_of f.order a x)) [
      | inr fits ↦ fits
      | inl past ↦
          let none : word f.order a (x + 20 + rec_len_of f.order a x) ≡ 0 = word_zero f.order a (x + 20 + rec_len_of f.order a x) (λ i from to. zeros i (omega (arith, from)) (omega (arith, to)) (omega (arith, from, past, words, w.aligned, w.len_aligned))) in
          absurd (omega (arith, none, w.tailer))
    ]

list_low : (f : Form) (M : ℕ → Type 0) (a : List ℕ) (at size : ℕ) (xs : List ℕ) → Linked f M a at xs → size % 4 ≡ 0 → ((i : ℕ) → 1 ≤ times (extents f.order a xs) i → size ≤ i → slice_index a i ≡ 0) → (i : ℕ) → 1 ≤ times (extents f.order a xs) i → i < size
list_low f M a at size [] p words zeros i held = absurd (omega (arith, held))
list_low f M a at size (x ∷ xs) p words zeros i held =
    elim (cases_lt 0 (once (extent_at f.order a x) i)) [
      | inl some ↦
          let lies = once_lies (extent_at f.order a x) i (omega (arith, some)) in
          let low = record_low f a x size p.1 words (λ k from to past. zeros k (omega (arith, once_in (extent_at f.order a x) k from (omega (arith, to)))) past) in
          omega (arith, lies.1, low)
      | inr none ↦ list_low f M a (word f.order a x) size xs p.3 words (λ k there past. zeros k (omega (arith, there)) past) i (omega (arith, held, none))
    ]

-- what many lists hold, one of them does
joined_one : (F : ℕ → List Extent) (n i : ℕ) → 1 ≤ times (joined n F) i → (j : ℕ) × (j < n) × (1 ≤ times (F j) i)
joined_one F zero i held = absurd (omega (arith, held))
joined_one F (suc n) i held =
    elim (cases_lt 0 (times (F n) i)) [
      | inl some ↦ (n, omega arith, omega (arith, some))
      | inr none ↦ (let rest = joined_one F n i (omega (arith, held, none, times-append (joined n F) (F n) i)) in (rest.0, omega (arith, rest.1), rest.2))
    ]

module _ (p : Scheme) (a b : List ℕ) (A : Accept a) (h : IsPlanned p a b) where
  abbrev f : Form
  f = form_of a

  abbrev opened : List ℕ
  opened = gate_opened f a

  x : word f.order a 44 ≡ p.area
  x = h.there

  in_place : AreaInPlace f a (word f.order a 44)
  in_place = elim A.area_ok [ inl none ↦ absurd (h.some none) | inr place ↦ place ]

  rec_len_a : rec_len_of f.order a (word f.order a 44) ≡ rec_len_of f.order a p.area
  rec_len_a = ap (rec_len_of f.order a) x

  pub long_area : 24 ≤ p.area_length
  long_area = omega (arith, h.long)

  pub plan_lies : RunsLie p.old_length (p.area, p.area_length) p.runs
  plan_lies = runs_lie a b p.old_length (p.area, p.area_length) p.runs h.header (omega (arith, long_area)) h.runs

  -- the area in numbers of the plan
  pub area_within : (p.area % 4 ≡ 0) × (data_start f ≤ p.area) × (p.area + p.area_length ≤ length a)
  area_within = (omega (arith, x, in_place.aligned), omega (arith, x, in_place.above), omega (arith, x, rec_len_a, h.long, in_place.within))

  size_opened : length opened ≡ length a
  size_opened = length-overlay a (area_at f a + 20) (bytes_of_word f.order GATE_OPEN)

  off_gate : (i : ℕ) → (i < p.area + 20) ⊎ (p.area + 24 ≤ i) → slice_index opened i ≡ slice_index a i
  off_gate i out = word_beside f.order a (area_at f a + 20) GATE_OPEN i (elim out [ inl lt ↦ inl (omega (arith, lt, x)) | inr le ↦ inr (omega (arith, le, x)) ])

  there_o : word f.order opened 44 ≡ p.area
  there_o = word_agrees f.order opened a 44 (λ i _ to. off_gate i (inl (omega (arith, to, area_within.1)))) ∙ x

  rec_len_o : rec_len_of f.order opened p.area ≡ rec_len_of f.order a p.area
  rec_len_o = word_agrees f.order opened a (p.area + 4) (λ i _ to. off_gate i (inl (omega (arith, to))))

  key_len_o : key_len_of f.order opened p.area ≡ p.old_length
  key_len_o = word_agrees f.order opened a (p.area + 8) (λ i _ to. off_gate i (inl (omega (arith, to)))) ∙ h.key_len

  data_len_o : data_len_of f.order opened p.area ≡ content_length p.runs
  data_len_o = word_agrees f.order opened a (p.area + 12) (λ i _ to. off_gate i (inl (omega (arith, to)))) ∙ h.data_len

  gate_o : magic_of f.order opened p.area ≡ GATE_OPEN
  gate_o =
      let at : p.area + 20 ≡ area_at f a + 20 = omega (arith, x) in
      ap (word f.order opened) at ∙ word_set f.order a (area_at f a + 20) GATE_OPEN (omega arith) (omega (arith, in_place.within))

  good : entry_fault (p.area + 24 + content_length p.runs) p.old_length (entries_for a (p.area + 24) p.runs) ≡ None
  good = entries_good a (p.area + 24 + content_length p.runs) p.old_length (p.area + 24) p.runs (ends_by p.old_length 0 p.runs h.runs.in_order plan_lies.low) (omega arith)

  parsed_a : entries_from f.order a (content_length p.runs) (p.area + 24) (p.area + 24 + content_length p.runs) ≡ entries_for a (p.area + 24) p.runs
  parsed_a = parsed f.order a p.area_length (content_length p.runs) (p.area + 24) p.runs h.content (omega arith)

  entries_o : entries f opened ≡ entries_for a (p.area + 24) p.runs
  entries_o =
      let len : data_len_of f.order opened (word f.order opened 44) ≡ content_length p.runs = ap (data_len_of f.order opened) there_o ∙ data_len_o in
      let end = p.area + 24 + rec_len_of f.order a p.area in
      (λ j. entries_from f.order opened (len j) (there_o j + 24) (there_o j + 24 + len j))
      ∙ entries_alike f.order a opened (p.area + 24) (p.area + 24 + rec_len_of f.order a p.area) (λ i from _. off_gate i (inr from)) (omega (arith, area_within.2, h.long)) (omega (arith, area_within.2, h.long, size_opened)) (content_length p.runs) (p.area + 24) (p.area + 24 + content_length p.runs) p.old_length (omega arith) (omega (arith, h.fits)) (ap (entry_fault (p.area + 24 + content_length p.runs) p.old_length) parsed_a ∙ good)
      ∙ parsed_a

  -- the old length is one
  pub old_within : (p.old_length ≤ length a) × (p.area < p.old_length → p.area + p.area_length ≤ p.old_length)
  old_within =
      elim h.placed [
        | kept _ _ low size ↦ (omega (arith, size, h.old_within), λ _. low)
        | fresh _ at size ↦ (omega (arith, at, size, h.old_within), λ low. absurd (omega (arith, low, at, h.old_within)))
      ]

  good_cut : is_bad_cut f opened p.area ≡ false
  good_cut =
      let k = key_len_of f.order opened p.area in
      or_none (nat_lt (key_len_of f.order opened p.area) (data_start f) || nat_lt (length opened) (key_len_of f.order opened p.area)) (nat_lt p.area (key_len_of f.order opened p.area) && nat_lt (key_len_of f.order opened p.area) (p.area + 24 + rec_len_of f.order opened p.area))
      (or_none (nat_lt (key_len_of f.order opened p.area) (data_start f)) (nat_lt (length opened) (key_len_of f.order opened p.area)) (below_to (key_len_of f.order opened p.area) (data_start f) (omega (arith, key_len_o, h.old_above))) (below_to (length opened) (key_len_of f.order opened p.area) (omega (arith, key_len_o, size_opened, old_within.0))))
      (elim (cases_lt p.area (key_len_of f.order opened p.area)) [
        | inl low ↦ rw (below_to (key_len_of f.order opened p.area) (p.area + 24 + rec_len_of f.order opened p.area) (omega (arith, key_len_o, rec_len_o, h.long, old_within.1 (omega (arith, low, key_len_o))))) (never_both (nat_lt p.area (key_len_of f.order opened p.area)))
        | inr high ↦ rw (below_to p.area (key_len_of f.order opened p.area) high) refl
      ])

  no_fault : undo_fault_at f opened p.area (entries_for a (p.area + 24) p.runs) ≡ None
  no_fault =
      none_both _ _ _ good_cut
      (none_both _ _ _ (below_to (rec_len_of f.order opened p.area) (data_len_of f.order opened p.area) (omega (arith, rec_len_o, data_len_o, h.fits)))
      ((λ j. entry_fault (p.area + 24 + data_len_o j) (key_len_o j) (entries_for a (p.area + 24) p.runs)) ∙ good))

  in_place_o : AreaInPlace f opened p.area
  in_place_o = record {
    aligned = area_within.0;
    above = area_within.1;
    len_aligned = ap (λ n. n % 4) (rec_len_o ∙ sym rec_len_a) ∙ in_place.len_aligned;
    within = omega (arith, rec_len_o, size_opened, h.long, area_within.2);
    gate = inl gate_o;
  }

  undoable : Undoable f opened
  undoable = record {
    in_place = subst (AreaInPlace f opened) (sym there_o) in_place_o;
    gate_open = ap (magic_of f.order opened) there_o ∙ gate_o;
    no_fault = (λ j. undo_fault_at f opened (there_o j) (entries_o j)) ∙ no_fault;
  }

  -- from the old length on the records would have zeros
  zero_past : (i : ℕ) → 1 ≤ in_lists f a i → p.old_length ≤ i → slice_index a i ≡ 0
  zero_past i held past =
      let apart = area_not f a i h.some (omega (arith, held, area_apart f a A i)) in
      h.behind i past (lists_within f a A i held).1 (once_out (p.area, p.area_length) i (elim apart [ inl lt ↦ inl (omega (arith, lt, x)) | inr le ↦ inr (omega (arith, le, x, rec_len_a, h.long)) ]))

  pub records_low : (i : ℕ) → 1 ≤ in_lists f a i → i < p.old_length
  records_low i held =
      elim (cases_lt 0 (times (extents f.order a (free_of f a)) i)) [
        | inl free ↦ list_low f IsFree a (word f.order a free_head) p.old_length (free_of f a) A.frees h.old_words (λ k there past. zero_past k (omega (arith, there)) past) i (omega (arith, free))
        | inr none ↦
            let one = joined_one (λ k. extents f.order a (chain_of f a k)) f.chains i (omega (arith, held, none)) in
            list_low f IsChained a (word f.order a (chain_head one.0)) p.old_length (chain_of f a one.0) (A.chains one.0 one.1) h.old_words (λ k there past. zero_past k (chain_in_lists f a one.0 k one.1 there) past) i one.2
      ]

  old_a : old_size f a ≡ p.old_length
  old_a = ap (key_len_of f.order a) x ∙ h.key_len

  pub plan_ready : IsReadyToOpen f a
  plan_ready = record {
    undoable = undoable;
    holds = λ i e found. covering_gives a i (p.area + 24) p.runs e (sym (ap (λ es. last_covering es i) entries_o) ∙ found);
    words = ap (λ n. n % 4) old_a ∙ h.old_words;
    low = λ i held. omega (arith, records_low i held, old_a);
  }

  pub plan_fits : IsPlanFor f p opened
  plan_fits = record {
    there = there_o;
    area_length = omega (arith, rec_len_o, h.long);
    old_length = key_len_o;
    covered = λ i held none. run_covered a i (p.area + 24) p.runs held (sym (ap (λ es. last_covering es i) entries_o) ∙ none);
    front = plan_lies.front;
  }

  -- the plan's gate is that of the area
  pub same_gate : with_gate GATE_OPEN p a ≡ opened
  same_gate =
      let at : p.gate ≡ area_at f a + 20 = omega (arith, h.gate, x) in
      λ j. overlay a (at j) (bytes_of_word (h.order j) GATE_OPEN)
