-- The file is accepted once all is written and the gate is shut again.
use Rattle.std.proofs.Common.{◌≡◌, ℕ, ◌+◌, ◌<◌, ◌≤◌, ◌⊎◌, List, [], length, refl, sym, ◌∙◌, ap, subst, inl, inr, arith}
use Rattle.std.specs.Prelude.{slice_index}
use Rattle.std.proofs.lemmas.Bool.{le-ltb, lt-leb}
use Rattle.std.proofs.lemmas.List.FromFn.{length-map-range_with_len, get_or-map-range_with_len}
use Rattle.tdb_disk.proofs.Image.{length-overlay}
use Rattle.tdb_words.specs.declared.record.TheConstants.{GATE_OPEN, GATE_SHUT}
use Rattle.tdb_words.specs.Word.{word, bytes_of_word}
use Rattle.tdb_words.proofs.Words.{word_agrees}
use Rattle.tdb_space.specs.Accepted.{Accept, AcceptWith}
use Rattle.tdb_space.specs.Extents.{times}
use Rattle.tdb_space.specs.Form.{Form, form_of}
use Rattle.tdb_space.specs.Opening.{Undoable}
use Rattle.tdb_space.specs.Planned.{IsPlanned, finished, settled_byte, settled_with}
use Rattle.tdb_space.specs.Record.{magic_of}
use Rattle.tdb_space.specs.Scheme.{Scheme, with_gate}
use Rattle.tdb_space.proofs.Accepted.Fresh.{word_zero}
use Rattle.tdb_space.proofs.Form.Headers.{form_kept}
use Rattle.tdb_space.proofs.Opening.Undone.{read_as_it_is}
use Rattle.tdb_space.proofs.Planned.Ready.{long_area, plan_lies, area_within}
use Rattle.tdb_space.proofs.Planned.Settled.{plan_fills}
use Rattle.tdb_space.proofs.RecoverySteps.Emptying.{word_beside, word_cleared}

-- a byte that no run covers, in front of the old length
settled_front : (p : Scheme) (b img : List ℕ) (i : ℕ) → i < length img → times p.runs i ≡ 0 → i < p.old_length → slice_index (settled_with p b img) i ≡ slice_index img i
settled_front p b img i inside none low =
    get_or-map-range_with_len (settled_byte p b img) 0 (length img) i i 0 inside (omega arith)
    ∙ rw (le-ltb 0 (times p.runs i) (omega (arith, none))) (rw (lt-leb p.old_length i low) refl)

module _ (p : Scheme) (a b : List ℕ) (A : Accept a) (B : Accept b) (h : IsPlanned p a b) where
  abbrev f : Form
  f = form_of a

  abbrev img : List ℕ
  img = with_gate GATE_OPEN p a

  abbrev done : List ℕ
  done = settled_with p b img

  abbrev c : List ℕ
  c = finished p a b

  size_img : length img ≡ length a
  size_img = length-overlay a p.gate (bytes_of_word p.order GATE_OPEN)

  size_done : length done ≡ length a
  size_done = length-map-range_with_len (settled_byte p b img) 0 (length img) ∙ size_img

  -- the undo area stands where it stood
  head_c : (i : ℕ) → 44 ≤ i → i < 48 → slice_index c i ≡ slice_index a i
  head_c i from to =
      let above = (area_within p a b A h).1 in
      word_beside p.order done p.gate GATE_SHUT i (inl (omega (arith, to, above, h.gate)))
      ∙ settled_front p b img i (omega (arith, to, A.long, size_img)) ((plan_lies p a b A h).front i (inl to)) (omega (arith, to, h.old_above))
      ∙ word_beside p.order a p.gate GATE_OPEN i (inl (omega (arith, to, above, h.gate)))

  there_c : word f.order c 44 ≡ p.area
  there_c = word_agrees f.order c a 44 (λ i from to. head_c i from (omega (arith, to))) ∙ h.there

  gate_c : magic_of f.order c p.area ≡ GATE_SHUT
  gate_c =
      word_zero f.order c (p.area + 20)
      (λ i from to. word_cleared p.order done p.gate i (omega (arith, from, h.gate)) (omega (arith, to, h.gate)) (omega (arith, h.gate, size_done, (area_within p a b A h).2, long_area p a b A h)))

  form_b : form_of b ≡ f
  form_b = form_kept a b h.header

  form_c : form_of c ≡ f
  form_c = form_kept b c (λ i at. (plan_fills p a b A B h).reads i (low i at) (beside i at) (inl (omega (arith, low i at, under i at, (area_within p a b A h).1)))) ∙ form_b
    where
      under : (i : ℕ) → (i < 44) ⊎ ((52 ≤ i) × (i < 64)) → i < 64
      under i (inl lt) = omega (arith, lt)
      under i (inr w) = w.1

      low : (i : ℕ) → (i < 44) ⊎ ((52 ≤ i) × (i < 64)) → i < length b
      low i at = let long = B.long in omega (arith, under i at, long)

      beside : (i : ℕ) → (i < 44) ⊎ ((52 ≤ i) × (i < 64)) → (i < 44) ⊎ (48 ≤ i)
      beside i (inl lt) = inl lt
      beside i (inr w) = inr (omega (arith, w.0))

  never_open : Undoable f c → ⊥
  never_open U =
      let gate : magic_of f.order c p.area ≡ GATE_OPEN = ap (magic_of f.order c) (sym there_c) ∙ U.gate_open in
      absurd (omega (arith, gate, gate_c))

  finished_itself : Accept c
  finished_itself =
      let O = (plan_fills p a b A B h).becomes.opens.opens in
      elim O.undo [
        | inl shut ↦ subst Accept (read_as_it_is (form_of c) c shut) O.accepted
        | inr undoable ↦ absurd (never_open (subst (λ g. Undoable g c) form_c undoable))
      ]

  pub finished_accepted : AcceptWith (form_of b) c []
  finished_accepted = subst (λ g. AcceptWith g c []) (form_c ∙ sym form_b) finished_itself
