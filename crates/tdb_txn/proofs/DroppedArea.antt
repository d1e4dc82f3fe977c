-- An undo area is dropped, and goes to the free list.
use Rattle.std.proofs.Common.{◌≡◌, ℕ, ◌+◌, ◌-◌, ◌<◌, ◌≤◌, ◌^◌, ◌⊎◌, List, [], ◌∷◌, length, slice_index, zero, suc, refl, sym, ◌∙◌, ap, inl, inr, arith}
use Rattle.std.proofs.lemmas.Bool.{cases_lt}
use Rattle.tdb_disk.specs.Image.{overlay}
use Rattle.tdb_disk.proofs.Image.{length-overlay, overlay_below, overlay_in, overlay_above}
use Rattle.tdb_words.specs.Word.{word}
use Rattle.tdb_words.proofs.Words.{word_agrees}
use Rattle.tdb_space.specs.Accepted.{AcceptWith, AreaInPlace}
use Rattle.tdb_space.specs.Chain.{free_of}
use Rattle.tdb_space.specs.Extents.{Extent, area, once, times}
use Rattle.tdb_space.specs.Form.{Form, data_start}
use Rattle.tdb_space.specs.Moved.{StaysAccepted}
use Rattle.tdb_space.specs.NewArea.{GivenUp, HoldsHand}
use Rattle.tdb_space.specs.Record.{rec_len_of}
use Rattle.tdb_space.proofs.NewArea.AreaSets.{gone_moved, area_is_hand}
use Rattle.tdb_space.proofs.Gate.Contents.{area_in, area_out}
use Rattle.tdb_space.proofs.Extents.Counts.{once_in, once_out}
use Rattle.tdb_space.proofs.Accepted.Fresh.{word_zero}
use Rattle.tdb_space.proofs.Moved.SameLists.{moved_stays}
use Rattle.tdb_free.specs.FreeList.{CanBeGiven, Given, GivenBack}
use Rattle.tdb_free.proofs.Accepted.{can_be_given, given_back}
use Rattle.tdb_txn.specs.Committing.{HasAreaIn}
use Rattle.tdb_txn.specs.Found.{Blanked}
use Rattle.tdb_txn.specs.GivenUp.{AreaZeroed, given, too_short, AreaGivenUp}

-- four zeros
abbrev pub no_word : List ℕ
no_word = 0 ∷ 0 ∷ 0 ∷ 0 ∷ []

no_word_zero : (k : ℕ) → k < 4 → slice_index no_word k ≡ 0
no_word_zero zero low = refl
no_word_zero (suc zero) low = refl
no_word_zero (suc (suc zero)) low = refl
no_word_zero (suc (suc (suc zero))) low = refl
no_word_zero (suc (suc (suc (suc k)))) low = absurd (omega (arith, low))

-- an undo area holds just the bytes of its extent
pub area_once : (f : Form) (a : List ℕ) (e : Extent) → HasAreaIn f.order a e → (i : ℕ) → times (area f.order a) i ≡ once e i
area_once f a e has i =
    let at_is : e.0 ≡ word f.order a 44 = ap (λ (x : Extent). x.0) has.extent in
    let long_is : e.1 ≡ 24 + rec_len_of f.order a (word f.order a 44) = ap (λ (x : Extent). x.1) has.extent in
    elim (cases_lt i e.0) [
      | inl low ↦ area_out f a i (inl (omega (arith, low, at_is))) ∙ sym (once_out e i (inl low))
      | inr from ↦ elim (cases_lt i (e.0 + e.1)) [
        | inl to ↦ area_in f a i has.some (omega (arith, from, at_is)) (omega (arith, to, at_is, long_is)) ∙ sym (once_in e i from to)
        | inr past ↦ area_out f a i (inr (omega (arith, past, at_is, long_is))) ∙ sym (once_out e i (inr past))
      ]
    ]

module _ (f : Form) (a b : List ℕ) (e : Extent) (A : AcceptWith f a []) (has : HasAreaIn f.order a e) (B : Blanked e a b) (size : length b ≡ length a) where
  -- the image with no word at 44
  abbrev pub dropped : List ℕ
  dropped = overlay b 44 no_word

  dropped_size : length dropped ≡ length a
  dropped_size = length-overlay b 44 no_word ∙ size

  place : AreaInPlace f a (word f.order a 44)
  place = elim A.area_ok [ inl none ↦ absurd (has.some none) | inr there ↦ there ]

  at_is : e.0 ≡ word f.order a 44
  at_is = ap (λ (x : Extent). x.0) has.extent

  long_is : e.1 ≡ 24 + rec_len_of f.order a (word f.order a 44)
  long_is = ap (λ (x : Extent). x.1) has.extent

  none : word f.order dropped 44 ≡ 0
  none =
      word_zero f.order dropped 44
      (λ i from to. overlay_in b 44 no_word i from to (omega (arith, to, size, A.long)) ∙ no_word_zero (i - 44) (omega (arith, from, to)))

  beside : (i : ℕ) → (i < 44) ⊎ (48 ≤ i) → slice_index dropped i ≡ slice_index b i
  beside i (inl low) = overlay_below b 44 no_word i low
  beside i (inr past) = overlay_above b 44 no_word i past

  above : (i : ℕ) → 1 ≤ once e i → data_start f ≤ i
  above i held = elim (cases_lt i e.0) [ inl low ↦ absurd (omega (arith, held, once_out e i (inl low))) | inr from ↦ omega (arith, from, at_is, place.above) ]

  zeroed : AreaZeroed f a dropped e
  zeroed = record {
    size = dropped_size;
    none = none;
    inside = λ i held. beside i (inr (omega (arith, above i held))) ∙ B.inside i held;
    beside = λ i out free. beside i out ∙ B.outside i free;
  }

  stays : StaysAccepted f a dropped
  stays =
      moved_stays f a dropped A
      (gone_moved f a dropped A dropped_size none (λ i out free. zeroed.beside i out (sym (area_once f a e has i) ∙ free)) (λ i held. zeroed.inside i (omega (arith, held, area_once f a e has i))))

  -- where it is too short for a record
  pub short_given_up : e.1 < 28 → AreaGivenUp f a dropped e
  short_given_up short = record {
    between = dropped;
    zeroed = zeroed;
    given = too_short short refl;
    accepted = stays.accepted;
    none = none;
    same_order = stays.same_order;
    same_header = λ i front. front_same i (elim front [ inl low ↦ inl low | inr high ↦ inr (omega (arith, high.0)) ]) (elim front [ inl low ↦ omega (arith, low) | inr high ↦ omega (arith, high.1) ]);
    size = dropped_size;
  }
    where
      front_same : (i : ℕ) → (i < 44) ⊎ (48 ≤ i) → i < data_start f → slice_index dropped i ≡ slice_index a i
      front_same i out low = zeroed.beside i out (once_out e i (inl (omega (arith, low, at_is, place.above))))

  as_hand : GivenUp f a dropped e.0 (e.1 - 24)
  as_hand = record {
    some = has.some;
    there = sym at_is;
    rec_len = ap (rec_len_of f.order a) at_is ∙ omega (arith, long_is);
    size = dropped_size;
    none = none;
    beside = λ i out free. zeroed.beside i out (once_out e i (elim free [ inl low ↦ inl low | inr past ↦ inr (omega (arith, past, long_is)) ]));
  }

  hand_out : HoldsHand f a dropped (e.0, e.1 - 24)
  hand_out = area_is_hand f a dropped e.0 (e.1 - 24) A as_hand

  pub area_can_be_given : length a < 2 ^ 32 → CanBeGiven f dropped (free_of f dropped) (e.0, e.1 - 24)
  area_can_be_given short = can_be_given f dropped (e.0, e.1 - 24) [] hand_out.accepted (omega (arith, short, dropped_size))

  -- where it is given
  pub area_given_up : (c : List ℕ) → 28 ≤ e.1 → Given f dropped c (free_of f dropped) (e.0, e.1 - 24) → AreaGivenUp f a c e
  area_given_up c long G =
      let back : GivenBack f dropped c (e.0, e.1 - 24) [] = given_back f dropped c (e.0, e.1 - 24) [] hand_out.accepted G in
      let low : (i : ℕ) → i < 64 → slice_index c i ≡ slice_index dropped i = (λ i under. G.exchanged.low i (omega (arith, under)) (inl (omega (arith, under)))) in
      record {
        between = dropped;
        zeroed = zeroed;
        given = given long G;
        accepted = back.accepted;
        none = word_agrees f.order c dropped 44 (λ i from to. low i (omega (arith, to))) ∙ none;
        same_order = back.same_pairs ∙ hand_out.same_order;
        same_header = λ i front. low i (elim front [ inl under ↦ omega (arith, under) | inr high ↦ high.1 ])
            ∙ zeroed.beside i (elim front [ inl under ↦ inl under | inr high ↦ inr (omega (arith, high.0)) ])
            (once_out e i (inl (omega (arith, at_is, place.above, under_start i front))));
        size = G.exchanged.size ∙ dropped_size;
      }
    where
      under_start : (i : ℕ) → (i < 44) ⊎ ((52 ≤ i) × (i < 64)) → i < data_start f
      under_start i (inl under) = omega (arith, under)
      under_start i (inr high) = omega (arith, high.1)
