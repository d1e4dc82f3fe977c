-- A file that grows by zeros, and whose undo area is set anew, dropped or given up as a hand, holds the same pairs.
use Rattle.std.proofs.Common.{◌≡◌, ℕ, ◌+◌, ◌<◌, ◌≤◌, ◌⊎◌, List, [], ◌∷◌, length, replicate, refl, sym, ◌∙◌, ap, subst, inl, inr, arith}
use Rattle.std.specs.Prelude.{slice_index, ◌%◌}
use Rattle.std.proofs.lemmas.Bool.{cases_lt}
use Rattle.std.proofs.lemmas.List.{length-replicate, get_or-replicate, get_or_past}
use Rattle.tdb_disk.specs.Image.{overlay}
use Rattle.tdb_disk.proofs.Image.{length-overlay, overlay_below, overlay_above, overlay_in}
use Rattle.tdb_words.specs.declared.record.TheConstants.{GATE_SHUT}
use Rattle.tdb_words.specs.Word.{word}
use Rattle.tdb_words.proofs.Words.{word_agrees}
use Rattle.tdb_space.specs.Form.{Form, data_start}
use Rattle.tdb_space.specs.Record.{rec_len_of, magic_of}
use Rattle.tdb_space.specs.Chain.{chain_of, free_of}
use Rattle.tdb_space.specs.Extents.{HandPair, HandOk, times, once, area, all_extents}
use Rattle.tdb_space.specs.Accepted.{AreaInPlace, AreaOk, Shut, AcceptWith}
use Rattle.tdb_space.specs.Exchange.{InHands}
use Rattle.tdb_space.specs.Moved.{AreaMoved, StaysAccepted}
use Rattle.tdb_space.specs.Undoing.{area_at, area_end}
use Rattle.tdb_space.specs.NewArea.{Longer, AreaSet, AreaDropped, GivenUp, HoldsHand, BareArea, HeaderOnly}
use Rattle.tdb_disk.specs.Stop.{Grown}
use Rattle.tdb_space.proofs.Extents.Counts.{where_is, times_all}
use Rattle.tdb_space.proofs.Extents.Counts.Lies.{lies, below, above}
use Rattle.tdb_space.proofs.Accepted.Areas.{area_still, area_within}
use Rattle.tdb_space.proofs.Accepted.Writes.{write_accepted, write_order, write_map}
use Rattle.tdb_space.proofs.Moved.SameLists.{moved_stays, moved_held}
use Rattle.tdb_space.proofs.Undoing.Tails.{lists_within, no_area_held}
use Rattle.tdb_space.proofs.Gate.Contents.{in_lists, area_apart, chain_in_lists, area_in, area_out, area_not}

module _ (f : Form) (a c : List ℕ) (A : AcceptWith f a []) (g : Longer a c) where
  area_stays : (area f.order c ≡ area f.order a) × AreaOk f c × Shut f c
  area_stays =
      area_still f a c g.longer (word_agrees f.order c a 44 (λ i _ to. g.front i (omega (arith, to, A.long)))) (λ i held. g.front i (area_within f a i A.area_ok held).1) A.area_ok A.shut

  longer_moved : AreaMoved f a c
  longer_moved =
      let same : (i : ℕ) → times (area f.order c) i ≡ times (area f.order a) i = λ i. ap (λ es. times es i) area_stays.0 in
      record {
        sized = g.sized;
        long = omega (arith, g.longer, A.long);
        low = λ i under _. g.front i (omega (arith, under, A.long));
        chains = λ k low i held. (let w = lists_within f a A i (chain_in_lists f a k i low held) in (omega (arith, w.1, g.longer), g.front i w.1));
        frees = λ i held. (let w = lists_within f a A i (omega (arith, held)) in (omega (arith, w.1, g.longer), g.front i w.1));
        area_ok = area_stays.1;
        shut = area_stays.2;
        apart = λ i held. omega (arith, held, same i, area_apart f a A i);
        others = λ i from to none. elim (cases_lt i (length a)) [ inl low ↦ inl (omega (arith, none, same i), g.front i low) | inr past ↦ inr (g.zeros i past to) ];
      }

  pub longer_stays : StaysAccepted f a c
  longer_stays = moved_stays f a c A longer_moved

-- a byte of a list stays where all outside an extent behind the heads that holds none of theirs does
listed_stays : (f : Form) (a b : List ℕ) (x e : ℕ) → AcceptWith f a [] → length b ≡ length a → ((i : ℕ) → (i < 44) ⊎ (48 ≤ i) → (i < x) ⊎ (e ≤ i) → slice_index b i ≡ slice_index a i) → ((i : ℕ) → x ≤ i → i < e → in_lists f a i ≡ 0) → (i : ℕ) → 1 ≤ in_lists f a i → (i < length b) × (slice_index b i ≡ slice_index a i)
listed_stays f a b x e A size beside apart i held =
    let w = lists_within f a A i held in (
      omega (arith, size, w.1),
      beside i (inr (omega (arith, w.0))) (elim (cases_lt i x) [ inl low ↦ inl low | inr from ↦ elim (cases_lt i e) [ inl to ↦ absurd (omega (arith, held, apart i from to)) | inr past ↦ inr past ] ]),
    )

module _ (f : Form) (a b : List ℕ) (x n : ℕ) (A : AcceptWith f a []) (s : AreaSet f a b x n) where
  some_b : word f.order b 44 ≡ 0 → ⊥
  some_b none = absurd (omega (arith, none, s.there, s.above))

  len_b : rec_len_of f.order b (word f.order b 44) ≡ n
  len_b = ap (rec_len_of f.order b) s.there ∙ s.rec_len

  in_place : AreaInPlace f b x
  in_place = record { aligned = s.aligned; above = s.above; len_aligned = ap (λ m. m % 4) s.rec_len ∙ s.len_aligned; within = omega (arith, s.rec_len, s.size, s.within); gate = inr s.shut }

  set_moved : AreaMoved f a b
  set_moved = record {
    sized = ap (λ m. m % 4) s.size ∙ A.sized;
    long = omega (arith, s.size, A.long);
    low = λ i under beside. s.beside i (elim beside [ inl lt ↦ inl lt | inr le ↦ inr (omega (arith, le)) ]) (inl (omega (arith, under, s.above)));
    chains = λ k low i held. listed_stays f a b x (x + 24 + n) A s.size s.beside s.apart i (chain_in_lists f a k i low held);
    frees = λ i held. listed_stays f a b x (x + 24 + n) A s.size s.beside s.apart i (omega (arith, held));
    area_ok = inr (subst (AreaInPlace f b) (sym s.there) in_place);
    shut = inr (ap (magic_of f.order b) s.there ∙ s.shut);
    apart = λ i held.
        s.apart i
        (elim (cases_lt i x) [ inr from ↦ from | inl low ↦ absurd (omega (arith, held, area_out f b i (inl (omega (arith, low, s.there))))) ])
        (elim (cases_lt i (x + 24 + n)) [ inl to ↦ to | inr past ↦ absurd (omega (arith, held, area_out f b i (inr (omega (arith, past, s.there, len_b))))) ]);
    others = λ i from to none.
        (let out : (i < x) ⊎ (x + 24 + n ≤ i) = elim (area_not f b i some_b none) [ inl lt ↦ inl (omega (arith, lt, s.there)) | inr le ↦ inr (omega (arith, le, s.there, len_b)) ] in
        let same = s.beside i (inr (omega (arith, from))) out in
        elim (cases_lt 0 (times (area f.order a) i)) [
          | inl held ↦ inr (same ∙ s.left i (omega (arith, held)) out)
          | inr free ↦ inl (omega (arith, free), same)
        ]);
  }

  pub area_set_stays : StaysAccepted f a b
  area_set_stays = moved_stays f a b A set_moved

-- what a stop of a growth leaves
pub grown_longer : (a c : List ℕ) (to : ℕ) → length a % 4 ≡ 0 → to % 4 ≡ 0 → Grown (length a) to a c → Longer a c
grown_longer a c to words even g = record {
  longer = g.no_shorter;
  sized = g.aligned words even;
  front = g.below;
  zeros = λ i from _.
      elim (cases_lt i to) [
        | inr past ↦ g.above i past ∙ get_or_past a i 0 from
        | inl low ↦ elim (g.between i from low) [ inl same ↦ same ∙ get_or_past a i 0 from | inr none ↦ none ]
      ];
}

-- where the content is 0, another header with a shut gate is the same area, or one of no length
module _ (f : Form) (a b : List ℕ) (A : AcceptWith f a []) (bare : BareArea f a) (h : HeaderOnly f a b) where
  bare_place : AreaInPlace f a (area_at f a)
  bare_place = elim A.area_ok [ inl none ↦ absurd (h.some none) | inr there ↦ there ]

  bare_shut : magic_of f.order a (area_at f a) ≡ GATE_SHUT
  bare_shut = elim A.shut [ inl none ↦ absurd (h.some none) | inr shut ↦ shut ]

  fewer : (rec_len_of f.order b (area_at f a) % 4 ≡ 0) × (rec_len_of f.order b (area_at f a) ≤ rec_len_of f.order a (area_at f a))
  fewer = elim h.len [ inl same ↦ (ap (λ m. m % 4) same ∙ bare_place.len_aligned, omega (arith, same)) | inr none ↦ (ap (λ m. m % 4) none, omega (arith, none)) ]

  bare_set : AreaSet f a b (area_at f a) (rec_len_of f.order b (area_at f a))
  bare_set = record {
    size = h.size;
    there = word_agrees f.order b a 44 (λ i _ to. h.others i (inl (omega (arith, to, bare_place.above))));
    rec_len = refl;
    shut = word_agrees f.order b a (area_at f a + 20) (λ i from _. h.others i (inr from)) ∙ bare_shut;
    aligned = bare_place.aligned;
    len_aligned = fewer.0;
    above = bare_place.above;
    within = omega (arith, fewer.1, bare_place.within);
    beside = λ i _ out. h.others i (elim out [ inl lt ↦ inl lt | inr le ↦ inr (omega (arith, le)) ]);
    left = λ i held out.
        (let from : area_at f a ≤ i = elim (cases_lt i (area_at f a)) [ inr high ↦ high | inl low ↦ absurd (omega (arith, held, area_out f a i (inl low))) ] in
        let to : i < area_end f a = elim (cases_lt i (area_end f a)) [ inl low ↦ low | inr past ↦ absurd (omega (arith, held, area_out f a i (inr past))) ] in
        bare i (elim out [ inl lt ↦ absurd (omega (arith, lt, from)) | inr le ↦ omega (arith, le) ]) to);
    apart = λ i from to. omega (arith, area_in f a i h.some from (omega (arith, to, fewer.1)), area_apart f a A i);
  }

  pub bare_header_stays : StaysAccepted f a b
  bare_header_stays = area_set_stays f a b (area_at f a) (rec_len_of f.order b (area_at f a)) A bare_set

-- an undo area that is dropped: whatever stands in a part of it is 0 in the new image
module _ (f : Form) (a b : List ℕ) (A : AcceptWith f a []) (size : length b ≡ length a) (none : word f.order b 44 ≡ 0) (beside : (i : ℕ) → (i < 44) ⊎ (48 ≤ i) → times (area f.order a) i ≡ 0 → slice_index b i ≡ slice_index a i) (left : (i : ℕ) → 1 ≤ times (area f.order a) i → slice_index b i ≡ 0) where
  free_of_area : (i : ℕ) → 1 ≤ in_lists f a i → times (area f.order a) i ≡ 0
  free_of_area i held = omega (arith, held, area_apart f a A i)

  below_area : (i : ℕ) → i < data_start f → times (area f.order a) i ≡ 0
  below_area i under = elim (cases_lt 0 (times (area f.order a) i)) [ inr out ↦ omega (arith, out) | inl held ↦ absurd (omega (arith, under, (area_within f a i A.area_ok (omega (arith, held))).0)) ]

  listed : (i : ℕ) → 1 ≤ in_lists f a i → (i < length b) × (slice_index b i ≡ slice_index a i)
  listed i held = (let w = lists_within f a A i held in (omega (arith, size, w.1), beside i (inr (omega (arith, w.0))) (free_of_area i held)))

  pub gone_moved : AreaMoved f a b
  gone_moved = record {
    sized = ap (λ m. m % 4) size ∙ A.sized;
    long = omega (arith, size, A.long);
    low = λ i under where_at. beside i (elim where_at [ inl lt ↦ inl lt | inr le ↦ inr (omega (arith, le)) ]) (below_area i under);
    chains = λ k low i held. listed i (chain_in_lists f a k i low held);
    frees = λ i held. listed i (omega (arith, held));
    area_ok = inl none;
    shut = inl none;
    apart = λ i held. absurd (omega (arith, held, no_area_held f b i none));
    others = λ i from to _.
        elim (cases_lt 0 (times (area f.order a) i)) [
          | inl held ↦ inr (left i (omega (arith, held)))
          | inr free ↦ (let out : times (area f.order a) i ≡ 0 = omega (arith, free) in inl (out, beside i (inr (omega (arith, from))) out))
        ];
  }

pub area_dropped_stays : (f : Form) (a b : List ℕ) → AcceptWith f a [] → AreaDropped f a b → StaysAccepted f a b
area_dropped_stays f a b A d =
    moved_stays f a b A (gone_moved f a b A d.size d.none (λ i off _. d.beside i off) (λ i held. d.beside i (inr (omega (arith, (area_within f a i A.area_ok held).0))) ∙ d.left i held))

-- bytes that nothing holds may be a hand
hand_out : (f : Form) (c : List ℕ) (hand : HandPair) → AcceptWith f c [] → HandOk f c hand → ((i : ℕ) → hand.0 ≤ i → i < hand.0 + 24 + hand.1 → times (all_extents f c (chain_of f c) (free_of f c) []) i ≡ 0) → AcceptWith f c (hand ∷ [])
hand_out f c hand C ok free = record {
  header = C.header;
  form = C.form;
  some = C.some;
  sized = C.sized;
  long = C.long;
  area_ok = C.area_ok;
  shut = C.shut;
  chains = C.chains;
  frees = C.frees;
  filed = C.filed;
  keys = C.keys;
  held = (ok, tt);
  apart = λ i.
      elim (where_is (hand.0, 24 + hand.1) i) [
        | lies from to one ↦ omega (arith, count i, free i from (omega (arith, to)), one)
        | below _ out ↦ omega (arith, count i, out, C.apart i)
        | above _ out ↦ omega (arith, count i, out, C.apart i)
      ];
  stray = λ i from to none. C.stray i from to (omega (arith, none, count i));
}
  where
    count : (i : ℕ) → times (all_extents f c (chain_of f c) (free_of f c) (hand ∷ [])) i ≡ times (all_extents f c (chain_of f c) (free_of f c) []) i + once (hand.0, 24 + hand.1) i
    count i = omega (arith, times_all f c (chain_of f c) (free_of f c) (hand ∷ []) i, times_all f c (chain_of f c) (free_of f c) [] i)

-- so many zeros
abbrev zeros_of : ℕ → List ℕ
zeros_of n = replicate n 0

module _ (f : Form) (a b : List ℕ) (at n : ℕ) (A : AcceptWith f a []) (g : GivenUp f a b at n) where
  place : AreaInPlace f a at
  place = elim A.area_ok [ inl none ↦ absurd (g.some none) | inr there ↦ subst (AreaInPlace f a) g.there there ]

  len_a : rec_len_of f.order a (word f.order a 44) ≡ n
  len_a = ap (rec_len_of f.order a) g.there ∙ g.rec_len

  -- the image with zeros in that place
  abbrev blank : List ℕ
  blank = overlay b at (zeros_of (24 + n))

  zeros_long : length (zeros_of (24 + n)) ≡ 24 + n
  zeros_long = length-replicate {A = ℕ} (24 + n) 0

  blank_size : length blank ≡ length b
  blank_size = length-overlay b at (zeros_of (24 + n))

  blank_beside : (i : ℕ) → (i < at) ⊎ (at + 24 + n ≤ i) → slice_index blank i ≡ slice_index b i
  blank_beside i (inl low) = overlay_below b at (zeros_of (24 + n)) i low
  blank_beside i (inr past) = overlay_above b at (zeros_of (24 + n)) i (omega (arith, past, zeros_long))

  blank_in : (i : ℕ) → at ≤ i → i < at + 24 + n → slice_index blank i ≡ 0
  blank_in i from to =
      overlay_in b at (zeros_of (24 + n)) i from (omega (arith, to, zeros_long)) (omega (arith, to, g.size, g.rec_len, place.within))
      ∙ get_or-replicate (24 + n) _ 0 0 (omega (arith, from, to))

  out_a : (i : ℕ) → times (area f.order a) i ≡ 0 → (i < at) ⊎ (at + 24 + n ≤ i)
  out_a i none = elim (area_not f a i g.some none) [ inl lt ↦ inl (omega (arith, lt, g.there)) | inr le ↦ inr (omega (arith, le, g.there, len_a)) ]

  in_a : (i : ℕ) → 1 ≤ times (area f.order a) i → (at ≤ i) × (i < at + 24 + n)
  in_a i held = (
    elim (cases_lt i at) [ inr from ↦ from | inl low ↦ absurd (omega (arith, held, area_out f a i (inl (omega (arith, low, g.there))))) ],
    elim (cases_lt i (at + 24 + n)) [ inl to ↦ to | inr past ↦ absurd (omega (arith, held, area_out f a i (inr (omega (arith, past, g.there, len_a))))) ],
  )

  blank_moved : AreaMoved f a blank
  blank_moved =
      gone_moved f a blank A (blank_size ∙ g.size) (word_agrees f.order blank b 44 (λ i _ to. blank_beside i (inl (omega (arith, to, place.above)))) ∙ g.none)
      (λ i off none. blank_beside i (out_a i none) ∙ g.beside i off (out_a i none))
      (λ i held. (let w = in_a i held in blank_in i w.0 w.1))

  blank_stays : StaysAccepted f a blank
  blank_stays = moved_stays f a blank A blank_moved

  no_area_blank : word f.order blank 44 ≡ 0
  no_area_blank = word_agrees f.order blank b 44 (λ i _ to. blank_beside i (inl (omega (arith, to, place.above)))) ∙ g.none

  with_hand : AcceptWith f blank ((at, n) ∷ [])
  with_hand =
      hand_out f blank (at, n) blank_stays.accepted
      (record { aligned = place.aligned; len_aligned = ap (λ m. m % 4) (sym g.rec_len) ∙ place.len_aligned; above = place.above; within = omega (arith, blank_size, g.size, g.rec_len, place.within) })
      (λ i from to.
      (let area_there : times (area f.order a) i ≡ 1 = area_in f a i g.some (omega (arith, from, g.there)) (omega (arith, to, g.there, len_a)) in
      omega (arith, moved_held f a blank A blank_moved i, no_area_held f blank i no_area_blank, area_apart f a A i, area_there)))

  in_hand : InHands f blank b ((at, n) ∷ [])
  in_hand = record {
    size = sym blank_size;
    others = λ i none.
        sym (blank_beside i (elim (where_is (at, 24 + n) i) [ lies _ _ one ↦ absurd (omega (arith, one, none)) | below low _ ↦ inl low | above past _ ↦ inr (omega (arith, past)) ]));
  }

  pub area_is_hand : HoldsHand f a b (at, n)
  area_is_hand = record {
    accepted = write_accepted f blank b ((at, n) ∷ []) with_hand in_hand;
    same_order = write_order f blank b ((at, n) ∷ []) with_hand in_hand ∙ blank_stays.same_order;
    same_map = λ key. write_map f blank b ((at, n) ∷ []) with_hand in_hand key ∙ blank_stays.same_map key;
  }
