-- A file that gets another undo area keeps its pairs.
use Rattle.std.proofs.Common.{◌≡◌, ℕ, ◌+◌, ◌<◌, ◌≤◌, ◌⊎◌, ◌%◌, List, [], length, slice_index, sym, ◌∙◌, ap, subst, inl, inr, arith}
use Rattle.std.proofs.lemmas.Bool.{cases_lt, cases_eq}
use Rattle.tdb_words.specs.declared.record.TheConstants.{GATE_SHUT}
use Rattle.tdb_words.specs.Word.{word}
use Rattle.tdb_words.proofs.Words.{word_agrees}
use Rattle.tdb_space.specs.Form.{Form, form_of, data_start}
use Rattle.tdb_space.specs.Record.{rec_len_of, magic_of}
use Rattle.tdb_space.specs.Chain.{chain_of, free_of}
use Rattle.tdb_space.specs.Pairs.{joined}
use Rattle.tdb_space.specs.Extents.{times, extents, area}
use Rattle.tdb_space.specs.Accepted.{AreaInPlace, Accept, AcceptWith}
use Rattle.tdb_space.specs.Moved.{AreaMoved, StaysAccepted}
use Rattle.tdb_space.specs.Undoing.{area_at, Reopens}
use Rattle.tdb_space.proofs.Gate.Contents.{chain_in_lists, area_apart, area_in, area_out, area_not, area_same}
use Rattle.tdb_space.proofs.Accepted.Fresh.{word_zero}
use Rattle.tdb_space.proofs.Moved.SameLists.{moved_stays}
use Rattle.tdb_space.proofs.Undoing.Tails.{lists_within, held_past, no_area_held, area_from}
use Rattle.tdb_undo.specs.Placing.{Placing, LeadsTo, old_area, new_area, IsSet, IsCleared, IsPlaced}
use Rattle.tdb_undo.proofs.Clears.{stays_reopens, stays_further, place}

-- a new area is placed behind an image whose own is all 0
module _ (f : Form) (b c : List ℕ) (at : ℕ) (B : AcceptWith f b []) (blank : (i : ℕ) → 1 ≤ times (area f.order b) i → slice_index b i ≡ 0) (behind : length b ≤ at) (aligned : at % 4 ≡ 0) (p : Placing f.order b at c) where
  front : 172 ≤ length b
  front = omega (arith, B.long)

  low_same : (i : ℕ) → i < data_start f → (i < 44) ⊎ (52 ≤ i) → slice_index c i ≡ slice_index b i
  low_same i low apart = p.same i (omega (arith, low, B.long)) (elim apart [ inl under ↦ inl under | inr over ↦ inr (omega (arith, over)) ])

  chain_listed : (k i : ℕ) → k < f.chains → 1 ≤ times (extents f.order b (chain_of f b k)) i → 1 ≤ times (joined f.chains (λ j. extents f.order b (chain_of f b j))) i + times (extents f.order b (free_of f b)) i
  chain_listed k i under held = chain_in_lists f b k i under held

  listed_same : (i : ℕ) → 1 ≤ times (joined f.chains (λ k. extents f.order b (chain_of f b k))) i + times (extents f.order b (free_of f b)) i → (i < length c) × (slice_index c i ≡ slice_index b i)
  listed_same i held = let w = lists_within f b B i held in (omega (arith, w.1, p.longer), p.same i w.1 (inr (omega (arith, w.0))))

  -- the area stays
  pub kept_moved : word f.order c 44 ≡ word f.order b 44 → ((i : ℕ) → at + 4 ≤ i → i < at + 8 → slice_index c i ≡ 0) → AreaMoved f b c
  kept_moved there none =
      let len : rec_len_of f.order c (area_at f b) ≡ rec_len_of f.order b (area_at f b) = area_word 4 (omega arith) in
      let same : area f.order c ≡ area f.order b = area_same f b c there len in
      record {
        sized = p.sized;
        long = omega (arith, B.long, p.longer);
        low = low_same;
        chains = λ k under i held. listed_same i (omega (arith, chain_listed k i under held));
        frees = λ i held. listed_same i (omega (arith, held));
        area_ok = elim B.area_ok [
          | inl gone ↦ inl (there ∙ gone)
          | inr h ↦ inr (subst (AreaInPlace f c) (sym there) (record {
            aligned = h.aligned;
            above = h.above;
            len_aligned = ap (λ m. m % 4) len ∙ h.len_aligned;
            within = omega (arith, len, h.within, p.longer);
            gate = elim h.gate [ inl opened ↦ inl (area_word 20 (omega arith) ∙ opened) | inr shut ↦ inr (area_word 20 (omega arith) ∙ shut) ];
          }))
        ];
        shut = elim B.shut [ inl gone ↦ inl (there ∙ gone) | inr shut ↦ inr (ap (magic_of f.order c) there ∙ area_word 20 (omega arith) ∙ shut) ];
        apart = λ i held. omega (arith, area_apart f b B i, subst (λ l. 1 ≤ times l i) same held);
        others = λ i from to out. elim (cases_lt i (length b)) [
          | inl within ↦ inl (sym (ap (λ l. times l i) same) ∙ out, p.same i within (inr (omega (arith, from))))
          | inr past ↦ inr (zero_past i past)
        ];
      }
    where
      area_word : (k : ℕ) → k ≤ 20 → word f.order c (area_at f b + k) ≡ word f.order b (area_at f b + k)
      area_word k small = word_agrees f.order c b (area_at f b + k) (λ i from to. p.same i
          (elim B.area_ok [ inl gone ↦ omega (arith, gone, to, small, front) | inr h ↦ omega (arith, h.within, to, small) ])
          (elim B.area_ok [ inl gone ↦ inl (omega (arith, gone, to, small)) | inr h ↦ inr (omega (arith, h.above, from)) ]))

      zero_past : (i : ℕ) → length b ≤ i → slice_index c i ≡ 0
      zero_past i past = elim (cases_lt i (at + 4)) [
        | inl under ↦ p.zeros i past (inl under)
        | inr over ↦ elim (cases_lt i (at + 8)) [ inl word_there ↦ none i over word_there | inr behind_it ↦ p.zeros i past (inr behind_it) ]
      ]

  -- the new one
  pub new_moved : word f.order c 44 ≡ at → rec_len_of f.order c at % 4 ≡ 0 → at + 24 + rec_len_of f.order c at ≤ length c → AreaMoved f b c
  new_moved there words within =
      let gate_shut : magic_of f.order c at ≡ GATE_SHUT = word_zero f.order c (at + 20) (λ i from to. p.zeros i (omega (arith, from, behind)) (inr (omega (arith, from)))) in
      record {
        sized = p.sized;
        long = omega (arith, B.long, p.longer);
        low = low_same;
        chains = λ k under i held. listed_same i (omega (arith, chain_listed k i under held));
        frees = λ i held. listed_same i (omega (arith, held));
        area_ok = inr (subst (AreaInPlace f c) (sym there) (record {
          aligned = aligned;
          above = omega (arith, B.long, behind);
          len_aligned = words;
          within = within;
          gate = inr gate_shut;
        }));
        shut = inr (ap (magic_of f.order c) there ∙ gate_shut);
        apart = λ i held. held_past f b B i (omega (arith, (area_from f c i held).0, there, behind));
        others = λ i from to out. elim (cases_lt i (length b)) [
          | inl under ↦ elim (cases_eq (times (area f.order b) i) 0) [
            | inl free ↦ inl (free, p.same i under (inr (omega (arith, from))))
            | inr held ↦ inr (p.same i under (inr (omega (arith, from))) ∙ blank i (omega (arith, λ (e : times (area f.order b) i ≡ 0). held e)))
          ]
          | inr past ↦ inr (p.zeros i past (beside i to there out within))
        ];
      }
    where
      beside : (i : ℕ) → i < length c → word f.order c 44 ≡ at → times (area f.order c) i ≡ 0 → at + 24 + rec_len_of f.order c at ≤ length c → (i < at + 4) ⊎ (at + 8 ≤ i)
      beside i to there out within = elim (cases_lt i at) [
        | inl under ↦ inl (omega (arith, under))
        | inr over ↦ elim (cases_lt i (at + 24)) [
          | inl inside ↦ absurd (omega (arith, out, area_in f c i (λ e. omega (arith, e, there, behind, front)) (omega (arith, over, there)) (omega (arith, inside, there))))
          | inr past ↦ inr (omega (arith, past))
        ]
      ]

  pub placing_stays : StaysAccepted f b c
  placing_stays = go p.leads
    where
      go : LeadsTo f.order b at c → StaysAccepted f b c
      go (old_area there none) = moved_stays f b c B (kept_moved there none)
      go (new_area there words within) = moved_stays f b c B (new_moved there words within)

-- the placing of a new area after that
module _ (f : Form) (a b : List ℕ) (at : ℕ) (A : Accept a) (is : form_of a ≡ f) (cleared : IsCleared f a b) (behind : length a ≤ at) (aligned : at % 4 ≡ 0) where
  blank : (i : ℕ) → 1 ≤ times (area f.order b) i → slice_index b i ≡ 0
  blank i held = cleared.zeros i (still i held)
    where
      still : (i : ℕ) → 1 ≤ times (area f.order b) i → 1 ≤ times (area f.order a) i
      still i held = elim (cases_eq (times (area f.order a) i) 0) [
        | inr more ↦ omega (arith, λ (e : times (area f.order a) i ≡ 0). more e)
        | inl free ↦ absurd (omega (arith, held, out_of_both i free))
      ]
        where
          out_of_both : (i : ℕ) → times (area f.order a) i ≡ 0 → times (area f.order b) i ≡ 0
          out_of_both i free = elim (cases_eq (word f.order a 44) 0) [
            | inl none ↦ no_area_held f b i (cleared.there ∙ none)
            | inr some ↦ (
                let len : rec_len_of f.order b (area_at f b) ≡ 0 =
                ap (rec_len_of f.order b) cleared.there
                ∙ word_zero f.order b (area_at f a + 4) (λ j from to. cleared.zeros j (omega (arith, area_in f a j some (omega (arith, from)) (omega (arith, to))))) in
                area_out f b i (elim (area_not f a i some free) [ inl low ↦ inl (omega (arith, low, cleared.there)) | inr high ↦ inr (omega (arith, high, cleared.there, len)) ]))
          ]

  pub placing_all : (c : List ℕ) → Placing f.order b at c → StaysAccepted f a c
  placing_all c p = stays_further f a b c cleared.stays (placing_stays f b c at cleared.stays.accepted blank (omega (arith, behind, cleared.size)) aligned p)

  front_free : (i : ℕ) → i < 172 → times (area f.order a) i ≡ 0
  front_free i low = elim (cases_eq (word f.order a 44) 0) [
    | inl none ↦ no_area_held f a i none
    | inr some ↦ area_out f a i (inl (omega (arith, low, (place f a (subst (λ g. AcceptWith g a []) is A) some).above)))
  ]

  pub placing_reopens : (c : List ℕ) → Placing f.order b at c → Reopens a c
  placing_reopens c p = stays_reopens f a c A is (placing_all c p)
      (λ i from to. p.same i (omega (arith, to, cleared.stays.accepted.long)) (inr from) ∙ cleared.others i (front_free i (omega (arith, to))))

  pub placed : (c : List ℕ) (n : ℕ) → Placing f.order b at c → IsSet f.order c at n → IsPlaced f a c at n
  placed c n p set = record {
    stays = placing_all c p;
    set = set;
    others = λ i low apart free. p.same i (omega (arith, low, cleared.size)) apart ∙ cleared.others i free;
    zeros = λ i where_at apart. elim where_at [
      | inl past ↦ p.zeros i (omega (arith, past, cleared.size)) apart
      | inr held ↦ p.same i (omega (arith, held_within i held, cleared.size)) (inr (held_high i held)) ∙ cleared.zeros i held
    ];
  }
    where
      held_high : (i : ℕ) → 1 ≤ times (area f.order a) i → 48 ≤ i
      held_high i held = elim (cases_lt i 172) [ inl low ↦ absurd (omega (arith, held, front_free i low)) | inr high ↦ omega (arith, high) ]

      held_within : (i : ℕ) → 1 ≤ times (area f.order a) i → i < length a
      held_within i held = elim (cases_lt i (length a)) [
        | inl low ↦ low
        | inr high ↦ absurd (elim (cases_eq (word f.order a 44) 0) [
          | inl none ↦ omega (arith, held, no_area_held f a i none)
          | inr some ↦ omega (arith, held, area_out f a i (inr (omega (arith, high, (place f a (subst (λ g. AcceptWith g a []) is A) some).within))))
        ])
      ]
