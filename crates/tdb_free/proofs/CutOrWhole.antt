-- The first free record that is long enough is taken whole, or its end is.
use Rattle.std.proofs.Common.{◌≡◌, ℕ, ◌+◌, ◌-◌, ◌<◌, ◌≤◌, true, false, List, [], ◌∷◌, Some, refl, sym, ◌∙◌, ap, subst, inl, inr, arith}
use Rattle.std.specs.Prelude.{◌%◌}
use Rattle.std.proofs.lemmas.Bool.{cases_lt, le-leb, lt-leb}
use Rattle.tdb_words.specs.declared.record.Rec.{Rec}
use Rattle.tdb_words.specs.Word.{word}
use Rattle.tdb_space.specs.Form.{Form, free_head}
use Rattle.tdb_space.specs.Record.{Whole, IsFree, rec_len_of}
use Rattle.tdb_space.specs.Chain.{Member, without}
use Rattle.tdb_space.specs.Extents.{HandPair, extent_at}
use Rattle.tdb_space.specs.Exchange.{Agree, FreeExchanged, LedPast, Touched}
use Rattle.tdb_space.proofs.Extents.Counts.{once_in}
use Rattle.tdb_space.proofs.Exchange.Kept.{words_kept}
use Rattle.tdb_space.proofs.Chain.Walks.{linked_whole}
use Rattle.tdb_space.proofs.Chain.Members.{led_member, led_from, two_members}
use Rattle.tdb_space.proofs.Chain.Unlinks.{unlinked_bodies}
use Rattle.tdb_space.proofs.Chain.Touches.{touched_beside}
use Rattle.tdb_space.proofs.Chain.Trades.{FreeIs, free_taken, free_cut}
use Rattle.tdb_space.specs.Stays.{OnlyIn}
use Rattle.tdb_free.specs.FreeList.{ListedOnce, HoldsNothing, free_pairs, is_long_enough, is_cut, hand_of, left_of, instead, taken, taken_as}
use Rattle.tdb_free.specs.Search.{IsFirst}
use Rattle.tdb_free.specs.TakenFrom.{AllHoldNothing, TakenFrom, take_words}
use Rattle.tdb_free.specs.Shortened.{Shortened}
use Rattle.tdb_free.specs.declared.search.Spot.{Spot}
use Rattle.tdb_free.proofs.TakenAs.{led_apart, member_without, words_held, lens_kept, pairs_without, pairs_cut}

module _ (f : Form) (a b offs : List ℕ) (rec_len : ℕ) (p : Spot) (F : ListedOnce f a offs) (is_first : IsFirst f a offs (is_long_enough rec_len) p) where
  abbrev found : HandPair
  found = (p.off, p.rec_len)

  abbrev olds : List HandPair
  olds = free_pairs f a offs

  list_is : FreeIs f a offs
  list_is = record { list = F.list; once_held = F.once_held }

  member : Member p.off offs
  member = led_member free_head offs p.before p.off is_first.leads

  whole_there : Whole f a p.off
  whole_there = (linked_whole f IsFree a (word f.order a free_head) offs p.off F.list member).0

  len_there : p.rec_len ≡ rec_len_of f.order a p.off
  len_there = is_first.rec_len

  taken_is : (hand : HandPair) (rest : List HandPair) → hand_of rec_len found ≡ hand → instead (is_long_enough rec_len) (left_of rec_len) olds ≡ rest → taken olds rec_len ≡ Some (record { hand = hand; pairs = rest })
  taken_is hand rest is left = ap (taken_as olds rec_len) is_first.first ∙ (λ j. Some (record { hand = is j; pairs = left j }))

  -- the word that leads to it isn't its own first word
  other_word : p.before ≡ p.off → ⊥
  other_word = led_apart f a b (is_long_enough rec_len) (left_of rec_len) found free_head offs p.before p.off
      (λ m. absurd (omega (arith, (linked_whole f IsFree a (word f.order a free_head) offs free_head F.list m).0.above))) F.once_held is_first.leads

  -- where just that word changes, it is one that leads on in the list without the record
  led_only : LedPast f a b p.before p.off → OnlyIn (take_words [] (without p.off offs)) a b
  led_only L i out =
      elim (cases_lt i p.before) [
        | inl less ↦ L.others i (inl less)
        | inr high ↦
            elim (cases_lt i (p.before + 4)) [
              | inl within ↦
                  elim (led_from free_head offs p.before p.off is_first.leads) [
                    | inl e ↦ absurd (omega (arith, out, once_in (free_head, 4) i (omega (arith, e, high)) (omega (arith, e, within))))
                    | inr m ↦ absurd (omega (arith, out, once_in (p.before, 4) i high within, words_held p.before i (without p.off offs) (member_without p.before p.off offs m other_word)))
                  ]
              | inr over ↦ L.others i (inr over)
            ]
      ]

  -- and it isn't in the record
  led_outside : LedPast f a b p.before p.off → Agree a b p.off (p.off + 24 + p.rec_len)
  led_outside L i from to =
      elim (cases_lt i p.before) [
        | inl less ↦ L.others i (inl less)
        | inr high ↦
            elim (cases_lt i (p.before + 4)) [
              | inl within ↦
                  elim (led_from free_head offs p.before p.off is_first.leads) [
                    | inl e ↦ absurd (omega (arith, e, within, from, whole_there.above))
                    | inr m ↦
                        absurd (omega (arith, F.once_held i, two_members f.order a offs p.before p.off i m member other_word, once_in (extent_at f.order a p.before) i high (omega (arith, within)), once_in (extent_at f.order a p.off) i from (omega (arith, to, len_there))))
                  ]
              | inr over ↦ L.others i (inr over)
            ]
      ]

  -- of the front just the header behind its first word and the tailer are written
  front_only : (n : ℕ) → Shortened f a b p.off n → OnlyIn (take_words ((p.off, n) ∷ []) offs) a b
  front_only n S i out =
      S.others i
      (elim (cases_lt i (p.off + 4)) [
        | inl under ↦ inl under
        | inr high ↦ elim (cases_lt i (p.off + 24)) [ inl within ↦ absurd (omega (arith, out, once_in (p.off + 4, 20) i high (omega (arith, within)))) | inr over ↦ inr over ]
      ])
      (elim (cases_lt i (p.off + 20 + n)) [
        | inl under ↦ inl under
        | inr high ↦ elim (cases_lt i (p.off + 24 + n)) [ inl within ↦ absurd (omega (arith, out, once_in (p.off + 20 + n, 4) i high (omega (arith, within)))) | inr over ↦ inr over ]
      ])

  -- it holds nothing
  front_empty : (n : ℕ) → Shortened f a b p.off n → HoldsNothing f.order b p.off
  front_empty n S = record {
    key_len = ap (λ (r : Rec). r.key_len) S.header;
    data_len = ap (λ (r : Rec). r.data_len) S.header;
    full_hash = ap (λ (r : Rec). r.full_hash) S.header;
  }

  -- less than 36 bytes would be left: it leaves the list
  pub taken_whole : (hand : HandPair) → p.rec_len < rec_len + 36 → hand ≡ found → LedPast f a b p.before p.off → TakenFrom f a b offs rec_len hand
  taken_whole hand short is L =
      let not_cut : is_cut rec_len found ≡ false = lt-leb (24 + rec_len + 36) (24 + p.rec_len) (omega (arith, short)) in
      let bodies = unlinked_bodies f IsFree a b free_head offs p.before p.off F.list (omega arith) F.once_held is_first.leads L in
      let all : hand_of rec_len found ≡ found = rw not_cut refl in
      let none : left_of rec_len found ≡ [] = rw not_cut refl in
      record {
        news = without p.off offs;
        pairs = taken_is hand (free_pairs f b (without p.off offs)) (all ∙ sym is)
            (sym (pairs_without f a b (is_long_enough rec_len) (left_of rec_len) found offs is_first.first F.once_held none (lens_kept f a b offs bodies)));
        exchanged = subst (λ h. FreeExchanged f a b offs (without p.off offs) [] (h ∷ [])) ((λ j. (p.off, sym len_there j)) ∙ sym is) (free_taken f a b offs p.before p.off list_is is_first.leads L);
        from = found;
        first = is_first.first;
        others = subst (λ fronts. OnlyIn (take_words fronts (without p.off offs)) a b) (sym none) (led_only L);
        empty = subst (AllHoldNothing f.order b) (sym none) tt;
        hand_kept = subst (λ h. Agree a b h.0 (h.0 + 24 + h.1)) (sym is) (led_outside L);
      }

  -- 36 bytes or more are left: its front stays in its place
  pub taken_cut : (hand : HandPair) → rec_len % 4 ≡ 0 → rec_len + 36 ≤ p.rec_len → hand ≡ (p.off + p.rec_len - rec_len, rec_len) → Shortened f a b p.off (p.rec_len - (24 + rec_len)) → TakenFrom f a b offs rec_len hand
  taken_cut hand whole_words long is S =
      let n = p.rec_len - (24 + rec_len) in
      let cut : is_cut rec_len found ≡ true = le-leb (24 + rec_len + 36) (24 + p.rec_len) (omega (arith, long)) in
      let the_end : hand_of rec_len found ≡ (p.off + p.rec_len - rec_len, rec_len) = rw cut refl in
      let front : left_of rec_len found ≡ (p.off, n) ∷ [] = rw cut refl in
      let len : rec_len_of f.order b p.off ≡ n = ap (λ (r : Rec). r.rec_len) S.header in
      let old_len : rec_len_of f.order a p.off ≡ n + 24 + rec_len = omega (arith, len_there, long) in
      let touched : Touched f a b p.off = record {
        size = S.size;
        others = λ i outside.
            elim outside [
              | inl under ↦ S.others i (inl under) (inl (omega (arith, under, long)))
              | inr over ↦ S.others i (inr (omega (arith, over))) (inr (omega (arith, over, old_len)))
            ];
        whole = record {
          aligned = whole_there.aligned;
          above = whole_there.above;
          len_aligned = omega (arith, len, old_len, whole_there.len_aligned, whole_words);
          len_least = omega (arith, len, long);
          within = omega (arith, len, old_len, whole_there.within, S.size);
          tailer = ap (λ l. word f.order b (p.off + 20 + l)) len ∙ S.tailer ∙ ap (λ l. 24 + l) (sym len);
        };
      } in
      let beside = touched_beside f IsFree a b (word f.order a free_head) offs p.off F.list F.once_held member touched in
      let place : p.off + 24 + n ≡ p.off + p.rec_len - rec_len = omega (arith, long) in
      record {
        news = offs;
        pairs = taken_is hand (free_pairs f b offs) (the_end ∙ sym is)
            (sym (pairs_cut f a b (is_long_enough rec_len) (left_of rec_len) found offs n is_first.first F.once_held front len (λ z m ne. (words_kept f a b z (beside.body z m ne)).rec_len)));
        exchanged = subst (λ h. FreeExchanged f a b offs offs [] (h ∷ [])) ((λ j. (place j, rec_len)) ∙ sym is)
            (free_cut f a b offs p.off n rec_len list_is member touched old_len len (ap (λ (r : Rec). r.magic) S.header));
        from = found;
        first = is_first.first;
        others = subst (λ fronts. OnlyIn (take_words fronts offs) a b) (sym front) (front_only n S);
        empty = subst (AllHoldNothing f.order b) (sym front) (front_empty n S, tt);
        hand_kept = subst (λ h. Agree a b h.0 (h.0 + 24 + h.1)) (sym is) (λ i low high. S.others i (inr (omega (arith, low, long))) (inr (omega (arith, low, long))));
      }
