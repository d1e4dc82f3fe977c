-- What a turn leaves where a call fails.
use Rattle.std.proofs.Common.{◌≡◌, ℕ, ◌+◌, ◌<◌, ◌≤◌, ◌⊎◌, List, [], ◌∷◌, length, false, true, Option, None, Some, refl, sym, ◌∙◌, ap, subst, inl, inr, arith}
use Rattle.std.specs.Prelude.{slice_index}
use Rattle.std.specs.Map.{lookup}
use Rattle.std.specs.Option.{option_or}
use Rattle.std.proofs.lemmas.Bool.{cases_lt, cases_eq, eq-eqb, ne_eqb, false≢true}
use Rattle.std.proofs.lemmas.Map.{update_other}
use Rattle.tdb_words.specs.declared.record.TheConstants.{USED}
use Rattle.tdb_words.specs.declared.word.Order.{Order}
use Rattle.tdb_words.specs.Word.{word}
use Rattle.tdb_words.proofs.Words.{word_agrees}
use Rattle.tdb_space.specs.Form.{Form, free_head, chain_head, data_start}
use Rattle.tdb_space.specs.Record.{IsChained, IsFree, key_at, magic_of}
use Rattle.tdb_space.specs.Chain.{Linked, Leads, chain_of, free_of, without}
use Rattle.tdb_space.specs.Pairs.{pairs, pair_of, map_of, home, same_key}
use Rattle.tdb_space.specs.Extents.{HandPair, once, times, extents, extent_at, hand_extents}
use Rattle.tdb_space.specs.Accepted.{AllFiled, AcceptWith, IsFiled}
use Rattle.tdb_space.specs.Stays.{OnlyIn, ChainStays}
use Rattle.tdb_space.proofs.Accepted.Areas.{area_within}
use Rattle.tdb_space.proofs.Accepted.Hands.{hands_above}
use Rattle.tdb_space.proofs.Accepted.Laid.{accepted_filed}
use Rattle.tdb_space.proofs.Chain.Members.{led_from, member_held}
use Rattle.tdb_space.proofs.Exchange.Kept.{ChainKept, chain_kept, bodies_still, extents_kept, times_within}
use Rattle.tdb_space.proofs.Exchange.Overlaid.{outside}
use Rattle.tdb_space.proofs.Extents.Counts.{once_in, once_out, where_is, times_all, times_member}
use Rattle.tdb_space.proofs.Extents.Counts.Lies.{lies, below, above}
use Rattle.tdb_space.proofs.Pairs.Maps.{home_below, lookup_append, lookup_passed, map_home, same_key-other, same_key-refl}
use Rattle.tdb_space.proofs.Stays.Changes.{changes_none, changes_then, chain_pairs, chain_stays}
use Rattle.tdb_free.specs.OnlyList.{OnlyListChanges}
use Rattle.tdb_chain.specs.declared.place.Place.{Place}
use Rattle.tdb_chain.specs.Place.{IsFound}
use Rattle.tdb_chain.specs.Changed.{KeySet, without_place, word_before}
use Rattle.tdb_chain.specs.Stopped.{LinkStopped}
use Rattle.tdb_chain.specs.Stopped.LinkOnTheWay.{as_it_was, without_old, in_front}
use Rattle.tdb_steps.specs.Turns.{TurnStopped}

-- nothing was written
pub stopped_nothing : (f : Form) (a b key : List ℕ) (own hands : List HandPair) → AcceptWith f a hands → b ≡ a → TurnStopped f a b key own
stopped_nothing f a b key own hands A same =
    subst (λ x. TurnStopped f a x key own) (sym same) (record {
      bytes = λ _ _ _. refl;
      only = changes_none f a (λ k. k ≡ home f key);
      filed = accepted_filed f a hands A;
      map = λ _ _. refl;
    })

-- the chain of the key changed
pub stopped_set : (f : Form) (a b key : List ℕ) (value : Option (List ℕ)) (offs : List ℕ) (own before after : List HandPair) → KeySet f a b key value offs own before after → TurnStopped f a b key own
stopped_set f a b key value offs own before after K = record {
  bytes = λ i within none. K.changed.others i (outside (chain_head (home f key), 4) i (omega (arith, none))) (omega (arith, none));
  only = K.changed.only;
  filed = accepted_filed f b after K.changed.accepted;
  map = λ other apart. K.map other ∙ update_other same_key (map_of f a) key value other apart;
}

-- a command with more hands may write more
stopped_more : (f : Form) (a b key : List ℕ) (own : List HandPair) → TurnStopped f a b key [] → TurnStopped f a b key own
stopped_more f a b key own T = record { bytes = λ i within none. T.bytes i within (omega (arith, none)); only = T.only; filed = T.filed; map = T.map }

-- nothing was written, or the chain of the key changed
pub stopped_either : (f : Form) (a b key : List ℕ) (value : Option (List ℕ)) (offs : List ℕ) (own before after : List HandPair) → AcceptWith f a before → (b ≡ a) ⊎ KeySet f a b key value offs [] before after → TurnStopped f a b key own
stopped_either f a b key value offs own before after A (inl same) = stopped_nothing f a b key own before A same
stopped_either f a b key value offs own before after A (inr set) = stopped_more f a b key own (stopped_set f a b key value offs [] before after set)

-- the records of the key's chain stood still but for a mark, and then a call failed
pub stopped_after : (f : Form) (a m b key : List ℕ) (value : Option (List ℕ)) (offs : List ℕ) (own hands : List HandPair) → KeySet f a m key value offs [] hands hands → TurnStopped f m b key own → TurnStopped f a b key own
stopped_after f a m b key value offs own hands K T = record {
  bytes = λ i within none.
      (let chain = K.changed.count i in
      let free = ap (λ es. times es i) free_same in
      T.bytes i (omega (arith, within, K.changed.size)) (omega (arith, none, chain, free))
      ∙ K.changed.others i (outside (chain_head (home f key), 4) i (omega (arith, none))) (omega (arith, none)));
  only = changes_then f a m b (λ k. k ≡ home f key) K.changed.only T.only;
  filed = T.filed;
  map = λ other apart. T.map other apart ∙ K.map other ∙ update_other same_key (map_of f a) key value other apart;
}
  where
    free_same : extents f.order m (free_of f m) ≡ extents f.order a (free_of f a)
    free_same = ap (extents f.order m) K.changed.frees.same_offsets ∙ extents_kept f a m (free_of f a) (bodies_still f a m (free_of f a) K.changed.frees.bytes)

-- where each chain stays, all is filed as before, and the map stays
module _ (f : Form) (a b : List ℕ) (hands : List HandPair) (A : AcceptWith f a hands) (longer : length a ≤ length b) (stays : (k : ℕ) → k < f.chains → ChainStays f a b k) where
  kept : (k : ℕ) → k < f.chains → ChainKept f a b k (word f.order a (chain_head k)) (chain_of f a k)
  kept k low = chain_kept f a b k (word f.order a (chain_head k)) (chain_of f a k) longer (A.chains k low) (A.filed k low) (A.keys k low) (stays k low).bytes

  still_filed : IsFiled f b
  still_filed = record {
    some = A.some;
    chains = λ k low.
        subst (Linked f IsChained b (word f.order b (chain_head k))) (sym (stays k low).same_offsets)
        (subst (λ at. Linked f IsChained b at (chain_of f a k)) (sym (stays k low).head) (kept k low).linked);
    filed = λ k low. subst (AllFiled f b k) (sym (stays k low).same_offsets) (kept k low).filed;
  }

  still_map : (key : List ℕ) → map_of f b key ≡ map_of f a key
  still_map key =
      let low = home_below f key A.some in
      map_home f b key still_filed ∙ ap (lookup (same_key key)) (chain_pairs f a b hands (home f key) low A longer (stays (home f key) low)) ∙ sym (map_home f a key (accepted_filed f a hands A))

-- only the free list and the command's hands changed
module _ (f : Form) (a b : List ℕ) (own hands : List HandPair) (A : AcceptWith f a hands) (fewer : (i : ℕ) → times (hand_extents own) i ≤ times (hand_extents hands) i) (O : OnlyListChanges f a b (free_of f a) own) where
  -- no record of the list stands in front of the data
  none_below : (i : ℕ) → i < data_start f → times (extents f.order a (free_of f a)) i ≡ 0
  none_below i under =
      elim (cases_lt 0 (times (extents f.order a (free_of f a)) i)) [
        | inl some ↦ absurd (omega (arith, under, (times_within f IsFree a (word f.order a free_head) (free_of f a) i A.frees (omega (arith, some))).0))
        | inr none ↦ omega (arith, none)
      ]

  beside_list : (i : ℕ) → free_head + 4 ≤ i → i < length a → times (extents f.order a (free_of f a)) i ≡ 0 → times (hand_extents hands) i ≡ 0 → slice_index b i ≡ slice_index a i
  beside_list i behind within none free = O.others i within (omega (arith, once_out (free_head, 4) i (inr behind), none, free, fewer i))

  heads : (i : ℕ) → free_head + 4 ≤ i → i < data_start f → slice_index b i ≡ slice_index a i
  heads i behind under = beside_list i behind (omega (arith, under, A.long)) (none_below i under) (hands_above f a hands i A.held under)

  list_stays : (k : ℕ) → k < f.chains → ChainStays f a b k
  list_stays k low =
      chain_stays f a b hands k low A O.longer (word_agrees f.order b a (chain_head k) (λ i from to. heads i (omega (arith, from)) (omega (arith, to, low))))
      (λ i held.
      (let within = times_within f IsChained a (word f.order a (chain_head k)) (chain_of f a k) i (A.chains k low) held in
      let counts = times_all f a (chain_of f a) (free_of f a) hands i in
      let member = times_member (λ l. extents f.order a (chain_of f a l)) k i f.chains low in
      beside_list i (omega (arith, within.0)) within.1 (omega (arith, held, A.apart i, counts, member)) (omega (arith, held, A.apart i, counts, member))))

  pub stopped_list : (key : List ℕ) → TurnStopped f a b key own
  stopped_list key = record {
    bytes = λ i within none. O.others i within (omega (arith, none));
    only = record {
      front = record {
        longer = O.longer;
        low = λ i under _. O.header i under;
        undo_area = λ i held.
            (let within = area_within f a i A.area_ok held in
            let counts = times_all f a (chain_of f a) (free_of f a) hands i in
            beside_list i (omega (arith, within.0)) within.1 (omega (arith, held, A.apart i, counts)) (omega (arith, held, A.apart i, counts)));
      };
      chains = λ k low _. list_stays k low;
    };
    filed = still_filed f a b hands A O.longer list_stays;
    map = λ other _. still_map f a b hands A O.longer list_stays other;
  }

-- a look-up of another key than that of a record finds the same without the record
lookup_without : (o : Order) (img q : List ℕ) (xs : List ℕ) (y : ℕ) → (magic_of o img y ≡ USED → key_at o img y ≡ q → ⊥) → lookup (same_key q) (pairs o img (without y xs)) ≡ lookup (same_key q) (pairs o img xs)
lookup_without o img q [] y lacks = refl
lookup_without o img q (x ∷ xs) y lacks =
    elim (cases_eq x y) [
      | inl e ↦ rw (eq-eqb x y e) (sym (lookup_passed o img q x xs (subst (λ z. magic_of o img z ≡ USED → key_at o img z ≡ q → ⊥) (sym e) lacks)))
      | inr ne ↦
          rw (ne_eqb x y ne)
          (lookup_append (same_key q) (pair_of o img x) (pairs o img (without y xs))
          ∙ ap (option_or (lookup (same_key q) (pair_of o img x))) (lookup_without o img q xs y lacks)
          ∙ sym (lookup_append (same_key q) (pair_of o img x) (pairs o img xs)))
    ]

-- two keys that aren't the same
not_same : (key other : List ℕ) → same_key key other ≡ false → key ≡ other → ⊥
not_same key other apart same = false≢true (sym apart ∙ subst (λ q. same_key key q ≡ true) same (same_key-refl key))

-- so it is without the old record of a key, if there is one
left_lookup : (f : Form) (a key : List ℕ) (over : Option Place) → IsFound f a key over → (other : List ℕ) → same_key key other ≡ false
    → lookup (same_key other) (pairs f.order a (without_place over (chain_of f a (home f key)))) ≡ lookup (same_key other) (pairs f.order a (chain_of f a (home f key)))
left_lookup f a key None found other apart = refl
left_lookup f a key (Some p) H other apart = lookup_without f.order a other (chain_of f a (home f key)) p.off (λ used same. not_same key other apart (sym H.has_key ∙ same))

-- the word that leads to that record is the head of its chain, or one of its records
old_word : (f : Form) (a key : List ℕ) (over : Option Place) → IsFound f a key over → (i : ℕ) → once (chain_head (home f key), 4) i ≡ 0 → times (extents f.order a (chain_of f a (home f key))) i ≡ 0 → times (word_before over) i ≡ 0
old_word f a key None found i head none = refl
old_word f a key (Some p) H i head none =
    elim (led_from (chain_head (home f key)) (chain_of f a (home f key)) p.before p.off led) [
      | inl e ↦ let same = ap (λ at. once (at, 4) i) e in omega (arith, same, head)
      | inr m ↦
          let held = member_held f.order a (chain_of f a (home f key)) p.before i m in
          elim (where_is (p.before, 4) i) [
            | lies high low one ↦ absurd (omega (arith, held, none, once_in (extent_at f.order a p.before) i high (omega (arith, low))))
            | below _ out ↦ omega (arith, out)
            | above _ out ↦ omega (arith, out)
          ]
    ]
  where
    led : Leads (chain_head (home f key)) (chain_of f a (home f key)) p.before p.off
    led = subst (λ j. Leads (chain_head j) (chain_of f a j) p.before p.off) H.at_home H.place.leads

-- a link failed
module _ (f : Form) (a b key value : List ℕ) (over : Option Place) (h : HandPair) (others : List HandPair) (A : AcceptWith f a (h ∷ others)) (found : IsFound f a key over) (L : LinkStopped f a b key value over h others) where
  link_filed : IsFiled f b
  link_filed = elim L.on_the_way [ as_it_was B _ ↦ accepted_filed f b _ B | without_old B _ ↦ accepted_filed f b _ B | in_front B _ ↦ accepted_filed f b _ B ]

  -- another key of the same chain
  link_beside : (other : List ℕ) → same_key key other ≡ false → lookup (same_key other) (pairs f.order b (chain_of f b (home f key))) ≡ lookup (same_key other) (pairs f.order a (chain_of f a (home f key)))
  link_beside other apart =
      let left = left_lookup f a key over found other apart in
      elim L.on_the_way [
        | as_it_was _ C ↦ ap (lookup (same_key other)) C.same_pairs
        | without_old _ C ↦ ap (lookup (same_key other)) C.same_pairs ∙ left
        | in_front _ C ↦ ap (lookup (same_key other)) C.same_pairs ∙ rw (same_key-other other key (λ same. not_same key other apart (sym same))) left
      ]

  link_map : (other : List ℕ) → same_key key other ≡ false → map_of f b other ≡ map_of f a other
  link_map other apart =
      elim (cases_eq (home f other) (home f key)) [
        | inl e ↦
            map_home f b other link_filed ∙ ap (λ j. lookup (same_key other) (pairs f.order b (chain_of f b j))) e ∙ link_beside other apart
            ∙ sym (ap (λ j. lookup (same_key other) (pairs f.order a (chain_of f a j))) e) ∙ sym (map_home f a other (accepted_filed f a (h ∷ others) A))
        | inr ne ↦
            let low = home_below f other A.some in
            map_home f b other link_filed ∙ ap (lookup (same_key other)) (chain_pairs f a b (h ∷ others) (home f other) low A L.only.front.longer (L.only.chains (home f other) low ne))
            ∙ sym (map_home f a other (accepted_filed f a (h ∷ others) A))
      ]

  pub stopped_link : OnlyIn ((chain_head (home f key), 4) ∷ (h.0, 24 + h.1) ∷ word_before over) a b → TurnStopped f a b key (h ∷ [])
  stopped_link written = record {
    bytes = λ i within none. written i (omega (arith, none, old_word f a key over found i (omega (arith, none)) (omega (arith, none))));
    only = L.only;
    filed = link_filed;
    map = link_map;
  }
