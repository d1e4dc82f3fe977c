-- A used record is changed where it stands: it gets another value, or it is marked dead.
use Rattle.std.proofs.Common.{◌≡◌, ℕ, ◌+◌, ◌<◌, ◌≤◌, List, [], ◌∷◌, Option, Some, None, true, refl, sym, ◌∙◌, ap, subst, inl, inr, arith}
use Rattle.std.specs.Prelude.{◌%◌}
use Rattle.std.specs.Map.{lookup, update, remove_entry, set_value, keys_of}
use Rattle.std.specs.List.{IsDistinct}
use Rattle.std.specs.Option.{IsSome}
use Rattle.std.proofs.lemmas.Bool.{cases_lt, cases_eq, cases_Bool, false≢true}
use Rattle.std.proofs.lemmas.Cmp.{nat_list_eq_equiv}
use Rattle.std.proofs.lemmas.Map.{lookup-remove_entry, lookup-set_value, keys-set_value}
use Rattle.tdb_words.specs.declared.record.TheConstants.{USED, DEAD}
use Rattle.tdb_words.specs.declared.word.Order.{Order}
use Rattle.tdb_words.specs.Hash.{h_of}
use Rattle.tdb_words.specs.Word.{word}
use Rattle.tdb_words.proofs.Words.{word_agrees}
use Rattle.tdb_space.specs.Form.{Form, chain_head, data_start}
use Rattle.tdb_space.specs.Record.{IsChained, Fits, key_at, data_at, full_hash_of, magic_of, rec_len_of}
use Rattle.tdb_space.specs.Chain.{Linked, chain_of, free_of, Member}
use Rattle.tdb_space.specs.Pairs.{pairs, map_of, same_key}
use Rattle.tdb_space.specs.Extents.{HandPair, times, once, extents, extent_at}
use Rattle.tdb_space.specs.Accepted.{Filed, KeysDiffer, AcceptWith}
use Rattle.tdb_space.specs.Exchange.{Exchanged, Touched}
use Rattle.tdb_space.proofs.Extents.Counts.{once_in, times_all, times_member}
use Rattle.tdb_space.proofs.Chain.Walks.{member_cases, linked_whole}
use Rattle.tdb_space.proofs.Chain.Members.{member_held}
use Rattle.tdb_space.proofs.Pairs.Maps.{lookup_met, lookup_passed, same_key-eq, same_key-refl}
use Rattle.tdb_space.proofs.Accepted.Swaps.{exchanged, map_updated}
use Rattle.tdb_space.proofs.Accepted.Removes.{filed_member, home_of_member, pairs_without_used, distinct_removed}
use Rattle.tdb_space.proofs.Chain.Touches.{Beside, touched_beside, linked_touched, times_touched, filed_touched, pairs_marked, pairs_set}

-- the two magics of chains differ
dead_differs : DEAD ≡ USED → ⊥
dead_differs e = absurd (omega (arith, e))

-- the key of a used record is found
used_found : (o : Order) (a xs : List ℕ) (y : ℕ) → Member y xs → magic_of o a y ≡ USED → IsSome (lookup (same_key (key_at o a y)) (pairs o a xs))
used_found o a [] y m used = absurd (false≢true m)
used_found o a (x ∷ xs) y m used =
    elim (member_cases y x xs m) [
      | inl e ↦ some_is (lookup_met o a (key_at o a y) x xs (subst (λ z. magic_of o a z ≡ USED) e used) (ap (key_at o a) (sym e)))
      | inr there ↦
          elim (cases_Bool (same_key (key_at o a y) (key_at o a x))) [
            | inl same ↦
                elim (cases_eq (magic_of o a x) USED) [
                  | inl here ↦ some_is (lookup_met o a (key_at o a y) x xs here (sym (same_key-eq (key_at o a y) (key_at o a x) same)))
                  | inr other ↦ subst (λ r. IsSome r) (sym (lookup_passed o a (key_at o a y) x xs (λ u k. other u))) (used_found o a xs y there used)
                ]
            | inr differs ↦
                subst (λ r. IsSome r)
                (sym (lookup_passed o a (key_at o a y) x xs (λ u k. false≢true (sym differs ∙ subst (λ q. same_key (key_at o a y) q ≡ true) (sym k) (same_key-refl (key_at o a y))))))
                (used_found o a xs y there used)
          ]
    ]
  where
    some_is : {r : Option (List ℕ)} {v : List ℕ} → r ≡ Some v → IsSome r
    some_is e = subst (λ r. IsSome r) (sym e) refl

-- a used record of this chain was touched, and is as long as before
module _ (f : Form) (a b : List ℕ) (j y : ℕ) (hands : List HandPair) (low_j : j < f.chains) (A : AcceptWith f a hands) (m : Member y (chain_of f a j)) (used : magic_of f.order a y ≡ USED) (T : Touched f a b y) (same_len : rec_len_of f.order b y ≡ rec_len_of f.order a y) where
  held : (i : ℕ) → times (extents f.order a (chain_of f a j)) i ≤ 1
  held i = omega (arith, A.apart i, times_all f a (chain_of f a) (free_of f a) hands i, times_member (λ k. extents f.order a (chain_of f a k)) j i f.chains low_j)

  beside : Beside f a b (chain_of f a j) y
  beside = touched_beside f IsChained a b (word f.order a (chain_head j)) (chain_of f a j) y (A.chains j low_j) held m T

  filed_here : Filed f a j y
  filed_here = filed_member f a j (chain_of f a j) y (A.filed j low_j) m used

  above : data_start f ≤ y
  above = (linked_whole f IsChained a (word f.order a (chain_head j)) (chain_of f a j) y (A.chains j low_j) m).0.above

  -- the chain has the same records, whose keys differ
  touch_exchanged : IsChained (magic_of f.order b y) → (magic_of f.order b y ≡ USED → Filed f b j y) → KeysDiffer f b (chain_of f a j) → Exchanged f a b j (chain_of f a j) (chain_of f a j) hands hands
  touch_exchanged mark filed keys = record {
    size = T.size;
    low = λ i below apart. T.others i (inl (omega (arith, below, above)));
    high = λ i from none.
        elim (cases_lt i (y + 4)) [
          | inl under ↦ T.others i (inl under)
          | inr high ↦
              elim (cases_lt i (y + 24 + rec_len_of f.order a y)) [
                | inl within ↦ absurd (omega (arith, none, member_held f.order a (chain_of f a j) y i m, once_in (extent_at f.order a y) i (omega arith) (omega arith)))
                | inr over ↦ T.others i (inr over)
              ]
        ];
    linked = subst (λ at. Linked f IsChained b at (chain_of f a j)) (sym (word_agrees f.order b a (chain_head j) (λ i from to. T.others i (inl (omega (arith, above, low_j))))))
        (linked_touched f IsChained a b (word f.order a (chain_head j)) (chain_of f a j) y (A.chains j low_j) beside mark);
    filed = filed_touched f IsChained a b j (word f.order a (chain_head j)) (chain_of f a j) y (A.chains j low_j) beside (A.filed j low_j) filed;
    keys = keys;
    held = A.held;
    count = λ i.
        (let same : once (extent_at f.order b y) i ≡ once (extent_at f.order a y) i = ap (λ n. once (y, 24 + n) i) same_len in
        omega (arith, same, times_touched f IsChained a b (word f.order a (chain_head j)) (chain_of f a j) y i (A.chains j low_j) beside m));
  }

  -- another value for the same key
  module _ (used_now : magic_of f.order b y ≡ USED) (same_key_there : key_at f.order b y ≡ key_at f.order a y) (same_hash : full_hash_of f.order b y ≡ full_hash_of f.order a y) (fits : Fits f.order b y) where
    set_pairs : pairs f.order b (chain_of f a j) ≡ set_value (same_key (key_at f.order a y)) (pairs f.order a (chain_of f a j)) (data_at f.order b y)
    set_pairs = pairs_set f IsChained a b j (word f.order a (chain_head j)) (chain_of f a j) y (A.chains j low_j) beside (A.filed j low_j) (A.keys j low_j) m used used_now same_key_there

    pub update_exchanged : Exchanged f a b j (chain_of f a j) (chain_of f a j) hands hands
    update_exchanged =
        touch_exchanged (inl used_now)
        (λ _. record { fits = fits; hashed = same_hash ∙ filed_here.hashed ∙ ap (h_of f.hash) (sym same_key_there); placed = ap (λ n. n % f.chains) same_hash ∙ filed_here.placed })
        (subst (IsDistinct same_key) (sym (ap keys_of set_pairs ∙ keys-set_value (same_key (key_at f.order a y)) (pairs f.order a (chain_of f a j)) (data_at f.order b y))) (A.keys j low_j))

    -- the image stays accepted, and its map has the new value at the key
    pub update_accepted : AcceptWith f b hands
    update_accepted = exchanged f a b j (chain_of f a j) hands hands low_j A update_exchanged

    pub update_map : (q : List ℕ) → map_of f b q ≡ update same_key (map_of f a) (key_at f.order a y) (Some (data_at f.order b y)) q
    update_map =
        map_updated f a b j (chain_of f a j) hands hands low_j A update_exchanged (key_at f.order a y) (Some (data_at f.order b y)) (home_of_member f a j (chain_of f a j) y (A.filed j low_j) m used)
        (λ q. ap (lookup (same_key q)) set_pairs
        ∙ lookup-set_value nat_list_eq_equiv (same_key (key_at f.order a y)) (λ x z. nat_list_eq_equiv.congr (key_at f.order a y) x z) q (data_at f.order b y) (pairs f.order a (chain_of f a j)) (found (chain_of f a j) m))
      where
        found : (xs : List ℕ) → Member y xs → IsSome (lookup (same_key (key_at f.order a y)) (pairs f.order a xs))
        found xs n = used_found f.order a xs y n used

  -- marked dead
  module _ (dead : magic_of f.order b y ≡ DEAD) where
    not_used : magic_of f.order b y ≡ USED → ⊥
    not_used e = dead_differs (sym dead ∙ e)

    marked_pairs : pairs f.order b (chain_of f a j) ≡ remove_entry (same_key (key_at f.order a y)) (pairs f.order a (chain_of f a j))
    marked_pairs =
        pairs_marked f IsChained a b j (word f.order a (chain_head j)) (chain_of f a j) y (A.chains j low_j) beside (A.filed j low_j) not_used
        ∙ pairs_without_used f.order a (chain_of f a j) y (A.keys j low_j) m used

    pub mark_exchanged : Exchanged f a b j (chain_of f a j) (chain_of f a j) hands hands
    mark_exchanged =
        touch_exchanged (inr dead) (λ e. absurd (not_used e))
        (subst (λ ps. IsDistinct same_key (keys_of ps)) (sym marked_pairs) (distinct_removed (same_key (key_at f.order a y)) (pairs f.order a (chain_of f a j)) (A.keys j low_j)))

    -- the image stays accepted, and its map loses the key
    pub mark_accepted : AcceptWith f b hands
    mark_accepted = exchanged f a b j (chain_of f a j) hands hands low_j A mark_exchanged

    pub mark_map : (q : List ℕ) → map_of f b q ≡ update same_key (map_of f a) (key_at f.order a y) None q
    mark_map =
        map_updated f a b j (chain_of f a j) hands hands low_j A mark_exchanged (key_at f.order a y) None (home_of_member f a j (chain_of f a j) y (A.filed j low_j) m used)
        (λ q. ap (lookup (same_key q)) marked_pairs
        ∙ lookup-remove_entry nat_list_eq_equiv (same_key (key_at f.order a y)) (λ x z. nat_list_eq_equiv.congr (key_at f.order a y) x z) q (pairs f.order a (chain_of f a j)) (A.keys j low_j))
