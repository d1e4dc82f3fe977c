-- A record is taken out of its chain and becomes a hand: the image stays accepted, and its map loses the record's key
-- if it was used.
use Rattle.std.proofs.Common.{◌≡◌, ℕ, ◌+◌, ◌<◌, ◌≤◌, List, [], ◌∷◌, ◌++◌, length, None, false, true, refl, sym, ◌∙◌, ap, subst, inl, inr, arith}
use Rattle.std.specs.Prelude.{Bool, ◌%◌}
use Rattle.std.specs.Map.{lookup, update, remove_entry, keys_of}
use Rattle.std.specs.List.{IsDistinct, AllByRecursion}
use Rattle.std.proofs.lemmas.Bool.{cases_lt, cases_eq, cases_Bool, eq-eqb, ne_eqb, false≢true}
use Rattle.std.proofs.lemmas.Cmp.{nat_list_eq_equiv}
use Rattle.std.proofs.lemmas.Map.{lookup-remove_entry}
use Rattle.std.proofs.lemmas.Map.Keys.{IsDistinct-cons, IsDistinct-head, IsDistinct-tail}
use Rattle.tdb_words.specs.declared.record.TheConstants.{USED}
use Rattle.tdb_words.specs.declared.word.Order.{Order}
use Rattle.tdb_words.specs.Word.{word}
use Rattle.tdb_space.specs.Form.{Form, chain_head, data_start}
use Rattle.tdb_space.specs.Record.{IsChained, key_at, data_at, rec_len_of, magic_of}
use Rattle.tdb_space.specs.Chain.{Linked, chain_of, free_of, Member, Leads, without}
use Rattle.tdb_space.specs.Pairs.{pair_of, pairs, map_of, home, same_key}
use Rattle.tdb_space.specs.Extents.{HandPair, HandOk, times, extents}
use Rattle.tdb_space.specs.Accepted.{Filed, AllFiled, KeysDiffer, AcceptWith}
use Rattle.tdb_space.specs.Exchange.{Exchanged, LedPast}
use Rattle.tdb_space.proofs.Extents.Counts.{times_all, times_member}
use Rattle.tdb_space.proofs.Exchange.Kept.{Bodies, pair_kept, pairs_kept, filed_all_kept}
use Rattle.tdb_space.proofs.Chain.Walks.{member_cases, linked_whole}
use Rattle.tdb_space.proofs.Pairs.Maps.{pairs_used, pairs_other, same_key-refl}
use Rattle.tdb_space.proofs.Accepted.Swaps.{exchanged, map_updated, map_same}
use Rattle.tdb_space.proofs.Chain.Members.{led_from}
use Rattle.tdb_space.proofs.Chain.Unlinks.{unlinked, unlinked_count, unlinked_member, unlinked_bodies, changed_word}

-- each used record's key is among the keys, so what holds of each key holds of it
pub key_among : (o : Order) (img xs : List ℕ) (P : List ℕ → Type 0) (y : ℕ) → AllByRecursion P (keys_of (pairs o img xs)) → Member y xs → magic_of o img y ≡ USED → P (key_at o img y)
key_among o img [] P y all m used = absurd (false≢true m)
key_among o img (x ∷ xs) P y all m used =
    elim (cases_eq (magic_of o img x) USED) [
      | inl e ↦
          let parts : AllByRecursion P (key_at o img x ∷ keys_of (pairs o img xs)) = subst (λ ps. AllByRecursion P (keys_of ps)) (pairs_used o img x xs e) all in
          elim (member_cases y x xs m) [ inl here ↦ subst (λ z. P (key_at o img z)) (sym here) parts.0 | inr there ↦ key_among o img xs P y parts.1 there used ]
      | inr ne ↦
          let rest : AllByRecursion P (keys_of (pairs o img xs)) = subst (λ ps. AllByRecursion P (keys_of ps)) (pairs_other o img x xs ne) all in
          elim (member_cases y x xs m) [ inl here ↦ absurd (ne (subst (λ z. magic_of o img z ≡ USED) here used)) | inr there ↦ key_among o img xs P y rest there used ]
    ]

-- the pairs without a used record are those without the entry of its key
pub pairs_without_used : (o : Order) (img xs : List ℕ) (y : ℕ) → IsDistinct same_key (keys_of (pairs o img xs)) → Member y xs → magic_of o img y ≡ USED → pairs o img (without y xs) ≡ remove_entry (same_key (key_at o img y)) (pairs o img xs)
pairs_without_used o img [] y distinct m used = absurd (false≢true m)
pairs_without_used o img (x ∷ xs) y distinct m used =
    elim (cases_eq x y) [
      | inl e ↦
          let used_x : magic_of o img x ≡ USED = subst (λ z. magic_of o img z ≡ USED) (sym e) used in
          let met : same_key (key_at o img y) (key_at o img x) ≡ true = subst (λ z. same_key (key_at o img z) (key_at o img x) ≡ true) e (same_key-refl (key_at o img x)) in
          let removed : remove_entry (same_key (key_at o img y)) (pairs o img (x ∷ xs)) ≡ pairs o img xs = ap (remove_entry (same_key (key_at o img y))) (pairs_used o img x xs used_x) ∙ rw met refl in
          rw (eq-eqb x y e) (sym removed)
      | inr ne ↦
          let there : Member y xs = elim (member_cases y x xs m) [ inl here ↦ absurd (ne (sym here)) | inr rest ↦ rest ] in
          elim (cases_eq (magic_of o img x) USED) [
            | inl e ↦
                let spread : IsDistinct same_key (key_at o img x ∷ keys_of (pairs o img xs)) = subst (λ ps. IsDistinct same_key (keys_of ps)) (pairs_used o img x xs e) distinct in
                let apart : same_key (key_at o img x) (key_at o img y) ≡ false = key_among o img xs (λ q. same_key (key_at o img x) q ≡ false) y (IsDistinct-head same_key (key_at o img x) (keys_of (pairs o img xs)) spread) there used in
                let passed : same_key (key_at o img y) (key_at o img x) ≡ false = nat_list_eq_equiv.symm (key_at o img y) (key_at o img x) ∙ apart in
                let rest = pairs_without_used o img xs y (IsDistinct-tail same_key (key_at o img x) (keys_of (pairs o img xs)) spread) there used in
                let removed : remove_entry (same_key (key_at o img y)) (pairs o img (x ∷ xs)) ≡ (key_at o img x, data_at o img x) ∷ remove_entry (same_key (key_at o img y)) (pairs o img xs) =
                ap (remove_entry (same_key (key_at o img y))) (pairs_used o img x xs e) ∙ rw passed refl in
                rw (ne_eqb x y ne) (pairs_used o img x (without y xs) e ∙ ap (λ ps. (key_at o img x, data_at o img x) ∷ ps) rest ∙ sym removed)
            | inr other ↦
                let rest = pairs_without_used o img xs y (subst (λ ps. IsDistinct same_key (keys_of ps)) (pairs_other o img x xs other) distinct) there used in
                rw (ne_eqb x y ne) (pairs_other o img x (without y xs) other ∙ rest ∙ ap (remove_entry (same_key (key_at o img y))) (sym (pairs_other o img x xs other)))
          ]
    ]

-- the pairs without a record that isn't used are the same
pub pairs_without_dead : (o : Order) (img xs : List ℕ) (y : ℕ) → (magic_of o img y ≡ USED → ⊥) → pairs o img (without y xs) ≡ pairs o img xs
pairs_without_dead o img [] y dead = refl
pairs_without_dead o img (x ∷ xs) y dead =
    elim (cases_eq x y) [
      | inl e ↦ rw (eq-eqb x y e) (sym (pairs_other o img x xs (λ used. dead (subst (λ z. magic_of o img z ≡ USED) e used))))
      | inr ne ↦ rw (ne_eqb x y ne) (ap (λ ps. pair_of o img x ++ ps) (pairs_without_dead o img xs y dead))
    ]

-- keys that differ still differ without an entry
all_removed : (P : List ℕ → Type 0) (t : List ℕ → Bool) (ps : List (List ℕ × List ℕ)) → AllByRecursion P (keys_of ps) → AllByRecursion P (keys_of (remove_entry t ps))
all_removed P t [] all = tt
all_removed P t (p ∷ ps) all = elim (cases_Bool (t p.0)) [ inl e ↦ rw e all.1 | inr e ↦ rw e (all.0, all_removed P t ps all.1) ]

pub distinct_removed : (t : List ℕ → Bool) (ps : List (List ℕ × List ℕ)) → IsDistinct same_key (keys_of ps) → IsDistinct same_key (keys_of (remove_entry t ps))
distinct_removed t [] distinct = distinct
distinct_removed t (p ∷ ps) distinct =
    let first = IsDistinct-head same_key p.0 (keys_of ps) distinct in
    let rest = IsDistinct-tail same_key p.0 (keys_of ps) distinct in
    elim (cases_Bool (t p.0)) [
      | inl e ↦ rw e rest
      | inr e ↦ rw e (IsDistinct-cons same_key p.0 (keys_of (remove_entry t ps)) (all_removed (λ q. same_key p.0 q ≡ false) t ps first) (distinct_removed t ps rest))
    ]

-- pairs and filing of the records that are left
pairs_left : (f : Form) (M : ℕ → Type 0) (a b : List ℕ) (j at : ℕ) (xs : List ℕ) (y : ℕ) → length a ≤ length b → Linked f M a at xs → Bodies a b f xs → AllFiled f a j xs → pairs f.order b (without y xs) ≡ pairs f.order a (without y xs)
pairs_left f M a b j at [] y longer list bodies filed = refl
pairs_left f M a b j at (x ∷ xs) y longer list bodies filed =
    elim (cases_eq x y) [
      | inl e ↦ rw (eq-eqb x y e) (pairs_kept f M a b j (word f.order a x) xs longer list.3 bodies.1 filed.1)
      | inr ne ↦
          let here = pair_kept f a b x longer list.1 bodies.0 (λ used. (filed.0 used).fits) in
          let rest = pairs_left f M a b j (word f.order a x) xs y longer list.3 bodies.1 filed.1 in
          rw (ne_eqb x y ne) (λ i. here i ++ rest i)
    ]

filed_left : (f : Form) (b : List ℕ) (j : ℕ) (xs : List ℕ) (y : ℕ) → AllFiled f b j xs → AllFiled f b j (without y xs)
filed_left f b j [] y filed = tt
filed_left f b j (x ∷ xs) y filed = elim (cases_eq x y) [ inl e ↦ rw (eq-eqb x y e) filed.1 | inr ne ↦ rw (ne_eqb x y ne) (filed.0, filed_left f b j xs y filed.1) ]

-- a used record of a chain is filed in it
pub filed_member : (f : Form) (a : List ℕ) (j : ℕ) (xs : List ℕ) (y : ℕ) → AllFiled f a j xs → Member y xs → magic_of f.order a y ≡ USED → Filed f a j y
filed_member f a j [] y filed m used = absurd (false≢true m)
filed_member f a j (x ∷ xs) y filed m used =
    elim (member_cases y x xs m) [
      | inl e ↦ subst (Filed f a j) (sym e) (filed.0 (subst (λ z. magic_of f.order a z ≡ USED) e used))
      | inr there ↦ filed_member f a j xs y filed.1 there used
    ]

pub home_of_member : (f : Form) (a : List ℕ) (j : ℕ) (xs : List ℕ) (y : ℕ) → AllFiled f a j xs → Member y xs → magic_of f.order a y ≡ USED → home f (key_at f.order a y) ≡ j
home_of_member f a j xs y filed m used =
    let here = filed_member f a j xs y filed m used in
    ap (λ n. n % f.chains) (sym here.hashed) ∙ here.placed

module _ (f : Form) (a b : List ℕ) (j : ℕ) (before y : ℕ) (hands : List HandPair) (low_j : j < f.chains) (A : AcceptWith f a hands) (led : Leads (chain_head j) (chain_of f a j) before y) (L : LedPast f a b before y) where
  longer : length a ≤ length b
  longer = omega (arith, L.size)

  held : (i : ℕ) → times (extents f.order a (chain_of f a j)) i ≤ 1
  held i = omega (arith, A.apart i, times_all f a (chain_of f a) (free_of f a) hands i, times_member (λ k. extents f.order a (chain_of f a k)) j i f.chains low_j)

  low_head : chain_head j + 4 ≤ data_start f
  low_head = omega arith

  bodies : Bodies a b f (chain_of f a j)
  bodies = unlinked_bodies f IsChained a b (chain_head j) (chain_of f a j) before y (A.chains j low_j) low_head held led L

  -- the pairs of the records that are left stay
  pub left_pairs : pairs f.order b (without y (chain_of f a j)) ≡ pairs f.order a (without y (chain_of f a j))
  left_pairs = pairs_left f IsChained a b j (word f.order a (chain_head j)) (chain_of f a j) y longer (A.chains j low_j) bodies (A.filed j low_j)

  member : Member y (chain_of f a j)
  member = unlinked_member f IsChained a b (chain_head j) (chain_of f a j) before y (A.chains j low_j) low_head held led L

  -- the keys of the records that are left differ
  left_keys : KeysDiffer f a (without y (chain_of f a j))
  left_keys =
      elim (cases_eq (magic_of f.order a y) USED) [
        | inl used ↦
            subst (λ ps. IsDistinct same_key (keys_of ps)) (sym (pairs_without_used f.order a (chain_of f a j) y (A.keys j low_j) member used))
            (distinct_removed (same_key (key_at f.order a y)) (pairs f.order a (chain_of f a j)) (A.keys j low_j))
        | inr dead ↦ subst (λ ps. IsDistinct same_key (keys_of ps)) (sym (pairs_without_dead f.order a (chain_of f a j) y dead)) (A.keys j low_j)
      ]

  hand_ok : HandOk f a (y, rec_len_of f.order a y)
  hand_ok =
      let whole = (linked_whole f IsChained a (word f.order a (chain_head j)) (chain_of f a j) y (A.chains j low_j) member).0 in
      record { aligned = whole.aligned; len_aligned = whole.len_aligned; above = whole.above; within = whole.within }

  -- the chain loses the record, and it is a hand
  pub unlink_exchanged : Exchanged f a b j (chain_of f a j) (without y (chain_of f a j)) hands ((y, rec_len_of f.order a y) ∷ hands)
  unlink_exchanged = record {
    size = L.size;
    low = λ i below apart.
        elim (cases_lt i before) [
          | inl under ↦ L.others i (inl under)
          | inr high ↦
              elim (cases_lt i (before + 4)) [
                | inl within ↦
                    elim (led_from (chain_head j) (chain_of f a j) before y led) [
                      | inl e ↦ elim apart [ inl under ↦ absurd (omega (arith, under, high, e)) | inr over ↦ absurd (omega (arith, over, within, e)) ]
                      | inr m ↦ absurd (omega (arith, below, high, (linked_whole f IsChained a (word f.order a (chain_head j)) (chain_of f a j) before (A.chains j low_j) m).0.above))
                    ]
                | inr over ↦ L.others i (inr over)
              ]
        ];
    high = λ i above none.
        elim (cases_lt i before) [
          | inl under ↦ L.others i (inl under)
          | inr high ↦
              elim (cases_lt i (before + 4)) [
                | inl within ↦
                    elim (changed_word f IsChained a b (chain_head j) (chain_of f a j) before y (A.chains j low_j) low_head held led L i high within) [
                      | inl below ↦ absurd (omega (arith, below, above))
                      | inr some ↦ absurd (omega (arith, some, none))
                    ]
                | inr over ↦ L.others i (inr over)
              ]
        ];
    linked = unlinked f IsChained a b (chain_head j) (chain_of f a j) before y (A.chains j low_j) low_head held led L;
    filed = filed_left f b j (chain_of f a j) y (filed_all_kept f IsChained a b j (word f.order a (chain_head j)) (chain_of f a j) longer (A.chains j low_j) bodies (A.filed j low_j));
    keys = subst (λ ps. IsDistinct same_key (keys_of ps)) (sym left_pairs) left_keys;
    held = (hand_ok, A.held);
    count = λ i. omega (arith, unlinked_count f IsChained a b (chain_head j) (chain_of f a j) before y (A.chains j low_j) low_head held led L i);
  }

  -- the image is accepted with the record as a hand
  pub unlink_accepted : AcceptWith f b ((y, rec_len_of f.order a y) ∷ hands)
  unlink_accepted = exchanged f a b j (without y (chain_of f a j)) hands ((y, rec_len_of f.order a y) ∷ hands) low_j A unlink_exchanged

  -- its map is the old one without the key of a used record
  pub unlink_map : magic_of f.order a y ≡ USED → (q : List ℕ) → map_of f b q ≡ update same_key (map_of f a) (key_at f.order a y) None q
  unlink_map used =
      map_updated f a b j (without y (chain_of f a j)) hands ((y, rec_len_of f.order a y) ∷ hands) low_j A unlink_exchanged (key_at f.order a y) None filed_here
      (λ q. ap (lookup (same_key q)) (left_pairs ∙ pairs_without_used f.order a (chain_of f a j) y (A.keys j low_j) member used)
      ∙ lookup-remove_entry nat_list_eq_equiv (same_key (key_at f.order a y)) (λ x z. nat_list_eq_equiv.congr (key_at f.order a y) x z) q (pairs f.order a (chain_of f a j)) (A.keys j low_j))
    where
      filed_here : home f (key_at f.order a y) ≡ j
      filed_here = home_of_member f a j (chain_of f a j) y (A.filed j low_j) member used

  -- and the old one where the record was dead
  pub purge_map : (magic_of f.order a y ≡ USED → ⊥) → (q : List ℕ) → map_of f b q ≡ map_of f a q
  purge_map dead =
      map_same f a b j (without y (chain_of f a j)) hands ((y, rec_len_of f.order a y) ∷ hands) low_j A unlink_exchanged
      (λ q. ap (lookup (same_key q)) (left_pairs ∙ pairs_without_dead f.order a (chain_of f a j) y dead))
