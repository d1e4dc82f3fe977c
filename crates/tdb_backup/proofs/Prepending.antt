-- What stays of an image's chains and extents, and what becomes of them where a record is taken and put in front of its
-- chain.
use Rattle.std.proofs.Common.{◌≡◌, ℕ, ◌+◌, ◌-◌, ◌<◌, ◌≤◌, ◌^◌, List, [], ◌∷◌, ◌++◌, length, Option, Some, None, Bool, true, refl, sym, ◌∙◌, ap, subst, inl, inr, arith}
use Rattle.std.specs.Prelude.{◌⊎◌, ◌%◌, slice_index, if◌then◌else◌, ◌==◌}
use Rattle.std.specs.Map.{lookup, update}
use Rattle.std.proofs.lemmas.Bool.{cases_lt, cases_eq, cases_Bool, eq-eqb, ne_eqb}
use Rattle.std.proofs.lemmas.Map.{update_same}
use Rattle.tdb_words.specs.declared.record.TheConstants.{USED}
use Rattle.tdb_words.specs.Header.{area_head}
use Rattle.tdb_words.specs.Word.{word}
use Rattle.tdb_words.proofs.Words.{word_agrees}
use Rattle.tdb_disk.specs.Image.{padded}
use Rattle.tdb_disk.proofs.Image.{length-padded}
use Rattle.tdb_space.specs.Form.{Form, data_start, chain_head, free_head}
use Rattle.tdb_space.specs.Record.{IsChained, IsFree, magic_of, key_at, data_at}
use Rattle.tdb_space.specs.Chain.{Linked, chain_of, free_of}
use Rattle.tdb_space.specs.Pairs.{joined, pair_of, pairs, map_of, same_key, home}
use Rattle.tdb_space.specs.Extents.{Extent, HandPair, times, once, extents, area, hand_extents, all_extents}
use Rattle.tdb_space.specs.Accepted.{AcceptWith}
use Rattle.tdb_space.specs.Stays.{OnlyIn, ChainStays, FreeStays, FrontStays, ChainsStay}
use Rattle.tdb_space.proofs.Accepted.Laid.{accepted_filed}
use Rattle.tdb_space.proofs.Chain.Walks.{walk_meets}
use Rattle.tdb_space.proofs.Exchange.Kept.{Bodies, Still, words_kept, bodies_still, extents_kept, pairs_kept, times_within}
use Rattle.tdb_space.proofs.Extents.Counts.{once_in, once_out, joined_same, times_all, times_member, times_swapped}
use Rattle.tdb_space.proofs.Pairs.Maps.{same_key-eq, same_key-refl, pairs_used, pairs_other, map_home, home_below}
use Rattle.tdb_chain.specs.Changed.{KeySet, with_hand, without_place, hands_back, word_before}
use Rattle.tdb_chain.specs.Place.{IsFound}
use Rattle.tdb_free.specs.Growth.{TakenBy, TakenGrown, CanBeTaken, grown_hand}
use Rattle.tdb_free.specs.Growth.TakenBy.{as_it_was, after_growth}
use Rattle.tdb_free.specs.TakenFrom.{TakenFrom}
use Rattle.tdb_free.proofs.Growth.{Grows, grows, same}
use Rattle.tdb_free.proofs.Traded.{can_take}
use Rattle.tdb_backup.specs.Filling.{AllUsed, HoldsEach, PutFirst}
use Rattle.tdb_backup.proofs.Walk.{moved}

-- where a look-up among pairs finds a value that isn't behind the first of them, that one has it
first_is : (key value k v : List ℕ) (rest : List (List ℕ × List ℕ)) → lookup (same_key key) rest ≡ None → lookup (same_key key) ((k, v) ∷ rest) ≡ Some value → (k ≡ key) × (v ≡ value)
first_is key value k v rest none found =
    elim (cases_Bool (same_key key k)) [
      | inl same_as ↦ let here : Some v ≡ Some value = sym (rw same_as refl) ∙ found in (sym (same_key-eq key k same_as), cc)
      | inr other ↦ let there : None ≡ Some value = sym none ∙ sym (rw other refl) ∙ found in absurd (cc)
    ]

-- records that stay are used as before
used_kept : (f : Form) (a b : List ℕ) (xs : List ℕ) → Bodies a b f xs → AllUsed f.order a xs → AllUsed f.order b xs
used_kept f a b [] bodies used = tt
used_kept f a b (x ∷ xs) bodies used = ((words_kept f a b x bodies.0).magic ∙ used.0, used_kept f a b xs bodies.1 used.1)

-- a chain that stays has its pairs, its extents and its used records as before
module _ (f : Form) (a b : List ℕ) (hands : List HandPair) (A : AcceptWith f a hands) (longer : length a ≤ length b) (j : ℕ) (low : j < f.chains) (S : ChainStays f a b j) where
  stay_bodies : Bodies a b f (chain_of f a j)
  stay_bodies = bodies_still f a b (chain_of f a j) S.bytes

  pub stay_pairs : pairs f.order b (chain_of f b j) ≡ pairs f.order a (chain_of f a j)
  stay_pairs =
      ap (pairs f.order b) S.same_offsets
      ∙ pairs_kept f IsChained a b j (word f.order a (chain_head j)) (chain_of f a j) longer (A.chains j low) stay_bodies (A.filed j low)

  pub stay_extents : extents f.order b (chain_of f b j) ≡ extents f.order a (chain_of f a j)
  stay_extents = ap (extents f.order b) S.same_offsets ∙ extents_kept f a b (chain_of f a j) stay_bodies

  pub stay_used : AllUsed f.order a (chain_of f a j) → AllUsed f.order b (chain_of f b j)
  stay_used used = subst (AllUsed f.order b) (sym S.same_offsets) (used_kept f a b (chain_of f a j) stay_bodies used)

-- the word of the undo area stays
area_word : (f : Form) (a b : List ℕ) → FrontStays f a b → word f.order b area_head ≡ word f.order a area_head
area_word f a b F = word_agrees f.order b a area_head (λ i from to. F.low i (omega (arith, to)) (inl (omega (arith, to))))

-- without an undo area no byte belongs to one
no_area : (f : Form) (a : List ℕ) → word f.order a area_head ≡ 0 → area f.order a ≡ []
no_area f a none = rw (eq-eqb (word f.order a area_head) 0 none) refl

-- how often a byte is held by the free list and a hand that was taken: as often as by the old list, and by what the
-- file grew by
record Shared (f : Form) (a b : List ℕ) (h : HandPair) (i : ℕ) : Type 0 where
  more : ℕ
  count : times (extents f.order b (free_of f b)) i + once (h.0, 24 + h.1) i ≡ times (extents f.order a (free_of f a)) i + more
  old : i < length a → more ≡ 0
  new : length a ≤ i → i < length b → 1 ≤ more

shared : (f : Form) (a b : List ℕ) (n limit : ℕ) (h : HandPair) → AcceptWith f a [] → length a < 2 ^ 32 → n % 4 ≡ 0 → 4 ≤ n → limit ≤ 4294963200 → TakenBy f a b (free_of f a) n limit h → (i : ℕ) → Shared f a b h i
shared f a b n limit h A short words least most (as_it_was t) i =
    let met : free_of f b ≡ t.news = walk_meets f IsFree b (word f.order b free_head) t.news t.exchanged.linked in
    let here : times (extents f.order b (free_of f b)) i ≡ times (extents f.order b t.news) i = ap (λ xs. times (extents f.order b xs) i) met in
    record {
      more = 0;
      count = omega (arith, here, t.exchanged.count i);
      old = λ _. refl;
      new = λ from to. absurd (omega (arith, from, to, t.exchanged.size));
    }
shared f a b n limit h A short words least most (after_growth t) i =
    let C = can_take f a [] A short in
    let G = grows (length a) (24 + n) limit t.to C.aligned (omega (arith, words)) t.grown in
    let same_list = same f a (free_of f a) t.to C G.whole_words (omega (arith, G.enough, least)) (omega (arith, G.within, most)) in
    let long : length b ≡ t.to = omega (arith, t.taken.exchanged.size, t.gain.exchanged.size, length-padded a t.to, G.enough) in
    let met : free_of f b ≡ t.taken.news = walk_meets f IsFree b (word f.order b free_head) t.taken.news t.taken.exchanged.linked in
    let here : times (extents f.order b (free_of f b)) i ≡ times (extents f.order b t.taken.news) i = ap (λ xs. times (extents f.order b xs) i) met in
    let kept : times (extents f.order (padded a t.to) (free_of f a)) i ≡ times (extents f.order a (free_of f a)) i = ap (λ es. times es i) same_list in
    let grown : Extent = (length a, 24 + (t.to - length a - 24)) in
    record {
      more = once grown i;
      count = omega (arith, here, kept, t.taken.exchanged.count i, t.gain.exchanged.count i);
      old = λ below. once_out grown i (inl below);
      new = λ from to. (let one : once grown i ≡ 1 = once_in grown i from (omega (arith, to, long, G.enough)) in omega (arith, one));
    }

-- all chains hold the bytes that they held
chains_same : (f : Form) (a b : List ℕ) → AcceptWith f a [] → length a ≤ length b → ((j : ℕ) → j < f.chains → ChainStays f a b j)
    → joined f.chains (λ j. extents f.order b (chain_of f b j)) ≡ joined f.chains (λ j. extents f.order a (chain_of f a j))
chains_same f a b A longer S = joined_same f.chains (λ j. extents f.order b (chain_of f b j)) (λ j. extents f.order a (chain_of f a j)) (λ j low. stay_extents f a b [] A longer j low (S j low))

-- where a hand was taken from an image of which each byte is held, each is held with the hand
pub each_taken : (f : Form) (a b : List ℕ) (n limit : ℕ) (h : HandPair) → AcceptWith f a [] → length a < 2 ^ 32 → n % 4 ≡ 0 → 4 ≤ n → limit ≤ 4294963200 → ChainsStay f a b (h ∷ []) → TakenBy f a b (free_of f a) n limit h
    → word f.order a area_head ≡ 0 → HoldsEach f a [] → HoldsEach f b (h ∷ [])
each_taken f a b n limit h A short words least most S T none each i from to =
    let still = chains_same f a b A S.only.front.longer (λ j low. S.only.chains j low (λ never. never)) in
    let chains : times (joined f.chains (λ j. extents f.order b (chain_of f b j))) i ≡ times (joined f.chains (λ j. extents f.order a (chain_of f a j))) i = ap (λ es. times es i) still in
    let area_a : times (area f.order a) i ≡ 0 = ap (λ es. times es i) (no_area f a none) in
    let area_b : times (area f.order b) i ≡ 0 = ap (λ es. times es i) (no_area f b (area_word f a b S.only.front ∙ none)) in
    let p = shared f a b n limit h A short words least most T i in
    let all_b = times_all f b (chain_of f b) (free_of f b) (h ∷ []) i in
    let all_a = times_all f a (chain_of f a) (free_of f a) [] i in
    elim (cases_lt i (length a)) [
      | inl below ↦ omega (arith, chains, area_a, area_b, p.count, p.old below, all_b, all_a, each i from below)
      | inr past ↦ omega (arith, p.count, p.new past to, all_b, S.accepted.apart i)
    ]

-- A record was taken from image a, and put in front of its chain from image b to image c
module _ (f : Form) (a b c key value : List ℕ) (n limit : ℕ) (h : HandPair) (A : AcceptWith f a []) (short : length a < 2 ^ 32) (words : n % 4 ≡ 0) (least : 4 ≤ n) (most : limit ≤ 4294963200) (none : map_of f a key ≡ None)
    (S : ChainsStay f a b (h ∷ [])) (T : TakenBy f a b (free_of f a) n limit h)
    (set : KeySet f b c key (Some value) (h.0 ∷ chain_of f b (home f key)) (h ∷ []) (h ∷ []) [])
    (written : OnlyIn ((chain_head (home f key), 4) ∷ (h.0, 24 + h.1) ∷ []) b c) where
  abbrev own : ℕ
  own = home f key

  low : own < f.chains
  low = home_below f key A.some

  longer : length a ≤ length b
  longer = S.only.front.longer

  -- the records that stood in the chain stay
  still : Still b c f (chain_of f b own)
  still i held =
      let within = times_within f IsChained b (word f.order b (chain_head own)) (chain_of f b own) i (S.accepted.chains own low) held in
      let among = times_member (λ j. extents f.order b (chain_of f b j)) own i f.chains low in
      let apart : once (h.0, 24 + h.1) i ≡ 0 = omega (arith, S.accepted.apart i, times_all f b (chain_of f b) (free_of f b) (h ∷ []) i, among, held) in
      let behind : once (chain_head own, 4) i ≡ 0 = once_out (chain_head own, 4) i (inr (omega (arith, within.0, low))) in
      written i (omega (arith, apart, behind))

  old_bodies : Bodies b c f (chain_of f b own)
  old_bodies = bodies_still f b c (chain_of f b own) still

  old_pairs : pairs f.order c (chain_of f b own) ≡ pairs f.order a (chain_of f a own)
  old_pairs =
      pairs_kept f IsChained b c own (word f.order b (chain_head own)) (chain_of f b own) (omega (arith, set.changed.size)) (S.accepted.chains own low) old_bodies (S.accepted.filed own low)
      ∙ stay_pairs f a b [] A longer own low (S.only.chains own low (λ never. never))

  -- the key isn't among them
  not_old : lookup (same_key key) (pairs f.order a (chain_of f a own)) ≡ None
  not_old = sym (map_home f a key (accepted_filed f a [] A)) ∙ none

  found : lookup (same_key key) (pairs f.order c (h.0 ∷ chain_of f b own)) ≡ Some value
  found =
      ap (λ xs. lookup (same_key key) (pairs f.order c xs)) (sym set.changed.offsets) ∙ sym (map_home f c key (accepted_filed f c [] set.changed.accepted))
      ∙ set.map key ∙ update_same same_key (map_of f b) key (Some value) key (same_key-refl key)

  -- so the new record holds the pair
  new_used : magic_of f.order c h.0 ≡ USED
  new_used =
      elim (cases_eq (magic_of f.order c h.0) USED) [
        | inl used ↦ used
        | inr other ↦
            let passed = sym (ap (lookup (same_key key)) (pairs_other f.order c h.0 (chain_of f b own) other ∙ old_pairs)) ∙ found in
            let wrong : None ≡ Some value = sym not_old ∙ passed in
            absurd (cc)
      ]

  pub new_pairs : pairs f.order c (chain_of f c own) ≡ (key, value) ∷ pairs f.order a (chain_of f a own)
  new_pairs =
      let here : pairs f.order c (h.0 ∷ chain_of f b own) ≡ (key_at f.order c h.0, data_at f.order c h.0) ∷ pairs f.order a (chain_of f a own) =
      pairs_used f.order c h.0 (chain_of f b own) new_used ∙ ap (λ ps. (key_at f.order c h.0, data_at f.order c h.0) ∷ ps) old_pairs in
      let is = first_is key value (key_at f.order c h.0) (data_at f.order c h.0) (pairs f.order a (chain_of f a own)) not_old (sym (ap (lookup (same_key key)) here) ∙ found) in
      ap (pairs f.order c) set.changed.offsets ∙ here ∙ (λ j. (is.0 j, is.1 j) ∷ pairs f.order a (chain_of f a own))

  other_stays : (j : ℕ) → j < f.chains → (j ≡ own → ⊥) → ChainStays f b c j
  other_stays j below other = set.changed.only.chains j below other

  bc : length b ≤ length c
  bc = omega (arith, set.changed.size)

  moves : (j : ℕ) → j < f.chains → ChainStays f a b j
  moves j below = S.only.chains j below (λ never. never)

  -- and each byte is held as before
  each : word f.order a area_head ≡ 0 → HoldsEach f a [] → HoldsEach f c []
  each bare held i from to =
      let before = each_taken f a b n limit h A short words least most S T bare held i from (omega (arith, to, set.changed.size)) in
      let swapped = times_swapped (λ j. extents f.order c (chain_of f c j)) (λ j. extents f.order b (chain_of f b j)) own i f.chains low
      (λ j below other. stay_extents' j below (other_stays j below other)) in
      let frees : times (extents f.order c (free_of f c)) i ≡ times (extents f.order b (free_of f b)) i = ap (λ es. times es i) free_same in
      let area_b : times (area f.order b) i ≡ 0 = ap (λ es. times es i) (no_area f b (area_word f a b S.only.front ∙ bare)) in
      let area_c : times (area f.order c) i ≡ 0 = ap (λ es. times es i) (no_area f c (area_word f b c set.changed.only.front ∙ area_word f a b S.only.front ∙ bare)) in
      omega (arith, before, swapped, frees, area_b, area_c, set.changed.count i, times_all f b (chain_of f b) (free_of f b) (h ∷ []) i, times_all f c (chain_of f c) (free_of f c) [] i)
    where
      stay_extents' : (j : ℕ) → j < f.chains → ChainStays f b c j → extents f.order c (chain_of f c j) ≡ extents f.order b (chain_of f b j)
      stay_extents' j below stays = stay_extents f b c (h ∷ []) S.accepted bc j below stays

      free_same : extents f.order c (free_of f c) ≡ extents f.order b (free_of f b)
      free_same = ap (extents f.order c) set.changed.frees.same_offsets ∙ extents_kept f b c (free_of f b) (bodies_still f b c (free_of f b) set.changed.frees.bytes)

  pub put_first : PutFirst f a c key value
  put_first = record {
    own = new_pairs;
    others = λ j below other. stay_pairs f b c (h ∷ []) S.accepted bc j below (other_stays j below other) ∙ stay_pairs f a b [] A longer j below (moves j below);
    used = λ all j below.
        (elim (cases_eq j own) [
          | inl is ↦ subst (λ k. AllUsed f.order c (chain_of f c k)) (sym is)
              (subst (AllUsed f.order c) (sym set.changed.offsets) (new_used, used_kept f b c (chain_of f b own) old_bodies (stay_used f a b [] A longer own low (moves own low) (all own low))))
          | inr other ↦ stay_used f b c (h ∷ []) S.accepted bc j below (other_stays j below other) (stay_used f a b [] A longer j below (moves j below) (all j below))
        ]);
    area = area_word f b c set.changed.only.front ∙ area_word f a b S.only.front;
    each = each;
  }

-- the same of the images and the forms that a call of a take and one of a link tell of
pub put_first_there : (f k l : Form) (a v b c key value : List ℕ) (n limit : ℕ) (h : HandPair) (out : Option HandPair) → AcceptWith f a [] → length a < 2 ^ 32 → n % 4 ≡ 0 → 4 ≤ n → limit ≤ 4294963200 → map_of f a key ≡ None
    → k ≡ f → v ≡ a → l ≡ f
    → ((hands : List HandPair) → AcceptWith k v hands → ChainsStay k v b (h ∷ hands))
    → ((offs : List ℕ) → CanBeTaken k v offs → TakenBy k v b offs n limit h)
    → ((hands : List HandPair) → AcceptWith l b (h ∷ hands) → IsFound l b key None → KeySet l b c key (Some value) (h.0 ∷ without_place None (chain_of l b (home l key))) (h ∷ []) (h ∷ hands) (with_hand out hands))
    → ((hands : List HandPair) → AcceptWith l b (h ∷ hands) → out ≡ hands_back None)
    → OnlyIn ((chain_head (home l key), 4) ∷ (h.0, 24 + h.1) ∷ word_before None) b c
    → PutFirst f a c key value
put_first_there f k l a v b c key value n limit h out A short words least most none form image same_form kept taken linked back written =
    let stay : ChainsStay f a b (h ∷ []) = moved (λ x img. (hands : List HandPair) → AcceptWith x img hands → ChainsStay x img b (h ∷ hands)) f k a v form image kept [] A in
    let took : TakenBy f a b (free_of f a) n limit h = moved (λ x img. (offs : List ℕ) → CanBeTaken x img offs → TakenBy x img b offs n limit h) f k a v form image taken (free_of f a) (can_take f a [] A short) in
    let there : AcceptWith l b (h ∷ []) = subst (λ x. AcceptWith x b (h ∷ [])) (sym same_form) stay.accepted in
    let absent : map_of l b key ≡ None = ap (λ x. map_of x b key) same_form ∙ stay.map key ∙ none in
    let set : KeySet l b c key (Some value) (h.0 ∷ chain_of l b (home l key)) (h ∷ []) (h ∷ []) [] =
    subst (λ o. KeySet l b c key (Some value) (h.0 ∷ chain_of l b (home l key)) (h ∷ []) (h ∷ []) (with_hand o [])) (back [] there) (linked [] there absent) in
    put_first f a b c key value n limit h A short words least most none stay took
    (subst (λ x. KeySet x b c key (Some value) (h.0 ∷ chain_of x b (home x key)) (h ∷ []) (h ∷ []) []) same_form set)
    (subst (λ x. OnlyIn ((chain_head (home x key), 4) ∷ (h.0, 24 + h.1) ∷ []) b c) same_form written)
