-- An image whose undo area or length becomes another is laid out in the same lists, and holds the same pairs.
use Rattle.std.proofs.Common.{◌≡◌, ℕ, ◌+◌, ◌<◌, ◌≤◌, ◌⊎◌, List, [], ◌∷◌, ◌++◌, length, take, drop, refl, sym, ◌∙◌, ap, subst, inl, inr, arith}
use Rattle.std.specs.Prelude.{slice_index, ◌%◌}
use Rattle.std.specs.List.{IsDistinct}
use Rattle.std.specs.Map.{keys_of, lookup}
use Rattle.std.proofs.lemmas.Bool.{cases_lt, cases_eq, eq-eqb, ne_eqb}
use Rattle.std.proofs.lemmas.List.{get_or_past}
use Rattle.tdb_words.specs.declared.record.TheConstants.{USED, PADDING}
use Rattle.tdb_words.specs.Hash.{h_of}
use Rattle.tdb_words.specs.Word.{word}
use Rattle.tdb_words.proofs.Words.{word_agrees}
use Rattle.tdb_space.specs.Form.{Form, form_of, chain_head, free_head, data_start, SameHeader}
use Rattle.tdb_space.specs.Record.{IsChained, IsFree, Whole, Fits, key_at, data_at, rec_len_of, key_len_of, data_len_of, magic_of}
use Rattle.tdb_space.specs.Chain.{Linked, chain_of, free_of}
use Rattle.tdb_space.specs.Pairs.{joined, pair_of, pairs, order_of, map_of, same_key}
use Rattle.tdb_space.specs.Extents.{times, extents, extent_at, area, all_extents}
use Rattle.tdb_space.specs.Accepted.{Filed, AllFiled, LaidOut, AcceptWith, Accept}
use Rattle.tdb_space.specs.Exchange.{Agree}
use Rattle.tdb_space.specs.Moved.{AreaMoved, StaysAccepted}
use Rattle.tdb_space.specs.Undoing.{Reopens}
use Rattle.tdb_space.proofs.Opening.Undone.{read_as_it_is, accepted_opens}
use Rattle.tdb_words.specs.Header.{sequence_of}
use Rattle.tdb_space.proofs.Extents.Counts.{once_in, where_is, times_all, joined_same}
use Rattle.tdb_space.proofs.Extents.Counts.Lies.{lies, below, above}
use Rattle.tdb_space.proofs.Exchange.Kept.{Body, Bodies, Still, ChainKept, words_kept, word_kept, part_kept, extents_kept, bodies_still, nexts_still, Nexts}
use Rattle.tdb_space.proofs.Form.Headers.{form_kept, header_kept}
use Rattle.tdb_space.proofs.Accepted.Laid.{accepted, order_met, chains_met, free_met}

-- a part whose bytes stay, where both images reach its end
pub part_same : (a b : List ℕ) (at n : ℕ) → at + n ≤ length a → at + n ≤ length b → Agree a b at (at + n) → take n (drop at b) ≡ take n (drop at a)
part_same a b at n in_a in_b same =
    elim (cases_lt (length b) (length a)) [
      | inl shorter ↦ sym (part_kept b a at n in_b (omega arith) (λ i low high. sym (same i low high)))
      | inr longer ↦ part_kept a b at n in_a longer same
    ]

-- the record at an offset stays, but for its next word perhaps, and lies within the other image
pub record Here (a b : List ℕ) (f : Form) (x : ℕ) : Type 0 where
  pub body : Body a b f x
  pub room : x + 24 + rec_len_of f.order a x ≤ length b

-- each of these does
abbrev pub AllHere : List ℕ → List ℕ → Form → List ℕ → Type 0
AllHere a b f [] = Unit {0}
AllHere a b f (x ∷ xs) = Here a b f x × AllHere a b f xs

-- one record
module _ (f : Form) (a b : List ℕ) (x : ℕ) (whole : Whole f a x) (h : Here a b f x) where
  whole_here : Whole f b x
  whole_here =
      let len : rec_len_of f.order b x ≡ rec_len_of f.order a x = (words_kept f a b x h.body).rec_len in
      let tail : word f.order b (x + 20 + rec_len_of f.order a x) ≡ word f.order a (x + 20 + rec_len_of f.order a x) = word_kept f.order a b (x + 20 + rec_len_of f.order a x) (x + 4) (x + 24 + rec_len_of f.order a x) h.body (omega arith) (omega arith) in
      record {
        aligned = whole.aligned;
        above = whole.above;
        len_aligned = ap (λ n. n % 4) len ∙ whole.len_aligned;
        len_least = omega (arith, len, whole.len_least);
        within = omega (arith, len, h.room);
        tailer = ap (λ n. word f.order b (x + 20 + n)) len ∙ tail ∙ whole.tailer ∙ ap (λ n. 24 + n) (sym len);
      }

  module _ (fits : Fits f.order a x) where
    key_here : key_at f.order b x ≡ key_at f.order a x
    key_here =
        ap (λ n. take n (drop (x + 24) b)) (words_kept f a b x h.body).key_len
        ∙ part_same a b (x + 24) (key_len_of f.order a x) (omega (arith, whole.within, fits)) (omega (arith, h.room, fits)) (λ i low high. h.body i (omega arith) (omega (arith, fits)))

    data_here : data_at f.order b x ≡ data_at f.order a x
    data_here =
        let w = words_kept f a b x h.body in
        ap (λ n. take n (drop (x + 24 + key_len_of f.order b x) b)) w.data_len
        ∙ ap (λ n. take (data_len_of f.order a x) (drop (x + 24 + n) b)) w.key_len
        ∙ part_same a b (x + 24 + key_len_of f.order a x) (data_len_of f.order a x) (omega (arith, whole.within, fits)) (omega (arith, h.room, fits)) (λ i low high. h.body i (omega arith) (omega (arith, fits)))

  filed_here : (j : ℕ) → Filed f a j x → Filed f b j x
  filed_here j filed =
      let w = words_kept f a b x h.body in
      let rec_len : rec_len_of f.order b x ≡ rec_len_of f.order a x = w.rec_len in
      let key_len : key_len_of f.order b x ≡ key_len_of f.order a x = w.key_len in
      let data_len : data_len_of f.order b x ≡ data_len_of f.order a x = w.data_len in
      record {
        fits = omega (arith, rec_len, key_len, data_len, filed.fits);
        hashed = w.full_hash ∙ filed.hashed ∙ ap (h_of f.hash) (sym (key_here filed.fits));
        placed = ap (λ n. n % f.chains) w.full_hash ∙ filed.placed;
      }

  pair_here : (magic_of f.order a x ≡ USED → Fits f.order a x) → pair_of f.order b x ≡ pair_of f.order a x
  pair_here fits =
      let magic : magic_of f.order b x ≡ magic_of f.order a x = (words_kept f a b x h.body).magic in
      elim (cases_eq (magic_of f.order a x) USED) [
        | inl used ↦
            rw (eq-eqb (magic_of f.order b x) USED (magic ∙ used)) (rw (eq-eqb (magic_of f.order a x) USED used)
            (λ i. (key_here (fits used) i, data_here (fits used) i) ∷ []))
        | inr other ↦ rw (ne_eqb (magic_of f.order b x) USED (λ e. other (sym magic ∙ e))) (rw (ne_eqb (magic_of f.order a x) USED other) refl)
      ]

-- lists of such records
bodies_here : (f : Form) (a b : List ℕ) (xs : List ℕ) → AllHere a b f xs → Bodies a b f xs
bodies_here f a b [] all = tt
bodies_here f a b (x ∷ xs) all = (all.0.body, bodies_here f a b xs all.1)

linked_here : (f : Form) (M : ℕ → Type 0) (a b : List ℕ) (at : ℕ) (xs : List ℕ) → Linked f M a at xs → AllHere a b f xs → Nexts a b f xs → Linked f M b at xs
linked_here f M a b at [] p all nexts = p
linked_here f M a b at (x ∷ xs) p all nexts = (
  p.0,
  whole_here f a b x p.1 all.0,
  subst M (sym (words_kept f a b x all.0.body).magic) p.2,
  subst (λ y. Linked f M b y xs) (sym nexts.0) (linked_here f M a b (word f.order a x) xs p.3 all.1 nexts.1),
)

filed_all_here : (f : Form) (M : ℕ → Type 0) (a b : List ℕ) (j at : ℕ) (xs : List ℕ) → Linked f M a at xs → AllHere a b f xs → AllFiled f a j xs → AllFiled f b j xs
filed_all_here f M a b j at [] p all filed = tt
filed_all_here f M a b j at (x ∷ xs) p all filed = (
  λ used. filed_here f a b x p.1 all.0 j (filed.0 (sym (words_kept f a b x all.0.body).magic ∙ used)),
  filed_all_here f M a b j (word f.order a x) xs p.3 all.1 filed.1,
)

pairs_here : (f : Form) (M : ℕ → Type 0) (a b : List ℕ) (j at : ℕ) (xs : List ℕ) → Linked f M a at xs → AllHere a b f xs → AllFiled f a j xs → pairs f.order b xs ≡ pairs f.order a xs
pairs_here f M a b j at [] p all filed = refl
pairs_here f M a b j at (x ∷ xs) p all filed =
    let here = pair_here f a b x p.1 all.0 (λ used. (filed.0 used).fits) in
    let rest = pairs_here f M a b j (word f.order a x) xs p.3 all.1 filed.1 in
    λ i. here i ++ rest i

-- each byte of these records stays, and lies within the other image
abbrev pub StillWithin : List ℕ → List ℕ → Form → List ℕ → Type 0
StillWithin a b f xs = (i : ℕ) → 1 ≤ times (extents f.order a xs) i → (i < length b) × (slice_index b i ≡ slice_index a i)

still_here : (f : Form) (a b : List ℕ) (xs : List ℕ) → StillWithin a b f xs → AllHere a b f xs
still_here f a b [] still = tt
still_here f a b (x ∷ xs) still = (
  record {
    body = λ i low high. (still i (omega (arith, once_in (extent_at f.order a x) i (omega arith) (omega arith)))).1;
    room = omega (arith, (still (x + 23 + rec_len_of f.order a x) (omega (arith, once_in (extent_at f.order a x) (x + 23 + rec_len_of f.order a x) (omega arith) (omega arith)))).0);
  },
  still_here f a b xs (λ i held. still i (omega (arith, held))),
)

still_of : (f : Form) (a b : List ℕ) (xs : List ℕ) → StillWithin a b f xs → Still a b f xs
still_of f a b xs still i held = (still i held).1

module _ (f : Form) (a b : List ℕ) (A : AcceptWith f a []) (M : AreaMoved f a b) where
  low_word : (at : ℕ) → at + 4 ≤ data_start f → (at + 4 ≤ 44) ⊎ (52 ≤ at) → word f.order b at ≡ word f.order a at
  low_word at under apart = word_agrees f.order b a at (λ i from to. M.low i (omega arith) (elim apart [ inl before ↦ inl (omega arith) | inr after ↦ inr (omega arith) ]))

  same_header : SameHeader a b
  same_header i where_at = M.low i (elim where_at [ inl lt ↦ omega arith | inr both ↦ omega (arith, both.1) ]) (elim where_at [ inl lt ↦ inl lt | inr both ↦ inr both.0 ])

  chain : (k : ℕ) → k < f.chains → ChainKept f a b k (word f.order a (chain_head k)) (chain_of f a k)
  chain k low =
      let xs = chain_of f a k in
      let at = word f.order a (chain_head k) in
      let still : StillWithin a b f xs = M.chains k low in
      let all = still_here f a b xs still in
      let same : pairs f.order b xs ≡ pairs f.order a xs = pairs_here f IsChained a b k at xs (A.chains k low) all (A.filed k low) in
      record {
        linked = linked_here f IsChained a b at xs (A.chains k low) all (nexts_still f a b xs (still_of f a b xs still));
        same_extents = extents_kept f a b xs (bodies_here f a b xs all);
        same_pairs = same;
        filed = filed_all_here f IsChained a b k at xs (A.chains k low) all (A.filed k low);
        keys = subst (λ ps. IsDistinct same_key (keys_of ps)) (sym same) (A.keys k low);
      }

  frees : Linked f IsFree b (word f.order a free_head) (free_of f a)
  frees = linked_here f IsFree a b (word f.order a free_head) (free_of f a) A.frees (still_here f a b (free_of f a) M.frees) (nexts_still f a b (free_of f a) (still_of f a b (free_of f a) M.frees))

  count_a : (i : ℕ) → times (all_extents f a (chain_of f a) (free_of f a) []) i ≡ times (joined f.chains (λ k. extents f.order a (chain_of f a k))) i + times (extents f.order a (free_of f a)) i + times (area f.order a) i + 0
  count_a i = times_all f a (chain_of f a) (free_of f a) [] i

  count_b : (i : ℕ) → times (all_extents f b (chain_of f a) (free_of f a) []) i ≡ times (joined f.chains (λ k. extents f.order a (chain_of f a k))) i + times (extents f.order a (free_of f a)) i + times (area f.order b) i + 0
  count_b i =
      let chains : times (joined f.chains (λ k. extents f.order b (chain_of f a k))) i ≡ times (joined f.chains (λ k. extents f.order a (chain_of f a k))) i =
      ap (λ es. times es i) (joined_same f.chains (λ k. extents f.order b (chain_of f a k)) (λ k. extents f.order a (chain_of f a k)) (λ k low. (chain k low).same_extents)) in
      let free : times (extents f.order b (free_of f a)) i ≡ times (extents f.order a (free_of f a)) i = ap (λ es. times es i) (extents_kept f a b (free_of f a) (bodies_still f a b (free_of f a) (still_of f a b (free_of f a) M.frees))) in
      omega (arith, chains, free, times_all f b (chain_of f a) (free_of f a) [] i)

  -- an undo area holds a byte once at most
  area_once : (i : ℕ) → times (area f.order b) i ≤ 1
  area_once i =
      elim (cases_eq (word f.order b 44) 0) [
        | inl none ↦ rw (eq-eqb (word f.order b 44) 0 none) (omega arith)
        | inr some ↦
            rw (ne_eqb (word f.order b 44) 0 some)
            (elim (where_is (extent_at f.order b (word f.order b 44)) i) [ lies _ _ one ↦ omega (arith, one) | below _ out ↦ omega (arith, out) | above _ out ↦ omega (arith, out) ])
      ]

  apart : (i : ℕ) → times (all_extents f b (chain_of f a) (free_of f a) []) i ≤ 1
  apart i =
      elim (cases_lt 0 (times (area f.order b) i)) [
        | inl some ↦ omega (arith, count_b i, area_once i, M.apart i (omega (arith, some)))
        | inr none ↦ omega (arith, count_b i, none, count_a i, A.apart i)
      ]

  stray : (i : ℕ) → data_start f ≤ i → i < length b → times (all_extents f b (chain_of f a) (free_of f a) []) i ≡ 0 → (slice_index b i ≡ 0) ⊎ (slice_index b i ≡ PADDING)
  stray i from to none =
      elim (M.others i from to (omega (arith, none, count_b i))) [
        | inr zero_there ↦ inl zero_there
        | inl stays ↦
            elim (cases_lt i (length a)) [
              | inr past ↦ inl (stays.1 ∙ get_or_past a i 0 past)
              | inl within ↦
                  elim (A.stray i from within (omega (arith, count_a i, stays.0, none, count_b i))) [
                    | inl zero_there ↦ inl (stays.1 ∙ zero_there)
                    | inr padding ↦ inr (stays.1 ∙ padding)
                  ]
            ]
      ]

  moved_laid : LaidOut f b (chain_of f a) (free_of f a) []
  moved_laid = record {
    header = header_kept a b (omega (arith, M.long)) same_header A.header;
    form = form_kept a b same_header ∙ A.form;
    some = A.some;
    sized = M.sized;
    long = M.long;
    area_ok = M.area_ok;
    shut = M.shut;
    chains = λ k low. subst (λ at. Linked f IsChained b at (chain_of f a k)) (sym (low_word (chain_head k) (omega arith) (inr (omega arith)))) (chain k low).linked;
    frees = subst (λ at. Linked f IsFree b at (free_of f a)) (sym (low_word free_head (omega arith) (inr (omega arith)))) frees;
    filed = λ k low. (chain k low).filed;
    keys = λ k low. (chain k low).keys;
    held = tt;
    apart = apart;
    stray = stray;
  }

  pub moved_accepted : AcceptWith f b []
  moved_accepted = accepted f b (chain_of f a) (free_of f a) [] moved_laid

  pub moved_order : order_of f b ≡ order_of f a
  moved_order =
      order_met f b (chain_of f a) (free_of f a) [] moved_laid
      ∙ joined_same f.chains (λ k. pairs f.order b (chain_of f a k)) (λ k. pairs f.order a (chain_of f a k)) (λ k low. (chain k low).same_pairs)

  pub moved_map : (key : List ℕ) → map_of f b key ≡ map_of f a key
  moved_map key = ap (lookup (same_key key)) moved_order

  -- how often its own lists and its undo area hold a byte
  pub moved_held : (i : ℕ) → times (all_extents f b (chain_of f b) (free_of f b) []) i ≡ times (joined f.chains (λ k. extents f.order a (chain_of f a k))) i + times (extents f.order a (free_of f a)) i + times (area f.order b) i
  moved_held i =
      let joins : joined f.chains (λ k. extents f.order b (chain_of f b k)) ≡ joined f.chains (λ k. extents f.order b (chain_of f a k)) = joined_same f.chains (λ k. extents f.order b (chain_of f b k)) (λ k. extents f.order b (chain_of f a k)) (λ k low. ap (extents f.order b) (chains_met f b (chain_of f a) (free_of f a) [] moved_laid k low)) in
      let chains : times (joined f.chains (λ k. extents f.order b (chain_of f b k))) i ≡ times (joined f.chains (λ k. extents f.order b (chain_of f a k))) i = ap (λ es. times es i) joins in
      let free : times (extents f.order b (free_of f b)) i ≡ times (extents f.order b (free_of f a)) i = ap (λ xs. times (extents f.order b xs) i) (free_met f b (chain_of f a) (free_of f a) [] moved_laid) in
      omega (arith, chains, free, count_b i, times_all f b (chain_of f a) (free_of f a) [] i, times_all f b (chain_of f b) (free_of f b) [] i)

  pub moved_stays : StaysAccepted f a b
  moved_stays = record {
    accepted = moved_accepted;
    same_chains = chains_met f b (chain_of f a) (free_of f a) [] moved_laid;
    same_free = free_met f b (chain_of f a) (free_of f a) [] moved_laid;
    same_order = moved_order;
    same_map = moved_map;
  }

-- and after another such change
pub stays_then : (f : Form) (a b c : List ℕ) → StaysAccepted f a b → StaysAccepted f b c → StaysAccepted f a c
stays_then f a b c s t = record {
  accepted = t.accepted;
  same_chains = λ k low. t.same_chains k low ∙ s.same_chains k low;
  same_free = t.same_free ∙ s.same_free;
  same_order = t.same_order ∙ s.same_order;
  same_map = λ key. t.same_map key ∙ s.same_map key;
}

-- so it reopens, where it has the same sequence number
pub stays_reopens : (r c : List ℕ) → StaysAccepted (form_of r) r c → Agree r c 48 52 → Reopens r c
stays_reopens r c stays number =
    let form : form_of c ≡ form_of r = stays.accepted.form in
    let ok : Accept c = subst (λ g. AcceptWith g c []) (sym form) stays.accepted in
    let opens = accepted_opens c ok in
    let same : sequence_of c ≡ sequence_of r = ap (λ g. word g.order c 48) form ∙ word_agrees (form_of r).order c r 48 number in
    record {
      opens = record { opens = opens.opens; holds = λ key. opens.holds key ∙ ap (λ g. map_of g c key) form ∙ stays.same_map key };
      again = inl ok.shut;
      sequence = ap sequence_of (read_as_it_is (form_of c) c ok.shut) ∙ same;
    }
