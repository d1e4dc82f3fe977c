-- An image without its stray bytes is accepted, where it has no other fault, and holds the same pairs.
use Rattle.std.proofs.Common.{◌≡◌, ℕ, ◌+◌, ◌<◌, ◌≤◌, ◌⊎◌, true, false, List, [], length, refl, sym, ◌∙◌, ap, subst, inl, inr, arith}
use Rattle.std.specs.Prelude.{slice_index, ◌%◌, if◌then◌else◌}
use Rattle.std.specs.List.{IsDistinct}
use Rattle.std.specs.Map.{keys_of}
use Rattle.std.proofs.lemmas.Bool.{cases_lt, cases_Bool}
use Rattle.std.proofs.lemmas.List.{get_or_past}
use Rattle.std.proofs.lemmas.List.FromFn.{length-map-range_with_len, get_or-map-range_with_len}
use Rattle.tdb_words.specs.declared.record.TheConstants.{PADDING}
use Rattle.tdb_words.specs.Header.{header_at}
use Rattle.tdb_words.specs.Word.{word}
use Rattle.tdb_words.proofs.Words.{word_agrees}
use Rattle.tdb_space.specs.Form.{Form, form_of, chain_head, free_head, data_start, SameHeader}
use Rattle.tdb_space.specs.Record.{IsFree, IsChained}
use Rattle.tdb_space.specs.Chain.{Linked, chain_of, free_of}
use Rattle.tdb_space.specs.Pairs.{joined, pairs, order_of, same_key}
use Rattle.tdb_space.specs.Extents.{times, extents, area, all_extents}
use Rattle.tdb_space.specs.Accepted.{AreaOk, Shut, LaidOut, AcceptWith, Accept}
use Rattle.tdb_space.specs.FirstFault.{extents_of, NoOverlap, is_stray}
use Rattle.tdb_space.proofs.Accepted.Areas.{area_still}
use Rattle.tdb_space.proofs.Accepted.Laid.{accepted, order_met}
use Rattle.tdb_space.proofs.Exchange.Kept.{Still, ChainKept, chain_kept, list_left, extents_kept, bodies_still}
use Rattle.tdb_space.proofs.Extents.Counts.{joined_same, times_all, times_member}
use Rattle.tdb_space.proofs.Form.Headers.{form_kept, header_kept}
use Rattle.tdb_space.proofs.Pairs.Orders.{order_distinct}
use Rattle.tdb_rewrite.specs.Readable.{Readable}
use Rattle.tdb_mend.specs.Mended.{without_strays, IsSoundButStrays}
use Rattle.tdb_mend.specs.Laws.{StraysCountForNothing}
use Rattle.tdb_mend.proofs.Laid.{ListsLaid, lists_laid, stray_from, stray_to}

-- its length, and its bytes: 0 where a stray one stood, and each other one as it was
pub kept_length : (a : List ℕ) → length (without_strays a) ≡ length a
kept_length a = length-map-range_with_len (λ i. if is_stray a i then 0 else slice_index a i) 0 (length a)

kept_read : (a : List ℕ) (i : ℕ) → i < length a → slice_index (without_strays a) i ≡ (if is_stray a i then 0 else slice_index a i)
kept_read a i low = get_or-map-range_with_len (λ j. if is_stray a j then 0 else slice_index a j) 0 (length a) i i 0 low (omega arith)

pub kept_byte : (a : List ℕ) (i : ℕ) → is_stray a i ≡ false → slice_index (without_strays a) i ≡ slice_index a i
kept_byte a i whole = elim (cases_lt i (length a)) [
  | inl low ↦
      let stays : (if is_stray a i then 0 else slice_index a i) ≡ slice_index a i = rw whole refl in
      kept_read a i low ∙ stays
  | inr past ↦ get_or_past (without_strays a) i 0 (omega (arith, past, kept_length a)) ∙ sym (get_or_past a i 0 past)
]

stray_gone : (a : List ℕ) (i : ℕ) → i < length a → is_stray a i ≡ true → slice_index (without_strays a) i ≡ 0
stray_gone a i low goes =
    let gone : (if is_stray a i then 0 else slice_index a i) ≡ 0 = rw goes refl in
    kept_read a i low ∙ gone

-- a byte that an extent holds isn't stray, nor is one in front of the data
held_stays : (a : List ℕ) (i : ℕ) → 1 ≤ times (extents_of a) i → is_stray a i ≡ false
held_stays a i held = stray_to (data_start (form_of a)) (length a) (times (extents_of a) i) (slice_index a i) i (λ high low none. absurd (omega (arith, held, none)))

low_stays : (a : List ℕ) (i : ℕ) → i < data_start (form_of a) → is_stray a i ≡ false
low_stays a i front = stray_to (data_start (form_of a)) (length a) (times (extents_of a) i) (slice_index a i) i (λ high low none. absurd (omega (arith, front, high)))

-- image a, whose lists have no fault and hold no byte twice, and image b, which is a without its stray bytes
module _ (f : Form) (a b : List ℕ) (own : form_of a ≡ f) (is : b ≡ without_strays a) (L : ListsLaid f a) (once_each : NoOverlap a) where
  size : length b ≡ length a
  size = ap length is ∙ kept_length a

  same_byte : (i : ℕ) → is_stray a i ≡ false → slice_index b i ≡ slice_index a i
  same_byte i stays = ap (λ x. slice_index x i) is ∙ kept_byte a i stays

  same_low : (i : ℕ) → i < data_start f → slice_index b i ≡ slice_index a i
  same_low i low = same_byte i (low_stays a i (subst (λ x. i < data_start x) (sym own) low))

  low_word : (at : ℕ) → at + 4 ≤ data_start f → word f.order b at ≡ word f.order a at
  low_word at under = word_agrees f.order b a at (λ i from to. same_low i (omega (arith, under, to)))

  same_header : SameHeader a b
  same_header i where_at = same_low i (elim where_at [ inl lt ↦ omega arith | inr both ↦ omega (arith, both.1) ])

  -- how often the extents of a hold a byte
  own_extents : (i : ℕ) → times (extents_of a) i ≡ times (all_extents f a (chain_of f a) (free_of f a) []) i
  own_extents i = ap (λ x. times (all_extents x a (chain_of x a) (free_of x a) []) i) own

  count_a : (i : ℕ) → times (extents_of a) i ≡ times (joined f.chains (λ k. extents f.order a (chain_of f a k))) i + times (extents f.order a (free_of f a)) i + times (area f.order a) i + 0
  count_a i = own_extents i ∙ times_all f a (chain_of f a) (free_of f a) [] i

  chain_still : (k : ℕ) → k < f.chains → Still a b f (chain_of f a k)
  chain_still k low i held =
      let one = times_member (λ j. extents f.order a (chain_of f a j)) k i f.chains low in
      same_byte i (held_stays a i (omega (arith, held, one, count_a i)))

  free_still : Still a b f (free_of f a)
  free_still i held = same_byte i (held_stays a i (omega (arith, held, count_a i)))

  chain : (k : ℕ) → k < f.chains → ChainKept f a b k (word f.order a (chain_head k)) (chain_of f a k)
  chain k low = chain_kept f a b k (word f.order a (chain_head k)) (chain_of f a k) (omega (arith, size)) (L.chains k low) (L.filed k low) (L.keys k low) (chain_still k low)

  frees : Linked f IsFree b (word f.order a free_head) (free_of f a)
  frees = list_left f IsFree a b (word f.order a free_head) (free_of f a) (omega (arith, size)) L.frees free_still

  area_kept : (area f.order b ≡ area f.order a) × AreaOk f b × Shut f b
  area_kept = area_still f a b (omega (arith, size)) (low_word 44 (omega arith)) (λ i held. same_byte i (held_stays a i (omega (arith, held, count_a i)))) L.area_ok L.shut

  count_b : (i : ℕ) → times (all_extents f b (chain_of f a) (free_of f a) []) i ≡ times (extents_of a) i
  count_b i =
      let chains : times (joined f.chains (λ k. extents f.order b (chain_of f a k))) i ≡ times (joined f.chains (λ k. extents f.order a (chain_of f a k))) i =
      ap (λ es. times es i) (joined_same f.chains (λ k. extents f.order b (chain_of f a k)) (λ k. extents f.order a (chain_of f a k)) (λ k low. (chain k low).same_extents)) in
      let free : times (extents f.order b (free_of f a)) i ≡ times (extents f.order a (free_of f a)) i = ap (λ es. times es i) (extents_kept f a b (free_of f a) (bodies_still f a b (free_of f a) free_still)) in
      let areas : times (area f.order b) i ≡ times (area f.order a) i = ap (λ es. times es i) area_kept.0 in
      omega (arith, chains, free, areas, count_a i, times_all f b (chain_of f a) (free_of f a) [] i)

  stray : (i : ℕ) → data_start f ≤ i → i < length b → times (all_extents f b (chain_of f a) (free_of f a) []) i ≡ 0 → (slice_index b i ≡ 0) ⊎ (slice_index b i ≡ PADDING)
  stray i from to none =
      elim (cases_Bool (is_stray a i)) [
        | inl goes ↦ inl (ap (λ x. slice_index x i) is ∙ stray_gone a i (omega (arith, size, to)) goes)
        | inr stays ↦
            elim (stray_from (data_start (form_of a)) (length a) (times (extents_of a) i) (slice_index a i) i stays (subst (λ x. data_start x ≤ i) (sym own) from) (omega (arith, size, to)) (sym (count_b i) ∙ none)) [
              | inl zero_there ↦ inl (same_byte i stays ∙ zero_there)
              | inr padding ↦ inr (same_byte i stays ∙ padding)
            ]
      ]

  laid : LaidOut f b (chain_of f a) (free_of f a) []
  laid = record {
    header = header_kept a b (omega (arith, size, L.long)) same_header L.header;
    form = form_kept a b same_header ∙ own;
    some = L.some;
    sized = ap (λ n. n % 4) size ∙ L.sized;
    long = omega (arith, size, L.long);
    area_ok = area_kept.1;
    shut = area_kept.2;
    chains = λ k low. subst (λ at. Linked f IsChained b at (chain_of f a k)) (sym (low_word (chain_head k) (omega arith))) (chain k low).linked;
    frees = subst (λ at. Linked f IsFree b at (free_of f a)) (sym (low_word free_head (omega arith))) frees;
    filed = λ k low. (chain k low).filed;
    keys = λ k low. (chain k low).keys;
    held = tt;
    apart = λ i. omega (arith, count_b i, once_each i);
    stray = stray;
  }

  pub strays_form : form_of b ≡ f
  strays_form = laid.form

  pub strays_accepted : Accept b
  strays_accepted = subst (λ x. AcceptWith x b []) (sym strays_form) (accepted f b (chain_of f a) (free_of f a) [] laid)

  pub strays_order : order_of f b ≡ order_of f a
  strays_order =
      order_met f b (chain_of f a) (free_of f a) [] laid
      ∙ joined_same f.chains (λ k. pairs f.order b (chain_of f a k)) (λ k. pairs f.order a (chain_of f a k)) (λ k low. (chain k low).same_pairs)

  -- the header says the same
  pub strays_header : header_at b ≡ header_at a
  strays_header =
      let same : form_of b ≡ form_of a = laid.form ∙ sym own in
      let at_word : (at : ℕ) → at + 4 ≤ 168 → word (form_of b).order b at ≡ word (form_of a).order a at =
      λ at under. (λ j. word (laid.form j).order b at) ∙ low_word at (omega (arith, under)) ∙ (λ j. word (sym own j).order a at) in
      let recovery = at_word 44 (omega arith) in
      let sequence = at_word 48 (omega arith) in
      λ j. record { order = (same j).order; hash = (same j).hash; hash_size = (same j).chains; recovery_start = recovery j; sequence = sequence j }

  pub strays_readable : Readable f a
  strays_readable = record {
    some = L.some;
    long = L.long;
    chains = L.chains;
    filed = L.filed;
    differ = subst (λ ps. IsDistinct same_key (keys_of ps)) strays_order (order_distinct f b [] (accepted f b (chain_of f a) (free_of f a) [] laid));
  }

-- the header of an image is the same without its stray bytes
pub mended_header_same : (img : List ℕ) → IsSoundButStrays img → header_at (without_strays img) ≡ header_at img
mended_header_same img h = strays_header (form_of img) img (without_strays img) refl refl (lists_laid img h.lists) h.apart

pub strays_count_for_nothing : StraysCountForNothing
strays_count_for_nothing img h =
    let f = form_of img in
    let b = without_strays img in
    let L = lists_laid img h.lists in (
      strays_accepted f img b refl refl L h.apart,
      strays_form f img b refl refl L h.apart,
      strays_order f img b refl refl L h.apart,
      strays_readable f img b refl refl L h.apart,
    )
