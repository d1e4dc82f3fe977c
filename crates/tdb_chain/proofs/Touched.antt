-- The used record of a key is changed where it stands: it is marked dead, or gets another value.
use Rattle.std.proofs.Common.{◌≡◌, ℕ, ◌+◌, ◌<◌, ◌≤◌, ◌⊎◌, ◌^◌, List, [], length, take, drop, Option, Some, None, sym, ◌∙◌, ap, subst, inl, inr, add-zero, arith}
use Rattle.std.specs.Prelude.{slice_index, ◌%◌}
use Rattle.std.specs.Map.{update}
use Rattle.std.proofs.lemmas.Bool.{cases_lt}
use Rattle.std.proofs.Math.Seq.{take-length}
use Rattle.tdb_disk.specs.Image.{overlay}
use Rattle.tdb_disk.specs.Stop.{Torn}
use Rattle.tdb_disk.proofs.Image.{length-overlay, overlay_below, overlay_above}
use Rattle.tdb_words.specs.declared.record.TheConstants.{USED, DEAD}
use Rattle.tdb_words.specs.declared.record.Rec.{Rec}
use Rattle.tdb_words.specs.Word.{word, bytes_of_word}
use Rattle.tdb_words.proofs.Words.{word_agrees}
use Rattle.tdb_space.specs.Form.{Form, chain_head}
use Rattle.tdb_space.specs.Record.{Whole, Fits, key_at, data_at, rec_len_of, key_len_of, data_len_of, magic_of}
use Rattle.tdb_space.specs.Chain.{Member, chain_of}
use Rattle.tdb_space.specs.Pairs.{map_of, home, same_key}
use Rattle.tdb_space.specs.Extents.{HandPair, times, extents, extent_at, hand_extents}
use Rattle.tdb_space.specs.Accepted.{AcceptWith}
use Rattle.tdb_space.specs.Exchange.{Exchanged, Touched}
use Rattle.tdb_space.proofs.Extents.Counts.{once_in}
use Rattle.tdb_space.proofs.Exchange.Kept.{part_kept}
use Rattle.tdb_space.proofs.Chain.Members.{member_held}
use Rattle.tdb_space.proofs.Exchange.Overlaid.{word_length, word_put, part_overlaid}
use Rattle.tdb_space.proofs.Accepted.Removes.{filed_member}
use Rattle.tdb_space.proofs.Accepted.Updates.{mark_exchanged, mark_map, update_exchanged, update_map}
use Rattle.tdb_chain.specs.declared.place.Place.{Place}
use Rattle.tdb_chain.specs.Place.{HoldsKey}
use Rattle.tdb_chain.specs.Changed.{ChainChanged, KeySet}
use Rattle.tdb_chain.proofs.Changed.{changed_by}
use Rattle.tdb_chain.proofs.PlaceStays.{place_member, place_whole}
use Rattle.tdb_chain.proofs.Unlinked.{place_magic, place_len}

-- a record of which only bytes between its rec_len and its tailer change is touched, and as long as before
module _ (f : Form) (a b : List ℕ) (y : ℕ) (whole : Whole f a y) (size : length b ≡ length a) (same : (i : ℕ) → (i < y + 8) ⊎ (y + 20 + rec_len_of f.order a y ≤ i) → slice_index b i ≡ slice_index a i) where
  pub touched_long : rec_len_of f.order b y ≡ rec_len_of f.order a y
  touched_long = word_agrees f.order b a (y + 4) (λ i from to. same i (inl (omega (arith, to))))

  pub touched_there : Touched f a b y
  touched_there = record {
    size = size;
    others = λ i outside. same i (elim outside [ inl under ↦ inl (omega (arith, under)) | inr over ↦ inr (omega (arith, over)) ]);
    whole = record {
      aligned = whole.aligned;
      above = whole.above;
      len_aligned = ap (λ n. n % 4) touched_long ∙ whole.len_aligned;
      len_least = omega (arith, touched_long, whole.len_least);
      within = omega (arith, touched_long, size, whole.within);
      tailer = ap (λ n. word f.order b (y + 20 + n)) touched_long ∙ word_agrees f.order b a (y + 20 + rec_len_of f.order a y) (λ i from to. same i (inr from)) ∙ whole.tailer ∙ ap (λ n. 24 + n) (sym touched_long);
    };
  }

-- the record of a key, in an accepted image
module _ (f : Form) (a b : List ℕ) (hands : List HandPair) (key : List ℕ) (p : Place) (A : AcceptWith f a hands) (H : HoldsKey f a key p) where
  member : Member p.off (chain_of f a H.place.chain)
  member = place_member f a p H.place

  used : magic_of f.order a p.off ≡ USED
  used = sym (place_magic f a p H.place) ∙ H.used

  whole : Whole f a p.off
  whole = (place_whole f a hands p H.place A).0

  -- beside the chain's records nothing was written
  others : Touched f a b p.off → (i : ℕ) → (i < chain_head H.place.chain) ⊎ (chain_head H.place.chain + 4 ≤ i) → times (extents f.order a (chain_of f a H.place.chain)) i + times (hand_extents []) i ≡ 0 → slice_index b i ≡ slice_index a i
  others T i beside none =
      elim (cases_lt i (p.off + 4)) [
        | inl under ↦ T.others i (inl under)
        | inr high ↦
            elim (cases_lt i (p.off + 24 + rec_len_of f.order a p.off)) [
              | inl within ↦ absurd (omega (arith, none, member_held f.order a (chain_of f a H.place.chain) p.off i member, once_in (extent_at f.order a p.off) i (omega (arith, high)) (omega (arith, within))))
              | inr over ↦ T.others i (inr over)
            ]
      ]

  -- the chain has the same records, and the map changes at the key
  touched_set : (value : Option (List ℕ)) → Touched f a b p.off → Exchanged f a b H.place.chain (chain_of f a H.place.chain) (chain_of f a H.place.chain) hands hands → ((q : List ℕ) → map_of f b q ≡ update same_key (map_of f a) (key_at f.order a p.off) value q) → KeySet f a b key value (chain_of f a (home f key)) [] hands hands
  touched_set value T E map = record {
    changed = subst (λ j. ChainChanged f a b j (chain_of f a j) [] hands hands) H.at_home (changed_by f a b H.place.chain (chain_of f a H.place.chain) [] hands hands H.place.below A E (others T));
    map = λ q. subst (λ k. map_of f b q ≡ update same_key (map_of f a) k value q) H.has_key (map q);
  }

  -- the word of its magic is that of a dead record
  module _ (put : b ≡ overlay a (p.off + 20) (bytes_of_word f.order DEAD)) where
    marked_size : length b ≡ length a
    marked_size = ap length put ∙ length-overlay a (p.off + 20) (bytes_of_word f.order DEAD)

    marked_same : (i : ℕ) → (i < p.off + 8) ⊎ (p.off + 20 + rec_len_of f.order a p.off ≤ i) → slice_index b i ≡ slice_index a i
    marked_same i outside =
        ap (λ img. slice_index img i) put
        ∙ elim outside [
          | inl under ↦ overlay_below a (p.off + 20) (bytes_of_word f.order DEAD) i (omega (arith, under))
          | inr over ↦ overlay_above a (p.off + 20) (bytes_of_word f.order DEAD) i (omega (arith, over, whole.len_least, word_length f.order DEAD))
        ]

    marked_touched : Touched f a b p.off
    marked_touched = touched_there f a b p.off whole marked_size marked_same

    marked_long : rec_len_of f.order b p.off ≡ rec_len_of f.order a p.off
    marked_long = touched_long f a b p.off whole marked_size marked_same

    dead : magic_of f.order b p.off ≡ DEAD
    dead = ap (λ img. word f.order img (p.off + 20)) put ∙ word_put f.order a (p.off + 20) DEAD (omega arith) (omega (arith, whole.within))

    pub marked_set : KeySet f a b key None (chain_of f a (home f key)) [] hands hands
    marked_set =
        touched_set None marked_touched
        (mark_exchanged f a b H.place.chain p.off hands H.place.below A member used marked_touched marked_long dead)
        (mark_map f a b H.place.chain p.off hands H.place.below A member used marked_touched marked_long dead)

  -- a value is written behind its key, and then the length of it
  module _ (value : List ℕ) (short : length value < 2 ^ 32) (room : p.rec.key_len + length value + 4 ≤ p.rec.rec_len) (put : b ≡ overlay (overlay a (p.off + 24 + p.rec.key_len) value) (p.off + 12) (bytes_of_word f.order (length value))) where
    abbrev mid : List ℕ
    mid = overlay a (p.off + 24 + p.rec.key_len) value

    four : length (bytes_of_word f.order (length value)) ≡ 4
    four = word_length f.order (length value)

    mid_size : length mid ≡ length a
    mid_size = length-overlay a (p.off + 24 + p.rec.key_len) value

    put_size : length b ≡ length a
    put_size = ap length put ∙ length-overlay mid (p.off + 12) (bytes_of_word f.order (length value)) ∙ mid_size

    rec_long : p.rec.rec_len ≡ rec_len_of f.order a p.off
    rec_long = place_len f a p H.place

    key_long : p.rec.key_len ≡ key_len_of f.order a p.off
    key_long = ap (λ (r : Rec). r.key_len) H.place.header

    within : p.off + 24 + p.rec.rec_len ≤ length a
    within = omega (arith, rec_long, whole.within)

    -- beside the word and the value each byte stays
    word_beside : (i : ℕ) → (i < p.off + 12) ⊎ (p.off + 16 ≤ i) → slice_index b i ≡ slice_index mid i
    word_beside i outside =
        ap (λ img. slice_index img i) put
        ∙ elim outside [
          | inl under ↦ overlay_below mid (p.off + 12) (bytes_of_word f.order (length value)) i under
          | inr over ↦ overlay_above mid (p.off + 12) (bytes_of_word f.order (length value)) i (omega (arith, over, four))
        ]

    value_beside : (i : ℕ) → (i < p.off + 24 + p.rec.key_len) ⊎ (p.off + 24 + p.rec.key_len + length value ≤ i) → slice_index mid i ≡ slice_index a i
    value_beside i outside =
        elim outside [
          | inl under ↦ overlay_below a (p.off + 24 + p.rec.key_len) value i under
          | inr over ↦ overlay_above a (p.off + 24 + p.rec.key_len) value i over
        ]

    put_same : (i : ℕ) → (i < p.off + 8) ⊎ (p.off + 20 + rec_len_of f.order a p.off ≤ i) → slice_index b i ≡ slice_index a i
    put_same i outside =
        elim outside [
          | inl under ↦ word_beside i (inl (omega (arith, under))) ∙ value_beside i (inl (omega (arith, under)))
          | inr over ↦ word_beside i (inr (omega (arith, over, whole.len_least))) ∙ value_beside i (inr (omega (arith, over, rec_long, room)))
        ]

    put_touched : Touched f a b p.off
    put_touched = touched_there f a b p.off whole put_size put_same

    put_long : rec_len_of f.order b p.off ≡ rec_len_of f.order a p.off
    put_long = touched_long f a b p.off whole put_size put_same

    -- the words of the header
    word_left : (k : ℕ) → (k + 4 ≤ 12) ⊎ ((16 ≤ k) × (k + 4 ≤ 24)) → word f.order b (p.off + k) ≡ word f.order a (p.off + k)
    word_left k place =
        word_agrees f.order b a (p.off + k) (λ i from to.
        elim place [
          | inl low ↦ word_beside i (inl (omega (arith, low, to))) ∙ value_beside i (inl (omega (arith, low, to)))
          | inr both ↦ word_beside i (inr (omega (arith, both.0, from))) ∙ value_beside i (inl (omega (arith, both.1, to)))
        ])

    key_len_left : key_len_of f.order b p.off ≡ key_len_of f.order a p.off
    key_len_left = word_left 8 (inl (omega arith))

    data_len_now : data_len_of f.order b p.off ≡ length value
    data_len_now = ap (λ img. word f.order img (p.off + 12)) put ∙ word_put f.order mid (p.off + 12) (length value) short (omega (arith, mid_size, within))

    key_left : key_at f.order b p.off ≡ key_at f.order a p.off
    key_left =
        ap (λ n. take n (drop (p.off + 24) b)) key_len_left
        ∙ part_kept a b (p.off + 24) (key_len_of f.order a p.off) (omega (arith, key_long, room, within)) (omega (arith, put_size))
        (λ i low high. word_beside i (inr (omega (arith, low))) ∙ value_beside i (inl (omega (arith, high, key_long))))

    data_now : data_at f.order b p.off ≡ value
    data_now =
        ap (λ n. take n (drop (p.off + 24 + key_len_of f.order b p.off) b)) data_len_now
        ∙ ap (λ n. take (length value) (drop (p.off + 24 + n) b)) (key_len_left ∙ sym key_long)
        ∙ part_kept mid b (p.off + 24 + p.rec.key_len) (length value) (omega (arith, mid_size, room, within)) (omega (arith, put_size, mid_size)) (λ i low high. word_beside i (inr (omega (arith, low))))
        ∙ ap (λ i. take (length value) (drop i mid)) (sym (add-zero (p.off + 24 + p.rec.key_len)))
        ∙ part_overlaid a (p.off + 24 + p.rec.key_len) value 0 (length value) (omega arith) (omega (arith, room, within))
        ∙ take-length value

    fits_now : Fits f.order b p.off
    fits_now = omega (arith, key_len_left, data_len_now, put_long, key_long, rec_long, room)

    used_now : magic_of f.order b p.off ≡ USED
    used_now = word_left 20 (inr (omega arith, omega arith)) ∙ used

    pub updated_set : KeySet f a b key (Some value) (chain_of f a (home f key)) [] hands hands
    updated_set =
        touched_set (Some value) put_touched
        (update_exchanged f a b H.place.chain p.off hands H.place.below A member used put_touched put_long used_now key_left (word_left 16 (inr (omega arith, omega arith))) fits_now)
        (λ q. subst (λ v. map_of f b q ≡ update same_key (map_of f a) (key_at f.order a p.off) (Some v) q) data_now
        (update_map f a b H.place.chain p.off hands H.place.below A member used put_touched put_long used_now key_left (word_left 16 (inr (omega arith, omega arith))) fits_now q))

    -- the same, by what is read of the record then
    pub updated_reads : KeySet f a b key (Some (data_at f.order b p.off)) (chain_of f a (home f key)) [] hands hands
    updated_reads = subst (λ v. KeySet f a b key (Some v) (chain_of f a (home f key)) [] hands hands) (sym data_now) updated_set

  -- at most so many bytes behind the key change
  module _ (n : ℕ) (room : p.rec.key_len + n + 4 ≤ p.rec.rec_len) (torn : Torn (p.off + 24 + p.rec.key_len) n a b) where
    torn_rec : p.rec.rec_len ≡ rec_len_of f.order a p.off
    torn_rec = place_len f a p H.place

    torn_key : p.rec.key_len ≡ key_len_of f.order a p.off
    torn_key = ap (λ (r : Rec). r.key_len) H.place.header

    torn_beside : (i : ℕ) → (i < p.off + 24 + p.rec.key_len) ⊎ (p.off + 24 + p.rec.key_len + n ≤ i) → slice_index b i ≡ slice_index a i
    torn_beside i outside = elim outside [ inl under ↦ torn.below i under | inr over ↦ torn.above i over ]

    torn_same : (i : ℕ) → (i < p.off + 8) ⊎ (p.off + 20 + rec_len_of f.order a p.off ≤ i) → slice_index b i ≡ slice_index a i
    torn_same i outside =
        torn_beside i (elim outside [ inl under ↦ inl (omega (arith, under)) | inr over ↦ inr (omega (arith, over, torn_rec, room)) ])

    torn_touched : Touched f a b p.off
    torn_touched = touched_there f a b p.off whole torn.size torn_same

    torn_long : rec_len_of f.order b p.off ≡ rec_len_of f.order a p.off
    torn_long = touched_long f a b p.off whole torn.size torn_same

    -- the words of the header
    torn_word : (k : ℕ) → k + 4 ≤ 24 → word f.order b (p.off + k) ≡ word f.order a (p.off + k)
    torn_word k low = word_agrees f.order b a (p.off + k) (λ i from to. torn_beside i (inl (omega (arith, low, to))))

    torn_key_len : key_len_of f.order b p.off ≡ key_len_of f.order a p.off
    torn_key_len = torn_word 8 (omega arith)

    torn_data_len : data_len_of f.order b p.off ≡ data_len_of f.order a p.off
    torn_data_len = torn_word 12 (omega arith)

    torn_key_there : key_at f.order b p.off ≡ key_at f.order a p.off
    torn_key_there =
        ap (λ m. take m (drop (p.off + 24) b)) torn_key_len
        ∙ part_kept a b (p.off + 24) (key_len_of f.order a p.off) (omega (arith, torn_key, torn_rec, room, whole.within)) (omega (arith, torn.size))
        (λ i low high. torn_beside i (inl (omega (arith, high, torn_key))))

    torn_fits : Fits f.order b p.off
    torn_fits =
        let fits : Fits f.order a p.off = (filed_member f a H.place.chain (chain_of f a H.place.chain) p.off (A.filed H.place.chain H.place.below) member used).fits in
        omega (arith, torn_key_len, torn_data_len, torn_long, fits)

    torn_used : magic_of f.order b p.off ≡ USED
    torn_used = torn_word 20 (omega arith) ∙ used

    -- so the map has another value at the key, which is as long as the old one
    pub torn_set : KeySet f a b key (Some (data_at f.order b p.off)) (chain_of f a (home f key)) [] hands hands
    torn_set =
        touched_set (Some (data_at f.order b p.off)) torn_touched
        (update_exchanged f a b H.place.chain p.off hands H.place.below A member used torn_touched torn_long torn_used torn_key_there (torn_word 16 (omega arith)) torn_fits)
        (update_map f a b H.place.chain p.off hands H.place.below A member used torn_touched torn_long torn_used torn_key_there (torn_word 16 (omega arith)) torn_fits)
