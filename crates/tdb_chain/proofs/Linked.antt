-- A record is written into a hand and put in front of its chain, and the map gains its key; or an old record of the key
-- is taken out before, and the map has the new value.
use Rattle.std.proofs.Common.{◌≡◌, ℕ, ◌+◌, ◌<◌, ◌≤◌, ◌⊎◌, ◌^◌, List, [], ◌∷◌, length, cond, Option, Some, None, sym, ◌∙◌, ap, subst, inl, inr, arith}
use Rattle.std.specs.Prelude.{slice_index}
use Rattle.std.proofs.lemmas.Bool.{cases_lt}
use Rattle.std.proofs.lemmas.Map.{update-update, update_same}
use Rattle.tdb_disk.specs.Image.{overlay}
use Rattle.tdb_disk.proofs.Image.{length-overlay, overlay_below, overlay_above}
use Rattle.tdb_words.specs.declared.record.TheConstants.{PADDING}
use Rattle.tdb_words.specs.Word.{word, bytes_of_word}
use Rattle.tdb_words.proofs.Hashes.{hash_fits}
use Rattle.tdb_space.specs.Form.{Form, chain_head, data_start}
use Rattle.tdb_space.specs.Chain.{chain_of, without}
use Rattle.tdb_space.specs.Pairs.{map_of, home, same_key}
use Rattle.tdb_space.specs.Extents.{HandPair, HandOk, times, extents, hand_extents}
use Rattle.tdb_space.specs.Accepted.{AcceptWith}
use Rattle.tdb_space.specs.Exchange.{PutInFront, WrittenAt, Filled, LedPast, new_record}
use Rattle.tdb_space.specs.NewRecord.{record_bytes}
use Rattle.tdb_space.proofs.Accepted.Hands.{turn_hands}
use Rattle.tdb_space.proofs.Accepted.Links.{link_exchanged, link_map}
use Rattle.tdb_space.proofs.Pairs.Maps.{home_below, same_key-refl}
use Rattle.tdb_space.proofs.Exchange.Overlaid.{word_length, word_put, outside}
use Rattle.tdb_space.proofs.NewRecord.RecordBytes.{record_length, record_written, record_padded, written_kept}
use Rattle.tdb_space.proofs.Exchange.Written.{filled_written}
use Rattle.tdb_chain.specs.declared.place.Place.{Place}
use Rattle.tdb_chain.specs.Place.{HoldsKey, IsFound}
use Rattle.tdb_chain.specs.Changed.{ChainChanged, KeySet, TookOut, with_hand, without_place, hand_at, hands_back}
use Rattle.tdb_chain.proofs.Changed.{changed_by, changed_then}
use Rattle.tdb_chain.proofs.Unlinked.{unlinked_set}

-- the bytes of a record are written into a hand, and then the head of its chain
module _ (f : Form) (a m b : List ℕ) (h : HandPair) (key value : List ℕ) (first : ℕ) (hand : HandOk f a h) (low : home f key < f.chains) (short : length a < 2 ^ 32) (fits : length key + length value + 4 ≤ h.1) (first_is : first ≡ word f.order a (chain_head (home f key))) (first_fits : first < 2 ^ 32) (filled : m ≡ overlay a h.0 (record_bytes f.order (new_record f first h.1 key value) key value)) (led : b ≡ overlay m (chain_head (home f key)) (bytes_of_word f.order h.0)) where
  abbrev head : ℕ
  head = chain_head (home f key)

  abbrev bytes : List ℕ
  bytes = record_bytes f.order (new_record f first h.1 key value) key value

  bytes_long : length bytes ≡ 24 + h.1
  bytes_long = record_length f.order (new_record f first h.1 key value) key value fits

  four : length (bytes_of_word f.order h.0) ≡ 4
  four = word_length f.order h.0

  mid_size : length m ≡ length a
  mid_size = ap length filled ∙ length-overlay a h.0 bytes

  size : length b ≡ length a
  size = ap length led ∙ length-overlay m head (bytes_of_word f.order h.0) ∙ mid_size

  beside_head : (i : ℕ) → (i < head) ⊎ (head + 4 ≤ i) → slice_index b i ≡ slice_index m i
  beside_head i apart =
      ap (λ img. slice_index img i) led
      ∙ elim apart [ inl under ↦ overlay_below m head (bytes_of_word f.order h.0) i under | inr over ↦ overlay_above m head (bytes_of_word f.order h.0) i (omega (arith, over, four)) ]

  beside_hand : (i : ℕ) → (i < h.0) ⊎ (h.0 + 24 + h.1 ≤ i) → slice_index m i ≡ slice_index a i
  beside_hand i apart =
      ap (λ img. slice_index img i) filled
      ∙ elim apart [ inl under ↦ overlay_below a h.0 bytes i under | inr over ↦ overlay_above a h.0 bytes i (omega (arith, over, bytes_long)) ]

  written : WrittenAt f.order b h.0 (new_record f first h.1 key value) key value
  written =
      written_kept f.order m b h.0 (new_record f first h.1 key value) key value fits (omega (arith, mid_size, hand.within)) (omega (arith, size, mid_size))
      (λ i from to. beside_head i (inr (omega (arith, from, hand.above, low))))
      (subst (λ img. WrittenAt f.order img h.0 (new_record f first h.1 key value) key value) (sym filled) (record_written f.order (new_record f first h.1 key value) key value fits a h.0 hand.within))

  hand_now : HandOk f b h
  hand_now = record { aligned = hand.aligned; len_aligned = hand.len_aligned; above = hand.above; within = omega (arith, size, hand.within) }

  is_filled : Filled f b h key value × (word f.order b h.0 ≡ first)
  is_filled = filled_written f b h first key value hand_now first_fits (omega (arith, short, hand.within)) fits (hash_fits f.hash key) written

  pub put_in_front : PutInFront f a b h key value
  put_in_front = record {
    size = size;
    low = λ i below apart. beside_head i apart ∙ beside_hand i (inl (omega (arith, below, hand.above)));
    high = λ i above apart. beside_head i (inr (omega (arith, above, low))) ∙ beside_hand i apart;
    filled = is_filled.0;
    next = is_filled.1 ∙ first_is;
    head = ap (λ img. word f.order img head) led ∙ word_put f.order m head h.0 (omega (arith, short, hand.within)) (omega (arith, mid_size, hand.within, hand.above, low));
  }

  -- between the value and the tailer stands padding
  pub put_padded : (i : ℕ) → h.0 + 24 + length key + length value ≤ i → i < h.0 + 20 + h.1 → slice_index b i ≡ PADDING
  put_padded i from to =
      beside_head i (inr (omega (arith, from, hand.above, low)))
      ∙ ap (λ img. slice_index img i) filled
      ∙ record_padded f.order (new_record f first h.1 key value) key value fits a h.0 hand.within i from to

-- a key that the map doesn't have
module _ (f : Form) (a b : List ℕ) (h : HandPair) (hands : List HandPair) (key value : List ℕ) (A : AcceptWith f a (h ∷ hands)) (P : PutInFront f a b h key value) (missing : map_of f a key ≡ None) where
  low_home : home f key < f.chains
  low_home = home_below f key A.some

  new_others : (i : ℕ) → (i < chain_head (home f key)) ⊎ (chain_head (home f key) + 4 ≤ i) → times (extents f.order a (chain_of f a (home f key))) i + times (hand_extents (h ∷ [])) i ≡ 0 → slice_index b i ≡ slice_index a i
  new_others i beside none =
      elim (cases_lt i (data_start f)) [
        | inl under ↦ P.low i under beside
        | inr high ↦ P.high i high (elim (outside (h.0, 24 + h.1) i (omega (arith, none))) [ inl under ↦ inl under | inr over ↦ inr (omega (arith, over)) ])
      ]

  pub linked_new : KeySet f a b key (Some value) (h.0 ∷ chain_of f a (home f key)) (h ∷ []) (h ∷ hands) hands
  linked_new = record {
    changed = changed_by f a b (home f key) (h.0 ∷ chain_of f a (home f key)) (h ∷ []) (h ∷ hands) hands low_home A (link_exchanged f a b h hands key value A P missing) new_others;
    map = link_map f a b h hands key value A P missing;
  }

-- a key whose old record is taken out first
module _ (f : Form) (a m : List ℕ) (h : HandPair) (hands : List HandPair) (key : List ℕ) (p : Place) (A : AcceptWith f a (h ∷ hands)) (H : HoldsKey f a key p) (L : LedPast f a m p.before p.off) where
  pub taken : KeySet f a m key None (without p.off (chain_of f a (home f key))) [] (h ∷ hands) (hand_at p ∷ h ∷ hands)
  taken = subst (λ k. KeySet f a m k None (without p.off (chain_of f a (home f k))) [] (h ∷ hands) (hand_at p ∷ h ∷ hands)) H.has_key (unlinked_set f a m (h ∷ hands) p A H.place L H.used)

  pub turned : AcceptWith f m (h ∷ hand_at p ∷ hands)
  turned = turn_hands f m (hand_at p) h hands taken.changed.accepted

  pub missing_then : map_of f m key ≡ None
  missing_then = taken.map key ∙ update_same same_key (map_of f a) key None key (same_key-refl key)

  -- and then the new one is put in front
  module _ (b value : List ℕ) (P : PutInFront f m b h key value) where
    put : KeySet f m b key (Some value) (h.0 ∷ chain_of f m (home f key)) (h ∷ []) (h ∷ hand_at p ∷ hands) (hand_at p ∷ hands)
    put = linked_new f m b h (hand_at p ∷ hands) key value turned P missing_then

    pub linked_over : KeySet f a b key (Some value) (h.0 ∷ without p.off (chain_of f a (home f key))) (h ∷ []) (h ∷ hands) (hand_at p ∷ hands)
    linked_over = record {
      changed = changed_then f a m b (home f key) (without p.off (chain_of f a (home f key))) (h.0 ∷ without p.off (chain_of f a (home f key))) (h ∷ []) [] (h ∷ hands) (hand_at p ∷ h ∷ hands) (h ∷ hand_at p ∷ hands) (hand_at p ∷ hands)
          taken.changed
          (subst (λ offs. ChainChanged f m b (home f key) (h.0 ∷ offs) (h ∷ []) (h ∷ hand_at p ∷ hands) (hand_at p ∷ hands)) taken.changed.offsets put.changed)
          (λ i. omega arith)
          (λ i none. (omega arith, omega (arith, none, taken.changed.count i)));
      map = λ q.
          put.map q ∙ ap (λ o. cond (same_key key q) (Some value) o) (taken.map q) ∙ update-update same_key (map_of f a) key None (Some value) q;
    }

-- a hand is in place in an image that is as long
pub hand_moved : (f : Form) (a m : List ℕ) (h : HandPair) → length m ≡ length a → HandOk f a h → HandOk f m h
hand_moved f a m h size hand = record { aligned = hand.aligned; len_aligned = hand.len_aligned; above = hand.above; within = omega (arith, size, hand.within) }

-- the old record, if there is one, was taken out, and the new one was put in front
pub link_set : (f : Form) (a m b : List ℕ) (h : HandPair) (hands : List HandPair) (key value : List ℕ) (over : Option Place) (out : Option HandPair) → AcceptWith f a (h ∷ hands) → IsFound f a key over → TookOut f a m over → PutInFront f m b h key value → out ≡ hands_back over → KeySet f a b key (Some value) (h.0 ∷ without_place over (chain_of f a (home f key))) (h ∷ []) (h ∷ hands) (with_hand out hands)
link_set f a m b h hands key value None out A missing took P back =
    subst (λ o. KeySet f a b key (Some value) (h.0 ∷ chain_of f a (home f key)) (h ∷ []) (h ∷ hands) (with_hand o hands)) (sym back)
    (linked_new f a b h hands key value A (subst (λ img. PutInFront f img b h key value) took P) missing)
link_set f a m b h hands key value (Some p) out A holds took P back =
    subst (λ o. KeySet f a b key (Some value) (h.0 ∷ without p.off (chain_of f a (home f key))) (h ∷ []) (h ∷ hands) (with_hand o hands)) (sym back)
    (linked_over f a m h hands key p A holds (took holds.place) b value P)

-- the same from what the calls answer, each of them over a view of its own
pub link_by_calls : (f k l : Form) (a v m b : List ℕ) (h : HandPair) (at n : ℕ) (hands : List HandPair) (key value : List ℕ) (over : Option Place) (out : Option HandPair) → k ≡ f → l ≡ f → v ≡ a → at ≡ h.0 → n ≡ h.1 → length m ≡ length a → AcceptWith f a (h ∷ hands) → IsFound f a key over → TookOut k v m over → (HandOk l m (at, n) → PutInFront l m b (at, n) key value) → out ≡ hands_back over → KeySet f a b key (Some value) (h.0 ∷ without_place over (chain_of f a (home f key))) (h ∷ []) (h ∷ hands) (with_hand out hands)
link_by_calls f k l a v m b h at n hands key value over out is_f is_l is_a is_at is_n size A found took put back =
    link_set f a m b h hands key value over out A found
    (subst (λ q. TookOut q a m over) is_f (subst (λ x. TookOut k x m over) is_a took))
    (subst (λ q. HandOk q m h → PutInFront q m b h key value) is_l (subst (λ x. HandOk l m x → PutInFront l m b x key value) pair put) (hand_moved f a m h size A.held.0))
    back
  where
    pair : (at, n) ≡ h
    pair = λ i. (is_at i, is_n i)
