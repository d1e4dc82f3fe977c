-- Where a link and an update stop: at each write the chains are sound, and others are as they were.
use Rattle.std.proofs.Common.{◌≡◌, ℕ, ◌+◌, ◌<◌, ◌≤◌, ◌⊎◌, ◌^◌, List, [], ◌∷◌, length, Option, Some, None, refl, sym, ◌∙◌, ap, subst, inl, inr, arith}
use Rattle.std.specs.Prelude.{slice_index}
use Rattle.tdb_disk.specs.Stop.{Torn}
use Rattle.tdb_disk.proofs.Stop.{torn_overlay}
use Rattle.tdb_space.specs.Form.{Form, free_head}
use Rattle.tdb_space.specs.Record.{data_at}
use Rattle.tdb_space.specs.Chain.{chain_of, without}
use Rattle.tdb_space.specs.Pairs.{pairs, map_of, home}
use Rattle.tdb_space.specs.Extents.{HandPair, HandOk, hand_extents}
use Rattle.tdb_space.specs.Accepted.{AcceptWith}
use Rattle.tdb_space.specs.Exchange.{InHands, PutInFront}
use Rattle.tdb_space.specs.Stays.{OnlyIn, ChainStays, ChangesOnly, FreeStays}
use Rattle.tdb_space.proofs.Accepted.Hands.{hands_above}
use Rattle.tdb_space.proofs.Accepted.Links.{new_pairs}
use Rattle.tdb_space.proofs.Accepted.Removes.{left_pairs}
use Rattle.tdb_space.proofs.Accepted.Writes.{write_accepted}
use Rattle.tdb_space.proofs.Exchange.Overlaid.{only_same}
use Rattle.tdb_space.proofs.Pairs.Maps.{home_below}
use Rattle.tdb_space.proofs.Stays.Changes.{changes_none, changes_weaker, changes_then, frees_none, free_then_stays, hands_changes, hands_free, chain_pairs}
use Rattle.tdb_chain.specs.declared.place.Place.{Place}
use Rattle.tdb_chain.specs.Place.{HoldsKey, IsFound}
use Rattle.tdb_chain.specs.Changed.{KeySet, TookOut, with_hand, without_place, hand_at, hands_back}
use Rattle.tdb_chain.specs.Stopped.{ChainHolds, LinkStopped, UpdateStopped}
use Rattle.tdb_chain.specs.Stopped.LinkOnTheWay.{as_it_was, without_old, in_front}
use Rattle.tdb_chain.specs.Stopped.UpdateStopped.{value_torn, value_whole}
use Rattle.tdb_chain.proofs.Changed.{header_stays}
use Rattle.tdb_chain.proofs.Linked.{taken, turned, missing_then, linked_new, hand_moved}
use Rattle.tdb_chain.proofs.Touched.{updated_reads, torn_set}

-- where nothing was written
pub in_hand_same : (f : Form) (a b : List ℕ) (h : HandPair) → b ≡ a → InHands f a b (h ∷ [])
in_hand_same f a b h same = record { size = ap length same; others = only_same (hand_extents (h ∷ [])) a b same }

-- where only bytes of the hand were
pub in_hand_only : (f : Form) (a v b : List ℕ) (at n : ℕ) → v ≡ a → length b ≡ length a → OnlyIn ((at, 24 + n) ∷ []) v b → InHands f a b ((at, n) ∷ [])
in_hand_only f a v b at n is_a size only = record { size = size; others = subst (λ x. OnlyIn ((at, 24 + n) ∷ []) x b) is_a only }

-- bytes of one hand change, where others are out too
module _ (f : Form) (a b : List ℕ) (h : HandPair) (rest : List HandPair) (A : AcceptWith f a (h ∷ rest)) (I : InHands f a b (h ∷ [])) where
  in_all : InHands f a b (h ∷ rest)
  in_all = record { size = I.size; others = λ i none. I.others i (omega (arith, none)) }

  hand_accepted : AcceptWith f b (h ∷ rest)
  hand_accepted = write_accepted f a b (h ∷ rest) A in_all

  hand_changes : (May : ℕ → Type 0) → ChangesOnly f a b May
  hand_changes May = changes_weaker f a b (λ k. ⊥) May (λ k never. absurd never) (hands_changes f a b (h ∷ rest) A in_all)

  hand_header : (i : ℕ) → i < free_head → slice_index b i ≡ slice_index a i
  hand_header i under = in_all.others i (hands_above f a (h ∷ rest) i A.held (omega (arith, under)))

  hand_free : FreeStays f a b
  hand_free = hands_free f a b (h ∷ rest) A in_all

  chain_still : (k : ℕ) → k < f.chains → ChainStays f a b k
  chain_still k low = (hands_changes f a b (h ∷ rest) A in_all).chains k low (λ never. never)

  -- what a chain holds it holds then
  holds_still : (k : ℕ) (offs : List ℕ) (held : List (List ℕ × List ℕ)) → k < f.chains → ChainHolds f a k offs held → ChainHolds f b k offs held
  holds_still k offs held low C = record {
    offsets = (chain_still k low).same_offsets ∙ C.offsets;
    same_pairs = chain_pairs f a b (h ∷ rest) k low A (omega (arith, I.size)) (chain_still k low) ∙ C.same_pairs;
  }

-- From image a, accepted with a hand and others, to image m the old record of a key, if there is one, was taken out: m
-- is accepted with the hand, that record and the others, its map doesn't have the key, and only the key's chain changed
record TakenOut (f : Form) (a m key : List ℕ) (over : Option Place) (h : HandPair) (others : List HandPair) : Type 0 where
  accepted : AcceptWith f m (h ∷ with_hand (hands_back over) others)
  missing : map_of f m key ≡ None
  left : ChainHolds f m (home f key) (without_place over (chain_of f a (home f key))) (pairs f.order a (without_place over (chain_of f a (home f key))))
  header : (i : ℕ) → i < free_head → slice_index m i ≡ slice_index a i
  only : ChangesOnly f a m (λ k. k ≡ home f key)
  frees : FreeStays f a m

taken_out : (f : Form) (a m key : List ℕ) (over : Option Place) (h : HandPair) (others : List HandPair) → AcceptWith f a (h ∷ others) → IsFound f a key over → TookOut f a m over → TakenOut f a m key over h others
taken_out f a m key None h others A none took =
    subst (λ x. TakenOut f a x key None h others) (sym took) (record {
      accepted = A;
      missing = none;
      left = record { offsets = refl; same_pairs = refl };
      header = λ _ _. refl;
      only = changes_none f a (λ k. k ≡ home f key);
      frees = frees_none f a;
    })
taken_out f a m key (Some p) h others A H took =
    let L = took H.place in
    let T = taken f a m h others key p A H L in
    record {
      accepted = turned f a m h others key p A H L;
      missing = missing_then f a m h others key p A H L;
      left = record {
        offsets = T.changed.offsets;
        same_pairs = ap (pairs f.order m) T.changed.offsets
            ∙ subst (λ j. pairs f.order m (without p.off (chain_of f a j)) ≡ pairs f.order a (without p.off (chain_of f a j))) H.at_home
            (left_pairs f a m H.place.chain p.before p.off (h ∷ others) H.place.below A H.place.leads L);
      };
      header = header_stays f a m (home f key) (without p.off (chain_of f a (home f key))) [] (h ∷ others) (hand_at p ∷ h ∷ others) (home_below f key A.some) A tt T.changed;
      only = T.changed.only;
      frees = T.changed.frees;
    }

-- before anything was written
pub stopped_before : (f : Form) (a b key value : List ℕ) (over : Option Place) (h : HandPair) (others : List HandPair) → AcceptWith f a (h ∷ others) → b ≡ a → LinkStopped f a b key value over h others
stopped_before f a b key value over h others A same =
    subst (λ x. LinkStopped f a x key value over h others) (sym same) (record {
      on_the_way = as_it_was A (record { offsets = refl; same_pairs = refl });
      header = λ _ _. refl;
      only = changes_none f a (λ k. k ≡ home f key);
      frees = frees_none f a;
    })

module _ (f : Form) (a m b key value : List ℕ) (over : Option Place) (h : HandPair) (others : List HandPair) (T : TakenOut f a m key over h others) where
  -- what is out beside the hand, and what is left of the chain
  abbrev back : List HandPair
  back = with_hand (hands_back over) others

  abbrev left_offs : List ℕ
  left_offs = without_place over (chain_of f a (home f key))

  -- while the record is written into the hand
  stopped_writing : InHands f m b (h ∷ []) → LinkStopped f a b key value over h others
  stopped_writing I = record {
    on_the_way = without_old (hand_accepted f m b h back T.accepted I)
        (holds_still f m b h back T.accepted I (home f key) left_offs (pairs f.order a left_offs) (home_below f key T.accepted.some) T.left);
    header = λ i under. hand_header f m b h back T.accepted I i under ∙ T.header i under;
    only = changes_then f a m b (λ k. k ≡ home f key) T.only (hand_changes f m b h back T.accepted I (λ k. k ≡ home f key));
    frees = free_then_stays f a m b T.frees (hand_free f m b h back T.accepted I);
  }

  -- after the head leads to it
  stopped_led : PutInFront f m b h key value → LinkStopped f a b key value over h others
  stopped_led P =
      let N = linked_new f m b h back key value T.accepted P T.missing in
      record {
        on_the_way = in_front N.changed.accepted (record {
          offsets = N.changed.offsets ∙ ap (λ xs. h.0 ∷ xs) T.left.offsets;
          same_pairs = ap (pairs f.order b) N.changed.offsets
              ∙ new_pairs f m b h back key value T.accepted P T.missing
              ∙ ap (λ ps. (key, value) ∷ ps) T.left.same_pairs;
        });
        header = λ i under.
            header_stays f m b (home f key) (h.0 ∷ chain_of f m (home f key)) (h ∷ []) (h ∷ back) back (home_below f key T.accepted.some) T.accepted (T.accepted.held.0, tt) N.changed i under
            ∙ T.header i under;
        only = changes_then f a m b (λ k. k ≡ home f key) T.only N.changed.only;
        frees = free_then_stays f a m b T.frees N.changed.frees;
      }

-- the same from what the calls leave, each of them over a view of its own: the old record was taken out
pub stopped_out : (f k : Form) (a v m : List ℕ) (h : HandPair) (hands : List HandPair) (key value : List ℕ) (over : Option Place) → k ≡ f → v ≡ a → AcceptWith f a (h ∷ hands) → IsFound f a key over → TookOut k v m over → LinkStopped f a m key value over h hands
stopped_out f k a v m h hands key value over is_f is_a A found took =
    stopped_writing f a m m key value over h hands (taken_out f a m key over h hands A found (subst (λ q. TookOut q a m over) is_f (subst (λ x. TookOut k x m over) is_a took)))
    (in_hand_same f m m h refl)

-- and the new one was written into the hand, or put in front
pub stopped_putting : (f k l : Form) (a v m b : List ℕ) (h : HandPair) (at n : ℕ) (hands : List HandPair) (key value : List ℕ) (over : Option Place) → k ≡ f → l ≡ f → v ≡ a → at ≡ h.0 → n ≡ h.1 → length m ≡ length a → AcceptWith f a (h ∷ hands) → IsFound f a key over → TookOut k v m over → (HandOk l m (at, n) → InHands l m b ((at, n) ∷ []) ⊎ PutInFront l m b (at, n) key value) → LinkStopped f a b key value over h hands
stopped_putting f k l a v m b h at n hands key value over is_f is_l is_a is_at is_n size A found took came =
    let T = taken_out f a m key over h hands A found (subst (λ q. TookOut q a m over) is_f (subst (λ x. TookOut k x m over) is_a took)) in
    let here = subst (λ x. HandOk l m x → InHands l m b (x ∷ []) ⊎ PutInFront l m b x key value) pair came in
    let there = subst (λ q. HandOk q m h → InHands q m b (h ∷ []) ⊎ PutInFront q m b h key value) is_l here in
    elim (there (hand_moved f a m h size A.held.0)) [
      | inl inside ↦ stopped_writing f a m b key value over h hands T inside
      | inr led ↦ stopped_led f a m b key value over h hands T led
    ]
  where
    pair : (at, n) ≡ h
    pair = λ i. (is_at i, is_n i)

-- where an update stops, the map has another value at the key at most
pub update_stopped : (f : Form) (a b : List ℕ) (hands : List HandPair) (key : List ℕ) (p : Place) (value : List ℕ) → AcceptWith f a hands → HoldsKey f a key p → length value < 2 ^ 32 → p.rec.key_len + length value + 4 ≤ p.rec.rec_len → UpdateStopped f.order a b p value → KeySet f a b key (Some (data_at f.order b p.off)) (chain_of f a (home f key)) [] hands hands
update_stopped f a b hands key p value A H short room (value_torn torn) = torn_set f a b hands key p A H (length value) room torn
update_stopped f a b hands key p value A H short room (value_whole (inl old)) =
    torn_set f a b hands key p A H (length value) room
    (subst (Torn (p.off + 24 + p.rec.key_len) (length value) a) (sym old) (torn_overlay (p.off + 24 + p.rec.key_len) a value (length value) refl))
update_stopped f a b hands key p value A H short room (value_whole (inr new)) = updated_reads f a b hands key p A H value short room new
