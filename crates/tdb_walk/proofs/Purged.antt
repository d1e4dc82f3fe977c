-- A dead record is taken out of its chain, and then given to the free list.
use Rattle.std.proofs.Common.{◌≡◌, ℕ, ◌+◌, ◌<◌, ◌≤◌, ◌^◌, List, [], ◌∷◌, ◌++◌, length, refl, sym, ◌∙◌, ap, subst, inl, inr, arith}
use Rattle.std.specs.Prelude.{slice_index}
use Rattle.std.proofs.lemmas.Bool.{cases_lt}
use Rattle.tdb_words.specs.declared.record.Rec.{Rec}
use Rattle.tdb_words.specs.declared.record.TheConstants.{USED}
use Rattle.tdb_words.specs.Header.{sequence_at}
use Rattle.tdb_words.specs.Word.{word}
use Rattle.tdb_words.proofs.Words.{word_agrees}
use Rattle.tdb_space.specs.Form.{Form, chain_head, data_start, free_head}
use Rattle.tdb_space.specs.Record.{rec_len_of, magic_of}
use Rattle.tdb_space.specs.Chain.{chain_of, free_of, without, Member}
use Rattle.tdb_space.specs.Extents.{HandPair, once, times, extent_at, extents}
use Rattle.tdb_space.specs.Accepted.{AcceptWith}
use Rattle.tdb_space.specs.Stays.{ChainsStay, FreeStays}
use Rattle.tdb_space.proofs.Accepted.Frees.{traded, trade_accepted, trade_map}
use Rattle.tdb_space.proofs.Exchange.Kept.{bodies_still, extents_kept}
use Rattle.tdb_space.proofs.Exchange.Overlaid.{outside}
use Rattle.tdb_space.proofs.Extents.Counts.{once_in}
use Rattle.tdb_space.proofs.Chain.Members.{member_held}
use Rattle.tdb_space.proofs.Stays.Changes.{changes_none, changes_then, changes_weaker, free_changes}
use Rattle.tdb_free.specs.FreeList.{free_pairs, give_to, GivenBack}
use Rattle.tdb_free.specs.GiveStopped.{GiveStopped}
use Rattle.tdb_free.proofs.TakenAs.{pairs_kept}
use Rattle.tdb_chain.specs.declared.place.Place.{Place}
use Rattle.tdb_chain.specs.Place.{IsPlace}
use Rattle.tdb_chain.specs.Changed.{Purged, OldOrWord, hand_at}
use Rattle.tdb_walk.specs.Purging.{IsPlaceIn, IsPurged, PurgeStopped}
use Rattle.tdb_walk.proofs.Unmoved.{led_live, ahead_now, number_led}

-- a place in a chain is a place of the image
abbrev pub place_of_chain : (f : Form) (img : List ℕ) (chain off : ℕ) (p : Place) → chain < f.chains → IsPlaceIn f img chain off p → IsPlace f img p
place_of_chain f img chain off p below place = record {
  chain = chain;
  below = below;
  leads = place.leads;
  header = place.header;
}

-- a free list that stays has the same records
free_same : (f : Form) (a b : List ℕ) → FreeStays f a b → free_pairs f b (free_of f b) ≡ free_pairs f a (free_of f a)
free_same f a b S = ap (free_pairs f b) S.same_offsets ∙ pairs_kept f a b (free_of f a) as_long
  where
    inside : (z i : ℕ) → z + 4 ≤ i → i < z + 4 + 4 → 1 ≤ once (extent_at f.order a z) i
    inside z i low high = omega (arith, once_in (extent_at f.order a z) i (omega (arith, low)) (omega (arith, high)))

    as_long : (z : ℕ) → Member z (free_of f a) → rec_len_of f.order b z ≡ rec_len_of f.order a z
    as_long z m = word_agrees f.order b a (z + 4) (λ i low high. S.bytes i (omega (arith, inside z i low high, member_held f.order a (free_of f a) z i m)))

module _ (f : Form) (a m b : List ℕ) (chain off : ℕ) (p : Place) (hand : HandPair) (hands : List HandPair) (below : chain < f.chains) (place : IsPlaceIn f a chain off p) (taken : hand ≡ hand_at p) where
  hand_is : hand ≡ (off, rec_len_of f.order a off)
  hand_is = taken ∙ (λ j. (p.off, (place.header j).rec_len)) ∙ (λ j. (place.there j, rec_len_of f.order a (place.there j)))

  dead_there : (p.rec.magic ≡ USED → ⊥) → magic_of f.order a off ≡ USED → ⊥
  dead_there dead used = dead (ap (λ (r : Rec). r.magic) place.header ∙ ap (magic_of f.order a) place.there ∙ used)

  pub purged_given : AcceptWith f a hands → (p.rec.magic ≡ USED → ⊥) → p.rec.next < 2 ^ 32 → p.before + 4 ≤ length a → length a ≤ length m → OldOrWord f.order a p.before p.rec.next m
      → Purged f a m chain (without p.off (chain_of f a chain)) hands (hand ∷ hands) → GivenBack f m b hand hands → ChainsStay f m b hands → word f.order b sequence_at ≡ word f.order m sequence_at → IsPurged f a b chain off hands
  purged_given A dead fits within longer written P G S number = record {
    accepted = G.accepted;
    map = λ key. S.map key ∙ P.map key;
    offsets = (S.only.chains chain below (λ never. never)).same_offsets ∙ P.changed.offsets ∙ ap (λ x. without x (chain_of f a chain)) place.there;
    only = changes_then f a m b (λ k. k ≡ chain) P.changed.only (changes_weaker f m b (λ k. ⊥) (λ k. k ≡ chain) (λ k never. absurd never) S.only);
    number = number ∙ number_led f a m chain (without p.off (chain_of f a chain)) hands (hand ∷ hands) A below P.changed;
    ahead = ahead_now f a m b chain off hands (hand ∷ hands) below A (dead_there dead) (subst (λ x. Purged f a m chain (without x (chain_of f a chain)) hands (hand ∷ hands)) place.there P)
        (led_live f a m p hands A (place_of_chain f a chain off p below place) fits within longer written) S;
    list = G.list ∙ (λ j. give_to (free_same f a m P.changed.frees j) (hand_is j));
  }

-- where nothing was written
pub purge_nothing : (f : Form) (a b : List ℕ) (chain : ℕ) (hands : List HandPair) → AcceptWith f a hands → b ≡ a → PurgeStopped f a b chain hands
purge_nothing f a b chain hands A same =
    subst (λ x. PurgeStopped f a x chain hands) (sym same) (record {
      bytes = λ _ _. refl;
      only = changes_none f a (λ k. k ≡ chain);
      out = [];
      accepted = A;
      map = λ _. refl;
    })

module _ (f : Form) (a m : List ℕ) (chain : ℕ) (offs : List ℕ) (hand : HandPair) (hands : List HandPair) (A : AcceptWith f a hands) (below : chain < f.chains) (P : Purged f a m chain offs hands (hand ∷ hands)) where
  -- the record left its chain
  pub purge_led : PurgeStopped f a m chain hands
  purge_led = record {
    bytes = λ i none. P.changed.others i (outside (chain_head chain, 4) i (omega (arith, none))) (omega (arith, none));
    only = P.changed.only;
    out = hand ∷ [];
    accepted = P.changed.accepted;
    map = P.map;
  }

  free_extents : extents f.order m (free_of f m) ≡ extents f.order a (free_of f a)
  free_extents = ap (extents f.order m) P.changed.frees.same_offsets ∙ extents_kept f a m (free_of f a) (bodies_still f a m (free_of f a) P.changed.frees.bytes)

  -- and the give of it failed, which writes to the free list and to what was in the chain
  pub purge_giving : (b : List ℕ) → GiveStopped f m b (free_of f m) hand → PurgeStopped f a b chain hands
  purge_giving b G = record {
    bytes = λ i none.
        (let free = ap (λ es. times es i) free_extents in
        let there : slice_index b i ≡ slice_index m i = elim (cases_lt i (data_start f)) [
          | inl under ↦ G.exchanged.low i under (outside (free_head, 4) i (omega (arith, none)))
          | inr high ↦ G.exchanged.high i high (omega (arith, none, free, P.changed.count i))
        ] in
        there ∙ purge_led.bytes i none);
    only = changes_then f a m b (λ k. k ≡ chain) P.changed.only
        (changes_weaker f m b (λ k. ⊥) (λ k. k ≡ chain) (λ k never. absurd never)
        (free_changes f m b G.news (hand ∷ hands) (G.out ++ hands) P.changed.accepted (traded f m b G.news (hand ∷ []) G.out hands P.changed.accepted G.exchanged)));
    out = G.out;
    accepted = trade_accepted f m b G.news (hand ∷ []) G.out hands P.changed.accepted G.exchanged;
    map = λ key. trade_map f m b G.news (hand ∷ []) G.out hands P.changed.accepted G.exchanged key ∙ P.map key;
  }
