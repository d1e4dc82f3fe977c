-- A record is taken, and put in front of the key's chain in place of the old one, which goes to the free list.
use Rattle.std.proofs.Common.{◌≡◌, ℕ, ◌+◌, ◌<◌, ◌≤◌, ◌⊎◌, ◌^◌, List, [], ◌∷◌, length, Option, Some, None, ◌∙◌, ap, subst, inl, inr, arith}
use Rattle.std.specs.Prelude.{cond}
use Rattle.std.specs.Map.{lookup}
use Rattle.std.proofs.lemmas.Bool.{cases_lt}
use Rattle.tdb_space.specs.Form.{Form}
use Rattle.tdb_space.specs.Chain.{free_of}
use Rattle.tdb_space.specs.Pairs.{home, same_key}
use Rattle.tdb_space.specs.Extents.{HandPair}
use Rattle.tdb_space.specs.Accepted.{AcceptWith}
use Rattle.tdb_space.specs.Stays.{ChainsStay}
use Rattle.tdb_space.proofs.Pairs.Maps.{home_below}
use Rattle.tdb_space.proofs.Stays.Changes.{changes_then, changes_weaker}
use Rattle.tdb_free.specs.FreeList.{CanBeGiven, GivenBack}
use Rattle.tdb_free.specs.Growth.{usual_length, grown_length, RefusedRightly}
use Rattle.tdb_free.specs.OnlyList.{OnlyListChanges}
use Rattle.tdb_free.specs.declared.refusal.FreeRefusal.{FreeRefusal}
use Rattle.tdb_free.specs.declared.refusal.FreeRefusal.TheVariants as Free
use Rattle.tdb_chain.specs.declared.place.Place.{Place}
use Rattle.tdb_chain.specs.Place.{IsFound}
use Rattle.tdb_chain.specs.Changed.{KeySet, with_hand}
use Rattle.tdb_chain.proofs.PlaceStays.{found_stays}
use Rattle.tdb_edit.specs.Edited.{MapSet, KeyChanged, OnlyKeyChanges}
use Rattle.tdb_edit.specs.Stored.{FoundNoRoom, of_free}
use Rattle.tdb_edit.proofs.Freeing.{then_given}

-- a take that is refused found no room
pub no_room : (f : Form) (a b : List ℕ) (n limit : ℕ) (r : FreeRefusal) → RefusedRightly f a b (free_of f a) n limit r → FoundNoRoom f a n limit (of_free r)
no_room f a b n limit (Free.Full len need) right = grind (arith, right.past, right.none_fits)
no_room f a b n limit Free.Io right = tt

-- a file that grows within the limit stays short enough for the words of a file
pub stays_short : (size need limit to : ℕ) → size < 2 ^ 32 → limit ≤ 4294963200 → (to ≡ size) ⊎ (grown_length size need limit ≡ Some to) → to < 2 ^ 32
stays_short size need limit to short low (inl same) = omega (arith, same, short)
stays_short size need limit to short low (inr grown) =
    elim (cases_lt limit (usual_length size need)) [
      | inl past ↦
          elim (cases_lt limit (size + need)) [
            | inl over ↦ grind (arith, grown, past, over)
            | inr just ↦ let is : to ≡ size + need = grind (arith, grown, past, just) in omega (arith, is, just, low)
          ]
      | inr usual ↦ let is : to ≡ usual_length size need = grind (arith, grown, usual) in omega (arith, is, usual, low)
    ]

-- From image a to image n the key has the value, and the old record is out as a hand, where there was one.
record Linked (f : Form) (a n key value : List ℕ) (out : Option HandPair) : Type 0 where
  accepted : AcceptWith f n (with_hand out [])
  map : MapSet f a n key (Some value)

-- what is said of a link of a hand over what was found
abbrev pub Links : Form → List ℕ → List ℕ → List ℕ → List ℕ → HandPair → Option Place → Option HandPair → List ℕ → Type 0
Links l m n key value h over out offs = (hands : List HandPair) → AcceptWith l m (h ∷ hands) → IsFound l m key over → KeySet l m n key (Some value) offs (h ∷ []) (h ∷ hands) (with_hand out hands)

-- after a take the key is found where it was
module _ (f l : Form) (a m key : List ℕ) (h : HandPair) (over : Option Place) (A : AcceptWith f a []) (same : l ≡ f) (stay : ChainsStay f a m (h ∷ [])) (found : IsFound f a key over) where
  still : IsFound f m key over
  still = found_stays f a m [] A stay.only.front.longer (h ∷ []) stay.accepted key (stay.only.chains (home f key) (home_below f key A.some) (λ never. never)) over found

  -- a link leaves all other chains
  pub put_links : (n : List ℕ) → ((hands : List HandPair) → AcceptWith l m (h ∷ hands) → IsFound l m key over → OnlyKeyChanges l m n key) → OnlyKeyChanges f a n key
  put_links n changes =
      changes_then f a m n (λ k. k ≡ home f key) (changes_weaker f a m (λ k. ⊥) (λ k. k ≡ home f key) (λ k never. absurd never) stay.only)
      (subst (λ x. (hands : List HandPair) → AcceptWith x m (h ∷ hands) → IsFound x m key over → OnlyKeyChanges x m n key) same changes [] stay.accepted still)

module _ (f l : Form) (a m n key value : List ℕ) (h : HandPair) (over : Option Place) (out : Option HandPair) (offs : List ℕ) (A : AcceptWith f a []) (same : l ≡ f) (stay : ChainsStay f a m (h ∷ [])) (found : IsFound f a key over) (links : Links l m n key value h over out offs) where
  linked : Linked f a n key value out
  linked =
      let set = subst (λ x. Links x m n key value h over out offs) same links [] stay.accepted (still f l a m key h over A same stay found) in
      record {
        accepted = set.changed.accepted;
        map = λ q. set.map q ∙ ap (λ old. cond (same_key key q) (Some value) old) (stay.map q);
      }

  linked_only : OnlyKeyChanges f a n key
  linked_only = put_links f l a m key h over A same stay found n (λ hands B F. (links hands B F).changed.only)

  -- there was no old record
  pub put_new : out ≡ None → KeyChanged f a n key (Some value)
  put_new none = record { accepted = subst (λ o. AcceptWith f n (with_hand o [])) none linked.accepted; map = linked.map; only = linked_only }

  -- the old record was to go to the free list
  module _ (k : Form) (b : List ℕ) (old : HandPair) (form : k ≡ f) (is : out ≡ Some old) (short : length n < 2 ^ 32) (changes : (os : List ℕ) → CanBeGiven k n os old → OnlyListChanges k n b os (old ∷ [])) where
    there : AcceptWith f n (old ∷ [])
    there = subst (λ o. AcceptWith f n (with_hand o [])) is linked.accepted

    pub given_only : OnlyKeyChanges f a b key
    given_only = then_given f k a n b key old [] form there short changes linked_only

    -- it went there
    pub put_over : ((hands : List HandPair) → AcceptWith k n (old ∷ hands) → GivenBack k n b old hands) → KeyChanged f a b key (Some value)
    put_over given =
        let back = subst (λ x. (hands : List HandPair) → AcceptWith x n (old ∷ hands) → GivenBack x n b old hands) form given [] there in
        record { accepted = back.accepted; map = λ q. ap (lookup (same_key q)) back.same_pairs ∙ linked.map q; only = given_only }
