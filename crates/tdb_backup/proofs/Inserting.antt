-- A new pair: what taking its record and linking it make together.
use Rattle.std.proofs.Common.{◌≡◌, ℕ, ◌+◌, ◌<◌, ◌≤◌, ◌⊎◌, List, [], ◌∷◌, length, Option, Some, None, sym, ◌∙◌, ap, subst, inl, inr, arith}
use Rattle.std.specs.Prelude.{◌^◌, max, cond}
use Rattle.std.proofs.lemmas.Bool.{cases_lt}
use Rattle.tdb_space.specs.Form.{Form}
use Rattle.tdb_space.specs.Chain.{chain_of, free_of}
use Rattle.tdb_space.specs.Pairs.{map_of, home, same_key}
use Rattle.tdb_space.specs.Extents.{HandPair}
use Rattle.tdb_space.specs.Accepted.{AcceptWith}
use Rattle.tdb_space.specs.Stays.{ChainsStay}
use Rattle.tdb_chain.specs.Place.{IsFound}
use Rattle.tdb_chain.specs.Changed.{KeySet, with_hand, without_place, hands_back}
use Rattle.tdb_free.specs.Growth.{usual_length, grown_length, RefusedRightly, SaysLengths}
use Rattle.tdb_free.specs.declared.refusal.FreeRefusal.{FreeRefusal}
use Rattle.tdb_free.specs.declared.refusal.FreeRefusal.TheVariants.{Full, Io}
use Rattle.tdb_backup.specs.Filling.{Added, InsertCause, of_free}
use Rattle.tdb_backup.proofs.Walk.{moved}

-- a file grows within the limit
grown_low : (len need limit to : ℕ) → grown_length len need limit ≡ Some to → to ≤ limit
grown_low len need limit to e =
    elim (cases_lt limit (usual_length len need)) [
      | inl past ↦
          elim (cases_lt limit (len + need)) [
            | inl short ↦ grind (arith, e, past, short)
            | inr just ↦ let is : to ≡ len + need = grind (arith, e, past, just) in omega (arith, is, just)
          ]
      | inr low ↦ let is : to ≡ usual_length len need = grind (arith, e, low) in omega (arith, is, low)
    ]

-- so it stays short enough for the words of a file
pub stays_short : (size len need limit to : ℕ) → size < 2 ^ 32 → limit ≤ 4294963200 → (to ≡ size) ⊎ (grown_length len need limit ≡ Some to) → to < 2 ^ 32
stays_short size len need limit to short low (inl same) = omega (arith, same, short)
stays_short size len need limit to short low (inr grown) = omega (arith, grown_low len need limit to grown, low)

-- and it is at most as long as it was, or as the limit
pub stays_within : (first size len limit to : ℕ) → size ≤ max first limit → (to ≡ size) ⊎ (grown_length size len limit ≡ Some to) → to ≤ max first limit
stays_within first size len limit to within (inl same) = omega (arith, same, within)
stays_within first size len limit to within (inr grown) = omega (arith, grown_low size len limit to grown)

-- a file within the limit is short enough, where it was so before
pub within_short : (first size limit : ℕ) → limit ≤ 4294963200 → size ≤ max first limit → first < 2 ^ 32 → size < 2 ^ 32
within_short first size limit low within short = omega (arith, low, within, short)

-- a record was taken, and put in front of its chain
pub inserted : (f k l : Form) (a v b c key value : List ℕ) (h : HandPair) (out : Option HandPair) → AcceptWith f a [] → map_of f a key ≡ None → k ≡ f → v ≡ a → l ≡ f
    → ((hands : List HandPair) → AcceptWith k v hands → ChainsStay k v b (h ∷ hands))
    → ((hands : List HandPair) → AcceptWith l b (h ∷ hands) → IsFound l b key None → KeySet l b c key (Some value) (h.0 ∷ without_place None (chain_of l b (home l key))) (h ∷ []) (h ∷ hands) (with_hand out hands))
    → ((hands : List HandPair) → AcceptWith l b (h ∷ hands) → out ≡ hands_back None)
    → Added f a c key value
inserted f k l a v b c key value h out A none form image same taken linked back =
    let stay : ChainsStay f a b (h ∷ []) = moved (λ x img. (hands : List HandPair) → AcceptWith x img hands → ChainsStay x img b (h ∷ hands)) f k a v form image taken [] A in
    let there : AcceptWith l b (h ∷ []) = subst (λ x. AcceptWith x b (h ∷ [])) (sym same) stay.accepted in
    let absent : map_of l b key ≡ None = ap (λ x. map_of x b key) same ∙ stay.map key ∙ none in
    let set = linked [] there absent in
    let kept : AcceptWith l c [] = subst (λ o. AcceptWith l c (with_hand o [])) (back [] there) set.changed.accepted in
    record {
      accepted = subst (λ x. AcceptWith x c []) same kept;
      map = λ q. ap (λ x. map_of x c q) (sym same) ∙ set.map q ∙ ap (λ old. cond (same_key key q) (Some value) old) (ap (λ x. map_of x b q) same ∙ stay.map q);
    }

-- a record wasn't taken
pub refused : (f : Form) (a b : List ℕ) (n limit size : ℕ) (e : FreeRefusal) → size ≡ length a → RefusedRightly f a b (free_of f a) n limit e → SaysLengths size n e → InsertCause f a b n limit (of_free e)
refused f a b n limit size (Full len need) long right says = record { told_len = says.0 ∙ long; told_need = says.1; no_room = right }
refused f a b n limit size Io long right says = tt
