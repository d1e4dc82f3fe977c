-- A record is taken out of its chain, and then given to the free list: the map loses its key, at once and whole.
use Rattle.std.proofs.Common.{◌≡◌, ℕ, ◌+◌, ◌<◌, ◌≤◌, ◌^◌, List, [], ◌∷◌, ◌++◌, length, None, refl, sym, ◌∙◌, ap, subst, inl, inr}
use Rattle.std.specs.Prelude.{IsSome}
use Rattle.std.specs.Map.{lookup}
use Rattle.tdb_words.specs.declared.record.TheConstants.{USED}
use Rattle.tdb_space.specs.Form.{Form}
use Rattle.tdb_space.specs.Record.{key_at}
use Rattle.tdb_space.specs.Chain.{chain_of, without}
use Rattle.tdb_space.specs.Pairs.{home, map_of, same_key}
use Rattle.tdb_space.specs.Extents.{HandPair}
use Rattle.tdb_space.specs.Accepted.{AcceptWith}
use Rattle.tdb_space.proofs.Stays.Changes.{changes_none, changes_then, changes_weaker}
use Rattle.tdb_free.specs.FreeList.{CanBeGiven, GivenBack}
use Rattle.tdb_free.specs.GiveStopped.{StillAccepted}
use Rattle.tdb_free.specs.OnlyList.{OnlyListChanges}
use Rattle.tdb_free.proofs.ChangesList.{give_changes}
use Rattle.tdb_chain.specs.declared.place.Place.{Place}
use Rattle.tdb_chain.specs.Place.{IsPlace, HoldsKey}
use Rattle.tdb_chain.specs.Changed.{KeySet, OldOrWord, hand_at}
use Rattle.tdb_chain.proofs.Unlinked.{led_past_place, unlinked_set}
use Rattle.tdb_edit.specs.Edited.{KeyChanged, BrokenOff, OnlyKeyChanges}

-- the record of a key was taken out of its chain, and is a hand
abbrev pub TakenOut : Form → List ℕ → List ℕ → List ℕ → Place → HandPair → Type 0
TakenOut f a m key p h = KeySet f a m key None (without p.off (chain_of f a (home f key))) [] [] (h ∷ [])

-- it stands where the key is
pub taken_out : (f : Form) (a m key : List ℕ) (p : Place) (h : HandPair) → AcceptWith f a [] → HoldsKey f a key p
    → ((hands : List HandPair) → AcceptWith f a hands → IsPlace f a p → p.rec.magic ≡ USED
    → KeySet f a m (key_at f.order a p.off) None (without p.off (chain_of f a (home f (key_at f.order a p.off)))) [] hands (h ∷ hands))
    → TakenOut f a m key p h
taken_out f a m key p h A at removed = subst (λ k. TakenOut f a m k p h) at.has_key (removed [] A at.place at.used)

-- a change that leaves all but one chain does so where a give follows it, whatever that answers
pub then_given : (f l : Form) (a m b key : List ℕ) (h : HandPair) (others : List HandPair) → l ≡ f → AcceptWith f m (h ∷ others) → length m < 2 ^ 32 → ((offs : List ℕ) → CanBeGiven l m offs h → OnlyListChanges l m b offs (h ∷ []))
    → OnlyKeyChanges f a m key → OnlyKeyChanges f a b key
then_given f l a m b key h others same A short changes only =
    changes_then f a m b (λ k. k ≡ home f key) only
    (changes_weaker f m b (λ k. ⊥) (λ k. k ≡ home f key) (λ k never. absurd never)
    (give_changes f m b h others A short (subst (λ x. (offs : List ℕ) → CanBeGiven x m offs h → OnlyListChanges x m b offs (h ∷ [])) same changes)))

-- the hand went to the free list
pub freed : (f l : Form) (a m b key : List ℕ) (p : Place) (h : HandPair) → l ≡ f → TakenOut f a m key p h
    → length m < 2 ^ 32 → ((hands : List HandPair) → AcceptWith l m (h ∷ hands) → GivenBack l m b h hands) → ((offs : List ℕ) → CanBeGiven l m offs h → OnlyListChanges l m b offs (h ∷ []))
    → KeyChanged f a b key None
freed f l a m b key p h same out short given changes =
    let back = given [] (subst (λ x. AcceptWith x m (h ∷ [])) (sym same) out.changed.accepted) in
    record {
      accepted = subst (λ x. AcceptWith x b []) same back.accepted;
      map = λ k. subst (λ x. map_of x b k ≡ map_of x m k) same (ap (lookup (same_key k)) back.same_pairs) ∙ out.map k;
      only = then_given f l a m b key h [] same out.changed.accepted short changes out.changed.only;
    }

-- a call failed on the hand's way to the free list
pub half_freed : (f l : Form) (a m b key : List ℕ) (p : Place) (h : HandPair) → l ≡ f → TakenOut f a m key p h
    → length m < 2 ^ 32 → ((hands : List HandPair) → AcceptWith l m (h ∷ hands) → StillAccepted l m b hands) → ((offs : List ℕ) → CanBeGiven l m offs h → OnlyListChanges l m b offs (h ∷ []))
    → BrokenOff f a b key None
half_freed f l a m b key p h same out short stopped changes =
    let still = stopped [] (subst (λ x. AcceptWith x m (h ∷ [])) (sym same) out.changed.accepted) in
    record {
      out = still.out ++ [];
      accepted = subst (λ x. AcceptWith x b (still.out ++ [])) same still.accepted;
      map = inr (λ k. subst (λ x. map_of x b k ≡ map_of x m k) same (ap (lookup (same_key k)) still.same_pairs) ∙ out.map k);
      only = then_given f l a m b key h [] same out.changed.accepted short changes out.changed.only;
    }

-- a call failed before the record was taken out, or after it
pub half_taken_out : (f : Form) (a b key : List ℕ) (p : Place) → AcceptWith f a [] → HoldsKey f a key p → p.rec.next < 2 ^ 32 → p.before + 4 ≤ length a
    → OldOrWord f.order a p.before p.rec.next b → BrokenOff f a b key None
half_taken_out f a b key p A at low within (inl same) = record {
  out = [];
  accepted = subst (λ img. AcceptWith f img []) (sym same) A;
  map = inl (λ k. ap (λ img. map_of f img k) same);
  only = subst (λ img. OnlyKeyChanges f a img key) (sym same) (changes_none f a (λ k. k ≡ home f key));
}
half_taken_out f a b key p A at low within (inr put) =
    let out = subst (λ k. TakenOut f a b k p (hand_at p)) at.has_key (unlinked_set f a b [] p A at.place (led_past_place f a b p at.place low within put) at.used) in
    record { out = hand_at p ∷ []; accepted = out.changed.accepted; map = inr out.map; only = out.changed.only }

-- what holds of a form and an image after a look holds of those before it
pub looked : (P : Form → List ℕ → Type 0) (f k : Form) (a v : List ℕ) → k ≡ f → v ≡ a → P k v → P f a
looked P f k a v form image p = subst (λ x. P x a) form (subst (λ img. P k img) image p)

-- a key that a look-up finds is there
pub is_there : (f : Form) (a key : List ℕ) (p : Place) → HoldsKey f a key p → IsSome (map_of f a key)
is_there f a key p at = subst (λ value. IsSome value) (sym at.mapped) refl
