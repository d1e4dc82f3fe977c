-- A hand that holds a record is put in front of its key's chain: the image stays accepted, and its map gains the key.
use Rattle.std.proofs.Common.{◌≡◌, ℕ, ◌+◌, ◌<◌, ◌≤◌, List, [], ◌∷◌, length, cond, Some, None, false, refl, sym, ◌∙◌, ap, subst, inl, inr, arith}
use Rattle.std.specs.Prelude.{◌%◌}
use Rattle.std.specs.Map.{lookup, update, keys_of}
use Rattle.std.specs.List.{IsDistinct, AllByRecursion}
use Rattle.std.proofs.lemmas.Cmp.{nat_list_eq_equiv}
use Rattle.std.proofs.lemmas.Map.{NonePasses, none_passes_from_lookup}
use Rattle.std.proofs.lemmas.Map.Keys.{IsDistinct-cons}
use Rattle.tdb_words.specs.Hash.{h_of}
use Rattle.tdb_words.specs.Word.{word}
use Rattle.tdb_space.specs.Form.{Form, chain_head}
use Rattle.tdb_space.specs.Record.{IsChained, rec_len_of}
use Rattle.tdb_space.specs.Chain.{Linked, chain_of, free_of}
use Rattle.tdb_space.specs.Pairs.{pairs, map_of, home, same_key}
use Rattle.tdb_space.specs.Extents.{HandPair, times, once, extents}
use Rattle.tdb_space.specs.Accepted.{AcceptWith}
use Rattle.tdb_space.specs.Exchange.{Exchanged, PutInFront}
use Rattle.tdb_space.proofs.Extents.Counts.{where_is, times_all, times_member}
use Rattle.tdb_space.proofs.Extents.Counts.Lies.{lies, below, above}
use Rattle.tdb_space.proofs.Exchange.Kept.{Still, Bodies, bodies_still, nexts_still, linked_kept, extents_kept, filed_all_kept, pairs_kept, times_within}
use Rattle.tdb_space.proofs.Accepted.Laid.{accepted_filed}
use Rattle.tdb_space.proofs.Pairs.Maps.{map_home, home_below, pairs_used}
use Rattle.tdb_space.proofs.Accepted.Swaps.{exchanged, map_updated}

-- where no entry of a list has a key, the key differs from all of its keys
keys_apart : (k : List ℕ) (ps : List (List ℕ × List ℕ)) → NonePasses (same_key k) ps → AllByRecursion (λ y. same_key k y ≡ false) (keys_of ps)
keys_apart k [] none = tt
keys_apart k (p ∷ ps) none = (none.0, keys_apart k ps none.1)

module _ (f : Form) (a b : List ℕ) (h : HandPair) (hs : List HandPair) (k v : List ℕ) (A : AcceptWith f a (h ∷ hs)) (P : PutInFront f a b h k v) (free_key : map_of f a k ≡ None) where
  low_j : home f k < f.chains
  low_j = home_below f k A.some

  longer : length a ≤ length b
  longer = omega (arith, P.size)

  -- the records of the chain stay
  still : Still a b f (chain_of f a (home f k))
  still i held =
      P.high i (times_within f IsChained a (word f.order a (chain_head (home f k))) (chain_of f a (home f k)) i (A.chains (home f k) low_j) held).0
      (elim (where_is (h.0, 24 + h.1) i) [
        | lies _ _ one ↦ absurd (omega (arith, one, held, A.apart i, times_all f a (chain_of f a) (free_of f a) (h ∷ hs) i, times_member (λ l. extents f.order a (chain_of f a l)) (home f k) i f.chains low_j))
        | below under _ ↦ inl under
        | above over _ ↦ inr (omega (arith, over))
      ])

  bodies : Bodies a b f (chain_of f a (home f k))
  bodies = bodies_still f a b (chain_of f a (home f k)) still

  old_pairs : pairs f.order b (chain_of f a (home f k)) ≡ pairs f.order a (chain_of f a (home f k))
  old_pairs = pairs_kept f IsChained a b (home f k) (word f.order a (chain_head (home f k))) (chain_of f a (home f k)) longer (A.chains (home f k) low_j) bodies (A.filed (home f k) low_j)

  -- its pair comes in front of those of the chain
  pub new_pairs : pairs f.order b (h.0 ∷ chain_of f a (home f k)) ≡ (k, v) ∷ pairs f.order a (chain_of f a (home f k))
  new_pairs = pairs_used f.order b h.0 (chain_of f a (home f k)) P.filled.used ∙ (λ i. (P.filled.has_key i, P.filled.has_value i) ∷ old_pairs i)

  -- no record of the chain has the key
  differs : AllByRecursion (λ y. same_key k y ≡ false) (keys_of (pairs f.order a (chain_of f a (home f k))))
  differs = keys_apart k (pairs f.order a (chain_of f a (home f k)))
      (none_passes_from_lookup (same_key k) (pairs f.order a (chain_of f a (home f k))) (sym (map_home f a k (accepted_filed f a (h ∷ hs) A)) ∙ free_key))

  -- the chain gains the record, and the hand is gone
  pub link_exchanged : Exchanged f a b (home f k) (chain_of f a (home f k)) (h.0 ∷ chain_of f a (home f k)) (h ∷ hs) hs
  link_exchanged = record {
    size = P.size;
    low = P.low;
    high = λ i above_heads none.
        P.high i above_heads
        (elim (where_is (h.0, 24 + h.1) i) [ lies _ _ one ↦ absurd (omega (arith, one, none)) | below under _ ↦ inl under | above over _ ↦ inr (omega (arith, over)) ]);
    linked = (
      P.head,
      P.filled.whole,
      inl P.filled.used,
      subst (λ at. Linked f IsChained b at (chain_of f a (home f k))) (sym P.next)
          (linked_kept f IsChained a b (word f.order a (chain_head (home f k))) (chain_of f a (home f k)) longer (A.chains (home f k) low_j) bodies (nexts_still f a b (chain_of f a (home f k)) still)),
    );
    filed = (
      λ used. record {
        fits = P.filled.fits;
        hashed = P.filled.hashed ∙ ap (h_of f.hash) (sym P.filled.has_key);
        placed = ap (λ n. n % f.chains) P.filled.hashed;
      },
      filed_all_kept f IsChained a b (home f k) (word f.order a (chain_head (home f k))) (chain_of f a (home f k)) longer (A.chains (home f k) low_j) bodies (A.filed (home f k) low_j),
    );
    keys = subst (λ ps. IsDistinct same_key (keys_of ps)) (sym new_pairs)
        (IsDistinct-cons same_key k (keys_of (pairs f.order a (chain_of f a (home f k)))) differs (A.keys (home f k) low_j));
    held = A.held.1;
    count = λ i.
        (let old : times (extents f.order b (chain_of f a (home f k))) i ≡ times (extents f.order a (chain_of f a (home f k))) i = ap (λ es. times es i) (extents_kept f a b (chain_of f a (home f k)) bodies) in
        let new : once (h.0, 24 + rec_len_of f.order b h.0) i ≡ once (h.0, 24 + h.1) i = ap (λ n. once (h.0, 24 + n) i) P.filled.length_kept in
        omega (arith, old, new));
  }

  -- the image is accepted without the hand
  pub link_accepted : AcceptWith f b hs
  link_accepted = exchanged f a b (home f k) (h.0 ∷ chain_of f a (home f k)) (h ∷ hs) hs low_j A link_exchanged

  -- its map is the old one with the key and its value
  pub link_map : (q : List ℕ) → map_of f b q ≡ update same_key (map_of f a) k (Some v) q
  link_map = map_updated f a b (home f k) (h.0 ∷ chain_of f a (home f k)) (h ∷ hs) hs low_j A link_exchanged k (Some v) refl
      (λ q. ap (lookup (same_key q)) new_pairs ∙ ap (λ t. cond t (Some v) (lookup (same_key q) (pairs f.order a (chain_of f a (home f k))))) (nat_list_eq_equiv.symm q k))
