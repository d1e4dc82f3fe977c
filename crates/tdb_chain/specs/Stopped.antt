-- What a call that changes a chain leaves where the disk failed: sound chains, and of a value at most its own bytes.
use Rattle.std.specs.Prelude.{◌≡◌, ℕ, ◌+◌, ◌<◌, List, ◌∷◌, length, slice_index, Option}
use Rattle.tdb_disk.specs.Image.{overlay}
use Rattle.tdb_disk.specs.Stop.{Torn}
use Rattle.tdb_words.specs.declared.word.Order.{Order}
use Rattle.tdb_space.specs.Form.{Form, free_head}
use Rattle.tdb_space.specs.Chain.{chain_of}
use Rattle.tdb_space.specs.Pairs.{pairs, home}
use Rattle.tdb_space.specs.Extents.{HandPair}
use Rattle.tdb_space.specs.Accepted.{AcceptWith}
use Rattle.tdb_space.specs.Stays.{ChangesOnly, FreeStays}
use Rattle.tdb_chain.specs.declared.place.Place.{Place}
use Rattle.tdb_chain.specs.Changed.{OldOrWord, with_hand, without_place, hands_back}

-- a chain has the records at these offsets, and they hold these pairs, in this order
pub record ChainHolds (f : Form) (img : List ℕ) (chain : ℕ) (offs : List ℕ) (held : List (List ℕ × List ℕ)) : Type 0 where
  pub offsets : chain_of f img chain ≡ offs
  pub same_pairs : pairs f.order img (chain_of f img chain) ≡ held

-- How far a link of a hand came with the chain of its key, and which hands are out then, beside those of others: the
-- chain has its records and pairs as it had; or those without the key's old record, which is a hand; or in front of
-- these the new record, which was the hand.
pub data LinkOnTheWay (f : Form) (a b key value : List ℕ) (over : Option Place) (hand : HandPair) (others : List HandPair) : Type 0 where
  as_it_was : AcceptWith f b (hand ∷ others) → ChainHolds f b (home f key) (chain_of f a (home f key)) (pairs f.order a (chain_of f a (home f key)))
      → LinkOnTheWay f a b key value over hand others
  without_old : AcceptWith f b (hand ∷ with_hand (hands_back over) others)
      → ChainHolds f b (home f key) (without_place over (chain_of f a (home f key))) (pairs f.order a (without_place over (chain_of f a (home f key))))
      → LinkOnTheWay f a b key value over hand others
  in_front : AcceptWith f b (with_hand (hands_back over) others)
      → ChainHolds f b (home f key) (hand.0 ∷ without_place over (chain_of f a (home f key))) ((key, value) ∷ pairs f.order a (without_place over (chain_of f a (home f key))))
      → LinkOnTheWay f a b key value over hand others

-- From image a, accepted with a hand and others, to image b a link of the hand failed: b is one of those on the way,
-- each of them accepted, so no head leads to a record that isn't whole. All other chains, the free list, the undo area
-- and each byte of the header are as they were.
pub record LinkStopped (f : Form) (a b key value : List ℕ) (over : Option Place) (hand : HandPair) (others : List HandPair) : Type 0 where
  pub on_the_way : LinkOnTheWay f a b key value over hand others
  pub header : (i : ℕ) → i < free_head → slice_index b i ≡ slice_index a i
  pub only : ChangesOnly f a b (λ k. k ≡ home f key)
  pub frees : FreeStays f a b

-- From image a to image b an update of the record of a place failed: at most bytes of the new value's room changed, and
-- the length of the value is the old one; or the new value stands there whole, and its length is the old or the new
-- one, as a whole.
pub data UpdateStopped (o : Order) (a b : List ℕ) (p : Place) (value : List ℕ) : Type 0 where
  value_torn : Torn (p.off + 24 + p.rec.key_len) (length value) a b → UpdateStopped o a b p value
  value_whole : OldOrWord o (overlay a (p.off + 24 + p.rec.key_len) value) (p.off + 12) (length value) b → UpdateStopped o a b p value
