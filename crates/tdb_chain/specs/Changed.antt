-- What a call that changes a chain makes of the image, of its map and of the records that are in no list.
use Rattle.std.specs.Prelude.{◌≡◌, ℕ, ◌+◌, ◌<◌, ◌≤◌, ◌⊎◌, List, [], ◌∷◌, length, slice_index, Option, None, Some}
use Rattle.std.specs.Map.{update}
use Rattle.tdb_disk.specs.Image.{overlay}
use Rattle.tdb_words.specs.declared.record.TheConstants.{PADDING}
use Rattle.tdb_words.specs.declared.word.Order.{Order}
use Rattle.tdb_words.specs.Word.{bytes_of_word}
use Rattle.tdb_space.specs.Form.{Form, chain_head}
use Rattle.tdb_space.specs.Chain.{chain_of, without}
use Rattle.tdb_space.specs.Pairs.{map_of, home, same_key}
use Rattle.tdb_space.specs.Extents.{Extent, HandPair, times, extents, hand_extents}
use Rattle.tdb_space.specs.Accepted.{AcceptWith}
use Rattle.tdb_space.specs.Exchange.{LedPast}
use Rattle.tdb_space.specs.Stays.{ChangesOnly, FreeStays}
use Rattle.tdb_chain.specs.declared.place.Place.{Place}
use Rattle.tdb_chain.specs.Place.{IsPlace}

-- From image a, accepted with some hands out, to image b one chain gets the records at these offsets, and other hands
-- are out; a hand is a record that is in no list. The new image is accepted with these and as long as the old one. Only
-- the head of the chain changes, and bytes of the chain's old records and of the caller's own hands. Just the bytes
-- that the chain and the hands held they hold now, each as often as before. All other chains and the free list stay.
pub record ChainChanged (f : Form) (a b : List ℕ) (chain : ℕ) (offs : List ℕ) (own before after : List HandPair) : Type 0 where
  pub accepted : AcceptWith f b after
  pub size : length b ≡ length a
  pub offsets : chain_of f b chain ≡ offs
  pub others : (i : ℕ) → (i < chain_head chain) ⊎ (chain_head chain + 4 ≤ i)
      → times (extents f.order a (chain_of f a chain)) i + times (hand_extents own) i ≡ 0 → slice_index b i ≡ slice_index a i
  pub count : (i : ℕ) → times (extents f.order b (chain_of f b chain)) i + times (hand_extents after) i
      ≡ times (extents f.order a (chain_of f a chain)) i + times (hand_extents before) i
  pub only : ChangesOnly f a b (λ k. k ≡ chain)
  pub frees : FreeStays f a b

-- from image a to image b the map changes at one key alone, where it has this value then, or none; the key's own chain
-- changed so
pub record KeySet (f : Form) (a b key : List ℕ) (value : Option (List ℕ)) (offs : List ℕ) (own before after : List HandPair) : Type 0 where
  pub changed : ChainChanged f a b (home f key) offs own before after
  pub map : (other : List ℕ) → map_of f b other ≡ update same_key (map_of f a) key value other

-- from image a to image b the map stays, and one chain changed so
pub record Purged (f : Form) (a b : List ℕ) (chain : ℕ) (offs : List ℕ) (before after : List HandPair) : Type 0 where
  pub changed : ChainChanged f a b chain offs [] before after
  pub map : (key : List ℕ) → map_of f b key ≡ map_of f a key

-- the word at an offset is as it was, or this one, as a whole; nothing else changed
abbrev pub OldOrWord : Order → List ℕ → ℕ → ℕ → List ℕ → Type 0
OldOrWord o img at w now = (now ≡ img) ⊎ (now ≡ overlay img at (bytes_of_word o w))

-- the hands with one more, if there is one
abbrev pub with_hand : Option HandPair → List HandPair → List HandPair
with_hand None hands = hands
with_hand (Some h) hands = h ∷ hands

-- the offsets without that of a place, if there is one
abbrev pub without_place : Option Place → List ℕ → List ℕ
without_place None offs = offs
without_place (Some p) offs = without p.off offs

-- the record of a place as a hand
abbrev pub hand_at : Place → HandPair
hand_at p = (p.off, p.rec.rec_len)

-- the hand that the record of a place becomes, if there is one
abbrev pub hands_back : Option Place → Option HandPair
hands_back None = None
hands_back (Some p) = Some (hand_at p)

-- the word that leads to the record of a place, if there is one
abbrev pub word_before : Option Place → List Extent
word_before None = []
word_before (Some p) = (p.before, 4) ∷ []

-- from image a to image b the record of a place, if there is one, was led past where it stands in its chain; else
-- nothing changed
abbrev pub TookOut : Form → List ℕ → List ℕ → Option Place → Type 0
TookOut f a b None = b ≡ a
TookOut f a b (Some p) = IsPlace f a p → LedPast f a b p.before p.off

-- between the bytes that a record holds and its tailer stands padding
abbrev pub IsPadded : List ℕ → HandPair → ℕ → Type 0
IsPadded img at held = (i : ℕ) → at.0 + 24 + held ≤ i → i < at.0 + 20 + at.1 → slice_index img i ≡ PADDING
