-- What it means that a hand was taken from the free list.
use Rattle.std.specs.Prelude.{◌≡◌, ℕ, ◌+◌, List, [], ◌∷◌, Option, None, Some}
use Rattle.tdb_words.specs.declared.word.Order.{Order}
use Rattle.tdb_space.specs.Form.{Form, free_head}
use Rattle.tdb_space.specs.Chain.{free_of}
use Rattle.tdb_space.specs.Pairs.{order_of}
use Rattle.tdb_space.specs.Accepted.{AcceptWith}
use Rattle.tdb_space.specs.Extents.{Extent, HandPair}
use Rattle.tdb_space.specs.Exchange.{Agree, FreeExchanged}
use Rattle.tdb_space.specs.Stays.{OnlyIn}
use Rattle.tdb_free.specs.FreeList.{HoldsNothing, words_at, free_pairs, first_fit, left_of, taken}

-- What is written where a record is taken from. Where nothing stays of it, that is one word that leads on in the list:
-- its head, or the first word of a record that stays. Else it is the header of what stays but for its first word, and
-- its tailer.
abbrev pub take_words : List HandPair → List ℕ → List Extent
take_words [] news = (free_head, 4) ∷ words_at news
take_words (front ∷ _) news = (front.0 + 4, 20) ∷ (front.0 + 20 + front.1, 4) ∷ []

-- each of these records holds nothing
abbrev pub AllHoldNothing : Order → List ℕ → List HandPair → Type 0
AllHoldNothing o img [] = Unit {0}
AllHoldNothing o img (p ∷ ps) = HoldsNothing o img p.0 × AllHoldNothing o img ps

-- From image a to image b a hand was taken from the free list, which had the records at these offsets: hand and list
-- are those of a take of so many bytes, from the first that is long enough. Just the bytes of the old list are in them.
-- Only the words of this take are written, and none into the hand. What stays of the record holds nothing.
pub record TakenFrom (f : Form) (a b offs : List ℕ) (rec_len : ℕ) (hand : HandPair) : Type 0 where
  pub news : List ℕ
  pub pairs : taken (free_pairs f a offs) rec_len ≡ Some (record { hand = hand; pairs = free_pairs f b news })
  pub exchanged : FreeExchanged f a b offs news [] (hand ∷ [])
  pub from : HandPair
  pub first : first_fit (free_pairs f a offs) rec_len ≡ Some from
  pub others : OnlyIn (take_words (left_of rec_len from) news) a b
  pub empty : AllHoldNothing f.order b (left_of rec_len from)
  pub hand_kept : Agree a b hand.0 (hand.0 + 24 + hand.1)

-- a hand was taken, or no record is long enough and the image is as it was
abbrev pub IsTaken : Form → List ℕ → List ℕ → List ℕ → ℕ → Option HandPair → Type 0
IsTaken f a b offs rec_len None = (taken (free_pairs f a offs) rec_len ≡ None) × (b ≡ a)
IsTaken f a b offs rec_len (Some hand) = TakenFrom f a b offs rec_len hand

-- From image a, accepted with hands, to image b a hand more was taken from the free list: b is accepted with it too,
-- its chains hold the same pairs in the same order, and hand and free list are those of a take of so many bytes.
pub record TakenKept (f : Form) (a b : List ℕ) (rec_len : ℕ) (hands : List HandPair) (hand : HandPair) : Type 0 where
  pub accepted : AcceptWith f b (hand ∷ hands)
  pub same_pairs : order_of f b ≡ order_of f a
  pub list : taken (free_pairs f a (free_of f a)) rec_len ≡ Some (record { hand = hand; pairs = free_pairs f b (free_of f b) })
