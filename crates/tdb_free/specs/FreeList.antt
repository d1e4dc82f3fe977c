-- The free list as a list of records, each by its offset and its rec_len; what a take and a give make of it.
use Rattle.std.specs.Prelude.{◌≡◌, ℕ, ◌+◌, ◌-◌, ◌≤◌, ◌<◌, ◌^◌, Bool, nat_eq, nat_le, List, [], ◌∷◌, ◌++◌, length, Option, None, Some, if◌then◌else◌}
use Rattle.std.specs.List.{find}
use Rattle.tdb_words.specs.declared.word.Order.{Order}
use Rattle.tdb_words.specs.Word.{word}
use Rattle.tdb_space.specs.Form.{Form, free_head}
use Rattle.tdb_space.specs.Record.{rec_len_of, key_len_of, data_len_of, full_hash_of}
use Rattle.tdb_space.specs.Chain.{Free, free_of}
use Rattle.tdb_space.specs.Pairs.{order_of}
use Rattle.tdb_space.specs.Accepted.{AcceptWith}
use Rattle.tdb_space.specs.Extents.{Extent, HandPair, HandOk, times, once, extents}
use Rattle.tdb_space.specs.Exchange.{FreeExchanged, PutFree}
use Rattle.tdb_space.specs.Stays.{OnlyIn}

-- these are the records of an image's free list, in its order, and no byte of them is held twice
pub record ListedOnce (f : Form) (img offs : List ℕ) : Type 0 where
  pub list : Free f img (word f.order img free_head) offs
  pub once_held : (i : ℕ) → times (extents f.order img offs) i ≤ 1

-- the offset and the rec_len of each of these records
abbrev pub free_pairs : Form → List ℕ → List ℕ → List HandPair
free_pairs f img [] = []
free_pairs f img (x ∷ xs) = (x, rec_len_of f.order img x) ∷ free_pairs f img xs

-- the list where others stand in place of the first pair that passes a test
abbrev pub instead : (HandPair → Bool) → (HandPair → List HandPair) → List HandPair → List HandPair
instead test others [] = []
instead test others (p ∷ ps) = if test p then others p ++ ps else p ∷ instead test others ps

-- the list without the first pair that passes a test
abbrev pub without_first : (HandPair → Bool) → List HandPair → List HandPair
without_first test ps = instead test (λ _. []) ps

-- whether a record has room for one of so many bytes behind the header
abbrev pub is_long_enough : ℕ → HandPair → Bool
is_long_enough rec_len p = nat_le rec_len p.1

-- the first record of the list that has that room
abbrev pub first_fit : List HandPair → ℕ → Option HandPair
first_fit pairs rec_len = find (is_long_enough rec_len) pairs

-- whether a record is cut for one of so many bytes: 36 bytes or more of its extent would be left
abbrev pub is_cut : ℕ → HandPair → Bool
is_cut rec_len p = nat_le (24 + rec_len + 36) (24 + p.1)

-- the hand that such a record gives: its end where it is cut, else the whole of it
abbrev pub hand_of : ℕ → HandPair → HandPair
hand_of rec_len p = if is_cut rec_len p then (p.0 + p.1 - rec_len, rec_len) else p

-- what stays of it in the list: its front where it is cut, else nothing
abbrev pub left_of : ℕ → HandPair → List HandPair
left_of rec_len p = if is_cut rec_len p then (p.0, p.1 - (24 + rec_len)) ∷ [] else []

-- a hand and the list that is left
pub record Taken : Type 0 where
  pub hand : HandPair
  pub pairs : List HandPair

-- the hand that the record found gives, and the list where what stays of the record stands in its place
abbrev pub taken_as : List HandPair → ℕ → Option HandPair → Option Taken
taken_as pairs rec_len None = None
taken_as pairs rec_len (Some p) = Some (record { hand = hand_of rec_len p; pairs = instead (is_long_enough rec_len) (left_of rec_len) pairs })

-- what a take of a record of so many bytes behind the header gives, from the first free record that has the room
abbrev pub taken : List HandPair → ℕ → Option Taken
taken pairs rec_len = taken_as pairs rec_len (first_fit pairs rec_len)

-- the place behind the last byte of a record
abbrev pub end_of : HandPair → ℕ
end_of p = p.0 + 24 + p.1

-- whether a record starts at a place, and whether it ends there
abbrev pub starts_at : ℕ → HandPair → Bool
starts_at at p = nat_eq p.0 at

abbrev pub ends_at : ℕ → HandPair → Bool
ends_at at p = nat_eq (end_of p) at

-- a hand and the free record behind it, where there is one, as one hand
abbrev pub with_next : HandPair → Option HandPair → HandPair
with_next h None = h
with_next h (Some p) = (h.0, h.1 + (24 + p.1))

-- a hand and the free record before it, where there is one, as one hand
abbrev pub with_previous : HandPair → Option HandPair → HandPair
with_previous h None = h
with_previous h (Some p) = (p.0, p.1 + (24 + h.1))

-- The list after a give: the free record that starts where the hand ends leaves it, and so does the one that ends where
-- the hand starts. What they and the hand make together is its first record.
abbrev pub give_to : List HandPair → HandPair → List HandPair
give_to pairs hand =
    let others = without_first (starts_at (end_of hand)) pairs in
    let joined = with_next hand (find (starts_at (end_of hand)) pairs) in
    with_previous joined (find (ends_at hand.0) others) ∷ without_first (ends_at hand.0) others

-- A hand can be given to a free list: the list's records hold each byte once, and none of the hand's; the hand is in
-- place, and the image is short enough for the words of a file to name each offset in it.
pub record CanBeGiven (f : Form) (img offs : List ℕ) (hand : HandPair) : Type 0 where
  pub listed : ListedOnce f img offs
  pub in_place : HandOk f img hand
  pub apart : (i : ℕ) → times (extents f.order img offs) i + once (hand.0, 24 + hand.1) i ≤ 1
  pub short : length img < 2 ^ 32

-- the words at these offsets
abbrev pub words_at : List ℕ → List Extent
words_at [] = []
words_at (x ∷ xs) = (x, 4) ∷ words_at xs

-- what is written where a record becomes the first of the list: the head of the list, and the record's header and
-- tailer
abbrev pub put_words : HandPair → List Extent
put_words p = (free_head, 4) ∷ (p.0, 24) ∷ (p.0 + 20 + p.1, 4) ∷ []

-- the record at an offset has no key, no value and no hash
pub record HoldsNothing (o : Order) (img : List ℕ) (at : ℕ) : Type 0 where
  pub key_len : key_len_of o img at ≡ 0
  pub data_len : data_len_of o img at ≡ 0
  pub full_hash : full_hash_of o img at ≡ 0

-- from image a to image b a hand becomes the first free record, which holds nothing, and nothing else is written
pub record MadeFirst (f : Form) (a b : List ℕ) (hand : HandPair) : Type 0 where
  pub put : PutFree f a b hand
  pub empty : HoldsNothing f.order b hand.0
  pub others : OnlyIn (put_words hand) a b

-- From image a to image b a hand went into the free list, which had the records at these offsets: the list has a new
-- first record in front of those that stay, which holds nothing, and is the one that a give makes. Just the bytes of
-- the old list and of the hand are in it, and only the list's head, the words of the records that stay which lead to
-- the next one, and the new record's header and tailer are written.
pub record Given (f : Form) (a b offs : List ℕ) (hand : HandPair) : Type 0 where
  pub at : ℕ
  pub stay : List ℕ
  pub pairs : free_pairs f b (at ∷ stay) ≡ give_to (free_pairs f a offs) hand
  pub exchanged : FreeExchanged f a b offs (at ∷ stay) (hand ∷ []) []
  pub empty : HoldsNothing f.order b at
  pub others : OnlyIn (put_words (at, rec_len_of f.order b at) ++ words_at stay) a b

-- From image a, accepted with a hand and others, to image b the hand went into the free list: b is accepted with the
-- others, its chains hold the same pairs in the same order, and its free list is the one that a give makes.
pub record GivenBack (f : Form) (a b : List ℕ) (hand : HandPair) (others : List HandPair) : Type 0 where
  pub accepted : AcceptWith f b others
  pub same_pairs : order_of f b ≡ order_of f a
  pub list : free_pairs f b (free_of f b) ≡ give_to (free_pairs f a (free_of f a)) hand
