-- What a give leaves where the disk failed: the free list is sound.
use Rattle.std.specs.Prelude.{◌≡◌, ℕ, List, [], ◌∷◌, ◌++◌}
use Rattle.tdb_space.specs.Form.{Form}
use Rattle.tdb_space.specs.Pairs.{order_of}
use Rattle.tdb_space.specs.Extents.{HandPair}
use Rattle.tdb_space.specs.Accepted.{AcceptWith}
use Rattle.tdb_space.specs.Exchange.{FreeExchanged}
use Rattle.tdb_free.specs.FreeList.{ListedOnce, free_pairs, without_first, starts_at, ends_at, end_of, give_to}

-- how far a give came with the list: the list is as it was, or without the record behind the hand, or without that and
-- the one before it, or as the give makes it
pub data OnTheWay (pairs : List HandPair) (hand : HandPair) (now : List HandPair) : Type 0 where
  as_it_was : now ≡ pairs → OnTheWay pairs hand now
  without_next : now ≡ without_first (starts_at (end_of hand)) pairs → OnTheWay pairs hand now
  without_both : now ≡ without_first (ends_at hand.0) (without_first (starts_at (end_of hand)) pairs) → OnTheWay pairs hand now
  given : now ≡ give_to pairs hand → OnTheWay pairs hand now

-- From image a to image b a give of a hand failed: a free list stands at the head of the list, of the records at these
-- offsets, and no byte of it is held twice. It is one of those on the way. What left it and the hand are out as hands,
-- or in the list.
pub record GiveStopped (f : Form) (a b offs : List ℕ) (hand : HandPair) : Type 0 where
  pub news : List ℕ
  pub out : List HandPair
  pub listed : ListedOnce f b news
  pub exchanged : FreeExchanged f a b offs news (hand ∷ []) out
  pub on_the_way : OnTheWay (free_pairs f a offs) hand (free_pairs f b news)

-- From image a, accepted with a hand and others, to image b a give of the hand failed: b is accepted with some hands
-- and the others, and its chains hold the same pairs in the same order.
pub record StillAccepted (f : Form) (a b : List ℕ) (others : List HandPair) : Type 0 where
  pub out : List HandPair
  pub accepted : AcceptWith f b (out ++ others)
  pub same_pairs : order_of f b ≡ order_of f a
