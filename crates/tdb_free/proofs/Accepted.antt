-- A hand can be taken from an accepted image and given to one, and it stays accepted.
use Rattle.std.proofs.Common.{ℕ, ◌<◌, ◌^◌, List, [], ◌∷◌, length, Some, sym, ◌∙◌, ap}
use Rattle.tdb_space.specs.Form.{Form}
use Rattle.tdb_space.specs.Chain.{free_of}
use Rattle.tdb_space.specs.Extents.{HandPair}
use Rattle.tdb_space.specs.Accepted.{AcceptWith}
use Rattle.tdb_space.proofs.Accepted.Frees.{free_is, free_apart, trade_accepted, trade_order, trade_list}
use Rattle.tdb_free.specs.FreeList.{ListedOnce, CanBeGiven, Given, GivenBack, free_pairs}
use Rattle.tdb_free.specs.TakenFrom.{TakenFrom, TakenKept}

-- the free list of an accepted image and a hand of it are what a give wants
pub can_be_given : (f : Form) (a : List ℕ) (h : HandPair) (hs : List HandPair) → AcceptWith f a (h ∷ hs) → length a < 2 ^ 32 → CanBeGiven f a (free_of f a) h
can_be_given f a h hs A short =
    let F = free_is f a (h ∷ hs) A in
    record {
      listed = record { list = F.list; once_held = F.once_held };
      in_place = A.held.0;
      apart = free_apart f a h hs A;
      short = short;
    }

-- and what a give makes is accepted
pub given_back : (f : Form) (a b : List ℕ) (h : HandPair) (hs : List HandPair) → AcceptWith f a (h ∷ hs) → Given f a b (free_of f a) h → GivenBack f a b h hs
given_back f a b h hs A G = record {
  accepted = trade_accepted f a b (G.at ∷ G.stay) (h ∷ []) [] hs A G.exchanged;
  same_pairs = trade_order f a b (G.at ∷ G.stay) (h ∷ []) [] hs A G.exchanged;
  list = ap (free_pairs f b) (trade_list f a b (G.at ∷ G.stay) (h ∷ []) [] hs A G.exchanged) ∙ G.pairs;
}

-- the free list of an accepted image can be taken from
pub can_be_taken : (f : Form) (a : List ℕ) (hs : List HandPair) → AcceptWith f a hs → ListedOnce f a (free_of f a)
can_be_taken f a hs A = let F = free_is f a hs A in record { list = F.list; once_held = F.once_held }

-- and what a take leaves is accepted
pub taken_kept : (f : Form) (a b : List ℕ) (rec_len : ℕ) (hs : List HandPair) (h : HandPair) → AcceptWith f a hs → TakenFrom f a b (free_of f a) rec_len h → TakenKept f a b rec_len hs h
taken_kept f a b rec_len hs h A T = record {
  accepted = trade_accepted f a b T.news [] (h ∷ []) hs A T.exchanged;
  same_pairs = trade_order f a b T.news [] (h ∷ []) hs A T.exchanged;
  list = T.pairs ∙ ap (λ offs. Some (record { hand = h; pairs = free_pairs f b offs })) (sym (trade_list f a b T.news [] (h ∷ []) hs A T.exchanged));
}
