-- Trades with the free list of an accepted image: it stays accepted, and its pairs and its map stay.
use Rattle.std.proofs.Common.{◌≡◌, ℕ, ◌+◌, ◌≤◌, List, [], ◌∷◌, ◌++◌, arith}
use Rattle.tdb_space.specs.Form.{Form, free_head}
use Rattle.tdb_space.specs.Record.{IsFree, rec_len_of, magic_of}
use Rattle.tdb_space.specs.Chain.{chain_of, free_of, Member, Leads, without}
use Rattle.tdb_space.specs.Pairs.{order_of, map_of}
use Rattle.tdb_space.specs.Extents.{HandPair, AllHandOk, times, once, extents}
use Rattle.tdb_space.specs.Accepted.{AcceptWith}
use Rattle.tdb_space.specs.Exchange.{FreeExchanged, LedPast, PutFree, Touched}
use Rattle.tdb_space.proofs.Extents.Counts.{times_all}
use Rattle.tdb_space.proofs.Accepted.FreeSwaps.{free_exchanged, free_order, free_map, free_list_now}
use Rattle.tdb_space.proofs.Chain.Trades.{FreeIs, free_taken, free_given, free_cut, free_more}

-- the free list of an accepted image, whose bytes and those of the hands are held once
pub free_is : (f : Form) (a : List ℕ) (hands : List HandPair) → AcceptWith f a hands → FreeIs f a (free_of f a)
free_is f a hands A = record {
  list = A.frees;
  once_held = λ i. omega (arith, A.apart i, times_all f a (chain_of f a) (free_of f a) hands i);
}

pub free_apart : (f : Form) (a : List ℕ) (h : HandPair) (hs : List HandPair) → AcceptWith f a (h ∷ hs) → (i : ℕ) → times (extents f.order a (free_of f a)) i + once (h.0, 24 + h.1) i ≤ 1
free_apart f a h hs A i = omega (arith, A.apart i, times_all f a (chain_of f a) (free_of f a) (h ∷ hs) i)

hands_rest : (f : Form) (a : List ℕ) (hs gs : List HandPair) → AllHandOk f a (hs ++ gs) → AllHandOk f a gs
hands_rest f a [] gs held = held
hands_rest f a (h ∷ hs) gs held = hands_rest f a hs gs held.1

-- a trade of the free list with hands, where other hands are out: the image is accepted with the new ones and the
-- others
pub traded : (f : Form) (a b ys : List ℕ) (before after more : List HandPair) → AcceptWith f a (before ++ more) → FreeExchanged f a b (free_of f a) ys before after → FreeExchanged f a b (free_of f a) ys (before ++ more) (after ++ more)
traded f a b ys before after more A E = free_more f a b (free_of f a) ys before after more E (hands_rest f a before more A.held)

pub trade_accepted : (f : Form) (a b ys : List ℕ) (before after more : List HandPair) → AcceptWith f a (before ++ more) → FreeExchanged f a b (free_of f a) ys before after → AcceptWith f b (after ++ more)
trade_accepted f a b ys before after more A E = free_exchanged f a b ys (before ++ more) (after ++ more) A (traded f a b ys before after more A E)

pub trade_order : (f : Form) (a b ys : List ℕ) (before after more : List HandPair) → AcceptWith f a (before ++ more) → FreeExchanged f a b (free_of f a) ys before after → order_of f b ≡ order_of f a
trade_order f a b ys before after more A E = free_order f a b ys (before ++ more) (after ++ more) A (traded f a b ys before after more A E)

pub trade_map : (f : Form) (a b ys : List ℕ) (before after more : List HandPair) → AcceptWith f a (before ++ more) → FreeExchanged f a b (free_of f a) ys before after → (q : List ℕ) → map_of f b q ≡ map_of f a q
trade_map f a b ys before after more A E = free_map f a b ys (before ++ more) (after ++ more) A (traded f a b ys before after more A E)

pub trade_list : (f : Form) (a b ys : List ℕ) (before after more : List HandPair) → AcceptWith f a (before ++ more) → FreeExchanged f a b (free_of f a) ys before after → free_of f b ≡ ys
trade_list f a b ys before after more A E = free_list_now f a b ys (before ++ more) (after ++ more) A (traded f a b ys before after more A E)

-- a free record that is taken out is a hand
pub take_accepted : (f : Form) (a b : List ℕ) (hands : List HandPair) (before y : ℕ) → AcceptWith f a hands → Leads free_head (free_of f a) before y → LedPast f a b before y → AcceptWith f b ((y, rec_len_of f.order a y) ∷ hands)
take_accepted f a b hands before y A led L = trade_accepted f a b (without y (free_of f a)) [] ((y, rec_len_of f.order a y) ∷ []) hands A (free_taken f a b (free_of f a) before y (free_is f a hands A) led L)

pub take_map : (f : Form) (a b : List ℕ) (hands : List HandPair) (before y : ℕ) → AcceptWith f a hands → Leads free_head (free_of f a) before y → LedPast f a b before y → (q : List ℕ) → map_of f b q ≡ map_of f a q
take_map f a b hands before y A led L = trade_map f a b (without y (free_of f a)) [] ((y, rec_len_of f.order a y) ∷ []) hands A (free_taken f a b (free_of f a) before y (free_is f a hands A) led L)

-- a hand that is given back is the first free record
pub give_accepted : (f : Form) (a b : List ℕ) (h : HandPair) (hs : List HandPair) → AcceptWith f a (h ∷ hs) → PutFree f a b h → AcceptWith f b hs
give_accepted f a b h hs A P = trade_accepted f a b (h.0 ∷ free_of f a) (h ∷ []) [] hs A (free_given f a b (free_of f a) h (free_is f a (h ∷ hs) A) (free_apart f a h hs A) P)

pub give_map : (f : Form) (a b : List ℕ) (h : HandPair) (hs : List HandPair) → AcceptWith f a (h ∷ hs) → PutFree f a b h → (q : List ℕ) → map_of f b q ≡ map_of f a q
give_map f a b h hs A P = trade_map f a b (h.0 ∷ free_of f a) (h ∷ []) [] hs A (free_given f a b (free_of f a) h (free_is f a (h ∷ hs) A) (free_apart f a h hs A) P)

-- of a free record that is made shorter, the end is a hand
pub cut_accepted : (f : Form) (a b : List ℕ) (hands : List HandPair) (y n m : ℕ) → AcceptWith f a hands → Member y (free_of f a) → Touched f a b y → rec_len_of f.order a y ≡ n + 24 + m → rec_len_of f.order b y ≡ n → IsFree (magic_of f.order b y) → AcceptWith f b ((y + 24 + n, m) ∷ hands)
cut_accepted f a b hands y n m A member T old_len new_len is_free =
    trade_accepted f a b (free_of f a) [] ((y + 24 + n, m) ∷ []) hands A (free_cut f a b (free_of f a) y n m (free_is f a hands A) member T old_len new_len is_free)

pub cut_map : (f : Form) (a b : List ℕ) (hands : List HandPair) (y n m : ℕ) → AcceptWith f a hands → Member y (free_of f a) → Touched f a b y → rec_len_of f.order a y ≡ n + 24 + m → rec_len_of f.order b y ≡ n → IsFree (magic_of f.order b y) → (q : List ℕ) → map_of f b q ≡ map_of f a q
cut_map f a b hands y n m A member T old_len new_len is_free =
    trade_map f a b (free_of f a) [] ((y + 24 + n, m) ∷ []) hands A (free_cut f a b (free_of f a) y n m (free_is f a hands A) member T old_len new_len is_free)
