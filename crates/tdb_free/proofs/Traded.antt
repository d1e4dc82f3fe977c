-- A take and a give change no chain: the image stays accepted, with a hand more or less, and the map stays.
use Rattle.std.proofs.Common.{◌≡◌, ℕ, ◌+◌, ◌-◌, ◌<◌, ◌≤◌, ◌^◌, List, [], ◌∷◌, ◌++◌, length, subst, sym, arith}
use Rattle.std.specs.Prelude.{◌%◌}
use Rattle.tdb_disk.specs.Image.{padded}
use Rattle.tdb_disk.proofs.Image.{length-padded, padded_below}
use Rattle.tdb_space.specs.Form.{Form}
use Rattle.tdb_space.specs.Chain.{free_of}
use Rattle.tdb_space.specs.Extents.{HandPair}
use Rattle.tdb_space.specs.Accepted.{AcceptWith}
use Rattle.tdb_space.specs.Exchange.{FreeExchanged, GrownBy}
use Rattle.tdb_space.specs.Stays.{ChainsStay, FreeStays}
use Rattle.tdb_space.proofs.Accepted.Frees.{traded, trade_accepted, trade_map, trade_list}
use Rattle.tdb_space.proofs.Accepted.Grown.{grow_accepted, grow_map}
use Rattle.tdb_space.proofs.Stays.Changes.{free_changes, grown_changes, grown_free, stays_then}
use Rattle.tdb_free.specs.FreeList.{Given}
use Rattle.tdb_free.specs.TakenFrom.{TakenFrom}
use Rattle.tdb_free.specs.Growth.{CanBeTaken, TakenBy, TakenGrown, grown_hand}
use Rattle.tdb_free.specs.Growth.TakenBy.{as_it_was, after_growth}
use Rattle.tdb_free.proofs.Accepted.{can_be_taken}
use Rattle.tdb_free.proofs.Growth.{Grows, grows}

-- a trade of the free list with hands, where other hands are out
trade_stays : (f : Form) (a b ys : List ℕ) (before after more : List HandPair) → AcceptWith f a (before ++ more) → FreeExchanged f a b (free_of f a) ys before after → ChainsStay f a b (after ++ more)
trade_stays f a b ys before after more A E = record {
  accepted = trade_accepted f a b ys before after more A E;
  map = trade_map f a b ys before after more A E;
  only = free_changes f a b ys (before ++ more) (after ++ more) A (traded f a b ys before after more A E);
}

-- a record can be taken from an accepted image
pub can_take : (f : Form) (a : List ℕ) (hands : List HandPair) → AcceptWith f a hands → length a < 2 ^ 32 → CanBeTaken f a (free_of f a)
can_take f a hands A short = record { listed = can_be_taken f a hands A; aligned = A.sized; above = A.long; short = short }

-- a hand that was given back
pub given_stays : (f : Form) (a b : List ℕ) (h : HandPair) (hands : List HandPair) → AcceptWith f a (h ∷ hands) → Given f a b (free_of f a) h → ChainsStay f a b hands
given_stays f a b h hands A G = trade_stays f a b (G.at ∷ G.stay) (h ∷ []) [] hands A G.exchanged

-- a hand that was taken from the list as it was
from_stays : (f : Form) (a b : List ℕ) (rec_len : ℕ) (h : HandPair) (hands : List HandPair) → AcceptWith f a hands → TakenFrom f a b (free_of f a) rec_len h → ChainsStay f a b (h ∷ hands)
from_stays f a b rec_len h hands A T = trade_stays f a b T.news [] (h ∷ []) hands A T.exchanged

-- a hand that was taken from what the file had grown by: it grew, the gain was given, and the hand was taken from the
-- list then
module _ (f : Form) (a b : List ℕ) (hands : List HandPair) (rec_len limit : ℕ) (h : HandPair) (A : AcceptWith f a hands) (words : rec_len % 4 ≡ 0) (least : 4 ≤ rec_len) (T : TakenGrown f a b (free_of f a) rec_len limit h) where
  abbrev longer : List ℕ
  longer = padded a T.to

  abbrev gained : HandPair
  gained = grown_hand (length a) T.to

  grown : Grows (length a) (24 + rec_len) limit T.to
  grown = grows (length a) (24 + rec_len) limit T.to A.sized (omega (arith, words)) T.grown

  sized : length longer ≡ T.to
  sized = omega (arith, length-padded a T.to, grown.enough)

  growth : GrownBy f a longer (T.to - length a - 24)
  growth = record {
    aligned = omega (arith, grown.whole_words, A.sized, grown.enough);
    size = omega (arith, sized, grown.enough, least);
    others = λ i low. padded_below a T.to i low;
  }

  same : FreeStays f a longer
  same = grown_free f a longer hands A (omega (arith, sized, grown.enough)) (λ i low. padded_below a T.to i low)

  grew : ChainsStay f a longer (gained ∷ hands)
  grew = record {
    accepted = grow_accepted f a longer (T.to - length a - 24) hands A growth;
    map = λ key. grow_map f a longer (T.to - length a - 24) hands A growth key;
    only = grown_changes f a longer hands A (omega (arith, sized, grown.enough)) (λ i low. padded_below a T.to i low);
  }

  gave_exchanged : FreeExchanged f longer T.given (free_of f longer) (T.gain.at ∷ T.gain.stay) (gained ∷ []) []
  gave_exchanged = subst (λ offs. FreeExchanged f longer T.given offs (T.gain.at ∷ T.gain.stay) (gained ∷ []) []) (sym same.same_offsets) T.gain.exchanged

  gave : ChainsStay f longer T.given hands
  gave = trade_stays f longer T.given (T.gain.at ∷ T.gain.stay) (gained ∷ []) [] hands grew.accepted gave_exchanged

  list_now : free_of f T.given ≡ T.gain.at ∷ T.gain.stay
  list_now = trade_list f longer T.given (T.gain.at ∷ T.gain.stay) (gained ∷ []) [] hands grew.accepted gave_exchanged

  took_exchanged : FreeExchanged f T.given b (free_of f T.given) T.taken.news [] (h ∷ [])
  took_exchanged = subst (λ offs. FreeExchanged f T.given b offs T.taken.news [] (h ∷ [])) (sym list_now) T.taken.exchanged

  took : ChainsStay f T.given b (h ∷ hands)
  took = trade_stays f T.given b T.taken.news [] (h ∷ []) hands gave.accepted took_exchanged

  grown_stays : ChainsStay f a b (h ∷ hands)
  grown_stays =
      stays_then f a T.given b hands (h ∷ hands) (stays_then f a longer T.given (gained ∷ hands) hands grew gave) took

-- a hand that was taken, from the list as it was or after the file had grown
pub taken_stays : (f : Form) (a b : List ℕ) (hands : List HandPair) (rec_len limit : ℕ) (h : HandPair) → AcceptWith f a hands → rec_len % 4 ≡ 0 → 4 ≤ rec_len → TakenBy f a b (free_of f a) rec_len limit h → ChainsStay f a b (h ∷ hands)
taken_stays f a b hands rec_len limit h A words least (as_it_was T) = from_stays f a b rec_len h hands A T
taken_stays f a b hands rec_len limit h A words least (after_growth T) = grown_stays f a b hands rec_len limit h A words least T
