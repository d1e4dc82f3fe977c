-- Where a give stops: at each of its writes a free list stands at the head, and no other byte of the file changed.
use Rattle.std.proofs.Common.{◌≡◌, ℕ, ◌+◌, ◌<◌, ◌⊎◌, List, [], ◌∷◌, Option, length, refl, sym, ◌∙◌, ap, subst, inl, inr, arith}
use Rattle.std.specs.Prelude.{slice_index}
use Rattle.std.proofs.lemmas.Bool.{cases_lt}
use Rattle.tdb_words.specs.Word.{word}
use Rattle.tdb_words.proofs.Words.{word_agrees}
use Rattle.tdb_space.specs.Form.{Form, data_start, free_head}
use Rattle.tdb_space.specs.Record.{IsFree}
use Rattle.tdb_space.specs.Chain.{Free, Linked, free_of}
use Rattle.tdb_space.specs.Extents.{HandPair, AllHandOk, once, times, extents, hand_extents}
use Rattle.tdb_space.specs.Accepted.{AcceptWith}
use Rattle.tdb_space.specs.Exchange.{FreeExchanged, InHands}
use Rattle.tdb_space.proofs.Extents.Counts.{once_out}
use Rattle.tdb_space.proofs.Accepted.Frees.{trade_accepted, trade_order}
use Rattle.tdb_space.proofs.Exchange.Kept.{Still, bodies_still, extents_kept, list_left}
use Rattle.tdb_space.proofs.Exchange.Overlaid.{outside}
use Rattle.tdb_space.proofs.Chain.Trades.{free_then}
use Rattle.tdb_free.specs.FreeList.{CanBeGiven, Given, MadeFirst, free_pairs, without_first, ends_at, with_next, with_previous}
use Rattle.tdb_free.specs.GiveStopped.{GiveStopped, OnTheWay, StillAccepted}
use Rattle.tdb_free.specs.GiveStopped.OnTheWay.{as_it_was, without_next, without_both, given}
use Rattle.tdb_free.specs.OnlyList.{OnlyListChanges}
use Rattle.tdb_free.specs.Removal.{LeftOut, rest_of}
use Rattle.tdb_free.specs.Search.{Beside, previous_then}
use Rattle.tdb_free.specs.Stretch.{found_pair}
use Rattle.tdb_free.specs.declared.neighbours.Neighbours.{Neighbours}
use Rattle.tdb_free.specs.declared.search.Spot.{Spot}
use Rattle.tdb_free.proofs.GiveSteps.{next_out, given_then, previous_out, given_steps}
use Rattle.tdb_free.proofs.Merged.{next_joined, previous_joined, next_starts}
use Rattle.tdb_free.proofs.Removed.{pairs_same}

-- what is exchanged between the free list and hands changes no other byte
pub exchanged_only : (f : Form) (a b offs news : List ℕ) (before after : List HandPair) → FreeExchanged f a b offs news before after → OnlyListChanges f a b offs before
exchanged_only f a b offs news before after E = record {
  longer = omega (arith, E.size);
  header = λ i low. E.low i (omega (arith, low)) (inl low);
  others = λ i _ none.
      elim (cases_lt i (data_start f)) [
        | inl under ↦ let beside : once (free_head, 4) i ≡ 0 = omega (arith, none) in E.low i under (outside (free_head, 4) i beside)
        | inr from ↦ E.high i from (omega (arith, none))
      ];
}

-- where nothing changed
pub same_only : (f : Form) (a b offs : List ℕ) (hands : List HandPair) → b ≡ a → OnlyListChanges f a b offs hands
same_only f a b offs hands e = record {
  longer = omega (arith, ap length e);
  header = λ i _. ap (λ img. slice_index img i) e;
  others = λ i _ _. ap (λ img. slice_index img i) e;
}

-- hands in place are behind the heads of the chains
pub hands_above : (f : Form) (a : List ℕ) (hands : List HandPair) (i : ℕ) → AllHandOk f a hands → i < data_start f → times (hand_extents hands) i ≡ 0
hands_above f a [] i held under = refl
hands_above f a (h ∷ hs) i held under = omega (arith, once_out (h.0, 24 + h.1) i (inl (omega (arith, under, held.0.above))), hands_above f a hs i held.1 under)

-- after a trade of the free list with a hand, bytes of the hands that are out then may change too
module _ (f : Form) (a c d offs news : List ℕ) (h : HandPair) (out : List HandPair) (C : CanBeGiven f a offs h) (E : FreeExchanged f a c offs news (h ∷ []) out) (I : InHands f c d out) where
  still : Still c d f news
  still i some = I.others i (omega (arith, some, E.count i, C.apart i))

  same : extents f.order d news ≡ extents f.order c news
  same = extents_kept f c d news (bodies_still f c d news still)

  head : word f.order d free_head ≡ word f.order c free_head
  head = word_agrees f.order d c free_head (λ i from to. I.others i (hands_above f a out i E.held (omega (arith, to))))

  linked : Free f d (word f.order d free_head) news
  linked = subst (λ at. Linked f IsFree d at news) (sym head) (list_left f IsFree c d (word f.order c free_head) news (omega (arith, I.size)) E.linked still)

  exchanged : FreeExchanged f a d offs news (h ∷ []) out
  exchanged = record {
    size = I.size ∙ E.size;
    low = λ i under beside. I.others i (hands_above f a out i E.held under) ∙ E.low i under beside;
    high = λ i from none. I.others i (omega (arith, none, E.count i)) ∙ E.high i from none;
    linked = linked;
    held = E.held;
    count = λ i. ap (λ es. times es i + times (hand_extents out) i) same ∙ E.count i;
  }

  pub stopped_there : OnTheWay (free_pairs f a offs) h (free_pairs f c news) → GiveStopped f a d offs h
  stopped_there way = record {
    news = news;
    out = out;
    listed = record { list = linked; once_held = λ i. omega (arith, exchanged.count i, C.apart i) };
    exchanged = exchanged;
    on_the_way = subst (OnTheWay (free_pairs f a offs) h) (sym (pairs_same f c d news (bodies_still f c d news still))) way;
  }

in_hands_same : (f : Form) (a : List ℕ) (hands : List HandPair) → InHands f a a hands
in_hands_same f a hands = record { size = refl; others = λ i none. refl }

-- before anything was written
pub stopped_before : (f : Form) (a d offs : List ℕ) (h : HandPair) → CanBeGiven f a offs h → d ≡ a → GiveStopped f a d offs h
stopped_before f a d offs h C e =
    let E : FreeExchanged f a a offs offs (h ∷ []) (h ∷ []) = record { size = refl; low = λ i _ _. refl; high = λ i _ _. refl; linked = C.listed.list; held = (C.in_place, tt); count = λ i. refl } in
    subst (λ img. GiveStopped f a img offs h) (sym e) (stopped_there f a a a offs offs h (h ∷ []) C E (in_hands_same f a (h ∷ [])) (as_it_was refl))

-- after the give
pub stopped_given : (f : Form) (a d offs : List ℕ) (h : HandPair) → CanBeGiven f a offs h → Given f a d offs h → GiveStopped f a d offs h
stopped_given f a d offs h C G = stopped_there f a d d offs (G.at ∷ G.stay) h [] C G.exchanged (in_hands_same f d []) (given G.pairs)

module _ (f : Form) (a offs : List ℕ) (h : HandPair) (found : Neighbours) (C : CanBeGiven f a offs h) (B : Beside f a offs h found) (b : List ℕ) (N : LeftOut f a b found.next) where
  abbrev rest : List ℕ
  rest = rest_of found.next offs

  abbrev with_behind : HandPair
  with_behind = with_next h (found_pair found.next)

  first_trade : FreeExchanged f a b offs rest (h ∷ []) (with_behind ∷ [])
  first_trade = next_joined f a b offs h found.next C.in_place (next_out f a offs h found C B b N)

  -- after the record behind the hand left the list
  pub stopped_next : GiveStopped f a b offs h
  stopped_next =
      stopped_there f a b b offs rest h (with_behind ∷ []) C first_trade (in_hands_same f b (with_behind ∷ [])) (without_next (next_out f a offs h found C B b N).pairs)

  module _ (c : List ℕ) (P : LeftOut f b c (previous_then found.next found.previous)) where
    abbrev before : Option Spot
    before = previous_then found.next found.previous

    abbrev joined : HandPair
    joined = with_previous with_behind (found_pair before)

    both_trades : FreeExchanged f a c offs (rest_of before rest) (h ∷ []) (joined ∷ [])
    both_trades =
        free_then f a b c offs rest (rest_of before rest) (h ∷ []) (with_behind ∷ []) (joined ∷ []) first_trade
        (previous_joined f b c rest h.0 with_behind before (next_starts h found.next) (given_then f a offs h found C B b N).in_place (previous_out f a offs h found C B b N c P))

    way : OnTheWay (free_pairs f a offs) h (free_pairs f c (rest_of before rest))
    way = without_both ((previous_out f a offs h found C B b N c P).pairs ∙ ap (without_first (ends_at h.0)) (next_out f a offs h found C B b N).pairs)

    -- after the one before it left too
    pub stopped_both : GiveStopped f a c offs h
    stopped_both = stopped_there f a c c offs (rest_of before rest) h (joined ∷ []) C both_trades (in_hands_same f c (joined ∷ [])) way

    -- while what they make with the hand is written, and after its header and tailer lead on in the list
    pub stopped_last : (d : List ℕ) → InHands f c d (with_previous (with_next h (found_pair found.next)) (found_pair (previous_then found.next found.previous)) ∷ []) ⊎ MadeFirst f c d (with_previous (with_next h (found_pair found.next)) (found_pair (previous_then found.next found.previous))) → GiveStopped f a d offs h
    stopped_last d (inl inside) = stopped_there f a c d offs (rest_of before rest) h (joined ∷ []) C both_trades inside way
    stopped_last d (inr made) = stopped_given f a d offs h C (given_steps f a offs h found C B b N c P d made)

-- an accepted image stays accepted where a give stops
pub still_accepted : (f : Form) (a b : List ℕ) (h : HandPair) (others : List HandPair) → AcceptWith f a (h ∷ others) → GiveStopped f a b (free_of f a) h → StillAccepted f a b others
still_accepted f a b h others A S = record {
  out = S.out;
  accepted = trade_accepted f a b S.news (h ∷ []) S.out others A S.exchanged;
  same_pairs = trade_order f a b S.news (h ∷ []) S.out others A S.exchanged;
}
