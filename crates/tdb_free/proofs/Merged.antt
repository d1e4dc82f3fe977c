-- A hand and the free records beside it become the first record of the free list.
use Rattle.std.proofs.Common.{◌≡◌, ℕ, ◌+◌, ◌^◌, ◌<◌, List, [], ◌∷◌, ◌++◌, Option, Some, None, refl, sym, ◌∙◌, ap, subst, inl, inr, arith}
use Rattle.std.specs.List.{find}
use Rattle.std.proofs.lemmas.Bool.{eqb-true}
use Rattle.tdb_words.specs.Word.{word}
use Rattle.tdb_space.specs.Form.{Form, free_head}
use Rattle.tdb_space.specs.Record.{IsFree, rec_len_of}
use Rattle.tdb_space.specs.Extents.{HandPair, HandOk, times, once}
use Rattle.tdb_space.specs.Exchange.{FreeExchanged}
use Rattle.tdb_space.proofs.Extents.Counts.{where_is, once_joined}
use Rattle.tdb_space.proofs.Extents.Counts.Lies.{lies, below, above}
use Rattle.tdb_space.proofs.Accepted.Hands.{hands_kept}
use Rattle.tdb_space.proofs.Exchange.Kept.{Still, bodies_still, times_within}
use Rattle.tdb_space.proofs.Chain.Trades.{free_given, free_more, free_met_hands, free_then}
use Rattle.tdb_space.specs.Stays.{OnlyIn}
use Rattle.tdb_free.specs.FreeList.{CanBeGiven, Given, MadeFirst, free_pairs, without_first, words_at, put_words, end_of, starts_at, ends_at, with_next, with_previous}
use Rattle.tdb_free.specs.Search.{spot_pair}
use Rattle.tdb_free.specs.Stretch.{found_pair, found_offsets}
use Rattle.tdb_free.specs.Removal.{rest_of}
use Rattle.tdb_free.specs.declared.search.Spot.{Spot}
use Rattle.tdb_free.proofs.TakenAs.{found_passes}
use Rattle.tdb_free.proofs.Removed.{TakenOut, free_is_listed, pairs_same}

-- two hands that meet, as one: it is in place, and has their bytes
both_in_place : (f : Form) (a : List ℕ) (u v : HandPair) → end_of u ≡ v.0 → HandOk f a u → HandOk f a v → HandOk f a (u.0, u.1 + (24 + v.1))
both_in_place f a u v meet first second = record {
  aligned = first.aligned;
  len_aligned = omega (arith, first.len_aligned, second.len_aligned);
  above = first.above;
  within = omega (arith, second.within, meet);
}

both_held : (u v : HandPair) (i : ℕ) → end_of u ≡ v.0 → once (u.0, 24 + (u.1 + (24 + v.1))) i ≡ once (u.0, 24 + u.1) i + once (v.0, 24 + v.1) i
both_held u v i meet =
    let total : 24 + (u.1 + (24 + v.1)) ≡ 24 + u.1 + (24 + v.1) = omega arith in
    let place : u.0 + (24 + u.1) ≡ v.0 = omega (arith, meet) in
    ap (λ l. once (u.0, l) i) total ∙ once_joined u.0 (24 + u.1) (24 + v.1) i ∙ ap (λ at. once (u.0, 24 + u.1) i + once (at, 24 + v.1) i) place

-- a hand takes up the free record behind it
pub next_joined : (f : Form) (a b offs : List ℕ) (h : HandPair) (found : Option Spot) → HandOk f a h → (T : TakenOut f a b offs (starts_at (end_of h)) found) → FreeExchanged f a b offs (rest_of found offs) (h ∷ []) (with_next h (found_pair found) ∷ [])
next_joined f a b offs h None ok T = free_more f a b offs offs [] [] (h ∷ []) T.exchanged (ok, tt)
next_joined f a b offs h (Some p) ok T =
    let meet : end_of h ≡ p.off = sym (eqb-true p.off (end_of h) (found_passes (starts_at (end_of h)) (free_pairs f a offs) (spot_pair p) T.first)) in
    free_met_hands f a b offs (rest_of (Some p) offs) (h ∷ []) (spot_pair p ∷ h ∷ []) ((h.0, h.1 + (24 + p.rec_len)) ∷ []) (free_more f a b offs (rest_of (Some p) offs) [] (spot_pair p ∷ []) (h ∷ []) T.exchanged (ok, tt))
    (both_in_place f a h (spot_pair p) meet ok T.exchanged.held.0, tt) (λ i. omega (arith, both_held h (spot_pair p) i meet))

-- and the one before it
pub previous_joined : (f : Form) (a b offs : List ℕ) (at : ℕ) (h : HandPair) (found : Option Spot) → at ≡ h.0 → HandOk f a h → (T : TakenOut f a b offs (ends_at at) found) → FreeExchanged f a b offs (rest_of found offs) (h ∷ []) (with_previous h (found_pair found) ∷ [])
previous_joined f a b offs at h None starts ok T = free_more f a b offs offs [] [] (h ∷ []) T.exchanged (ok, tt)
previous_joined f a b offs at h (Some p) starts ok T =
    let meet : end_of (spot_pair p) ≡ h.0 = eqb-true (end_of (spot_pair p)) at (found_passes (ends_at at) (free_pairs f a offs) (spot_pair p) T.first) ∙ starts in
    free_met_hands f a b offs (rest_of (Some p) offs) (h ∷ []) (spot_pair p ∷ h ∷ []) ((p.off, p.rec_len + (24 + h.1)) ∷ []) (free_more f a b offs (rest_of (Some p) offs) [] (spot_pair p ∷ []) (h ∷ []) T.exchanged (ok, tt))
    (both_in_place f a (spot_pair p) h meet T.exchanged.held.0 ok, tt) (λ i. omega (arith, both_held (spot_pair p) h i meet))

-- then the joined hand can be given to the list that is left
still_given : (f : Form) (a b offs news : List ℕ) (h r : HandPair) → CanBeGiven f a offs h → FreeExchanged f a b offs news (h ∷ []) (r ∷ []) → CanBeGiven f b news r
still_given f a b offs news h r C E = record {
  listed = record { list = E.linked; once_held = λ i. omega (arith, E.count i, C.apart i) };
  in_place = (hands_kept f a b (r ∷ []) (omega (arith, E.size)) E.held).0;
  apart = λ i. omega (arith, E.count i, C.apart i);
  short = subst (λ n. n < 2 ^ 32) (sym E.size) C.short;
}

-- the word of the record before the hand is in the header of what they make
previous_word : (h : HandPair) (found : Option Spot) (i : ℕ) → once ((with_previous h (found_pair found)).0, 24) i ≡ 0 → times (words_at (found_offsets found)) i ≡ 0
previous_word h None i none = refl
previous_word h (Some p) i none = omega (arith, none, once_joined p.off 4 20 i)

pub next_starts : (h : HandPair) (found : Option Spot) → h.0 ≡ (with_next h (found_pair found)).0
next_starts h None = refl
next_starts h (Some p) = refl

module _ (f : Form) (a b offs : List ℕ) (h : HandPair) (next : Option Spot) (C : CanBeGiven f a offs h) (T : TakenOut f a b offs (starts_at (end_of h)) next) where
  -- with what starts behind it, the hand can be given to what is left
  pub given_next : CanBeGiven f b (rest_of next offs) (with_next h (found_pair next))
  given_next = still_given f a b offs (rest_of next offs) h (with_next h (found_pair next)) C (next_joined f a b offs h next C.in_place T)

  module _ (c : List ℕ) (previous : Option Spot) (U : TakenOut f b c (rest_of next offs) (ends_at h.0) previous) where
    abbrev joined : HandPair
    joined = with_previous (with_next h (found_pair next)) (found_pair previous)

    second : FreeExchanged f b c (rest_of next offs) (rest_of previous (rest_of next offs)) (with_next h (found_pair next) ∷ []) (joined ∷ [])
    second = previous_joined f b c (rest_of next offs) h.0 (with_next h (found_pair next)) previous (next_starts h next) given_next.in_place U

    -- and with what ends before it too
    pub given_both : CanBeGiven f c (rest_of previous (rest_of next offs)) joined
    given_both = still_given f b c (rest_of next offs) (rest_of previous (rest_of next offs)) (with_next h (found_pair next)) joined given_next second

    -- what is written then makes it the first record
    pub given_made : (d : List ℕ) → MadeFirst f c d joined → Given f a d offs h
    given_made d M =
        let G = given_both in
        let P = M.put in
        let first_trade = next_joined f a b offs h next C.in_place T in
        let last_trade = free_given f c d (rest_of previous (rest_of next offs)) joined (free_is_listed f c (rest_of previous (rest_of next offs)) G.listed) G.apart P in
        let still : Still c d f (rest_of previous (rest_of next offs)) = λ i some.
        P.high i (times_within f IsFree c (word f.order c free_head) (rest_of previous (rest_of next offs)) i G.listed.list some).0
        (elim (where_is (joined.0, 24 + joined.1) i) [ lies _ _ one ↦ absurd (omega (arith, one, some, G.apart i)) | below under _ ↦ inl under | above over _ ↦ inr (omega (arith, over)) ]) in
        let kept : free_pairs f d (rest_of previous (rest_of next offs)) ≡ free_pairs f c (rest_of previous (rest_of next offs)) = pairs_same f c d (rest_of previous (rest_of next offs)) (bodies_still f c d (rest_of previous (rest_of next offs)) still) in
        let rest : free_pairs f d (rest_of previous (rest_of next offs)) ≡ without_first (ends_at h.0) (without_first (starts_at (end_of h)) (free_pairs f a offs)) = kept ∙ U.pairs ∙ ap (without_first (ends_at h.0)) T.pairs in
        let found : found_pair previous ≡ find (ends_at h.0) (without_first (starts_at (end_of h)) (free_pairs f a offs)) = sym U.first ∙ ap (find (ends_at h.0)) T.pairs in
        let length_there : rec_len_of f.order d joined.0 ≡ joined.1 = P.length_kept in
        let head : (joined.0, rec_len_of f.order d joined.0) ≡ joined = λ j. (joined.0, length_there j) in
        let named : joined ≡ with_previous (with_next h (find (starts_at (end_of h)) (free_pairs f a offs))) (find (ends_at h.0) (without_first (starts_at (end_of h)) (free_pairs f a offs))) = λ j. with_previous (with_next h (sym T.first j)) (found j) in
        record {
          at = joined.0;
          stay = rest_of previous (rest_of next offs);
          pairs = λ j. (head ∙ named) j ∷ rest j;
          exchanged = free_then f a c d offs (rest_of previous (rest_of next offs)) (joined.0 ∷ (rest_of previous (rest_of next offs))) (h ∷ []) (joined ∷ []) []
              (free_then f a b c offs (rest_of next offs) (rest_of previous (rest_of next offs)) (h ∷ []) (with_next h (found_pair next) ∷ []) (joined ∷ []) first_trade second) last_trade;
          empty = M.empty;
          others = subst (λ n. OnlyIn (put_words (joined.0, n) ++ words_at (rest_of previous (rest_of next offs))) a d) (sym length_there) (λ i none.
              (let gone = previous_word (with_next h (found_pair next)) previous i (omega (arith, none)) in
              M.others i (omega (arith, none)) ∙ U.others i (omega (arith, none)) ∙ T.others i (omega (arith, none, U.words i, gone))));
        }
