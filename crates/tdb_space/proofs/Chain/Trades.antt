-- Trades between the free list and hands: one record is taken out, one is put in front, one is cut where it stands.
-- They need no accepted image: just a list of free records whose bytes, and those of the hands, are held once.
use Rattle.std.proofs.Common.{◌≡◌, ℕ, ◌+◌, ◌≤◌, List, [], ◌∷◌, ◌++◌, refl, sym, ◌∙◌, ap, subst, inl, inr, arith}
use Rattle.std.proofs.lemmas.Bool.{cases_lt}
use Rattle.tdb_words.specs.Word.{word}
use Rattle.tdb_words.proofs.Words.{word_agrees}
use Rattle.tdb_space.specs.Form.{Form, free_head, data_start}
use Rattle.tdb_space.specs.Record.{IsFree, rec_len_of, magic_of}
use Rattle.tdb_space.specs.Chain.{Linked, Free, Member, Leads, without}
use Rattle.tdb_space.specs.Extents.{HandPair, AllHandOk, times, once, extents, extent_at, hand_extents}
use Rattle.tdb_space.specs.Exchange.{FreeExchanged, LedPast, PutFree, Touched}
use Rattle.tdb_space.proofs.Extents.Counts.{where_is, once_in, once_joined, times-append}
use Rattle.tdb_space.proofs.Extents.Counts.Lies.{lies, below, above}
use Rattle.tdb_space.proofs.Exchange.Kept.{Still, bodies_still, nexts_still, linked_kept, extents_kept, times_within}
use Rattle.tdb_space.proofs.Chain.Walks.{linked_whole}
use Rattle.tdb_space.proofs.Chain.Members.{member_held, led_member, led_from}
use Rattle.tdb_space.proofs.Accepted.Hands.{hands_kept}
use Rattle.tdb_space.proofs.Chain.Unlinks.{unlinked, unlinked_count, changed_word}
use Rattle.tdb_space.proofs.Chain.Touches.{touched_beside, linked_touched, times_touched}

-- these are the records of the free list, and each byte of them is held once
pub record FreeIs (f : Form) (a xs : List ℕ) : Type 0 where
  pub list : Free f a (word f.order a free_head) xs
  pub once_held : (i : ℕ) → times (extents f.order a xs) i ≤ 1

-- a record is taken out of the free list: it is a hand
pub free_taken : (f : Form) (a b xs : List ℕ) (before y : ℕ) → FreeIs f a xs → Leads free_head xs before y → LedPast f a b before y → FreeExchanged f a b xs (without y xs) [] ((y, rec_len_of f.order a y) ∷ [])
free_taken f a b xs before y F led L =
    let low_head : free_head + 4 ≤ data_start f = omega arith in
    let whole = (linked_whole f IsFree a (word f.order a free_head) xs y F.list (led_member free_head xs before y led)).0 in
    record {
      size = L.size;
      low = λ i under apart.
          elim (cases_lt i before) [
            | inl less ↦ L.others i (inl less)
            | inr high ↦
                elim (cases_lt i (before + 4)) [
                  | inl within ↦
                      elim (led_from free_head xs before y led) [
                        | inl e ↦ elim apart [ inl left ↦ absurd (omega (arith, left, high, e)) | inr right ↦ absurd (omega (arith, right, within, e)) ]
                        | inr m ↦ absurd (omega (arith, under, high, (linked_whole f IsFree a (word f.order a free_head) xs before F.list m).0.above))
                      ]
                  | inr over ↦ L.others i (inr over)
                ]
          ];
      high = λ i from none.
          elim (cases_lt i before) [
            | inl less ↦ L.others i (inl less)
            | inr high ↦
                elim (cases_lt i (before + 4)) [
                  | inl within ↦
                      elim (changed_word f IsFree a b free_head xs before y F.list low_head F.once_held led L i high within) [
                        | inl under ↦ absurd (omega (arith, under, from))
                        | inr some ↦ absurd (omega (arith, some, none))
                      ]
                  | inr over ↦ L.others i (inr over)
                ]
          ];
      linked = unlinked f IsFree a b free_head xs before y F.list low_head F.once_held led L;
      held = (record { aligned = whole.aligned; len_aligned = whole.len_aligned; above = whole.above; within = whole.within }, tt);
      count = λ i. omega (arith, unlinked_count f IsFree a b free_head xs before y F.list low_head F.once_held led L i);
    }

-- a hand is put in front of the free list
pub free_given : (f : Form) (a b xs : List ℕ) (h : HandPair) → FreeIs f a xs → ((i : ℕ) → times (extents f.order a xs) i + once (h.0, 24 + h.1) i ≤ 1) → PutFree f a b h → FreeExchanged f a b xs (h.0 ∷ xs) (h ∷ []) []
free_given f a b xs h F apart P =
    let still : Still a b f xs = λ i some.
    P.high i (times_within f IsFree a (word f.order a free_head) xs i F.list some).0
    (elim (where_is (h.0, 24 + h.1) i) [ lies _ _ one ↦ absurd (omega (arith, one, some, apart i)) | below under _ ↦ inl under | above over _ ↦ inr (omega (arith, over)) ]) in
    record {
      size = P.size;
      low = P.low;
      high = λ i from none. P.high i from (elim (where_is (h.0, 24 + h.1) i) [ lies _ _ one ↦ absurd (omega (arith, one, none)) | below under _ ↦ inl under | above over _ ↦ inr (omega (arith, over)) ]);
      linked = (
        P.head,
        P.whole,
        P.is_free,
        subst (λ at. Linked f IsFree b at xs) (sym P.next)
            (linked_kept f IsFree a b (word f.order a free_head) xs (omega (arith, P.size)) F.list (bodies_still f a b xs still) (nexts_still f a b xs still)),
      );
      held = tt;
      count = λ i.
          (let old : times (extents f.order b xs) i ≡ times (extents f.order a xs) i = ap (λ es. times es i) (extents_kept f a b xs (bodies_still f a b xs still)) in
          let new : once (h.0, 24 + rec_len_of f.order b h.0) i ≡ once (h.0, 24 + h.1) i = ap (λ n. once (h.0, 24 + n) i) P.length_kept in
          omega (arith, old, new));
    }

-- a free record is made shorter where it stands, and what is behind it is a hand
pub free_cut : (f : Form) (a b xs : List ℕ) (y n m : ℕ) → FreeIs f a xs → Member y xs → Touched f a b y → rec_len_of f.order a y ≡ n + 24 + m → rec_len_of f.order b y ≡ n → IsFree (magic_of f.order b y) → FreeExchanged f a b xs xs [] ((y + 24 + n, m) ∷ [])
free_cut f a b xs y n m F member T old_len new_len is_free =
    let whole = (linked_whole f IsFree a (word f.order a free_head) xs y F.list member).0 in
    let beside = touched_beside f IsFree a b (word f.order a free_head) xs y F.list F.once_held member T in
    record {
      size = T.size;
      low = λ i under apart. T.others i (inl (omega (arith, under, whole.above)));
      high = λ i from none.
          elim (cases_lt i (y + 4)) [
            | inl under ↦ T.others i (inl under)
            | inr high ↦
                elim (cases_lt i (y + 24 + rec_len_of f.order a y)) [
                  | inl within ↦ absurd (omega (arith, none, member_held f.order a xs y i member, once_in (extent_at f.order a y) i (omega arith) (omega arith)))
                  | inr over ↦ T.others i (inr over)
                ]
          ];
      linked = subst (λ at. Linked f IsFree b at xs) (sym (word_agrees f.order b a free_head (λ i from to. T.others i (inl (omega (arith, whole.above))))))
          (linked_touched f IsFree a b (word f.order a free_head) xs y F.list beside is_free);
      held = (
        record {
          aligned = omega (arith, whole.aligned, T.whole.len_aligned, new_len);
          len_aligned = omega (arith, whole.len_aligned, old_len, T.whole.len_aligned, new_len);
          above = omega (arith, whole.above);
          within = omega (arith, whole.within, old_len);
        },
        tt,
      );
      count = λ i.
          (let split = once_joined y (24 + n) (24 + m) i in
          let total : 24 + (n + 24 + m) ≡ 24 + n + (24 + m) = omega arith in
          let place : y + 24 + n ≡ y + (24 + n) = omega arith in
          let old : once (y, 24 + rec_len_of f.order a y) i ≡ once (y, 24 + n + (24 + m)) i = ap (λ l. once (y, 24 + l) i) old_len ∙ ap (λ l. once (y, l) i) total in
          let new : once (y, 24 + rec_len_of f.order b y) i ≡ once (y, 24 + n) i = ap (λ l. once (y, 24 + l) i) new_len in
          let rest : once (y + 24 + n, 24 + m) i ≡ once (y + (24 + n), 24 + m) i = ap (λ p. once (p, 24 + m) i) place in
          omega (arith, split, old, new, rest, times_touched f IsFree a b (word f.order a free_head) xs y i F.list beside member));
    }

-- two trades, one after the other
pub free_then : (f : Form) (a b c xs ys zs : List ℕ) (first middle last : List HandPair) → FreeExchanged f a b xs ys first middle → FreeExchanged f b c ys zs middle last → FreeExchanged f a c xs zs first last
free_then f a b c xs ys zs first middle last E G = record {
  size = G.size ∙ E.size;
  low = λ i under apart. G.low i under apart ∙ E.low i under apart;
  high = λ i from none. G.high i from (E.count i ∙ none) ∙ E.high i from none;
  linked = G.linked;
  held = hands_kept f b a last (omega (arith, E.size)) G.held;
  count = λ i. G.count i ∙ E.count i;
}

-- the hands that are left may stand as others that hold the same bytes
pub free_met_hands : (f : Form) (a b xs ys : List ℕ) (before after others : List HandPair) → FreeExchanged f a b xs ys before after → AllHandOk f a others → ((i : ℕ) → times (hand_extents others) i ≡ times (hand_extents after) i) → FreeExchanged f a b xs ys before others
free_met_hands f a b xs ys before after others E held same = record {
  size = E.size;
  low = E.low;
  high = E.high;
  linked = E.linked;
  held = held;
  count = λ i. omega (arith, same i, E.count i);
}

-- and so may the hands that there were
pub free_had_hands : (f : Form) (a b xs ys : List ℕ) (before others after : List HandPair) → FreeExchanged f a b xs ys before after → ((i : ℕ) → times (hand_extents others) i ≡ times (hand_extents before) i) → FreeExchanged f a b xs ys others after
free_had_hands f a b xs ys before others after E same = record {
  size = E.size;
  low = E.low;
  high = λ i from none. E.high i from (omega (arith, same i, none));
  linked = E.linked;
  held = E.held;
  count = λ i. omega (arith, same i, E.count i);
}

-- hands that take no part
pub hand_extents-append : (hs gs : List HandPair) → hand_extents (hs ++ gs) ≡ hand_extents hs ++ hand_extents gs
hand_extents-append [] gs = refl
hand_extents-append (h ∷ hs) gs = ap (λ es. (h.0, 24 + h.1) ∷ es) (hand_extents-append hs gs)

pub hands_both : (f : Form) (a : List ℕ) (hs gs : List HandPair) → AllHandOk f a hs → AllHandOk f a gs → AllHandOk f a (hs ++ gs)
hands_both f a [] gs p q = q
hands_both f a (h ∷ hs) gs p q = (p.0, hands_both f a hs gs p.1 q)

times_both : (hs gs : List HandPair) (i : ℕ) → times (hand_extents (hs ++ gs)) i ≡ times (hand_extents hs) i + times (hand_extents gs) i
times_both hs gs i = ap (λ es. times es i) (hand_extents-append hs gs) ∙ times-append (hand_extents hs) (hand_extents gs) i

pub free_more : (f : Form) (a b xs ys : List ℕ) (before after more : List HandPair) → FreeExchanged f a b xs ys before after → AllHandOk f a more → FreeExchanged f a b xs ys (before ++ more) (after ++ more)
free_more f a b xs ys before after more E held = record {
  size = E.size;
  low = E.low;
  high = λ i from none. E.high i from (omega (arith, none, times_both before more i));
  linked = E.linked;
  held = hands_both f a after more E.held held;
  count = λ i. omega (arith, E.count i, times_both before more i, times_both after more i);
}
