-- The first conflict of a wanted range, found piece by piece.
use Rattle.std.proofs.Common.{◌≡◌, ◌≢◌, ◌≤◌, ◌<◌, ◌+◌, ◌++◌, ◌∷◌, ◌∙◌, ◌⊎◌, [], All, Any, List, MatchOption, None, Option, Some, ap, arith, false, get_or, length, nat_le, refl, subst, take, true, ℕ, inl, inr}
use Rattle.std.proofs.lemmas.Bool.{both_ways, cases_lt, cond_both, leb-false, leb-true}
use Rattle.std.proofs.lemmas.Bool.Decides.{nat_tests}
use Rattle.std.proofs.lemmas.List.{get_or-take, get_or_append_left, get_or_default, length-take, length_push, take_more}
use Rattle.std.proofs.lemmas.List.Elements.{All-nil, All-push, All-weaker}
use Rattle.std.proofs.lemmas.List.Quantifiers.{Any-push}
use Rattle.tdb_locks.proofs.Finding.{covered-held, held-covered}
use Rattle.tdb_locks.specs.Conflict.{Found, IsSoonest, clash, clash_at, clashing, sooner}
use Rattle.tdb_locks.specs.LockTable.{Conflicts, IsFirstConflict, IsFree, IsPiece, IsTable, covers, held, kinds_conflict}
use Rattle.tdb_locks.specs.declared.conflict.Conflict.{Conflict}
use Rattle.tdb_locks.specs.declared.conflict.Want.{Want}
use Rattle.tdb_locks.specs.declared.kind.Kind.{Kind}
use Rattle.tdb_locks.specs.declared.piece.Piece.{Piece}

Any-longer : (P : Piece → Type 0) (ps : List Piece) (p : Piece) → Any P ps → Any P (ps ++ p ∷ [])
Any-longer P ps p (k, x, within, is, holds) = (k, x, omega (arith, length_push ps p), get_or_append_left ps (p ∷ []) x k within ∙ is, holds)

-- what the search keeps of a piece: it has no conflict, or none sooner than c
abbrev NoSooner : Want → Conflict → Piece → Type 0
NoSooner want c p = clashing p want ≡ true → (c.byte < clash_at p want) ⊎ ((c.byte ≡ clash_at p want) × (c.owner ≤ p.owner))

pub Found-none : (want : Want) → Found [] want None
Found-none want = All-nil (λ p. clashing p want ≡ false)

pub Found-skip : (ps : List Piece) (want : Want) (first : Option Conflict) (p : Piece) → clashing p want ≡ false → Found ps want first → Found (ps ++ p ∷ []) want first
Found-skip ps want None p none found = All-push (λ q. clashing q want ≡ false) ps p found none
Found-skip ps want (Some c) p none found = record {
  one = Any-longer (λ q. (clashing q want ≡ true) × (clash q want ≡ c)) ps p found.one;
  least = All-push (NoSooner want c) ps p found.least (λ clashes. absurd (both_ways _ none clashes));
}

pub Found-clash : (ps : List Piece) (want : Want) (first : Option Conflict) (p : Piece) → clashing p want ≡ true → All (λ q. q.owner ≤ p.owner) ps → Found ps want first → Found (ps ++ p ∷ []) want (sooner first p want)
Found-clash ps want None p clashes later found = record {
  one = Any-push (λ q. (clashing q want ≡ true) × (clash q want ≡ clash p want)) ps p (clashes, refl);
  least = All-push (NoSooner want (clash p want)) ps p (λ k d k<n at. absurd (both_ways _ (found k d k<n) at)) (λ _. inr (refl, omega arith));
}
Found-clash ps want (Some c) p clashes later found =
    cond_both (nat_le c.byte (clash_at p want)) (Some c) (Some (clash p want)) (Found (ps ++ p ∷ []) want)
    (λ sooner_or_same. record {
      one = Any-longer (λ q. (clashing q want ≡ true) × (clash q want ≡ c)) ps p found.one;
      least = All-push (NoSooner want c) ps p found.least (λ _. at_p (leb-true _ _ sooner_or_same));
    })
    (λ later_byte. record {
      one = Any-push (λ q. (clashing q want ≡ true) × (clash q want ≡ clash p want)) ps p (clashes, refl);
      least = All-push (NoSooner want (clash p want)) ps p
          (All-weaker (NoSooner want c) (NoSooner want (clash p want)) (λ q none at. at_q q (leb-false _ _ later_byte) (none at)) ps found.least)
          (λ _. inr (refl, omega arith));
    })
  where
    owner_of : (k : ℕ) (x : Piece) → k < length ps → get_or ps k x ≡ x → clash x want ≡ c → c.owner ≤ p.owner
    owner_of k x within is same = rw (← same) (rw is at (later k x within))

    at_p : c.byte ≤ clash_at p want → (c.byte < clash_at p want) ⊎ ((c.byte ≡ clash_at p want) × (c.owner ≤ p.owner))
    at_p upto = elim (cases_lt c.byte (clash_at p want)) [
      | inl less ↦ inl less
      | inr more ↦ inr (omega arith, owner_of found.one.0 found.one.1 found.one.2 found.one.3 found.one.4.1)
    ]

    at_q : (q : Piece) → clash_at p want < c.byte → (c.byte < clash_at q want) ⊎ ((c.byte ≡ clash_at q want) × (c.owner ≤ q.owner)) → (clash_at p want < clash_at q want) ⊎ ((clash_at p want ≡ clash_at q want) × (p.owner ≤ q.owner))
    at_q q less (inl sooner) = inl (omega arith)
    at_q q less (inr (same, owners)) = inl (omega arith)

-- a piece that covers a byte of a conflict is one that has a conflict, no later than there
clashing-covering : (want : Want) (o b : ℕ) (p : Piece) → o ≢ want.owner → want.start ≤ b → b < want.end → covers p o b ≡ true → kinds_conflict p.kind want.kind ≡ true → clashing p want ≡ true
clashing-covering want o b p other low high there writes = grind (arith, nat_tests)

clash_at-covering : (want : Want) (o b : ℕ) (p : Piece) → want.start ≤ b → covers p o b ≡ true → (clash_at p want ≤ b) × (p.owner ≡ o)
clash_at-covering want o b p low there = (grind (arith, nat_tests), grind (arith, nat_tests))

-- a piece that has a conflict covers the first byte that it shares with the range
covers-clashing : (want : Want) (p : Piece) → IsPiece p → want.start < want.end → clashing p want ≡ true → (covers p p.owner (clash_at p want) ≡ true) × (p.owner ≢ want.owner) × (want.start ≤ clash_at p want) × (clash_at p want < want.end) × (kinds_conflict p.kind want.kind ≡ true)
covers-clashing want p piece range clashes = (grind (arith, nat_tests), grind (arith, nat_tests), omega arith, grind (arith, nat_tests), grind (arith, nat_tests))

module _ (ps : List Piece) (want : Want) (table : IsTable ps) (range : want.start < want.end) where
  -- the piece behind a conflict
  behind : (o b : ℕ) (k : Kind) → Conflicts ps want.owner want.start want.end want.kind o b k → (i : ℕ) × (i < length ps) × ((d : Piece) → (clashing (get_or ps i d) want ≡ true) × (clash_at (get_or ps i d) want ≤ b) × ((get_or ps i d).owner ≡ o))
  behind o b k conflict =
      let covering = covered-held o b k ps conflict.holds in (
        covering.0,
        covering.1,
        λ d.
            let there = covering.2 d in
            let at = clash_at-covering want o b (get_or ps covering.0 d) conflict.from_start there.0 in
            (clashing-covering want o b (get_or ps covering.0 d) conflict.other_owner conflict.from_start conflict.before_end there.0 (rw there.1 conflict.writes), at.0, at.1),
      )

  free : All (λ p. clashing p want ≡ false) ps → IsFree ps want.owner want.start want.end want.kind
  free none = record {
    free = λ o b k conflict.
        let there = behind o b k conflict in
        let d : Piece = record { owner = 0; start = 0; end = 0; kind = k } in
        both_ways _ (none there.0 d there.1) (there.2 d).0;
  }

  first-conflict : (c : Conflict) → IsSoonest ps want c → IsFirstConflict ps want.owner want.start want.end want.kind c.owner c.byte c.kind
  first-conflict c soonest = at soonest.one
    where
      least : (o b : ℕ) (k : Kind) → Conflicts ps want.owner want.start want.end want.kind o b k → (c.byte < b) ⊎ ((c.byte ≡ b) × (c.owner ≤ o))
      least o b k conflict =
          let there = behind o b k conflict in
          let d : Piece = record { owner = 0; start = 0; end = 0; kind = k } in
          upto (get_or ps there.0 d) (there.2 d).1 (there.2 d).2 (soonest.least there.0 d there.1 (there.2 d).0)
        where
          upto : (p : Piece) → clash_at p want ≤ b → p.owner ≡ o → (c.byte < clash_at p want) ⊎ ((c.byte ≡ clash_at p want) × (c.owner ≤ p.owner)) → (c.byte < b) ⊎ ((c.byte ≡ b) × (c.owner ≤ o))
          upto p low owned (inl less) = inl (omega arith)
          upto p low owned (inr (same, owners)) = elim (cases_lt c.byte b) [
            | inl less ↦ inl less
            | inr more ↦ inr (omega arith, omega arith)
          ]

      at : Any (λ p. (clashing p want ≡ true) × (clash p want ≡ c)) ps → IsFirstConflict ps want.owner want.start want.end want.kind c.owner c.byte c.kind
      at (i, x, within, is, (clashes, same)) =
          let covering = covers-clashing want x (rw is at (table.pieces i x within)) range clashes in
          let there : covers (get_or ps i x) x.owner (clash_at x want) ≡ true = rw is covering.0 in
          let holds : held ps x.owner (clash_at x want) ≡ Some x.kind = held-covered x.owner (clash_at x want) i x ps table within there ∙ ap (λ p. Some p.kind) is in
          let first : Conflicts ps want.owner want.start want.end want.kind x.owner (clash_at x want) x.kind = record { other_owner = covering.1; from_start = covering.2; before_end = covering.3; holds = holds; writes = covering.4 } in
          record {
            conflict = subst (λ (e : Conflict). Conflicts ps want.owner want.start want.end want.kind e.owner e.byte e.kind) same first;
            least = least;
          }

  pub first-found : (first : Option Conflict) → Found ps want first → MatchOption first (IsFree ps want.owner want.start want.end want.kind) (λ c. IsFirstConflict ps want.owner want.start want.end want.kind c.owner c.byte c.kind)
  first-found None found = free found
  first-found (Some c) found = first-conflict c found

-- the search goes one piece further in a table
module _ (ps : List Piece) (want : Want) (first next : Option Conflict) (i : ℕ) (d : Piece) (table : IsTable ps) (within : i < length ps) (found : Found (take i ps) want first) where
  later-owners : All (λ q. q.owner ≤ (get_or ps i d).owner) (take i ps)
  later-owners k e k<n = rw (get_or-take i ps k e (omega (arith, length-take i ps)), get_or_default ps i d e within) (table.sorted k i e (omega (arith, length-take i ps)) within).owners

  pub Found-more_clash : clashing (get_or ps i d) want ≡ true → next ≡ sooner first (get_or ps i d) want → Found (take (i + 1) ps) want next
  Found-more_clash clashes is = rw (take_more ps i d within, is) (Found-clash (take i ps) want first (get_or ps i d) clashes later-owners found)

  pub Found-more_skip : clashing (get_or ps i d) want ≡ false → next ≡ first → Found (take (i + 1) ps) want next
  Found-more_skip none is = rw (take_more ps i d within, is) (Found-skip (take i ps) want first (get_or ps i d) none found)
