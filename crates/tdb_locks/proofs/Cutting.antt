-- The places where a range of an owner begins and ends in a table, put together.
use Rattle.std.proofs.Common.{◌≡◌, ◌≤◌, ◌<◌, ◌+◌, ◌-◌, ◌++◌, Bool, IsSome, List, None, OnSome, Option, Some, drop, false, get_or, length, take, true, ℕ, arith, ap, inl, inr}
use Rattle.std.specs.Option.{option_to_list}
use Rattle.std.proofs.lemmas.Bool.{both_ways, cases_lt, false≢true}
use Rattle.std.proofs.lemmas.Bool.Decides.{nat_tests}
use Rattle.std.proofs.lemmas.List.{get_or-drop, get_or-take, length-drop, length-take}
use Rattle.std.proofs.lemmas.List.Elements.{Contains-get_or}
use Rattle.tdb_locks.specs.Cut.{BeginsBefore, GoesOn, IsCut}
use Rattle.tdb_locks.specs.LockTable.{IsInsidePiece, IsPiece, IsTable, before, from}
use Rattle.tdb_locks.specs.Search.{IsSplitBy, ends_by, starts_before}
use Rattle.tdb_locks.specs.declared.kind.Kind.TheVariants.{Read}
use Rattle.tdb_locks.specs.declared.piece.Piece.{Piece}

on_some : {X : Type 0} {P : Type 0} (o : Option X) → OnSome o P → IsSome o → P
on_some None on is = absurd (false≢true is)
on_some (Some x) on is = on

no_piece : Piece
no_piece = record { owner = 0; start = 0; end = 0; kind = Read }

module _ (test : Piece → Bool) (ps : List Piece) (i : ℕ) (split : IsSplitBy test ps i) where
  passes-below : (k : ℕ) (d : Piece) → k < i → test (get_or ps k d) ≡ true
  passes-below k d less = rw (← get_or-take i ps k d less) (split.front k d (omega (arith, length-take i ps, split.within)))

  fails-above : (k : ℕ) (d : Piece) → i ≤ k → k < length ps → test (get_or ps k d) ≡ false
  fails-above k d past within =
      let back : i + (k - i) ≡ k = omega arith in
      rw (← ap (λ n. get_or ps n d) back, ← get_or-drop i ps (k - i) d) (split.back (k - i) d (omega (arith, length-drop i ps)))

ends-starts : (o s e : ℕ) (p : Piece) → s < e → IsPiece p → ends_by o s p ≡ true → starts_before o e p ≡ true
ends-starts o s e p range piece ends = grind (arith, nat_tests)

begins-starts : (o s e : ℕ) (p : Piece) → s < e → p.owner ≡ o → p.start < s → starts_before o e p ≡ true
begins-starts o s e p range owned begins = grind (arith, nat_tests)

goes_on-ends : (o s e : ℕ) (p : Piece) → s < e → p.owner ≡ o → e < p.end → ends_by o s p ≡ false
goes_on-ends o s e p range owned goes_on = grind (arith, nat_tests)

module _ (ps : List Piece) (o s e first last : ℕ) (table : IsTable ps) (range : s < e) (past : IsSplitBy (ends_by o s) ps first) (reach : IsSplitBy (starts_before o e) ps last) where
  in_order : first ≤ last
  in_order = elim (cases_lt last first) [
    | inl less ↦
        let within : last < length ps = omega (arith, past.within) in
        let starts = ends-starts o s e (get_or ps last no_piece) range (table.pieces last no_piece within) (passes-below (ends_by o s) ps first past last no_piece less) in
        absurd (both_ways _ (fails-above (starts_before o e) ps last reach last no_piece (omega arith) within) starts)
    | inr more ↦ more
  ]

  begins-order : BeginsBefore ps first o s → first < last
  begins-order begins = elim (cases_lt first last) [
    | inl less ↦ less
    | inr more ↦
        let starts = begins-starts o s e (get_or ps first no_piece) range (begins.owned no_piece) (begins.begins no_piece) in
        absurd (both_ways _ (fails-above (starts_before o e) ps last reach first no_piece more begins.within) starts)
  ]

  goes_on-order : GoesOn ps last o e → first < last
  goes_on-order goes_on = elim (cases_lt first last) [
    | inl less ↦ less
    | inr more ↦
        let ends = passes-below (ends_by o s) ps first past (last - 1) no_piece (omega (arith, goes_on.some)) in
        absurd (both_ways _ (goes_on-ends o s e (get_or ps (last - 1) no_piece) range (goes_on.owned no_piece) (goes_on.goes_on no_piece)) ends)
  ]

  inside_piece : BeginsBefore ps first o s → GoesOn ps last o e → last ≤ first + 1 → (p : Piece) × IsInsidePiece ps o s e p
  inside_piece begins goes_on near =
      let order = begins-order begins in
      let same : last - 1 ≡ first = omega arith in (
        get_or ps first no_piece,
        record {
          stands = Contains-get_or ps first no_piece begins.within;
          owned = begins.owned no_piece;
          begins_before = begins.begins no_piece;
          ends_after = rw same at (goes_on.goes_on no_piece);
        },
      )

  pub IsCut-made : (left right : Option Piece) → before o s ps ≡ take first ps ++ option_to_list left → OnSome left (BeginsBefore ps first o s) → from o e ps ≡ option_to_list right ++ drop last ps → OnSome right (GoesOn ps last o e) → IsCut ps o s e (record { from = first; to = last; left = left; right = right })
  IsCut-made left right on_left begins on_right goes_on = record {
    in_order = in_order;
    within = reach.within;
    left = on_left;
    right = on_right;
    left_of = λ is. begins-order (on_some left begins is);
    right_of = λ is. goes_on-order (on_some right goes_on is);
    inside = λ is_left is_right near. inside_piece (on_some left begins is_left) (on_some right goes_on is_right) near;
  }
