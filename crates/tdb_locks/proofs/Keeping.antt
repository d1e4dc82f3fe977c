-- A piece stays in a table as it is where a change is of another owner's bytes, or of others of its own.
use Rattle.std.proofs.Common.{◌≡◌, ◌≢◌, ◌≤◌, ◌==◌, ◌∷◌, ◌⊎◌, [], Contains, List, None, Option, Some, arith, if◌then◌else◌, max, min, not, refl, suc, zero, ℕ, inl, inr}
use Rattle.std.specs.List.{cons_option, filter, filter_map}
use Rattle.std.proofs.lemmas.Bool.{cases_lt, eq-eqb, le-ltb, lt-ltb, ne_eqb}
use Rattle.std.proofs.lemmas.List.Elements.{Contains-append_left, Contains-append_right}
use Rattle.tdb_locks.proofs.Tables.{filter-as_filter_map}
use Rattle.tdb_locks.specs.LockTable.{IsPiece, before, from, part_before, part_from, with_piece, without}
use Rattle.tdb_locks.specs.declared.kind.Kind.{Kind}
use Rattle.tdb_locks.specs.declared.piece.Piece.{Piece}

Contains-first : (p : Piece) (ps : List Piece) → Contains (p ∷ ps) p
Contains-first p ps = (0, omega arith, refl)

Contains-later : (x p : Piece) (ps : List Piece) → Contains ps p → Contains (x ∷ ps) p
Contains-later x p ps (k, within, is) = (suc k, omega arith, is)

Contains-cons_option : (o : Option Piece) (ps : List Piece) (p : Piece) → Contains ps p → Contains (cons_option o ps) p
Contains-cons_option None ps p stands = stands
Contains-cons_option (Some x) ps p stands = Contains-later x p ps stands

-- what is given whole stays
pub Contains-filter_map : (h : Piece → Option Piece) (ps : List Piece) (p : Piece) → h p ≡ Some p → Contains ps p → Contains (filter_map h ps) p
Contains-filter_map h [] p whole (k, within, is) = absurd (omega arith)
Contains-filter_map h (x ∷ ps) p whole (zero, within, is) = rw (is, whole) (Contains-first p (filter_map h ps))
Contains-filter_map h (x ∷ ps) p whole (suc k, within, is) = Contains-cons_option (h x) (filter_map h ps) p (Contains-filter_map h ps p whole (k, omega arith, is))

-- the piece stands before the range or after it, in the order of owners and of bytes
pub record StandsClear (p : Piece) (owner start end : ℕ) : Type 0 where
  pub clear : p.owner ≡ owner → (p.end ≤ start) ⊎ (end ≤ p.start)

whole-before : (owner start : ℕ) (p : Piece) → IsPiece p → p.owner ≡ owner → p.end ≤ start → part_before owner start p ≡ Some p
whole-before owner start p piece owned ends =
    let same : min p.end start ≡ p.end = omega arith in
    rw (le-ltb p.owner owner (omega arith), eq-eqb p.owner owner owned, lt-ltb p.start start (omega (arith, piece.has_bytes)), same)

whole-from : (owner end : ℕ) (p : Piece) → IsPiece p → p.owner ≡ owner → end ≤ p.start → part_from owner end p ≡ Some p
whole-from owner end p piece owned starts =
    let same : max p.start end ≡ p.start = omega arith in
    rw (le-ltb owner p.owner (omega arith), eq-eqb p.owner owner owned, lt-ltb end p.end (omega (arith, piece.has_bytes)), same)

-- so it is whole in one of the two parts round the range
pub stands-around : (ps : List Piece) (owner start end : ℕ) (p : Piece) → IsPiece p → StandsClear p owner start end → Contains ps p → Contains (before owner start ps) p ⊎ Contains (from owner end ps) p
stands-around ps owner start end p piece clear stands = elim (cases_lt p.owner owner) [
  | inl less ↦ inl (Contains-filter_map (part_before owner start) ps p (rw (lt-ltb p.owner owner less)) stands)
  | inr more ↦ elim (cases_lt owner p.owner) [
    | inl later ↦ inr (Contains-filter_map (part_from owner end) ps p (rw (lt-ltb owner p.owner later)) stands)
    | inr same ↦
        let owned : p.owner ≡ owner = omega arith in
        elim (clear.clear owned) [
          | inl ends ↦ inl (Contains-filter_map (part_before owner start) ps p (whole-before owner start p piece owned ends) stands)
          | inr starts ↦ inr (Contains-filter_map (part_from owner end) ps p (whole-from owner end p piece owned starts) stands)
        ]
  ]
]

pub Contains-without : (ps : List Piece) (owner start end : ℕ) (p : Piece) → IsPiece p → StandsClear p owner start end → Contains ps p → Contains (without ps owner start end) p
Contains-without ps owner start end p piece clear stands = elim (stands-around ps owner start end p piece clear stands) [
  | inl low ↦ Contains-append_left (before owner start ps) (from owner end ps) p low
  | inr high ↦ Contains-append_right (before owner start ps) (from owner end ps) p high
]

pub Contains-with_piece : (ps : List Piece) (owner start end : ℕ) (kind : Kind) (p : Piece) → IsPiece p → StandsClear p owner start end → Contains ps p → Contains (with_piece ps owner start end kind) p
Contains-with_piece ps owner start end kind p piece clear stands =
    let new : Piece = record { owner = owner; start = start; end = end; kind = kind } in
    elim (stands-around ps owner start end p piece clear stands) [
      | inl low ↦ Contains-append_left (before owner start ps) (new ∷ from owner end ps) p low
      | inr high ↦ Contains-append_right (before owner start ps) (new ∷ from owner end ps) p (Contains-later new p (from owner end ps) high)
    ]

-- the new piece is in the table
pub Contains-new_piece : (ps : List Piece) (owner start end : ℕ) (kind : Kind) → Contains (with_piece ps owner start end kind) (record { owner = owner; start = start; end = end; kind = kind })
Contains-new_piece ps owner start end kind =
    let new : Piece = record { owner = owner; start = start; end = end; kind = kind } in
    Contains-append_right (before owner start ps) (new ∷ from owner end ps) new (Contains-first new (from owner end ps))

-- and a piece of another owner stays where one is dropped
pub Contains-dropped : (ps : List Piece) (owner : ℕ) (p : Piece) → p.owner ≢ owner → Contains ps p → Contains (filter (λ q. not (q.owner == owner)) ps) p
Contains-dropped ps owner p differs stands =
    rw (filter-as_filter_map (λ q. not (q.owner == owner)) ps)
    (Contains-filter_map (λ q. if not (q.owner == owner) then Some q else None) ps p (rw (ne_eqb p.owner owner differs)) stands)
