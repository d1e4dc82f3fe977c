-- A byte that is let go is no part of a longer piece.
use Rattle.std.proofs.Common.{◌≡◌, ℕ, ◌+◌, ◌<◌, ◌≤◌, true, List, [], ◌∷◌, Option, None, Some, Contains, refl, sym, ◌∙◌, ap, inl, inr, arith, zero, suc}
use Rattle.std.specs.Prelude.{if◌then◌else◌}
use Rattle.std.proofs.lemmas.Bool.{cases_Bool, eq-eqb, lt-ltb, le-leb}
use Rattle.tdb_locks.specs.LockTable.{IsInsidePiece, covers, held}
use Rattle.tdb_locks.specs.declared.kind.Kind.{Kind}
use Rattle.tdb_locks.specs.declared.piece.Piece.{Piece}

-- a piece that covers a byte is held there
covered_held : (ps : List Piece) (p : Piece) (owner b : ℕ) → Contains ps p → covers p owner b ≡ true → held ps owner b ≡ None → ⊥
covered_held [] p owner b (k, within, is) over none = omega (arith, within)
covered_held (x ∷ ps) p owner b (zero, within, is) over none = let here : covers x owner b ≡ true = ap (λ q. covers q owner b) is ∙ over in let e : ◌≡◌ {A = Option Kind} (Some x.kind) None = sym (ap (λ c. if c then Some x.kind else held ps owner b) here) ∙ none in cc
covered_held (x ∷ ps) p owner b (suc k, within, is) over none = elim (cases_Bool (covers x owner b)) [
  | inl here ↦ let e : ◌≡◌ {A = Option Kind} (Some x.kind) None = sym (ap (λ c. if c then Some x.kind else held ps owner b) here) ∙ none in cc
  | inr not_here ↦ covered_held ps p owner b (k, omega (arith, within), is) over (sym (ap (λ c. if c then Some x.kind else held ps owner b) not_here) ∙ none)
]

-- so a byte before which nothing is held isn't part of a longer piece
pub stands_whole : (ps : List Piece) (owner start end : ℕ) (p : Piece) → start < end → ((b : ℕ) → b + 1 ≡ start → held ps owner b ≡ None) → IsInsidePiece ps owner start end p → ⊥
stands_whole ps owner zero end p some alone I = let low = I.begins_before in omega (arith, low)
stands_whole ps owner (suc b) end p some alone I =
    covered_held ps p owner b I.stands
    (let low : p.start ≤ b = let s = I.begins_before in omega (arith, s) in let high : b < p.end = let e = I.ends_after in omega (arith, e, some) in rw (eq-eqb p.owner owner I.owned, le-leb p.start b low, lt-ltb b p.end high) refl)
    (alone b (omega arith))
