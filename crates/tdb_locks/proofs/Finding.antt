-- Which piece of a table tells what an owner holds at a byte.
use Rattle.std.proofs.Common.{◌≡◌, ◌≤◌, ◌<◌, ◌+◌, ◌∷◌, ◌∙◌, [], All, Any, Contains, List, None, Some, cond, drop, false, get_or, length, refl, ap, sym, take, true, ℕ, arith, suc, zero, inl, inr}
use Rattle.std.proofs.lemmas.Bool.{cases_Bool, cases_order}
use Rattle.std.proofs.lemmas.Bool.Decides.{nat_tests}
use Rattle.std.proofs.lemmas.List.{drop_all, get_or_default, take-append-drop}
use Rattle.std.proofs.lemmas.List.Elements.{All-head, All-tail}
use Rattle.tdb_locks.proofs.Holding.{held-append, or_else}
use Rattle.tdb_locks.proofs.Splitting.{fails-at, rest-of}
use Rattle.tdb_locks.proofs.Tables.{IsTable-drop, IsTable-follows, IsTable-tail}
use Rattle.tdb_locks.specs.LockTable.{Follows, HeldByPieces, IsInsidePiece, IsPiece, IsTable, IsWhole, covers, held}
use Rattle.tdb_locks.specs.Search.{IsSplitBy, ends_by}
use Rattle.tdb_locks.specs.declared.kind.Kind.{Kind}
use Rattle.tdb_locks.specs.declared.piece.Piece.{Piece}

covers-ended : (o b : ℕ) (p : Piece) → ends_by o b p ≡ true → covers p o b ≡ false
covers-ended o b p ends = grind (arith, nat_tests)

covers-later : (o b : ℕ) (p q : Piece) → ends_by o b p ≡ false → Follows p q → covers q o b ≡ false
covers-later o b p q past follows = grind (arith, nat_tests)

held-uncovered : (o b : ℕ) (ps : List Piece) → All (λ p. covers p o b ≡ false) ps → held ps o b ≡ None
held-uncovered o b [] none = refl
held-uncovered o b (p ∷ ps) none = rw (All-head (λ q. covers q o b ≡ false) p ps none) (held-uncovered o b ps (All-tail (λ q. covers q o b ≡ false) p ps none))

module _ (o byte i : ℕ) (ps : List Piece) (table : IsTable ps) (split : IsSplitBy (ends_by o byte) ps i) where
  held-split : held ps o byte ≡ held (drop i ps) o byte
  held-split =
      let front : held (take i ps) o byte ≡ None = held-uncovered o byte (take i ps) (λ k d k<n. covers-ended o byte (get_or (take i ps) k d) (split.front k d k<n)) in
      ap (λ xs. held xs o byte) (sym (take-append-drop i ps)) ∙ (held-append (take i ps) (drop i ps) o byte ∙ ap (λ x. or_else x (held (drop i ps) o byte)) front)

  held-at_split : (p : Piece) → i < length ps → p ≡ get_or ps i p → held ps o byte ≡ cond (covers p o byte) (Some p.kind) None
  held-at_split p inside is =
      let there = rest-of o byte i ps table (ends_by o byte) p inside is in
      let follows = IsTable-follows p (drop (i + 1) ps) (rw there at (IsTable-drop i ps table)) in
      let past = fails-at o byte i ps table (ends_by o byte) p split inside is in
      let rest : held (drop (i + 1) ps) o byte ≡ None = held-uncovered o byte (drop (i + 1) ps) (λ k d k<n. covers-later o byte p (get_or (drop (i + 1) ps) k d) past (follows k d k<n)) in
      held-split ∙ (ap (λ xs. held xs o byte) there ∙ ap (λ x. cond (covers p o byte) (Some p.kind) x) rest)

  pub kind_of-some : (p : Piece) → i < length ps → p ≡ get_or ps i p → p.owner ≡ o → p.start ≤ byte → held ps o byte ≡ Some p.kind
  kind_of-some p inside is owned starts =
      let past = fails-at o byte i ps table (ends_by o byte) p split inside is in
      let there : covers p o byte ≡ true = grind (arith, nat_tests) in
      held-at_split p inside is ∙ ap (λ b. cond b (Some p.kind) None) there

  pub kind_of-none : (p : Piece) → i < length ps → p ≡ get_or ps i p → (p.owner ≡ o → byte < p.start) → held ps o byte ≡ None
  kind_of-none p inside is later =
      let not_there : covers p o byte ≡ false = grind (arith, nat_tests) in
      held-at_split p inside is ∙ ap (λ b. cond b (Some p.kind) None) not_there

  pub kind_of-end : length ps ≤ i → held ps o byte ≡ None
  kind_of-end past = held-split ∙ ap (λ xs. held xs o byte) (drop_all i ps past)

covers-earlier : (o b : ℕ) (p q : Piece) → IsPiece p → covers q o b ≡ true → Follows p q → covers p o b ≡ false
covers-earlier o b p q piece there follows = grind (arith, nat_tests)

-- the piece that covers the byte tells the kind
pub held-covered : (o b i : ℕ) (d : Piece) (ps : List Piece) → IsTable ps → i < length ps → covers (get_or ps i d) o b ≡ true → held ps o b ≡ Some (get_or ps i d).kind
held-covered o b i d [] table inside there = absurd (omega arith)
held-covered o b zero d (p ∷ ps) table inside there = rw there
held-covered o b (suc i) d (p ∷ ps) table inside there =
    let first : covers p o b ≡ false = covers-earlier o b p (get_or ps i d) (table.pieces 0 d (omega arith)) there (IsTable-follows p ps table i d (omega arith)) in
    rw first (held-covered o b i d ps (IsTable-tail p ps table) (omega arith) there)

-- what is held is told by a piece that covers the byte
pub covered-held : (o b : ℕ) (k : Kind) (ps : List Piece) → held ps o b ≡ Some k → (i : ℕ) × (i < length ps) × ((d : Piece) → (covers (get_or ps i d) o b ≡ true) × ((get_or ps i d).kind ≡ k))
covered-held o b k [] holds = absurd (cc)
covered-held o b k (p ∷ ps) holds = elim (cases_Bool (covers p o b)) [
  | inl there ↦ (0, omega arith, λ d. (there, cc))
  | inr not_there ↦
      let rest = covered-held o b k ps (rw not_there at holds) in
      (suc rest.0, omega (arith, rest.1), λ d. rest.2 d)
]

-- some piece, for a place of a list that is known to be there
any_piece : Kind → Piece
any_piece kind = record { owner = 0; start = 0; end = 0; kind = kind }

pub HeldByPieces-table : (ps : List Piece) → IsTable ps → HeldByPieces ps
HeldByPieces-table ps table = record { holds = λ owner byte kind. (to_piece owner byte kind, from_piece owner byte kind) }
  where
    to_piece : (owner byte : ℕ) (kind : Kind) → held ps owner byte ≡ Some kind → Any (λ p. (covers p owner byte ≡ true) × (p.kind ≡ kind)) ps
    to_piece owner byte kind holds =
        let there = covered-held owner byte kind ps holds in
        let d = any_piece kind in
        (there.0, get_or ps there.0 d, there.1, get_or_default ps there.0 (get_or ps there.0 d) d there.1, there.2 d)

    from_piece : (owner byte : ℕ) (kind : Kind) → Any (λ p. (covers p owner byte ≡ true) × (p.kind ≡ kind)) ps → held ps owner byte ≡ Some kind
    from_piece owner byte kind (i, p, within, is, (there, same)) =
        held-covered owner byte i p ps table within (rw is there) ∙ ap (λ q. Some q.kind) is ∙ ap (λ k. Some k) same

-- no piece of an owner goes on before and after another one
pub whole-outside : (ps : List Piece) (owner start end : ℕ) (p q : Piece) → IsTable ps → Contains ps p → IsWhole p owner start end → IsInsidePiece ps owner start end q → ⊥
whole-outside ps owner start end p q table (i, i_within, p_is) whole inside = apart inside.stands
  where
    piece : IsPiece p
    piece = rw p_is at (table.pieces i p i_within)

    apart : Contains ps q → ⊥
    apart (j, j_within, q_is) = elim (cases_order i j) [
      | inl same ↦
          let one : p ≡ q = sym p_is ∙ (ap (λ n. get_or ps n p) same ∙ (get_or_default ps j p q j_within ∙ q_is)) in
          let starts : p.start ≡ q.start = ap (λ (x : Piece). x.start) one in
          omega (arith, whole.begins, inside.begins_before)
      | inr differs ↦ elim differs [
        | inl less ↦
            let follows : Follows p q = rw (p_is, get_or_default ps j p q j_within, q_is) at (table.sorted i j p less j_within) in
            omega (arith, follows.apart (omega (arith, whole.owned, inside.owned)), whole.begins, inside.begins_before, piece.has_bytes)
        | inr more ↦
            let follows : Follows q p = rw (q_is, get_or_default ps i q p i_within, p_is) at (table.sorted j i q more i_within) in
            omega (arith, follows.apart (omega (arith, whole.owned, inside.owned)), whole.begins, whole.ends, inside.ends_after, piece.has_bytes)
      ]
    ]
