-- A table stays one when pieces shrink, when some go, and when two tables are put one after the other.
use Rattle.std.proofs.Common.{◌≡◌, ◌≤◌, ◌<◌, ◌==◌, ◌&&◌, ◌++◌, ◌∷◌, [], All, AllPairs, Bool, List, None, Option, Some, if◌then◌else◌, nat_lt, min, max, refl, take, drop, ◌+◌, ℕ, arith, suc, zero, inl, inr}
use Rattle.std.proofs.lemmas.Bool.{and_parts, cases_Bool, cond_both, eqb-true, ltb-true}
use Rattle.std.specs.List.{cons_option, filter, filter_map}
use Rattle.std.specs.Option.{IfSome}
use Rattle.std.proofs.lemmas.List.Elements.{All-nil, All-cons, All-drop, All-head, All-tail, All-take, All-append, All-weaker}
use Rattle.std.proofs.lemmas.List.{get_or-take, get_or-drop, length-take, length-drop}
use Rattle.tdb_locks.specs.LockTable.{Follows, IsPiece, IsRange, IsTable, before, from, part_before, part_from, stop, with_piece, without}
use Rattle.tdb_locks.specs.declared.kind.Kind.TheVariants.{Read}
use Rattle.tdb_locks.specs.declared.kind.Kind.{Kind}
use Rattle.tdb_locks.specs.declared.len.Len.TheVariants.{Bytes, ToEnd}
use Rattle.tdb_locks.specs.declared.len.Len.{Len}
use Rattle.tdb_locks.specs.declared.piece.Piece.{Piece}

pub IsTable-nil : IsTable []
IsTable-nil = record { pieces = All-nil IsPiece; sorted = λ i j d i<j j<n. absurd (omega arith) }

pub IsTable-cons : (p : Piece) (ps : List Piece) → IsPiece p → All (Follows p) ps → IsTable ps → IsTable (p ∷ ps)
IsTable-cons p ps piece follows table = record {
  pieces = All-cons IsPiece p ps piece table.pieces;
  sorted = pairs_of_cons;
}
  where
    pairs_of_cons : AllPairs Follows (p ∷ ps)
    pairs_of_cons zero zero d i<j j<n = absurd (omega arith)
    pairs_of_cons zero (suc j) d i<j j<n = follows j d (omega arith)
    pairs_of_cons (suc i) zero d i<j j<n = absurd (omega arith)
    pairs_of_cons (suc i) (suc j) d i<j j<n = table.sorted i j d (omega arith) (omega arith)

pub IsTable-head : (p : Piece) (ps : List Piece) → IsTable (p ∷ ps) → IsPiece p
IsTable-head p ps table = All-head IsPiece p ps table.pieces

pub IsTable-follows : (p : Piece) (ps : List Piece) → IsTable (p ∷ ps) → All (Follows p) ps
IsTable-follows p ps table = λ k d k<n. table.sorted 0 (suc k) d (omega arith) (omega arith)

pub IsTable-tail : (p : Piece) (ps : List Piece) → IsTable (p ∷ ps) → IsTable ps
IsTable-tail p ps table = record {
  pieces = All-tail IsPiece p ps table.pieces;
  sorted = λ i j d i<j j<n. table.sorted (suc i) (suc j) d (omega arith) (omega arith);
}

pub Follows-trans : (p n q : Piece) → IsPiece n → Follows p n → Follows n q → Follows p q
Follows-trans p n q piece pn nq = record { owners = omega arith; apart = λ same. omega (arith, pn.apart (omega arith), nq.apart (omega arith)) }

-- one table after another is a table, where a piece could stand between them
pub IsTable-append : (xs ys : List Piece) (n : Piece) → IsPiece n → IsTable xs → IsTable ys → All (λ p. Follows p n) xs → All (Follows n) ys → IsTable (xs ++ ys)
IsTable-append [] ys n piece table_x table_y below above = table_y
IsTable-append (x ∷ xs) ys n piece table_x table_y below above =
    IsTable-cons x (xs ++ ys) (IsTable-head x xs table_x)
    (All-append (Follows x) xs ys (IsTable-follows x xs table_x)
    (All-weaker (Follows n) (Follows x) (λ q. Follows-trans x n q piece (All-head (λ p. Follows p n) x xs below)) ys above))
    (IsTable-append xs ys n piece (IsTable-tail x xs table_x) table_y (All-tail (λ p. Follows p n) x xs below) above)

-- q is a part of p
pub record IsPart (p q : Piece) : Type 0 where
  pub owner : q.owner ≡ p.owner
  pub start : p.start ≤ q.start
  pub end : q.end ≤ p.end
  pub has_bytes : q.start < q.end

pub IsPart-piece : (p q : Piece) → IsPiece p → IsPart p q → IsPiece q
IsPart-piece p q piece part = record { has_bytes = part.has_bytes; within = omega arith }

pub IsPart-follows : (p q p' q' : Piece) → IsPart p p' → IsPart q q' → Follows p q → Follows p' q'
IsPart-follows p q p' q' part_p part_q follows = record { owners = omega arith; apart = λ same. omega (arith, follows.apart (omega arith)) }

-- `h` gives a part of each piece, or nothing
pub record Shrinks (h : Piece → Option Piece) : Type 0 where
  pub part : (p : Piece) → IsPiece p → IfSome (h p) (IsPart p)

-- what holds of the piece that `h` gives, if any, and of all that it gives of the rest
All-cons_option : (P : Piece → Type 0) (o : Option Piece) (ps : List Piece) → IfSome o P → All P ps → All P (cons_option o ps)
All-cons_option P None ps some rest = rest
All-cons_option P (Some y) ps some rest = All-cons P y ps some rest

IfSome-weaker : (P Q : Piece → Type 0) → ((y : Piece) → P y → Q y) → (o : Option Piece) → IfSome o P → IfSome o Q
IfSome-weaker P Q weaker None some = some
IfSome-weaker P Q weaker (Some y) some = weaker y some

All-shrunk : (h : Piece → Option Piece) (p p' : Piece) → Shrinks h → IsPart p p' → (ps : List Piece) → All IsPiece ps → All (Follows p) ps → All (Follows p') (filter_map h ps)
All-shrunk h p p' shrinks part [] pieces follows = All-nil (Follows p')
All-shrunk h p p' shrinks part (x ∷ xs) pieces follows =
    All-cons_option (Follows p') (h x) (filter_map h xs)
    (IfSome-weaker (IsPart x) (Follows p') (λ y smaller. IsPart-follows p x p' y part smaller (All-head (Follows p) x xs follows)) (h x) (shrinks.part x (All-head IsPiece x xs pieces)))
    (All-shrunk h p p' shrinks part xs (All-tail IsPiece x xs pieces) (All-tail (Follows p) x xs follows))

IsTable-cons_option : (o : Option Piece) (ps : List Piece) → IsTable ps → IfSome o IsPiece → IfSome o (λ y. All (Follows y) ps) → IsTable (cons_option o ps)
IsTable-cons_option None ps table piece follows = table
IsTable-cons_option (Some y) ps table piece follows = IsTable-cons y ps piece follows table

-- a table of which each piece shrinks or goes is a table
pub IsTable-shrunk : (h : Piece → Option Piece) → Shrinks h → (ps : List Piece) → IsTable ps → IsTable (filter_map h ps)
IsTable-shrunk h shrinks [] table = IsTable-nil
IsTable-shrunk h shrinks (x ∷ xs) table =
    let piece = IsTable-head x xs table in
    let tail = IsTable-tail x xs table in
    let some = shrinks.part x piece in
    IsTable-cons_option (h x) (filter_map h xs) (IsTable-shrunk h shrinks xs tail)
    (IfSome-weaker (IsPart x) IsPiece (λ y smaller. IsPart-piece x y piece smaller) (h x) some)
    (IfSome-weaker (IsPart x) (λ y. All (Follows y) (filter_map h xs)) (λ y smaller. All-shrunk h x y shrinks smaller xs tail.pieces (IsTable-follows x xs table)) (h x) some)

-- the two cases of a part: the whole piece, or what a cut leaves of it
part_before-cases : (P : Piece → Type 0) (owner start : ℕ) (p : Piece) → (p.owner < owner → P p) → (p.owner ≡ owner → p.start < start → P (record p { end = min p.end start })) → IfSome (part_before owner start p) P
part_before-cases P owner start p whole cut =
    cond_both (nat_lt p.owner owner) (Some p) (if (p.owner == owner) && nat_lt p.start start then Some (record p { end = min p.end start }) else None) (λ o. IfSome o P)
    (λ less. whole (ltb-true p.owner owner less))
    (λ more. cond_both ((p.owner == owner) && nat_lt p.start start) (Some (record p { end = min p.end start })) None (λ o. IfSome o P)
    (λ both. let parts = and_parts (p.owner == owner) (nat_lt p.start start) both in cut (eqb-true p.owner owner parts.0) (ltb-true p.start start parts.1))
    (λ neither. tt))

part_from-cases : (P : Piece → Type 0) (owner end : ℕ) (p : Piece) → (owner < p.owner → P p) → (p.owner ≡ owner → end < p.end → P (record p { start = max p.start end })) → IfSome (part_from owner end p) P
part_from-cases P owner end p whole cut =
    cond_both (nat_lt owner p.owner) (Some p) (if (p.owner == owner) && nat_lt end p.end then Some (record p { start = max p.start end }) else None) (λ o. IfSome o P)
    (λ more. whole (ltb-true owner p.owner more))
    (λ less. cond_both ((p.owner == owner) && nat_lt end p.end) (Some (record p { start = max p.start end })) None (λ o. IfSome o P)
    (λ both. let parts = and_parts (p.owner == owner) (nat_lt end p.end) both in cut (eqb-true p.owner owner parts.0) (ltb-true end p.end parts.1))
    (λ neither. tt))

IsPart-whole : (p : Piece) → IsPiece p → IsPart p p
IsPart-whole p piece = record { owner = refl; start = omega arith; end = omega arith; has_bytes = piece.has_bytes }

shrinks-part_before : (owner start : ℕ) → Shrinks (part_before owner start)
shrinks-part_before owner start = record {
  part = λ p piece. part_before-cases (IsPart p) owner start p (λ _. IsPart-whole p piece)
      (λ _ less. record { owner = refl; start = omega arith; end = omega arith; has_bytes = omega (arith, piece.has_bytes) });
}

shrinks-part_from : (owner end : ℕ) → Shrinks (part_from owner end)
shrinks-part_from owner end = record {
  part = λ p piece. part_from-cases (IsPart p) owner end p (λ _. IsPart-whole p piece)
      (λ _ more. record { owner = refl; start = omega arith; end = omega arith; has_bytes = omega (arith, piece.has_bytes) });
}

-- the pieces before a piece's start stand before it, and those from its end on after it
follows-part_before : (n p : Piece) → IfSome (part_before n.owner n.start p) (λ q. Follows q n)
follows-part_before n p = part_before-cases (λ q. Follows q n) n.owner n.start p
    (λ less. record { owners = omega arith; apart = λ same. absurd (omega arith) })
    (λ same less. record { owners = omega arith; apart = λ _. omega arith })

follows-part_from : (n p : Piece) → IfSome (part_from n.owner n.end p) (Follows n)
follows-part_from n p = part_from-cases (Follows n) n.owner n.end p
    (λ more. record { owners = omega arith; apart = λ same. absurd (omega arith) })
    (λ same more. record { owners = omega arith; apart = λ _. omega arith })

All-filter_map : (P : Piece → Type 0) (h : Piece → Option Piece) → ((p : Piece) → IfSome (h p) P) → (ps : List Piece) → All P (filter_map h ps)
All-filter_map P h each [] = All-nil P
All-filter_map P h each (p ∷ ps) = All-cons_option P (h p) (filter_map h ps) (each p) (All-filter_map P h each ps)

pub IsTable-before : (owner start : ℕ) (ps : List Piece) → IsTable ps → IsTable (before owner start ps)
IsTable-before owner start = IsTable-shrunk (part_before owner start) (shrinks-part_before owner start)

pub IsTable-from : (owner end : ℕ) (ps : List Piece) → IsTable ps → IsTable (from owner end ps)
IsTable-from owner end = IsTable-shrunk (part_from owner end) (shrinks-part_from owner end)

pub IsTable-around : (n : Piece) (ps : List Piece) → IsPiece n → IsTable ps → IsTable (before n.owner n.start ps ++ from n.owner n.end ps)
IsTable-around n ps piece table =
    IsTable-append (before n.owner n.start ps) (from n.owner n.end ps) n piece (IsTable-before n.owner n.start ps table) (IsTable-from n.owner n.end ps table)
    (All-filter_map (λ q. Follows q n) (part_before n.owner n.start) (follows-part_before n) ps)
    (All-filter_map (Follows n) (part_from n.owner n.end) (follows-part_from n) ps)

pub IsTable-between : (n : Piece) (ps : List Piece) → IsPiece n → IsTable ps → IsTable (before n.owner n.start ps ++ n ∷ from n.owner n.end ps)
IsTable-between n ps piece table =
    let above = All-filter_map (Follows n) (part_from n.owner n.end) (follows-part_from n) ps in
    let below = All-filter_map (λ q. Follows q n) (part_before n.owner n.start) (follows-part_before n) ps in
    all_below (before n.owner n.start ps) (IsTable-before n.owner n.start ps table) below
    (IsTable-cons n (from n.owner n.end ps) piece above (IsTable-from n.owner n.end ps table)) above
  where
    all_below : (xs : List Piece) → IsTable xs → All (λ q. Follows q n) xs → IsTable (n ∷ from n.owner n.end ps) → All (Follows n) (from n.owner n.end ps) → IsTable (xs ++ n ∷ from n.owner n.end ps)
    all_below [] table_x below table_y above = table_y
    all_below (x ∷ xs) table_x below table_y above =
        let first = All-head (λ q. Follows q n) x xs below in
        IsTable-cons x (xs ++ n ∷ from n.owner n.end ps) (IsTable-head x xs table_x)
        (All-append (Follows x) xs (n ∷ from n.owner n.end ps) (IsTable-follows x xs table_x)
        (All-cons (Follows x) n (from n.owner n.end ps) first (All-weaker (Follows n) (Follows x) (λ q. Follows-trans x n q piece first) (from n.owner n.end ps) above)))
        (all_below xs (IsTable-tail x xs table_x) (All-tail (λ q. Follows q n) x xs below) table_y above)

pub IsTable-take : (i : ℕ) (ps : List Piece) → IsTable ps → IsTable (take i ps)
IsTable-take i ps table = record {
  pieces = All-take IsPiece i ps table.pieces;
  sorted = λ j k d j<k k<n. rw (get_or-take i ps j d (omega (arith, length-take i ps)), get_or-take i ps k d (omega (arith, length-take i ps))) (table.sorted j k d j<k (omega (arith, length-take i ps)));
}

pub IsTable-drop : (i : ℕ) (ps : List Piece) → IsTable ps → IsTable (drop i ps)
IsTable-drop i ps table = record {
  pieces = All-drop IsPiece i ps table.pieces;
  sorted = λ j k d j<k k<n. rw (get_or-drop i ps j d, get_or-drop i ps k d) (table.sorted (i + j) (i + k) d (omega arith) (omega (arith, length-drop i ps)));
}

-- a filter as a map that gives each piece or nothing
pub filter-as_filter_map : (test : Piece → Bool) (ps : List Piece) → filter test ps ≡ filter_map (λ p. if test p then Some p else None) ps
filter-as_filter_map test [] = refl
filter-as_filter_map test (p ∷ ps) = elim (cases_Bool (test p)) [
  | inl passes ↦ rw (passes, filter-as_filter_map test ps)
  | inr fails ↦ rw (fails, filter-as_filter_map test ps)
]

pub IsTable-filter : (test : Piece → Bool) (ps : List Piece) → IsTable ps → IsTable (filter test ps)
IsTable-filter test ps table = rw (filter-as_filter_map test ps) (IsTable-shrunk (λ p. if test p then Some p else None) (record { part = λ p piece. kept p piece }) ps table)
  where
    kept : (p : Piece) → IsPiece p → IfSome (if test p then Some p else None) (IsPart p)
    kept p piece = cond_both (test p) (Some p) None (λ o. IfSome o (IsPart p)) (λ _. IsPart-whole p piece) (λ _. tt)

-- a range that can be locked makes a piece
pub IsPiece-range : (owner start : ℕ) (len : Len) (kind : Kind) → IsRange start len → IsPiece (record { owner = owner; start = start; end = stop start len; kind = kind })
IsPiece-range owner start (Bytes count) kind range = record { has_bytes = omega (arith, range.0); within = omega (arith, range.1) }
IsPiece-range owner start ToEnd kind range = record { has_bytes = range; within = omega arith }

pub IsTable-without : (owner start : ℕ) (len : Len) (ps : List Piece) → IsRange start len → IsTable ps → IsTable (without ps owner start (stop start len))
IsTable-without owner start len ps range table = IsTable-around (record { owner = owner; start = start; end = stop start len; kind = Read }) ps (IsPiece-range owner start len Read range) table

pub IsTable-with_piece : (owner start : ℕ) (len : Len) (kind : Kind) (ps : List Piece) → IsRange start len → IsTable ps → IsTable (with_piece ps owner start (stop start len) kind)
IsTable-with_piece owner start len kind ps range table = IsTable-between (record { owner = owner; start = start; end = stop start len; kind = kind }) ps (IsPiece-range owner start len kind range) table
