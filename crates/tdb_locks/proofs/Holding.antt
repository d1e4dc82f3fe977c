-- What an owner holds in parts of tables.
use Rattle.std.proofs.Common.{◌≡◌, ◌≢◌, ◌≤◌, ◌<◌, ◌++◌, ◌∷◌, [], Bool, List, None, Option, Some, false, true, ℕ, arith, refl, cond, sym, inl, inr, ◌==◌, not}
use Rattle.std.specs.List.{cons_option, filter, filter_map}
use Rattle.std.specs.Option.{option_to_list}
use Rattle.std.proofs.lemmas.Bool.Decides.{nat_tests}
use Rattle.std.proofs.lemmas.Bool.{cases_lt}
use Rattle.tdb_locks.proofs.Tables.{filter-as_filter_map}
use Rattle.tdb_locks.specs.LockTable.{ChangesRange, before, covers, from, held, part_before, part_from, with_piece, without}
use Rattle.tdb_locks.specs.declared.kind.Kind.{Kind}
use Rattle.tdb_locks.specs.declared.piece.Piece.{Piece}

-- the first of two, where there is one
abbrev pub or_else : Option Kind → Option Kind → Option Kind
or_else None second = second
or_else (Some kind) second = Some kind

or_else-cond : (b : Bool) (kind : Kind) (x y : Option Kind) → or_else (cond b (Some kind) x) y ≡ cond b (Some kind) (or_else x y)
or_else-cond true kind x y = refl
or_else-cond false kind x y = refl

pub held-append : (xs ys : List Piece) (owner byte : ℕ) → held (xs ++ ys) owner byte ≡ or_else (held xs owner byte) (held ys owner byte)
held-append [] ys owner byte = refl
held-append (x ∷ xs) ys owner byte = rw (held-append xs ys owner byte) (sym (or_else-cond (covers x owner byte) x.kind (held xs owner byte) (held ys owner byte)))

-- what is held before a byte of the same owner stays, and after it nothing is left
part_before-same : (o s : ℕ) (p : Piece) (owner byte : ℕ) → owner < o → held (option_to_list (part_before o s p)) owner byte ≡ held (p ∷ []) owner byte
part_before-same o s p owner byte less = grind (arith, nat_tests)

part_before-below : (o s : ℕ) (p : Piece) (byte : ℕ) → byte < s → held (option_to_list (part_before o s p)) o byte ≡ held (p ∷ []) o byte
part_before-below o s p byte less = grind (arith, nat_tests)

part_before-past : (o s : ℕ) (p : Piece) (byte : ℕ) → s ≤ byte → held (option_to_list (part_before o s p)) o byte ≡ None
part_before-past o s p byte past = grind (arith, nat_tests)

part_before-later : (o s : ℕ) (p : Piece) (owner byte : ℕ) → o < owner → held (option_to_list (part_before o s p)) owner byte ≡ None
part_before-later o s p owner byte later = grind (arith, nat_tests)

-- what is held from a byte of the same owner on stays, and before it nothing is left
part_from-same : (o e : ℕ) (p : Piece) (owner byte : ℕ) → o < owner → held (option_to_list (part_from o e p)) owner byte ≡ held (p ∷ []) owner byte
part_from-same o e p owner byte more = grind (arith, nat_tests)

part_from-above : (o e : ℕ) (p : Piece) (byte : ℕ) → e ≤ byte → held (option_to_list (part_from o e p)) o byte ≡ held (p ∷ []) o byte
part_from-above o e p byte past = grind (arith, nat_tests)

part_from-below : (o e : ℕ) (p : Piece) (byte : ℕ) → byte < e → held (option_to_list (part_from o e p)) o byte ≡ None
part_from-below o e p byte less = grind (arith, nat_tests)

part_from-earlier : (o e : ℕ) (p : Piece) (owner byte : ℕ) → owner < o → held (option_to_list (part_from o e p)) owner byte ≡ None
part_from-earlier o e p owner byte earlier = grind (arith, nat_tests)

held-cons_option : (o : Option Piece) (ps : List Piece) (owner byte : ℕ) → held (cons_option o ps) owner byte ≡ or_else (held (option_to_list o) owner byte) (held ps owner byte)
held-cons_option None ps owner byte = refl
held-cons_option (Some p) ps owner byte = held-append (p ∷ []) ps owner byte

held-filter_map_same : (h : Piece → Option Piece) (owner byte : ℕ) → ((p : Piece) → held (option_to_list (h p)) owner byte ≡ held (p ∷ []) owner byte) → (ps : List Piece) → held (filter_map h ps) owner byte ≡ held ps owner byte
held-filter_map_same h owner byte same [] = refl
held-filter_map_same h owner byte same (p ∷ ps) =
    let first = held-cons_option (h p) (filter_map h ps) owner byte in
    let rest = held-filter_map_same h owner byte same ps in
    let at = same p in
    let whole = held-append (p ∷ []) ps owner byte in
    cc

held-filter_map_none : (h : Piece → Option Piece) (owner byte : ℕ) → ((p : Piece) → held (option_to_list (h p)) owner byte ≡ None) → (ps : List Piece) → held (filter_map h ps) owner byte ≡ None
held-filter_map_none h owner byte none [] = refl
held-filter_map_none h owner byte none (p ∷ ps) =
    let first = held-cons_option (h p) (filter_map h ps) owner byte in
    let rest = held-filter_map_none h owner byte none ps in
    let at = none p in
    cc

-- what is held after a change, put together from what stands before the range, in it, and after it
module _ (old : List Piece) (owner start end : ℕ) (range : start < end) where
  before-below : (byte : ℕ) → byte < start → held (before owner start old) owner byte ≡ held old owner byte
  before-below byte less = held-filter_map_same (part_before owner start) owner byte (λ p. part_before-below owner start p byte less) old

  before-past : (byte : ℕ) → start ≤ byte → held (before owner start old) owner byte ≡ None
  before-past byte past = held-filter_map_none (part_before owner start) owner byte (λ p. part_before-past owner start p byte past) old

  before-earlier : (other byte : ℕ) → other < owner → held (before owner start old) other byte ≡ held old other byte
  before-earlier other byte less = held-filter_map_same (part_before owner start) other byte (λ p. part_before-same owner start p other byte less) old

  before-later : (other byte : ℕ) → owner < other → held (before owner start old) other byte ≡ None
  before-later other byte later = held-filter_map_none (part_before owner start) other byte (λ p. part_before-later owner start p other byte later) old

  from-below : (byte : ℕ) → byte < end → held (from owner end old) owner byte ≡ None
  from-below byte less = held-filter_map_none (part_from owner end) owner byte (λ p. part_from-below owner end p byte less) old

  from-above : (byte : ℕ) → end ≤ byte → held (from owner end old) owner byte ≡ held old owner byte
  from-above byte past = held-filter_map_same (part_from owner end) owner byte (λ p. part_from-above owner end p byte past) old

  from-earlier : (other byte : ℕ) → other < owner → held (from owner end old) other byte ≡ None
  from-earlier other byte earlier = held-filter_map_none (part_from owner end) other byte (λ p. part_from-earlier owner end p other byte earlier) old

  from-later : (other byte : ℕ) → owner < other → held (from owner end old) other byte ≡ held old other byte
  from-later other byte more = held-filter_map_same (part_from owner end) other byte (λ p. part_from-same owner end p other byte more) old

  or_else-nil : (x : Option Kind) → or_else x None ≡ x
  or_else-nil None = refl
  or_else-nil (Some kind) = refl

  -- `mid` is held in the range by the owner as `now` says, and nothing else is
  pub record IsMiddle (mid : List Piece) (now : Option Kind) : Type 0 where
    pub inside : (byte : ℕ) → start ≤ byte → byte < end → held mid owner byte ≡ now
    pub below : (byte : ℕ) → byte < start → held mid owner byte ≡ None
    pub above : (byte : ℕ) → end ≤ byte → held mid owner byte ≡ None
    pub others : (other byte : ℕ) → other ≢ owner → held mid other byte ≡ None

  three : (mid : List Piece) (other byte : ℕ) → held (before owner start old ++ (mid ++ from owner end old)) other byte ≡ or_else (held (before owner start old) other byte) (or_else (held mid other byte) (held (from owner end old) other byte))
  three mid other byte = rw (held-append (before owner start old) (mid ++ from owner end old) other byte, held-append mid (from owner end old) other byte)

  changed : (mid : List Piece) (now : Option Kind) → IsMiddle mid now → ChangesRange old (before owner start old ++ (mid ++ from owner end old)) owner start end now
  changed mid now middle = record {
    inside = λ byte low high. rw (three mid owner byte, before-past byte low, middle.inside byte low high, from-below byte high) (or_else-nil now);
    below = λ byte less. rw (three mid owner byte, before-below byte less, middle.below byte less, from-below byte (omega arith)) (or_else-nil (held old owner byte));
    above = λ byte past. rw (three mid owner byte, before-past byte (omega arith), middle.above byte past, from-above byte past);
    others = λ other byte differs. elim (cases_lt other owner) [
      | inl less ↦ rw (three mid other byte, before-earlier other byte less, middle.others other byte differs, from-earlier other byte less) (or_else-nil (held old other byte))
      | inr past ↦ rw (three mid other byte, before-later other byte (omega arith), middle.others other byte differs, from-later other byte (omega arith))
    ];
  }

  pub ChangesRange-without : ChangesRange old (without old owner start end) owner start end None
  ChangesRange-without = changed [] None (record { inside = λ byte low high. refl; below = λ byte less. refl; above = λ byte past. refl; others = λ other byte differs. refl })

  pub ChangesRange-with_piece : (kind : Kind) → ChangesRange old (with_piece old owner start end kind) owner start end (Some kind)
  ChangesRange-with_piece kind = changed ((record { owner = owner; start = start; end = end; kind = kind }) ∷ []) (Some kind) (record {
    inside = λ byte low high. grind (arith, nat_tests);
    below = λ byte less. grind (arith, nat_tests);
    above = λ byte past. grind (arith, nat_tests);
    others = λ other byte differs. grind (arith, nat_tests);
  })

-- what is held once an owner's pieces are gone
left_out-none : (owner byte : ℕ) (p : Piece) → held (option_to_list (cond (not (p.owner == owner)) (Some p) None)) owner byte ≡ None
left_out-none owner byte p = grind (arith, nat_tests)

left_out-same : (owner other byte : ℕ) (p : Piece) → other ≢ owner → held (option_to_list (cond (not (p.owner == owner)) (Some p) None)) other byte ≡ held (p ∷ []) other byte
left_out-same owner other byte p differs = grind (arith, nat_tests)

pub held-dropped : (owner byte : ℕ) (ps : List Piece) → held (filter (λ p. not (p.owner == owner)) ps) owner byte ≡ None
held-dropped owner byte ps = rw (filter-as_filter_map (λ p. not (p.owner == owner)) ps) (held-filter_map_none (λ p. cond (not (p.owner == owner)) (Some p) None) owner byte (left_out-none owner byte) ps)

pub held-kept : (owner other byte : ℕ) (ps : List Piece) → other ≢ owner → held (filter (λ p. not (p.owner == owner)) ps) other byte ≡ held ps other byte
held-kept owner other byte ps differs = rw (filter-as_filter_map (λ p. not (p.owner == owner)) ps) (held-filter_map_same (λ p. cond (not (p.owner == owner)) (Some p) None) other byte (λ p. left_out-same owner other byte p differs) ps)
