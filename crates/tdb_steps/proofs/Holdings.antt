-- What an opener holds where its command takes the locks of its row, and where it lets go of them.
use Rattle.std.proofs.Common.{◌≡◌, ◌≢◌, ℕ, ◌+◌, ◌<◌, ◌≤◌, max, List, [], ◌∷◌, Bool, true, false, ◌==◌, nat_lt, Option, None, Some, Contains, refl, sym, ◌∙◌, ap, inl, inr, ◌⊎◌, arith, zero-le, le_refl, suc, zero}
use Rattle.std.specs.Prelude.{◌&&◌, if◌then◌else◌}
use Rattle.std.proofs.lemmas.Bool.{cases_Bool, cases_lt, false_from_ne_true, eq-eqb, eqb-true, lt-ltb, le-leb}
use Rattle.tdb_locks.specs.HeldLocks.{HeldLocks}
use Rattle.tdb_locks.specs.LockTable.{ChangesRange, Conflicts, held, kinds_conflict}
use Rattle.tdb_locks.specs.LockTable as Table
use Rattle.tdb_locks.specs.declared.kind.Kind.{Kind}
use Rattle.tdb_locks.specs.declared.kind.Kind.TheVariants.{Read, Write}
use Rattle.tdb_locks.specs.declared.piece.Piece.{Piece}
use Rattle.tdb_locks.proofs.Strengths as Kinds
use Rattle.tdb_law.specs.Rows.{Lock}
use Rattle.tdb_law.specs.Held.{covers, locked, locked_next}
use Rattle.tdb_law.specs.Effects.{IsFirstConflict, IsFree}
use Rattle.tdb_law.proofs.Locks.{within_covers, covers_within, locked_more, locked_grows, strongest_weaker}
use Rattle.tdb_steps.specs.LockRows.{strength_of, start_of, end_of, is_covered, lock_of, locks_in, second_lock, IsLetGo, AreLetGo}
use Rattle.tdb_steps.specs.Holdings.{strength, table_of, KeptBeside, HoldsBefore}
use Rattle.tdb_steps.specs.declared.rows.LockRow.{LockRow}
use Rattle.tdb_steps.specs.declared.rows.Region.{Region}
use Rattle.tdb_steps.specs.declared.rows.Region.TheVariants.{Chain, FreeList, AllRecords}
use Rattle.tdb_steps.specs.declared.rows.Rows.{Rows}

-- the strength of a kind is that of the lock table
same_strength : (o : Option Kind) → strength o ≡ Kinds.strength o
same_strength None = refl
same_strength (Some Read) = refl
same_strength (Some Write) = refl

at_most_two : (o : Option Kind) → strength o ≤ 2
at_most_two o = let e = same_strength o in omega (arith, e, Kinds.strength-le o)

-- what a lock of a row wants at a byte
abbrev pub want : LockRow → ℕ → ℕ
want r b = if covers (lock_of r) b then strength_of r.kind else 0

-- a byte lies in the region, or before or behind it
abbrev Inside : LockRow → ℕ → Type 0
Inside r b = (start_of r.region ≤ b) × (b < end_of r.region) × (want r b ≡ strength_of r.kind)

abbrev Outside : LockRow → ℕ → Type 0
Outside r b = ((b < start_of r.region) ⊎ (end_of r.region ≤ b)) × (want r b ≡ 0)

place : (r : LockRow) (b : ℕ) → Inside r b ⊎ Outside r b
place r b = elim (cases_lt b (start_of r.region)) [
  | inl low ↦ inr (inl low, bare (λ e. let parts = within_covers (lock_of r) b e in omega (arith, low, parts.0)))
  | inr from ↦ elim (cases_lt b (end_of r.region)) [
    | inl to ↦ inl (from, to, let e : covers (lock_of r) b ≡ true = covers_within (lock_of r) b from to in rw e refl)
    | inr past ↦ inr (inr past, bare (λ e. let parts = within_covers (lock_of r) b e in omega (arith, past, parts.1)))
  ]
]
  where
    bare : (covers (lock_of r) b ≡ true → ⊥) → want r b ≡ 0
    bare never = let e : covers (lock_of r) b ≡ false = false_from_ne_true (covers (lock_of r) b) never in rw e refl

-- outside a range nothing changes
changed_outside : (old new : List Piece) (owner start end b : ℕ) (now : Option Kind) → ChangesRange old new owner start end now → (b < start) ⊎ (end ≤ b) → held new owner b ≡ held old owner b
changed_outside old new owner start end b now C out = elim out [ inl low ↦ C.below b low | inr past ↦ C.above b past ]

module _ (locks : HeldLocks) (kept : ℕ → ℕ) (owner : ℕ) (old new : List Piece) (r : LockRow) (K : KeptBeside locks kept r) where
  -- what is covered is kept strongly enough
  kept_enough : is_covered locks r ≡ true → (b : ℕ) → want r b ≤ kept b
  kept_enough over b = elim (place r b) [
    | inl inside ↦ let k = K.covered over b inside.0 inside.1 in omega (arith, inside.2, k)
    | inr outside ↦ omega (arith, outside.1)
  ]

  -- a byte where a lock of a row was taken
  pub taken_at : (is_covered locks r ≡ true → new ≡ old) → (is_covered locks r ≡ false → ChangesRange old new owner (start_of r.region) (end_of r.region) (Some r.kind)) → (b : ℕ)
      → ((want r b ≤ kept b) × (table_of new owner b ≡ table_of old owner b)) ⊎ ((kept b ≡ 0) × (table_of new owner b ≡ want r b) × (want r b ≡ strength_of r.kind))
  taken_at same changed b = elim (cases_Bool (is_covered locks r)) [
    | inl over ↦ inl (kept_enough over b, ap (λ ps. table_of ps owner b) (same over))
    | inr never ↦ elim (place r b) [
      | inl inside ↦ inr (K.bare never b inside.0 inside.1, ap strength ((changed never).inside b inside.0 inside.1) ∙ sym inside.2, inside.2)
      | inr outside ↦ inl (omega (arith, outside.1), ap strength (changed_outside old new owner (start_of r.region) (end_of r.region) b (Some r.kind) (changed never) outside.0))
    ]
  ]

  -- a byte where a lock of a row was let go
  pub let_go_at : IsLetGo locks owner old new r → (b : ℕ) → ((want r b ≤ kept b) × (table_of new owner b ≡ table_of old owner b)) ⊎ ((kept b ≡ 0) × (table_of new owner b ≡ 0))
  let_go_at L b = elim (cases_Bool (is_covered locks r)) [
    | inl over ↦ inl (kept_enough over b, ap (λ ps. table_of ps owner b) (L.covered over))
    | inr never ↦ elim (place r b) [
      | inl inside ↦ inr (K.bare never b inside.0 inside.1, ap strength ((L.bare never).inside b inside.0 inside.1))
      | inr outside ↦ inl (omega (arith, outside.1), ap strength (changed_outside old new owner (start_of r.region) (end_of r.region) b None (L.bare never) outside.0))
    ]
  ]

-- what others hold where a lock of a row is taken or let go
pub others_changed : (c : Bool) (old new : List Piece) (owner start end : ℕ) (now : Option Kind) → (c ≡ true → new ≡ old) → (c ≡ false → ChangesRange old new owner start end now) → (o b : ℕ) → o ≢ owner → table_of new o b ≡ table_of old o b
others_changed true old new owner start end now same changed o b differs = ap (λ ps. table_of ps o b) (same refl)
others_changed false old new owner start end now same changed o b differs = ap strength ((changed refl).others o b differs)

-- a turn more locks just what it wants
pub next_turn : (ls : List Lock) (n b : ℕ) → locked ls (n + 1) b ≡ max (locked ls n b) (locked_next ls n b)
next_turn ls n b =
    let grows = locked_grows ls n (n + 1) b (omega arith) in
    let wants : locked_next ls n b ≤ locked ls (n + 1) b = strongest_weaker (λ l. l.turn == n) (λ l. nat_lt l.turn (n + 1)) ls b (λ l e. lt-ltb l.turn (n + 1) (let same : l.turn ≡ n = eqb-true l.turn n e in omega (arith, same))) in
    omega (arith, grows, wants, locked_more ls n b)

-- what a lock wants where it is picked is no more than what it wants
picked_less : (p v : Bool) (s : ℕ) → (if p && v then s else 0) ≤ (if v then s else 0)
picked_less false v s = zero-le
picked_less true v s = le_refl (if v then s else 0)

abbrev wants_second : Option LockRow → ℕ → ℕ
wants_second None b = 0
wants_second (Some r) b = want r b

max_less : (x y v w : ℕ) → x ≤ v → y ≤ w → max x (max y 0) ≤ max v w
max_less x y v w one two = omega (arith, one, two)

covered_one : (x y z l w k : ℕ) → x ≡ max l k → l ≤ max w 0 → z ≡ y → w ≤ k → y ≡ x → z ≡ max 0 k
covered_one x y z l w k whole less last enough same = omega (arith, whole, less, last, enough, same)

covered_two : (x y z l w v k : ℕ) → x ≡ max l k → l ≤ max w v → v ≤ k → z ≡ y → w ≤ k → y ≡ x → z ≡ max 0 k
covered_two x y z l w v k whole less enough_too last enough same = omega (arith, whole, less, enough_too, last, enough, same)

locked_less : (first : LockRow) (second : Option LockRow) (n b : ℕ) → locked (lock_of first ∷ second_lock second) n b ≤ max (want first b) (wants_second second b)
locked_less first None n b = let one = picked_less (nat_lt first.turn n) (covers (lock_of first) b) (strength_of first.kind) in omega (arith, one)
locked_less first (Some r) n b =
    let one = picked_less (nat_lt first.turn n) (covers (lock_of first) b) (strength_of first.kind) in
    let two = picked_less (nat_lt r.turn n) (covers (lock_of r) b) (strength_of r.kind) in
    max_less _ _ _ _ one two

module _ (locks : HeldLocks) (kept : ℕ → ℕ) (owner n : ℕ) (old new : List Piece) where
  -- all is let go
  pub let_go_holds : (first : LockRow) (second : Option LockRow) → HoldsBefore locks kept owner n old (record { first = first; second = second }) → AreLetGo locks owner old new (record { first = first; second = second }) → (b : ℕ) → table_of new owner b ≡ max 0 (kept b)
  let_go_holds first None H L b =
      let whole = H.holds b in
      let less = locked_less first None n b in
      let last : table_of new owner b ≡ table_of L.between owner b = ap (λ ps. table_of ps owner b) (L.only refl) in
      elim (let_go_at locks kept owner old L.between first H.first L.first b) [
        | inl covered ↦ covered_one _ _ _ _ _ _ whole less last covered.0 covered.1
        | inr bare ↦ omega (arith, last, bare.0, bare.1)
      ]
  let_go_holds first (Some r) H L b =
      let whole = H.holds b in
      let less = locked_less first (Some r) n b in
      elim (let_go_at locks kept owner L.between new r H.second L.second b) [
        | inr bare ↦ omega (arith, bare.0, bare.1)
        | inl kept_too ↦ elim (let_go_at locks kept owner old L.between first H.first L.first b) [
          | inl covered ↦ covered_two _ _ _ _ _ _ _ whole less kept_too.0 kept_too.1 covered.0 covered.1
          | inr bare ↦ omega (arith, bare.0, bare.1, kept_too.0, kept_too.1)
        ]
      ]

  let_go_other : (between : List Piece) (r : LockRow) → IsLetGo locks owner between new r → (o b : ℕ) → o ≢ owner → table_of new o b ≡ table_of between o b
  let_go_other between r L o b differs = others_changed (is_covered locks r) between new owner (start_of r.region) (end_of r.region) None L.covered L.bare o b differs

  pub let_go_others : (first : LockRow) (second : Option LockRow) → AreLetGo locks owner old new (record { first = first; second = second }) → (o b : ℕ) → o ≢ owner → table_of new o b ≡ table_of old o b
  let_go_others first None L o b differs = ap (λ ps. table_of ps o b) (L.only refl) ∙ others_changed (is_covered locks first) old L.between owner (start_of first.region) (end_of first.region) None L.first.covered L.first.bare o b differs
  let_go_others first (Some r) L o b differs = let_go_other L.between r L.second o b differs ∙ others_changed (is_covered locks first) old L.between owner (start_of first.region) (end_of first.region) None L.first.covered L.first.bare o b differs

-- where nothing is wanted nothing conflicts
pub idle_free : (ps : List Piece) (owner : ℕ) (wanted : ℕ → ℕ) → ((b : ℕ) → wanted b ≡ 0) → IsFree (table_of ps) owner wanted
idle_free ps owner wanted none = record { free = λ p b differs. let zero_here = none b in let two = at_most_two (held ps p b) in omega (arith, zero_here, two) }

module _ (owner : ℕ) (old : List Piece) (r : LockRow) where
  -- a lock that is free conflicts with nothing
  pub row_free : Table.IsFree old owner (start_of r.region) (end_of r.region) r.kind → IsFree (table_of old) owner (want r)
  row_free free = record { free = at }
    where
      at : (p b : ℕ) → p ≢ owner → want r b + table_of old p b ≤ 2
      at p b differs = elim (place r b) [
        | inl inside ↦
            let room = Kinds.strength-free old owner (start_of r.region) (end_of r.region) r.kind free p b differs inside.0 inside.1 in
            let one = same_strength (held old p b) in
            let two = same_strength (Some r.kind) in
            omega (arith, room, one, two, inside.2)
        | inr outside ↦ let two = at_most_two (held old p b) in omega (arith, outside.1, two)
      ]

  -- and its first conflict is that of what it wants
  pub row_blocked : (other byte : ℕ) (kind : Kind) → Table.IsFirstConflict old owner (start_of r.region) (end_of r.region) r.kind other byte kind → IsFirstConflict (table_of old) owner (want r) other byte
  row_blocked other byte kind F = record { other = F.conflict.other_owner; conflict = strong; least = least }
    where
      wanted : want r byte ≡ strength_of r.kind
      wanted = let e : covers (lock_of r) byte ≡ true = covers_within (lock_of r) byte F.conflict.from_start F.conflict.before_end in rw e refl

      strong : 2 < want r byte + table_of old other byte
      strong =
          let more = Kinds.kinds_conflict-strength kind r.kind F.conflict.writes in
          let one = same_strength (Some kind) in
          let two = same_strength (Some r.kind) in
          let holds : table_of old other byte ≡ strength (Some kind) = ap strength F.conflict.holds in
          omega (arith, wanted, more, one, two, holds)

      at : (p b : ℕ) → p ≢ owner → 2 < want r b + table_of old p b → (there : Option Kind) → held old p b ≡ there → (byte < b) ⊎ ((byte ≡ b) × (other ≤ p))
      at p b differs more None holds = let none : table_of old p b ≡ 0 = ap strength holds in let most = at_most_two (Some r.kind) in absurd (elim (place r b) [ inl inside ↦ omega (arith, more, none, most, inside.2) | inr outside ↦ omega (arith, more, none, outside.1) ])
      at p b differs more (Some k) holds = elim (place r b) [
        | inl inside ↦
            let there : table_of old p b ≡ strength (Some k) = ap strength holds in
            let one = same_strength (Some k) in
            let two = same_strength (Some r.kind) in
            F.least p b k (record { other_owner = differs; from_start = inside.0; before_end = inside.1; holds = holds; writes = Kinds.strength-kinds_conflict k r.kind (omega (arith, more, there, one, two, inside.2)) })
        | inr outside ↦ let most = at_most_two (held old p b) in absurd (omega (arith, more, outside.1, most))
      ]

      least : (p b : ℕ) → p ≢ owner → 2 < want r b + table_of old p b → (byte < b) ⊎ ((byte ≡ b) × (other ≤ p))
      least p b differs more = at p b differs more (held old p b) refl

module _ (locks : HeldLocks) (kept : ℕ → ℕ) (owner n : ℕ) (old : List Piece) (rows : Rows) (H : HoldsBefore locks kept owner n old rows) (r : LockRow) (K : KeptBeside locks kept r) (next : (b : ℕ) → locked_next (locks_in rows) n b ≡ want r b) where
  -- a lock that is covered or free conflicts with nothing
  pub lock_free : (is_covered locks r ≡ false → Table.IsFree old owner (start_of r.region) (end_of r.region) r.kind) → IsFree (table_of old) owner (locked_next (locks_in rows) n)
  lock_free free = record { free = at }
    where
      at : (p b : ℕ) → p ≢ owner → locked_next (locks_in rows) n b + table_of old p b ≤ 2
      at p b differs = elim (cases_Bool (is_covered locks r)) [
        | inl over ↦
            let enough = kept_enough locks kept owner old old r K over b in
            let whole = H.holds b in
            let room = H.apart p b differs in
            omega (arith, next b, enough, whole, room)
        | inr bare ↦ let room = (row_free owner old r (free bare)).free p b differs in omega (arith, next b, room)
      ]

  -- and the first conflict of the lock is that of what the turn wants
  pub lock_blocked : (other byte : ℕ) (kind : Kind) → Table.IsFirstConflict old owner (start_of r.region) (end_of r.region) r.kind other byte kind → IsFirstConflict (table_of old) owner (locked_next (locks_in rows) n) other byte
  lock_blocked other byte kind F = record {
    other = first.other;
    conflict = let strong = first.conflict in omega (arith, next byte, strong);
    least = λ p b differs more. first.least p b differs (omega (arith, more, next b));
  }
    where
      first : IsFirstConflict (table_of old) owner (want r) other byte
      first = row_blocked owner old r other byte kind F

  -- what is held where it was taken
  pub lock_holds : (new : List Piece) → ((b : ℕ) → locked (locks_in rows) n b ≤ strength_of r.kind) → (is_covered locks r ≡ true → new ≡ old) → (is_covered locks r ≡ false → ChangesRange old new owner (start_of r.region) (end_of r.region) (Some r.kind)) → (b : ℕ) → table_of new owner b ≡ max (locked (locks_in rows) (n + 1) b) (kept b)
  lock_holds new low same changed b =
      let whole = H.holds b in
      let more = next_turn (locks_in rows) n b in
      elim (taken_at locks kept owner old new r K same changed b) [
        | inl covered ↦ omega (arith, whole, more, next b, covered.0, covered.1)
        | inr bare ↦ omega (arith, more, next b, low b, bare.0, bare.1, bare.2)
      ]

-- a piece that covers a byte is held there
covered_held : (ps : List Piece) (p : Piece) (owner b : ℕ) → Contains ps p → Table.covers p owner b ≡ true → held ps owner b ≡ None → ⊥
covered_held [] p owner b (k, within, is) over none = omega (arith, within)
covered_held (x ∷ ps) p owner b (zero, within, is) over none = let here : Table.covers x owner b ≡ true = ap (λ q. Table.covers q owner b) is ∙ over in let e : ◌≡◌ {A = Option Kind} (Some x.kind) None = sym (ap (λ c. if c then Some x.kind else held ps owner b) here) ∙ none in cc
covered_held (x ∷ ps) p owner b (suc k, within, is) over none = elim (cases_Bool (Table.covers x owner b)) [
  | inl here ↦ let e : ◌≡◌ {A = Option Kind} (Some x.kind) None = sym (ap (λ c. if c then Some x.kind else held ps owner b) here) ∙ none in cc
  | inr not_here ↦ covered_held ps p owner b (k, omega (arith, within), is) over (sym (ap (λ c. if c then Some x.kind else held ps owner b) not_here) ∙ none)
]

-- so a region before which nothing is held isn't part of a longer piece
pub stands_whole : (ps : List Piece) (owner start end : ℕ) (p : Piece) → start < end → ((b : ℕ) → b + 1 ≡ start → held ps owner b ≡ None) → Table.IsInsidePiece ps owner start end p → ⊥
stands_whole ps owner zero end p some alone I = let low = I.begins_before in omega (arith, low)
stands_whole ps owner (suc b) end p some alone I =
    covered_held ps p owner b I.stands
    (let low : p.start ≤ b = let s = I.begins_before in omega (arith, s) in let high : b < p.end = let e = I.ends_after in omega (arith, e, some) in rw (eq-eqb p.owner owner I.owned, le-leb p.start b low, lt-ltb b p.end high) refl)
    (alone b (omega arith))

-- a region has a byte at least
pub region_some : (r : Region) → start_of r < end_of r
region_some (Chain i) = omega arith
region_some FreeList = omega arith
region_some AllRecords = omega arith
