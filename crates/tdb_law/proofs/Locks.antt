-- Lists of locks: what so many turns have locked, and where the next one adds to it.
use Rattle.std.proofs.Common.{◌≡◌, ℕ, ◌+◌, ◌<◌, ◌≤◌, max, List, [], ◌∷◌, Bool, true, false, nat_lt, nat_le, ◌==◌, refl, inl, inr, ◌⊎◌, arith, zero-le, le_refl, le_trans}
use Rattle.std.specs.Prelude.{◌&&◌, if◌then◌else◌}
use Rattle.std.proofs.lemmas.Bool.{cases_eq, ltb-true, leb-true, lt-ltb, le-ltb, le-leb, eq-eqb, and_parts}
use Rattle.tdb_space.specs.Form.{Form, data_start}
use Rattle.tdb_space.specs.Pairs.{home}
use Rattle.tdb_space.proofs.Pairs.Maps.{home_below}
use Rattle.tdb_law.specs.Refusals.{chain_byte}
use Rattle.tdb_law.specs.Rows.{Lock, lock_all, lock_chain, all_end}
use Rattle.tdb_law.specs.Held.{covers, strongest, locked, locked_next}
use Rattle.tdb_law.specs.World.{HasFewChains}

-- the strength of a lock where it is picked
abbrev one_lock : Bool → Bool → ℕ → ℕ
one_lock p v s = if p && v then s else 0

one_weaker : (p q v : Bool) (s : ℕ) → (p ≡ true → q ≡ true) → one_lock p v s ≤ one_lock q v s
one_weaker false q v s h = zero-le
one_weaker true q false s h = zero-le
one_weaker true q true s h = let e : q ≡ true = h refl in rw e (le_refl s)

one_split : (p q r v : Bool) (s : ℕ) → (p ≡ true → (q ≡ true) ⊎ (r ≡ true)) → one_lock p v s ≤ max (one_lock q v s) (one_lock r v s)
one_split false q r v s h = zero-le
one_split true q r false s h = zero-le
one_split true q r true s h =
    elim (h refl) [
      | inl e ↦ rw e (omega arith)
      | inr e ↦ rw e (omega arith)
    ]

pub strongest_weaker : (p q : Lock → Bool) (ls : List Lock) (b : ℕ) → ((l : Lock) → p l ≡ true → q l ≡ true) → strongest p ls b ≤ strongest q ls b
strongest_weaker p q [] b h = le_refl 0
strongest_weaker p q (l ∷ ls) b h = omega (arith, one_weaker (p l) (q l) (covers l b) l.strength (h l), strongest_weaker p q ls b h)

strongest_split : (p q r : Lock → Bool) (ls : List Lock) (b : ℕ) → ((l : Lock) → p l ≡ true → (q l ≡ true) ⊎ (r l ≡ true)) → strongest p ls b ≤ max (strongest q ls b) (strongest r ls b)
strongest_split p q r [] b h = zero-le
strongest_split p q r (l ∷ ls) b h = omega (arith, one_split (p l) (q l) (r l) (covers l b) l.strength (h l), strongest_split p q r ls b h)

-- a turn more locks at most what it wants
lower_or_equal : (t n : ℕ) → nat_lt t (n + 1) ≡ true → (nat_lt t n ≡ true) ⊎ ((t == n) ≡ true)
lower_or_equal t n e =
    elim (cases_eq t n) [
      | inl same ↦ inr (eq-eqb t n same)
      | inr apart ↦ inl (let low : t < n + 1 = ltb-true t (n + 1) e in lt-ltb t n (omega (arith, low, apart)))
    ]

pub locked_more : (ls : List Lock) (n b : ℕ) → locked ls (n + 1) b ≤ max (locked ls n b) (locked_next ls n b)
locked_more ls n b = strongest_split _ _ _ ls b (λ l e. lower_or_equal l.turn n e)

-- more turns lock more
pub locked_grows : (ls : List Lock) (n m b : ℕ) → n ≤ m → locked ls n b ≤ locked ls m b
locked_grows ls n m b le = strongest_weaker _ _ ls b (λ l e. let low : l.turn < n = ltb-true l.turn n e in lt-ltb l.turn m (omega arith))

-- what one turn locks is locked or wanted from then on
pub locked_reached : (ls : List Lock) (n b : ℕ) → locked ls 1 b ≤ max (locked ls n b) (locked_next ls n b)
locked_reached ls n b = le_trans (locked_grows ls 1 (n + 1) b (omega arith)) (locked_more ls n b)

-- before the first turn nothing is locked
pub locked_none : (ls : List Lock) (b : ℕ) → locked ls 0 b ≡ 0
locked_none [] b = refl
locked_none (l ∷ ls) b = let e : nat_lt l.turn 0 ≡ false = le-ltb l.turn 0 zero-le in rw e (omega (arith, locked_none ls b))

-- the first lock of a list, once it is taken
pub first_locked : (l : Lock) (ls : List Lock) (n b : ℕ) → l.turn < n → covers l b ≡ true → l.strength ≤ locked (l ∷ ls) n b
first_locked l ls n b low e = let taken : nat_lt l.turn n ≡ true = lt-ltb l.turn n low in rw (taken, e) (omega arith)

-- the others
pub rest_locked : (l : Lock) (ls : List Lock) (n b : ℕ) → locked ls n b ≤ locked (l ∷ ls) n b
rest_locked l ls n b = omega arith

-- a lock covers the bytes from its start up to its end
pub covers_within : (l : Lock) (b : ℕ) → l.start ≤ b → b < l.end → covers l b ≡ true
covers_within l b from to = let e : nat_le l.start b ≡ true = le-leb l.start b from in rw e (lt-ltb b l.end to)

pub within_covers : (l : Lock) (b : ℕ) → covers l b ≡ true → (l.start ≤ b) × (b < l.end)
within_covers l b e = let parts = and_parts (nat_le l.start b) (nat_lt b l.end) e in (leb-true l.start b parts.0, ltb-true b l.end parts.1)

-- the byte of a chain lies behind the free list's and before the records
pub record ChainPlace (f : Form) (byte : ℕ) : Type 0 where
  pub above : 168 ≤ byte
  pub below : byte < data_start f
  pub far : data_start f < all_end

pub chain_place : (f : Form) → HasFewChains f → (k : List ℕ) → ChainPlace f (chain_byte f k)
chain_place f chains k = let low : home f k < f.chains = home_below f k chains.some in record { above = omega arith; below = omega arith; far = omega (arith, chains.few) }

pub chain_covered : (f : Form) (turn : ℕ) (k : List ℕ) (s : ℕ) → covers (lock_chain f turn k s) (chain_byte f k) ≡ true
chain_covered f turn k s = covers_within (lock_chain f turn k s) (chain_byte f k) (le_refl _) (omega arith)

pub all_covered : (f : Form) → HasFewChains f → (turn : ℕ) (k : List ℕ) (s : ℕ) → covers (lock_all turn s) (chain_byte f k) ≡ true
all_covered f chains turn k s = let place = chain_place f chains k in covers_within (lock_all turn s) (chain_byte f k) place.above (omega (arith, place.below, place.far))

-- A lock that reaches records covers all chains too, so where it is held at a record's byte it is held at every
-- chain's.
abbrev pub IsWide : Form → List Lock → Type 0
IsWide f [] = Unit {0}
IsWide f (l ∷ ls) = ((l.end ≤ data_start f) ⊎ ((l.start ≤ 168) × (all_end ≤ l.end))) × IsWide f ls

one_wide : (f : Form) (chains : HasFewChains f) (l : Lock) (b : ℕ) (k : List ℕ) → data_start f ≤ b → ((l.end ≤ data_start f) ⊎ ((l.start ≤ 168) × (all_end ≤ l.end)))
    → covers l b ≡ true → covers l (chain_byte f k) ≡ true
one_wide f chains l b k high wide e =
    let in_it = within_covers l b e in
    let place = chain_place f chains k in
    elim wide [
      | inl low ↦ absurd (omega (arith, low, high, in_it.1))
      | inr over ↦ covers_within l (chain_byte f k) (omega (arith, over.0, place.above)) (omega (arith, over.1, place.below, place.far))
    ]

one_lock_wide : (p v z : Bool) (s : ℕ) → (v ≡ true → z ≡ true) → one_lock p v s ≤ one_lock p z s
one_lock_wide false v z s h = le_refl 0
one_lock_wide true false z s h = zero-le
one_lock_wide true true z s h = let e : z ≡ true = h refl in rw e (le_refl s)

pub locked_wide : (f : Form) → HasFewChains f → (ls : List Lock) (n b : ℕ) (k : List ℕ) → data_start f ≤ b → IsWide f ls → locked ls n b ≤ locked ls n (chain_byte f k)
locked_wide f chains [] n b k high wide = le_refl 0
locked_wide f chains (l ∷ ls) n b k high wide =
    omega (arith, one_lock_wide (nat_lt l.turn n) (covers l b) (covers l (chain_byte f k)) l.strength (one_wide f chains l b k high wide.0), locked_wide f chains ls n b k high wide.1)
