-- What an opener with a cursor holds at each lock byte, as strengths.
use Rattle.std.proofs.Common.{◌≡◌, ℕ, ◌+◌, ◌<◌, ◌≤◌, max, Bool, true, false, ◌==◌, nat_le, nat_lt, Option, Some, None, is_some, refl, sym, ◌∙◌, ap, subst, inl, inr, arith}
use Rattle.std.specs.Prelude.{◌&&◌, ◌||◌, if◌then◌else◌}
use Rattle.std.proofs.lemmas.Bool.{cases_eq, cases_lt, eq-eqb, ne_eqb, le-leb, lt-leb, lt-ltb, le-ltb}
use Rattle.tdb_space.specs.Form.{Form, data_start}
use Rattle.tdb_locks.specs.HeldLocks.{HeldLocks, count_of}
use Rattle.tdb_locks.specs.declared.kind.Kind.{Kind}
use Rattle.tdb_locks.specs.declared.kind.Kind.TheVariants.{Read, Write}
use Rattle.tdb_locks.proofs.Strengths.{strength}
use Rattle.tdb_law.specs.Openers.{AllLock, Own, count_at}
use Rattle.tdb_law.specs.Rows.{all_end}
use Rattle.tdb_law.specs.Held.{all_held, explicit_held, stand_held}
use Rattle.tdb_law.specs.World.{HasFewChains}
use Rattle.tdb_walk.specs.Way.{lock_byte, reads_chain}
use Rattle.tdb_walk.specs.ByteLocks.{Holding, with_byte, reads_all, is_reading, only_reads}
use Rattle.tdb_walk.specs.Cursors.{free_byte}
use Rattle.tdb_walk.specs.InLaw.{IsAll, HoldsExplicit}

-- a strength at one byte alone
abbrev pub one : ℕ → ℕ → ℕ → ℕ
one byte s b = if nat_le byte b && nat_lt b (byte + 1) then s else 0

pub one_at : (byte s b : ℕ) → b ≡ byte → one byte s b ≡ s
one_at byte s b here = rw (le-leb byte b (omega (arith, here)), lt-ltb b (byte + 1) (omega (arith, here))) refl

pub one_off : (byte s b : ℕ) → (b ≡ byte → ⊥) → one byte s b ≡ 0
one_off byte s b apart = elim (cases_lt b byte) [
  | inl under ↦ rw (lt-leb byte b under) refl
  | inr over ↦ rw (le-leb byte b over, le-ltb b (byte + 1) (omega (arith, over, apart))) refl
]

-- the strength of the explicit lock of all records
abbrev pub all_strength : Option (Kind × ℕ) → ℕ
all_strength None = 0
all_strength (Some a) = strength (Some a.0)

all_is : (o : Option (Kind × ℕ)) (all : Option AllLock) → IsAll o all → (b : ℕ) → 168 ≤ b → b < all_end → all_held all b ≡ all_strength o
all_is None all is b low high = ap (λ z. all_held z b) is
all_is (Some a) all (count, is) b low high = ap (λ z. all_held z b) is ∙ rw (le-leb 168 b low, lt-ltb b all_end high) (omega arith)

all_low : (all : Option AllLock) (b : ℕ) → b < 168 → all_held all b ≡ 0
all_low None b under = refl
all_low (Some a) b under = rw (lt-leb 168 b under) (omega arith)

-- explicit locks that let a chain be read, or be written where they aren't for reading alone
covered_one : (c : Bool) (o : Option (Kind × ℕ)) → (c || is_some o) ≡ true → 1 ≤ max (if c then 2 else 0) (all_strength o)
covered_one true o e = omega arith
covered_one false None e = cc
covered_one false (Some (Read, n)) e = omega arith
covered_one false (Some (Write, n)) e = omega arith

covered_two : (c : Bool) (o : Option (Kind × ℕ)) → (c || is_some o) ≡ true → is_reading o ≡ false → 2 ≤ max (if c then 2 else 0) (all_strength o)
covered_two true o e writes = omega arith
covered_two false None e writes = cc
covered_two false (Some (Read, n)) e writes = cc
covered_two false (Some (Write, n)) e writes = omega arith

bare_none : (c : Bool) (o : Option (Kind × ℕ)) → (c || is_some o) ≡ false → max (if c then 2 else 0) (all_strength o) ≡ 0
bare_none true o e = cc
bare_none false None e = omega arith
bare_none false (Some a) e = cc

some_one : (o : Option (Kind × ℕ)) → is_some o ≡ true → 1 ≤ all_strength o
some_one None e = cc
some_one (Some (Read, n)) e = omega arith
some_one (Some (Write, n)) e = omega arith

none_zero : (o : Option (Kind × ℕ)) → is_some o ≡ false → all_strength o ≡ 0
none_zero None e = refl
none_zero (Some a) e = cc

module _ (f : Form) (few : HasFewChains f) (own : HeldLocks) (x : Own) (E : HoldsExplicit own x) where
  abbrev ex : ℕ → ℕ
  ex b = explicit_held f x b

  far : (j : ℕ) → j < f.chains → lock_byte j < all_end
  far j low = let less = few.few in omega (arith, low, less)

  ex_chain : (j : ℕ) → j < f.chains → ex (lock_byte j) ≡ max (if nat_lt 0 (count_of own j) then 2 else 0) (all_strength own.all)
  ex_chain j low =
      ap (λ z. max (if z && nat_lt 0 (count_at x (lock_byte j)) then 2 else 0) (all_held x.all (lock_byte j))) (lt-ltb (lock_byte j) (data_start f) (omega (arith, low)))
      ∙ (λ i. max (if nat_lt 0 (E.chains j i) then 2 else 0) (all_is own.all x.all E.all (lock_byte j) (omega arith) (far j low) i))

  pub ex_free : ex free_byte ≡ 0
  ex_free =
      ap (λ z. max (if z && nat_lt 0 (count_at x free_byte) then 2 else 0) (all_held x.all free_byte)) (lt-ltb free_byte (data_start f) (omega arith))
      ∙ (λ i. max (if nat_lt 0 (E.free i) then 2 else 0) (all_low x.all free_byte (omega arith) i)) ∙ omega arith

  ex_high : (b : ℕ) → data_start f ≤ b → b < all_end → ex b ≡ all_strength own.all
  ex_high b above below =
      ap (λ z. max (if z && nat_lt 0 (count_at x b) then 2 else 0) (all_held x.all b)) (le-ltb b (data_start f) above)
      ∙ ap (λ z. max 0 z) (all_is own.all x.all E.all b (omega (arith, above)) below) ∙ omega arith

  pub covers_reading : (j : ℕ) → j < f.chains → reads_chain own j ≡ true → 1 ≤ ex (lock_byte j)
  covers_reading j low e = let is = ex_chain j low in let least = covered_one (nat_lt 0 (count_of own j)) own.all e in omega (arith, is, least)

  pub covers_writing : (j : ℕ) → j < f.chains → reads_chain own j ≡ true → only_reads own ≡ false → 2 ≤ ex (lock_byte j)
  covers_writing j low e writes = let is = ex_chain j low in let least = covered_two (nat_lt 0 (count_of own j)) own.all e writes in omega (arith, is, least)

  pub bare_chain : (j : ℕ) → j < f.chains → reads_chain own j ≡ false → ex (lock_byte j) ≡ 0
  bare_chain j low e = ex_chain j low ∙ bare_none (nat_lt 0 (count_of own j)) own.all e

  pub covers_record : (b : ℕ) → data_start f ≤ b → b < all_end → reads_all own ≡ true → 1 ≤ ex b
  covers_record b above below e = let is = ex_high b above below in let least = some_one own.all e in omega (arith, is, least)

  pub bare_record : (b : ℕ) → data_start f ≤ b → b < all_end → reads_all own ≡ false → ex b ≡ 0
  bare_record b above below e = ex_high b above below ∙ none_zero own.all e

-- One byte of an owner that is taken or let go.
pub mine : (covered : Bool) (owner byte : ℕ) (now : Option Kind) (h : Holding) (b : ℕ) → strength (with_byte covered owner byte now h owner b) ≡ (if covered then strength (h owner b) else (if b == byte then strength now else strength (h owner b)))
mine true owner byte now h b = refl
mine false owner byte now h b = rw (eq-eqb owner owner refl) (go (b == byte))
  where
    go : (z : Bool) → strength (if z then now else h owner b) ≡ (if z then strength now else strength (h owner b))
    go true = refl
    go false = refl

pub mine_off : (covered : Bool) (owner byte : ℕ) (now : Option Kind) (h : Holding) (b : ℕ) → (b ≡ byte → ⊥) → strength (with_byte covered owner byte now h owner b) ≡ strength (h owner b)
mine_off true owner byte now h b apart = refl
mine_off false owner byte now h b apart = mine false owner byte now h b ∙ rw (ne_eqb b byte apart) refl

pub mine_at : (owner byte : ℕ) (now : Option Kind) (h : Holding) (b : ℕ) → b ≡ byte → strength (with_byte false owner byte now h owner b) ≡ strength now
mine_at owner byte now h b here = mine false owner byte now h b ∙ rw (eq-eqb b byte here) refl

-- A lock of this strength at one byte is taken: where the explicit locks cover it they are at least as strong, and else
-- no more is held.
pub taken : (covered : Bool) (owner byte s : ℕ) (kind : Kind) (h : Holding) (rest kept : ℕ → ℕ) → strength (Some kind) ≡ s → ((b : ℕ) → strength (h owner b) ≡ max (rest b) (kept b)) → (covered ≡ true → s ≤ kept byte)
    → (covered ≡ false → max (rest byte) (kept byte) ≤ s) → (b : ℕ) → strength (with_byte covered owner byte (Some kind) h owner b) ≡ max (max (one byte s b) (rest b)) (kept b)
taken true owner byte s kind h rest kept strong holds over bare b = elim (cases_eq b byte) [
  | inl here ↦
      let is = holds b in
      let at = one_at byte s b here in
      let enough : s ≤ kept b = subst (λ z. s ≤ kept z) (sym here) (over refl) in
      omega (arith, is, at, enough)
  | inr apart ↦ let is = holds b in let off = one_off byte s b apart in omega (arith, is, off)
]
taken false owner byte s kind h rest kept strong holds over bare b = elim (cases_eq b byte) [
  | inl here ↦
      let is = mine_at owner byte (Some kind) h b here in
      let at = one_at byte s b here in
      let less : max (rest b) (kept b) ≤ s = subst (λ z. max (rest z) (kept z) ≤ s) (sym here) (bare refl) in
      omega (arith, is, at, less, strong)
  | inr apart ↦ let same = mine_off false owner byte (Some kind) h b apart in let is = holds b in let off = one_off byte s b apart in omega (arith, same, is, off)
]

-- Such a lock is let go: where the explicit locks cover it they are at least as strong, and else nothing else is held
-- there.
pub gone : (covered : Bool) (owner byte s : ℕ) (h : Holding) (rest kept : ℕ → ℕ) → ((b : ℕ) → strength (h owner b) ≡ max (max (one byte s b) (rest b)) (kept b)) → (covered ≡ true → s ≤ kept byte)
    → (covered ≡ false → max (rest byte) (kept byte) ≡ 0) → (b : ℕ) → strength (with_byte covered owner byte None h owner b) ≡ max (rest b) (kept b)
gone true owner byte s h rest kept holds over bare b = elim (cases_eq b byte) [
  | inl here ↦
      let is = holds b in
      let at = one_at byte s b here in
      let enough : s ≤ kept b = subst (λ z. s ≤ kept z) (sym here) (over refl) in
      omega (arith, is, at, enough)
  | inr apart ↦ let is = holds b in let off = one_off byte s b apart in omega (arith, is, off)
]
gone false owner byte s h rest kept holds over bare b = elim (cases_eq b byte) [
  | inl here ↦
      let is = mine_at owner byte None h b here in
      let none : max (rest b) (kept b) ≡ 0 = ap (λ z. max (rest z) (kept z)) here ∙ bare refl in
      omega (arith, is, none)
  | inr apart ↦ let same = mine_off false owner byte None h b apart in let is = holds b in let off = one_off byte s b apart in omega (arith, same, is, off)
]

-- a cursor reads the byte of its record, and no other
pub stand_is : (off b : ℕ) → stand_held (Some off) b ≡ one off 1 b
stand_is off b = elim (cases_eq b off) [
  | inl here ↦ rw (eq-eqb off b (sym here)) (sym (one_at off 1 b here))
  | inr apart ↦ rw (ne_eqb off b (λ e. apart (sym e))) (sym (one_off off 1 b apart))
]
