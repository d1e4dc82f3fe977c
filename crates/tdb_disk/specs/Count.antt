-- Counts that are kept in 64 bits: they never fall, and stand still at the greatest number of 64 bits.
use Rattle.std.specs.Prelude.{◌≡◌, ◌≢◌, ℕ, ◌+◌, ◌-◌, ◌^◌, ◌≤◌, min, OnOk, OnErr, IfErr, Result}

-- the greatest number of 64 bits, at which a count stands still
abbrev pub last_count : ℕ
last_count = 2 ^ 64 - 1

-- a count rose by at least one, or stands at its last value
abbrev pub Rose : ℕ → ℕ → Type 0
Rose before now = min (before + 1) last_count ≤ now

-- a count rose by just so much, as far as its last value lets it
pub record RoseBy (much before now : ℕ) : Type 0 where
  pub no_less : min (before + much) last_count ≤ now
  pub no_more : now ≤ before + much
  pub never_falls : before ≤ now

-- a count rose by at most so much
pub record RoseUpTo (much before now : ℕ) : Type 0 where
  pub no_more : now ≤ before + much
  pub never_falls : before ≤ now

-- the count of faults never falls, rose where the call failed, and is as it was where it didn't
pub record HasCause {V F : Type 0} (before now : ℕ) (answer : Result V F) : Type 0 where
  pub never_falls : before ≤ now
  pub failed : OnErr answer (Rose before now)
  pub done : OnOk answer (now ≡ before)

-- The same of a call with several refusals, of which one says that the outside failed: the count of faults rose where
-- that one is the answer, and is as it was where any other is.
pub record HasCauseOf {V F : Type 0} (fault : F) (before now : ℕ) (answer : Result V F) : Type 0 where
  pub never_falls : before ≤ now
  pub failed : IfErr answer (λ e. e ≡ fault → Rose before now)
  pub refused : IfErr answer (λ e. e ≢ fault → now ≡ before)
  pub done : OnOk answer (now ≡ before)
