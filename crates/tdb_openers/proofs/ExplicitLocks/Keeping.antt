-- What an opener keeps of the lock bytes by its explicit locks, and what a lock or an unlock changes of that.
use Rattle.std.proofs.Common.{◌≡◌, ◌≢◌, ℕ, ◌+◌, ◌-◌, ◌<◌, ◌≤◌, max, [], ◌∷◌, Bool, true, false, cond, ◌==◌, Option, Some, None, unwrap_or, nat_lt, nat_le, refl, sym, ◌∙◌, ap, inl, inr, arith, zero-le, le_refl}
use Rattle.std.specs.Prelude.{◌&&◌, if◌then◌else◌}
use Rattle.std.proofs.lemmas.Bool.{cases_eq, lt-ltb, le-leb, eq-eqb, false_from_ne_true}
use Rattle.std.proofs.lemmas.Bool.Decides.{nat_tests}
use Rattle.std.specs.Cmp.{nat_cmp_total, unsigned_tied}
use Rattle.std.specs.FinMap.{get, insert, remove, get-insert, get-remove}
use Rattle.tdb_space.specs.Form.{Form, data_start}
use Rattle.tdb_law.specs.Openers.{Own, AllLock, Counts, Spot, count_at, count_more, count_less, all_more, all_less}
use Rattle.tdb_law.specs.Rows.{lock, lock_all}
use Rattle.tdb_law.specs.Held.{covers, locked, all_held, stand_held, kept, kept_by}
use Rattle.tdb_law.proofs.Locks.{covers_within, within_covers}

-- what counts keep of a byte, and that it is of a chain
abbrev pub counts_keep : Form → ℕ → ℕ → ℕ
counts_keep f n b = if nat_lt b (data_start f) && nat_lt 0 n then 2 else 0

-- an opener outside a transaction keeps what its counts, its lock of all records and its cursor keep
pub kept_is : (f : Form) (x : Own) (spot : Spot) → x.txn ≡ None → (b : ℕ) → kept f x spot b ≡ max (max (counts_keep f (count_at x b) b) (all_held x.all b)) (stand_held spot.stands b)
kept_is f x spot out b = ap (λ o. kept_by f o x spot b) out

pub counts_most : (t : Bool) → (if t then 2 else 0) ≤ 2
counts_most true = le_refl 2
counts_most false = zero-le

-- an entry of a byte after another one is put
entry_put : (m : Counts) (byte n b : ℕ) → get (insert m byte n) b ≡ cond (b == byte) (Some n) (get m b)
entry_put m byte n b = get-insert nat_cmp_total m byte n b ∙ ap (λ z. cond z (Some n) (get m b)) (unsigned_tied b byte)

entry_out : (m : Counts) (byte b : ℕ) → get (remove m byte) b ≡ cond (b == byte) None (get m b)
entry_out m byte b = get-remove nat_cmp_total m byte b ∙ ap (λ z. cond z None (get m b)) (unsigned_tied b byte)

not_same : (b byte : ℕ) → b ≢ byte → (b == byte) ≡ false
not_same b byte differs = grind (arith, nat_tests)

module _ (x : Own) (byte : ℕ) where
  more_here : count_at (count_more x byte) byte ≡ count_at x byte + 1
  more_here = ap (λ o. unwrap_or o 0) (entry_put x.counts byte (count_at x byte + 1) byte) ∙ rw (eq-eqb byte byte refl) refl

  more_else : (b : ℕ) → b ≢ byte → count_at (count_more x byte) b ≡ count_at x b
  more_else b differs = ap (λ o. unwrap_or o 0) (entry_put x.counts byte (count_at x byte + 1) b) ∙ rw (not_same b byte differs) refl

  less_else : (b : ℕ) → b ≢ byte → count_at (count_less x byte) b ≡ count_at x b
  less_else b differs = at (nat_le (count_at x byte) 1)
    where
      at : (t : Bool) → unwrap_or (get (if t then remove x.counts byte else insert x.counts byte (count_at x byte - 1)) b) 0 ≡ count_at x b
      at true = ap (λ o. unwrap_or o 0) (entry_out x.counts byte b) ∙ rw (not_same b byte differs) refl
      at false = ap (λ o. unwrap_or o 0) (entry_put x.counts byte (count_at x byte - 1) b) ∙ rw (not_same b byte differs) refl

-- no count keeps nothing
pub none_keep : (f : Form) (b : ℕ) → counts_keep f 0 b ≡ 0
none_keep f b = at (nat_lt b (data_start f))
  where
    at : (t : Bool) → ◌≡◌ {A = ℕ} (if t && false then 2 else 0) 0
    at true = refl
    at false = refl

module _ (f : Form) (x : Own) (spot : Spot) (out : x.txn ≡ None) (byte : ℕ) (low : byte < data_start f) where
  keeps_two : (n : ℕ) → 0 < n → counts_keep f n byte ≡ 2
  keeps_two n some = rw (lt-ltb byte (data_start f) low, lt-ltb 0 n some) refl

  -- a byte that is locked explicitly is kept
  pub counted_kept : 0 < count_at x byte → 2 ≤ kept f x spot byte
  counted_kept some = let whole = kept_is f x spot out byte in let two = keeps_two (count_at x byte) some in omega (arith, whole, two)

  here_covered : (b : ℕ) → b ≡ byte → covers (lock 0 byte (byte + 1) 2) b ≡ true
  here_covered b same = covers_within (lock 0 byte (byte + 1) 2) b (omega (arith, same)) (omega (arith, same))

  else_bare : (b : ℕ) → b ≢ byte → covers (lock 0 byte (byte + 1) 2) b ≡ false
  else_bare b differs = false_from_ne_true (covers (lock 0 byte (byte + 1) 2) b) (λ e. let parts = within_covers (lock 0 byte (byte + 1) 2) b e in differs (omega (arith, parts.0, parts.1)))

  -- with a count more that byte is kept too
  pub more_kept : (b : ℕ) → kept f (count_more x byte) spot b ≡ max (locked (lock 0 byte (byte + 1) 2 ∷ []) 1 b) (kept f x spot b)
  more_kept b = elim (cases_eq b byte) [
    | inl same ↦
        let yk = kept_is f (count_more x byte) spot out b in
        let two = ap (λ z. counts_keep f (count_at (count_more x byte) z) z) same ∙ ap (λ n. counts_keep f n byte) (more_here x byte) ∙ keeps_two (count_at x byte + 1) (omega arith) in
        let xk = kept_is f x spot out b in
        let most = counts_most (nat_lt b (data_start f) && nat_lt 0 (count_at x b)) in
        let over = here_covered b same in
        rw over (omega (arith, yk, two, xk, most))
    | inr differs ↦
        let yk = kept_is f (count_more x byte) spot out b in
        let same = ap (λ n. counts_keep f n b) (more_else x byte b differs) in
        let xk = kept_is f x spot out b in
        let bare = else_bare b differs in
        rw bare (omega (arith, yk, same, xk))
  ]

  -- with a count less what else is kept stays
  pub less_kept : (b : ℕ) → b ≢ byte → kept f (count_less x byte) spot b ≡ kept f x spot b
  less_kept b differs =
      let yk = kept_is f (count_less x byte) spot out b in
      let same = ap (λ n. counts_keep f n b) (less_else x byte b differs) in
      let xk = kept_is f x spot out b in
      omega (arith, yk, same, xk)

-- the lock of all records that is taken once more, with no more strength than it has
abbrev pub IsAtMost : ℕ → Option AllLock → Type 0
IsAtMost s None = Unit {0}
IsAtMost s (Some a) = s ≤ a.strength

all_more_held : (all : Option AllLock) (s b : ℕ) → IsAtMost s all → all_held (Some (all_more all s)) b ≡ max (locked (lock_all 0 s ∷ []) 1 b) (all_held all b)
all_more_held None s b most = omega arith
all_more_held (Some a) s b most = at (covers (lock_all 0 s) b)
  where
    at : (t : Bool) → max (if t then a.strength else 0) 0 ≡ max (max (if t then s else 0) 0) (max (if t then a.strength else 0) 0)
    at true = omega (arith, most)
    at false = omega arith

all_less_held : (a : AllLock) (b : ℕ) → 1 < a.count → all_held (all_less (Some a)) b ≡ all_held (Some a) b
all_less_held a b more = let big : nat_le a.count 1 ≡ false = grind (arith, nat_tests) in rw big refl

all_one_held : (a : AllLock) (b : ℕ) → a.count ≤ 1 → all_held (all_less (Some a)) b ≡ 0
all_one_held a b one = rw (le-leb a.count 1 one) refl

module _ (f : Form) (x : Own) (spot : Spot) (out : x.txn ≡ None) where
  abbrev pub with_all : Option AllLock → Own
  with_all all = record x { all = all }

  -- with a lock more of all records these are kept too
  pub all_more_kept : (s : ℕ) → IsAtMost s x.all → (b : ℕ) → kept f (with_all (Some (all_more x.all s))) spot b ≡ max (locked (lock_all 0 s ∷ []) 1 b) (kept f x spot b)
  all_more_kept s most b =
      let yk = kept_is f (with_all (Some (all_more x.all s))) spot out b in
      let more = all_more_held x.all s b most in
      let xk = kept_is f x spot out b in
      omega (arith, yk, more, xk)

  -- with a lock less that isn't the last all is kept
  pub all_less_kept : (a : AllLock) → x.all ≡ Some a → 1 < a.count → (b : ℕ) → kept f (with_all (all_less x.all)) spot b ≡ kept f x spot b
  all_less_kept a is more b =
      let yk = kept_is f (with_all (all_less x.all)) spot out b in
      let same = ap (λ o. all_held (all_less o) b) is ∙ all_less_held a b more ∙ ap (λ o. all_held o b) (sym is) in
      let xk = kept_is f x spot out b in
      omega (arith, yk, same, xk)

  -- and with the last one no record is, where no chain is locked and the cursor stands on none
  pub all_last_kept : (a : AllLock) → x.all ≡ Some a → a.count ≤ 1 → (b : ℕ) → count_at x b ≡ 0 → spot.stands ≡ None → kept f (with_all (all_less x.all)) spot b ≡ 0
  all_last_kept a is last b none off =
      let yk = kept_is f (with_all (all_less x.all)) spot out b in
      let zero_here = ap (λ o. all_held (all_less o) b) is ∙ all_one_held a b last in
      let bare = ap (λ n. counts_keep f n b) none ∙ none_keep f b in
      let bare_spot = ap (λ o. stand_held o b) off in
      omega (arith, yk, zero_here, bare, bare_spot)
