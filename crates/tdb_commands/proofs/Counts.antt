-- The counts of explicit locks, as a list of chains and as the law's map from lock bytes.
use Rattle.std.proofs.Common.{◌≡◌, ◌≢◌, ℕ, ◌+◌, ◌*◌, ◌-◌, ◌/◌, ◌<◌, ◌⊎◌, List, [], ◌∷◌, length, Bool, true, false, cond, Option, Some, None, unwrap_or, map, sum, refl, sym, ◌∙◌, ap, inl, inr, arith, nat_lt}
use Rattle.std.specs.Prelude.{if◌then◌else◌}
use Rattle.std.proofs.lemmas.Bool.{cases_eq, lt-ltb}
use Rattle.std.proofs.lemmas.Bool.Decides.{nat_tests}
use Rattle.std.proofs.lemmas.Map.Keys.{sorted_head, sorted_tail}
use Rattle.std.specs.List.{AllByRecursion}
use Rattle.std.specs.List.Sorted.{IsStrictlySortedBy}
use Rattle.std.specs.Map.{keys_of, values_of, lookup}
use Rattle.std.specs.BTreeMap.{is_at}
use Rattle.std.specs.Ordering.{nat_cmp, eq_by_cmp, is_eq}
use Rattle.std.specs.declared.cmp.Ordering.{Ordering}
use Rattle.std.specs.declared.cmp.Ordering.TheVariants.{Less, Equal, Greater}
use Rattle.std.specs.Cmp.{nat_cmp_total}
use Rattle.std.specs.FinMap.{get, insert, empty, entries, values, entries-insert, get-insert, get-remove, remove, get-empty, len-empty, len-entries, get-entries, same_map, nat_cmp-IsAntisymmetric}
use Rattle.std.specs.FinMap.Entries.{put, find, by_order}
use Rattle.std.proofs.lemmas.List.Sums.{sum_by-cons}
use Rattle.tdb_locks.specs.HeldLocks.{AreCounts, count_in}
use Rattle.tdb_law.specs.Openers.{Counts}
use Rattle.tdb_commands.specs.Counts.{counts_of}

-- no chain of the list has this lock byte
abbrev Misses : ℕ → List (ℕ × ℕ) → Type 0
Misses b [] = Unit {0}
Misses b (e ∷ es) = (b ≢ 168 + 4 * e.0) × Misses b es

-- the counts with one more of a chain, where it isn't 0
get_more : (m : Counts) (c n b : ℕ) → get (insert m (168 + 4 * c) n) b ≡ cond (eq_by_cmp nat_cmp b (168 + 4 * c)) (Some n) (get m b)
get_more m c n b = get-insert nat_cmp_total m (168 + 4 * c) n b

apart : (b q : ℕ) → b ≢ q → eq_by_cmp nat_cmp b q ≡ false
apart b q differs = grind (arith, nat_tests)

tied : (b q : ℕ) → b ≡ q → eq_by_cmp nat_cmp b q ≡ true
tied b q same = grind (arith, nat_tests)

get_other : (m : Counts) (c n b : ℕ) → b ≢ 168 + 4 * c → get (insert m (168 + 4 * c) n) b ≡ get m b
get_other m c n b differs = get_more m c n b ∙ ap (λ t. cond t (Some n) (get m b)) (apart b (168 + 4 * c) differs)

get_same : (m : Counts) (c n b : ℕ) → b ≡ 168 + 4 * c → get (insert m (168 + 4 * c) n) b ≡ Some n
get_same m c n b same = get_more m c n b ∙ ap (λ t. cond t (Some n) (get m b)) (tied b (168 + 4 * c) same)

missed : (b : ℕ) (es : List (ℕ × ℕ)) → Misses b es → get (counts_of es) b ≡ None
missed b [] h = get-empty nat_cmp b
missed b (e ∷ es) h = at (nat_lt 0 e.1) (missed b es h.1)
  where
    at : (t : Bool) → get (counts_of es) b ≡ None → get (if t then insert (counts_of es) (168 + 4 * e.0) e.1 else counts_of es) b ≡ None
    at true rest = get_other (counts_of es) e.0 e.1 b h.0 ∙ rest
    at false rest = rest

below_not_same : (k y : ℕ) → nat_cmp k y ≡ Less → 168 + 4 * k ≢ 168 + 4 * y
below_not_same k y less same = let low : k < y = grind (arith, nat_tests) in omega (arith, low, same)

head_misses : (k : ℕ) (es : List (ℕ × ℕ)) → AllByRecursion (λ y. nat_cmp k y ≡ Less) (keys_of es) → Misses (168 + 4 * k) es
head_misses k [] h = tt
head_misses k (e ∷ es) h = (below_not_same k e.0 h.0, head_misses k es h.1)

every_missed : (b : ℕ) (es : List (ℕ × ℕ)) → ((c : ℕ) → b ≢ 168 + 4 * c) → Misses b es
every_missed b [] none = tt
every_missed b (e ∷ es) none = (none e.0, every_missed b es none)

-- a byte that is of no chain has no count
pub no_chain : (es : List (ℕ × ℕ)) (b : ℕ) → ((c : ℕ) → b ≢ 168 + 4 * c) → get (counts_of es) b ≡ None
no_chain es b none = missed b es (every_missed b es none)

is_at_other : (c k : ℕ) → c ≢ k → is_at (nat_cmp c) k ≡ false
is_at_other c k differs = grind (arith, nat_tests)

is_at_same : (c k : ℕ) → c ≡ k → is_at (nat_cmp c) k ≡ true
is_at_same c k same = grind (arith, nat_tests)

count_other : (e : ℕ × ℕ) (es : List (ℕ × ℕ)) (c : ℕ) → c ≢ e.0 → count_in (e ∷ es) c ≡ count_in es c
count_other e es c differs = ap (λ t. unwrap_or (cond t (Some e.1) (lookup (is_at (nat_cmp c)) es)) 0) (is_at_other c e.0 differs)

count_same : (e : ℕ × ℕ) (es : List (ℕ × ℕ)) (c : ℕ) → c ≡ e.0 → count_in (e ∷ es) c ≡ e.1
count_same e es c same = ap (λ t. unwrap_or (cond t (Some e.1) (lookup (is_at (nat_cmp c)) es)) 0) (is_at_same c e.0 same)

zero_of : (n : ℕ) → nat_lt 0 n ≡ false → 0 ≡ n
zero_of n e = grind (arith, nat_tests)

-- the entry of a count
abbrev pub some_if : ℕ → Option ℕ
some_if n = if nat_lt 0 n then Some n else None

pub some_of : (n : ℕ) → nat_lt 0 n ≡ true → Some n ≡ some_if n
some_of n e = rw e refl

pub none_of : (n : ℕ) → nat_lt 0 n ≡ false → None ≡ some_if n
none_of n e = rw e refl

-- the entry of a chain's lock byte is that of the chain's count
pub got : (es : List (ℕ × ℕ)) → IsStrictlySortedBy nat_cmp (keys_of es) → (c : ℕ) → get (counts_of es) (168 + 4 * c) ≡ some_if (count_in es c)
got [] sorted c = get-empty nat_cmp (168 + 4 * c)
got (e ∷ es) sorted c = elim (cases_eq c e.0) [
  | inl same ↦ at_same same (nat_lt 0 e.1) refl ∙ ap some_if (sym (count_same e es c same))
  | inr differs ↦ at_other differs (nat_lt 0 e.1) ∙ got es (sorted_tail nat_cmp e.0 (keys_of es) sorted) c ∙ ap some_if (sym (count_other e es c differs))
]
  where
    at_same : c ≡ e.0 → (t : Bool) → nat_lt 0 e.1 ≡ t → get (if t then insert (counts_of es) (168 + 4 * e.0) e.1 else counts_of es) (168 + 4 * c) ≡ some_if e.1
    at_same same true is = get_same (counts_of es) e.0 e.1 (168 + 4 * c) (ap (λ x. 168 + 4 * x) same) ∙ some_of e.1 is
    at_same same false is =
        ap (λ x. get (counts_of es) (168 + 4 * x)) same
        ∙ missed (168 + 4 * e.0) es (head_misses e.0 es (sorted_head nat_cmp e.0 (keys_of es) sorted))
        ∙ none_of e.1 is

    at_other : c ≢ e.0 → (t : Bool) → get (if t then insert (counts_of es) (168 + 4 * e.0) e.1 else counts_of es) (168 + 4 * c) ≡ get (counts_of es) (168 + 4 * c)
    at_other differs true = get_other (counts_of es) e.0 e.1 (168 + 4 * c) (λ e. differs (omega (arith, e)))
    at_other differs false = refl

count_if : (n : ℕ) → unwrap_or (some_if n) 0 ≡ n
count_if n = at (nat_lt 0 n) refl
  where
    at : (t : Bool) → nat_lt 0 n ≡ t → unwrap_or (if t then Some n else None) 0 ≡ n
    at true e = refl
    at false e = zero_of n e

-- the count of a chain's lock byte is the count of the chain
pub counted : (es : List (ℕ × ℕ)) → IsStrictlySortedBy nat_cmp (keys_of es) → (c : ℕ) → unwrap_or (get (counts_of es) (168 + 4 * c)) 0 ≡ count_in es c
counted es sorted c = ap (λ o. unwrap_or o 0) (got es sorted c) ∙ count_if (count_in es c)

abbrev sum_of : List (ℕ × ℕ) → ℕ
sum_of es = sum (map (λ e. e.1) es)

sum_more : (e : ℕ × ℕ) (es : List (ℕ × ℕ)) → sum_of (e ∷ es) ≡ e.1 + sum_of es
sum_more e es = sum_by-cons (λ (x : ℕ). x) e.1 (map (λ e. e.1) es)

placed : (o : Ordering) (k v : ℕ) (e : ℕ × ℕ) (es ps : List (ℕ × ℕ)) → cond (is_eq o) (Some e.1) (find nat_cmp k es) ≡ None → (find nat_cmp k es ≡ None → sum_of ps ≡ v + sum_of es)
    → sum_of (by_order o ((k, v) ∷ e ∷ es) ((e.0, v) ∷ es) (e ∷ ps)) ≡ v + sum_of (e ∷ es)
placed Less k v e es ps new rest = sum_more (k, v) (e ∷ es)
placed Equal k v e es ps new rest = absurd (cc new)
placed Greater k v e es ps new rest = let one = sum_more e ps in let two = sum_more e es in let three = rest new in omega (arith, one, two, three)

-- the values of entries with one more, where the key is new
sum_put : (k v : ℕ) (es : List (ℕ × ℕ)) → find nat_cmp k es ≡ None → sum_of (put nat_cmp k v es) ≡ v + sum_of es
sum_put k v [] new = sum_more (k, v) []
sum_put k v (e ∷ es) new = placed (nat_cmp k e.0) k v e es (put nat_cmp k v es) new (sum_put k v es)

no_entries : (es : List (ℕ × ℕ)) → length es ≡ 0 → es ≡ []
no_entries [] e = refl
no_entries (x ∷ es) e = absurd (omega (arith, e))

-- the counts have the same sum
pub sum_counted : (es : List (ℕ × ℕ)) → IsStrictlySortedBy nat_cmp (keys_of es) → sum (values (counts_of es)) ≡ sum (values_of es)
sum_counted [] sorted = ap (λ (fs : List (ℕ × ℕ)). sum (map (λ e. e.1) fs)) (no_entries (entries (counts_of [])) (sym (len-entries (counts_of [])) ∙ len-empty nat_cmp ℕ))
sum_counted (e ∷ es) sorted = at (nat_lt 0 e.1) refl (sum_counted es (sorted_tail nat_cmp e.0 (keys_of es) sorted)) ∙ sym (sum_more e es)
  where
    new : find nat_cmp (168 + 4 * e.0) (entries (counts_of es)) ≡ None
    new = sym (get-entries (counts_of es) (168 + 4 * e.0)) ∙ missed (168 + 4 * e.0) es (head_misses e.0 es (sorted_head nat_cmp e.0 (keys_of es) sorted))

    at : (t : Bool) → nat_lt 0 e.1 ≡ t → sum (values (counts_of es)) ≡ sum (values_of es) → sum (values (if t then insert (counts_of es) (168 + 4 * e.0) e.1 else counts_of es)) ≡ e.1 + sum (values_of es)
    at true is rest = ap sum_of (entries-insert nat_cmp_total (counts_of es) (168 + 4 * e.0) e.1) ∙ sum_put (168 + 4 * e.0) e.1 (entries (counts_of es)) new ∙ ap (λ n. e.1 + n) rest
    at false is rest = omega (arith, rest, zero_of e.1 is)

-- no chain has an entry where none is held
pub none_counted : (es : List (ℕ × ℕ)) → sum (values_of es) ≡ 0 → counts_of es ≡ empty
none_counted [] none = refl
none_counted (e ∷ es) none =
    let whole : sum (values_of (e ∷ es)) ≡ e.1 + sum (values_of es) = sum_by-cons (λ (x : ℕ). x) e.1 (values_of es) in
    let zero : e.1 ≡ 0 = omega (arith, whole, none) in
    let first : nat_lt 0 e.1 ≡ false = ap (nat_lt 0) zero in
    rw first (none_counted es (omega (arith, whole, none)))

-- a byte is the lock byte of a chain, or of none
pub chain_or_none : (b : ℕ) → ((c : ℕ) × (b ≡ 168 + 4 * c)) ⊎ ((c : ℕ) → b ≢ 168 + 4 * c)
chain_or_none b = elim (cases_eq b (168 + 4 * ((b - 168) / 4))) [ inl e ↦ inl ((b - 168) / 4, e) | inr differs ↦ inr (λ c e. differs (omega (arith, e))) ]

-- counts are the same where their entries are
pub alike_counts : (m n : Counts) → ((b : ℕ) → get m b ≡ get n b) → m ≡ n
alike_counts m n alike = same_map nat_cmp_total nat_cmp-IsAntisymmetric m n alike

module _ (es ns : List (ℕ × ℕ)) (old : AreCounts es) (new : AreCounts ns) where
  same_entry : (c : ℕ) → count_in ns c ≡ count_in es c → get (counts_of ns) (168 + 4 * c) ≡ get (counts_of es) (168 + 4 * c)
  same_entry c e = got ns new.in_order c ∙ ap some_if e ∙ sym (got es old.in_order c)

  -- the counts of chains are the same
  pub counts_same : ((c : ℕ) → count_in ns c ≡ count_in es c) → counts_of ns ≡ counts_of es
  counts_same alike = alike_counts (counts_of ns) (counts_of es) at
    where
      at : (b : ℕ) → get (counts_of ns) b ≡ get (counts_of es) b
      at b = elim (chain_or_none b) [
        | inl w ↦ ap (get (counts_of ns)) w.1 ∙ same_entry w.0 (alike w.0) ∙ ap (get (counts_of es)) (sym w.1)
        | inr none ↦ no_chain ns b none ∙ sym (no_chain es b none)
      ]

  module _ (chain : ℕ) (others : (c : ℕ) → c ≢ chain → count_in ns c ≡ count_in es c) where
    other_entry : (b : ℕ) → b ≢ 168 + 4 * chain → get (counts_of ns) b ≡ get (counts_of es) b
    other_entry b differs = elim (chain_or_none b) [
      | inl w ↦ ap (get (counts_of ns)) w.1 ∙ same_entry w.0 (others w.0 (λ e. differs (omega (arith, e, w.1)))) ∙ ap (get (counts_of es)) (sym w.1)
      | inr none ↦ no_chain ns b none ∙ sym (no_chain es b none)
    ]

    here : (n : ℕ) → count_in ns chain ≡ n → (b : ℕ) → b ≡ 168 + 4 * chain → get (counts_of ns) b ≡ some_if n
    here n e b same = ap (get (counts_of ns)) same ∙ got ns new.in_order chain ∙ ap some_if e

    -- one count is put
    pub counts_put : (n : ℕ) → 0 < n → count_in ns chain ≡ n → counts_of ns ≡ insert (counts_of es) (168 + 4 * chain) n
    counts_put n some e = alike_counts (counts_of ns) (insert (counts_of es) (168 + 4 * chain) n) at
      where
        at : (b : ℕ) → get (counts_of ns) b ≡ get (insert (counts_of es) (168 + 4 * chain) n) b
        at b = elim (cases_eq b (168 + 4 * chain)) [
          | inl same ↦ here n e b same ∙ sym (some_of n (lt-ltb 0 n some)) ∙ sym (get_same (counts_of es) chain n b same)
          | inr differs ↦ other_entry b differs ∙ sym (get_other (counts_of es) chain n b differs)
        ]

    -- one count is taken out
    pub counts_out : count_in ns chain ≡ 0 → counts_of ns ≡ remove (counts_of es) (168 + 4 * chain)
    counts_out e = alike_counts (counts_of ns) (remove (counts_of es) (168 + 4 * chain)) at
      where
        gone : (b : ℕ) → get (remove (counts_of es) (168 + 4 * chain)) b ≡ cond (eq_by_cmp nat_cmp b (168 + 4 * chain)) None (get (counts_of es) b)
        gone b = get-remove nat_cmp_total (counts_of es) (168 + 4 * chain) b

        at : (b : ℕ) → get (counts_of ns) b ≡ get (remove (counts_of es) (168 + 4 * chain)) b
        at b = elim (cases_eq b (168 + 4 * chain)) [
          | inl same ↦ here 0 e b same ∙ sym (gone b ∙ ap (λ t. cond t None (get (counts_of es) b)) (tied b (168 + 4 * chain) same))
          | inr differs ↦ other_entry b differs ∙ sym (gone b ∙ ap (λ t. cond t None (get (counts_of es) b)) (apart b (168 + 4 * chain) differs))
        ]
