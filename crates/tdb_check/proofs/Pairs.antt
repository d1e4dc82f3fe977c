-- How many bytes the keys of each two records of one mark and one length have.
use Rattle.std.proofs.Common.{◌≡◌, ◌≢◌, ℕ, suc, ◌+◌, ◌-◌, ◌*◌, ◌<◌, ◌≤◌, List, [], ◌∷◌, ◌++◌, length, length-take, length-drop, map, take, drop, get_or, refl, sym, ◌∙◌, ap, subst, inl, inr, arith}
use Rattle.std.specs.Prelude.{◌==◌, if◌then◌else◌, sum_by}
use Rattle.std.specs.List.Sorted.{IsNonDecreasingBy, IsPermutation}
use Rattle.std.proofs.lemmas.Bool.{cases_eq, eq-eqb, ne_eqb}
use Rattle.std.proofs.lemmas.List.{take-append-drop, take_more, get_or-drop, get_or_default, map-append}
use Rattle.std.proofs.lemmas.List.Sums.{sum_by-cons, sum_by-append, sum_by_push, sum_by-le}
use Rattle.std.proofs.lemmas.List.Sorted.{sum_by-IsPermutation}
use Rattle.tdb_space.specs.Form.{Form}
use Rattle.tdb_check.specs.declared.keys.Noted.{Noted}
use Rattle.tdb_check.specs.Keys.{mark_of, digested, NoLargeGroup}
use Rattle.tdb_check.specs.Reads.{key_bytes, shared, shared_by_pairs, twin_reads}

-- two records share a length where their marks and lengths are the same, and else nothing
pub shared_same : (a b : Noted) → a.mark ≡ b.mark → a.key_len ≡ b.key_len → shared a b ≡ a.key_len
shared_same a b m k = rw (eq-eqb a.mark b.mark m) (rw (eq-eqb a.key_len b.key_len k) refl)

shared_other : (a b : Noted) → a.mark ≢ b.mark → shared a b ≡ 0
shared_other a b m = rw (ne_eqb a.mark b.mark m) refl

shared_long : (a b : Noted) → a.mark ≡ b.mark → a.key_len ≢ b.key_len → shared a b ≡ 0
shared_long a b m k = rw (eq-eqb a.mark b.mark m) (rw (ne_eqb a.key_len b.key_len k) refl)

pub shared_flips : (a b : Noted) → shared a b ≡ shared b a
shared_flips a b =
    elim (cases_eq a.mark b.mark) [
      | inl m ↦ elim (cases_eq a.key_len b.key_len) [
        | inl k ↦ shared_same a b m k ∙ k ∙ sym (shared_same b a (sym m) (sym k))
        | inr k ↦ shared_long a b m k ∙ sym (shared_long b a (sym m) (λ e. k (sym e)))
      ]
      | inr m ↦ shared_other a b m ∙ sym (shared_other b a (λ e. m (sym e)))
    ]

shared_most : (a b : Noted) → shared a b ≤ a.key_len
shared_most a b =
    elim (cases_eq a.mark b.mark) [
      | inl m ↦ elim (cases_eq a.key_len b.key_len) [
        | inl k ↦ let e = shared_same a b m k in omega (arith, e)
        | inr k ↦ let e = shared_long a b m k in omega (arith, e)
      ]
      | inr m ↦ let e = shared_other a b m in omega (arith, e)
    ]

-- what is read of the keys of two records of one mark
pub compared : (a b : Noted) → b.mark ≡ a.mark → (if b.key_len == a.key_len then b.key_len else 0) ≡ shared a b
compared a b m =
    elim (cases_eq b.key_len a.key_len) [
      | inl k ↦ rw (eq-eqb b.key_len a.key_len k) (k ∙ sym (shared_same a b (sym m) (sym k)))
      | inr k ↦ rw (ne_eqb b.key_len a.key_len k) (sym (shared_long a b (sym m) (λ e. k (sym e))))
    ]

-- one more record
pub pairs_push : (es : List Noted) (x : Noted) → shared_by_pairs (es ++ x ∷ []) ≡ shared_by_pairs es + sum_by (shared x) es
pairs_push [] x = refl
pairs_push (e ∷ es) x = omega (arith, sum_by_push (shared e) es x, pairs_push es x, sum_by-cons (shared x) e es, shared_flips e x)

pub pairs_front : (es fs : List Noted) → shared_by_pairs es ≤ shared_by_pairs (es ++ fs)
pairs_front [] fs = omega arith
pairs_front (e ∷ es) fs = omega (arith, sum_by-append (shared e) es fs, pairs_front es fs)

pub pairs_take : (n : ℕ) (es : List Noted) → shared_by_pairs (take n es) ≤ shared_by_pairs es
pairs_take n es = subst (λ fs. shared_by_pairs (take n es) ≤ shared_by_pairs fs) (take-append-drop n es) (pairs_front (take n es) (drop n es))

-- one more of a row is compared with those before it
pub pairs_more : (es : List Noted) (i : ℕ) (d : Noted) → i < length es → shared_by_pairs (take (i + 1) es) ≡ shared_by_pairs (take i es) + sum_by (shared (get_or es i d)) (take i es)
pairs_more es i d low = ap shared_by_pairs (take_more es i d low) ∙ pairs_push (take i es) (get_or es i d)

-- one comparison more, from the last one before it down
pub one_compared : (es : List Noted) (i k : ℕ) (d e : Noted) → 0 < k → k ≤ i → i < length es → (get_or es (k - 1) e).mark ≡ (get_or es i e).mark
    → (if (get_or es (k - 1) e).key_len == (get_or es i e).key_len then (get_or es (k - 1) e).key_len else 0) + sum_by (shared (get_or es i d)) (take (k - 1) es) ≡ sum_by (shared (get_or es i d)) (take k es)
one_compared es i k d e some under low same =
    let before : k - 1 < length es = omega (arith, some, under, low) in
    let next : (k - 1) + 1 ≡ k = omega (arith, some) in
    let more : sum_by (shared (get_or es i d)) (take ((k - 1) + 1) es) ≡ sum_by (shared (get_or es i d)) (take (k - 1) es) + shared (get_or es i d) (get_or es (k - 1) e) =
    ap (sum_by (shared (get_or es i d))) (take_more es (k - 1) e before) ∙ sum_by_push (shared (get_or es i d)) (take (k - 1) es) (get_or es (k - 1) e) in
    let one = compared (get_or es i e) (get_or es (k - 1) e) same in
    let last = ap (λ (x : Noted). shared x (get_or es (k - 1) e)) (get_or_default es i d e low) in
    let there = ap (λ n. sum_by (shared (get_or es i d)) (take n es)) next in
    omega (arith, more, one, last, there)

-- in another order
sum_of_both : (f g : Noted → ℕ) (es : List Noted) → sum_by (λ a. f a + g a) es ≡ sum_by f es + sum_by g es
sum_of_both f g [] = refl
sum_of_both f g (e ∷ es) = omega (arith, sum_of_both f g es, sum_by-cons (λ a. f a + g a) e es, sum_by-cons f e es, sum_by-cons g e es)

-- each of some records with each of others
abbrev with_each : List Noted → List Noted → ℕ
with_each es fs = sum_by (λ a. sum_by (shared a) fs) es

with_more : (e : Noted) (es fs : List Noted) → with_each es (e ∷ fs) ≡ sum_by (shared e) es + with_each es fs
with_more e es fs =
    (λ i. sum_by (λ a. sum_by-cons (shared a) e fs i) es) ∙ sum_of_both (λ a. shared a e) (λ a. sum_by (shared a) fs) es ∙ (λ i. sum_by (λ a. shared_flips a e i) es + with_each es fs)

twice_pairs : (es : List Noted) → with_each es es ≡ 2 * shared_by_pairs es + key_bytes es
twice_pairs [] = refl
twice_pairs (e ∷ es) =
    omega (
      arith,
      sum_by-cons (λ a. sum_by (shared a) (e ∷ es)) e es,
      sum_by-cons (shared e) e es,
      shared_same e e refl refl,
      with_more e es es,
      twice_pairs es,
      sum_by-cons (λ (x : Noted). x.key_len) e es,
    )

pub key_bytes_shuffled : (es fs : List Noted) → IsPermutation es fs → key_bytes fs ≡ key_bytes es
key_bytes_shuffled es fs p = sum_by-IsPermutation (λ (x : Noted). x.key_len) es fs p

pub pairs_shuffled : (es fs : List Noted) → IsPermutation es fs → shared_by_pairs fs ≡ shared_by_pairs es
pairs_shuffled es fs p =
    let inner : with_each fs fs ≡ with_each fs es = λ i. sum_by (λ a. sum_by-IsPermutation (shared a) es fs p i) fs in
    let outer : with_each fs es ≡ with_each es es = sum_by-IsPermutation (λ a. sum_by (shared a) es) es fs p in
    omega (arith, inner, outer, twice_pairs es, twice_pairs fs, key_bytes_shuffled es fs p)

-- where at most eight have one mark, each has at most seven behind it
few_behind : (x : Noted) (xs : List Noted) → IsNonDecreasingBy mark_of (x ∷ xs) → NoLargeGroup (x ∷ xs) (length (x ∷ xs)) → sum_by (shared x) xs ≤ 7 * x.key_len
few_behind x xs ordered few =
    let near : sum_by (shared x) (take 7 xs) ≤ length (take 7 xs) * x.key_len = sum_by-le (shared x) x.key_len (take 7 xs) (λ k d low. shared_most x (get_or (take 7 xs) k d)) in
    let far : sum_by (shared x) (drop 7 xs) ≤ length (drop 7 xs) * 0 = sum_by-le (shared x) 0 (drop 7 xs) far_off in
    let both : sum_by (shared x) (take 7 xs) + sum_by (shared x) (drop 7 xs) ≡ sum_by (shared x) xs = sym (sum_by-append (shared x) (take 7 xs) (drop 7 xs)) ∙ ap (sum_by (shared x)) (take-append-drop 7 xs) in
    let seven : length (take 7 xs) * x.key_len ≤ 7 * x.key_len = at_most_seven (length (take 7 xs)) x.key_len (omega (arith, length-take 7 xs)) in
    omega (arith, near, far, both, seven)
  where
    between : (a b c : ℕ) → a ≤ b → b ≤ c → a ≡ c → a ≡ b
    between a b c low high same = omega (arith, low, high, same)

    at_most_seven : (n k : ℕ) → n ≤ 7 → n * k ≤ 7 * k
    at_most_seven n k h = grind arith

    far_off : (k : ℕ) (d : Noted) → k < length (drop 7 xs) → shared x (get_or (drop 7 xs) k d) ≤ 0
    far_off k d low =
        let long : 7 + k < length xs = omega (arith, low, length-drop 7 xs) in
        let is : get_or (drop 7 xs) k d ≡ get_or xs (7 + k) d = get_or-drop 7 xs k d in
        let low2 : mark_of x ≤ mark_of (get_or (x ∷ xs) 8 d) = ordered 0 8 d (omega arith) (omega (arith, long)) in
        let high : mark_of (get_or (x ∷ xs) 8 d) ≤ mark_of (get_or xs (7 + k) d) = ordered 8 (suc (7 + k)) d (omega arith) (omega (arith, long)) in
        let apart : mark_of x ≢ mark_of (get_or xs (7 + k) d) = λ same. few 0 d (omega (arith, long)) (between (mark_of x) (mark_of (get_or (x ∷ xs) 8 d)) (mark_of (get_or xs (7 + k) d)) low2 high same) in
        omega (arith, ap (shared x) is, shared_other x (get_or xs (7 + k) d) apart)

next_place : (i : ℕ) → suc (i + 8) ≡ suc i + 8
next_place i = omega arith

pub few_pairs : (es : List Noted) → IsNonDecreasingBy mark_of es → NoLargeGroup es (length es) → shared_by_pairs es ≤ 7 * key_bytes es
few_pairs [] ordered few = omega arith
few_pairs (e ∷ es) ordered few =
    omega (
      arith,
      few_behind e es ordered few,
      sum_by-cons (λ (x : Noted). x.key_len) e es,
      few_pairs es (λ i j d low high. ordered (suc i) (suc j) d (omega (arith, low)) (omega (arith, high))) (λ i d low same. few (suc i) d (omega (arith, low)) (subst (λ n. mark_of (get_or es i d) ≡ mark_of (get_or (e ∷ es) n d)) (next_place i) same)),
    )

-- in the order of the marks
pub few_reads : (f : Form) (img : List ℕ) (es copied sorted seen : List Noted) → copied ≡ es → IsPermutation copied sorted → seen ≡ sorted → IsNonDecreasingBy mark_of sorted → NoLargeGroup seen (length seen) → 2 * shared_by_pairs seen ≤ twin_reads f img es
few_reads f img es copied sorted seen part same value ordered few =
    let p : IsPermutation es seen = subst (IsPermutation es) (sym value) (subst (λ fs. IsPermutation fs sorted) part same) in
    omega (arith, few_pairs seen (subst (IsNonDecreasingBy mark_of) (sym value) ordered) few, key_bytes_shuffled es seen p)

pub digest_reads : (f : Form) (img : List ℕ) (es copied sorted seen : List Noted) → copied ≡ map (digested f img) es → IsPermutation copied sorted → seen ≡ sorted → shared_by_pairs seen ≡ shared_by_pairs (map (digested f img) es)
digest_reads f img es copied sorted seen part same value = ap shared_by_pairs value ∙ pairs_shuffled copied sorted same ∙ ap shared_by_pairs part

-- what more records take is no less
pub twin_reads_front : (f : Form) (img : List ℕ) (es fs : List Noted) → twin_reads f img es ≤ twin_reads f img (es ++ fs)
twin_reads_front f img es fs =
    let more : shared_by_pairs (map (digested f img) es) ≤ shared_by_pairs (map (digested f img) (es ++ fs)) =
    subst (λ gs. shared_by_pairs (map (digested f img) es) ≤ shared_by_pairs gs) (sym (map-append (digested f img) es fs)) (pairs_front (map (digested f img) es) (map (digested f img) fs)) in
    omega (arith, more, sum_by-append (λ (x : Noted). x.key_len) es fs)

pub twin_reads_take : (f : Form) (img : List ℕ) (n : ℕ) (es : List Noted) → twin_reads f img (take n es) ≤ twin_reads f img es
twin_reads_take f img n es = subst (λ fs. twin_reads f img (take n es) ≤ twin_reads f img fs) (take-append-drop n es) (twin_reads_front f img (take n es) (drop n es))
