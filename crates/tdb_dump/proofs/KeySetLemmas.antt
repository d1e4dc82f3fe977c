-- Lemmas on the places of keys.
use Rattle.std.proofs.Common.{◌≡◌, ℕ, ◌+◌, ◌-◌, ◌≤◌, ◌<◌, ◌^◌, Bool, true, false, cond, ◌||◌, Option, Some, None, List, ◌++◌, length, take, drop, refl, sym, ◌∙◌, ap, subst, arith, inl, inr, Ok, Err}
use Rattle.std.specs.declared.cmp.Ordering.{Ordering}
use Rattle.std.specs.declared.cmp.Ordering.TheVariants.{Less, Equal, Greater}
use Rattle.std.specs.declared.result.Result.{Result}
use Rattle.std.specs.Ordering.{nat_cmp, is_eq}
use Rattle.std.specs.Result.{OnOk, OnErr}
use Rattle.std.specs.Cmp.Lexicographic.{slice_cmp}
use Rattle.std.specs.Map.{lookup}
use Rattle.std.specs.List.{list_any}
use Rattle.std.specs.Str.{bytes_eq}
use Rattle.std.specs.BTreeMap.{BTreeMap, is_at, get}
use Rattle.std.specs.BTreeSet.{BTreeSet, contains}
use Rattle.std.proofs.lemmas.Bool.{cases_Bool, both_ways}
use Rattle.std.proofs.lemmas.List.{length-drop, take-append-le, drop-append-le, take_all}
use Rattle.std.proofs.Math.Seq.{drop-append_seam}
use Rattle.std.proofs.lemmas.Cmp.{nat_list_eq_equiv, nat_cmp_total, eq_by_cmp_equiv}
use Rattle.std.proofs.lemmas.Map.Text.{is_eq-slice_cmp}
use Rattle.std.proofs.lemmas.Map.Lookups.{exact_unsigned}
use Rattle.std.proofs.lemmas.Slice.Eq.{bytes_eq-Decides}
use Rattle.tdb_dump.specs.declared.key_set.Place.{Place}
use Rattle.tdb_dump.specs.KeyPlaces.{mark_of, bytes_at, is_there, has_in, AllWithin, NoneBeside}

-- what follows from a result of either kind
pub on_either : {A E P Q G : Type 0} (r : Result A E) → OnOk r P → OnErr r Q → (P → G) → (Q → G) → G
on_either (Ok x) p q f g = f p
on_either (Err e) p q f g = g q

-- what holds anyhow
pub on_err_always : {A E P : Type 0} (r : Result A E) → P → OnErr r P
on_err_always (Ok x) p = tt
on_err_always (Err e) p = p

is_equal : (o : Ordering) → is_eq o ≡ true → o ≡ Equal
is_equal Less h = absurd (cc)
is_equal Equal h = refl
is_equal Greater h = absurd (cc)

same_mark : (m k : ℕ) → is_at (nat_cmp m) k ≡ true → m ≡ k
same_mark m k h = exact_unsigned m k (is_equal (nat_cmp m k) h)

-- the test by which a tree of keys looks one up
same_key : (key q : List ℕ) → is_at (slice_cmp nat_cmp key) q ≡ bytes_eq q key
same_key key q = is_eq-slice_cmp key q ∙ nat_list_eq_equiv.symm key q

-- bytes behind don't change what a place has
bytes_at-more : (bytes more : List ℕ) (p : Place) → (p.start ≤ p.end) × (p.end ≤ length bytes) → bytes_at (bytes ++ more) p ≡ bytes_at bytes p
bytes_at-more bytes more p h =
    let ordered = h.0 in
    let inside = h.1 in
    let front : drop p.start (bytes ++ more) ≡ drop p.start bytes ++ more = drop-append-le p.start bytes more (omega (arith, ordered, inside)) in
    ap (take (p.end - p.start)) front ∙ take-append-le (p.end - p.start) (drop p.start bytes) more (omega (arith, ordered, inside, length-drop p.start bytes))

-- the place of the bytes at the end
bytes_at-last : (bytes key : List ℕ) (p : Place) → p.start ≡ length bytes → p.end ≡ length bytes + length key → bytes_at (bytes ++ key) p ≡ key
bytes_at-last bytes key p start last =
    ap (λ n. take (p.end - p.start) (drop n (bytes ++ key))) start ∙ ap (take (p.end - p.start)) (drop-append_seam bytes key) ∙ take_all (p.end - p.start) key (omega (arith, start, last))

is_there-more : (bytes more q : List ℕ) (o : Option Place) → ((p : Place) → o ≡ Some p → (p.start ≤ p.end) × (p.end ≤ length bytes)) → is_there (bytes ++ more) q o ≡ is_there bytes q o
is_there-more bytes more q None within = refl
is_there-more bytes more q (Some p) within = ap (bytes_eq q) (bytes_at-more bytes more p (within p refl))

-- bytes behind those of all places are of no key
pub has_in-more : (first next : BTreeMap ℕ Place) (bytes more : List ℕ) (others : BTreeSet (List ℕ)) → next.entries ≡ first.entries → AllWithin first bytes
    → (q : List ℕ) → has_in next (bytes ++ more) others q ≡ has_in first bytes others q
has_in-more first next bytes more others same within q =
    ap (λ es. is_there (bytes ++ more) q (lookup (is_at (nat_cmp (mark_of q))) es) || contains (slice_cmp nat_cmp) others q) same
    ∙ ap (λ b. b || contains (slice_cmp nat_cmp) others q) (is_there-more bytes more q (get nat_cmp first (mark_of q)) (within (mark_of q)))

or_swap : (a b : Bool) → (a || b) ≡ (b || a)
or_swap true true = refl
or_swap true false = refl
or_swap false true = refl
or_swap false false = refl

or_none : (a b : Bool) → b ≡ false → a ≡ (a || b)
or_none true b h = refl
or_none false b h = sym h

-- a key that gets the first place of its mark
module _ (first next : BTreeMap ℕ Place) (bytes key : List ℕ) (others : BTreeSet (List ℕ)) (p : Place) (m : ℕ) (mark : m ≡ mark_of key) (put : (k : ℕ) → get nat_cmp next k ≡ cond (is_at (nat_cmp m) k) (Some p) (get nat_cmp first k)) (unseen : get nat_cmp first m ≡ None) (within : AllWithin first bytes) (start : p.start ≡ length bytes) (last : p.end ≡ length bytes + length key) where
  has_in-here : (q : List ℕ) → is_at (nat_cmp m) (mark_of q) ≡ true → has_in next (bytes ++ key) others q ≡ (has_in first bytes others q || bytes_eq q key)
  has_in-here q here =
      let beside = contains (slice_cmp nat_cmp) others q in
      let got : get nat_cmp next (mark_of q) ≡ Some p = put (mark_of q) ∙ ap (λ b. cond b (Some p) (get nat_cmp first (mark_of q))) here in
      let none : get nat_cmp first (mark_of q) ≡ None = ap (get nat_cmp first) (sym (same_mark m (mark_of q) here)) ∙ unseen in
      ap (λ o. is_there (bytes ++ key) q o || beside) got ∙ ap (λ k. bytes_eq q k || beside) (bytes_at-last bytes key p start last) ∙ or_swap (bytes_eq q key) beside
      ∙ sym (ap (λ o. (is_there bytes q o || beside) || bytes_eq q key) none)

  has_in-there : (q : List ℕ) → is_at (nat_cmp m) (mark_of q) ≡ false → has_in next (bytes ++ key) others q ≡ (has_in first bytes others q || bytes_eq q key)
  has_in-there q apart =
      let beside = contains (slice_cmp nat_cmp) others q in
      let got : get nat_cmp next (mark_of q) ≡ get nat_cmp first (mark_of q) = put (mark_of q) ∙ ap (λ b. cond b (Some p) (get nat_cmp first (mark_of q))) apart in
      let other : bytes_eq q key ≡ false = elim (cases_Bool (bytes_eq q key)) [
        | inl same ↦
            let is : q ≡ key = (bytes_eq-Decides q key).0 same in
            absurd (both_ways _ apart (ap (is_at (nat_cmp m)) (ap mark_of is ∙ sym mark) ∙ (eq_by_cmp_equiv nat_cmp_total).refl m))
        | inr differs ↦ differs
      ] in
      ap (λ o. is_there (bytes ++ key) q o || beside) got ∙ ap (λ b. b || beside) (is_there-more bytes key q (get nat_cmp first (mark_of q)) (within (mark_of q)))
      ∙ or_none (has_in first bytes others q) (bytes_eq q key) other

  pub has_in-first : (q : List ℕ) → has_in next (bytes ++ key) others q ≡ (has_in first bytes others q || bytes_eq q key)
  has_in-first q = elim (cases_Bool (is_at (nat_cmp m) (mark_of q))) [ inl here ↦ has_in-here q here | inr apart ↦ has_in-there q apart ]

or_between : (a b c : Bool) → (a || cond b true c) ≡ ((a || c) || b)
or_between true b c = refl
or_between false true true = refl
or_between false true false = refl
or_between false false true = refl
or_between false false false = refl

-- a key that comes among the others
pub has_in-other : (first : BTreeMap ℕ Place) (bytes key : List ℕ) (others next : BTreeSet (List ℕ)) → ((q : List ℕ) → contains (slice_cmp nat_cmp) next q ≡ cond (is_at (slice_cmp nat_cmp key) q) true (contains (slice_cmp nat_cmp) others q))
    → (q : List ℕ) → has_in first bytes next q ≡ (has_in first bytes others q || bytes_eq q key)
has_in-other first bytes key others next put q =
    let there = is_there bytes q (get nat_cmp first (mark_of q)) in
    let beside = contains (slice_cmp nat_cmp) others q in
    ap (λ b. there || b) (put q ∙ ap (λ b. cond b true beside) (same_key key q)) ∙ or_between there (bytes_eq q key) beside

-- a key that can't have a place comes among the others
pub NoneBeside-other : (first : BTreeMap ℕ Place) (bytes key : List ℕ) (others next : BTreeSet (List ℕ)) → (get nat_cmp first (mark_of key) ≡ None → length bytes + length key < 2 ^ 32 → ⊥)
    → ((q : List ℕ) → contains (slice_cmp nat_cmp) next q ≡ cond (is_at (slice_cmp nat_cmp key) q) true (contains (slice_cmp nat_cmp) others q)) → NoneBeside first bytes others → NoneBeside first bytes next
NoneBeside-other first bytes key others next no_place put none q unseen fits = elim (cases_Bool (bytes_eq q key)) [
  | inl same ↦
      let is : q ≡ key = (bytes_eq-Decides q key).0 same in
      absurd (no_place (subst (λ (k : List ℕ). get nat_cmp first (mark_of k) ≡ None) is unseen) (subst (λ (k : List ℕ). length bytes + length k < 2 ^ 32) is fits))
  | inr differs ↦ put q ∙ ap (λ b. cond b true (contains (slice_cmp nat_cmp) others q)) (same_key key q ∙ differs) ∙ none q unseen fits
]

-- the same keys are among the others
pub NoneBeside-same : (first : BTreeMap ℕ Place) (bytes : List ℕ) (others next : BTreeSet (List ℕ)) → next.keys ≡ others.keys → NoneBeside first bytes others → NoneBeside first bytes next
NoneBeside-same first bytes others next same none q unseen fits = ap (λ ks. list_any (is_at (slice_cmp nat_cmp q)) ks) same ∙ none q unseen fits
