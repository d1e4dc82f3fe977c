-- What is noted of records, in their order and in that of their marks.
use Rattle.std.proofs.Common.{◌≡◌, ◌≢◌, ℕ, zero, suc, ◌+◌, ◌<◌, Bool, true, false, List, [], ◌∷◌, ◌++◌, length, map, take, get_or, refl, sym, ◌∙◌, ap, subst, inl, inr, arith}
use Rattle.std.specs.Prelude.{MatchBool, Result, IfOk, IfErr}
use Rattle.std.specs.declared.result.Result.TheVariants.{Ok, Err}
use Rattle.std.specs.List.{IsDistinct}
use Rattle.std.specs.List.Sorted.{IsNonDecreasingBy, IsPermutation}
use Rattle.std.proofs.lemmas.Bool.{cases_eq, eq-eqb, ne_eqb, false≢true, false_from_ne_true, cases_Bool, cases_lt}
use Rattle.std.proofs.lemmas.Slice.Eq.{bytes_eq-Decides}
use Rattle.std.proofs.lemmas.Cmp.{nat_list_eq_equiv}
use Rattle.std.proofs.lemmas.List.{get_or-map, length-map, get_or_default}
use Rattle.std.proofs.lemmas.List.Elements.{All-append}
use Rattle.std.proofs.lemmas.List.Sorted.{IsPermutation-map, IsPermutation-sym, All-permutation}
use Rattle.std.proofs.lemmas.Map.Keys.{IsDistinct-from_apart, apart_from_distinct, IsDistinct-IsPermutation}
use Rattle.tdb_words.specs.declared.record.TheConstants.{USED}
use Rattle.tdb_space.specs.Form.{Form}
use Rattle.tdb_space.specs.Record.{magic_of, key_at}
use Rattle.tdb_space.specs.Pairs.{same_key}
use Rattle.tdb_space.specs.Accepted.{KeysDiffer}
use Rattle.tdb_space.specs.FirstFault.{has_twin}
use Rattle.tdb_check.specs.declared.keys.Noted.{Noted}
use Rattle.tdb_check.specs.Keys.{noted_at, notes_of, key_of_noted, mark_of, digested, digest_mark, MarksRise, IsNoted, AllNoted, NotedDiffer, TwinAt, NoTwinBefore}
use Rattle.tdb_check.proofs.Walked.{keys_at, keys_used, keys_other, differ_more}

-- of a used record something is noted, and of another nothing
pub notes_used : (f : Form) (img : List ℕ) (x : ℕ) (xs : List ℕ) → magic_of f.order img x ≡ USED → notes_of f img (x ∷ xs) ≡ noted_at f img x ∷ notes_of f img xs
notes_used f img x xs used = rw (eq-eqb (magic_of f.order img x) USED used) refl

pub notes_other : (f : Form) (img : List ℕ) (x : ℕ) (xs : List ℕ) → magic_of f.order img x ≢ USED → notes_of f img (x ∷ xs) ≡ notes_of f img xs
notes_other f img x xs other = rw (ne_eqb (magic_of f.order img x) USED other) refl

-- one more record at the end
pub notes_push_used : (f : Form) (img xs : List ℕ) (at : ℕ) → magic_of f.order img at ≡ USED → notes_of f img (xs ++ at ∷ []) ≡ notes_of f img xs ++ noted_at f img at ∷ []
notes_push_used f img [] at used = notes_used f img at [] used
notes_push_used f img (x ∷ xs) at used =
    elim (cases_eq (magic_of f.order img x) USED) [
      | inl is ↦ notes_used f img x (xs ++ at ∷ []) is ∙ ap (λ es. noted_at f img x ∷ es) (notes_push_used f img xs at used) ∙ ap (λ es. es ++ noted_at f img at ∷ []) (sym (notes_used f img x xs is))
      | inr other ↦ notes_other f img x (xs ++ at ∷ []) other ∙ notes_push_used f img xs at used ∙ ap (λ es. es ++ noted_at f img at ∷ []) (sym (notes_other f img x xs other))
    ]

pub notes_push_other : (f : Form) (img xs : List ℕ) (at : ℕ) → magic_of f.order img at ≢ USED → notes_of f img (xs ++ at ∷ []) ≡ notes_of f img xs
notes_push_other f img [] at other = notes_other f img at [] other
notes_push_other f img (x ∷ xs) at other =
    elim (cases_eq (magic_of f.order img x) USED) [
      | inl is ↦ notes_used f img x (xs ++ at ∷ []) is ∙ ap (λ es. noted_at f img x ∷ es) (notes_push_other f img xs at other) ∙ sym (notes_used f img x xs is)
      | inr apart ↦ notes_other f img x (xs ++ at ∷ []) apart ∙ notes_push_other f img xs at other ∙ sym (notes_other f img x xs apart)
    ]

-- the keys of the noted records are those of the used ones
pub keys_noted : (f : Form) (img xs : List ℕ) → map (key_of_noted f img) (notes_of f img xs) ≡ keys_at f.order img xs
keys_noted f img [] = refl
keys_noted f img (x ∷ xs) =
    elim (cases_eq (magic_of f.order img x) USED) [
      | inl is ↦ ap (map (key_of_noted f img)) (notes_used f img x xs is) ∙ ap (λ ks. key_at f.order img x ∷ ks) (keys_noted f img xs) ∙ sym (keys_used f.order img x xs is)
      | inr other ↦ ap (map (key_of_noted f img)) (notes_other f img x xs other) ∙ keys_noted f img xs ∙ sym (keys_other f.order img x xs other)
    ]

pub differ_from : (f : Form) (img xs : List ℕ) → NotedDiffer f img (notes_of f img xs) → KeysDiffer f img xs
differ_from f img xs d = subst (IsDistinct same_key) (keys_noted f img xs) d

pub differ_to : (f : Form) (img xs : List ℕ) → KeysDiffer f img xs → NotedDiffer f img (notes_of f img xs)
differ_to f img xs d = subst (IsDistinct same_key) (sym (keys_noted f img xs)) d

-- the record of which the next after so many notes is, and those before it
pub record NotedSplit (f : Form) (img xs : List ℕ) (n at : ℕ) : Type 0 where
  pub before : List ℕ
  pub behind : List ℕ
  pub parts : xs ≡ before ++ at ∷ behind
  pub used : magic_of f.order img at ≡ USED
  pub first : notes_of f img before ≡ take n (notes_of f img xs)
  pub one_more : notes_of f img (before ++ at ∷ []) ≡ take (suc n) (notes_of f img xs)

split_further : (f : Form) (img : List ℕ) (x : ℕ) (xs : List ℕ) (n at : ℕ) → magic_of f.order img x ≢ USED → NotedSplit f img xs n at → NotedSplit f img (x ∷ xs) n at
split_further f img x xs n at other s = record {
  before = x ∷ s.before;
  behind = s.behind;
  parts = ap (λ ys. x ∷ ys) s.parts;
  used = s.used;
  first = notes_other f img x s.before other ∙ s.first ∙ ap (take n) (sym (notes_other f img x xs other));
  one_more = notes_other f img x (s.before ++ at ∷ []) other ∙ s.one_more ∙ ap (take (suc n)) (sym (notes_other f img x xs other));
}

split_behind : (f : Form) (img : List ℕ) (x : ℕ) (xs : List ℕ) (n at : ℕ) → magic_of f.order img x ≡ USED → NotedSplit f img xs n at → NotedSplit f img (x ∷ xs) (suc n) at
split_behind f img x xs n at used s = record {
  before = x ∷ s.before;
  behind = s.behind;
  parts = ap (λ ys. x ∷ ys) s.parts;
  used = s.used;
  first = notes_used f img x s.before used ∙ ap (λ es. noted_at f img x ∷ es) s.first ∙ ap (take (suc n)) (sym (notes_used f img x xs used));
  one_more = notes_used f img x (s.before ++ at ∷ []) used ∙ ap (λ es. noted_at f img x ∷ es) s.one_more ∙ ap (take (suc (suc n))) (sym (notes_used f img x xs used));
}

split_here : (f : Form) (img : List ℕ) (x : ℕ) (xs : List ℕ) → magic_of f.order img x ≡ USED → NotedSplit f img (x ∷ xs) 0 x
split_here f img x xs used = record {
  before = [];
  behind = xs;
  parts = refl;
  used = used;
  first = refl;
  one_more = notes_used f img x [] used ∙ ap (take 1) (sym (notes_used f img x xs used));
}

pub split_at : (f : Form) (img xs : List ℕ) (n : ℕ) (d : Noted) → n < length (notes_of f img xs) → NotedSplit f img xs n (get_or (notes_of f img xs) n d).at
split_at f img [] n d low = absurd (omega (arith, low))
split_at f img (x ∷ xs) zero d low =
    elim (cases_eq (magic_of f.order img x) USED) [
      | inl is ↦ subst (NotedSplit f img (x ∷ xs) 0) (ap (λ (es : List Noted). (get_or es 0 d).at) (sym (notes_used f img x xs is))) (split_here f img x xs is)
      | inr other ↦ subst (NotedSplit f img (x ∷ xs) 0) (ap (λ (es : List Noted). (get_or es 0 d).at) (sym (notes_other f img x xs other)))
          (split_further f img x xs 0 _ other (split_at f img xs 0 d (subst (λ (es : List Noted). 0 < length es) (notes_other f img x xs other) low)))
    ]
split_at f img (x ∷ xs) (suc n) d low =
    elim (cases_eq (magic_of f.order img x) USED) [
      | inl is ↦
          let more : suc n < length (noted_at f img x ∷ notes_of f img xs) = subst (λ (es : List Noted). suc n < length es) (notes_used f img x xs is) low in
          subst (NotedSplit f img (x ∷ xs) (suc n)) (ap (λ (es : List Noted). (get_or es (suc n) d).at) (sym (notes_used f img x xs is)))
          (split_behind f img x xs n _ is (split_at f img xs n d (omega (arith, more))))
      | inr other ↦ subst (NotedSplit f img (x ∷ xs) (suc n)) (ap (λ (es : List Noted). (get_or es (suc n) d).at) (sym (notes_other f img x xs other)))
          (split_further f img x xs (suc n) _ other (split_at f img xs (suc n) d (subst (λ (es : List Noted). suc n < length es) (notes_other f img x xs other) low)))
    ]

-- where the first so many notes have no key twice, and one more has, the next record is the first with a twin
pub twin_from : (f : Form) (img xs : List ℕ) (n at : ℕ) → NotedSplit f img xs n at → NotedDiffer f img (take n (notes_of f img xs)) → (NotedDiffer f img (take (suc n) (notes_of f img xs)) → ⊥)
    → (ys : List ℕ) × (zs : List ℕ) × (xs ≡ ys ++ at ∷ zs) × KeysDiffer f img ys × (has_twin f img ys at ≡ true)
twin_from f img xs n at s differ again =
    let apart : KeysDiffer f img s.before = differ_from f img s.before (subst (NotedDiffer f img) (sym s.first) differ) in (
      s.before,
      s.behind,
      s.parts,
      apart,
      elim (cases_Bool (has_twin f img s.before at)) [
        | inl twin ↦ twin
        | inr alone ↦ absurd (again (subst (NotedDiffer f img) s.one_more (differ_to f img (s.before ++ at ∷ []) (differ_more f img s.before at alone apart))))
      ],
    )

-- in another order
pub same_flips : (x y : List ℕ) → same_key x y ≡ same_key y x
same_flips x y = nat_list_eq_equiv.symm x y

pub differ_sorted : (f : Form) (img : List ℕ) (es sorted : List Noted) → IsPermutation es sorted → NotedDiffer f img es → NotedDiffer f img sorted
differ_sorted f img es sorted p = IsDistinct-IsPermutation same_key same_flips (map (key_of_noted f img) es) (map (key_of_noted f img) sorted) (IsPermutation-map (key_of_noted f img) es sorted p)

-- the records so far have no key twice, one by one
pub record ApartTo (f : Form) (img : List ℕ) (es : List Noted) (n : ℕ) : Type 0 where
  pub each : (i : ℕ) → i < n → NoTwinBefore f img es i 0

same_to : (k q : List ℕ) → k ≡ q → same_key k q ≡ true
same_to k q h = (bytes_eq-Decides k q).1 h

same_from : (k q : List ℕ) → same_key k q ≡ true → k ≡ q
same_from k q h = (bytes_eq-Decides k q).0 h

pub apart_all : (f : Form) (img : List ℕ) (es : List Noted) (d : Noted) → ApartTo f img es (length es) → NotedDiffer f img es
apart_all f img es d h = IsDistinct-from_apart same_key (map (key_of_noted f img) es)
    (λ i j k low high. false_from_ne_true _ (λ same.
    let long : j < length es = omega (arith, high, length-map es (key_of_noted f img)) in
    h.each j long i d (omega arith) low (sym (get_or-map (key_of_noted f img) es i d k (omega (arith, low, long))) ∙ same_from _ _ same ∙ get_or-map (key_of_noted f img) es j d k long)))

pub twin_not : (f : Form) (img : List ℕ) (es : List Noted) (i : ℕ) (d : Noted) → i < length es → TwinAt f img es i → NotedDiffer f img es → ⊥
twin_not f img es i d low t differ =
    false≢true (sym (apart_from_distinct same_key (map (key_of_noted f img) es) t.0 i (key_of_noted f img d) differ t.1 (omega (arith, low, length-map es (key_of_noted f img))))
    ∙ same_to _ _ (get_or-map (key_of_noted f img) es t.0 d (key_of_noted f img d) (omega (arith, low, t.1)) ∙ t.2 d ∙ sym (get_or-map (key_of_noted f img) es i d (key_of_noted f img d) low)))

one_noted : (mark : List ℕ → ℕ) (f : Form) (img : List ℕ) (e : Noted) → IsNoted mark f img e → (k : ℕ) (d : Noted) → k < 1 → IsNoted mark f img (get_or (e ∷ []) k d)
one_noted mark f img e one zero d low = one
one_noted mark f img e one (suc k) d low = absurd (omega (arith, low))

-- one more that is noted
pub noted_push : (mark : List ℕ → ℕ) (f : Form) (img : List ℕ) (es : List Noted) (e : Noted) → AllNoted mark f img es → IsNoted mark f img e → AllNoted mark f img (es ++ e ∷ [])
noted_push mark f img es e all one = All-append (IsNoted mark f img) es (e ∷ []) all (one_noted mark f img e one)

-- one before it has its key
pub twin_here : (f : Form) (img : List ℕ) (es : List Noted) (i k : ℕ) (d e : Noted) → i < length es → k < i → key_of_noted f img (get_or es k d) ≡ key_of_noted f img (get_or es i e) → TwinAt f img es i
twin_here f img es i k d e low before same =
    (k, before, λ x. ap (key_of_noted f img) (get_or_default es k x d (omega (arith, low, before))) ∙ same ∙ ap (key_of_noted f img) (get_or_default es i e x low))

-- records with one key have one mark
same_mark : (mark : List ℕ → ℕ) (f : Form) (img : List ℕ) (es : List Noted) (q i : ℕ) (d e : Noted) → AllNoted mark f img es → q < length es → i < length es → key_of_noted f img (get_or es q d) ≡ key_of_noted f img (get_or es i d) → mark_of (get_or es q e) ≡ mark_of (get_or es i e)
same_mark mark f img es q i d e all low high same =
    ap mark_of (get_or_default es q e d low) ∙ (all q d low).marked ∙ ap mark same ∙ sym (all i d high).marked ∙ ap mark_of (get_or_default es i d e high)

-- none of those before a record has its key where one of them, in the order of their marks, has another mark
pub apart_before : (mark : List ℕ → ℕ) (f : Form) (img : List ℕ) (es : List Noted) (i k next : ℕ) (e : Noted) → next ≡ k + 1 → IsNonDecreasingBy mark_of es → AllNoted mark f img es → i < length es → k < i → mark_of (get_or es k e) ≢ mark_of (get_or es i e) → NoTwinBefore f img es i next → NoTwinBefore f img es i 0
apart_before mark f img es i k next e is ordered all low before other behind q d from under same =
    elim (cases_lt k q) [
      | inl high ↦ behind q d (omega (arith, high, is)) under same
      | inr under2 ↦
          let one : mark_of (get_or es q e) ≡ mark_of (get_or es i e) = same_mark mark f img es q i d e all (omega (arith, under, low)) low same in
          absurd (other (omega (arith, ordered q k e under2 (omega (arith, before, low)), ordered k i e (omega (arith, before)) low, one)))
    ]

-- one more that was compared
pub one_before : (f : Form) (img : List ℕ) (es : List Noted) (i next k : ℕ) (e : Noted) → k < length es → i < length es → next ≡ k + 1 → NoTwinBefore f img es i next → (key_of_noted f img (get_or es k e) ≡ key_of_noted f img (get_or es i e) → ⊥) → NoTwinBefore f img es i k
one_before f img es i next k e low high is behind other q d from under same =
    elim (cases_lt k q) [
      | inl more ↦ behind q d (omega (arith, more, is)) under same
      | inr here ↦
          let one : q ≡ k = omega (arith, from, here) in
          other (ap (key_of_noted f img) (get_or_default es k e d low) ∙ ap (λ n. key_of_noted f img (get_or es n d)) (sym one) ∙ same ∙ ap (key_of_noted f img) (get_or_default es i d e high))
    ]

-- where the marks rise, no key comes twice
pub rise_differ : (mark : List ℕ → ℕ) (f : Form) (img : List ℕ) (es : List Noted) (d : Noted) → IsNonDecreasingBy mark_of es → AllNoted mark f img es → MarksRise es (length es) → NotedDiffer f img es
rise_differ mark f img es d ordered all rise = apart_all f img es d (record { each = each })
  where
    each : (i : ℕ) → i < length es → NoTwinBefore f img es i 0
    each zero low k x from under same = absurd (omega (arith, under))
    each (suc i) low k x from under same =
        let next : i + 1 ≡ suc i = omega arith in
        let up : mark_of (get_or es i x) < mark_of (get_or es (suc i) x) = subst (λ n. mark_of (get_or es i x) < mark_of (get_or es n x)) next (rise i x (omega (arith, low))) in
        absurd (omega (arith, up, ordered k i x (omega (arith, under)) (omega (arith, low)), same_mark mark f img es k (suc i) x x all (omega (arith, under, low)) low same))

-- other marks change no key
keys_kept : (f : Form) (img : List ℕ) (g : Noted → Noted) → ((e : Noted) → key_of_noted f img (g e) ≡ key_of_noted f img e) → (es : List Noted) → map (key_of_noted f img) (map g es) ≡ map (key_of_noted f img) es
keys_kept f img g same [] = refl
keys_kept f img g same (e ∷ es) = λ i. same e i ∷ keys_kept f img g same es i

-- marks that change no key change nothing of what is found
twins_kept : (f : Form) (img : List ℕ) (g : Noted → Noted) → ((e : Noted) → key_of_noted f img (g e) ≡ key_of_noted f img e) → (es : List Noted) (twins : Bool)
    → MatchBool twins (NotedDiffer f img (map g es) → ⊥) (NotedDiffer f img (map g es)) → MatchBool twins (NotedDiffer f img es → ⊥) (NotedDiffer f img es)
twins_kept f img g same es true again = λ d. again (subst (IsDistinct same_key) (sym (keys_kept f img g same es)) d)
twins_kept f img g same es false d = subst (IsDistinct same_key) (keys_kept f img g same es) d

pub twins_digested : (f : Form) (img : List ℕ) (es : List Noted) (twins : Bool) → MatchBool twins (NotedDiffer f img (map (digested f img) es) → ⊥) (NotedDiffer f img (map (digested f img) es)) → MatchBool twins (NotedDiffer f img es → ⊥) (NotedDiffer f img es)
twins_digested f img = twins_kept f img (digested f img) (λ e. refl)

-- records that are noted by other marks
noted_map : (mark mark2 : List ℕ → ℕ) (f : Form) (img : List ℕ) (g : Noted → Noted) → ((e : Noted) → IsNoted mark f img e → IsNoted mark2 f img (g e)) → (es : List Noted) → AllNoted mark f img es → AllNoted mark2 f img (map g es)
noted_map mark mark2 f img g keeps es all k d low =
    let low2 : k < length es = omega (arith, low, length-map es g) in
    let one : get_or (map g es) k d ≡ g (get_or es k d) = get_or-map g es k d d low2 in
    subst (IsNoted mark2 f img) (sym one) (keeps (get_or es k d) (all k d low2))

pub noted_digested : (mark : List ℕ → ℕ) (f : Form) (img : List ℕ) (es : List Noted) → AllNoted mark f img es → AllNoted digest_mark f img (map (digested f img) es)
noted_digested mark f img = noted_map mark digest_mark f img (digested f img) (λ e h. record { within = h.within; long = h.long; marked = refl })

-- the results of a call that returns another one's
pub ok_then : {T E : Type 0} (r : Result T E) (P Q : T → Type 0) → ((x : T) → P x → Q x) → IfOk r P → IfOk r Q
ok_then (Ok x) P Q h p = h x p
ok_then (Err e) P Q h p = p

pub err_then : {T E : Type 0} (r : Result T E) (P Q : E → Type 0) → ((e : E) → P e → Q e) → IfErr r P → IfErr r Q
err_then (Ok x) P Q h p = p
err_then (Err e) P Q h p = h e p

-- what was found in the order of the marks
pub twins_sorted : (f : Form) (img : List ℕ) (es sorted : List Noted) (twins : Bool) → IsPermutation es sorted → MatchBool twins (NotedDiffer f img sorted → ⊥) (NotedDiffer f img sorted) → MatchBool twins (NotedDiffer f img es → ⊥) (NotedDiffer f img es)
twins_sorted f img es sorted true p again = λ differ. again (differ_sorted f img es sorted p differ)
twins_sorted f img es sorted false p differ = differ_sorted f img sorted es (IsPermutation-sym es sorted p) differ

pub differ_none : (f : Form) (img : List ℕ) → NotedDiffer f img []
unfolding IsDistinct
differ_none f img = tt

-- records in the order of their marks
shuffled : (copied want sorted seen : List Noted) → copied ≡ want → IsPermutation copied sorted → seen ≡ sorted → IsPermutation want seen
shuffled copied want sorted seen part same value = subst (IsPermutation want) (sym value) (subst (λ es. IsPermutation es sorted) part same)

pub copied_noted : (mark : List ℕ → ℕ) (f : Form) (img : List ℕ) (es copied sorted seen : List Noted) → copied ≡ es → IsPermutation copied sorted → seen ≡ sorted → AllNoted mark f img es → AllNoted mark f img seen
copied_noted mark f img es copied sorted seen part same value all = All-permutation (IsNoted mark f img) es seen (shuffled copied es sorted seen part same value) all

pub copied_apart : (mark : List ℕ → ℕ) (f : Form) (img : List ℕ) (es copied sorted seen : List Noted) → copied ≡ es → IsPermutation copied sorted → seen ≡ sorted → IsNonDecreasingBy mark_of sorted → AllNoted mark f img es → MarksRise seen (length seen) → NotedDiffer f img es
copied_apart mark f img es copied sorted seen part same value ordered all rise =
    let noted = copied_noted mark f img es copied sorted seen part same value all in
    let apart : NotedDiffer f img seen = rise_differ mark f img seen (record { mark = 0; key_len = 0; at = 0 }) (subst (IsNonDecreasingBy mark_of) (sym value) ordered) noted rise in
    differ_sorted f img seen es (IsPermutation-sym es seen (shuffled copied es sorted seen part same value)) apart

pub copied_twins : (f : Form) (img : List ℕ) (es copied sorted seen : List Noted) (twins : Bool) → copied ≡ es → IsPermutation copied sorted → seen ≡ sorted → MatchBool twins (NotedDiffer f img seen → ⊥) (NotedDiffer f img seen) → MatchBool twins (NotedDiffer f img es → ⊥) (NotedDiffer f img es)
copied_twins f img es copied sorted seen twins part same value found = twins_sorted f img es seen twins (shuffled copied es sorted seen part same value) found

pub digest_noted : (mark : List ℕ → ℕ) (f : Form) (img : List ℕ) (es copied sorted seen : List Noted) → copied ≡ map (digested f img) es → IsPermutation copied sorted → seen ≡ sorted → AllNoted mark f img es → AllNoted digest_mark f img seen
digest_noted mark f img es copied sorted seen part same value all =
    All-permutation (IsNoted digest_mark f img) (map (digested f img) es) seen (shuffled copied (map (digested f img) es) sorted seen part same value) (noted_digested mark f img es all)

pub digest_twins : (f : Form) (img : List ℕ) (es copied sorted seen : List Noted) (twins : Bool) → copied ≡ map (digested f img) es → IsPermutation copied sorted → seen ≡ sorted → MatchBool twins (NotedDiffer f img seen → ⊥) (NotedDiffer f img seen) → MatchBool twins (NotedDiffer f img es → ⊥) (NotedDiffer f img es)
digest_twins f img es copied sorted seen twins part same value found =
    twins_digested f img es twins (twins_sorted f img (map (digested f img) es) seen twins (shuffled copied (map (digested f img) es) sorted seen part same value) found)
