-- Records of which only those are looked at whose marks another may have.
use Rattle.std.proofs.Common.{◌≡◌, ◌≢◌, ℕ, suc, ◌+◌, ◌<◌, ◌≤◌, ◌⊎◌, Bool, true, false, List, [], ◌∷◌, ◌++◌, length, map, cond, count_by, take, get_or, set, refl, sym, ◌∙◌, ap, subst, inl, inr, arith}
use Rattle.std.specs.Prelude.{◌==◌, ◌%◌, nat_lt, sum_by, slice_index}
use Rattle.std.specs.List.{filter, IsDistinct}
use Rattle.std.specs.Map.{keys_of}
use Rattle.std.proofs.Math.Seq.{take-length}
use Rattle.std.proofs.lemmas.Bool.{cases_Bool, cases_eq, cases_lt, eq-eqb, ne_eqb, lt-ltb, false≢true}
use Rattle.std.proofs.lemmas.List.{get_or-set_same, get_or-set_other, length-set}
use Rattle.std.proofs.lemmas.List.Sums.{sum_by-cons, sum_by_more}
use Rattle.std.proofs.lemmas.List.Elements.{All-head, All-tail, All-filter}
use Rattle.tdb_words.specs.declared.record.TheConstants.{USED}
use Rattle.tdb_words.specs.Hash.{h_jenkins}
use Rattle.tdb_space.specs.Form.{Form}
use Rattle.tdb_space.specs.Record.{magic_of}
use Rattle.tdb_space.specs.Pairs.{same_key}
use Rattle.tdb_space.specs.Accepted.{KeysDiffer}
use Rattle.tdb_space.proofs.Pairs.Maps.{same_key-eq}
use Rattle.tdb_check.specs.declared.keys.Noted.{Noted}
use Rattle.tdb_check.specs.declared.keys.Keys.{Keys}
use Rattle.tdb_check.specs.Keys.{IsNoted, AllNoted, NotedDiffer, KeptIn, KeptAlike, CountsMarks, is_alike, key_of_noted, noted_at, notes_of}
use Rattle.tdb_check.specs.Reads.{key_bytes}
use Rattle.tdb_check.proofs.Notings.{differ_to, differ_from, notes_used, notes_other}
use Rattle.tdb_check.proofs.Weights.{counted_once, once_differ}

-- how many of these records have a key
abbrev having : Form → List ℕ → List ℕ → List Noted → ℕ
having f img k es = count_by (same_key k) (map (key_of_noted f img) es)

having-cons : (f : Form) (img k : List ℕ) (e : Noted) (es : List Noted) → having f img k (e ∷ es) ≡ cond (same_key k (key_of_noted f img e)) 1 0 + having f img k es
having-cons f img k e es = sum_by-cons (λ q. cond (same_key k q) 1 0) (key_of_noted f img e) (map (key_of_noted f img) es)

-- no more of them have it than have a mark of the same place
having_placed : (f : Form) (img k : List ℕ) (m : ℕ) (es : List Noted) → AllNoted h_jenkins f img es → having f img k es ≤ count_by (λ e. e.mark % m == h_jenkins k % m) es
having_placed f img k m [] all = omega arith
having_placed f img k m (e ∷ es) all =
    let here = All-head (IsNoted h_jenkins f img) e es all in
    let rest = having_placed f img k m es (All-tail (IsNoted h_jenkins f img) e es all) in
    let left = having-cons f img k e es in
    let right = sum_by-cons (λ (x : Noted). cond (x.mark % m == h_jenkins k % m) 1 0) e es in
    elim (cases_Bool (same_key k (key_of_noted f img e))) [
      | inl same ↦
          let place : e.mark % m ≡ h_jenkins k % m = ap (λ n. n % m) (here.marked ∙ ap h_jenkins (sym (same_key-eq k (key_of_noted f img e) same))) in
          let one : ◌≡◌ {A = ℕ} (cond (e.mark % m == h_jenkins k % m) 1 0) 1 = rw (eq-eqb (e.mark % m) (h_jenkins k % m) place) refl in
          let yes : ◌≡◌ {A = ℕ} (cond (same_key k (key_of_noted f img e)) 1 0) 1 = ap (λ b. cond b 1 0) same in
          omega (arith, rest, left, right, one, yes)
      | inr other ↦
          let no : ◌≡◌ {A = ℕ} (cond (same_key k (key_of_noted f img e)) 1 0) 0 = ap (λ b. cond b 1 0) other in
          omega (arith, rest, left, right, no)
    ]

-- where each that has it is kept, as many that are kept have it
having_kept : (f : Form) (img k : List ℕ) (p : Noted → Bool) (es : List Noted) → AllNoted h_jenkins f img es → ((e : Noted) → e.mark ≡ h_jenkins k → p e ≡ true) → having f img k es ≡ having f img k (filter p es)
having_kept f img k p [] all passes = refl
having_kept f img k p (e ∷ es) all passes =
    let here = All-head (IsNoted h_jenkins f img) e es all in
    let rest = having_kept f img k p es (All-tail (IsNoted h_jenkins f img) e es all) passes in
    let left = having-cons f img k e es in
    elim (cases_Bool (p e)) [
      | inl kept ↦
          let is : filter p (e ∷ es) ≡ e ∷ filter p es = rw kept refl in
          omega (arith, rest, left, ap (having f img k) is, having-cons f img k e (filter p es))
      | inr dropped ↦
          let is : filter p (e ∷ es) ≡ filter p es = rw dropped refl in
          elim (cases_Bool (same_key k (key_of_noted f img e))) [
            | inl same ↦ absurd (false≢true (sym dropped ∙ passes e (here.marked ∙ ap h_jenkins (sym (same_key-eq k (key_of_noted f img e) same)))))
            | inr other ↦
                let no : ◌≡◌ {A = ℕ} (cond (same_key k (key_of_noted f img e)) 1 0) 0 = ap (λ b. cond b 1 0) other in
                omega (arith, rest, left, no, ap (having f img k) is)
          ]
    ]

-- where no two that are kept have one key, no two of all have
alike_differ : (f : Form) (img counts : List ℕ) (es : List Noted) → 0 < length counts → CountsMarks counts es → AllNoted h_jenkins f img es → NotedDiffer f img (filter (is_alike counts) es) → NotedDiffer f img es
alike_differ f img counts es some counted all differ =
    once_differ (map (key_of_noted f img) es) (λ k.
    (let m = length counts in
    let place = h_jenkins k % m in
    let low : place < m = omega arith in
    elim (cases_lt 1 (slice_index counts place)) [
      | inl many ↦
          let kept = having_kept f img k (is_alike counts) es all (λ e is. subst (λ n. nat_lt 1 (slice_index counts n) ≡ true) (ap (λ n. n % m) (sym is)) (lt-ltb 1 (slice_index counts place) many)) in
          omega (arith, kept, counted_once k (map (key_of_noted f img) (filter (is_alike counts) es)) differ)
      | inr few ↦ omega (arith, having_placed f img k m es all, counted place low few)
    ]))

-- what is noted of the records whose notes are kept is what is kept of the notes
notes_kept : (f : Form) (img : List ℕ) (p : Noted → Bool) (xs : List ℕ) → notes_of f img (filter (λ x. p (noted_at f img x)) xs) ≡ filter p (notes_of f img xs)
notes_kept f img p [] = refl
notes_kept f img p (x ∷ xs) =
    let q : ℕ → Bool = λ y. p (noted_at f img y) in
    let rest = notes_kept f img p xs in
    elim (cases_Bool (q x)) [
      | inl kept ↦
          let front : filter q (x ∷ xs) ≡ x ∷ filter q xs = rw kept refl in
          elim (cases_eq (magic_of f.order img x) USED) [
            | inl used ↦
                let back : filter p (noted_at f img x ∷ notes_of f img xs) ≡ noted_at f img x ∷ filter p (notes_of f img xs) = rw kept refl in
                ap (notes_of f img) front ∙ notes_used f img x (filter q xs) used ∙ ap (λ es. noted_at f img x ∷ es) rest ∙ sym back ∙ ap (filter p) (sym (notes_used f img x xs used))
            | inr other ↦ ap (notes_of f img) front ∙ notes_other f img x (filter q xs) other ∙ rest ∙ ap (filter p) (sym (notes_other f img x xs other))
          ]
      | inr dropped ↦
          let front : filter q (x ∷ xs) ≡ filter q xs = rw dropped refl in
          elim (cases_eq (magic_of f.order img x) USED) [
            | inl used ↦
                let back : filter p (noted_at f img x ∷ notes_of f img xs) ≡ filter p (notes_of f img xs) = rw dropped refl in
                ap (notes_of f img) front ∙ rest ∙ sym back ∙ ap (filter p) (sym (notes_used f img x xs used))
            | inr other ↦ ap (notes_of f img) front ∙ rest ∙ ap (filter p) (sym (notes_other f img x xs other))
          ]
    ]

-- the notes that are kept
pub kept_alike : (f : Form) (img xs counts : List ℕ) (old new : Keys) → 0 < length counts → CountsMarks counts old.noted.items → new.noted.items ≡ filter (is_alike counts) old.noted.items → KeptIn f img xs old → KeptAlike f img xs new
kept_alike f img xs counts old new some counted is kept =
    let p = is_alike counts in
    let same : notes_of f img (filter (λ x. p (noted_at f img x)) xs) ≡ filter p (notes_of f img xs) = notes_kept f img p xs in
    record {
      ys = filter (λ x. p (noted_at f img x)) xs;
      kept = record {
        noted = is ∙ ap (filter p) kept.noted ∙ sym same;
        all_noted = subst (AllNoted h_jenkins f img) (sym is) (All-filter p (IsNoted h_jenkins f img) old.noted.items kept.all_noted);
      };
      enough = λ differ. differ_from f img xs
          (alike_differ f img counts (notes_of f img xs) some (subst (CountsMarks counts) kept.noted counted) (subst (AllNoted h_jenkins f img) kept.noted kept.all_noted)
          (subst (NotedDiffer f img) same (differ_to f img (filter (λ x. p (noted_at f img x)) xs) differ)));
    }

-- their keys are no longer than all
pub keys_kept : (p : Noted → Bool) (es : List Noted) → key_bytes (filter p es) ≤ key_bytes es
keys_kept p [] = omega arith
keys_kept p (e ∷ es) =
    let all = sum_by-cons (λ (x : Noted). x.key_len) e es in
    elim (cases_Bool (p e)) [
      | inl kept ↦
          let is : filter p (e ∷ es) ≡ e ∷ filter p es = rw kept refl in
          omega (arith, keys_kept p es, all, ap key_bytes is, sum_by-cons (λ (x : Noted). x.key_len) e (filter p es))
      | inr dropped ↦
          let is : filter p (e ∷ es) ≡ filter p es = rw dropped refl in
          omega (arith, keys_kept p es, all, ap key_bytes is)
    ]

cond_most : (b : Bool) → cond b 1 0 ≤ 1
cond_most true = omega arith
cond_most false = omega arith

-- the marks of the first i records are counted: of each place there are no more than its count, or that is 2 or more
abbrev pub CountsFirst : List ℕ → List Noted → ℕ → Type 0
CountsFirst counts es i = (k : ℕ) → k < length counts → (count_by (λ e. e.mark % length counts == k) (take i es) ≤ slice_index counts k) ⊎ (2 ≤ slice_index counts k)

pub counts_all : (counts : List ℕ) (es : List Noted) → CountsFirst counts es (length es) → CountsMarks counts es
counts_all counts es h k low few =
    elim (h k low) [
      | inl no_more ↦ omega (arith, few, subst (λ xs. count_by (λ (e : Noted). e.mark % length counts == k) xs ≤ slice_index counts k) (take-length es) no_more)
      | inr many ↦ absurd (omega (arith, few, many))
    ]

-- one more is counted
pub counts_more : (old new : List ℕ) (es : List Noted) (i place n : ℕ) (d : Noted) → i < length es → place ≡ (get_or es i d).mark % length old → place < length old → new ≡ set old place n → (n ≡ slice_index old place + 1) ⊎ (2 ≤ n) → CountsFirst old es i → CountsFirst new es (i + 1)
counts_more old new es i place n d within there low is one h k under =
    let m = length old in
    let long : length new ≡ m = ap length is ∙ length-set old place n in
    let one_more : (j : ℕ) → count_by (λ (e : Noted). e.mark % m == j) (take (i + 1) es) ≡ count_by (λ (e : Noted). e.mark % m == j) (take i es) + cond ((get_or es i d).mark % m == j) 1 0 = λ j. sum_by_more (λ (e : Noted). cond (e.mark % m == j) 1 0) es i d within in
    let goal : (count_by (λ (e : Noted). e.mark % m == k) (take (i + 1) es) ≤ slice_index new k) ⊎ (2 ≤ slice_index new k) = elim (cases_eq k place) [
      | inl here ↦
          let now : slice_index new k ≡ n = ap (λ xs. get_or xs k 0) is ∙ ap (λ j. get_or (set old place n) j 0) here ∙ get_or-set_same old place n 0 low in
          elim one [
            | inl added ↦
                elim (h k (omega (arith, under, long))) [
                  | inl no_more ↦
                      let most : cond ((get_or es i d).mark % m == k) 1 0 ≤ 1 = cond_most ((get_or es i d).mark % m == k) in
                      inl (omega (arith, one_more k, no_more, most, now, added, ap (slice_index old) here))
                  | inr many ↦ inr (omega (arith, many, now, added, ap (slice_index old) here))
                ]
            | inr many ↦ inr (omega (arith, many, now))
          ]
      | inr other ↦
          let now : slice_index new k ≡ slice_index old k = ap (λ xs. get_or xs k 0) is ∙ get_or-set_other old place k n 0 other in
          let none : ◌≡◌ {A = ℕ} (cond ((get_or es i d).mark % m == k) 1 0) 0 = rw (ne_eqb ((get_or es i d).mark % m) k (λ e. other (sym e ∙ sym there))) refl in
          elim (h k (omega (arith, under, long))) [
            | inl no_more ↦ inl (omega (arith, one_more k, no_more, none, now))
            | inr many ↦ inr (omega (arith, many, now))
          ]
    ] in
    subst (λ z. (count_by (λ (e : Noted). e.mark % z == k) (take (i + 1) es) ≤ slice_index new k) ⊎ (2 ≤ slice_index new k)) (sym long) goal
