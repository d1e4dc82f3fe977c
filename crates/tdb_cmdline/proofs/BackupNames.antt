-- The names of the files of a backup and of their copies are different where no one was seen before another.
use Rattle.std.proofs.Common.{◌≡◌, ℕ, List, [], ◌∷◌, ◌++◌, cond, true, false, refl, sym, ◌∙◌, ap, subst, inl, inr}
use Rattle.std.specs.Prelude.{Bool, ◌&&◌, ◌||◌, not}
use Rattle.std.proofs.lemmas.Bool.{false≢true, and_parts, or_parts, not-true}
use Rattle.std.proofs.lemmas.List.{append-nil}
use Rattle.std.proofs.lemmas.Map.Text.{is_eq-slice_cmp}
use Rattle.std.specs.BTreeSet.{BTreeSet, contains}
use Rattle.std.specs.BTreeMap.{is_at}
use Rattle.std.specs.List.{list_any}
use Rattle.std.specs.Ordering.{nat_cmp}
use Rattle.std.specs.Cmp.Lexicographic.{slice_cmp}
use Rattle.tdb_space.specs.Pairs.{same_key}
use Rattle.tdb_space.proofs.Pairs.Maps.{same_key-refl}
use Rattle.tdb_cmdline.proofs.SameKey.{same_key-sym}
use Rattle.tdb_cmdline.specs.CopyNames.{copy_name, made_name, temporary_name, IsNameOf, IsNameAmong, NamesDiffer, BackupFits, VerifyFits}
use Rattle.tdb_cmdline.specs.Lines.Backup.{is_one_of, all_differ, all_names, HasNames}

-- these names are none of those before, and no one comes twice
abbrev pub all_new : List (List ℕ) → List (List ℕ) → Bool
all_new before [] = true
all_new before (name ∷ names) = not (is_one_of name before) && all_new (name ∷ before) names

-- these names are none of those before
abbrev none_of : List (List ℕ) → List (List ℕ) → Bool
none_of before [] = true
none_of before (name ∷ names) = not (is_one_of name before) && none_of before names

exchanged : (s x y p : Bool) → (not (s || x) && (not y && p)) ≡ (not (s || y) && (not x && p))
exchanged true true true p = refl
exchanged true true false p = refl
exchanged true false true p = refl
exchanged true false false p = refl
exchanged false true true p = refl
exchanged false true false p = refl
exchanged false false true p = refl
exchanged false false false p = refl

none_of_more : (name : List ℕ) (before names : List (List ℕ)) → none_of (name ∷ before) names ≡ (not (is_one_of name names) && none_of before names)
none_of_more name before [] = refl
none_of_more name before (other ∷ names) =
    ap (λ p. not (is_one_of other (name ∷ before)) && p) (none_of_more name before names)
    ∙ exchanged (same_key name other) (is_one_of other before) (is_one_of name names) (none_of before names)
    ∙ ap (λ s. not (s || is_one_of name names) && (not (is_one_of other before) && none_of before names)) (same_key-sym name other)

sorted : (a d m p : Bool) → (a && (d && (m && p))) ≡ ((m && d) && (a && p))
sorted true true true p = refl
sorted true true false p = refl
sorted true false true p = refl
sorted true false false p = refl
sorted false true true p = refl
sorted false true false p = refl
sorted false false true p = refl
sorted false false false p = refl

new_or_not : (before names : List (List ℕ)) → all_new before names ≡ (all_differ names && none_of before names)
new_or_not before [] = refl
new_or_not before (name ∷ names) =
    ap (λ q. not (is_one_of name before) && q) (new_or_not (name ∷ before) names ∙ ap (λ q. all_differ names && q) (none_of_more name before names))
    ∙ sorted (not (is_one_of name before)) (all_differ names) (not (is_one_of name names)) (none_of before names)

none_before : (names : List (List ℕ)) → none_of [] names ≡ true
none_before [] = refl
none_before (name ∷ names) = none_before names

and_all : (a : Bool) → (a && true) ≡ a
and_all true = refl
and_all false = refl

-- so where none were before they differ
pub differ_new : (names : List (List ℕ)) → all_differ names ≡ all_new [] names
differ_new names = sym (new_or_not [] names ∙ ap (λ q. all_differ names && q) (none_before names) ∙ and_all (all_differ names))

module _ (before : List (List ℕ)) (name : List ℕ) (names : List (List ℕ)) (new : Bool) (is : new ≡ not (is_one_of name before)) where
  pub seen_before : new ≡ false → false ≡ all_new before (name ∷ names)
  seen_before old = sym (ap (λ a. a && all_new (name ∷ before) names) (sym is ∙ old))

  pub seen_rest : new ≡ true → all_new before (name ∷ names) ≡ all_new (name ∷ before) names
  seen_rest first = ap (λ a. a && all_new (name ∷ before) names) (sym is ∙ first)

or_true : (a b : Bool) → b ≡ true → (a || b) ≡ true
or_true true b is = refl
or_true false b is = is

or_first : (a b : Bool) → a ≡ true → (a || b) ≡ true
or_first true b is = refl
or_first false b is = absurd (false≢true is)

-- the names of files are among those of all
module _ (verify : Bool) (suffix : List ℕ) where
  first_name : (file : List ℕ) (names : List (List ℕ)) → is_one_of file (file ∷ names) ≡ true
  first_name file names = or_first (same_key file file) (is_one_of file names) (same_key-refl file)

  among_one : (files : List (List ℕ)) (name : List ℕ) → IsNameAmong verify suffix files name → is_one_of name (all_names verify suffix files) ≡ true
  among_one [] name among = absurd among
  among_one (file ∷ files) name (inl (inl is)) =
      subst (λ n. is_one_of n (all_names verify suffix (file ∷ files)) ≡ true) (sym is) (first_name file (copy_name suffix file ∷ made_name verify suffix file ∷ all_names verify suffix files))
  among_one (file ∷ files) name (inl (inr (inl is))) =
      subst (λ n. is_one_of n (all_names verify suffix (file ∷ files)) ≡ true) (sym is)
      (or_true (same_key file (copy_name suffix file)) _ (first_name (copy_name suffix file) (made_name verify suffix file ∷ all_names verify suffix files)))
  among_one (file ∷ files) name (inl (inr (inr is))) =
      subst (λ n. is_one_of n (all_names verify suffix (file ∷ files)) ≡ true) (sym is)
      (or_true (same_key file (made_name verify suffix file)) _ (or_true (same_key (copy_name suffix file) (made_name verify suffix file)) _ (first_name (made_name verify suffix file) (all_names verify suffix files))))
  among_one (file ∷ files) name (inr among) =
      or_true (same_key file name) _ (or_true (same_key (copy_name suffix file) name) _ (or_true (same_key (made_name verify suffix file) name) _ (among_one files name among)))

  -- what is known of the names of a file where those of all differ
  record Apart (file : List ℕ) (files : List (List ℕ)) : Type 0 where
    own : is_one_of file (copy_name suffix file ∷ made_name verify suffix file ∷ all_names verify suffix files) ≡ false
    copy : is_one_of (copy_name suffix file) (made_name verify suffix file ∷ all_names verify suffix files) ≡ false
    new : is_one_of (made_name verify suffix file) (all_names verify suffix files) ≡ false
    rest : all_differ (all_names verify suffix files) ≡ true

  apart_of : (file : List ℕ) (files : List (List ℕ)) → all_differ (all_names verify suffix (file ∷ files)) ≡ true → Apart file files
  apart_of file files differ =
      let one = and_parts _ _ differ in
      let two = and_parts _ _ one.1 in
      let three = and_parts _ _ two.1 in
      record { own = not-true _ one.0; copy = not-true _ two.0; new = not-true _ three.0; rest = three.1 }

  behind_one : (name other : List ℕ) (others : List (List ℕ)) → is_one_of name (other ∷ others) ≡ false → is_one_of name others ≡ false
  behind_one name other others none = (or_parts (same_key other name) (is_one_of name others) none).1

  own_apart : (file name : List ℕ) (files : List (List ℕ)) → Apart file files → IsNameOf verify suffix file name → is_one_of name (all_names verify suffix files) ≡ false
  own_apart file name files a (inl is) =
      subst (λ n. is_one_of n (all_names verify suffix files) ≡ false) (sym is) (behind_one file (made_name verify suffix file) (all_names verify suffix files) (behind_one file (copy_name suffix file) (made_name verify suffix file ∷ all_names verify suffix files) a.own))
  own_apart file name files a (inr (inl is)) = subst (λ n. is_one_of n (all_names verify suffix files) ≡ false) (sym is) (behind_one (copy_name suffix file) (made_name verify suffix file) (all_names verify suffix files) a.copy)
  own_apart file name files a (inr (inr is)) = subst (λ n. is_one_of n (all_names verify suffix files) ≡ false) (sym is) a.new

  differ_so : (files : List (List ℕ)) → all_differ (all_names verify suffix files) ≡ true → NamesDiffer verify suffix files
  differ_so [] differ = tt
  differ_so (file ∷ files) differ =
      let a = apart_of file files differ in
      (λ name own among. false≢true (sym (own_apart file name files a own) ∙ among_one files name among), differ_so files a.rest)

  -- and the suffix isn't empty
  suffix_some : (file : List ℕ) (files : List (List ℕ)) → Apart file files → suffix ≡ [] → ⊥
  suffix_some file files a empty =
      let copy : copy_name suffix file ≡ file = ap (λ s. file ++ s) empty ∙ append-nil file in
      let other : same_key (copy_name suffix file) file ≡ false = (or_parts (same_key (copy_name suffix file) file) _ a.own).0 in
      false≢true (sym other ∙ subst (λ n. same_key n file ≡ true) (sym copy) (same_key-refl file))

-- so the names fit where files are copied, and where they are verified
pub names_fit : (suffix file : List ℕ) (files : List (List ℕ)) → all_differ (all_names false suffix (file ∷ files)) ≡ true → BackupFits suffix (file ∷ files)
names_fit suffix file files differ = record {
  some = suffix_some false suffix file files (apart_of false suffix file files differ);
  differ = differ_so false suffix (file ∷ files) differ;
}

pub verify_names_fit : (suffix file : List ℕ) (files : List (List ℕ)) → all_differ (all_names true suffix (file ∷ files)) ≡ true → VerifyFits suffix (file ∷ files)
verify_names_fit suffix file files differ =
    let a = apart_of true suffix file files differ in
    record {
      some = suffix_some true suffix file files a;
      other = λ is.
          (let other : same_key (temporary_name file) (copy_name suffix file) ≡ false = (or_parts (same_key (temporary_name file) (copy_name suffix file)) _ a.copy).0 in
          false≢true (sym other ∙ subst (λ s. same_key (temporary_name file) (file ++ s) ≡ true) (sym is) (same_key-refl (temporary_name file))));
      differ = differ_so true suffix (file ∷ files) differ;
    }

-- the names that were seen, with one more
either : (a b : Bool) → cond a true b ≡ (a || b)
either true b = refl
either false b = refl

pub has_more : (old new : BTreeSet (List ℕ)) (before : List (List ℕ)) (name : List ℕ) → ((q : List ℕ) → contains (slice_cmp nat_cmp) new q ≡ cond (is_at (slice_cmp nat_cmp name) q) true (contains (slice_cmp nat_cmp) old q)) → HasNames old before
    → HasNames new (name ∷ before)
has_more old new before name updates has q =
    let here : is_at (slice_cmp nat_cmp name) q ≡ same_key name q = is_eq-slice_cmp name q in
    updates q ∙ ap (λ b. cond b true (contains (slice_cmp nat_cmp) old q)) here ∙ ap (λ b. cond (same_key name q) true b) (has q) ∙ either (same_key name q) (is_one_of q before)

-- no name was seen
pub has_none : (seen : BTreeSet (List ℕ)) → seen.keys ≡ [] → HasNames seen []
has_none seen none q = ap (λ keys. list_any (is_at (slice_cmp nat_cmp q)) keys) none
