-- The files of a group, one after the other.
use Rattle.std.proofs.Common.{◌≡◌, ◌≢◌, ℕ, zero, suc, ◌≤◌, Bool, true, false, List, [], ◌∷◌, get_or, length, set, Some, refl, sym, ◌∙◌, ap, subst, inl, inr, arith}
use Rattle.std.specs.Prelude.{nat_lt, slice_get}
use Rattle.std.proofs.lemmas.Bool.{cases_Bool, cases_eq, lt-ltb, ltb-false, ltb-true}
use Rattle.std.proofs.lemmas.Option.{slice_get-get_or, slice_get_within}
use Rattle.tdb_disk.specs.Stop.{Leaves, LeavesOnly}
use Rattle.tdb_disk.proofs.Runs.{leaves_now, left_since_now}
use Rattle.tdb_law.specs.Openers.{Map}
use Rattle.tdb_world.specs.Calm.{OpensToEither, OpensToMap}
use Rattle.tdb_world.specs.OverFile.{OverFile}
use Rattle.tdb_group.specs.Each.{StayEach}
use Rattle.tdb_group.specs.Group.{EachFile, EachPair, FileStands, Standing}
use Rattle.tdb_group.specs.Members.{IsSettled, IsUnderway, Maps, form_of_file}
use Rattle.tdb_group.specs.Stops.{After, AfterSome, AreLeftSince, OpenAfter, map_if}
use Rattle.tdb_group.proofs.Files.{member_opens, underway_safe}

-- what a list has where one place was written
pub some_same : {X : Type 0} (x y : X) → Some x ≡ Some y → x ≡ y
some_same x y e = cc e

pub get_set_here : {X : Type 0} (xs : List X) (n : ℕ) (x y : X) → slice_get xs n ≡ Some x → slice_get (set xs n y) n ≡ Some y
get_set_here [] n x y e = absurd (cc e)
get_set_here (z ∷ xs) zero x y e = refl
get_set_here (z ∷ xs) (suc n) x y e = get_set_here xs n x y e

pub get_set_else : {X : Type 0} (xs : List X) (n m : ℕ) (y : X) → m ≢ n → slice_get (set xs n y) m ≡ slice_get xs m
get_set_else [] n m y ne = refl
get_set_else (z ∷ xs) zero zero y ne = absurd (ne refl)
get_set_else (z ∷ xs) zero (suc m) y ne = refl
get_set_else (z ∷ xs) (suc n) zero y ne = refl
get_set_else (z ∷ xs) (suc n) (suc m) y ne = get_set_else xs n m y (λ e. ne (ap suc e))

-- Lists of the same length have files at the same places.
pub now_there : (olds news : List OverFile) → length news ≡ length olds → (n : ℕ) (old : OverFile) → slice_get olds n ≡ Some old → (now : OverFile) × (slice_get news n ≡ Some now)
now_there olds news count n old is =
    let low = slice_get_within olds n old is in (get_or news n old, slice_get-get_or news n old (omega (arith, low, count)))

pub each_now : (olds news : List OverFile) (Q : ℕ → OverFile → Type 0) → length news ≡ length olds → EachPair olds news (λ n old now. Q n now) → EachFile news Q
each_now olds news Q count pairs n now is = let O = now_there news olds (sym count) n now is in pairs n O.0 now O.1 is

-- Where one file became another, so it is of each file that holds of the others and of that one.
pub each_set : (files : List OverFile) (n : ℕ) (old new : OverFile) (P Q : ℕ → OverFile → Type 0) → slice_get files n ≡ Some old → EachFile files P
    → ((m : ℕ) (w : OverFile) → m ≢ n → P m w → Q m w) → Q n new → EachFile (set files n new) Q
each_set files n old new P Q at each others here m w is = elim (cases_eq m n) [
  | inl same ↦
      let found : new ≡ w = some_same new w (sym (get_set_here files n old new at) ∙ ap (slice_get (set files n new)) (sym same) ∙ is) in
      subst (λ k. Q k w) (sym same) (subst (Q n) found here)
  | inr ne ↦ others m w ne (each m w (sym (get_set_else files n m new ne) ∙ is))
]

-- A file in its transaction opens to its map before, and one whose transaction is over to its map.
pub underway_opens : (prepared : Bool) (p : Maps) (w : OverFile) → IsUnderway prepared p w → (c : List ℕ) → Leaves w.history c → OpensToMap (form_of_file w) p.before c
underway_opens prepared p w U = leaves_now w.history w.history (OpensToMap (form_of_file w) p.before) (member_opens p.before _ w U.at (underway_safe prepared p w U))

pub settled_opens : (m : Map) (w : OverFile) → IsSettled m w → (c : List ℕ) → Leaves w.history c → OpensToMap (form_of_file w) m c
settled_opens m w S = leaves_now w.history w.history (OpensToMap (form_of_file w) m) (member_opens m _ w S.at S.safe)

pub stands_opens : (prepared finished : Bool) (p : Maps) (w : OverFile) → FileStands prepared finished p w → (c : List ℕ) → Leaves w.history c → OpensToMap (form_of_file w) (map_if finished p) c
stands_opens prepared true p w S c left = settled_opens p.after w S c left
stands_opens prepared false p w U c left = underway_opens prepared p w U c left

-- So a stop now is after as many files as are finished.
pub standing_after : (prepared : Bool) (k : ℕ) (ps : ℕ → Maps) (files : List OverFile) → Standing prepared k ps files → After k ps files
standing_after prepared k ps files standing images left n w is = stands_opens prepared (nat_lt n k) (ps n) w (standing n w is) (images n) (left n w is)

-- no number is below one that it isn't less than
pub not_below : (a b : ℕ) → b ≤ a → nat_lt a b ≡ false
not_below a b le = elim (cases_Bool (nat_lt a b)) [
  | inl low ↦ (let is = ltb-true a b low in absurd (omega (arith, le, is)))
  | inr high ↦ high
]

-- Where none is finished each is in its transaction.
pub underway_each : (prepared : Bool) (ps : ℕ → Maps) (files : List OverFile) → Standing prepared 0 ps files → EachFile files (λ n w. IsUnderway prepared (ps n) w)
underway_each prepared ps files standing n w is = subst (λ b. FileStands prepared b (ps n) w) (not_below n 0 (omega arith)) (standing n w is)

pub standing_each : (prepared : Bool) (ps : ℕ → Maps) (files : List OverFile) → EachFile files (λ n w. IsUnderway prepared (ps n) w) → Standing prepared 0 ps files
standing_each prepared ps files each n w is = subst (λ b. FileStands prepared b (ps n) w) (sym (not_below n 0 (omega arith))) (each n w is)

-- Each stop since then left of each file what opens to its map before: it is after none.
pub stays_after : (ps : ℕ → Maps) (olds news : List OverFile) → length news ≡ length olds → StayEach ps olds news → AfterSome 0 0 ps olds news
stays_after ps olds news count stays images left = (
  0,
  omega arith,
  omega arith,
  λ n old is.
      (let N = now_there olds news count n old is in
      subst (λ b. OpensToMap (form_of_file old) (map_if b (ps n)) (images n)) (sym (not_below n 0 (omega arith))) ((stays n old N.0 is N.1).each (images n) (left n old N.0 is N.1))),
)

-- a number but k is below the one after k only where it is below k
below_else : (k n : ℕ) → n ≢ k → nat_lt n (suc k) ≡ nat_lt n k
below_else k n ne = elim (cases_Bool (nat_lt n k)) [
  | inl low ↦ (let is = ltb-true n k low in lt-ltb n (suc k) (omega (arith, is)) ∙ sym low)
  | inr high ↦ (let is = ltb-false n k high in not_below n (suc k) (omega (arith, is, ne)) ∙ sym high)
]

-- The file that was finished is settled, and the others stand as before.
pub finished_standing : (k : ℕ) (ps : ℕ → Maps) (files : List OverFile) (old now : OverFile) → slice_get files k ≡ Some old → Standing true k ps files → IsSettled (ps k).after now
    → Standing true (suc k) ps (set files k now)
finished_standing k ps files old now at standing settled =
    each_set files k old now (λ n w. FileStands true (nat_lt n k) (ps n) w) (λ n w. FileStands true (nat_lt n (suc k)) (ps n) w) at standing
    (λ n w ne stands. subst (λ b. FileStands true b (ps n) w) (sym (below_else k n ne)) stands)
    (subst (λ b. FileStands true b (ps k) now) (sym (lt-ltb k (suc k) (omega arith))) settled)

-- The file that is finished next opens to the one map or the other, those before it to their maps after, and the
-- others to their maps before: a stop is after as many files as were finished, or one more.
module _ (k : ℕ) (ps : ℕ → Maps) (files : List OverFile) (old now : OverFile) (at : slice_get files k ≡ Some old) (standing : Standing true k ps files)
    (either : LeavesOnly old.history now.history (OpensToEither (form_of_file old) (ps k).before (ps k).after)) (images : ℕ → List ℕ) (left : AreLeftSince files (set files k now) images) where
  other : (n : ℕ) (w : OverFile) → n ≢ k → slice_get files n ≡ Some w → OpensToMap (form_of_file w) (map_if (nat_lt n k) (ps n)) (images n)
  other n w ne is =
      let here : slice_get (set files k now) n ≡ Some w = get_set_else files k n now ne ∙ is in
      stands_opens true (nat_lt n k) (ps n) w (standing n w is) (images n) (left_since_now w.history (images n) (left n w w is here))

  it : (w : OverFile) → slice_get files k ≡ Some w → w ≡ old
  it w is = some_same w old (sym is ∙ at)

  -- so many are after their transactions, where the file is
  open_after : (j : ℕ) (done : Bool) → nat_lt k j ≡ done → ((n : ℕ) → n ≢ k → nat_lt n j ≡ nat_lt n k) → OpensToMap (form_of_file old) (map_if done (ps k)) (images k) → OpenAfter j ps files images
  open_after j done here else opens n w is = elim (cases_eq n k) [
    | inl same ↦
        subst (λ z. OpensToMap (form_of_file w) (map_if (nat_lt z j) (ps z)) (images z)) (sym same)
        (subst (λ b. OpensToMap (form_of_file w) (map_if b (ps k)) (images k)) (sym here)
        (subst (λ z. OpensToMap (form_of_file z) (map_if done (ps k)) (images k)) (sym (it w (ap (slice_get files) (sym same) ∙ is))) opens))
    | inr ne ↦ subst (λ b. OpensToMap (form_of_file w) (map_if b (ps n)) (images n)) (sym (else n ne)) (other n w ne is)
  ]

  one_or_more : OpensToEither (form_of_file old) (ps k).before (ps k).after (images k) → (j : ℕ) × (k ≤ j) × (j ≤ suc k) × OpenAfter j ps files images
  one_or_more (inl opens) = (k, omega arith, omega arith, open_after k false (not_below k k (omega arith)) (λ n ne. refl) opens)
  one_or_more (inr opens) = (suc k, omega arith, omega arith, open_after (suc k) true (lt-ltb k (suc k) (omega arith)) (λ n ne. below_else k n ne) opens)

  finish_after : (j : ℕ) × (k ≤ j) × (j ≤ suc k) × OpenAfter j ps files images
  finish_after = one_or_more (either.each (images k) (left k old now at (get_set_here files k old now at)))

pub finishing_after : (k : ℕ) (ps : ℕ → Maps) (files : List OverFile) (old now : OverFile) → slice_get files k ≡ Some old → Standing true k ps files
    → LeavesOnly old.history now.history (OpensToEither (form_of_file old) (ps k).before (ps k).after) → AfterSome k (suc k) ps files (set files k now)
finishing_after k ps files old now at standing either images left = finish_after k ps files old now at standing either images left
