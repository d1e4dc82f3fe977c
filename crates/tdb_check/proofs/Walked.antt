-- Records that were walked along without regard to their keys.
use Rattle.std.proofs.Common.{◌≡◌, ◌≢◌, ℕ, ◌<◌, ◌≤◌, ◌&&◌, Bool, true, false, List, [], ◌∷◌, ◌++◌, length, map, eqb, Option, Some, None, append_assoc, append-nil, refl, sym, ◌∙◌, ap, subst, inl, inr, arith}
use Rattle.std.specs.Prelude.{◌==◌, if◌then◌else◌}
use Rattle.std.specs.Cmp.{IsEquivalence}
use Rattle.std.specs.List.{IsDistinct, AllByRecursion, list_any}
use Rattle.std.proofs.lemmas.Bool.{cases_eq, eq-eqb, ne_eqb, false≢true}
use Rattle.std.proofs.lemmas.Cmp.{nat_eq_equiv, nat_list_eq_equiv}
use Rattle.std.proofs.lemmas.List.{map-append}
use Rattle.std.proofs.lemmas.Map.Keys.{IsDistinct-push, IsDistinct-cons}
use Rattle.std.proofs.lemmas.Map.Steps.{length-le_from_distinct_below}
use Rattle.tdb_words.specs.declared.record.TheConstants.{USED}
use Rattle.tdb_words.specs.declared.word.Order.{Order}
use Rattle.tdb_words.specs.declared.what.What.TheVariants.{TwiceKey}
use Rattle.tdb_words.specs.Word.{word}
use Rattle.tdb_space.specs.Form.{Form}
use Rattle.tdb_space.specs.Record.{magic_of, key_at}
use Rattle.tdb_space.specs.Chain.{Member}
use Rattle.tdb_space.specs.Pairs.{pairs, same_key}
use Rattle.tdb_space.specs.Accepted.{KeysDiffer}
use Rattle.tdb_space.specs.FirstFault.{Fault, ListKind, Passed, FirstInList, is_out, is_bad, has_wrong_tailer, is_misfiled, record_fault, has_twin}
use Rattle.tdb_space.proofs.Chain.Walks.{member_cases}
use Rattle.tdb_space.proofs.Pairs.Listed.{pairs-append}
use Rattle.tdb_space.proofs.Pairs.Maps.{pairs_used, pairs_other}
use Rattle.tdb_space.proofs.FirstFault.Cleared.{none_parts, stands_from}
use Rattle.tdb_check.specs.Seen.{own_fault}
use Rattle.tdb_check.specs.Walked.{fault_but_twin, Walked}
use Rattle.tdb_check.proofs.Following.{fault_none}

-- what holds of a record without such a fault
pub record Tested (f : Form) (kind : ListKind) (img earlier : List ℕ) (at : ℕ) : Type 0 where
  pub stands : is_out f img at ≡ false
  pub new : list_any (eqb at) earlier ≡ false
  pub own : own_fault f kind img at ≡ None

module _ (f : Form) (kind : ListKind) (img earlier : List ℕ) (place at : ℕ) where
  pub tested_from : fault_but_twin f kind img earlier place at ≡ None → Tested f kind img earlier at
  tested_from h =
      let a = none_parts (is_out f img at) _ _ h in
      let b = none_parts (list_any (eqb at) earlier) _ _ a.1 in
      record { stands = a.0; new = b.0; own = b.1 }

  pub tested_none : is_out f img at ≡ false → list_any (eqb at) earlier ≡ false → own_fault f kind img at ≡ None → fault_but_twin f kind img earlier place at ≡ None
  tested_none out new own = rw out (rw new own)

  -- without a twin it has no fault
  pub none_alone : fault_but_twin f kind img earlier place at ≡ None → has_twin f img earlier at ≡ false → record_fault f kind img earlier place at ≡ None
  none_alone h alone = let t = tested_from h in fault_none f kind img earlier place at t.stands t.new t.own alone

  -- with one it has that
  pub none_twin : fault_but_twin f kind img earlier place at ≡ None → has_twin f img earlier at ≡ true → record_fault f kind img earlier place at ≡ Some (TwiceKey, at)
  none_twin h twin =
      let t = tested_from h in
      let a = none_parts (is_bad f kind img at) _ _ t.own in
      let b = none_parts (has_wrong_tailer f img at) _ _ a.1 in
      let c = none_parts (is_misfiled f kind img at) _ _ b.1 in
      rw t.stands (rw t.new (rw a.0 (rw b.0 (rw c.0 (rw twin refl)))))

  -- any other fault is its first
  pub fault_same : (e : Fault) → fault_but_twin f kind img earlier place at ≡ Some e → record_fault f kind img earlier place at ≡ Some e
  fault_same e h = by_tests (is_out f img at) (list_any (eqb at) earlier) (is_bad f kind img at) (has_wrong_tailer f img at) (is_misfiled f kind img at) _ _ _ _ _ _ h
    where
      by_tests : (a b c d m : Bool) (v w x y z : Fault) (rest : Option Fault) → (if a then Some v else if b then Some w else if c then Some x else if d then Some y else if m then Some z else None) ≡ Some e → (if a then Some v else if b then Some w else if c then Some x else if d then Some y else if m then Some z else rest) ≡ Some e
      by_tests true b c d m v w x y z rest h = h
      by_tests false true c d m v w x y z rest h = h
      by_tests false false true d m v w x y z rest h = h
      by_tests false false false true m v w x y z rest h = h
      by_tests false false false false true v w x y z rest h = h
      by_tests false false false false false v w x y z rest h = cc

-- one more record
pub walked_more : (f : Form) (kind : ListKind) (img earlier : List ℕ) (head : ℕ) (xs : List ℕ) (place x : ℕ) → Walked f kind img earlier head xs place → word f.order img place ≡ x → x ≢ 0 → fault_but_twin f kind img (earlier ++ xs) place x ≡ None → Walked f kind img earlier head (xs ++ x ∷ []) x
walked_more f kind img earlier head [] place x p w some none =
    (subst (λ q. word f.order img q ≡ x) p w, some, (λ j. fault_but_twin f kind img (sym (append-nil earlier) j) (sym p j) x) ∙ none, refl)
walked_more f kind img earlier head (y ∷ ys) place x p w some none =
    (p.0, p.1, p.2, walked_more f kind img (earlier ++ y ∷ []) y ys place x p.3 w some (subst (λ zs. fault_but_twin f kind img zs place x ≡ None) (sym (append_assoc earlier (y ∷ []) ys)) none))

-- no offset comes twice among them, each lies in the image and none is 0
pub walked_distinct : (f : Form) (kind : ListKind) (img earlier : List ℕ) (head : ℕ) (xs : List ℕ) (last : ℕ) → Walked f kind img earlier head xs last → IsDistinct eqb earlier → IsDistinct eqb (earlier ++ xs)
walked_distinct f kind img earlier head [] last p d = subst (IsDistinct eqb) (sym (append-nil earlier)) d
walked_distinct f kind img earlier head (x ∷ xs) last p d =
    let t = tested_from f kind img earlier head x p.2 in
    subst (IsDistinct eqb) (append_assoc earlier (x ∷ []) xs) (walked_distinct f kind img (earlier ++ x ∷ []) x xs last p.3 (IsDistinct-push nat_eq_equiv earlier x d t.new))

walked_below : (f : Form) (kind : ListKind) (img earlier : List ℕ) (head : ℕ) (xs : List ℕ) (last z : ℕ) → Walked f kind img earlier head xs last → Member z xs → z < length img
walked_below f kind img earlier head [] last z p m = absurd (false≢true m)
walked_below f kind img earlier head (x ∷ xs) last z p m =
    elim (member_cases z x xs m) [
      | inl e ↦ let s = stands_from f img x (tested_from f kind img earlier head x p.2).stands in omega (arith, e, s.2)
      | inr there ↦ walked_below f kind img (earlier ++ x ∷ []) x xs last z p.3 there
    ]

pub walked_some : (f : Form) (kind : ListKind) (img earlier : List ℕ) (head : ℕ) (xs : List ℕ) (last : ℕ) → Walked f kind img earlier head xs last → AllByRecursion (λ y. eqb 0 y ≡ false) xs
walked_some f kind img earlier head [] last p = tt
walked_some f kind img earlier head (x ∷ xs) last p = (ne_eqb 0 x (λ e. p.1 (sym e)), walked_some f kind img (earlier ++ x ∷ []) x xs last p.3)

pub distinct_none : IsDistinct eqb []
unfolding IsDistinct
distinct_none = tt

-- so there are fewer of them than bytes
pub walked_short : (f : Form) (kind : ListKind) (img : List ℕ) (head : ℕ) (xs : List ℕ) (last : ℕ) → 0 < length img → Walked f kind img [] head xs last → length xs < length img
walked_short f kind img head xs last some p =
    let below : (z : ℕ) → Member z (0 ∷ xs) → z < length img = λ z m.
    elim (member_cases z 0 xs m) [ inl e ↦ omega (arith, e, some) | inr there ↦ walked_below f kind img [] head xs last z p there ] in
    let short : length (0 ∷ xs) ≤ length img = length-le_from_distinct_below (0 ∷ xs) (length img) (IsDistinct-cons eqb 0 xs (walked_some f kind img [] head xs last p) (walked_distinct f kind img [] head xs last p distinct_none)) below in
    omega (arith, short)

-- the keys of the used records at these offsets
abbrev pub keys_at : Order → List ℕ → List ℕ → List (List ℕ)
keys_at o img offs = map (λ p. p.0) (pairs o img offs)

keys-append : (o : Order) (img xs ys : List ℕ) → keys_at o img (xs ++ ys) ≡ keys_at o img xs ++ keys_at o img ys
keys-append o img xs ys = ap (map (λ (p : List ℕ × List ℕ). p.0)) (pairs-append o img xs ys) ∙ map-append (λ (p : List ℕ × List ℕ). p.0) (pairs o img xs) (pairs o img ys)

pub keys_used : (o : Order) (img : List ℕ) (x : ℕ) (xs : List ℕ) → magic_of o img x ≡ USED → keys_at o img (x ∷ xs) ≡ key_at o img x ∷ keys_at o img xs
keys_used o img x xs used = ap (map (λ (p : List ℕ × List ℕ). p.0)) (pairs_used o img x xs used)

pub keys_other : (o : Order) (img : List ℕ) (x : ℕ) (xs : List ℕ) → magic_of o img x ≢ USED → keys_at o img (x ∷ xs) ≡ keys_at o img xs
keys_other o img x xs other = ap (map (λ (p : List ℕ × List ℕ). p.0)) (pairs_other o img x xs other)

and_there : (a b : Bool) → a ≡ true → (a && b) ≡ false → b ≡ false
and_there true b e h = h
and_there false b e h = absurd (false≢true e)

-- a record without a twin before it brings no key again
pub differ_more : (f : Form) (img earlier : List ℕ) (x : ℕ) → has_twin f img earlier x ≡ false → KeysDiffer f img earlier → KeysDiffer f img (earlier ++ x ∷ [])
differ_more f img earlier x h differ =
    elim (cases_eq (magic_of f.order img x) USED) [
      | inl used ↦ subst (IsDistinct same_key) (sym (keys-append f.order img earlier (x ∷ []) ∙ ap (λ ks. keys_at f.order img earlier ++ ks) (keys_used f.order img x [] used)))
          (IsDistinct-push nat_list_eq_equiv (keys_at f.order img earlier) (key_at f.order img x) differ (and_there (magic_of f.order img x == USED) (list_any (same_key (key_at f.order img x)) (keys_at f.order img earlier)) (eq-eqb (magic_of f.order img x) USED used) h))
      | inr other ↦ subst (IsDistinct same_key) (sym (keys-append f.order img earlier (x ∷ []) ∙ ap (λ ks. keys_at f.order img earlier ++ ks) (keys_other f.order img x [] other) ∙ append-nil (keys_at f.order img earlier))) differ
    ]

each_front : {K : Type 0} {eq : K → K → Bool} → IsEquivalence eq → (x : K) (xs : List K) (b : K) (bs : List K) → AllByRecursion (λ y. eq x y ≡ false) (xs ++ b ∷ bs) → eq b x ≡ false
each_front laws x [] b bs h = laws.symm b x ∙ h.0
each_front laws x (y ∷ ys) b bs h = each_front laws x ys b bs h.1

distinct_front : {K : Type 0} {eq : K → K → Bool} → IsEquivalence eq → (xs : List K) (b : K) (bs : List K) → IsDistinct eq (xs ++ b ∷ bs) → list_any (eq b) xs ≡ false
unfolding IsDistinct
distinct_front laws [] b bs h = refl
distinct_front laws (x ∷ xs) b bs h = rw (each_front laws x xs b bs h.0) (distinct_front laws xs b bs h.1)

-- where no key comes twice, a record has no twin before it
pub alone_where : (f : Form) (img earlier : List ℕ) (x : ℕ) (xs : List ℕ) → KeysDiffer f img (earlier ++ x ∷ xs) → has_twin f img earlier x ≡ false
alone_where f img earlier x xs differ =
    elim (cases_eq (magic_of f.order img x) USED) [
      | inl used ↦ rw (eq-eqb (magic_of f.order img x) USED used)
          (distinct_front nat_list_eq_equiv (keys_at f.order img earlier) (key_at f.order img x) (keys_at f.order img xs)
          (subst (IsDistinct same_key) (keys-append f.order img earlier (x ∷ xs) ∙ ap (λ ks. keys_at f.order img earlier ++ ks) (keys_used f.order img x xs used)) differ))
      | inr other ↦ rw (ne_eqb (magic_of f.order img x) USED other) refl
    ]

-- records that were walked along, with no key twice, are passed
pub walked_passed : (f : Form) (kind : ListKind) (img earlier : List ℕ) (head : ℕ) (xs : List ℕ) (last : ℕ) → Walked f kind img earlier head xs last → KeysDiffer f img (earlier ++ xs) → Passed f kind img earlier head xs last
walked_passed f kind img earlier head [] last p differ = p
walked_passed f kind img earlier head (x ∷ xs) last p differ = (
  p.0,
  p.1,
  none_alone f kind img earlier head x p.2 (alone_where f img earlier x xs differ),
  walked_passed f kind img (earlier ++ x ∷ []) x xs last p.3 (subst (KeysDiffer f img) (sym (append_assoc earlier (x ∷ []) xs)) differ),
)

-- the part of them up to a record, and what leads to it
pub record WalkedTo (f : Form) (kind : ListKind) (img earlier : List ℕ) (head : ℕ) (ys : List ℕ) (z : ℕ) : Type 0 where
  pub place : ℕ
  pub walked : Walked f kind img earlier head ys place
  pub next : word f.order img place ≡ z
  pub some : z ≢ 0
  pub none : fault_but_twin f kind img (earlier ++ ys) place z ≡ None

pub walked_to : (f : Form) (kind : ListKind) (img earlier : List ℕ) (head : ℕ) (ys : List ℕ) (z : ℕ) (zs : List ℕ) (last : ℕ) → Walked f kind img earlier head (ys ++ z ∷ zs) last → WalkedTo f kind img earlier head ys z
walked_to f kind img earlier head [] z zs last p = record { place = head; walked = refl; next = p.0; some = p.1; none = subst (λ e. fault_but_twin f kind img e head z ≡ None) (sym (append-nil earlier)) p.2 }
walked_to f kind img earlier head (y ∷ ys) z zs last p =
    let t = walked_to f kind img (earlier ++ y ∷ []) y ys z zs last p.3 in
    record {
      place = t.place;
      walked = (p.0, p.1, p.2, t.walked);
      next = t.next;
      some = t.some;
      none = subst (λ e. fault_but_twin f kind img e t.place z ≡ None) (append_assoc earlier (y ∷ []) ys) t.none;
    }

-- the first of them whose key an earlier one has is the list's first fault
pub twin_first : (f : Form) (kind : ListKind) (img : List ℕ) (head : ℕ) (ys : List ℕ) (z : ℕ) (zs : List ℕ) (last : ℕ) → Walked f kind img [] head (ys ++ z ∷ zs) last → KeysDiffer f img ys → has_twin f img ys z ≡ true → FirstInList f kind img head (TwiceKey, z)
twin_first f kind img head ys z zs last p differ twin =
    let t = walked_to f kind img [] head ys z zs last p in (
      ys,
      t.place,
      walked_passed f kind img [] head ys t.place t.walked differ,
      (λ e. t.some (sym t.next ∙ e)),
      subst (λ x. record_fault f kind img ys t.place x ≡ Some (TwiceKey, z)) (sym t.next) (none_twin f kind img ys t.place z t.none twin),
    )
