-- An image has at most one first fault, and none where no stage has one.
use Rattle.std.proofs.Common.{◌≡◌, ◌≢◌, ℕ, ◌<◌, ◌≤◌, ◌⊎◌, List, [], ◌∷◌, ◌++◌, Option, Some, None, append_assoc, append-nil, refl, sym, ◌∙◌, ap, subst, inl, inr, arith}
use Rattle.std.proofs.lemmas.Bool.{false≢true, cases_lt}
use Rattle.tdb_words.specs.Word.{word}
use Rattle.tdb_words.specs.declared.what.What.TheVariants.{Overlap, Stray}
use Rattle.tdb_space.specs.Form.{Form, form_of, chain_head, free_head}
use Rattle.tdb_space.specs.FirstFault.{Fault, ListKind, chain_number, free_list, record_fault, front_fault, area_fault, Passed, Sound, FirstInList, ChainsSound, NoOverlap, FirstOverlap, FirstStray, HasNoFault, IsFirstFault, at_front, at_area, in_chain, in_free_list, at_overlap, at_stray}

some_none : (e : Fault) (o : Option Fault) → o ≡ Some e → o ≡ None → ⊥
some_none e o s n = cc

same_some : (a b : Fault) (o : Option Fault) → o ≡ Some a → o ≡ Some b → a ≡ b
same_some a b o s t = cc

-- after these records a list goes no further: the next word is 0, or what it leads to has a fault
abbrev Ended : Form → ListKind → List ℕ → List ℕ → ℕ → Type 0
Ended f kind img xs last = (word f.order img last ≡ 0) ⊎ ((e : Fault) × (record_fault f kind img xs last (word f.order img last) ≡ Some e))

stuck : (f : Form) (kind : ListKind) (img earlier : List ℕ) (place last y : ℕ) → last ≡ place → Ended f kind img (earlier ++ []) last → word f.order img place ≡ y → y ≢ 0 → record_fault f kind img earlier place y ≡ None → ⊥
stuck f kind img earlier place last y e (inl zero_there) w some none = some (sym w ∙ ap (word f.order img) (sym e) ∙ zero_there)
stuck f kind img earlier place last y e (inr fault) w some none =
    some_none fault.0 (record_fault f kind img earlier place y)
    ((λ j. record_fault f kind img (sym (append-nil earlier) j) (sym e j) (sym (ap (word f.order img) e ∙ w) j)) ∙ fault.1)
    none

-- from one place on a list ends in one way
meet : (f : Form) (kind : ListKind) (img earlier : List ℕ) (place : ℕ) (xs ys : List ℕ) (a b : ℕ) → Passed f kind img earlier place xs a → Passed f kind img earlier place ys b → Ended f kind img (earlier ++ xs) a → Ended f kind img (earlier ++ ys) b → (xs ≡ ys) × (a ≡ b)
meet f kind img earlier place [] [] a b p q s t = (refl, p ∙ sym q)
meet f kind img earlier place [] (y ∷ ys) a b p q s t = absurd (stuck f kind img earlier place a y p s q.0 q.1 q.2)
meet f kind img earlier place (x ∷ xs) [] a b p q s t = absurd (stuck f kind img earlier place b x q t p.0 p.1 p.2)
meet f kind img earlier place (x ∷ xs) (y ∷ ys) a b p q s t =
    let same : y ≡ x = sym q.0 ∙ p.0 in
    let more : Passed f kind img (earlier ++ x ∷ []) x ys b = subst (λ z. Passed f kind img (earlier ++ z ∷ []) z ys b) same q.3 in
    let t2 : Ended f kind img (earlier ++ x ∷ ys) b = subst (λ z. Ended f kind img (earlier ++ z ∷ ys) b) same t in
    let rest = meet f kind img (earlier ++ x ∷ []) x xs ys a b p.3 more
    (subst (λ zs. Ended f kind img zs a) (sym (append_assoc earlier (x ∷ []) xs)) s)
    (subst (λ zs. Ended f kind img zs b) (sym (append_assoc earlier (x ∷ []) ys)) t2) in
    ((λ j. sym same j ∷ rest.0 j), rest.1)

-- a list has at most one first fault, and a sound one has none
list_once : (f : Form) (kind : ListKind) (img : List ℕ) (head : ℕ) (a b : Fault) → FirstInList f kind img head a → FirstInList f kind img head b → a ≡ b
list_once f kind img head a b (xs, p, passed, some, fault) (ys, q, passed2, some2, fault2) =
    let m = meet f kind img [] head xs ys p q passed passed2 (inr (a, fault)) (inr (b, fault2)) in
    same_some a b (record_fault f kind img xs p (word f.order img p)) fault
    ((λ j. record_fault f kind img (m.0 j) (m.1 j) (word f.order img (m.1 j))) ∙ fault2)

list_sound : (f : Form) (kind : ListKind) (img : List ℕ) (head : ℕ) (a : Fault) → FirstInList f kind img head a → Sound f kind img head → ⊥
list_sound f kind img head a (xs, p, passed, some, fault) (ys, q, passed2, ends) =
    let m = meet f kind img [] head xs ys p q passed passed2 (inr (a, fault)) (inl ends) in
    some (ap (word f.order img) m.1 ∙ ends)

-- a fault of one stage, or the stage is sound and the fault is one of a later stage: where each is the only one, both
-- are
pick : (A B : Fault → Type 0) (S : Type 0) (a b : Fault) → (A a → A b → a ≡ b) → ((e : Fault) → A e → S → ⊥) → (B a → B b → a ≡ b) → A a ⊎ (S × B a) → A b ⊎ (S × B b) → a ≡ b
pick A B S a b here never later (inl p) (inl q) = here p q
pick A B S a b here never later (inl p) (inr q) = absurd (never a p q.0)
pick A B S a b here never later (inr p) (inl q) = absurd (never b q p.0)
pick A B S a b here never later (inr p) (inr q) = later p.1 q.1

-- the faults of the stages, from the last one to the first
abbrev StrayHere : List ℕ → Fault → Type 0
StrayHere img e = (at : ℕ) × (e ≡ (Stray, at)) × FirstStray img at

abbrev OverlapHere : List ℕ → Fault → Type 0
OverlapHere img e = (at : ℕ) × (e ≡ (Overlap, at)) × FirstOverlap img at

abbrev FromExtents : List ℕ → Fault → Type 0
FromExtents img e = OverlapHere img e ⊎ (NoOverlap img × StrayHere img e)

abbrev FreeHere : List ℕ → Fault → Type 0
FreeHere img e = FirstInList (form_of img) free_list img free_head e

abbrev FromFree : List ℕ → Fault → Type 0
FromFree img e = FreeHere img e ⊎ (Sound (form_of img) free_list img free_head × FromExtents img e)

abbrev ChainHere : List ℕ → Fault → Type 0
ChainHere img e = (j : ℕ) × (j < (form_of img).chains) × ChainsSound img j × FirstInList (form_of img) (chain_number j) img (chain_head j) e

abbrev FromChains : List ℕ → Fault → Type 0
FromChains img e = ChainHere img e ⊎ (ChainsSound img (form_of img).chains × FromFree img e)

abbrev AreaHere : List ℕ → Fault → Type 0
AreaHere img e = area_fault (form_of img) img ≡ Some e

abbrev FromArea : List ℕ → Fault → Type 0
FromArea img e = AreaHere img e ⊎ ((area_fault (form_of img) img ≡ None) × FromChains img e)

abbrev FrontHere : List ℕ → Fault → Type 0
FrontHere img e = front_fault img ≡ Some e

abbrev FromFront : List ℕ → Fault → Type 0
FromFront img e = FrontHere img e ⊎ ((front_fault img ≡ None) × FromArea img e)

-- a first fault is one of its stage, behind sound ones
staged : (img : List ℕ) (e : Fault) → IsFirstFault img e → FromFront img e
staged img _ (at_front e h) = inl h
staged img _ (at_area e front h) = inr (front, inl h)
staged img _ (in_chain e j heads low before h) = inr (heads.0, inr (heads.1, inl (j, low, before, h)))
staged img _ (in_free_list e heads chains h) = inr (heads.0, inr (heads.1, inr (chains, inl h)))
staged img _ (at_overlap at lists h) = inr (lists.heads.0, inr (lists.heads.1, inr (lists.chains, inr (lists.frees, inl (at, refl, h)))))
staged img _ (at_stray at lists apart h) = inr (lists.heads.0, inr (lists.heads.1, inr (lists.chains, inr (lists.frees, inr (apart, (at, refl, h))))))

-- two least places with one property are the same
stray_once : (img : List ℕ) (a b : Fault) → StrayHere img a → StrayHere img b → a ≡ b
stray_once img a b (i, e, p) (j, d, q) = elim (cases_lt i j) [
  | inl low ↦ absurd (false≢true (sym (q.1 i low) ∙ p.0))
  | inr high ↦ elim (cases_lt j i) [
    | inl low ↦ absurd (false≢true (sym (p.1 j low) ∙ q.0))
    | inr level ↦ e ∙ (λ k. (Stray, same_place i j high level k)) ∙ sym d
  ]
]
  where
    same_place : (i j : ℕ) → j ≤ i → i ≤ j → i ≡ j
    same_place i j p q = omega arith

overlap_once : (img : List ℕ) (a b : Fault) → OverlapHere img a → OverlapHere img b → a ≡ b
overlap_once img a b (i, e, p) (j, d, q) = elim (cases_lt i j) [
  | inl low ↦ absurd (omega (arith, q.1 i low, p.0))
  | inr high ↦ elim (cases_lt j i) [
    | inl low ↦ absurd (omega (arith, p.1 j low, q.0))
    | inr level ↦ e ∙ (λ k. (Overlap, same_place i j high level k)) ∙ sym d
  ]
]
  where
    same_place : (i j : ℕ) → j ≤ i → i ≤ j → i ≡ j
    same_place i j p q = omega arith

chain_once : (img : List ℕ) (a b : Fault) → ChainHere img a → ChainHere img b → a ≡ b
chain_once img a b (i, li, si, p) (j, lj, sj, q) = elim (cases_lt i j) [
  | inl low ↦ absurd (list_sound (form_of img) (chain_number i) img (chain_head i) a p (sj i low))
  | inr high ↦ elim (cases_lt j i) [
    | inl low ↦ absurd (list_sound (form_of img) (chain_number j) img (chain_head j) b q (si j low))
    | inr level ↦ list_once (form_of img) (chain_number i) img (chain_head i) a b p (subst (λ k. FirstInList (form_of img) (chain_number k) img (chain_head k) b) (same_place i j high level) q)
  ]
]
  where
    same_place : (i j : ℕ) → j ≤ i → i ≤ j → j ≡ i
    same_place i j p q = omega arith

-- an image has at most one first fault
pub one_first : (img : List ℕ) (a b : Fault) → IsFirstFault img a → IsFirstFault img b → a ≡ b
one_first img a b p q =
    pick (FrontHere img) (FromArea img) (front_fault img ≡ None) a b (same_some a b (front_fault img)) (λ e. some_none e (front_fault img))
    (pick (AreaHere img) (FromChains img) (area_fault (form_of img) img ≡ None) a b (same_some a b (area_fault (form_of img) img)) (λ e. some_none e (area_fault (form_of img) img))
    (pick (ChainHere img) (FromFree img) (ChainsSound img (form_of img).chains) a b (chain_once img a b) (λ e h s. list_sound (form_of img) (chain_number h.0) img (chain_head h.0) e h.3 (s h.0 h.1))
    (pick (FreeHere img) (FromExtents img) (Sound (form_of img) free_list img free_head) a b (list_once (form_of img) free_list img free_head a b) (list_sound (form_of img) free_list img free_head)
    (pick (OverlapHere img) (StrayHere img) (NoOverlap img) a b (overlap_once img a b) (λ e h s. absurd (omega (arith, h.2.0, s h.0)))
    (stray_once img a b)))))
    (staged img a p) (staged img b q)

-- an image without a fault has no first one
pub none_first : (img : List ℕ) (e : Fault) → IsFirstFault img e → HasNoFault img → ⊥
none_first img _ (at_front e h) s = some_none e (front_fault img) h s.lists.heads.0
none_first img _ (at_area e front h) s = some_none e (area_fault (form_of img) img) h s.lists.heads.1
none_first img _ (in_chain e j heads low before h) s = list_sound (form_of img) (chain_number j) img (chain_head j) e h (s.lists.chains j low)
none_first img _ (in_free_list e heads chains h) s = list_sound (form_of img) free_list img free_head e h s.lists.frees
none_first img _ (at_overlap at lists h) s = absurd (omega (arith, h.0, s.apart at))
none_first img _ (at_stray at lists apart h) s = false≢true (sym (s.clean at) ∙ h.0)
