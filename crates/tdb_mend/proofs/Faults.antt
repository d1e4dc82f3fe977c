-- An image can be mended, or has one fault that keeps it from that.
use Rattle.std.proofs.Common.{◌≡◌, ◌≢◌, ℕ, ◌⊎◌, List, [], ◌∷◌, ◌++◌, Option, Some, None, append_assoc, append-nil, refl, sym, ◌∙◌, ap, subst, inl, inr, arith}
use Rattle.tdb_words.specs.Word.{word}
use Rattle.tdb_words.specs.declared.what.What.TheVariants.{Overlap}
use Rattle.tdb_space.specs.Form.{Form, form_of, chain_head, free_head}
use Rattle.tdb_space.specs.FirstFault.{Fault, ListKind, record_fault, front_fault, area_fault, Passed, Sound, FirstInList, HeadsSound, ListsSound, FirstOverlap, IsFirstFault, at_front, at_area, in_chain, in_free_list, at_overlap, at_stray, chain_number, free_list}
use Rattle.tdb_space.proofs.FirstFault.Agreed.{accepted_no_fault}
use Rattle.tdb_space.proofs.FirstFault.Faults.{one_first}
use Rattle.tdb_space.proofs.FirstFault.Refused.{fault_or_accepted}
use Rattle.tdb_check.specs.Lists.{FirstInLists}
use Rattle.tdb_mend.specs.Mended.{mend_fault, read_as, IsSoundButStrays, CanBeMended, IsFirstButStrays, IsMendFault, in_area, in_read}
use Rattle.tdb_mend.specs.Laws.{MendsOrFault, OneMendFault}

some_none : (e : Fault) (o : Option Fault) → o ≡ Some e → o ≡ None → ⊥
some_none e o s n = cc

-- from one place on a list doesn't both end and meet a fault
never_both : (f : Form) (kind : ListKind) (img earlier : List ℕ) (place : ℕ) (xs ys : List ℕ) (a b : ℕ) (e : Fault) → Passed f kind img earlier place xs a → word f.order img a ≡ 0
    → Passed f kind img earlier place ys b → word f.order img b ≢ 0 → record_fault f kind img (earlier ++ ys) b (word f.order img b) ≡ Some e → ⊥
never_both f kind img earlier place [] [] a b e p ends q some fault = some (ap (word f.order img) (q ∙ sym p) ∙ ends)
never_both f kind img earlier place [] (y ∷ ys) a b e p ends q some fault = q.1 (sym q.0 ∙ ap (word f.order img) (sym p) ∙ ends)
never_both f kind img earlier place (x ∷ xs) [] a b e p ends q some fault =
    let same : word f.order img b ≡ x = ap (word f.order img) q ∙ p.0 in
    some_none e (record_fault f kind img earlier place x) ((λ j. record_fault f kind img (sym (append-nil earlier) j) (sym q j) (sym same j)) ∙ fault) p.2
never_both f kind img earlier place (x ∷ xs) (y ∷ ys) a b e p ends q some fault =
    let same : y ≡ x = sym q.0 ∙ p.0 in
    never_both f kind img (earlier ++ x ∷ []) x xs ys a b e p.3 ends (subst (λ z. Passed f kind img (earlier ++ z ∷ []) z ys b) same q.3) some
    (subst (λ zs. record_fault f kind img zs b (word f.order img b) ≡ Some e) (sym (append_assoc earlier (x ∷ []) ys))
    (subst (λ z. record_fault f kind img (earlier ++ z ∷ ys) b (word f.order img b) ≡ Some e) same fault))

-- a sound list has no fault
pub list_sound : (f : Form) (kind : ListKind) (img : List ℕ) (head : ℕ) (e : Fault) → FirstInList f kind img head e → Sound f kind img head → ⊥
list_sound f kind img head e (ys, b, passed, some, fault) (xs, a, met, ends) = never_both f kind img [] head xs ys a b e met ends passed some fault

-- the first fault of each part of a check but the last
pub front_but : (img : List ℕ) (e : Fault) → front_fault img ≡ Some e → IsFirstButStrays img e
front_but img e h = (at_front e h, λ s. some_none e (front_fault img) h s.lists.heads.0)

pub area_but : (img : List ℕ) (e : Fault) → front_fault img ≡ None → area_fault (form_of img) img ≡ Some e → IsFirstButStrays img e
area_but img e front h = (at_area e front h, λ s. some_none e (area_fault (form_of img) img) h s.lists.heads.1)

pub lists_but : (img : List ℕ) (e : Fault) → HeadsSound img → FirstInLists (form_of img) img e → IsFirstButStrays img e
lists_but img e heads (inl (j, low, before, h)) = (in_chain e j heads low before h, λ s. list_sound (form_of img) (chain_number j) img (chain_head j) e h (s.lists.chains j low))
lists_but img e heads (inr (chains, h)) = (in_free_list e heads chains h, λ s. list_sound (form_of img) free_list img free_head e h s.lists.frees)

pub overlap_but : (img : List ℕ) (at : ℕ) → ListsSound img → FirstOverlap img at → IsFirstButStrays img (Overlap, at)
overlap_but img at lists h = (at_overlap at lists h, λ s. absurd (omega (arith, h.0, s.apart at)))

-- a first fault is a stray byte, or there are others
sound_or_not : (img : List ℕ) (e : Fault) → IsFirstFault img e → IsSoundButStrays img ⊎ (IsSoundButStrays img → ⊥)
sound_or_not img _ (at_front e h) = inr (front_but img e h).1
sound_or_not img _ (at_area e front h) = inr (area_but img e front h).1
sound_or_not img _ (in_chain e j heads low before h) = inr (lists_but img e heads (inl (j, low, before, h))).1
sound_or_not img _ (in_free_list e heads chains h) = inr (lists_but img e heads (inr (chains, h))).1
sound_or_not img _ (at_overlap at lists h) = inr (overlap_but img at lists h).1
sound_or_not img _ (at_stray at lists apart h) = inl (record { lists = lists; apart = apart })

-- what an image is read as is sound but for stray bytes, or has a first fault
read_or_fault : (img : List ℕ) → IsSoundButStrays img ⊎ ((e : Fault) × IsFirstButStrays img e)
read_or_fault img = elim (fault_or_accepted img) [
  | inl accepted ↦
      let sound = accepted_no_fault img accepted in
      inl (record { lists = sound.lists; apart = sound.apart })
  | inr fault ↦
      elim (sound_or_not img fault.0 fault.1) [
        | inl sound ↦ inl sound
        | inr never ↦ inr (fault.0, (fault.1, never))
      ]
]

pub mends_or_fault : MendsOrFault
mends_or_fault img = by_area (mend_fault (form_of img) img) refl
  where
    by_area : (o : Option Fault) → mend_fault (form_of img) img ≡ o → CanBeMended img ⊎ ((e : Fault) × IsMendFault img e)
    by_area (Some e) is = inr (e, in_area e is)
    by_area None is = elim (read_or_fault (read_as img)) [
      | inl sound ↦ inl (record { no_fault = is; sound = sound })
      | inr fault ↦ inr (fault.0, in_read fault.0 is fault.1)
    ]

same_some : (a b : Fault) (o : Option Fault) → o ≡ Some a → o ≡ Some b → a ≡ b
same_some a b o s t = cc

pub one_mend_fault : OneMendFault
one_mend_fault img a b first = (both a b first, never a first)
  where
    both : (a b : Fault) → IsMendFault img a → IsMendFault img b → a ≡ b
    both _ _ (in_area a is) (in_area b too) = same_some a b _ is too
    both _ _ (in_area a is) (in_read b none h) = absurd (some_none a _ is none)
    both _ _ (in_read a none h) (in_area b is) = absurd (some_none b _ is none)
    both _ _ (in_read a none h) (in_read b too k) = one_first (read_as img) a b h.0 k.0

    never : (a : Fault) → IsMendFault img a → CanBeMended img → ⊥
    never _ (in_area a is) can = some_none a _ is can.no_fault
    never _ (in_read a none h) can = h.1 can.sound
