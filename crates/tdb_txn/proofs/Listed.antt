-- Pages in a list whose numbers rise.
use Rattle.std.proofs.Common.{◌≡◌, ◌≢◌, ◌∙◌, ℕ, ◌+◌, ◌-◌, ◌<◌, ◌≤◌, List, [], ◌∷◌, Some, None, Option, Bool, is_some, length, set, get_or, zero, suc, option_map, refl, sym, ap, subst, inl, inr, arith}
use Rattle.std.proofs.lemmas.Bool.{cases_eq, cases_lt}
use Rattle.std.proofs.lemmas.Bool.Decides.{nat_tests}
use Rattle.std.proofs.lemmas.List.{get_or_read, get_or-set_same, get_or-set_other, length-set}
use Rattle.std.proofs.lemmas.List.Edits.{length-insert, get_or-insert_below, get_or-insert_at, get_or-insert_above}
use Rattle.std.specs.List.{insert}
use Rattle.std.specs.Prelude.{IfSome, IsTrue}
use Rattle.tdb_txn.specs.Pages.{page_at, Rising, PutIn, Added, HasPage}
use Rattle.tdb_disk.specs.Image.{overlay}
use Rattle.tdb_txn.specs.declared.page.Page.{Page}

-- the first page has the number
pub page_here : (p : Page) (ps : List Page) (k : ℕ) → p.number ≡ k → page_at (p ∷ ps) k ≡ Some p.bytes.items
page_here p ps k same = grind (arith, nat_tests)

-- the first page has another
pub page_past : (p : Page) (ps : List Page) (k : ℕ) → p.number ≢ k → page_at (p ∷ ps) k ≡ page_at ps k
page_past p ps k apart = grind (arith, nat_tests)

-- no page has the number
pub page_none : (ps : List Page) (k : ℕ) → ((i : ℕ) (d : Page) → i < length ps → (get_or ps i d).number ≢ k) → page_at ps k ≡ None
page_none [] k apart = refl
page_none (p ∷ ps) k apart =
    page_past p ps k (apart 0 p (omega arith)) ∙ page_none ps k (λ i d low. apart (suc i) d (omega (arith, low)))

-- the page at a place has the number, and those before it have smaller ones
pub page_first : (ps : List Page) (i k : ℕ) (d : Page) → i < length ps
    → ((j : ℕ) (e : Page) → j < i → (get_or ps j e).number < k)
    → (get_or ps i d).number ≡ k → page_at ps k ≡ Some (get_or ps i d).bytes.items
page_first [] i k d low before same = absurd (omega (arith, low))
page_first (p ∷ ps) zero k d low before same = page_here p ps k same
page_first (p ∷ ps) (suc i) k d low before same =
    let less : p.number < k = before 0 p (omega arith) in
    page_past p ps k (λ equal. omega (arith, less, equal))
    ∙ page_first ps i k d (omega (arith, low)) (λ j e lower. before (suc j) e (omega (arith, lower))) same

-- numbers on both sides of a place that are smaller and greater: no page has the number
pub page_between : (ps : List Page) (at k : ℕ) → ((i : ℕ) (d : Page) → i < at → (get_or ps i d).number < k)
    → ((i : ℕ) (d : Page) → at ≤ i → i < length ps → k ≤ (get_or ps i d).number)
    → Rising ps → ((d : Page) → at < length ps → (get_or ps at d).number ≢ k) → page_at ps k ≡ None
page_between ps at k before behind rising apart =
    page_none ps k (λ i d low equal. elim (cases_lt i at) [
      | inl under ↦ omega (arith, before i d under, equal)
      | inr over ↦ elim (cases_eq i at) [
        | inl same ↦ apart d (omega (arith, low, same)) (subst (λ (n : ℕ). (get_or ps n d).number ≡ k) same equal)
        | inr more ↦
            let lower : at < i = omega (arith, over, more) in
            let here : k ≤ (get_or ps at d).number = behind at d (omega arith) (omega (arith, lower, low)) in
            omega (arith, rising at i d lower low, here, equal)
      ]
    ])

-- a page that is put in the place of another with the same number is the one with it
pub page_set_other : (ps : List Page) (i : ℕ) (p : Page) (k : ℕ) → (get_or ps i p).number ≢ k → p.number ≢ k
    → page_at (set ps i p) k ≡ page_at ps k
page_set_other [] i p k was is = refl
page_set_other (q ∷ ps) zero p k was is = page_past p ps k is ∙ sym (page_past q ps k was)
page_set_other (q ∷ ps) (suc i) p k was is = elim (cases_eq q.number k) [
  | inl same ↦ page_here q (set ps i p) k same ∙ sym (page_here q ps k same)
  | inr apart ↦ page_past q (set ps i p) k apart ∙ page_set_other ps i p k was is ∙ sym (page_past q ps k apart)
]

-- a page that is put between others leaves them
pub page_insert_other : (ps : List Page) (i : ℕ) (p : Page) (k : ℕ) → p.number ≢ k → page_at (insert ps i p) k ≡ page_at ps k
page_insert_other ps zero p k is = page_past p ps k is
page_insert_other [] (suc i) p k is = page_past p [] k is
page_insert_other (q ∷ ps) (suc i) p k is = elim (cases_eq q.number k) [
  | inl same ↦ page_here q (insert ps i p) k same ∙ sym (page_here q ps k same)
  | inr apart ↦ page_past q (insert ps i p) k apart ∙ page_insert_other ps i p k is ∙ sym (page_past q ps k apart)
]

-- and it is the one with its number, where those before it have smaller ones
pub page_insert_here : (ps : List Page) (i : ℕ) (p : Page) → i ≤ length ps
    → ((j : ℕ) (d : Page) → j < i → (get_or ps j d).number < p.number)
    → page_at (insert ps i p) p.number ≡ Some p.bytes.items
page_insert_here ps i p inside before =
    let here : get_or (insert ps i p) i p ≡ p = get_or-insert_at ps i p p inside in
    page_first (insert ps i p) i p.number p (omega (arith, length-insert ps i p inside, inside))
    (λ j e low. subst (λ (q : Page). q.number < p.number) (sym (get_or-insert_below ps i p e j low inside)) (before j e low))
    (ap (λ (q : Page). q.number) here)
    ∙ ap (λ (q : Page). Some q.bytes.items) here

-- the numbers still rise where one page is put in the place of another with the same number
pub rising_set : (ps : List Page) (at : ℕ) (p : Page) → (get_or ps at p).number ≡ p.number → Rising ps → Rising (set ps at p)
rising_set ps at p same rising i j d less low =
    let long : length (set ps at p) ≡ length ps = length-set ps at p in
    let was : (get_or ps i d).number < (get_or ps j d).number = rising i j d less (omega (arith, low, long)) in
    let number : (k : ℕ) → k < length ps → (get_or (set ps at p) k d).number ≡ (get_or ps k d).number =
    λ k low_k. kept ps at p k d low_k same in
    omega (arith, was, number i (omega (arith, less, low, long)), number j (omega (arith, low, long)))
  where
    kept : (ps : List Page) (at : ℕ) (p : Page) (k : ℕ) (d : Page) → k < length ps → (get_or ps at p).number ≡ p.number
        → (get_or (set ps at p) k d).number ≡ (get_or ps k d).number
    kept [] at p k d low same = absurd (omega (arith, low))
    kept (q ∷ ps) zero p zero d low same = sym same
    kept (q ∷ ps) zero p (suc k) d low same = refl
    kept (q ∷ ps) (suc at) p zero d low same = refl
    kept (q ∷ ps) (suc at) p (suc k) d low same = kept ps at p k d (omega (arith, low)) same

-- and where a page is put between smaller and greater ones
pub rising_insert : (ps : List Page) (at : ℕ) (p : Page) → at ≤ length ps
    → ((i : ℕ) (d : Page) → i < at → (get_or ps i d).number < p.number)
    → ((i : ℕ) (d : Page) → at ≤ i → i < length ps → p.number < (get_or ps i d).number)
    → Rising ps → Rising (insert ps at p)
rising_insert ps at p inside before behind rising i j d less low =
    let long : length (insert ps at p) ≡ length ps + 1 = length-insert ps at p inside in
    let new = insert ps at p in
    let under : (k : ℕ) → k < at → (get_or new k d).number ≡ (get_or ps k d).number =
    λ k lower. ap (λ (q : Page). q.number) (get_or-insert_below ps at p d k lower inside) in
    let here : (get_or new at d).number ≡ p.number = ap (λ (q : Page). q.number) (get_or-insert_at ps at p d inside) in
    let over : (k : ℕ) → at < k → (get_or new k d).number ≡ (get_or ps (k - 1) d).number = λ k more.
    (let next : (k - 1) + 1 ≡ k = omega (arith, more) in
    subst (λ (n : ℕ). (get_or new n d).number ≡ (get_or ps (k - 1) d).number) next
    (ap (λ (q : Page). q.number) (get_or-insert_above ps at p d (k - 1) (omega (arith, more)) inside))) in
    elim (cases_lt j at) [
      | inl j_low ↦
          let was : (get_or ps i d).number < (get_or ps j d).number = rising i j d less (omega (arith, j_low, inside)) in
          omega (arith, was, under i (omega (arith, less, j_low)), under j j_low)
      | inr j_high ↦ elim (cases_eq j at) [
        | inl same ↦
            let j_here : (get_or new j d).number ≡ p.number = subst (λ (n : ℕ). (get_or new n d).number ≡ p.number) (sym same) here in
            let i_low : i < at = omega (arith, less, same) in
            omega (arith, before i d i_low, under i i_low, j_here)
        | inr apart ↦
            let j_over : at < j = omega (arith, j_high, apart) in
            elim (cases_lt i at) [
              | inl i_low ↦
                  let was : (get_or ps i d).number < (get_or ps (j - 1) d).number =
                  rising i (j - 1) d (omega (arith, i_low, j_over)) (omega (arith, low, long, j_over)) in
                  omega (arith, was, under i i_low, over j j_over)
              | inr i_high ↦ elim (cases_eq i at) [
                | inl same ↦
                    let i_here : (get_or new i d).number ≡ p.number = subst (λ (n : ℕ). (get_or new n d).number ≡ p.number) (sym same) here in
                    omega (arith, behind (j - 1) d (omega (arith, j_over)) (omega (arith, low, long, j_over)), i_here, over j j_over)
                | inr i_apart ↦
                    let i_over : at < i = omega (arith, i_high, i_apart) in
                    let was : (get_or ps (i - 1) d).number < (get_or ps (j - 1) d).number =
                    rising (i - 1) (j - 1) d (omega (arith, less, i_over)) (omega (arith, low, long, j_over)) in
                    omega (arith, was, over i i_over, over j j_over)
              ]
            ]
      ]
    ]

-- a page with a smaller number, and so every page up to it
pub smaller_up_to : (ps : List Page) (m k : ℕ) (p : Page) → Rising ps → m < length ps → p ≡ get_or ps m p → p.number < k
    → (i : ℕ) (d : Page) → i < m + 1 → (get_or ps i d).number < k
smaller_up_to ps m k p rising low is less i d under =
    let here : (get_or ps m d).number ≡ p.number = ap (λ (q : Page). q.number) (sym (get_or_read ps m p low is d)) in
    elim (cases_eq i m) [
      | inl same ↦ subst (λ (n : ℕ). (get_or ps n d).number < k) (sym same) (omega (arith, here, less))
      | inr apart ↦ omega (arith, rising i m d (omega (arith, under, apart)) low, here, less)
    ]

-- a page whose number is no smaller, and so every page from it on
pub no_smaller_from : (ps : List Page) (m k : ℕ) (p : Page) → Rising ps → m < length ps → p ≡ get_or ps m p → k ≤ p.number
    → (i : ℕ) (d : Page) → m ≤ i → i < length ps → k ≤ (get_or ps i d).number
no_smaller_from ps m k p rising low is no_less i d over inside =
    let here : (get_or ps m d).number ≡ p.number = ap (λ (q : Page). q.number) (sym (get_or_read ps m p low is d)) in
    elim (cases_eq i m) [
      | inl same ↦ subst (λ (n : ℕ). k ≤ (get_or ps n d).number) (sym same) (omega (arith, here, no_less))
      | inr apart ↦ omega (arith, rising m i d (omega (arith, over, apart)) inside, here, no_less)
    ]

-- where a page is found, bytes of it are written over
pub put_in : (ps : List Page) (at within k : ℕ) (piece : List ℕ) (q new : Page) → at < length ps → q ≡ get_or ps at q
    → ((e : Page) → page_at ps k ≡ Some (get_or ps at e).bytes.items) → ((e : Page) → (get_or ps at e).number ≡ k)
    → Rising ps → new.number ≡ q.number → new.bytes.items ≡ overlay q.bytes.items within piece
    → PutIn k within piece ps (set ps at new)
put_in ps at within k piece q new low is found number rising same bytes =
    let here : get_or (set ps at new) at q ≡ new = get_or-set_same ps at new q low in
    let old : q.number ≡ k = ap (λ (p : Page). p.number) is ∙ number q in
    let was : page_at ps k ≡ Some q.bytes.items = found q ∙ ap (λ (p : Page). Some p.bytes.items) (sym is) in
    record {
      here =
          page_first (set ps at new) at k q (omega (arith, length-set ps at new, low))
          (λ j e under. subst (λ (p : Page). p.number < k) (sym (get_or-set_other ps at j new e (λ equal. omega (arith, under, equal))))
          (omega (arith, rising j at e under low, number e)))
          (ap (λ (p : Page). p.number) here ∙ same ∙ old)
          ∙ ap (λ (p : Page). Some p.bytes.items) here ∙ ap Some bytes
          ∙ sym (ap (option_map (λ page. overlay page within piece)) was);
      others = λ other apart.
          page_set_other ps at new other (λ equal. apart (sym equal ∙ number new)) (λ equal. apart (sym equal ∙ same ∙ old));
      count = length-set ps at new;
    }

-- a page that wasn't there is added between smaller and greater numbers
pub added : (ps : List Page) (at : ℕ) (p : Page) → at ≤ length ps
    → ((i : ℕ) (d : Page) → i < at → (get_or ps i d).number < p.number)
    → page_at ps p.number ≡ None → Added p.number p.bytes.items ps (insert ps at p)
added ps at p inside before none = record {
  before = none;
  here = page_insert_here ps at p inside before;
  others = λ other apart. page_insert_other ps at p other (λ equal. apart (sym equal));
  count = length-insert ps at p inside;
}

-- the numbers still rise: no smaller than the new one and not the same is greater
pub rising_added : (ps : List Page) (at : ℕ) (p : Page) → at ≤ length ps
    → ((i : ℕ) (d : Page) → i < at → (get_or ps i d).number < p.number)
    → ((i : ℕ) (d : Page) → at ≤ i → i < length ps → p.number ≤ (get_or ps i d).number)
    → Rising ps → page_at ps p.number ≡ None → Rising (insert ps at p)
rising_added ps at p inside before behind rising none =
    rising_insert ps at p inside before
    (λ i d over low. elim (cases_eq (get_or ps at d).number p.number) [
      | inl same ↦
          let found = page_first ps at p.number d (omega (arith, over, low)) before same in
          absurd (grind (arith, found, none))
      | inr apart ↦
          let first : p.number ≤ (get_or ps at d).number = behind at d (omega arith) (omega (arith, over, low)) in
          elim (cases_eq i at) [
            | inl same ↦ subst (λ (n : ℕ). p.number < (get_or ps n d).number) (sym same) (omega (arith, first, apart))
            | inr other ↦ omega (arith, first, apart, rising at i d (omega (arith, over, other)) low)
          ]
    ])
    rising

-- where a page was found it is there
pub found_there : (ps : List Page) (k : ℕ) (found : Option ℕ) {b : Bool} → IfSome found (λ i. i < length ps)
    → IfSome found (λ i. (d : Page) → page_at ps k ≡ Some (get_or ps i d).bytes.items)
    → b ≡ is_some found → IsTrue b → HasPage ps k
found_there ps k None inside first is holds = absurd (grind (arith, is, holds))
found_there [] k (Some i) inside first is holds = absurd (omega (arith, inside))
found_there (p ∷ ps) k (Some i) inside first is holds = rw (first p) refl
