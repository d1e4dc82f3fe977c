-- The pages of a list, one after the other: what stands in one, and that nothing stands between them.
use Rattle.std.proofs.Common.{◌≡◌, ◌∙◌, ℕ, ◌+◌, ◌*◌, ◌/◌, ◌%◌, ◌<◌, ◌≤◌, ◌⊎◌, List, Some, length, get_or, slice_index, ap, subst, inl, inr, arith}
use Rattle.std.proofs.lemmas.Bool.{cases_lt}
use Rattle.std.proofs.lemmas.List.{get_or_default}
use Rattle.tdb_txn.specs.Pages.{page_at, page_size, byte_in, byte_over, Rising}
use Rattle.tdb_txn.specs.declared.page.Page.{Page}
use Rattle.tdb_txn.proofs.Listed.{page_first, page_none}

-- a byte of the page at a place of the list
pub over_page : (ps : List Page) (img : List ℕ) (i k : ℕ) (p : Page) → Rising ps → i < length ps → get_or ps i p ≡ p → k < page_size
    → byte_over ps img (p.number * page_size + k) ≡ slice_index p.bytes.items k
over_page ps img i k p rising low is inside =
    let at = p.number * page_size + k in
    let number : at / page_size ≡ p.number = omega (arith, inside) in
    let place : at % page_size ≡ k = omega (arith, inside) in
    let there : page_at ps p.number ≡ Some p.bytes.items = (
    page_first ps i p.number p low
    (λ j e less. subst (λ (q : Page). (get_or ps j e).number < q.number) (is_at e) (rising j i e less low))
    (ap (λ (q : Page). q.number) is)
    ∙ ap (λ (q : Page). Some q.bytes.items) is) in
    ap (λ n. byte_in (page_at ps n) (at % page_size) (slice_index img at)) number
    ∙ ap (λ x. byte_in x (at % page_size) (slice_index img at)) there
    ∙ ap (slice_index p.bytes.items) place
  where
    is_at : (e : Page) → get_or ps i e ≡ p
    is_at e = get_or_default ps i e p low ∙ is

-- A byte behind the pages before a place of the list and in front of those from it on stands in no page
pub over_gap : (ps : List Page) (img : List ℕ) (place next old i : ℕ)
    → ((j : ℕ) (d : Page) → j < place → ((get_or ps j d).number * page_size + page_size ≤ next) ⊎ (next ≡ old))
    → ((j : ℕ) (d : Page) → place ≤ j → j < length ps → i < (get_or ps j d).number * page_size)
    → next ≤ i → i < old → byte_over ps img i ≡ slice_index img i
over_gap ps img place next old i before behind from low =
    ap (λ x. byte_in x (i % page_size) (slice_index img i)) (page_none ps (i / page_size) (λ j d inside same. elim (cases_lt j place) [
      | inl under ↦ elim (before j d under) [ inl ends ↦ omega (arith, ends, from, same) | inr all ↦ omega (arith, all, from, low) ]
      | inr over ↦ omega (arith, behind j d over inside, same)
    ]))
