-- The pages that a range of bytes meets.
use Rattle.std.proofs.Common.{◌≡◌, ◌∙◌, ℕ, ◌+◌, ◌/◌, ◌<◌, ◌≤◌, ◌⊎◌, List, Some, None, Option, option_map, is_some, refl, sym, ap, subst, inl, inr, arith}
use Rattle.std.proofs.lemmas.Bool.{cases_eq, cases_lt}
use Rattle.std.specs.Prelude.{IsTrue}
use Rattle.tdb_disk.specs.Image.{overlay}
use Rattle.tdb_txn.specs.Pages.{page_size, page_at, PutIn, HasPage, AddsMet}
use Rattle.tdb_txn.specs.declared.page.Page.{Page}

-- a page is there after bytes were written into one exactly where it was before
pub put_has : (old new : List Page) (number within : ℕ) (piece : List ℕ) → PutIn number within piece old new → (k : ℕ)
    → is_some (page_at new k) ≡ is_some (page_at old k)
put_has old new number within piece put k = elim (cases_eq k number) [
  | inl same ↦ ap (λ n. is_some (page_at new n)) same ∙ ap is_some put.here ∙ mapped (page_at old number) ∙ ap (λ n. is_some (page_at old n)) (sym same)
  | inr apart ↦ ap is_some (put.others k apart)
]
  where
    mapped : (x : Option (List ℕ)) → is_some (option_map (λ page. overlay page within piece) x) ≡ is_some x
    mapped None = refl
    mapped (Some page) = refl

-- one part more of a range was written
pub adds_more : (off done end number within : ℕ) (piece : List ℕ) (first was mid new : List Page) → AddsMet off done first was
    → ((other : ℕ) → HasPage was other → HasPage mid other) → HasPage mid number
    → ((other : ℕ) → HasPage mid other → HasPage was other ⊎ (other ≡ number))
    → PutIn number within piece mid new → done < end
    → ((i : ℕ) → off + done ≤ i → i < off + end → i / page_size ≡ number) → AddsMet off end first new
adds_more off done end number within piece first was mid new before kept there only put more one_page =
    let has : (k : ℕ) → HasPage mid k → HasPage new k = λ k h. subst IsTrue (sym (put_has mid new number within piece put k)) h in
    let had : (k : ℕ) → HasPage new k → HasPage mid k = λ k h. subst IsTrue (put_has mid new number within piece put k) h in
    record {
      kept = λ k h. has k (kept k (before.kept k h));
      met = λ k meets. elim (cases_lt meets.place (off + done)) [
        | inl early ↦ has k (kept k (before.met k (record { place = meets.place; from = meets.from; to = early; inside = meets.inside })))
        | inr late ↦
            let here : number ≡ k = sym (one_page meets.place late meets.to) ∙ meets.inside in
            has k (subst (HasPage mid) here there)
      ];
      only = λ k h. elim (only k (had k h)) [
        | inl old ↦ elim (before.only k old) [
          | inl at_first ↦ inl at_first
          | inr meets ↦ inr (record { place = meets.place; from = meets.from; to = omega (arith, meets.to, more); inside = meets.inside })
        ]
        | inr same ↦ inr (record {
          place = off + done;
          from = omega arith;
          to = omega (arith, more);
          inside = one_page (off + done) (omega arith) (omega (arith, more)) ∙ sym same;
        })
      ];
    }
