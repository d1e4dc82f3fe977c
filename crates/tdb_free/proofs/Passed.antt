-- The walk along the free list, record by record, and each way out of it.
use Rattle.std.proofs.Common.{◌≡◌, ℕ, ◌+◌, ◌≤◌, Bool, true, false, List, [], ◌∷◌, length, Some, None, refl, sym, ◌∙◌, ap, subst, inl, inr, arith}
use Rattle.std.specs.Prelude.{◌/◌}
use Rattle.std.specs.List.{find}
use Rattle.std.proofs.lemmas.Bool.{ne_eqb}
use Rattle.tdb_words.specs.Word.{word}
use Rattle.tdb_space.specs.Form.{Form, data_start, free_head}
use Rattle.tdb_space.specs.Record.{Whole, IsFree, rec_len_of}
use Rattle.tdb_space.specs.Chain.{Free, Leads, without}
use Rattle.tdb_space.specs.Extents.{HandPair}
use Rattle.tdb_space.proofs.Chain.Walks.{linked_short}
use Rattle.tdb_free.specs.FreeList.{free_pairs}
use Rattle.tdb_free.specs.Search.{IsFirst, count_before}
use Rattle.tdb_free.specs.declared.search.Spot.{Spot}

-- where the first of a list doesn't pass a test, what is found is found behind it, and it stays where that is left out
pub find_later : (test : HandPair → Bool) (p : HandPair) (ps : List HandPair) → test p ≡ false → find test (p ∷ ps) ≡ find test ps
find_later test p ps e = rw e refl

-- where it passes, it is what is found
pub find_here : (test : HandPair → Bool) (p : HandPair) (ps : List HandPair) → test p ≡ true → find test (p ∷ ps) ≡ Some p
find_here test p ps e = rw e refl

-- how many stand in front of it, in both cases
pub count_here : (test : HandPair → Bool) (p : HandPair) (ps : List HandPair) → test p ≡ true → count_before test (p ∷ ps) ≡ 0
count_here test p ps e = rw e refl

pub count_later : (test : HandPair → Bool) (p : HandPair) (ps : List HandPair) → test p ≡ false → count_before test (p ∷ ps) ≡ 1 + count_before test ps
count_later test p ps e = rw e refl

-- the list without another record than its first
pub without_tail : (x y : ℕ) (xs : List ℕ) → (x ≡ y → ⊥) → without y (x ∷ xs) ≡ x ∷ without y xs
without_tail x y xs ne = rw (ne_eqb x y ne) refl

-- So many records of the list were passed, none of which passes the test, and the word at `before` leads on from `at`:
-- what is found in the rest is what is found in the list.
pub record Passed (f : Form) (img offs : List ℕ) (test : HandPair → Bool) (turns before at : ℕ) : Type 0 where
  pub rest : List ℕ
  pub list : Free f img at rest
  pub leads : (b y : ℕ) → Leads before rest b y → Leads free_head offs b y
  pub first : find test (free_pairs f img offs) ≡ find test (free_pairs f img rest)
  pub count : count_before test (free_pairs f img offs) ≡ turns + count_before test (free_pairs f img rest)
  pub short : turns + length rest ≤ length img / 4

-- at first none was passed, and the head of the list leads on
pub passed_start : (f : Form) (img offs : List ℕ) (test : HandPair → Bool) (at : ℕ) → Free f img at offs → Passed f img offs test 0 free_head at
passed_start f img offs test at list = record {
  rest = offs;
  list = list;
  leads = λ b y led. led;
  first = refl;
  count = omega arith;
  short = omega (arith, linked_short f IsFree img at offs list);
}

module _ (f : Form) (img offs : List ℕ) (test : HandPair → Bool) (turns before at : ℕ) (p : Passed f img offs test turns before at) where
  -- where no record can stand, the list ends, and none of it passes the test
  pub passed_end : (Whole f img at → ⊥) → find test (free_pairs f img offs) ≡ None
  passed_end never = p.first ∙ nothing p.rest p.list
    where
      nothing : (rest : List ℕ) → Free f img at rest → find test (free_pairs f img rest) ≡ None
      nothing [] list = refl
      nothing (x ∷ xs) list = absurd (never (subst (Whole f img) (sym list.0) list.1))

  -- the record there doesn't pass the test, and leads on
  pub passed_more : (next : ℕ) → data_start f ≤ at → next ≡ word f.order img at → test (at, rec_len_of f.order img at) ≡ false → Passed f img offs test (turns + 1) at next
  passed_more next above leads_on fails = step p.rest p.list p.leads p.first p.count p.short
    where
      step : (rest : List ℕ) → Free f img at rest → ((b y : ℕ) → Leads before rest b y → Leads free_head offs b y) → find test (free_pairs f img offs) ≡ find test (free_pairs f img rest)
          → count_before test (free_pairs f img offs) ≡ turns + count_before test (free_pairs f img rest) → turns + length rest ≤ length img / 4 → Passed f img offs test (turns + 1) at next
      step [] list leads first count short = absurd (omega (arith, list, above))
      step (x ∷ xs) list leads first count short =
          let fails_here : test (x, rec_len_of f.order img x) ≡ false = (λ j. test (sym list.0 j, rec_len_of f.order img (sym list.0 j))) ∙ fails in
          record {
            rest = xs;
            list = subst (λ y. Free f img y xs) (sym (leads_on ∙ ap (word f.order img) list.0)) list.3;
            leads = λ b y led. leads b y (inr (subst (λ z. Leads z xs b y) list.0 led));
            first = first ∙ find_later test (x, rec_len_of f.order img x) (free_pairs f img xs) fails_here;
            count = omega (arith, count, count_later test (x, rec_len_of f.order img x) (free_pairs f img xs) fails_here);
            short = omega (arith, short);
          }

  -- the record there passes the test
  pub passed_found : (s : Spot) → data_start f ≤ at → s.off ≡ at → s.before ≡ before → s.next ≡ word f.order img at → s.rec_len ≡ rec_len_of f.order img at → test (at, s.rec_len) ≡ true → IsFirst f img offs test s
  passed_found s above off led next len passes = here p.rest p.list p.leads p.first
    where
      here : (rest : List ℕ) → Free f img at rest → ((b y : ℕ) → Leads before rest b y → Leads free_head offs b y) → find test (free_pairs f img offs) ≡ find test (free_pairs f img rest)
          → IsFirst f img offs test s
      here [] list leads first = absurd (omega (arith, list, above))
      here (x ∷ xs) list leads first =
          let at_x : s.off ≡ x = off ∙ list.0 in
          let len_x : s.rec_len ≡ rec_len_of f.order img x = len ∙ ap (rec_len_of f.order img) list.0 in
          let passes_here : test (x, rec_len_of f.order img x) ≡ true = (λ j. test (sym list.0 j, sym len_x j)) ∙ passes in
          record {
            leads = leads s.before s.off (inl (sym led, sym at_x));
            next = next ∙ ap (word f.order img) (sym off);
            rec_len = len ∙ ap (rec_len_of f.order img) (sym off);
            first = first ∙ find_here test (x, rec_len_of f.order img x) (free_pairs f img xs) passes_here ∙ (λ j. Some (sym at_x j, sym len_x j));
          }

  -- as many records were passed as the image has words
  pub passed_all : length img / 4 ≤ turns → find test (free_pairs f img offs) ≡ None
  passed_all all = p.first ∙ nothing p.rest p.short
    where
      nothing : (rest : List ℕ) → turns + length rest ≤ length img / 4 → find test (free_pairs f img rest) ≡ None
      nothing [] short = refl
      nothing (x ∷ xs) short = absurd (omega (arith, short, all))
