-- Pages that are written out to the file.
use Rattle.std.proofs.Common.{◌≡◌, ◌∙◌, ℕ, ◌+◌, ◌*◌, ◌/◌, ◌%◌, ◌-◌, ◌<◌, ◌≤◌, List, [], ◌∷◌, ◌++◌, add-zero, get_or, zero, suc, Some, None, Option, length, take, drop, slice_index, sym, ap, subst, inl, inr, arith, refl}
use Rattle.std.proofs.lemmas.Bool.{cases_lt}
use Rattle.std.proofs.lemmas.List.{take_more, get_or-take, get_or-drop, length-take-le, length-drop}
use Rattle.tdb_disk.specs.History.{History, TriedOver}
use Rattle.tdb_disk.specs.Image.{overlay}
use Rattle.tdb_disk.specs.Stop.{Leaves, LeavesOnly}
use Rattle.tdb_disk.proofs.Image.{length-overlay, overlay_below, overlay_above, overlay_in}
use Rattle.tdb_disk.proofs.Runs.{leaves_start, leaves_write}
use Rattle.tdb_space.specs.Extents.{Extent, once, times}
use Rattle.tdb_space.proofs.Extents.Counts.{where_is, times-append}
use Rattle.tdb_space.proofs.Extents.Counts.Lies.{lies, below, above}
use Rattle.tdb_space.specs.Scheme.{Scheme, Within, IsClear, MayWrite}
use Rattle.tdb_space.specs.Planned.{PutRange, PutRuns}
use Rattle.tdb_space.proofs.Scheme.WritesUndone.{within_torn}
use Rattle.tdb_txn.specs.Pages.{page_size, page_at, byte_in, byte_over}
use Rattle.tdb_txn.specs.EndBelow.{EndBelow}
use Rattle.tdb_txn.specs.declared.page.Page.{Page}
use Rattle.tdb_txn.proofs.Places.{byte_there, byte_none}

-- a write where the plan may write stays within it, whatever it answered
pub part_stops : (h new : History) (at count n : ℕ) (p : Scheme) (base : List ℕ) → n ≡ count → MayWrite p at (at + count)
    → ((c : List ℕ) → Leaves h c → Within p base c) → TriedOver at n h new → LeavesOnly h new (Within p base)
part_stops h new at count n p base same may left tried =
    leaves_write h h new at n (Within p base) (leaves_start h (Within p base) left)
    (λ image from was torn. within_torn p base from image at n (subst (λ m. MayWrite p at (at + m)) (sym same) may) (left from was) torn) tried

-- the bytes of a page that was written are those of the image
pub part_put : (pages : List Page) (a b page xs : List ℕ) (number within n : ℕ) → page_at pages number ≡ Some page → length page ≡ page_size
    → within + n ≤ page_size → xs ≡ take n (drop within page)
    → ((i : ℕ) → number * page_size + within ≤ i → i < number * page_size + within + n → byte_over pages a i ≡ slice_index b i)
    → PutRange b (number * page_size + within) (number * page_size + within + n) a (overlay a (number * page_size + within) xs)
part_put pages a b page xs number within n is long one_page same bytes =
    let at = number * page_size + within in
    let xs_long : length xs ≡ n = ap length same ∙ length-take-le n (drop within page) (omega (arith, length-drop within page, long)) in
    record {
      size = length-overlay a at xs;
      inside = λ i from to low.
          let here : i / page_size ≡ number = omega (arith, from, to, one_page) in
          let place : i % page_size ≡ within + (i - at) = omega (arith, from, to, one_page) in
          let there : page_at pages (i / page_size) ≡ Some page = ap (page_at pages) here ∙ is in
          overlay_in a at xs i from (omega (arith, to, xs_long)) low ∙ ap (λ ys. slice_index ys (i - at)) same
          ∙ get_or-take n (drop within page) (i - at) 0 (omega (arith, from, to)) ∙ get_or-drop within page (i - at) 0
          ∙ ap (slice_index page) (sym place) ∙ sym (byte_there pages a i page there) ∙ bytes i from to;
      beside = λ i out. elim out [
        | inl low ↦ overlay_below a at xs i low
        | inr high ↦ overlay_above a at xs i (omega (arith, high, xs_long))
      ];
    }

-- where no page is there, the file has them already
pub none_put : (pages : List Page) (a b : List ℕ) (number within n : ℕ) → page_at pages number ≡ None → within + n ≤ page_size
    → ((i : ℕ) → number * page_size + within ≤ i → i < number * page_size + within + n → byte_over pages a i ≡ slice_index b i)
    → PutRange b (number * page_size + within) (number * page_size + within + n) a a
none_put pages a b number within n none one_page bytes = record {
  size = refl;
  inside = λ i from to low.
      let here : i / page_size ≡ number = omega (arith, from, to, one_page) in
      sym (byte_none pages a i (ap (page_at pages) here ∙ none)) ∙ bytes i from to;
  beside = λ i out. refl;
}

-- the bytes over two files are the same where those of the files are
pub over_same : (pages : List Page) (a c : List ℕ) (i : ℕ) → slice_index c i ≡ slice_index a i → byte_over pages c i ≡ byte_over pages a i
over_same pages a c i same = ap (byte_in (page_at pages (i / page_size)) (i % page_size)) same

-- one range and the next
pub range_more : (b a c d : List ℕ) (from mid to : ℕ) → from ≤ mid → mid ≤ to → PutRange b from mid a c → PutRange b mid to c d → PutRange b from to a d
range_more b a c d from mid to low high first second = record {
  size = second.size ∙ first.size;
  inside = λ i from_i to_i inside. elim (cases_lt i mid) [
    | inl under ↦ second.beside i (inl under) ∙ first.inside i from_i under inside
    | inr over ↦ second.inside i over to_i (omega (arith, inside, first.size))
  ];
  beside = λ i out. elim out [
    | inl under ↦ second.beside i (inl (omega (arith, under, low))) ∙ first.beside i (inl under)
    | inr over ↦ second.beside i (inr over) ∙ first.beside i (inr (omega (arith, over, high)))
  ];
}

-- nothing is a range
pub range_none : (b a : List ℕ) (from : ℕ) → PutRange b from from a a
range_none b a from = record {
  size = refl;
  inside = λ i low high inside. absurd (omega (arith, low, high));
  beside = λ i out. refl;
}

-- where the plan may write, it may write a part
pub may_part : (p : Scheme) (from to at end : ℕ) → from ≤ at → end ≤ to → MayWrite p from to → MayWrite p at end
may_part p from to at end low high may i from_i to_i = may i (omega (arith, low, from_i)) (omega (arith, high, to_i))

-- an extent of a list counts
pub times_one : (es : List Extent) (k i : ℕ) (e : Extent) → k < length es → get_or es k e ≡ e → once e i ≤ times es i
times_one [] k i e low is = absurd (omega (arith, low))
times_one (f ∷ fs) zero i e low is = subst (λ (x : Extent). once x i ≤ once f i + times fs i) is (omega arith)
times_one (f ∷ fs) (suc k) i e low is = omega (arith, times_one fs k i e (omega (arith, low)) is)

-- one run more
pub run_more : (b a c d : List ℕ) (es : List Extent) (k : ℕ) (e : Extent) → k < length es → get_or es k e ≡ e
    → PutRuns b (take k es) a c → PutRange b e.0 (e.0 + e.1) c d → ((i : ℕ) → 1 ≤ times es i → i < length a) → PutRuns b (take (k + 1) es) a d
run_more b a c d es k e low is first second inside =
    let sum : (i : ℕ) → times (take (k + 1) es) i ≡ times (take k es) i + once e i = λ i.
    (ap (λ fs. times fs i) (take_more es k e low ∙ ap (λ (f : Extent). take k es ++ f ∷ []) is) ∙ times-append (take k es) (e ∷ []) i ∙ ap (λ n. times (take k es) i + n) (add-zero (once e i))) in
    record {
      size = second.size ∙ first.size;
      inside = λ i held. elim (where_is e i) [
        | lies from to one ↦ second.inside i from to (omega (arith, first.size, inside i (omega (arith, times_one es k i e low is, one))))
        | below under none ↦ second.beside i (inl under) ∙ first.inside i (omega (arith, held, sum i, none))
        | above over none ↦ second.beside i (inr over) ∙ first.inside i (omega (arith, held, sum i, none))
      ];
      beside = λ i free. elim (where_is e i) [
        | lies from to one ↦ absurd (omega (arith, free, sum i, one))
        | below under none ↦ second.beside i (inl under) ∙ first.beside i (omega (arith, free, sum i, none))
        | above over none ↦ second.beside i (inr over) ∙ first.beside i (omega (arith, free, sum i, none))
      ];
    }

-- no run is written yet
pub run_none : (b a : List ℕ) → PutRuns b [] a a
run_none b a = record { size = refl; inside = λ i held. absurd (omega (arith, held)); beside = λ i free. refl }

-- in a run the plan may write
pub may_run : (p : Scheme) (es : List Extent) (k : ℕ) (e : Extent) → p.runs ≡ es → IsClear p → k < length es → get_or es k e ≡ e → MayWrite p e.0 (e.0 + e.1)
may_run p es k e same clear low is i from to =
    let held : once e i ≡ 1 = (elim (where_is e i) [ lies _ _ one ↦ one | below under none ↦ absurd (omega (arith, under, from)) | above over none ↦ absurd (omega (arith, over, to)) ]) in
    let here : 1 ≤ times p.runs i = subst (λ (fs : List Extent). 1 ≤ times fs i) (sym same) (omega (arith, times_one es k i e low is, held)) in (
      inl here,
      elim (cases_lt i p.area) [
        | inl under ↦ inl under
        | inr over ↦ elim (cases_lt i (p.area + p.area_length)) [ inl inside ↦ absurd (omega (arith, here, clear i over inside)) | inr past ↦ inr past ]
      ],
    )

-- runs that end below a length hold only bytes below it
pub runs_inside : (limit i : ℕ) (es : List Extent) → EndBelow limit es → 1 ≤ times es i → i < limit
runs_inside limit i [] ends held = absurd (omega (arith, held))
runs_inside limit i (e ∷ es) ends held = elim (where_is e i) [
  | lies from to one ↦ omega (arith, to, ends 0 e (omega arith))
  | below under none ↦ runs_inside limit i es (λ k d low. ends (suc k) d (omega (arith, low))) (omega (arith, held, none))
  | above over none ↦ runs_inside limit i es (λ k d low. ends (suc k) d (omega (arith, low))) (omega (arith, held, none))
]

-- where a run was written the bytes over the file are still those of the image
pub over_runs : (pages : List Page) (b a c : List ℕ) (es : List Extent) (i : ℕ) → PutRuns b es a c → i < length a
    → byte_over pages a i ≡ slice_index b i → byte_over pages c i ≡ slice_index b i
over_runs pages b a c es i put low is = elim (cases_lt 0 (times es i)) [
  | inl held ↦ over_there (page_at pages (i / page_size)) is (put.inside i held)
  | inr free ↦ over_same pages a c i (put.beside i (omega (arith, free))) ∙ is
]
  where
    over_there : (x : Option (List ℕ)) → byte_in x (i % page_size) (slice_index a i) ≡ slice_index b i → slice_index c i ≡ slice_index b i
        → byte_in x (i % page_size) (slice_index c i) ≡ slice_index b i
    over_there None was now = now
    over_there (Some page) was now = was

-- a byte of a run is held
pub held_in : (es : List Extent) (k i : ℕ) (e : Extent) → k < length es → get_or es k e ≡ e → e.0 ≤ i → i < e.0 + e.1 → 1 ≤ times es i
held_in es k i e low is from to = elim (where_is e i) [
  | lies _ _ one ↦ omega (arith, times_one es k i e low is, one)
  | below under none ↦ absurd (omega (arith, under, from))
  | above over none ↦ absurd (omega (arith, over, to))
]
