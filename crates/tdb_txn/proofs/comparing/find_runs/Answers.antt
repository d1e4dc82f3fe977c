-- One page more was compared, and the end.
use Rattle.std.proofs.Common.{◌≡◌, ◌+◌, ◌*◌, ◌<◌, ◌≤◌, ◌⊎◌, ◌∙◌, ℕ, List, slice_index, get_or, length, refl, sym, subst, ap, inl, inr, arith}
use Rattle.std.proofs.lemmas.Bool.{cases_lt}
use Rattle.tdb_disk.specs.History.{seen}
use Rattle.tdb_space.specs.Extents.{Extent}
use Rattle.tdb_space.specs.Runs.{Changed}
use Rattle.tdb_txn.specs.Found.{Blanked}
use Rattle.tdb_txn.specs.Pages.{page_size, byte_over}
use Rattle.tdb_txn.specs.Stock.{page_list}
use Rattle.tdb_txn.specs.declared.page.Page.{Page}
use Rattle.tdb_txn.proofs.Scans.{ends_later}
use Rattle.tdb_txn.proofs.Walked.{over_page, over_gap}
use Rattle.tdb_txn.proofs.comparing.find_runs.Goals as goal

pub loop-index-init : goal.loop-index-init
loop-index-init g c = record {
  place = c.new-found.ensures.place;
  within = omega (arith, c.new-found.ensures.next);
  before = λ j d low. absurd (omega (arith, low));
  behind = λ j d from low. omega (arith, c.new-found.ensures.next);
  found = λ told x b blanked now. c.new-found.ensures.found x b c.args.comparison.now.old_length c.args.comparison.now.skip;
  size = refl;
  history = refl;
  faults = refl;
  bytes_read = record { no_more = omega arith; never_falls = omega arith };
  syncs = refl;
}

pub loop-index-preserved : goal.loop-index-preserved
loop-index-preserved g c =
    let ps = page_list c.args.pages.now in
    let i = c.loop-index.index in
    let p : Page = c.page.result.now in
    let was = c.loop-index.invariant in
    let low : i < length ps = omega (arith, c.loop-index-test.true, c.position-count.ensures.within) in
    let is : get_or ps i p ≡ p = sym (c.page.ensures p) in
    let is_at : (d : Page) → get_or ps i d ≡ p = λ d. sym (c.page.ensures d) in
    let number : (d : Page) → (get_or ps i d).number ≡ p.number = λ d. ap (λ (q : Page). q.number) (is_at d) in
    let up : c.loop-index.found.next ≤ p.number * page_size = subst (λ (q : Page). c.loop-index.found.next ≤ q.number * page_size) is (was.behind i p (omega arith) c.loop-index-test.true) in
    let less : p.number * page_size < c.args.comparison.now.old_length = omega (arith, c.position-count.ensures.before i p c.loop-index-test.true, number p) in
    record {
      place = c.in_ok-scan_page.ensures.place;
      within = c.in_ok-scan_page.ensures.within;
      before = λ j d lower. elim c.in_ok-scan_page.ensures.next [
        | inr all ↦ inr all
        | inl ends ↦ elim (cases_lt j i) [
          | inl earlier ↦ elim (was.before j d earlier) [ inl done ↦ inl (omega (arith, done, up, ends)) | inr over ↦ absurd (omega (arith, over, up, less)) ]
          | inr here ↦ (let same : j ≡ i = omega (arith, lower, here) in
              inl (subst (λ (n : ℕ). n * page_size + page_size ≤ c.scan_page.new.found.next) (sym (ap (λ (m : ℕ). (get_or ps m d).number) same ∙ number d)) (omega (arith, ends))))
        ]
      ];
      behind = λ j d from lower. (let more : p.number < (get_or ps j d).number =
          subst (λ (n : ℕ). n < (get_or ps j d).number) (number d) (c.args.pages.now.rising i j d (omega (arith, from)) (omega (arith, lower, c.position-count.ensures.within))) in
          omega (arith, c.in_ok-scan_page.ensures.low, more));
      found = λ told x b blanked now.
          c.in_ok-scan_page.ensures.found told x b (subst (λ h. Blanked c.args.comparison.now.hole (seen h) x) (sym was.history) blanked)
          (λ k inside reach. sym (now (p.number * page_size + k) reach ∙ over_page ps x i k p c.args.pages.now.rising low is inside))
          (λ n from lower. now n (omega (arith, lower, less))
          ∙ over_gap ps x i c.loop-index.found.next c.args.comparison.now.old_length n was.before
          (λ j d over inside. elim (cases_lt i j) [
            | inl later ↦ (let more : p.number < (get_or ps j d).number = subst (λ (m : ℕ). m < (get_or ps j d).number) (number d) (c.args.pages.now.rising i j d later inside) in omega (arith, lower, more))
            | inr here ↦ (let same : i ≡ j = omega (arith, over, here) in subst (λ (m : ℕ). n < m * page_size) (sym (ap (λ (m : ℕ). (get_or ps m d).number) (sym same) ∙ number d)) lower)
          ]) from (omega (arith, lower, less)))
          (was.found told x b blanked now);
      size = c.scan_page.ensures.size ∙ was.size;
      history = c.scan_page.ensures.history ∙ was.history;
      faults = c.in_ok-scan_page.ensures.cause.done ∙ was.faults;
      bytes_read = record {
        no_more = omega (arith, c.scan_page.ensures.bytes_read.no_more, was.bytes_read.no_more);
        never_falls = omega (arith, c.scan_page.ensures.bytes_read.never_falls, was.bytes_read.never_falls);
      };
      syncs = c.scan_page.ensures.syncs ∙ was.syncs;
    }

-- all that changes was looked at
looked_all : (ps : List Page) (x b : List ℕ) (old index next : ℕ) (skip : Extent)
    → ((j : ℕ) (d : Page) → j < index → ((get_or ps j d).number * page_size + page_size ≤ next) ⊎ (next ≡ old))
    → ((j : ℕ) (d : Page) → index ≤ j → j < length ps → (i : ℕ) → i < old → i < (get_or ps j d).number * page_size)
    → ((i : ℕ) → i < old → slice_index b i ≡ byte_over ps x i) → (i : ℕ) → Changed x b old skip i → i < next
looked_all ps x b old index next skip before far now i here = elim (cases_lt i next) [
  | inl low ↦ low
  | inr from ↦ absurd (here.differs (now i here.low ∙ over_gap ps x index next old i before (λ j d over inside. far j d over inside i here.low) from here.low))
]

pub returns-in-Ok-clause-runs : goal.returns-in-Ok-clause-runs
returns-in-Ok-clause-runs g c told x b blanked now =
    let was = c.loop-index.invariant in
    let old = c.args.comparison.now.old_length in
    c.in-Ok.ensures.runs x b old c.args.comparison.now.skip
    (looked_all (page_list c.args.pages.now) x b old c.loop-index.index c.loop-index.found.next c.args.comparison.now.skip was.before
    (λ j d over inside i low. let far = c.position-count.ensures.behind j d (omega (arith, over, c.loop-index-test.false, c.loop-index.auto.index-end)) inside in omega (arith, far, low)) now)
    (was.found told x b blanked now)

pub returns-in-Err-clause-starved : goal.returns-in-Err-clause-starved
returns-in-Err-clause-starved g c told x b blanked now =
    let was = c.loop-index.invariant in
    let old = c.args.comparison.now.old_length in
    c.in-Err.ensures.starved x b old c.args.comparison.now.skip
    (looked_all (page_list c.args.pages.now) x b old c.loop-index.index c.loop-index.found.next c.args.comparison.now.skip was.before
    (λ j d over inside i low. let far = c.position-count.ensures.behind j d (omega (arith, over, c.loop-index-test.false, c.loop-index.auto.index-end)) inside in omega (arith, far, low)) now)
    (was.found told x b blanked now)

pub returns-in-Ok-clause-ends : goal.returns-in-Ok-clause-ends
returns-in-Ok-clause-ends g c = ends_later _ c.loop-index.found.next c.args.comparison.now.old_length c.in-Ok.ensures.ends c.loop-index.invariant.within
