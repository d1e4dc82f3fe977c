-- From one state of a commit to the next: what a stop leaves, and what the disk then holds.
use Rattle.std.proofs.Common.{◌≡◌, ◌∙◌, ℕ, ◌+◌, ◌<◌, ◌≤◌, ◌⊎◌, List, length, slice_index, sym, ap, subst, inl, inr, arith}
use Rattle.std.proofs.lemmas.Bool.{cases_lt}
use Rattle.tdb_disk.specs.History.{History, called, seen, synced, Tried}
use Rattle.tdb_disk.specs.Image.{overlay}
use Rattle.tdb_disk.specs.Stop.{Leaves, LeavesOnly, Quiet}
use Rattle.tdb_disk.proofs.Image.{overlay_below, overlay_above}
use Rattle.tdb_disk.proofs.Runs.{leaves_weaker, leaves_now, leaves_sync, quiet_synced}
use Rattle.tdb_disk.proofs.Stop.{leaves_seen}
use Rattle.tdb_words.specs.declared.record.TheConstants.{GATE_OPEN, GATE_SHUT}
use Rattle.tdb_words.specs.Word.{bytes_of_word}
use Rattle.tdb_space.specs.Extents.{times}
use Rattle.tdb_space.specs.Scheme.{Within, MayWrite, IsClear}
use Rattle.tdb_space.specs.Planned.{Fills, PutRuns, PutRange, finished}
use Rattle.tdb_space.specs.Planned.Placed.{kept, fresh}
use Rattle.tdb_space.specs.Undoing.{Reopens}
use Rattle.tdb_space.proofs.Undoing.Alike.{exact_reopens}
use Rattle.tdb_space.proofs.Exchange.Overlaid.{word_length}
use Rattle.tdb_space.proofs.Scheme.WritesUndone.{within_itself}
use Rattle.tdb_space.proofs.Planned.Settled.{plan_fills, settled_is}
use Rattle.tdb_txn.specs.Commit.{scheme_of, opened, Brings, IsFilled, IsPrepared, IsApplied, IsSettled, IsFinished}
use Rattle.tdb_txn.specs.Pages.{byte_over}
use Rattle.tdb_txn.specs.Stock.{page_list}
use Rattle.tdb_txn.specs.declared.planned.Plan.{Plan}
use Rattle.tdb_txn.proofs.Words.{WithWord}
use Rattle.tdb_txn.proofs.WrittenOut.{over_same, runs_inside}

-- what the plan leads to
pub fills_of : (plan : Plan) (a b : List ℕ) → Brings plan a b → Fills (scheme_of plan) a b
fills_of plan a b brings = plan_fills (scheme_of plan) a b brings.before brings.after brings.planned

-- with the gate open or shut, the file opens to the map before
pub open_stops : (plan : Plan) (h new : History) (a b w : List ℕ) → w ≡ bytes_of_word plan.header.order GATE_OPEN → IsFilled plan h a b
    → LeavesOnly h new (WithWord h (plan.area + 20) w) → LeavesOnly h new (Reopens a)
open_stops plan h new a b w is state left =
    leaves_weaker h new (WithWord h (plan.area + 20) w) (Reopens a)
    (λ c with_or. elim with_or [
      | inl same ↦ subst (Reopens a) (sym (same ∙ state.file)) (exact_reopens a state.brings.before)
      | inr put ↦
          let gate : c ≡ opened plan a = put ∙ ap (overlay (seen h) (plan.area + 20)) is ∙ ap (λ x. overlay x (plan.area + 20) (bytes_of_word plan.header.order GATE_OPEN)) state.file in
          (fills_of plan a b state.brings).undoes c (subst (Within (scheme_of plan) (opened plan a)) (sym gate) (within_itself (scheme_of plan) (opened plan a)))
    ]) left

-- and then it is open
pub open_done : (plan : Plan) (h new : History) (a b w : List ℕ) → w ≡ bytes_of_word plan.header.order GATE_OPEN → IsFilled plan h a b
    → seen new ≡ overlay (seen h) (plan.area + 20) w → Quiet new → IsPrepared plan new a b
open_done plan h new a b w is state put quiet = record {
  brings = state.brings;
  quiet = quiet;
  file = put ∙ ap (overlay (seen h) (plan.area + 20)) is ∙ ap (λ x. overlay x (plan.area + 20) (bytes_of_word plan.header.order GATE_OPEN)) state.file;
}

-- whatever is written within the plan is undone
pub within_stops : (plan : Plan) (h new : History) (a b : List ℕ) → Brings plan a b → LeavesOnly h new (Within (scheme_of plan) (opened plan a))
    → LeavesOnly h new (Reopens a)
within_stops plan h new a b brings left =
    leaves_weaker h new (Within (scheme_of plan) (opened plan a)) (Reopens a) (fills_of plan a b brings).undoes left

-- with the gate open on a quiet disk a stop leaves the file as it is
pub prepared_within : (plan : Plan) (h : History) (a b : List ℕ) → IsPrepared plan h a b → (c : List ℕ) → Leaves h c → Within (scheme_of plan) (opened plan a) c
prepared_within plan h a b state c left =
    subst (Within (scheme_of plan) (opened plan a)) (sym (state.quiet c left ∙ state.file)) (within_itself (scheme_of plan) (opened plan a))

-- outside the undo area the open gate changes nothing
pub opened_beside : (plan : Plan) (a : List ℕ) (i : ℕ) → (i < plan.area) ⊎ (plan.area + plan.area_length ≤ i) → slice_index (opened plan a) i ≡ slice_index a i
opened_beside plan a i out =
    let w = bytes_of_word plan.header.order GATE_OPEN in
    let four : length w ≡ 4 = word_length plan.header.order GATE_OPEN in
    elim out [
      | inl low ↦ overlay_below a (plan.area + 20) w i (omega (arith, low))
      | inr high ↦ overlay_above a (plan.area + 20) w i (omega (arith, high, four, plan.whole_header))
    ]

-- from the old length on, as far as the transaction's image reaches, no byte is in the undo area
pub tail_beside : (plan : Plan) (a b : List ℕ) → Brings plan a b → (i : ℕ) → plan.old_length ≤ i → i < length b
    → (i < plan.area) ⊎ (plan.area + plan.area_length ≤ i)
tail_beside plan a b brings i from to = elim brings.planned.placed [
  | kept _ _ low _ ↦ inr (omega (arith, low, from))
  | fresh _ at _ ↦ inl (omega (arith, at, to))
]

-- the runs are clear of the undo area
pub runs_clear : (plan : Plan) (a b : List ℕ) → Brings plan a b → IsClear (scheme_of plan)
runs_clear plan a b brings = (fills_of plan a b brings).clear

-- so a byte of a run is outside of it
pub run_beside : (plan : Plan) (a b : List ℕ) → Brings plan a b → (i : ℕ) → 1 ≤ times plan.runs i → (i < plan.area) ⊎ (plan.area + plan.area_length ≤ i)
run_beside plan a b brings i held = elim (cases_lt i plan.area) [
  | inl low ↦ inl low
  | inr over ↦ elim (cases_lt i (plan.area + plan.area_length)) [
    | inl inside ↦ absurd (omega (arith, held, runs_clear plan a b brings i over inside))
    | inr past ↦ inr past
  ]
]

-- behind the old length the plan may write
pub tail_may : (plan : Plan) (a b : List ℕ) → Brings plan a b → MayWrite (scheme_of plan) plan.old_length plan.new_length
tail_may plan a b brings i from to = (inr from, tail_beside plan a b brings i from (omega (arith, to, brings.size)))

-- the bytes that the runs write are those of the transaction's image
pub run_bytes : (plan : Plan) (h : History) (a b : List ℕ) → IsPrepared plan h a b → (i : ℕ) → 1 ≤ times plan.runs i
    → byte_over (page_list plan.pages) (seen h) i ≡ slice_index b i
run_bytes plan h a b state i held =
    over_same (page_list plan.pages) a (seen h) i (ap (λ x. slice_index x i) state.file ∙ opened_beside plan a i (run_beside plan a b state.brings i held))
    ∙ state.brings.bytes i (inl held)

-- and so are those behind the old length, once the runs are written
pub tail_bytes : (plan : Plan) (h mid : History) (a b : List ℕ) → IsPrepared plan h a b → PutRuns b plan.runs (seen h) (seen mid)
    → (i : ℕ) → plan.old_length ≤ i → i < plan.new_length → byte_over (page_list plan.pages) (seen mid) i ≡ slice_index b i
tail_bytes plan h mid a b state put i from to =
    let within : i < length b = omega (arith, to, state.brings.size) in
    let free : times plan.runs i ≡ 0 = (elim (cases_lt 0 (times plan.runs i)) [
      | inl held ↦ (let low : i < plan.old_length = runs_inside plan.old_length i plan.runs plan.runs_end held in absurd (omega (arith, low, from)))
      | inr none ↦ omega (arith, none)
    ]) in
    over_same (page_list plan.pages) a (seen mid) i
    (put.beside i free ∙ ap (λ x. slice_index x i) state.file ∙ opened_beside plan a i (tail_beside plan a b state.brings i from within))
    ∙ state.brings.bytes i (inr (from, within))

-- then all is written
pub apply_done : (plan : Plan) (h mid new : History) (a b : List ℕ) → IsPrepared plan h a b → LeavesOnly h new (Within (scheme_of plan) (opened plan a))
    → PutRuns b plan.runs (seen h) (seen mid) → PutRange b plan.old_length plan.new_length (seen mid) (seen new) → IsApplied plan new a b
apply_done plan h mid new a b state left runs tail = record {
  brings = state.brings;
  within = leaves_now h new (Within (scheme_of plan) (opened plan a)) left;
  file =
      settled_is (scheme_of plan) b (opened plan a) (seen mid) (seen new) (subst (λ x. PutRuns b plan.runs x (seen mid)) state.file runs)
      (subst (λ (n : ℕ). PutRange b plan.old_length n (seen mid) (seen new)) (sym state.brings.size) tail);
}

-- a sync makes it last
pub settle_stops : (plan : Plan) (h new : History) (a b : List ℕ) → IsApplied plan h a b → Tried synced h new → LeavesOnly h new (Reopens a)
settle_stops plan h new a b state tried =
    leaves_weaker h new (Leaves h) (Reopens a) (λ c left. (fills_of plan a b state.brings).undoes c (state.within c left)) (leaves_sync h new tried)

pub settle_done : (plan : Plan) (h new : History) (a b : List ℕ) → IsApplied plan h a b → new ≡ called h synced → IsSettled plan new a b
settle_done plan h new a b state done = record {
  brings = state.brings;
  quiet = quiet_synced h new done;
  within = subst (Within (scheme_of plan) (opened plan a)) (sym (ap seen done)) (state.within (seen h) (leaves_seen h));
  file = ap seen done ∙ state.file;
}

-- with the gate still open the file opens to the map before, with it shut to that of the transaction
pub finish_stops : (plan : Plan) (h new : History) (a b w : List ℕ) → w ≡ bytes_of_word plan.header.order GATE_SHUT → IsSettled plan h a b
    → LeavesOnly h new (WithWord h (plan.area + 20) w) → LeavesOnly h new (λ c. Reopens a c ⊎ Reopens b c)
finish_stops plan h new a b w is state left =
    leaves_weaker h new (WithWord h (plan.area + 20) w) (λ c. Reopens a c ⊎ Reopens b c)
    (λ c with_or. elim with_or [
      | inl same ↦ inl ((fills_of plan a b state.brings).undoes c (subst (Within (scheme_of plan) (opened plan a)) (sym same) state.within))
      | inr put ↦
          let shut : c ≡ finished (scheme_of plan) a b = put ∙ ap (overlay (seen h) (plan.area + 20)) is ∙ ap (λ x. overlay x (plan.area + 20) (bytes_of_word plan.header.order GATE_SHUT)) state.file in
          inr (subst (Reopens b) (sym shut) (fills_of plan a b state.brings).becomes)
    ]) left

pub finish_done : (plan : Plan) (h new : History) (a b w : List ℕ) → w ≡ bytes_of_word plan.header.order GATE_SHUT → IsSettled plan h a b
    → seen new ≡ overlay (seen h) (plan.area + 20) w → Quiet new → IsFinished plan new a b
finish_done plan h new a b w is state put quiet = record {
  quiet = quiet;
  file = put ∙ ap (overlay (seen h) (plan.area + 20)) is ∙ ap (λ x. overlay x (plan.area + 20) (bytes_of_word plan.header.order GATE_SHUT)) state.file;
}
