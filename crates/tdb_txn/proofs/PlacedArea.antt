-- A new undo area of a commit was placed behind the image of the transaction.
use Rattle.std.proofs.Common.{◌≡◌, ℕ, ◌+◌, ◌-◌, ◌%◌, ◌<◌, ◌≤◌, ◌⊎◌, List, length, slice_index, sym, ◌∙◌, ap, subst, inl, inr, arith}
use Rattle.std.proofs.lemmas.Bool.{cases_lt}
use Rattle.std.proofs.lemmas.List.{get_or_past}
use Rattle.tdb_disk.specs.History.{History, seen}
use Rattle.tdb_disk.specs.Stop.{Quiet}
use Rattle.tdb_words.specs.Word.{word}
use Rattle.tdb_space.specs.Extents.{times, area}
use Rattle.tdb_space.specs.Form.{Form, form_of, data_start}
use Rattle.tdb_space.specs.Moved.{StaysAccepted}
use Rattle.tdb_space.specs.Planned.{fresh}
use Rattle.tdb_space.specs.Record.{rec_len_of}
use Rattle.tdb_space.specs.Runs.{ChangedRuns, RunsLie}
use Rattle.tdb_space.proofs.Accepted.Areas.{area_within}
use Rattle.tdb_space.proofs.Extents.Counts.{once_in, once_out}
use Rattle.tdb_space.proofs.Runs.Stretches.{runs_of_other, runs_lie}
use Rattle.tdb_undo.specs.Placing.{IsPlaced}
use Rattle.tdb_txn.specs.Commit.{scheme_of}
use Rattle.tdb_txn.specs.Planned.{AwaitsContent, rests, IsPlannedOn}
use Rattle.tdb_txn.specs.Planning.{PlacesArea}
use Rattle.tdb_txn.specs.Stock.{page_list}
use Rattle.tdb_txn.specs.declared.planned.Plan.{Plan}
use Rattle.tdb_txn.proofs.WrittenOut.{over_same, runs_inside}

module _ (plan : Plan) (r x b c : List ℕ) (k : PlacesArea plan r x b) (P : IsPlaced (form_of r) r c plan.area (plan.area_length - 24)) where
  form_is : form_of c ≡ form_of r
  form_is = P.stays.accepted.form

  behind : length r ≤ plan.area
  behind = omega (arith, plan.longer, k.at, k.leads.old)

  rec_len_is : rec_len_of (form_of c).order c plan.area ≡ plan.area_length - 24
  rec_len_is = ap (λ (g : Form). word g.order c (plan.area + 4)) form_is ∙ P.set.rec_len

  there : word (form_of c).order c 44 ≡ plan.area
  there = ap (λ (g : Form). word g.order c 44) form_is ∙ P.set.there

  -- no byte of the header, and none behind the file, is in its old undo area
  free : (i : ℕ) → (i < data_start (form_of r)) ⊎ (length r ≤ i) → times (area (form_of r).order r) i ≡ 0
  free i out = elim (cases_lt 0 (times (area (form_of r).order r) i)) [
    | inl held ↦
        (let lies = area_within (form_of r) r i k.leads.before.area_ok held in
        elim out [ inl low ↦ absurd (omega (arith, low, lies.0)) | inr past ↦ absurd (omega (arith, past, lies.1)) ])
    | inr none ↦ omega (arith, none)
  ]

  -- the bytes of the file, but for the word at 44, are those that the plan was made for
  same : (i : ℕ) → i < length b → (i < 44) ⊎ (48 ≤ i) → slice_index c i ≡ slice_index x i
  same i low out = elim (cases_lt 0 (times (area (form_of r).order r) i)) [
    | inl held ↦ P.zeros i (inr held) (inl (omega (arith, low, k.at, k.leads.new))) ∙ sym (k.inside i held)
    | inr none ↦ elim (cases_lt i (length r)) [
      | inl inside ↦ P.others i inside out (omega (arith, none)) ∙ sym (k.beside i (omega (arith, none)))
      | inr past ↦ P.zeros i (inl past) (inl (omega (arith, low, k.at, k.leads.new))) ∙ sym (k.beside i (omega (arith, none)) ∙ get_or_past r i 0 past)
    ]
  ]

  old_in : plan.old_length ≤ length b
  old_in = omega (arith, plan.longer, k.leads.new)

  runs : ChangedRuns c b plan.old_length (plan.area, plan.area_length) plan.runs
  runs =
      runs_of_other x b c plan.old_length (0, 0) (plan.area, plan.area_length) plan.runs
      (λ i low. once_out (plan.area, plan.area_length) i (inl (omega (arith, low, behind, k.leads.old))) ∙ sym (once_out (0, 0) i (inr (omega arith))))
      (λ i low out _. same i (omega (arith, low, old_in)) out) k.runs

  pub placed_awaits : AwaitsContent (scheme_of plan) c b
  placed_awaits = record {
    some = λ none. omega (arith, none, there, behind, k.leads.before.long);
    there = there;
    order = ap (λ (g : Form). g.order) (k.leads.header ∙ sym form_is);
    long = omega (arith, rec_len_is, plan.whole_header);
    fits = omega (arith, k.fits, rec_len_is);
    old_above = subst (λ (g : Form). data_start g ≤ plan.old_length) (sym form_is) (omega (arith, k.leads.before.long, k.leads.old));
    old_words = ap (λ n. n % 4) k.leads.old ∙ k.leads.before.sized;
    old_within = old_in;
    behind = λ i from to out. P.zeros i (inl (omega (arith, from, k.leads.old))) (elim (cases_lt i plan.area) [
      | inl low ↦ inl (omega (arith, low))
      | inr over ↦ elim (cases_lt i (plan.area + plan.area_length)) [
        | inl inside ↦ absurd (omega (arith, out, once_in (plan.area, plan.area_length) i over inside))
        | inr past ↦ inr (omega (arith, past, plan.whole_header))
      ]
    ]);
    placed = fresh (subst (λ (g : Form). word g.order b 44 ≡ 0) (sym form_is) k.none) (k.at ∙ k.leads.new) (omega (arith, P.set.size, plan.whole_header));
    header = λ i front. k.leads.same_header i front ∙ sym (P.others i (inside i front) (beside i front) (free i (inl (low i front))));
    runs = runs;
  }
    where
      low : (i : ℕ) → (i < 44) ⊎ ((52 ≤ i) × (i < 64)) → i < data_start (form_of r)
      low i front = elim front [ inl under ↦ omega (arith, under) | inr over ↦ omega (arith, over.1) ]

      inside : (i : ℕ) → (i < 44) ⊎ ((52 ≤ i) × (i < 64)) → i < length r
      inside i front = omega (arith, low i front, k.leads.before.long)

      beside : (i : ℕ) → (i < 44) ⊎ ((52 ≤ i) × (i < 64)) → (i < 44) ⊎ (48 ≤ i)
      beside i front = elim front [ inl under ↦ inl under | inr over ↦ inr (omega (arith, over.0)) ]

  lie : RunsLie plan.old_length (plan.area, plan.area_length) plan.runs
  lie = runs_lie c b plan.old_length (plan.area, plan.area_length) plan.runs placed_awaits.header (omega (arith, plan.whole_header)) runs

  -- where something is written, the bytes are those that the plan was made for
  written : (i : ℕ) → (1 ≤ times plan.runs i) ⊎ ((plan.old_length ≤ i) × (i < length b)) → (i < length b) × ((i < 44) ⊎ (48 ≤ i))
  written i (inl held) = (
    omega (arith, runs_inside plan.old_length i plan.runs plan.runs_end held, old_in),
    elim (cases_lt i 48) [ inl under ↦ absurd (omega (arith, held, lie.front i (inl under))) | inr over ↦ inr over ],
  )
  written i (inr tail) = (tail.1, inr (omega (arith, tail.0, k.leads.before.long, k.leads.old)))

  pub placed_planned : (new : History) → Quiet new → seen new ≡ c → IsPlannedOn plan new r b
  placed_planned new quiet is_c = record {
    before = k.leads.before;
    after = k.leads.after;
    header = k.leads.header;
    stays = subst (StaysAccepted (form_of r) r) (sym is_c) P.stays;
    sequence = λ i from to. ap (λ z. slice_index z i) is_c ∙ P.others i (omega (arith, to, k.leads.before.long)) (inr from) (free i (inl (omega (arith, to))));
    rest = rests quiet;
    awaits = subst (λ z. AwaitsContent (scheme_of plan) z b) (sym is_c) placed_awaits;
    size = sym k.leads.new;
    bytes = λ i here. (let w = written i here in
        over_same (page_list plan.pages) x (seen new) i (ap (λ z. slice_index z i) is_c ∙ same i w.0 w.1) ∙ sym (k.bytes i w.0));
  }
