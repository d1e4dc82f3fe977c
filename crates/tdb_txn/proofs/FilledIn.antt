-- A plan whose undo area was filled.
use Rattle.std.proofs.Common.{◌≡◌, ℕ, ◌+◌, ◌%◌, ◌<◌, ◌≤◌, ◌⊎◌, List, [], length, slice_index, refl, sym, ◌∙◌, ap, subst, inl, inr, arith}
use Rattle.std.proofs.lemmas.Bool.{cases_lt}
use Rattle.tdb_disk.specs.History.{History, seen}
use Rattle.tdb_disk.specs.Stop.{LeavesOnly, Quiet}
use Rattle.tdb_disk.proofs.Runs.{leaves_weaker}
use Rattle.tdb_words.specs.Word.{word}
use Rattle.tdb_words.proofs.Words.{word_agrees}
use Rattle.tdb_space.specs.Form.{form_of, form_in, data_start}
use Rattle.tdb_space.specs.Record.{rec_len_of}
use Rattle.tdb_space.specs.Extents.{once, times}
use Rattle.tdb_space.specs.Accepted.{Accept, AcceptWith, Shut}
use Rattle.tdb_space.specs.Exchange.{Agree}
use Rattle.tdb_space.specs.Moved.{StaysAccepted}
use Rattle.tdb_space.specs.Scheme.{Scheme}
use Rattle.tdb_space.specs.Runs.{RunsLie}
use Rattle.tdb_space.specs.Planned.{HasContent, Placed, kept, fresh, IsPlanned}
use Rattle.tdb_space.specs.Undoing.{area_at, Reopens}
use Rattle.tdb_space.proofs.Undoing.Alike.{reopens_again}
use Rattle.tdb_space.proofs.Extents.Counts.{once_in}
use Rattle.tdb_space.proofs.Form.Headers.{form_kept}
use Rattle.tdb_space.proofs.Moved.SameLists.{stays_reopens, stays_then}
use Rattle.tdb_space.proofs.Runs.Stretches.{runs_of_other, runs_lie}
use Rattle.tdb_space.proofs.Opening.Undone.{read_as_it_is}
use Rattle.tdb_undo.specs.Area.{IsAreaOf, area_of}
use Rattle.tdb_undo.specs.Content.{RunsFit, IsFilled as AreaFilled}
use Rattle.tdb_undo.specs.Growth.{GrewAtMost}
use Rattle.tdb_undo.proofs.Fills.{content_beside, all_beside, filled_stays}
use Rattle.tdb_undo.proofs.Growths.{longer_itself, quiet_grew, growth_grew}
use Rattle.tdb_txn.specs.Commit.{scheme_of}
use Rattle.tdb_txn.specs.Filling.{IsFilledFrom}
use Rattle.tdb_txn.specs.Planned.{AwaitsContent, RestsButGrown, rests, grown, IsPlannedOn}
use Rattle.tdb_txn.specs.Stock.{page_list}
use Rattle.tdb_txn.specs.declared.planned.Plan.{Plan}
use Rattle.tdb_txn.proofs.WrittenOut.{over_same}

-- the file before its undo area is filled
module _ (p : Scheme) (x b : List ℕ) (A : Accept x) (u : AwaitsContent p x b) where
  pub area_is : (area_of p.order x).at ≡ p.area
  area_is = ap (λ o. word o x 44) u.order ∙ u.there

  rec_len_is : (area_of p.order x).header.rec_len ≡ rec_len_of (form_of x).order x p.area
  rec_len_is = ap (λ at. word p.order x (at + 4)) area_is ∙ ap (λ o. word o x (p.area + 4)) u.order

  area_ends : (area_of p.order x).at + 24 + (area_of p.order x).header.rec_len ≡ p.area + p.area_length
  area_ends = omega (arith, area_is, rec_len_is, u.long)

  pub above : 172 ≤ p.area
  above = elim A.area_ok [ inl none ↦ absurd (u.some none) | inr there ↦ omega (arith, there.above, u.there) ]

  lie : RunsLie p.old_length (p.area, p.area_length) p.runs
  lie = runs_lie x b p.old_length (p.area, p.area_length) p.runs u.header (omega (arith, u.long)) u.runs

  old_inside : p.old_length ≤ length x
  old_inside = go u.placed
    where
      go : Placed (form_of x) x b p → p.old_length ≤ length x
      go (kept there long within size) = omega (arith, size, u.old_within)
      go (fresh none at size) = omega (arith, size, at, u.old_within)

  -- the runs fit into the undo area
  pub runs_fit : RunsFit (area_of p.order x) (length x) p.runs
  runs_fit = record {
    fits = omega (arith, u.fits, rec_len_is);
    beside = all_beside (area_of p.order x) (length x) p.old_length 0 p.runs old_inside u.runs.in_order lie.low (λ i from to. lie.clear i (omega (arith, from, area_is)) (omega (arith, to, area_ends)));
  }

  -- a byte that is brought in stands outside the undo area
  pub brought_outside : (i : ℕ) → (1 ≤ times p.runs i) ⊎ ((p.old_length ≤ i) × (i < length b)) → (i < p.area) ⊎ (p.area + p.area_length ≤ i)
  brought_outside i (inl held) = elim (cases_lt i p.area) [
    | inl low ↦ inl low
    | inr from ↦ elim (cases_lt i (p.area + p.area_length)) [ inl to ↦ absurd (omega (arith, held, lie.clear i from to)) | inr past ↦ inr past ]
  ]
  brought_outside i (inr (from, to)) = go u.placed
    where
      go : Placed (form_of x) x b p → (i < p.area) ⊎ (p.area + p.area_length ≤ i)
      go (kept there long within size) = inr (omega (arith, within, from))
      go (fresh none at size) = inl (omega (arith, at, to))

  -- and after it was filled
  module _ (c : List ℕ) (filled : AreaFilled p.order (area_of p.order x) p.old_length p.runs x c) where
    pub same : (i : ℕ) → (i < p.area + 8) ⊎ (((p.area + 16 ≤ i) × (i < p.area + 24)) ⊎ (p.area + p.area_length ≤ i)) → slice_index c i ≡ slice_index x i
    same i out = filled.others i (content_beside (area_of p.order x) i (elim out [
      | inl low ↦ inl (omega (arith, low, area_is))
      | inr rest ↦ inr (elim rest [ inl mid ↦ inl (omega (arith, mid.0, area_is), omega (arith, mid.1, area_is)) | inr high ↦ inr (omega (arith, high, area_ends)) ])
    ]))

    form_is : form_of c ≡ form_of x
    form_is = form_kept x c (λ i front. same i (inl (elim front [ inl low ↦ omega (arith, low, above) | inr high ↦ omega (arith, high.1, above) ])))

    order_is : p.order ≡ (form_of c).order
    order_is = u.order ∙ ap (λ g. g.order) (sym form_is)

    there : word (form_of c).order c 44 ≡ p.area
    there = ap (λ g. word g.order c 44) form_is ∙ word_agrees (form_of x).order c x 44 (λ i from to. same i (inl (omega (arith, to, above)))) ∙ u.there

    rec_len_same : rec_len_of (form_of c).order c p.area ≡ rec_len_of (form_of x).order x p.area
    rec_len_same = ap (λ g. word g.order c (p.area + 4)) form_is ∙ word_agrees (form_of x).order c x (p.area + 4) (λ i from to. same i (inl (omega (arith, to))))

    pub filled_planned : p.gate ≡ p.area + 20 → IsPlanned p c b
    filled_planned gate = record {
      some = λ none. omega (arith, none, there, above);
      there = there;
      order = order_is;
      gate = gate;
      long = omega (arith, u.long, rec_len_same);
      key_len = ap (λ o. word o c (p.area + 8)) (sym order_is) ∙ ap (λ at. word p.order c (at + 8)) (sym area_is) ∙ filled.old_length;
      data_len = ap (λ o. word o c (p.area + 12)) (sym order_is) ∙ ap (λ at. word p.order c (at + 12)) (sym area_is) ∙ filled.data_len;
      fits = omega (arith, u.fits, rec_len_same);
      content =
          subst (λ o. HasContent o c p.area_length (p.area + 24) p.runs) order_is
          (subst (λ at. HasContent p.order c p.area_length (at + 24) p.runs) area_is
          (subst (λ n. HasContent p.order c n ((area_of p.order x).at + 24) p.runs) (let e : 24 + (area_of p.order x).header.rec_len ≡ p.area_length = omega (arith, rec_len_is, u.long) in e) filled.content));
      old_above = subst (λ g. data_start g ≤ p.old_length) (sym form_is) u.old_above;
      old_words = u.old_words;
      old_within = u.old_within;
      behind = λ i from to out. same i (apart i out) ∙ u.behind i from (omega (arith, to, filled.size)) out;
      placed = subst (λ g. Placed g c b p) (sym form_is) (go u.placed);
      header = λ i front. u.header i front ∙ sym (same i (inl (elim front [ inl low ↦ omega (arith, low, above) | inr high ↦ omega (arith, high.1, above) ])));
      runs = runs_of_other x b c p.old_length (p.area, p.area_length) (p.area, p.area_length) p.runs (λ i _. refl) (λ i low _ out. same i (apart i out)) u.runs;
    }
      where
        apart : (i : ℕ) → once (p.area, p.area_length) i ≡ 0 → (i < p.area + 8) ⊎ (((p.area + 16 ≤ i) × (i < p.area + 24)) ⊎ (p.area + p.area_length ≤ i))
        apart i out = elim (cases_lt i p.area) [
          | inl low ↦ inl (omega (arith, low))
          | inr from ↦ elim (cases_lt i (p.area + p.area_length)) [
            | inl to ↦ absurd (omega (arith, out, once_in (p.area, p.area_length) i from to))
            | inr past ↦ inr (inr past)
          ]
        ]

        go : Placed (form_of x) x b p → Placed (form_of x) c b p
        go (kept at long within size) = kept at long within (filled.size ∙ size)
        go (fresh none at size) = fresh none at (filled.size ∙ size)

    read_as : IsAreaOf (form_of x).order x (area_of p.order x)
    read_as = subst (λ o. IsAreaOf (form_of x).order x (area_of o x)) (sym u.order) (record { there = refl; head = refl })

    -- it is accepted still, with all that it held
    pub stays_filled : StaysAccepted (form_of x) x c
    stays_filled =
        filled_stays (form_of x) x x c (area_of p.order x) A (longer_itself x A.sized) read_as (omega (arith, above, area_is)) (record { size = filled.size; others = filled.others })

-- what reopens to the map of a file reopens to that of one whose map it keeps
pub reopens_before : (r x c : List ℕ) → StaysAccepted (form_of r) r x → Agree r x 48 52 → Reopens x c → Reopens r c
reopens_before r x c stays number reopens =
    let shut : Shut (form_of x) x = subst (λ g. Shut g x) (sym stays.accepted.form) stays.accepted.shut in
    reopens_again r x c (stays_reopens r x stays number) (subst (λ y. Reopens y c) (sym (read_as_it_is (form_of x) x shut)) reopens)

module _ (plan : Plan) (h new : History) (r b : List ℕ) (state : IsPlannedOn plan h r b) where
  pub now_accepted : Accept (seen h)
  now_accepted = subst (λ g. AcceptWith g (seen h) []) (sym state.stays.accepted.form) state.stays.accepted

  pub form_now : form_of (seen h) ≡ form_in plan.header
  form_now = state.stays.accepted.form ∙ sym state.header

  pub has_area : area_at (form_in plan.header) (seen h) ≡ 0 → ⊥
  has_area none = state.awaits.some (ap (λ f. area_at f (seen h)) form_now ∙ none)

  -- a stop leaves a file that opens to the map before the plan
  pub fill_stops : ((a : List ℕ) → GrewAtMost a h → Accept a → form_of a ≡ form_in plan.header → LeavesOnly h new (Reopens a)) → LeavesOnly h new (Reopens r)
  fill_stops stops = go state.rest
    where
      go : RestsButGrown r h → LeavesOnly h new (Reopens r)
      go (rests quiet) =
          leaves_weaker h new (Reopens (seen h)) (Reopens r) (λ c reopens. reopens_before r (seen h) c state.stays state.sequence reopens)
          (stops (seen h) (quiet_grew h now_accepted.sized quiet) now_accepted form_now)
      go (grown old to quiet is words done) =
          let sized : length (seen old) % 4 ≡ 0 = ap (λ l. length l % 4) is ∙ state.before.sized in
          stops r (subst (λ l. GrewAtMost l h) is (growth_grew old h to sized words quiet (inr done))) state.before (sym state.header)

  -- and then the old bytes are in the undo area
  pub fill_done : AreaFilled plan.header.order (area_of plan.header.order (seen h)) plan.old_length plan.runs (seen h) (seen new) → Quiet new → IsFilledFrom plan new r b
  fill_done filled quiet =
      let p = scheme_of plan in
      let x = seen h in
      let c = seen new in
      let stays = stays_filled p x b now_accepted state.awaits c filled in
      let all : StaysAccepted (form_of r) r c = stays_then (form_of r) r x c state.stays (subst (λ g. StaysAccepted g x c) state.stays.accepted.form stays) in
      let number : Agree r c 48 52 = λ i from to. same p x b now_accepted state.awaits c filled i (inl (omega (arith, to, above p x b now_accepted state.awaits))) ∙ state.sequence i from to in
      record {
        filled = record {
          brings = record {
            before = subst (λ g. AcceptWith g c []) (sym all.accepted.form) all.accepted;
            after = state.after;
            planned = filled_planned p x b now_accepted state.awaits c filled refl;
            size = state.size;
            bytes = λ i brought. over_same (page_list plan.pages) x c i
                (same p x b now_accepted state.awaits c filled i (elim (brought_outside p x b now_accepted state.awaits i brought) [ inl low ↦ inl (omega (arith, low)) | inr high ↦ inr (inr high) ]))
                ∙ state.bytes i brought;
          };
          quiet = quiet;
          file = refl;
        };
        stays = all;
        reopens = λ d reopens. reopens_before r c d all number reopens;
      }
