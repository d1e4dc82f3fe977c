-- The undo area of a commit is kept, and the file grows.
use Rattle.std.proofs.Common.{◌≡◌, ℕ, ◌+◌, ◌%◌, ◌<◌, ◌≤◌, List, length, slice_index, refl, sym, ◌∙◌, ap, subst, inl, inr, arith}
use Rattle.std.proofs.lemmas.Bool.{cases_lt}
use Rattle.std.proofs.lemmas.List.{get_or_past}
use Rattle.tdb_disk.specs.History.{History, called, grew, seen, Tried}
use Rattle.tdb_disk.specs.Image.{padded}
use Rattle.tdb_disk.specs.Stop.{LeavesOnly, Quiet, Grown}
use Rattle.tdb_disk.proofs.Image.{length-padded}
use Rattle.tdb_disk.proofs.Runs.{leaves_quiet, leaves_tried}
use Rattle.tdb_disk.proofs.Stop.{grown_whole}
use Rattle.tdb_words.specs.Word.{word}
use Rattle.tdb_words.proofs.Words.{word_agrees}
use Rattle.tdb_space.specs.Accepted.{Accept}
use Rattle.tdb_space.specs.Form.{Form, form_of, data_start}
use Rattle.tdb_space.specs.Moved.{StaysAccepted}
use Rattle.tdb_space.specs.NewArea.{Longer}
use Rattle.tdb_space.specs.Planned.{Placed, kept}
use Rattle.tdb_space.specs.Record.{rec_len_of}
use Rattle.tdb_space.specs.Undoing.{Reopens}
use Rattle.tdb_space.proofs.Undoing.Alike.{exact_reopens}
use Rattle.tdb_space.proofs.NewArea.AreaSets.{longer_stays, grown_longer}
use Rattle.tdb_space.proofs.Gate.Contents.{area_in}
use Rattle.tdb_space.proofs.Moved.SameLists.{stays_reopens}
use Rattle.tdb_space.proofs.Runs.Stretches.{runs_of_other}
use Rattle.tdb_txn.specs.Commit.{scheme_of}
use Rattle.tdb_txn.specs.Planned.{AwaitsContent, grown, IsPlannedOn}
use Rattle.tdb_txn.specs.Planning.{KeepsArea}
use Rattle.tdb_txn.specs.Stock.{page_list}
use Rattle.tdb_txn.specs.declared.planned.Plan.{Plan}
use Rattle.tdb_txn.proofs.WrittenOut.{over_same, runs_inside}

-- an accepted file that grew by zeros reopens
pub longer_reopens : (r c : List ℕ) → Accept r → Longer r c → Reopens r c
longer_reopens r c A L = stays_reopens r c (longer_stays (form_of r) r c A L) (λ i from to. L.front i (omega (arith, to, A.long)))

module _ (plan : Plan) (r b : List ℕ) (k : KeepsArea plan r b) where
  words : plan.new_length % 4 ≡ 0
  words = ap (λ n. n % 4) k.leads.new ∙ k.leads.after.sized

  -- what a stop of the growth leaves
  grown_reopens : (c : List ℕ) → Grown (length r) plan.new_length r c → Reopens r c
  grown_reopens c g = longer_reopens r c k.leads.before (grown_longer r c plan.new_length k.leads.before.sized words g)

  pub kept_stops : (h new : History) → Quiet h → seen h ≡ r → Tried (grew plan.new_length) h new → LeavesOnly h new (Reopens r)
  kept_stops h new quiet is tried =
      leaves_tried h h new (grew plan.new_length) (Reopens r) (leaves_quiet h (Reopens r) quiet (subst (Reopens r) (sym is) (exact_reopens r k.leads.before)))
      (λ c left. grown_reopens c
      (subst (λ x. Grown (length x) plan.new_length x c) is (subst (λ x. Grown (length (seen h)) plan.new_length x c) (quiet left.0 left.1) left.2))) tried

  -- the file once it is longer
  module _ (c : List ℕ) (L : Longer r c) (size : length c ≡ length b) where
    stays : StaysAccepted (form_of r) r c
    stays = longer_stays (form_of r) r c k.leads.before L

    form_is : form_of c ≡ form_of r
    form_is = stays.accepted.form

    above : data_start (form_of r) ≤ plan.area
    above = elim k.leads.before.area_ok [ inl none ↦ absurd (k.some none) | inr in_place ↦ omega (arith, in_place.above, k.there) ]

    ends : plan.area + plan.area_length ≤ length r
    ends = elim k.leads.before.area_ok [
      | inl none ↦ absurd (k.some none)
      | inr in_place ↦
          (let at : rec_len_of (form_of r).order r (word (form_of r).order r 44) ≡ rec_len_of (form_of r).order r plan.area = ap (rec_len_of (form_of r).order r) k.there in
          omega (arith, in_place.within, k.there, k.long, at))
    ]

    there : word (form_of c).order c 44 ≡ plan.area
    there =
        ap (λ (g : Form). word g.order c 44) form_is
        ∙ word_agrees (form_of r).order c r 44 (λ i from to. L.front i (omega (arith, to, k.leads.before.long)))
        ∙ k.there

    rec_len_is : rec_len_of (form_of c).order c plan.area ≡ rec_len_of (form_of r).order r plan.area
    rec_len_is =
        ap (λ (g : Form). word g.order c (plan.area + 4)) form_is
        ∙ word_agrees (form_of r).order c r (plan.area + 4) (λ i from to. L.front i (omega (arith, to, ends, plan.whole_header)))

    -- a byte of the undo area is the same in the transaction's image
    same_area : (i : ℕ) → plan.area ≤ i → i < plan.area + plan.area_length → slice_index b i ≡ slice_index r i
    same_area i from to =
        let at : rec_len_of (form_of r).order r (word (form_of r).order r 44) ≡ rec_len_of (form_of r).order r plan.area = ap (rec_len_of (form_of r).order r) k.there in
        k.keeps.undo_area i (omega (arith, area_in (form_of r) r i k.some (omega (arith, from, k.there)) (omega (arith, to, k.there, k.long, at))))

    placed : Placed (form_of r) c b (scheme_of plan)
    placed =
        kept (word_agrees (form_of r).order b r 44 (λ i from to. k.keeps.front i (inl to)) ∙ k.there)
        (ap (λ n. 24 + n) (word_agrees (form_of r).order b r (plan.area + 4) (λ i from to. same_area i (omega (arith, from)) (omega (arith, to, plan.whole_header)))) ∙ sym k.long)
        (omega (arith, ends, k.leads.old)) size

    pub kept_awaits : AwaitsContent (scheme_of plan) c b
    kept_awaits = record {
      some = λ none. omega (arith, none, there, above);
      there = there;
      order = ap (λ (g : Form). g.order) (k.leads.header ∙ sym form_is);
      long = omega (arith, k.long, rec_len_is);
      fits = omega (arith, k.fits, rec_len_is);
      old_above = subst (λ (g : Form). data_start g ≤ plan.old_length) (sym form_is) (omega (arith, k.leads.before.long, k.leads.old));
      old_words = ap (λ n. n % 4) k.leads.old ∙ k.leads.before.sized;
      old_within = omega (arith, plan.longer, k.leads.new);
      behind = λ i from to out. L.zeros i (omega (arith, from, k.leads.old)) to;
      placed = subst (λ (g : Form). Placed g c b (scheme_of plan)) (sym form_is) placed;
      header = λ i front. k.leads.same_header i front ∙ sym (L.front i (elim front [ inl low ↦ omega (arith, low, k.leads.before.long) | inr high ↦ omega (arith, high.1, k.leads.before.long) ]));
      runs = runs_of_other r b c plan.old_length (plan.area, plan.area_length) (plan.area, plan.area_length) plan.runs (λ i _. refl) (λ i low _ _. L.front i (omega (arith, low, k.leads.old))) k.runs;
    }

    -- past its end the file has zeros, as the longer one
    same_bytes : (i : ℕ) → i < length b → slice_index c i ≡ slice_index r i
    same_bytes i low = elim (cases_lt i (length r)) [ inl inside ↦ L.front i inside | inr past ↦ L.zeros i past (omega (arith, low, size)) ∙ sym (get_or_past r i 0 past) ]

    pub kept_planned : (h new : History) → Quiet h → seen h ≡ r → new ≡ called h (grew plan.new_length) → seen new ≡ c → IsPlannedOn plan new r b
    kept_planned h new quiet is done is_c = record {
      before = k.leads.before;
      after = k.leads.after;
      header = k.leads.header;
      stays = subst (StaysAccepted (form_of r) r) (sym is_c) stays;
      sequence = λ i from to. ap (λ x. slice_index x i) is_c ∙ L.front i (omega (arith, to, k.leads.before.long));
      rest = grown h plan.new_length quiet is words done;
      awaits = subst (λ x. AwaitsContent (scheme_of plan) x b) (sym is_c) kept_awaits;
      size = sym k.leads.new;
      bytes = λ i here. (let low : i < length b = (elim here [
        | inl held ↦ omega (arith, runs_inside plan.old_length i plan.runs plan.runs_end held, plan.longer, k.leads.new)
        | inr tail ↦ tail.1
      ]) in over_same (page_list plan.pages) r (seen new) i (ap (λ x. slice_index x i) is_c ∙ same_bytes i low) ∙ sym (k.bytes i low));
    }

  -- the grown file
  pub kept_done : (h new : History) → Quiet h → seen h ≡ r → new ≡ called h (grew plan.new_length) → IsPlannedOn plan new r b
  kept_done h new quiet is done =
      let c = padded r plan.new_length in
      let L : Longer r c = grown_longer r c plan.new_length k.leads.before.sized words (grown_whole (length r) plan.new_length r refl) in
      let size : length c ≡ length b = omega (arith, length-padded r plan.new_length, plan.longer, k.leads.old, k.leads.new) in
      kept_planned c L size h new quiet is done (ap seen done ∙ ap (λ x. padded x plan.new_length) is)
