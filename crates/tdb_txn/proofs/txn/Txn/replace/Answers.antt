-- The runs are those from the file with zeros in its undo area, and the new area is placed for them.
use Rattle.std.proofs.Common.{◌≡◌, ◌+◌, ◌<◌, ◌^◌, ℕ, List, sym, ◌∙◌, subst, arith}
use Rattle.std.proofs.lemmas.Result.{IfOk-weaker, IfErr-weaker, on_ok_weaker}
use Rattle.tdb_disk.specs.Count.{RoseBy}
use Rattle.tdb_disk.specs.History.{History, seen}
use Rattle.tdb_disk.specs.Stop.{LeavesOnly, Quiet}
use Rattle.tdb_space.specs.Extents.{Extent}
use Rattle.tdb_space.specs.Form.{form_of}
use Rattle.tdb_space.specs.Undoing.{Reopens}
use Rattle.tdb_space.specs.Runs.{ChangedRuns}
use Rattle.tdb_undo.specs.Placing.{clearing_syncs}
use Rattle.tdb_txn.specs.Answered.{AreaReplaced, PlaceRefused, ReplaceRefused}
use Rattle.tdb_txn.specs.CommitStates.{planned_plan}
use Rattle.tdb_txn.specs.Committing.{MayPlace}
use Rattle.tdb_txn.specs.EndBelow.{EndBelow}
use Rattle.tdb_txn.specs.Found.{Blanked}
use Rattle.tdb_txn.specs.Planned.{IsPlannedOn}
use Rattle.tdb_txn.specs.Txn.{txn_image, txn_size, txn_start}
use Rattle.tdb_txn.specs.declared.refusal.TxnRefusal.{TxnRefusal}
use Rattle.tdb_txn.specs.declared.refusal.TxnRefusal.TheVariants.{Full, Io, Memory}
use Rattle.tdb_txn.specs.declared.txn.Txn.{Txn}
use Rattle.tdb_txn.proofs.NewAreas.{content_short}
use Rattle.tdb_txn.proofs.PlanSyncs.{two_syncs}
use Rattle.tdb_txn.proofs.Replaced.{still_stops, both_ok, cleared, cleared_blanked, found_bytes, replaced_places, replaced_area}
use Rattle.tdb_txn.proofs.txn.Txn.replace.Goals as goal

pub returns-in_err-give_up-clause-stops : goal.returns-in_err-give_up-clause-stops
returns-in_err-give_up-clause-stops g c told quiet may has =
    still_stops (g.D.Disk.history c.args.d.now) (g.D.Disk.history c.give_up.new.d) quiet c.give_up.ensures.history may.before

pub returns-in_err-runs-clause-stops : goal.returns-in_err-runs-clause-stops
returns-in_err-runs-clause-stops g c told quiet may has =
    still_stops (g.D.Disk.history c.args.d.now) (g.D.Disk.history c.find_runs.new.d) quiet (c.find_runs.ensures.history ∙ c.give_up.ensures.history) may.before

pub returns-clause-stops : goal.returns-clause-stops
returns-clause-stops g c told quiet may has =
    let h = g.D.Disk.history c.args.d.now in
    let r = seen h in
    let given = c.in_ok-give_up.ensures in
    let t = c.give_up.new.self in
    let G = given.given_up told may has in
    let x = cleared c.args.self t r c.args.area given.only may has G given.pages in
    let changed : ChangedRuns x (txn_image t r) t.start (0, 0) c.in_ok-runs.runs =
    c.in_ok-runs.ensures.runs told x (txn_image t r)
    (subst (λ (y : History). Blanked c.args.area (seen y) x) (sym c.give_up.ensures.history) (cleared_blanked c.args.self t r c.args.area given.only may has G given.pages))
    (found_bytes c.args.self t r c.args.area given.only may has G given.pages) in
    let same : g.D.Disk.history c.find_runs.new.d ≡ h = c.find_runs.ensures.history ∙ c.give_up.ensures.history in
    subst (λ (y : History). Quiet y → (x : List ℕ) → MayPlace t (seen y) x c.in_ok-runs.runs → LeavesOnly y (g.D.Disk.history c.place_new.new.d) (Reopens (seen y))) same
    (c.place_new.ensures.stops told) quiet x (replaced_places c.args.self t r c.args.area given.only may has G given.pages c.in_ok-runs.runs changed)

pub returns-clause-planned : goal.returns-clause-planned
returns-clause-planned g c =
    let h = g.D.Disk.history c.args.d.now in
    let r = seen h in
    let t = c.give_up.new.self in
    let new = g.D.Disk.history c.place_new.new.d in
    let same : g.D.Disk.history c.find_runs.new.d ≡ h = c.find_runs.ensures.history ∙ c.give_up.ensures.history in
    IfOk-weaker c.place_new.result _ _
    (λ next p told quiet may has.
    let given = c.in_ok-give_up.ensures in
    let G = given.given_up told may has in
    let x = cleared c.args.self t r c.args.area given.only may has G given.pages in
    let changed : ChangedRuns x (txn_image t r) t.start (0, 0) c.in_ok-runs.runs =
    c.in_ok-runs.ensures.runs told x (txn_image t r)
    (subst (λ (y : History). Blanked c.args.area (seen y) x) (sym c.give_up.ensures.history) (cleared_blanked c.args.self t r c.args.area given.only may has G given.pages))
    (found_bytes c.args.self t r c.args.area given.only may has G given.pages) in (
      x,
      txn_image t r,
      subst (AreaReplaced c.args.self r c.args.area x (txn_image t r)) (sym p.1) (replaced_area c.args.self t r c.args.area given.only may has G given.pages c.in_ok-runs.runs changed),
      subst (λ (y : History). Quiet y → (x : List ℕ) → MayPlace t (seen y) x c.in_ok-runs.runs → IsPlannedOn (planned_plan next) new (seen y) (txn_image t (seen y))) same (p.0 told)
          quiet x (replaced_places c.args.self t r c.args.area given.only may has G given.pages c.in_ok-runs.runs changed),
    ))
    (both_ok c.place_new.result _ _ c.place_new.ensures.planned c.place_new.ensures.runs)

-- a refusal for want of room
refused : (old new : Txn) (r : List ℕ) (e : Extent) (x b : List ℕ) (limit : ℕ) (runs : List Extent) (refusal : TxnRefusal) → txn_size new ≡ txn_size old → txn_start new < 2 ^ 32
    → AreaReplaced old r e x b runs → EndBelow (txn_start new) runs → PlaceRefused (txn_size new) limit runs refusal → ReplaceRefused old limit r e refusal
refused old new r e x b limit runs (Full len need) size short replaced ends p = record {
  x = x;
  b = b;
  runs = runs;
  wants = replaced;
  len_is = p.0 ∙ size;
  need_is = p.1 (content_short (txn_start new) runs short replaced.changed.in_order ends);
  past = p.2;
}
refused old new r e x b limit runs Io size short replaced ends p = tt
refused old new r e x b limit runs Memory size short replaced ends p = absurd p

pub returns-clause-refusal : goal.returns-clause-refusal
returns-clause-refusal g c =
    IfErr-weaker c.place_new.result _ _
    (λ refusal p told may has.
    let r = seen (g.D.Disk.history c.args.d.now) in
    let t = c.give_up.new.self in
    let given = c.in_ok-give_up.ensures in
    let G = given.given_up told may has in
    let x = cleared c.args.self t r c.args.area given.only may has G given.pages in
    let changed : ChangedRuns x (txn_image t r) t.start (0, 0) c.in_ok-runs.runs =
    c.in_ok-runs.ensures.runs told x (txn_image t r)
    (subst (λ (y : History). Blanked c.args.area (seen y) x) (sym c.give_up.ensures.history) (cleared_blanked c.args.self t r c.args.area given.only may has G given.pages))
    (found_bytes c.args.self t r c.args.area given.only may has G given.pages) in
    refused c.args.self t r c.args.area x (txn_image t r) c.args.limit c.in_ok-runs.runs refusal given.only.size
    (omega (arith, t.longer, given.only.size, c.requires.within, c.requires.short))
    (replaced_area c.args.self t r c.args.area given.only may has G given.pages c.in_ok-runs.runs changed) c.in_ok-runs.ensures.ends p)
    c.place_new.ensures.refusal

-- two syncs for the area that is there, and three for the new one
pub returns-clause-as_often : goal.returns-clause-as_often
returns-clause-as_often g c =
    on_ok_weaker c.place_new.result
    (λ often told may has.
    let h = g.D.Disk.history c.args.d.now in
    let r = seen h in
    let t = c.give_up.new.self in
    let given = c.in_ok-give_up.ensures in
    let G = given.given_up told may has in
    let x = cleared c.args.self t r c.args.area given.only may has G given.pages in
    let changed : ChangedRuns x (txn_image t r) t.start (0, 0) c.in_ok-runs.runs =
    c.in_ok-runs.ensures.runs told x (txn_image t r)
    (subst (λ (y : History). Blanked c.args.area (seen y) x) (sym c.give_up.ensures.history) (cleared_blanked c.args.self t r c.args.area given.only may has G given.pages))
    (found_bytes c.args.self t r c.args.area given.only may has G given.pages) in
    let same : g.D.Disk.history c.find_runs.new.d ≡ h = c.find_runs.ensures.history ∙ c.give_up.ensures.history in
    let count : g.D.Disk.syncs c.find_runs.new.d ≡ g.D.Disk.syncs c.args.d.now = c.find_runs.ensures.syncs ∙ c.give_up.ensures.syncs in
    let placed : RoseBy (clearing_syncs (form_of r).order r + 3) (g.D.Disk.syncs c.find_runs.new.d) (g.D.Disk.syncs c.place_new.new.d) =
    subst (λ (y : History). (x : List ℕ) → MayPlace t (seen y) x c.in_ok-runs.runs → RoseBy (clearing_syncs (form_of (seen y)).order (seen y) + 3) (g.D.Disk.syncs c.find_runs.new.d) (g.D.Disk.syncs c.place_new.new.d)) same
    (often told) x (replaced_places c.args.self t r c.args.area given.only may has G given.pages c.in_ok-runs.runs changed) in
    subst (λ n. RoseBy n (g.D.Disk.syncs c.args.d.now) (g.D.Disk.syncs c.place_new.new.d)) (two_syncs (form_of r).order r has.some)
    (subst (λ n. RoseBy (clearing_syncs (form_of r).order r + 3) n (g.D.Disk.syncs c.place_new.new.d)) count placed))
    c.place_new.ensures.as_often
