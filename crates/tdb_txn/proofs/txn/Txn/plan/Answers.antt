-- Each way of the plan answers rightly, and leaves a file that opens to the map before.
use Rattle.std.proofs.Common.{◌≡◌, ◌+◌, ◌<◌, ◌≤◌, ℕ, List, sym, ◌∙◌, ap, subst, inl, inr, arith}
use Rattle.std.proofs.lemmas.Result.{err_from_is_err_and}
use Rattle.tdb_disk.specs.Count.{RoseBy}
use Rattle.tdb_disk.specs.History.{History, seen}
use Rattle.tdb_words.specs.declared.word.Order.{Order}
use Rattle.tdb_space.specs.Extents.{Extent}
use Rattle.tdb_space.specs.Form.{Form, form_of}
use Rattle.tdb_space.specs.Runs.{ChangedRuns}
use Rattle.tdb_space.specs.Planned.{content_length}
use Rattle.tdb_txn.specs.Answered.{RunsRefused}
use Rattle.tdb_txn.specs.AreaExtent.{IsAreaExtent}
use Rattle.tdb_undo.specs.Placing.{clearing_syncs}
use Rattle.tdb_txn.specs.Committing.{HasAreaIn, MayCommit, MayPlace}
use Rattle.tdb_txn.specs.Txn.{txn_image, txn_start}
use Rattle.tdb_txn.specs.declared.txn.Txn.{Txn}
use Rattle.tdb_txn.proofs.Plans
use Rattle.tdb_txn.proofs.PlanSyncs.{anew_syncs, kept_syncs, replaced_syncs}
use Rattle.tdb_txn.proofs.Replaced.{still_stops}
use Rattle.tdb_txn.proofs.txn.Txn.plan.Goals as goal
use Rattle.tdb_txn.proofs.txn.Txn.plan.Goals.{else-len-eq0-via-then-len-eq0+else-self, else-len-eq0-via-else-len-eq0, then-area-eq0+in_ok-planned, else-area-eq0+then-content_len-area+in_ok-planned-2, else-area-eq0+else-content_len-area+in_ok-planned-3}

-- the undo area was found in the file's byte order
found : (txn : Txn) (r : List ℕ) (e : Extent) → MayCommit txn r → ((f : Form) → f.order ≡ txn.header.order → IsAreaExtent txn.header.order r e) → IsAreaExtent (form_of r).order r e
found txn r e may given =
    let same : txn.header.order ≡ (form_of r).order = ap (λ (f : Form). f.order) may.header in
    subst (λ (o : Order). IsAreaExtent o r e) same (given (form_of r) (sym same))

-- the runs are those of the file at first
runs_of : (txn : Txn) (e : Extent) (runs : List Extent) (h y : History) → y ≡ h → ChangedRuns (seen y) (txn_image txn (seen y)) (txn_start txn) e runs
    → ChangedRuns (seen h) (txn_image txn (seen h)) (txn_start txn) e runs
runs_of txn e runs h y same = subst (λ (z : History). ChangedRuns (seen z) (txn_image txn (seen z)) (txn_start txn) e runs) same

pub returns-in_err-area-clause-stops : goal.returns-in_err-area-clause-stops
returns-in_err-area-clause-stops g c told quiet may =
    still_stops (g.D.Disk.history c.args.d.now) (g.D.Disk.history c.find_area.new.d) quiet c.find_area.ensures.history may.before

pub returns-in_err-runs-clause-stops : goal.returns-in_err-runs-clause-stops
returns-in_err-runs-clause-stops g c told quiet may =
    still_stops (g.D.Disk.history c.args.d.now) (g.D.Disk.history c.changes.new.d) quiet (c.changes.ensures.history ∙ c.find_area.ensures.history) may.before

pub returns-in_err-runs-clause-answered : goal.returns-in_err-runs-clause-answered
returns-in_err-runs-clause-answered g c told quiet may =
    let h = g.D.Disk.history c.args.d.now in
    let r = seen h in
    let t = c.args.self in
    let e = c.in_ok-area.area in
    let is = found t r e may (λ f order. c.in_ok-area.ensures.found told (form_of r) (sym (ap (λ (f : Form). f.order) may.header)) may.before.area_ok) in
    let p = err_from_is_err_and c.from_residual-in_err-runs.result c.from_residual-in_err-runs.ensures.1 in
    rw (p.1, p.2)
    (Plans.runs_refused t c.args.limit r e is (g.D.Disk.history c.changes.new.d) c.in_err-runs.field-0.0
    (subst (λ (z : History). RunsRefused t c.args.limit (seen z) e c.in_err-runs.field-0.0) c.find_area.ensures.history (c.in_err-runs.ensures.refusal told)))

pub returns-then-self-clause-stops : goal.returns-then-self-clause-stops
returns-then-self-clause-stops g c told quiet may =
    still_stops (g.D.Disk.history c.args.d.now) (g.D.Disk.history c.changes.new.d) quiet (c.changes.ensures.history ∙ c.find_area.ensures.history) may.before

pub returns-then-self-clause-answered : goal.returns-then-self-clause-answered
returns-then-self-clause-answered g c told quiet may =
    let h = g.D.Disk.history c.args.d.now in
    let r = seen h in
    let t = c.args.self in
    let e = c.in_ok-area.area in
    let is = found t r e may (λ f order. c.in_ok-area.ensures.found told (form_of r) (sym (ap (λ (f : Form). f.order) may.header)) may.before.area_ok) in
    let changed = runs_of t e c.in_ok-runs.runs h (g.D.Disk.history c.find_area.new.d) c.find_area.ensures.history (c.in_ok-runs.ensures.runs told) in
    Plans.nothing t c.args.limit r e c.in_ok-runs.runs may is changed (sym c.len.ensures ∙ c.if-len-eq0.true) c.if-self.true

pub returns-in_err-planned-clause-stops : goal.returns-in_err-planned-clause-stops
returns-in_err-planned-clause-stops g c told quiet may =
    let h = g.D.Disk.history c.args.d.now in
    let r = seen h in
    let t = c.args.self in
    let e = c.in_ok-area.area in
    let is = found t r e may (λ f order. c.in_ok-area.ensures.found told (form_of r) (sym (ap (λ (f : Form). f.order) may.header)) may.before.area_ok) in
    let changed = runs_of t e c.in_ok-runs.runs h (g.D.Disk.history c.find_area.new.d) c.find_area.ensures.history (c.in_ok-runs.ensures.runs told) in
    Plans.place_stops t c.in_ok-runs.runs h (g.D.Disk.history c.changes.new.d) (g.D.Disk.history c.place_new.new.d) (c.changes.ensures.history ∙ c.find_area.ensures.history)
    (c.place_new.ensures.stops told) quiet r (Plans.may_place t c.args.limit r e c.in_ok-runs.runs may is changed c.if-area-eq0.true)

pub returns-in_err-planned-clause-answered : goal.returns-in_err-planned-clause-answered
returns-in_err-planned-clause-answered g c told quiet may =
    let h = g.D.Disk.history c.args.d.now in
    let r = seen h in
    let t = c.args.self in
    let e = c.in_ok-area.area in
    let is = found t r e may (λ f order. c.in_ok-area.ensures.found told (form_of r) (sym (ap (λ (f : Form). f.order) may.header)) may.before.area_ok) in
    let changed = runs_of t e c.in_ok-runs.runs h (g.D.Disk.history c.find_area.new.d) c.find_area.ensures.history (c.in_ok-runs.ensures.runs told) in
    let some = Plans.something t c.args.limit r e c.in_ok-runs.runs may is changed
    (λ empty size. elim c.else-len-eq0.branch [
      | else-len-eq0-via-then-len-eq0+else-self w ↦ w.if-self.false size
      | else-len-eq0-via-else-len-eq0 w ↦ w.if-len-eq0.false (c.len.ensures ∙ empty)
    ]) in
    let p = err_from_is_err_and c.from_residual-in_err-planned.result c.from_residual-in_err-planned.ensures.1 in
    rw (p.1, p.2)
    (Plans.first_refused t c.args.limit r e c.in_ok-runs.runs may is changed c.if-area-eq0.true (g.D.Disk.history c.place_new.new.d) c.in_err-planned.field-0.0
    (omega (arith, t.longer, c.requires.within, c.requires.short)) c.in_ok-runs.ensures.ends some c.in_err-planned.ensures.refusal)

pub returns-in_err-planned-2-clause-stops : goal.returns-in_err-planned-2-clause-stops
returns-in_err-planned-2-clause-stops g c told quiet may =
    let h = g.D.Disk.history c.args.d.now in
    let r = seen h in
    let t = c.args.self in
    let e = c.in_ok-area.area in
    let is = found t r e may (λ f order. c.in_ok-area.ensures.found told (form_of r) (sym (ap (λ (f : Form). f.order) may.header)) may.before.area_ok) in
    let changed = runs_of t e c.in_ok-runs.runs h (g.D.Disk.history c.find_area.new.d) c.find_area.ensures.history (c.in_ok-runs.ensures.runs told) in
    let there = Plans.area_there t c.args.limit r e c.in_ok-runs.runs may is changed c.if-area-eq0.false in
    let header : 24 ≤ e.1 = omega (arith, ap (λ (x : Extent). x.1) there.extent) in
    let fits : 24 + content_length c.in_ok-runs.runs ≤ e.1 =
    elim c.in_ok-area.ensures.place [ inl none ↦ absurd (c.if-area-eq0.false (ap (λ (x : Extent). x.1) none)) | inr can ↦ omega (arith, c.if-content_len-area.true, c.content_len.ensures, can.within, can.header, t.longer, c.requires.within, c.requires.short) ] in
    Plans.keep_stops t e c.in_ok-runs.runs h (g.D.Disk.history c.changes.new.d) (g.D.Disk.history c.keep.new.d) (c.changes.ensures.history ∙ c.find_area.ensures.history)
    (c.keep.ensures.stops told) quiet (Plans.may_keep t c.args.limit r e c.in_ok-runs.runs may is changed c.if-area-eq0.false fits)

pub returns-in_err-planned-3-clause-stops : goal.returns-in_err-planned-3-clause-stops
returns-in_err-planned-3-clause-stops g c told quiet may =
    let h = g.D.Disk.history c.args.d.now in
    let r = seen h in
    let t = c.args.self in
    let e = c.in_ok-area.area in
    let is = found t r e may (λ f order. c.in_ok-area.ensures.found told (form_of r) (sym (ap (λ (f : Form). f.order) may.header)) may.before.area_ok) in
    let changed = runs_of t e c.in_ok-runs.runs h (g.D.Disk.history c.find_area.new.d) c.find_area.ensures.history (c.in_ok-runs.ensures.runs told) in
    Plans.replace_stops t e h (g.D.Disk.history c.changes.new.d) (g.D.Disk.history c.replace.new.d) (c.changes.ensures.history ∙ c.find_area.ensures.history)
    (c.replace.ensures.stops told) quiet may (Plans.area_there t c.args.limit r e c.in_ok-runs.runs may is changed c.if-area-eq0.false)

pub returns-in_err-planned-3-clause-answered : goal.returns-in_err-planned-3-clause-answered
returns-in_err-planned-3-clause-answered g c told quiet may =
    let h = g.D.Disk.history c.args.d.now in
    let r = seen h in
    let t = c.args.self in
    let e = c.in_ok-area.area in
    let is = found t r e may (λ f order. c.in_ok-area.ensures.found told (form_of r) (sym (ap (λ (f : Form). f.order) may.header)) may.before.area_ok) in
    let changed = runs_of t e c.in_ok-runs.runs h (g.D.Disk.history c.find_area.new.d) c.find_area.ensures.history (c.in_ok-runs.ensures.runs told) in
    let some = Plans.something t c.args.limit r e c.in_ok-runs.runs may is changed
    (λ empty size. elim c.else-len-eq0.branch [
      | else-len-eq0-via-then-len-eq0+else-self w ↦ w.if-self.false size
      | else-len-eq0-via-else-len-eq0 w ↦ w.if-len-eq0.false (c.len.ensures ∙ empty)
    ]) in
    let there = Plans.area_there t c.args.limit r e c.in_ok-runs.runs may is changed c.if-area-eq0.false in
    let header : 24 ≤ e.1 = omega (arith, ap (λ (x : Extent). x.1) there.extent) in
    let short : e.1 < 24 + content_length c.in_ok-runs.runs = omega (arith, c.if-content_len-area.false, c.content_len.ensures, header) in
    let p = err_from_is_err_and c.from_residual-in_err-planned-3.result c.from_residual-in_err-planned-3.ensures.1 in
    rw (p.1, p.2)
    (Plans.other_refused t c.args.limit r e c.in_ok-runs.runs may is changed c.if-area-eq0.false (g.D.Disk.history c.replace.new.d) c.in_err-planned-3.field-0.0 short some
    (Plans.replace_refused t e c.args.limit c.in_err-planned-3.field-0.0 h (g.D.Disk.history c.changes.new.d) (c.changes.ensures.history ∙ c.find_area.ensures.history)
    (c.in_err-planned-3.ensures.refusal told) may there))

pub returns-clause-stops : goal.returns-clause-stops
returns-clause-stops g c told quiet may =
    let h = g.D.Disk.history c.args.d.now in
    let r = seen h in
    let t = c.args.self in
    let e = c.in_ok-area.area in
    let is = found t r e may (λ f order. c.in_ok-area.ensures.found told (form_of r) (sym (ap (λ (f : Form). f.order) may.header)) may.before.area_ok) in
    let changed = runs_of t e c.in_ok-runs.runs h (g.D.Disk.history c.find_area.new.d) c.find_area.ensures.history (c.in_ok-runs.ensures.runs told) in
    let same = c.changes.ensures.history ∙ c.find_area.ensures.history in
    elim c.if-area-eq0.branch [
      | then-area-eq0+in_ok-planned w ↦ rw w.d-is
          (Plans.place_stops t c.in_ok-runs.runs h (g.D.Disk.history c.changes.new.d) (g.D.Disk.history w.place_new.new.d) same
          (w.place_new.ensures.stops told) quiet r (Plans.may_place t c.args.limit r e c.in_ok-runs.runs may is changed w.if-area-eq0.true))
      | else-area-eq0+then-content_len-area+in_ok-planned-2 w ↦ rw w.d-is
          (let fits : 24 + content_length c.in_ok-runs.runs ≤ e.1 =
          elim c.in_ok-area.ensures.place [ inl none ↦ absurd (w.if-area-eq0.false (ap (λ (x : Extent). x.1) none)) | inr can ↦ omega (arith, w.if-content_len-area.true, w.content_len.ensures, can.within, can.header, t.longer, c.requires.within, c.requires.short) ] in
          Plans.keep_stops t e c.in_ok-runs.runs h (g.D.Disk.history c.changes.new.d) (g.D.Disk.history w.keep.new.d) same
          (w.keep.ensures.stops told) quiet (Plans.may_keep t c.args.limit r e c.in_ok-runs.runs may is changed w.if-area-eq0.false fits))
      | else-area-eq0+else-content_len-area+in_ok-planned-3 w ↦ rw w.d-is
          (Plans.replace_stops t e h (g.D.Disk.history c.changes.new.d) (g.D.Disk.history w.replace.new.d) same
          (w.replace.ensures.stops told) quiet may (Plans.area_there t c.args.limit r e c.in_ok-runs.runs may is changed w.if-area-eq0.false))
    ]

pub returns-clause-answered : goal.returns-clause-answered
returns-clause-answered g c told quiet may =
    let h = g.D.Disk.history c.args.d.now in
    let r = seen h in
    let t = c.args.self in
    let e = c.in_ok-area.area in
    let is = found t r e may (λ f order. c.in_ok-area.ensures.found told (form_of r) (sym (ap (λ (f : Form). f.order) may.header)) may.before.area_ok) in
    let changed = runs_of t e c.in_ok-runs.runs h (g.D.Disk.history c.find_area.new.d) c.find_area.ensures.history (c.in_ok-runs.ensures.runs told) in
    let same = c.changes.ensures.history ∙ c.find_area.ensures.history in
    let some = Plans.something t c.args.limit r e c.in_ok-runs.runs may is changed
    (λ empty size. elim c.else-len-eq0.branch [
      | else-len-eq0-via-then-len-eq0+else-self w ↦ w.if-self.false size
      | else-len-eq0-via-else-len-eq0 w ↦ w.if-len-eq0.false (c.len.ensures ∙ empty)
    ]) in (
      some,
      elim c.if-area-eq0.branch [
        | then-area-eq0+in_ok-planned w ↦ rw (w.d-is, w.planned-is)
            (Plans.first_ready t c.args.limit r e c.in_ok-runs.runs may is changed w.if-area-eq0.true _ (g.D.Disk.history w.place_new.new.d) w.in_ok-planned.ensures.runs
            w.in_ok-planned.ensures.length w.in_ok-planned.ensures.room
            (Plans.place_planned t c.in_ok-runs.runs _ h (g.D.Disk.history c.changes.new.d) (g.D.Disk.history w.place_new.new.d) same (w.in_ok-planned.ensures.planned told) quiet r
            (Plans.may_place t c.args.limit r e c.in_ok-runs.runs may is changed w.if-area-eq0.true)))
        | else-area-eq0+then-content_len-area+in_ok-planned-2 w ↦ rw (w.d-is, w.planned-is)
            (let fits : 24 + content_length c.in_ok-runs.runs ≤ e.1 =
            elim c.in_ok-area.ensures.place [ inl none ↦ absurd (w.if-area-eq0.false (ap (λ (x : Extent). x.1) none)) | inr can ↦ omega (arith, w.if-content_len-area.true, w.content_len.ensures, can.within, can.header, t.longer, c.requires.within, c.requires.short) ] in
            Plans.kept_ready t c.args.limit r e c.in_ok-runs.runs may is changed w.if-area-eq0.false _ (g.D.Disk.history w.keep.new.d) fits w.in_ok-planned-2.ensures.runs
            (Plans.keep_planned t e c.in_ok-runs.runs _ h (g.D.Disk.history c.changes.new.d) (g.D.Disk.history w.keep.new.d) same (w.in_ok-planned-2.ensures.planned told) quiet
            (Plans.may_keep t c.args.limit r e c.in_ok-runs.runs may is changed w.if-area-eq0.false fits)))
        | else-area-eq0+else-content_len-area+in_ok-planned-3 w ↦ rw (w.d-is, w.planned-is)
            (let there = Plans.area_there t c.args.limit r e c.in_ok-runs.runs may is changed w.if-area-eq0.false in
            let header : 24 ≤ e.1 = omega (arith, ap (λ (x : Extent). x.1) there.extent) in
            let short : e.1 < 24 + content_length c.in_ok-runs.runs = omega (arith, w.if-content_len-area.false, w.content_len.ensures, header) in
            Plans.other_ready t c.args.limit r e c.in_ok-runs.runs may is changed w.if-area-eq0.false _ (g.D.Disk.history w.replace.new.d) short
            w.in_ok-planned-3.ensures.length w.in_ok-planned-3.ensures.room
            (Plans.replace_planned t e _ h (g.D.Disk.history c.changes.new.d) (g.D.Disk.history w.replace.new.d) same (w.in_ok-planned-3.ensures.planned told) quiet may there))
      ],
    )

-- the plan is over a disk of the same history, with the same count of syncs
pub returns-clause-as_often : goal.returns-clause-as_often
returns-clause-as_often g c told may =
    let h = g.D.Disk.history c.args.d.now in
    let r = seen h in
    let t = c.args.self in
    let e = c.in_ok-area.area in
    let runs = c.in_ok-runs.runs in
    let before = g.D.Disk.syncs c.args.d.now in
    let is = found t r e may (λ f order. c.in_ok-area.ensures.found told (form_of r) (sym (ap (λ (f : Form). f.order) may.header)) may.before.area_ok) in
    let changed = runs_of t e runs h (g.D.Disk.history c.find_area.new.d) c.find_area.ensures.history (c.in_ok-runs.ensures.runs told) in
    let same = c.changes.ensures.history ∙ c.find_area.ensures.history in
    let count : g.D.Disk.syncs c.changes.new.d ≡ before = c.changes.ensures.syncs ∙ c.find_area.ensures.syncs in
    elim c.if-area-eq0.branch [
      | then-area-eq0+in_ok-planned w ↦ rw w.d-is
          (let new = g.D.Disk.syncs w.place_new.new.d in
          let placed = subst (λ (y : History). (x : List ℕ) → MayPlace t (seen y) x runs → RoseBy (clearing_syncs (form_of (seen y)).order (seen y) + 3) (g.D.Disk.syncs c.changes.new.d) new) same
          (w.in_ok-planned.ensures.as_often told) r (Plans.may_place t c.args.limit r e runs may is changed w.if-area-eq0.true) in
          anew_syncs t r e runs may is changed before new w.if-area-eq0.true (subst (λ n. RoseBy (clearing_syncs (form_of r).order r + 3) n new) count placed))
      | else-area-eq0+then-content_len-area+in_ok-planned-2 w ↦ rw w.d-is
          (let fits : 24 + content_length runs ≤ e.1 =
          elim c.in_ok-area.ensures.place [ inl none ↦ absurd (w.if-area-eq0.false (ap (λ (x : Extent). x.1) none)) | inr can ↦ omega (arith, w.if-content_len-area.true, w.content_len.ensures, can.within, can.header, t.longer, c.requires.within, c.requires.short) ] in
          kept_syncs t r e runs may is changed before (g.D.Disk.syncs w.keep.new.d) w.if-area-eq0.false fits (w.keep.ensures.syncs ∙ count))
      | else-area-eq0+else-content_len-area+in_ok-planned-3 w ↦ rw w.d-is
          (let there = Plans.area_there t c.args.limit r e runs may is changed w.if-area-eq0.false in
          let header : 24 ≤ e.1 = omega (arith, ap (λ (x : Extent). x.1) there.extent) in
          let short : e.1 < 24 + content_length runs = omega (arith, w.if-content_len-area.false, w.content_len.ensures, header) in
          let new = g.D.Disk.syncs w.replace.new.d in
          let placed = subst (λ (y : History). MayCommit t (seen y) → HasAreaIn (form_of (seen y)).order (seen y) e → RoseBy 5 (g.D.Disk.syncs c.changes.new.d) new) same
          (w.in_ok-planned-3.ensures.as_often told) may there in
          replaced_syncs t r e runs may is changed before new w.if-area-eq0.false short (subst (λ n. RoseBy 5 n new) count placed))
    ]

-- what was read, where no undo area is replaced
pub returns-in_err-planned-3-clause-reads : goal.returns-in_err-planned-3-clause-reads
returns-in_err-planned-3-clause-reads g c told may keeps =
    let h = g.D.Disk.history c.args.d.now in
    let r = seen h in
    let t = c.args.self in
    let e = c.in_ok-area.area in
    let is = found t r e may (λ f order. c.in_ok-area.ensures.found told (form_of r) (sym (ap (λ (f : Form). f.order) may.header)) may.before.area_ok) in
    let changed = runs_of t e c.in_ok-runs.runs h (g.D.Disk.history c.find_area.new.d) c.find_area.ensures.history (c.in_ok-runs.ensures.runs told) in
    let there = Plans.area_there t c.args.limit r e c.in_ok-runs.runs may is changed c.if-area-eq0.false in
    absurd (omega (arith, c.if-content_len-area.false, c.content_len.ensures, keeps e c.in_ok-runs.runs there changed))

pub returns-clause-reads : goal.returns-clause-reads
returns-clause-reads g c told may keeps =
    let h = g.D.Disk.history c.args.d.now in
    let r = seen h in
    let t = c.args.self in
    let e = c.in_ok-area.area in
    let runs = c.in_ok-runs.runs in
    let before = g.D.Disk.bytes_read c.args.d.now in
    let is = found t r e may (λ f order. c.in_ok-area.ensures.found told (form_of r) (sym (ap (λ (f : Form). f.order) may.header)) may.before.area_ok) in
    let changed = runs_of t e runs h (g.D.Disk.history c.find_area.new.d) c.find_area.ensures.history (c.in_ok-runs.ensures.runs told) in
    elim c.if-area-eq0.branch [
      | then-area-eq0+in_ok-planned w ↦ rw w.d-is (record {
        no_more = omega (arith, c.find_area.ensures.bytes_read.no_more, c.changes.ensures.bytes_read.no_more, w.place_new.ensures.bytes_read.no_more);
        never_falls = omega (arith, c.find_area.ensures.bytes_read.never_falls, c.changes.ensures.bytes_read.never_falls, w.place_new.ensures.bytes_read.never_falls);
      })
      | else-area-eq0+then-content_len-area+in_ok-planned-2 w ↦ rw w.d-is (record {
        no_more = omega (arith, c.find_area.ensures.bytes_read.no_more, c.changes.ensures.bytes_read.no_more, w.keep.ensures.bytes_read);
        never_falls = omega (arith, c.find_area.ensures.bytes_read.never_falls, c.changes.ensures.bytes_read.never_falls, w.keep.ensures.bytes_read);
      })
      | else-area-eq0+else-content_len-area+in_ok-planned-3 w ↦
          (let there = Plans.area_there t c.args.limit r e runs may is changed w.if-area-eq0.false in
          absurd (omega (arith, w.if-content_len-area.false, w.content_len.ensures, keeps e runs there changed)))
    ]
