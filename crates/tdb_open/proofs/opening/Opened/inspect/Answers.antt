use Rattle.std.proofs.Common.{rules, ◌≡◌, ◌≤◌, List, ℕ, Bool, Ok, None, Some, length, ap, sym, ◌∙◌, subst, arith}
use Rattle.std.specs.Prelude.{IsTrue, IfOk, ◌≢◌}
use Rattle.tdb_disk.specs.History.{History, seen}
use Rattle.tdb_words.specs.Header.{header_at}
use Rattle.tdb_space.specs.Form.{Form, form_in, form_of}
use Rattle.tdb_space.specs.Accepted.{Accept}
use Rattle.tdb_space.specs.FirstFault.{front_fault, IsFirstFault}
use Rattle.tdb_space.specs.Opening.{is_open}
use Rattle.tdb_check.specs.Front.{Refuses}
use Rattle.tdb_check.specs.Report.{Counted}
use Rattle.tdb_check.specs.Seen.{Names}
use Rattle.tdb_undo.specs.Refusal.{Names as Tells}
use Rattle.tdb_undo.specs.Area.{place_fault}
use Rattle.tdb_open.specs.declared.limits.TheConstants.{LONGEST_FILE}
use Rattle.tdb_open.specs.Opening.{ReadHaltsRightly}
use Rattle.tdb_open.proofs.Errors.{if_this_err}
use Rattle.tdb_open.specs.declared.halt.Halt.TheVariants.{Log}
use Rattle.tdb_open.proofs.Openings.{front_read, place_read, check_read, can_read, front_no_log, undo_no_log, check_no_log}
use Rattle.tdb_open.proofs.opening.Opened.inspect.Goals as goal
use Rattle.tdb_open.proofs.opening.Opened.inspect.Goals.{After-needs_recovery}

-- a front that is refused
pub returns-in_err-header-clause-refused : goal.returns-in_err-header-clause-refused
returns-in_err-header-clause-refused g c =
    let img = seen (g.D.Disk.history c.args.disk.now) in
    if_this_err (λ halt. IsTrue g.D.Disk.tells → ReadHaltsRightly img halt) c.from_residual-in_err-header.result _ (search rules)
    (λ told. front_read img
    (omega (arith, g.met.D.Disk.told_size c.args.disk.now told, c.in_ok-len.ensures.length, c.if-len-gt-LONGEST_FILE.false))
    c.in_err-header.field-0.0
    (subst (λ h. Refuses (seen h) c.in_err-header.field-0.0) c.in_ok-len.ensures.history (c.in_err-header.ensures.refused told)))

-- a file with a sound front, whose undo area was looked at: nothing was written
module _ (g : _) (c : After-needs_recovery g) where
  abbrev img : List ℕ
  img = seen (g.D.Disk.history c.args.disk.now)

  abbrev f : Form
  f = form_in c.in_ok-header.header

  header_read : g.D.Disk.history c.read_front.new.d ≡ g.D.Disk.history c.args.disk.now
  header_read = c.in_ok-header.ensures.history ∙ c.in_ok-len.ensures.history

  area_read : g.D.Disk.history c.needs_recovery.new.d ≡ g.D.Disk.history c.args.disk.now
  area_read = c.needs_recovery.ensures.still ∙ header_read

  module _ (told : IsTrue g.D.Disk.tells) where
    within : length img ≤ LONGEST_FILE
    within = omega (arith, g.met.D.Disk.told_size c.args.disk.now told, c.in_ok-len.ensures.length, c.if-len-gt-LONGEST_FILE.false)

    front : front_fault img ≡ None
    front = subst (λ h. front_fault (seen h) ≡ None) c.in_ok-len.ensures.history (c.in_ok-header.ensures.sound told).0

    says : c.in_ok-header.header ≡ header_at img
    says = (c.in_ok-header.ensures.sound told).1 ∙ ap (λ h. header_at (seen h)) c.in_ok-len.ensures.history

    form : f ≡ form_of img
    form = ap form_in says

    -- what the look at it told
    place_sound : (b : Bool) → c.needs_recovery.result ≡ Ok b → (place_fault (form_of img) img ≡ None) × (b ≡ is_open (form_of img) img)
    place_sound b is =
        subst (λ (q : Form × History). (place_fault q.0 (seen q.1) ≡ None) × (b ≡ is_open q.0 (seen q.1))) (λ j. (form j, header_read j))
        (subst (λ r. IfOk r (λ b. IsTrue g.D.Disk.tells → (place_fault f (seen (g.D.Disk.history c.read_front.new.d)) ≡ None) × (b ≡ is_open f (seen (g.D.Disk.history c.read_front.new.d))))) is c.needs_recovery.ensures.gate told)

-- an undo area that can't stand where it is
pub returns-in_err-needs_recovery-clause-refused : goal.returns-in_err-needs_recovery-clause-refused
returns-in_err-needs_recovery-clause-refused g c =
    let a = (goal.at.returns-in_err-needs_recovery-clause-refused g c).After-needs_recovery in
    if_this_err (λ halt. IsTrue g.D.Disk.tells → ReadHaltsRightly (img g a) halt) c.from_residual-in_err-needs_recovery.result _ (search rules)
    (λ told. place_read (img g a) (within g a told) (front g a told) c.in_err-needs_recovery.field-0.0
    (subst (λ (q : Form × History). Tells c.in_err-needs_recovery.field-0.0 (λ fault. place_fault q.0 (seen q.1) ≡ Some fault)) (λ j. (form g a told j, header_read g a j)) (c.in_err-needs_recovery.ensures.bad told)))

-- an open gate
pub returns-then-branch-clause-refused : goal.returns-then-branch-clause-refused
returns-then-branch-clause-refused g c told =
    let a = (goal.at.returns-then-branch-clause-refused g c).After-needs_recovery in
    record {
      within = within g a told;
      front = front g a told;
      gate_open = sym (place_sound g a told c.in_ok-needs_recovery.field-0 (search rules)).1 ∙ c.if-branch.true;
    }

-- the check finds a fault
pub returns-in_err-report-clause-refused : goal.returns-in_err-report-clause-refused
returns-in_err-report-clause-refused g c =
    let a = (goal.at.returns-in_err-report-clause-refused g c).After-needs_recovery in
    if_this_err (λ halt. IsTrue g.D.Disk.tells → ReadHaltsRightly (img g a) halt) c.from_residual-in_err-report.result _ (search rules)
    (λ told.
    let place = place_sound g a told c.in_ok-needs_recovery.field-0 (search rules) in
    check_read (img g a) (within g a told) (front g a told) c.in_err-report.field-0.0 place.0 (sym place.1 ∙ c.if-branch.false)
    (subst (λ h. Names c.in_err-report.field-0.0 (IsFirstFault (seen h))) (area_read g a)
    (c.in_err-report.ensures.first_fault told (λ fine. form g a told ∙ ap (λ h. form_of (seen h)) (sym (area_read g a))))))

-- the file is accepted
pub returns-clause-can_read : goal.returns-clause-can_read
returns-clause-can_read g c told =
    let a = (goal.at.returns-clause-can_read g c).After-needs_recovery in
    let place = place_sound g a told c.in_ok-needs_recovery.field-0 (search rules) in
    let found = subst (λ h. Accept (seen h) × Counted (seen h) c.in_ok-report.report) (area_read g a)
    (c.in_ok-report.ensures.accepted told (λ fine. form g a told ∙ ap (λ h. form_of (seen h)) (sym (area_read g a)))) in
    can_read (img g a) (within g a told) (front g a told) place.0 (sym place.1 ∙ c.if-branch.false) found.0

pub returns-clause-checked : goal.returns-clause-checked
returns-clause-checked g c told =
    let a = (goal.at.returns-clause-checked g c).After-needs_recovery in
    let found = subst (λ h. Accept (seen h) × Counted (seen h) c.in_ok-report.report) (area_read g a)
    (c.in_ok-report.ensures.accepted told (λ fine. form g a told ∙ ap (λ h. form_of (seen h)) (sym (area_read g a)))) in
    record { accepted = found.0; header = says g a told; counted = found.1 }

-- no log was told anything
pub returns-in_err-header-clause-no_log : goal.returns-in_err-header-clause-no_log
returns-in_err-header-clause-no_log g c = if_this_err (λ halt. halt ≢ Log) c.from_residual-in_err-header.result _ (search rules) (front_no_log c.in_err-header.field-0.0)

pub returns-in_err-needs_recovery-clause-no_log : goal.returns-in_err-needs_recovery-clause-no_log
returns-in_err-needs_recovery-clause-no_log g c = if_this_err (λ halt. halt ≢ Log) c.from_residual-in_err-needs_recovery.result _ (search rules) (undo_no_log c.in_err-needs_recovery.field-0.0)

pub returns-in_err-report-clause-no_log : goal.returns-in_err-report-clause-no_log
returns-in_err-report-clause-no_log g c = if_this_err (λ halt. halt ≢ Log) c.from_residual-in_err-report.result _ (search rules) (check_no_log c.in_err-report.field-0.0)
