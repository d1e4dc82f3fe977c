use Rattle.std.proofs.Common.{rules, refl, ◌≡◌, ℕ, ◌%◌, List, Err, None, Some, length, ap, sym, ◌∙◌, subst, inl, inr}
use Rattle.std.specs.Prelude.{IsTrue, if◌then◌else◌}
use Rattle.std.proofs.lemmas.Result.{IfOk-weaker, IfErr-weaker}
use Rattle.tdb_disk.specs.History.{History, seen}
use Rattle.tdb_disk.specs.Stop.{Quiet}
use Rattle.tdb_space.specs.Form.{Form, form_in, form_of}
use Rattle.tdb_space.specs.Opening.{entries, is_open, restored}
use Rattle.tdb_space.specs.OpeningFault.{opening_fault}
use Rattle.tdb_undo.specs.Entries.{lengths}
use Rattle.tdb_undo.specs.Refusal.{Names as Tells}
use Rattle.tdb_undo.proofs.Found.{names_then}
use Rattle.tdb_open.specs.Notices.{UndoHeard}
use Rattle.tdb_open.specs.Opening.{opened_bytes, of_front, of_undo, of_log, HasOpenGate, IsOpenedOn, IsCheckedOn, Undone, HaltsRightly, HaltsAtFault, HaltLeaves}
use Rattle.tdb_open.specs.Opening.{OpensSafely}
use Rattle.tdb_open.proofs.Errors.{if_err, if_this_err, on_ok}
use Rattle.tdb_open.proofs.Openings.{front_halts, front_leaves, undo_halts, restored_halts, undone_halts, undo_leaves, undo_sound, undo_reads, undo_stops, undo_sum, still_safe, undone_opened}
use Rattle.tdb_open.proofs.Notices.{front_heard, undo_heard, undo_refused, undo_told, log_leaves}
use Rattle.tdb_open.proofs.opening.Opened.recovered.Goals as goal
use Rattle.tdb_open.proofs.opening.Opened.recovered.Goals.{After-recover}

-- the front isn't refused, whose gate is open
pub returns-in_err-header-clause-refused : goal.returns-in_err-header-clause-refused
returns-in_err-header-clause-refused g c =
    let img = seen (g.D.Disk.history c.args.disk.now) in
    if_this_err (λ halt. IsTrue g.D.Disk.tells → HaltsRightly img halt) c.from_residual.result _ (search rules)
    (λ told. front_halts img (c.requires.gate told).within c.in_err-header.field-0.0 (c.in_err-header.ensures.refused told))

pub returns-in_err-header-clause-halted : goal.returns-in_err-header-clause-halted
returns-in_err-header-clause-halted g c =
    let old = g.D.Disk.history c.args.disk.now in
    let now = g.D.Disk.history c.read_front.new.d in
    if_this_err (λ halt. IsTrue g.D.Disk.tells → HaltLeaves halt old now) c.from_residual.result _ (search rules)
    (λ told. front_leaves old now c.in_err-header.ensures.history c.in_err-header.field-0.0 (c.requires.gate told).front (c.in_err-header.ensures.refused told))

-- the file before the undo
module _ (g : _) (c : After-recover g) where
  abbrev img : List ℕ
  img = seen (g.D.Disk.history c.args.disk.now)

  abbrev f : Form
  f = form_in c.in_ok-header.header

  header_read : g.D.Disk.history c.read_front.new.d ≡ g.D.Disk.history c.args.disk.now
  header_read = c.in_ok-header.ensures.history

  module _ (told : IsTrue g.D.Disk.tells) where
    gate : HasOpenGate img
    gate = c.requires.gate told

    form : f ≡ form_of img
    form = ap form_in (c.in_ok-header.ensures.sound told).1

    -- and what an undo then left
    was_undone : (new last : History)
        → (length (seen (g.D.Disk.history c.read_front.new.d)) % 4 ≡ 0 → opening_fault f (seen (g.D.Disk.history c.read_front.new.d)) ≡ None)
        → (length (seen (g.D.Disk.history c.read_front.new.d)) % 4 ≡ 0 → seen new ≡ restored f (seen (g.D.Disk.history c.read_front.new.d)))
        → (Quiet (g.D.Disk.history c.read_front.new.d) → Quiet new) → last ≡ new → Undone (g.D.Disk.history c.args.disk.now) last
    was_undone new last sound reads quiet same =
        let old = g.D.Disk.history c.args.disk.now in
        let mid = g.D.Disk.history c.read_front.new.d in
        record {
          was = record {
            within = gate.within;
            front = gate.front;
            gate_open = gate.gate_open;
            sound = undo_sound old mid new f header_read form gate.front sound;
          };
          bytes = ap seen same ∙ undo_reads old mid new f header_read form gate.front reads;
          quiet = λ q. subst Quiet (sym same) (quiet (subst Quiet (sym header_read) q));
        }

    -- how many bytes were put back
    put_back : (n : ℕ) → (let a = seen (g.D.Disk.history c.read_front.new.d) in n ≡ (if is_open f a then lengths (entries f a) else 0)) → n ≡ lengths (entries (form_of img) img)
    put_back n sum = undo_sum (g.D.Disk.history c.args.disk.now) (g.D.Disk.history c.read_front.new.d) (g.D.Disk.history c.args.disk.now) f header_read form n gate.gate_open sum

-- an undo area that can't be undone, and a call that failed
pub returns-in_err-bytes-clause-refused : goal.returns-in_err-bytes-clause-refused
returns-in_err-bytes-clause-refused g c =
    let a = (goal.at.returns-in_err-bytes-clause-refused g c).After-recover in
    let e = c.in_err-bytes.field-0.0 in
    let now = g.D.Disk.history c.recover.new.d in
    if_this_err (λ halt. IsTrue g.D.Disk.tells → HaltsRightly (img g a) halt) c.from_residual-in_err-bytes.result _ (search rules)
    (λ told. undo_halts (img g a) (gate g a told).within (gate g a told).front e
    (names_then e (λ fault. (opening_fault (form_of (img g a)) (img g a) ≡ Some fault) × (now ≡ g.D.Disk.history c.args.disk.now)) _ (λ fault p. p.0)
    (subst (λ (q : Form × History). Tells e (λ fault. (opening_fault q.0 (seen q.1) ≡ Some fault) × (now ≡ q.1))) (λ j. (form g a told j, header_read g a j)) (c.in_err-bytes.ensures.bad told))))

pub returns-in_err-bytes-clause-halted : goal.returns-in_err-bytes-clause-halted
returns-in_err-bytes-clause-halted g c =
    let a = (goal.at.returns-in_err-bytes-clause-halted g c).After-recover in
    let e = c.in_err-bytes.field-0.0 in
    let old = g.D.Disk.history c.args.disk.now in
    let now = g.D.Disk.history c.recover.new.d in
    if_this_err (λ halt. IsTrue g.D.Disk.tells → HaltLeaves halt old now) c.from_residual-in_err-bytes.result _ (search rules)
    (λ told. undo_leaves old now e
    (subst (λ (q : Form × History). Tells e (λ fault. (opening_fault q.0 (seen q.1) ≡ Some fault) × (now ≡ q.1))) (λ j. (form g a told j, header_read g a j)) (c.in_err-bytes.ensures.bad told))
    (record {
      gate_open = (gate g a told).gate_open;
      stops = λ quiet opens mild. undo_stops old (g.D.Disk.history c.read_front.new.d) now (f g a) (header_read g a) (form g a told) (c.in_err-bytes.ensures.stops told) quiet opens (inr mild);
    }))

-- after an undo
pub returns-clause-opened : goal.returns-clause-opened
returns-clause-opened g c =
    let a = (goal.at.returns-clause-opened g c).After-recover in
    let old = g.D.Disk.history c.args.disk.now in
    let mid = g.D.Disk.history c.read_front.new.d in
    let now = g.D.Disk.history c.recover.new.d in
    IfOk-weaker c.undone.result (λ o. IsTrue g.D.Disk.tells → IsCheckedOn (seen now) o) (λ o. IsTrue g.D.Disk.tells → IsOpenedOn (seen old) o)
    (λ o checked told. undone_opened (seen old) (gate g a told).within (gate g a told).front o (seen now)
    (undo_sound old mid now (f g a) (header_read g a) (form g a told) (gate g a told).front (c.in_ok-bytes.ensures.sound told))
    (undo_reads old mid now (f g a) (header_read g a) (form g a told) (gate g a told).front (c.in_ok-bytes.ensures.restored told)) (checked told))
    c.undone.ensures.checked

pub returns-clause-checked : goal.returns-clause-checked
returns-clause-checked g c =
    let now = g.D.Disk.history c.recover.new.d in
    let last = g.D.Disk.history c.undone.new.disk in
    IfOk-weaker c.undone.result (λ o. IsTrue g.D.Disk.tells → IsCheckedOn (seen now) o) (λ o. IsTrue g.D.Disk.tells → IsCheckedOn (seen last) o)
    (λ o checked told. subst (λ h. IsCheckedOn (seen h) o) (sym c.undone.ensures.history) (checked told))
    c.undone.ensures.checked

pub returns-clause-reads : goal.returns-clause-reads
returns-clause-reads g c =
    let a = (goal.at.returns-clause-reads g c).After-recover in
    let old = g.D.Disk.history c.args.disk.now in
    let mid = g.D.Disk.history c.read_front.new.d in
    let now = g.D.Disk.history c.recover.new.d in
    on_ok c.undone.result (λ told. ap seen c.undone.ensures.history ∙ undo_reads old mid now (f g a) (header_read g a) (form g a told) (gate g a told).front (c.in_ok-bytes.ensures.restored told))

pub returns-clause-left : goal.returns-clause-left
returns-clause-left g c =
    let a = (goal.at.returns-clause-left g c).After-recover in
    on_ok c.undone.result (λ told. inl (was_undone g a told _ _ (c.in_ok-bytes.ensures.sound told) (c.in_ok-bytes.ensures.restored told) (c.in_ok-bytes.ensures.quiet told) c.undone.ensures.history))

pub returns-clause-refused : goal.returns-clause-refused
returns-clause-refused g c =
    let a = (goal.at.returns-clause-refused g c).After-recover in
    let old = g.D.Disk.history c.args.disk.now in
    let mid = g.D.Disk.history c.read_front.new.d in
    let now = g.D.Disk.history c.recover.new.d in
    IfErr-weaker c.undone.result (λ halt. IsTrue g.D.Disk.tells → HaltsAtFault (seen now) halt) (λ halt. IsTrue g.D.Disk.tells → HaltsRightly (seen old) halt)
    (λ halt at told. restored_halts (seen old) (gate g a told).within (gate g a told).front halt
    (undo_sound old mid now (f g a) (header_read g a) (form g a told) (gate g a told).front (c.in_ok-bytes.ensures.sound told))
    (subst (λ i. HaltsAtFault i halt) (undo_reads old mid now (f g a) (header_read g a) (form g a told) (gate g a told).front (c.in_ok-bytes.ensures.restored told)) (at told)))
    c.undone.ensures.refused

pub returns-clause-halted : goal.returns-clause-halted
returns-clause-halted g c =
    let a = (goal.at.returns-clause-halted g c).After-recover in
    let old = g.D.Disk.history c.args.disk.now in
    let now = g.D.Disk.history c.undone.new.disk in
    if_err (λ halt. IsTrue g.D.Disk.tells → HaltLeaves halt old now) c.undone.result
    (λ halt told. undone_halts halt old now (was_undone g a told _ _ (c.in_ok-bytes.ensures.sound told) (c.in_ok-bytes.ensures.restored told) (c.in_ok-bytes.ensures.quiet told) c.undone.ensures.history))

-- what stops leave
pub returns-in_err-header-clause-stops : goal.returns-in_err-header-clause-stops
returns-in_err-header-clause-stops g c told = still_safe (g.D.Disk.history c.args.disk.now) (g.D.Disk.history c.read_front.new.d) c.in_err-header.ensures.history

pub returns-in_err-bytes-clause-stops : goal.returns-in_err-bytes-clause-stops
returns-in_err-bytes-clause-stops g c told =
    let a = (goal.at.returns-in_err-bytes-clause-stops g c).After-recover in
    undo_stops (g.D.Disk.history c.args.disk.now) (g.D.Disk.history c.read_front.new.d) (g.D.Disk.history c.recover.new.d) (f g a) (header_read g a) (form g a told)
    (c.in_err-bytes.ensures.stops told)

pub returns-clause-stops : goal.returns-clause-stops
returns-clause-stops g c told =
    let a = (goal.at.returns-clause-stops g c).After-recover in
    subst (OpensSafely (g.D.Disk.history c.args.disk.now)) (sym c.undone.ensures.history)
    (undo_stops (g.D.Disk.history c.args.disk.now) (g.D.Disk.history c.read_front.new.d) (g.D.Disk.history c.recover.new.d) (f g a) (header_read g a) (form g a told)
    (c.in_ok-bytes.ensures.stops told))

-- a log refuses to be told of the undo
pub returns-in_err-note-clause-halted : goal.returns-in_err-note-clause-halted
returns-in_err-note-clause-halted g c =
    let a = (goal.at.returns-in_err-note-clause-halted g c).After-recover in
    let old = g.D.Disk.history c.args.disk.now in
    let now = g.D.Disk.history c.recover.new.d in
    if_this_err (λ halt. IsTrue g.D.Disk.tells → HaltLeaves halt old now) c.from_residual-in_err-note.result _ (search rules)
    (λ told. log_leaves c.in_err-note.field-0.0 old now (inl (was_undone g a told now now (c.in_ok-bytes.ensures.sound told) (c.in_ok-bytes.ensures.restored told) (c.in_ok-bytes.ensures.quiet told) refl)))

pub returns-in_err-note-clause-stops : goal.returns-in_err-note-clause-stops
returns-in_err-note-clause-stops g c told =
    let a = (goal.at.returns-in_err-note-clause-stops g c).After-recover in
    undo_stops (g.D.Disk.history c.args.disk.now) (g.D.Disk.history c.read_front.new.d) (g.D.Disk.history c.recover.new.d) (f g a) (header_read g a) (form g a told)
    (c.in_ok-bytes.ensures.stops told)

-- what logs hear
pub returns-in_err-header-clause-heard : goal.returns-in_err-header-clause-heard
returns-in_err-header-clause-heard g c told =
    let img = seen (g.D.Disk.history c.args.disk.now) in
    let logs = g.L.Logs.logs c.args.logs.now in
    let is : c.from_residual.result ≡ Err (of_front c.in_err-header.field-0.0) = search rules in
    subst (UndoHeard img logs logs) (sym is) (front_heard img logs c.in_err-header.field-0.0 (c.requires.gate told).front (c.in_err-header.ensures.refused told))

pub returns-in_err-bytes-clause-heard : goal.returns-in_err-bytes-clause-heard
returns-in_err-bytes-clause-heard g c told =
    let a = (goal.at.returns-in_err-bytes-clause-heard g c).After-recover in
    let e = c.in_err-bytes.field-0.0 in
    let now = g.D.Disk.history c.recover.new.d in
    let logs = g.L.Logs.logs c.args.logs.now in
    let is : c.from_residual-in_err-bytes.result ≡ Err (of_undo e) = search rules in
    subst (UndoHeard (img g a) logs logs) (sym is) (undo_heard (img g a) logs e
    (names_then e (λ fault. (opening_fault (form_of (img g a)) (img g a) ≡ Some fault) × (now ≡ g.D.Disk.history c.args.disk.now)) _ (λ fault p. p.0)
    (subst (λ (q : Form × History). Tells e (λ fault. (opening_fault q.0 (seen q.1) ≡ Some fault) × (now ≡ q.1))) (λ j. (form g a told j, header_read g a j)) (c.in_err-bytes.ensures.bad told))))

pub returns-in_err-note-clause-heard : goal.returns-in_err-note-clause-heard
returns-in_err-note-clause-heard g c told =
    let a = (goal.at.returns-in_err-note-clause-heard g c).After-recover in
    let e = c.in_err-note.field-0.0 in
    let now = g.D.Disk.history c.recover.new.d in
    let old_logs = g.L.Logs.logs c.args.logs.now in
    let logs = g.L.Logs.logs c.note.new.self in
    let is : c.from_residual-in_err-note.result ≡ Err (of_log e) = search rules in
    subst (UndoHeard (img g a) old_logs logs) (sym is)
    (undo_refused (img g a) (was_undone g a told now now (c.in_ok-bytes.ensures.sound told) (c.in_ok-bytes.ensures.restored told) (c.in_ok-bytes.ensures.quiet told) refl).was
    c.in_ok-bytes.bytes (put_back g a told c.in_ok-bytes.bytes (c.in_ok-bytes.ensures.sum told)) e old_logs logs c.in_err-note.ensures.refused)

pub returns-clause-heard : goal.returns-clause-heard
returns-clause-heard g c told =
    let a = (goal.at.returns-clause-heard g c).After-recover in
    let old = g.D.Disk.history c.args.disk.now in
    let mid = g.D.Disk.history c.read_front.new.d in
    let now = g.D.Disk.history c.recover.new.d in
    undo_told (img g a) (was_undone g a told now now (c.in_ok-bytes.ensures.sound told) (c.in_ok-bytes.ensures.restored told) (c.in_ok-bytes.ensures.quiet told) refl).was
    c.in_ok-bytes.bytes (put_back g a told c.in_ok-bytes.bytes (c.in_ok-bytes.ensures.sum told)) (g.L.Logs.logs c.args.logs.now) (g.L.Logs.logs c.note.new.self) c.undone.result c.in_ok-note.ensures.taken
    (IfErr-weaker c.undone.result (λ halt. IsTrue g.D.Disk.tells → HaltsAtFault (seen now) halt) (λ halt. HaltsAtFault (opened_bytes (img g a)) halt)
    (λ halt at. subst (λ i. HaltsAtFault i halt) (undo_reads old mid now (f g a) (header_read g a) (form g a told) (gate g a told).front (c.in_ok-bytes.ensures.restored told)) (at told))
    c.undone.ensures.refused)
