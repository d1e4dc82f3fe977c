use Rattle.std.proofs.Common.{ap, sym, ◌∙◌, subst}
use Rattle.std.specs.Prelude.{IsTrue, IfOk}
use Rattle.tdb_disk.specs.History.{History, seen}
use Rattle.tdb_open.specs.Opening.{IsOpenedOn, IsCheckedOn}
use Rattle.tdb_open.specs.Opening.{OpensSafely}
use Rattle.tdb_open.specs.Notices.{UndoHeard}
use Rattle.tdb_open.proofs.Openings.{closed_reads, read_opened, read_halts, read_leaves, shut_leaves, still_safe}
use Rattle.tdb_open.proofs.Notices.{read_heard_undo, kept_heard}
use Rattle.tdb_open.proofs.opening.Opened.found.Goals as goal

-- a file that can be read alone is opened as it is
pub returns-in-Ok-clause-opened : goal.returns-in-Ok-clause-opened
returns-in-Ok-clause-opened g c told = read_opened (seen (g.D.Disk.history c.args.disk.now)) c.in-Ok.opened (c.in-Ok.ensures.can_read told) (c.in-Ok.ensures.checked told)

pub returns-in-Ok-clause-checked : goal.returns-in-Ok-clause-checked
returns-in-Ok-clause-checked g c told = subst (λ h. IsCheckedOn (seen h) c.in-Ok.opened) (sym c.in-Ok.ensures.history) (c.in-Ok.ensures.checked told)

pub returns-in-Ok-clause-reads : goal.returns-in-Ok-clause-reads
returns-in-Ok-clause-reads g c told = ap seen c.in-Ok.ensures.history ∙ sym (closed_reads (seen (g.D.Disk.history c.args.disk.now)) (c.in-Ok.ensures.can_read told).shut)

pub returns-in-Ok-clause-left : goal.returns-in-Ok-clause-left
returns-in-Ok-clause-left g c told = shut_leaves (g.D.Disk.history c.args.disk.now) (g.D.Disk.history c.inspect.new.disk) c.in-Ok.ensures.history (c.in-Ok.ensures.can_read told).shut

-- one whose gate is open is undone
pub returns-then-asks_for_undo-clause-opened : goal.returns-then-asks_for_undo-clause-opened
returns-then-asks_for_undo-clause-opened g c =
    subst (λ (h : History). IfOk c.recovered.result (λ o. IsTrue g.D.Disk.tells → IsOpenedOn (seen h) o)) c.in-Err.ensures.history c.recovered.ensures.opened

-- and one that is refused stays as it is
pub returns-clause-refused : goal.returns-clause-refused
returns-clause-refused g c told = read_halts (seen (g.D.Disk.history c.args.disk.now)) c.in-Err.halt (sym c.asks_for_undo.ensures ∙ c.if-asks_for_undo.false) (c.in-Err.ensures.refused told)

pub returns-clause-halted : goal.returns-clause-halted
returns-clause-halted g c told =
    read_leaves (g.D.Disk.history c.args.disk.now) (g.D.Disk.history c.inspect.new.disk) c.in-Err.ensures.history c.in-Err.halt (sym c.asks_for_undo.ensures ∙ c.if-asks_for_undo.false) (c.in-Err.ensures.refused told)

-- what stops leave
pub returns-in-Ok-clause-stops : goal.returns-in-Ok-clause-stops
returns-in-Ok-clause-stops g c told = still_safe (g.D.Disk.history c.args.disk.now) (g.D.Disk.history c.inspect.new.disk) c.in-Ok.ensures.history

pub returns-then-asks_for_undo-clause-stops : goal.returns-then-asks_for_undo-clause-stops
returns-then-asks_for_undo-clause-stops g c told =
    subst (λ (h : History). OpensSafely h (g.D.Disk.history c.recovered.new.disk)) c.in-Err.ensures.history (c.recovered.ensures.stops told)

pub returns-clause-stops : goal.returns-clause-stops
returns-clause-stops g c told = still_safe (g.D.Disk.history c.args.disk.now) (g.D.Disk.history c.inspect.new.disk) c.in-Err.ensures.history

-- what logs hear
pub returns-in-Ok-clause-heard : goal.returns-in-Ok-clause-heard
returns-in-Ok-clause-heard g c told = read_heard_undo (seen (g.D.Disk.history c.args.disk.now)) (g.L.Logs.logs c.args.logs.now) c.in-Ok.opened (c.in-Ok.ensures.can_read told)

pub returns-then-asks_for_undo-clause-heard : goal.returns-then-asks_for_undo-clause-heard
returns-then-asks_for_undo-clause-heard g c told =
    subst (λ (h : History). UndoHeard (seen h) (g.L.Logs.logs c.args.logs.now) (g.L.Logs.logs c.recovered.new.logs) c.recovered.result) c.in-Err.ensures.history (c.recovered.ensures.heard told)

pub returns-clause-heard : goal.returns-clause-heard
returns-clause-heard g c told =
    kept_heard (seen (g.D.Disk.history c.args.disk.now)) (g.L.Logs.logs c.args.logs.now) c.in-Err.halt (sym c.asks_for_undo.ensures ∙ c.if-asks_for_undo.false) c.in-Err.ensures.no_log (c.in-Err.ensures.refused told)
