use Rattle.std.proofs.Common.{sym, subst}
use Rattle.std.specs.Prelude.{IsTrue, IfOk}
use Rattle.tdb_disk.specs.History.{History, seen}
use Rattle.tdb_open.specs.Opening.{IsCheckedOn}
use Rattle.tdb_open.proofs.Openings.{still_safe}
use Rattle.tdb_open.specs.Loading.{OpeningHeardBy}
use Rattle.tdb_open.proofs.ToTurn.{read_result, turn_result}
use Rattle.tdb_open.proofs.loading.open_as_asked.Goals as goal

-- it is read alone
pub returns-then-options-clause-checked : goal.returns-then-options-clause-checked
returns-then-options-clause-checked g c =
    subst (λ (h : History). IfOk c.open_to_read.result (λ o. IsTrue g.D.Disk.tells → IsCheckedOn (seen h) o)) (sym c.open_to_read.ensures.history) c.open_to_read.ensures.checked

pub returns-then-options-clause-opened : goal.returns-then-options-clause-opened
returns-then-options-clause-opened g c told within =
    read_result c.args.options.now (g.D.Disk.history c.args.disk.now) (g.D.Disk.history c.open_to_read.new.disk) within (IsTrue g.D.Disk.tells) told c.open_to_read.result c.if-options.true c.open_to_read.ensures.history c.open_to_read.ensures.can_read c.open_to_read.ensures.refused

-- it is undone where that has to be
pub returns-clause-opened : goal.returns-clause-opened
returns-clause-opened g c told within =
    turn_result c.args.options.now (g.D.Disk.history c.args.disk.now) (g.D.Disk.history c.open.new.disk) within (IsTrue g.D.Disk.tells) told c.open.result c.if-options.false c.open.ensures.opened c.open.ensures.reads c.open.ensures.left c.open.ensures.refused c.open.ensures.halted

-- what stops leave
pub returns-then-options-clause-stops : goal.returns-then-options-clause-stops
returns-then-options-clause-stops g c told = still_safe (g.D.Disk.history c.args.disk.now) (g.D.Disk.history c.open_to_read.new.disk) c.open_to_read.ensures.history

pub returns-clause-stops : goal.returns-clause-stops
returns-clause-stops g c told = c.open.ensures.stops told

-- what logs heard
pub returns-then-options-clause-heard : goal.returns-then-options-clause-heard
returns-then-options-clause-heard g c told within =
    subst (λ b. OpeningHeardBy b (seen (g.D.Disk.history c.args.disk.now)) (g.L.Logs.logs c.args.logs.now) (g.L.Logs.logs c.open_to_read.new.logs) c.open_to_read.result) (sym c.if-options.true) (c.open_to_read.ensures.heard told)

pub returns-clause-heard : goal.returns-clause-heard
returns-clause-heard g c told within =
    subst (λ b. OpeningHeardBy b (seen (g.D.Disk.history c.args.disk.now)) (g.L.Logs.logs c.args.logs.now) (g.L.Logs.logs c.open.new.logs) c.open.result) (sym c.if-options.false) (c.open.ensures.heard told)
