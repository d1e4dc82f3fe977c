use Rattle.std.proofs.Common.{[], sym, subst}
use Rattle.tdb_disk.specs.History.{seen}
use Rattle.tdb_open.specs.Opening.{CanRead, IsCheckedOn}
use Rattle.tdb_open.specs.Notices.{ReadingHeard}
use Rattle.tdb_answer.specs.Heard.{ToldFor}
use Rattle.tdb_answer.specs.Looks.{ending_of}
use Rattle.tdb_answer.proofs.Hearing.{opened_alone, halted_heard}
use Rattle.tdb_answer.proofs.look.look_on_disk.Goals as goal

-- what was opened is as it was
pub look_into-requires-clause-can_read : goal.look_into-requires-clause-can_read
look_into-requires-clause-can_read g c told = subst (λ h. CanRead (seen h)) (sym c.in-Ok.ensures.history) (c.in-Ok.ensures.can_read told)

pub look_into-requires-clause-opened : goal.look_into-requires-clause-opened
look_into-requires-clause-opened g c told = subst (λ h. IsCheckedOn (seen h) c.in-Ok.opened) (sym c.in-Ok.ensures.history) (c.in-Ok.ensures.checked told)

-- what logs heard of it
pub returns-in-Ok-clause-heard : goal.returns-in-Ok-clause-heard
returns-in-Ok-clause-heard g c told =
    opened_alone (seen (g.D.Disk.history c.args.disk.now)) (ReadingHeard (seen (g.D.Disk.history c.args.disk.now))) (ending_of c.look_into.result) c.in-Ok.opened (g.L.Logs.logs c.args.logs.now) (g.L.Logs.logs c.open_to_read.new.logs) (c.in-Ok.ensures.checked told).counted (c.in-Ok.ensures.heard told) c.look_into.ensures.unlogged

pub returns-in-Err-clause-heard : goal.returns-in-Err-clause-heard
returns-in-Err-clause-heard g c told =
    halted_heard (seen (g.D.Disk.history c.args.disk.now)) (ReadingHeard (seen (g.D.Disk.history c.args.disk.now))) c.in-Err.halt c.from.result (ToldFor c.from.result []) (g.L.Logs.logs c.args.logs.now) (g.L.Logs.logs c.open_to_read.new.logs) (c.in-Err.ensures.heard told) c.from.ensures
