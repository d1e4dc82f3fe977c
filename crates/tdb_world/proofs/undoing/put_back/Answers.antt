-- A file that opens has an undo area without a fault, if any.
use Rattle.std.proofs.Common.{◌≡◌}
use Rattle.tdb_disk.specs.History.{seen}
use Rattle.tdb_space.specs.Form.{form_in}
use Rattle.tdb_world.proofs.GateUndone.{never_bad}
use Rattle.tdb_world.proofs.undoing.put_back.Goals as goal

pub returns-in-Err-UndoBad-clause-syncs : goal.returns-in-Err-UndoBad-clause-syncs
returns-in-Err-UndoBad-clause-syncs g c told is opens =
    let e = c.in-Err-UndoBad in
    let h = g.D.Disk.history c.args.d.now in
    absurd (never_bad (form_in c.args.header.now) (seen h) e.field-0 e.field-0-0 e.field-0-1 (g.D.Disk.history c.recover.new.d ≡ h) is opens e.field-0-is (e.ensures.bad told))
