use Rattle.std.proofs.Common.{◌≡◌, ◌∙◌, refl, sym, subst}
use Rattle.tdb_disk.specs.History.{Tried, seen, synced}
use Rattle.tdb_mend.proofs.Overlays.{synced_same}
use Rattle.tdb_answer.specs.Commands.Backup.{CountedBoth}
use Rattle.tdb_answer.specs.Commands.Mend.{IsReadAs, IsMended, MendLeft}
use Rattle.tdb_answer.specs.Damaged.{CanMend}
use Rattle.tdb_answer.proofs.Mending.{mend_halted, halted_unmended, mended_counted}
use Rattle.tdb_answer.proofs.commands.mend.mend_disk.Goals as goal
use Rattle.tdb_answer.proofs.commands.mend.mend_disk.Goals.{After-read_damaged}

-- the file has the bytes that it had
same : (g : _) (c : After-read_damaged g) → seen (g.F.D.Disk.history c.read_damaged.new.disk) ≡ seen (g.F.D.Disk.history c.args.from.now)
same g c = synced_same (g.F.D.Disk.history c.args.from.now) (g.F.D.Disk.history c.read_damaged.new.disk) c.read_damaged.ensures.tried

pub mend_to-requires-clause-sized : goal.mend_to-requires-clause-sized
mend_to-requires-clause-sized g c = c.read_damaged.ensures.size ∙ sym c.in-Ok.ensures.length

pub mend_to-requires-clause-can_mend : goal.mend_to-requires-clause-can_mend
mend_to-requires-clause-can_mend g c told = subst CanMend (sym (same g ((goal.at.mend_to-requires-clause-can_mend g c).After-read_damaged))) (c.in-Ok.ensures.can_mend told)

pub mend_to-requires-clause-read : goal.mend_to-requires-clause-read
mend_to-requires-clause-read g c told = subst (IsReadAs c.in-Ok.read) (sym (same g ((goal.at.mend_to-requires-clause-read g c).After-read_damaged))) (c.in-Ok.ensures.read told)

-- the new file was made
pub returns-in-Ok-mend_to-clause-made : goal.returns-in-Ok-mend_to-clause-made
returns-in-Ok-mend_to-clause-made g c told =
    let a = (goal.at.returns-in-Ok-mend_to-clause-made g c).After-read_damaged in
    let held = g.F.Files.held in
    subst (λ img. IsMended img (held c.args.files.now c.args.new.now) (held c.mend_to.new.files c.args.new.now)) (same g a) (c.in-Ok-mend_to.ensures.made told)

pub returns-in-Ok-mend_to-clause-changed : goal.returns-in-Ok-mend_to-clause-changed
returns-in-Ok-mend_to-clause-changed g c told = c.bytes_changed-changed.ensures ∙ (c.in-Ok.ensures.read told).bytes

pub returns-in-Ok-mend_to-clause-tried : goal.returns-in-Ok-mend_to-clause-tried
returns-in-Ok-mend_to-clause-tried g c = subst (Tried synced (g.F.D.Disk.history c.args.from.now)) (sym c.mend_to.ensures.kept) c.read_damaged.ensures.tried

pub returns-in-Ok-mend_to-clause-counted : goal.returns-in-Ok-mend_to-clause-counted
returns-in-Ok-mend_to-clause-counted g c =
    mended_counted (g.F.D.Disk.faults c.args.from.now) (g.F.D.Disk.faults c.read_damaged.new.disk) (g.F.D.Disk.faults c.mend_to.new.from) (g.F.Files.faults c.args.files.now) (g.F.Files.faults c.mend_to.new.files)
    c.in-Ok.ensures.cause.done c.in-Ok-mend_to.ensures.counted

-- it wasn't
pub returns-in-Ok-clause-refused : goal.returns-in-Ok-clause-refused
returns-in-Ok-clause-refused g c told =
    let a = (goal.at.returns-in-Ok-clause-refused g c).After-read_damaged in
    let held = g.F.Files.held in
    subst (λ img. MendLeft img c.args.new.now (held c.args.files.now c.args.new.now) c.in-Err-mend_to.ending (held c.mend_to.new.files c.args.new.now)) (same g a) (c.in-Err-mend_to.ensures.refused told)

pub returns-in-Ok-clause-known : goal.returns-in-Ok-clause-known
returns-in-Ok-clause-known g c = c.in-Err-mend_to.ensures.known

pub returns-in-Ok-clause-tried : goal.returns-in-Ok-clause-tried
returns-in-Ok-clause-tried g c = subst (Tried synced (g.F.D.Disk.history c.args.from.now)) (sym c.mend_to.ensures.kept) c.read_damaged.ensures.tried

pub returns-in-Ok-clause-counted : goal.returns-in-Ok-clause-counted
returns-in-Ok-clause-counted g c =
    subst (λ n. CountedBoth n (g.F.D.Disk.faults c.mend_to.new.from) (g.F.Files.faults c.args.files.now) (g.F.Files.faults c.mend_to.new.files) c.in-Err-mend_to.ending) c.in-Ok.ensures.cause.done c.in-Err-mend_to.ensures.counted

-- the file can't be mended, or wasn't read
pub returns-clause-refused : goal.returns-clause-refused
returns-clause-refused g c told =
    let held = g.F.Files.held c.args.files.now c.args.new.now in
    mend_halted (seen (g.F.D.Disk.history c.args.from.now)) c.args.new.now held held c.in-Err.halt c.from.result c.from.ensures (c.in-Err.ensures.refused told) refl

pub returns-clause-known : goal.returns-clause-known
returns-clause-known g c = halted_unmended c.in-Err.halt c.from.result c.from.ensures c.in-Err.ensures.no_log
