use Rattle.std.proofs.Common.{◌≡◌, ◌<◌, ◌^◌, [], length, refl, rules, sym, ◌∙◌, subst}
use Rattle.tdb_disk.specs.History.{seen}
use Rattle.tdb_answer.specs.declared.ending.Ending.TheVariants.{Replied}
use Rattle.tdb_answer.specs.declared.ending.Reply.TheVariants.{Copied}
use Rattle.tdb_answer.specs.Commands.Backup.{CopyMade, CopyingHeard}
use Rattle.tdb_answer.proofs.BackingUp.{opened_short, opened_copied, halted_copied, halted_known, halted_other}
use Rattle.tdb_open.specs.Opening.{opened_bytes}
use Rattle.tdb_open.specs.Notices.{OpeningHeard}
use Rattle.tdb_answer.specs.Heard.{heard_more}
use Rattle.tdb_answer.proofs.Hearing.{halted_heard}
use Rattle.tdb_answer.proofs.commands.backup.copy_disk.Goals as goal

-- what was opened is short enough
pub copy_to-ending-requires-clause-short : goal.copy_to-ending-requires-clause-short
copy_to-ending-requires-clause-short g c told =
    subst (λ i. length i < 2 ^ 32) (sym (c.in-Ok.ensures.reads told)) (opened_short (seen (g.F.D.Disk.history c.args.from.now)) (c.in-Ok.ensures.opened told).can_open)

-- it was copied
pub returns-then-is_copied-clause-copied : goal.returns-then-is_copied-clause-copied
returns-then-is_copied-clause-copied g c told =
    let old = g.F.Files.held c.args.files.now c.args.name.now in
    let now = g.F.Files.held c.copy_to-ending.new.files c.args.name.now in
    let mid = g.F.D.Disk.history c.open.new.disk in
    let is : c.copy_to-ending.result ≡ Replied Copied = c.is_copied.ensures.copied (search rules) in
    opened_copied (g.F.D.Disk.history c.args.from.now) old now mid (g.F.D.Disk.history c.copy_to-ending.new.from) (Replied Copied) (c.in-Ok.ensures.opened told).can_open (c.in-Ok.ensures.left told) (c.in-Ok.ensures.reads told)
    c.copy_to-ending.ensures.kept (subst (CopyMade (seen mid) old now) is (c.copy_to-ending.ensures.left told))

pub returns-then-is_copied-clause-keys : goal.returns-then-is_copied-clause-keys
returns-then-is_copied-clause-keys g c told = (c.in-Ok.ensures.opened told).counted.live

-- it wasn't
pub returns-else-is_copied-clause-copied : goal.returns-else-is_copied-clause-copied
returns-else-is_copied-clause-copied g c told =
    opened_copied (g.F.D.Disk.history c.args.from.now) (g.F.Files.held c.args.files.now c.args.name.now) (g.F.Files.held c.copy_to-ending.new.files c.args.name.now)
    (g.F.D.Disk.history c.open.new.disk) (g.F.D.Disk.history c.copy_to-ending.new.from) c.copy_to-ending.result (c.in-Ok.ensures.opened told).can_open (c.in-Ok.ensures.left told) (c.in-Ok.ensures.reads told)
    c.copy_to-ending.ensures.kept (c.copy_to-ending.ensures.left told)

pub returns-else-is_copied-clause-refused : goal.returns-else-is_copied-clause-refused
returns-else-is_copied-clause-refused g c = c.is_copied.ensures.other (search rules)

pub returns-in-Err-clause-copied : goal.returns-in-Err-clause-copied
returns-in-Err-clause-copied g c told =
    halted_copied (g.F.D.Disk.history c.args.from.now) (g.F.Files.held c.args.files.now c.args.name.now) (g.F.Files.held c.args.files.now c.args.name.now)
    (g.F.D.Disk.history c.open.new.disk) c.in-Err.halt c.from.result c.from.ensures (c.in-Err.ensures.refused told) (c.in-Err.ensures.halted told) refl

pub returns-in-Err-clause-refused : goal.returns-in-Err-clause-refused
returns-in-Err-clause-refused g c is = halted_other c.in-Err.halt (sym c.from.ensures ∙ is)

pub returns-in-Err-clause-known : goal.returns-in-Err-clause-known
returns-in-Err-clause-known g c = halted_known c.in-Err.halt c.from.result c.from.ensures

-- what logs heard of it
pub returns-then-is_copied-clause-heard : goal.returns-then-is_copied-clause-heard
returns-then-is_copied-clause-heard g c told =
    let between = g.L.Logs.logs c.open.new.logs in
    let later = g.L.Logs.logs c.copy_to-ending.new.logs in
    let is : c.copy_to-ending.result ≡ Replied Copied = c.is_copied.ensures.copied (search rules) in
    heard_more c.in-Ok.opened between (c.in-Ok.ensures.opened told).counted (c.in-Ok.ensures.heard told)
    (subst (λ e. CopyingHeard (opened_bytes (seen (g.F.D.Disk.history c.args.from.now))) e between later) is
    (subst (λ i. CopyingHeard i c.copy_to-ending.result between later) (c.in-Ok.ensures.reads told) (c.copy_to-ending.ensures.heard told)))

pub returns-else-is_copied-clause-heard : goal.returns-else-is_copied-clause-heard
returns-else-is_copied-clause-heard g c told =
    let between = g.L.Logs.logs c.open.new.logs in
    heard_more c.in-Ok.opened between (c.in-Ok.ensures.opened told).counted (c.in-Ok.ensures.heard told)
    (subst (λ i. CopyingHeard i c.copy_to-ending.result between (g.L.Logs.logs c.copy_to-ending.new.logs)) (c.in-Ok.ensures.reads told) (c.copy_to-ending.ensures.heard told))

pub returns-in-Err-clause-heard : goal.returns-in-Err-clause-heard
returns-in-Err-clause-heard g c told =
    halted_heard (opened_bytes (seen (g.F.D.Disk.history c.args.from.now))) (OpeningHeard (seen (g.F.D.Disk.history c.args.from.now))) c.in-Err.halt c.from.result (CopyingHeard (opened_bytes (seen (g.F.D.Disk.history c.args.from.now))) c.from.result)
    (g.L.Logs.logs c.args.logs.now) (g.L.Logs.logs c.open.new.logs) (c.in-Err.ensures.heard told) c.from.ensures
