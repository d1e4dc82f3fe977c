use Rattle.std.proofs.Common.{◌^◌, ◌<◌, [], length, refl, sym, subst}
use Rattle.std.proofs.lemmas.Result.{on_ok_weaker, IfErr-weaker}
use Rattle.tdb_disk.specs.History.{seen}
use Rattle.tdb_open.specs.Notices.{BelowHeard}
use Rattle.tdb_open.specs.Opening.{opened_bytes}
use Rattle.tdb_answer.specs.Commands.Rewriting.{anew_ending}
use Rattle.tdb_answer.specs.Heard.{ToldFor}
use Rattle.tdb_answer.proofs.BackingUp.{opened_short}
use Rattle.tdb_answer.proofs.Hearing.{opened_alone, halted_heard}
use Rattle.tdb_answer.proofs.Repacking.{opened_stands, opened_unmade, halted_unmade, anew_unlogged}
use Rattle.tdb_answer.proofs.commands.repack.repack_disk.Goals as goal

-- what was opened is short enough
pub repack_to-requires-clause-short : goal.repack_to-requires-clause-short
repack_to-requires-clause-short g c told =
    subst (λ i. length i < 2 ^ 32) (sym (c.in-Ok.ensures.reads told)) (opened_short (seen (g.F.D.Disk.history c.args.from.now)) (c.in-Ok.ensures.opened told).can_open)

-- it was written anew, or wasn't
pub returns-in-Ok-clause-made : goal.returns-in-Ok-clause-made
returns-in-Ok-clause-made g c = on_ok_weaker c.repack_to.result (λ holds told.
    opened_stands c.args.limit (g.F.D.Disk.history c.args.from.now) (g.F.Files.held c.args.files.now c.args.name.now) (g.F.Files.held c.repack_to.new.files c.args.name.now)
    (g.F.D.Disk.history c.open_below.new.disk) (g.F.D.Disk.history c.repack_to.new.from) (c.in-Ok.ensures.within told) (c.in-Ok.ensures.opened told).can_open (c.in-Ok.ensures.left told) (c.in-Ok.ensures.reads told) c.repack_to.ensures.kept (holds told))
    c.repack_to.ensures.made

pub returns-in-Ok-clause-refused : goal.returns-in-Ok-clause-refused
returns-in-Ok-clause-refused g c = IfErr-weaker c.repack_to.result _ _ (λ e left told.
    opened_unmade c.args.limit (g.F.D.Disk.history c.args.from.now) (g.F.Files.held c.args.files.now c.args.name.now) (g.F.Files.held c.repack_to.new.files c.args.name.now)
    (g.F.D.Disk.history c.open_below.new.disk) (g.F.D.Disk.history c.repack_to.new.from) (c.in-Ok.ensures.within told) (c.in-Ok.ensures.opened told).can_open (c.in-Ok.ensures.left told) (c.in-Ok.ensures.reads told) c.repack_to.ensures.kept e (left told))
    c.repack_to.ensures.refused

-- the opening halted
pub returns-in-Err-clause-refused : goal.returns-in-Err-clause-refused
returns-in-Err-clause-refused g c told =
    halted_unmade c.args.limit (g.F.D.Disk.history c.args.from.now) (g.F.Files.held c.args.files.now c.args.name.now) (g.F.Files.held c.args.files.now c.args.name.now)
    (g.F.D.Disk.history c.open_below.new.disk) c.in-Err.halt c.from.result c.from.ensures (c.in-Err.ensures.refused told) (c.in-Err.ensures.halted told) refl

-- what logs heard of it
pub returns-in-Ok-clause-heard : goal.returns-in-Ok-clause-heard
returns-in-Ok-clause-heard g c told =
    let img = seen (g.F.D.Disk.history c.args.from.now) in
    opened_alone (opened_bytes img) (BelowHeard c.args.limit img) (anew_ending c.repack_to.result) c.in-Ok.opened (g.L.Logs.logs c.args.logs.now) (g.L.Logs.logs c.open_below.new.logs) (c.in-Ok.ensures.opened told).counted (c.in-Ok.ensures.heard told)
    (anew_unlogged g.F.D.Disk.tells c.args.limit (seen (g.F.D.Disk.history c.open_below.new.disk)) (g.F.Files.held c.args.files.now c.args.name.now) (g.F.Files.held c.repack_to.new.files c.args.name.now) c.repack_to.result told c.repack_to.ensures.refused)

pub returns-in-Err-clause-heard : goal.returns-in-Err-clause-heard
returns-in-Err-clause-heard g c told =
    let img = seen (g.F.D.Disk.history c.args.from.now) in
    halted_heard (opened_bytes img) (BelowHeard c.args.limit img) c.in-Err.halt c.from.result (ToldFor c.from.result []) (g.L.Logs.logs c.args.logs.now) (g.L.Logs.logs c.open_below.new.logs) (c.in-Err.ensures.heard told) c.from.ensures
