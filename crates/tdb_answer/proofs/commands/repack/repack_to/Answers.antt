use Rattle.std.proofs.Common.{[], arith, ap, subst}
use Rattle.std.proofs.lemmas.Result.{on_ok_weaker, IfErr-weaker}
use Rattle.tdb_disk.specs.History.{seen}
use Rattle.tdb_space.specs.Form.{form_in}
use Rattle.tdb_answer.specs.Commands.Rewriting.{HoldsAnew, NotWrittenTo}
use Rattle.tdb_answer.proofs.Rewriting.{unwritten_asked, unwritten_unread}
use Rattle.tdb_answer.proofs.Repacking.{untaken_unmade, untaken_asked, untaken_unread, unwritten_unmade}
use Rattle.tdb_answer.proofs.commands.repack.repack_to.Goals as goal

-- the new file is short enough
pub write_to-requires-clause-short : goal.write_to-requires-clause-short
write_to-requires-clause-short g c told =
    let checked = c.requires.opened told in
    omega (arith, c.requires.short told, checked.accepted.long, ap (λ f. f.chains) (ap form_in checked.header))

-- it was written, in the form of the opened one, or wasn't
pub returns-clause-made : goal.returns-clause-made
returns-clause-made g c = on_ok_weaker c.write_to.result (λ holds told.
    subst (λ f. HoldsAnew (seen (g.F.D.Disk.history c.args.from.now)) [] f (g.F.Files.held c.write_to.new.files c.args.name.now)) (ap form_in (c.requires.opened told).header) (holds told))
    c.write_to.ensures.written

pub returns-clause-refused : goal.returns-clause-refused
returns-clause-refused g c = IfErr-weaker c.write_to.result _ _ (λ e left told.
    (let now = g.F.Files.held c.write_to.new.files c.args.name.now in
    let img = seen (g.F.D.Disk.history c.args.from.now) in
    unwritten_unmade c.args.limit img e (g.F.Files.held c.args.files.now c.args.name.now) now
    (subst (λ f. NotWrittenTo img [] f c.args.limit e now) (ap form_in (c.requires.opened told).header) (left told))))
    c.write_to.ensures.refused

pub returns-clause-asked : goal.returns-clause-asked
returns-clause-asked g c = IfErr-weaker c.write_to.result _ _ unwritten_asked c.write_to.ensures.known

pub returns-clause-unread : goal.returns-clause-unread
returns-clause-unread g c = IfErr-weaker c.write_to.result _ _ unwritten_unread c.write_to.ensures.known

-- it wasn't taken
pub returns-in-Err-clause-refused : goal.returns-in-Err-clause-refused
returns-in-Err-clause-refused g c told =
    untaken_unmade g.F.D.Disk.tells c.args.limit (seen (g.F.D.Disk.history c.args.from.now)) c.in-Err.ending _ _ c.in-Err.ensures.known told (c.in-Err.ensures.left told)

pub returns-in-Err-clause-asked : goal.returns-in-Err-clause-asked
returns-in-Err-clause-asked g c = untaken_asked g.F.D.Disk.tells c.in-Err.ending c.in-Err.ensures.known

pub returns-in-Err-clause-unread : goal.returns-in-Err-clause-unread
returns-in-Err-clause-unread g c = untaken_unread g.F.D.Disk.tells c.in-Err.ending c.in-Err.ensures.known
