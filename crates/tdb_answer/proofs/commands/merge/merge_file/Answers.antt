use Rattle.std.proofs.Common.{◌≡◌, [], true, Err, Some, Option, sym, ◌∙◌, ap, subst}
use Rattle.tdb_disk.specs.History.{History, began}
use Rattle.tdb_disk.specs.declared.files.Take.TheVariants.{ReadOnly, New}
use Rattle.tdb_answer.specs.Commands.Merge.{MergeLeaves, file_untaken}
use Rattle.tdb_answer.specs.Heard.{MergeHeard}
use Rattle.tdb_answer.proofs.BackingUp.{untaken_counted}
use Rattle.tdb_answer.proofs.Hearing.{merge_untaken}
use Rattle.tdb_answer.proofs.Held.{held_there}
use Rattle.tdb_answer.proofs.Merging.{not_taken, untaken_known, merge_asked, merge_unread, file_given, counted_so}
use Rattle.tdb_answer.proofs.commands.merge.merge_file.Goals as goal
use Rattle.tdb_answer.proofs.commands.merge.merge_file.Goals.{After-give}

-- it isn't to be made
not_new : ReadOnly ≡ New → ⊥
not_new is = cc

-- the file that was taken is what was held at its name
there : (g : _) (c : After-give g) → g.F.D.Disk.tells ≡ true → g.F.Files.held c.args.files.now c.args.file.now ≡ Some (g.F.D.Disk.history c.in-Ok.disk)
there g c told = held_there (g.F.Files.held c.args.files.now c.args.file.now) (began []) (g.F.D.Disk.history c.in-Ok.disk)
    (λ none. let wrong = (c.in-Ok.ensures.missing told).1 (none, not_new) in cc) (c.in-Ok.ensures.disk told)

-- its pairs were stored into the other file, or weren't
pub returns-clause-left : goal.returns-clause-left
returns-clause-left g c told =
    let first = c.in-Ok.ensures.held_others c.args.into.now c.requires.differ in
    let last = sym (c.give.ensures.held_others c.args.into.now c.requires.differ) in
    let own = sym (there g ((goal.at.returns-clause-left g c).After-give) told) in
    subst (λ (q : Option History × (Option History × Option History)). MergeLeaves c.args.limit c.args.prefix.now c.args.file.now c.args.into.now q.0 q.1.0 c.merge_disk-ending.result q.1.1) (λ j. (own j, (first j, last j))) (c.merge_disk-ending.ensures.left told c.args.file.now)

pub returns-clause-kept : goal.returns-clause-kept
returns-clause-kept g c told =
    c.give.ensures.held told ∙ ap Some c.merge_disk-ending.ensures.kept ∙ sym (there g ((goal.at.returns-clause-kept g c).After-give) told)

pub returns-clause-counted : goal.returns-clause-counted
returns-clause-counted g c =
    file_given g.F.D.Disk.tells (g.F.Files.faults c.args.files.now) (g.F.Files.faults c.take.new.self) (g.F.Files.faults c.merge_disk-ending.new.files) (g.F.Files.faults c.give.new.self)
    (g.F.D.Disk.faults c.in-Ok.disk) (g.F.D.Disk.faults c.merge_disk-ending.new.from) c.merge_disk-ending.result
    c.in-Ok.ensures.cause.done c.in-Ok.ensures.disk_faults c.merge_disk-ending.ensures.counted c.give.ensures.sound c.give.ensures.faulty c.give.ensures.faults

-- it is no usage, and tells nothing of the input
pub returns-clause-asked : goal.returns-clause-asked
returns-clause-asked g c = merge_asked c.merge_disk-ending.result c.merge_disk-ending.ensures.known

pub returns-clause-unread : goal.returns-clause-unread
returns-clause-unread g c = merge_unread c.merge_disk-ending.result c.merge_disk-ending.ensures.known

-- the file wasn't taken
pub returns-in-Err-clause-left : goal.returns-in-Err-clause-left
returns-in-Err-clause-left g c told =
    file_untaken (c.in-Err.ensures.refused_held c.args.into.now)
    (not_taken c.args.file.now (g.F.Files.held c.args.files.now c.args.file.now) c.in-Err.refusal c.untaken.result (λ is. ((c.in-Err.ensures.missing told).0 (ap Err is)).0) (λ is. not_new (c.in-Err.ensures.there_how (ap Err is))) c.untaken.ensures)

pub returns-in-Err-clause-asked : goal.returns-in-Err-clause-asked
returns-in-Err-clause-asked g c = merge_asked c.untaken.result (untaken_known c.args.file.now c.in-Err.refusal c.untaken.result (λ is. not_new (c.in-Err.ensures.there_how (ap Err is))) c.untaken.ensures)

pub returns-in-Err-clause-unread : goal.returns-in-Err-clause-unread
returns-in-Err-clause-unread g c = merge_unread c.untaken.result (untaken_known c.args.file.now c.in-Err.refusal c.untaken.result (λ is. not_new (c.in-Err.ensures.there_how (ap Err is))) c.untaken.ensures)

pub returns-in-Err-clause-counted : goal.returns-in-Err-clause-counted
returns-in-Err-clause-counted g c =
    let before = g.F.Files.faults c.args.files.now in
    let after = g.F.Files.faults c.take.new.self in
    counted_so g.F.D.Disk.tells before after c.untaken.result
    (untaken_counted before after c.args.file.now c.in-Err.refusal c.untaken.result c.in-Err.ensures.cause.never_falls c.in-Err.ensures.cause.failed c.in-Err.ensures.cause.refused c.untaken.ensures)

-- what logs heard of it
pub returns-clause-heard : goal.returns-clause-heard
returns-clause-heard g c told =
    subst (λ o. MergeHeard c.args.limit o c.merge_disk-ending.result (g.L.Logs.logs c.args.logs.now) (g.L.Logs.logs c.merge_disk-ending.new.logs)) (sym (there g ((goal.at.returns-clause-heard g c).After-give) told)) (c.merge_disk-ending.ensures.heard told)

pub returns-in-Err-clause-heard : goal.returns-in-Err-clause-heard
returns-in-Err-clause-heard g c told =
    merge_untaken c.args.file.now c.in-Err.refusal c.untaken.result (g.L.Logs.logs c.args.logs.now) (λ is. not_new (c.in-Err.ensures.there_how (ap Err is))) c.untaken.ensures
    c.args.limit (g.F.Files.held c.args.files.now c.args.file.now) (λ is. ((c.in-Err.ensures.missing told).0 (ap Err is)).0)
