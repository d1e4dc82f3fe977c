use Rattle.std.proofs.Common.{List, refl, sym, subst}
use Rattle.tdb_disk.specs.History.{History, seen}
use Rattle.tdb_log.specs.Logs.{Logged}
use Rattle.tdb_open.specs.Notices.{ReadingBelowHeard}
use Rattle.tdb_open.specs.Opening.{IsCheckedOn}
use Rattle.tdb_answer.specs.Commands.Merge.{MergeInto, CountedPair, file_halted, file_read}
use Rattle.tdb_answer.specs.Heard.{heard_more}
use Rattle.tdb_answer.proofs.Hearing.{halted_heard}
use Rattle.tdb_answer.proofs.Merging.{halted_known, pair_halted}
use Rattle.tdb_answer.proofs.commands.merge.merge_disk.Goals as goal

-- what was opened is as it was
pub merge_into-requires-clause-opened : goal.merge_into-requires-clause-opened
merge_into-requires-clause-opened g c told = subst (λ (h : History). IsCheckedOn (seen h) c.in-Ok.opened) (sym c.in-Ok.ensures.history) (c.in-Ok.ensures.checked told)

-- its pairs were merged into the other file, or weren't
pub returns-in-Ok-clause-left : goal.returns-in-Ok-clause-left
returns-in-Ok-clause-left g c told file =
    let old = g.F.Files.held c.args.files.now c.args.into.now in
    let now = g.F.Files.held c.merge_into.new.files c.args.into.now in
    file_read (g.F.D.Disk.history c.args.from.now) refl (c.in-Ok.ensures.within told, c.in-Ok.ensures.can_read told)
    (subst (λ (h : History). MergeInto c.args.limit c.args.prefix.now (seen h) c.args.into.now old now c.merge_into.result) c.in-Ok.ensures.history (c.merge_into.ensures.left told))

pub returns-in-Ok-clause-counted : goal.returns-in-Ok-clause-counted
returns-in-Ok-clause-counted g c =
    subst (λ n. CountedPair g.F.D.Disk.tells n (g.F.D.Disk.faults c.merge_into.new.from) (g.F.Files.faults c.args.files.now) (g.F.Files.faults c.merge_into.new.files) c.merge_into.result) c.in-Ok.ensures.cause.done c.merge_into.ensures.counted

-- the opening halted
pub returns-in-Err-clause-left : goal.returns-in-Err-clause-left
returns-in-Err-clause-left g c told file = file_halted (g.F.D.Disk.history c.args.from.now) c.in-Err.halt refl refl (c.in-Err.ensures.refused told) c.from.ensures

pub returns-in-Err-clause-known : goal.returns-in-Err-clause-known
returns-in-Err-clause-known g c = halted_known c.in-Err.halt c.from.result c.from.ensures

pub returns-in-Err-clause-counted : goal.returns-in-Err-clause-counted
returns-in-Err-clause-counted g c =
    let cause = c.in-Err.ensures.cause in
    pair_halted g.F.D.Disk.tells (g.F.D.Disk.faults c.args.from.now) (g.F.D.Disk.faults c.open_to_read_below.new.disk) (g.F.Files.faults c.args.files.now) cause.never_falls
    c.in-Err.halt c.from.result c.from.ensures cause.failed cause.refused

-- what logs heard of it
pub returns-in-Ok-clause-heard : goal.returns-in-Ok-clause-heard
returns-in-Ok-clause-heard g c told =
    heard_more c.in-Ok.opened (g.L.Logs.logs c.open_to_read_below.new.logs) (c.in-Ok.ensures.checked told).counted (c.in-Ok.ensures.heard told) tt

pub returns-in-Err-clause-heard : goal.returns-in-Err-clause-heard
returns-in-Err-clause-heard g c told =
    let img = seen (g.F.D.Disk.history c.args.from.now) in
    halted_heard img (ReadingBelowHeard c.args.limit img) c.in-Err.halt c.from.result (λ (mid later : List Logged). Unit {0}) (g.L.Logs.logs c.args.logs.now) (g.L.Logs.logs c.open_to_read_below.new.logs) (c.in-Err.ensures.heard told) c.from.ensures
