use Rattle.std.proofs.Common.{◌≡◌, [], true, Err, Some, sym, ◌∙◌, ap, subst}
use Rattle.tdb_disk.specs.History.{began, seen}
use Rattle.tdb_disk.specs.declared.files.Take.TheVariants.{Existing, New}
use Rattle.tdb_answer.proofs.BackingUp.{halted_known, halted_other, untaken_ends, untaken_other}
use Rattle.tdb_open.specs.Opening.{opened_bytes}
use Rattle.tdb_open.specs.Notices.{OpeningHeard}
use Rattle.tdb_answer.specs.declared.ending.Ending.TheVariants.{Replied}
use Rattle.tdb_answer.specs.declared.ending.Reply.TheVariants.{Copied}
use Rattle.tdb_answer.specs.Heard.{OpenHeard, ToldFor}
use Rattle.tdb_answer.proofs.Hearing.{opened_alone, halted_heard, open_untaken}
use Rattle.tdb_answer.proofs.Held.{held_there}
use Rattle.tdb_answer.proofs.Verifying.{copy_unverified, halted_file, untaken_file}
use Rattle.tdb_answer.proofs.commands.verify.count_keys.Goals as goal
use Rattle.tdb_answer.proofs.commands.verify.count_keys.Goals.{After-give}

-- the file that was taken is what was held at its name
there : (g : _) (c : After-give g) → g.F.D.Disk.tells ≡ true → g.F.Files.held c.args.files.now c.args.file.now ≡ Some (g.F.D.Disk.history c.in-Ok.disk)
there g c told = held_there (g.F.Files.held c.args.files.now c.args.file.now) (began []) (g.F.D.Disk.history c.in-Ok.disk)
    (λ none. let existing : Existing ≡ New → ⊥ = (λ e. cc) in let wrong = (c.in-Ok.ensures.missing told).1 (none, existing) in cc) (c.in-Ok.ensures.disk told)

-- it was opened
pub returns-in-Ok-opened-clause-counted : goal.returns-in-Ok-opened-clause-counted
returns-in-Ok-opened-clause-counted g c told =
    let a = (goal.at.returns-in-Ok-opened-clause-counted g c).After-give in
    let o = c.in-Ok-opened.ensures.opened told in
    record {
      was = g.F.D.Disk.history c.in-Ok.disk;
      is = g.F.D.Disk.history c.open-opened.new.disk;
      there = there g a told;
      can_open = o.can_open;
      stands = c.give.ensures.held told;
      undone = c.in-Ok-opened.ensures.left told;
      number = o.counted.live;
    }

-- it wasn't
pub returns-in-Err-opened-clause-unopened : goal.returns-in-Err-opened-clause-unopened
returns-in-Err-opened-clause-unopened g c told =
    let a = (goal.at.returns-in-Err-opened-clause-unopened g c).After-give in
    halted_file c.args.file.now (g.F.Files.held c.args.files.now c.args.file.now) (g.F.Files.held c.give.new.self c.args.file.now) (g.F.D.Disk.history c.in-Ok.disk) (g.F.D.Disk.history c.open-opened.new.disk)
    c.in-Err-opened.halt c.from.result (there g a told) (c.give.ensures.held told) (c.in-Err-opened.ensures.refused told) (c.in-Err-opened.ensures.halted told) c.from.ensures

pub returns-in-Err-opened-clause-known : goal.returns-in-Err-opened-clause-known
returns-in-Err-opened-clause-known g c = copy_unverified c.from.result (halted_known c.in-Err-opened.halt c.from.result c.from.ensures) (λ is. halted_other c.in-Err-opened.halt (sym c.from.ensures ∙ is))

-- it wasn't taken
pub returns-in-Err-clause-unopened : goal.returns-in-Err-clause-unopened
returns-in-Err-clause-unopened g c told =
    untaken_file c.args.file.now (g.F.Files.held c.args.files.now c.args.file.now) (g.F.Files.held c.take.new.self c.args.file.now) c.in-Err.refusal c.untaken.result (c.in-Err.ensures.refused_held c.args.file.now)
    (λ is. ((c.in-Err.ensures.missing told).0 (ap Err is)).0) (λ is. let new : Existing ≡ New = c.in-Err.ensures.there_how (ap Err is) in cc) c.untaken.ensures

pub returns-in-Err-clause-known : goal.returns-in-Err-clause-known
returns-in-Err-clause-known g c =
    copy_unverified c.untaken.result (untaken_ends c.args.file.now c.in-Err.refusal c.untaken.result c.untaken.ensures) (untaken_other c.args.file.now c.in-Err.refusal c.untaken.result c.untaken.ensures)

-- what logs heard of it
pub returns-in-Ok-opened-clause-heard : goal.returns-in-Ok-opened-clause-heard
returns-in-Ok-opened-clause-heard g c told =
    let logs = g.L.Logs.logs c.args.logs.now in
    let later = g.L.Logs.logs c.open-opened.new.logs in
    subst (λ o. OpenHeard o (Replied Copied) logs later) (sym (there g ((goal.at.returns-in-Ok-opened-clause-heard g c).After-give) told))
    (opened_alone (opened_bytes (seen (g.F.D.Disk.history c.in-Ok.disk))) (OpeningHeard (seen (g.F.D.Disk.history c.in-Ok.disk))) (Replied Copied) c.in-Ok-opened.opened logs later (c.in-Ok-opened.ensures.opened told).counted (c.in-Ok-opened.ensures.heard told) (λ is. cc))

pub returns-in-Err-opened-clause-heard : goal.returns-in-Err-opened-clause-heard
returns-in-Err-opened-clause-heard g c told =
    let logs = g.L.Logs.logs c.args.logs.now in
    let later = g.L.Logs.logs c.open-opened.new.logs in
    subst (λ o. OpenHeard o c.from.result logs later) (sym (there g ((goal.at.returns-in-Err-opened-clause-heard g c).After-give) told))
    (halted_heard (opened_bytes (seen (g.F.D.Disk.history c.in-Ok.disk))) (OpeningHeard (seen (g.F.D.Disk.history c.in-Ok.disk))) c.in-Err-opened.halt c.from.result (ToldFor c.from.result []) logs later (c.in-Err-opened.ensures.heard told) c.from.ensures)

pub returns-in-Err-clause-heard : goal.returns-in-Err-clause-heard
returns-in-Err-clause-heard g c told =
    open_untaken c.args.file.now c.in-Err.refusal c.untaken.result (g.L.Logs.logs c.args.logs.now) (λ is. let new : Existing ≡ New = c.in-Err.ensures.there_how (ap Err is) in cc) c.untaken.ensures
    (g.F.Files.held c.args.files.now c.args.file.now) (λ is. ((c.in-Err.ensures.missing told).0 (ap Err is)).0)
