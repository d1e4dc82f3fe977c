use Rattle.std.proofs.Common.{◌≡◌, [], true, Err, Some, Option, sym, ◌∙◌, ap, subst, inr}
use Rattle.std.proofs.lemmas.Result.{on_ok_weaker, IfErr-weaker}
use Rattle.tdb_disk.specs.History.{History, seen, began}
use Rattle.tdb_disk.specs.declared.files.Take.TheVariants.{ReadOnly, New}
use Rattle.tdb_answer.specs.Commands.Convert.{IsConverted, ConvertLeft}
use Rattle.tdb_answer.specs.Commands.Rewriting.{anew_ending}
use Rattle.tdb_answer.specs.Heard.{ConvertHeard}
use Rattle.tdb_answer.proofs.BackingUp.{untaken_counted, given_counted}
use Rattle.tdb_answer.proofs.Converting.{file_untaken, untaken_unconverted}
use Rattle.tdb_answer.proofs.Hearing.{convert_untaken}
use Rattle.tdb_answer.proofs.Held.{held_there}
use Rattle.tdb_answer.proofs.commands.convert.convert_file.Goals as goal
use Rattle.tdb_answer.proofs.commands.convert.convert_file.Goals.{After-give}

-- it isn't to be made
not_new : ReadOnly ≡ New → ⊥
not_new is = cc

-- the file that was taken is what was held at its name
there : (g : _) (c : After-give g) → g.F.D.Disk.tells ≡ true → g.F.Files.held c.args.files.now c.args.file.now ≡ Some (g.F.D.Disk.history c.in-Ok.disk)
there g c told = held_there (g.F.Files.held c.args.files.now c.args.file.now) (began []) (g.F.D.Disk.history c.in-Ok.disk)
    (λ none. let wrong = (c.in-Ok.ensures.missing told).1 (none, not_new) in cc) (c.in-Ok.ensures.disk told)

-- the new file was made, or wasn't
pub returns-clause-made : goal.returns-clause-made
returns-clause-made g c =
    let a = (goal.at.returns-clause-made g c).After-give in
    let first = c.in-Ok.ensures.held_others c.args.new.now c.requires.differ in
    let last = sym (c.give.ensures.held_others c.args.new.now c.requires.differ) in
    let was = g.F.D.Disk.history c.in-Ok.disk in
    on_ok_weaker c.convert_disk-converted.result (λ made told.
    record { was = was; there = there g a told; converted = subst (λ (q : Option History × Option History). IsConverted c.args.made c.args.prefix.now (seen was) q.0 q.1) (λ j. (first j, last j)) (made told) })
    c.convert_disk-converted.ensures.made

pub returns-clause-refused : goal.returns-clause-refused
returns-clause-refused g c =
    let a = (goal.at.returns-clause-refused g c).After-give in
    let first = c.in-Ok.ensures.held_others c.args.new.now c.requires.differ in
    let last = sym (c.give.ensures.held_others c.args.new.now c.requires.differ) in
    let was = g.F.D.Disk.history c.in-Ok.disk in
    IfErr-weaker c.convert_disk-converted.result _ _ (λ e left told.
    inr (was, there g a told, subst (λ (q : Option History × Option History). ConvertLeft c.args.made c.args.prefix.now (seen was) c.args.new.now q.0 e q.1) (λ j. (first j, last j)) (left told)))
    c.convert_disk-converted.ensures.refused

pub returns-clause-kept : goal.returns-clause-kept
returns-clause-kept g c told =
    c.give.ensures.held told ∙ ap Some c.convert_disk-converted.ensures.kept ∙ sym (there g ((goal.at.returns-clause-kept g c).After-give) told)

pub returns-clause-counted : goal.returns-clause-counted
returns-clause-counted g c =
    given_counted (g.F.Files.faults c.args.files.now) (g.F.Files.faults c.take.new.self) (g.F.Files.faults c.convert_disk-converted.new.files) (g.F.Files.faults c.give.new.self)
    (g.F.D.Disk.faults c.in-Ok.disk) (g.F.D.Disk.faults c.convert_disk-converted.new.from) (anew_ending c.convert_disk-converted.result)
    c.in-Ok.ensures.cause.done c.in-Ok.ensures.disk_faults c.convert_disk-converted.ensures.counted c.give.ensures.sound c.give.ensures.faulty c.give.ensures.faults

-- the file wasn't taken
pub returns-in-Err-clause-refused : goal.returns-in-Err-clause-refused
returns-in-Err-clause-refused g c told =
    file_untaken c.args.made c.args.prefix.now c.args.file.now c.args.new.now (g.F.Files.held c.args.files.now c.args.file.now) (g.F.Files.held c.args.files.now c.args.new.now) (g.F.Files.held c.take.new.self c.args.new.now)
    c.in-Err.refusal c.untaken.result (c.in-Err.ensures.refused_held c.args.new.now) (λ is. ((c.in-Err.ensures.missing told).0 (ap Err is)).0) (λ is. not_new (c.in-Err.ensures.there_how (ap Err is))) c.untaken.ensures

pub returns-in-Err-clause-known : goal.returns-in-Err-clause-known
returns-in-Err-clause-known g c = untaken_unconverted c.args.file.now c.in-Err.refusal c.untaken.result c.untaken.ensures

pub returns-in-Err-clause-counted : goal.returns-in-Err-clause-counted
returns-in-Err-clause-counted g c =
    untaken_counted (g.F.Files.faults c.args.files.now) (g.F.Files.faults c.take.new.self) c.args.file.now c.in-Err.refusal c.untaken.result
    c.in-Err.ensures.cause.never_falls c.in-Err.ensures.cause.failed c.in-Err.ensures.cause.refused c.untaken.ensures

-- what logs heard of it
pub returns-clause-heard : goal.returns-clause-heard
returns-clause-heard g c told =
    subst (λ o. ConvertHeard c.args.made.limit o (anew_ending c.convert_disk-converted.result) (g.L.Logs.logs c.args.logs.now) (g.L.Logs.logs c.convert_disk-converted.new.logs)) (sym (there g ((goal.at.returns-clause-heard g c).After-give) told)) (c.convert_disk-converted.ensures.heard told)

pub returns-in-Err-clause-heard : goal.returns-in-Err-clause-heard
returns-in-Err-clause-heard g c told =
    convert_untaken c.args.file.now c.in-Err.refusal c.untaken.result (g.L.Logs.logs c.args.logs.now) (λ is. not_new (c.in-Err.ensures.there_how (ap Err is))) c.untaken.ensures
    c.args.made.limit (g.F.Files.held c.args.files.now c.args.file.now) (λ is. ((c.in-Err.ensures.missing told).0 (ap Err is)).0)
