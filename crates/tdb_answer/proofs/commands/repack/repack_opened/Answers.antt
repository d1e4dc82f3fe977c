use Rattle.std.proofs.Common.{◌≡◌, [], true, Err, Option, Some, sym, ap, subst, inr}
use Rattle.std.proofs.lemmas.Result.{on_ok_weaker, IfErr-weaker}
use Rattle.tdb_disk.specs.History.{History, began}
use Rattle.tdb_disk.specs.declared.files.Take.TheVariants.{Existing, New}
use Rattle.tdb_answer.specs.Commands.Repack.{NewStands, NotRepacked}
use Rattle.tdb_answer.specs.Commands.Rewriting.{anew_ending}
use Rattle.tdb_answer.specs.Heard.{PrintHeard}
use Rattle.tdb_answer.proofs.BackingUp.{untaken_counted, given_counted}
use Rattle.tdb_answer.proofs.Hearing.{print_untaken}
use Rattle.tdb_answer.proofs.Held.{held_there}
use Rattle.tdb_answer.proofs.Repacking.{untaken_stopped}
use Rattle.tdb_answer.proofs.commands.repack.repack_opened.Goals as goal
use Rattle.tdb_answer.proofs.commands.repack.repack_opened.Goals.{After-give}

-- it isn't to be made
not_new : Existing ≡ New → ⊥
not_new is = cc

-- the file that was taken is what was held at its name
there : (g : _) (c : After-give g) → g.F.D.Disk.tells ≡ true → g.F.Files.held c.args.files.now c.args.file.now ≡ Some (g.F.D.Disk.history c.in-Ok.disk)
there g c told = held_there (g.F.Files.held c.args.files.now c.args.file.now) (began []) (g.F.D.Disk.history c.in-Ok.disk)
    (λ none. let wrong = (c.in-Ok.ensures.missing told).1 (none, not_new) in cc) (c.in-Ok.ensures.disk told)

-- it was opened and written anew, or wasn't
pub returns-clause-made : goal.returns-clause-made
returns-clause-made g c =
    let a = (goal.at.returns-clause-made g c).After-give in
    on_ok_weaker c.repack_disk-written.result (λ stands told.
    record {
      was = g.F.D.Disk.history c.in-Ok.disk;
      is = g.F.D.Disk.history c.repack_disk-written.new.from;
      there = there g a told;
      stands = c.give.ensures.held told;
      new = subst (NewStands c.args.limit (g.F.D.Disk.history c.in-Ok.disk) (g.F.D.Disk.history c.repack_disk-written.new.from)) (sym (c.give.ensures.held_others c.args.new.now c.requires.differ)) (stands told);
    })
    c.repack_disk-written.ensures.made

pub returns-clause-refused : goal.returns-clause-refused
returns-clause-refused g c =
    let a = (goal.at.returns-clause-refused g c).After-give in
    let first = c.in-Ok.ensures.held_others c.args.new.now c.requires.differ in
    let last = sym (c.give.ensures.held_others c.args.new.now c.requires.differ) in
    let was = g.F.D.Disk.history c.in-Ok.disk in
    let is = g.F.D.Disk.history c.repack_disk-written.new.from in
    IfErr-weaker c.repack_disk-written.result _ _ (λ e halted told.
    inr (record {
      was = was;
      is = is;
      there = there g a told;
      stands = c.give.ensures.held told;
      halted = subst (λ (q : Option History × Option History). NotRepacked c.args.limit was e is q.0 q.1) (λ j. (first j, last j)) (halted told);
    }))
    c.repack_disk-written.ensures.refused

pub returns-clause-counted : goal.returns-clause-counted
returns-clause-counted g c =
    given_counted (g.F.Files.faults c.args.files.now) (g.F.Files.faults c.take.new.self) (g.F.Files.faults c.repack_disk-written.new.files) (g.F.Files.faults c.give.new.self)
    (g.F.D.Disk.faults c.in-Ok.disk) (g.F.D.Disk.faults c.repack_disk-written.new.from) (anew_ending c.repack_disk-written.result)
    c.in-Ok.ensures.cause.done c.in-Ok.ensures.disk_faults c.repack_disk-written.ensures.counted c.give.ensures.sound c.give.ensures.faulty c.give.ensures.faults

-- it wasn't taken
pub returns-in-Err-clause-refused : goal.returns-in-Err-clause-refused
returns-in-Err-clause-refused g c told =
    untaken_stopped c.args.limit c.args.file.now (g.F.Files.held c.args.files.now c.args.file.now) (g.F.Files.held c.take.new.self c.args.file.now) (g.F.Files.held c.args.files.now c.args.new.now) (g.F.Files.held c.take.new.self c.args.new.now)
    c.in-Err.refusal c.untaken.result (c.in-Err.ensures.refused_held c.args.file.now) (c.in-Err.ensures.refused_held c.args.new.now)
    (λ is. ((c.in-Err.ensures.missing told).0 (ap Err is)).0) (λ is. not_new (c.in-Err.ensures.there_how (ap Err is))) c.untaken.ensures

pub returns-in-Err-clause-counted : goal.returns-in-Err-clause-counted
returns-in-Err-clause-counted g c =
    untaken_counted (g.F.Files.faults c.args.files.now) (g.F.Files.faults c.take.new.self) c.args.file.now c.in-Err.refusal c.untaken.result
    c.in-Err.ensures.cause.never_falls c.in-Err.ensures.cause.failed c.in-Err.ensures.cause.refused c.untaken.ensures

-- what logs heard of it
pub returns-clause-heard : goal.returns-clause-heard
returns-clause-heard g c told =
    subst (λ o. PrintHeard c.args.limit o (anew_ending c.repack_disk-written.result) (g.L.Logs.logs c.args.logs.now) (g.L.Logs.logs c.repack_disk-written.new.logs)) (sym (there g ((goal.at.returns-clause-heard g c).After-give) told)) (c.repack_disk-written.ensures.heard told)

pub returns-in-Err-clause-heard : goal.returns-in-Err-clause-heard
returns-in-Err-clause-heard g c told =
    print_untaken c.args.file.now c.in-Err.refusal c.untaken.result (g.L.Logs.logs c.args.logs.now) (λ is. not_new (c.in-Err.ensures.there_how (ap Err is))) c.untaken.ensures
    c.args.limit (g.F.Files.held c.args.files.now c.args.file.now) (λ is. ((c.in-Err.ensures.missing told).0 (ap Err is)).0)
