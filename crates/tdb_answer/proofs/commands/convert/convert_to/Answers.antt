use Rattle.std.proofs.Common.{◌≡◌, ◌≤◌, Err, None, refl, ◌∙◌, ap, subst, inr, arith}
use Rattle.std.proofs.lemmas.Result.{on_ok_weaker, IfErr-weaker}
use Rattle.tdb_disk.specs.Count.{Rose}
use Rattle.tdb_disk.specs.History.{seen}
use Rattle.tdb_answer.specs.Commands.Backup.{CountedBoth}
use Rattle.tdb_answer.specs.Commands.Rewriting.{anew_ending}
use Rattle.tdb_answer.proofs.Acting.{rose_earlier}
use Rattle.tdb_answer.proofs.BackingUp.{files_alone, untaken_counted}
use Rattle.tdb_answer.proofs.Converting.{new_untaken, new_unwritten, new_large, new_fault, untaken_unconverted, unwritten_unconverted}
use Rattle.tdb_answer.proofs.Restoring.{none_held}
use Rattle.tdb_answer.proofs.Rewriting.{unwritten_unlogged}
use Rattle.tdb_answer.proofs.Unlogged.{untaken_unlogged}
use Rattle.tdb_answer.proofs.commands.convert.convert_to.Goals as goal

-- the new file wasn't taken
pub returns-in-Err-clause-refused : goal.returns-in-Err-clause-refused
returns-in-Err-clause-refused g c told =
    new_untaken c.args.made c.args.prefix.now (seen (g.F.D.Disk.history c.args.from.now)) c.args.new.now (g.F.Files.held c.args.files.now c.args.new.now) (g.F.Files.held c.take.new.self c.args.new.now)
    c.in-Err.refusal c.untaken.result (c.requires.can_read told) (c.in-Err.ensures.refused_held c.args.new.now) (λ is. c.in-Err.ensures.missing_how (ap Err is) refl) (λ is. ((c.in-Err.ensures.there told).0 (ap Err is)).0) c.untaken.ensures

pub returns-in-Err-clause-known : goal.returns-in-Err-clause-known
returns-in-Err-clause-known g c = untaken_unconverted c.args.new.now c.in-Err.refusal c.untaken.result c.untaken.ensures

pub returns-in-Err-clause-unlogged : goal.returns-in-Err-clause-unlogged
returns-in-Err-clause-unlogged g c = untaken_unlogged c.args.new.now c.in-Err.refusal c.untaken.result c.untaken.ensures

pub returns-in-Err-clause-counted : goal.returns-in-Err-clause-counted
returns-in-Err-clause-counted g c =
    let disk = g.F.D.Disk.faults c.args.from.now in
    let before = g.F.Files.faults c.args.files.now in
    let after = g.F.Files.faults c.take.new.self in
    files_alone disk disk before after c.untaken.result refl
    (untaken_counted before after c.args.new.now c.in-Err.refusal c.untaken.result c.in-Err.ensures.cause.never_falls c.in-Err.ensures.cause.failed c.in-Err.ensures.cause.refused c.untaken.ensures)

-- it was, and was written, or wasn't
pub returns-then-len-made-clause-made : goal.returns-then-len-made-clause-made
returns-then-len-made-clause-made g c = on_ok_weaker c.write_to.result (λ holds told.
    (let held = g.F.Files.held c.args.files.now c.args.new.now in
    let none : held ≡ None = none_held held (λ some. let wrong = (c.in-Ok.ensures.there told).1 (some, refl) in cc) in
    (c.requires.can_read told, none, holds told)))
    c.write_to.ensures.written

pub returns-then-len-made-clause-refused : goal.returns-then-len-made-clause-refused
returns-then-len-made-clause-refused g c = IfErr-weaker c.write_to.result _ _ (λ e left told.
    (let held = g.F.Files.held c.args.files.now c.args.new.now in
    let none : held ≡ None = none_held held (λ some. let wrong = (c.in-Ok.ensures.there told).1 (some, refl) in cc) in
    new_unwritten c.args.made c.args.prefix.now (seen (g.F.D.Disk.history c.args.from.now)) c.args.new.now held (g.F.Files.held c.write_to.new.files c.args.new.now)
    e (c.requires.can_read told) none (left told)))
    c.write_to.ensures.refused

pub returns-then-len-made-clause-known : goal.returns-then-len-made-clause-known
returns-then-len-made-clause-known g c = IfErr-weaker c.write_to.result _ _ unwritten_unconverted c.write_to.ensures.known

pub returns-then-len-made-clause-unlogged : goal.returns-then-len-made-clause-unlogged
returns-then-len-made-clause-unlogged g c = IfErr-weaker c.write_to.result _ _ unwritten_unlogged c.write_to.ensures.known

pub returns-then-len-made-clause-counted : goal.returns-then-len-made-clause-counted
returns-then-len-made-clause-counted g c =
    subst (λ n. CountedBoth (g.F.D.Disk.faults c.args.from.now) (g.F.D.Disk.faults c.write_to.new.from) n (g.F.Files.faults c.write_to.new.files) (anew_ending c.write_to.result)) c.in-Ok.ensures.cause.done c.write_to.ensures.counted

-- it would be too long, and was removed
pub returns-in-Ok-remove-clause-refused : goal.returns-in-Ok-remove-clause-refused
returns-in-Ok-remove-clause-refused g c told =
    let held = g.F.Files.held c.args.files.now c.args.new.now in
    let none : held ≡ None = none_held held (λ some. let wrong = (c.in-Ok.ensures.there told).1 (some, refl) in cc) in
    new_large c.args.made c.args.prefix.now (seen (g.F.D.Disk.history c.args.from.now)) c.args.new.now held (g.F.Files.held c.remove.new.self c.args.new.now)
    c.file_len-len.result (c.requires.can_read told) none (c.in-Ok-remove.ensures.gone told) (omega (arith, c.if-len-made.false, c.file_len-len.ensures)) c.file_len-len.ensures

pub returns-in-Ok-remove-clause-counted : goal.returns-in-Ok-remove-clause-counted
returns-in-Ok-remove-clause-counted g c =
    let before = g.F.Files.faults c.args.files.now in
    let after = g.F.Files.faults c.remove.new.self in
    let same : after ≡ before = c.in-Ok-remove.ensures.cause.done ∙ c.give.ensures.sound c.in-Ok.ensures.disk_faults ∙ c.in-Ok.ensures.cause.done in
    record {
      disk_never_falls = omega arith;
      never_falls = omega (arith, same);
      failed = λ is. cc;
      sound = λ other. (refl, same);
    }

-- or it couldn't be removed
pub returns-in-Err-remove-clause-refused : goal.returns-in-Err-remove-clause-refused
returns-in-Err-remove-clause-refused g c told =
    let held = g.F.Files.held c.args.files.now c.args.new.now in
    let none : held ≡ None = none_held held (λ some. let wrong = (c.in-Ok.ensures.there told).1 (some, refl) in cc) in
    new_fault c.args.made c.args.prefix.now (seen (g.F.D.Disk.history c.args.from.now)) c.args.new.now held (g.F.Files.held c.remove.new.self c.args.new.now) none

pub returns-in-Err-remove-clause-counted : goal.returns-in-Err-remove-clause-counted
returns-in-Err-remove-clause-counted g c =
    let before = g.F.Files.faults c.args.files.now in
    let given = g.F.Files.faults c.give.new.self in
    let after = g.F.Files.faults c.remove.new.self in
    let later : before ≤ given = omega (arith, c.in-Ok.ensures.cause.done, c.give.ensures.faults) in
    let rose : Rose before after = rose_earlier before given after later c.in-Err-remove.ensures.cause.failed in
    record {
      disk_never_falls = omega arith;
      never_falls = omega (arith, later, c.in-Err-remove.ensures.cause.never_falls);
      failed = λ is. inr rose;
      sound = λ other. absurd (other refl);
    }
