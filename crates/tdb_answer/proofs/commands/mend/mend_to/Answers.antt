use Rattle.std.proofs.Common.{◌≡◌, ◌<◌, [], Err, None, refl, sym, ◌∙◌, ap, subst}
use Rattle.std.proofs.lemmas.Result.{on_ok_weaker, IfErr-weaker}
use Rattle.tdb_disk.specs.History.{seen}
use Rattle.tdb_space.specs.Form.{form_in}
use Rattle.tdb_mend.specs.Files.{file_mended as mended}
use Rattle.tdb_open.specs.declared.limits.TheConstants.{LONGEST_FILE}
use Rattle.tdb_answer.specs.Commands.Backup.{CountedBoth}
use Rattle.tdb_answer.specs.Commands.Mend.{new_form}
use Rattle.tdb_answer.specs.Commands.Rewriting.{HoldsAnew, NotWrittenTo, anew_ending}
use Rattle.tdb_answer.proofs.BackingUp.{files_alone, untaken_counted}
use Rattle.tdb_answer.proofs.Mending.{mending_form, mend_untaken, mend_unwritten, untaken_unmended, unwritten_unmended, read_short}
use Rattle.tdb_answer.proofs.Restoring.{none_held}
use Rattle.tdb_answer.proofs.commands.mend.mend_to.Goals as goal

-- the new file wasn't taken
pub returns-in-Err-clause-refused : goal.returns-in-Err-clause-refused
returns-in-Err-clause-refused g c told =
    mend_untaken (seen (g.F.D.Disk.history c.args.from.now)) c.args.new.now (g.F.Files.held c.args.files.now c.args.new.now) (g.F.Files.held c.take.new.self c.args.new.now)
    c.in-Err.refusal c.untaken.result (c.requires.can_mend told) (c.in-Err.ensures.refused_held c.args.new.now) (λ is. c.in-Err.ensures.missing_how (ap Err is) refl) (λ is. ((c.in-Err.ensures.there told).0 (ap Err is)).0) c.untaken.ensures

pub returns-in-Err-clause-known : goal.returns-in-Err-clause-known
returns-in-Err-clause-known g c = untaken_unmended c.args.new.now c.in-Err.refusal c.untaken.result c.untaken.ensures

pub returns-in-Err-clause-counted : goal.returns-in-Err-clause-counted
returns-in-Err-clause-counted g c =
    let disk = g.F.D.Disk.faults c.args.from.now in
    let before = g.F.Files.faults c.args.files.now in
    let after = g.F.Files.faults c.take.new.self in
    files_alone disk disk before after c.untaken.result refl
    (untaken_counted before after c.args.new.now c.in-Err.refusal c.untaken.result c.in-Err.ensures.cause.never_falls c.in-Err.ensures.cause.failed c.in-Err.ensures.cause.refused c.untaken.ensures)

-- it was: it gets what the header says that is read
pub write_mended_to-requires-clause-some : goal.write_mended_to-requires-clause-some
write_mended_to-requires-clause-some g c = subst (λ h. 0 < h.hash_size) (sym c.header-header.ensures) c.requires.chains

pub write_mended_to-requires-clause-short : goal.write_mended_to-requires-clause-short
write_mended_to-requires-clause-short g c told =
    read_short c.args.damaged.now (seen (g.F.D.Disk.history c.args.from.now)) c.header-header.result c.header-header.ensures (c.requires.read told) c.requires.most

pub write_mended_to-requires-clause-number : goal.write_mended_to-requires-clause-number
write_mended_to-requires-clause-number g c told = ap (λ h. h.sequence) (c.header-header.ensures ∙ (c.requires.read told).header)

-- it was written, or wasn't
pub returns-clause-made : goal.returns-clause-made
returns-clause-made g c = on_ok_weaker c.write_mended_to.result (λ holds told.
    (let img = seen (g.F.D.Disk.history c.args.from.now) in
    let held = g.F.Files.held c.args.files.now c.args.new.now in
    let none : held ≡ None = none_held held (λ some. let wrong = (c.in-Ok.ensures.there told).1 (some, refl) in cc) in
    let form : form_in c.header-header.result ≡ new_form img = mending_form img c.header-header.result (c.header-header.ensures ∙ (c.requires.read told).header) in
    (c.requires.can_mend told, none, subst (λ f. HoldsAnew (mended img) [] f (g.F.Files.held c.write_mended_to.new.files c.args.new.now)) form (holds told))))
    c.write_mended_to.ensures.written

pub returns-clause-refused : goal.returns-clause-refused
returns-clause-refused g c = IfErr-weaker c.write_mended_to.result _ _ (λ e left told.
    (let img = seen (g.F.D.Disk.history c.args.from.now) in
    let held = g.F.Files.held c.args.files.now c.args.new.now in
    let now = g.F.Files.held c.write_mended_to.new.files c.args.new.now in
    let none : held ≡ None = none_held held (λ some. let wrong = (c.in-Ok.ensures.there told).1 (some, refl) in cc) in
    let form : form_in c.header-header.result ≡ new_form img = mending_form img c.header-header.result (c.header-header.ensures ∙ (c.requires.read told).header) in
    mend_unwritten img c.args.new.now held now e (c.requires.can_mend told) none (subst (λ f. NotWrittenTo (mended img) [] f LONGEST_FILE e now) form (left told))))
    c.write_mended_to.ensures.refused

pub returns-clause-known : goal.returns-clause-known
returns-clause-known g c = IfErr-weaker c.write_mended_to.result _ _ unwritten_unmended c.write_mended_to.ensures.known

pub returns-clause-counted : goal.returns-clause-counted
returns-clause-counted g c =
    subst (λ n. CountedBoth (g.F.D.Disk.faults c.args.from.now) (g.F.D.Disk.faults c.write_mended_to.new.from) n (g.F.Files.faults c.write_mended_to.new.files) (anew_ending c.write_mended_to.result)) c.in-Ok.ensures.cause.done c.write_mended_to.ensures.counted
