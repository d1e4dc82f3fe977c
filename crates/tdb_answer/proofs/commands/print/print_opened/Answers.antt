use Rattle.std.proofs.Common.{◌≡◌, ◌++◌, List, ℕ, [], take, refl, ap}
use Rattle.tdb_backup.specs.Dump.{WroteFront}
use Rattle.tdb_check.specs.Report.{Counted, IsFormOf}
use Rattle.tdb_disk.specs.History.{seen}
use Rattle.tdb_space.specs.Form.{Form, form_in}
use Rattle.tdb_answer.specs.Commands.Print.{printout_text}
use Rattle.tdb_answer.proofs.Found.{told_of}
use Rattle.tdb_answer.proofs.commands.print.print_opened.Goals as goal

-- the text is that of the bytes of the disk
pub returns-in-Ok-clause-began : goal.returns-in-Ok-clause-began
returns-in-Ok-clause-began g c told heard =
    let img = seen (g.D.Disk.history c.args.disk.now) in
    let on = c.requires.opened told in
    let whole : Form → List ℕ → Type 0 = λ f i. IsFormOf f i → Counted i c.args.opened.now.report
    → g.K.Sink.written c.write_printout.new.output ≡ g.K.Sink.written c.args.output.now ++ printout_text c.args.printout i in (
      printout_text c.args.printout img,
      refl,
      told_of img [] c.args.opened.now on.accepted on.header whole _ _
          (ap form_in c.new-space.ensures.header) (ap (λ d. seen (g.D.Disk.history d)) c.new-space.ensures.disk) (c.in-Ok.ensures.written told heard)
          (λ _. refl) on.counted,
    )

-- and what was written where it wasn't written whole is a front of that
pub returns-in-Err-Io-clause-began : goal.returns-in-Err-Io-clause-began
returns-in-Err-Io-clause-began g c told heard =
    let img = seen (g.D.Disk.history c.args.disk.now) in
    let on = c.requires.opened told in
    let some : Form → List ℕ → Type 0 = λ f i. IsFormOf f i → Counted i c.args.opened.now.report
    → WroteFront (g.K.Sink.written c.args.output.now) (printout_text c.args.printout i) (g.K.Sink.written c.write_printout.new.output) in
    let part = told_of img [] c.args.opened.now on.accepted on.header some _ _
    (ap form_in c.new-space.ensures.header) (ap (λ d. seen (g.D.Disk.history d)) c.new-space.ensures.disk) (c.in-Err-Io.ensures.front told heard)
    (λ _. refl) on.counted in
    (take part.0 (printout_text c.args.printout img), (part.0, refl), part.2)

pub returns-in-Err-Memory-clause-began : goal.returns-in-Err-Memory-clause-began
returns-in-Err-Memory-clause-began g c told heard =
    let img = seen (g.D.Disk.history c.args.disk.now) in
    let on = c.requires.opened told in
    let some : Form → List ℕ → Type 0 = λ f i. IsFormOf f i → Counted i c.args.opened.now.report
    → WroteFront (g.K.Sink.written c.args.output.now) (printout_text c.args.printout i) (g.K.Sink.written c.write_printout.new.output) in
    let part = told_of img [] c.args.opened.now on.accepted on.header some _ _
    (ap form_in c.new-space.ensures.header) (ap (λ d. seen (g.D.Disk.history d)) c.new-space.ensures.disk) (c.in-Err-Memory.ensures.front told heard)
    (λ _. refl) on.counted in
    (take part.0 (printout_text c.args.printout img), (part.0, refl), part.2)

pub returns-in-Err-Failed-clause-began : goal.returns-in-Err-Failed-clause-began
returns-in-Err-Failed-clause-began g c told heard =
    let img = seen (g.D.Disk.history c.args.disk.now) in
    let on = c.requires.opened told in
    let some : Form → List ℕ → Type 0 = λ f i. IsFormOf f i → Counted i c.args.opened.now.report
    → WroteFront (g.K.Sink.written c.args.output.now) (printout_text c.args.printout i) (g.K.Sink.written c.write_printout.new.output) in
    let part = told_of img [] c.args.opened.now on.accepted on.header some _ _
    (ap form_in c.new-space.ensures.header) (ap (λ d. seen (g.D.Disk.history d)) c.new-space.ensures.disk) (c.in-Err-Failed.ensures.front told heard)
    (λ _. refl) on.counted in
    (printout_text c.args.printout img, refl, part.0, part.2)
