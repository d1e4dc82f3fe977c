use Rattle.std.proofs.Common.{◌≡◌, ◌++◌, take, refl, ap}
use Rattle.tdb_disk.specs.History.{seen}
use Rattle.tdb_space.specs.Form.{form_in}
use Rattle.tdb_rescue.specs.Text.{rescued_text, WroteFront}
use Rattle.tdb_answer.proofs.Rescuing.{moved}
use Rattle.tdb_answer.proofs.commands.rescue.print_rescued.Goals as goal

-- the text is that of the bytes of the disk
pub returns-in-Ok-clause-began : goal.returns-in-Ok-clause-began
returns-in-Ok-clause-began g c told heard =
    let f = form_in c.args.header.now in
    let img = seen (g.D.Disk.history c.args.disk.now) in (
      rescued_text f img,
      refl,
      moved (λ k i. g.K.Sink.written c.rescue.new.out ≡ g.K.Sink.written c.args.output.now ++ rescued_text k i) _ f _ img
          (ap form_in c.new-space.ensures.header) (ap (λ d. seen (g.D.Disk.history d)) c.new-space.ensures.disk) (c.in-Ok.ensures.written told heard),
    )

-- and what was written where it wasn't written whole is a front of that
pub returns-in-Err-Io-clause-began : goal.returns-in-Err-Io-clause-began
returns-in-Err-Io-clause-began g c told heard =
    let f = form_in c.args.header.now in
    let img = seen (g.D.Disk.history c.args.disk.now) in
    let part = moved (λ k i. WroteFront (g.K.Sink.written c.args.output.now) (rescued_text k i) (g.K.Sink.written c.rescue.new.out)) _ f _ img
    (ap form_in c.new-space.ensures.header) (ap (λ d. seen (g.D.Disk.history d)) c.new-space.ensures.disk) (c.in-Err-Io.ensures.front told heard) in
    (take part.0 (rescued_text f img), (part.0, refl), part.2)

pub returns-in-Err-Memory-clause-began : goal.returns-in-Err-Memory-clause-began
returns-in-Err-Memory-clause-began g c told heard =
    let f = form_in c.args.header.now in
    let img = seen (g.D.Disk.history c.args.disk.now) in
    let part = moved (λ k i. WroteFront (g.K.Sink.written c.args.output.now) (rescued_text k i) (g.K.Sink.written c.rescue.new.out)) _ f _ img
    (ap form_in c.new-space.ensures.header) (ap (λ d. seen (g.D.Disk.history d)) c.new-space.ensures.disk) (c.in-Err-Memory.ensures.front told heard) in
    (take part.0 (rescued_text f img), (part.0, refl), part.2)

pub returns-in-Err-OutFailed-clause-began : goal.returns-in-Err-OutFailed-clause-began
returns-in-Err-OutFailed-clause-began g c told heard =
    let f = form_in c.args.header.now in
    let img = seen (g.D.Disk.history c.args.disk.now) in
    let part = moved (λ k i. WroteFront (g.K.Sink.written c.args.output.now) (rescued_text k i) (g.K.Sink.written c.rescue.new.out)) _ f _ img
    (ap form_in c.new-space.ensures.header) (ap (λ d. seen (g.D.Disk.history d)) c.new-space.ensures.disk) (c.in-Err-OutFailed.ensures.front told heard) in
    (rescued_text f img, refl, part.0, part.2)
