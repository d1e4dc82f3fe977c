-- It grows from nothing to nothing.
use Rattle.std.proofs.Common.{◌≡◌, ◌-◌, ◌++◌, length, replicate, append-nil, sym, ◌∙◌, ap, arith}
use Rattle.tdb_disk.specs.History.{seen}
use Rattle.tdb_mend.specs.View.{mended_view}
use Rattle.tdb_mend.proofs.view.MendedViewSpace.grow.Goals as goal

pub returns-clause-image : goal.returns-clause-image
returns-clause-image g c told =
    let s = c.args.self.now in
    let img = mended_view s.file.now (seen (g.D.Disk.history s.disk.now)) in
    let none : 0 ≡ c.args._to - length img = omega (arith, c.requires.room) in
    sym (append-nil img) ∙ ap (λ n. img ++ replicate n 0) none

pub returns-clause-grown : goal.returns-clause-grown
returns-clause-grown g c = omega (arith, c.requires.room, c.requires.longer)
