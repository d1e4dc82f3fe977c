use Rattle.std.proofs.Common.{Bool, Option, sym, subst}
use Rattle.std.specs.Prelude.{IsTrue, IfSome}
use Rattle.tdb_disk.specs.History.{seen}
use Rattle.tdb_answer.specs.Damaged.{MendHalts, MendsSo}
use Rattle.tdb_answer.proofs.Damaged.{not_mended}
use Rattle.tdb_answer.proofs.commands.mend.look_damaged.Goals as goal
use Rattle.tdb_answer.proofs.commands.mend.look_damaged.Goals.{in-Ok, in-Err-Refused, in-Err}

pub returns-clause-mends : goal.returns-clause-mends
returns-clause-mends g c =
    let img = seen (g.D.Disk.history c.args.disk.now) in
    let so = λ (r : Option Bool). IfSome r (λ b. IsTrue g.D.Disk.tells → MendsSo img b) in
    elim c.match-read_damaged.branch [
      | in-Ok w ↦ subst so (sym w.result-is) (λ told. w.in-Ok.ensures.can_mend told)
      | in-Err-Refused w ↦
          (let no = w.in-Err-Refused in
          subst so (sym w.result-is) (λ told can. not_mended img no.field-0-0 can (subst (MendHalts img) no.field-0-is (no.ensures.refused told))))
      | in-Err w ↦ subst so (sym w.result-is) tt
    ]
