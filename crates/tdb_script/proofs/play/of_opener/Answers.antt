use Rattle.std.proofs.Common.{subst}
use Rattle.tdb_script.specs.Script.{IsOpenerPlay}
use Rattle.tdb_script.proofs.play.of_opener.Goals as goal

-- an opener's play without a command that is none
pub returns-in-None-clause-refused : goal.returns-in-None-clause-refused
returns-in-None-clause-refused c is play p =
    c.alone.ensures.refused is play (subst (λ ws. IsOpenerPlay c.args.name.now c.args.who ws play) (c.in-None.ensures) p)
