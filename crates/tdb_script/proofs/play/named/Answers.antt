use Rattle.std.proofs.Common.{◌∷◌, subst}
use Rattle.tdb_script.specs.Lines.{words_of}
use Rattle.tdb_script.specs.Script.{IsPlay}
use Rattle.tdb_script.proofs.ReadLemmas.{no_opener_play}
use Rattle.tdb_script.proofs.play.named.Goals as goal

-- a play with an opener's number that is none
pub returns-in-Some-number_of-clause-refused : goal.returns-in-Some-number_of-clause-refused
returns-in-Some-number_of-clause-refused c is play p =
    no_opener_play c.args.name.now c.in-Some.number.now (words_of c.in-Some.rest.now) c.in-Some-number_of.who c.in-Some-number_of.ensures.read
    (c.of_opener.ensures.refused is) play (subst (λ ws. IsPlay (c.args.name.now ∷ ws) play) c.in-Some.ensures p)
