use Rattle.std.proofs.Common.{◌∙◌, ap}
use Rattle.std.proofs.lemmas.Bool.{false≢true}
use Rattle.tdb_space.specs.Pairs.{same_key}
use Rattle.tdb_space.proofs.Pairs.Maps.{same_key-refl}
use Rattle.tdb_cmdline.proofs.lines.convert.merge_for.Goals as goal

-- the file into which pairs are stored has another name
pub returns-clause-fits : goal.returns-clause-fits
returns-clause-fits c =
    let file = c.args.file.now in (
      λ is. false≢true (c.if-eq.ensures ∙ ap (λ n. same_key n file) (c.as_str.ensures ∙ is) ∙ same_key-refl file),
      c.requires.limit,
    )
