use Rattle.std.proofs.Common.{sym, ◌∙◌}
use Rattle.tdb_script.proofs.CutLemmas.{line_found, line_last}
use Rattle.tdb_script.proofs.cut.first_line.Goals as goal

pub returns-in-Some-clause-lines : goal.returns-in-Some-clause-lines
returns-in-Some-clause-lines c = line_found c.args.text.now c.in-Some.end (sym c.line_end.ensures ∙ c.in-Some.is)

pub returns-in-None-clause-lines : goal.returns-in-None-clause-lines
returns-in-None-clause-lines c = line_last c.args.text.now (sym c.line_end.ensures ∙ c.in-None.is)
