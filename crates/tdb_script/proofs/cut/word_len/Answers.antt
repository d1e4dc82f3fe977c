use Rattle.std.proofs.Common.{sym, ◌∙◌}
use Rattle.tdb_script.specs.Lines.{is_blank}
use Rattle.tdb_script.proofs.CutLemmas.{found_place, not_found_len}
use Rattle.tdb_script.proofs.cut.word_len.Goals as goal

pub returns-in-Some-clause-len : goal.returns-in-Some-clause-len
returns-in-Some-clause-len c = sym (found_place is_blank c.args.text.now c.in-Some.end (sym c.word_end.ensures ∙ c.in-Some.is))

pub returns-in-None-clause-len : goal.returns-in-None-clause-len
returns-in-None-clause-len c = sym (not_found_len is_blank c.args.text.now (sym c.word_end.ensures ∙ c.in-None.is))
