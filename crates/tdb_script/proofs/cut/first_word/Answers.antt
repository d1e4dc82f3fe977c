use Rattle.std.proofs.Common.{sym, ◌∙◌}
use Rattle.tdb_script.proofs.CutLemmas.{words_none, words_found}
use Rattle.tdb_script.proofs.cut.first_word.Goals as goal

pub returns-in_default : goal.returns-in_default
returns-in_default c = words_none c.args.line.now (sym c.word_start.ensures ∙ c.in_default.is)

pub split_at-requires-2 : goal.split_at-requires-2
split_at-requires-2 c = c.word_len.ensures.within

pub returns : goal.returns
returns c =
    words_found c.args.line.now c.split_at.result.1.now c.split_at-2.result.0.now c.split_at-2.result.1.now c.in-Some.start c.word_len.result
    (sym c.word_start.ensures ∙ c.in-Some.is) c.split_at.ensures.back c.word_len.ensures.len c.split_at-2.ensures.front c.split_at-2.ensures.back
