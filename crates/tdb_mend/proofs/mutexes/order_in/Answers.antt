-- The order in which the word at 32 is the version.
use Rattle.std.proofs.Common.{sym, ◌∙◌}
use Rattle.tdb_mend.proofs.Unlocked.{order_little, order_big, order_none}
use Rattle.tdb_mend.proofs.mutexes.order_in.Goals as goal

pub returns-then-word_in-eq-VERSION : goal.returns-then-word_in-eq-VERSION
returns-then-word_in-eq-VERSION c = sym (order_little c.args.bytes.now (sym c.word_in.ensures ∙ c.if-word_in-eq-VERSION.true))

pub returns-then-word_in-eq-VERSION-2 : goal.returns-then-word_in-eq-VERSION-2
returns-then-word_in-eq-VERSION-2 c = sym (order_big c.args.bytes.now (λ e. c.if-word_in-eq-VERSION.false (c.word_in.ensures ∙ e)) (sym c.word_in-2.ensures ∙ c.if-word_in-eq-VERSION-2.true))

pub returns : goal.returns
returns c = sym (order_none c.args.bytes.now (λ e. c.if-word_in-eq-VERSION.false (c.word_in.ensures ∙ e)) (λ e. c.if-word_in-eq-VERSION-2.false (c.word_in-2.ensures ∙ e)))
