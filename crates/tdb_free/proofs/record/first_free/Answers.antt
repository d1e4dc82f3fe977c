-- The head of the list leads to its first record; a file that ends before it has none.
use Rattle.std.proofs.Common.{◌≡◌, IsTrue, List, ℕ, sym, subst, arith}
use Rattle.std.proofs.lemmas.Result.{IfOk-weaker}
use Rattle.tdb_words.specs.Word.{word}
use Rattle.tdb_space.specs.Chain.{Free}
use Rattle.tdb_free.proofs.Rest.{free_short}
use Rattle.tdb_free.proofs.record.first_free.Goals as goal

pub returns-then-len-lt172-clause-leads : goal.returns-then-len-lt172-clause-leads
returns-then-len-lt172-clause-leads g c told offs free =
    let f = g.S.Space.form c.args.s.now in
    let img = g.S.Space.image c.args.s.now in
    free_short f img offs (word f.order img 168) free (omega (arith, g.met.S.Space.told_size c.args.s.now told, c.requires.length, c.if-len-lt172.true))

pub returns-clause-leads : goal.returns-clause-leads
returns-clause-leads g c =
    let f = g.S.Space.form c.args.s.now in
    let img = g.S.Space.image c.args.s.now in
    IfOk-weaker c.read_word.result (λ w. IsTrue g.S.Space.tells → w ≡ word f.order img 168)
    (λ at. IsTrue g.S.Space.tells → (offs : List ℕ) → Free f img (word f.order img 168) offs → Free f img at offs)
    (λ w is told offs free. subst (λ at. Free f img at offs) (sym (is told)) free) c.read_word.ensures.value
