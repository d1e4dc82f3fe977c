-- The number is raised, and nothing else changes.
use Rattle.std.proofs.Common.{◌≡◌, ◌≤◌, sym, subst, arith}
use Rattle.std.specs.Prelude.{IsTrue}
use Rattle.std.proofs.lemmas.Result.{on_ok_weaker}
use Rattle.tdb_words.specs.Word.{word}
use Rattle.tdb_law.specs.Counting.{raised}
use Rattle.tdb_chain.specs.Raised.{next_number}
use Rattle.tdb_steps.specs.Turns.{number_of}
use Rattle.tdb_space.proofs.Results.{on_err}
use Rattle.tdb_steps.proofs.counting.count.Goals as goal

pub returns-then-counts-clause-counted : goal.returns-then-counts-clause-counted
returns-then-counts-clause-counted g c =
    let f = g.S.Space.form c.args.s.now in
    let a = g.S.Space.image c.args.s.now in
    let b = g.S.Space.image c.raise_seq.new.s in
    let size = g.S.Space.size c.args.s.now in
    on_ok_weaker c.raise_seq.result
    (λ (number : IsTrue g.S.Space.tells → 52 ≤ size → word f.order b 48 ≡ next_number (word f.order a 48)) told hands A. record {
      stay = (c.raise_seq.ensures.kept told hands A).stay;
      number = subst (λ x. number_of f b ≡ raised x (number_of f a)) (sym c.if-counts.true) (number told (let long = A.long in let same = g.met.S.Space.told_size c.args.s.now told in omega (arith, long, same)));
    }) c.raise_seq.ensures.raised

-- or it failed
pub returns-then-counts-clause-stopped : goal.returns-then-counts-clause-stopped
returns-then-counts-clause-stopped g c = on_err c.raise_seq.result (λ told hands A. (c.raise_seq.ensures.kept told hands A).stay)
