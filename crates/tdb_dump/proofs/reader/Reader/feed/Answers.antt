use Rattle.std.proofs.Common.{◌≡◌, ◌++◌, [], Err, None, Some, sym, ◌∙◌, ap, subst, arith}
use Rattle.std.specs.Prelude.{vec_len}
use Rattle.std.proofs.lemmas.Bool.{eqb-true}
use Rattle.tdb_dump.specs.declared.reader.ReadRefusal.TheVariants.{Malformed}
use Rattle.tdb_dump.specs.Taken.{RefusedAt, Took, refusal_of}
use Rattle.tdb_dump.proofs.TakenLemmas.{none_of, no_pairs, append_no_pairs, Took_refused}
use Rattle.tdb_dump.proofs.reader.Reader.feed.Goals as goal

pub returns-in-Ok-clause-given : goal.returns-in-Ok-clause-given
returns-in-Ok-clause-given c = λ text before took.
    let none : refusal_of c.args.self.now ≡ None = none_of _ c.in_default.not-Some in
    let still : refusal_of c.read.new.self ≡ None = c.in-Ok.ensures.refusal ∙ none in
    rw c.of.ensures
    (record {
      begins = c.in-Ok.ensures.begins text before (took.goes none);
      goes = λ _. c.in-Ok.ensures.goes text before (took.goes none);
      refused = λ at refused. absurd (cc);
      wanting = λ wanting. absurd (cc);
    })

pub returns-then-is_empty-clause-malformed : goal.returns-then-is_empty-clause-malformed
returns-then-is_empty-clause-malformed c = λ text before at took e.
    let none : refusal_of c.args.self.now ≡ None = none_of _ c.in_default.not-Some in
    let same : c.in-Err.refusal ≡ Malformed at = cc in
    let zero : vec_len c.read.new.pairs ≡ 0 = eqb-true _ _ (sym c.is_empty.ensures ∙ c.if-is_empty.true) in
    let empty : c.read.new.pairs.items ≡ [] = no_pairs c.read.new.pairs.items (omega (arith, c.read.new.pairs.ok.0)) in
    subst (λ t. RefusedAt (text ++ c.args.piece.now) t at) (ap (λ t. before ++ t) empty ∙ sym (append_no_pairs before)) (c.in-Err.ensures.malformed text before at (took.goes none) (ap Err same))

pub returns-then-is_empty-clause-refused : goal.returns-then-is_empty-clause-refused
returns-then-is_empty-clause-refused c = λ text before took.
    let none : refusal_of c.args.self.now ≡ None = none_of _ c.in_default.not-Some in
    let zero : vec_len c.read.new.pairs ≡ 0 = eqb-true _ _ (sym c.is_empty.ensures ∙ c.if-is_empty.true) in
    let empty : c.read.new.pairs.items ≡ [] = no_pairs c.read.new.pairs.items (omega (arith, c.read.new.pairs.ok.0)) in
    let goes = took.goes none in
    let now = text ++ c.args.piece.now in
    let all = Took_refused now (before ++ c.read.new.pairs.items) c.read.new.self c.in-Err.refusal (c.in-Err.ensures.begins text before goes)
    (λ at is. c.in-Err.ensures.malformed text before at goes (ap Err is)) (λ is. c.in-Err.ensures.wanting (ap Err is) text before goes) in
    subst (λ t. Took now t (record c.read.new.self { refusal = Some c.in-Err.refusal })) (ap (λ t. before ++ t) empty ∙ sym (append_no_pairs before)) all

pub returns-else-is_empty-clause-given : goal.returns-else-is_empty-clause-given
returns-else-is_empty-clause-given c = λ text before took.
    let none : refusal_of c.args.self.now ≡ None = none_of _ c.in_default.not-Some in
    let goes = took.goes none in
    rw c.of-else-is_empty.ensures
    (Took_refused (text ++ c.args.piece.now) (before ++ c.read.new.pairs.items) c.read.new.self c.in-Err.refusal (c.in-Err.ensures.begins text before goes)
    (λ at is. c.in-Err.ensures.malformed text before at goes (ap Err is)) (λ is. c.in-Err.ensures.wanting (ap Err is) text before goes))
