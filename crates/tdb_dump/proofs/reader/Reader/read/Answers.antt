use Rattle.std.proofs.Common.{◌≡◌, ◌++◌, ℕ, List, refl, sym, ◌∙◌, ap, subst, arith, take, drop, append_assoc}
use Rattle.std.proofs.lemmas.List.{take-append-drop, take_rest, take_all}
use Rattle.std.proofs.lemmas.Result.{err_from_is_err_and}
use Rattle.std.proofs.Math.Seq.{take-add}
use Rattle.std.specs.Option.{option_to_list}
use Rattle.tdb_dump.specs.declared.pairs.Pair.{Pair}
use Rattle.tdb_dump.specs.Taken.{Goes, RefusedAt}
use Rattle.tdb_dump.proofs.ExpectedLemmas.{append_empty}
use Rattle.tdb_dump.specs.declared.reader.Reader.{Reader}
use Rattle.tdb_dump.specs.BadAt.{BeginsWith}
use Rattle.tdb_dump.proofs.TakenLemmas.{append_no_pairs, Goes_begins}
use Rattle.tdb_dump.proofs.reader.Reader.read.Goals as goal

pub loop-at-init : goal.loop-at-init
loop-at-init c = record {
  within = omega arith;
  goes = λ text before goes.
      subst (λ t. Goes t (before ++ c.args.pairs.now.items) c.args.self.now) (append_empty text)
      (subst (λ t. Goes text t c.args.self.now) (append_no_pairs before ∙ ap (λ t. before ++ t) (sym c.requires)) goes);
  refusal = refl;
}

pub returns-in_err-count-clause-malformed : goal.returns-in_err-count-clause-malformed
returns-in_err-count-clause-malformed c = λ text before at goes e.
    let piece = c.args.piece.now in
    let k = c.loop-at.at in
    let p = err_from_is_err_and c.from_residual-in_err-count.result c.from_residual-in_err-count.ensures.1 in
    let ensures = rw take_rest at c.in_err-count.ensures.malformed in
    rw c.reserve.ensures.items
    (subst (λ t. RefusedAt t (before ++ c.loop-at.pairs.items) at) (append_assoc text (take k piece) (drop k piece) ∙ ap (λ t. text ++ t) (take-append-drop k piece))
    (ensures (text ++ take k piece) (before ++ c.loop-at.pairs.items) at (c.loop-at.invariant.goes text before goes) (cc (p.1, p.2))))

pub loop-at-preserved : goal.loop-at-preserved
loop-at-preserved c =
    let piece = c.args.piece.now in
    let k = c.loop-at.at in
    let n = c.in_ok-count.count in
    let so_far = c.loop-at.pairs.items in
    let taken = rw take_rest at c.in_ok-count.ensures.taken in
    let step = rw take_rest at c.in_ok-count.ensures.goes in
    let more = option_to_list c.in_ok-count.pair in
    let added : so_far ++ more ≡ c.add.new.pairs.items = sym (c.add.ensures ∙ ap (λ t. t ++ more) c.reserve.ensures.items) in
    record {
      within = omega (arith, c.in_ok-count.ensures.taken);
      goes = λ text before goes.
          subst (λ t. Goes t (before ++ c.add.new.pairs.items) c.advance.new.self) (append_assoc text (take k piece) (take n (drop k piece)) ∙ ap (λ t. text ++ t) (sym (take-add k n piece)))
          (subst (λ t. Goes ((text ++ take k piece) ++ take n (drop k piece)) t c.advance.new.self) (append_assoc before so_far more ∙ ap (λ t. before ++ t) added)
          (step (text ++ take k piece) (before ++ so_far) (c.loop-at.invariant.goes text before goes)));
      refusal = c.in_ok-count.ensures.refusal ∙ c.loop-at.invariant.refusal;
    }

pub returns-clause-goes : goal.returns-clause-goes
returns-clause-goes c = λ text before goes.
    let whole : take c.loop-at.at c.args.piece.now ≡ c.args.piece.now = take_all c.loop-at.at c.args.piece.now (omega arith) in
    subst (λ t. Goes (text ++ t) (before ++ c.loop-at.pairs.items) c.loop-at.self) whole (c.loop-at.invariant.goes text before goes)

-- the piece is what the loop had taken of it, and its rest
so_far_and_rest : (text piece : List ℕ) (k : ℕ) → text ++ piece ≡ (text ++ take k piece) ++ drop k piece
so_far_and_rest text piece k = ap (λ t. text ++ t) (sym (take-append-drop k piece)) ∙ sym (append_assoc text (take k piece) (drop k piece))

-- the text begins with what the loop had taken
begins_so_far : (text piece : List ℕ) (k : ℕ) (pairs : List Pair) (r : Reader) → Goes (text ++ take k piece) pairs r → BeginsWith (text ++ piece) pairs
begins_so_far text piece k pairs r goes = subst (λ t. BeginsWith t pairs) (sym (so_far_and_rest text piece k)) (Goes_begins (text ++ take k piece) (drop k piece) pairs r goes)

pub returns-in_err-reserve-clause-begins : goal.returns-in_err-reserve-clause-begins
returns-in_err-reserve-clause-begins c = λ text before goes.
    rw c.reserve.ensures.items (begins_so_far text c.args.piece.now c.loop-at.at (before ++ c.loop-at.pairs.items) c.loop-at.self (c.loop-at.invariant.goes text before goes))

pub returns-in_err-count-clause-begins : goal.returns-in_err-count-clause-begins
returns-in_err-count-clause-begins c = λ text before goes.
    rw c.reserve.ensures.items (begins_so_far text c.args.piece.now c.loop-at.at (before ++ c.loop-at.pairs.items) c.loop-at.self (c.loop-at.invariant.goes text before goes))

pub returns-clause-begins : goal.returns-clause-begins
returns-clause-begins c = λ text before goes. begins_so_far text c.args.piece.now c.loop-at.at _ c.loop-at.self (c.loop-at.invariant.goes text before goes)

pub returns-in_err-reserve-clause-wanting : goal.returns-in_err-reserve-clause-wanting
returns-in_err-reserve-clause-wanting c = λ wanting text before goes.
    let piece = c.args.piece.now in
    let k = c.loop-at.at in
    rw c.reserve.ensures.items (text ++ take k piece, drop k piece, so_far_and_rest text piece k, c.loop-at.invariant.goes text before goes)

pub returns-in_err-count-clause-wanting : goal.returns-in_err-count-clause-wanting
returns-in_err-count-clause-wanting c = λ wanting text before goes.
    let piece = c.args.piece.now in
    let k = c.loop-at.at in
    let p = err_from_is_err_and c.from_residual-in_err-count.result c.from_residual-in_err-count.ensures.1 in
    rw c.reserve.ensures.items
    (text ++ take k piece, drop k piece, so_far_and_rest text piece k, c.in_err-count.ensures.wanting (cc (p.1, p.2)) (text ++ take k piece) (before ++ c.loop-at.pairs.items) (c.loop-at.invariant.goes text before goes))
