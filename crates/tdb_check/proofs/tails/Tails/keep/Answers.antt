-- One record less from the end.
use Rattle.std.proofs.Common.{[], ◌∷◌, ◌++◌, Some, append_assoc, append-nil, sym, ◌∙◌, ap, subst}
use Rattle.std.specs.Prelude.{if◌then◌else◌, nat_eq}
use Rattle.tdb_check.specs.Tails.{least_from, Closing}
use Rattle.tdb_check.proofs.DeadTails.{closing_step, kept_here, kept_more}
use Rattle.tdb_check.proofs.tails.Tails.keep.Goals as goal

pub loop-e-init : goal.loop-e-init
loop-e-init c = record { closing = λ f img seen h. h; kept = ([], sym (append-nil c.args.dead.now.items), tt) }

pub loop-e-preserved : goal.loop-e-preserved
loop-e-preserved c =
    let e = c.in-Some.e in
    let es = c.pop.new.self.items in
    let rest = c.loop-e.least in
    let k = c.loop-e.invariant.kept in
    record {
      closing = λ f img seen closing.
          (let h : Closing f img seen c.loop-e.self (es ++ e ∷ []) rest = subst (λ ds. Closing f img seen c.loop-e.self ds rest) c.in-Some.ensures.items (c.loop-e.invariant.closing f img seen closing) in
          subst (λ x. Closing f img seen c.put.new.self es (Some x)) (sym c.lower-from.ensures)
          (closing_step f img seen c.loop-e.self c.put.new.self es e rest h
          (λ q. c.in_ok-put.ensures q ∙ ap (λ x. if nat_eq q e.off then Some x else least_from c.loop-e.self q) c.lower-from.ensures)));
      kept = (
        e ∷ k.0,
        k.1 ∙ ap (λ ds. ds ++ k.0) c.in-Some.ensures.items ∙ append_assoc es (e ∷ []) k.0,
        (
          kept_here c.loop-e.self c.put.new.self e.off c.lower-from.result c.in_ok-put.ensures,
          kept_more c.loop-e.self c.put.new.self e.off c.lower-from.result k.0 c.in_ok-put.ensures k.2,
        ),
      );
    }

pub returns-clause-tails : goal.returns-clause-tails
returns-clause-tails c f img seen closing = (c.loop-e.invariant.closing f img seen closing).tails
