use Rattle.std.proofs.Common.{◌≡◌, ◌-◌, [], List, ℕ, take, sym, ◌∙◌, subst, arith, length-take, get_or-take}
use Rattle.tdb_dump.specs.Expected.{State, LeadsAll, with_bytes}
use Rattle.tdb_dump.specs.declared.partial.Step.TheVariants.{Text}
use Rattle.tdb_dump.specs.Partial.{state_of}
use Rattle.std.proofs.lemmas.Bool.{eqb-true}
use Rattle.tdb_dump.specs.declared.partial.Step.{Step}
use Rattle.tdb_dump.proofs.ExpectedLemmas.{empty_list}
use Rattle.tdb_dump.proofs.MoveLemmas.{plain_run_leads}
use Rattle.tdb_dump.proofs.partial.Partial.take_run.Goals as goal

pub returns-clause-leads : goal.returns-clause-leads
returns-clause-leads c =
    let s = c.args.self.now in
    let run = take c.plain_run-run.result c.args.text.now in
    let none : s.fixed.now ≡ [] = empty_list s.fixed.now (eqb-true _ _ (sym c.is_empty.ensures ∙ c.if-is_empty.true)) in
    let leads = plain_run_leads run c.in-Text.left c.plain_run-run.result s.field s.key.items s.value.items (omega (arith, length-take c.plain_run-run.result c.args.text.now)) c.plain_run-run.ensures.few (λ k h. rw get_or-take (c.plain_run-run.ensures.plain k h)) in
    let from : List ℕ → Step → State = λ fixed step. record { fixed = fixed; step = step; field = s.field; key = s.key.items; value = s.value.items } in
    let to : State → State = λ t. record t { step = Text (c.in-Text.left - c.plain_run-run.result) } in
    subst (λ t. LeadsAll (state_of s) run (to t)) (sym c.in_ok-put.ensures.ok)
    (subst (λ fixed. LeadsAll (from fixed s.step) run (to (with_bytes (from fixed s.step) run))) (sym none)
    (subst (λ step. LeadsAll (from [] step) run (to (with_bytes (from [] step) run))) (sym c.in-Text.is) leads))
