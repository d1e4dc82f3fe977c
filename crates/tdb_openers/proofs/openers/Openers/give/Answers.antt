-- The opener that is given the command is the one with the number.
use Rattle.std.proofs.Common.{◌-◌, slice_get, refl, sym, ap, subst, ◌∙◌}
use Rattle.tdb_space.specs.Form.{form_in}
use Rattle.tdb_openers.specs.Given.{IsBeginning, IsWellHeld}
use Rattle.tdb_openers.specs.Openers.{own_of}
use Rattle.tdb_openers.specs.Worlds.{World}
use Rattle.tdb_openers.proofs.Joining.Putting.{numbered, assigned, seen_so, spots_still}
use Rattle.tdb_openers.proofs.openers.Openers.give.Goals as goal

pub job-job-requires-clause-well : goal.job-job-requires-clause-well
job-job-requires-clause-well c =
    let x = c.requires.free.0 in
    let F = c.requires.free.1 in
    let there = ap (λ w. slice_get w.openers F.number.place) c.self.view_is ∙ F.number.there in
    let same = numbered c.self.inside.list.items c.args.who F.number.place x c.in-Some.opener.now F.number.counted there c.in-Some.ensures.item.1 in
    subst (λ z. IsWellHeld z.held) (sym same) (c.requires.held x F)

pub invariant_of-self : goal.invariant_of-self
invariant_of-self c = c.self.invariant ∙ sym (spots_still c.self.inside.list.items (c.args.who - 1) c.in-Some.opener.now _ c.in-Some.ensures.item.1 refl)

pub returns : goal.returns
returns c size x F =
    seen_so c.self.view_is
    (λ G. assigned c.self.inside.header c.self.inside.options c.self.inside.list.items c.self.inside.locks c.args.who c.args.command size x c.in-Some.opener.now c.job-job.result
    G c.in-Some.ensures.item.1 c.job-job.ensures.command (c.job-job.ensures.stands size))
    F

pub job-job-requires-clause-begun : goal.job-job-requires-clause-begun
job-job-requires-clause-begun c B =
    let x = c.requires.free.0 in
    let F = c.requires.free.1 in
    let there = ap (λ w. slice_get w.openers F.number.place) c.self.view_is ∙ F.number.there in
    let same = numbered c.self.inside.list.items c.args.who F.number.place x c.in-Some.opener.now F.number.counted there c.in-Some.ensures.item.1 in
    c.requires.begun x F (subst (λ (w : World). IsBeginning (form_in w.header) (own_of w.options x) c.args.command) c.self.view_is
    (subst (λ z. IsBeginning (form_in c.self.inside.header) (own_of c.self.inside.options z) c.args.command) same B))
