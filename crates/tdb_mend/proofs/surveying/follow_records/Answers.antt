-- The first fault of the chains, that of the free list, and what both walks leave.
use Rattle.std.proofs.Common.{◌∙◌, ap, inl, inr, length}
use Rattle.std.proofs.lemmas.Result.{err_from_is_err_and}
use Rattle.tdb_space.specs.Form.{free_head}
use Rattle.tdb_space.specs.FirstFault.{free_list, FirstInList}
use Rattle.tdb_check.proofs.Following.{names_then}
use Rattle.tdb_check.proofs.Still.{still_then}
use Rattle.tdb_mend.proofs.Surveyed.{lists_shown}
use Rattle.tdb_mend.proofs.surveying.follow_records.Goals as goal

pub returns-in_err-follow_chains-clause-bad : goal.returns-in_err-follow_chains-clause-bad
returns-in_err-follow_chains-clause-bad g c =
    let p = err_from_is_err_and c.from_residual.result c.from_residual.ensures.1 in
    rw (p.1, p.2) (λ told long. names_then c.in_err-follow_chains.field-0.0 _ _ (λ fault h. inl h) (c.in_err-follow_chains.ensures.bad told long))

pub returns-in_err-follow_free_list-clause-bad : goal.returns-in_err-follow_free_list-clause-bad
returns-in_err-follow_free_list-clause-bad g c =
    let p = err_from_is_err_and c.from_residual-in_err-follow_free_list.result c.from_residual-in_err-follow_free_list.ensures.1 in
    let looked = c.in_ok-follow_chains.ensures.looked in
    rw (p.1, p.2)
    (λ told long.
    names_then c.in_err-follow_free_list.field-0.0 _ _
    (λ fault h. inr ((c.in_ok-follow_chains.ensures.sound told long).sound, still_then (λ f img. FirstInList f free_list img free_head fault) looked.form looked.image h))
    (c.in_err-follow_free_list.ensures.bad told (ap length looked.image ∙ long)))

pub returns-clause-sound : goal.returns-clause-sound
returns-clause-sound g c told long =
    let looked = c.in_ok-follow_chains.ensures.looked in
    lists_shown (g.S.Space.form c.args.s.now) (g.S.Space.image c.args.s.now) c.new-extents.result.items _ _ _ c.new-extents.ensures.items (c.in_ok-follow_chains.ensures.sound told long)
    looked.form looked.image (c.in_ok-follow_free_list.ensures.sound told (ap length looked.image ∙ long))
