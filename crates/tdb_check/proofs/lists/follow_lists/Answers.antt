-- The first fault of the chains, that of the free list, and what both walks leave.
use Rattle.std.proofs.Common.{◌+◌, ◌∙◌, ap, inl, inr, length, refl, arith, rules}
use Rattle.std.specs.Prelude.{sum_by}
use Rattle.std.proofs.lemmas.Result.{err_from_is_err_and}
use Rattle.tdb_disk.specs.Count.{RoseUpTo}
use Rattle.tdb_space.specs.Form.{free_head}
use Rattle.tdb_space.specs.Chain.{free_of}
use Rattle.tdb_space.specs.FirstFault.{free_list, FirstInList}
use Rattle.tdb_check.proofs.AllLists.{lists_followed}
use Rattle.tdb_check.proofs.Following.{names_then}
use Rattle.tdb_check.specs.Reads.{record_reads}
use Rattle.tdb_check.proofs.Rising.{rose_then, rose_within}
use Rattle.tdb_check.proofs.Still.{still_then}
use Rattle.tdb_check.proofs.lists.follow_lists.Goals as goal

pub returns-in_err-live-clause-bad : goal.returns-in_err-live-clause-bad
returns-in_err-live-clause-bad g c =
    let p = err_from_is_err_and c.from_residual.result c.from_residual.ensures.1 in
    rw (p.1, p.2) (λ told long. names_then c.in_err-live.field-0.0 _ _ (λ fault h. inl h) (c.in_err-live.ensures.bad told long))

pub returns-in_err-follow_free_list-clause-bad : goal.returns-in_err-follow_free_list-clause-bad
returns-in_err-follow_free_list-clause-bad g c =
    let p = err_from_is_err_and c.from_residual-in_err-follow_free_list.result c.from_residual-in_err-follow_free_list.ensures.1 in
    let looked = c.in_ok-live.ensures.looked in
    rw (p.1, p.2)
    (λ told long.
    names_then c.in_err-follow_free_list.field-0.0 _ _
    (λ fault h. inr ((c.in_ok-live.ensures.sound told long).sound, still_then (λ f img. FirstInList f free_list img free_head fault) looked.form looked.image h))
    (c.in_err-follow_free_list.ensures.bad told (ap length looked.image ∙ long)))

pub returns-clause-sound : goal.returns-clause-sound
returns-clause-sound g c told long =
    let looked = c.in_ok-live.ensures.looked in
    lists_followed (g.S.Space.form c.args.s.now) (g.S.Space.image c.args.s.now) c.new-extents.result.items _ c.in_ok-live.live c.len-chained.result _ c.new-extents.ensures.items (c.in_ok-live.ensures.sound told long)
    looked.form looked.image (c.in_ok-follow_free_list.ensures.sound told (ap length looked.image ∙ long))
    (search rules) refl c.saturating_sub.ensures (search rules)

pub returns-in_err-follow_free_list-clause-bytes_in_all : goal.returns-in_err-follow_free_list-clause-bytes_in_all
returns-in_err-follow_free_list-clause-bytes_in_all g c told long =
    let looked = c.in_ok-live.ensures.looked in
    let free = still_then (λ f i. RoseUpTo (4 + sum_by (record_reads f i) (free_of f i)) (g.S.Space.bytes_read c.follow_chains.new.s) (g.S.Space.bytes_read c.follow_free_list.new.s)) looked.form looked.image (c.in_err-follow_free_list.ensures.bytes_read told (ap length looked.image ∙ long)) in
    rose_then _ _ _ _ _ _ (c.in_ok-live.ensures.bytes_in_all told long) free (omega arith)

pub returns-clause-bytes_in_all : goal.returns-clause-bytes_in_all
returns-clause-bytes_in_all g c told long =
    let looked = c.in_ok-live.ensures.looked in
    let free = still_then (λ f i. RoseUpTo (4 + sum_by (record_reads f i) (free_of f i)) (g.S.Space.bytes_read c.follow_chains.new.s) (g.S.Space.bytes_read c.follow_free_list.new.s)) looked.form looked.image (c.in_ok-follow_free_list.ensures.bytes_read told (ap length looked.image ∙ long)) in
    rose_then _ _ _ _ _ _ (c.in_ok-live.ensures.bytes_in_all told long) free (omega arith)

pub returns-clause-bytes_read : goal.returns-clause-bytes_read
returns-clause-bytes_read g c told long =
    let looked = c.in_ok-live.ensures.looked in
    let free = still_then (λ f i. RoseUpTo (4 + sum_by (record_reads f i) (free_of f i)) (g.S.Space.bytes_read c.follow_chains.new.s) (g.S.Space.bytes_read c.follow_free_list.new.s)) looked.form looked.image (c.in_ok-follow_free_list.ensures.bytes_read told (ap length looked.image ∙ long)) in
    rose_then _ _ _ _ _ _ (c.in_ok-live.ensures.bytes_read told long) free (omega arith)

pub returns-in_err-live-clause-bytes_in_all : goal.returns-in_err-live-clause-bytes_in_all
returns-in_err-live-clause-bytes_in_all g c told long = rose_within _ _ _ _ (c.in_err-live.ensures.bytes_in_all told long) (omega arith)
