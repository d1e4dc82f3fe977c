-- It broke off before the commits, in one of them, or both are done.
use Rattle.std.proofs.Common.{suc, Err, Ok, ap, arith, ◌∙◌}
use Rattle.std.proofs.lemmas.Result.{err_from_is_err_and}
use Rattle.tdb_move.specs.Faults.{of_stop}
use Rattle.tdb_move.proofs.Steps.{commit_failed, commits, commits_join, moved_failed, moved_not, moved_whole, one_more}
use Rattle.tdb_move.proofs.moving.move_in.Goals as goal

pub returns-in_err-ready : goal.returns-in_err-ready
returns-in_err-ready g c =
    let q = err_from_is_err_and c.from_residual.result c.from_residual.ensures.1 in
    rw (q.1, q.2) (moved_not g.D.Disk.tells c.args.key.now _ _ c.in_err-ready.field-0.0 c.in_err-ready.ensures.went c.in_err-ready.ensures.readied)

pub finish_next-requires-clause-left : goal.finish_next-requires-clause-left
finish_next-requires-clause-left g c =
    let done = c.in_ok-ready.ensures.went.finished in
    let count = c.in_ok-ready.ensures.went.count in
    let none = c.requires.none in
    let two = c.requires.two in
    omega (arith, done, count, none, two)

pub returns-in_err-finish_next : goal.returns-in_err-finish_next
returns-in_err-finish_next g c =
    let q = err_from_is_err_and c.from_residual-in_err-finish_next.result c.from_residual-in_err-finish_next.ensures.1 in
    let stop = c.in_err-finish_next.field-0.0 in
    rw (q.1, q.2)
    (moved_failed g.D.Disk.tells c.args.key.now _ _ _ c.requires.two c.in_ok-ready.ensures.went c.in_ok-ready.ensures.readied (of_stop stop) (commit_failed g.D.Disk.tells _ _ stop c.in_err-finish_next.ensures))

pub finish_next-requires-2-clause-prepared : goal.finish_next-requires-2-clause-prepared
finish_next-requires-2-clause-prepared g c = (one_more g.D.Disk.tells _ _ _ c.in_ok-finish_next.ensures c.in_ok-ready.ensures.prepared).0

pub finish_next-requires-2-clause-left : goal.finish_next-requires-2-clause-left
finish_next-requires-2-clause-left g c =
    let M = one_more g.D.Disk.tells _ _ _ c.in_ok-finish_next.ensures c.in_ok-ready.ensures.prepared in
    let next = M.1 in
    let same = M.2 in
    let done = c.in_ok-ready.ensures.went.finished in
    let count = c.in_ok-ready.ensures.went.count in
    let none = c.requires.none in
    let two = c.requires.two in
    omega (arith, next, same, done, count, none, two)

pub returns-in_err-finish_next-2 : goal.returns-in_err-finish_next-2
returns-in_err-finish_next-2 g c =
    let q = err_from_is_err_and c.from_residual-in_err-finish_next-2.result c.from_residual-in_err-finish_next-2.ensures.1 in
    let stop = c.in_err-finish_next-2.field-0.0 in
    rw (q.1, q.2)
    (moved_failed g.D.Disk.tells c.args.key.now _ _ _ c.requires.two c.in_ok-ready.ensures.went c.in_ok-ready.ensures.readied (of_stop stop)
    (commits_join g.D.Disk.tells _ _ _ (Err (of_stop stop)) (commits g.D.Disk.tells _ _ _ c.in_ok-finish_next.ensures) (λ told qs has. (c.in_ok-finish_next.ensures.left told qs has).0)
    (commit_failed g.D.Disk.tells _ _ stop c.in_err-finish_next-2.ensures)))

pub returns : goal.returns
returns g c =
    let F = c.in_ok-finish_next.ensures in
    let H = c.in_ok-finish_next-2.ensures in
    let M = one_more g.D.Disk.tells _ _ _ F c.in_ok-ready.ensures.prepared in
    let all = (one_more g.D.Disk.tells _ _ _ H M.0).1 ∙ ap suc M.1 ∙ ap (λ n. suc (suc n)) (c.in_ok-ready.ensures.went.finished ∙ c.requires.none) in
    moved_whole g.D.Disk.tells c.args.key.now _ _ _ c.requires.two c.in_ok-ready.ensures.went c.in_ok-ready.ensures.readied
    (commits_join g.D.Disk.tells _ _ _ (Ok (tt {0})) (commits g.D.Disk.tells _ _ _ F) (λ told qs has. (F.left told qs has).0) (commits g.D.Disk.tells _ _ _ H))
    (λ told qs has. (H.left told qs (F.left told qs has).0).0) all
