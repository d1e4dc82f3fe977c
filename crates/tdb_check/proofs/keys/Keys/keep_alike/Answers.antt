-- Those that are left each time.
use Rattle.tdb_check.proofs.keys.Keys.keep_alike.Goals as goal

pub returns-clause-kept : goal.returns-clause-kept
returns-clause-kept c f img xs kept =
    let one = c.in_ok-forget_lone.ensures.kept f img xs kept in
    let two = c.in_ok-forget_lone-2.ensures.kept f img one.ys one.kept in
    let three = c.in_ok-forget_lone-3.ensures.kept f img two.ys two.kept in
    record { ys = three.ys; kept = three.kept; enough = λ differ. one.enough (two.enough (three.enough differ)) }
