-- The play broke off, a log refused, or it was taken whole.
use Rattle.std.proofs.lemmas.Result.{err_from_is_err_and}
use Rattle.tdb_merge.proofs.Ended.{ending_unread}
use Rattle.tdb_merge.proofs.Plays.{led_broken, led_refused, led_taken, ran_broke, ran_taken, unread_as}
use Rattle.tdb_merge.proofs.playing.take_play.Goals as goal

pub returns-in_err-heard-clause-ran : goal.returns-in_err-heard-clause-ran
returns-in_err-heard-clause-ran g c =
    let q = err_from_is_err_and c.from_residual.result c.from_residual.ensures.1 in
    rw (q.1, q.2) (ran_broke g.D.Disk.tells _ _ _ _ c.args.play _ _ c.in_err-heard.field-0.0 c.in_err-heard.ensures.taken c.in_err-heard.ensures.spent)

pub returns-in_err-heard-clause-led : goal.returns-in_err-heard-clause-led
returns-in_err-heard-clause-led g c command is m n from end to does =
    let q = err_from_is_err_and c.from_residual.result c.from_residual.ensures.1 in
    rw (q.1, q.2) (led_broken g.D.Disk.tells _ _ _ _ c.new-report.ensures _ _ c.args.play command is m n from end to does c.in_err-heard.field-0.0 c.in_err-heard.ensures.taken)

pub returns-in_err-heard-2-clause-ran : goal.returns-in_err-heard-2-clause-ran
returns-in_err-heard-2-clause-ran g c =
    let q = err_from_is_err_and c.from_residual-in_err-heard-2.result c.from_residual-in_err-heard-2.ensures.1 in
    rw (q.1, q.2) (ran_taken g.D.Disk.tells _ _ _ _ c.args.play _ _ _ c.in_ok-heard.ensures.taken c.in_ok-heard.ensures.spent _)

pub returns-in_err-heard-2-clause-led : goal.returns-in_err-heard-2-clause-led
returns-in_err-heard-2-clause-led g c command is m n from end to does =
    let q = err_from_is_err_and c.from_residual-in_err-heard-2.result c.from_residual-in_err-heard-2.ensures.1 in
    rw (q.1, q.2) (led_refused g.D.Disk.tells _ _ _ _ c.new-report.ensures _ _ c.args.play command is m n from end to does _ c.in_ok-heard.ensures.taken c.in_err-heard-2.field-0.0)

pub returns-clause-ran : goal.returns-clause-ran
returns-clause-ran g c = ran_taken g.D.Disk.tells _ _ _ _ c.args.play _ _ _ c.in_ok-heard.ensures.taken c.in_ok-heard.ensures.spent c.ending_of.result

pub returns-clause-led : goal.returns-clause-led
returns-clause-led g c command is m n from end to does =
    led_taken g.D.Disk.tells _ _ _ _ c.new-report.ensures _ _ c.args.play command is m n from end to does _ c.in_ok-heard.ensures.taken c.ending_of.result c.ending_of.ensures

pub returns-clause-fault : goal.returns-clause-fault
returns-clause-fault g c = unread_as c.ending_of.result c.play.new.report.lines c.ending_of.ensures (ending_unread c.play.new.report.lines)
