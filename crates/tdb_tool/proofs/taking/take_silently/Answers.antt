use Rattle.std.proofs.lemmas.Result.{err_from_is_err_and}
use Rattle.tdb_tool.proofs.Plays.{play_broke, play_silent, silent_refused, silent_begins}
use Rattle.tdb_tool.proofs.taking.take_silently.Goals as goal

-- the play broke off
pub returns-in_err-heard-clause-ran : goal.returns-in_err-heard-clause-ran
returns-in_err-heard-clause-ran g c told written =
    let q = err_from_is_err_and c.from_residual.result c.from_residual.ensures.1 in
    rw (q.1, q.2)
    (play_broke g.D.Disk.tells told _ _ _ _ c.new-report.ensures c.args.play written _ _ _ _ (silent_begins c.args.play)
    c.in_err-heard.field-0.0 c.in_err-heard.ensures.taken c.in_err-heard.ensures.spent)

-- a log refused
pub returns-in_err-heard-2-clause-ran : goal.returns-in_err-heard-2-clause-ran
returns-in_err-heard-2-clause-ran g c told written =
    let q = err_from_is_err_and c.from_residual-in_err-heard-2.result c.from_residual-in_err-heard-2.ensures.1 in
    rw (q.1, q.2)
    (silent_refused g.D.Disk.tells told _ _ _ _ c.new-report.ensures c.args.play written _ _ _ c.in_ok-heard.ensures.taken c.in_ok-heard.ensures.spent
    c.in_err-heard-2.field-0.0 c.in_err-heard-2.was)

-- it was taken
pub returns-clause-ran : goal.returns-clause-ran
returns-clause-ran g c told written =
    play_silent g.D.Disk.tells told _ _ _ _ c.new-report.ensures c.args.play written _ _ _ c.in_ok-heard.ensures.taken c.in_ok-heard.ensures.spent
    c.in_ok-heard-2.field-0 c.in_ok-heard-2.was
