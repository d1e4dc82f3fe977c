use Rattle.std.proofs.Common.{◌++◌}
use Rattle.std.proofs.lemmas.Result.{err_from_is_err_and}
use Rattle.tdb_tool.proofs.Plays.{play_broke, play_told, play_untold, play_refused, play_begins}
use Rattle.tdb_tool.proofs.Telling.{nothing_behind, all_behind}
use Rattle.tdb_tool.proofs.taking.take_play.Goals as goal

-- the play broke off
pub returns-in_err-told-clause-played : goal.returns-in_err-told-clause-played
returns-in_err-told-clause-played g c told written =
    let q = err_from_is_err_and c.from_residual.result c.from_residual.ensures.1 in
    rw (q.1, q.2, nothing_behind written c.clear.new.self.items c.clear.ensures.items)
    (play_broke g.D.Disk.tells told _ _ _ _ c.new-report.ensures c.args.play written _ _ _ _
    (play_begins c.args.play c.args.listing) c.in_err-told.field-0.0 c.in_err-told.ensures.taken c.in_err-told.ensures.spent)

-- memory was wanting for its text
pub returns-in_err-push_replies-clause-played : goal.returns-in_err-push_replies-clause-played
returns-in_err-push_replies-clause-played g c told written =
    let q = err_from_is_err_and c.from_residual-in_err-push_replies.result c.from_residual-in_err-push_replies.ensures.1 in
    rw (q.1, q.2)
    (play_untold g.D.Disk.tells told _ _ _ _ c.new-report.ensures c.args.play written _ _ _
    c.in_ok-told.ensures.taken c.in_ok-told.ensures.spent
    c.args.listing (written ++ c.push_replies.new.text.items) (nothing_behind written c.push_replies.new.text.items c.in_err-push_replies.ensures.emptied))

-- a log had refused
pub returns-in_err-told-2-clause-played : goal.returns-in_err-told-2-clause-played
returns-in_err-told-2-clause-played g c told written =
    let q = err_from_is_err_and c.from_residual-in_err-told-2.result c.from_residual-in_err-told-2.ensures.1 in
    rw (q.1, q.2)
    (play_refused g.D.Disk.tells told _ _ _ _ c.new-report.ensures c.args.play written _ _ _
    c.in_ok-told.ensures.taken c.in_ok-told.ensures.spent
    c.args.listing (written ++ c.push_replies.new.text.items) c.in_err-told-2.field-0.0 c.in_err-told-2.was
    (λ out. all_behind written c.clear.new.self.items _ c.push_replies.new.text.items c.clear.ensures.items c.in_ok-push_replies.ensures.whole))

-- it was taken
pub returns-clause-played : goal.returns-clause-played
returns-clause-played g c told written =
    play_told g.D.Disk.tells told _ _ _ _ c.new-report.ensures c.args.play written _ _ _
    c.in_ok-told.ensures.taken c.in_ok-told.ensures.spent
    c.args.listing (written ++ c.push_replies.new.text.items)
    (λ out. all_behind written c.clear.new.self.items _ c.push_replies.new.text.items c.clear.ensures.items c.in_ok-push_replies.ensures.whole)
    c.in_ok-told-2.field-0 c.in_ok-told-2.was c.has_pair.result c.has_pair.ensures
