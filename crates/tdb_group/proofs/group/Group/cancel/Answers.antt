-- All are cancelled, or a disk failed.
use Rattle.std.proofs.Common.{◌≡◌, true, ap, subst, sym, ◌∙◌}
use Rattle.tdb_group.specs.Calls.{CancelledAll}
use Rattle.tdb_group.specs.Group.{GroupState}
use Rattle.tdb_group.proofs.Calls.{all_cancelled, cancel_failed}
use Rattle.tdb_group.proofs.group.Group.cancel.Goals as goal
use Rattle.tdb_group.proofs.group.Group.cancel.Goals.{in-Ok, in-Err}

pub returns : goal.returns
returns g c =
    let I = c.self.inside in
    let old : GroupState = record { files = I.worlds.items; prepared = I.prepared; finished = I.finished; stopped = I.stopped } in
    let news = c.cancel_each.new.worlds.items in
    let none : I.finished ≡ 0 = ap (λ (s : GroupState). s.finished) c.self.view_is ∙ c.requires.none in
    subst (λ s. CancelledAll g.D.Disk.tells s (record old { files = news; stopped = true }) c.match-cancel_each.result) c.self.view_is
    (elim c.match-cancel_each.branch [
      | in-Ok w ↦ subst (CancelledAll g.D.Disk.tells old (record old { files = news; stopped = true })) (sym w.result-is) (all_cancelled g.D.Disk.tells old news none w.in-Ok.ensures)
      | in-Err w ↦ subst (CancelledAll g.D.Disk.tells old (record old { files = news; stopped = true })) (sym w.result-is) (cancel_failed g.D.Disk.tells old news w.in-Err.at none w.in-Err.ensures)
    ])
