-- The file is finished, or its disk failed.
use Rattle.std.proofs.Common.{◌<◌, ◌+◌, true, Err, Ok, add-one, ap, length, refl, set, subst, sym, ◌∙◌}
use Rattle.std.proofs.lemmas.Option.{slice_get_read}
use Rattle.tdb_group.specs.Calls.{FinishedNext}
use Rattle.tdb_group.specs.Faults.{at_file}
use Rattle.tdb_group.specs.Files.{Finished}
use Rattle.tdb_group.specs.Group.{GroupState}
use Rattle.tdb_group.specs.Turns.{Ran}
use Rattle.tdb_group.proofs.Calls.{finish_done, finish_failed}
use Rattle.tdb_group.proofs.group.Group.finish_next.Goals as goal

pub returns-in-Ok : goal.returns-in-Ok
returns-in-Ok g c =
    let I = c.self.inside in
    let old : GroupState = record { files = I.worlds.items; prepared = I.prepared; finished = I.finished; stopped = I.stopped } in
    let low : I.finished < length I.worlds.items = subst (λ (s : GroupState). s.finished < length s.files) (sym c.self.view_is) c.requires.left in
    let here = slice_get_read I.worlds.items (length I.worlds.items) I.finished c.index_mut.result.now refl low c.index_mut.ensures.value in
    subst (λ s. FinishedNext g.D.Disk.tells s (record old { files = set I.worlds.items I.finished c.finish.new.world; finished = I.finished + 1 }) (Ok I.finished)) c.self.view_is
    (finish_done g.D.Disk.tells old c.index_mut.result.now c.finish.new.world here (ap (λ (s : GroupState). s.prepared) c.self.view_is ∙ c.requires.prepared.prepared)
    (ap (λ (s : GroupState). s.stopped) c.self.view_is ∙ c.requires.prepared.going) (I.finished + 1) (add-one I.finished) c.in-Ok.ensures.ran c.in-Ok.ensures.finished)

pub returns-in-Err : goal.returns-in-Err
returns-in-Err g c =
    let I = c.self.inside in
    let old : GroupState = record { files = I.worlds.items; prepared = I.prepared; finished = I.finished; stopped = I.stopped } in
    let low : I.finished < length I.worlds.items = subst (λ (s : GroupState). s.finished < length s.files) (sym c.self.view_is) c.requires.left in
    let here = slice_get_read I.worlds.items (length I.worlds.items) I.finished c.index_mut.result.now refl low c.index_mut.ensures.value in
    subst (λ s. FinishedNext g.D.Disk.tells s (record old { files = set I.worlds.items I.finished c.finish.new.world; stopped = true }) (Err c.at.result)) c.self.view_is
    (subst (λ r. FinishedNext g.D.Disk.tells old (record old { files = set I.worlds.items I.finished c.finish.new.world; stopped = true }) (Err r))
    (sym (c.at.ensures ∙ ap (λ s. at_file s I.finished) c.in-Err.ensures.fault))
    (finish_failed g.D.Disk.tells old c.index_mut.result.now c.finish.new.world here (ap (λ (s : GroupState). s.prepared) c.self.view_is ∙ c.requires.prepared.prepared)
    (ap (λ (s : GroupState). s.stopped) c.self.view_is ∙ c.requires.prepared.going)
    (subst (λ s. Ran {V = Unit {0}} c.index_mut.result.now c.finish.new.world (Err s)) c.in-Err.ensures.fault c.in-Err.ensures.ran)
    (subst (λ s. Finished g.D.Disk.tells c.index_mut.result.now c.finish.new.world (Err s)) c.in-Err.ensures.fault c.in-Err.ensures.finished)))
