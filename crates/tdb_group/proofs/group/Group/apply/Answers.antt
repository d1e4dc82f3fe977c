-- The command is done, or the disk of the file failed.
use Rattle.std.proofs.Common.{◌≡◌, ◌<◌, true, false, Err, Ok, ap, length, refl, set, subst, sym, ◌∙◌}
use Rattle.std.proofs.lemmas.Option.{slice_get_read}
use Rattle.tdb_commands.specs.InLaw.{law_command}
use Rattle.tdb_locks.specs.declared.turn.Reply.{Reply}
use Rattle.tdb_group.specs.Calls.{DidAt}
use Rattle.tdb_group.specs.Faults.{at_file}
use Rattle.tdb_group.specs.Files.{Applied}
use Rattle.tdb_group.specs.Group.{GroupState}
use Rattle.tdb_group.specs.Turns.{Ran}
use Rattle.tdb_group.proofs.Calls.{did_done, did_failed}
use Rattle.tdb_group.proofs.group.Group.apply.Goals as goal

pub returns-in-Ok : goal.returns-in-Ok
returns-in-Ok g c =
    let I = c.self.inside in
    let n = c.args.n in
    let old : GroupState = record { files = I.worlds.items; prepared = I.prepared; finished = I.finished; stopped = I.stopped } in
    let low : n < length I.worlds.items = subst (λ (s : GroupState). n < length s.files) (sym c.self.view_is) c.requires.there in
    let here = slice_get_read I.worlds.items (length I.worlds.items) n c.index_mut.result.now refl low c.index_mut.ensures.value in
    let unprepared : I.prepared ≡ false = ap (λ (s : GroupState). s.prepared) c.self.view_is ∙ c.requires.open.unprepared in
    subst (λ s. DidAt g.D.Disk.tells s (record old { files = set I.worlds.items n c.apply.new.world }) n c.args.command (Ok c.in-Ok.reply)) c.self.view_is
    (did_done g.D.Disk.tells old n c.args.command c.index_mut.result.now c.apply.new.world here unprepared (ap (λ (s : GroupState). s.stopped) c.self.view_is ∙ c.requires.open.going)
    (c.self.invariant.begun unprepared) c.in-Ok.reply c.in-Ok.ensures.ran c.in-Ok.ensures.applied)

pub returns-in-Err : goal.returns-in-Err
returns-in-Err g c =
    let I = c.self.inside in
    let n = c.args.n in
    let old : GroupState = record { files = I.worlds.items; prepared = I.prepared; finished = I.finished; stopped = I.stopped } in
    let low : n < length I.worlds.items = subst (λ (s : GroupState). n < length s.files) (sym c.self.view_is) c.requires.there in
    let here = slice_get_read I.worlds.items (length I.worlds.items) n c.index_mut.result.now refl low c.index_mut.ensures.value in
    let unprepared : I.prepared ≡ false = ap (λ (s : GroupState). s.prepared) c.self.view_is ∙ c.requires.open.unprepared in
    subst (λ s. DidAt g.D.Disk.tells s (record old { files = set I.worlds.items n c.apply.new.world; stopped = true }) n c.args.command (Err c.at.result)) c.self.view_is
    (subst (λ r. DidAt g.D.Disk.tells old (record old { files = set I.worlds.items n c.apply.new.world; stopped = true }) n c.args.command (Err r))
    (sym (c.at.ensures ∙ ap (λ s. at_file s n) c.in-Err.ensures.fault))
    (did_failed g.D.Disk.tells old n c.args.command c.index_mut.result.now c.apply.new.world here unprepared (ap (λ (s : GroupState). s.stopped) c.self.view_is ∙ c.requires.open.going)
    (c.self.invariant.begun unprepared)
    (subst (λ s. Ran {V = Reply} c.index_mut.result.now c.apply.new.world (Err s)) c.in-Err.ensures.fault c.in-Err.ensures.ran)
    (subst (λ s. Applied g.D.Disk.tells (law_command c.args.command) c.index_mut.result.now c.apply.new.world (Err s)) c.in-Err.ensures.fault c.in-Err.ensures.applied)))
