-- The world is added, or isn't.
use Rattle.std.proofs.Common.{◌<◌, ◌≤◌, ◌++◌, ◌∷◌, [], List, ap, length, subst, subst₂, sym, ◌∙◌}
use Rattle.tdb_world.specs.OverFile.{OverFile}
use Rattle.tdb_group.specs.Calls.{Added, NotAdded}
use Rattle.tdb_group.specs.Faults.{at_file}
use Rattle.tdb_group.specs.Group.{GroupState, IsSoundGroup}
use Rattle.tdb_group.specs.declared.stop.GroupStop.TheVariants.{Memory}
use Rattle.tdb_group.proofs.Calls.{added, never_added, not_added, sound_more}
use Rattle.tdb_group.proofs.Parts.{not_started}
use Rattle.tdb_group.proofs.group.Group.add.Goals as goal

pub returns-then-is_err-clause-refused : goal.returns-then-is_err-clause-refused
returns-then-is_err-clause-refused g c =
    let I = c.self.inside in
    let w = c.args.world in
    let old : GroupState = record { files = I.worlds.items; prepared = I.prepared; finished = I.finished; stopped = I.stopped } in
    subst₂ (λ s k. NotAdded g.D.Disk.tells w w c.args.self.now s (Memory k)) (sym c.self.view_is ∙ ap (λ (l : List OverFile). record old { files = l }) (sym c.reserve.ensures.items)) (sym c.count-at.ensures)
    (never_added g.D.Disk.tells w c.args.self.now c.requires.writes c.requires.unspent (not_started g.D.Disk.tells w))

pub invariant_of-self-in-Ok : goal.invariant_of-self-in-Ok
invariant_of-self-in-Ok g c =
    let I = c.self.inside in
    let b = c.start.new.world in
    let old : GroupState = record { files = I.worlds.items; prepared = I.prepared; finished = I.finished; stopped = I.stopped } in
    let few : length I.worlds.items < 1000 = subst (λ (s : GroupState). length s.files < 1000) (sym c.self.view_is) c.requires.few in
    subst (λ (l : List OverFile). IsSoundGroup (record old { files = l })) (sym (c.push_reserved.ensures.items ∙ ap (λ (l : List OverFile). l ++ b ∷ []) c.reserve.ensures.items))
    (sound_more b old c.self.invariant few c.in-Ok.ensures.ran.unspent)

pub returns-in-Ok-clause-added : goal.returns-in-Ok-clause-added
returns-in-Ok-clause-added g c =
    let I = c.self.inside in
    let b = c.start.new.world in
    let old : GroupState = record { files = I.worlds.items; prepared = I.prepared; finished = I.finished; stopped = I.stopped } in
    let done : c.args.self.now.finished ≤ length c.args.self.now.files = subst (λ (s : GroupState). s.finished ≤ length s.files) c.self.view_is c.self.invariant.finished in
    subst₂ (Added g.D.Disk.tells c.args.world c.args.self.now)
    (ap (λ (s : GroupState). record s { files = s.files ++ b ∷ [] }) (sym c.self.view_is)
    ∙ ap (λ (l : List OverFile). record old { files = l }) (sym (c.push_reserved.ensures.items ∙ ap (λ (l : List OverFile). l ++ b ∷ []) c.reserve.ensures.items)))
    (sym c.count-at.ensures)
    (added g.D.Disk.tells c.args.world b c.args.self.now c.requires.open.unprepared done c.requires.writes c.in-Ok.ensures.ran c.in-Ok.ensures.started)

pub returns-in-Err-clause-refused : goal.returns-in-Err-clause-refused
returns-in-Err-clause-refused g c =
    let I = c.self.inside in
    let w = c.args.world in
    let b = c.start.new.world in
    let old : GroupState = record { files = I.worlds.items; prepared = I.prepared; finished = I.finished; stopped = I.stopped } in
    subst₂ (λ s r. NotAdded g.D.Disk.tells w b c.args.self.now s r) (sym c.self.view_is ∙ ap (λ (l : List OverFile). record old { files = l }) (sym c.reserve.ensures.items))
    (ap (at_file c.in-Err.stop) (sym c.count-at.ensures) ∙ sym c.at.ensures)
    (not_added g.D.Disk.tells w b c.args.self.now c.in-Err.stop c.requires.writes c.in-Err.ensures.ran c.in-Err.ensures.started c.in-Err.ensures.fault)
