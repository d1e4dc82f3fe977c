-- All are prepared; or there was no room for one, and all are cancelled; or the call broke off otherwise.
use Rattle.std.proofs.Common.{◌≡◌, true, false, Err, Ok, ap, subst, sym, ◌∙◌}
use Rattle.tdb_group.specs.Calls.{PreparedAll}
use Rattle.tdb_group.specs.Each.{PreparedEach, WellIfDone}
use Rattle.tdb_group.specs.Faults.{refused}
use Rattle.tdb_group.specs.Group.{GroupState}
use Rattle.tdb_group.proofs.Calls.{all_prepared, preparing_failed, refused_room, sound_prepared, well_unspent}
use Rattle.tdb_group.proofs.group.Group.prepare.Goals as goal

pub invariant_of-self : goal.invariant_of-self
invariant_of-self g c =
    let I = c.self.inside in
    let old : GroupState = record { files = I.worlds.items; prepared = I.prepared; finished = I.finished; stopped = I.stopped } in
    sound_prepared old c.prepare_each.new.worlds.items c.self.invariant c.in_default.ensures.count c.in_default.ensures.well

pub returns-in_default : goal.returns-in_default
returns-in_default g c =
    let I = c.self.inside in
    let old : GroupState = record { files = I.worlds.items; prepared = I.prepared; finished = I.finished; stopped = I.stopped } in
    let news = c.prepare_each.new.worlds.items in
    let before = g.L.Logs.logs c.args.logs.now in
    let after = g.L.Logs.logs c.prepare_each.new.logs in
    let unprepared : I.prepared ≡ false = ap (λ (s : GroupState). s.prepared) c.self.view_is ∙ c.requires.open.unprepared in
    subst (λ s. PreparedAll g.D.Disk.tells s (record old { files = news; prepared = true }) before after (Ok tt)) c.self.view_is
    (all_prepared g.D.Disk.tells old before after unprepared (ap (λ (s : GroupState). s.stopped) c.self.view_is ∙ c.requires.open.going) (c.self.invariant.begun unprepared) news c.in_default.ensures)

pub cancel_each-requires-clause-unspent : goal.cancel_each-requires-clause-unspent
cancel_each-requires-clause-unspent g c =
    let olds = c.self.inside.worlds.items in
    let mids = c.prepare_each.new.worlds.items in
    well_unspent olds mids c.in-Err.ensures.count (subst (λ s. WellIfDone olds mids (Err s)) c.in-Refused.is c.in-Err.ensures.well)

pub returns-in-Refused : goal.returns-in-Refused
returns-in-Refused g c =
    let I = c.self.inside in
    let old : GroupState = record { files = I.worlds.items; prepared = I.prepared; finished = I.finished; stopped = I.stopped } in
    let mids = c.prepare_each.new.worlds.items in
    let news = c.cancel_each.new.worlds.items in
    let before = g.L.Logs.logs c.args.logs.now in
    let after = g.L.Logs.logs c.prepare_each.new.logs in
    let unprepared : I.prepared ≡ false = ap (λ (s : GroupState). s.prepared) c.self.view_is ∙ c.requires.open.unprepared in
    subst (λ s. PreparedAll g.D.Disk.tells s (record old { files = news; stopped = true }) before after (Err c.refused.result)) c.self.view_is
    (subst (λ r. PreparedAll g.D.Disk.tells old (record old { files = news; stopped = true }) before after (Err r)) (sym (c.refused.ensures ∙ ap (λ s. refused s c.cancel_each.result) c.in-Refused.is))
    (refused_room g.D.Disk.tells old before after unprepared (ap (λ (s : GroupState). s.stopped) c.self.view_is ∙ c.requires.open.going) (c.self.invariant.begun unprepared) mids news c.in-Refused.at c.in-Refused.reply
    (subst (λ s. PreparedEach g.D.Disk.tells I.worlds.items mids before after (Err s)) c.in-Refused.is c.in-Err.ensures) c.cancel_each.result c.cancel_each.ensures))

pub returns-in_default-stop : goal.returns-in_default-stop
returns-in_default-stop g c =
    let I = c.self.inside in
    let old : GroupState = record { files = I.worlds.items; prepared = I.prepared; finished = I.finished; stopped = I.stopped } in
    let news = c.prepare_each.new.worlds.items in
    let before = g.L.Logs.logs c.args.logs.now in
    let after = g.L.Logs.logs c.prepare_each.new.logs in
    let unprepared : I.prepared ≡ false = ap (λ (s : GroupState). s.prepared) c.self.view_is ∙ c.requires.open.unprepared in
    subst (λ s. PreparedAll g.D.Disk.tells s (record old { files = news; stopped = true }) before after (Err c.in-Err.stop)) c.self.view_is
    (preparing_failed g.D.Disk.tells old before after unprepared (ap (λ (s : GroupState). s.stopped) c.self.view_is ∙ c.requires.open.going) (c.self.invariant.begun unprepared) news c.in-Err.stop
    c.in_default-stop.not-Refused c.in-Err.ensures)
