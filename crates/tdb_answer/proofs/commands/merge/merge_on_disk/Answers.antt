use Rattle.std.proofs.Common.{◌≡◌, [], ◌∙◌, Err, sym, subst}
use Rattle.tdb_disk.specs.History.{seen}
use Rattle.tdb_open.specs.Loading.{OpensToTurn, IsOpened, OpenedToTurn}
use Rattle.tdb_open.specs.Opening.{IsCheckedOn}
use Rattle.tdb_answer.specs.Commands.Merge.{EndsMerge, MergeLeft, merge_told, merge_unopened, merge_ran, CountedPair}
use Rattle.tdb_world.specs.Whole.{form_at}
use Rattle.tdb_answer.specs.Ending.{of_halt}
use Rattle.tdb_answer.proofs.Merging.{view_accepted, merged_on, merge_counted, told_known, halted_known, other_halted}
use Rattle.tdb_answer.proofs.Turning.{halt_counted}
use Rattle.tdb_answer.proofs.commands.merge.merge_on_disk.Goals as goal

-- the other file wasn't opened, and the disk came back with the refusal
pub returns-in-Err-clause-left : goal.returns-in-Err-clause-left
returns-in-Err-clause-left g c told =
    let old = g.D.Disk.history c.args.disk in
    let now = g.D.Disk.history c.in-Err.disk in
    let H = c.in-Err.ensures.halted in
    subst (MergeLeft c.args.limit c.args.prefix.now (seen (g.D.Disk.history c.args.first.now)) old now) (sym c.from.ensures)
    (merge_unopened c.in-Err.halt (subst (λ o. OpenedToTurn o old now (Err c.in-Err.halt)) c.options_within-options.ensures (H.opened told)) (H.stops told))

pub returns-in-Err-clause-known : goal.returns-in-Err-clause-known
returns-in-Err-clause-known g c = halted_known c.in-Err.halt c.from.result c.from.ensures

pub returns-in-Err-clause-counted : goal.returns-in-Err-clause-counted
returns-in-Err-clause-counted g c =
    let before = g.D.Disk.faults c.args.disk in
    let after = g.D.Disk.faults c.in-Err.disk in
    let cause = c.in-Err.ensures.cause in
    subst (CountedPair g.D.Disk.tells (g.D.Disk.faults c.args.first.now) (g.D.Disk.faults c.args.first.now) before after) (sym c.from.ensures)
    (other_halted g.D.Disk.tells (g.D.Disk.faults c.args.first.now) before after (of_halt c.in-Err.halt) (halt_counted g.D.Disk.tells before after c.in-Err.halt cause.never_falls cause.failed cause.refused))

-- it was: its bytes are accepted with the form of the world
pub merge-disk-requires-clause-accepted : goal.merge-disk-requires-clause-accepted
merge-disk-requires-clause-accepted g c = c.in-Ok.ensures.loaded.begun.accepted

-- and the pairs were merged into it
pub returns-clause-left : goal.returns-clause-left
returns-clause-left g c told =
    let w = c.in-Ok.loaded.0 in
    let old = g.D.Disk.history c.args.disk in
    let now = g.D.Disk.history c.merge-disk.result.0 in
    let answer = c.merge-disk.result.1 in
    let o = c.args.opened.now in
    let prefix = c.args.prefix.now in
    let from = c.new-source.result.disk.now in
    let img = seen (g.D.Disk.history from) in
    let header = c.new-source.result.header in
    let shows = c.new-source.ensures.header in
    let checked = subst (λ d. IsCheckedOn (seen (g.D.Disk.history d)) o) (sym c.new-source.ensures.disk) (c.requires.opened told) in
    let is = c.options_within-options.ensures in
    let B = c.in-Ok.ensures.loaded.begun in
    let O = c.in-Ok.ensures.opened in
    let start = B.state told in
    subst (MergeLeft c.args.limit prefix (seen (g.D.Disk.history c.args.first.now)) old now) (sym c.told.ensures)
    (subst (λ d. MergeLeft c.args.limit prefix (seen (g.D.Disk.history d)) old now (merge_told answer)) c.new-source.ensures.disk
    (merge_ran answer
    (merged_on c.args.limit prefix img o header (form_at w.world) old w.history now answer shows checked (B.form told)
    (subst (λ q. OpensToTurn q (seen old)) is (O.opened told).0) (subst (λ q. IsOpened q old w.history) is (O.opened told).1) (O.stops told)
    (c.merge-disk.ensures.merged told told [] (view_accepted img o header shows checked) start.0 start.1))))

pub returns-clause-known : goal.returns-clause-known
returns-clause-known g c = subst EndsMerge (sym c.told.ensures) (told_known c.merge-disk.result.1)

-- how often the two disks had failed then
pub returns-clause-counted : goal.returns-clause-counted
returns-clause-counted g c =
    let tells = g.D.Disk.tells in
    let o = c.args.opened.now in
    let from = c.new-source.result.disk.now in
    let img = seen (g.D.Disk.history from) in
    let header = c.new-source.result.header in
    let shows = c.new-source.ensures.header in
    let before = g.D.Disk.faults c.args.disk in
    let mid = c.in-Ok.loaded.0.faults in
    let after = g.D.Disk.faults c.merge-disk.result.0 in
    let start = g.D.Disk.faults from in
    let last = g.D.Disk.faults c.merge-disk.new.from.disk.now in
    let under = c.merge-disk.ensures.looked.under in
    let kept : c.merge-disk.new.from.disk.ghost_name ≡ c.new-source.result.disk.ghost_name = cc in
    let done = merge_counted tells start last before mid after c.in-Ok.ensures.done c.merge-disk.ensures.rises c.merge-disk.result.1 c.merge-disk.ensures.quiet
    (λ told.
    (let checked = subst (λ d. IsCheckedOn (seen (g.D.Disk.history d)) o) (sym c.new-source.ensures.disk) (c.requires.opened told) in
    let begun = c.in-Ok.ensures.loaded.begun.state told in
    c.merge-disk.ensures.rose told told [] (view_accepted img o header shows checked) begun.0 begun.1))
    c.merge-disk.ensures.cause in
    subst (CountedPair tells _ _ before after) (sym c.told.ensures)
    (subst (λ d. CountedPair tells (g.D.Disk.faults c.args.first.now) (g.D.Disk.faults d) before after (merge_told c.merge-disk.result.1)) (sym (c.first-1.given.1 (sym c.new-source.ensures.same_reference ∙ sym kept)))
    (subst (λ d. CountedPair tells (g.D.Disk.faults d) last before after (merge_told c.merge-disk.result.1)) c.new-source.ensures.disk done))
