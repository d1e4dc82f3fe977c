-- The old area is cleared, and the new one placed.
use Rattle.std.proofs.Common.{◌%◌, ap, ◌∙◌, arith}
use Rattle.tdb_disk.specs.History.{seen}
use Rattle.tdb_disk.proofs.Runs.{leaves_join, leaves_weaker}
use Rattle.tdb_space.specs.Form.{form_in}
use Rattle.tdb_space.specs.Undoing.{Reopens}
use Rattle.tdb_undo.specs.Placing.{Placing}
use Rattle.tdb_undo.proofs.Ensures.{placing_reopens, placed}
use Rattle.tdb_undo.proofs.placing.ensure.Goals as goal

pub returns-in_err-place_area-clause-stops : goal.returns-in_err-place_area-clause-stops
returns-in_err-place_area-clause-stops g c told quiet accepted is =
    let cleared = c.in_ok-clear_area.ensures.cleared told accepted is in
    leaves_join (g.D.Disk.history c.args.d.now) (g.D.Disk.history c.clear_area.new.d) (g.D.Disk.history c.place_area.new.d) (Reopens (seen (g.D.Disk.history c.args.d.now))) (c.clear_area.ensures.stops told quiet accepted is)
    (leaves_weaker (g.D.Disk.history c.clear_area.new.d) (g.D.Disk.history c.place_area.new.d) (Placing c.args.h.now.order (seen (g.D.Disk.history c.clear_area.new.d)) c.args.at) (Reopens (seen (g.D.Disk.history c.args.d.now))) (λ image p. placing_reopens (form_in c.args.h.now) (seen (g.D.Disk.history c.args.d.now)) (seen (g.D.Disk.history c.clear_area.new.d)) c.args.at accepted is cleared (omega (arith, g.met.D.Disk.told_size c.args.d.now told, c.requires.behind)) c.requires.aligned image p)
    (c.place_area.ensures.stops told (c.in_ok-clear_area.ensures.quiet told quiet) (ap (λ n. n % 4) cleared.size ∙ accepted.sized)))

pub returns-clause-stops : goal.returns-clause-stops
returns-clause-stops g c told quiet accepted is =
    let cleared = c.in_ok-clear_area.ensures.cleared told accepted is in
    leaves_join (g.D.Disk.history c.args.d.now) (g.D.Disk.history c.clear_area.new.d) (g.D.Disk.history c.place_area.new.d) (Reopens (seen (g.D.Disk.history c.args.d.now))) (c.clear_area.ensures.stops told quiet accepted is)
    (leaves_weaker (g.D.Disk.history c.clear_area.new.d) (g.D.Disk.history c.place_area.new.d) (Placing c.args.h.now.order (seen (g.D.Disk.history c.clear_area.new.d)) c.args.at) (Reopens (seen (g.D.Disk.history c.args.d.now))) (λ image p. placing_reopens (form_in c.args.h.now) (seen (g.D.Disk.history c.args.d.now)) (seen (g.D.Disk.history c.clear_area.new.d)) c.args.at accepted is cleared (omega (arith, g.met.D.Disk.told_size c.args.d.now told, c.requires.behind)) c.requires.aligned image p)
    (c.place_area.ensures.stops told (c.in_ok-clear_area.ensures.quiet told quiet) (ap (λ n. n % 4) cleared.size ∙ accepted.sized)))

pub returns-clause-placed : goal.returns-clause-placed
returns-clause-placed g c told accepted is =
    let cleared = c.in_ok-clear_area.ensures.cleared told accepted is in
    let set = c.in_ok-place_area.ensures.set told (ap (λ n. n % 4) cleared.size ∙ accepted.sized) in
    placed (form_in c.args.h.now) (seen (g.D.Disk.history c.args.d.now)) (seen (g.D.Disk.history c.clear_area.new.d)) c.args.at accepted is cleared (omega (arith, g.met.D.Disk.told_size c.args.d.now told, c.requires.behind)) c.requires.aligned (seen (g.D.Disk.history c.place_area.new.d)) c.args.capacity set.0 set.1

pub returns-clause-as_often : goal.returns-clause-as_often
returns-clause-as_often g c told accepted is =
    let cleared = c.in_ok-clear_area.ensures.as_often told accepted is in
    let set = c.in_ok-place_area.ensures.syncs in
    record { no_less = omega (arith, cleared.no_less, set.no_less); no_more = omega (arith, cleared.no_more, set.no_more); never_falls = omega (arith, cleared.never_falls, set.never_falls) }
