-- All is written, and the steps after it.
use Rattle.std.proofs.Common.{sym, ◌∙◌}
use Rattle.tdb_disk.specs.History.{seen}
use Rattle.tdb_disk.proofs.Runs.{leaves_join, leaves_weaker, leaves_now}
use Rattle.tdb_space.specs.Form.{form_in}
use Rattle.tdb_space.specs.Undoing.{UndoneAlike}
use Rattle.tdb_undo.specs.Recovery.{Undoing, alike}
use Rattle.tdb_undo.proofs.recovering.write_back.Goals as goal

pub returns-in_err-give_all-clause-stops : goal.returns-in_err-give_all-clause-stops
returns-in_err-give_all-clause-stops g c told quiet sized u mild words r =
    let first = c.give_all.ensures.stops told quiet sized u mild r in
    leaves_weaker (g.D.Disk.history c.args.d.now) (g.D.Disk.history c.give_all.new.d) (UndoneAlike (form_in c.args.h.now) (seen (g.D.Disk.history c.args.d.now))) (Undoing (form_in c.args.h.now) (seen (g.D.Disk.history c.args.d.now))) (λ image s. alike s) first

pub returns-in_err-undo_below-clause-stops : goal.returns-in_err-undo_below-clause-stops
returns-in_err-undo_below-clause-stops g c told quiet sized u mild words r =
    let first = c.give_all.ensures.stops told quiet sized u mild r in
    leaves_join (g.D.Disk.history c.args.d.now) (g.D.Disk.history c.give_all.new.d) (g.D.Disk.history c.undo_below.new.d) (Undoing (form_in c.args.h.now) (seen (g.D.Disk.history c.args.d.now))) (leaves_weaker (g.D.Disk.history c.args.d.now) (g.D.Disk.history c.give_all.new.d) (UndoneAlike (form_in c.args.h.now) (seen (g.D.Disk.history c.args.d.now))) (Undoing (form_in c.args.h.now) (seen (g.D.Disk.history c.args.d.now))) (λ image s. alike s) first) (c.undo_below.ensures.stops told (seen (g.D.Disk.history c.args.d.now)) u r.area words (λ image left. leaves_now (g.D.Disk.history c.args.d.now) (g.D.Disk.history c.give_all.new.d) (UndoneAlike (form_in c.args.h.now) (seen (g.D.Disk.history c.args.d.now))) first image left) (c.in_ok-give_all.ensures.written told u r))

pub returns-in_err-undo_behind-clause-stops : goal.returns-in_err-undo_behind-clause-stops
returns-in_err-undo_behind-clause-stops g c told quiet sized u mild words r =
    let first = c.give_all.ensures.stops told quiet sized u mild r in
    leaves_join (g.D.Disk.history c.args.d.now) (g.D.Disk.history c.give_all.new.d) (g.D.Disk.history c.undo_behind.new.d) (Undoing (form_in c.args.h.now) (seen (g.D.Disk.history c.args.d.now))) (leaves_weaker (g.D.Disk.history c.args.d.now) (g.D.Disk.history c.give_all.new.d) (UndoneAlike (form_in c.args.h.now) (seen (g.D.Disk.history c.args.d.now))) (Undoing (form_in c.args.h.now) (seen (g.D.Disk.history c.args.d.now))) (λ image s. alike s) first) (c.undo_behind.ensures.stops told (seen (g.D.Disk.history c.args.d.now)) (g.met.D.Disk.told_size c.args.d.now told ∙ sym c.requires.length) sized u r.area words (λ image left. leaves_now (g.D.Disk.history c.args.d.now) (g.D.Disk.history c.give_all.new.d) (UndoneAlike (form_in c.args.h.now) (seen (g.D.Disk.history c.args.d.now))) first image left) (c.in_ok-give_all.ensures.written told u r))

pub returns-clause-stops : goal.returns-clause-stops
returns-clause-stops g c told quiet sized u mild words r =
    let first = c.give_all.ensures.stops told quiet sized u mild r in
    leaves_join (g.D.Disk.history c.args.d.now) (g.D.Disk.history c.give_all.new.d) (g.D.Disk.history c.undo_behind.new.d) (Undoing (form_in c.args.h.now) (seen (g.D.Disk.history c.args.d.now))) (leaves_weaker (g.D.Disk.history c.args.d.now) (g.D.Disk.history c.give_all.new.d) (UndoneAlike (form_in c.args.h.now) (seen (g.D.Disk.history c.args.d.now))) (Undoing (form_in c.args.h.now) (seen (g.D.Disk.history c.args.d.now))) (λ image s. alike s) first) (c.undo_behind.ensures.stops told (seen (g.D.Disk.history c.args.d.now)) (g.met.D.Disk.told_size c.args.d.now told ∙ sym c.requires.length) sized u r.area words (λ image left. leaves_now (g.D.Disk.history c.args.d.now) (g.D.Disk.history c.give_all.new.d) (UndoneAlike (form_in c.args.h.now) (seen (g.D.Disk.history c.args.d.now))) first image left) (c.in_ok-give_all.ensures.written told u r))

pub returns-clause-restored : goal.returns-clause-restored
returns-clause-restored g c told sized u r =
    c.in_ok-undo_behind.ensures.restored told (seen (g.D.Disk.history c.args.d.now)) (g.met.D.Disk.told_size c.args.d.now told ∙ sym c.requires.length) sized u r.area (c.in_ok-give_all.ensures.written told u r)

pub returns-then-area-clause-stops : goal.returns-then-area-clause-stops
returns-then-area-clause-stops g c told quiet sized u mild words r =
    let first = c.give_all.ensures.stops told quiet sized u mild r in
    leaves_join (g.D.Disk.history c.args.d.now) (g.D.Disk.history c.give_all.new.d) (g.D.Disk.history c.undo_below.new.d) (Undoing (form_in c.args.h.now) (seen (g.D.Disk.history c.args.d.now))) (leaves_weaker (g.D.Disk.history c.args.d.now) (g.D.Disk.history c.give_all.new.d) (UndoneAlike (form_in c.args.h.now) (seen (g.D.Disk.history c.args.d.now))) (Undoing (form_in c.args.h.now) (seen (g.D.Disk.history c.args.d.now))) (λ image s. alike s) first) (c.undo_below.ensures.stops told (seen (g.D.Disk.history c.args.d.now)) u r.area words (λ image left. leaves_now (g.D.Disk.history c.args.d.now) (g.D.Disk.history c.give_all.new.d) (UndoneAlike (form_in c.args.h.now) (seen (g.D.Disk.history c.args.d.now))) first image left) (c.in_ok-give_all.ensures.written told u r))

pub returns-then-area-clause-restored : goal.returns-then-area-clause-restored
returns-then-area-clause-restored g c told sized u r =
    c.in_ok-undo_below.ensures.restored told (seen (g.D.Disk.history c.args.d.now)) u r.area (c.in_ok-give_all.ensures.written told u r)
