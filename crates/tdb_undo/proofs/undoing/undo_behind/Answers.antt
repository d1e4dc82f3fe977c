-- The shut gate, the emptied area, and the area that is dropped.
use Rattle.std.proofs.Common.{◌%◌, sym, ◌∙◌, ap, arith}
use Rattle.tdb_disk.proofs.Runs.{leaves_join, leaves_weaker}
use Rattle.tdb_space.specs.Form.{form_in}
use Rattle.tdb_space.specs.Opening.{restored}
use Rattle.tdb_space.specs.Undoing.{TailOf}
use Rattle.tdb_space.proofs.RecoverySteps.Steps.{restored_length, restored_head}
use Rattle.tdb_undo.specs.Recovery.{Undoing, tail}
use Rattle.tdb_undo.proofs.Whole.{same_old}
use Rattle.tdb_undo.proofs.undoing.undo_behind.Goals as goal

pub returns-in_err-empty_area-clause-stops : goal.returns-in_err-empty_area-clause-stops
returns-in_err-empty_area-clause-stops g c told a long sized u is words all written =
    let r = restored (form_in c.args.h.now) a in
    let shut = c.in_ok-shut_behind.ensures.shut told a long sized u is written in
    leaves_join (g.D.Disk.history c.args.d.now) (g.D.Disk.history c.shut_behind.new.d) (g.D.Disk.history c.empty_area.new.d) (Undoing (form_in c.args.h.now) a) (c.shut_behind.ensures.stops told a long sized u is all written) (leaves_weaker (g.D.Disk.history c.shut_behind.new.d) (g.D.Disk.history c.empty_area.new.d) (TailOf (form_in c.args.h.now) r) (Undoing (form_in c.args.h.now) a) (λ image t. tail (omega (arith, c.requires.behind, is.there, same_old (form_in c.args.h.now) a c.args.area.now is)) t) (c.empty_area.ensures.stops told (c.in_ok-shut_behind.ensures.quiet told) r shut.0 shut.1))

pub returns-in_err-drop_area-clause-stops : goal.returns-in_err-drop_area-clause-stops
returns-in_err-drop_area-clause-stops g c told a long sized u is words all written =
    let r = restored (form_in c.args.h.now) a in
    let shut = c.in_ok-shut_behind.ensures.shut told a long sized u is written in
    let e = c.in_ok-empty_area.ensures.emptied told r shut.0 shut.1 in
    leaves_join (g.D.Disk.history c.args.d.now) (g.D.Disk.history c.empty_area.new.d) (g.D.Disk.history c.drop_area.new.d) (Undoing (form_in c.args.h.now) a) (leaves_join (g.D.Disk.history c.args.d.now) (g.D.Disk.history c.shut_behind.new.d) (g.D.Disk.history c.empty_area.new.d) (Undoing (form_in c.args.h.now) a) (c.shut_behind.ensures.stops told a long sized u is all written) (leaves_weaker (g.D.Disk.history c.shut_behind.new.d) (g.D.Disk.history c.empty_area.new.d) (TailOf (form_in c.args.h.now) r) (Undoing (form_in c.args.h.now) a) (λ image t. tail (omega (arith, c.requires.behind, is.there, same_old (form_in c.args.h.now) a c.args.area.now is)) t) (c.empty_area.ensures.stops told (c.in_ok-shut_behind.ensures.quiet told) r shut.0 shut.1))) (leaves_weaker (g.D.Disk.history c.empty_area.new.d) (g.D.Disk.history c.drop_area.new.d) (TailOf (form_in c.args.h.now) r) (Undoing (form_in c.args.h.now) a) (λ image t. tail (omega (arith, c.requires.behind, is.there, same_old (form_in c.args.h.now) a c.args.area.now is)) t) (c.drop_area.ensures.stops told (c.in_ok-empty_area.ensures.quiet told) r (restored_length (form_in c.args.h.now) a u ∙ sym (same_old (form_in c.args.h.now) a c.args.area.now is)) (ap (λ n. n % 4) (restored_length (form_in c.args.h.now) a u) ∙ words) shut.0 e.0 e.1))

pub returns-clause-stops : goal.returns-clause-stops
returns-clause-stops g c told a long sized u is words all written =
    let r = restored (form_in c.args.h.now) a in
    let shut = c.in_ok-shut_behind.ensures.shut told a long sized u is written in
    let e = c.in_ok-empty_area.ensures.emptied told r shut.0 shut.1 in
    leaves_join (g.D.Disk.history c.args.d.now) (g.D.Disk.history c.empty_area.new.d) (g.D.Disk.history c.drop_area.new.d) (Undoing (form_in c.args.h.now) a) (leaves_join (g.D.Disk.history c.args.d.now) (g.D.Disk.history c.shut_behind.new.d) (g.D.Disk.history c.empty_area.new.d) (Undoing (form_in c.args.h.now) a) (c.shut_behind.ensures.stops told a long sized u is all written) (leaves_weaker (g.D.Disk.history c.shut_behind.new.d) (g.D.Disk.history c.empty_area.new.d) (TailOf (form_in c.args.h.now) r) (Undoing (form_in c.args.h.now) a) (λ image t. tail (omega (arith, c.requires.behind, is.there, same_old (form_in c.args.h.now) a c.args.area.now is)) t) (c.empty_area.ensures.stops told (c.in_ok-shut_behind.ensures.quiet told) r shut.0 shut.1))) (leaves_weaker (g.D.Disk.history c.empty_area.new.d) (g.D.Disk.history c.drop_area.new.d) (TailOf (form_in c.args.h.now) r) (Undoing (form_in c.args.h.now) a) (λ image t. tail (omega (arith, c.requires.behind, is.there, same_old (form_in c.args.h.now) a c.args.area.now is)) t) (c.drop_area.ensures.stops told (c.in_ok-empty_area.ensures.quiet told) r (restored_length (form_in c.args.h.now) a u ∙ sym (same_old (form_in c.args.h.now) a c.args.area.now is)) (ap (λ n. n % 4) (restored_length (form_in c.args.h.now) a u) ∙ words) shut.0 e.0 e.1))

pub returns-clause-restored : goal.returns-clause-restored
returns-clause-restored g c told a long sized u is written =
    let r = restored (form_in c.args.h.now) a in
    let shut = c.in_ok-shut_behind.ensures.shut told a long sized u is written in
    let e = c.in_ok-empty_area.ensures.emptied told r shut.0 shut.1 in
    c.in_ok-drop_area.ensures.restored told r (restored_length (form_in c.args.h.now) a u ∙ sym (same_old (form_in c.args.h.now) a c.args.area.now is)) (λ i from to. restored_head (form_in c.args.h.now) a u (omega (arith, c.requires.behind, is.there, same_old (form_in c.args.h.now) a c.args.area.now is)) i from to) shut.0 e.0 e.1
