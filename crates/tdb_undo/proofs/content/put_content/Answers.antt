-- The area is filled, or there is none.
use Rattle.std.proofs.Common.{◌≡◌, [], Some, sym, subst, ◌∙◌, arith}
use Rattle.std.specs.Prelude.{IfSome}
use Rattle.std.proofs.lemmas.Result.{on_ok_weaker}
use Rattle.tdb_disk.specs.Count.{RoseBy}
use Rattle.tdb_disk.specs.History.{seen}
use Rattle.tdb_disk.specs.Stop.{LeavesOnly, Quiet}
use Rattle.tdb_space.specs.Form.{form_in}
use Rattle.tdb_space.specs.Accepted.{AcceptWith}
use Rattle.tdb_space.specs.Undoing.{Reopens}
use Rattle.tdb_undo.specs.Area.{AreaSeen, Stands, place_fault, area_of}
use Rattle.tdb_undo.specs.Refusal.{Names}
use Rattle.tdb_undo.specs.Torn.{TornIn}
use Rattle.tdb_undo.specs.Content.{RunsFit, IsFilled, is_content}
use Rattle.tdb_undo.proofs.Clears.{accepted_no_fault}
use Rattle.tdb_undo.proofs.Growths.{grew_reopens}
use Rattle.tdb_undo.proofs.Fills.{fill_reopens, area_is}
use Rattle.tdb_undo.proofs.content.put_content.Goals as goal

pub returns-in_err-len-clause-stops : goal.returns-in_err-len-clause-stops
returns-in_err-len-clause-stops g c told a grown accepted is =
    subst (λ m. LeavesOnly (g.D.Disk.history c.args.d.now) m (Reopens a)) (sym c.len.ensures.history) (grew_reopens (form_in c.args.h.now) a (g.D.Disk.history c.args.d.now) accepted is grown)

pub returns-in-Ok-None-clause-stops : goal.returns-in-Ok-None-clause-stops
returns-in-Ok-None-clause-stops g c told a grown accepted is =
    subst (λ m. LeavesOnly (g.D.Disk.history c.args.d.now) m (Reopens a)) (sym (c.read_area.ensures.still ∙ c.len.ensures.history)) (grew_reopens (form_in c.args.h.now) a (g.D.Disk.history c.args.d.now) accepted is grown)

pub returns-in-Err-Io-clause-stops : goal.returns-in-Err-Io-clause-stops
returns-in-Err-Io-clause-stops g c told a grown accepted is =
    subst (λ m. LeavesOnly (g.D.Disk.history c.args.d.now) m (Reopens a)) (sym (c.read_area.ensures.still ∙ c.len.ensures.history)) (grew_reopens (form_in c.args.h.now) a (g.D.Disk.history c.args.d.now) accepted is grown)

pub returns-in-Err-UndoBad-clause-stops : goal.returns-in-Err-UndoBad-clause-stops
returns-in-Err-UndoBad-clause-stops g c told a grown accepted is =
    subst (λ m. LeavesOnly (g.D.Disk.history c.args.d.now) m (Reopens a)) (sym (c.read_area.ensures.still ∙ c.len.ensures.history)) (grew_reopens (form_in c.args.h.now) a (g.D.Disk.history c.args.d.now) accepted is grown)

pub returns-in-Ok-Some-clause-stops : goal.returns-in-Ok-Some-clause-stops
returns-in-Ok-Some-clause-stops g c told a grown accepted is =
    let there = (subst (AreaSeen c.args.h.now.order (seen (g.D.Disk.history c.args.d.now))) c.in-Ok-Some.field-0-is (subst (λ m. AreaSeen c.args.h.now.order (seen m) c.in-Ok-Some.field-0) c.len.ensures.history (c.in-Ok-Some.ensures.found told).1)) in
    let stands = (subst (λ o. IfSome o (Stands (form_in c.args.h.now) (g.D.Disk.size c.len.new.self))) c.in-Ok-Some.field-0-is c.in-Ok-Some.ensures.stands) in
    fill_reopens (form_in c.args.h.now) a (g.D.Disk.history c.args.d.now) (g.D.Disk.history c.fill_area.new.d) c.in-Ok-Some.area accepted is grown there (omega (arith, stands.above))
    (subst (λ m. LeavesOnly m (g.D.Disk.history c.fill_area.new.d) (TornIn (is_content c.in-Ok-Some.area) m)) (c.read_area.ensures.still ∙ c.len.ensures.history) (c.fill_area.ensures.stops told))

pub returns-in-Ok-Some-clause-filled : goal.returns-in-Ok-Some-clause-filled
returns-in-Ok-Some-clause-filled g c =
    on_ok_weaker c.fill_area.result (λ done told accepted is some fit. (
    let there = (subst (AreaSeen c.args.h.now.order (seen (g.D.Disk.history c.args.d.now))) c.in-Ok-Some.field-0-is (subst (λ m. AreaSeen c.args.h.now.order (seen m) c.in-Ok-Some.field-0) c.len.ensures.history (c.in-Ok-Some.ensures.found told).1)) in
    let stands = (subst (λ o. IfSome o (Stands (form_in c.args.h.now) (g.D.Disk.size c.len.new.self))) c.in-Ok-Some.field-0-is c.in-Ok-Some.ensures.stands) in
    let same : c.in-Ok-Some.area ≡ area_of c.args.h.now.order (seen (g.D.Disk.history c.args.d.now)) = area_is c.args.h.now.order (seen (g.D.Disk.history c.args.d.now)) c.in-Ok-Some.area there in
    let fits : RunsFit c.in-Ok-Some.area c.in_ok-len.len c.args.runs.now = subst (λ x. RunsFit x c.in_ok-len.len c.args.runs.now) (sym same) (subst (λ n. RunsFit (area_of c.args.h.now.order (seen (g.D.Disk.history c.args.d.now))) n c.args.runs.now) (sym c.in_ok-len.ensures.length) fit) in
    subst (λ x. IsFilled c.args.h.now.order x c.args.old_len c.args.runs.now (seen (g.D.Disk.history c.args.d.now)) (seen (g.D.Disk.history c.fill_area.new.d)) × Quiet (g.D.Disk.history c.fill_area.new.d) × RoseBy 1 (g.D.Disk.syncs c.args.d.now) (g.D.Disk.syncs c.fill_area.new.d)) same
    (subst (λ m. IsFilled c.args.h.now.order c.in-Ok-Some.area c.args.old_len c.args.runs.now (seen m) (seen (g.D.Disk.history c.fill_area.new.d)) × Quiet (g.D.Disk.history c.fill_area.new.d) × RoseBy 1 (g.D.Disk.syncs c.args.d.now) (g.D.Disk.syncs c.fill_area.new.d)) (c.read_area.ensures.still ∙ c.len.ensures.history)
    (subst (λ n. IsFilled c.args.h.now.order c.in-Ok-Some.area c.args.old_len c.args.runs.now (seen (g.D.Disk.history c.read_area.new.d)) (seen (g.D.Disk.history c.fill_area.new.d)) × Quiet (g.D.Disk.history c.fill_area.new.d) × RoseBy 1 n (g.D.Disk.syncs c.fill_area.new.d)) (c.read_area.ensures.syncs ∙ c.len.ensures.syncs) (done told (omega (arith, stands.within, c.requires.short, c.len.ensures.size)) fits))))) c.fill_area.ensures.filled

pub returns-in-Ok-None-clause-filled : goal.returns-in-Ok-None-clause-filled
returns-in-Ok-None-clause-filled g c told accepted is some fit =
    absurd (some (subst (AreaSeen c.args.h.now.order (seen (g.D.Disk.history c.args.d.now))) c.in-Ok-None.field-0-is (subst (λ m. AreaSeen c.args.h.now.order (seen m) c.in-Ok-None.field-0) c.len.ensures.history (c.in-Ok-None.ensures.found told).1)))

pub returns-in-Err-UndoBad-clause-filled : goal.returns-in-Err-UndoBad-clause-filled
returns-in-Err-UndoBad-clause-filled g c told accepted is some fit =
    let fault = subst (λ e. Names e (λ f. place_fault (form_in c.args.h.now) (seen (g.D.Disk.history c.args.d.now)) ≡ Some f)) c.in-Err-UndoBad.field-0-is (subst (λ m. Names c.in-Err-UndoBad.field-0 (λ f. place_fault (form_in c.args.h.now) (seen m) ≡ Some f)) c.len.ensures.history (c.in-Err-UndoBad.ensures.bad told)) in
    absurd (accepted_no_fault (form_in c.args.h.now) (seen (g.D.Disk.history c.args.d.now)) (subst (λ f. AcceptWith f (seen (g.D.Disk.history c.args.d.now)) []) is accepted) _ fault)
