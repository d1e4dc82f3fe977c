-- Both steps, or nothing to clear.
use Rattle.std.proofs.Common.{rules, ◌≡◌, ◌≤◌, [], Some, sym, subst, ◌∙◌, ap, arith}
use Rattle.std.specs.Prelude.{IfSome}
use Rattle.tdb_disk.specs.Count.{RoseBy}
use Rattle.tdb_disk.specs.History.{seen}
use Rattle.tdb_disk.specs.Stop.{LeavesOnly, Quiet}
use Rattle.tdb_disk.proofs.Runs.{leaves_quiet}
use Rattle.tdb_space.specs.Form.{form_in, form_of}
use Rattle.tdb_space.specs.Accepted.{Accept, AcceptWith}
use Rattle.tdb_space.specs.Undoing.{Reopens}
use Rattle.tdb_space.proofs.Undoing.Alike.{exact_reopens}
use Rattle.tdb_undo.specs.Area.{AreaSeen, IsAreaOf, Stands, place_fault}
use Rattle.tdb_undo.specs.Refusal.{Names}
use Rattle.tdb_undo.specs.Placing.{IsCleared, clearing_syncs}
use Rattle.tdb_undo.proofs.Whole.{same_header}
use Rattle.tdb_undo.proofs.Clears.{clear_one, clear_two, cleared_none, cleared_some, clears_never, clears_twice, accepted_no_fault}
use Rattle.tdb_undo.proofs.placing.clear_area.Goals as goal

pub returns-in_err-zero_content-in-Ok-Some-clause-stops : goal.returns-in_err-zero_content-in-Ok-Some-clause-stops
returns-in_err-zero_content-in-Ok-Some-clause-stops g c told quiet accepted is =
    let E = c.read_area.ensures.still in
    let seen_area = subst (AreaSeen c.args.h.now.order (seen (g.D.Disk.history c.args.d.now))) c.in-Ok-Some.field-0-is (c.in-Ok-Some.ensures.found told).1 in
    let stands = subst (λ o. IfSome o (Stands (form_in c.args.h.now) (g.D.Disk.size c.args.d.now))) c.in-Ok-Some.field-0-is c.in-Ok-Some.ensures.stands in
    let there : IsAreaOf c.args.h.now.order (seen (g.D.Disk.history c.read_area.new.d)) c.in-Ok-Some.area = subst (λ m. IsAreaOf c.args.h.now.order (seen m) c.in-Ok-Some.area) (sym E) seen_area in
    let accepted_k : Accept (seen (g.D.Disk.history c.read_area.new.d)) = subst (λ m. Accept (seen m)) (sym E) accepted in
    let is_k : form_of (seen (g.D.Disk.history c.read_area.new.d)) ≡ (form_in c.args.h.now) = ap (λ m. form_of (seen m)) E ∙ is in
    let is_n = ap (λ r. r.rec_len) (same_header (form_in c.args.h.now) (seen (g.D.Disk.history c.read_area.new.d)) c.in-Ok-Some.area there) in
    let above : 172 ≤ c.in-Ok-Some.area.at = omega (arith, stands.above) in
    subst (λ m. LeavesOnly m (g.D.Disk.history c.zero_content.new.d) (Reopens (seen m))) E (clear_one (form_in c.args.h.now) (g.D.Disk.history c.read_area.new.d) (g.D.Disk.history c.zero_content.new.d) (g.D.Disk.history c.zero_content.new.d) accepted_k is_k c.in-Ok-Some.area.at c.in-Ok-Some.area.header.rec_len there.there is_n above (subst Quiet (sym E) quiet) (c.zero_content.ensures.stops told))

pub returns-in_err-blank_header-in-Ok-Some-clause-stops : goal.returns-in_err-blank_header-in-Ok-Some-clause-stops
returns-in_err-blank_header-in-Ok-Some-clause-stops g c told quiet accepted is =
    let E = c.read_area.ensures.still in
    let seen_area = subst (AreaSeen c.args.h.now.order (seen (g.D.Disk.history c.args.d.now))) c.in-Ok-Some.field-0-is (c.in-Ok-Some.ensures.found told).1 in
    let stands = subst (λ o. IfSome o (Stands (form_in c.args.h.now) (g.D.Disk.size c.args.d.now))) c.in-Ok-Some.field-0-is c.in-Ok-Some.ensures.stands in
    let there : IsAreaOf c.args.h.now.order (seen (g.D.Disk.history c.read_area.new.d)) c.in-Ok-Some.area = subst (λ m. IsAreaOf c.args.h.now.order (seen m) c.in-Ok-Some.area) (sym E) seen_area in
    let accepted_k : Accept (seen (g.D.Disk.history c.read_area.new.d)) = subst (λ m. Accept (seen m)) (sym E) accepted in
    let is_k : form_of (seen (g.D.Disk.history c.read_area.new.d)) ≡ (form_in c.args.h.now) = ap (λ m. form_of (seen m)) E ∙ is in
    let is_n = ap (λ r. r.rec_len) (same_header (form_in c.args.h.now) (seen (g.D.Disk.history c.read_area.new.d)) c.in-Ok-Some.area there) in
    let above : 172 ≤ c.in-Ok-Some.area.at = omega (arith, stands.above) in
    subst (λ m. LeavesOnly m (g.D.Disk.history c.blank_header.new.d) (Reopens (seen m))) E (clear_two (form_in c.args.h.now) (g.D.Disk.history c.read_area.new.d) (g.D.Disk.history c.zero_content.new.d) (g.D.Disk.history c.blank_header.new.d) accepted_k is_k c.in-Ok-Some.area.at c.in-Ok-Some.area.header.rec_len there.there is_n above (subst Quiet (sym E) quiet) (c.zero_content.ensures.stops told) (c.in_ok-zero_content-in-Ok-Some.ensures.put told) (c.blank_header.ensures.stops told (c.in_ok-zero_content-in-Ok-Some.ensures.quiet told)))

pub returns-in_ok-blank_header-in-Ok-Some-clause-stops : goal.returns-in_ok-blank_header-in-Ok-Some-clause-stops
returns-in_ok-blank_header-in-Ok-Some-clause-stops g c told quiet accepted is =
    let E = c.read_area.ensures.still in
    let seen_area = subst (AreaSeen c.args.h.now.order (seen (g.D.Disk.history c.args.d.now))) c.in-Ok-Some.field-0-is (c.in-Ok-Some.ensures.found told).1 in
    let stands = subst (λ o. IfSome o (Stands (form_in c.args.h.now) (g.D.Disk.size c.args.d.now))) c.in-Ok-Some.field-0-is c.in-Ok-Some.ensures.stands in
    let there : IsAreaOf c.args.h.now.order (seen (g.D.Disk.history c.read_area.new.d)) c.in-Ok-Some.area = subst (λ m. IsAreaOf c.args.h.now.order (seen m) c.in-Ok-Some.area) (sym E) seen_area in
    let accepted_k : Accept (seen (g.D.Disk.history c.read_area.new.d)) = subst (λ m. Accept (seen m)) (sym E) accepted in
    let is_k : form_of (seen (g.D.Disk.history c.read_area.new.d)) ≡ (form_in c.args.h.now) = ap (λ m. form_of (seen m)) E ∙ is in
    let is_n = ap (λ r. r.rec_len) (same_header (form_in c.args.h.now) (seen (g.D.Disk.history c.read_area.new.d)) c.in-Ok-Some.area there) in
    let above : 172 ≤ c.in-Ok-Some.area.at = omega (arith, stands.above) in
    subst (λ m. LeavesOnly m (g.D.Disk.history c.blank_header.new.d) (Reopens (seen m))) E (clear_two (form_in c.args.h.now) (g.D.Disk.history c.read_area.new.d) (g.D.Disk.history c.zero_content.new.d) (g.D.Disk.history c.blank_header.new.d) accepted_k is_k c.in-Ok-Some.area.at c.in-Ok-Some.area.header.rec_len there.there is_n above (subst Quiet (sym E) quiet) (c.zero_content.ensures.stops told) (c.in_ok-zero_content-in-Ok-Some.ensures.put told) (c.blank_header.ensures.stops told (c.in_ok-zero_content-in-Ok-Some.ensures.quiet told)))

pub returns-in_ok-blank_header-in-Ok-Some-clause-cleared : goal.returns-in_ok-blank_header-in-Ok-Some-clause-cleared
returns-in_ok-blank_header-in-Ok-Some-clause-cleared g c told accepted is =
    let E = c.read_area.ensures.still in
    let seen_area = subst (AreaSeen c.args.h.now.order (seen (g.D.Disk.history c.args.d.now))) c.in-Ok-Some.field-0-is (c.in-Ok-Some.ensures.found told).1 in
    let stands = subst (λ o. IfSome o (Stands (form_in c.args.h.now) (g.D.Disk.size c.args.d.now))) c.in-Ok-Some.field-0-is c.in-Ok-Some.ensures.stands in
    let there : IsAreaOf c.args.h.now.order (seen (g.D.Disk.history c.read_area.new.d)) c.in-Ok-Some.area = subst (λ m. IsAreaOf c.args.h.now.order (seen m) c.in-Ok-Some.area) (sym E) seen_area in
    let accepted_k : Accept (seen (g.D.Disk.history c.read_area.new.d)) = subst (λ m. Accept (seen m)) (sym E) accepted in
    let is_k : form_of (seen (g.D.Disk.history c.read_area.new.d)) ≡ (form_in c.args.h.now) = ap (λ m. form_of (seen m)) E ∙ is in
    let is_n = ap (λ r. r.rec_len) (same_header (form_in c.args.h.now) (seen (g.D.Disk.history c.read_area.new.d)) c.in-Ok-Some.area there) in
    let above : 172 ≤ c.in-Ok-Some.area.at = omega (arith, stands.above) in
    subst (λ m. IsCleared (form_in c.args.h.now) (seen m) (seen (g.D.Disk.history c.blank_header.new.d))) E (cleared_some (form_in c.args.h.now) (g.D.Disk.history c.read_area.new.d) (g.D.Disk.history c.zero_content.new.d) (g.D.Disk.history c.blank_header.new.d) accepted_k is_k c.in-Ok-Some.area.at c.in-Ok-Some.area.header.rec_len there.there is_n above (c.in_ok-zero_content-in-Ok-Some.ensures.put told) (c.in_ok-blank_header-in-Ok-Some.ensures.put told))

pub returns-in-Ok-None-clause-stops : goal.returns-in-Ok-None-clause-stops
returns-in-Ok-None-clause-stops g c told quiet accepted is =
    subst (λ m. LeavesOnly (g.D.Disk.history c.args.d.now) m (Reopens (seen (g.D.Disk.history c.args.d.now)))) (sym c.read_area.ensures.still) (leaves_quiet (g.D.Disk.history c.args.d.now) (Reopens (seen (g.D.Disk.history c.args.d.now))) quiet (exact_reopens (seen (g.D.Disk.history c.args.d.now)) accepted))

pub returns-in-Ok-None-clause-cleared : goal.returns-in-Ok-None-clause-cleared
returns-in-Ok-None-clause-cleared g c told accepted is =
    let none = subst (AreaSeen c.args.h.now.order (seen (g.D.Disk.history c.args.d.now))) c.in-Ok-None.field-0-is (c.in-Ok-None.ensures.found told).1 in
    subst (λ m. IsCleared (form_in c.args.h.now) (seen (g.D.Disk.history c.args.d.now)) (seen m)) (sym c.read_area.ensures.still) (cleared_none (form_in c.args.h.now) (seen (g.D.Disk.history c.args.d.now)) (subst (λ f. AcceptWith f (seen (g.D.Disk.history c.args.d.now)) []) is accepted) none)

pub returns-in-Err-Io-clause-stops : goal.returns-in-Err-Io-clause-stops
returns-in-Err-Io-clause-stops g c told quiet accepted is =
    subst (λ m. LeavesOnly (g.D.Disk.history c.args.d.now) m (Reopens (seen (g.D.Disk.history c.args.d.now)))) (sym c.read_area.ensures.still) (leaves_quiet (g.D.Disk.history c.args.d.now) (Reopens (seen (g.D.Disk.history c.args.d.now))) quiet (exact_reopens (seen (g.D.Disk.history c.args.d.now)) accepted))

pub returns-in-Err-UndoBad-clause-stops : goal.returns-in-Err-UndoBad-clause-stops
returns-in-Err-UndoBad-clause-stops g c told quiet accepted is =
    subst (λ m. LeavesOnly (g.D.Disk.history c.args.d.now) m (Reopens (seen (g.D.Disk.history c.args.d.now)))) (sym c.read_area.ensures.still) (leaves_quiet (g.D.Disk.history c.args.d.now) (Reopens (seen (g.D.Disk.history c.args.d.now))) quiet (exact_reopens (seen (g.D.Disk.history c.args.d.now)) accepted))

pub returns-in-Err-UndoBad-clause-cleared : goal.returns-in-Err-UndoBad-clause-cleared
returns-in-Err-UndoBad-clause-cleared g c told accepted is =
    let fault = subst (λ e. Names e (λ f. place_fault (form_in c.args.h.now) (seen (g.D.Disk.history c.args.d.now)) ≡ Some f)) c.in-Err-UndoBad.field-0-is (c.in-Err-UndoBad.ensures.bad told) in
    absurd (accepted_no_fault (form_in c.args.h.now) (seen (g.D.Disk.history c.args.d.now)) (subst (λ f. AcceptWith f (seen (g.D.Disk.history c.args.d.now)) []) is accepted) _ fault)

pub returns-in_ok-blank_header-in-Ok-Some-clause-as_often : goal.returns-in_ok-blank_header-in-Ok-Some-clause-as_often
returns-in_ok-blank_header-in-Ok-Some-clause-as_often g c told accepted is =
    let a = seen (g.D.Disk.history c.args.d.now) in
    let seen_area = subst (AreaSeen c.args.h.now.order a) c.in-Ok-Some.field-0-is (c.in-Ok-Some.ensures.found told).1 in
    let stands = subst (λ o. IfSome o (Stands (form_in c.args.h.now) (g.D.Disk.size c.args.d.now))) c.in-Ok-Some.field-0-is c.in-Ok-Some.ensures.stands in
    clears_twice c.args.h.now.order a _ _ (λ none. omega (arith, stands.above, seen_area.there, none)) (search rules)

pub returns-in-Ok-None-clause-as_often : goal.returns-in-Ok-None-clause-as_often
returns-in-Ok-None-clause-as_often g c told accepted is =
    let a = seen (g.D.Disk.history c.args.d.now) in
    let none = subst (AreaSeen c.args.h.now.order a) c.in-Ok-None.field-0-is (c.in-Ok-None.ensures.found told).1 in
    subst (RoseBy (clearing_syncs c.args.h.now.order a) (g.D.Disk.syncs c.args.d.now)) (sym c.read_area.ensures.syncs) (clears_never c.args.h.now.order a (g.D.Disk.syncs c.args.d.now) none)

pub returns-in-Err-UndoBad-clause-as_often : goal.returns-in-Err-UndoBad-clause-as_often
returns-in-Err-UndoBad-clause-as_often g c told accepted is =
    let fault = subst (λ e. Names e (λ f. place_fault (form_in c.args.h.now) (seen (g.D.Disk.history c.args.d.now)) ≡ Some f)) c.in-Err-UndoBad.field-0-is (c.in-Err-UndoBad.ensures.bad told) in
    absurd (accepted_no_fault (form_in c.args.h.now) (seen (g.D.Disk.history c.args.d.now)) (subst (λ f. AcceptWith f (seen (g.D.Disk.history c.args.d.now)) []) is accepted) _ fault)
