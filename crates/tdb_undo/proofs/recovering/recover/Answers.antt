-- Nothing to undo, and an undo.
use Rattle.std.proofs.Common.{◌≡◌, ◌≢◌, ◌%◌, ◌⊎◌, true, false, Some, Ok, Err, inl, inr, length, sym, subst, ◌∙◌, ap, arith, rules}
use Rattle.std.specs.Prelude.{IfOk, IfSome, OnOk, Result}
use Rattle.std.proofs.lemmas.Result.{err_from_is_err_and, IfOk-weaker, IfErr-weaker, on_ok_weaker}
use Rattle.tdb_disk.specs.Count.{RoseBy}
use Rattle.tdb_disk.specs.History.{seen}
use Rattle.tdb_disk.specs.Stop.{Quiet, LeavesOnly}
use Rattle.tdb_disk.proofs.Runs.{leaves_weaker}
use Rattle.tdb_words.specs.declared.record.TheConstants.{GATE_OPEN}
use Rattle.tdb_space.specs.Record.{magic_of}
use Rattle.tdb_space.specs.Form.{form_in, SameHeader}
use Rattle.tdb_space.specs.Opening.{Undoable, restored, undo_fault, entries}
use Rattle.tdb_space.specs.Undoing.{area_at, old_size, Reopens}
use Rattle.tdb_undo.specs.Area.{AreaSeen, IsAreaOf, Stands}
use Rattle.tdb_undo.specs.Entries.{lengths}
use Rattle.tdb_undo.specs.Recovery.{Undoing, recovery_syncs}
use Rattle.tdb_undo.specs.Refusal.{Names}
use Rattle.tdb_undo.proofs.Whole.{same_header}
use Rattle.tdb_undo.proofs.Found.{names_then, still_reopens, undoing_reopens, mild_where_open, none_closed, none_sound, shut_closed, shut_sound, open_is, open_fault, place_first, closed_same, closed_sum, closed_syncs, open_sum, open_syncs, open_reads, old_words}
use Rattle.tdb_undo.proofs.recovering.recover.Goals as goal

pub returns-in_err-area-clause-stops : goal.returns-in_err-area-clause-stops
returns-in_err-area-clause-stops g c told quiet opens again is =
    still_reopens (form_in c.args.h.now) (g.D.Disk.history c.args.d.now) (g.D.Disk.history c.read_area.new.d) c.read_area.ensures.still quiet opens again is

pub returns-in_default-clause-stops : goal.returns-in_default-clause-stops
returns-in_default-clause-stops g c told quiet opens again is =
    still_reopens (form_in c.args.h.now) (g.D.Disk.history c.args.d.now) (g.D.Disk.history c.read_area.new.d) c.read_area.ensures.still quiet opens again is

pub returns-then-area-clause-stops : goal.returns-then-area-clause-stops
returns-then-area-clause-stops g c told quiet opens again is =
    still_reopens (form_in c.args.h.now) (g.D.Disk.history c.args.d.now) (g.D.Disk.history c.read_area.new.d) c.read_area.ensures.still quiet opens again is

pub returns-clause-stops : goal.returns-clause-stops
returns-clause-stops g c told quiet opens again is =
    let seen_area = (subst (AreaSeen c.args.h.now.order (seen (g.D.Disk.history c.args.d.now))) c.in-Some.is (c.in_ok-area.ensures.found told).1) in
    let stands = (subst (λ o. IfSome o (Stands (form_in c.args.h.now) (g.D.Disk.size c.args.d.now))) c.in-Some.is c.in_ok-area.ensures.stands) in
    let some : area_at (form_in c.args.h.now) (seen (g.D.Disk.history c.args.d.now)) ≢ 0 = λ e. omega (arith, stands.above, seen_area.there, e) in
    let gate : magic_of (form_in c.args.h.now).order (seen (g.D.Disk.history c.args.d.now)) (area_at (form_in c.args.h.now) (seen (g.D.Disk.history c.args.d.now))) ≡ GATE_OPEN = ap (λ r. r.magic) (sym (same_header (form_in c.args.h.now) (seen (g.D.Disk.history c.args.d.now)) c.in-Some.area seen_area)) ∙ c.if-area.false in
    let mild = mild_where_open (form_in c.args.h.now) (seen (g.D.Disk.history c.args.d.now)) is again some gate in
    let u = subst (λ f. Undoable f (seen (g.D.Disk.history c.args.d.now))) is mild.undoable in
    let same = subst (λ f. SameHeader (seen (g.D.Disk.history c.args.d.now)) (restored f (seen (g.D.Disk.history c.args.d.now)))) is mild.header in
    leaves_weaker (g.D.Disk.history c.args.d.now) (g.D.Disk.history c.undo.new.d) (Undoing (form_in c.args.h.now) (seen (g.D.Disk.history c.args.d.now))) (Reopens (restored (form_in c.args.h.now) (seen (g.D.Disk.history c.args.d.now)))) (λ image s. undoing_reopens (form_in c.args.h.now) (seen (g.D.Disk.history c.args.d.now)) image opens mild is s)
    (subst (λ m. Quiet m → length (seen m) % 4 ≡ 0 → Undoable (form_in c.args.h.now) (seen m) → SameHeader (seen m) (restored (form_in c.args.h.now) (seen m)) → old_size (form_in c.args.h.now) (seen m) % 4 ≡ 0 → IsAreaOf c.args.h.now.order (seen m) c.in-Some.area → LeavesOnly m (g.D.Disk.history c.undo.new.d) (Undoing (form_in c.args.h.now) (seen m))) c.read_area.ensures.still (c.undo.ensures.stops told) quiet opens.sized u same (old_words (form_in c.args.h.now) (seen (g.D.Disk.history c.args.d.now)) opens is u) seen_area)

pub returns-in_default-clause-restored : goal.returns-in_default-clause-restored
returns-in_default-clause-restored g c told sized =
    let none = sym (sym (let n = c.in_ok-area.ensures.found told in subst (AreaSeen c.args.h.now.order (seen (g.D.Disk.history c.args.d.now))) c.in_default.is n.1)) in
    let closed = none_closed (form_in c.args.h.now) (seen (g.D.Disk.history c.args.d.now)) (c.in_ok-area.ensures.found told).0 none in
    let sound = none_sound (form_in c.args.h.now) (seen (g.D.Disk.history c.args.d.now)) (c.in_ok-area.ensures.found told).0 none in
    ap seen c.read_area.ensures.still ∙ sym (closed_same (form_in c.args.h.now) (seen (g.D.Disk.history c.args.d.now)) closed)

pub returns-in_default-clause-sound : goal.returns-in_default-clause-sound
returns-in_default-clause-sound g c told sized =
    let none = sym (sym (let n = c.in_ok-area.ensures.found told in subst (AreaSeen c.args.h.now.order (seen (g.D.Disk.history c.args.d.now))) c.in_default.is n.1)) in
    let closed = none_closed (form_in c.args.h.now) (seen (g.D.Disk.history c.args.d.now)) (c.in_ok-area.ensures.found told).0 none in
    let sound = none_sound (form_in c.args.h.now) (seen (g.D.Disk.history c.args.d.now)) (c.in_ok-area.ensures.found told).0 none in
    sound

pub returns-in_default-clause-sum : goal.returns-in_default-clause-sum
returns-in_default-clause-sum g c told =
    let none = sym (sym (let n = c.in_ok-area.ensures.found told in subst (AreaSeen c.args.h.now.order (seen (g.D.Disk.history c.args.d.now))) c.in_default.is n.1)) in
    let closed = none_closed (form_in c.args.h.now) (seen (g.D.Disk.history c.args.d.now)) (c.in_ok-area.ensures.found told).0 none in
    let sound = none_sound (form_in c.args.h.now) (seen (g.D.Disk.history c.args.d.now)) (c.in_ok-area.ensures.found told).0 none in
    sym (closed_sum (form_in c.args.h.now) (seen (g.D.Disk.history c.args.d.now)) closed)

pub returns-in_default-clause-syncs : goal.returns-in_default-clause-syncs
returns-in_default-clause-syncs g c told =
    let none = sym (sym (let n = c.in_ok-area.ensures.found told in subst (AreaSeen c.args.h.now.order (seen (g.D.Disk.history c.args.d.now))) c.in_default.is n.1)) in
    let closed = none_closed (form_in c.args.h.now) (seen (g.D.Disk.history c.args.d.now)) (c.in_ok-area.ensures.found told).0 none in
    let sound = none_sound (form_in c.args.h.now) (seen (g.D.Disk.history c.args.d.now)) (c.in_ok-area.ensures.found told).0 none in
    subst (λ n. RoseBy n (g.D.Disk.syncs c.args.d.now) (g.D.Disk.syncs c.read_area.new.d)) (sym (closed_syncs (form_in c.args.h.now) (seen (g.D.Disk.history c.args.d.now)) closed)) (search rules)

pub returns-then-area-clause-restored : goal.returns-then-area-clause-restored
returns-then-area-clause-restored g c told sized =
    let seen_area = (subst (AreaSeen c.args.h.now.order (seen (g.D.Disk.history c.args.d.now))) c.in-Some.is (c.in_ok-area.ensures.found told).1) in
    let stands = (subst (λ o. IfSome o (Stands (form_in c.args.h.now) (g.D.Disk.size c.args.d.now))) c.in-Some.is c.in_ok-area.ensures.stands) in
    let some : area_at (form_in c.args.h.now) (seen (g.D.Disk.history c.args.d.now)) ≢ 0 = λ e. omega (arith, stands.above, seen_area.there, e) in
    let shut : magic_of (form_in c.args.h.now).order (seen (g.D.Disk.history c.args.d.now)) (area_at (form_in c.args.h.now) (seen (g.D.Disk.history c.args.d.now))) ≢ GATE_OPEN = λ e. c.if-area.true (ap (λ r. r.magic) (same_header (form_in c.args.h.now) (seen (g.D.Disk.history c.args.d.now)) c.in-Some.area seen_area) ∙ e) in
    let closed = shut_closed (form_in c.args.h.now) (seen (g.D.Disk.history c.args.d.now)) (c.in_ok-area.ensures.found told).0 some shut in
    let sound = shut_sound (form_in c.args.h.now) (seen (g.D.Disk.history c.args.d.now)) (c.in_ok-area.ensures.found told).0 some shut in
    ap seen c.read_area.ensures.still ∙ sym (closed_same (form_in c.args.h.now) (seen (g.D.Disk.history c.args.d.now)) closed)

pub returns-then-area-clause-sound : goal.returns-then-area-clause-sound
returns-then-area-clause-sound g c told sized =
    let seen_area = (subst (AreaSeen c.args.h.now.order (seen (g.D.Disk.history c.args.d.now))) c.in-Some.is (c.in_ok-area.ensures.found told).1) in
    let stands = (subst (λ o. IfSome o (Stands (form_in c.args.h.now) (g.D.Disk.size c.args.d.now))) c.in-Some.is c.in_ok-area.ensures.stands) in
    let some : area_at (form_in c.args.h.now) (seen (g.D.Disk.history c.args.d.now)) ≢ 0 = λ e. omega (arith, stands.above, seen_area.there, e) in
    let shut : magic_of (form_in c.args.h.now).order (seen (g.D.Disk.history c.args.d.now)) (area_at (form_in c.args.h.now) (seen (g.D.Disk.history c.args.d.now))) ≢ GATE_OPEN = λ e. c.if-area.true (ap (λ r. r.magic) (same_header (form_in c.args.h.now) (seen (g.D.Disk.history c.args.d.now)) c.in-Some.area seen_area) ∙ e) in
    let closed = shut_closed (form_in c.args.h.now) (seen (g.D.Disk.history c.args.d.now)) (c.in_ok-area.ensures.found told).0 some shut in
    let sound = shut_sound (form_in c.args.h.now) (seen (g.D.Disk.history c.args.d.now)) (c.in_ok-area.ensures.found told).0 some shut in
    sound

pub returns-then-area-clause-sum : goal.returns-then-area-clause-sum
returns-then-area-clause-sum g c told =
    let seen_area = (subst (AreaSeen c.args.h.now.order (seen (g.D.Disk.history c.args.d.now))) c.in-Some.is (c.in_ok-area.ensures.found told).1) in
    let stands = (subst (λ o. IfSome o (Stands (form_in c.args.h.now) (g.D.Disk.size c.args.d.now))) c.in-Some.is c.in_ok-area.ensures.stands) in
    let some : area_at (form_in c.args.h.now) (seen (g.D.Disk.history c.args.d.now)) ≢ 0 = λ e. omega (arith, stands.above, seen_area.there, e) in
    let shut : magic_of (form_in c.args.h.now).order (seen (g.D.Disk.history c.args.d.now)) (area_at (form_in c.args.h.now) (seen (g.D.Disk.history c.args.d.now))) ≢ GATE_OPEN = λ e. c.if-area.true (ap (λ r. r.magic) (same_header (form_in c.args.h.now) (seen (g.D.Disk.history c.args.d.now)) c.in-Some.area seen_area) ∙ e) in
    let closed = shut_closed (form_in c.args.h.now) (seen (g.D.Disk.history c.args.d.now)) (c.in_ok-area.ensures.found told).0 some shut in
    let sound = shut_sound (form_in c.args.h.now) (seen (g.D.Disk.history c.args.d.now)) (c.in_ok-area.ensures.found told).0 some shut in
    sym (closed_sum (form_in c.args.h.now) (seen (g.D.Disk.history c.args.d.now)) closed)

pub returns-then-area-clause-syncs : goal.returns-then-area-clause-syncs
returns-then-area-clause-syncs g c told =
    let seen_area = (subst (AreaSeen c.args.h.now.order (seen (g.D.Disk.history c.args.d.now))) c.in-Some.is (c.in_ok-area.ensures.found told).1) in
    let stands = (subst (λ o. IfSome o (Stands (form_in c.args.h.now) (g.D.Disk.size c.args.d.now))) c.in-Some.is c.in_ok-area.ensures.stands) in
    let some : area_at (form_in c.args.h.now) (seen (g.D.Disk.history c.args.d.now)) ≢ 0 = λ e. omega (arith, stands.above, seen_area.there, e) in
    let shut : magic_of (form_in c.args.h.now).order (seen (g.D.Disk.history c.args.d.now)) (area_at (form_in c.args.h.now) (seen (g.D.Disk.history c.args.d.now))) ≢ GATE_OPEN = λ e. c.if-area.true (ap (λ r. r.magic) (same_header (form_in c.args.h.now) (seen (g.D.Disk.history c.args.d.now)) c.in-Some.area seen_area) ∙ e) in
    let closed = shut_closed (form_in c.args.h.now) (seen (g.D.Disk.history c.args.d.now)) (c.in_ok-area.ensures.found told).0 some shut in
    let sound = shut_sound (form_in c.args.h.now) (seen (g.D.Disk.history c.args.d.now)) (c.in_ok-area.ensures.found told).0 some shut in
    subst (λ n. RoseBy n (g.D.Disk.syncs c.args.d.now) (g.D.Disk.syncs c.read_area.new.d)) (sym (closed_syncs (form_in c.args.h.now) (seen (g.D.Disk.history c.args.d.now)) closed)) (search rules)

pub returns-clause-restored : goal.returns-clause-restored
returns-clause-restored g c =
    on_ok_weaker c.undo.result (λ done told sized. (
    let seen_area = (subst (AreaSeen c.args.h.now.order (seen (g.D.Disk.history c.args.d.now))) c.in-Some.is (c.in_ok-area.ensures.found told).1) in
    let stands = (subst (λ o. IfSome o (Stands (form_in c.args.h.now) (g.D.Disk.size c.args.d.now))) c.in-Some.is c.in_ok-area.ensures.stands) in
    let some : area_at (form_in c.args.h.now) (seen (g.D.Disk.history c.args.d.now)) ≢ 0 = λ e. omega (arith, stands.above, seen_area.there, e) in
    (subst (λ m. length (seen m) % 4 ≡ 0 → IsAreaOf c.args.h.now.order (seen m) c.in-Some.area → Undoable (form_in c.args.h.now) (seen m) × (seen (g.D.Disk.history c.undo.new.d) ≡ restored (form_in c.args.h.now) (seen m))) c.read_area.ensures.still (done told) sized seen_area).1)) c.undo.ensures.restored

pub returns-clause-sound : goal.returns-clause-sound
returns-clause-sound g c =
    on_ok_weaker c.undo.result (λ done told sized. (
    let seen_area = (subst (AreaSeen c.args.h.now.order (seen (g.D.Disk.history c.args.d.now))) c.in-Some.is (c.in_ok-area.ensures.found told).1) in
    let stands = (subst (λ o. IfSome o (Stands (form_in c.args.h.now) (g.D.Disk.size c.args.d.now))) c.in-Some.is c.in_ok-area.ensures.stands) in
    let some : area_at (form_in c.args.h.now) (seen (g.D.Disk.history c.args.d.now)) ≢ 0 = λ e. omega (arith, stands.above, seen_area.there, e) in
    let gate : magic_of (form_in c.args.h.now).order (seen (g.D.Disk.history c.args.d.now)) (area_at (form_in c.args.h.now) (seen (g.D.Disk.history c.args.d.now))) ≡ GATE_OPEN = ap (λ r. r.magic) (sym (same_header (form_in c.args.h.now) (seen (g.D.Disk.history c.args.d.now)) c.in-Some.area seen_area)) ∙ c.if-area.false in
    let u = (subst (λ m. length (seen m) % 4 ≡ 0 → IsAreaOf c.args.h.now.order (seen m) c.in-Some.area → Undoable (form_in c.args.h.now) (seen m) × (seen (g.D.Disk.history c.undo.new.d) ≡ restored (form_in c.args.h.now) (seen m))) c.read_area.ensures.still (done told) sized seen_area).0 in open_fault (form_in c.args.h.now) (seen (g.D.Disk.history c.args.d.now)) (c.in_ok-area.ensures.found told).0 some gate ∙ u.no_fault)) c.undo.ensures.restored

pub returns-clause-sum : goal.returns-clause-sum
returns-clause-sum g c =
    IfOk-weaker c.undo.result _ _ (λ n sum told. (
    let seen_area = (subst (AreaSeen c.args.h.now.order (seen (g.D.Disk.history c.args.d.now))) c.in-Some.is (c.in_ok-area.ensures.found told).1) in
    let stands = (subst (λ o. IfSome o (Stands (form_in c.args.h.now) (g.D.Disk.size c.args.d.now))) c.in-Some.is c.in_ok-area.ensures.stands) in
    let some : area_at (form_in c.args.h.now) (seen (g.D.Disk.history c.args.d.now)) ≢ 0 = λ e. omega (arith, stands.above, seen_area.there, e) in
    let gate : magic_of (form_in c.args.h.now).order (seen (g.D.Disk.history c.args.d.now)) (area_at (form_in c.args.h.now) (seen (g.D.Disk.history c.args.d.now))) ≡ GATE_OPEN = ap (λ r. r.magic) (sym (same_header (form_in c.args.h.now) (seen (g.D.Disk.history c.args.d.now)) c.in-Some.area seen_area)) ∙ c.if-area.false in
    subst (λ m. IsAreaOf c.args.h.now.order (seen m) c.in-Some.area → n ≡ lengths (entries (form_in c.args.h.now) (seen m))) c.read_area.ensures.still (sum told) seen_area ∙ sym (open_sum (form_in c.args.h.now) (seen (g.D.Disk.history c.args.d.now)) (open_is (form_in c.args.h.now) (seen (g.D.Disk.history c.args.d.now)) (c.in_ok-area.ensures.found told).0 some gate)))) c.undo.ensures.sum

pub returns-clause-still : goal.returns-clause-still
returns-clause-still g c told closed =
    let seen_area = (subst (AreaSeen c.args.h.now.order (seen (g.D.Disk.history c.args.d.now))) c.in-Some.is (c.in_ok-area.ensures.found told).1) in
    let stands = (subst (λ o. IfSome o (Stands (form_in c.args.h.now) (g.D.Disk.size c.args.d.now))) c.in-Some.is c.in_ok-area.ensures.stands) in
    let some : area_at (form_in c.args.h.now) (seen (g.D.Disk.history c.args.d.now)) ≢ 0 = λ e. omega (arith, stands.above, seen_area.there, e) in
    let gate : magic_of (form_in c.args.h.now).order (seen (g.D.Disk.history c.args.d.now)) (area_at (form_in c.args.h.now) (seen (g.D.Disk.history c.args.d.now))) ≡ GATE_OPEN = ap (λ r. r.magic) (sym (same_header (form_in c.args.h.now) (seen (g.D.Disk.history c.args.d.now)) c.in-Some.area seen_area)) ∙ c.if-area.false in
    let clash : true ≡ false = sym (open_is (form_in c.args.h.now) (seen (g.D.Disk.history c.args.d.now)) (c.in_ok-area.ensures.found told).0 some gate) ∙ closed in
    absurd (let h = clash in cc)

pub returns-clause-bad : goal.returns-clause-bad
returns-clause-bad g c =
    IfErr-weaker c.undo.result _ _ (λ e bad told. (
    let seen_area = (subst (AreaSeen c.args.h.now.order (seen (g.D.Disk.history c.args.d.now))) c.in-Some.is (c.in_ok-area.ensures.found told).1) in
    let stands = (subst (λ o. IfSome o (Stands (form_in c.args.h.now) (g.D.Disk.size c.args.d.now))) c.in-Some.is c.in_ok-area.ensures.stands) in
    let some : area_at (form_in c.args.h.now) (seen (g.D.Disk.history c.args.d.now)) ≢ 0 = λ e. omega (arith, stands.above, seen_area.there, e) in
    let gate : magic_of (form_in c.args.h.now).order (seen (g.D.Disk.history c.args.d.now)) (area_at (form_in c.args.h.now) (seen (g.D.Disk.history c.args.d.now))) ≡ GATE_OPEN = ap (λ r. r.magic) (sym (same_header (form_in c.args.h.now) (seen (g.D.Disk.history c.args.d.now)) c.in-Some.area seen_area)) ∙ c.if-area.false in
    names_then e _ _ (λ fault f. (open_fault (form_in c.args.h.now) (seen (g.D.Disk.history c.args.d.now)) (c.in_ok-area.ensures.found told).0 some gate ∙ f.0, f.1)) (subst (λ m. IsAreaOf c.args.h.now.order (seen m) c.in-Some.area → Names e (λ fault. (undo_fault (form_in c.args.h.now) (seen m) ≡ Some fault) × (g.D.Disk.history c.undo.new.d ≡ m))) c.read_area.ensures.still (bad told) seen_area))) c.undo.ensures.bad

pub returns-clause-syncs : goal.returns-clause-syncs
returns-clause-syncs g c =
    on_ok_weaker c.undo.result (λ syncs told. (
    let seen_area = (subst (AreaSeen c.args.h.now.order (seen (g.D.Disk.history c.args.d.now))) c.in-Some.is (c.in_ok-area.ensures.found told).1) in
    let stands = (subst (λ o. IfSome o (Stands (form_in c.args.h.now) (g.D.Disk.size c.args.d.now))) c.in-Some.is c.in_ok-area.ensures.stands) in
    let some : area_at (form_in c.args.h.now) (seen (g.D.Disk.history c.args.d.now)) ≢ 0 = λ e. omega (arith, stands.above, seen_area.there, e) in
    let gate : magic_of (form_in c.args.h.now).order (seen (g.D.Disk.history c.args.d.now)) (area_at (form_in c.args.h.now) (seen (g.D.Disk.history c.args.d.now))) ≡ GATE_OPEN = ap (λ r. r.magic) (sym (same_header (form_in c.args.h.now) (seen (g.D.Disk.history c.args.d.now)) c.in-Some.area seen_area)) ∙ c.if-area.false in
    subst (λ n. RoseBy (recovery_syncs (form_in c.args.h.now) (seen (g.D.Disk.history c.args.d.now))) n (g.D.Disk.syncs c.undo.new.d)) c.read_area.ensures.syncs (open_syncs (form_in c.args.h.now) (seen (g.D.Disk.history c.args.d.now)) c.in-Some.area seen_area (open_is (form_in c.args.h.now) (seen (g.D.Disk.history c.args.d.now)) (c.in_ok-area.ensures.found told).0 some gate) _ _ syncs))) c.undo.ensures.syncs

pub returns-in_err-area-clause-bad : goal.returns-in_err-area-clause-bad
returns-in_err-area-clause-bad g c =
    let p = err_from_is_err_and c.from_residual.result c.from_residual.ensures.1 in
    rw (p.1, p.2) (λ told. names_then c.in_err-area.field-0.0 _ _ (λ fault bad. (place_first (form_in c.args.h.now) (seen (g.D.Disk.history c.args.d.now)) fault bad, c.read_area.ensures.still)) (c.in_err-area.ensures.bad told))

-- what was read where there is something to undo
pub returns-clause-reads : goal.returns-clause-reads
returns-clause-reads g c told =
    let f = form_in c.args.h.now in
    let a = seen (g.D.Disk.history c.args.d.now) in
    let seen_area = (subst (AreaSeen c.args.h.now.order a) c.in-Some.is (c.in_ok-area.ensures.found told).1) in
    let stands = (subst (λ o. IfSome o (Stands f (g.D.Disk.size c.args.d.now))) c.in-Some.is c.in_ok-area.ensures.stands) in
    let some : area_at f a ≢ 0 = λ e. omega (arith, stands.above, seen_area.there, e) in
    let gate : magic_of f.order a (area_at f a) ≡ GATE_OPEN = ap (λ r. r.magic) (sym (same_header f a c.in-Some.area seen_area)) ∙ c.if-area.false in
    open_reads f a c.in-Some.area seen_area (open_is f a (c.in_ok-area.ensures.found told).0 some gate) (g.D.Disk.bytes_read c.args.d.now) (g.D.Disk.bytes_read c.read_area.new.d) (g.D.Disk.bytes_read c.undo.new.d) c.read_area.ensures.bytes_read c.undo.ensures.bytes_read

-- bytes are told only where an undo was made
pub returns-clause-made : goal.returns-clause-made
returns-clause-made g c =
    made_by c.undo.result (λ n. n ≢ 0 → RoseBy 3 (g.D.Disk.syncs c.args.d.now) (g.D.Disk.syncs c.undo.new.d) ⊎ RoseBy 6 (g.D.Disk.syncs c.args.d.now) (g.D.Disk.syncs c.undo.new.d))
    (λ syncs n some. subst (λ was. RoseBy 3 was (g.D.Disk.syncs c.undo.new.d) ⊎ RoseBy 6 was (g.D.Disk.syncs c.undo.new.d)) c.read_area.ensures.syncs
    (elim syncs [ inl below ↦ inl below.1 | inr behind ↦ inr behind.1 ])) c.undo.ensures.syncs
  where
    made_by : {V E P : Type 0} (r : Result V E) (Q : V → Type 0) → (P → (v : V) → Q v) → OnOk r P → IfOk r Q
    made_by (Ok v) Q from p = from p v
    made_by (Err e) Q from p = tt
