-- Each way to stand of an undo area.
use Rattle.std.proofs.Common.{◌≡◌, ◌≤◌, None, Some, length, take, sym, subst, ◌∙◌, ap, arith}
use Rattle.std.proofs.lemmas.List.{take_all}
use Rattle.std.proofs.lemmas.Result.{err_from_is_err_and, IfOk-weaker, IfErr-weaker}
use Rattle.tdb_words.specs.Word.{bytes_of_word}
use Rattle.tdb_disk.specs.Image.{overlay}
use Rattle.tdb_disk.proofs.Image.{length-overlay}
use Rattle.tdb_space.specs.Form.{data_start}
use Rattle.tdb_check.proofs.Following.{names_then}
use Rattle.tdb_check.proofs.Still.{still_then}
use Rattle.tdb_mend.specs.Area.{state_fault, area_of, StateSeen, OpenStands, Stands}
use Rattle.tdb_mend.specs.declared.area.AreaState.TheVariants.{Still, WithoutHeader, Open}
use Rattle.tdb_mend.specs.WideUndo.{wide_fault_at, widely_undone}
use Rattle.tdb_mend.proofs.Undone.{state_bad, lacking_none, lacking_read, open_fault, open_read, still_fault, still_read}
use Rattle.tdb_mend.proofs.undoing.undo_area.Goals as goal

pub read_state-requires-clause-heads : goal.read_state-requires-clause-heads
read_state-requires-clause-heads g c = subst (λ f. data_start f ≤ c.in_ok-len.len) (sym c.len.ensures.form) (omega (arith, c.requires.heads, c.in_ok-len.ensures.length))

pub returns-in_err-read_state-clause-bad : goal.returns-in_err-read_state-clause-bad
returns-in_err-read_state-clause-bad g c =
    let p = err_from_is_err_and c.from_residual-in_err-read_state.result c.from_residual-in_err-read_state.ensures.1 in
    rw (p.1, p.2)
    (λ told own.
    (let f = g.S.Space.form c.args.s.now in
    let img = g.S.Space.image c.args.s.now in
    let long : length (g.S.Space.image c.args.s.now) ≡ c.in_ok-len.len = g.met.S.Space.told_size c.args.s.now told ∙ sym c.in_ok-len.ensures.length in
    names_then c.in_err-read_state.field-0.0 _ _ (λ fault h. state_bad f img fault (still_then (λ x i. state_fault x i ≡ Some fault) c.len.ensures.form c.len.ensures.image h))
    (c.in_err-read_state.ensures.bad told (ap length c.len.ensures.image ∙ long))))

-- nothing has to be undone
pub returns-in-Still-clause-undone : goal.returns-in-Still-clause-undone
returns-in-Still-clause-undone g c told own =
    let f = g.S.Space.form c.args.s.now in
    let img = g.S.Space.image c.args.s.now in
    let long : length (g.S.Space.image c.args.s.now) ≡ c.in_ok-len.len = g.met.S.Space.told_size c.args.s.now told ∙ sym c.in_ok-len.ensures.length in
    let seen = c.in_ok-read_state.ensures.state told (ap length c.len.ensures.image ∙ long) in
    let none = still_then (λ x i. state_fault x i ≡ None) c.len.ensures.form c.len.ensures.image seen.0 in
    let stands = still_then (λ x i. StateSeen x i Still) c.len.ensures.form c.len.ensures.image
    (subst (StateSeen (g.S.Space.form c.len.new.self) (g.S.Space.image c.len.new.self)) c.in-Still.is seen.1) in
    let same : g.S.Space.image c.read_state.new.s ≡ img = c.read_state.ensures.looked.image ∙ c.len.ensures.image in (
      still_fault f img none stands.0 stands.1,
      ap (take c.in_ok-len.len) same ∙ take_all c.in_ok-len.len img (omega (arith, long)) ∙ sym (still_read f img own stands.0 stands.1),
    )

-- the area has no header
pub returns-in_err-put-in-WithoutHeader-clause-bad : goal.returns-in_err-put-in-WithoutHeader-clause-bad
returns-in_err-put-in-WithoutHeader-clause-bad g c =
    let p = err_from_is_err_and c.from_residual-in_err-put-in-WithoutHeader.result c.from_residual-in_err-put-in-WithoutHeader.ensures.1 in
    rw (p.1, p.2) (λ told own. names_then c.in_err-put-in-WithoutHeader.field-0.0 _ _ (λ fault none. absurd none) c.in_err-put-in-WithoutHeader.ensures.refusal)

pub returns-in_ok-put-in-WithoutHeader-clause-undone : goal.returns-in_ok-put-in-WithoutHeader-clause-undone
returns-in_ok-put-in-WithoutHeader-clause-undone g c told own =
    let f = g.S.Space.form c.args.s.now in
    let img = g.S.Space.image c.args.s.now in
    let long : length (g.S.Space.image c.args.s.now) ≡ c.in_ok-len.len = g.met.S.Space.told_size c.args.s.now told ∙ sym c.in_ok-len.ensures.length in
    let seen = c.in_ok-read_state.ensures.state told (ap length c.len.ensures.image ∙ long) in
    let lacks = still_then (λ x i. StateSeen x i WithoutHeader) c.len.ensures.form c.len.ensures.image
    (subst (StateSeen (g.S.Space.form c.len.new.self) (g.S.Space.image c.len.new.self)) c.in-WithoutHeader.is seen.1) in
    let same : g.S.Space.image c.read_state.new.s ≡ img = c.read_state.ensures.looked.image ∙ c.len.ensures.image in
    let order : c.order.result ≡ f.order = c.order.ensures ∙ ap (λ x. x.order) (c.read_state.ensures.looked.form ∙ c.len.ensures.form) in
    let bytes : c.word_bytes-none.result ≡ bytes_of_word f.order 0 = c.word_bytes-none.ensures.bytes ∙ ap (λ o. bytes_of_word o 0) order in
    let put : g.S.Space.image c.put.new.self ≡ overlay img 44 (bytes_of_word f.order 0) = c.in_ok-put-in-WithoutHeader.ensures.set told ∙ (λ j. overlay (same j) 44 (bytes j)) in (
      lacking_none f img lacks,
      ap (take c.in_ok-len.len) put ∙ take_all c.in_ok-len.len (overlay img 44 (bytes_of_word f.order 0)) (omega (arith, length-overlay img 44 (bytes_of_word f.order 0), long)) ∙ sym (lacking_read f img own lacks),
    )

-- its gate is open
pub undo_widely-requires-clause-heads : goal.undo_widely-requires-clause-heads
undo_widely-requires-clause-heads g c =
    subst (λ f. data_start f ≤ c.in_ok-len.len) (sym (c.read_state.ensures.looked.form ∙ c.len.ensures.form)) (omega (arith, c.requires.heads, c.in_ok-len.ensures.length))

pub undo_widely-requires-clause-stands : goal.undo_widely-requires-clause-stands
undo_widely-requires-clause-stands g c =
    subst (λ f. Stands (data_start f) c.in_ok-len.len c.in-Open.area) (sym c.read_state.ensures.looked.form)
    (subst (OpenStands (data_start (g.S.Space.form c.len.new.self)) c.in_ok-len.len) c.in-Open.is c.in_ok-read_state.ensures.stands)

pub returns-in-Open-clause-within : goal.returns-in-Open-clause-within
returns-in-Open-clause-within g c = IfOk-weaker c.undo_widely.result _ _ (λ left h. omega (arith, h, c.in_ok-len.ensures.length)) c.undo_widely.ensures.within

pub returns-in-Open-clause-reaches : goal.returns-in-Open-clause-reaches
returns-in-Open-clause-reaches g c =
    IfOk-weaker c.undo_widely.result _ _ (λ left h. subst (λ f. data_start f ≤ left) (c.read_state.ensures.looked.form ∙ c.len.ensures.form) h) c.undo_widely.ensures.reaches

pub returns-in-Open-clause-undone : goal.returns-in-Open-clause-undone
returns-in-Open-clause-undone g c = IfOk-weaker c.undo_widely.result _ _ (λ left h told own.
    (let f = g.S.Space.form c.args.s.now in
    let img = g.S.Space.image c.args.s.now in
    let a = c.in-Open.area in
    let long : length (g.S.Space.image c.args.s.now) ≡ c.in_ok-len.len = g.met.S.Space.told_size c.args.s.now told ∙ sym c.in_ok-len.ensures.length in
    let seen = c.in_ok-read_state.ensures.state told (ap length c.len.ensures.image ∙ long) in
    let stands = still_then (λ x i. StateSeen x i (Open a)) c.len.ensures.form c.len.ensures.image
    (subst (StateSeen (g.S.Space.form c.len.new.self) (g.S.Space.image c.len.new.self)) c.in-Open.is seen.1) in
    let form = c.read_state.ensures.looked.form ∙ c.len.ensures.form in
    let image = c.read_state.ensures.looked.image ∙ c.len.ensures.image in
    let there = stands.2 ∙ (λ j. area_of (sym form j).order (sym image j)) in
    let undone = still_then (λ x i. (wide_fault_at x i a.at ≡ None) × (take left (g.S.Space.image c.undo_widely.new.s) ≡ widely_undone x i)) form image (h told there) in (
      open_fault f img stands.0 stands.1 ∙ ap (λ x. wide_fault_at f img x.at) (sym stands.2) ∙ undone.0,
      undone.1 ∙ sym (open_read f img own stands.0 stands.1),
    )))
    c.undo_widely.ensures.undone

pub returns-in-Open-clause-bad : goal.returns-in-Open-clause-bad
returns-in-Open-clause-bad g c = IfErr-weaker c.undo_widely.result _ _ (λ e h told own.
    (let f = g.S.Space.form c.args.s.now in
    let img = g.S.Space.image c.args.s.now in
    let a = c.in-Open.area in
    let long : length (g.S.Space.image c.args.s.now) ≡ c.in_ok-len.len = g.met.S.Space.told_size c.args.s.now told ∙ sym c.in_ok-len.ensures.length in
    let seen = c.in_ok-read_state.ensures.state told (ap length c.len.ensures.image ∙ long) in
    let stands = still_then (λ x i. StateSeen x i (Open a)) c.len.ensures.form c.len.ensures.image
    (subst (StateSeen (g.S.Space.form c.len.new.self) (g.S.Space.image c.len.new.self)) c.in-Open.is seen.1) in
    let form = c.read_state.ensures.looked.form ∙ c.len.ensures.form in
    let image = c.read_state.ensures.looked.image ∙ c.len.ensures.image in
    let there = stands.2 ∙ (λ j. area_of (sym form j).order (sym image j)) in
    names_then e _ _
    (λ fault bad.
    open_fault f img stands.0 stands.1 ∙ ap (λ x. wide_fault_at f img x.at) (sym stands.2) ∙ still_then (λ x i. wide_fault_at x i a.at ≡ Some fault) form image bad)
    (h told there)))
    c.undo_widely.ensures.bad
