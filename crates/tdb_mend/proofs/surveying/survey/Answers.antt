-- The first fault of each stage, and the stray bytes where no stage has one.
use Rattle.std.proofs.Common.{◌≡◌, ◌++◌, None, Some, length, sym, ◌∙◌, ap}
use Rattle.std.proofs.lemmas.Result.{err_from_is_err_and}
use Rattle.tdb_space.specs.Form.{form_of, data_start}
use Rattle.tdb_space.specs.Extents.{area}
use Rattle.tdb_space.specs.FirstFault.{HeadsSound, area_fault}
use Rattle.tdb_check.specs.Area.{area_seen}
use Rattle.tdb_check.specs.Extent.{extents_seen}
use Rattle.tdb_check.specs.Lists.{FirstInLists}
use Rattle.tdb_check.proofs.Following.{names_then}
use Rattle.tdb_check.proofs.Still.{still_then}
use Rattle.tdb_mend.specs.Counting.{ListsShown, strays_among}
use Rattle.tdb_mend.proofs.Faults.{front_but, area_but, lists_but}
use Rattle.tdb_mend.proofs.Surveyed.{surveyed_first, surveyed}
use Rattle.tdb_mend.proofs.surveying.survey.Goals as goal

pub returns-in_err-len-clause-first_fault : goal.returns-in_err-len-clause-first_fault
returns-in_err-len-clause-first_fault g c =
    let p = err_from_is_err_and c.from_residual.result c.from_residual.ensures.1 in
    rw (p.1, p.2) (λ told same. names_then c.in_err-len.field-0.0 _ _ (λ fault h. front_but (g.S.Space.image c.args.s.now) fault h) (c.in_err-len.ensures.bad told same))

pub returns-in_err-area-clause-first_fault : goal.returns-in_err-area-clause-first_fault
returns-in_err-area-clause-first_fault g c =
    let p = err_from_is_err_and c.from_residual-in_err-area.result c.from_residual-in_err-area.ensures.1 in
    let first = c.in_ok-len.ensures.looked in
    rw (p.1, p.2)
    (λ told same.
    (let img = g.S.Space.image c.args.s.now in
    let front = c.in_ok-len.ensures.sound told same in
    let long : length (g.S.Space.image c.args.s.now) ≡ c.in_ok-len.len = g.met.S.Space.told_size c.args.s.now told ∙ sym c.in_ok-len.ensures.length in
    names_then c.in_err-area.field-0.0 _ _
    (λ fault h. area_but img fault front.0 (still_then (λ f i. area_fault f i ≡ Some fault) (first.form ∙ front.1) first.image h))
    (c.in_err-area.ensures.bad told (ap length first.image ∙ long))))

pub returns-in_err-extents-clause-first_fault : goal.returns-in_err-extents-clause-first_fault
returns-in_err-extents-clause-first_fault g c =
    let p = err_from_is_err_and c.from_residual-in_err-extents.result c.from_residual-in_err-extents.ensures.1 in
    let first = c.in_ok-len.ensures.looked in
    let second = c.in_ok-area.ensures.looked in
    rw (p.1, p.2)
    (λ told same.
    (let img = g.S.Space.image c.args.s.now in
    let front = c.in_ok-len.ensures.sound told same in
    let long : length (g.S.Space.image c.args.s.now) ≡ c.in_ok-len.len = g.met.S.Space.told_size c.args.s.now told ∙ sym c.in_ok-len.ensures.length in
    let none = c.in_ok-area.ensures.sound told (ap length first.image ∙ long) in
    let heads : HeadsSound (g.S.Space.image c.args.s.now) = (front.0, still_then (λ f i. area_fault f i ≡ None) (first.form ∙ front.1) first.image none.0) in
    names_then c.in_err-extents.field-0.0 _ _
    (λ fault h. lists_but img fault heads (still_then (λ f i. FirstInLists f i fault) (second.form ∙ first.form ∙ front.1) (second.image ∙ first.image) h))
    (c.in_err-extents.ensures.bad told (ap length (second.image ∙ first.image) ∙ long))))

pub returns-in_err-strays-clause-first_fault : goal.returns-in_err-strays-clause-first_fault
returns-in_err-strays-clause-first_fault g c =
    let p = err_from_is_err_and c.from_residual-in_err-strays.result c.from_residual-in_err-strays.ensures.1 in
    let first = c.in_ok-len.ensures.looked in
    let second = c.in_ok-area.ensures.looked in
    rw (p.1, p.2)
    (λ told same.
    (let img = g.S.Space.image c.args.s.now in
    let es = c.in_ok-extents.extents.items in
    let front = c.in_ok-len.ensures.sound told same in
    let long : length (g.S.Space.image c.args.s.now) ≡ c.in_ok-len.len = g.met.S.Space.told_size c.args.s.now told ∙ sym c.in_ok-len.ensures.length in
    let none = c.in_ok-area.ensures.sound told (ap length first.image ∙ long) in
    let heads : HeadsSound (g.S.Space.image c.args.s.now) = (front.0, still_then (λ f i. area_fault f i ≡ None) (first.form ∙ front.1) first.image none.0) in
    let shown = still_then (λ f i. ListsShown f i c.in_ok-extents.extents.items) (second.form ∙ first.form ∙ front.1) (second.image ∙ first.image) (c.in_ok-extents.ensures.sound told (ap length (second.image ∙ first.image) ∙ long)) in
    let there : area_seen c.in_ok-area.area ≡ area (form_of img).order img = none.1 ∙ (λ j. area ((first.form ∙ front.1) j).order (first.image j)) in
    let seen : extents_seen c.put_area.new.extents.items ≡ extents_seen c.in_ok-extents.extents.items ++ area (form_of img).order img = c.in_ok-put_area.ensures ∙ ap (λ xs. extents_seen c.in_ok-extents.extents.items ++ xs) there in
    names_then c.in_err-strays.field-0.0 _ _
    (λ fault h. surveyed_first img es (extents_seen c.put_area.new.extents.items) heads shown seen fault h.0 h.1)
    c.in_err-strays.ensures.bad))

pub returns-clause-sound : goal.returns-clause-sound
returns-clause-sound g c told same =
    let first = c.in_ok-len.ensures.looked in
    let second = c.in_ok-area.ensures.looked in
    let third = c.in_ok-extents.ensures.looked in
    let img = g.S.Space.image c.args.s.now in
    let es = c.in_ok-extents.extents.items in
    let front = c.in_ok-len.ensures.sound told same in
    let long : length (g.S.Space.image c.args.s.now) ≡ c.in_ok-len.len = g.met.S.Space.told_size c.args.s.now told ∙ sym c.in_ok-len.ensures.length in
    let none = c.in_ok-area.ensures.sound told (ap length first.image ∙ long) in
    let heads : HeadsSound (g.S.Space.image c.args.s.now) = (front.0, still_then (λ f i. area_fault f i ≡ None) (first.form ∙ front.1) first.image none.0) in
    let shown = still_then (λ f i. ListsShown f i c.in_ok-extents.extents.items) (second.form ∙ first.form ∙ front.1) (second.image ∙ first.image) (c.in_ok-extents.ensures.sound told (ap length (second.image ∙ first.image) ∙ long)) in
    let there : area_seen c.in_ok-area.area ≡ area (form_of img).order img = none.1 ∙ (λ j. area ((first.form ∙ front.1) j).order (first.image j)) in
    let seen : extents_seen c.put_area.new.extents.items ≡ extents_seen c.in_ok-extents.extents.items ++ area (form_of img).order img = c.in_ok-put_area.ensures ∙ ap (λ xs. extents_seen c.in_ok-extents.extents.items ++ xs) there in
    let n = c.in_ok-strays.strays in
    surveyed img es (extents_seen c.put_area.new.extents.items) heads shown seen n c.in_ok-strays.ensures.apart
    (still_then (λ f i. c.in_ok-strays.strays ≡ strays_among (extents_seen c.put_area.new.extents.items) (data_start f) i) (third.form ∙ second.form ∙ first.form ∙ front.1) (third.image ∙ second.image ∙ first.image) (c.in_ok-strays.ensures.count told))
