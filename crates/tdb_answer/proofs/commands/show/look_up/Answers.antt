use Rattle.std.proofs.Common.{ap, ◌∙◌}
use Rattle.tdb_disk.specs.History.{seen}
use Rattle.tdb_space.specs.Form.{form_in}
use Rattle.tdb_answer.proofs.Found.{value_found, none_found}
use Rattle.tdb_answer.proofs.commands.show.look_up.Goals as goal

-- the value at the place that was found
pub returns-in_ok-value-in-Some-clause-found : goal.returns-in_ok-value-in-Some-clause-found
returns-in_ok-value-in-Some-clause-found g c told =
    let on = c.requires.opened told in
    let header = ap form_in c.new-space.ensures.header in
    let bytes = ap (λ d. seen (g.D.Disk.history d)) c.new-space.ensures.disk in
    value_found (seen (g.D.Disk.history c.args.disk.now)) c.args.key.now c.args.opened.now on.accepted on.header
    _ _ _ _ c.in_ok-place.field-0 c.in-Some.place c.in_ok-value-in-Some.field-0
    header bytes (c.find.ensures.looked.form ∙ header) (c.find.ensures.looked.image ∙ bytes) c.in-Some.is
    (c.in_ok-place.ensures.found told) (c.in_ok-value-in-Some.ensures.value told)

-- no place was found
pub returns-in-None-clause-found : goal.returns-in-None-clause-found
returns-in-None-clause-found g c told =
    let on = c.requires.opened told in
    none_found (seen (g.D.Disk.history c.args.disk.now)) c.args.key.now c.args.opened.now on.accepted on.header
    _ _ c.in_ok-place.field-0 (ap form_in c.new-space.ensures.header)
    (ap (λ d. seen (g.D.Disk.history d)) c.new-space.ensures.disk) c.in-None.is
    (c.in_ok-place.ensures.found told)
