use Rattle.std.proofs.Common.{[], rules, sym, subst}
use Rattle.tdb_disk.specs.History.{seen}
use Rattle.tdb_space.specs.Accepted.{AcceptWith}
use Rattle.tdb_space.specs.Form.{form_in}
use Rattle.tdb_law.specs.World.{HasFewChains}
use Rattle.tdb_world.proofs.Loaded.{just_loaded, checked_accepted, checked_form}
use Rattle.tdb_world.proofs.loading.load.Goals as goal

-- the world stands over the file, and has its form
pub returns-clause-fits : goal.returns-clause-fits
returns-clause-fits g c =
    let few : HasFewChains (form_in c.in_ok-opened.opened.header) = search rules in
    c.new-world.ensures.fits (seen (g.D.Disk.history c.open_to_turn.new.disk)) (g.D.Disk.size c.open_to_turn.new.disk) few c.requires.limit (search rules)

pub returns-clause-form : goal.returns-clause-form
returns-clause-form g c told = checked_form (seen (g.D.Disk.history c.open_to_turn.new.disk)) c.in_ok-opened.opened c.new-world.result c.new-world.ensures.header (c.in_ok-opened.ensures.checked told)

pub returns-clause-accepted : goal.returns-clause-accepted
returns-clause-accepted g c told =
    let img = seen (g.D.Disk.history c.open_to_turn.new.disk) in
    subst (λ h. AcceptWith (form_in h) img []) (sym c.new-world.ensures.header) (checked_accepted img c.in_ok-opened.opened (c.in_ok-opened.ensures.checked told))

pub returns-clause-state : goal.returns-clause-state
returns-clause-state g c told =
    let h = g.D.Disk.history c.open_to_turn.new.disk in
    let o = c.in_ok-opened.opened in
    let few : HasFewChains (form_in o.header) = search rules in
    just_loaded c.new-world.result h o.header c.args.options.now c.new-world.ensures.header c.new-world.ensures.options
    (c.new-world.ensures.state h few c.requires.limit (checked_accepted (seen h) o (c.in_ok-opened.ensures.checked told)))
