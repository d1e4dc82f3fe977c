use Rattle.std.proofs.Common.{◌∙◌, [], sym, subst, rules}
use Rattle.tdb_disk.specs.History.{seen}
use Rattle.tdb_space.specs.Accepted.{AcceptWith}
use Rattle.tdb_space.specs.Form.{form_in}
use Rattle.tdb_law.specs.World.{HasFewChains}
use Rattle.tdb_world.proofs.Loaded.{just_loaded, new_accepted, new_form}
use Rattle.tdb_world.proofs.creating.create.Goals as goal

-- the world stands over the new file, and has its form
pub returns-clause-fits : goal.returns-clause-fits
returns-clause-fits g c =
    let few : HasFewChains (form_in c.header.result) = search rules in
    c.new.ensures.fits (seen (g.D.Disk.history c.make.new.disk)) (g.D.Disk.size c.make.new.disk) few c.requires.limit (search rules)

pub returns-clause-form : goal.returns-clause-form
returns-clause-form g c told = new_form c.args.form (seen (g.D.Disk.history c.make.new.disk)) c.new.result (c.new.ensures.header ∙ c.header.ensures) (c.in_ok-make.ensures.made told).file

pub returns-clause-accepted : goal.returns-clause-accepted
returns-clause-accepted g c told =
    let img = seen (g.D.Disk.history c.make.new.disk) in
    subst (λ h. AcceptWith (form_in h) img []) (sym (c.new.ensures.header ∙ c.header.ensures)) (new_accepted c.args.form img (c.in_ok-make.ensures.made told).file)

pub returns-clause-state : goal.returns-clause-state
returns-clause-state g c told =
    let h = g.D.Disk.history c.make.new.disk in
    let few : HasFewChains (form_in c.header.result) = search rules in
    just_loaded c.new.result h c.header.result c.args.options.now c.new.ensures.header c.new.ensures.options
    (c.new.ensures.state h few c.requires.limit (subst (λ d. AcceptWith (form_in d) (seen h) []) (sym c.header.ensures) (new_accepted c.args.form (seen h) (c.in_ok-make.ensures.made told).file)))
