use Rattle.std.proofs.Common.{◌≡◌, ◌∙◌, sym, subst}
use Rattle.std.proofs.lemmas.Result.{on_ok_weaker, IfErr-weaker}
use Rattle.tdb_disk.specs.History.{seen}
use Rattle.tdb_space.specs.Form.{form_of}
use Rattle.tdb_space.specs.Pairs.{order_of}
use Rattle.tdb_rewrite.specs.Rewritten.{Rewritten, chosen}
use Rattle.tdb_answer.specs.Commands.Rewriting.{made_form, IsNotWritten}
use Rattle.tdb_open.specs.Creating.{IsNewFile}
use Rattle.tdb_open.specs.Opening.{IsCheckedOn}
use Rattle.tdb_answer.proofs.Rewriting.{opened_readable, new_bare, new_short, as_rewritten, as_unwritten}
use Rattle.tdb_answer.proofs.commands.rewriting.add_chosen.Goals as goal

pub returns-clause-rewritten : goal.returns-clause-rewritten
returns-clause-rewritten g c = on_ok_weaker c.rewrite.result (λ done told.
    (let from = c.new-source.result.disk.now in
    let to = c.new-copy.result.disk.now in
    let img = seen (g.D.Disk.history from) in
    let fresh = seen (g.D.Disk.history to) in
    let o = c.args.opened.now in
    let form = c.args.file.form in
    let prefix = c.args.prefix.now in
    let hs = c.new-source.result.header in
    let hc = c.new-copy.result.header in
    let as_s = c.new-source.ensures.header in
    let as_c = c.new-copy.ensures.header ∙ c.header.ensures in
    let under = c.rewrite.ensures.wrote.under in
    let kept : c.rewrite.new.to.disk.ghost_name ≡ c.new-copy.result.disk.ghost_name = cc in
    let checked = subst (λ x. IsCheckedOn (seen (g.D.Disk.history x)) o) (sym c.new-source.ensures.disk) (c.requires.opened told) in
    let file = subst (λ x. IsNewFile form.size form.order form.hash (seen (g.D.Disk.history x))) (sym c.new-copy.ensures.disk) (c.requires.new told) in
    let made = seen (g.D.Disk.history c.rewrite.new.to.disk.now) in
    let holds = as_rewritten img prefix o hs hc form as_s as_c checked made
    (done told told (new_short fresh form (g.D.Disk.size to) file (c.requires.short told) (g.met.D.Disk.told_size to told))
    (opened_readable img prefix o hs hc form as_s as_c checked) (new_bare img prefix o hs hc form as_s as_c checked fresh file)) in
    let img_now = seen (g.D.Disk.history c.args.from.now) in
    subst (λ d. Rewritten (made_form form) (seen (g.D.Disk.history d)) (chosen prefix (order_of (form_of img_now) img_now))) (sym (c.to-1.given.1 (sym c.new-copy.ensures.same_reference ∙ sym kept)))
    (subst (λ x. Rewritten (made_form form) made (chosen prefix (order_of (form_of (seen (g.D.Disk.history x))) (seen (g.D.Disk.history x))))) c.new-source.ensures.disk holds)))
    c.rewrite.ensures.rewritten

pub returns-clause-refused : goal.returns-clause-refused
returns-clause-refused g c = IfErr-weaker c.rewrite.result _ _ (λ e done told.
    (let from = c.new-source.result.disk.now in
    let to = c.new-copy.result.disk.now in
    let img = seen (g.D.Disk.history from) in
    let fresh = seen (g.D.Disk.history to) in
    let o = c.args.opened.now in
    let form = c.args.file.form in
    let prefix = c.args.prefix.now in
    let hs = c.new-source.result.header in
    let hc = c.new-copy.result.header in
    let as_s = c.new-source.ensures.header in
    let as_c = c.new-copy.ensures.header ∙ c.header.ensures in
    let checked = subst (λ x. IsCheckedOn (seen (g.D.Disk.history x)) o) (sym c.new-source.ensures.disk) (c.requires.opened told) in
    let file = subst (λ x. IsNewFile form.size form.order form.hash (seen (g.D.Disk.history x))) (sym c.new-copy.ensures.disk) (c.requires.new told) in
    let made = seen (g.D.Disk.history c.rewrite.new.to.disk.now) in
    subst (λ x. IsNotWritten (seen (g.D.Disk.history x)) prefix (made_form form) c.args.file.limit e) c.new-source.ensures.disk
    (as_unwritten img prefix o hs hc form as_s as_c checked made c.args.file.limit e
    (done told told (new_short fresh form (g.D.Disk.size to) file (c.requires.short told) (g.met.D.Disk.told_size to told))
    (opened_readable img prefix o hs hc form as_s as_c checked) (new_bare img prefix o hs hc form as_s as_c checked fresh file)))))
    c.rewrite.ensures.refused
