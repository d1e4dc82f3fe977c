use Rattle.std.proofs.Common.{◌≡◌, [], sym, ◌∙◌, ap, subst}
use Rattle.std.proofs.lemmas.Result.{on_ok_weaker, IfErr-weaker}
use Rattle.tdb_disk.specs.History.{seen}
use Rattle.tdb_space.specs.Pairs.{order_of}
use Rattle.tdb_rewrite.specs.Rewritten.{Rewritten, chosen}
use Rattle.tdb_mend.specs.Files.{file_mended as mended}
use Rattle.tdb_open.specs.Creating.{IsNewFile}
use Rattle.tdb_open.specs.declared.limits.TheConstants.{LONGEST_FILE}
use Rattle.tdb_answer.specs.Commands.Mend.{new_form}
use Rattle.tdb_answer.specs.Commands.Rewriting.{made_form}
use Rattle.tdb_answer.proofs.Mending.{mending_bare, view_readable, view_rewritten, view_unwritten}
use Rattle.tdb_answer.proofs.Rewriting.{new_short}
use Rattle.tdb_answer.proofs.commands.mend.add_mended.Goals as goal

pub returns-clause-rewritten : goal.returns-clause-rewritten
returns-clause-rewritten g c = on_ok_weaker c.rewrite.result (λ done told.
    (let to = c.new-copy.result.disk.now in
    let fresh = seen (g.D.Disk.history to) in
    let form = c.args.form in
    let hc = c.new-copy.result.header in
    let as_c = c.new-copy.ensures.header ∙ c.header.ensures in
    let m = c.new-source.result.file.now in
    let base = seen (g.D.Disk.history c.new-source.result.disk.now) in
    let img = seen (g.D.Disk.history c.args.from.now) in
    let is = c.new-source.ensures.file in
    let same = ap (λ x. seen (g.D.Disk.history x)) c.new-source.ensures.disk in
    let read = c.requires.read told in
    let under = c.rewrite.ensures.wrote.under in
    let kept : c.rewrite.new.to.disk.ghost_name ≡ c.new-copy.result.disk.ghost_name = cc in
    let file = subst (λ x. IsNewFile form.size form.order form.hash (seen (g.D.Disk.history x))) (sym c.new-copy.ensures.disk) (c.requires.new told) in
    let made = seen (g.D.Disk.history c.rewrite.new.to.disk.now) in
    subst (λ d. Rewritten (made_form form) (seen (g.D.Disk.history d)) (chosen [] (order_of (new_form img) (mended img)))) (sym (c.to-1.given.1 (sym c.new-copy.ensures.same_reference ∙ sym kept)))
    (view_rewritten m c.args.damaged.now base img is same read form hc as_c made
    (done told told (new_short fresh form (g.D.Disk.size to) file (c.requires.short told) (g.met.D.Disk.told_size to told))
    (view_readable m c.args.damaged.now base img is same read) (mending_bare form hc fresh as_c file)))))
    c.rewrite.ensures.rewritten

pub returns-clause-refused : goal.returns-clause-refused
returns-clause-refused g c = IfErr-weaker c.rewrite.result _ _ (λ e done told.
    (let to = c.new-copy.result.disk.now in
    let fresh = seen (g.D.Disk.history to) in
    let form = c.args.form in
    let hc = c.new-copy.result.header in
    let as_c = c.new-copy.ensures.header ∙ c.header.ensures in
    let m = c.new-source.result.file.now in
    let base = seen (g.D.Disk.history c.new-source.result.disk.now) in
    let img = seen (g.D.Disk.history c.args.from.now) in
    let is = c.new-source.ensures.file in
    let same = ap (λ x. seen (g.D.Disk.history x)) c.new-source.ensures.disk in
    let read = c.requires.read told in
    let file = subst (λ x. IsNewFile form.size form.order form.hash (seen (g.D.Disk.history x))) (sym c.new-copy.ensures.disk) (c.requires.new told) in
    let made = seen (g.D.Disk.history c.rewrite.new.to.disk.now) in
    view_unwritten m c.args.damaged.now base img is same read form hc as_c made LONGEST_FILE e
    (done told told (new_short fresh form (g.D.Disk.size to) file (c.requires.short told) (g.met.D.Disk.told_size to told))
    (view_readable m c.args.damaged.now base img is same read) (mending_bare form hc fresh as_c file))))
    c.rewrite.ensures.refused
