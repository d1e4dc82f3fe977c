use Rattle.std.proofs.Common.{◌≡◌, ◌^◌, ◌<◌, [], ap, ◌∙◌, sym, subst}
use Rattle.std.proofs.lemmas.Result.{on_ok_weaker, IfErr-weaker}
use Rattle.tdb_disk.specs.History.{seen}
use Rattle.tdb_space.specs.Form.{form_in}
use Rattle.tdb_backup.specs.Building.{HoldsPairs}
use Rattle.tdb_backup.specs.Restoring.{Restored, RestoreCause, TextHeard, TextTold}
use Rattle.tdb_answer.specs.Commands.Create.{new_file_of}
use Rattle.tdb_words.specs.declared.word.Order.TheVariants.{Little}
use Rattle.tdb_words.specs.declared.hash.HashKind.TheVariants.{Old}
use Rattle.tdb_cmdline.specs.declared.limits.TheConstants.{DEFAULT_SIZE}
use Rattle.tdb_open.specs.Creating.{IsNewFile}
use Rattle.tdb_answer.specs.Commands.Restore.{new_form}
use Rattle.tdb_answer.proofs.Restoring.{holds_nothing, new_short}
use Rattle.tdb_answer.proofs.commands.restore.add_all.Goals as goal

pub returns-clause-restored : goal.returns-clause-restored
returns-clause-restored g c = on_ok_weaker c.restore_pairs.result (λ done heard told.
    (let d = c.new-space.result.disk.now in
    let under = c.restore_pairs.ensures.wrote.under in
    let kept : c.restore_pairs.new.to.disk.ghost_name ≡ c.new-space.result.disk.ghost_name = cc in
    let same = c.new-space.ensures.disk in
    let form : form_in c.new-space.result.header ≡ new_form = ap form_in c.new-space.ensures.header in
    let file = subst (λ x. IsNewFile DEFAULT_SIZE Little Old (seen (g.D.Disk.history x))) (sym same) (c.requires.new told) in
    let short : g.D.Disk.size d < 2 ^ 32 = new_short (seen (g.D.Disk.history d)) file (g.D.Disk.size d) (g.met.D.Disk.told_size d told) in
    subst (λ d. Restored c.args.limit (new_file_of new_form) new_form (seen (g.D.Disk.history d)) (g.S.Source.left c.args.input.now)) (sym (c.disk-1.given.1 (sym c.new-space.ensures.same_reference ∙ sym kept)))
    (subst (λ f. Restored c.args.limit (new_file_of new_form) f (seen (g.D.Disk.history c.restore_pairs.new.to.disk.now)) (g.S.Source.left c.args.input.now)) form
    (done heard told short (new_file_of new_form) (subst (λ f. HoldsPairs c.args.limit (new_file_of new_form) f (seen (g.D.Disk.history d)) []) (sym form) (holds_nothing (seen (g.D.Disk.history d)) file c.args.limit))))))
    c.restore_pairs.ensures.restored

pub returns-clause-refused : goal.returns-clause-refused
returns-clause-refused g c = IfErr-weaker c.restore_pairs.result _ _ (λ e done heard told.
    (let d = c.new-space.result.disk.now in
    let img = seen (g.D.Disk.history c.restore_pairs.new.to.disk.now) in
    let same = c.new-space.ensures.disk in
    let form : form_in c.new-space.result.header ≡ new_form = ap form_in c.new-space.ensures.header in
    let file = subst (λ x. IsNewFile DEFAULT_SIZE Little Old (seen (g.D.Disk.history x))) (sym same) (c.requires.new told) in
    let short : g.D.Disk.size d < 2 ^ 32 = new_short (seen (g.D.Disk.history d)) file (g.D.Disk.size d) (g.met.D.Disk.told_size d told) in (
      img,
      subst (λ f. RestoreCause (new_file_of new_form) f img (g.S.Source.left c.args.input.now) c.args.limit e) form
          (done heard told short (new_file_of new_form) (subst (λ f. HoldsPairs c.args.limit (new_file_of new_form) f (seen (g.D.Disk.history d)) []) (sym form) (holds_nothing (seen (g.D.Disk.history d)) file c.args.limit))),
    )))
    c.restore_pairs.ensures.refused

-- what logs heard of it
pub returns-clause-told : goal.returns-clause-told
returns-clause-told g c = on_ok_weaker c.restore_pairs.result (λ done heard told.
    (let d = c.new-space.result.disk.now in
    let logs = g.L.Logs.logs c.args.logs.now in
    let later = g.L.Logs.logs c.restore_pairs.new.logs in
    let same = c.new-space.ensures.disk in
    let form : form_in c.new-space.result.header ≡ new_form = ap form_in c.new-space.ensures.header in
    let file = subst (λ x. IsNewFile DEFAULT_SIZE Little Old (seen (g.D.Disk.history x))) (sym same) (c.requires.new told) in
    let short : g.D.Disk.size d < 2 ^ 32 = new_short (seen (g.D.Disk.history d)) file (g.D.Disk.size d) (g.met.D.Disk.told_size d told) in
    subst (λ f. TextTold c.args.limit f (new_file_of new_form) (g.S.Source.left c.args.input.now) logs later) form
    (done heard told short (new_file_of new_form) (subst (λ f. HoldsPairs c.args.limit (new_file_of new_form) f (seen (g.D.Disk.history d)) []) (sym form) (holds_nothing (seen (g.D.Disk.history d)) file c.args.limit)))))
    c.restore_pairs.ensures.told

pub returns-clause-heard : goal.returns-clause-heard
returns-clause-heard g c = IfErr-weaker c.restore_pairs.result _ _ (λ e done heard told.
    (let d = c.new-space.result.disk.now in
    let logs = g.L.Logs.logs c.args.logs.now in
    let later = g.L.Logs.logs c.restore_pairs.new.logs in
    let same = c.new-space.ensures.disk in
    let form : form_in c.new-space.result.header ≡ new_form = ap form_in c.new-space.ensures.header in
    let file = subst (λ x. IsNewFile DEFAULT_SIZE Little Old (seen (g.D.Disk.history x))) (sym same) (c.requires.new told) in
    let short : g.D.Disk.size d < 2 ^ 32 = new_short (seen (g.D.Disk.history d)) file (g.D.Disk.size d) (g.met.D.Disk.told_size d told) in
    subst (λ f. TextHeard c.args.limit f (new_file_of new_form) (g.S.Source.left c.args.input.now) logs later e) form
    (done heard told short (new_file_of new_form) (subst (λ f. HoldsPairs c.args.limit (new_file_of new_form) f (seen (g.D.Disk.history d)) []) (sym form) (holds_nothing (seen (g.D.Disk.history d)) file c.args.limit)))))
    c.restore_pairs.ensures.heard
