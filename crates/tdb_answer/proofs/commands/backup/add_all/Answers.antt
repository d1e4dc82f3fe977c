use Rattle.std.proofs.Common.{◌≡◌, ◌^◌, ◌<◌, [], length, ◌∙◌, sym, subst}
use Rattle.std.proofs.lemmas.Result.{on_ok_weaker, IfErr-weaker}
use Rattle.tdb_log.specs.Logs.{ToldAll}
use Rattle.tdb_disk.specs.History.{seen}
use Rattle.tdb_space.specs.Form.{form_of}
use Rattle.tdb_space.specs.Pairs.{order_of}
use Rattle.tdb_backup.specs.Building.{HoldsPairs}
use Rattle.tdb_answer.specs.Commands.Create.{new_file_of}
use Rattle.tdb_open.specs.declared.limits.TheConstants.{LONGEST_FILE}
use Rattle.tdb_answer.specs.Commands.Backup.{IsNotBackedUp, RefusalHeard, copy_growths}
use Rattle.tdb_open.specs.Creating.{IsNewFile}
use Rattle.tdb_open.specs.Opening.{IsCheckedOn}
use Rattle.tdb_answer.proofs.BackingUp.{source_accepted, fresh_holds, fresh_short, as_copied, as_heard, as_refused, as_told}
use Rattle.tdb_answer.proofs.commands.backup.add_all.Goals as goal

pub returns-clause-copied : goal.returns-clause-copied
returns-clause-copied g c = on_ok_weaker c.copy_pairs.result (λ done told.
    (let from = c.new-source.result.disk.now in
    let to = c.new-copy.result.disk.now in
    let img = seen (g.D.Disk.history from) in
    let fresh = seen (g.D.Disk.history to) in
    let o = c.args.opened.now in
    let hs = c.new-source.result.header in
    let hc = c.new-copy.result.header in
    let as_s = c.new-source.ensures.header in
    let as_c = c.new-copy.ensures.header in
    let under = c.copy_pairs.ensures.wrote.under in
    let kept : c.copy_pairs.new.to.disk.ghost_name ≡ c.new-copy.result.disk.ghost_name = cc in
    let checked = subst (λ x. IsCheckedOn (seen (g.D.Disk.history x)) o) (sym c.new-source.ensures.disk) (c.requires.opened told) in
    let short = subst (λ x. length (seen (g.D.Disk.history x)) < 2 ^ 32) (sym c.new-source.ensures.disk) (c.requires.short told) in
    let file = subst (λ x. IsNewFile o.header.hash_size o.header.order o.header.hash (seen (g.D.Disk.history x))) (sym c.new-copy.ensures.disk) (c.requires.new told) in
    let made = seen (g.D.Disk.history c.copy_pairs.new.to.disk.now) in
    let holds = as_copied img fresh o hs hc as_s as_c checked made
    (done told told (fresh_short img fresh o hs hc as_s as_c checked file (g.D.Disk.size to) short (g.met.D.Disk.told_size to told)) []
    (source_accepted img fresh o hs hc as_s as_c checked) (new_file_of (form_of img)) (fresh_holds img fresh o hs hc as_s as_c checked file)) in
    let img_now = seen (g.D.Disk.history c.args.from.now) in
    subst (λ d. HoldsPairs LONGEST_FILE (new_file_of (form_of img_now)) (form_of img_now) (seen (g.D.Disk.history d)) (order_of (form_of img_now) img_now)) (sym (c.to-1.given.1 (sym c.new-copy.ensures.same_reference ∙ sym kept)))
    (subst (λ x. HoldsPairs LONGEST_FILE (new_file_of (form_of (seen (g.D.Disk.history x)))) (form_of (seen (g.D.Disk.history x))) made (order_of (form_of (seen (g.D.Disk.history x))) (seen (g.D.Disk.history x)))) c.new-source.ensures.disk holds)))
    c.copy_pairs.ensures.copied

pub returns-clause-refused : goal.returns-clause-refused
returns-clause-refused g c = IfErr-weaker c.copy_pairs.result _ _ (λ e done told.
    (let from = c.new-source.result.disk.now in
    let to = c.new-copy.result.disk.now in
    let img = seen (g.D.Disk.history from) in
    let fresh = seen (g.D.Disk.history to) in
    let o = c.args.opened.now in
    let hs = c.new-source.result.header in
    let hc = c.new-copy.result.header in
    let as_s = c.new-source.ensures.header in
    let as_c = c.new-copy.ensures.header in
    let checked = subst (λ x. IsCheckedOn (seen (g.D.Disk.history x)) o) (sym c.new-source.ensures.disk) (c.requires.opened told) in
    let short = subst (λ x. length (seen (g.D.Disk.history x)) < 2 ^ 32) (sym c.new-source.ensures.disk) (c.requires.short told) in
    let file = subst (λ x. IsNewFile o.header.hash_size o.header.order o.header.hash (seen (g.D.Disk.history x))) (sym c.new-copy.ensures.disk) (c.requires.new told) in
    let made = seen (g.D.Disk.history c.copy_pairs.new.to.disk.now) in
    subst (λ x. IsNotBackedUp (seen (g.D.Disk.history x)) e) c.new-source.ensures.disk
    (as_refused img fresh o hs hc as_s as_c checked made e
    (done told told (fresh_short img fresh o hs hc as_s as_c checked file (g.D.Disk.size to) short (g.met.D.Disk.told_size to told)) []
    (source_accepted img fresh o hs hc as_s as_c checked) (new_file_of (form_of img)) (fresh_holds img fresh o hs hc as_s as_c checked file)))))
    c.copy_pairs.ensures.refused

-- what logs heard of it
pub returns-clause-told : goal.returns-clause-told
returns-clause-told g c = on_ok_weaker c.copy_pairs.result (λ done told.
    (let from = c.new-source.result.disk.now in
    let to = c.new-copy.result.disk.now in
    let img = seen (g.D.Disk.history from) in
    let fresh = seen (g.D.Disk.history to) in
    let o = c.args.opened.now in
    let hs = c.new-source.result.header in
    let hc = c.new-copy.result.header in
    let as_s = c.new-source.ensures.header in
    let as_c = c.new-copy.ensures.header in
    let logs = g.L.Logs.logs c.args.logs.now in
    let later = g.L.Logs.logs c.copy_pairs.new.logs in
    let checked = subst (λ x. IsCheckedOn (seen (g.D.Disk.history x)) o) (sym c.new-source.ensures.disk) (c.requires.opened told) in
    let short = subst (λ x. length (seen (g.D.Disk.history x)) < 2 ^ 32) (sym c.new-source.ensures.disk) (c.requires.short told) in
    let file = subst (λ x. IsNewFile o.header.hash_size o.header.order o.header.hash (seen (g.D.Disk.history x))) (sym c.new-copy.ensures.disk) (c.requires.new told) in
    subst (λ x. ToldAll (copy_growths (seen (g.D.Disk.history x))) logs later) c.new-source.ensures.disk
    (as_told img fresh o hs hc as_s as_c checked logs later
    (done told told (fresh_short img fresh o hs hc as_s as_c checked file (g.D.Disk.size to) short (g.met.D.Disk.told_size to told)) []
    (source_accepted img fresh o hs hc as_s as_c checked) (new_file_of (form_of img)) (fresh_holds img fresh o hs hc as_s as_c checked file)))))
    c.copy_pairs.ensures.told

pub returns-clause-heard : goal.returns-clause-heard
returns-clause-heard g c = IfErr-weaker c.copy_pairs.result _ _ (λ e done told.
    (let from = c.new-source.result.disk.now in
    let to = c.new-copy.result.disk.now in
    let img = seen (g.D.Disk.history from) in
    let fresh = seen (g.D.Disk.history to) in
    let o = c.args.opened.now in
    let hs = c.new-source.result.header in
    let hc = c.new-copy.result.header in
    let as_s = c.new-source.ensures.header in
    let as_c = c.new-copy.ensures.header in
    let logs = g.L.Logs.logs c.args.logs.now in
    let later = g.L.Logs.logs c.copy_pairs.new.logs in
    let checked = subst (λ x. IsCheckedOn (seen (g.D.Disk.history x)) o) (sym c.new-source.ensures.disk) (c.requires.opened told) in
    let short = subst (λ x. length (seen (g.D.Disk.history x)) < 2 ^ 32) (sym c.new-source.ensures.disk) (c.requires.short told) in
    let file = subst (λ x. IsNewFile o.header.hash_size o.header.order o.header.hash (seen (g.D.Disk.history x))) (sym c.new-copy.ensures.disk) (c.requires.new told) in
    subst (λ x. RefusalHeard (seen (g.D.Disk.history x)) logs later e) c.new-source.ensures.disk
    (as_heard img fresh o hs hc as_s as_c checked logs later e
    (done told told (fresh_short img fresh o hs hc as_s as_c checked file (g.D.Disk.size to) short (g.met.D.Disk.told_size to told)) []
    (source_accepted img fresh o hs hc as_s as_c checked) (new_file_of (form_of img)) (fresh_holds img fresh o hs hc as_s as_c checked file)))))
    c.copy_pairs.ensures.heard
