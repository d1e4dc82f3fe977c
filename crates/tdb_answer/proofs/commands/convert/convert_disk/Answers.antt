use Rattle.std.proofs.Common.{[], refl, sym, subst}
use Rattle.std.specs.Prelude.{IsTrue, IfErr, OnOk}
use Rattle.tdb_disk.specs.History.{History, seen}
use Rattle.tdb_open.specs.Notices.{ReadingBelowHeard}
use Rattle.tdb_open.specs.Opening.{IsCheckedOn}
use Rattle.tdb_answer.specs.Commands.Convert.{CanConvert, IsConverted, ConvertLeft}
use Rattle.tdb_answer.specs.Commands.Rewriting.{anew_ending}
use Rattle.tdb_answer.specs.Heard.{ToldFor}
use Rattle.tdb_answer.proofs.Hearing.{opened_alone, halted_heard}
use Rattle.tdb_answer.proofs.Converting.{new_halted, halted_unconverted, making_unlogged}
use Rattle.tdb_answer.proofs.commands.convert.convert_disk.Goals as goal

-- what was opened is as it was
pub convert_to-requires-clause-opened : goal.convert_to-requires-clause-opened
convert_to-requires-clause-opened g c told = subst (λ (h : History). IsCheckedOn (seen h) c.in-Ok.opened) (sym c.in-Ok.ensures.history) (c.in-Ok.ensures.checked told)

pub convert_to-requires-clause-can_read : goal.convert_to-requires-clause-can_read
convert_to-requires-clause-can_read g c told = subst (λ (h : History). CanConvert c.args.made (seen h)) (sym c.in-Ok.ensures.history) (c.in-Ok.ensures.within told, c.in-Ok.ensures.can_read told)

-- the new file was made, or wasn't
pub returns-in-Ok-clause-made : goal.returns-in-Ok-clause-made
returns-in-Ok-clause-made g c =
    let old = g.F.Files.held c.args.files.now c.args.new.now in
    let now = g.F.Files.held c.convert_to.new.files c.args.new.now in
    subst (λ (h : History). OnOk c.convert_to.result (IsTrue g.F.D.Disk.tells → IsConverted c.args.made c.args.prefix.now (seen h) old now)) c.in-Ok.ensures.history c.convert_to.ensures.made

pub returns-in-Ok-clause-refused : goal.returns-in-Ok-clause-refused
returns-in-Ok-clause-refused g c =
    let old = g.F.Files.held c.args.files.now c.args.new.now in
    let now = g.F.Files.held c.convert_to.new.files c.args.new.now in
    subst (λ (h : History). IfErr c.convert_to.result (λ e. IsTrue g.F.D.Disk.tells → ConvertLeft c.args.made c.args.prefix.now (seen h) c.args.new.now old e now)) c.in-Ok.ensures.history c.convert_to.ensures.refused

-- the opening halted
pub returns-in-Err-clause-refused : goal.returns-in-Err-clause-refused
returns-in-Err-clause-refused g c told =
    new_halted c.args.made c.args.prefix.now (seen (g.F.D.Disk.history c.args.from.now)) c.args.new.now (g.F.Files.held c.args.files.now c.args.new.now) (g.F.Files.held c.args.files.now c.args.new.now)
    c.in-Err.halt c.from.result c.from.ensures (c.in-Err.ensures.refused told) refl

pub returns-in-Err-clause-known : goal.returns-in-Err-clause-known
returns-in-Err-clause-known g c = halted_unconverted c.in-Err.halt c.from.result c.from.ensures

-- what logs heard of it
pub returns-in-Ok-clause-heard : goal.returns-in-Ok-clause-heard
returns-in-Ok-clause-heard g c told =
    let img = seen (g.F.D.Disk.history c.args.from.now) in
    opened_alone img (ReadingBelowHeard c.args.made.limit img) (anew_ending c.convert_to.result) c.in-Ok.opened (g.L.Logs.logs c.args.logs.now) (g.L.Logs.logs c.open_to_read_below.new.logs) (c.in-Ok.ensures.checked told).counted (c.in-Ok.ensures.heard told)
    (making_unlogged c.convert_to.result c.convert_to.ensures.unlogged)

pub returns-in-Err-clause-heard : goal.returns-in-Err-clause-heard
returns-in-Err-clause-heard g c told =
    let img = seen (g.F.D.Disk.history c.args.from.now) in
    halted_heard img (ReadingBelowHeard c.args.made.limit img) c.in-Err.halt c.from.result (ToldFor c.from.result []) (g.L.Logs.logs c.args.logs.now) (g.L.Logs.logs c.open_to_read_below.new.logs) (c.in-Err.ensures.heard told) c.from.ensures
