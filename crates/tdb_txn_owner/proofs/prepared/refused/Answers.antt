-- The table tells each of these commands that it isn't taken.
use Rattle.std.proofs.Common.{◌∙◌, ap}
use Rattle.tdb_space.specs.Form.{form_in}
use Rattle.tdb_commands.specs.InLaw.{law_reply}
use Rattle.tdb_txn_owner.proofs.PreparedTold.{prepared_replies, told_none, told_same}
use Rattle.tdb_txn_owner.proofs.prepared.refused.Goals as goal

pub unreachable-requires : goal.unreachable-requires
unreachable-requires c =
    let a = c.args in
    let told = prepared_replies (form_in a.header.now) a.options.now a.command.now c.requires.other c.refusal.result c.new-nothing.result c.new-nothing.ensures c.refusal.ensures in
    told_none c.refusal.result told.0 c.in-None.is told.2

pub returns : goal.returns
returns c =
    let a = c.args in
    let told = prepared_replies (form_in a.header.now) a.options.now a.command.now c.requires.other c.refusal.result c.new-nothing.result c.new-nothing.ensures c.refusal.ensures in
    (c.in-Some.reply, ap law_reply (told_same c.refusal.result c.in-Some.reply told.0 c.in-Some.is told.2) ∙ told.1, c.on.ensures)
