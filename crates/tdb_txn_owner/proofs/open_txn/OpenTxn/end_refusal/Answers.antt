-- The reply is that of the table, and a doomed transaction is refused.
use Rattle.std.proofs.Common.{nat_lt, sym, ◌∙◌, ap}
use Rattle.std.specs.Option.{option_map}
use Rattle.tdb_commands.specs.InLaw.{law_reply}
use Rattle.tdb_txn_owner.proofs.Opened.{end_told, end_whole, stands_at}
use Rattle.tdb_txn_owner.proofs.open_txn.OpenTxn.end_refusal.Goals as goal

pub returns-clause-told : goal.returns-clause-told
returns-clause-told c f o base x g ends H =
    let t = c.args.self.now in
    let l = c.level.ensures in
    ap (option_map law_reply) c.commit_refusal.ensures
    ∙ end_told f o c.level.result t.held x t.counts (stands_at o t base x c.level.result l.prepared l.nested l.doomed l.walks H) l.prepared (l.nested ∙ ap (nat_lt 0) c.requires) g ends

pub returns-clause-whole : goal.returns-clause-whole
returns-clause-whole c none = sym c.level.ensures.doomed ∙ end_whole c.level.result c.args.self.now.held (sym c.commit_refusal.ensures ∙ none)
