-- The pair is added where it is chosen; else the new file stays as it is.
use Rattle.std.proofs.Common.{◌+◌, ◌∙◌, ap}
use Rattle.std.specs.Prelude.{nat_eq, length}
use Rattle.std.specs.List.{starts_with}
use Rattle.std.proofs.lemmas.Result.{err_from_is_err_and}
use Rattle.tdb_space.specs.NewRecord.{rec_len_for}
use Rattle.tdb_space.specs.Pairs.{pair_of}
use Rattle.tdb_backup.specs.Held.{pair_held}
use Rattle.tdb_backup.proofs.Inserting.{stays_within}
use Rattle.tdb_rewrite.specs.Rewritten.{chosen}
use Rattle.tdb_rewrite.proofs.Copied.{chosen_unused, chosen_other, chosen_this, copied_none, copied_one, no_shorter, refused_one, refused_unread}
use Rattle.tdb_rewrite.proofs.rewriting.copy_record.Goals as goal

pub returns-in_err-used-clause-refused : goal.returns-in_err-used-clause-refused
returns-in_err-used-clause-refused g c =
    let p = err_from_is_err_and c.from_residual.result c.from_residual.ensures.1 in
    let ps = pair_of (g.S.Space.form c.args.from.now).order (g.S.Space.image c.args.from.now) c.args.found.off in
    rw (p.1, p.2)
    (λ told heard small stands done R new.
    refused_unread (g.T.Space.form c.args.to.now) (g.T.Space.image c.args.to.now) (chosen c.args.prefix.now ps) done c.args.limit c.in_err-used.field-0.0 R)

pub returns-then-not-used-clause-copied : goal.returns-then-not-used-clause-copied
returns-then-not-used-clause-copied g c told heard small stands done R new =
    let ps = pair_of (g.S.Space.form c.args.from.now).order (g.S.Space.image c.args.from.now) c.args.found.off in
    copied_none (g.T.Space.form c.args.to.now) (g.T.Space.image c.args.to.now) (chosen c.args.prefix.now ps) done
    (chosen_unused c.args.prefix.now ps (pair_held c.read_pair.new.held) c.in_ok-used.used c.if-not-used.true (c.in_ok-used.ensures.pair told stands)) R

pub returns-then-not-starts_with-clause-copied : goal.returns-then-not-starts_with-clause-copied
returns-then-not-starts_with-clause-copied g c told heard small stands done R new =
    let prefix = c.args.prefix.now in
    let ps = pair_of (g.S.Space.form c.args.from.now).order (g.S.Space.image c.args.from.now) c.args.found.off in
    let pair = pair_held c.read_pair.new.held in
    let begins = c.starts_with.ensures.value ∙ ap (λ k. starts_with nat_eq k prefix) c.key-key.ensures in
    copied_none (g.T.Space.form c.args.to.now) (g.T.Space.image c.args.to.now) (chosen prefix ps) done
    (chosen_other prefix ps pair c.in_ok-used.used c.starts_with.result c.if-not-used.false begins (c.in_ok-used.ensures.pair told stands) c.if-not-starts_with.true) R

pub returns-clause-copied : goal.returns-clause-copied
returns-clause-copied g c told heard small stands done R new =
    let prefix = c.args.prefix.now in
    let ps = pair_of (g.S.Space.form c.args.from.now).order (g.S.Space.image c.args.from.now) c.args.found.off in
    let pair = pair_held c.read_pair.new.held in
    let begins = c.starts_with.ensures.value ∙ ap (λ k. starts_with nat_eq k prefix) c.key-key.ensures in
    let one = chosen_this prefix ps pair c.in_ok-used.used c.starts_with.result c.if-not-used.false begins (c.in_ok-used.ensures.pair told stands) c.if-not-starts_with.false in
    copied_one (g.T.Space.form c.args.to.now) (g.T.Space.image c.args.to.now) (g.T.Space.image c.insert_new.new.s) (chosen prefix ps) done pair c.key-key.result.now c.value.result.now one c.key-key.ensures c.value.ensures R new
    (c.in_ok-insert_new.ensures.added heard small) (c.in_ok-insert_new.ensures.first heard small)

pub returns-in_err-insert_new-clause-refused : goal.returns-in_err-insert_new-clause-refused
returns-in_err-insert_new-clause-refused g c =
    let p = err_from_is_err_and c.from_residual-in_err-insert_new.result c.from_residual-in_err-insert_new.ensures.1 in
    let prefix = c.args.prefix.now in
    let ps = pair_of (g.S.Space.form c.args.from.now).order (g.S.Space.image c.args.from.now) c.args.found.off in
    let pair = pair_held c.read_pair.new.held in
    let begins = c.starts_with.ensures.value ∙ ap (λ k. starts_with nat_eq k prefix) c.key-key.ensures in
    rw (p.1, p.2)
    (λ told heard small stands done R new.
    (let one = chosen_this prefix ps pair c.in_ok-used.used c.starts_with.result c.if-not-used.false begins (c.in_ok-used.ensures.pair told stands) c.if-not-starts_with.false in
    refused_one (g.T.Space.form c.args.to.now) (g.T.Space.image c.args.to.now) (g.T.Space.image c.insert_new.new.s) (chosen prefix ps) done pair c.key-key.result.now c.value.result.now one c.key-key.ensures c.value.ensures R
    c.args.limit c.in_err-insert_new.field-0.0 (c.in_err-insert_new.ensures.refused heard small)))

pub returns-clause-within : goal.returns-clause-within
returns-clause-within g c first within =
    stays_within first (g.T.Space.size c.args.to.now) (24 + rec_len_for (length c.key-key.result.now) (length c.value.result.now)) c.args.limit (g.T.Space.size c.insert_new.new.s) within c.insert_new.ensures.size

pub returns-in_err-insert_new-clause-within : goal.returns-in_err-insert_new-clause-within
returns-in_err-insert_new-clause-within g c first within =
    stays_within first (g.T.Space.size c.args.to.now) (24 + rec_len_for (length c.key-key.result.now) (length c.value.result.now)) c.args.limit (g.T.Space.size c.insert_new.new.s) within c.insert_new.ensures.size

pub returns-clause-grows : goal.returns-clause-grows
returns-clause-grows g c =
    no_shorter (g.T.Space.size c.args.to.now) (24 + rec_len_for (length c.key-key.result.now) (length c.value.result.now)) c.args.limit (g.T.Space.size c.insert_new.new.s) c.insert_new.ensures.size

pub returns-in_err-insert_new-clause-grows : goal.returns-in_err-insert_new-clause-grows
returns-in_err-insert_new-clause-grows g c =
    no_shorter (g.T.Space.size c.args.to.now) (24 + rec_len_for (length c.key-key.result.now) (length c.value.result.now)) c.args.limit (g.T.Space.size c.insert_new.new.s) c.insert_new.ensures.size
