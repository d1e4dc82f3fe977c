-- The pair was inserted between two looks at the length.
use Rattle.std.proofs.Common.{◌≡◌, ◌<◌, ◌^◌, refl, sym, ◌∙◌, subst, arith}
use Rattle.std.proofs.lemmas.Result.{err_from_is_err_and}
use Rattle.tdb_log.specs.Logs.{ToldAll, ToldUpTo, growth}
use Rattle.tdb_backup.proofs.Growths.{inserted_between, unadded_between}
use Rattle.tdb_backup.proofs.telling.insert_and_tell.Goals as goal

pub returns-in_err-insert_new-clause-refused : goal.returns-in_err-insert_new-clause-refused
returns-in_err-insert_new-clause-refused g c =
    let q = err_from_is_err_and c.from_residual-in_err-insert_new.result c.from_residual-in_err-insert_new.ensures.1 in
    rw (q.1, q.2)
    (λ told small A none.
    (let short : g.S.Space.size c.len.new.self < 2 ^ 32 = omega (arith, c.len.ensures.size, small) in
    unadded_between (g.S.Space.form c.args.s.now) (g.S.Space.form c.len.new.self) (g.S.Space.image c.args.s.now) (g.S.Space.image c.len.new.self) (g.S.Space.image c.insert_new.new.s) (g.S.Space.image c.insert_new.new.s)
    c.args.key.now c.args.value.now c.args.limit c.len.ensures.form c.len.ensures.image refl A c.in_err-insert_new.field-0.0 (c.in_err-insert_new.ensures.refused told short)))

pub returns-in_err-tell_growth-clause-refused : goal.returns-in_err-tell_growth-clause-refused
returns-in_err-tell_growth-clause-refused g c =
    let q = err_from_is_err_and c.from_residual-in_err-tell_growth.result c.from_residual-in_err-tell_growth.ensures.1 in
    rw (q.1, q.2)
    (λ told small A none.
    (let short : g.S.Space.size c.len.new.self < 2 ^ 32 = omega (arith, c.len.ensures.size, small) in
    inserted_between (g.S.Space.form c.args.s.now) (g.S.Space.form c.len.new.self) (g.S.Space.image c.args.s.now) (g.S.Space.image c.len.new.self) (g.S.Space.image c.insert_new.new.s) (g.S.Space.image c.len-2.new.self)
    c.args.key.now c.args.value.now c.args.limit c.len.ensures.form c.len.ensures.image c.len-2.ensures.image A none (c.in_ok-insert_new.ensures.added told short) (c.in_ok-insert_new.ensures.filled told short)))

pub returns-clause-inserted : goal.returns-clause-inserted
returns-clause-inserted g c told small A none =
    let short : g.S.Space.size c.len.new.self < 2 ^ 32 = omega (arith, c.len.ensures.size, small) in
    inserted_between (g.S.Space.form c.args.s.now) (g.S.Space.form c.len.new.self) (g.S.Space.image c.args.s.now) (g.S.Space.image c.len.new.self) (g.S.Space.image c.insert_new.new.s) (g.S.Space.image c.len-2.new.self)
    c.args.key.now c.args.value.now c.args.limit c.len.ensures.form c.len.ensures.image c.len-2.ensures.image A none (c.in_ok-insert_new.ensures.added told short) (c.in_ok-insert_new.ensures.filled told short)

-- what was told is what the file grew by
pub returns-in_err-tell_growth-clause-heard : goal.returns-in_err-tell_growth-clause-heard
returns-in_err-tell_growth-clause-heard g c =
    let q = err_from_is_err_and c.from_residual-in_err-tell_growth.result c.from_residual-in_err-tell_growth.ensures.1 in
    let from : c.in_ok-from.from ≡ g.S.Space.size c.args.s.now = c.in_ok-from.ensures.length in
    let to : c.in_ok-to.to ≡ g.S.Space.size c.len-2.new.self = c.in_ok-to.ensures.length ∙ sym c.len-2.ensures.size in
    rw (q.1, q.2)
    (subst (λ ns. ToldUpTo c.in_err-tell_growth.field-0.0 ns (g.L.Logs.logs c.args.logs.now) (g.L.Logs.logs c.tell_growth.new.logs)) (λ j. growth (from j) (to j)) c.in_err-tell_growth.ensures.refused)

pub returns-clause-heard : goal.returns-clause-heard
returns-clause-heard g c =
    let from : c.in_ok-from.from ≡ g.S.Space.size c.args.s.now = c.in_ok-from.ensures.length in
    let to : c.in_ok-to.to ≡ g.S.Space.size c.len-2.new.self = c.in_ok-to.ensures.length ∙ sym c.len-2.ensures.size in
    subst (λ ns. ToldAll ns (g.L.Logs.logs c.args.logs.now) (g.L.Logs.logs c.tell_growth.new.logs)) (λ j. growth (from j) (to j)) c.in_ok-tell_growth.ensures.told
