-- The set has the key at its mark's place.
use Rattle.std.proofs.Common.{◌∙◌, ap, arith}
use Rattle.std.proofs.lemmas.Grind.{common_steps}
use Rattle.tdb_dump.specs.KeyPlaces.{has_in}
use Rattle.tdb_dump.proofs.KeySetLemmas.{on_err_always, has_in-more, has_in-first}
use Rattle.tdb_dump.proofs.key_set.KeySet.put_first.Goals as goal

pub returns-in_err-insert-clause-err : goal.returns-in_err-insert-clause-err
returns-in_err-insert-clause-err c =
    let s = c.args.self.now in
    on_err_always c.from_residual-in_err-insert.result
    (λ q. ap (λ bytes. has_in c.insert.new.self bytes s.others q) c.in_ok-extend_from_slice.ensures.items
    ∙ has_in-more s.first c.insert.new.self s.bytes.items c.args.key.now s.others c.in_err-insert.ensures.err s.within q)

pub returns-clause-keys : goal.returns-clause-keys
returns-clause-keys c = λ q.
    let s = c.args.self.now in
    ap (λ bytes. has_in c.insert.new.self bytes s.others q) c.in_ok-extend_from_slice.ensures.items
    ∙ has_in-first s.first c.insert.new.self s.bytes.items c.args.key.now s.others _ c.args.mark c.requires.mark c.in_ok-insert.ensures.updates.0 c.requires.unseen s.within
    (grind (arith, common_steps)) (grind (arith, common_steps)) q
