-- Over an accepted image a check counts the keys of the map, and finds no fault.
use Rattle.std.proofs.Common.{[], length, refl, sym, ◌∙◌, ap}
use Rattle.tdb_space.specs.Pairs.{order_of}
use Rattle.tdb_law.specs.Commands.Reply.{Number}
use Rattle.tdb_txn_turns.specs.InsideTxn.Done.MapDone.{answers}
use Rattle.tdb_txn_turns.proofs.InsideTxn.Keys.{keys_counted, no_fault}
use Rattle.tdb_txn_turns.proofs.inside_txn.looks.count_keys.Goals as goal

pub returns-in-Ok-clause-done : goal.returns-in-Ok-clause-done
returns-in-Ok-clause-done g c told A =
    let f = g.S.Space.form c.args.s.now in
    let img = g.S.Space.image c.args.s.now in
    answers (ap Number (ap (λ n. n) (c.in-Ok.ensures.accepted told (λ ok. sym A.form)).1.live ∙ ap (λ h. length (order_of h img)) A.form ∙ sym (keys_counted f img [] A))) refl

pub returns-in-Err-Corrupt-clause-cause : goal.returns-in-Err-Corrupt-clause-cause
returns-in-Err-Corrupt-clause-cause g c told A =
    absurd (no_fault (g.S.Space.form c.args.s.now) (g.S.Space.image c.args.s.now) c.in-Err-Corrupt.field-0-0 c.in-Err-Corrupt.field-0-1 c.in-Err-Corrupt.field-0 c.in-Err-Corrupt.field-0-is A
    (c.in-Err-Corrupt.ensures.first_fault told))
