-- A turn takes the lock that it wants in a table in which nobody holds any, or looks or changes the file.
use Rattle.std.proofs.Common.{[], sym, ◌∙◌, ap, subst}
use Rattle.tdb_steps.specs.LockTurns.{ActRightly}
use Rattle.tdb_steps.specs.LockRows.{row_at}
use Rattle.tdb_steps.specs.LockTurns.{LockLed}
use Rattle.tdb_steps.proofs.Turning.{lock_turned, lock_stage, locks_idle}
use Rattle.tdb_steps.proofs.Rowed.{lock_row}
use Rattle.tdb_steps.proofs.Room.{full_at_take}
use Rattle.tdb_txn_turns.proofs.InsideTxn.Overlays.{weaker, weaker_by, weaker_three}
use Rattle.tdb_txn_turns.proofs.InsideTxn.Progress.{never_blocked, none_out}
use Rattle.tdb_txn_turns.proofs.InsideTxn.Fullness.{still_before}
use Rattle.tdb_txn_turns.proofs.InsideTxn.Spared.{act_turn_spares, lock_turn_spares}
use Rattle.tdb_txn_turns.proofs.inside_txn.alone.turn_alone.Goals as goal

pub returns-in-Some-clause-made : goal.returns-in-Some-clause-made
returns-in-Some-clause-made g c told small n is may A K =
    let d = c.args.machine.now in
    lock_turned (g.S.Space.form c.args.s.now) (g.S.Space.image c.args.s.now) d.command d.chain d.seqnum n d.whole [] d.stage c.lock_turn.new.self c.lock_turn.result c.new-held.result 1 c.new-locks.result c.lock_turn.new.locks c.rows-rows.result
    c.in-Some.row (sym c.wanted.ensures ∙ c.in-Some.is) c.lock_turn.ensures.led is A K

pub returns-in-Some-clause-free : goal.returns-in-Some-clause-free
returns-in-Some-clause-free g c =
    never_blocked c.new-held.result 1 c.lock_turn.new.locks c.rows-rows.result c.in-Some.row c.args.machine.now c.lock_turn.new.self c.lock_turn.result
    (subst (λ ps. LockLed c.new-held.result 1 ps c.lock_turn.new.locks c.rows-rows.result c.in-Some.row c.args.machine.now c.lock_turn.new.self c.lock_turn.result) c.new-locks.ensures c.lock_turn.ensures.led)

pub returns-in-Some-clause-full : goal.returns-in-Some-clause-full
returns-in-Some-clause-full g c told small n is A K =
    let d = c.args.machine.now in
    let f = g.S.Space.form c.args.s.now in
    let a = g.S.Space.image c.args.s.now in
    let at = sym c.wanted.ensures ∙ c.in-Some.is in
    full_at_take f a a d c.lock_turn.new.self n c.args.limit c.args.stood_on.now [] c.lock_turn.result is A K
    (lock_row d.command d.chain d.seqnum n d.stage d.whole c.lock_turn.new.self c.new-held.result 1 c.new-locks.result c.lock_turn.new.locks c.rows-rows.result c.in-Some.row at is c.lock_turn.result c.lock_turn.ensures.led)
    (returns-in-Some-clause-made g c told small n is (none_out d.stage) A K).map (λ busy. absurd (busy (locks_idle d.stage (lock_stage c.rows-rows.result d.stage c.in-Some.row at))))

pub returns-clause-full : goal.returns-clause-full
returns-clause-full g c =
    let d = c.args.machine.now in
    weaker_three c.act_turn.result _ _ _ _
    (λ turn made row rightly told small n is A K.
    full_at_take (g.S.Space.form c.args.s.now) (g.S.Space.image c.args.s.now) (g.S.Space.image c.act_turn.new.s) d c.act_turn.new.self n c.args.limit c.args.stood_on.now [] turn is A K (row n is)
    (made told small n [] is (none_out d.stage) A K).map (rightly told small))
    c.act_turn.ensures.made c.act_turn.ensures.row c.act_turn.ensures.rightly

pub returns-clause-still : goal.returns-clause-still
returns-clause-still g c =
    let d = c.args.machine.now in
    let f = g.S.Space.form c.args.s.now in
    let a = g.S.Space.image c.args.s.now in
    let b = g.S.Space.image c.act_turn.new.s in
    weaker c.act_turn.result _ _
    (λ turn rightly told small n is early A fills step.
    still_before f a b c.args.limit c.args.stood_on.now d c.act_turn.new.self n is early fills A (λ quiet. (c.act_turn.ensures.idle quiet).image)
    (λ busy. subst (ActRightly f a b d c.act_turn.new.self c.args.limit c.args.stood_on.now) step (rightly told small busy)))
    c.act_turn.ensures.rightly

pub returns-clause-made : goal.returns-clause-made
returns-clause-made g c = weaker c.act_turn.result _ _ (λ turn made told small n is may A K. made told small n [] is may A K) c.act_turn.ensures.made

pub returns-in-Some-clause-spares : goal.returns-in-Some-clause-spares
returns-in-Some-clause-spares g c told small n is A K S =
    lock_turn_spares c.args.stood_on.now c.new-held.result 1 c.new-locks.result c.lock_turn.new.locks c.rows-rows.result c.in-Some.row c.args.machine.now c.lock_turn.new.self c.lock_turn.result c.lock_turn.ensures.led S

pub returns-clause-spares : goal.returns-clause-spares
returns-clause-spares g c =
    let a = c.args.s.now in
    let d = c.args.machine.now in
    let none = ap (λ r. row_at r d.stage) (sym c.rows-rows.ensures) ∙ sym c.wanted.ensures ∙ c.in_default.is in
    weaker_by c.act_turn.result _ _ _
    (λ turn leaves rightly told small n is A K S.
    act_turn_spares (g.S.Space.form a) (g.S.Space.image a) (g.S.Space.image c.act_turn.new.s) c.args.limit c.args.stood_on.now n d c.act_turn.new.self turn is (leaves n is) A K none (rightly told small) S)
    c.act_turn.ensures.leaves c.act_turn.ensures.rightly
