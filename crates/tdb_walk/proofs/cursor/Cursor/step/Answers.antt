-- A turn that moves, and what becomes of the image.
use Rattle.std.proofs.Common.{◌<◌, ◌^◌, IsTrue, sym, ◌∙◌, ap, subst, arith}
use Rattle.tdb_space.specs.Accepted.{AcceptWith}
use Rattle.tdb_walk.specs.declared.stage.Act.TheVariants.{Move}
use Rattle.tdb_locks.specs.declared.turn.Reply.{Reply}
use Rattle.tdb_locks.specs.declared.turn.Turn.TheVariants.{Done}
use Rattle.tdb_walk.specs.declared.standing.Standing.TheVariants.{Past}
use Rattle.tdb_walk.specs.NextLive.{StandsIn}
use Rattle.tdb_walk.specs.Cursors.{At, Knows, LeaveLed, MoveLed, StepMade, WentTo, act_of, dead_of, spared_of}
use Rattle.tdb_walk.proofs.Views.{moved}
use Rattle.tdb_walk.proofs.Turns.{ok_two, ok_three}
use Rattle.tdb_walk.proofs.Making.{made_then, broken_then, broken_nothing, moved_knows}
use Rattle.tdb_walk.proofs.Stepping.{from_stands, taken_by, left_knows}
use Rattle.tdb_space.proofs.Results.{on_err}
use Rattle.tdb_walk.proofs.cursor.Cursor.step.Goals as goal

pub returns-in-Move-clause-taken : goal.returns-in-Move-clause-taken
returns-in-Move-clause-taken g c =
    let f = g.S.Space.form c.args.s.now in
    let img = g.S.Space.image c.args.s.now in
    let at = c.args.self.now in
    let from = c.in-Move.from in
    let due = c.in_ok-due.due in
    let looked = c.in_ok-due.ensures.looked in
    let later = c.move_turn.new.self in
    let same = sym c.in-Move.is ∙ c.of.ensures ∙ ap (λ (a : At). act_of c.args.goal a.place a.stage due) c.self.view_is in
    ok_three c.move_turn.result (λ turn led went locks.
    taken_by (IsTrue g.S.Space.tells) f img c.args.locks.now c.move_turn.new.locks c.args.owner c.args.own.now c.args.stood_on.now c.args.goal c.args.read_only at later turn due (Move from) same
    (subst (λ h. WentTo h c.args.locks.now c.args.owner c.args.own.now at later turn) looked.form went) c.in_ok-due.ensures.writes locks
    (λ told hands A knows. c.in_ok-due.ensures.decided told hands A knows)
    (λ told hands A knows. moved (λ x i. AcceptWith x i hands → StandsIn x i from → MoveLed x i c.args.locks.now c.args.owner c.args.own.now from at later turn) f (g.S.Space.form c.has_to_purge.new.s) img (g.S.Space.image c.has_to_purge.new.s)
    looked.form looked.image (led told hands) A (from_stands f img c.args.goal at.place at.stage due from same knows)))
    c.move_turn.ensures.moved c.move_turn.ensures.went c.move_turn.ensures.locks

pub returns-in-Move-clause-made : goal.returns-in-Move-clause-made
returns-in-Move-clause-made g c =
    let looked = c.in_ok-due.ensures.looked in
    made_then (IsTrue g.S.Space.tells) (g.S.Space.size c.args.s.now < 2 ^ 32) (g.S.Space.size c.has_to_purge.new.s < 2 ^ 32) c.move_turn.result (g.S.Space.form c.args.s.now) (g.S.Space.form c.has_to_purge.new.s) (g.S.Space.image c.args.s.now) (g.S.Space.image c.has_to_purge.new.s)
    (g.S.Space.image c.move_turn.new.s) c.args.self.now c.move_turn.new.self looked.form looked.image (λ small. omega (arith, small, looked.size)) c.move_turn.ensures.made

pub returns-in-Move-clause-knows : goal.returns-in-Move-clause-knows
returns-in-Move-clause-knows g c =
    let f = g.S.Space.form c.args.s.now in
    let img = g.S.Space.image c.args.s.now in
    let b = g.S.Space.image c.move_turn.new.s in
    let at = c.args.self.now in
    let from = c.in-Move.from in
    let due = c.in_ok-due.due in
    let looked = c.in_ok-due.ensures.looked in
    let later = c.move_turn.new.self in
    let same = sym c.in-Move.is ∙ c.of.ensures ∙ ap (λ (a : At). act_of c.args.goal a.place a.stage due) c.self.view_is in
    ok_two c.move_turn.result (λ turn led made told small hands A knows.
    moved_knows f img b hands at later turn knows c.args.locks.now c.args.owner c.args.own.now from
    (moved (λ x i. AcceptWith x i hands → StandsIn x i from → MoveLed x i c.args.locks.now c.args.owner c.args.own.now from at later turn) f (g.S.Space.form c.has_to_purge.new.s) img (g.S.Space.image c.has_to_purge.new.s)
    looked.form looked.image (led told hands) A (from_stands f img c.args.goal at.place at.stage due from same knows))
    (moved (λ x i. AcceptWith x i hands → Knows x i at.place at.stage → StepMade x i b hands at later turn) f (g.S.Space.form c.has_to_purge.new.s) img (g.S.Space.image c.has_to_purge.new.s)
    looked.form looked.image (made told (omega (arith, small, looked.size)) hands) A knows))
    c.move_turn.ensures.moved c.move_turn.ensures.made

pub returns-in-End-clause-made : goal.returns-in-End-clause-made
returns-in-End-clause-made g c =
    let looked = c.in_ok-due.ensures.looked in
    made_then (IsTrue g.S.Space.tells) (g.S.Space.size c.args.s.now < 2 ^ 32) (g.S.Space.size c.has_to_purge.new.s < 2 ^ 32) c.depart.result (g.S.Space.form c.args.s.now) (g.S.Space.form c.has_to_purge.new.s) (g.S.Space.image c.args.s.now) (g.S.Space.image c.has_to_purge.new.s)
    (g.S.Space.image c.depart.new.s) c.args.self.now c.depart.new.self looked.form looked.image (λ small. omega (arith, small, looked.size)) c.depart.ensures.made

pub returns-in-End-clause-knows : goal.returns-in-End-clause-knows
returns-in-End-clause-knows g c =
    let f = g.S.Space.form c.args.s.now in
    let img = g.S.Space.image c.args.s.now in
    let b = g.S.Space.image c.depart.new.s in
    let at = c.args.self.now in
    let looked = c.in_ok-due.ensures.looked in
    let later = c.depart.new.self in
    ok_two c.depart.result (λ turn led made told small hands A knows.
    left_knows f img b hands c.args.goal at later (Done Reply.Ok) turn (dead_of at.place at.stage) knows
    (subst (λ place. LeaveLed (dead_of at.place at.stage) Past place (Done Reply.Ok) later turn) (c.spared-spared.ensures ∙ ap (λ (a : At). spared_of c.args.goal a.place) c.self.view_is) led)
    (moved (λ x i. AcceptWith x i hands → Knows x i at.place at.stage → StepMade x i b hands at later turn) f (g.S.Space.form c.has_to_purge.new.s) img (g.S.Space.image c.has_to_purge.new.s)
    looked.form looked.image (made told (omega (arith, small, looked.size)) hands) A knows))
    c.depart.ensures.led c.depart.ensures.made

pub returns-in_err-due-clause-stopped : goal.returns-in_err-due-clause-stopped
returns-in_err-due-clause-stopped g c = on_err c.from_residual.result (λ told small hands A knows.
    broken_nothing (g.S.Space.form c.args.s.now) (g.S.Space.image c.args.s.now) (g.S.Space.image c.has_to_purge.new.s) (dead_of c.args.self.now.place c.args.self.now.stage) hands A c.has_to_purge.ensures.looked.image)

pub returns-in-Move-clause-stopped : goal.returns-in-Move-clause-stopped
returns-in-Move-clause-stopped g c =
    let looked = c.in_ok-due.ensures.looked in
    broken_then (IsTrue g.S.Space.tells) (g.S.Space.size c.args.s.now < 2 ^ 32) (g.S.Space.size c.has_to_purge.new.s < 2 ^ 32) c.move_turn.result (g.S.Space.form c.args.s.now) (g.S.Space.form c.has_to_purge.new.s) (g.S.Space.image c.args.s.now) (g.S.Space.image c.has_to_purge.new.s)
    (g.S.Space.image c.move_turn.new.s) c.args.self.now looked.form looked.image (λ small. omega (arith, small, looked.size)) c.move_turn.ensures.stopped

pub returns-in-End-clause-stopped : goal.returns-in-End-clause-stopped
returns-in-End-clause-stopped g c =
    let looked = c.in_ok-due.ensures.looked in
    broken_then (IsTrue g.S.Space.tells) (g.S.Space.size c.args.s.now < 2 ^ 32) (g.S.Space.size c.has_to_purge.new.s < 2 ^ 32) c.depart.result (g.S.Space.form c.args.s.now) (g.S.Space.form c.has_to_purge.new.s) (g.S.Space.image c.args.s.now) (g.S.Space.image c.has_to_purge.new.s)
    (g.S.Space.image c.depart.new.s) c.args.self.now looked.form looked.image (λ small. omega (arith, small, looked.size)) c.depart.ensures.stopped
