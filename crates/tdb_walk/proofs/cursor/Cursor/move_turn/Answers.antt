-- Where a move comes to, and what becomes of the image.
use Rattle.std.proofs.Common.{◌≡◌, ◌<◌, ◌^◌, IsTrue, refl, subst, arith}
use Rattle.tdb_words.specs.Record.{rec_at}
use Rattle.tdb_space.specs.Record.{key_at}
use Rattle.tdb_space.specs.Pairs.{home}
use Rattle.tdb_walk.specs.NextLive.{place_of}
use Rattle.tdb_walk.specs.Way.{IsWay, next_chain}
use Rattle.tdb_walk.specs.Cursors.{Came, WentTo, dead_of}
use Rattle.tdb_walk.specs.Cursors.MoveLed.{comes, stops}
use Rattle.tdb_walk.proofs.Views.{moved}
use Rattle.tdb_walk.proofs.Turns.{came_then, header_met, ok_more}
use Rattle.tdb_walk.proofs.Coming.{met_filed}
use Rattle.tdb_walk.proofs.Went.{went_then, stopped_went, ended_went}
use Rattle.tdb_walk.proofs.Making.{made_then, broken_then, broken_nothing, stopped_led}
use Rattle.tdb_walk.proofs.cursor.Cursor.move_turn.Goals as goal

pub returns-in-Ok-Met-clause-moved : goal.returns-in-Ok-Met-clause-moved
returns-in-Ok-Met-clause-moved g c =
    let f = g.S.Space.form c.args.s.now in
    let img = g.S.Space.image c.args.s.now in
    let at = c.args.self.now in
    let from = c.args.from in
    let live = c.in-Ok-Met.live in
    let looked = c.in-Ok-Met.ensures.looked in
    ok_more c.come_to.result (λ turn came told hands A stands.
    (let way = subst (IsWay f img c.args.locks.now c.args.owner c.args.own.now (place_of from) (next_chain f from)) c.in-Ok-Met.field-0-is (c.in-Ok-Met.ensures.way told hands A stands) in
    let there = moved (λ x i. live.rec ≡ rec_at x.order i live.off → home x (key_at x.order i live.off) ≡ live.chain → Came x i c.move_on.new.locks c.args.owner c.args.own.now live at c.come_to.new.self turn) f (g.S.Space.form c.move_on.new.s) img (g.S.Space.image c.move_on.new.s) looked.form looked.image
    (came told) in
    comes live way (came_then f img c.args.locks.now c.move_on.new.locks c.args.owner c.args.own.now live at c.come_to.new.self turn c.in-Ok-Met.ensures.locks
    (there (header_met f img (place_of from) live way.0) (met_filed f img hands (place_of from) live A way.0)))))
    c.come_to.ensures.came

pub returns-in-Ok-Met-clause-went : goal.returns-in-Ok-Met-clause-went
returns-in-Ok-Met-clause-went g c =
    ok_more c.come_to.result (λ turn went.
    subst (λ h. WentTo h c.args.locks.now c.args.owner c.args.own.now c.args.self.now c.come_to.new.self turn) c.in-Ok-Met.ensures.looked.form
    (went_then (g.S.Space.form c.move_on.new.s) c.args.locks.now c.move_on.new.locks c.args.owner c.args.own.now c.args.self.now c.come_to.new.self turn c.in-Ok-Met.ensures.locks went))
    c.come_to.ensures.went

pub returns-in-Ok-Blocked-clause-went : goal.returns-in-Ok-Blocked-clause-went
returns-in-Ok-Blocked-clause-went g c =
    let at = c.args.self.now in
    let b = c.in-Ok-Blocked in
    ok_more c.depart.result (λ turn led. stopped_went (g.S.Space.form c.args.s.now) c.args.locks.now c.args.owner c.args.own.now at c.depart.new.self turn (dead_of at.place at.stage) b.chain b.other b.byte led) c.depart.ensures.led

pub returns-in-Ok-End-clause-went : goal.returns-in-Ok-End-clause-went
returns-in-Ok-End-clause-went g c =
    let at = c.args.self.now in
    ok_more c.depart-in-Ok-End.result (λ turn led. ended_went (g.S.Space.form c.args.s.now) c.args.locks.now c.args.owner c.args.own.now at c.depart-in-Ok-End.new.self turn (dead_of at.place at.stage) led) c.depart-in-Ok-End.ensures.led

pub returns-in-Ok-Met-clause-made : goal.returns-in-Ok-Met-clause-made
returns-in-Ok-Met-clause-made g c =
    let looked = c.in-Ok-Met.ensures.looked in
    made_then (IsTrue g.S.Space.tells) (g.S.Space.size c.args.s.now < 2 ^ 32) (g.S.Space.size c.move_on.new.s < 2 ^ 32) c.come_to.result (g.S.Space.form c.args.s.now) (g.S.Space.form c.move_on.new.s) (g.S.Space.image c.args.s.now) (g.S.Space.image c.move_on.new.s)
    (g.S.Space.image c.come_to.new.s) c.args.self.now c.come_to.new.self looked.form looked.image (λ small. omega (arith, small, looked.size)) c.come_to.ensures.made

pub returns-in-Ok-Blocked-clause-moved : goal.returns-in-Ok-Blocked-clause-moved
returns-in-Ok-Blocked-clause-moved g c =
    let f = g.S.Space.form c.args.s.now in
    let img = g.S.Space.image c.args.s.now in
    let at = c.args.self.now in
    let from = c.args.from in
    let b = c.in-Ok-Blocked in
    ok_more c.depart.result (λ turn led told hands A stands.
    stopped_led f img c.args.locks.now c.args.owner c.args.own.now from at c.depart.new.self turn (dead_of at.place at.stage) b.chain b.other b.byte
    (stops b.chain b.other b.byte (subst (IsWay f img c.args.locks.now c.args.owner c.args.own.now (place_of from) (next_chain f from)) b.field-0-is (b.ensures.way told hands A stands)) refl refl) led)
    c.depart.ensures.led

pub returns-in-Ok-Blocked-clause-made : goal.returns-in-Ok-Blocked-clause-made
returns-in-Ok-Blocked-clause-made g c =
    let looked = c.in-Ok-Blocked.ensures.looked in
    made_then (IsTrue g.S.Space.tells) (g.S.Space.size c.args.s.now < 2 ^ 32) (g.S.Space.size c.move_on.new.s < 2 ^ 32) c.depart.result (g.S.Space.form c.args.s.now) (g.S.Space.form c.move_on.new.s) (g.S.Space.image c.args.s.now) (g.S.Space.image c.move_on.new.s)
    (g.S.Space.image c.depart.new.s) c.args.self.now c.depart.new.self looked.form looked.image (λ small. omega (arith, small, looked.size)) c.depart.ensures.made

pub returns-in-Ok-End-clause-made : goal.returns-in-Ok-End-clause-made
returns-in-Ok-End-clause-made g c =
    let looked = c.in-Ok-End.ensures.looked in
    made_then (IsTrue g.S.Space.tells) (g.S.Space.size c.args.s.now < 2 ^ 32) (g.S.Space.size c.move_on.new.s < 2 ^ 32) c.depart-in-Ok-End.result (g.S.Space.form c.args.s.now) (g.S.Space.form c.move_on.new.s) (g.S.Space.image c.args.s.now) (g.S.Space.image c.move_on.new.s)
    (g.S.Space.image c.depart-in-Ok-End.new.s) c.args.self.now c.depart-in-Ok-End.new.self looked.form looked.image (λ small. omega (arith, small, looked.size)) c.depart-in-Ok-End.ensures.made

pub returns-in-Ok-Met-clause-stopped : goal.returns-in-Ok-Met-clause-stopped
returns-in-Ok-Met-clause-stopped g c =
    let looked = c.in-Ok-Met.ensures.looked in
    broken_then (IsTrue g.S.Space.tells) (g.S.Space.size c.args.s.now < 2 ^ 32) (g.S.Space.size c.move_on.new.s < 2 ^ 32) c.come_to.result (g.S.Space.form c.args.s.now) (g.S.Space.form c.move_on.new.s) (g.S.Space.image c.args.s.now) (g.S.Space.image c.move_on.new.s)
    (g.S.Space.image c.come_to.new.s) c.args.self.now looked.form looked.image (λ small. omega (arith, small, looked.size)) c.come_to.ensures.stopped

pub returns-in-Ok-Blocked-clause-stopped : goal.returns-in-Ok-Blocked-clause-stopped
returns-in-Ok-Blocked-clause-stopped g c =
    let looked = c.in-Ok-Blocked.ensures.looked in
    broken_then (IsTrue g.S.Space.tells) (g.S.Space.size c.args.s.now < 2 ^ 32) (g.S.Space.size c.move_on.new.s < 2 ^ 32) c.depart.result (g.S.Space.form c.args.s.now) (g.S.Space.form c.move_on.new.s) (g.S.Space.image c.args.s.now) (g.S.Space.image c.move_on.new.s)
    (g.S.Space.image c.depart.new.s) c.args.self.now looked.form looked.image (λ small. omega (arith, small, looked.size)) c.depart.ensures.stopped

pub returns-in-Ok-End-clause-stopped : goal.returns-in-Ok-End-clause-stopped
returns-in-Ok-End-clause-stopped g c =
    let looked = c.in-Ok-End.ensures.looked in
    broken_then (IsTrue g.S.Space.tells) (g.S.Space.size c.args.s.now < 2 ^ 32) (g.S.Space.size c.move_on.new.s < 2 ^ 32) c.depart-in-Ok-End.result (g.S.Space.form c.args.s.now) (g.S.Space.form c.move_on.new.s) (g.S.Space.image c.args.s.now) (g.S.Space.image c.move_on.new.s)
    (g.S.Space.image c.depart-in-Ok-End.new.s) c.args.self.now looked.form looked.image (λ small. omega (arith, small, looked.size)) c.depart-in-Ok-End.ensures.stopped

pub returns-in-Err-Io-clause-stopped : goal.returns-in-Err-Io-clause-stopped
returns-in-Err-Io-clause-stopped g c told small hands A knows =
    broken_nothing (g.S.Space.form c.args.s.now) (g.S.Space.image c.args.s.now) (g.S.Space.image c.move_on.new.s) (dead_of c.args.self.now.place c.args.self.now.stage) hands A c.move_on.ensures.looked.image
