-- Another opener holds the record's byte for writing; or what was prepared is purged.
use Rattle.std.proofs.Common.{◌≡◌, ◌+◌, ◌<◌, ◌^◌, ℕ, IsTrue, refl, sym, ◌∙◌, ap, subst, arith}
use Rattle.tdb_locks.specs.Refusal.{IsRefusal}
use Rattle.tdb_locks.specs.declared.kind.Kind.TheVariants.{Read}
use Rattle.tdb_locks.specs.declared.turn.Reply.{Reply}
use Rattle.tdb_locks.specs.declared.turn.Turn.{Turn}
use Rattle.tdb_locks.specs.declared.turn.Turn.TheVariants.{Step, Blocked, Done}
use Rattle.tdb_space.specs.Accepted.{AcceptWith}
use Rattle.tdb_walk.specs.Purging.{IsDeadRecord, IsPrepared}
use Rattle.tdb_walk.specs.declared.standing.Standing.TheVariants.{On}
use Rattle.tdb_walk.specs.ByteLocks.{CanHold}
use Rattle.tdb_walk.specs.Cursors.{At, dead_of}
use Rattle.tdb_walk.specs.Cursors.Came.{barred}
use Rattle.tdb_walk.specs.Cursors.WentTo.{held_up}
use Rattle.tdb_walk.specs.Cursors.StepMade.{waits}
use Rattle.tdb_walk.proofs.Making.{purge_made, made_then, purge_broken, broken_then, broken_nothing}
use Rattle.tdb_walk.proofs.Went.{arrived_went, moved_others}
use Rattle.tdb_walk.proofs.Views.{moved}
use Rattle.tdb_space.proofs.Results.{on_err}
use Rattle.tdb_walk.proofs.cursor.Cursor.come_to.Goals as goal

-- two replies of turns that are the same are the same
reply_same : (r : Reply) → ◌≡◌ {A = Turn} (Done r) (Done Reply.Memory) → r ≡ Reply.Memory
reply_same r e = ap reply_or e
  where
    reply_or : Turn → Reply
    reply_or Step = Reply.End
    reply_or (Blocked other byte) = Reply.End
    reply_or (Done reply) = reply

pub returns-in-Err-Conflict-clause-came : goal.returns-in-Err-Conflict-clause-came
returns-in-Err-Conflict-clause-came g c told read filed =
    let e = c.in-Err-Conflict in
    let at = subst (λ (b : ℕ). IsRefusal c.args.locks.now c.args.owner b (b + 1) Read e.field-0) c.from-byte.ensures e.ensures.refused in
    barred e.owner e.byte (λ j. Blocked (e.owner-is j) (e.byte-is j)) refl (record {
      uncovered = sym c.may_read_all.ensures ∙ e.ensures.bare;
      kind = e.field-0-2;
      conflict = subst (IsRefusal c.args.locks.now c.args.owner c.args.live.off (c.args.live.off + 1) Read) e.field-0-is at;
    })

pub returns-in-Err-Conflict-clause-went : goal.returns-in-Err-Conflict-clause-went
returns-in-Err-Conflict-clause-went g c =
    let e = c.in-Err-Conflict in
    held_up e.owner e.byte (λ j. Blocked (e.owner-is j) (e.byte-is j)) refl

pub returns-in-Ok-take_byte-clause-went : goal.returns-in-Ok-take_byte-clause-went
returns-in-Ok-take_byte-clause-went g c =
    let f = g.S.Space.form c.args.s.now in
    let filed = sym c.is_filed.ensures ∙ c.if-not-is_filed.false in
    let granted = subst (λ (b : ℕ). CanHold c.may_read_all.result c.args.locks.now c.args.owner b Read) c.from-byte.ensures c.in-Ok-take_byte.ensures.granted in
    arrived_went f c.args.locks.now c.args.owner c.args.own.now c.args.self.now c.leave.new.self (Done c.in-Ok.pair.0) (g.S.Space.form c.pair_and_key.new.s) c.in-Ok.pair.0 c.in-Ok.pair.1 c.in-Ok.ensures.key.0 c.args.live.chain c.args.live.off
    c.in-Ok.ensures.looked.form refl c.in-Ok.ensures.key.1 filed c.leave.ensures.stands c.requires.within.above (subst (λ r. CanHold r c.args.locks.now c.args.owner c.args.live.off Read) c.may_read_all.ensures granted)

pub returns-in-Ok-take_byte-clause-others : goal.returns-in-Ok-take_byte-clause-others
returns-in-Ok-take_byte-clause-others g c =
    moved_others c.args.own.now c.args.owner c.args.self.now (On c.args.live.chain c.args.live.off) c.may_read_all.result c.from-byte.result c.args.locks.now c.take_byte.new.locks c.leave.new.locks c.in-Ok-take_byte.ensures.taken c.leave.ensures.locks

pub returns-then-not-is_filed-clause-made : goal.returns-then-not-is_filed-clause-made
returns-then-not-is_filed-clause-made g c =
    let looked = c.in-Ok.ensures.looked in
    made_then (IsTrue g.S.Space.tells) (g.S.Space.size c.args.s.now < 2 ^ 32) (g.S.Space.size c.pair_and_key.new.s < 2 ^ 32) c.depart.result (g.S.Space.form c.args.s.now) (g.S.Space.form c.pair_and_key.new.s) (g.S.Space.image c.args.s.now)
    (g.S.Space.image c.pair_and_key.new.s) (g.S.Space.image c.depart.new.s) c.args.self.now c.depart.new.self looked.form looked.image (λ small. omega (arith, small, looked.size)) c.depart.ensures.made

pub returns-in-Err-Conflict-clause-made : goal.returns-in-Err-Conflict-clause-made
returns-in-Err-Conflict-clause-made g c told small hands A knows =
    let e = c.in-Err-Conflict in
    waits e.owner e.byte (λ j. Blocked (e.owner-is j) (e.byte-is j)) refl (c.in-Ok-prepare_purge.ensures.readied.image ∙ c.in-Ok.ensures.looked.image)

pub returns-in-Ok-take_byte-clause-made : goal.returns-in-Ok-take_byte-clause-made
returns-in-Ok-take_byte-clause-made g c told small hands A knows =
    let f = g.S.Space.form c.args.s.now in
    let img = g.S.Space.image c.args.s.now in
    let p = c.in-Ok-prepare_purge.ensures in
    let looked = c.in-Ok.ensures.looked in
    purge_made f (g.S.Space.form c.prepare_purge.new.s) img (g.S.Space.image c.prepare_purge.new.s) (g.S.Space.image c.purge_prepared.new.s) hands c.args.self.now c.leave.new.self _
    c.dead.result c.in-Ok-prepare_purge.dead c.dead.ensures (p.readied.form ∙ looked.form) (p.readied.image ∙ looked.image) (ap (λ (x : At). x.stage) c.leave.ensures.stands) (λ e. (let k : Reply.Pair c.in-Ok.pair.1 c.in-Ok.ensures.key.0 ≡ Reply.Memory = sym c.in-Ok.ensures.key.1 ∙ reply_same c.in-Ok.pair.0 e in cc k))
    (moved (λ x i. AcceptWith x i hands → IsDeadRecord x i c.dead.result → IsPrepared x i c.dead.result c.in-Ok-prepare_purge.dead) f (g.S.Space.form c.pair_and_key.new.s) img (g.S.Space.image c.pair_and_key.new.s) looked.form looked.image (p.found told hands))
    (λ dead B ready. c.in_ok-purge_prepared-in-Ok-take_byte.ensures.purged told (omega (arith, small, p.readied.size, looked.size)) hands B dead ready) A knows

pub returns-in-Err-Io-clause-stopped : goal.returns-in-Err-Io-clause-stopped
returns-in-Err-Io-clause-stopped g c told small hands A knows =
    broken_nothing (g.S.Space.form c.args.s.now) (g.S.Space.image c.args.s.now) (g.S.Space.image c.pair_and_key.new.s) (dead_of c.args.self.now.place c.args.self.now.stage) hands A c.pair_and_key.ensures.looked.image

pub returns-then-not-is_filed-clause-stopped : goal.returns-then-not-is_filed-clause-stopped
returns-then-not-is_filed-clause-stopped g c =
    let looked = c.in-Ok.ensures.looked in
    broken_then (IsTrue g.S.Space.tells) (g.S.Space.size c.args.s.now < 2 ^ 32) (g.S.Space.size c.pair_and_key.new.s < 2 ^ 32) c.depart.result (g.S.Space.form c.args.s.now) (g.S.Space.form c.pair_and_key.new.s) (g.S.Space.image c.args.s.now) (g.S.Space.image c.pair_and_key.new.s)
    (g.S.Space.image c.depart.new.s) c.args.self.now looked.form looked.image (λ small. omega (arith, small, looked.size)) c.depart.ensures.stopped

pub returns-in-Err-Io-prepare_purge-clause-stopped : goal.returns-in-Err-Io-prepare_purge-clause-stopped
returns-in-Err-Io-prepare_purge-clause-stopped g c told small hands A knows =
    broken_nothing (g.S.Space.form c.args.s.now) (g.S.Space.image c.args.s.now) (g.S.Space.image c.prepare_purge.new.s) (dead_of c.args.self.now.place c.args.self.now.stage) hands A (c.prepare_purge.ensures.readied.image ∙ c.in-Ok.ensures.looked.image)

pub returns-in_err-purge_prepared-in-Ok-take_byte-clause-stopped : goal.returns-in_err-purge_prepared-in-Ok-take_byte-clause-stopped
returns-in_err-purge_prepared-in-Ok-take_byte-clause-stopped g c = on_err c.from_residual.result (λ told small hands A knows.
    (let p = c.in-Ok-prepare_purge.ensures in
    let looked = c.in-Ok.ensures.looked in
    purge_broken (g.S.Space.form c.args.s.now) (g.S.Space.form c.prepare_purge.new.s) (g.S.Space.image c.args.s.now) (g.S.Space.image c.prepare_purge.new.s) (g.S.Space.image c.purge_prepared.new.s) hands c.args.self.now
    c.dead.result c.in-Ok-prepare_purge.dead c.dead.ensures (p.readied.form ∙ looked.form) (p.readied.image ∙ looked.image)
    (moved (λ x i. AcceptWith x i hands → IsDeadRecord x i c.dead.result → IsPrepared x i c.dead.result c.in-Ok-prepare_purge.dead) (g.S.Space.form c.args.s.now) (g.S.Space.form c.pair_and_key.new.s) (g.S.Space.image c.args.s.now) (g.S.Space.image c.pair_and_key.new.s) looked.form looked.image (p.found told hands))
    (λ dead B ready. c.in_err-purge_prepared-in-Ok-take_byte.ensures.stopped told (omega (arith, small, p.readied.size, looked.size)) hands B dead ready) A knows))
