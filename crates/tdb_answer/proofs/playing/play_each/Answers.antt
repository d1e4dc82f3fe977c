use Rattle.std.proofs.Common.{◌≡◌, ◌+◌, ◌-◌, ◌++◌, ◌∙◌, List, take, drop, Ok, Err, refl, ap, subst}
use Rattle.std.proofs.lemmas.List.{take_all}
use Rattle.std.proofs.lemmas.Result.{err_from_is_err_and}
use Rattle.tdb_space.specs.Form.{form_in}
use Rattle.tdb_commands.specs.declared.play.Play.{Play}
use Rattle.tdb_world.specs.Courses.Scene.{Scene, scene}
use Rattle.tdb_answer.specs.Playing.{Ran, PlaysEnd}
use Rattle.tdb_answer.specs.Stops.{StopsTold}
use Rattle.tdb_answer.proofs.Stopping.{stops_none, stops_on, stops_more}
use Rattle.tdb_answer.proofs.Coming.{ran_none, ran_on, ran_off, next_slice, slice_more}
use Rattle.tdb_answer.proofs.playing.play_each.Goals as goal
use Rattle.tdb_answer.proofs.playing.play_each.Goals.{After-play_some}

pub play_some-requires-clause-unspent : goal.play_some-requires-clause-unspent
play_some-requires-clause-unspent g c = c.loop-i.invariant.ran.unspent

-- none was taken, and all were
pub loop-i-init : goal.loop-i-init
loop-i-init g c = record {
  ran = ran_none g.D.Disk.tells g.K.Sink.tells (scene c.args.world.now (g.K.Sink.written c.args.output.now) (g.L.Logs.logs c.args.logs.now)) c.requires.unspent;
  stops = stops_none g.D.Disk.tells g.K.Sink.tells
      (scene c.args.world.now (g.K.Sink.written c.args.output.now) (g.L.Logs.logs c.args.logs.now));
  out = refl;
}

pub returns-clause-ran : goal.returns-clause-ran
returns-clause-ran g c =
    subst (λ ps. Ran g.D.Disk.tells g.K.Sink.tells (scene c.args.world.now (g.K.Sink.written c.args.output.now) (g.L.Logs.logs c.args.logs.now))
    (scene c.loop-i.world (g.K.Sink.written c.loop-i.output) (g.L.Logs.logs c.loop-i.logs)) ps (Ok (Ok tt)))
    (take_all c.loop-i.i c.args.plays.now c.loop-i-test.false) c.loop-i.invariant.ran

-- before all plays, before the next one, and after it
abbrev start : (g : _) (c : After-play_some g) → Scene
start g c = scene c.args.world.now (g.K.Sink.written c.args.output.now) (g.L.Logs.logs c.args.logs.now)

abbrev mid : (g : _) (c : After-play_some g) → Scene
mid g c = scene c.loop-i.world (g.K.Sink.written c.loop-i.output) (g.L.Logs.logs c.loop-i.logs)

abbrev last : (g : _) (c : After-play_some g) → Scene
last g c = scene c.play_some.new.world (g.K.Sink.written c.play_some.new.output) (g.L.Logs.logs c.play_some.new.logs)

-- the next one
abbrev next : (g : _) (c : After-play_some g) → List Play
next g c = take (c.loop-i.i + 1 - c.loop-i.i) (drop c.loop-i.i c.args.plays.now)

-- they broke off
broken : (g : _) (c : After-play_some g) (answer : PlaysEnd) → (answer ≡ Ok (Ok tt) → ⊥)
    → Ran g.D.Disk.tells g.K.Sink.tells (mid g c) (last g c) (next g c) answer → Ran g.D.Disk.tells g.K.Sink.tells (start g c) (last g c) c.args.plays.now answer
broken g c answer other more =
    subst (λ ps. Ran g.D.Disk.tells g.K.Sink.tells (start g c) (last g c) ps answer) (next_slice c.args.plays.now c.loop-i.i)
    (ran_off g.D.Disk.tells g.K.Sink.tells (start g c) (mid g c) (last g c) (take c.loop-i.i c.args.plays.now) (next g c) c.loop-i.invariant.ran (drop (c.loop-i.i + 1) c.args.plays.now) answer other more)

-- what stops leave of them, up to the next one
stopped : (g : _) (c : After-play_some g) (answer : PlaysEnd) → StopsTold g.D.Disk.tells g.K.Sink.tells (mid g c) (last g c) (next g c) answer
    → StopsTold g.D.Disk.tells g.K.Sink.tells (start g c) (last g c) (take c.loop-i.i c.args.plays.now ++ next g c) answer
stopped g c answer more =
    stops_on g.D.Disk.tells g.K.Sink.tells (start g c) (mid g c) (last g c) (take c.loop-i.i c.args.plays.now) (next g c) (ap form_in c.loop-i.invariant.ran.header) answer c.loop-i.invariant.stops more

-- and where they broke off
stopped_off : (g : _) (c : After-play_some g) (answer : PlaysEnd) → (answer ≡ Ok (Ok tt) → ⊥) → StopsTold g.D.Disk.tells g.K.Sink.tells (mid g c) (last g c) (next g c) answer
    → StopsTold g.D.Disk.tells g.K.Sink.tells (start g c) (last g c) c.args.plays.now answer
stopped_off g c answer other more =
    subst (λ ps. StopsTold g.D.Disk.tells g.K.Sink.tells (start g c) (last g c) ps answer) (next_slice c.args.plays.now c.loop-i.i)
    (stops_more g.D.Disk.tells g.K.Sink.tells (start g c) (last g c) (take c.loop-i.i c.args.plays.now ++ next g c) (drop (c.loop-i.i + 1) c.args.plays.now) answer other (stopped g c answer more))

pub returns-in_err-play_some-clause-stops : goal.returns-in_err-play_some-clause-stops
returns-in_err-play_some-clause-stops g c =
    let q = err_from_is_err_and c.from_residual.result c.from_residual.ensures.1 in
    rw (q.1, q.2)
    (stopped_off g ((goal.at.returns-in_err-play_some-clause-stops g c).After-play_some) (Err c.in_err-play_some.field-0.0) (λ is. cc) c.in_err-play_some.ensures.stops)

pub returns-in-Err-clause-stops : goal.returns-in-Err-clause-stops
returns-in-Err-clause-stops g c =
    let a = (goal.at.returns-in-Err-clause-stops g c).After-play_some in
    stopped_off g a (Ok (Err c.in-Err.fault)) (λ is. cc) (subst (λ r. StopsTold g.D.Disk.tells g.K.Sink.tells (mid g a) (last g a) (next g a) (Ok r)) c.in-Err.is c.in_ok-play_some.ensures.stops)

pub returns-clause-stops : goal.returns-clause-stops
returns-clause-stops g c =
    subst (λ ps. StopsTold g.D.Disk.tells g.K.Sink.tells (scene c.args.world.now (g.K.Sink.written c.args.output.now) (g.L.Logs.logs c.args.logs.now))
    (scene c.loop-i.world (g.K.Sink.written c.loop-i.output) (g.L.Logs.logs c.loop-i.logs)) ps (Ok (Ok tt)))
    (take_all c.loop-i.i c.args.plays.now c.loop-i-test.false) c.loop-i.invariant.stops

pub returns-in_err-play_some-clause-ran : goal.returns-in_err-play_some-clause-ran
returns-in_err-play_some-clause-ran g c =
    let q = err_from_is_err_and c.from_residual.result c.from_residual.ensures.1 in
    rw (q.1, q.2)
    (broken g ((goal.at.returns-in_err-play_some-clause-ran g c).After-play_some) (Err c.in_err-play_some.field-0.0) (λ is. cc) c.in_err-play_some.ensures.ran)

pub returns-in-Err-clause-ran : goal.returns-in-Err-clause-ran
returns-in-Err-clause-ran g c =
    let a = (goal.at.returns-in-Err-clause-ran g c).After-play_some in
    broken g a (Ok (Err c.in-Err.fault)) (λ is. cc)
    (subst (λ r. Ran g.D.Disk.tells g.K.Sink.tells (mid g a) (last g a) (next g a) (Ok r)) c.in-Err.is c.in_ok-play_some.ensures.ran)

-- the next one was taken
pub loop-i-preserved : goal.loop-i-preserved
loop-i-preserved g c =
    let a = (goal.at.loop-i-preserved g c).After-play_some in
    record {
      ran = subst (λ ps. Ran g.D.Disk.tells g.K.Sink.tells (start g a) (last g a) ps (Ok (Ok tt))) (slice_more c.args.plays.now c.loop-i.i)
          (ran_on g.D.Disk.tells g.K.Sink.tells (start g a) (mid g a) (last g a) (take c.loop-i.i c.args.plays.now) (next g a) c.loop-i.invariant.ran
          (subst (λ r. Ran g.D.Disk.tells g.K.Sink.tells (mid g a) (last g a) (next g a) (Ok r)) c.in-Ok.is c.in_ok-play_some.ensures.ran));
      stops = subst (λ ps. StopsTold g.D.Disk.tells g.K.Sink.tells (start g a) (last g a) ps (Ok (Ok tt))) (slice_more c.args.plays.now c.loop-i.i)
          (stopped g a (Ok (Ok tt)) (subst (λ r. StopsTold g.D.Disk.tells g.K.Sink.tells (mid g a) (last g a) (next g a) (Ok r)) c.in-Ok.is c.in_ok-play_some.ensures.stops));
      out = c.in_ok-play_some.ensures.cause.done ∙ c.loop-i.invariant.out;
    }
