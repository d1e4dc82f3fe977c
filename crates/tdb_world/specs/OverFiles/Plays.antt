-- Plays, what their report tells, and what logs heard of them.
use Rattle.std.specs.Prelude.{List, Bool, Result, Ok, Err, true, false}
use Rattle.tdb_law.specs.Plays.{Course}
use Rattle.tdb_log.specs.Logs.{Logged}
use Rattle.tdb_log.specs.declared.log.LogRefusal.{LogRefusal}
use Rattle.tdb_commands.specs.InLaw.{law_play, law_plays}
use Rattle.tdb_commands.specs.declared.play.Play.{Play}
use Rattle.tdb_openers.specs.Played.{ComesTo}
use Rattle.tdb_openers.specs.declared.fault.RunFault.{RunFault}
use Rattle.tdb_openers.specs.declared.fault.RunFault.TheVariants.{Io, Memory}
use Rattle.tdb_world.specs.Whole.{form_at}
use Rattle.tdb_world.specs.Courses.Hearing.{HeardLed, RunsAsTold}
use Rattle.tdb_world.specs.Courses.Led.{Led, Moment}
use Rattle.tdb_world.specs.Courses.Stops.{StopsLed}
use Rattle.tdb_world.specs.Courses.Told.{PlayLed}

-- what a play, and plays in a row, answer
abbrev pub RunAnswer : Type 0
RunAnswer = Result (Result (Unit {0}) LogRefusal) RunFault

-- whether they broke off because the disk failed
abbrev pub is_io : {V : Type 0} → Result V RunFault → Bool
is_io (Ok v) = false
is_io (Err Memory) = false
is_io (Err Io) = true

-- A play was taken between two moments, with this answer, and the logs heard of it.
pub record TookPlay (tells : Bool) (old new : Moment) (before after : List Logged) (play : Play) (answer : RunAnswer) : Type 0 where
  pub led : PlayLed tells old new answer (law_play play)
  pub stops : StopsLed tells old new answer
  pub heard : HeardLed tells old new before after answer

-- Plays were taken, in their order: all of them, or those in front, of which the next one was begun.
pub record TookPlays (tells : Bool) (old new : Moment) (before after : List Logged) (plays : List Play) (answer : RunAnswer) : Type 0 where
  pub led : Led tells old new answer
      (λ state told. RunsAsTold told (Course (form_at old.world) state (law_plays plays)) (ComesTo (form_at old.world) state (law_plays plays)))
      (λ state. ComesTo (form_at old.world) state (law_plays plays))
      (λ state. ComesTo (form_at old.world) state (law_plays plays))
  pub stops : StopsLed tells old new answer
  pub heard : HeardLed tells old new before after answer
