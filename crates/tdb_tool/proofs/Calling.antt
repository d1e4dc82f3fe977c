-- Which calls the lines of a session tell, from part to part.
use Rattle.std.proofs.Common.{◌≡◌, List, [], ◌++◌, Option, None, Some, Result, Ok, Err, false, refl, sym}
use Rattle.std.proofs.lemmas.Bool.{true≢false}
use Rattle.tdb_commands.specs.declared.line.Line.{Line}
use Rattle.tdb_openers.specs.Played.{UnlessIo}
use Rattle.tdb_openers.specs.declared.fault.RunFault.{RunFault}
use Rattle.tdb_world.specs.OverFile.{OverFile, moment_of}
use Rattle.tdb_world.specs.Courses.Led.{ToldCalls}
use Rattle.tdb_world.specs.Courses.Scene.{Scene, scene}
use Rattle.tdb_world.proofs.Courses.Calling.{told_join, told_none}
use Rattle.tdb_tool.specs.declared.fault.SessionFault.{SessionFault}
use Rattle.tdb_tool.specs.declared.fault.SessionFault.TheVariants as F
use Rattle.tdb_tool.specs.Calls.{CallsFrom}
use Rattle.tdb_tool.specs.Serving.{is_broken, run_answer, CallsBetween, UnlessBroken}

-- what holds unless the disk failed, where it didn't
pub unless_whole : {A : Type 0} (answer : Option SessionFault) → is_broken answer ≡ false → UnlessBroken answer A → A
unless_whole None whole a = a
unless_whole (Some F.Input) whole a = a
unless_whole (Some F.Output) whole a = a
unless_whole (Some F.Device) whole a = absurd (true≢false whole)
unless_whole (Some F.Log) whole a = a
unless_whole (Some F.Memory) whole a = a

-- said of a session, and of what its world answers
to_run : (answer : Option SessionFault) (P : Type 0) → UnlessBroken answer P → UnlessIo (run_answer answer) P
to_run None P p = p
to_run (Some F.Input) P p = p
to_run (Some F.Output) P p = p
to_run (Some F.Device) P p = tt
to_run (Some F.Log) P p = p
to_run (Some F.Memory) P p = p

of_run : (answer : Option SessionFault) (P : Type 0) → UnlessIo (run_answer answer) P → UnlessBroken answer P
of_run None P p = p
of_run (Some F.Input) P p = p
of_run (Some F.Output) P p = p
of_run (Some F.Device) P p = tt
of_run (Some F.Log) P p = p
of_run (Some F.Memory) P p = p

-- the lines of plays tell the same calls as a part of a session
pub calls_taken : {V : Type 0} (a b : OverFile) (first lines added : List Line) (r : Result V RunFault) (answer : Option SessionFault) → ((P : Type 0) → UnlessIo r P → UnlessBroken answer P)
    → ToldCalls (moment_of a first) (moment_of b lines) r added → ToldCalls (moment_of a []) (moment_of b []) (run_answer answer) added
calls_taken a b first lines added r answer moved T = record { count = T.count; world = T.world; history = T.history; size = T.size; calls = T.calls; stopped = T.stopped; last = to_run answer _ (moved _ T.last) }

module _ (old new : Scene) where
  -- and so they do whatever broke off
  pub calls_as : (answer other : Option SessionFault) → ((A : Type 0) → UnlessBroken answer A → UnlessBroken other A) → (lines : List Line) → CallsBetween old new answer lines → CallsBetween old new other lines
  calls_as answer other moved lines T = record { count = T.count; world = T.world; history = T.history; size = T.size; calls = T.calls; stopped = T.stopped; last = to_run other _ (moved _ (of_run answer _ T.last)) }

  -- the calls of a session; unless the disk failed the last of them left the file
  pub calls_from : (answer : Option SessionFault) (lines : List Line) → CallsBetween old new answer lines
      → CallsFrom old.over.world old.over.history new.over.history old.over.size new.over.size (is_broken answer ≡ false) lines
  calls_from answer lines T = record {
    count = T.count;
    last = T.world;
    left = T.history;
    size = T.size;
    calls = T.calls;
    ends = λ sound. (let L = unless_whole answer sound (of_run answer _ T.last) in (sym L.1, sym L.2));
    stopped = T.stopped;
  }

-- nothing was done
pub calls_none : (start : Scene) → CallsBetween start start None []
calls_none start = told_none (moment_of start.over []) (moment_of start.over []) (Ok tt) refl refl refl

-- something was, and then something else
pub calls_after : (start mid new : Scene) (answer : Option SessionFault) (front rest : List Line) → CallsBetween start mid None front → CallsBetween mid new answer rest → CallsBetween start new answer (front ++ rest)
calls_after start mid new answer front rest first next = told_join (moment_of start.over []) (moment_of mid.over []) (moment_of new.over []) tt (run_answer answer) front rest first next
