-- Which calls the lines of plays tell, from play to play.
use Rattle.std.proofs.Common.{◌≡◌, List, [], ◌++◌, Result, Ok, Err, inl, inr, refl, sym}
use Rattle.tdb_disk.specs.History.{History, seen}
use Rattle.tdb_space.specs.Form.{Form, form_of}
use Rattle.tdb_commands.specs.declared.line.Line.{Line}
use Rattle.tdb_commands.specs.declared.options.Options.{Options}
use Rattle.tdb_dump.specs.declared.writer.WriteRefusal.{WriteRefusal}
use Rattle.tdb_log.specs.declared.log.LogRefusal.{LogRefusal}
use Rattle.tdb_open.specs.declared.halt.Fault.TheVariants as F
use Rattle.tdb_openers.specs.Played.{UnlessIo}
use Rattle.tdb_openers.specs.declared.fault.RunFault.{RunFault}
use Rattle.tdb_tool.specs.Calls.{CallsFrom, TellsCalls}
use Rattle.tdb_world.specs.OverFile.{OverFile, moment_of}
use Rattle.tdb_world.specs.Courses.Led.{ToldCalls}
use Rattle.tdb_world.specs.Courses.Scene.{Scene}
use Rattle.tdb_world.proofs.Courses.Calling.{told_join, told_none}
use Rattle.tdb_answer.specs.declared.ending.Unprinted.TheVariants as Rest
use Rattle.tdb_answer.specs.Calls.{TellsCallsSince}
use Rattle.tdb_answer.specs.Playing.{PlaysEnd, UnlessBroken, OnBroken, end_of, run_answer}
use Rattle.tdb_answer.proofs.Coming.{unless_end, unless_sound}

-- what holds unless the disk failed, said of plays and of what their world answers
to_run : (answer : PlaysEnd) (P : Type 0) → UnlessBroken answer P → UnlessIo (run_answer answer) P
to_run (Ok (Ok v)) P p = p
to_run (Ok (Err F.Device)) P p = tt
to_run (Ok (Err F.Memory)) P p = p
to_run (Ok (Err F.Log)) P p = p
to_run (Err Rest.Report) P p = p
to_run (Err Rest.Fault) P p = tt
to_run (Err Rest.Pairs) P p = p
to_run (Err Rest.Files) P p = p

of_run : (answer : PlaysEnd) (P : Type 0) → UnlessIo (run_answer answer) P → UnlessBroken answer P
of_run (Ok (Ok v)) P p = p
of_run (Ok (Err F.Device)) P p = tt
of_run (Ok (Err F.Memory)) P p = p
of_run (Ok (Err F.Log)) P p = p
of_run (Err Rest.Report) P p = p
of_run (Err Rest.Fault) P p = tt
of_run (Err Rest.Pairs) P p = p
of_run (Err Rest.Files) P p = p

-- no play was taken
pub calls_none : (start : Scene) → ToldCalls (moment_of start.over []) (moment_of start.over []) (run_answer (Ok (Ok tt))) []
calls_none start = told_none (moment_of start.over []) (moment_of start.over []) (Ok tt) refl refl refl

-- plays were taken together, and then told
pub calls_of : (a b : OverFile) (first lines added : List Line) (played : Result (Result (Unit {0}) LogRefusal) RunFault) (untold : Result (Unit {0}) WriteRefusal)
    → ToldCalls (moment_of a first) (moment_of b lines) played added → ToldCalls (moment_of a []) (moment_of b []) (run_answer (end_of played untold)) added
calls_of a b first lines added played untold T = record { count = T.count; world = T.world; history = T.history; size = T.size; calls = T.calls; stopped = T.stopped; last = to_run (end_of played untold) _ (unless_end _ played untold T.last) }

-- some were, and then others
pub calls_on : (start mid new : Scene) (answer : PlaysEnd) (front rest : List Line) → ToldCalls (moment_of start.over []) (moment_of mid.over []) (run_answer (Ok (Ok tt))) front
    → ToldCalls (moment_of mid.over []) (moment_of new.over []) (run_answer answer) rest → ToldCalls (moment_of start.over []) (moment_of new.over []) (run_answer answer) (front ++ rest)
calls_on start mid new answer front rest first next = told_join (moment_of start.over []) (moment_of mid.over []) (moment_of new.over []) tt (run_answer answer) front rest first next

-- where the disk is sound the last call left the file
pub calls_over : (old new : Scene) (answer : PlaysEnd) (lines : List Line) (sound : Type 0) → (sound → OnBroken answer ⊥) → ToldCalls (moment_of old.over []) (moment_of new.over []) (run_answer answer) lines
    → CallsFrom old.over.world old.over.history new.over.history old.over.size new.over.size sound lines
calls_over old new answer lines sound unbroken T = record {
  count = T.count;
  last = T.world;
  left = T.history;
  size = T.size;
  calls = T.calls;
  ends = λ so. (let L = unless_sound answer (unbroken so) (of_run answer _ T.last) in (sym L.1, sym L.2));
  stopped = T.stopped;
}

-- what says less often that the disk is sound
pub calls_when : (f : Form) (options : Options) (old now : History) (sound less : Type 0) (lines : List Line) → (less → sound) → TellsCalls f options old now sound lines → TellsCalls f options old now less lines
calls_when f options old now sound less lines to T = record {
  world = T.world;
  form = T.form;
  options = T.options;
  state = T.state;
  just = T.just;
  from = record { count = T.from.count; last = T.from.last; left = T.from.left; size = T.from.size; calls = T.from.calls; ends = λ so. T.from.ends (to so); stopped = T.from.stopped };
}

pub since_when : (options : Options) (old now : History) (sound less : Type 0) (lines : List Line) → (less → sound) → TellsCallsSince options old now sound lines → TellsCallsSince options old now less lines
since_when options old now sound less lines to (inl none) = inl none
since_when options old now sound less lines to (inr (opened, reads, T)) = inr (opened, reads, calls_when (form_of (seen opened)) options opened now sound less lines to T)
