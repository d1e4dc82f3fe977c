use Rattle.std.proofs.Common.{◌≡◌, ◌⊎◌, true, Ok}
use Rattle.std.specs.Prelude.{◌≢◌, IsTrue, OnErr}
use Rattle.tdb_disk.specs.Count.{Rose}
use Rattle.tdb_answer.specs.declared.ending.Ending.TheVariants.{Replied}
use Rattle.tdb_answer.specs.declared.ending.Reply.TheVariants.{Played}
use Rattle.tdb_answer.specs.Output.{output_by}
use Rattle.tdb_answer.specs.Input.{input_by}
use Rattle.tdb_answer.specs.Looks.{ending_of}
use Rattle.tdb_answer.specs.Run.{Run, Cause, Answered, RefusesExactly, LeavesFiles, LogsAreTold, Accounted, run_by}
use Rattle.tdb_top.specs.SessionStops.{SessionsStopSafely}
use Rattle.tdb_answer.specs.Stops.{SaysAllLines, TurnsStopSafely}
use Rattle.tdb_answer.proofs.Runs.{Printed, exits, silent_exits, printed_caused, exactly, refuses_exactly, summary_shown, asked_counted, asked_failed, asked_sound, leaves_files, accounted}
use Rattle.tdb_top.proofs.SessionRuns.{session_by}
use Rattle.tdb_top.proofs.SessionsStopped.{held_served}
use Rattle.tdb_answer.proofs.StopsTurning.{line_behind, stops_when}
use Rattle.tdb_top.proofs.Whole.{said_by, unfailed_told, whole_by, zero_played}
use Rattle.tdb_top.proofs.Writing.{written}
use Rattle.tdb_top.proofs.top.run.Goals as goal
use Rattle.tdb_top.proofs.top.run.Goals.{After-finish}

-- the run
abbrev ran : (g : _) (c : After-finish g) → Run
ran g c =
    run_by c.args.words.now (g.F.Files.held c.args.files.now) (g.F.Files.held c.answer-answered.new.files) (g.F.Files.faults c.args.files.now) (g.F.Files.faults c.answer-answered.new.files)
    (input_by g.S.Source.tells (g.S.Source.left c.args.input.now) (g.S.Source.faults c.args.input.now) (g.S.Source.faults c.answer-answered.new.input))
    (output_by g.K.Sink.tells (g.K.Sink.written c.args.output.now) (g.K.Sink.written c.finish.new.output) (g.K.Sink.faults c.args.output.now) (g.K.Sink.faults c.finish.new.output)) c.finish.result.0

-- the ending that is printed has its cause
caused : (g : _) (c : After-finish g) → g.F.D.Disk.tells ≡ true → Cause (ran g c) c.finish.ensures.0
caused g c told =
    printed_caused (ran g c).ask (ran g c).old (ran g c).input (ran g c).faults_before (ran g c).faults_after c.finish.ensures.0 (ending_of c.answer-answered.result) c.finish.ensures.1 (c.answer-answered.ensures.answered.cause told)

-- what was printed
prints : (g : _) (c : After-finish g) → Printed g.F.D.Disk.tells (ran g c) c.finish.ensures.0
prints g c =
    written (ran g c).ask (ran g c).old g.F.D.Disk.tells g.K.Sink.tells (g.K.Sink.written c.args.output.now) (g.K.Sink.written c.answer-answered.new.output) (g.K.Sink.written c.finish.new.output)
    (g.K.Sink.faults c.args.output.now) (g.K.Sink.faults c.answer-answered.new.output) (g.K.Sink.faults c.finish.new.output)
    c.answer-answered.result c.finish.ensures.0 c.finish.result.0 c.finish.ensures.1 c.answer-answered.ensures.answered.began c.answer-answered.ensures.answered.output_cause c.finish.ensures.2

-- it ends in one way, which has its cause
answers : (g : _) (c : After-finish g) → Answered g.F.D.Disk.tells (ran g c)
answers g c =
    record {
      ending = c.finish.ensures.0;
      printed = prints g c;
      cause = λ told. caused g c told;
      exact = λ told. exactly (ran g c) c.finish.ensures.0 (caused g c told) g.F.D.Disk.tells (prints g c);
    }

-- what is refused
refuses : (g : _) (c : After-finish g) → IsTrue g.F.D.Disk.tells → RefusesExactly (ran g c)
refuses g c told =
    refuses_exactly (ran g c) c.finish.ensures.0 (caused g c told) g.F.D.Disk.tells (prints g c)

-- what it leaves of the files
leaves : (g : _) (c : After-finish g) → IsTrue g.F.D.Disk.tells → LeavesFiles (ran g c) (g.L.Logs.logs c.args.logs.now) (g.L.Logs.logs c.answer-answered.new.logs)
leaves g c told =
    leaves_files (ran g c) (g.L.Logs.logs c.args.logs.now) (g.L.Logs.logs c.answer-answered.new.logs) (ending_of c.answer-answered.result) (exits g.F.D.Disk.tells (ran g c) c.finish.ensures.0 (ending_of c.answer-answered.result) c.finish.ensures.1 (prints g c))
    (asked_counted g.F.D.Disk.tells (ran g c).ask (ran g c).faults_before (ran g c).faults_after (ending_of c.answer-answered.result) told c.answer-answered.ensures.answered.counted)
    (silent_exits g.F.D.Disk.tells (ran g c) c.finish.ensures.0 (ending_of c.answer-answered.result) c.finish.ensures.1 (prints g c)) (c.answer-answered.ensures.answered.left told)
    (λ options name old now asks there left zero.
    (let r = ran g c in
    whole_by options r.input g.K.Sink.tells (g.K.Sink.written c.args.output.now) (g.K.Sink.written c.answer-answered.new.output) (g.K.Sink.written c.finish.new.output)
    (g.K.Sink.faults c.args.output.now) (g.K.Sink.faults c.answer-answered.new.output) (g.K.Sink.faults c.finish.new.output) (g.L.Logs.logs c.args.logs.now) (g.L.Logs.logs c.answer-answered.new.logs)
    r.ask name r.old r.now r.faults_before r.faults_after c.answer-answered.result c.finish.ensures.0 c.finish.result.0 asks (c.answer-answered.ensures.answered.cause told) c.finish.ensures.1 c.finish.ensures.2 zero
    (λ is. c.answer-answered.ensures.answered.played options name asks told is) old now there left))
    (λ limit name old now asks there left.
    (let r = ran g c in
    session_by limit r.input g.K.Sink.tells (g.K.Sink.written c.args.output.now) (g.K.Sink.written c.answer-answered.new.output) (g.K.Sink.written c.finish.new.output)
    (g.K.Sink.faults c.args.output.now) (g.K.Sink.faults c.answer-answered.new.output) (g.K.Sink.faults c.finish.new.output)
    r.faults_before r.faults_after c.finish.ensures.0 c.finish.result.0 c.answer-answered.result c.finish.ensures.1 c.finish.ensures.2
    (asked_counted g.F.D.Disk.tells r.ask r.faults_before r.faults_after (ending_of c.answer-answered.result) told c.answer-answered.ensures.answered.counted)
    (exits g.F.D.Disk.tells r c.finish.ensures.0 (ending_of c.answer-answered.result) c.finish.ensures.1 (prints g c))
    (r.old name) (r.now name) (g.L.Logs.logs c.args.logs.now) (g.L.Logs.logs c.answer-answered.new.logs) (c.answer-answered.ensures.answered.served limit name asks told) old now there left))
    (λ commands seed name text. summary_shown g.F.D.Disk.tells (ran g c) c.finish.ensures.0 (ending_of c.answer-answered.result) commands seed name text c.finish.ensures.1 (prints g c))

-- what stops in turns leave
turns_stop : (g : _) (c : After-finish g) → IsTrue g.F.D.Disk.tells → TurnsStopSafely (ran g c)
turns_stop g c told options name asks =
    let r = ran g c in
    let first = g.K.Sink.written c.args.output.now in
    let text = g.K.Sink.written c.answer-answered.new.output in
    let last = g.K.Sink.written c.finish.new.output in
    let f1 = g.K.Sink.faults c.answer-answered.new.output in
    let f2 = g.K.Sink.faults c.finish.new.output in
    let answered = c.answer-answered.result in
    let zero : r.status ≡ 0 → (answered ≡ Ok (Replied Played)) × (IsTrue g.K.Sink.tells → last ≡ text) =
    zero_played options r.input g.K.Sink.tells first text last (g.K.Sink.faults c.args.output.now) f1 f2 r.ask name r.old r.faults_before r.faults_after answered c.finish.ensures.0 c.finish.result.0
    asks (c.answer-answered.ensures.answered.cause told) c.finish.ensures.1 c.finish.ensures.2 in
    let said : (r.status ≡ 0) ⊎ (r.status ≡ 10) → SaysAllLines answered =
    said_by g.K.Sink.tells text last f1 f2 answered c.finish.ensures.0 c.finish.result.0 c.finish.ensures.1 c.finish.ensures.2 (λ is. (zero is).0) in
    let stops = c.answer-answered.ensures.answered.stops options name asks told in
    let sound : Type 0 = Rose r.faults_before r.faults_after → ⊥ in (
      text,
      line_behind g.K.Sink.tells text last f1 f2 answered c.finish.ensures.0 c.finish.result.0 c.finish.ensures.2,
      λ is. (zero is).1,
      (
        stops.0,
        stops.1,
        stops_when options stops.0 (r.old name) (r.now name) g.K.Sink.tells (SaysAllLines answered) (OnErr answered ⊥) sound ((r.status ≡ 0) ⊎ (r.status ≡ 10)) (r.status ≢ 8) sound first text said
            (unfailed_told g.K.Sink.tells text last f1 f2 answered c.finish.ensures.0 c.finish.result.0 c.finish.ensures.2) (λ so. so) stops.2,
      ),
    )

-- what stops in a session leave
sessions_stop : (g : _) (c : After-finish g) → IsTrue g.F.D.Disk.tells → SessionsStopSafely (ran g c)
sessions_stop g c told limit name asks =
    let r = ran g c in
    let counted = asked_counted g.F.D.Disk.tells r.ask r.faults_before r.faults_after (ending_of c.answer-answered.result) told c.answer-answered.ensures.answered.counted in
    let text = g.K.Sink.written c.answer-answered.new.output in (
      text,
      line_behind g.K.Sink.tells text (g.K.Sink.written c.finish.new.output) (g.K.Sink.faults c.answer-answered.new.output) (g.K.Sink.faults c.finish.new.output) c.answer-answered.result c.finish.ensures.0 c.finish.result.0 c.finish.ensures.2,
      held_served limit r.input g.K.Sink.tells (Rose r.faults_before r.faults_after → ⊥) (g.K.Sink.written c.args.output.now) text (g.L.Logs.logs c.args.logs.now) (g.L.Logs.logs c.answer-answered.new.logs) c.answer-answered.result (λ sound is. sound (counted.failed is)) (r.old name) (r.now name) (c.answer-answered.ensures.answered.served limit name asks told),
    )

-- what the logs hear
tells_logs : (g : _) (c : After-finish g) → IsTrue g.F.D.Disk.tells → LogsAreTold (ran g c) (g.L.Logs.logs c.args.logs.now) (g.L.Logs.logs c.answer-answered.new.logs)
tells_logs g c told =
    record {
      ending = ending_of c.answer-answered.result;
      exits = exits g.F.D.Disk.tells (ran g c) c.finish.ensures.0 (ending_of c.answer-answered.result) c.finish.ensures.1 (prints g c);
      heard = c.answer-answered.ensures.answered.told told;
    }

-- what its status tells
accounts : (g : _) (c : After-finish g) → Accounted (ran g c)
accounts g c =
    accounted g.F.D.Disk.tells (ran g c) c.finish.ensures.0 (ending_of c.answer-answered.result) c.finish.ensures.1 (prints g c)
    (asked_failed g.F.D.Disk.tells (ran g c).ask (ran g c).faults_before (ran g c).faults_after (ending_of c.answer-answered.result) c.answer-answered.ensures.answered.counted)
    (asked_sound g.F.D.Disk.tells (ran g c).ask (ran g c).faults_before (ran g c).faults_after (ending_of c.answer-answered.result) c.answer-answered.ensures.answered.counted) c.answer-answered.ensures.answered.usage c.answer-answered.ensures.answered.usage_exact
    c.answer-answered.ensures.answered.heard c.answer-answered.ensures.answered.unread

pub returns-clause-ran : goal.returns-clause-ran
returns-clause-ran g c =
    let a = (goal.at.returns-clause-ran g c).After-finish in
    record {
      answered = answers g a;
      refused = refuses g a;
      left = leaves g a;
      stops = turns_stop g a;
      stopped = sessions_stop g a;
      told = tells_logs g a;
      accounted = accounts g a;
    }

pub returns-clause-input_untouched : goal.returns-clause-input_untouched
returns-clause-input_untouched g c unread = c.answer-answered.ensures.input_untouched unread
