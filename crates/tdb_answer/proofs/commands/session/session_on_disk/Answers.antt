use Rattle.std.proofs.Common.{◌∙◌, Ok, Err, refl, sym, subst}
use Rattle.tdb_disk.specs.History.{seen}
use Rattle.tdb_space.specs.Form.{Form}
use Rattle.tdb_commands.specs.declared.options.Options.{Options}
use Rattle.tdb_tool.specs.Whole.{SessionRan}
use Rattle.tdb_answer.specs.Commands.Session.{SessionFile, file_unopened, session_ran}
use Rattle.tdb_open.specs.Loading.{OpensToTurn, IsOpened, TurnOpeningHeard, OpenedToTurn}
use Rattle.tdb_answer.specs.Input.{input_by}
use Rattle.tdb_check.specs.Report.{Counted}
use Rattle.tdb_answer.specs.Ending.{CountedIf}
use Rattle.tdb_answer.specs.Looks.{ending_of}
use Rattle.tdb_answer.proofs.Faults.{session_counted}
use Rattle.tdb_answer.proofs.Sessions.{unopened_heard}
use Rattle.tdb_answer.proofs.commands.session.session_on_disk.Goals as goal

-- it wasn't opened, and the disk came back with the refusal
pub returns-in-Err-clause-served : goal.returns-in-Err-clause-served
returns-in-Err-clause-served g c told =
    let old = g.D.Disk.history c.args.disk in
    let now = g.D.Disk.history c.in-Err.disk in
    let w = g.K.Sink.written c.args.output.now in
    let n = g.S.Source.faults c.args.input.now in
    let logs = g.L.Logs.logs c.args.logs.now in
    let later = g.L.Logs.logs c.load.new.logs in
    let is = c.options_within-options.ensures in
    let H = c.in-Err.ensures.halted in
    subst (λ e. SessionFile c.args.limit (input_by g.S.Source.tells (g.S.Source.left c.args.input.now) n n) old now g.K.Sink.tells w w logs later (Ok e)) (sym c.from.ensures)
    (file_unopened c.in-Err.halt (subst (λ o. OpenedToTurn o old now (Err c.in-Err.halt)) is (H.opened told)) (H.stops told) refl
    (unopened_heard c.args.limit (seen old) logs later c.in-Err.halt (subst (λ o. TurnOpeningHeard o (seen old) logs later (Err c.in-Err.halt)) is (H.heard told))))

-- it was: its bytes are accepted with the form of the world
pub run_session-disk-requires-clause-accepted : goal.run_session-disk-requires-clause-accepted
run_session-disk-requires-clause-accepted g c = c.in-Ok.ensures.loaded.begun.accepted

-- and the session ran over it
pub returns-clause-served : goal.returns-clause-served
returns-clause-served g c told =
    let w = c.in-Ok.loaded.0 in
    let old = g.D.Disk.history c.args.disk in
    let now = g.D.Disk.history c.run_session-disk.result.0 in
    let answer = c.run_session-disk.result.1 in
    let before = g.K.Sink.written c.args.output.now in
    let after = g.K.Sink.written c.run_session-disk.new.output in
    let left = g.S.Source.left c.args.input.now in
    let logs = g.L.Logs.logs c.args.logs.now in
    let mid = g.L.Logs.logs c.load.new.logs in
    let later = g.L.Logs.logs c.run_session-disk.new.logs in
    let is = c.options_within-options.ensures in
    let L = c.in-Ok.ensures.loaded in
    let O = c.in-Ok.ensures.opened in
    let reads = (O.opened told).1.reads in
    let start = L.begun.state told in
    subst (λ r. SessionFile c.args.limit (input_by g.S.Source.tells left (g.S.Source.faults c.args.input.now) (g.S.Source.faults c.run_session-disk.new.input)) old now g.K.Sink.tells before after logs later r) (sym c.told.ensures)
    (session_ran answer (record {
      opened = w.history;
      opens = subst (λ o. OpensToTurn o (seen old)) is (O.opened told).0;
      is_opened = subst (λ o. IsOpened o old w.history) is (O.opened told).1;
      safe = O.stops told;
      mid = mid;
      opening = (
        c.in-Ok.loaded.1,
        subst (λ i. Counted i c.in-Ok.loaded.1.report) reads (L.checked told).counted,
        subst (λ o. TurnOpeningHeard o (seen old) logs mid (Ok c.in-Ok.loaded.1)) is (O.heard told),
      );
      ran = subst (λ (q : Form × Options). SessionRan q.0 q.1 w.history now g.S.Source.tells left g.K.Sink.tells before after mid later answer) (λ j. (L.begun.form told j, (L.begun.options ∙ is) j))
          (c.run_session-disk.ensures.session told start.0 start.1);
    }))

-- how often the disk had failed then
pub returns-clause-counted : goal.returns-clause-counted
returns-clause-counted g c =
    let before = g.D.Disk.faults c.args.disk in
    let mid = c.in-Ok.loaded.0.faults in
    let after = g.D.Disk.faults c.run_session-disk.result.0 in
    subst (λ r. CountedIf g.D.Disk.tells before after (ending_of r)) (sym c.told.ensures)
    (session_counted g.D.Disk.tells before mid after c.in-Ok.ensures.done c.run_session-disk.ensures.rises c.run_session-disk.result.1 c.run_session-disk.ensures.quiet
    (λ told. let start = c.in-Ok.ensures.loaded.begun.state told in c.run_session-disk.ensures.rose told start.0 start.1))
