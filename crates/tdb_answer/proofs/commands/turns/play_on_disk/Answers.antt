use Rattle.std.proofs.Common.{◌≡◌, ◌∙◌, ℕ, true, Result, Ok, refl, sym, subst}
use Rattle.std.specs.Prelude.{OnErr}
use Rattle.tdb_disk.specs.Count.{Rose}
use Rattle.tdb_disk.specs.History.{seen}
use Rattle.tdb_space.specs.Form.{Form, form_of}
use Rattle.tdb_commands.specs.declared.options.Options.{Options}
use Rattle.tdb_world.specs.Whole.{form_at, options_at}
use Rattle.tdb_check.specs.Report.{Counted}
use Rattle.tdb_answer.specs.Playing.{PlayedOver, PlayedOn, PlayedFile, file_unplayed, file_played}
use Rattle.tdb_answer.specs.Stops.{SaysAllLines, StopsOfTurns, TellsAllLines}
use Rattle.tdb_answer.specs.Ending.{CountedIf}
use Rattle.tdb_answer.specs.declared.ending.Ending.{Ending}
use Rattle.tdb_answer.specs.declared.ending.Unprinted.{Unprinted}
use Rattle.tdb_answer.specs.Looks.{ending_of}
use Rattle.tdb_answer.proofs.Faults.{plays_counted}
use Rattle.tdb_answer.proofs.StopsTurning.{all_said, said_unfailed, halted_same, unopened_stops, opened_stops}
use Rattle.tdb_answer.proofs.commands.turns.play_on_disk.Goals as goal
use Rattle.tdb_answer.proofs.commands.turns.play_on_disk.Goals.{After-play_all-disk}

-- it wasn't opened, and the disk came back with the refusal
pub returns-in-Err-clause-played : goal.returns-in-Err-clause-played
returns-in-Err-clause-played g c told =
    let w = g.K.Sink.written c.args.output.now in
    let logs = g.L.Logs.logs c.args.logs.now in
    let later = g.L.Logs.logs c.load.new.logs in
    subst (λ e. PlayedFile c.args.options.now (g.D.Disk.history c.args.disk) (g.D.Disk.history c.in-Err.disk) c.args.plays.now g.K.Sink.tells w w logs later (Ok e)) (sym c.from.ensures)
    (file_unplayed c.in-Err.halt (c.in-Err.ensures.halted.opened told) refl (c.in-Err.ensures.halted.heard told))

-- it was: its bytes are accepted with the form of the world
pub play_all-disk-requires-clause-accepted : goal.play_all-disk-requires-clause-accepted
play_all-disk-requires-clause-accepted g c = c.in-Ok.ensures.loaded.begun.accepted

-- so what is said with the form and the options of the world is said with those of the file
of_file : (g : _) (c : After-play_all-disk g) → g.D.Disk.tells ≡ true → (P : Form → Options → Type 0) → P (form_at c.in-Ok.loaded.0.world) (options_at c.in-Ok.loaded.0.world) → P (form_of (seen c.in-Ok.loaded.0.history)) c.args.options.now
of_file g c told P = subst (λ (q : Form × Options). P q.0 q.1) (λ j. (c.in-Ok.ensures.loaded.begun.form told j, c.in-Ok.ensures.loaded.begun.options j))

-- and plays were taken over it
on : (g : _) (c : After-play_all-disk g) → g.D.Disk.tells ≡ true
    → PlayedOn c.args.options.now (g.D.Disk.history c.args.disk) (g.D.Disk.history c.play_all-disk.result.0) g.K.Sink.tells (g.K.Sink.written c.args.output.now) (g.K.Sink.written c.play_all-disk.new.output) (g.L.Logs.logs c.args.logs.now) (g.L.Logs.logs c.play_all-disk.new.logs) c.play_all-disk.result.1 c.args.plays.now
on g c told =
    let opened = c.in-Ok.loaded.0.history in
    let L = c.in-Ok.ensures.loaded in
    let O = c.in-Ok.ensures.opened in
    let start = L.begun.state told in
    record {
      opened = opened;
      opens = (O.opened told).0;
      is_opened = (O.opened told).1;
      found = c.in-Ok.loaded.1;
      mid = g.L.Logs.logs c.load.new.logs;
      counted = subst (λ i. Counted i c.in-Ok.loaded.1.report) (O.opened told).1.reads (L.checked told).counted;
      heard = O.heard told;
      over = of_file g c told
          (λ f options. PlayedOver f options (seen opened) c.args.plays.now (seen (g.D.Disk.history c.play_all-disk.result.0)) g.K.Sink.tells (g.K.Sink.written c.args.output.now) (g.K.Sink.written c.play_all-disk.new.output) (g.L.Logs.logs c.load.new.logs) (g.L.Logs.logs c.play_all-disk.new.logs) c.play_all-disk.result.1)
          (c.play_all-disk.ensures.played told start.0 start.1);
    }

pub returns-clause-played : goal.returns-clause-played
returns-clause-played g c told =
    subst (PlayedFile c.args.options.now (g.D.Disk.history c.args.disk) (g.D.Disk.history c.play_all-disk.result.0) c.args.plays.now g.K.Sink.tells (g.K.Sink.written c.args.output.now) (g.K.Sink.written c.play_all-disk.new.output) (g.L.Logs.logs c.args.logs.now) (g.L.Logs.logs c.play_all-disk.new.logs)) (sym c.told.ensures)
    (file_played c.play_all-disk.result.1 (on g ((goal.at.returns-clause-played g c).After-play_all-disk) told))

-- what stops leave where it wasn't opened
pub returns-in-Err-clause-stops : goal.returns-in-Err-clause-stops
returns-in-Err-clause-stops g c told opens =
    unopened_stops c.args.options.now c.args.plays.now (g.D.Disk.history c.args.disk) (g.D.Disk.history c.in-Err.disk) g.K.Sink.tells _ _ _ (g.K.Sink.written c.args.output.now) opens.can_open opens.shut (c.in-Err.ensures.halted.stops told)
    (λ sound. halted_same c.args.options.now (g.D.Disk.history c.args.disk) (g.D.Disk.history c.in-Err.disk) c.in-Err.halt (λ is. sound (c.in-Err.ensures.cause.failed is)) (c.in-Err.ensures.halted.opened told))

-- and where it was; loading it made no call fail
abbrev Sound : (g : _) (c : After-play_all-disk g) → ℕ → Type 0
Sound g c before = Rose before (g.D.Disk.faults c.play_all-disk.result.0) → ⊥

pub returns-clause-stops : goal.returns-clause-stops
returns-clause-stops g c told opens =
    let a = (goal.at.returns-clause-stops g c).After-play_all-disk in
    let w = c.in-Ok.loaded.0 in
    let O = c.in-Ok.ensures.opened in
    let start = c.in-Ok.ensures.loaded.begun.state told in
    let calm = Sound g a w.faults in
    let r = c.play_all-disk.result.1 in
    opened_stops c.args.options.now c.args.plays.now (g.D.Disk.history c.args.disk) w.history (g.D.Disk.history c.play_all-disk.result.0) g.K.Sink.tells _ _ (Sound g a (g.D.Disk.faults c.args.disk)) (TellsAllLines r) (OnErr r ⊥) calm
    (g.K.Sink.written c.args.output.now) (g.K.Sink.written c.play_all-disk.new.output) (λ said. all_said r (subst SaysAllLines c.told.ensures said)) (λ un. said_unfailed r (subst (λ (x : Result Ending Unprinted). OnErr x ⊥) c.told.ensures un)) (subst (Sound g a) (sym c.in-Ok.ensures.done)) opens.can_open opens.shut (O.stops told) (O.opened told).1 (c.in-Ok.ensures.loaded.checked told).accepted
    (of_file g a told (λ f options. StopsOfTurns f options c.args.plays.now w.history (g.D.Disk.history c.play_all-disk.result.0) g.K.Sink.tells (TellsAllLines r) (OnErr r ⊥) calm (g.K.Sink.written c.args.output.now) (g.K.Sink.written c.play_all-disk.new.output))
    (c.play_all-disk.ensures.stops told start.0 start.1))

-- how often the disk had failed then
pub returns-clause-counted : goal.returns-clause-counted
returns-clause-counted g c =
    let before = g.D.Disk.faults c.args.disk in
    let mid = c.in-Ok.loaded.0.faults in
    let after = g.D.Disk.faults c.play_all-disk.result.0 in
    subst (λ r. CountedIf g.D.Disk.tells before after (ending_of r)) (sym c.told.ensures)
    (plays_counted g.D.Disk.tells before mid after c.in-Ok.ensures.done c.play_all-disk.ensures.rises c.play_all-disk.result.1 c.play_all-disk.ensures.quiet
    (λ told. let start = c.in-Ok.ensures.loaded.begun.state told in c.play_all-disk.ensures.rose told start.0 start.1))
