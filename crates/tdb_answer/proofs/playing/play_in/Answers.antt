use Rattle.std.proofs.Common.{◌≡◌, ◌∙◌, ℕ, true, false, [], Ok, Err, length, sym, ap, subst, arith}
use Rattle.std.proofs.lemmas.Result.{err_from_is_err_and}
use Rattle.tdb_disk.specs.Count.{Rose}
use Rattle.tdb_disk.specs.History.{History, seen}
use Rattle.tdb_space.specs.Form.{form_in}
use Rattle.tdb_law.specs.World.{State}
use Rattle.tdb_world.specs.Died.{IsReadAs}
use Rattle.tdb_world.specs.OverFile.{HasState}
use Rattle.tdb_commands.specs.declared.options.Options.{Options}
use Rattle.tdb_world.specs.States.{IsStateOf}
use Rattle.tdb_world.specs.Whole.{form_at, options_at, Whole, WorldFits}
use Rattle.tdb_world.proofs.Reopening.{state_reopens}
use Rattle.tdb_world.specs.Courses.Unfinished.{EndsWith}
use Rattle.tdb_world.proofs.Courses.EndedFiles.{ended_opens}
use Rattle.tdb_world.proofs.Courses.Finishing.{report_lawful, ends_alike}
use Rattle.tdb_open.specs.Loading.{OpensToTurn}
use Rattle.tdb_world.specs.Loaded.{IsJustLoaded}
use Rattle.tdb_world.specs.Courses.Scene.{Scene, scene}
use Rattle.tdb_answer.specs.Playing.{PlaysEnd, UnlessBroken, OnBroken, RunsTo, PlayedOver}
use Rattle.tdb_answer.specs.Stops.{StopsOver}
use Rattle.tdb_answer.proofs.Coming.{unless_map, on_map}
use Rattle.tdb_answer.proofs.Over.{broken_off, finished}
use Rattle.tdb_answer.proofs.Stopping.{only_unfinished, stops_broken, stops_finished}
use Rattle.tdb_answer.proofs.playing.play_in.Goals as goal
use Rattle.tdb_answer.proofs.playing.play_in.Goals.{After-play_each}

-- the file is read as that of each state that the world may have afterwards
is_read : (g : _) (c : After-play_each g) (new : State) → HasState c.play_each.new.world new
    → UnlessBroken c.play_each.result (IsReadAs (form_at c.args.world.now.world) (seen c.play_each.new.world.history) new)
is_read g c new is =
    unless_map c.play_each.result (λ same. subst (λ f. IsReadAs f (seen c.play_each.new.world.history) new) (ap form_in same) (state_reopens c.play_each.new.world.world c.play_each.new.world.history new is)) c.play_each.ensures.ran.header

-- they broke off
broken : (g : _) (c : After-play_each g) (answer : PlaysEnd) → g.D.Disk.tells ≡ true → c.play_each.result ≡ answer → (answer ≡ Ok (Ok tt) → ⊥) → (state : State) → IsJustLoaded c.args.world.now.world c.args.world.now.history state
    → PlayedOver (form_at c.args.world.now.world) (options_at c.args.world.now.world) (seen c.args.world.now.history) c.args.plays.now (seen c.play_each.new.world.history) g.K.Sink.tells (g.K.Sink.written c.args.output.now) (g.K.Sink.written c.play_each.new.output) (g.L.Logs.logs c.args.logs.now) (g.L.Logs.logs c.play_each.new.logs) answer
broken g c answer told is other state just =
    let left = HasState c.play_each.new.world in
    broken_off (form_at c.args.world.now.world) (options_at c.args.world.now.world) (seen c.args.world.now.history) c.args.plays.now state just.loaded just.over g.K.Sink.tells (g.L.Logs.logs c.args.logs.now) (g.L.Logs.logs c.play_each.new.logs)
    left (seen c.play_each.new.world.history) (g.K.Sink.written c.args.output.now) (g.K.Sink.written c.play_each.new.output) answer other
    (λ new at. subst (λ r. UnlessBroken r (IsReadAs (form_at c.args.world.now.world) (seen c.play_each.new.world.history) new)) is (is_read g c new at))
    (subst (RunsTo (form_at c.args.world.now.world) state c.args.plays.now left g.K.Sink.tells (g.K.Sink.written c.args.output.now) (g.K.Sink.written c.play_each.new.output) (g.L.Logs.logs c.args.logs.now) (g.L.Logs.logs c.play_each.new.logs)) is
    (c.play_each.ensures.ran.runs told state just.of_world))

pub returns-in_err-play_each-clause-played : goal.returns-in_err-play_each-clause-played
returns-in_err-play_each-clause-played g c =
    let q = err_from_is_err_and c.from_residual.result c.from_residual.ensures.1 in
    rw (q.1, q.2)
    (λ told. broken g ((goal.at.returns-in_err-play_each-clause-played g c).After-play_each) (Err c.in_err-play_each.field-0.0) told c.in_err-play_each.was (λ is. cc))

pub returns-in-Err-clause-played : goal.returns-in-Err-clause-played
returns-in-Err-clause-played g c told = broken g ((goal.at.returns-in-Err-clause-played g c).After-play_each) (Ok (Err c.in-Err.fault)) told (c.in_ok-play_each.was ∙ ap Ok c.in-Err.is) (λ is. cc)

-- the disk failed only where they broke off
rose : (g : _) (c : After-play_each g) (answer : PlaysEnd) → g.D.Disk.tells ≡ true → c.play_each.result ≡ answer → (state : State) → IsJustLoaded c.args.world.now.world c.args.world.now.history state
    → OnBroken answer (Rose c.args.world.now.faults c.play_each.new.world.faults)
rose g c answer told is state just =
    subst (λ r. OnBroken r (Rose c.args.world.now.faults c.play_each.new.world.faults)) is (c.play_each.ensures.ran.rose told state just.of_world)

pub returns-in_err-play_each-clause-rose : goal.returns-in_err-play_each-clause-rose
returns-in_err-play_each-clause-rose g c =
    let q = err_from_is_err_and c.from_residual.result c.from_residual.ensures.1 in
    rw (q.1, q.2)
    (λ told. rose g ((goal.at.returns-in_err-play_each-clause-rose g c).After-play_each) (Err c.in_err-play_each.field-0.0) told c.in_err-play_each.was)

pub returns-in-Err-clause-rose : goal.returns-in-Err-clause-rose
returns-in-Err-clause-rose g c told = rose g ((goal.at.returns-in-Err-clause-rose g c).After-play_each) (Ok (Err c.in-Err.fault)) told (c.in_ok-play_each.was ∙ ap Ok c.in-Err.is)

-- where no command is unfinished the file can be opened as it was
opens_again : (w : Whole) (size : ℕ) (h : History) (state : State) → WorldFits w (seen h) size → length (seen h) ≡ size → IsStateOf w h state → EndsWith state [] → (options_at w).read_only ≡ false → OpensToTurn (options_at w) (seen h)
opens_again w size h state F sized is ends writes =
    let short = F.openers.short in
    let limit = F.openers.limit in
    record {
      can_open = record { opens = ended_opens w h state is ends; within = omega (arith, sized, short, limit) };
      within = omega (arith, sized, short);
      shut = λ only. (let wrong : true ≡ false = sym only ∙ writes in absurd (cc));
    }

-- they were all taken
pub returns-in-Ok-clause-played : goal.returns-in-Ok-clause-played
returns-in-Ok-clause-played g c told state just =
    let a = (goal.at.returns-in-Ok-clause-played g c).After-play_each in
    let h = c.play_each.new.world.history in
    let left = HasState c.play_each.new.world in
    let all = c.in_ok-play_each.was ∙ ap Ok c.in-Ok.is in
    let p = subst (RunsTo (form_at c.args.world.now.world) state c.args.plays.now left g.K.Sink.tells (g.K.Sink.written c.args.output.now) (g.K.Sink.written c.play_each.new.output) (g.L.Logs.logs c.args.logs.now) (g.L.Logs.logs c.play_each.new.logs)) all (c.play_each.ensures.ran.runs told state just.of_world) in
    let read = subst (λ r. UnlessBroken r (IsReadAs (form_at c.args.world.now.world) (seen h) p.0)) all (is_read g a p.0 p.1) in
    let fits = c.stands.ensures.fits (subst (λ r. UnlessBroken r (c.play_each.new.world.spent ≡ false)) all c.play_each.ensures.ran.unspent) in
    let e = c.tell_unfinished.ensures.told in
    let ends = ends_alike c.play_each.new.world.world (seen h) c.play_each.new.world.size h p.0 e.lines fits p.1 e.is_end in
    let same = subst (λ r. UnlessBroken r (options_at c.play_each.new.world.world ≡ options_at c.args.world.now.world)) all c.play_each.ensures.ran.options in
    let again : e.lines ≡ [] → (options_at c.args.world.now.world).read_only ≡ false → OpensToTurn (options_at c.args.world.now.world) (seen h) =
    λ none writes. subst (λ (o : Options). OpensToTurn o (seen h)) same
    (opens_again c.play_each.new.world.world c.play_each.new.world.size h p.0 fits (c.stands.ensures.sized told) p.1 (subst (EndsWith p.0) none ends) (ap (λ (o : Options). o.read_only) same ∙ writes)) in
    finished (form_at c.args.world.now.world) (options_at c.args.world.now.world) (seen c.args.world.now.history) c.args.plays.now state just.loaded just.over g.K.Sink.tells (g.L.Logs.logs c.args.logs.now) (g.L.Logs.logs c.play_each.new.logs)
    p.0 e.lines ends (seen h) (g.K.Sink.written c.args.output.now) (g.K.Sink.written c.play_each.new.output) (g.K.Sink.written c.tell_unfinished.new.output) read p.2 report_lawful again
    c.tell_unfinished.result c.tell_unfinished.ensures.unbroken e.whole e.front

-- before the plays and after them
abbrev start : (g : _) (c : After-play_each g) → Scene
start g c = scene c.args.world.now (g.K.Sink.written c.args.output.now) (g.L.Logs.logs c.args.logs.now)

abbrev last : (g : _) (c : After-play_each g) → Scene
last g c = scene c.play_each.new.world (g.K.Sink.written c.play_each.new.output) (g.L.Logs.logs c.play_each.new.logs)

-- where no call of the disk failed they didn't break off by one
abbrev Sound : (g : _) (c : After-play_each g) → Type 0
Sound g c = Rose c.args.world.now.faults c.play_each.new.world.faults → ⊥

unbroken : (g : _) (c : After-play_each g) → Sound g c → g.D.Disk.tells ≡ true → (state : State) → HasState c.args.world.now state → OnBroken c.play_each.result ⊥
unbroken g c sound told state is = on_map c.play_each.result sound (c.play_each.ensures.ran.rose told state is)

-- what stops leave of plays that broke off so
stops_off : (g : _) (c : After-play_each g) (answer : PlaysEnd) → c.play_each.result ≡ answer
    → StopsOver c.args.world.now.world g.D.Disk.tells g.K.Sink.tells c.args.plays.now answer (Sound g c) c.args.world.now.history c.play_each.new.world.history c.args.world.now.size c.play_each.new.world.size
    (g.K.Sink.written c.args.output.now) (g.K.Sink.written c.play_each.new.output)
stops_off g c answer is =
    subst (λ (r : PlaysEnd). StopsOver c.args.world.now.world g.D.Disk.tells g.K.Sink.tells c.args.plays.now r (Sound g c) c.args.world.now.history c.play_each.new.world.history c.args.world.now.size c.play_each.new.world.size
    (g.K.Sink.written c.args.output.now) (g.K.Sink.written c.play_each.new.output)) is
    (stops_broken g.D.Disk.tells g.K.Sink.tells (start g c) (last g c) c.args.plays.now c.play_each.result c.play_each.ensures.stops (Sound g c) (is_read g c) (unbroken g c))

pub returns-in_err-play_each-clause-stops : goal.returns-in_err-play_each-clause-stops
returns-in_err-play_each-clause-stops g c =
    let a = (goal.at.returns-in_err-play_each-clause-stops g c).After-play_each in
    let q = err_from_is_err_and c.from_residual.result c.from_residual.ensures.1 in
    rw (q.1, q.2) (stops_off g a (Err c.in_err-play_each.field-0.0) c.in_err-play_each.was)

pub returns-in-Err-clause-stops : goal.returns-in-Err-clause-stops
returns-in-Err-clause-stops g c =
    let a = (goal.at.returns-in-Err-clause-stops g c).After-play_each in
    stops_off g a (Ok (Err c.in-Err.fault)) (c.in_ok-play_each.was ∙ ap Ok c.in-Err.is)

pub returns-in-Ok-clause-stops : goal.returns-in-Ok-clause-stops
returns-in-Ok-clause-stops g c =
    let a = (goal.at.returns-in-Ok-clause-stops g c).After-play_each in
    let e = c.tell_unfinished.ensures.told in
    stops_finished g.D.Disk.tells g.K.Sink.tells (start g a) (last g a) c.args.plays.now c.play_each.result c.play_each.ensures.stops (Sound g a) (is_read g a) (unbroken g a) e.lines c.tell_unfinished.result (g.K.Sink.written c.tell_unfinished.new.output)
    (only_unfinished c.play_each.new.world.world 0 (length c.play_each.new.world.world.openers.openers) e.lines e.is_end) (c.in_ok-play_each.was ∙ ap Ok c.in-Ok.is) c.tell_unfinished.ensures.unbroken e.whole e.front e.cut
