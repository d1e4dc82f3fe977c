-- A command of a merge, from what its play gives.
use Rattle.std.proofs.Common.{◌≡◌, ◌≢◌, ◌++◌, ℕ, List, [], None, Some, Result, Ok, Err, false, true, refl, sym, ◌∙◌, ap, subst, inl, inr, append-nil}
use Rattle.std.specs.Prelude.{◌⊎◌, Bool, IfErr, IsTrue}
use Rattle.tdb_disk.specs.Count.{Rose}
use Rattle.tdb_disk.specs.Stop.{LeavesOnly}
use Rattle.tdb_disk.proofs.Runs.{leaves_weaker}
use Rattle.tdb_space.specs.Form.{Form, form_in}
use Rattle.tdb_law.specs.Commands.{Command as LawCommand, Reply as LawReply, is_spare}
use Rattle.tdb_law.specs.Events.{Given}
use Rattle.tdb_law.specs.Lines.{Line as LawLine, replay}
use Rattle.tdb_law.specs.Openers.{Map}
use Rattle.tdb_law.specs.Plays.{Clears, Course, Gives}
use Rattle.tdb_law.specs.Plays.{Play as LawPlay}
use Rattle.tdb_law.specs.Plays.Clears.{clears_gate, clears_nothing}
use Rattle.tdb_law.specs.Plays.Play.{Do as LawDo}
use Rattle.tdb_law.specs.Replay.{Replay}
use Rattle.tdb_law.specs.Standing.{Stands}
use Rattle.tdb_law.specs.World.{State, IsSound}
use Rattle.tdb_law.proofs.Joining.{course_lawful}
use Rattle.tdb_law.proofs.Tests.{never_true}
use Rattle.tdb_log.specs.Logs.{Logged}
use Rattle.tdb_log.specs.declared.log.LogRefusal.{LogRefusal}
use Rattle.tdb_log.specs.declared.log.LogRefusal.TheVariants as Unheard
use Rattle.tdb_commands.specs.InLaw.{law_command, law_lines, law_play}
use Rattle.tdb_commands.specs.declared.command.Command.{Command}
use Rattle.tdb_commands.specs.declared.line.Line.{Line}
use Rattle.tdb_commands.specs.declared.play.Play.{Play}
use Rattle.tdb_openers.specs.Played.{Begun, PlaysLast, Steps, UnlessIo}
use Rattle.tdb_openers.specs.Played.Begun.{begun_command, begun_not, begun_turn, begun_turns}
use Rattle.tdb_openers.specs.declared.fault.RunFault.{RunFault}
use Rattle.tdb_openers.specs.declared.fault.RunFault.TheVariants as Run
use Rattle.tdb_world.specs.OverFile.{OverFile, moment_of}
use Rattle.tdb_world.specs.OverFiles.Plays.{RunAnswer, TookPlay, is_io}
use Rattle.tdb_world.specs.States.{IsStateOf}
use Rattle.tdb_world.specs.Stops.{IsSafe}
use Rattle.tdb_world.specs.Whole.{form_at}
use Rattle.tdb_world.specs.Courses.Stops.{OpensOnTheWay, StopsOn}
use Rattle.tdb_world.proofs.Courses.Stopping.{leads_one}
use Rattle.tdb_world.proofs.Reopening.{state_reopens}
use Rattle.tdb_merge.specs.Endings.{ending_of}
use Rattle.tdb_merge.specs.Faults.{OnDevice, of_log, of_run}
use Rattle.tdb_world.specs.Calm.{OpensToEither}
use Rattle.tdb_merge.specs.Parts.{AtRest, Does, IsReadWith, Led, PartLeaves, Phase, Ran}
use Rattle.tdb_merge.specs.declared.fault.MergeFault.{MergeFault}
use Rattle.tdb_merge.specs.declared.fault.MergeFault.TheVariants.{Full, Starved, Read, Memory}
use Rattle.tdb_world.proofs.Calm.{calm_end, calm_file, calm_transacted, calm_way, rest_file}
use Rattle.tdb_merge.proofs.Ended.{SaysReply, ending_says}
use Rattle.tdb_merge.proofs.Parts.{unless_true}
use Rattle.tdb_merge.proofs.Running.{LedTo, Over, Running, lines_lead, reply_in}
use Rattle.tdb_merge.proofs.Shapes.{Runs, begun_course, begun_runs, done_runs}

-- how a play ran, whoever's it was
module _ (t : Bool) (a b : OverFile) (first lines : List Line) (play : Play) (logs heard : List Logged) where
  abbrev Took : RunAnswer → Type 0
  Took answer = TookPlay t (moment_of a first) (moment_of b lines) logs heard play answer

  pub ran_broke : (fault : RunFault) → Took (Err fault) → b.spent ≡ is_io {V = Result (Unit {0}) LogRefusal} (Err fault) → Ran a b (Err (of_run fault))
  ran_broke Run.Io taken spent = record { header = tt; unspent = tt; rises = taken.led.rises; quiet = tt }
  ran_broke Run.Memory taken spent = record { header = taken.led.header; unspent = spent; rises = taken.led.rises; quiet = taken.led.quiet }

  pub ran_taken : (told : Result (Unit {0}) LogRefusal) → Took (Ok told) → b.spent ≡ false → (answer : Result (Unit {0}) MergeFault) → Ran a b answer
  ran_taken told taken spent answer = record {
    header = unless_true answer (b.world.openers.header ≡ a.world.openers.header) taken.led.header;
    unspent = unless_true answer (b.spent ≡ false) spent;
    rises = taken.led.rises;
    quiet = unless_true answer (b.faults ≡ a.faults) taken.led.quiet;
  }

-- a command that does this by the law
module _ (m n : Map) (from : Phase) (end : Map) (to : Phase) (c : LawCommand) (D : Does m n from end to c) (a : OverFile) (R : AtRest m from a) where
  abbrev f : Form
  f = form_at a.world

  first_running : Running f m n from end to c D R.replay
  first_running = record {
    map = R.map;
    own = R.own;
    mine = λ u e. absurd (let both : None ≡ Some u = sym (R.begun 0) ∙ e in cc both);
    others = λ o ne. R.begun o;
    fresh = R.fresh;
  }

  -- Its lines came to a state, for which the replay of them stands; it was calm all along.
  pub record Came (lines : List LawLine) (new : State) : Type 0 where
    pub sound : IsSound f new
    pub stands : Stands f new (replay f R.replay lines)
    pub led : LedTo f m n from end to c D R.replay lines

  course_came : (lines : List LawLine) (new : State) (plays : List LawPlay) → Course f R.state plays lines new → Runs 0 c lines → Came lines new
  course_came lines new plays C runs =
      let L = course_lawful f R.state new plays lines R.replay R.sound R.stands C in
      record { sound = L.sound; stands = L.stands; led = lines_lead f m n from end to c D lines R.replay first_running runs L.lawful }

  done_came : (lines : List LawLine) (new : State) → Gives f R.state (LawDo 0 c) lines new → Came lines new
  done_came lines new G = let C = leads_one f R.state new (LawDo 0 c) lines G in course_came lines new C.0 C.1 (done_runs f 0 c R.state new lines G)

  same_came : (lines other : List LawLine) (new state : State) → lines ≡ other → new ≡ state → Came other state → Came lines new
  same_came lines other new state told is came = subst (λ (z : List LawLine × State). Came z.0 z.1) (λ j. (sym told j, sym is j)) came

  -- behind steps nothing was done, or a gate was undone, of which none stood open
  clears_came : (lines front rest : List LawLine) (mid new : State) → lines ≡ front ++ rest → Came front mid → ((rest ≡ []) × (new ≡ mid)) ⊎ Clears f mid rest new → Came lines new
  clears_came lines front rest mid new parts came (inl (none, same)) = same_came lines front new mid (parts ∙ ap (λ ls. front ++ ls) none ∙ append-nil front) same came
  clears_came lines front rest mid new parts came (inr (clears_nothing fresh none same)) =
      same_came lines front new mid (parts ∙ ap (λ ls. front ++ ls) none ∙ append-nil front) same came
  clears_came lines front rest mid new parts came (inr (clears_gate bytes length is U)) =
      absurd (never_true (sym (calm_end m n f R.replay front came.led.0).fresh ∙ came.stands.stale ∙ U.was))

  begun_came : (lines : List LawLine) (new : State) → Begun f R.state (LawDo 0 c) lines new → Came lines new
  begun_came lines new (begun_not none same) = same_came lines [] new R.state none same (course_came [] R.state [] (refl, refl) tt)
  begun_came lines new (begun_turn o p C) = absurd (cc p)
  begun_came lines new (begun_turns o k p S) = absurd (cc p)
  begun_came lines new (begun_command o k d given p G (mid, front, rest, parts, S, last)) =
      let who : 0 ≡ o = cc p in
      let what : c ≡ d = cc p in
      let G2 : Given R.state 0 c given = subst (λ (z : ℕ × LawCommand). Given R.state z.0 z.1 given) (λ j. (sym who j, sym what j)) G in
      let S2 : Steps f k given 0 front mid = subst (λ z. Steps f k given z front mid) (sym who) S in
      let C = begun_course f 0 c k R.state given mid front G2 S2 in
      clears_came lines front rest mid new parts (course_came front mid C.0 C.1 (begun_runs f 0 c k R.state given mid front G2 S2)) last

  pub last_came : (lines : List LawLine) (new : State) → PlaysLast f R.state (LawDo 0 c) lines new → Came lines new
  last_came lines new (inl begun) = begun_came lines new begun
  last_came lines new (inr gives) = done_came lines new gives

-- what a play of it led to, by its answer
module _ (t : Bool) (a b : OverFile) (first lines : List Line) (empty : first ≡ []) (logs heard : List Logged) (play : Play) (command : Command) (is : play ≡ Play.Do 1 command) (m n : Map) (from : Phase) (end : Map) (to : Phase)
    (D : Does m n from end to (law_command command)) where
  abbrev c : LawCommand
  c = law_command command

  abbrev form : Form
  form = form_at a.world

  abbrev Taken : RunAnswer → Type 0
  Taken answer = TookPlay t (moment_of a first) (moment_of b lines) logs heard play answer

  alone : (answer : RunAnswer) (taken : Taken answer) → taken.led.added ≡ lines
  alone answer taken = sym (taken.led.lines ∙ ap (λ ls. ls ++ taken.led.added) empty)

  -- it came to a state, which the world has unless the disk failed
  named : (state new : State) (ls : List LawLine) → PlaysLast form state (law_play play) ls new → PlaysLast form state (LawDo 0 c) ls new
  named state new ls last = subst (λ p. PlaysLast form state (law_play p) ls new) is last

  came_to : (answer : RunAnswer) (taken : Taken answer) → IsTrue t → (R : AtRest m from a) → (new : State) × Came m n from end to c D a R (law_lines taken.led.added) new × UnlessIo answer (IsStateOf b.world b.history new)
  came_to (Ok told) taken tells R =
      let r = taken.led.told tells R.state R.has in
      (r.0, last_came m n from end to c D a R (law_lines taken.led.added) r.0 (named R.state r.0 (law_lines taken.led.added) (inr r.2)), r.1)
  came_to (Err Run.Memory) taken tells R =
      let r = taken.led.told tells R.state R.has in
      (r.0, last_came m n from end to c D a R (law_lines taken.led.added) r.0 (named R.state r.0 (law_lines taken.led.added) (inl r.2)), r.1)
  came_to (Err Run.Io) taken tells R =
      let r = taken.led.told tells R.state R.has in
      (r.0, last_came m n from end to c D a R (law_lines taken.led.added) r.0 (named R.state r.0 (law_lines taken.led.added) r.1), tt)

  -- what stops left meanwhile, and what they leave behind it
  stopped : (answer : RunAnswer) (taken : Taken answer) → IsTrue t → (R : AtRest m from a) → IsSafe form a.history → StopsOn (moment_of a first) (moment_of b lines) answer R.state (law_lines taken.led.added)
  stopped answer taken tells R safe =
      let C = came_to answer taken tells R in
      taken.stops tells R.state taken.led.added R.has taken.led.lines safe
      (calm_transacted m n form R.state R.replay R.sound R.stands (law_lines taken.led.added) C.1.led.0)

  stops : (answer : RunAnswer) (taken : Taken answer) → IsTrue t → (R : AtRest m from a) → IsSafe form a.history → LeavesOnly a.history b.history (OpensToEither form m n)
  stops answer taken tells R safe =
      let C = came_to answer taken tells R in
      leaves_weaker a.history b.history (OpensOnTheWay form R.state (law_lines taken.led.added)) (OpensToEither form m n)
      (calm_way m n form R.state R.replay R.sound R.stands (law_lines taken.led.added) C.1.led.0) (stopped answer taken tells R safe).stops

  -- the file has one of the two maps
  either_read : (R : AtRest m from a) (ls : List LawLine) (new : State) → Came m n from end to c D a R ls new → IsStateOf b.world b.history new → IsReadWith m b ⊎ IsReadWith n b
  either_read R ls new C of_world =
      let read = (state_reopens b.world b.history new of_world).file in
      elim (calm_file form new (replay form R.replay ls) C.sound C.stands m n (calm_end m n form R.replay ls C.led.0)) [
        | inl one ↦ inl (sym one ∙ read)
        | inr two ↦ inr (sym two ∙ read)
      ]

  pub led_broken : (fault : RunFault) → Taken (Err fault) → Led t m n from end to a b (Err (of_run fault))
  led_broken Run.Io taken = record {
    left = λ tells R. tt;
    stops = λ tells R safe. stops (Err Run.Io) taken tells R safe;
    safe = λ tells R safe. tt;
    rose = λ tells R. taken.led.rose tells R.state R.has;
  }
  led_broken Run.Memory taken = record {
    left = λ tells R. (let C = came_to (Err Run.Memory) taken tells R in either_read R (law_lines taken.led.added) C.0 C.1 C.2);
    stops = λ tells R safe. stops (Err Run.Memory) taken tells R safe;
    safe = λ tells R safe. (stopped (Err Run.Memory) taken tells R safe).left.3;
    rose = λ tells R. tt;
  }

  -- It was taken whole.
  module _ (told : Result (Unit {0}) LogRefusal) (taken : Taken (Ok told)) where
    -- and a log refused
    pub led_refused : (refusal : LogRefusal) → Led t m n from end to a b (Err (of_log refusal))
    led_refused Unheard.Failed = record {
      left = λ tells R. (let C = came_to (Ok told) taken tells R in either_read R (law_lines taken.led.added) C.0 C.1 C.2);
      stops = λ tells R safe. stops (Ok told) taken tells R safe;
      safe = λ tells R safe. (stopped (Ok told) taken tells R safe).left.3;
      rose = λ tells R. tt;
    }
    led_refused Unheard.Memory = record {
      left = λ tells R. (let C = came_to (Ok told) taken tells R in either_read R (law_lines taken.led.added) C.0 C.1 C.2);
      stops = λ tells R safe. stops (Ok told) taken tells R safe;
      safe = λ tells R safe. (stopped (Ok told) taken tells R safe).left.3;
      rose = λ tells R. tt;
    }

    abbrev last : AtRest m from a → Replay
    last R = replay form R.replay (law_lines taken.led.added)

    over : (tells : IsTrue t) (R : AtRest m from a) (r : LawReply) → reply_in (law_lines lines) ≡ Some r → Over form m n from end to c D r (last R)
    over tells R r said = (came_to (Ok told) taken tells R).1.led.1 r (ap (λ ls. reply_in (law_lines ls)) (alone (Ok told) taken) ∙ said)

    -- the command is done
    done_rest : (tells : IsTrue t) (R : AtRest m from a) → reply_in (law_lines lines) ≡ Some LawReply.Done → AtRest end to b
    done_rest tells R said =
        let C = came_to (Ok told) taken tells R in
        let O = over tells R LawReply.Done said in
        let done = O.done refl in
        let same : form ≡ form_at b.world = ap form_in (sym taken.led.header) in
        record {
          state = C.0;
          has = C.2;
          sound = subst (λ g. IsSound g C.0) same C.1.sound;
          replay = last R;
          stands = subst (λ g. Stands g C.0 (last R)) same C.1.stands;
          map = done.0;
          begun = O.begun;
          fresh = O.fresh;
          own = done.1;
        }

    -- or it changed nothing
    spare_read : (tells : IsTrue t) (R : AtRest m from a) (r : LawReply) → reply_in (law_lines lines) ≡ Some r → is_spare r ≡ true → IsReadWith m b
    spare_read tells R r said spare =
        let C = came_to (Ok told) taken tells R in
        let O = over tells R r said in
        let file = rest_file form C.0 (last R) C.1.sound C.1.stands O.begun in
        sym (file ∙ O.spare spare) ∙ (state_reopens b.world b.history C.0 C.2).file

    left_by : (ending : Result (Unit {0}) MergeFault) → SaysReply ending (reply_in (law_lines lines)) → IsTrue t → AtRest m from a → PartLeaves m n (AtRest end to b) b ending
    left_by (Ok u) says tells R = done_rest tells R says
    left_by (Err (Full len need)) says tells R = spare_read tells R (LawReply.Full len need) says refl
    left_by (Err Starved) says tells R = spare_read tells R LawReply.Memory says refl
    left_by (Err Memory) says tells R = (let C = came_to (Ok told) taken tells R in either_read R (law_lines taken.led.added) C.0 C.1 C.2)
    left_by (Err fault) says tells R = absurd says

    rose_by : (ending : Result (Unit {0}) MergeFault) → SaysReply ending (reply_in (law_lines lines)) → OnDevice ending (Rose a.faults b.faults)
    rose_by (Ok u) says = tt
    rose_by (Err (Full len need)) says = tt
    rose_by (Err Starved) says = tt
    rose_by (Err Memory) says = tt
    rose_by (Err fault) says = absurd says

    pub led_taken : (answer : Result (Unit {0}) MergeFault) → answer ≡ ending_of lines → Led t m n from end to a b answer
    led_taken answer told_so =
        subst (λ e. Led t m n from end to a b e) (sym told_so)
        (record {
          left = λ tells R. left_by (ending_of lines) (ending_says lines) tells R;
          stops = λ tells R safe. stops (Ok told) taken tells R safe;
          safe = λ tells R safe. unless_true (ending_of lines) (IsSafe form b.history) (stopped (Ok told) taken tells R safe).left.3;
          rose = λ tells R. rose_by (ending_of lines) (ending_says lines);
        })

-- an ending of lines isn't that pairs weren't read
pub unread_as : (answer : Result (Unit {0}) MergeFault) (lines : List Line) → answer ≡ ending_of lines → IfErr (ending_of lines) (λ e. e ≢ Read) → IfErr answer (λ e. e ≢ Read)
unread_as answer lines is unread = subst (λ e. IfErr e (λ x. x ≢ Read)) (sym is) unread
