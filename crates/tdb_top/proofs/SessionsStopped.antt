-- What stops leave of the file of a session, however that ends.
use Rattle.std.proofs.Common.{◌≡◌, ℕ, List, [], Option, Some, Result, Ok, Err, false, refl, sym, ◌∙◌, ap, subst, inl, inr, arith}
use Rattle.std.specs.Prelude.{Bool, IsTrue}
use Rattle.std.proofs.lemmas.List.{append-nil}
use Rattle.tdb_disk.specs.History.{History, seen}
use Rattle.tdb_disk.proofs.Runs.{leaves_weaker}
use Rattle.tdb_space.specs.Form.{form_of}
use Rattle.tdb_space.specs.Undoing.{Reopens}
use Rattle.tdb_law.specs.Beginning.{IsLoaded}
use Rattle.tdb_law.specs.World.{State}
use Rattle.tdb_log.specs.Logs.{Logged}
use Rattle.tdb_commands.specs.declared.line.Line.{Line}
use Rattle.tdb_script.specs.Lines.{lines_of}
use Rattle.tdb_tool.proofs.PartLemmas.{all_came, came_more}
use Rattle.tdb_tool.proofs.Wholes.{begins, over_comes}
use Rattle.tdb_tool.specs.Asking.{BeginsBy}
use Rattle.tdb_tool.specs.Serving.{fault_of, is_broken}
use Rattle.tdb_open.specs.Loading.{OpensToTurn}
use Rattle.tdb_world.specs.Loaded.{IsOver}
use Rattle.tdb_tool.specs.Whole.{session_parts, SaidSo, StopsOpen, SessionCame, CameSo}
use Rattle.tdb_tool.specs.declared.fault.SessionEnd.{SessionEnd}
use Rattle.tdb_tool.specs.declared.fault.SessionFault.{SessionFault}
use Rattle.tdb_tool.specs.declared.fault.SessionFault.TheVariants as F
use Rattle.tdb_tool.specs.declared.order.Order.{Order}
use Rattle.tdb_commands.specs.InLaw.{options_of}
use Rattle.tdb_world.specs.Courses.Stops.{OpensOnTheWay}
use Rattle.tdb_world.proofs.Courses.Stopping.{nothing_stays}
use Rattle.tdb_world.specs.Died.{IsReadAs}
use Rattle.tdb_answer.specs.declared.ending.Ending.{Ending}
use Rattle.tdb_answer.specs.declared.ending.Ending.TheVariants.{DeviceFault}
use Rattle.tdb_answer.specs.declared.ending.Unprinted.{Unprinted}
use Rattle.tdb_answer.specs.Commands.Session.{session_options, session_told, SessionOn, SessionFile, file_unopened, session_ran, SessionHeld}
use Rattle.tdb_answer.specs.Ending.{of_halt}
use Rattle.tdb_answer.specs.Input.{Input}
use Rattle.tdb_answer.specs.Looks.{ending_of}
use Rattle.tdb_open.specs.Opening.{opened_bytes, CanOpen, SameOrUndone}
use Rattle.tdb_open.specs.Opening.{OpensSafely}
use Rattle.tdb_answer.specs.Calls.{TellsCallsSince}
use Rattle.tdb_answer.specs.Safe.{StopsSince}
use Rattle.tdb_top.specs.SessionStops.{StopsOfSession, StopsServed}
use Rattle.tdb_top.proofs.StopsServing.{begun_since}
use Rattle.tdb_answer.proofs.Calling.{calls_when}
use Rattle.tdb_answer.proofs.StopsTurning.{start_opens, fresh, few_chains, halted_same, kept_left}

-- one that wasn't told as broken off by a call of the disk wasn't
unbroken : (answer : Result SessionEnd SessionFault) → (ending_of (session_told answer) ≡ DeviceFault → ⊥) → is_broken (fault_of answer) ≡ false
unbroken (Ok end) whole = refl
unbroken (Err F.Input) whole = refl
unbroken (Err F.Output) whole = refl
unbroken (Err F.Device) whole = absurd (whole refl)
unbroken (Err F.Log) whole = refl
unbroken (Err F.Memory) whole = refl

-- a session over a file
module _ (limit : ℕ) (input : Input) (old now : History) (told : Bool) (sound : Type 0) (before after : List ℕ) (logs later : List Logged) where
  -- the state of a world just loaded over what a file is read as
  fresh_loaded : (img : List ℕ) → CanOpen img → IsLoaded (form_of (opened_bytes img)) (fresh (form_of (opened_bytes img)) (session_options limit) (opened_bytes img)) (options_of (session_options limit))
  fresh_loaded img can = record {
    chains = few_chains img can;
    joined = refl;
    task = λ o. refl;
    own = λ o. refl;
    spot = λ o. refl;
    table = λ o b. refl;
    stale = refl;
    settled = refl;
    image_number = λ o. refl;
  }

  -- a file that can be opened, over which no session was begun
  unbegun_stops : CanOpen (seen old) → OpensSafely old now → (sound → SameOrUndone old now) → after ≡ before → StopsOfSession limit input old now told sound before after
  unbegun_stops can safe kept same =
      let r = opened_bytes (seen old) in
      let f = form_of r in
      let start = fresh f (session_options limit) r in
      let over : IsOver f r start = record { file = refl; number = refl } in (
        [],
        λ heard. record { before = []; after = lines_of input.text; lines = refl; ask = refl },
        start,
        λ so. kept_left f old now start can.opens.accepted over (kept so),
        record {
          old = start;
          loaded = fresh_loaded (seen old) can;
          over = over;
          lines = [];
          text = [];
          came = came_more f [] (session_parts []) start start [] [] (all_came f [] start start [] [] (refl, refl, refl));
          lawful = tt;
          printed = λ out. (0, omega arith, same ∙ sym (append-nil before));
          stops = λ quiet again calm. record {
            opens = leaves_weaker old now (Reopens r) (OpensOnTheWay f start []) (start_opens f r start [] over) (safe quiet can.opens again);
            stays = nothing_stays f old now start;
          };
          said = inl refl;
        },
      )

  -- One over which a session was begun; where the disk is sound no call of it broke that off.
  module _ (answer : Result SessionEnd SessionFault) (still : sound → ending_of (session_told answer) ≡ DeviceFault → ⊥) (on : SessionOn limit input old now told before after logs later answer) where
    abbrev Said : List Line → Type 0
    Said = SaidSo (form_of (seen on.opened)) (session_options limit) on.opened now on.mid later (fault_of answer)

    said_since : (lines : List Line) → Said lines → TellsCallsSince (session_options limit) old now sound lines
    said_since lines said = inr (on.opened, on.is_opened.reads, calls_when (form_of (seen on.opened)) (session_options limit) on.opened now (is_broken (fault_of answer) ≡ false) sound lines (λ so. unbroken answer (still so)) said.1)

    begun_stops : (orders : List Order) → (IsTrue input.tells → BeginsBy input.text orders) → (new : State) → (sound → IsReadAs (form_of (seen on.opened)) (seen now) new)
        → SessionCame (form_of (seen on.opened)) (session_options limit) (seen on.opened) orders new told before after (StopsOpen (form_of (seen on.opened)) on.opened now) Said → StopsOfSession limit input old now told sound before after
    begun_stops orders asks new left came = (
      orders,
      asks,
      new,
      λ so. inl (subst (λ i. IsReadAs (form_of i) (seen now) new) on.is_opened.reads (left so)),
      subst (λ i. SessionCame (form_of i) (session_options limit) i orders new told before after (StopsSince (form_of i) old now) (TellsCallsSince (session_options limit) old now sound)) on.is_opened.reads
          (begun_since limit input old now told before after logs later answer on Said (TellsCallsSince (session_options limit) old now sound) said_since orders new came),
    )

    -- as far as it came
    came_stops : CameSo (form_of (seen on.opened)) (session_options limit) (seen on.opened) (seen now) input.tells input.text told before after (StopsOpen (form_of (seen on.opened)) on.opened now) Said
        → StopsOfSession limit input old now told sound before after
    came_stops (orders, asks, new, came, left) = begun_stops orders asks new (λ so. left) came

  ran_stops : (answer : Result SessionEnd SessionFault) → (sound → ending_of (session_told answer) ≡ DeviceFault → ⊥) → SessionOn limit input old now told before after logs later answer → StopsOfSession limit input old now told sound before after
  ran_stops (Ok end) still on =
      begun_stops (Ok end) still on on.ran.0 (λ heard. begins input.text on.ran.0 end (on.ran.1 heard)) on.ran.2.new (λ so. on.ran.2.left)
      (over_comes (form_of (seen on.opened)) (session_options limit) (seen on.opened) on.ran.0 (seen now) told before after (StopsOpen (form_of (seen on.opened)) on.opened now) (Said (Ok end) still on) on.ran.2)
  ran_stops (Err F.Input) still on = came_stops (Err F.Input) still on on.ran
  ran_stops (Err F.Output) still on = came_stops (Err F.Output) still on on.ran
  ran_stops (Err F.Device) still on = begun_stops (Err F.Device) still on on.ran.0 on.ran.1 on.ran.2 (λ so. absurd (still so refl)) on.ran.3
  ran_stops (Err F.Log) still on = came_stops (Err F.Log) still on on.ran
  ran_stops (Err F.Memory) still on = came_stops (Err F.Memory) still on on.ran

  file_stops : (r : Result Ending Unprinted) → (sound → ending_of r ≡ DeviceFault → ⊥) → SessionFile limit input old now told before after logs later r → OpensToTurn (session_options limit) (seen old)
      → StopsOfSession limit input old now told sound before after
  file_stops _ still (file_unopened halt opened safe same heard) opens =
      unbegun_stops opens.can_open safe (λ so. halted_same (session_options limit) old now halt (λ is. still so (ap of_halt is)) opened) same
  file_stops _ still (session_ran answer on) opens = ran_stops answer still on

-- what is held at the name of its file
pub held_served : (limit : ℕ) (input : Input) (told : Bool) (sound : Type 0) (before after : List ℕ) (logs later : List Logged) (r : Result Ending Unprinted) → (sound → ending_of r ≡ DeviceFault → ⊥) → (held given : Option History)
    → SessionHeld limit input held given told before after logs later r → StopsServed limit input held given told sound before after
held_served limit input told sound before after logs later r still held given served old there opens =
    let at = subst (λ o. SessionHeld limit input o given told before after logs later r) there served in (at.0, at.1, file_stops limit input old at.0 told sound before after logs later r still at.2 opens)
