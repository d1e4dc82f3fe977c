-- What a session over a file gives, from what its parts gave.
use Rattle.std.proofs.Common.{◌≡◌, ℕ, true, List, [], ◌++◌, length, take, Option, None, Some, Result, Ok, Err, refl, sym, ◌∙◌, ap, subst, inl, inr, arith}
use Rattle.std.specs.Prelude.{Bool, IsTrue}
use Rattle.std.proofs.lemmas.List.{append-nil, take_all}
use Rattle.tdb_disk.specs.Count.{Rose}
use Rattle.tdb_disk.specs.History.{History, seen}
use Rattle.tdb_disk.specs.declared.files.TakeRefusal.{TakeRefusal}
use Rattle.tdb_disk.specs.declared.files.TakeRefusal.TheVariants as Take
use Rattle.tdb_space.specs.Form.{Form, form_of}
use Rattle.tdb_world.specs.Courses.Hearing.{Heard}
use Rattle.tdb_law.specs.Lines.{Line as LawLine}
use Rattle.tdb_law.specs.World.{State}
use Rattle.tdb_tool.proofs.Wholes.{over_comes}
use Rattle.tdb_log.specs.Logs.{Logged}
use Rattle.tdb_commands.specs.declared.line.Line.{Line}
use Rattle.tdb_tool.specs.Serving.{fault_of, HeardSo}
use Rattle.tdb_tool.specs.Whole.{SaidSo, SessionCame, StopsOpen}
use Rattle.tdb_tool.specs.declared.fault.SessionEnd.{SessionEnd}
use Rattle.tdb_tool.specs.declared.fault.SessionEnd.TheVariants as End
use Rattle.tdb_tool.specs.declared.fault.SessionFault.{SessionFault}
use Rattle.tdb_tool.specs.declared.fault.SessionFault.TheVariants as F
use Rattle.tdb_tool.specs.declared.order.Order.{Order}
use Rattle.tdb_commands.specs.declared.options.Options.{Options}
use Rattle.tdb_cmdline.specs.declared.ask.Task.TheVariants.{Session}
use Rattle.tdb_answer.specs.declared.ending.Ending.{Ending}
use Rattle.tdb_answer.specs.declared.ending.Ending.TheVariants as E
use Rattle.tdb_answer.specs.declared.ending.Reply.TheVariants.{Played}
use Rattle.tdb_answer.specs.declared.ending.Unprinted.{Unprinted}
use Rattle.tdb_open.specs.declared.halt.Halt.{Halt}
use Rattle.tdb_open.specs.declared.halt.Halt.TheVariants as H
use Rattle.tdb_answer.specs.Commands.Session.{session_options, ServesSo, no_file, file_refused, file_opened, line_bad, line_unread, RepliesFront, SessionText, HeardUnopened, IsSessionReport, FileServed, served_halt, served_report, SessionHeard, SessionOn, SessionFile, file_unopened, session_ran, SessionHeld}
use Rattle.tdb_answer.specs.Commands.Turns.{ReportHeard}
use Rattle.tdb_answer.specs.Ending.{task_failed, task_wanting, task_unlogged, Untaken, of_halt}
use Rattle.tdb_answer.specs.Input.{Input}
use Rattle.tdb_answer.specs.Looks.{ending_of, Began}
use Rattle.tdb_open.specs.Opening.{opened_bytes}
use Rattle.tdb_open.proofs.Openings.{still_safe}
use Rattle.tdb_open.specs.Notices.{BelowHeard}
use Rattle.tdb_answer.specs.Reads.{AskCause}
use Rattle.tdb_answer.proofs.Unlogged.{untaken_unlogged}

-- why a session ended so
by_lines : (input : Input) (limit : ℕ) (name : List ℕ) (held : Option History) (before after : ℕ) (e : Ending) → ServesSo input limit name held e → AskCause input (Session limit) name held before after e
by_lines input limit name held before after e so = inr (inr (inr (record { limit = limit; serves = refl; why = so })))

-- what it wrote is a front of its text
wrote_front : (f : Form) (options : Options) (a : List ℕ) (orders : List Order) (new : State) (told : Bool) (before now : List ℕ) (Stops : State → List LawLine → Type 0) (Said : List Line → Type 0) → IsTrue told
    → SessionCame f options a orders new told before now Stops Said → (text : List ℕ) × SessionCame f options a orders new true [] text (λ start lines. Unit {0}) (λ lines. Unit {0}) × (now ≡ before ++ text)
wrote_front f options a orders new told before now Stops Said heard p =
    let w = p.printed heard in (
      take w.0 p.text,
      record { old = p.old; loaded = p.loaded; over = p.over; lines = p.lines; text = p.text; came = p.came; lawful = p.lawful; printed = λ always. (w.0, w.1, refl); stops = tt; said = tt },
      w.2,
    )

module _ (limit : ℕ) (input : Input) (name : List ℕ) (h now : History) (told : Bool) (w0 w1 : List ℕ) (logs later : List Logged) where
  abbrev On : Result Ending Unprinted → Type 0
  On r = SessionFile limit input h now told w0 w1 logs later r

  module _ (held : Option History) (there : held ≡ Some h) where
    pub cause_session : (before after : ℕ) (r : Result Ending Unprinted) → On r → (ending_of r ≡ E.DeviceFault → Rose before after) → (ending_of r ≡ E.InputFault → Rose input.faults_before input.faults_after)
        → AskCause input (Session limit) name held before after (ending_of r)
    cause_session before after _ (file_unopened (H.Refused refusal) opened safe same notices) rose unread = by_lines input limit name held before after (E.Refused refusal) (file_refused h refusal there opened.0)
    cause_session before after _ (file_unopened H.Device opened safe same notices) rose unread = inl (task_failed (rose refl))
    cause_session before after _ (file_unopened H.Memory opened safe same notices) rose unread = inl task_wanting
    cause_session before after _ (file_unopened H.Log opened safe same notices) rose unread = inl task_unlogged
    cause_session before after _ (session_ran (Ok End.Ended) on) rose unread = by_lines input limit name held before after (E.Replied Played) (file_opened h there on.opens)
    cause_session before after _ (session_ran (Ok (End.Malformed at)) on) rose unread =
        by_lines input limit name held before after (E.Malformed at) (line_bad h at there on.opens (λ heard. (on.ran.0, on.ran.1 heard)))
    cause_session before after _ (session_ran (Err F.Input) on) rose unread = by_lines input limit name held before after E.InputFault (line_unread h there on.opens (unread refl))
    cause_session before after _ (session_ran (Err F.Output) on) rose unread = by_lines input limit name held before after (E.Replied Played) (file_opened h there on.opens)
    cause_session before after _ (session_ran (Err F.Device) on) rose unread = inl (task_failed (rose refl))
    cause_session before after _ (session_ran (Err F.Log) on) rose unread = inl task_unlogged
    cause_session before after _ (session_ran (Err F.Memory) on) rose unread = inl task_wanting

    -- what it wrote
    module _ (heard : IsTrue told) where
      abbrev Front : Type 0
      Front = (text : List ℕ) × RepliesFront limit (opened_bytes (seen h)) text × (w1 ≡ w0 ++ text)

      -- what stops leave since it was opened
      abbrev Opens : (answer : Result SessionEnd SessionFault) → SessionOn limit input h now told w0 w1 logs later answer → State → List LawLine → Type 0
      Opens answer on = StopsOpen (form_of (seen on.opened)) on.opened now

      -- and what is said of its lines
      abbrev Said : (answer : Result SessionEnd SessionFault) → SessionOn limit input h now told w0 w1 logs later answer → List Line → Type 0
      Said answer on = SaidSo (form_of (seen on.opened)) (session_options limit) on.opened now on.mid later (fault_of answer)

      came_front : (answer : Result SessionEnd SessionFault) (on : SessionOn limit input h now told w0 w1 logs later answer) (orders : List Order) (new : State)
          → SessionCame (form_of (seen on.opened)) (session_options limit) (seen on.opened) orders new told w0 w1 (Opens answer on) (Said answer on) → Front
      came_front answer on orders new p =
          let w = wrote_front (form_of (seen on.opened)) (session_options limit) (seen on.opened) orders new told w0 w1 (Opens answer on) (Said answer on) heard p in
          (w.0, subst (λ img. RepliesFront limit img w.0) on.is_opened.reads (orders, new, w.1), w.2)

      whole_front : (end : SessionEnd) (on : SessionOn limit input h now told w0 w1 logs later (Ok end)) → Front
      whole_front end on =
          came_front (Ok end) on on.ran.0 _ (over_comes (form_of (seen on.opened)) (session_options limit) (seen on.opened) on.ran.0 (seen now) told w0 w1 (Opens (Ok end) on) (Said (Ok end) on) on.ran.2)

      -- one that broke off
      broken_front : (fault : SessionFault) (on : SessionOn limit input h now told w0 w1 logs later (Err fault)) (orders : List Order) (new : State)
          → SessionCame (form_of (seen on.opened)) (session_options limit) (seen on.opened) orders new told w0 w1 (Opens (Err fault) on) (Said (Err fault) on) → Front
      broken_front fault on = came_front (Err fault) on

      pub began_session : (r : Result Ending Unprinted) → On r → Began (SessionText limit held) w0 w1 r
      began_session r on = subst (λ o. Began (SessionText limit o) w0 w1 r) (sym there) (of r on)
        where
          none : w1 ≡ w0 → w1 ≡ w0 ++ []
          none same = same ∙ sym (append-nil w0)

          of : (r : Result Ending Unprinted) → On r → Began (SessionText limit (Some h)) w0 w1 r
          of _ (file_unopened (H.Refused refusal) opened safe same notices) = ([], refl, none same)
          of _ (file_unopened H.Device opened safe same notices) = ([], inl refl, none same)
          of _ (file_unopened H.Memory opened safe same notices) = ([], inl refl, none same)
          of _ (file_unopened H.Log opened safe same notices) = ([], inl refl, none same)
          of _ (session_ran (Ok End.Ended) on) = whole_front End.Ended on
          of _ (session_ran (Ok (End.Malformed at)) on) = whole_front (End.Malformed at) on
          of _ (session_ran (Err F.Input) on) = broken_front F.Input on on.ran.0 on.ran.2 on.ran.3
          of _ (session_ran (Err F.Output) on) =
              let p = broken_front F.Output on on.ran.0 on.ran.2 on.ran.3 in
              (p.0, p.1, length p.0, p.2 ∙ ap (λ t. w0 ++ t) (sym (take_all (length p.0) p.0 (omega arith))))
          of _ (session_ran (Err F.Device) on) = let p = broken_front F.Device on on.ran.0 on.ran.2 on.ran.3 in (p.0, inr p.1, p.2)
          of _ (session_ran (Err F.Log) on) = let p = broken_front F.Log on on.ran.0 on.ran.2 on.ran.3 in (p.0, inr p.1, p.2)
          of _ (session_ran (Err F.Memory) on) = let p = broken_front F.Memory on on.ran.0 on.ran.2 on.ran.3 in (p.0, inr p.1, p.2)

-- what logs heard of a session over a file that is there
module _ (limit : ℕ) (input : Input) (h now : History) (told : Bool) (w0 w1 : List ℕ) (logs later : List Logged) where
  abbrev SaidBy : (answer : Result SessionEnd SessionFault) → SessionOn limit input h now told w0 w1 logs later answer → List Line → Type 0
  SaidBy answer on = SaidSo (form_of (seen on.opened)) (session_options limit) on.opened now on.mid later (fault_of answer)

  heard_lines : (answer : Result SessionEnd SessionFault) (on : SessionOn limit input h now told w0 w1 logs later answer) (orders : List Order) (new : State)
      → SessionCame (form_of (seen on.opened)) (session_options limit) (seen on.opened) orders new told w0 w1 (StopsOpen (form_of (seen on.opened)) on.opened now) (SaidBy answer on)
      → (e : Ending) → ((lines : List Line) → HeardSo (fault_of answer) on.mid lines later → ReportHeard e on.mid lines later) → FileServed limit (seen h) e logs later
  heard_lines answer on orders new p e softer =
      served_report on.mid p.lines on.opening (subst (λ img. IsSessionReport limit img p.lines) on.is_opened.reads (orders, p.old, new, p.text, p.loaded, p.over, p.came)) (softer p.lines p.said.0)

  heard_whole : (end : SessionEnd) (on : SessionOn limit input h now told w0 w1 logs later (Ok end)) (e : Ending) → ((lines : List Line) → Heard on.mid lines later → ReportHeard e on.mid lines later) → FileServed limit (seen h) e logs later
  heard_whole end on =
      heard_lines (Ok end) on on.ran.0 on.ran.2.new
      (over_comes (form_of (seen on.opened)) (session_options limit) (seen on.opened) on.ran.0 (seen now) told w0 w1 (StopsOpen (form_of (seen on.opened)) on.opened now) (SaidBy (Ok end) on) on.ran.2)

  heard_broken : (fault : SessionFault) (on : SessionOn limit input h now told w0 w1 logs later (Err fault)) (orders : List Order) (new : State)
      → SessionCame (form_of (seen on.opened)) (session_options limit) (seen on.opened) orders new told w0 w1 (StopsOpen (form_of (seen on.opened)) on.opened now) (SaidBy (Err fault) on)
      → (e : Ending) → ((lines : List Line) → HeardSo (Some fault) on.mid lines later → ReportHeard e on.mid lines later) → FileServed limit (seen h) e logs later
  heard_broken fault on = heard_lines (Err fault) on

  pub file_heard : (r : Result Ending Unprinted) → SessionFile limit input h now told w0 w1 logs later r → FileServed limit (seen h) (ending_of r) logs later
  file_heard _ (file_unopened halt opened safe same notices) = served_halt halt refl notices
  file_heard _ (session_ran (Ok End.Ended) on) = heard_whole End.Ended on (E.Replied Played) (λ lines heard. inl heard)
  file_heard _ (session_ran (Ok (End.Malformed at)) on) = heard_whole (End.Malformed at) on (E.Malformed at) (λ lines heard. inl heard)
  file_heard _ (session_ran (Err F.Input) on) = heard_broken F.Input on on.ran.0 on.ran.2 on.ran.3 E.InputFault (λ lines heard. inl heard)
  file_heard _ (session_ran (Err F.Output) on) = heard_broken F.Output on on.ran.0 on.ran.2 on.ran.3 (E.Replied Played) (λ lines heard. heard)
  file_heard _ (session_ran (Err F.Device) on) = heard_broken F.Device on on.ran.0 on.ran.2 on.ran.3 E.DeviceFault (λ lines heard. heard)
  file_heard _ (session_ran (Err F.Log) on) = heard_broken F.Log on on.ran.0 on.ran.2 on.ran.3 E.LogFault (λ lines heard. heard)
  file_heard _ (session_ran (Err F.Memory) on) = heard_broken F.Memory on on.ran.0 on.ran.2 on.ran.3 E.NoMemory (λ lines heard. heard)

-- and over what is held at the name of its file
pub session_heard : (limit : ℕ) (input : Input) (held given : Option History) (told : Bool) (w0 w1 : List ℕ) (logs later : List Logged) (r : Result Ending Unprinted) → SessionHeld limit input held given told w0 w1 logs later r → SessionHeard limit held (ending_of r) logs later
session_heard limit input None given told w0 w1 logs later r served = served.1
session_heard limit input (Some h) given told w0 w1 logs later r served = file_heard limit input h served.0 told w0 w1 logs later r served.2

-- what logs heard of an opening that halted
pub unopened_heard : (limit : ℕ) (img : List ℕ) (logs later : List Logged) (halt : Halt) → BelowHeard limit img logs later (Err halt) → HeardUnopened limit img logs later halt
unopened_heard limit img logs later (H.Refused refusal) heard = heard
unopened_heard limit img logs later H.Device heard = inr heard
unopened_heard limit img logs later H.Memory heard = inr heard
unopened_heard limit img logs later H.Log heard = heard

-- a file that wasn't taken
module _ (limit : ℕ) (input : Input) (name : List ℕ) (held : Option History) where
  module _ (before after : ℕ) where
    pub untaken_session : (refusal : TakeRefusal) (e : Ending) → (refusal ≡ Take.There → ⊥) → (refusal ≡ Take.Missing → held ≡ None) → (refusal ≡ Take.Failed → Rose before after) → Untaken name refusal e → AskCause input (Session limit) name held before after e
    untaken_session Take.Missing e free gone rose (inl is) = subst (AskCause input (Session limit) name held before after) (sym is) (by_lines input limit name held before after (E.Missing name) (no_file (gone refl)))
    untaken_session Take.Missing e free gone rose (inr is) = subst (AskCause input (Session limit) name held before after) (sym is) (inl task_wanting)
    untaken_session Take.There e free gone rose is = absurd (free refl)
    untaken_session Take.Failed e free gone rose is = subst (AskCause input (Session limit) name held before after) (sym is) (inl (task_failed (rose refl)))
    untaken_session Take.Memory e free gone rose is = subst (AskCause input (Session limit) name held before after) (sym is) (inl task_wanting)

  -- what is held where nothing was done, and no log was told
  module _ (logs : List Logged) where
    unopened_held : (o given : Option History) (told : Bool) (w : List ℕ) (halt : Halt) → given ≡ o → (of_halt halt ≡ E.LogFault → ⊥) → ((h : History) → SessionFile limit input h h told w w logs logs (Ok (of_halt halt)))
        → SessionHeld limit input o given told w w logs logs (Ok (of_halt halt))
    unopened_held None given told w halt same other file = (same, (refl, other))
    unopened_held (Some h) given told w halt same other file = (h, same, file h)

    pub wants_held : (o given : Option History) (told : Bool) (w : List ℕ) → given ≡ o → SessionHeld limit input o given told w w logs logs (Ok E.NoMemory)
    wants_held o given told w same =
        unopened_held o given told w H.Memory same (λ is. cc) (λ h. file_unopened H.Memory (inr refl) (still_safe h h refl) refl (inl refl))

    pub untaken_held : (given : Option History) (told : Bool) (w : List ℕ) (refusal : TakeRefusal) (e : Ending) → given ≡ held → (refusal ≡ Take.There → ⊥) → (refusal ≡ Take.Missing → held ≡ None) → Untaken name refusal e
        → SessionHeld limit input held given told w w logs logs (Ok e)
    untaken_held given told w Take.Missing e same free gone is = subst (λ o. SessionHeld limit input o given told w w logs logs (Ok e)) (sym (gone refl)) (same ∙ gone refl, (refl, untaken_unlogged name Take.Missing e is))
    untaken_held given told w Take.There e same free gone is = absurd (free refl)
    untaken_held given told w Take.Failed e same free gone is =
        subst (λ x. SessionHeld limit input held given told w w logs logs (Ok x)) (sym is) (unopened_held held given told w H.Device same (λ is. cc)
        (λ h. file_unopened H.Device tt (still_safe h h refl) refl (inl refl)))
    untaken_held given told w Take.Memory e same free gone is = subst (λ x. SessionHeld limit input held given told w w logs logs (Ok x)) (sym is) (wants_held held given told w same)
