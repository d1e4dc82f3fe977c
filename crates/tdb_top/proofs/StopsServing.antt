-- What stops leave of the file of a session, since before it was opened.
use Rattle.std.proofs.Common.{ℕ, List, None, Result, Ok, sym, subst}
use Rattle.std.specs.Prelude.{Bool}
use Rattle.tdb_disk.specs.History.{History, seen}
use Rattle.tdb_disk.proofs.Runs.{leaves_weaker}
use Rattle.tdb_space.specs.Form.{Form, form_of}
use Rattle.tdb_space.specs.Undoing.{Reopens}
use Rattle.tdb_law.specs.Lines.{Line as LawLine}
use Rattle.tdb_law.specs.World.{State}
use Rattle.tdb_world.specs.Courses.Hearing.{Heard}
use Rattle.tdb_log.specs.Logs.{Logged}
use Rattle.tdb_commands.specs.declared.line.Line.{Line}
use Rattle.tdb_commands.specs.declared.options.Options.{Options}
use Rattle.tdb_tool.proofs.Wholes.{over_weaker, came_weaker}
use Rattle.tdb_open.specs.Loading.{IsOpened}
use Rattle.tdb_world.specs.Loaded.{IsOver}
use Rattle.tdb_tool.specs.Whole.{StopsOpen, SaidSo, SessionOver, SessionCame, CameSo}
use Rattle.tdb_tool.specs.declared.fault.SessionEnd.{SessionEnd}
use Rattle.tdb_tool.specs.declared.fault.SessionFault.{SessionFault}
use Rattle.tdb_tool.specs.declared.order.Order.{Order}
use Rattle.tdb_world.specs.Courses.Stops.{OpensOnTheWay}
use Rattle.tdb_world.proofs.Courses.Stopping.{opens_before}
use Rattle.tdb_answer.specs.Commands.Session.{session_options, SessionOn}
use Rattle.tdb_answer.specs.Input.{Input}
use Rattle.tdb_open.specs.Opening.{opened_bytes, CanOpen}
use Rattle.tdb_open.specs.Opening.{OpensSafely}
use Rattle.tdb_answer.specs.Safe.{StopsSince}
use Rattle.tdb_answer.proofs.StopsTurning.{start_opens, opened_quiet}

-- the opening of a file, and what is done by lines from a state over it
module _ (options : Options) (old mid now : History) (can : CanOpen (seen old)) (safe : OpensSafely old mid) (opened : IsOpened options old mid) (f : Form) where
  since : (start : State) (lines : List LawLine) → IsOver f (seen mid) start → StopsOpen f mid now start lines → StopsSince f old now start lines
  since start lines over stops quiet again calm =
      opens_before f old mid now start lines
      (leaves_weaker old mid (Reopens (opened_bytes (seen old))) (OpensOnTheWay f start lines) (λ c reopens. start_opens f (seen mid) start lines over c (subst (λ r. Reopens r c) (sym opened.reads) reopens)) (safe quiet can.opens again))
      (stops (opened_quiet options old mid opened.left quiet) calm)

  module _ (orders : List Order) (told : Bool) (before after : List ℕ) (Said Says : List Line → Type 0) (softer : (lines : List Line) → Said lines → Says lines) where
    -- a session that was taken to its end, and one as far as it came
    over_since : (b : List ℕ) → SessionOver f options (seen mid) orders b told before after (StopsOpen f mid now) Said → SessionOver f options (seen mid) orders b told before after (StopsSince f old now) Says
    over_since = over_weaker f options (seen mid) orders told before after (StopsOpen f mid now) (StopsSince f old now) since Said Says softer

    pub came_since : (new : State) → SessionCame f options (seen mid) orders new told before after (StopsOpen f mid now) Said → SessionCame f options (seen mid) orders new told before after (StopsSince f old now) Says
    came_since = came_weaker f options (seen mid) orders told before after (StopsOpen f mid now) (StopsSince f old now) since Said Says softer

-- a session over a file
module _ (limit : ℕ) (input : Input) (old now : History) (told : Bool) (before after : List ℕ) (logs later : List Logged) where
  module _ (answer : Result SessionEnd SessionFault) (on : SessionOn limit input old now told before after logs later answer)
      (Said Says : List Line → Type 0) (softer : (lines : List Line) → Said lines → Says lines) where
    pub begun_since : (orders : List Order) (new : State)
        → SessionCame (form_of (seen on.opened)) (session_options limit) (seen on.opened) orders new told before after (StopsOpen (form_of (seen on.opened)) on.opened now) Said
        → SessionCame (form_of (seen on.opened)) (session_options limit) (seen on.opened) orders new told before after (StopsSince (form_of (seen on.opened)) old now) Says
    begun_since orders = came_since (session_options limit) old on.opened now on.opens.can_open on.safe on.is_opened (form_of (seen on.opened)) orders told before after Said Says softer

    pub so_since : CameSo (form_of (seen on.opened)) (session_options limit) (seen on.opened) (seen now) input.tells input.text told before after (StopsOpen (form_of (seen on.opened)) on.opened now) Said
        → CameSo (form_of (seen on.opened)) (session_options limit) (seen on.opened) (seen now) input.tells input.text told before after (StopsSince (form_of (seen on.opened)) old now) Says
    so_since (orders, asks, new, came, left) = (orders, asks, new, begun_since orders new came, left)

  pub whole_since : (end : SessionEnd) (on : SessionOn limit input old now told before after logs later (Ok end))
      → SessionOver (form_of (seen on.opened)) (session_options limit) (seen on.opened) on.ran.0 (seen now) told before after (StopsSince (form_of (seen on.opened)) old now) (λ lines. Heard on.mid lines later)
  whole_since end on =
      over_since (session_options limit) old on.opened now on.opens.can_open on.safe on.is_opened (form_of (seen on.opened)) on.ran.0 told before after
      (SaidSo (form_of (seen on.opened)) (session_options limit) on.opened now on.mid later None) (λ lines. Heard on.mid lines later) (λ lines said. said.0) (seen now) on.ran.2
