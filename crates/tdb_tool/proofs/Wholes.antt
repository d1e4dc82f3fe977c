-- A session from its beginning to its end, from what its parts gave.
use Rattle.std.proofs.Common.{◌≡◌, ℕ, zero, suc, List, [], ◌∷◌, ◌++◌, length, Option, None, Some, Result, Ok, Err, refl, sym, ◌∙◌, ap, subst, inl, inr}
use Rattle.std.specs.Prelude.{Bool, IsTrue, false}
use Rattle.std.proofs.lemmas.List.{map-append}
use Rattle.tdb_disk.specs.History.{seen}
use Rattle.tdb_disk.specs.Stop.{Quiet}
use Rattle.tdb_space.specs.Accepted.{AcceptWith}
use Rattle.tdb_space.specs.Form.{Form, form_in}
use Rattle.tdb_space.specs.Opening.{Opens as FileOpens}
use Rattle.tdb_backup.specs.Dump.{WroteFront}
use Rattle.tdb_law.specs.Beginning.{IsLoaded, beginning}
use Rattle.tdb_law.specs.Lines.{Line as LawLine, IsLawful}
use Rattle.tdb_law.specs.Openers.{Map, Task}
use Rattle.tdb_law.specs.World.{State}
use Rattle.tdb_commands.specs.InLaw.{law_line, law_lines, options_of}
use Rattle.tdb_commands.specs.declared.command.Command.{Command}
use Rattle.tdb_commands.specs.declared.line.Line.{Line}
use Rattle.tdb_commands.specs.declared.line.Line.TheVariants.{Unfinished}
use Rattle.tdb_commands.specs.declared.options.Options.{Options}
use Rattle.tdb_commands.specs.declared.play.Play.{Play}
use Rattle.tdb_script.specs.Lines.{lines_of}
use Rattle.tdb_openers.proofs.Joining.Finishing.{broken_lawful}
use Rattle.tdb_openers.specs.Worlds.{World, state_in}
use Rattle.tdb_world.specs.Died.{IsReadAs}
use Rattle.tdb_world.proofs.Reopening.{state_reopens}
use Rattle.tdb_world.proofs.Courses.EndedFiles.{ended_opens}
use Rattle.tdb_world.proofs.Courses.Finishing.{report_lawful}
use Rattle.tdb_world.specs.Courses.Stops.{IsTransacted}
use Rattle.tdb_world.specs.Courses.Unfinished.{TellsUnfinished, EndsWith}
use Rattle.tdb_world.specs.Stops.{IsSafe}
use Rattle.tdb_world.specs.Whole.{form_at, options_at}
use Rattle.tdb_tool.specs.declared.fault.SessionEnd.{SessionEnd}
use Rattle.tdb_tool.specs.declared.fault.SessionFault.{SessionFault}
use Rattle.tdb_tool.specs.declared.fault.SessionFault.TheVariants as F
use Rattle.tdb_tool.specs.declared.order.Order.{Order}
use Rattle.tdb_tool.specs.Asking.{Session, BeginsBy}
use Rattle.tdb_tool.specs.Parts.{Silent, doing, parts_of, AllDone, AllCame}
use Rattle.tdb_world.specs.Courses.Scene.{Scene, IsStateAt}
use Rattle.tdb_tool.specs.Calls.{CallsFrom}
use Rattle.tdb_tool.specs.Serving.{fault_of, is_broken, UnlessBroken, HeardSo, CallsBetween, TellsAll, TellsFront, RunsTo, StopsBetween, DoneBetween, Ran, AsksFor, Served, ServedAll}
use Rattle.tdb_tool.specs.Whole.{closing, session_parts, IsClosed, SessionLed, SessionDeed, beginning_over, StopsOpen, SessionOver, SessionCame, SaidSo, SessionRan}
use Rattle.tdb_world.specs.Loaded.{IsOver, IsJustLoaded}
use Rattle.tdb_tool.proofs.Calling.{calls_from}
use Rattle.tdb_tool.proofs.Coming.{IsToo, all_is_front, unless_map, led_as}
use Rattle.tdb_tool.proofs.PartLemmas.{all_came, came_more, all_course, came_comes}
use Rattle.tdb_tool.proofs.PartsRan.{ran_on, ran_memory}
use Rattle.tdb_tool.proofs.Stops.{accepted_safe}
use Rattle.tdb_tool.proofs.Telling.{front_all}

-- a join, and the orders behind it
nothing_asked : (text : List ℕ) → BeginsBy text []
nothing_asked text = record { before = []; after = lines_of text; lines = refl; ask = refl }

module _ (d i o : Bool) (start mid later : Scene) (text : List ℕ) where
  pub join_failed : (fault : SessionFault) → Ran d o start later (Silent Play.Join ∷ []) (Some fault) → ServedAll d i o start later text (Err fault)
  join_failed fault ran = ([], λ told. nothing_asked text, ran)

  pub join_only : Ran d o start later (Silent Play.Join ∷ []) None → ServedAll d i o start later text (Err F.Memory)
  join_only ran = ([], λ told. nothing_asked text, ran_memory d o start later (Silent Play.Join ∷ []) ran)

  pub join_served : (answer : Result SessionEnd SessionFault) → Ran d o start mid (Silent Play.Join ∷ []) None → Served d i o mid later text answer → ServedAll d i o start later text answer
  join_served answer first (orders, asks, ran) = (orders, asks, ran_on d o start mid later (Silent Play.Join ∷ []) (parts_of orders) first _ ran)

pub begins : (text : List ℕ) (orders : List Order) (end : SessionEnd) → Session text orders end → BeginsBy text orders
begins text orders end s = record { before = s.before; after = s.after; lines = s.lines; ask = s.ask }

-- a session that broke off before its close, or in it, or was closed
module _ (d i o : Bool) (start mid last : Scene) (text : List ℕ) where
  front_came : (orders : List Order) → IsToo (AllCame (Silent Play.Join ∷ parts_of orders)) (AllCame (session_parts orders))
  front_came orders f old new lines text came = came_more f (Silent Play.Join ∷ parts_of orders) closing old new lines text came

  pub session_broke : (fault : SessionFault) → ServedAll d i o start mid text (Err fault) → SessionLed d i o start mid text (Err fault)
  session_broke fault (orders, asks, ran) = (
    orders,
    asks,
    led_as d o (AllDone (Silent Play.Join ∷ parts_of orders)) (AllCame (Silent Play.Join ∷ parts_of orders)) (AllCame (session_parts orders)) (AllCame (session_parts orders))
        (λ f old new lines text done. front_came orders f old new lines text (all_came f (Silent Play.Join ∷ parts_of orders) old new lines text done)) (front_came orders) start mid (Some fault) ran,
    tt,
  )

  module _ (end : SessionEnd) (served : ServedAll d i o start mid text (Ok end)) (close : Play) (is : close ≡ doing Command.Close) where
    -- its close, and all of it
    all_ran : (answer : Option SessionFault) → Ran d o mid last (Silent close ∷ []) answer → Ran d o start last (session_parts served.0) answer
    all_ran answer ran = ran_on d o start mid last (Silent Play.Join ∷ parts_of served.0) closing served.2 answer (subst (λ p. Ran d o mid last (Silent p ∷ []) answer) is ran)

    pub session_closed : Ran d o mid last (Silent close ∷ []) None → IsClosed (Ok end) last → SessionLed d i o start last text (Ok end)
    session_closed ran closed = (served.0, served.1, all_ran None ran, closed)

    pub session_unclosed : (fault : SessionFault) → Ran d o mid last (Silent close ∷ []) (Some fault) → SessionLed d i o start last text (Err fault)
    session_unclosed fault ran = (
      served.0,
      λ heard. begins text served.0 end (served.1 heard),
      led_as d o (AllDone (session_parts served.0)) (AllCame (session_parts served.0)) (AllCame (session_parts served.0)) (AllCame (session_parts served.0))
          (λ f old new lines text done. all_came f (session_parts served.0) old new lines text done) (λ f old new lines text came. came) start last (Some fault) (all_ran (Some fault) ran),
      tt,
    )

    -- its close was answered that memory was wanting
    pub session_not_closed : Ran d o mid last (Silent close ∷ []) None → SessionLed d i o start last text (Err F.Memory)
    session_not_closed ran = session_unclosed F.Memory (ran_memory d o mid last (Silent close ∷ []) ran)

-- a world whose header has this form is over the bytes of its file
pub over_self : (f : Form) (w : World) (img : List ℕ) → form_in w.header ≡ f → IsOver f img (state_in w img)
over_self f w img is = subst (λ g. IsOver g img (state_in w img)) is (record { file = refl; number = refl })

-- the lines of what isn't done in a state
unfinished_from : (s : State) (o n : ℕ) → (lines : List Line) × TellsUnfinished s o n lines
unfinished_from s o zero = ([], refl)
unfinished_from s o (suc n) = of (s.task o) refl (unfinished_from s (suc o) n)
  where
    of : (t : Option Task) → s.task o ≡ t → (lines : List Line) × TellsUnfinished s (suc o) n lines → (lines : List Line) × TellsUnfinished s o (suc n) lines
    of None e rest = (rest.0, inr (e, rest.1))
    of (Some t) e rest = (Unfinished (suc o) ∷ rest.0, inl (λ none. (let wrong : Some t ≡ None = sym e ∙ none in absurd (cc)), rest.0, refl, rest.1))

ends_some : (s : State) → (more : List Line) × EndsWith s more
ends_some s = unfinished_from s 0 s.joined

module _ (f : Form) (options : Options) (a : List ℕ) (orders : List Order) (old : State) (loaded : IsLoaded f old (options_of options)) (over : IsOver f a old) (told : Bool) (before now : List ℕ)
    (Stops : State → List LawLine → Type 0) (Said : List Line → Type 0) where
  from_map : (lines : List LawLine) → IsLawful f (beginning (options_of options) old.file old.number) lines → IsLawful f (beginning_over f options a) lines
  from_map lines lawful = subst (λ (q : Map × ℕ). IsLawful f (beginning (options_of options) q.0 q.1) lines) (λ j. (over.file j, over.number j)) lawful

  -- all of it was done
  whole : (new : State) (b : List ℕ) → IsReadAs f b new → (EndsWith new [] → FileOpens b) → (new.own 0).live ≡ false → (lines : List Line) (text : List ℕ) → AllDone (session_parts orders) f old lines text new → (IsTrue told → now ≡ before ++ text)
      → Stops old (law_lines lines) → Said lines → SessionOver f options a orders b told before now Stops Said
  whole new b read opens closed lines text done printed stops said =
      let course = all_course f (session_parts orders) old new lines text done in
      let end = ends_some new in
      record {
        old = old;
        loaded = loaded;
        over = over;
        new = new;
        lines = lines;
        text = text;
        done = done;
        left = read;
        closed = closed;
        more = end.0;
        ends = end.1;
        again = λ none. opens (subst (EndsWith new) none end.1);
        lawful = subst (λ ls. IsLawful f (beginning_over f options a) ls) (sym (map-append law_line lines end.0)) (from_map _ (report_lawful f (options_of options) old new course.0 (law_lines lines) end.0 loaded course.1 end.1));
        printed = printed;
        stops = stops;
        said = said;
      }

  -- it came to a state
  came : (new : State) (lines : List Line) (text : List ℕ) → AllCame (session_parts orders) f old lines text new → (IsTrue told → WroteFront before text now) → Stops old (law_lines lines)
      → Said lines → SessionCame f options a orders new told before now Stops Said
  came new lines text comes printed stops said =
      let coming = came_comes f (session_parts orders) old new lines text comes in
      record {
        old = old;
        loaded = loaded;
        over = over;
        lines = lines;
        text = text;
        came = comes;
        lawful = from_map (law_lines lines) (broken_lawful f (options_of options) old new coming.0 (law_lines lines) loaded coming.1);
        printed = printed;
        stops = stops;
        said = said;
      }

-- so it ran, by its answer
module _ (f : Form) (options : Options) (start last : Scene) (orders : List Order) (old : State) (loaded : IsLoaded f old (options_of options)) (over : IsOver f (seen start.over.history) old)
    (safe : Quiet start.over.history → IsSafe f start.over.history) (form : form_at start.over.world ≡ f) (same : options_at start.over.world ≡ options) (just : IsJustLoaded start.over.world start.over.history old)
    (sized : length (seen start.over.history) ≡ start.over.size) (left_sized : length (seen last.over.history) ≡ last.over.size) (told heard : Bool) (text : List ℕ) where
  abbrev Opens : State → List LawLine → Type 0
  Opens = StopsOpen f start.over.history last.over.history

  opens : (answer : Option SessionFault) (lines : List Line) → (IsSafe f start.over.history → IsTransacted f old (law_lines lines) → StopsBetween start last answer f old lines) → Opens old (law_lines lines)
  opens answer lines stops quiet calm = let S = stops (safe quiet) calm in record { opens = S.stops; stays = S.stays }

  -- logs heard of its lines, and these tell its calls from a world just loaded
  abbrev Said : Option SessionFault → List Line → Type 0
  Said = SaidSo f options start.over.history last.over.history start.logs last.logs

  says : (answer : Option SessionFault) (lines : List Line) → HeardSo answer start.logs lines last.logs → CallsBetween start last answer lines → Said answer lines
  says answer lines heard calls =
      let from = subst (λ (q : ℕ × ℕ). CallsFrom start.over.world start.over.history last.over.history q.0 q.1 (is_broken answer ≡ false) lines) (λ j. (sym sized j, sym left_sized j)) (calls_from start last answer lines calls) in
      (heard, record { world = start.over.world; form = form; options = same; state = old; just = just; from = from })

  came_front : (answer : Option SessionFault) (new : State) → TellsFront (DoneBetween start last answer (AllCame (session_parts orders))) f old new told start.written last.written
      → SessionCame f options (seen start.over.history) orders new told start.written last.written Opens (Said answer)
  came_front answer new (lines, all, (comes, stops, heard, calls), printed) =
      came f options (seen start.over.history) orders old loaded over told start.written last.written Opens (Said answer) new lines all comes printed (opens answer lines stops) (says answer lines heard calls)

  came_all : (answer : Option SessionFault) (new : State) → TellsAll (DoneBetween start last answer (AllCame (session_parts orders))) f old new told start.written last.written
      → SessionCame f options (seen start.over.history) orders new told start.written last.written Opens (Said answer)
  came_all answer new all = came_front answer new (all_is_front f told (DoneBetween start last answer (AllCame (session_parts orders))) old new start.written last.written all)

  ran_by : (answer : Result SessionEnd SessionFault) → (IsTrue heard → AsksFor text orders answer) → IsClosed answer last
      → UnlessBroken (fault_of answer) ((new : State) → IsStateAt last new → IsReadAs f (seen last.over.history) new)
      → RunsTo (DoneBetween start last (fault_of answer) (SessionDeed orders answer)) (DoneBetween start last (fault_of answer) (AllCame (session_parts orders))) f old (IsStateAt last) told
      start.written last.written (fault_of answer)
      → SessionRan f options start.over.history last.over.history heard text told start.written last.written start.logs last.logs answer
  ran_by (Ok end) asks closed read (new, is, p) = (
    orders,
    asks,
    whole f options (seen start.over.history) orders old loaded over told start.written last.written Opens (Said None) new (seen last.over.history) (read new is) (ended_opens last.over.world last.over.history new is) (closed new is) p.0 p.1 p.2.0 p.3
        (opens None p.0 p.2.1) (says None p.0 p.2.2 p.2.3),
  )
  ran_by (Err F.Input) asks closed read (new, is, p) = (orders, asks, new, came_all (Some F.Input) new p, read new is)
  ran_by (Err F.Output) asks closed read (new, is, p) = (orders, asks, new, came_front (Some F.Output) new p, read new is)
  ran_by (Err F.Device) asks closed read (left, p) = (orders, asks, left, came_front (Some F.Device) left p)
  ran_by (Err F.Log) asks closed read (new, is, p) = (orders, asks, new, came_all (Some F.Log) new p, read new is)
  ran_by (Err F.Memory) asks closed read (new, is, p) = (orders, asks, new, came_front (Some F.Memory) new p, read new is)

-- the same, from what the calls say of the moments, where the world is just loaded at the first
module _ (d heard told : Bool) (text : List ℕ) (start last : Scene) (answer : Result SessionEnd SessionFault)
    (led : SessionLed d heard told start last text answer) (tells : IsTrue d) (state : State) (just : IsJustLoaded start.over.world start.over.history state) where
  left_read : UnlessBroken (fault_of answer) ((new : State) → IsStateAt last new → IsReadAs (form_at start.over.world) (seen last.over.history) new)
  left_read = unless_map (fault_of answer) (λ kept new left. subst (λ f. IsReadAs f (seen last.over.history) new) (ap form_in kept) (state_reopens last.over.world last.over.history new left)) led.2.header

  pub session_ran : AcceptWith (form_at start.over.world) (seen start.over.history) [] → length (seen start.over.history) ≡ start.over.size → length (seen last.over.history) ≡ last.over.size
      → SessionRan (form_at start.over.world) (options_at start.over.world) start.over.history last.over.history heard text told start.written last.written start.logs last.logs answer
  session_ran accepted sized left_sized =
      ran_by (form_at start.over.world) (options_at start.over.world) start last led.0 state just.loaded just.over (accepted_safe (form_at start.over.world) start.over.history accepted)
      refl refl just sized left_sized told heard text answer led.1 led.3 left_read (led.2.runs tells state just.of_world)

-- what is said of the stops of a session, and of its lines, may be something weaker
module _ (f : Form) (options : Options) (a : List ℕ) (orders : List Order) (told : Bool) (before now : List ℕ)
    (One Two : State → List LawLine → Type 0) (weaker : (s : State) (lines : List LawLine) → IsOver f a s → One s lines → Two s lines)
    (Said Says : List Line → Type 0) (softer : (lines : List Line) → Said lines → Says lines) where
  pub over_weaker : (b : List ℕ) → SessionOver f options a orders b told before now One Said → SessionOver f options a orders b told before now Two Says
  over_weaker b p = record {
    old = p.old;
    loaded = p.loaded;
    over = p.over;
    new = p.new;
    lines = p.lines;
    text = p.text;
    done = p.done;
    left = p.left;
    closed = p.closed;
    more = p.more;
    ends = p.ends;
    again = p.again;
    lawful = p.lawful;
    printed = p.printed;
    stops = weaker p.old (law_lines p.lines) p.over p.stops;
    said = softer p.lines p.said;
  }

  pub came_weaker : (new : State) → SessionCame f options a orders new told before now One Said → SessionCame f options a orders new told before now Two Says
  came_weaker new p = record {
    old = p.old;
    loaded = p.loaded;
    over = p.over;
    lines = p.lines;
    text = p.text;
    came = p.came;
    lawful = p.lawful;
    printed = p.printed;
    stops = weaker p.old (law_lines p.lines) p.over p.stops;
    said = softer p.lines p.said;
  }

-- a session that was taken whole came as far as its end
pub over_comes : (f : Form) (options : Options) (a : List ℕ) (orders : List Order) (b : List ℕ) (told : Bool) (before now : List ℕ) (Stops : State → List LawLine → Type 0) (Said : List Line → Type 0)
    (p : SessionOver f options a orders b told before now Stops Said) → SessionCame f options a orders p.new told before now Stops Said
over_comes f options a orders b told before now Stops Said p =
    came f options a orders p.old p.loaded p.over told before now Stops Said p.new p.lines p.text (all_came f (session_parts orders) p.old p.new p.lines p.text p.done)
    (λ heard. front_all before p.text now (p.printed heard)) p.stops p.said
