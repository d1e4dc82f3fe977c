-- What stops leave of a file that is opened for turns, and of one that isn't.
use Rattle.std.proofs.Common.{◌≡◌, ℕ, List, [], ◌++◌, length, Option, None, Some, Result, Ok, Err, true, false, refl, sym, ◌∙◌, ap, subst, inl, inr, arith}
use Rattle.std.specs.Prelude.{Bool, IsTrue, OnOk, OnErr}
use Rattle.std.proofs.lemmas.Bool.{cond-false}
use Rattle.std.proofs.lemmas.List.{append-nil, take_all}
use Rattle.tdb_disk.specs.History.{History, seen}
use Rattle.tdb_disk.specs.Stop.{Quiet}
use Rattle.tdb_disk.proofs.Runs.{leaves_weaker}
use Rattle.tdb_space.specs.Accepted.{Accept, AcceptWith, Shut}
use Rattle.tdb_space.specs.Form.{Form, form_of}
use Rattle.tdb_space.specs.Opening.{is_open}
use Rattle.tdb_space.specs.Undoing.{Reopens}
use Rattle.tdb_space.proofs.Opening.Undone.{read_as_it_is}
use Rattle.tdb_law.specs.Beginning.{nobody}
use Rattle.tdb_law.specs.Images.{image_map}
use Rattle.tdb_law.specs.Lines.{Line as LawLine}
use Rattle.tdb_law.specs.Openers.{nowhere}
use Rattle.tdb_law.specs.World.{State, HasFewChains}
use Rattle.tdb_commands.specs.InLaw.{law_plays, law_lines, options_of}
use Rattle.tdb_commands.specs.declared.options.Options.{Options}
use Rattle.tdb_commands.specs.declared.play.Play.{Play}
use Rattle.tdb_steps.specs.Turns.{number_of}
use Rattle.tdb_open.specs.declared.halt.Halt.{Halt}
use Rattle.tdb_open.specs.declared.halt.Halt.TheVariants as H
use Rattle.tdb_open.specs.Loading.{IsOpened, OpensToTurn, OpenedToTurn, TurnOpened}
use Rattle.tdb_commands.specs.declared.line.Line.{Line}
use Rattle.tdb_tool.specs.Calls.{CallsFrom}
use Rattle.tdb_world.specs.Loaded.{IsOver, IsJustLoaded}
use Rattle.tdb_world.specs.Whole.{Whole, form_at, options_at}
use Rattle.tdb_openers.proofs.Joining.Courses.{course_whole}
use Rattle.tdb_world.specs.Courses.Stops.{OpensOnTheWay}
use Rattle.tdb_world.proofs.Courses.Reading.{read_only_stays}
use Rattle.tdb_world.proofs.Courses.Stopping.{nothing_stays, opens_before, passes_here}
use Rattle.tdb_answer.specs.declared.ending.Ending.{Ending}
use Rattle.tdb_answer.specs.declared.ending.Ending.TheVariants.{DeviceFault, LogFault, NoMemory, Replied}
use Rattle.tdb_answer.specs.declared.ending.Reply.TheVariants.{Played}
use Rattle.tdb_answer.specs.declared.ending.Unprinted.{Unprinted}
use Rattle.tdb_answer.specs.Ending.{text_of}
use Rattle.tdb_open.specs.Opening.{opened_bytes, CanOpen, SameOrUndone}
use Rattle.tdb_answer.specs.Output.{output_by}
use Rattle.tdb_answer.specs.Printed.{Finishes}
use Rattle.tdb_open.specs.Opening.{OpensSafely}
use Rattle.tdb_open.specs.declared.halt.Fault.TheVariants as F
use Rattle.tdb_answer.specs.Calls.{TellsCallsSince}
use Rattle.tdb_answer.specs.Playing.{PlaysEnd, end_told}
use Rattle.tdb_answer.specs.Input.{Input}
use Rattle.tdb_answer.specs.Safe.{IsLeftAs}
use Rattle.tdb_answer.specs.Stops.{StopsOver, StopsOfTurns, StopsHeld, StopsScripted, WroteLine, TellsAllLines, SaysAllLines}
use Rattle.tdb_tool.proofs.Stops.{accepted_safe}
use Rattle.tdb_answer.proofs.Calling.{since_when}
use Rattle.tdb_answer.proofs.Held.{same_held}
use Rattle.tdb_open.proofs.Openings.{still_safe}
use Rattle.tdb_answer.proofs.Runs.{opened_same}
use Rattle.tdb_open.proofs.ToTurn.{opened_short}

-- an accepted image is read as it is
own_shut : (f : Form) (img : List ℕ) → AcceptWith f img [] → opened_bytes img ≡ img
own_shut f img A = read_as_it_is (form_of img) img (subst (λ g. Shut g img) (sym A.form) A.shut)

-- the lines of plays in a world that was just loaded over an accepted file tell its calls
told_opened : (w : Whole) (h now : History) (sound : Type 0) (lines : List Line) (state : State) → IsJustLoaded w h state → AcceptWith (form_at w) (seen h) []
    → CallsFrom w h now (length (seen h)) (length (seen now)) sound lines → TellsCallsSince (options_at w) h now sound lines
told_opened w h now sound lines state just A from =
    inr (h, sym (own_shut (form_at w) (seen h) A), record { world = w; form = sym A.form; options = refl; state = state; just = just; from = from })

-- where the file is to be read alone they leave it
told_reading : (w : Whole) (h now : History) (from to : ℕ) (sound : Type 0) (lines : List Line) (state : State) → IsJustLoaded w h state → CallsFrom w h now from to sound lines → (options_at w).read_only ≡ true → seen now ≡ seen h
told_reading w h now from to sound lines state just C reads = ap seen (read_only_stays C.count w C.last h C.left now from C.size lines state just reads C.calls C.stopped)

-- a file whose gate isn't open is read as it is
shut_bytes : (img : List ℕ) → is_open (form_of img) img ≡ false → opened_bytes img ≡ img
shut_bytes img shut = cond-false (is_open (form_of img) img) _ img shut

kept_bytes : (old now : History) → is_open (form_of (seen old)) (seen old) ≡ false → SameOrUndone old now → seen now ≡ seen old
kept_bytes old now shut (inl undone) = undone.bytes ∙ shut_bytes (seen old) shut
kept_bytes old now shut (inr same) = ap seen same

-- and they tell those since the file was opened
told_since : (options : Options) (old mid now : History) (sound : Type 0) (lines : List Line) → Accept (seen mid) → seen mid ≡ opened_bytes (seen old) → TellsCallsSince options mid now sound lines → TellsCallsSince options old now sound lines
told_since options old mid now sound lines A reads (inl none) = inl none
told_since options old mid now sound lines A reads (inr (opened, is, T)) = inr (opened, is ∙ own_shut (form_of (seen mid)) (seen mid) A ∙ reads, T)

-- the output didn't fail
unfailed : {A : Type 0} (answer : PlaysEnd) → OnErr answer ⊥ → OnOk answer A → A
unfailed (Ok v) un a = a
unfailed (Err e) un a = absurd un

-- all plays in a world that was just loaded over an accepted file
pub turns_of : (w : Whole) (plays : List Play) (h now : History) (disk_tells told : Bool) (answer : PlaysEnd) (sound : Type 0) (before after : List ℕ) (state : State) → IsJustLoaded w h state → AcceptWith (form_at w) (seen h) [] → IsTrue disk_tells
    → StopsOver w disk_tells told plays answer sound h now (length (seen h)) (length (seen now)) before after
    → StopsOfTurns (form_at w) (options_at w) plays h now told (TellsAllLines answer) (OnErr answer ⊥) sound before after
turns_of w plays h now disk_tells told answer sound before after state just A heard S = record {
  lines = S.lines;
  start = state;
  loaded = just.loaded;
  over = subst (λ i. IsOver (form_at w) i state) (sym (own_shut (form_at w) (seen h) A)) just.over;
  printed = S.printed;
  whole = S.whole;
  cut = λ un. unfailed answer un S.cut;
  came = S.came heard state just.of_world;
  left = λ so. S.left so heard state just.of_world;
  calls = told_opened w h now sound S.lines state just A (S.calls heard state just.of_world);
  unwritten = λ so. told_reading w h now _ _ sound S.lines state just (S.calls heard state just.of_world);
  stops = λ quiet again calm. S.stops heard state just.of_world (accepted_safe (form_at w) h A quiet) calm;
}

-- all lines are told of turns only where they are of their plays, and the output didn't fail in one of the two alone
pub all_said : (answer : PlaysEnd) → SaysAllLines (end_told answer) → TellsAllLines answer
all_said (Ok (Ok v)) is = inl refl
all_said (Ok (Err F.Log)) is = inr refl
all_said (Ok (Err F.Device)) (inl is) = let wrong : Ok DeviceFault ≡ Ok (Replied Played) = is in absurd (cc)
all_said (Ok (Err F.Device)) (inr is) = let wrong : Ok DeviceFault ≡ Ok LogFault = is in absurd (cc)
all_said (Ok (Err F.Memory)) (inl is) = let wrong : Ok NoMemory ≡ Ok (Replied Played) = is in absurd (cc)
all_said (Ok (Err F.Memory)) (inr is) = let wrong : Ok NoMemory ≡ Ok LogFault = is in absurd (cc)
all_said (Err unprinted) (inl is) = let wrong : Err unprinted ≡ Ok (Replied Played) = is in absurd (cc)
all_said (Err unprinted) (inr is) = let wrong : Err unprinted ≡ Ok LogFault = is in absurd (cc)

pub said_unfailed : (answer : PlaysEnd) → OnErr (end_told answer) ⊥ → OnErr answer ⊥
said_unfailed (Ok (Ok v)) un = tt
said_unfailed (Ok (Err F.Device)) un = tt
said_unfailed (Ok (Err F.Memory)) un = tt
said_unfailed (Ok (Err F.Log)) un = tt
said_unfailed (Err unprinted) un = un

-- turns end as all played only where their plays are done
pub all_ended : (answer : PlaysEnd) → end_told answer ≡ Ok (Replied Played) → answer ≡ Ok (Ok tt)
all_ended (Ok (Ok v)) is = refl
all_ended (Ok (Err F.Device)) is = let wrong : Ok DeviceFault ≡ Ok (Replied Played) = is in absurd (cc)
all_ended (Ok (Err F.Memory)) is = let wrong : Ok NoMemory ≡ Ok (Replied Played) = is in absurd (cc)
all_ended (Ok (Err F.Log)) is = let wrong : Ok LogFault ≡ Ok (Replied Played) = is in absurd (cc)
all_ended (Err unprinted) is = let wrong : Err unprinted ≡ Ok (Replied Played) = is in absurd (cc)

-- what opens to an image opens to the state of a world just loaded over it
pub start_opens : (f : Form) (r : List ℕ) (start : State) (lines : List LawLine) → IsOver f r start → (c : List ℕ) → Reopens r c → OpensOnTheWay f start lines c
start_opens f r start lines over c reopens = (start, 0, passes_here f start lines, inl (record { image = r; reopens = reopens; file = over.file; number = over.number }))

-- the state of a world just loaded over an image
abbrev pub fresh : Form → Options → List ℕ → State
fresh f options img = record {
  file = image_map f img;
  table = λ o b. 0;
  joined = 0;
  task = λ o. None;
  own = λ o. nobody (options_of options);
  spot = λ o. nowhere;
  view = λ o. record { must = false; way = λ b. false };
  mark = λ o. record { inside = false; reached = 0; ahead = λ k. false };
  stale = false;
  settled = false;
  number = number_of f img;
  image_number = λ o. 0;
}

-- a file that can be opened has few chains
pub few_chains : (img : List ℕ) → CanOpen img → HasFewChains (form_of (opened_bytes img))
few_chains img can =
    let A = can.opens.accepted in
    let long = A.long in
    let short = opened_short img can.opens in
    record { some = A.some; few = omega (arith, long, short, can.within) }

-- a file that is as it was, or undone, is read as that of a state over what it was read as
pub kept_left : (f : Form) (old now : History) (start : State) → Accept (opened_bytes (seen old)) → IsOver f (opened_bytes (seen old)) start → SameOrUndone old now → IsLeftAs f (seen now) start
kept_left f old now start A over (inl undone) =
    let r = opened_bytes (seen old) in inr (subst (λ i. IsOver f i start) (sym (ap opened_bytes undone.bytes ∙ own_shut (form_of r) r A)) over)
kept_left f old now start A over (inr same) = inr (subst (λ h. IsOver f (opened_bytes (seen h)) start) (sym same) over)

-- so it is where it wasn't opened and no call failed
pub halted_same : (options : Options) (old now : History) (halt : Halt) → (halt ≡ H.Device → ⊥) → OpenedToTurn options old now (Err halt) → SameOrUndone old now
halted_same options old now (H.Refused refusal) sound opened = opened_same options old now opened.1
halted_same options old now H.Device sound opened = absurd (sound refl)
halted_same options old now H.Memory sound opened = opened
halted_same options old now H.Log sound opened = opened

-- a file that can be opened, of which no play was taken
pub unopened_stops : (options : Options) (plays : List Play) (old now : History) (told : Bool) (done unfailed sound : Type 0) (written : List ℕ) → CanOpen (seen old)
    → (options.read_only ≡ true → is_open (form_of (seen old)) (seen old) ≡ false) → OpensSafely old now → (sound → SameOrUndone old now)
    → StopsOfTurns (form_of (opened_bytes (seen old))) options plays old now told done unfailed sound written written
unopened_stops options plays old now told done unfailed sound written can shut safe kept =
    let r = opened_bytes (seen old) in
    let f = form_of r in
    let over : IsOver f r (fresh f options r) = record { file = refl; number = refl } in
    record {
      lines = [];
      start = fresh f options r;
      loaded = record {
        chains = few_chains (seen old) can;
        joined = refl;
        task = λ o. refl;
        own = λ o. refl;
        spot = λ o. refl;
        table = λ o b. refl;
        stale = refl;
        settled = refl;
        image_number = λ o. refl;
      };
      over = over;
      printed = λ out. ([], tt, 0, sym (append-nil written));
      whole = λ is out. ([], tt, sym (append-nil written));
      cut = λ un out. ([], tt, (0, sym (append-nil written)));
      came = (fresh f options r, course_whole f [] (law_plays plays) (fresh f options r) (fresh f options r) [] (refl, refl));
      left = λ so. (fresh f options r, course_whole f [] (law_plays plays) (fresh f options r) (fresh f options r) [] (refl, refl), kept_left f old now (fresh f options r) can.opens.accepted over (kept so));
      calls = inl refl;
      unwritten = λ so reads. kept_bytes old now (shut reads) (kept so);
      stops = λ quiet again calm. record {
        opens = leaves_weaker old now (Reopens r) (OpensOnTheWay f (fresh f options r) []) (start_opens f r (fresh f options r) [] over) (safe quiet can.opens again);
        stays = nothing_stays f old now (fresh f options r);
      };
    }

-- an opening for turns leaves all of the file on the medium, where it was
pub opened_quiet : (options : Options) (old mid : History) → TurnOpened options old mid → Quiet old → Quiet mid
opened_quiet options old mid (inl kept) quiet = subst Quiet (sym kept.1) quiet
opened_quiet options old mid (inr (inl undone)) quiet = undone.quiet quiet
opened_quiet options old mid (inr (inr kept)) quiet = subst Quiet (sym kept.1) quiet

-- a file that was opened, and then played over; where the run is done the plays were, and where it is sound they are
pub opened_stops : (options : Options) (plays : List Play) (old mid now : History) (told : Bool) (done unfailed sound ended printed calm : Type 0) (before after : List ℕ) → (done → ended) → (unfailed → printed) → (sound → calm)
    → CanOpen (seen old) → (options.read_only ≡ true → is_open (form_of (seen old)) (seen old) ≡ false) → OpensSafely old mid → IsOpened options old mid → Accept (seen mid)
    → StopsOfTurns (form_of (seen mid)) options plays mid now told ended printed calm before after → StopsOfTurns (form_of (opened_bytes (seen old))) options plays old now told done unfailed sound before after
opened_stops options plays old mid now told done unfailed sound ended printed calm before after to un still can shut safe opened A played =
    let r = opened_bytes (seen old) in
    let f = form_of r in
    let p : StopsOfTurns f options plays mid now told ended printed calm before after = subst (λ i. StopsOfTurns (form_of i) options plays mid now told ended printed calm before after) opened.reads played in
    let over : IsOver f r p.start = subst (λ i. IsOver f i p.start) (own_shut (form_of (seen mid)) (seen mid) A ∙ opened.reads) p.over in
    record {
      lines = p.lines;
      start = p.start;
      loaded = p.loaded;
      over = over;
      printed = p.printed;
      whole = λ is. p.whole (to is);
      cut = λ is. p.cut (un is);
      came = p.came;
      left = λ so. p.left (still so);
      calls = since_when options old now calm sound p.lines still (told_since options old mid now calm p.lines A opened.reads p.calls);
      unwritten = λ so reads. p.unwritten (still so) reads ∙ (opened.reads ∙ shut_bytes (seen old) (shut reads));
      stops = λ quiet again calm.
          opens_before f old mid now p.start (law_lines p.lines)
          (leaves_weaker old mid (Reopens r) (OpensOnTheWay f p.start (law_lines p.lines)) (start_opens f r p.start (law_lines p.lines) over) (safe quiet can.opens again))
          (p.stops (opened_quiet options old mid opened.left quiet) (inl A.shut) calm);
    }

-- the file at a name
module _ (options : Options) (plays : List Play) (held given : Option History) (told : Bool) (done unfailed sound : Type 0) where
  pub held_stops : (h now : History) (before after : List ℕ) → held ≡ Some h → given ≡ Some now → (OpensToTurn options (seen h) → StopsOfTurns (form_of (opened_bytes (seen h))) options plays h now told done unfailed sound before after)
      → StopsHeld options plays held given told done unfailed sound before after
  held_stops h now before after there left S old is =
      subst (λ x. OpensToTurn options (seen x) → (n : History) × (given ≡ Some n) × StopsOfTurns (form_of (opened_bytes (seen x))) options plays x n told done unfailed sound before after) (same_held h old held there is)
      (λ opens. (now, left, S opens))

  -- it wasn't touched
  pub same_stops : (written : List ℕ) → given ≡ held → StopsHeld options plays held given told done unfailed sound written written
  same_stops written same old is opens = (old, same ∙ is, unopened_stops options plays old old told done unfailed sound written opens.can_open opens.shut (still_safe old old refl) (λ so. inr refl))

  -- what says less often that the run is done, or that it is sound
  pub stops_when : (less printed calm : Type 0) (before after : List ℕ) → (less → done) → (printed → unfailed) → (calm → sound) → StopsHeld options plays held given told done unfailed sound before after
      → StopsHeld options plays held given told less printed calm before after
  stops_when less printed calm before after to un still S old is opens =
      let s = S old is opens in
      let p = s.2 in
      (s.0, s.1, record { lines = p.lines; start = p.start; loaded = p.loaded; over = p.over; printed = p.printed; whole = λ so. p.whole (to so); cut = λ so. p.cut (un so); came = p.came; left = λ so. p.left (still so); calls = since_when options old s.0 sound calm p.lines still p.calls; unwritten = λ so. p.unwritten (still so); stops = p.stops })

-- where no play was taken
pub unscripted_stops : (input : Input) (options : Options) (held : Option History) (told : Bool) (done unfailed sound : Type 0) (written : List ℕ) → StopsScripted input options held held told done unfailed sound written written
unscripted_stops input options held told done unfailed sound written = ([], inl refl, same_stops options [] held held told done unfailed sound written refl)

-- the line of the ending stands behind a text, or a part of the line
pub line_behind : (tells : Bool) (text after : List ℕ) (f1 f2 : ℕ) (answered : Result Ending Unprinted) (e : Ending) (status : ℕ) → Finishes answered (output_by tells text after f1 f2) e status → IsTrue tells → WroteLine text after
line_behind tells text after f1 f2 (Ok found) e status (inl all) told = (e, length (text_of e), all.written told ∙ ap (λ t. text ++ t) (sym (take_all (length (text_of e)) (text_of e) (omega arith))))
line_behind tells text after f1 f2 (Ok found) e status (inr part) told = let w = part.written told in (e, w.0, w.1)
line_behind tells text after f1 f2 (Err unprinted) e status done told = (e, 0, done.2 ∙ sym (append-nil text))
