-- What stops leave while plays are taken and told, from play to play.
use Rattle.std.proofs.Common.{◌≡◌, ℕ, zero, suc, List, [], ◌++◌, take, Result, Ok, Err, refl, sym, ◌∙◌, ap, subst, inl, inr, arith}
use Rattle.std.specs.Prelude.{Bool, IsTrue, OnOk, OnErr, IsErrOf}
use Rattle.std.proofs.lemmas.List.{append_assoc, append-nil, map-append}
use Rattle.tdb_disk.specs.History.{History, seen}
use Rattle.tdb_disk.proofs.Runs.{leaves_start}
use Rattle.tdb_space.specs.Form.{Form}
use Rattle.tdb_space.specs.Opening.{restored}
use Rattle.tdb_space.specs.Undoing.{Reopens}
use Rattle.tdb_backup.specs.Dump.{WroteFront}
use Rattle.tdb_dump.specs.declared.writer.WriteRefusal.{WriteRefusal}
use Rattle.tdb_dump.specs.declared.writer.WriteRefusal.TheVariants as Untold
use Rattle.tdb_law.specs.Lines.{Line as LawLine}
use Rattle.tdb_law.specs.Plays.{Play as LawPlay, Course}
use Rattle.tdb_law.specs.World.{State}
use Rattle.tdb_commands.specs.InLaw.{law_play, law_plays, law_line, law_lines}
use Rattle.tdb_commands.specs.declared.line.Line.{Line}
use Rattle.tdb_commands.specs.declared.play.Play.{Play}
use Rattle.tdb_script.specs.Text.{report_text}
use Rattle.tdb_openers.specs.Played.{ComesTo, UnlessIo}
use Rattle.tdb_openers.specs.declared.fault.RunFault.{RunFault}
use Rattle.tdb_openers.specs.declared.fault.RunFault.TheVariants as Run
use Rattle.tdb_world.specs.Died.{IsReadAs}
use Rattle.tdb_world.specs.States.{IsStateOf}
use Rattle.tdb_world.specs.Stops.{IsSafe}
use Rattle.tdb_world.specs.Whole.{Whole, form_at}
use Rattle.tdb_world.proofs.Reopening.{state_reopens}
use Rattle.tdb_world.specs.Courses.Hearing.{RunsAsTold}
use Rattle.tdb_world.specs.OverFile.{OverFile, HasState, moment_of}
use Rattle.tdb_world.specs.Courses.Led.{Comes, Led, ToldCalls}
use Rattle.tdb_world.specs.Courses.Stops.{IsTransacted, Leads, OpensAndStays, OpensOnTheWay, StopsLed}
use Rattle.tdb_world.specs.Courses.Unfinished.{AreUnfinished}
use Rattle.tdb_openers.proofs.Joining.Courses.{course_join}
use Rattle.tdb_world.proofs.Courses.Coming.{whole_comes, comes_more, comes_after}
use Rattle.tdb_world.proofs.Courses.Stopping.{both_open, leads_join, nothing_stays, passes_behind, passes_front, passes_here}
use Rattle.tdb_tool.proofs.Telling.{front_after}
use Rattle.tdb_log.specs.Logs.{Logged}
use Rattle.tdb_log.specs.declared.log.LogRefusal.{LogRefusal}
use Rattle.tdb_open.specs.Opening.{log_fault}
use Rattle.tdb_open.specs.declared.halt.Fault.TheVariants as F
use Rattle.tdb_answer.specs.declared.ending.Unprinted.{Unprinted}
use Rattle.tdb_answer.specs.declared.ending.Unprinted.TheVariants as Rest
use Rattle.tdb_world.specs.Courses.Scene.{Scene, scene, IsStateAt}
use Rattle.tdb_answer.specs.Playing.{PlaysEnd, UnlessBroken, OnBroken, end_of, run_answer, IsUnbroken, WroteLines}
use Rattle.tdb_answer.specs.Stops.{CameBy, LeavesOnTheWay, StopsTold, StopsOver, OnlyUnfinished, WroteOf, WroteWhole, TellsAllLines, WroteLinesOf}
use Rattle.tdb_answer.proofs.Coming.{front_either, text_more, unless_end, unless_map, unless_sound, told_map, lines_after, cut_of}
use Rattle.tdb_answer.proofs.Calling.{calls_none, calls_of, calls_on, calls_over}

-- a report that goes on in another one is calm where both are
module _ (f : Form) (old mid : State) (front rest : List LawLine) where
  calm_front : IsTransacted f old (front ++ rest) → IsTransacted f old front
  calm_front calm s o P = calm s o (passes_front f old s front rest P)

  calm_rest : Leads f old front mid → IsTransacted f old (front ++ rest) → IsTransacted f mid rest
  calm_rest L calm s o P = calm s o (passes_behind f old mid s front rest L P)

-- where nothing is done yet a stop leaves a file that opens to the world's state
here_opens : (w : Whole) (h : History) (state : State) (lines : List LawLine) (c : List ℕ) → IsStateOf w h state → Reopens (restored (form_at w) (seen h)) c → OpensOnTheWay (form_at w) state lines c
here_opens w h state lines c is reopens =
    let read = state_reopens w h state is in
    (state, 0, passes_here (form_at w) state lines, inl (record { image = restored (form_at w) (seen h); reopens = reopens; file = read.file; number = read.number }))

module _ (disk_tells told : Bool) where
  -- no play was taken
  pub stops_none : (start : Scene) → StopsTold disk_tells told start start [] (Ok (Ok tt))
  stops_none start = record {
    lines = [];
    whole = λ is out. sym (append-nil start.written);
    cut = λ out. (0, sym (append-nil start.written));
    front = λ out. (0, omega arith, sym (append-nil start.written));
    all = λ is heard state at. (state, at, (refl, refl));
    came = λ heard state at. (state, whole_comes (form_at start.over.world) [] state state [] (refl, refl));
    left = λ heard state at. (state, at, whole_comes (form_at start.over.world) [] state state [] (refl, refl));
    calls = λ heard state at. calls_none start;
    stops = λ heard state is safe calm. record {
      stops = leaves_start start.over.history _ (λ c left. here_opens start.over.world start.over.history state [] c is (safe c left));
      stays = nothing_stays (form_at start.over.world) start.over.history start.over.history state;
      left = (state, is, ([], (refl, refl)), safe);
    };
  }

  -- plays, and then others
  module _ (start mid new : Scene) (plays more : List Play) (same : form_at mid.over.world ≡ form_at start.over.world) (answer : PlaysEnd) (first : StopsTold disk_tells told start mid plays (Ok (Ok tt))) (next : StopsTold disk_tells told mid new more answer) where
    abbrev f : Form
    f = form_at start.over.world

    abbrev both : List Line
    both = first.lines ++ next.lines

    abbrev split : law_lines both ≡ law_lines first.lines ++ law_lines next.lines
    split = map-append law_line first.lines next.lines

    -- what is so of both lists of plays, and of both lists of lines, is so of them together
    joined : (P : List LawPlay → List LawLine → Type 0) → P (law_plays plays ++ law_plays more) (law_lines first.lines ++ law_lines next.lines) → P (law_plays (plays ++ more)) (law_lines both)
    joined P = subst (λ (q : List LawPlay × List LawLine). P q.0 q.1) (λ j. (sym (map-append law_play plays more) j, sym split j))

    all_both : answer ≡ Ok (Ok tt) → IsTrue disk_tells → (state : State) → IsStateAt start state
        → (after : State) × IsStateAt new after × Course f state (law_plays (plays ++ more)) (law_lines both) after
    all_both is heard state at =
        let p = first.all refl heard state at in
        let q = subst (λ g. (after : State) × IsStateAt new after × Course g p.0 (law_plays more) (law_lines next.lines) after) same (next.all is heard p.0 p.1) in (
          q.0,
          q.1,
          joined (λ ps ls. Course f state ps ls q.0) (course_join f (law_plays plays) (law_plays more) state p.0 q.0 (law_lines first.lines) (law_lines next.lines) p.2 q.2),
        )

    came_both : IsTrue disk_tells → (state : State) → IsStateAt start state → CameBy f state (plays ++ more) both
    came_both heard state at =
        let p = first.all refl heard state at in
        let q = subst (λ g. CameBy g p.0 more next.lines) same (next.came heard p.0 p.1) in
        (q.0, joined (λ ps ls. ComesTo f state ps ls q.0) (comes_after f (law_plays plays) (law_plays more) state p.0 q.0 (law_lines first.lines) (law_lines next.lines) p.2 q.1))

    left_both : IsTrue disk_tells → (state : State) → IsStateAt start state
        → UnlessBroken answer ((after : State) × IsStateAt new after × ComesTo f state (law_plays (plays ++ more)) (law_lines both) after)
    left_both heard state at =
        let p = first.all refl heard state at in
        unless_map answer
        (λ q. (q.0, q.1, joined (λ ps ls. ComesTo f state ps ls q.0) (comes_after f (law_plays plays) (law_plays more) state p.0 q.0 (law_lines first.lines) (law_lines next.lines) p.2 q.2)))
        (subst (λ g. UnlessBroken answer ((after : State) × IsStateAt new after × ComesTo g p.0 (law_plays more) (law_lines next.lines) after)) same (next.left heard p.0 p.1))

    -- what stops leave after a state, in a form
    abbrev Goes-on : Form → State → Type 0
    Goes-on f s =
        OpensAndStays f mid.over.history new.over.history s (law_lines next.lines)
        × UnlessBroken answer ((after : State) × IsStateAt new after × Leads f s (law_lines next.lines) after × IsSafe f new.over.history)

    goes_on : IsTrue disk_tells → (s : State) → IsStateAt mid s → IsSafe f mid.over.history → IsTransacted f s (law_lines next.lines) → Goes-on f s
    goes_on heard s is = subst (λ g. IsSafe g mid.over.history → IsTransacted g s (law_lines next.lines) → Goes-on g s) same (λ safe calm. (let n = next.stops heard s is safe calm in (record { opens = n.stops; stays = n.stays }, n.left)))

    stops_both : IsTrue disk_tells → (state : State) → IsStateAt start state → IsSafe f start.over.history → IsTransacted f state (law_lines both) → LeavesOnTheWay start new answer state both
    stops_both heard state is safe calm =
        let ls = law_lines first.lines in
        let ms = law_lines next.lines in
        let c : IsTransacted f state (ls ++ ms) = subst (IsTransacted f state) split calm in
        let a = first.stops heard state is safe (calm_front f state state ls ms c) in
        let s = a.left.0 in
        let L : Leads f state ls s = a.left.2 in
        let b = goes_on heard s a.left.1 a.left.3 (calm_rest f state s ls ms L c) in
        let W = subst (OpensAndStays f start.over.history new.over.history state) (sym split)
        (both_open f start.over.history mid.over.history new.over.history state s ls ms L (record { opens = a.stops; stays = a.stays }) b.0) in
        record {
          stops = W.opens;
          stays = W.stays;
          left = unless_map answer (λ q. (q.0, q.1, subst (λ x. Leads f state x q.0) (sym split) (leads_join f state s q.0 ls ms L q.2), q.3)) b.1;
        }

    pub stops_on : StopsTold disk_tells told start new (plays ++ more) answer
    stops_on = record {
      lines = both;
      whole = λ is out. next.whole is out ∙ ap (λ b. b ++ report_text next.lines) (first.whole (inl refl) out) ∙ append_assoc start.written (report_text first.lines) (report_text next.lines) ∙ ap (λ t. start.written ++ t) (sym (text_more first.lines next.lines));
      front = λ out. subst (λ t. WroteFront start.written t new.written) (sym (text_more first.lines next.lines)) (front_after start.written mid.written new.written (report_text first.lines) (report_text next.lines) (first.whole (inl refl) out) (next.front out));
      cut = told_map answer (λ w out. lines_after start.written mid.written new.written first.lines next.lines (first.whole (inl refl) out) (w out)) next.cut;
      all = all_both;
      came = came_both;
      left = left_both;
      calls = λ heard state at. (let p = first.all refl heard state at in calls_on start mid new answer first.lines next.lines (first.calls heard state at) (next.calls heard p.0 p.1));
      stops = stops_both;
    }

  -- plays that broke off, with others behind them
  pub stops_more : (start new : Scene) (plays rest : List Play) (answer : PlaysEnd) → (answer ≡ Ok (Ok tt) → ⊥) → StopsTold disk_tells told start new plays answer → StopsTold disk_tells told start new (plays ++ rest) answer
  stops_more start new plays rest answer other t = record {
    lines = t.lines;
    whole = t.whole;
    cut = t.cut;
    front = t.front;
    all = λ is. absurd (other is);
    came = λ heard state at.
        (let q = t.came heard state at in
        (q.0, subst (λ ps. ComesTo (form_at start.over.world) state ps (law_lines t.lines) q.0) (sym (map-append law_play plays rest)) (comes_more (form_at start.over.world) (law_plays plays) (law_plays rest) state q.0 (law_lines t.lines) q.1)));
    left = λ heard state at.
        unless_map answer
        (λ q. (q.0, q.1, subst (λ ps. ComesTo (form_at start.over.world) state ps (law_lines t.lines) q.0) (sym (map-append law_play plays rest)) (comes_more (form_at start.over.world) (law_plays plays) (law_plays rest) state q.0 (law_lines t.lines) q.2)))
        (t.left heard state at);
    calls = t.calls;
    stops = t.stops;
  }

-- of lines that weren't told whole it isn't said that all were
no_memory : TellsAllLines (Ok (Err F.Memory)) → ⊥
no_memory (inl is) = let wrong : Ok (Err F.Memory) ≡ Ok (Ok tt) = is in cc
no_memory (inr is) = let wrong : Ok (Err F.Memory) ≡ Ok (Err F.Log) = is in cc

no_device : TellsAllLines (Ok (Err F.Device)) → ⊥
no_device (inl is) = let wrong : Ok (Err F.Device) ≡ Ok (Ok tt) = is in cc
no_device (inr is) = let wrong : Ok (Err F.Device) ≡ Ok (Err F.Log) = is in cc

no_failure : (e : Unprinted) → TellsAllLines (Err e) → ⊥
no_failure e (inl is) = let wrong : Err e ≡ Ok (Ok tt) = is in cc
no_failure e (inr is) = let wrong : Err e ≡ Ok (Err F.Log) = is in cc

-- all plays are done only where they were taken and told
all_done : (p : Result (Result (Unit {0}) LogRefusal) RunFault) (u : Result (Unit {0}) WriteRefusal) → end_of p u ≡ Ok (Ok tt) → (p ≡ Ok (Ok tt)) × (u ≡ Ok tt)
all_done (Ok (Ok v)) (Ok w) is = (refl, refl)
all_done (Ok (Ok v)) (Err Untold.Memory) is = let wrong : Ok (Err F.Memory) ≡ Ok (Ok tt) = is in absurd (cc)
all_done (Ok (Ok v)) (Err Untold.Failed) is = let wrong : Err Rest.Report ≡ Ok (Ok tt) = is in absurd (cc)
all_done (Ok (Err refusal)) (Ok w) is = let wrong : Ok (Err (log_fault refusal)) ≡ Ok (Ok tt) = is in absurd (cc)
all_done (Ok (Err refusal)) (Err Untold.Memory) is = let wrong : Ok (Err F.Memory) ≡ Ok (Ok tt) = is in absurd (cc)
all_done (Ok (Err refusal)) (Err Untold.Failed) is = let wrong : Err Rest.Report ≡ Ok (Ok tt) = is in absurd (cc)
all_done (Err Run.Memory) (Ok w) is = let wrong : Ok (Err F.Memory) ≡ Ok (Ok tt) = is in absurd (cc)
all_done (Err Run.Memory) (Err Untold.Memory) is = let wrong : Ok (Err F.Memory) ≡ Ok (Ok tt) = is in absurd (cc)
all_done (Err Run.Memory) (Err Untold.Failed) is = let wrong : Err Rest.Report ≡ Ok (Ok tt) = is in absurd (cc)
all_done (Err Run.Io) (Ok w) is = let wrong : Ok (Err F.Device) ≡ Ok (Ok tt) = is in absurd (cc)
all_done (Err Run.Io) (Err Untold.Memory) is = let wrong : Ok (Err F.Device) ≡ Ok (Ok tt) = is in absurd (cc)
all_done (Err Run.Io) (Err Untold.Failed) is = let wrong : Err Rest.Fault ≡ Ok (Ok tt) = is in absurd (cc)

-- all lines are told only where they were told whole
all_told : (p : Result (Result (Unit {0}) LogRefusal) RunFault) (u : Result (Unit {0}) WriteRefusal) → TellsAllLines (end_of p u) → u ≡ Ok tt
all_told p (Ok w) is = refl
all_told (Ok (Ok v)) (Err Untold.Memory) is = absurd (no_memory is)
all_told (Ok (Ok v)) (Err Untold.Failed) is = absurd (no_failure Rest.Report is)
all_told (Ok (Err refusal)) (Err Untold.Memory) is = absurd (no_memory is)
all_told (Ok (Err refusal)) (Err Untold.Failed) is = absurd (no_failure Rest.Report is)
all_told (Err Run.Memory) (Err Untold.Memory) is = absurd (no_memory is)
all_told (Err Run.Memory) (Err Untold.Failed) is = absurd (no_failure Rest.Report is)
all_told (Err Run.Io) (Err Untold.Memory) is = absurd (no_device is)
all_told (Err Run.Io) (Err Untold.Failed) is = absurd (no_failure Rest.Fault is)

-- plays that were taken together, and then told
module _ (disk_tells told : Bool) (a b : OverFile) (first lines : List Line) (empty : first ≡ []) (plays : List Play) (before now : List ℕ) (logs noted : List Logged)
    (played : Result (Result (Unit {0}) LogRefusal) RunFault) (untold : Result (Unit {0}) WriteRefusal) where
  abbrev Whole-course : State → List LawLine → State → Type 0
  Whole-course s ls t = Course (form_at a.world) s (law_plays plays) ls t

  abbrev So-far : State → List LawLine → State → Type 0
  So-far s ls t = ComesTo (form_at a.world) s (law_plays plays) ls t

  abbrev Told : Result (Result (Unit {0}) LogRefusal) RunFault → State → List Line → Type 0
  Told p s ls = Comes p (HasState b) (λ v. RunsAsTold v (Whole-course s) (So-far s)) (So-far s) (So-far s) (law_lines ls)

  -- what the lines tell from a state on, whatever broke the plays off, and to which state unless the disk failed
  far : (p : Result (Result (Unit {0}) LogRefusal) RunFault) (s : State) → Told p s lines → CameBy (form_at a.world) s plays lines
  far (Ok (Ok v)) s C = (C.0, whole_comes (form_at a.world) (law_plays plays) s C.0 (law_lines lines) C.2)
  far (Ok (Err refusal)) s C = (C.0, C.2)
  far (Err Run.Memory) s C = (C.0, C.2)
  far (Err Run.Io) s C = C

  came : (p : Result (Result (Unit {0}) LogRefusal) RunFault) (s : State) → Told p s lines → UnlessIo p ((after : State) × HasState b after × So-far s (law_lines lines) after)
  came (Ok (Ok v)) s C = (C.0, C.1, whole_comes (form_at a.world) (law_plays plays) s C.0 (law_lines lines) C.2)
  came (Ok (Err refusal)) s C = C
  came (Err Run.Memory) s C = C
  came (Err Run.Io) s C = tt

  pub stops_of : Led disk_tells (moment_of a first) (moment_of b lines) played (λ s v. RunsAsTold v (Whole-course s) (So-far s)) So-far So-far
      → StopsLed disk_tells (moment_of a first) (moment_of b lines) played → OnOk untold (IsTrue told → now ≡ before ++ report_text lines) → OnErr untold (IsTrue told → WroteFront before (report_text lines) now)
      → (IsErrOf untold Untold.Memory → IsTrue told → WroteLines lines before now) → StopsTold disk_tells told (scene a before logs) (scene b now noted) plays (end_of played untold)
  stops_of tells led all front short = record {
    lines = lines;
    whole = λ is. subst (λ r. OnOk r (IsTrue told → now ≡ before ++ report_text lines)) (all_told played untold is) all;
    cut = cut_of (IsTrue told) before now lines played untold all short;
    front = front_either (IsTrue told) before (report_text lines) now untold all front;
    all = λ is heard s at. subst (λ p. Told p s lines) (all_done played untold is).0 (from heard s at);
    came = λ heard s at. far played s (from heard s at);
    left = λ heard s at. unless_end _ played untold (came played s (from heard s at));
    calls = λ heard s at. subst (ToldCalls (moment_of a []) (moment_of b []) (run_answer (end_of played untold))) alone (calls_of a b first lines tells.added played untold (tells.calls heard s at));
    stops = λ heard state is safe calm. (let s = led heard state lines is (ap (λ ls. ls ++ lines) (sym empty)) safe calm in record { stops = s.stops; stays = s.stays; left = unless_end _ played untold s.left });
  }
    where
      alone : tells.added ≡ lines
      alone = sym (tells.lines ∙ ap (λ ls. ls ++ tells.added) empty)

      from : IsTrue disk_tells → (s : State) → HasState a s → Told played s lines
      from heard s at = subst (Told played s) alone (tells.told heard s at)

-- the lines of a world's commands that aren't done tell of nothing else
pub only_unfinished : (w : Whole) (o n : ℕ) (lines : List Line) → AreUnfinished w o n lines → OnlyUnfinished lines
only_unfinished w o zero lines is = subst OnlyUnfinished (sym is) tt
only_unfinished w o (suc n) lines (inl one) = subst OnlyUnfinished (sym one.2) ((suc o, refl), only_unfinished w (suc o) n one.1 one.3)
only_unfinished w o (suc n) lines (inr none) = only_unfinished w (suc o) n lines none.1

-- plays with nothing told behind them, or with the lines of unfinished commands or a front of their text
module _ (disk_tells told : Bool) (old new : Scene) (plays : List Play) (answer : PlaysEnd) (t : StopsTold disk_tells told old new plays answer) (sound : Type 0)
    (read : (after : State) → IsStateAt new after → UnlessBroken answer (IsReadAs (form_at old.over.world) (seen new.over.history) after))
    (unbroken : sound → IsTrue disk_tells → (state : State) → IsStateAt old state → OnBroken answer ⊥) where
  over : (end : PlaysEnd) (after : List ℕ) → (IsTrue told → WroteOf t.lines old.written after) → (TellsAllLines end → IsTrue told → WroteWhole t.lines old.written after)
      → OnOk end (IsTrue told → WroteLinesOf t.lines old.written after) → StopsOver old.over.world disk_tells told plays end sound old.over.history new.over.history old.over.size new.over.size old.written after
  over end after printed whole cut = record {
    lines = t.lines;
    printed = printed;
    whole = whole;
    cut = cut;
    came = t.came;
    left = λ so heard state at.
        (let none = unbroken so heard state at in
        let c = unless_sound answer none (t.left heard state at) in (c.0, c.2, inl (unless_sound answer none (read c.0 c.1))));
    calls = λ heard state at. calls_over old new answer t.lines sound (λ so. unbroken so heard state at) (t.calls heard state at);
    stops = λ heard state is safe calm. (let s = t.stops heard state is safe calm in record { opens = s.stops; stays = s.stays });
  }

  pub stops_broken : StopsOver old.over.world disk_tells told plays answer sound old.over.history new.over.history old.over.size new.over.size old.written new.written
  stops_broken =
      over answer new.written (λ out. (let w = t.front out in ([], tt, w.0, w.2 ∙ ap (λ ls. old.written ++ take w.0 (report_text ls)) (sym (append-nil t.lines)))))
      (λ is out. ([], tt, t.whole is out ∙ ap (λ ls. old.written ++ report_text ls) (sym (append-nil t.lines))))
      (told_map answer (λ w out. ([], tt, subst (λ ls. WroteLines ls old.written new.written) (sym (append-nil t.lines)) (w out))) t.cut)

  pub stops_finished : (more : List Line) (end : PlaysEnd) (after : List ℕ) → OnlyUnfinished more → answer ≡ Ok (Ok tt) → IsUnbroken end → (end ≡ Ok (Ok tt) → IsTrue told → after ≡ new.written ++ report_text more)
      → (IsTrue told → WroteFront new.written (report_text more) after) → OnOk end (IsTrue told → WroteLines more new.written after)
      → StopsOver old.over.world disk_tells told plays end sound old.over.history new.over.history old.over.size new.over.size old.written after
  stops_finished more end after only is unbroken_end all front cut =
      over end after
      (λ out. (let w = front_after old.written new.written after (report_text t.lines) (report_text more) (written out) (front out) in
      (more, only, w.0, w.2 ∙ ap (λ x. old.written ++ take w.0 x) (sym (text_more t.lines more)))))
      (λ so out.
      (more, only, all (unlogged end unbroken_end so) out ∙ ap (λ b. b ++ report_text more) (written out) ∙ append_assoc old.written (report_text t.lines) (report_text more) ∙ ap (λ x. old.written ++ x) (sym (text_more t.lines more))))
      (told_map end (λ w out. (more, only, lines_after old.written new.written after t.lines more (written out) (w out))) cut)
    where
      written : IsTrue told → new.written ≡ old.written ++ report_text t.lines
      written out = t.whole (inl is) out

      -- no log failed behind the plays
      unlogged : (e : PlaysEnd) → IsUnbroken e → TellsAllLines e → e ≡ Ok (Ok tt)
      unlogged e un (inl done) = done
      unlogged (Ok (Ok v)) un (inr log) = refl
      unlogged (Ok (Err F.Device)) un (inr log) = absurd un
      unlogged (Ok (Err F.Log)) un (inr log) = absurd un
      unlogged (Ok (Err F.Memory)) un (inr log) = absurd (no_memory (inr log))
      unlogged (Err e) un (inr log) = absurd (no_failure e (inr log))
