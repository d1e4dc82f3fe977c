-- Plays that are taken one after the other, and told as they are taken.
use Rattle.std.proofs.Common.{◌≡◌, ℕ, ◌+◌, ◌-◌, ◌<◌, List, [], ◌∷◌, ◌++◌, length, length-append, take, drop, take-append-drop, slice_index_or, Result, Ok, Err, refl, sym, ◌∙◌, ap, subst, arith}
use Rattle.std.specs.Prelude.{Bool, IsTrue, IsErrOf, OnOk, OnErr, false}
use Rattle.std.proofs.lemmas.List.{append_assoc, append-nil, map-append, drop_more, drop-drop}
use Rattle.std.proofs.lemmas.List.Concat.{flat_map-cons}
use Rattle.std.proofs.lemmas.Grind.{flat_map-append}
use Rattle.std.proofs.lemmas.List.{take-append-le, take_all}
use Rattle.std.proofs.Math.Seq.{take-add, take-append-add}
use Rattle.tdb_disk.specs.Count.{Rose}
use Rattle.tdb_space.specs.Form.{Form, form_in}
use Rattle.tdb_backup.specs.Dump.{WroteFront}
use Rattle.tdb_dump.specs.declared.writer.WriteRefusal.{WriteRefusal}
use Rattle.tdb_dump.specs.declared.writer.WriteRefusal.TheVariants as Untold
use Rattle.tdb_law.specs.Lines.{Line as LawLine}
use Rattle.tdb_law.specs.Plays.{Course}
use Rattle.tdb_law.specs.World.{State}
use Rattle.tdb_commands.specs.InLaw.{law_play, law_plays, law_line, law_lines}
use Rattle.tdb_commands.specs.declared.line.Line.{Line}
use Rattle.tdb_commands.specs.declared.play.Play.{Play}
use Rattle.tdb_script.specs.Text.{printed_line, report_text}
use Rattle.tdb_openers.specs.Played.{ComesTo, UnlessIo, OnIo}
use Rattle.tdb_openers.specs.declared.fault.RunFault.{RunFault}
use Rattle.tdb_openers.specs.declared.fault.RunFault.TheVariants as Run
use Rattle.tdb_world.specs.Whole.{Whole, form_at}
use Rattle.tdb_world.specs.OverFile.{OverFile, moment_of}
use Rattle.tdb_world.specs.OverFiles.Plays.{RunAnswer, is_io}
use Rattle.tdb_world.specs.Courses.Led.{Comes, Led}
use Rattle.tdb_world.specs.Courses.Unfinished.{IsEnd}
use Rattle.tdb_openers.proofs.Joining.Courses.{course_join}
use Rattle.tdb_world.proofs.Courses.Coming.{whole_comes, comes_more, comes_after}
use Rattle.tdb_world.specs.Courses.Hearing.{HeardLed, RunsAsTold}
use Rattle.tdb_log.specs.Logs.{Logged}
use Rattle.tdb_log.specs.declared.log.LogRefusal.{LogRefusal}
use Rattle.tdb_log.specs.declared.log.LogRefusal.TheVariants as Unlogged
use Rattle.tdb_world.proofs.Courses.HeardLines.{heard_joined}
use Rattle.tdb_tool.proofs.Telling.{front_all, front_after}
use Rattle.tdb_answer.specs.declared.ending.Unprinted.TheVariants as Rest
use Rattle.tdb_open.specs.declared.halt.Fault.TheVariants as F
use Rattle.tdb_world.specs.Courses.Scene.{Scene, scene, IsStateAt}
use Rattle.tdb_answer.specs.Playing.{PlaysEnd, UnlessBroken, OnBroken, TellsAll, TellsFront, RunsTo, broke_off, Ran, EndTold, WroteLines, end_of}
use Rattle.tdb_tool.specs.Serving.{HeardSo}
use Rattle.tdb_tool.proofs.Hearing.{heard_after}
use Rattle.tdb_answer.proofs.HeardPlays.{heard_end}

-- plays up to a place, the next one, and those behind it
one_more : (i : ℕ) → i + 1 - i ≡ 1
one_more i = omega arith

pub next_slice : (plays : List Play) (i : ℕ) → (take i plays ++ take (i + 1 - i) (drop i plays)) ++ drop (i + 1) plays ≡ plays
next_slice plays i =
    ap (λ n. (take i plays ++ take n (drop i plays)) ++ drop (i + 1) plays) (one_more i)
    ∙ append_assoc (take i plays) (take 1 (drop i plays)) (drop (i + 1) plays)
    ∙ ap (λ ps. take i plays ++ (take 1 (drop i plays) ++ ps)) (sym (drop-drop 1 i plays))
    ∙ ap (λ ps. take i plays ++ ps) (take-append-drop 1 (drop i plays)) ∙ take-append-drop i plays

pub slice_more : (plays : List Play) (i : ℕ) → take i plays ++ take (i + 1 - i) (drop i plays) ≡ take (i + 1) plays
slice_more plays i = ap (λ n. take i plays ++ take n (drop i plays)) (one_more i) ∙ sym (take-add i 1 plays)

-- the text of more lines
pub text_more : (lines more : List Line) → report_text (lines ++ more) ≡ report_text lines ++ report_text more
text_more lines more = flat_map-append printed_line lines more

pub front_either : (T : Type 0) (before text now : List ℕ) (r : Result (Unit {0}) WriteRefusal) → OnOk r (T → now ≡ before ++ text) → OnErr r (T → WroteFront before text now) → T → WroteFront before text now
front_either T before text now (Ok v) all front told = front_all before text now (all told)
front_either T before text now (Err e) all front told = front told

-- what holds unless the output failed is moved
pub told_map : {A B : Type 0} (answer : PlaysEnd) → (A → B) → OnOk answer A → OnOk answer B
told_map (Ok v) h a = h a
told_map (Err e) h a = tt

-- whole lines, behind others that were written
pub lines_after : (before mid now : List ℕ) (lines more : List Line) → mid ≡ before ++ report_text lines → WroteLines more mid now → WroteLines (lines ++ more) before now
lines_after before mid now lines more first (k, next) = (
  length lines + k,
  next ∙ ap (λ b. b ++ report_text (take k more)) first ∙ append_assoc before (report_text lines) (report_text (take k more)) ∙ ap (λ t. before ++ t) (sym (text_more lines (take k more)))
      ∙ ap (λ ls. before ++ report_text ls) (sym (take-append-add lines more k)),
)

-- all lines are whole lines
pub all_lines : (before now : List ℕ) (lines : List Line) → now ≡ before ++ report_text lines → WroteLines lines before now
all_lines before now lines all = (length lines, all ∙ ap (λ ls. before ++ report_text ls) (sym (take_all (length lines) lines (omega arith))))

-- a front of the text of a line, behind that of the lines before it
pub told_front : (before mid now : List ℕ) (lines : List Line) (i : ℕ) (line : Line) → i < length lines → line ≡ slice_index_or lines i line → mid ≡ before ++ report_text (take i lines) → WroteFront mid (printed_line line) now → WroteFront before (report_text lines) now
told_front before mid now lines i line inside is e w =
    subst (λ t. WroteFront before t now) (sym (text_at lines i line inside is)) (front_after before mid now (report_text (take i lines)) (printed_line line ++ report_text (drop (i + 1) lines)) e
    (w.0, omega (arith, w.1, length-append (printed_line line) (report_text (drop (i + 1) lines))), w.2 ∙ ap (λ t. mid ++ t) (sym (take-append-le w.0 (printed_line line) (report_text (drop (i + 1) lines)) w.1))))
  where
    text_at : (lines : List Line) (i : ℕ) (line : Line) → i < length lines → line ≡ slice_index_or lines i line → report_text lines ≡ report_text (take i lines) ++ (printed_line line ++ report_text (drop (i + 1) lines))
    text_at lines i line inside is =
        ap report_text (sym (take-append-drop i lines)) ∙ text_more (take i lines) (drop i lines)
        ∙ ap (λ ls. report_text (take i lines) ++ report_text ls) (drop_more lines i line inside ∙ ap (λ l. l ∷ drop (i + 1) lines) (sym is))
        ∙ ap (λ t. report_text (take i lines) ++ t) (flat_map-cons printed_line line (drop (i + 1) lines))

module _ (f : Form) (told : Bool) where
  all_then_all : (plays more : List Play) (old mid new : State) (before between now : List ℕ) (logs then later : List Logged) → TellsAll f old plays mid told before between logs then → TellsAll f mid more new told between now then later
      → TellsAll f old (plays ++ more) new told before now logs later
  all_then_all plays more old mid new before between now logs then later p q = (
    p.0 ++ q.0,
    subst (λ ps. Course f old ps (law_lines (p.0 ++ q.0)) new) (sym (map-append law_play plays more)) (subst (λ ls. Course f old (law_plays plays ++ law_plays more) ls new) (sym (map-append law_line p.0 q.0))
        (course_join f (law_plays plays) (law_plays more) old mid new (law_lines p.0) (law_lines q.0) p.1 q.1)),
    (λ heard. q.2 heard ∙ ap (λ b. b ++ report_text q.0) (p.2 heard) ∙ append_assoc before (report_text p.0) (report_text q.0) ∙ ap (λ t. before ++ t) (sym (text_more p.0 q.0))),
    heard_joined logs then later p.0 q.0 p.3 q.3,
  )

  module _ (logs then later : List Logged) (answer : PlaysEnd) where
    all_then_front : (plays more : List Play) (old mid new : State) (before between now : List ℕ) → TellsAll f old plays mid told before between logs then → TellsFront f mid more new told between now then later answer
        → TellsFront f old (plays ++ more) new told before now logs later answer
    all_then_front plays more old mid new before between now p q = (
      p.0 ++ q.0,
      subst (λ ps. ComesTo f old ps (law_lines (p.0 ++ q.0)) new) (sym (map-append law_play plays more)) (subst (λ ls. ComesTo f old (law_plays plays ++ law_plays more) ls new) (sym (map-append law_line p.0 q.0))
          (comes_after f (law_plays plays) (law_plays more) old mid new (law_lines p.0) (law_lines q.0) p.1 q.1)),
      (λ heard. subst (λ t. WroteFront before t now) (sym (text_more p.0 q.0)) (front_after before between now (report_text p.0) (report_text q.0) (p.2 heard) (q.2 heard))),
      heard_after logs then later p.0 q.0 (broke_off answer) p.3 q.3,
    )

    front_more : (plays more : List Play) (old new : State) (before now : List ℕ) → TellsFront f old plays new told before now logs later answer → TellsFront f old (plays ++ more) new told before now logs later answer
    front_more plays more old new before now p = (
      p.0,
      subst (λ ps. ComesTo f old ps (law_lines p.0) new) (sym (map-append law_play plays more)) (comes_more f (law_plays plays) (law_plays more) old new (law_lines p.0) p.1),
      p.2,
      p.3,
    )

    -- as far as plays came behind others, with still more that weren't begun
    front_behind : (plays more rest : List Play) (old mid new : State) (before between now : List ℕ) → TellsAll f old plays mid told before between logs then → TellsFront f mid more new told between now then later answer
        → TellsFront f old ((plays ++ more) ++ rest) new told before now logs later answer
    front_behind plays more rest old mid new before between now p q = front_more (plays ++ more) rest old new before now (all_then_front plays more old mid new before between now p q)

  runs_after : (plays more rest : List Play) (old mid : State) (IsLeft : State → Type 0) (before between now : List ℕ) (logs then later : List Logged) (answer : PlaysEnd) → (answer ≡ Ok (Ok tt) → ⊥)
      → TellsAll f old plays mid told before between logs then → RunsTo f mid more IsLeft told between now then later answer → RunsTo f old ((plays ++ more) ++ rest) IsLeft told before now logs later answer
  runs_after plays more rest old mid IsLeft before between now logs then later (Ok (Ok v)) other p q = absurd (other refl)
  runs_after plays more rest old mid IsLeft before between now logs then later (Ok (Err F.Device)) other p q = (q.0, front_behind logs then later (Ok (Err F.Device)) plays more rest old mid q.0 before between now p q.1)
  runs_after plays more rest old mid IsLeft before between now logs then later (Ok (Err F.Memory)) other p q = (q.0, q.1, front_behind logs then later (Ok (Err F.Memory)) plays more rest old mid q.0 before between now p q.2)
  runs_after plays more rest old mid IsLeft before between now logs then later (Ok (Err F.Log)) other p q = (q.0, q.1, front_behind logs then later (Ok (Err F.Log)) plays more rest old mid q.0 before between now p q.2)
  runs_after plays more rest old mid IsLeft before between now logs then later (Err Rest.Report) other p q = (q.0, q.1, front_behind logs then later (Err Rest.Report) plays more rest old mid q.0 before between now p q.2)
  runs_after plays more rest old mid IsLeft before between now logs then later (Err Rest.Fault) other p q = (q.0, front_behind logs then later (Err Rest.Fault) plays more rest old mid q.0 before between now p q.1)
  runs_after plays more rest old mid IsLeft before between now logs then later (Err Rest.Pairs) other p q = absurd q
  runs_after plays more rest old mid IsLeft before between now logs then later (Err Rest.Files) other p q = absurd q

-- what holds unless the disk failed is weakened, or moved
pub unless_map : {A B : Type 0} (answer : PlaysEnd) → (A → B) → UnlessBroken answer A → UnlessBroken answer B
unless_map (Ok (Ok v)) h a = h a
unless_map (Ok (Err F.Device)) h a = tt
unless_map (Ok (Err F.Memory)) h a = h a
unless_map (Ok (Err F.Log)) h a = h a
unless_map (Err Rest.Report) h a = h a
unless_map (Err Rest.Fault) h a = tt
unless_map (Err Rest.Pairs) h a = h a
unless_map (Err Rest.Files) h a = h a

pub on_map : {A B : Type 0} (answer : PlaysEnd) → (A → B) → OnBroken answer A → OnBroken answer B
on_map (Ok (Ok v)) h a = tt
on_map (Ok (Err F.Device)) h a = h a
on_map (Ok (Err F.Memory)) h a = tt
on_map (Ok (Err F.Log)) h a = tt
on_map (Err Rest.Report) h a = tt
on_map (Err Rest.Fault) h a = h a
on_map (Err Rest.Pairs) h a = tt
on_map (Err Rest.Files) h a = tt

-- what holds unless the disk failed holds where it didn't
pub unless_sound : {A : Type 0} (answer : PlaysEnd) → OnBroken answer ⊥ → UnlessBroken answer A → A
unless_sound (Ok (Ok v)) not a = a
unless_sound (Ok (Err F.Device)) not a = absurd not
unless_sound (Ok (Err F.Memory)) not a = a
unless_sound (Ok (Err F.Log)) not a = a
unless_sound (Err Rest.Report) not a = a
unless_sound (Err Rest.Fault) not a = absurd not
unless_sound (Err Rest.Pairs) not a = a
unless_sound (Err Rest.Files) not a = a

module _ (disk_tells told : Bool) where
  -- no play was taken
  pub ran_none : (start : Scene) → start.over.spent ≡ false → Ran disk_tells told start start [] (Ok (Ok tt))
  ran_none start unspent = record {
    header = refl;
    options = refl;
    unspent = unspent;
    rises = omega arith;
    quiet = refl;
    runs = λ heard state is. (state, is, ([], (refl, refl), (λ out. sym (append-nil start.written)), refl));
    rose = λ heard state is. tt;
  }

  -- plays, and then others, up to those that broke off
  module _ (start mid new : Scene) (plays more : List Play) (first : Ran disk_tells told start mid plays (Ok (Ok tt))) where
    -- the others go on from a state that the first led to
    next_runs : (answer : PlaysEnd) → Ran disk_tells told mid new more answer → IsTrue disk_tells → (state : State) → IsStateAt mid state → RunsTo (form_at start.over.world) state more (IsStateAt new) told mid.written new.written mid.logs new.logs answer
    next_runs answer next heard state is = subst (λ f. RunsTo f state more (IsStateAt new) told mid.written new.written mid.logs new.logs answer) (ap form_in first.header) (next.runs heard state is)

    pub ran_on : Ran disk_tells told mid new more (Ok (Ok tt)) → Ran disk_tells told start new (plays ++ more) (Ok (Ok tt))
    ran_on next = record {
      header = next.header ∙ first.header;
      options = next.options ∙ first.options;
      unspent = next.unspent;
      rises = omega (arith, first.rises, next.rises);
      quiet = next.quiet ∙ first.quiet;
      runs = λ heard state is.
          (let p = first.runs heard state is in
          let q = next_runs (Ok (Ok tt)) next heard p.0 p.1 in
          (q.0, q.1, all_then_all (form_at start.over.world) told plays more state p.0 q.0 start.written mid.written new.written start.logs mid.logs new.logs p.2 q.2));
      rose = λ heard state is. tt;
    }

    pub ran_off : (rest : List Play) (answer : PlaysEnd) → (answer ≡ Ok (Ok tt) → ⊥) → Ran disk_tells told mid new more answer → Ran disk_tells told start new ((plays ++ more) ++ rest) answer
    ran_off rest answer other next = record {
      header = unless_map answer (λ same. same ∙ first.header) next.header;
      options = unless_map answer (λ same. same ∙ first.options) next.options;
      unspent = next.unspent;
      rises = omega (arith, first.rises, next.rises);
      quiet = unless_map answer (λ same. same ∙ first.quiet) next.quiet;
      runs = λ heard state is.
          (let p = first.runs heard state is in
          runs_after (form_at start.over.world) told plays more rest state p.0 (IsStateAt new) start.written mid.written new.written start.logs mid.logs new.logs answer other p.2 (next_runs answer next heard p.0 p.1));
      rose = λ heard state is.
          (let p = first.runs heard state is in
          on_map answer (λ rose. subst (λ n. Rose n new.over.faults) first.quiet rose) (next.rose heard p.0 p.1));
    }

-- how plays ended that were taken and told, by both
pub unless_end : (P : Type 0) (played : Result (Result (Unit {0}) LogRefusal) RunFault) (untold : Result (Unit {0}) WriteRefusal) → UnlessIo played P → UnlessBroken (end_of played untold) P
unless_end P (Ok (Ok v)) (Ok w) p = p
unless_end P (Ok (Ok v)) (Err Untold.Memory) p = p
unless_end P (Ok (Ok v)) (Err Untold.Failed) p = p
unless_end P (Ok (Err Unlogged.Failed)) (Ok w) p = p
unless_end P (Ok (Err Unlogged.Memory)) (Ok w) p = p
unless_end P (Ok (Err Unlogged.Failed)) (Err Untold.Memory) p = p
unless_end P (Ok (Err Unlogged.Memory)) (Err Untold.Memory) p = p
unless_end P (Ok (Err refusal)) (Err Untold.Failed) p = p
unless_end P (Err Run.Memory) (Ok w) p = p
unless_end P (Err Run.Memory) (Err Untold.Memory) p = p
unless_end P (Err Run.Memory) (Err Untold.Failed) p = p
unless_end P (Err Run.Io) (Ok w) p = tt
unless_end P (Err Run.Io) (Err Untold.Memory) p = tt
unless_end P (Err Run.Io) (Err Untold.Failed) p = tt

on_end : (P : Type 0) (played : Result (Result (Unit {0}) LogRefusal) RunFault) (untold : Result (Unit {0}) WriteRefusal) → OnIo played P → OnBroken (end_of played untold) P
on_end P (Ok (Ok v)) (Ok w) p = tt
on_end P (Ok (Ok v)) (Err Untold.Memory) p = tt
on_end P (Ok (Ok v)) (Err Untold.Failed) p = tt
on_end P (Ok (Err Unlogged.Failed)) (Ok w) p = tt
on_end P (Ok (Err Unlogged.Memory)) (Ok w) p = tt
on_end P (Ok (Err Unlogged.Failed)) (Err Untold.Memory) p = tt
on_end P (Ok (Err Unlogged.Memory)) (Err Untold.Memory) p = tt
on_end P (Ok (Err refusal)) (Err Untold.Failed) p = tt
on_end P (Err Run.Memory) (Ok w) p = tt
on_end P (Err Run.Memory) (Err Untold.Memory) p = tt
on_end P (Err Run.Memory) (Err Untold.Failed) p = tt
on_end P (Err Run.Io) (Ok w) p = p
on_end P (Err Run.Io) (Err Untold.Memory) p = p
on_end P (Err Run.Io) (Err Untold.Failed) p = p

-- whole lines are told unless the output failed
pub cut_of : (T : Type 0) (before now : List ℕ) (lines : List Line) (played : Result (Result (Unit {0}) LogRefusal) RunFault) (untold : Result (Unit {0}) WriteRefusal)
    → OnOk untold (T → now ≡ before ++ report_text lines) → (IsErrOf untold Untold.Memory → T → WroteLines lines before now) → OnOk (end_of played untold) (T → WroteLines lines before now)
cut_of T before now lines (Ok (Ok v)) (Ok w) all short = λ told. all_lines before now lines (all told)
cut_of T before now lines (Ok (Ok v)) (Err Untold.Memory) all short = short refl
cut_of T before now lines (Ok (Ok v)) (Err Untold.Failed) all short = tt
cut_of T before now lines (Ok (Err refusal)) (Ok w) all short = λ told. all_lines before now lines (all told)
cut_of T before now lines (Ok (Err refusal)) (Err Untold.Memory) all short = short refl
cut_of T before now lines (Ok (Err refusal)) (Err Untold.Failed) all short = tt
cut_of T before now lines (Err Run.Memory) (Ok w) all short = λ told. all_lines before now lines (all told)
cut_of T before now lines (Err Run.Memory) (Err Untold.Memory) all short = short refl
cut_of T before now lines (Err Run.Memory) (Err Untold.Failed) all short = tt
cut_of T before now lines (Err Run.Io) (Ok w) all short = λ told. all_lines before now lines (all told)
cut_of T before now lines (Err Run.Io) (Err Untold.Memory) all short = short refl
cut_of T before now lines (Err Run.Io) (Err Untold.Failed) all short = tt

module _ (f : Form) (told : Bool) (plays : List Play) (old : State) (IsLeft : State → Type 0) (lines : List Line) (before now : List ℕ) (logs later : List Logged) where
  abbrev Part : List LawLine → State → Type 0
  Part ls s = ComesTo f old (law_plays plays) ls s

  abbrev Whole-of : Result (Unit {0}) LogRefusal → List LawLine → State → Type 0
  Whole-of v = RunsAsTold v (Course f old (law_plays plays)) Part

  part : (s : State) → Whole-of (Ok tt) (law_lines lines) s → Part (law_lines lines) s
  part s C = whole_comes f (law_plays plays) old s (law_lines lines) C

  -- a front of the text was written where all of it was
  front_whole : (IsTrue told → now ≡ before ++ report_text lines) → IsTrue told → WroteFront before (report_text lines) now
  front_whole all heard = front_all before (report_text lines) now (all heard)

  runs_by : (played : Result (Result (Unit {0}) LogRefusal) RunFault) (untold : Result (Unit {0}) WriteRefusal) → Comes played IsLeft Whole-of Part Part (law_lines lines)
      → OnOk untold (IsTrue told → now ≡ before ++ report_text lines) → OnErr untold (IsTrue told → WroteFront before (report_text lines) now) → HeardSo (broke_off (end_of played untold)) logs lines later
      → RunsTo f old plays IsLeft told before now logs later (end_of played untold)
  runs_by (Ok (Ok v)) (Ok w) C all front so = (C.0, C.1, (lines, C.2, all, so))
  runs_by (Ok (Ok v)) (Err Untold.Memory) C all front so = (C.0, C.1, (lines, part C.0 C.2, front, so))
  runs_by (Ok (Ok v)) (Err Untold.Failed) C all front so = (C.0, C.1, (lines, part C.0 C.2, front, so))
  runs_by (Ok (Err Unlogged.Failed)) (Ok w) C all front so = (C.0, C.1, (lines, C.2, front_whole all, so))
  runs_by (Ok (Err Unlogged.Memory)) (Ok w) C all front so = (C.0, C.1, (lines, C.2, front_whole all, so))
  runs_by (Ok (Err Unlogged.Failed)) (Err Untold.Memory) C all front so = (C.0, C.1, (lines, C.2, front, so))
  runs_by (Ok (Err Unlogged.Memory)) (Err Untold.Memory) C all front so = (C.0, C.1, (lines, C.2, front, so))
  runs_by (Ok (Err refusal)) (Err Untold.Failed) C all front so = (C.0, C.1, (lines, C.2, front, so))
  runs_by (Err Run.Memory) (Ok w) C all front so = (C.0, C.1, (lines, C.2, front_whole all, so))
  runs_by (Err Run.Memory) (Err Untold.Memory) C all front so = (C.0, C.1, (lines, C.2, front, so))
  runs_by (Err Run.Memory) (Err Untold.Failed) C all front so = (C.0, C.1, (lines, C.2, front, so))
  runs_by (Err Run.Io) (Ok w) C all front so = (C.0, (lines, C.1, front_whole all, so))
  runs_by (Err Run.Io) (Err Untold.Memory) C all front so = (C.0, (lines, C.1, front, so))
  runs_by (Err Run.Io) (Err Untold.Failed) C all front so = (C.0, (lines, C.1, front, so))

-- plays that were taken together, and then told
module _ (disk_tells told : Bool) (a b : OverFile) (first lines : List Line) (empty : first ≡ []) (plays : List Play) (before now : List ℕ) (logs noted : List Logged)
    (played : Result (Result (Unit {0}) LogRefusal) RunFault) (untold : Result (Unit {0}) WriteRefusal) where
  abbrev Taken : State → List LawLine → State → Type 0
  Taken s ls t = ComesTo (form_at a.world) s (law_plays plays) ls t

  abbrev Given : State → Result (Unit {0}) LogRefusal → List LawLine → State → Type 0
  Given s v = RunsAsTold v (Course (form_at a.world) s (law_plays plays)) (ComesTo (form_at a.world) s (law_plays plays))

  pub ran_of : Led disk_tells (moment_of a first) (moment_of b lines) played Given Taken Taken → b.spent ≡ is_io played
      → OnOk untold (IsTrue told → now ≡ before ++ report_text lines) → OnErr untold (IsTrue told → WroteFront before (report_text lines) now)
      → HeardLed disk_tells (moment_of a first) (moment_of b lines) logs noted played
      → Ran disk_tells told (scene a before logs) (scene b now noted) plays (end_of played untold)
  ran_of led spent all front hears = record {
    header = unless_end _ played untold led.header;
    options = unless_end _ played untold led.options;
    unspent = unless_end _ played untold (unspent_unless played spent);
    rises = led.rises;
    quiet = unless_end _ played untold led.quiet;
    runs = λ heard s is.
        runs_by (form_at a.world) told plays s (IsStateAt (scene b now noted)) lines before now logs noted played untold
        (subst (λ ls. Comes played (IsStateAt (scene b now noted)) (Given s) (Taken s) (Taken s) (law_lines ls)) (sym alone) (led.told heard s is)) all front
        (heard_end logs noted lines played untold (hears heard s lines is (ap (λ ls. ls ++ lines) (sym empty))));
    rose = λ heard s is. on_end _ played untold (led.rose heard s is);
  }
    where
      unspent_unless : (p : RunAnswer) → b.spent ≡ is_io p → UnlessIo p (b.spent ≡ false)
      unspent_unless (Ok v) spent = spent
      unspent_unless (Err Run.Memory) spent = spent
      unspent_unless (Err Run.Io) spent = tt

      alone : lines ≡ led.added
      alone = led.lines ∙ ap (λ f. f ++ led.added) empty

-- the lines of all commands that aren't done were made, and then written, or a front of them
module _ (w : Whole) (told : Bool) (before : List ℕ) where
  pub end_told : (now : List ℕ) (first lines : List Line) → first ≡ [] → (more : List Line) × (lines ≡ first ++ more) × IsEnd w more
      → (untold : Result (Unit {0}) WriteRefusal) → OnOk untold (IsTrue told → now ≡ before ++ report_text lines) → OnErr untold (IsTrue told → WroteFront before (report_text lines) now)
      → (IsErrOf untold Untold.Memory → IsTrue told → WroteLines lines before now) → EndTold w told before now (end_of (Ok (Ok tt)) untold)
  end_told now first lines empty made untold all front short = record {
    lines = lines;
    is_end = subst (IsEnd w) (sym (made.1 ∙ ap (λ f. f ++ made.0) empty)) made.2;
    whole = whole untold all;
    front = front_either (IsTrue told) before (report_text lines) now untold all front;
    cut = cut_of (IsTrue told) before now lines (Ok (Ok tt)) untold all short;
  }
    where
      whole : (r : Result (Unit {0}) WriteRefusal) → OnOk r (IsTrue told → now ≡ before ++ report_text lines) → end_of (Ok (Ok tt)) r ≡ Ok (Ok tt) → IsTrue told → now ≡ before ++ report_text lines
      whole (Ok v) all is heard = all heard
      whole (Err Untold.Memory) all is heard = let wrong : Ok (Err F.Memory) ≡ Ok (Ok tt) = is in absurd (cc)
      whole (Err Untold.Failed) all is heard = let wrong : Err Rest.Report ≡ Ok (Ok tt) = is in absurd (cc)

  -- not all of them were made
  pub end_untold : (made left : List Line) → IsEnd w (made ++ left) → EndTold w told before before (Ok (Err F.Memory))
  end_untold made left end = record {
    lines = made ++ left;
    is_end = end;
    whole = λ is. (let wrong : Ok (Err F.Memory) ≡ Ok (Ok tt) = is in absurd (cc));
    front = λ heard. (0, omega arith, sym (append-nil before));
    cut = λ heard. (0, sym (append-nil before));
  }
