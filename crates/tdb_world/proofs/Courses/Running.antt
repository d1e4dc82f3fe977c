-- Plays in a row of which logs are told: what they lead to, and what logs heard, where they go on, where a log refuses
-- and where one breaks off.
use Rattle.std.proofs.Common.{◌≡◌, ℕ, take, drop, length, get_or, ◌+◌, ◌<◌, Bool, List, [], ◌++◌, Result, Ok, Err, inl, inr, refl, sym, ◌∙◌, ap, subst, append-nil}
use Rattle.std.proofs.lemmas.List.{take-append-drop, map-append}
use Rattle.tdb_space.specs.Form.{Form}
use Rattle.tdb_law.specs.World.{State}
use Rattle.tdb_law.specs.Lines.{Line as LawLine}
use Rattle.tdb_law.specs.Plays.{Course}
use Rattle.tdb_log.specs.Logs.{Logged}
use Rattle.tdb_log.specs.declared.log.LogRefusal.{LogRefusal}
use Rattle.tdb_commands.specs.declared.line.Line.{Line}
use Rattle.tdb_commands.specs.declared.play.Play.{Play as CodePlay}
use Rattle.tdb_commands.specs.InLaw.{law_play, law_plays}
use Rattle.tdb_openers.specs.declared.fault.RunFault.{RunFault}
use Rattle.tdb_openers.specs.Played.{ComesTo}
use Rattle.tdb_openers.proofs.Joining.Courses.{course_whole}
use Rattle.tdb_world.specs.Whole.{form_at}
use Rattle.tdb_world.specs.Courses.Hearing.{Heard, HeardBy, HeardLed, RunsAsTold}
use Rattle.tdb_world.specs.Courses.Led.{Moment, Led}
use Rattle.tdb_world.specs.Courses.Told.{PlayLed}
use Rattle.tdb_world.proofs.Courses.Going.{plays_joined}
use Rattle.tdb_world.proofs.Courses.HeardLines.{heard_joined, heard_then_refused}
use Rattle.tdb_world.proofs.Courses.Leading.{led_whole, led_fault, lines_join}
use Rattle.tdb_world.proofs.Courses.Stopping.{same_added}

-- what plays in a row lead to
abbrev pub RunLed : Bool → Moment → Moment → Result (Result (Unit {0}) LogRefusal) RunFault → List CodePlay → Type 0
RunLed tells old new answer plays =
    Led tells old new answer (λ state told. RunsAsTold told (Course (form_at old.world) state (law_plays plays)) (ComesTo (form_at old.world) state (law_plays plays)))
    (λ state. ComesTo (form_at old.world) state (law_plays plays)) (λ state. ComesTo (form_at old.world) state (law_plays plays))

-- those in front were taken whole
front_taken : (f : Form) (plays : List CodePlay) (j : ℕ) (state z : State) (lines : List LawLine) → Course f state (law_plays (take j plays)) lines z → ComesTo f state (law_plays plays) lines z
front_taken f plays j state z lines C =
    subst (λ ps. ComesTo f state ps lines z) (sym (map-append law_play (take j plays) (drop j plays)) ∙ ap law_plays (take-append-drop j plays))
    (course_whole f (law_plays (take j plays)) (law_plays (drop j plays)) state z lines C)

-- what logs heard of lines, and then of more
pub heard_behind : {V : Type 0} (old mid new : List Logged) (front rest : List Line) (answer : Result (Result V LogRefusal) RunFault) → Heard old front mid → HeardBy mid rest new answer → HeardBy old (front ++ rest) new answer
heard_behind old mid new front rest (Ok (Ok v)) one two = heard_joined old mid new front rest one two
heard_behind old mid new front rest (Ok (Err refusal)) one two = heard_then_refused refusal old mid new front rest one two
heard_behind old mid new front rest (Err fault) one (inl two) = inl (heard_joined old mid new front rest one two)
heard_behind old mid new front rest (Err fault) one (inr two) = inr (two.0, heard_then_refused two.0 old mid new front rest one two.1)

-- they heard of nothing where nothing was added
pub heard_none : (tells : Bool) (m : Moment) (logs : List Logged) → HeardLed {V = Unit {0}} tells m m logs logs (Ok (Ok tt))
heard_none tells m logs sees state added is e = subst (λ ls. Heard logs ls logs) (same_added m.lines m.lines [] added (sym (append-nil m.lines)) e) refl

-- a play behind those in front
module _ (tells : Bool) (old mid new : Moment) (plays : List CodePlay) (i : ℕ) (x : CodePlay) (low : i < length plays) (is_next : x ≡ get_or plays i x) (PA LA : State → List LawLine → State → Type 0)
    (A : Led {V = Unit {0}} tells old mid (Ok tt) (λ state _. Course (form_at old.world) state (law_plays (take i plays))) PA LA) where
  pub run_more : (told : Result (Unit {0}) LogRefusal) → PlayLed tells mid new (Ok told) (law_play x)
      → Led {V = Unit {0}} tells old new (Ok tt) (λ state _. Course (form_at old.world) state (law_plays (take (i + 1) plays))) (λ state. ComesTo (form_at old.world) state (law_plays plays)) (λ state. ComesTo (form_at old.world) state (law_plays plays))
  run_more told B = plays_joined tells old mid new plays i x low is_next PA LA A (Ok tt) (led_whole tells mid new _ _ _ _ _ _ told tt B (λ state lines z is G. G))

  pub run_refused : (refusal : LogRefusal) → PlayLed {V = Result (Unit {0}) LogRefusal} tells mid new (Ok (Err refusal)) (law_play x) → RunLed tells old new (Ok (Err refusal)) plays
  run_refused refusal B = led_whole tells old new _ _ _ _ _ _ tt (Err refusal) (run_more (Err refusal) B) (λ state lines z is C. front_taken (form_at old.world) plays (i + 1) state z lines C)

  pub run_fault : (fault : RunFault) → PlayLed {V = Result (Unit {0}) LogRefusal} tells mid new (Err fault) (law_play x) → RunLed tells old new (Err fault) plays
  run_fault fault B =
      led_fault {V = Unit {0}} tells old new _ _ _ _ _ _ fault
      (plays_joined tells old mid new plays i x low is_next PA LA A (Err fault) (led_fault {V = Result (Unit {0}) LogRefusal} tells mid new _ _ _ _ _ _ fault B (λ state lines z is P. P) (λ state lines z is L. L)))
      (λ state lines z is T. T) (λ state lines z is T. T)

  pub run_heard : (before between after : List Logged) (rest : List Line) → new.lines ≡ mid.lines ++ rest → HeardLed {V = Unit {0}} tells old mid before between (Ok (Ok tt))
      → (answer : Result (Result (Unit {0}) LogRefusal) RunFault) → HeardLed tells mid new between after answer → HeardLed tells old new before after answer
  run_heard before between after rest two H answer K sees state added is e =
      let end = A.told sees state is in
      subst (λ ls. HeardBy before ls after answer) (same_added old.lines new.lines (A.added ++ rest) added (lines_join old.lines mid.lines new.lines A.added rest A.lines two) e)
      (heard_behind before between after A.added rest answer (H sees state A.added is A.lines) (K sees end.0 rest end.1 two))
