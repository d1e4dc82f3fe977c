-- A turn that no report tells: what it leads to, and what is counted of it.
use Rattle.std.proofs.Common.{◌≡◌, ℕ, Bool, true, false, List, [], ◌∷◌, ◌++◌, Option, None, Some, Result, Ok, Err, IfOk, refl, sym, ◌∙◌, ap, subst, inl, inr}
use Rattle.std.specs.Prelude.{nat_lt, if◌then◌else◌}
use Rattle.tdb_locks.specs.declared.turn.Turn.{Turn}
use Rattle.tdb_law.specs.Lines.{Line as LawLine}
use Rattle.tdb_law.specs.Plays.{Play as LawPlay, Gives, Course}
use Rattle.tdb_law.specs.Plays.Play.{TakeTurn}
use Rattle.tdb_law.specs.World.{State}
use Rattle.tdb_log.specs.Logs.{Logged}
use Rattle.tdb_log.specs.declared.log.LogRefusal.{LogRefusal}
use Rattle.tdb_commands.specs.InLaw.{law_opener}
use Rattle.tdb_commands.specs.declared.command.Command.{Command}
use Rattle.tdb_commands.specs.declared.line.Line.{Line}
use Rattle.tdb_commands.specs.declared.line.Line.TheVariants.{Took, Grew}
use Rattle.tdb_commands.specs.declared.play.Play.TheVariants as Plays
use Rattle.tdb_space.specs.Form.{Form}
use Rattle.tdb_openers.specs.Played.{Begun, ComesTo, PlaysLast, growth}
use Rattle.tdb_openers.specs.declared.fault.RunFault.{RunFault}
use Rattle.tdb_openers.proofs.Joining.Courses.{course_then, course_last}
use Rattle.tdb_world.specs.Whole.{form_at}
use Rattle.tdb_world.specs.OverFile.{OverFile, moment_of}
use Rattle.tdb_world.specs.OverFiles.Plays.{is_io}
use Rattle.tdb_world.specs.Courses.Unreported.{AreUndoing, TurnTells, Unreported}
use Rattle.tdb_gen.specs.declared.counts.Counts.{Counts}
use Rattle.tdb_gen.specs.Counts.{counts_of, counts_with}
use Rattle.tdb_gen.specs.Taking.{end_of, end_only, Place, place, IsStateAt, TookAll, Taken, AreIdle, Rests}
use Rattle.tdb_gen.proofs.Counting.{tally, counts_tally}
use Rattle.tdb_gen.proofs.Endings.{AreCounted, all_taken, led_taken}
use Rattle.tdb_gen.proofs.Resting.{idle_uncounted, idle_stays}

-- a growth counts nothing, nor does an undo in front of a turn
growth_tally : (c : Counts) (from to : ℕ) (z : Bool) → tally c (if z then Grew from to ∷ [] else []) ≡ c
growth_tally c from to true = refl
growth_tally c from to false = refl

turn_tally : (c : Counts) (front : List Line) (who : ℕ) (command : Command) (turn : Turn) (from to : ℕ) → AreUndoing front → tally c (front ++ Took who command turn ∷ growth from to) ≡ counts_with c (Took who command turn)
turn_tally c front who command turn from to (inl e) = ap (λ ls. tally c (ls ++ Took who command turn ∷ growth from to)) e ∙ growth_tally _ from to (nat_lt from to)
turn_tally c front who command turn from to (inr (bytes, end, e)) = ap (λ ls. tally c (ls ++ Took who command turn ∷ growth from to)) e ∙ growth_tally _ from to (nat_lt from to)

-- what is counted of a turn, or of none
abbrev pub CountsTurn : ℕ → Option Turn → Counts → Counts → Type 0
CountsTurn who None before after = after ≡ before
CountsTurn who (Some turn) before after = (command : Command) → after ≡ counts_with before (Took who command turn)

none_idle : (who : ℕ) (lines : List Line) → TurnTells who None lines → AreIdle lines
none_idle who lines (inl e) = subst AreIdle (sym e) tt
none_idle who lines (inr e) = subst AreIdle (sym e) tt

turn_counted : (who : ℕ) (turn : Option Turn) (lines : List Line) (before after : Counts) → TurnTells who turn lines → CountsTurn who turn before after → AreCounted before lines after
turn_counted who None lines before after T C told e = C ∙ e ∙ sym (idle_uncounted told lines (none_idle who lines T))
turn_counted who (Some turn) lines before after (front, command, from, to, undoing, is) C told e =
    C command
    ∙ ap (λ c. counts_with c (Took who command turn)) e
    ∙ sym (ap (λ ls. counts_of (told ++ ls)) is ∙ counts_tally told (front ++ Took who command turn ∷ growth from to) ∙ turn_tally (counts_of told) front who command turn from to undoing)

module _ (t : Bool) (w v : OverFile) (before after : Counts) (logs later : List Logged) (who : ℕ) where
  abbrev Old : Place
  Old = place w before logs

  abbrev New : Place
  New = place v after later

  abbrev Told : Result (Result (Option Turn) LogRefusal) RunFault → Type 0
  Told answer = Unreported t (moment_of w []) (moment_of v []) logs later who answer

  abbrev f : Form
  f = form_at w.world

  abbrev play : LawPlay
  play = TakeTurn (law_opener who)

  -- the play alone
  whole : (state : State) (lines : List LawLine) (z : State) → Gives f state play lines z → Course f state (play ∷ []) lines z
  whole state lines z G = course_then f [] play state state z [] lines (refl, refl) G

  part : (state : State) (lines : List LawLine) (z : State) → PlaysLast f state play lines z → ComesTo f state (play ∷ []) lines z
  part state lines z L = course_last f [] [] play state state z [] lines (refl, refl) L

  counted_so : (answer : Result (Result (Option Turn) LogRefusal) RunFault) (U : Told answer) → IfOk (end_of answer) (λ turn. CountsTurn who turn before after) → IfOk (end_of answer) (λ turn. AreCounted before U.lines after)
  counted_so (Ok (Ok turn)) U C = turn_counted who turn U.lines before after U.told C
  counted_so (Ok (Err refusal)) U C = tt
  counted_so (Err fault) U C = tt

  pub turn_taken : (answer : Result (Result (Option Turn) LogRefusal) RunFault) → Told answer → IfOk (end_of answer) (λ turn. CountsTurn who turn before after) → v.spent ≡ is_io answer
      → Taken t Old New (Plays.Turn who ∷ []) (end_only (end_of answer))
  turn_taken answer U C spent =
      led_taken t w v U.lines before after logs later (Plays.Turn who ∷ []) (λ state _. Gives f state play) (λ state. Begun f state play) (λ state. PlaysLast f state play)
      (λ state _. whole state) (λ state _ lines z G. part state lines z (inr G)) (λ state lines z B. part state lines z (inl B)) part answer (counted_so answer U C) U.led U.heard spent

  pub turn_rests : Told (Ok (Ok None)) → after ≡ before → Rests t Old New (Plays.Turn who ∷ [])
  turn_rests U same tells state is =
      let idle = none_idle who U.lines U.told in
      let end =
      all_taken t w v U.lines before after logs later (Plays.Turn who ∷ []) (λ state _. Gives f state play) (λ state. Begun f state play) (λ state. PlaysLast f state play)
      (λ state _. whole state) (λ state _ lines z G. part state lines z (inr G)) (λ state lines z B. part state lines z (inl B)) part None U.led U.heard (turn_counted who None U.lines before after U.told same) tells state is in
      let stays = idle_stays f state end.0 (law_opener who) U.led.added (subst AreIdle U.led.lines idle) (U.led.told tells state is).2 in
      subst (λ z. IsStateAt New z × (all : TookAll f Old New (Plays.Turn who ∷ []) state z) × AreIdle all.lines) stays (end.1, end.2, idle)
