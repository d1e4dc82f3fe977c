-- The calls in a world that may only read leave the file.
use Rattle.std.proofs.Common.{◌≡◌, ℕ, zero, suc, true, false, List, [], ◌∷◌, ◌++◌, sym, ◌∙◌, ap, subst, append_assoc, append-nil}
use Rattle.tdb_disk.specs.History.{History}
use Rattle.tdb_space.specs.Form.{Form}
use Rattle.tdb_law.specs.Commands.{Command, Turn}
use Rattle.tdb_law.specs.Lines.{Line as LawLine}
use Rattle.tdb_law.specs.Plays.{Advances, Gives, Goes, Play, most_turns}
use Rattle.tdb_law.specs.Plays.Gives.{gives_answer, gives_opener, gives_command, gives_turn, gives_turns, gives_all, gives_death}
use Rattle.tdb_law.specs.World.{State}
use Rattle.tdb_commands.specs.InLaw.{law_line, law_lines, law_opener}
use Rattle.tdb_commands.specs.declared.line.Line.{Line}
use Rattle.tdb_commands.specs.declared.options.Options.{Options}
use Rattle.tdb_commands.specs.declared.line.Line.TheVariants as Lines
use Rattle.tdb_world.specs.States.{IsStateOf}
use Rattle.tdb_world.specs.Whole.{form_at, options_at, Whole}
use Rattle.tdb_world.specs.Courses.Calls.{Calls, TellNoCall, TellsNoCall}
use Rattle.tdb_world.specs.Courses.Calls.Calls.{calls_nothing, calls_turn, calls_undo, calls_unmeasured}
use Rattle.tdb_world.specs.Courses.Laws.{ReadOnlyFilesStay}
use Rattle.tdb_world.specs.Courses.Led.{CallsTell}
use Rattle.tdb_world.specs.Courses.Stopped.{StoppedCall}
use Rattle.tdb_world.specs.Courses.Stopped.StoppedCall.{stopped_still, stopped_turn, stopped_undo, stopped_untold}
use Rattle.tdb_world.proofs.Courses.OneTurn.{stale_in}
use Rattle.tdb_world.proofs.Reading.{death_reading, gift_reading, join_reading, loaded_reading, reading_writes_nothing, state_must, turned_reading, AllReading}

-- lines that tell no call tell no turn
took_not : (line : Line) (o : ℕ) (c : Command) (turn : Turn) → law_line line ≡ LawLine.Took o c turn → TellsNoCall line → ⊥
took_not (Lines.Joined who) o c turn e T = cc e
took_not (Lines.JoinBlocked owner) o c turn e T = cc e
took_not Lines.JoinMany o c turn e T = cc e
took_not Lines.JoinMemory o c turn e T = cc e
took_not (Lines.Took who command turned) o c turn e T = T
took_not (Lines.Grew from to) o c turn e T = T
took_not (Lines.Absent who) o c turn e T = cc e
took_not (Lines.Idle who) o c turn e T = cc e
took_not (Lines.Occupied who) o c turn e T = cc e
took_not (Lines.LogsLeft count) o c turn e T = cc e
took_not (Lines.Unfinished who) o c turn e T = cc e
took_not (Lines.Died who) o c turn e T = cc e
took_not (Lines.Undone bytes to) o c turn e T = T

none_took : (lines : List Line) (a b : List LawLine) (o : ℕ) (c : Command) (turn : Turn) → law_lines lines ≡ a ++ LawLine.Took o c turn ∷ b → TellNoCall lines → ⊥
none_took [] [] b o c turn e T = cc e
none_took [] (x ∷ a) b o c turn e T = cc e
none_took (line ∷ lines) [] b o c turn e T = took_not line o c turn (let first : law_line line ≡ LawLine.Took o c turn = cc e in first) T.0
none_took (line ∷ lines) (x ∷ a) b o c turn e T = none_took lines a b o c turn (let behind : law_lines lines ≡ a ++ LawLine.Took o c turn ∷ b = cc e in behind) T.1

no_advance : (f : Form) (old new : State) (who : ℕ) (turn : Turn) (lines : List Line) (told rest : List LawLine) → law_lines lines ≡ told ++ rest → TellNoCall lines → Advances f old who turn told new → ⊥
no_advance f old new who turn lines told rest e T A =
    none_took lines A.front (A.tail ++ rest) who A.task.command turn (e ∙ (ap (λ ls. ls ++ rest) A.parts ∙ append_assoc A.front (LawLine.Took who A.task.command turn ∷ A.tail) rest)) T

no_turns : (f : Form) (n : ℕ) (old new : State) (who : ℕ) (lines : List Line) → TellNoCall lines → Goes f n old who (law_lines lines) new → ⊥
no_turns f zero old new who lines T G = G
no_turns f (suc n) old new who lines T G = no_advance f old G.1 who G.0 lines G.2 G.3 G.4 T G.5

-- a play without a turn leaves all openers reading
play_reading : (f : Form) (old new : State) (play : Play) (lines : List Line) → TellNoCall lines → Gives f old play (law_lines lines) new → AllReading old → AllReading new
play_reading f old new play lines T (gives_answer line e same A) R = subst AllReading (sym same) R
play_reading f old new play lines T (gives_opener who p e J) R = join_reading f old new who J R
play_reading f old new play lines T (gives_command who c p e G) R = gift_reading old new who c G R
play_reading f old new play lines T (gives_turn who turn p A) R = absurd (no_advance f old new who turn lines (law_lines lines) [] (sym (append-nil (law_lines lines))) T A)
play_reading f old new play lines T (gives_turns who p G) R = absurd (no_turns f most_turns old new who lines T G)
play_reading f old new play lines T (gives_all who c mid p given G) R = absurd (no_turns f most_turns mid new who lines T G)
play_reading f old new play lines T (gives_death who p e D) R = death_reading f old new who D R

-- One call leads from a state in which all openers may only read to another, and leaves the file.
abbrev Reads : Whole → History → Whole → History → Type 0
Reads w h v g = (g ≡ h) × ((after : State) × IsStateOf v g after × AllReading after)

module _ (w : Whole) (h : History) (size : ℕ) (reads : (options_at w).read_only ≡ true) (state : State) (is : IsStateOf w h state) (R : AllReading state) where
  call_reading : (lines : List Line) (v : Whole) (g : History) (next : ℕ) → Calls w h size lines v g next → Reads w h v g
  call_reading lines v g next (calls_turn who command turn told M after) =
      let J = M.leads state is in
      (M.still state is (reading_writes_nothing (form_at w) state (law_opener who) (R.each (law_opener who))), (J.0, J.2, turned_reading (form_at w) state J.0 (law_opener who) J.1 _ J.3 (state_must w h reads state (law_opener who) is) R))
  call_reading lines v g next (calls_unmeasured who command turn told M) =
      let J = M.leads state is in
      (M.still state is (reading_writes_nothing (form_at w) state (law_opener who) (R.each (law_opener who))), (J.0, J.2, turned_reading (form_at w) state J.0 (law_opener who) J.1 _ J.3 (state_must w h reads state (law_opener who) is) R))
  call_reading lines v g next (calls_undo bytes to told M) =
      let J = M.leads state is in
      absurd (let both : true ≡ false = sym J.2.was ∙ R.fresh in cc both)
  call_reading lines v g next (calls_nothing play told same leads) =
      let J = leads state is in
      (same, (J.0, subst (λ z. IsStateOf v z J.0) (sym same) J.1, play_reading (form_at w) state J.0 play lines told J.2 R))

calls_reading : (n : ℕ) (w v : Whole) (h g : History) (size to : ℕ) (lines : List Line) (state : State) → (options_at w).read_only ≡ true → IsStateOf w h state → AllReading state → CallsTell n w h size lines v g to
    → ((options_at v).read_only ≡ true) × Reads w h v g
calls_reading zero w v h g size to lines state reads is R C = (
  subst (λ z. (options_at z).read_only ≡ true) (sym C.1) reads,
  (C.2, (state, subst (λ z. IsStateOf v z state) (sym C.2) (subst (λ z. IsStateOf z h state) (sym C.1) is), R)),
)
calls_reading (suc n) w v h g size to lines state reads is R C =
    let one = call_reading w h size reads state is R C.3 C.0 C.1 C.2 C.8 in
    let more = calls_reading n C.0 v C.1 g C.2 to C.4 one.1.0 (ap (λ (o : Options). o.read_only) C.6.options ∙ reads) one.1.1 one.1.2 C.9 in
    (more.0, (more.1.0 ∙ one.0, more.1.1))

-- nor does the one that failed
stop_reading : (w : Whole) (h g : History) (size : ℕ) (state : State) → IsStateOf w h state → AllReading state → StoppedCall w h size g → g ≡ h
stop_reading w h g size state is R (stopped_still same) = same
stop_reading w h g size state is R (stopped_turn who sized S still) = still state is (reading_writes_nothing (form_at w) state (law_opener who) (R.each (law_opener who)))
stop_reading w h g size state is R (stopped_undo sized stale S) = absurd (let both : true ≡ false = sym (stale_in w h state is ∙ stale) ∙ R.fresh in cc both)
stop_reading w h g size state is R (stopped_untold who turn v sized leads full still) = still state is (reading_writes_nothing (form_at w) state (law_opener who) (R.each (law_opener who)))

pub read_only_stays : ReadOnlyFilesStay
read_only_stays n w v h g now size to lines state L reads C S =
    let A = calls_reading n w v h g size to lines state reads L.of_world (loaded_reading (form_at w) state _ L.loaded reads) C in
    (stop_reading v g now to A.1.1.0 A.1.1.1 A.1.1.2 S ∙ A.1.0)
