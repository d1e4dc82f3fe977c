-- The lines of a play that drops no log tell of no log that is left.
use Rattle.std.proofs.Common.{◌≡◌, ℕ, zero, suc, false, List, [], ◌∷◌, ◌++◌, Result, Ok, Err, refl, sym, subst, ◌⊎◌, inl, inr}
use Rattle.tdb_space.specs.Form.{Form}
use Rattle.tdb_law.specs.Commands.{Turn}
use Rattle.tdb_law.specs.Commands.Turn.{Step, Blocked, Ends}
use Rattle.tdb_law.specs.World.{State}
use Rattle.tdb_law.specs.Lines.{Line}
use Rattle.tdb_law.specs.Lines.Line.{LogsLeft}
use Rattle.tdb_law.specs.Plays.{Play, Clears, Grows, Advances, GoesOn, Goes, IsAnswer, Gives, most_turns}
use Rattle.tdb_law.specs.Plays.Play.{SetLog}
use Rattle.tdb_law.specs.Plays.Clears.{clears_nothing, clears_gate}
use Rattle.tdb_law.specs.Plays.Grows.{grows_not, grows_longer}
use Rattle.tdb_law.specs.Plays.Gives.{gives_answer, gives_opener, gives_command, gives_turn, gives_turns, gives_all, gives_death}
use Rattle.tdb_commands.specs.declared.play.Play.{Play as CodePlay}
use Rattle.tdb_commands.specs.declared.play.Play.TheVariants as Plays
use Rattle.tdb_commands.specs.InLaw.{law_play}
use Rattle.tdb_openers.specs.Played.{Begun, Steps, StepsThenClears, PlaysLast}
use Rattle.tdb_openers.specs.Played.Begun.{begun_not, begun_turn, begun_turns, begun_command}
use Rattle.tdb_openers.specs.declared.fault.RunFault.{RunFault}
use Rattle.tdb_openers.specs.declared.fault.RunFault.TheVariants.{Io, Memory}
use Rattle.tdb_world.specs.Courses.Hearing.{KeepsLogs, KeepLogs, drops_log}
use Rattle.tdb_world.specs.Courses.Led.{Comes}

keep_append : (front rest : List Line) → KeepLogs front → KeepLogs rest → KeepLogs (front ++ rest)
keep_append [] rest one two = two
keep_append (line ∷ front) rest one two = (one.0, keep_append front rest one.1 two)

-- and so of the parts
pub keep_front : (front rest : List Line) → KeepLogs (front ++ rest) → KeepLogs front
keep_front [] rest all = tt
keep_front (line ∷ front) rest all = (all.0, keep_front front rest all.1)

pub keep_rest : (front rest : List Line) → KeepLogs (front ++ rest) → KeepLogs rest
keep_rest [] rest all = all
keep_rest (line ∷ front) rest all = keep_rest front rest all.1

none_keeps : (lines : List Line) → lines ≡ [] → KeepLogs lines
none_keeps lines none = subst KeepLogs (sym none) tt

clears_keep : (f : Form) (old new : State) (lines : List Line) → Clears f old lines new → KeepLogs lines
clears_keep f old new lines (clears_nothing ready none same) = none_keeps lines none
clears_keep f old new lines (clears_gate bytes to e U) = subst KeepLogs (sym e) (tt, tt)

grows_keep : (lines : List Line) → Grows lines → KeepLogs lines
grows_keep lines (grows_not none) = none_keeps lines none
grows_keep lines (grows_longer from to e longer) = subst KeepLogs (sym e) (tt, tt)

advances_keep : (f : Form) (old new : State) (who : ℕ) (turn : Turn) (lines : List Line) → Advances f old who turn lines new → KeepLogs lines
advances_keep f old new who turn lines A =
    subst KeepLogs (sym A.parts) (keep_append A.front _ (clears_keep f old A.mid A.front A.clears) (tt, grows_keep A.tail A.grows))

goes_on_keep : (turn : Turn) (More : Type 0) (rest : List Line) (old new : State) → (More → KeepLogs rest) → GoesOn turn More ((rest ≡ []) × (new ≡ old)) → KeepLogs rest
goes_on_keep Step More rest old new keep on = keep on
goes_on_keep (Blocked owner byte) More rest old new keep on = none_keeps rest on.0
goes_on_keep (Ends reply) More rest old new keep on = none_keeps rest on.0

goes_keep : (f : Form) (n : ℕ) (old new : State) (who : ℕ) (lines : List Line) → Goes f n old who lines new → KeepLogs lines
goes_keep f zero old new who lines G = absurd G
goes_keep f (suc n) old new who lines (turn, mid, front, rest, parts, A, on) =
    subst KeepLogs (sym parts) (keep_append front rest (advances_keep f old mid who turn front A) (goes_on_keep turn _ rest mid new (goes_keep f n mid new who rest) on))

steps_keep : (f : Form) (n : ℕ) (old new : State) (who : ℕ) (lines : List Line) → Steps f n old who lines new → KeepLogs lines
steps_keep f zero old new who lines S = none_keeps lines S.0
steps_keep f (suc n) old new who lines (mid, front, rest, parts, S, A) =
    subst KeepLogs (sym parts) (keep_append front rest (steps_keep f n old mid who front S) (advances_keep f mid new who Step rest A))

at_end_keep : (f : Form) (mid new : State) (rest : List Line) → ((rest ≡ []) × (new ≡ mid)) ⊎ Clears f mid rest new → KeepLogs rest
at_end_keep f mid new rest (inl none) = none_keeps rest none.0
at_end_keep f mid new rest (inr C) = clears_keep f mid new rest C

some_keep : (f : Form) (n : ℕ) (old new : State) (who : ℕ) (lines : List Line) → StepsThenClears f n old who lines new → KeepLogs lines
some_keep f n old new who lines (mid, front, rest, parts, S, end) =
    subst KeepLogs (sym parts) (keep_append front rest (steps_keep f n old mid who front S) (at_end_keep f mid new rest end))

left_by : (w : State) (play : Play) (count : ℕ) → IsAnswer w play (LogsLeft count) → play ≡ SetLog
left_by w SetLog count is = refl
left_by w play count is = absurd is

answer_keeps : (w : State) (play : Play) (line : Line) → (play ≡ SetLog → ⊥) → IsAnswer w play line → KeepsLogs line
answer_keeps w play (LogsLeft count) other is = other (left_by w play count is)
answer_keeps w play line other is = tt

gives_keep : (f : Form) (old new : State) (play : Play) (lines : List Line) → (play ≡ SetLog → ⊥) → Gives f old play lines new → KeepLogs lines
gives_keep f old new play lines other (gives_answer line e same is) = subst KeepLogs (sym e) (answer_keeps old play line other is, tt)
gives_keep f old new play lines other (gives_opener who p e J) = subst KeepLogs (sym e) (tt, tt)
gives_keep f old new play lines other (gives_command who c p e G) = none_keeps lines e
gives_keep f old new play lines other (gives_turn who turn p A) = advances_keep f old new who turn lines A
gives_keep f old new play lines other (gives_turns who p G) = goes_keep f most_turns old new who lines G
gives_keep f old new play lines other (gives_all who c mid p G T) = goes_keep f most_turns mid new who lines T
gives_keep f old new play lines other (gives_death who p e D) = subst KeepLogs (sym e) (tt, tt)

begun_keep : (f : Form) (old new : State) (play : Play) (lines : List Line) → Begun f old play lines new → KeepLogs lines
begun_keep f old new play lines (begun_not none same) = none_keeps lines none
begun_keep f old new play lines (begun_turn who p C) = clears_keep f old new lines C
begun_keep f old new play lines (begun_turns who n p S) = some_keep f n old new who lines S
begun_keep f old new play lines (begun_command who n c mid p G S) = some_keep f n mid new who lines S

last_keep : (f : Form) (old new : State) (play : Play) (lines : List Line) → (play ≡ SetLog → ⊥) → PlaysLast f old play lines new → KeepLogs lines
last_keep f old new play lines other (inl B) = begun_keep f old new play lines B
last_keep f old new play lines other (inr G) = gives_keep f old new play lines other G

-- whatever a play came to
pub comes_keep : {V : Type 0} (f : Form) (old : State) (play : Play) (answer : Result V RunFault) (IsLeft : State → Type 0) (lines : List Line) → (play ≡ SetLog → ⊥)
    → Comes answer IsLeft (λ _. Gives f old play) (Begun f old play) (PlaysLast f old play) lines → KeepLogs lines
comes_keep f old play (Ok v) IsLeft lines other (after, left, G) = gives_keep f old after play lines other G
comes_keep f old play (Err Memory) IsLeft lines other (after, left, B) = begun_keep f old after play lines B
comes_keep f old play (Err Io) IsLeft lines other (after, L) = last_keep f old after play lines other L

-- the play of the code that drops a log is that of the law
pub drops_only : (play : CodePlay) → drops_log play ≡ false → law_play play ≡ SetLog → ⊥
drops_only Plays.SetLog stays is = cc
drops_only play stays is = cc

pub stays_unless : (play : CodePlay) → (play ≡ Plays.SetLog → ⊥) → drops_log play ≡ false
stays_unless Plays.SetLog other = absurd (other refl)
stays_unless play other = refl
