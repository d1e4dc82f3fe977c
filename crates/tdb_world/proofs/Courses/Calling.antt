-- Calls of which lines tell, one after the other.
use Rattle.std.proofs.Common.{◌≡◌, ℕ, zero, suc, List, [], ◌∷◌, ◌++◌, Result, Ok, Err, refl, sym, ◌∙◌, ap, subst, append_assoc, append-nil}
use Rattle.tdb_disk.specs.History.{History}
use Rattle.tdb_law.specs.Commands.{Command, Turn}
use Rattle.tdb_law.specs.Lines.{Line as LawLine}
use Rattle.tdb_space.specs.Form.{Form}
use Rattle.tdb_law.specs.Plays.{Gives, IsAnswer, Play}
use Rattle.tdb_law.specs.Plays.Gives.{gives_answer, gives_opener, gives_command, gives_turn, gives_turns, gives_all, gives_death}
use Rattle.tdb_law.specs.World.{State}
use Rattle.tdb_commands.specs.declared.line.Line.{Line}
use Rattle.tdb_commands.specs.declared.line.Line.TheVariants as Lines
use Rattle.tdb_commands.specs.InLaw.{law_line}
use Rattle.tdb_openers.specs.Played.{UnlessIo}
use Rattle.tdb_openers.specs.declared.fault.RunFault.{RunFault}
use Rattle.tdb_openers.specs.declared.fault.RunFault.TheVariants.{Io, Memory}
use Rattle.tdb_world.specs.Whole.{Whole}
use Rattle.tdb_world.specs.Courses.Calls.{Calls, StaysFormed, TellsNoCall}
use Rattle.tdb_world.specs.Courses.Stopped.{StoppedCall}
use Rattle.tdb_world.specs.Courses.Stopped.StoppedCall.{stopped_still}
use Rattle.tdb_world.specs.Courses.Led.{CallsTell, Lengths, Moment, ToldCalls}

-- an answer tells no call, and no growth
never_undone : (state : State) (play : Play) (bytes to : ℕ) → IsAnswer state play (LawLine.Undone bytes to) → ⊥
never_undone state Play.Join bytes to A = A
never_undone state Play.SetLog bytes to A = A
never_undone state (Play.Give who c) bytes to A = A
never_undone state (Play.Do who c) bytes to A = A
never_undone state (Play.TakeTurn who) bytes to A = A
never_undone state (Play.Go who) bytes to A = A
never_undone state (Play.Die who) bytes to A = A

never_grew : (state : State) (play : Play) (from to : ℕ) → IsAnswer state play (LawLine.Grew from to) → ⊥
never_grew state Play.Join from to A = A
never_grew state Play.SetLog from to A = A
never_grew state (Play.Give who c) from to A = A
never_grew state (Play.Do who c) from to A = A
never_grew state (Play.TakeTurn who) from to A = A
never_grew state (Play.Go who) from to A = A
never_grew state (Play.Die who) from to A = A

never_took : (state : State) (play : Play) (o : ℕ) (command : Command) (turn : Turn) → IsAnswer state play (LawLine.Took o command turn) → ⊥
never_took state Play.Join o command turn A = A
never_took state Play.SetLog o command turn A = A
never_took state (Play.Give who c) o command turn A = A
never_took state (Play.Do who c) o command turn A = A
never_took state (Play.TakeTurn who) o command turn A = A
never_took state (Play.Go who) o command turn A = A
never_took state (Play.Die who) o command turn A = A

quiet_by : (line : Line) → ((o : ℕ) (command : Command) (turn : Turn) → law_line line ≡ LawLine.Took o command turn → ⊥) → ((bytes to : ℕ) → law_line line ≡ LawLine.Undone bytes to → ⊥)
    → ((from to : ℕ) → law_line line ≡ LawLine.Grew from to → ⊥) → TellsNoCall line
quiet_by (Lines.Joined who) took undone grew = tt
quiet_by (Lines.JoinBlocked owner) took undone grew = tt
quiet_by Lines.JoinMany took undone grew = tt
quiet_by Lines.JoinMemory took undone grew = tt
quiet_by (Lines.Took who command turn) took undone grew = took _ _ _ refl
quiet_by (Lines.Grew from to) took undone grew = grew from to refl
quiet_by (Lines.Absent who) took undone grew = tt
quiet_by (Lines.Idle who) took undone grew = tt
quiet_by (Lines.Occupied who) took undone grew = tt
quiet_by (Lines.LogsLeft count) took undone grew = tt
quiet_by (Lines.Unfinished who) took undone grew = tt
quiet_by (Lines.Died who) took undone grew = tt
quiet_by (Lines.Undone bytes to) took undone grew = undone bytes to refl

pub answer_quiet : (state : State) (play : Play) (line : Line) → IsAnswer state play (law_line line) → TellsNoCall line
answer_quiet state play line A =
    quiet_by line (λ o command turn e. never_took state play o command turn (subst (IsAnswer state play) e A)) (λ bytes to e. never_undone state play bytes to (subst (IsAnswer state play) e A))
    (λ from to e. never_grew state play from to (subst (IsAnswer state play) e A))

joined_quiet : (line : Line) (who : ℕ) → law_line line ∷ [] ≡ LawLine.Joined who ∷ [] → TellsNoCall line
joined_quiet line who e = quiet_by line (λ o command turn is. cc) (λ bytes to is. cc) (λ from to is. cc)

same_line : (a b : LawLine) → a ∷ [] ≡ b ∷ [] → a ≡ b
same_line a b e = cc

pub join_quiet : (f : Form) (state after : State) (line : Line) → Gives f state Play.Join (law_line line ∷ []) after → TellsNoCall line
join_quiet f state after line (gives_answer told e same A) = answer_quiet state Play.Join line (subst (IsAnswer state Play.Join) (sym (same_line (law_line line) told e)) A)
join_quiet f state after line (gives_opener who play e J) = joined_quiet line who e
join_quiet f state after line (gives_command who c play e G) = absurd (cc play)
join_quiet f state after line (gives_turn who turn play A) = absurd (cc play)
join_quiet f state after line (gives_turns who play G) = absurd (cc play)
join_quiet f state after line (gives_all who c mid play G more) = absurd (cc play)
join_quiet f state after line (gives_death who play e D) = absurd (cc play)

calls_join : (n m : ℕ) (w u v : Whole) (h k g : History) (from mid to : ℕ) (front rest : List Line) → CallsTell n w h from front u k mid → CallsTell m u k mid rest v g to
    → (count : ℕ) × CallsTell count w h from (front ++ rest) v g to
calls_join zero m w u v h k g from mid to front rest C D = (
  m,
  subst (λ ls. CallsTell m w h from (ls ++ rest) v g to) (sym C.0)
      (subst (λ z. CallsTell m z h from rest v g to) C.1 (subst (λ z. CallsTell m u z from rest v g to) C.2 (subst (λ z. CallsTell m u k z rest v g to) C.3 D))),
)
calls_join (suc n) m w u v h k g from mid to front rest C D =
    let J = calls_join n m C.0 u v C.1 k g C.2 mid to C.4 rest C.9 D in
    (suc J.0, (C.0, C.1, C.2, C.3, C.4 ++ rest, ap (λ ls. ls ++ rest) C.5 ∙ append_assoc C.3 C.4 rest, C.6, C.7, C.8, J.1))

-- what always holds, holds unless the disk failed
unless : {V : Type 0} (r : Result V RunFault) (P : Type 0) → P → UnlessIo r P
unless (Ok v) P p = p
unless (Err Memory) P p = p
unless (Err Io) P p = tt

-- no call was made, or none that lines tell before the disk failed
pub told_none : {V : Type 0} (old new : Moment) (r : Result V RunFault) → new.world ≡ old.world → new.history ≡ old.history → new.size ≡ old.size → ToldCalls old new r []
told_none old new r world history size =
    record { count = 0; world = old.world; history = old.history; size = old.size; calls = (refl, refl, refl, refl); last = unless r _ (world, history, size); stopped = stopped_still history }

pub told_failed : {V : Type 0} (old new : Moment) → StoppedCall old.world old.history old.size new.history → ToldCalls {V = V} old new (Err Io) []
told_failed old new S = record { count = 0; world = old.world; history = old.history; size = old.size; calls = (refl, refl, refl, refl); last = tt; stopped = S }

-- one call was made
pub told_one : {V : Type 0} (old new : Moment) (r : Result V RunFault) (lines : List Line) (v : Whole) (g : History) (to : ℕ) → StaysFormed old.world v → Lengths old.size lines to → Calls old.world old.history old.size lines v g to
    → UnlessIo r ((new.world ≡ v) × (new.history ≡ g) × (new.size ≡ to)) → StoppedCall v g to new.history → ToldCalls old new r lines
told_one old new r lines v g to F L C last S = record { count = 1; world = v; history = g; size = to; calls = (v, g, to, lines, [], sym (append-nil lines), F, L, C, (refl, refl, refl, refl)); last = last; stopped = S }

-- the same, with another answer
pub told_whole : {V W : Type 0} (old new : Moment) (v : V) (w : W) (lines : List Line) → ToldCalls old new (Ok v) lines → ToldCalls old new (Ok w) lines
told_whole old new v w lines A = record { count = A.count; world = A.world; history = A.history; size = A.size; calls = A.calls; last = A.last; stopped = A.stopped }

pub told_fault : {V W : Type 0} (old new : Moment) (e : RunFault) (lines : List Line) → ToldCalls {V = V} old new (Err e) lines → ToldCalls {V = W} old new (Err e) lines
told_fault old new Memory lines A = record { count = A.count; world = A.world; history = A.history; size = A.size; calls = A.calls; last = A.last; stopped = A.stopped }
told_fault old new Io lines A = record { count = A.count; world = A.world; history = A.history; size = A.size; calls = A.calls; last = tt; stopped = A.stopped }

-- and one part after another
pub told_join : {U V : Type 0} (old mid new : Moment) (u : U) (r : Result V RunFault) (front rest : List Line) → ToldCalls old mid (Ok u) front → ToldCalls mid new r rest → ToldCalls old new r (front ++ rest)
told_join old mid new u r front rest A B =
    let behind : CallsTell B.count A.world A.history A.size rest B.world B.history B.size =
    subst (λ k. CallsTell B.count A.world A.history k rest B.world B.history B.size) A.last.2
    (subst (λ k. CallsTell B.count A.world k mid.size rest B.world B.history B.size) A.last.1 (subst (λ z. CallsTell B.count z mid.history mid.size rest B.world B.history B.size) A.last.0 B.calls)) in
    let J = calls_join A.count B.count old.world A.world B.world old.history A.history B.history old.size A.size B.size front rest A.calls behind in
    record { count = J.0; world = B.world; history = B.history; size = B.size; calls = J.1; last = B.last; stopped = B.stopped }
