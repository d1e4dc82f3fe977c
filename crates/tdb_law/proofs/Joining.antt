-- The law of courses: the reports of plays join to lawful reports.
use Rattle.std.proofs.Common.{◌≡◌, ℕ, zero, suc, ◌≤◌, List, [], ◌∷◌, ◌++◌, Bool, true, false, cond, Option, Some, None, is_some, refl, sym, ◌∙◌, ap, subst, arith, append_assoc, append-nil}
use Rattle.std.specs.Prelude.{◌&&◌}
use Rattle.tdb_space.specs.Form.{Form}
use Rattle.tdb_law.specs.Commands.{MapCommand, Command, Turn}
use Rattle.tdb_law.specs.Commands.MapCommand.{Fetch, Has, Delete, Store, Insert, Modify, Append, Wipe, Check}
use Rattle.tdb_law.specs.Commands.GroupCommand.{Start, Commit, Prepare, Cancel}
use Rattle.tdb_law.specs.Commands.Command.{OnMap, OnLocks, Seqnum, OnGroup, OnWalk}
use Rattle.tdb_law.specs.Commands.Turn.{Step, Blocked, Ends}
use Rattle.tdb_law.specs.Openers.{Own, Txn, Task, outside}
use Rattle.tdb_law.specs.Refusals.{Refusal, refusal}
use Rattle.tdb_law.specs.Rows.{commits_in, plans_in}
use Rattle.tdb_law.specs.Ends.{map_last, commit_last, prepare_last, is_opened, last_by}
use Rattle.tdb_law.specs.World.{State, IsSound}
use Rattle.tdb_law.specs.Turned.{Turned}
use Rattle.tdb_law.specs.Replay.{Replay}
use Rattle.tdb_law.specs.Standing.{Stands}
use Rattle.tdb_law.specs.Lines.{Line, IsFollowed, IsLawful, next_line, replay}
use Rattle.tdb_law.specs.Lines.Line.{Joined, JoinBlocked, JoinMany, JoinMemory, Took, Grew, Absent, Idle, Occupied, LogsLeft, Died, Undone}
use Rattle.tdb_law.specs.Plays.{Play, Clears, Grows, Advances, GoesOn, Goes, IsAnswer, Gives, Course, most_turns}
use Rattle.tdb_law.specs.Plays.Play.{Join, SetLog, Give, Do, TakeTurn, Go, Die}
use Rattle.tdb_law.specs.Plays.Clears.{clears_nothing, clears_gate}
use Rattle.tdb_law.specs.Plays.Grows.{grows_not, grows_longer}
use Rattle.tdb_law.specs.Plays.Gives.{gives_answer, gives_opener, gives_command, gives_turn, gives_turns, gives_all, gives_death}
use Rattle.tdb_law.specs.Laws.{LawfulLine, IsTold, CourseIsLawful, CommandsEnd}
use Rattle.tdb_law.proofs.OneTurn.{turn_lawful}
use Rattle.tdb_law.proofs.Happening.{join_lawful, told_lawful, gift_lawful, stands_flag}
use Rattle.tdb_law.proofs.Deaths.{death_lawful}
use Rattle.tdb_law.proofs.Undoing.{undo_lawful}

-- Lines that lead from a replay to a world, so that whatever is lawful after them is lawful with them in front.
record Run (f : Form) (s : Replay) (lines : List Line) (new : State) : Type 0 where
  sound : IsSound f new
  stands : Stands f new (replay f s lines)
  lawful : (rest : List Line) → IsLawful f (replay f s lines) rest → IsLawful f s (lines ++ rest)

run_nothing : (f : Form) (s : Replay) (w : State) → IsSound f w → Stands f w s → Run f s [] w
run_nothing f s w S P = record { sound = S; stands = P; lawful = λ rest l. l }

-- a line that asks nothing of the next
run_line : (f : Form) (s : Replay) (line : Line) (new : State) → ((rest : List Line) → IsFollowed line rest) → LawfulLine f new s line → Run f s (line ∷ []) new
run_line f s line new free L = record { sound = L.sound; stands = L.stands; lawful = λ rest l. (L.allowed, free rest, l) }

replay_join : (f : Form) (s : Replay) (front rest : List Line) → replay f s (front ++ rest) ≡ replay f (replay f s front) rest
replay_join f s [] rest = refl
replay_join f s (line ∷ front) rest = replay_join f (next_line f s line) front rest

run_join : (f : Form) (s : Replay) (front rest : List Line) (mid new : State) → Run f s front mid → Run f (replay f s front) rest new → Run f s (front ++ rest) new
run_join f s front rest mid new A B = record {
  sound = B.sound;
  stands = subst (Stands f new) (sym (replay_join f s front rest)) B.stands;
  lawful = λ more l.
      subst (IsLawful f s) (sym (append_assoc front rest more))
      (A.lawful (rest ++ more) (B.lawful more (subst (λ z. IsLawful f z more) (replay_join f s front rest) l)));
}

run_at : (f : Form) (s : Replay) (lines other : List Line) (new : State) → lines ≡ other → Run f s other new → Run f s lines new
run_at f s lines other new e run = subst (λ ls. Run f s ls new) (sym e) run

-- a turn and the growth of the file in it
run_turn : (f : Form) (s : Replay) (old new : State) (who : ℕ) (task : Task) (turn : Turn) (tail : List Line) → IsSound f old → Stands f old s → Turned f old who task turn new → Grows tail
    → Run f s (Took who task.command turn ∷ tail) new
run_turn f s old new who task turn tail S P T (grows_not e) =
    let L = turn_lawful f old new who task turn s S P T in
    run_at f s (Took who task.command turn ∷ tail) (Took who task.command turn ∷ []) new (ap (λ ls. Took who task.command turn ∷ ls) e)
    (record { sound = L.sound; stands = L.stands; lawful = λ rest l. ((P.stale ∙ T.ready, L.allowed), tt, l) })
run_turn f s old new who task turn tail S P T (grows_longer from to e longer) =
    let L = turn_lawful f old new who task turn s S P T in
    run_at f s (Took who task.command turn ∷ tail) (Took who task.command turn ∷ Grew from to ∷ []) new (ap (λ ls. Took who task.command turn ∷ ls) e)
    (record { sound = L.sound; stands = stands_flag f new (next_line f s (Took who task.command turn)) false L.stands; lawful = λ rest l. ((P.stale ∙ T.ready, L.allowed), tt, ((refl, longer), tt, l)) })

run_clear : (f : Form) (s : Replay) (old mid new : State) (who : ℕ) (task : Task) (turn : Turn) (front tail : List Line) → IsSound f old → Stands f old s
    → Clears f old front mid → Turned f mid who task turn new → Grows tail → Run f s (front ++ Took who task.command turn ∷ tail) new
run_clear f s old mid new who task turn front tail S P (clears_nothing ready e same) T G =
    run_at f s (front ++ Took who task.command turn ∷ tail) (Took who task.command turn ∷ tail) new (ap (λ ls. ls ++ Took who task.command turn ∷ tail) e)
    (run_turn f s mid new who task turn tail (subst (IsSound f) (sym same) S) (subst (λ w. Stands f w s) (sym same) P) T G)
run_clear f s old mid new who task turn front tail S P (clears_gate bytes to e U) T G =
    let L = undo_lawful f old mid bytes to s S P U in
    let R = run_turn f (next_line f s (Undone bytes to)) mid new who task turn tail L.sound L.stands T G in
    run_at f s (front ++ Took who task.command turn ∷ tail) (Undone bytes to ∷ Took who task.command turn ∷ tail) new (ap (λ ls. ls ++ Took who task.command turn ∷ tail) e)
    (record { sound = R.sound; stands = R.stands; lawful = λ rest l. (L.allowed, tt, R.lawful rest l) })

run_advance : (f : Form) (s : Replay) (old new : State) (who : ℕ) (turn : Turn) (lines : List Line) → IsSound f old → Stands f old s → Advances f old who turn lines new → Run f s lines new
run_advance f s old new who turn lines S P A =
    run_at f s lines (A.front ++ Took who A.task.command turn ∷ A.tail) new A.parts (run_clear f s old A.mid new who A.task turn A.front A.tail S P A.clears A.turned A.grows)

-- turns up to the first that isn't a step
run_rest : (f : Form) (s : Replay) (lines front : List Line) (mid new : State) (rest : List Line) → lines ≡ front ++ rest → Run f s front mid → (rest ≡ []) × (new ≡ mid) → Run f s lines new
run_rest f s lines front mid new rest e A done =
    let parts : lines ≡ front = e ∙ (ap (λ ls. front ++ ls) done.0 ∙ append-nil front) in
    run_at f s lines front new parts (subst (Run f s front) (sym done.1) A)

goes_on : (f : Form) (n : ℕ) (s : Replay) (mid new : State) (who : ℕ) (lines front rest : List Line)
    → ((z : Replay) → IsSound f mid → Stands f mid z → Goes f n mid who rest new → Run f z rest new)
    → lines ≡ front ++ rest → Run f s front mid → (turn : Turn) → GoesOn turn (Goes f n mid who rest new) ((rest ≡ []) × (new ≡ mid)) → Run f s lines new
goes_on f n s mid new who lines front rest more e A Step goes = run_at f s lines (front ++ rest) new e (run_join f s front rest mid new A (more (replay f s front) A.sound A.stands goes))
goes_on f n s mid new who lines front rest more e A (Blocked o b) done = run_rest f s lines front mid new rest e A done
goes_on f n s mid new who lines front rest more e A (Ends r) done = run_rest f s lines front mid new rest e A done

run_goes : (f : Form) (n : ℕ) (s : Replay) (old new : State) (who : ℕ) (lines : List Line) → IsSound f old → Stands f old s → Goes f n old who lines new → Run f s lines new
run_goes f zero s old new who lines S P goes = absurd goes
run_goes f (suc n) s old new who lines S P goes =
    goes_on f n s goes.1 new who lines goes.2 goes.3 (λ z S2 P2 more. run_goes f n z goes.1 new who goes.3 S2 P2 more) goes.4
    (run_advance f s old goes.1 who goes.0 goes.2 S P goes.5) goes.0 goes.6

-- a play that is answered by a line
answer_told : (f : Form) (w : State) (s : Replay) (play : Play) (line : Line) → IsAnswer w play line → IsTold f w s line × ((rest : List Line) → IsFollowed line rest)
answer_told f w s Join (JoinBlocked owner) e = (e, λ rest. tt)
answer_told f w s Join JoinMany e = (e, λ rest. tt)
answer_told f w s Join JoinMemory e = (tt, λ rest. tt)
answer_told f w s (Give who c) (Absent o) e = (e.1, λ rest. tt)
answer_told f w s (Do who c) (Absent o) e = (e.1, λ rest. tt)
answer_told f w s (TakeTurn who) (Absent o) e = (e.1, λ rest. tt)
answer_told f w s (Go who) (Absent o) e = (e.1, λ rest. tt)
answer_told f w s (Die who) (Absent o) e = (e.1, λ rest. tt)
answer_told f w s (Give who c) (Occupied o) e = (e.1, λ rest. tt)
answer_told f w s (Do who c) (Occupied o) e = (e.1, λ rest. tt)
answer_told f w s (TakeTurn who) (Idle o) e = ((e.1, e.2), λ rest. tt)
answer_told f w s (Go who) (Idle o) e = ((e.1, e.2), λ rest. tt)
answer_told f w s (Die who) (Occupied o) e = (e.1, λ rest. tt)
answer_told f w s SetLog (LogsLeft count) e = (tt, λ rest. tt)
answer_told f w s play line e = absurd e

run_play : (f : Form) (s : Replay) (old new : State) (play : Play) (lines : List Line) → IsSound f old → Stands f old s → Gives f old play lines new → Run f s lines new
run_play f s old new play lines S P (gives_answer line e same answer) =
    let told = answer_told f old s play line answer in
    run_at f s lines (line ∷ []) new e (subst (Run f s (line ∷ [])) (sym same) (run_line f s line old told.1 (told_lawful f old s line S P told.0)))
run_play f s old new play lines S P (gives_opener who is e J) = run_at f s lines (Joined who ∷ []) new e (run_line f s (Joined who) new (λ rest. tt) (join_lawful f old new who s S P J))
run_play f s old new play lines S P (gives_command who c is e G) = (let L = gift_lawful f old new who c s S P G in run_at f s lines [] new e (run_nothing f s new L.0 L.1))
run_play f s old new play lines S P (gives_turn who turn is A) = run_advance f s old new who turn lines S P A
run_play f s old new play lines S P (gives_turns who is goes) = run_goes f most_turns s old new who lines S P goes
run_play f s old new play lines S P (gives_all who c mid is G goes) = (let L = gift_lawful f old mid who c s S P G in run_goes f most_turns s mid new who lines L.0 L.1 goes)
run_play f s old new play lines S P (gives_death who is e D) = run_at f s lines (Died who ∷ []) new e (run_line f s (Died who) new (λ rest. tt) (death_lawful f old new who s S P D))

run_course : (f : Form) (plays : List Play) (s : Replay) (old new : State) (lines : List Line) → IsSound f old → Stands f old s → Course f old plays lines new → Run f s lines new
run_course f [] s old new lines S P course = run_at f s lines [] new course.0 (subst (Run f s []) (sym course.1) (run_nothing f s old S P))
run_course f (play ∷ plays) s old new lines S P course =
    let A = run_play f s old course.0 play course.1 S P course.4 in
    let B = run_course f plays (replay f s course.1) course.0 new course.2 A.sound A.stands course.5 in
    run_at f s lines (course.1 ++ course.2) new course.3 (run_join f s course.1 course.2 course.0 new A B)

pub course_lawful : CourseIsLawful
course_lawful f old new plays lines s S P course =
    let R = run_course f plays s old new lines S P course in
    record { sound = R.sound; lawful = subst (IsLawful f s) (append-nil lines) (R.lawful [] tt); stands = R.stands }

-- no row is longer than nine turns
map_few : (c : MapCommand) → map_last c ≤ 7
map_few (Fetch k) = omega arith
map_few (Has k) = omega arith
map_few (Delete k) = omega arith
map_few (Store k v) = omega arith
map_few (Insert k v) = omega arith
map_few (Modify k v) = omega arith
map_few (Append k v) = omega arith
map_few Wipe = omega arith
map_few Check = omega arith

cond_few : (b : Bool) (m n most : ℕ) → m ≤ most → n ≤ most → cond b m n ≤ most
cond_few true m n most p q = p
cond_few false m n most p q = q

commit_few : (o : Option Txn) → commit_last o ≤ 8
commit_few None = omega arith
commit_few (Some t) = cond_few (plans_in t) 8 (cond (commits_in t && is_opened t.prepared) 3 0) 8 (omega arith) (cond_few (commits_in t && is_opened t.prepared) 3 0 8 (omega arith) (omega arith))

prepare_few : (o : Option Txn) → prepare_last o ≤ 7
prepare_few None = omega arith
prepare_few (Some t) = cond_few (plans_in t) 4 0 7 (omega arith) (omega arith)

last_few : (q : Option Refusal) (c : Command) (x : Own) → (last_by q c x ≤ 8) × ((c ≡ OnGroup Commit → ⊥) → last_by q c x ≤ 7)
last_few (Some q) c x = (omega arith, λ other. omega arith)
last_few None (OnMap c) x = (let few = cond_few (outside x) (map_last c) 0 7 (map_few c) (omega arith) in (omega (arith, few), λ other. few))
last_few None (OnLocks c) x = (omega arith, λ other. omega arith)
last_few None Seqnum x = (omega arith, λ other. omega arith)
last_few None (OnGroup Start) x = (let few = cond_few (outside x) 2 0 7 (omega arith) (omega arith) in (omega (arith, few), λ other. few))
last_few None (OnGroup Commit) x = (commit_few x.txn, λ other. absurd (other refl))
last_few None (OnGroup Prepare) x = (let few = prepare_few x.txn in (omega (arith, few), λ other. few))
last_few None (OnGroup Cancel) x = (omega arith, λ other. omega arith)
last_few None (OnWalk c) x = (let few = cond_few (outside x && is_some x.cursor) 2 0 7 (omega arith) (omega arith) in (omega (arith, few), λ other. few))

pub commands_end : CommandsEnd
commands_end f c x = last_few (refusal f c x) c x
