-- Turns of openers with nothing to do: they change nothing, and nothing is counted of them, so they may be taken again.
use Rattle.std.proofs.Common.{◌≡◌, ℕ, zero, suc, ◌+◌, ◌-◌, ◌<◌, Bool, List, [], ◌∷◌, ◌++◌, Ok, refl, sym, ◌∙◌, ap, subst, arith}
use Rattle.tdb_space.specs.Form.{Form}
use Rattle.tdb_law.specs.Commands.{Command as LawCommand, Turn as LawTurn}
use Rattle.tdb_law.specs.Lines.{Line as LawLine}
use Rattle.tdb_law.specs.Lines.Line.{Took}
use Rattle.tdb_law.specs.Plays.{Gives}
use Rattle.tdb_law.specs.Plays.Play.{TakeTurn}
use Rattle.tdb_law.specs.World.{State}
use Rattle.tdb_log.specs.Logs.{Logged}
use Rattle.tdb_commands.specs.InLaw.{law_lines}
use Rattle.tdb_commands.specs.declared.line.Line.{Line}
use Rattle.tdb_commands.specs.declared.line.Line.TheVariants.{Idle, Absent}
use Rattle.tdb_commands.specs.declared.play.Play.{Play}
use Rattle.tdb_world.specs.Whole.{form_at}
use Rattle.tdb_world.specs.Courses.Hearing.{Heard}
use Rattle.tdb_gen.specs.declared.counts.Counts.{Counts}
use Rattle.tdb_gen.specs.Counts.{counts_of}
use Rattle.tdb_gen.specs.Plays.{round, rounds}
use Rattle.tdb_gen.specs.Taking.{Place, TookAll, Taken, AreIdle, Rests}
use Rattle.tdb_gen.proofs.Counting.{tally, counts_tally}
use Rattle.tdb_gen.proofs.Grouping.{rounds_more, rounds_join}
use Rattle.tdb_gen.proofs.Takings.{all_none, all_behind, same_form, taken_join}

idle_tally : (c : Counts) (lines : List Line) → AreIdle lines → tally c lines ≡ c
idle_tally c [] A = refl
idle_tally c (Idle who ∷ lines) A = idle_tally c lines A
idle_tally c (Absent who ∷ lines) A = idle_tally c lines A
idle_tally c (line ∷ lines) A = absurd A

pub idle_uncounted : (told lines : List Line) → AreIdle lines → counts_of (told ++ lines) ≡ counts_of told
idle_uncounted told lines A = counts_tally told lines ∙ idle_tally (counts_of told) lines A

idle_unheard : (logs : List Logged) (lines : List Line) → AreIdle lines → Heard logs lines logs
idle_unheard logs [] A = refl
idle_unheard logs (Idle who ∷ lines) A = (logs, refl, idle_unheard logs lines A)
idle_unheard logs (Absent who ∷ lines) A = (logs, refl, idle_unheard logs lines A)
idle_unheard logs (line ∷ lines) A = absurd A

idle_append : (a b : List Line) → AreIdle a → AreIdle b → AreIdle (a ++ b)
idle_append [] b A B = B
idle_append (Idle who ∷ a) b A B = idle_append a b A B
idle_append (Absent who ∷ a) b A B = idle_append a b A B
idle_append (line ∷ a) b A B = absurd A

-- none of them tells a turn, so the state stays
no_turn : (lines : List Line) (front tail : List LawLine) (who : ℕ) (c : LawCommand) (turn : LawTurn) → AreIdle lines → law_lines lines ≡ front ++ Took who c turn ∷ tail → ⊥
no_turn [] [] tail who c turn A e = cc
no_turn [] (x ∷ front) tail who c turn A e = cc
no_turn (Idle o ∷ lines) [] tail who c turn A e = cc
no_turn (Idle o ∷ lines) (x ∷ front) tail who c turn A e = let rest : law_lines lines ≡ front ++ Took who c turn ∷ tail = cc in no_turn lines front tail who c turn A rest
no_turn (Absent o ∷ lines) [] tail who c turn A e = cc
no_turn (Absent o ∷ lines) (x ∷ front) tail who c turn A e = let rest : law_lines lines ≡ front ++ Took who c turn ∷ tail = cc in no_turn lines front tail who c turn A rest
no_turn (line ∷ lines) front tail who c turn A e = absurd A

pub idle_stays : (f : Form) (old new : State) (who : ℕ) (lines : List Line) → AreIdle lines → Gives f old (TakeTurn who) (law_lines lines) new → new ≡ old
idle_stays f old new who lines idle (Gives.gives_answer line is same answer) = same
idle_stays f old new who lines idle (Gives.gives_opener o is told J) = absurd (cc is)
idle_stays f old new who lines idle (Gives.gives_command o c is told G) = absurd (cc is)
idle_stays f old new who lines idle (Gives.gives_turn o turn is A) = absurd (no_turn lines A.front A.tail o A.task.command turn idle A.parts)
idle_stays f old new who lines idle (Gives.gives_turns o is A) = absurd (cc is)
idle_stays f old new who lines idle (Gives.gives_all o c mid is G A) = absurd (cc is)
idle_stays f old new who lines idle (Gives.gives_death o is told D) = absurd (cc is)

-- such plays behind others
pub rests_join : (t : Bool) (p q r : Place) (ps qs : List Play) → Taken t p q ps (Ok tt) → Rests t p q ps → Rests t q r qs → Rests t p r (ps ++ qs)
rests_join t p q r ps qs T A B tells state is =
    let a = A tells state is in
    let b = B tells state a.0 in
    let c = subst (λ g. (all : TookAll g q r qs state state) × AreIdle all.lines) (same_form t p q ps T) (b.1, b.2) in
    (b.0, all_behind (form_at p.over.world) p q r ps qs state state a.1 state c.0, idle_append a.1.lines c.0.lines a.2 c.1)

-- they may be taken again, so many times
module _ (f : Form) (p q : Place) (state : State) where
  again : (plays : List Play) (A : TookAll f p q plays state state) → AreIdle A.lines → TookAll f q q plays state state
  again plays A idle = record { lines = A.lines; course = A.course; counted = λ told e. e ∙ sym (idle_uncounted told A.lines idle); heard = idle_unheard q.logs A.lines idle }

  several : TookAll f q q round state state → (n : ℕ) → TookAll f q q (rounds n) state state
  several A zero = all_none f q state
  several A (suc n) = subst (λ ps. TookAll f q q ps state state) (rounds_more n ∙ ap rounds (let e : n + 1 ≡ suc n = omega arith in e)) (all_behind f q q q (rounds n) round state state (several A n) state A)

  pub rest_rounds : (A : TookAll f p q round state state) → AreIdle A.lines → (n : ℕ) → TookAll f p q (rounds (1 + n)) state state
  rest_rounds A idle n = subst (λ ps. TookAll f p q ps state state) (rounds_join 1 n) (all_behind f p q q round (rounds n) state state A state (several (again round A idle) n))

-- a round behind others, and those that would be the same
pub taken_rest : (t : Bool) (old mid new : Place) (n m : ℕ) → n < m → Taken t old mid (rounds n) (Ok tt) → Taken t mid new round (Ok tt) → Rests t mid new round → Taken t old new (rounds m) (Ok tt)
taken_rest t old mid new n m low A B rests =
    subst (λ ps. Taken t old new ps (Ok tt)) (rounds_join n (1 + (m - n - 1)) ∙ ap rounds (let e : n + (1 + (m - n - 1)) ≡ m = omega (arith, low) in e))
    (taken_join t old mid new (rounds n) A (Ok tt) (rounds (1 + (m - n - 1))) (record {
      header = B.header;
      unspent = B.unspent;
      rises = B.rises;
      quiet = B.quiet;
      told = λ tells state is. (let r = rests tells state is in (state, r.0, rest_rounds (form_at mid.over.world) mid new state r.1 r.2 (m - n - 1)));
      rose = λ tells state is. tt;
    }))
