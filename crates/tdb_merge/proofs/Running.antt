-- A command that the one opener does, by its lines: it is calm all along, and what its end leaves.
use Rattle.std.proofs.Common.{◌≡◌, ◌≢◌, ℕ, ◌+◌, true, false, cond, List, [], ◌∷◌, Option, None, Some, refl, sym, ◌∙◌, ap, subst, inl, inr, ◌⊎◌}
use Rattle.std.specs.Option.{option_or}
use Rattle.std.proofs.lemmas.Bool.{cases_eq}
use Rattle.tdb_space.specs.Form.{Form}
use Rattle.tdb_law.specs.Commands.{Command, Reply, Turn, is_done, is_spare}
use Rattle.tdb_law.specs.Commands.Reply.{Done}
use Rattle.tdb_law.specs.Commands.Turn.{Step, Blocked, Ends}
use Rattle.tdb_law.specs.Effects.{task_left}
use Rattle.tdb_law.specs.Lines.{Line, IsLawful, next_line, replay}
use Rattle.tdb_law.specs.Lines.Line.{Absent, Grew, Occupied, Took, Undone}
use Rattle.tdb_law.specs.Openers.{Map, Own, Task}
use Rattle.tdb_law.specs.Outcomes.{told_by}
use Rattle.tdb_law.specs.Plays.{GoesOn}
use Rattle.tdb_law.specs.Refusals.{Refusal, refusal}
use Rattle.tdb_law.specs.Refusals.Refusal.{OnlyReads, IsPrepared, LocksStand, NothingLocked, NeverNests, NoneOpen, IsDoomed}
use Rattle.tdb_law.specs.Replay.{Allows, Replay, Says, line_map, line_own, map_told, next, steps_of}
use Rattle.tdb_law.specs.Replay.Says.{says_busy, says_end, says_full, says_memory, says_number, says_pair, says_plain}
use Rattle.tdb_law.proofs.Tests.{never_true}
use Rattle.tdb_law.proofs.Walking.{put_else}
use Rattle.tdb_world.specs.Calm.{IsGroup}
use Rattle.tdb_merge.specs.Parts.{Does, IsIn, Phase}
use Rattle.tdb_world.proofs.Calm.{AllCalm, Calm}
use Rattle.tdb_merge.proofs.Shapes.{AreGrowths, Runs}

-- the reply with which a turn ends, and the first that lines tell
abbrev pub turn_reply : Turn → Option Reply
turn_reply (Ends r) = Some r
turn_reply turn = None

abbrev pub line_reply : Line → Option Reply
line_reply (Took who c turn) = turn_reply turn
line_reply line = None

abbrev pub reply_in : List Line → Option Reply
reply_in [] = None
reply_in (line ∷ lines) = option_or (line_reply line) (reply_in lines)

-- a command that is refused isn't done
told_done : (q : Option Refusal) (c : Command) (x : Own) (m : Map) → Done ≡ told_by q c x m → q ≡ None
told_done None c x m e = refl
told_done (Some OnlyReads) c x m e = absurd (cc e)
told_done (Some IsPrepared) c x m e = absurd (cc e)
told_done (Some LocksStand) c x m e = absurd (cc e)
told_done (Some NothingLocked) c x m e = absurd (cc e)
told_done (Some NeverNests) c x m e = absurd (cc e)
told_done (Some NoneOpen) c x m e = absurd (cc e)
told_done (Some IsDoomed) c x m e = absurd (cc e)

done_unrefused : (f : Form) (s : Replay) (who : ℕ) (c : Command) → Says f s who c Done → refusal f c (s.own who) ≡ None
done_unrefused f s who c (says_plain moving counting is) = told_done (refusal f c (s.own who)) c (s.own who) s.map is
done_unrefused f s who c (says_pair k v moving is there unseen) = absurd (cc is)
done_unrefused f s who c (says_end moving is all) = absurd (cc is)
done_unrefused f s who c (says_number q counting is seen) = absurd (cc is)
done_unrefused f s who c (says_memory is starving) = absurd (cc is)
done_unrefused f s who c (says_full len need is filling told) = absurd (cc is)
done_unrefused f s who c (says_busy o b is busy way) = absurd (cc is)

is_done-eq : (r : Reply) → is_done r ≡ true → r ≡ Done
is_done-eq Done e = refl
is_done-eq r e = absurd (never_true e)

module _ (f : Form) (m n : Map) (from : Phase) (end : Map) (to : Phase) (c : Command) (D : Does m n from end to c) where
  -- The command goes on: the committed map and the phase are those at first, and nobody else has begun one.
  pub record Running (q : Replay) : Type 0 where
    pub map : q.map ≡ m
    pub own : IsIn from (q.own 0)
    pub mine : (u : Task) → q.begun 0 ≡ Some u → (u.command ≡ c) × ((u.steps ≡ 0) ⊎ IsGroup c)
    pub others : (o : ℕ) → o ≢ 0 → q.begun o ≡ None
    pub fresh : q.stale ≡ false

  -- It ended with a reply. No command has begun. A spare reply leaves the map; done, it leaves what it is to leave.
  pub record Over (r : Reply) (q : Replay) : Type 0 where
    pub map : (q.map ≡ m) ⊎ (q.map ≡ n)
    pub begun : (o : ℕ) → q.begun o ≡ None
    pub fresh : q.stale ≡ false
    pub spare : is_spare r ≡ true → q.map ≡ m
    pub done : is_done r ≡ true → (q.map ≡ end) × IsIn to (q.own 0)

  no_task : (u : Task) → ◌≡◌ {A = Option Task} None (Some u) → ⊥
  no_task u e = cc e

  pub running_calm : (q : Replay) → Running q → Calm m n q
  running_calm q R = record {
    map = inl R.map;
    begun = λ o u e. (elim (cases_eq o 0) [
      | inl is ↦
          let mine = R.mine u (ap q.begun (sym is) ∙ e) in
          elim mine.1 [ inl none ↦ inl none | inr group ↦ inr (subst IsGroup (sym mine.0) group) ]
      | inr ne ↦ absurd (no_task u (sym (R.others o ne) ∙ e))
    ]);
    brings = λ o u e commit t has. (elim (cases_eq o 0) [
      | inl is ↦ D.commits (q.own 0) R.own (sym (R.mine u (ap q.begun (sym is) ∙ e)).0 ∙ commit) t (ap (λ p. (q.own p).txn) (sym is) ∙ has)
      | inr ne ↦ absurd (no_task u (sym (R.others o ne) ∙ e))
    ]);
    fresh = R.fresh;
  }

  over_calm : (r : Reply) (q : Replay) → Over r q → Calm m n q
  over_calm r q O = record {
    map = O.map;
    begun = λ o u e. absurd (no_task u (sym (O.begun o) ∙ e));
    brings = λ o u e. absurd (no_task u (sym (O.begun o) ∙ e));
    fresh = O.fresh;
  }

  -- What lines lead to: it is calm all along, and where they tell a reply it is over with that.
  abbrev pub LedTo : Replay → List Line → Type 0
  LedTo q lines = AllCalm m n f q lines × ((r : Reply) → reply_in lines ≡ Some r → Over r (replay f q lines))

  -- growths change nothing of it
  calm_grown : (lines : List Line) (q : Replay) → AreGrowths lines → Calm m n q → AllCalm m n f q lines
  calm_grown [] q grown C = C
  calm_grown (Grew a b ∷ lines) q grown C = (C, calm_grown lines (next_line f q (Grew a b)) grown (record { map = C.map; begun = C.begun; brings = C.brings; fresh = C.fresh }))
  calm_grown (line ∷ lines) q grown C = absurd grown

  none_grown : (lines : List Line) → AreGrowths lines → reply_in lines ≡ None
  none_grown [] grown = refl
  none_grown (Grew a b ∷ lines) grown = none_grown lines grown
  none_grown (line ∷ lines) grown = absurd grown

  over_grown : (r : Reply) (lines : List Line) (q : Replay) → AreGrowths lines → Over r q → Over r (replay f q lines)
  over_grown r [] q grown O = O
  over_grown r (Grew a b ∷ lines) q grown O =
      over_grown r lines (next_line f q (Grew a b)) grown (record { map = O.map; begun = O.begun; fresh = O.fresh; spare = O.spare; done = O.done })
  over_grown r (line ∷ lines) q grown O = absurd grown

  -- how many steps it has had
  kept_steps : (b : Option Task) → ((u : Task) → b ≡ Some u → (u.command ≡ c) × ((u.steps ≡ 0) ⊎ IsGroup c)) → (steps_of b ≡ 0) ⊎ IsGroup c
  kept_steps None mine = inl refl
  kept_steps (Some u) mine = (mine u refl).1

  -- the replay after a turn of it that isn't its end: it has had these steps
  still_running : (q : Replay) (turn : Turn) (k : ℕ) → Running q → (next f q 0 c turn).map ≡ q.map → (next f q 0 c turn).own 0 ≡ q.own 0
      → (next f q 0 c turn).begun 0 ≡ Some (record { command = c; steps = k }) → (k ≡ 0) ⊎ IsGroup c → Running (next f q 0 c turn)
  still_running q turn k R map own begun few = record {
    map = map ∙ R.map;
    own = subst (IsIn from) (sym own) R.own;
    mine = λ u e.
        (let same : record { command = c; steps = k } ≡ u = (let both = sym begun ∙ e in cc both) in (
          ap (λ (t : Task). t.command) (sym same),
          elim few [ inl none ↦ inl (ap (λ (t : Task). t.steps) (sym same) ∙ none) | inr group ↦ inr group ],
        ));
    others = λ o ne. put_else q.begun 0 (task_left c (steps_of (q.begun 0)) turn) o ne ∙ R.others o ne;
    fresh = R.fresh;
  }

  step_running : (q : Replay) → Running q → Allows f q 0 c Step → Running (next f q 0 c Step)
  step_running q R A = still_running q Step (steps_of (q.begun 0) + 1) R refl refl refl (inr (D.steps f (q.own 0) R.own (steps_of (q.begun 0)) A.row))

  blocked_running : (q : Replay) (o b : ℕ) → Running q → Running (next f q 0 c (Blocked o b))
  blocked_running q o b R = still_running q (Blocked o b) (steps_of (q.begun 0)) R refl refl refl (kept_steps (q.begun 0) R.mine)

  -- and after its end
  ended_over : (q : Replay) (r : Reply) → Running q → Allows f q 0 c (Ends r) → Over r (next f q 0 c (Ends r))
  ended_over q r R A =
      let x = q.own 0 in
      let k = steps_of (q.begun 0) in
      let from_m : line_map f c x (Ends r) q.map ≡ line_map f c x (Ends r) m = ap (line_map f c x (Ends r)) R.map in
      record {
        map = elim (D.ends f x R.own r) [ inl first ↦ inl (from_m ∙ first) | inr second ↦ inr (from_m ∙ second) ];
        begun = λ o. (elim (cases_eq o 0) [
          | inl is ↦ ap (next f q 0 c (Ends r)).begun is
          | inr ne ↦ put_else q.begun 0 (task_left c k (Ends r)) o ne ∙ R.others o ne
        ]);
        fresh = R.fresh;
        spare = λ spare. ap (λ b. cond b q.map (map_told f c x q.map)) spare ∙ R.map;
        done = λ done.
            (let is : r ≡ Done = is_done-eq r done in
            let none : refusal f c x ≡ None = done_unrefused f q 0 c (subst (Says f q 0 c) is A.tells.0) in (
              from_m ∙ ap (λ z. line_map f c x (Ends z) m) is ∙ D.done_map f x R.own none,
              subst (λ (z : Reply × Map). IsIn to (line_own f c x k (Ends z.0) z.1)) (λ j. (sym is j, sym R.map j)) (D.done_own f x R.own none k),
            ));
      }

  ends_reply : (r z : Reply) → ◌≡◌ {A = Option Reply} (Some r) (Some z) → r ≡ z
  ends_reply r z e = cc e

  -- a turn of it, and the lines behind that
  took : (turn : Turn) (lines : List Line) (q : Replay) → Running q → ((z : Replay) → Running z → Runs 0 c lines → IsLawful f z lines → LedTo z lines)
      → GoesOn turn (Runs 0 c lines) (AreGrowths lines) → IsLawful f q (Took 0 c turn ∷ lines) → LedTo q (Took 0 c turn ∷ lines)
  took Step lines q R more on L =
      let rest = more (next f q 0 c Step) (step_running q R L.0.1) on L.2 in
      ((running_calm q R, rest.0), rest.1)
  took (Blocked o b) lines q R more on L =
      let still = blocked_running q o b R in (
        (running_calm q R, calm_grown lines (next f q 0 c (Blocked o b)) on (running_calm (next f q 0 c (Blocked o b)) still)),
        λ r e. absurd (let both : None ≡ Some r = sym (none_grown lines on) ∙ e in cc both),
      )
  took (Ends r) lines q R more on L =
      let over = ended_over q r R L.0.1 in (
        (running_calm q R, calm_grown lines (next f q 0 c (Ends r)) on (over_calm r (next f q 0 c (Ends r)) over)),
        λ z e. subst (λ y. Over y (replay f (next f q 0 c (Ends r)) lines)) (ends_reply r z e) (over_grown r lines (next f q 0 c (Ends r)) on over),
      )

  none_told : (r : Reply) (q : Replay) → ◌≡◌ {A = Option Reply} None (Some r) → Over r q
  none_told r q e = absurd (cc e)

  -- all lines of it
  pub lines_lead : (lines : List Line) (q : Replay) → Running q → Runs 0 c lines → IsLawful f q lines → LedTo q lines
  lines_lead [] q R runs L = (running_calm q R, λ r e. none_told r q e)
  lines_lead (Took o d turn ∷ lines) q R (who, is, on) L =
      subst (λ (z : ℕ × Command). LedTo q (Took z.0 z.1 turn ∷ lines)) (λ j. (sym who j, sym is j))
      (took turn lines q R (lines_lead lines) on (subst (λ (z : ℕ × Command). IsLawful f q (Took z.0 z.1 turn ∷ lines)) (λ j. (who j, is j)) L))
  lines_lead (Grew a b ∷ lines) q R runs L =
      let rest = lines_lead lines (next_line f q (Grew a b)) (record { map = R.map; own = R.own; mine = R.mine; others = R.others; fresh = R.fresh }) runs L.2 in
      ((running_calm q R, rest.0), rest.1)
  lines_lead (Undone bytes to ∷ lines) q R runs L = absurd (never_true (sym R.fresh ∙ L.0))
  lines_lead (Absent o ∷ lines) q R runs L =
      let alone : LedTo q (Absent o ∷ []) = (
        (running_calm q R, running_calm (next_line f q (Absent o)) (record { map = R.map; own = R.own; mine = R.mine; others = R.others; fresh = R.fresh })),
        λ r e. none_told r (replay f q (Absent o ∷ [])) e,
      ) in
      subst (λ ls. LedTo q (Absent o ∷ ls)) (sym runs) alone
  lines_lead (Occupied o ∷ lines) q R runs L =
      let alone : LedTo q (Occupied o ∷ []) = (
        (running_calm q R, running_calm (next_line f q (Occupied o)) (record { map = R.map; own = R.own; mine = R.mine; others = R.others; fresh = R.fresh })),
        λ r e. none_told r (replay f q (Occupied o ∷ [])) e,
      ) in
      subst (λ ls. LedTo q (Occupied o ∷ ls)) (sym runs) alone
  lines_lead (line ∷ lines) q R runs L = absurd runs
