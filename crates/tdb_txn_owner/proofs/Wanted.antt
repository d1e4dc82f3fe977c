-- What the next turn of the opener aside wants, and how it holds all records, in the words of the law.
use Rattle.std.proofs.Common.{◌≡◌, ℕ, ◌+◌, max, List, [], ◌∷◌, Bool, true, false, nat_le, nat_lt, Option, Some, None, refl, sym, ◌∙◌, ap, subst, arith}
use Rattle.std.specs.Prelude.{◌&&◌, not, if◌then◌else◌}
use Rattle.std.proofs.Math.Bool.{and-true}
use Rattle.std.proofs.lemmas.Bool.Decides.{nat_tests}
use Rattle.tdb_space.specs.Form.{Form}
use Rattle.tdb_locks.specs.HeldLocks.{total_of}
use Rattle.tdb_locks.specs.declared.kind.Kind.TheVariants.{Write}
use Rattle.tdb_locks.specs.declared.piece.Piece.{Piece}
use Rattle.tdb_law.specs.Commands as Law
use Rattle.tdb_law.specs.Commands.{GroupCommand}
use Rattle.tdb_law.specs.Commands.GroupCommand.{Start, Commit, Prepare, Cancel}
use Rattle.tdb_law.specs.Commands.Command.{OnMap, OnLocks, Seqnum, OnGroup, OnWalk}
use Rattle.tdb_law.specs.Held.{held, locked_next, wanted}
use Rattle.tdb_law.specs.Openers.{Own, Task, Txn, View, nowhere}
use Rattle.tdb_law.specs.Refusals.{Refusal, first_that_applies, refusal}
use Rattle.tdb_law.specs.Refusals.Refusal.{IsDoomed, LocksStand, NoneOpen}
use Rattle.tdb_law.specs.Rows.{Lock, commit_locks, locks, locks_by, plans_in, start_locks}
use Rattle.tdb_steps.specs.declared.flag.Flag.TheVariants as Flags
use Rattle.tdb_txn.specs.Txn.{txn_depth, txn_doomed}
use Rattle.tdb_txn_turns.specs.InsideTxn.Laws.{IsEnd}
use Rattle.tdb_txn_turns.proofs.InsideTxn.Inside.{wants_none}
use Rattle.tdb_law.specs.OneAside.Own.{side_wants}
use Rattle.tdb_law.specs.OneAside.Sides.{Past, Side}
use Rattle.tdb_txn_turns.specs.Finishes.{finish_steps}
use Rattle.tdb_txn_turns.specs.Laws.{Ends, commits, prepares, HasPlan}
use Rattle.tdb_txn_turns.specs.Prepares.{stage_steps, IsPlanning}
use Rattle.tdb_txn_turns.specs.Starts.{start_steps}
use Rattle.tdb_txn_turns.specs.declared.committing.Committing.TheVariants.{Preparing, Finishing}
use Rattle.tdb_txn_turns.specs.declared.finishing.Finishing as Finish
use Rattle.tdb_txn_turns.specs.declared.finishing.Finishing.TheVariants.{Open, Applied, Settled, Shut}
use Rattle.tdb_txn_turns.specs.declared.preparing.PrepareStage.{PrepareStage}
use Rattle.tdb_txn_turns.specs.declared.preparing.PrepareStage.TheVariants.{Unchanged, Begun, Records, Locked, Planned, Filled}
use Rattle.tdb_txn_turns.specs.declared.starting.Starting.{Starting}
use Rattle.tdb_txn_turns.specs.declared.starting.Starting.TheVariants as Starts
use Rattle.tdb_txn_turns.proofs.Lawful.{commit_holds, finish_holds, planned_before, start_holds}
use Rattle.tdb_commands.specs.InLaw.{law_command}
use Rattle.tdb_commands.specs.declared.command.Command.{Command}
use Rattle.tdb_commands.specs.declared.command.Command.TheVariants as Given
use Rattle.tdb_txn_owner.specs.declared.open_txn.OpenTxn.{OpenTxn}
use Rattle.tdb_commands.specs.declared.options.Options.{Options}
use Rattle.tdb_txn_owner.specs.declared.stage.PreparedTxn.TheVariants.{Nothing}
use Rattle.tdb_txn_owner.specs.declared.stage.Stage.{Stage}
use Rattle.tdb_txn_owner.specs.declared.stage.Stage.TheVariants as At
use Rattle.tdb_txn_owner.specs.declared.wanting.Wants.TheVariants as Wants
use Rattle.tdb_txn_owner.specs.Open.{HasOpen}
use Rattle.tdb_txn_owner.specs.Stages.{prepared_steps, stage_task, Known, IsSide}
use Rattle.tdb_txn_owner.specs.Wanting.{given_wants, open_wants, plan_wants, plans_open, stage_wants, start_wants, wanted_by}
use Rattle.tdb_txn_owner.proofs.Counts.{total_counted}
use Rattle.tdb_txn_owner.proofs.Opened.{one_more_deep, txn_of}
use Rattle.tdb_txn_owner.proofs.Planned.{has_plan}
use Rattle.tdb_txn_owner.proofs.Sided.{same_task}

-- an opener with a transaction takes no locks for a command, but for a Commit and a Prepare that has something to plan
locks_none : (f : Form) (x : Own) (t : Txn) (c : Law.Command) → x.txn ≡ Some t → (IsEnd c → plans_in t ≡ false) → (purging : Bool) → locks f c x purging ≡ []
locks_none f x t c has bare purging = go c bare (refusal f c x)
  where
    go : (c : Law.Command) → (IsEnd c → plans_in t ≡ false) → (q : Option Refusal) → locks_by f q c x purging ≡ []
    go c bare (Some q) = refl
    go (OnMap c) bare None = rw has refl
    go (OnLocks c) bare None = rw has refl
    go Seqnum bare None = rw has refl
    go (OnGroup Start) bare None = rw has refl
    go (OnGroup Commit) bare None = let none = bare tt in rw (has, none) refl
    go (OnGroup Prepare) bare None = let none = bare tt in rw (has, none) refl
    go (OnGroup Cancel) bare None = refl
    go (OnWalk w) bare None = rw has refl

idle_wants : (f : Form) (x : Own) (t : Txn) (v : View) (c : Law.Command) (b : ℕ) → x.txn ≡ Some t → (IsEnd c → plans_in t ≡ false) → wanted f c x nowhere v 0 b ≡ 0
idle_wants f x t v c b has bare = wants_none f x x c (locks_none f x t c has bare) (rw has refl) nowhere v b

-- the rows of a Start, and of a Commit or a Prepare that goes on
start_takes : (s : Starting) (b : ℕ) → locked_next start_locks (start_steps s) b ≡ wanted_by (start_wants s) b
start_takes Starts.Begun b = omega arith
start_takes Starts.Claimed b = omega arith
start_takes Starts.Reading b = omega arith

plan_takes : (numbered : Bool) (s : PrepareStage) (b : ℕ) → IsPlanning s → locked_next (commit_locks numbered) (stage_steps s) b ≡ wanted_by (plan_wants numbered s) b
plan_takes numbered Unchanged b some = absurd some
plan_takes true (Begun txn) b some = omega arith
plan_takes false (Begun txn) b some = omega arith
plan_takes numbered (Records txn) b some = refl
plan_takes true (Locked txn) b some = omega arith
plan_takes false (Locked txn) b some = omega arith
plan_takes true (Planned state) b some = omega arith
plan_takes false (Planned state) b some = omega arith
plan_takes true (Filled state) b some = omega arith
plan_takes false (Filled state) b some = omega arith

finish_takes : (numbered : Bool) (s : Finish.Finishing) (b : ℕ) → locked_next (commit_locks numbered) (5 + finish_steps s) b ≡ 0
finish_takes true (Open state) b = omega arith
finish_takes false (Open state) b = omega arith
finish_takes true (Applied state) b = omega arith
finish_takes false (Applied state) b = omega arith
finish_takes true (Settled state) b = omega arith
finish_takes false (Settled state) b = omega arith
finish_takes true Shut b = omega arith
finish_takes false Shut b = omega arith

-- a Commit or a Prepare at a stage of its plan
module _ (f : Form) (x : Own) (t : Txn) (g : GroupCommand) (ends : Ends g) (none : refusal f (OnGroup g) x ≡ None) (has : x.txn ≡ Some t) where
  going_wants : (v : View) (numbered : Bool) (s : PrepareStage) (b : ℕ) → numbered ≡ t.numbered → IsPlanning s → HasPlan t s
      → wanted f (OnGroup g) x nowhere v (stage_steps s) b ≡ wanted_by (plan_wants numbered s) b
  going_wants v numbered s b same some plan =
      (commit_holds f x t nowhere v g (stage_steps s) b ends none has (has_plan t s some plan)).1
      ∙ ap (λ n. locked_next (commit_locks n) (stage_steps s) b) (sym same) ∙ plan_takes numbered s b some

  planning_wants : (v : View) (numbered : Bool) (s : PrepareStage) (b : ℕ) → numbered ≡ t.numbered → HasPlan t s → wanted f (OnGroup g) x nowhere v (stage_steps s) b ≡ wanted_by (plan_wants numbered s) b
  planning_wants v numbered Unchanged b same plan = idle_wants f x t v (OnGroup g) b has (λ end. plan)
  planning_wants v numbered (Begun txn) b same plan = going_wants v numbered (Begun txn) b same tt plan
  planning_wants v numbered (Records txn) b same plan = going_wants v numbered (Records txn) b same tt plan
  planning_wants v numbered (Locked txn) b same plan = going_wants v numbered (Locked txn) b same tt plan
  planning_wants v numbered (Planned state) b same plan = going_wants v numbered (Planned state) b same tt plan
  planning_wants v numbered (Filled state) b same plan = going_wants v numbered (Filled state) b same tt plan

-- inside a transaction that isn't prepared
module _ (f : Form) (o : Options) (t : OpenTxn) (base : List ℕ) (x : Own) (H : HasOpen o t base x) where
  abbrev pub txn : Txn
  txn = txn_of t.own base

  abbrev pub doomed : Bool
  doomed = txn_doomed t.own.txn

  abbrev pub nested : Bool
  nested = nat_lt 0 (txn_depth t.own.txn)

  abbrev pub locks_stand : Bool
  locks_stand = nat_lt 0 (total_of t.held)

  pub commit_why : refusal f (OnGroup Commit) x ≡ (if doomed then Some IsDoomed else if not nested && locks_stand then Some LocksStand else None)
  unfolding refusal
  commit_why = rw (H.txn, total_counted t.held x t.counts H.counted, one_more_deep (txn_depth t.own.txn)) refl

  pub prepare_why : refusal f (OnGroup Prepare) x ≡ (if nested then None else if doomed then Some IsDoomed else if not nested && locks_stand then Some LocksStand else None)
  unfolding refusal
  prepare_why = rw (H.txn, total_counted t.held x t.counts H.counted, one_more_deep (txn_depth t.own.txn)) (go nested)
    where
      go : (n : Bool)
          → (first_that_applies (if n then [] else (false, NoneOpen) ∷ (doomed, IsDoomed) ∷ (not n && locks_stand, LocksStand) ∷ []))
          ≡ (if n then None else if doomed then Some IsDoomed else if not n && locks_stand then Some LocksStand else None)
      go true = refl
      go false = refl

  pub outer_plans : plans_in txn ≡ (not nested && t.own.changed)
  outer_plans = rw (shallow (txn_depth t.own.txn)) (and-true _)
    where
      shallow : (d : ℕ) → nat_le (d + 1) 1 ≡ not (nat_lt 0 d)
      shallow d = grind (arith, nat_tests)

  -- its locks, by these
  row_by : (d n l c : Bool) (q : Option Refusal) → q ≡ (if d then Some IsDoomed else if not n && l then Some LocksStand else None)
      → plans_in txn ≡ (not n && c) → (purging : Bool) → locks_by f q (OnGroup Commit) x purging ≡ (if not d && (not n && (not l && c)) then commit_locks t.own.numbered else [])
  row_by true n l c q why plans purging = rw why refl
  row_by false true l c q why plans purging = rw (why, H.txn, plans) refl
  row_by false false true c q why plans purging = rw why refl
  row_by false false false true q why plans purging = rw (why, H.txn, plans) refl
  row_by false false false false q why plans purging = rw (why, H.txn, plans) refl

  prepare_row_by : (d n l c : Bool) (q : Option Refusal) → q ≡ (if n then None else if d then Some IsDoomed else if not n && l then Some LocksStand else None)
      → plans_in txn ≡ (not n && c) → (purging : Bool) → locks_by f q (OnGroup Prepare) x purging ≡ (if not d && (not n && (not l && c)) then commit_locks t.own.numbered else [])
  prepare_row_by true true l c q why plans purging = rw (why, H.txn, plans) refl
  prepare_row_by true false l c q why plans purging = rw why refl
  prepare_row_by false true l c q why plans purging = rw (why, H.txn, plans) refl
  prepare_row_by false false true c q why plans purging = rw why refl
  prepare_row_by false false false true q why plans purging = rw (why, H.txn, plans) refl
  prepare_row_by false false false false q why plans purging = rw (why, H.txn, plans) refl

  row_wants : (v : View) (g : GroupCommand) (b : ℕ) → ((purging : Bool) → locks f (OnGroup g) x purging ≡ (if plans_open t then commit_locks t.own.numbered else []))
      → wanted f (OnGroup g) x nowhere v 0 b ≡ wanted_by (open_wants t) b
  unfolding wanted
  row_wants v g b row = rw (row false) (go (plans_open t) t.own.numbered)
    where
      go : (p numbered : Bool) → max (locked_next (if p then commit_locks numbered else []) 0 b) 0 ≡ wanted_by (if p then Wants.Records Write else Wants.Nothing) b
      go true true = omega arith
      go true false = omega arith
      go false numbered = omega arith

  other : (v : View) (c : Law.Command) (b : ℕ) → (IsEnd c → ⊥) → wanted f c x nowhere v 0 b ≡ 0
  other v c b apart = idle_wants f x txn v c b H.txn (λ end. absurd (apart end))

  open_takes : (v : View) (b : ℕ) (c : Command) → wanted f (law_command c) x nowhere v 0 b ≡ wanted_by (given_wants t (Some c)) b
  open_takes v b (Given.Fetch key) = other v _ b (λ e. e)
  open_takes v b (Given.Has key) = other v _ b (λ e. e)
  open_takes v b (Given.Store key value Flags.Replace) = other v _ b (λ e. e)
  open_takes v b (Given.Store key value Flags.Insert) = other v _ b (λ e. e)
  open_takes v b (Given.Store key value Flags.Modify) = other v _ b (λ e. e)
  open_takes v b (Given.Append key value) = other v _ b (λ e. e)
  open_takes v b (Given.Delete key) = other v _ b (λ e. e)
  open_takes v b Given.Wipe = other v _ b (λ e. e)
  open_takes v b Given.Check = other v _ b (λ e. e)
  open_takes v b (Given.ChainLock key) = other v _ b (λ e. e)
  open_takes v b (Given.ChainLockNb key) = other v _ b (λ e. e)
  open_takes v b (Given.ChainUnlock key) = other v _ b (λ e. e)
  open_takes v b Given.LockAll = other v _ b (λ e. e)
  open_takes v b Given.LockAllRead = other v _ b (λ e. e)
  open_takes v b Given.UnlockAll = other v _ b (λ e. e)
  open_takes v b Given.Start = other v _ b (λ e. e)
  open_takes v b Given.Commit = row_wants v Commit b (λ purging. row_by doomed nested locks_stand t.own.changed (refusal f (OnGroup Commit) x) commit_why outer_plans purging)
  open_takes v b Given.Prepare = row_wants v Prepare b (λ purging. prepare_row_by doomed nested locks_stand t.own.changed (refusal f (OnGroup Prepare) x) prepare_why outer_plans purging)
  open_takes v b Given.Cancel = other v _ b (λ e. e)
  open_takes v b Given.First = other v _ b (λ e. e)
  open_takes v b Given.Next = other v _ b (λ e. e)
  open_takes v b Given.EndWalk = other v _ b (λ e. e)
  open_takes v b Given.Seqnum = other v _ b (λ e. e)
  open_takes v b Given.Close = other v _ b (λ e. e)

-- each stage wants what the law says
module _ (f : Form) (o : Options) (owner : ℕ) (ps : List Piece) (k : Known) (past : Past) (s : Side) (b : ℕ) where
  abbrev Wants_at : Stage → Task → Type 0
  Wants_at stage t = side_wants f s t b ≡ wanted_by (stage_wants stage) b

  task_wants : (stage : Stage) (t : Task) → IsSide f o owner ps stage k past s → stage_task stage ≡ Some t → Wants_at stage t
  task_wants (At.Starting st) t S has =
      subst (Wants_at (At.Starting st)) (same_task _ t has)
      ((start_holds f s.own nowhere s.view (start_steps st) b S.own.granted (ap (λ (x : Own). x.txn) (sym S.own.bare))).1 ∙ start_takes st b)
  task_wants (At.Open txn None) t S has = absurd (cc has)
  task_wants (At.Open txn (Some c)) t S has = subst (Wants_at (At.Open txn (Some c))) (same_task _ t has) (open_takes f o txn k.file s.own S.own s.view b c)
  task_wants (At.Committing (Preparing p)) t S has =
      subst (Wants_at (At.Committing (Preparing p))) (same_task _ t has)
      (planning_wants f s.own S.own.txn Commit commits S.own.has.outer.granted S.own.has.outer.has s.view p.numbered p.stage b S.own.numbered S.own.change)
  task_wants (At.Committing (Finishing c)) t S has =
      subst (Wants_at (At.Committing (Finishing c))) (same_task _ t has)
      ((commit_holds f s.own S.own.txn nowhere s.view Commit (5 + finish_steps c) b commits S.own.has.outer.granted S.own.has.outer.has S.own.change).1 ∙ finish_takes S.own.txn.numbered c b)
  task_wants (At.Preparing p) t S has =
      subst (Wants_at (At.Preparing p)) (same_task _ t has)
      (planning_wants f s.own S.own.txn Prepare prepares S.own.has.outer.granted S.own.has.outer.has s.view p.numbered p.stage b S.own.numbered S.own.plan)
  task_wants (At.Prepared left None) t S has = absurd (cc has)
  task_wants (At.Prepared left (Some c)) t S has =
      subst (Wants_at (At.Prepared left (Some c))) (same_task _ t has)
      (idle_wants f s.own S.own.txn s.view (law_command c) b S.own.has.outer.has (λ end. planned_before S.own.txn (prepared_steps left) S.own.has.prepared_is))
  task_wants (At.Finishing c) t S has =
      subst (Wants_at (At.Finishing c)) (same_task _ t has) (finish_holds f s.own S.own.txn nowhere s.view 4 (finish_steps c) b S.own.has.outer.has S.own.has.prepared_is).1

pub wanted_law : (f : Form) (o : Options) (owner : ℕ) (ps : List Piece) (stage : Stage) (k : Known) (past : Past) (s : Side) (t : Task)
    → IsSide f o owner ps stage k past s → stage_task stage ≡ Some t → (b : ℕ) → side_wants f s t b ≡ wanted_by (stage_wants stage) b
wanted_law f o owner ps stage k past s t S has b = task_wants f o owner ps k past s b stage t S has
