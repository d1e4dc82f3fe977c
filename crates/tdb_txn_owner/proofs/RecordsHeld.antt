-- How the opener aside holds all records, in the words of the law.
use Rattle.std.proofs.Common.{◌≡◌, ℕ, ◌+◌, ◌≤◌, max, List, Bool, true, false, nat_le, nat_lt, Some, None, refl, sym, ◌∙◌, ap, arith}
use Rattle.std.specs.Prelude.{◌&&◌, if◌then◌else◌}
use Rattle.std.proofs.Math.Bool.{and-false}
use Rattle.std.proofs.lemmas.Bool.Decides.{nat_tests}
use Rattle.tdb_space.specs.Form.{Form}
use Rattle.tdb_locks.specs.declared.kind.Kind.TheVariants.{Read, Write}
use Rattle.tdb_locks.specs.declared.piece.Piece.{Piece}
use Rattle.tdb_law.specs.Commands as Law
use Rattle.tdb_law.specs.Commands.{GroupCommand}
use Rattle.tdb_law.specs.Commands.GroupCommand.{Commit, Prepare}
use Rattle.tdb_law.specs.Commands.Command.{OnMap, OnLocks, Seqnum, OnGroup, OnWalk}
use Rattle.tdb_law.specs.Held.{held, holding, kept, locked, txn_held}
use Rattle.tdb_law.specs.Openers.{Own, Txn, View, nowhere}
use Rattle.tdb_law.specs.Refusals.{refusal}
use Rattle.tdb_law.specs.Rows.{all_end, commit_locks, locks, start_locks}
use Rattle.tdb_law.specs.OneAside.Sides.{Past, Side}
use Rattle.tdb_txn_turns.specs.Finishes.{finish_steps}
use Rattle.tdb_txn_turns.specs.Laws.{Ends, commits, prepares, HasPlan}
use Rattle.tdb_txn_turns.specs.Prepares.{stage_steps, IsPlanning, start_held}
use Rattle.tdb_txn_turns.specs.Starts.{start_steps}
use Rattle.tdb_txn_turns.specs.declared.committing.Committing.TheVariants.{Preparing, Finishing}
use Rattle.tdb_txn_turns.specs.declared.finishing.Finishing as Finish
use Rattle.tdb_txn_turns.specs.declared.finishing.Finishing.TheVariants.{Open, Applied, Settled, Shut}
use Rattle.tdb_txn_turns.specs.declared.preparing.PrepareStage.{PrepareStage}
use Rattle.tdb_txn_turns.specs.declared.preparing.PrepareStage.TheVariants.{Unchanged, Begun, Records, Locked, Planned, Filled}
use Rattle.tdb_txn_turns.specs.declared.starting.Starting.{Starting}
use Rattle.tdb_txn_turns.specs.declared.starting.Starting.TheVariants as Starts
use Rattle.tdb_txn_turns.proofs.Lawful.{commit_holds, finish_holds, start_holds}
use Rattle.tdb_commands.specs.InLaw.{law_command}
use Rattle.tdb_commands.specs.declared.options.Options.{Options}
use Rattle.tdb_txn_owner.specs.declared.stage.PreparedTxn.{PreparedTxn}
use Rattle.tdb_txn_owner.specs.declared.stage.PreparedTxn.TheVariants.{Opened, Nothing}
use Rattle.tdb_txn_owner.specs.declared.stage.Stage.{Stage}
use Rattle.tdb_txn_owner.specs.declared.stage.Stage.TheVariants as At
use Rattle.tdb_txn_owner.specs.Ends.{task_of}
use Rattle.tdb_txn_owner.specs.Stages.{plan_records, prepared_records, prepared_steps, stage_records, stage_task, start_records, Known, IsSide}
use Rattle.tdb_txn_owner.specs.Wanting.{records_at}
use Rattle.tdb_txn_owner.proofs.Keeping.{keeps_nothing}
use Rattle.tdb_txn_owner.proofs.Planned.{has_plan}
use Rattle.tdb_txn_owner.proofs.Rows.{locked_none}

-- a command that has had no step holds what its opener keeps
took_none : (f : Form) (x : Own) (c : Law.Command) (b : ℕ) → held f c x nowhere 0 b ≡ 0
unfolding held
took_none f x (OnMap c) b = locked_none (locks f (OnMap c) x false) b
took_none f x (OnLocks c) b = locked_none (locks f (OnLocks c) x false) b
took_none f x Seqnum b = locked_none (locks f Seqnum x false) b
took_none f x (OnGroup g) b = locked_none (locks f (OnGroup g) x false) b
took_none f x (OnWalk w) b = locked_none (locks f (OnWalk w) x false) b

pub holds_given : (f : Form) (x : Own) (c : Law.Command) (b : ℕ) → holding f x nowhere (Some (task_of c 0)) b ≡ holding f x nowhere None b
holds_given f x c b = ap (λ m. max m (kept f x nowhere b)) (took_none f x c b)

holds_kept : (f : Form) (x : Own) (b : ℕ) → holding f x nowhere None b ≡ kept f x nowhere b
holds_kept f x b = omega arith

-- at a byte beyond that of the sequence number
module _ (b : ℕ) (beyond : 49 ≤ b) where
  below : (n : ℕ) → n ≤ 49 → nat_lt b n ≡ false
  below n low = grind (arith, nat_tests)

  b1 : nat_lt b 1 ≡ false
  b1 = below 1 (omega arith)

  b9 : nat_lt b 9 ≡ false
  b9 = below 9 (omega arith)

  b49 : nat_lt b 49 ≡ false
  b49 = below 49 (omega arith)

  start_at : (s : Starting) → locked start_locks (start_steps s) b ≡ records_at (start_records s) b
  start_at Starts.Begun = omega arith
  start_at Starts.Claimed = rw (b9, and-false (nat_le 8 b)) (omega arith)
  start_at Starts.Reading = rw (b9, and-false (nat_le 8 b)) (omega arith)

  reads_at : start_held b ≡ records_at (Some Read) b
  reads_at = start_at Starts.Reading

  -- one lock for writing beside one for reading
  both : (a : Bool) → max (max (if a then 2 else 0) 0) (if a then 1 else 0) ≡ (if a then 2 else 0)
  both true = omega arith
  both false = omega arith

  writes_by : (m : ℕ) → m ≡ max (if nat_le 168 b && nat_lt b all_end then 2 else 0) 0 → max m (start_held b) ≡ records_at (Some Write) b
  writes_by m is = rw (is, reads_at) (both (nat_le 168 b && nat_lt b all_end))

  plan_at : (numbered : Bool) (s : PrepareStage) → IsPlanning s → max (locked (commit_locks numbered) (stage_steps s) b) (start_held b) ≡ records_at (Some (plan_records s)) b
  plan_at numbered Unchanged some = absurd some
  plan_at true (Begun txn) some = let e = reads_at in omega (arith, e)
  plan_at false (Begun txn) some = let e = reads_at in omega (arith, e)
  plan_at true (Records txn) some = writes_by _ (omega arith)
  plan_at false (Records txn) some = writes_by _ (omega arith)
  plan_at true (Locked txn) some = writes_by _ (rw (b1, b49, and-false (nat_le 0 b), and-false (nat_le 48 b)) (omega arith))
  plan_at false (Locked txn) some = writes_by _ (rw (b1, and-false (nat_le 0 b)) (omega arith))
  plan_at true (Planned state) some = writes_by _ (rw (b1, b49, and-false (nat_le 0 b), and-false (nat_le 48 b)) (omega arith))
  plan_at false (Planned state) some = writes_by _ (rw (b1, and-false (nat_le 0 b)) (omega arith))
  plan_at true (Filled state) some = writes_by _ (rw (b1, b49, and-false (nat_le 0 b), and-false (nat_le 48 b)) (omega arith))
  plan_at false (Filled state) some = writes_by _ (rw (b1, and-false (nat_le 0 b)) (omega arith))

  late_at : (numbered : Bool) (s : Finish.Finishing) → max (locked (commit_locks numbered) (5 + finish_steps s) b) (start_held b) ≡ records_at (Some Write) b
  late_at true (Open state) = writes_by _ (rw (b1, b49, and-false (nat_le 0 b), and-false (nat_le 48 b)) (omega arith))
  late_at false (Open state) = writes_by _ (rw (b1, and-false (nat_le 0 b)) (omega arith))
  late_at true (Applied state) = writes_by _ (rw (b1, b49, and-false (nat_le 0 b), and-false (nat_le 48 b)) (omega arith))
  late_at false (Applied state) = writes_by _ (rw (b1, and-false (nat_le 0 b)) (omega arith))
  late_at true (Settled state) = writes_by _ (rw (b1, b49, and-false (nat_le 0 b), and-false (nat_le 48 b)) (omega arith))
  late_at false (Settled state) = writes_by _ (rw (b1, and-false (nat_le 0 b)) (omega arith))
  late_at true Shut = writes_by _ (rw (b1, b49, and-false (nat_le 0 b), and-false (nat_le 48 b)) (omega arith))
  late_at false Shut = writes_by _ (rw (b1, and-false (nat_le 0 b)) (omega arith))

  -- what a prepared transaction keeps
  prepared_at : (t : Txn) (left : PreparedTxn) → t.prepared ≡ Some (prepared_steps left) → txn_held t b ≡ records_at (Some (prepared_records left)) b
  prepared_at t left is = rw is (go left t.numbered)
    where
      swap : (m : ℕ) → max m (start_held b) ≡ records_at (Some Write) b → max (start_held b) m ≡ records_at (Some Write) b
      swap m e = omega (arith, e)

      go : (left : PreparedTxn) (numbered : Bool) → max (start_held b) (locked (commit_locks numbered) (prepared_steps left) b) ≡ records_at (Some (prepared_records left)) b
      go (Opened state) true = swap _ (writes_by _ (rw (b1, b49, and-false (nat_le 0 b), and-false (nat_le 48 b)) (omega arith)))
      go (Opened state) false = swap _ (writes_by _ (rw (b1, and-false (nat_le 0 b)) (omega arith)))
      go (Nothing true) true = swap _ (writes_by _ (rw (b1, b49, and-false (nat_le 0 b), and-false (nat_le 48 b)) (omega arith)))
      go (Nothing true) false = swap _ (writes_by _ (rw (b1, and-false (nat_le 0 b)) (omega arith)))
      go (Nothing false) true = let e = reads_at in omega (arith, e)
      go (Nothing false) false = let e = reads_at in omega (arith, e)

  -- what an opener keeps whose transaction isn't prepared
  open_at : (f : Form) (x : Own) (t : Txn) → x.txn ≡ Some t → t.prepared ≡ None → holding f x nowhere None b ≡ records_at (Some Read) b
  open_at f x t has free = rw (has, free) (let e = reads_at in omega (arith, e))

  module _ (f : Form) (x : Own) (t : Txn) (g : GroupCommand) (ends : Ends g) (none : refusal f (OnGroup g) x ≡ None) (has : x.txn ≡ Some t) (free : t.prepared ≡ None) where
    going_at : (v : View) (s : PrepareStage) → IsPlanning s → HasPlan t s → holding f x nowhere (Some (task_of (OnGroup g) (stage_steps s))) b ≡ records_at (Some (plan_records s)) b
    going_at v s some plan = (commit_holds f x t nowhere v g (stage_steps s) b ends none has (has_plan t s some plan)).0 ∙ plan_at t.numbered s some

    planning_at : (v : View) (s : PrepareStage) → HasPlan t s → holding f x nowhere (Some (task_of (OnGroup g) (stage_steps s))) b ≡ records_at (Some (plan_records s)) b
    planning_at v Unchanged plan = holds_given f x (OnGroup g) b ∙ open_at f x t has free
    planning_at v (Begun txn) plan = going_at v (Begun txn) tt plan
    planning_at v (Records txn) plan = going_at v (Records txn) tt plan
    planning_at v (Locked txn) plan = going_at v (Locked txn) tt plan
    planning_at v (Planned state) plan = going_at v (Planned state) tt plan
    planning_at v (Filled state) plan = going_at v (Filled state) tt plan

  -- each stage holds them so
  module _ (f : Form) (o : Options) (owner : ℕ) (ps : List Piece) (k : Known) (past : Past) (s : Side) where
    stage_at : (stage : Stage) → IsSide f o owner ps stage k past s → holding f s.own nowhere (stage_task stage) b ≡ records_at (stage_records stage) b
    stage_at (At.Starting st) S =
        let bare = S.own.bare in
        let out : s.own.txn ≡ None = ap (λ (x : Own). x.txn) (sym bare) in
        let none = keeps_nothing f s.own out (ap (λ (x : Own). x.counts) (sym bare)) (ap (λ (x : Own). x.all) (sym bare)) b in
        let held = (start_holds f s.own nowhere s.view (start_steps st) b S.own.granted out).0 in
        let row = start_at st in
        omega (arith, none, held, row)
    stage_at (At.Open txn None) S = open_at f s.own _ S.own.txn refl
    stage_at (At.Open txn (Some c)) S = holds_given f s.own (law_command c) b ∙ open_at f s.own _ S.own.txn refl
    stage_at (At.Committing (Preparing p)) S = planning_at f s.own S.own.txn Commit commits S.own.has.outer.granted S.own.has.outer.has S.own.has.prepared_is s.view p.stage S.own.change
    stage_at (At.Committing (Finishing c)) S =
        (commit_holds f s.own S.own.txn nowhere s.view Commit (5 + finish_steps c) b commits S.own.has.outer.granted S.own.has.outer.has S.own.change).0 ∙ late_at S.own.txn.numbered c
    stage_at (At.Preparing p) S = planning_at f s.own S.own.txn Prepare prepares S.own.has.outer.granted S.own.has.outer.has S.own.has.prepared_is s.view p.stage S.own.plan
    stage_at (At.Prepared left None) S = holds_kept f s.own b ∙ rw S.own.has.outer.has (prepared_at S.own.txn left S.own.has.prepared_is)
    stage_at (At.Prepared left (Some c)) S =
        holds_given f s.own (law_command c) b ∙ holds_kept f s.own b ∙ rw S.own.has.outer.has (prepared_at S.own.txn left S.own.has.prepared_is)
    stage_at (At.Finishing c) S =
        (finish_holds f s.own S.own.txn nowhere s.view 4 (finish_steps c) b S.own.has.outer.has S.own.has.prepared_is).0 ∙ finished_at
      where
        finished_at : txn_held S.own.txn b ≡ records_at (Some Write) b
        finished_at = rw S.own.has.prepared_is (four S.own.txn.numbered)
          where
            four : (numbered : Bool) → max (start_held b) (locked (commit_locks numbered) 4 b) ≡ records_at (Some Write) b
            four true = let e = writes_by (locked (commit_locks true) 4 b) (rw (b1, b49, and-false (nat_le 0 b), and-false (nat_le 48 b)) (omega arith)) in omega (arith, e)
            four false = let e = writes_by (locked (commit_locks false) 4 b) (rw (b1, and-false (nat_le 0 b)) (omega arith)) in omega (arith, e)

pub records_law : (f : Form) (o : Options) (owner : ℕ) (ps : List Piece) (stage : Stage) (k : Known) (past : Past) (s : Side)
    → IsSide f o owner ps stage k past s → (b : ℕ) → 49 ≤ b → s.table b ≡ records_at (stage_records stage) b
records_law f o owner ps stage k past s S b beyond = S.holds b ∙ ap (λ task. holding f s.own nowhere task b) S.task ∙ stage_at b beyond f o owner ps k past s stage S
