-- What the one aside holds of the byte of the sequence number: nothing, or it writes it while it holds all records for
-- writing.
use Rattle.std.proofs.Common.{◌≡◌, ◌⊎◌, ℕ, ◌+◌, max, List, Bool, true, false, Option, Some, None, refl, sym, ◌∙◌, ap, subst, inl, inr, arith}
use Rattle.tdb_space.specs.Form.{Form}
use Rattle.tdb_locks.specs.declared.kind.Kind.{Kind}
use Rattle.tdb_locks.specs.declared.kind.Kind.TheVariants.{Write}
use Rattle.tdb_locks.specs.declared.piece.Piece.{Piece}
use Rattle.tdb_law.specs.Commands.{GroupCommand}
use Rattle.tdb_law.specs.Commands.GroupCommand.{Commit, Prepare}
use Rattle.tdb_law.specs.Commands.Command.{OnGroup}
use Rattle.tdb_law.specs.Held.{holding, kept, locked, txn_held}
use Rattle.tdb_law.specs.Openers.{Own, Txn, View, nowhere}
use Rattle.tdb_law.specs.Refusals.{refusal}
use Rattle.tdb_law.specs.Rows.{commit_locks, start_locks}
use Rattle.tdb_law.specs.OneAside.Sides.{Past, Side}
use Rattle.tdb_txn_turns.specs.Finishes.{finish_steps}
use Rattle.tdb_txn_turns.specs.Laws.{Ends, commits, prepares, HasPlan}
use Rattle.tdb_txn_turns.specs.Prepares.{stage_steps, IsPlanning, start_held}
use Rattle.tdb_txn_turns.specs.Starts.{start_steps}
use Rattle.tdb_txn_turns.specs.declared.committing.Committing.TheVariants.{Preparing, Finishing}
use Rattle.tdb_txn_turns.specs.declared.finishing.Finishing as Finish
use Rattle.tdb_txn_turns.specs.declared.finishing.Finishing.TheVariants as Ending
use Rattle.tdb_txn_turns.specs.declared.preparing.PrepareStage.{PrepareStage}
use Rattle.tdb_txn_turns.specs.declared.preparing.PrepareStage.TheVariants.{Unchanged, Begun, Records, Locked, Planned, Filled}
use Rattle.tdb_txn_turns.specs.declared.starting.Starting.{Starting}
use Rattle.tdb_txn_turns.specs.declared.starting.Starting.TheVariants as Starts
use Rattle.tdb_txn_turns.proofs.Lawful.{commit_holds, finish_holds, start_holds}
use Rattle.tdb_commands.specs.InLaw.{law_command}
use Rattle.tdb_commands.specs.declared.options.Options.{Options}
use Rattle.tdb_txn_owner.specs.declared.stage.PreparedTxn.{PreparedTxn}
use Rattle.tdb_txn_owner.specs.declared.stage.PreparedTxn.TheVariants.{Opened, Nothing}
use Rattle.tdb_txn_owner.specs.declared.stage.Stage.{Stage}
use Rattle.tdb_txn_owner.specs.declared.stage.Stage.TheVariants as At
use Rattle.tdb_txn_owner.specs.Ends.{task_of}
use Rattle.tdb_txn_owner.specs.Stages.{plan_records, prepared_records, prepared_steps, stage_records, stage_task, Known, IsSide}
use Rattle.tdb_txn_owner.proofs.Keeping.{keeps_nothing}
use Rattle.tdb_txn_owner.proofs.Planned.{has_plan}
use Rattle.tdb_txn_owner.proofs.RecordsHeld.{holds_given}

-- so much is held of it, where all records are held so
abbrev pub HoldsNumber : Option Kind → ℕ → Type 0
HoldsNumber all n = (n ≡ 0) ⊎ ((n ≡ 2) × (all ≡ Some Write))

so : {all : Option Kind} {m n : ℕ} → m ≡ n → HoldsNumber all n → HoldsNumber all m
so {all = all} same H = subst (HoldsNumber all) (sym same) H

start_bare : (s : Starting) → locked start_locks (start_steps s) 48 ≡ 0
start_bare Starts.Begun = refl
start_bare Starts.Claimed = refl
start_bare Starts.Reading = refl

plan_number : (numbered : Bool) (s : PrepareStage) → IsPlanning s → HoldsNumber (Some (plan_records s)) (max (locked (commit_locks numbered) (stage_steps s) 48) (start_held 48))
plan_number numbered Unchanged some = absurd some
plan_number true (Begun txn) some = inl refl
plan_number false (Begun txn) some = inl refl
plan_number true (Records txn) some = inl refl
plan_number false (Records txn) some = inl refl
plan_number true (Locked txn) some = inr (refl, refl)
plan_number false (Locked txn) some = inl refl
plan_number true (Planned state) some = inr (refl, refl)
plan_number false (Planned state) some = inl refl
plan_number true (Filled state) some = inr (refl, refl)
plan_number false (Filled state) some = inl refl

late_number : (numbered : Bool) (s : Finish.Finishing) → HoldsNumber (Some Write) (max (locked (commit_locks numbered) (5 + finish_steps s) 48) (start_held 48))
late_number true (Ending.Open state) = inr (refl, refl)
late_number false (Ending.Open state) = inl refl
late_number true (Ending.Applied state) = inr (refl, refl)
late_number false (Ending.Applied state) = inl refl
late_number true (Ending.Settled state) = inr (refl, refl)
late_number false (Ending.Settled state) = inl refl
late_number true Ending.Shut = inr (refl, refl)
late_number false Ending.Shut = inl refl

-- what a prepared transaction keeps
prepared_by : (left : PreparedTxn) (numbered : Bool) → HoldsNumber (Some (prepared_records left)) (max (start_held 48) (locked (commit_locks numbered) (prepared_steps left) 48))
prepared_by (Opened state) true = inr (refl, refl)
prepared_by (Opened state) false = inl refl
prepared_by (Nothing true) true = inr (refl, refl)
prepared_by (Nothing true) false = inl refl
prepared_by (Nothing false) true = inl refl
prepared_by (Nothing false) false = inl refl

prepared_number : (t : Txn) (left : PreparedTxn) → t.prepared ≡ Some (prepared_steps left) → HoldsNumber (Some (prepared_records left)) (txn_held t 48)
prepared_number t left is = rw is (prepared_by left t.numbered)

finished_number : (t : Txn) → t.prepared ≡ Some 4 → HoldsNumber (Some Write) (txn_held t 48)
finished_number t is = rw is (four t.numbered)
  where
    four : (numbered : Bool) → HoldsNumber (Some Write) (max (start_held 48) (locked (commit_locks numbered) 4 48))
    four true = inr (refl, refl)
    four false = inl refl

holds_kept : (f : Form) (x : Own) (b : ℕ) → holding f x nowhere None b ≡ kept f x nowhere b
holds_kept f x b = omega arith

open_bare : (f : Form) (x : Own) (t : Txn) → x.txn ≡ Some t → t.prepared ≡ None → holding f x nowhere None 48 ≡ 0
open_bare f x t has free = rw (has, free) refl

module _ (f : Form) (x : Own) (t : Txn) (g : GroupCommand) (ends : Ends g) (none : refusal f (OnGroup g) x ≡ None) (has : x.txn ≡ Some t) (free : t.prepared ≡ None) where
  going : (v : View) (s : PrepareStage) → IsPlanning s → HasPlan t s → HoldsNumber (Some (plan_records s)) (holding f x nowhere (Some (task_of (OnGroup g) (stage_steps s))) 48)
  going v s some plan = so (commit_holds f x t nowhere v g (stage_steps s) 48 ends none has (has_plan t s some plan)).0 (plan_number t.numbered s some)

  planning : (v : View) (s : PrepareStage) → HasPlan t s → HoldsNumber (Some (plan_records s)) (holding f x nowhere (Some (task_of (OnGroup g) (stage_steps s))) 48)
  planning v Unchanged plan = inl (holds_given f x (OnGroup g) 48 ∙ open_bare f x t has free)
  planning v (Begun txn) plan = going v (Begun txn) tt plan
  planning v (Records txn) plan = going v (Records txn) tt plan
  planning v (Locked txn) plan = going v (Locked txn) tt plan
  planning v (Planned state) plan = going v (Planned state) tt plan
  planning v (Filled state) plan = going v (Filled state) tt plan

-- at each stage
module _ (f : Form) (o : Options) (owner : ℕ) (ps : List Piece) (k : Known) (past : Past) (s : Side) where
  stage_number : (stage : Stage) → IsSide f o owner ps stage k past s → HoldsNumber (stage_records stage) (holding f s.own nowhere (stage_task stage) 48)
  stage_number (At.Starting st) S =
      let bare = S.own.bare in
      let out : s.own.txn ≡ None = ap (λ (x : Own). x.txn) (sym bare) in
      let none = keeps_nothing f s.own out (ap (λ (x : Own). x.counts) (sym bare)) (ap (λ (x : Own). x.all) (sym bare)) 48 in
      let held = (start_holds f s.own nowhere s.view (start_steps st) 48 S.own.granted out).0 in
      let row = start_bare st in
      inl (omega (arith, none, held, row))
  stage_number (At.Open txn None) S = inl (open_bare f s.own _ S.own.txn refl)
  stage_number (At.Open txn (Some c)) S = inl (holds_given f s.own (law_command c) 48 ∙ open_bare f s.own _ S.own.txn refl)
  stage_number (At.Committing (Preparing p)) S = planning f s.own S.own.txn Commit commits S.own.has.outer.granted S.own.has.outer.has S.own.has.prepared_is s.view p.stage S.own.change
  stage_number (At.Committing (Finishing c)) S =
      so (commit_holds f s.own S.own.txn nowhere s.view Commit (5 + finish_steps c) 48 commits S.own.has.outer.granted S.own.has.outer.has S.own.change).0 (late_number S.own.txn.numbered c)
  stage_number (At.Preparing p) S = planning f s.own S.own.txn Prepare prepares S.own.has.outer.granted S.own.has.outer.has S.own.has.prepared_is s.view p.stage S.own.plan
  stage_number (At.Prepared left None) S = so (holds_kept f s.own 48) (rw S.own.has.outer.has (prepared_number S.own.txn left S.own.has.prepared_is))
  stage_number (At.Prepared left (Some c)) S = so (holds_given f s.own (law_command c) 48 ∙ holds_kept f s.own 48) (rw S.own.has.outer.has (prepared_number S.own.txn left S.own.has.prepared_is))
  stage_number (At.Finishing c) S =
      so (finish_holds f s.own S.own.txn nowhere s.view 4 (finish_steps c) 48 S.own.has.outer.has S.own.has.prepared_is).0 (finished_number S.own.txn S.own.has.prepared_is)

pub number_held : {f : Form} {o : Options} {owner : ℕ} {ps : List Piece} {stage : Stage} {k : Known} {past : Past} {s : Side} → IsSide f o owner ps stage k past s → HoldsNumber (stage_records stage) (s.table 48)
number_held {f = f} {o = o} {owner = owner} {ps = ps} {stage = stage} {k = k} {past = past} {s = s} S =
    so (S.holds 48 ∙ ap (λ task. holding f s.own nowhere task 48) S.task) (stage_number f o owner ps k past s stage S)
