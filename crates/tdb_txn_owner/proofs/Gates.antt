-- Which gates are open in the words of the law, and what is known of the file then, and where the gate is shut.
use Rattle.std.proofs.Common.{◌≡◌, ℕ, ◌+◌, ◌<◌, ◌≤◌, List, [], Bool, true, false, nat_le, Option, Some, None, refl, sym, ◌∙◌, ap, subst, arith}
use Rattle.std.specs.Prelude.{◌&&◌, is_none}
use Rattle.std.proofs.Math.Bool.{and-false}
use Rattle.tdb_disk.specs.History.{History, seen}
use Rattle.tdb_space.specs.Accepted.{AcceptWith}
use Rattle.tdb_space.specs.Form.{Form, form_of}
use Rattle.tdb_space.specs.Opening.{restored}
use Rattle.tdb_space.specs.Undoing.{Reopens}
use Rattle.tdb_locks.specs.declared.kind.Kind.TheVariants.{Write}
use Rattle.tdb_locks.specs.declared.piece.Piece.{Piece}
use Rattle.tdb_law.specs.Commands as Law
use Rattle.tdb_law.specs.Commands.GroupCommand.{Start, Commit, Prepare, Cancel}
use Rattle.tdb_law.specs.Commands.Command.{OnMap, OnLocks, Seqnum, OnGroup, OnWalk}
use Rattle.tdb_law.specs.Lines.{commit_steps_by, is_gate_open, leaves_open, txn_leaves_open}
use Rattle.tdb_law.specs.Lines as Lines
use Rattle.tdb_law.specs.Openers.{Own, Txn}
use Rattle.tdb_law.specs.Refusals.{Refusal, refusal}
use Rattle.tdb_law.specs.Rows.{commits_in, plans_in, was_planned}
use Rattle.tdb_law.proofs.Tests.{and_both}
use Rattle.tdb_law.specs.OneAside.Sides.{Past, Side}
use Rattle.tdb_txn_turns.specs.Commits.{RestsAt}
use Rattle.tdb_txn_turns.specs.Finishes.{finish_steps, KnowsFinish}
use Rattle.tdb_txn_turns.specs.Prepares.{stage_steps, KnowsStage}
use Rattle.tdb_txn_turns.specs.declared.committing.Committing.TheVariants.{Preparing, Finishing}
use Rattle.tdb_txn_turns.specs.declared.finishing.Finishing as Finish
use Rattle.tdb_txn_turns.specs.declared.finishing.Finishing.TheVariants.{Open, Applied, Settled, Shut}
use Rattle.tdb_txn_turns.specs.declared.preparing.PrepareStage.{PrepareStage}
use Rattle.tdb_txn_turns.specs.declared.preparing.PrepareStage.TheVariants.{Unchanged, Begun, Records, Locked, Planned, Filled}
use Rattle.tdb_txn_turns.specs.declared.starting.Starting.TheVariants as Starts
use Rattle.tdb_txn_turns.proofs.Carried.{ready_rests}
use Rattle.tdb_commands.specs.InLaw.{law_command}
use Rattle.tdb_commands.specs.declared.command.Command.{Command}
use Rattle.tdb_commands.specs.declared.options.Options.{Options}
use Rattle.tdb_txn_owner.specs.declared.stage.PreparedTxn.{PreparedTxn}
use Rattle.tdb_txn_owner.specs.declared.stage.PreparedTxn.TheVariants.{Opened, Nothing}
use Rattle.tdb_txn_owner.specs.declared.stage.Stage.{Stage}
use Rattle.tdb_txn_owner.specs.declared.stage.Stage.TheVariants as At
use Rattle.tdb_txn_owner.specs.Ends.{task_of}
use Rattle.tdb_txn_owner.specs.Holders.{finish_gate, prepared_gate, stage_gate}
use Rattle.tdb_txn_owner.specs.Reads.{IsReadAs}
use Rattle.tdb_txn_owner.proofs.ReadAs.{end_reads, finish_opens, opens_reads, prepare_opens, prepare_reads, prepared_opens, rest_reads, restored_accepted, restored_opens, OpensIn}
use Rattle.tdb_txn_owner.specs.Stages.{given_task, prepared_steps, stage_records, stage_task, was_changed, Known, KnowsFile, IsSide}

-- a command that has had no turn has had no step of a commit
none_yet : (q : Option Refusal) (c : Law.Command) → commit_steps_by q c 0 ≡ 0
none_yet (Some q) c = refl
none_yet None (OnMap c) = refl
none_yet None (OnLocks c) = refl
none_yet None Seqnum = refl
none_yet None (OnGroup Start) = refl
none_yet None (OnGroup Commit) = refl
none_yet None (OnGroup Prepare) = refl
none_yet None (OnGroup Cancel) = refl
none_yet None (OnWalk c) = refl

given_steps : (f : Form) (x : Own) (command : Option Command) → Lines.commit_steps f x (given_task command) ≡ 0
given_steps f x None = refl
given_steps f x (Some c) = none_yet (refusal f (law_command c) x) (law_command c)

-- the gate of an outer transaction
gate_of : (t : Txn) (p : Option ℕ) (changed : Bool) (n : ℕ) → t.depth ≡ 1 → t.prepared ≡ p → t.changed ≡ changed → txn_leaves_open (Some t) n ≡ changed && was_planned p && is_gate_open p n
gate_of t p changed n outer prepared is = rw (outer, prepared, is) refl

-- it isn't opened in the first four steps of a Commit
plan_shut : (t : Txn) (s : PrepareStage) → t.prepared ≡ None → txn_leaves_open (Some t) (stage_steps s) ≡ false
plan_shut t s free = ap (λ p. commits_in t && is_gate_open p (stage_steps s)) free ∙ shut s
  where
    shut : (s : PrepareStage) → commits_in t && is_gate_open None (stage_steps s) ≡ false
    shut Unchanged = and-false (commits_in t)
    shut (Begun txn) = and-false (commits_in t)
    shut (Records txn) = and-false (commits_in t)
    shut (Locked txn) = and-false (commits_in t)
    shut (Planned state) = and-false (commits_in t)
    shut (Filled state) = and-false (commits_in t)

late_gate : (c : Finish.Finishing) → is_gate_open None (5 + finish_steps c) ≡ finish_gate c
late_gate (Open state) = refl
late_gate (Applied state) = refl
late_gate (Settled state) = refl
late_gate Shut = refl

last_gate : (c : Finish.Finishing) → is_gate_open (Some 4) (finish_steps c) ≡ finish_gate c
last_gate (Open state) = refl
last_gate (Applied state) = refl
last_gate (Settled state) = refl
last_gate Shut = refl

left_gate : (t : Txn) (left : PreparedTxn) → t.depth ≡ 1 → t.prepared ≡ Some (prepared_steps left) → t.changed ≡ was_changed left → txn_leaves_open (Some t) 0 ≡ prepared_gate left
left_gate t (Opened state) outer prepared is = gate_of t (Some 4) true 0 outer prepared is
left_gate t (Nothing true) outer prepared is = gate_of t (Some 2) true 0 outer prepared is
left_gate t (Nothing false) outer prepared is = gate_of t (Some 0) false 0 outer prepared is

-- a transaction that has a change to plan was changed
planned_changed : (t : Txn) → plans_in t ≡ true → t.changed ≡ true
planned_changed t e = (and_both (nat_le t.depth 1) t.changed (and_both (nat_le t.depth 1 && t.changed) (is_none t.prepared) e).0).1

-- each stage leaves the gate so
module _ (f : Form) (o : Options) (owner : ℕ) (ps : List Piece) (k : Known) (past : Past) (s : Side) where
  granted_steps : (n : ℕ) → refusal f (OnGroup Commit) s.own ≡ None → Lines.commit_steps f s.own (Some (task_of (OnGroup Commit) n)) ≡ n
  granted_steps n granted = ap (λ q. commit_steps_by q (OnGroup Commit) n) granted

  abbrev after : ℕ → Bool
  after n = txn_leaves_open s.own.txn n

  gate_at : (stage : Stage) → IsSide f o owner ps stage k past s → leaves_open f s.own (stage_task stage) ≡ stage_gate stage
  gate_at (At.Starting st) S = ap (λ z. txn_leaves_open z (Lines.commit_steps f s.own (stage_task (At.Starting st)))) (ap (λ (x : Own). x.txn) (sym S.own.bare))
  gate_at (At.Open txn command) S = ap after (given_steps f s.own command) ∙ (ap (λ z. txn_leaves_open z 0) S.own.txn ∙ and-false _)
  gate_at (At.Committing (Preparing p)) S =
      let O = S.own.has in
      ap after (granted_steps (stage_steps p.stage) O.outer.granted) ∙ (ap (λ z. txn_leaves_open z (stage_steps p.stage)) O.outer.has ∙ plan_shut S.own.txn p.stage O.prepared_is)
  gate_at (At.Committing (Finishing c)) S =
      let O = S.own.has in
      ap after (granted_steps (5 + finish_steps c) O.outer.granted)
      ∙ (ap (λ z. txn_leaves_open z (5 + finish_steps c)) O.outer.has
      ∙ (gate_of S.own.txn None true (5 + finish_steps c) O.outer.outer O.prepared_is (planned_changed S.own.txn S.own.change) ∙ late_gate c))
  gate_at (At.Preparing p) S =
      let O = S.own.has in
      ap (λ q. after (commit_steps_by q (OnGroup Prepare) (stage_steps p.stage))) O.outer.granted
      ∙ (ap (λ z. txn_leaves_open z 0) O.outer.has ∙ (ap (λ q. commits_in S.own.txn && is_gate_open q 0) O.prepared_is ∙ and-false (commits_in S.own.txn)))
  gate_at (At.Prepared left command) S =
      let O = S.own.has in
      ap after (given_steps f s.own command) ∙ (ap (λ z. txn_leaves_open z 0) O.outer.has ∙ left_gate S.own.txn left O.outer.outer O.prepared_is S.own.change)
  gate_at (At.Finishing c) S =
      let O = S.own.has in
      ap after (granted_steps (finish_steps c) O.outer.granted)
      ∙ (ap (λ z. txn_leaves_open z (finish_steps c)) O.outer.has ∙ (gate_of S.own.txn (Some 4) true (finish_steps c) O.outer.outer O.prepared_is S.own.change ∙ last_gate c))

pub gate_law : (f : Form) (o : Options) (owner : ℕ) (ps : List Piece) (stage : Stage) (k : Known) (past : Past) (s : Side) → IsSide f o owner ps stage k past s → leaves_open f s.own s.task ≡ stage_gate stage
gate_law f o owner ps stage k past s S = ap (leaves_open f s.own) S.task ∙ gate_at f o owner ps k past s stage S

-- what leaves an open gate writes all records
pub gate_writes : (stage : Stage) → stage_gate stage ≡ true → stage_records stage ≡ Some Write
gate_writes (At.Starting st) e = absurd (cc e)
gate_writes (At.Open txn command) e = absurd (cc e)
gate_writes (At.Committing (Preparing p)) e = absurd (cc e)
gate_writes (At.Committing (Finishing c)) e = refl
gate_writes (At.Preparing p) e = absurd (cc e)
gate_writes (At.Prepared (Opened state) command) e = refl
gate_writes (At.Prepared (Nothing changed) command) e = absurd (cc e)
gate_writes (At.Finishing c) e = refl

-- while the gate stands open the file opens to the map of the image that it is read as
few_left : (c : Finish.Finishing) → finish_gate c ≡ true → finish_steps c < 3
few_left (Open state) e = omega arith
few_left (Applied state) e = omega arith
few_left (Settled state) e = omega arith
few_left Shut e = absurd (cc e)

module _ (f : Form) (h : History) (k : Known) where
  gate_form : (stage : Stage) → stage_gate stage ≡ true → KnowsFile f stage h k → form_of k.file ≡ f
  gate_form (At.Starting st) e K = absurd (cc e)
  gate_form (At.Open txn command) e K = K.forms.0
  gate_form (At.Committing c) e K = K.forms.0
  gate_form (At.Preparing p) e K = K.forms.0
  gate_form (At.Prepared left command) e K = K.forms.0
  gate_form (At.Finishing c) e K = K.forms.0

  gate_opens : (stage : Stage) → stage_gate stage ≡ true → KnowsFile f stage h k → OpensIn f k.file (seen h)
  gate_opens (At.Starting st) e K = absurd (cc e)
  gate_opens (At.Open txn command) e K = absurd (cc e)
  gate_opens (At.Committing (Preparing p)) e K = absurd (cc e)
  gate_opens (At.Committing (Finishing c)) e K = finish_opens f c h k.file k.image K.forms.0 (few_left c e) K.at.0
  gate_opens (At.Preparing p) e K = absurd (cc e)
  gate_opens (At.Prepared (Opened state) command) e K = prepared_opens f _ h k.file k.image K.forms.0 K.at.0
  gate_opens (At.Prepared (Nothing changed) command) e K = absurd (cc e)
  gate_opens (At.Finishing c) e K = finish_opens f c h k.file k.image K.forms.0 (few_left c e) K.at.0

  -- So it is read as that image, and once the gate is undone it is accepted.
  pub record IsUndone : Type 0 where
    pub form : form_of (seen h) ≡ f
    pub reopens : Reopens (restored f (seen h)) (seen h)
    pub accepted : AcceptWith f (restored f (seen h)) []
    pub reads : IsReadAs f h k.file

  opens_undone : form_of k.file ≡ f → OpensIn f k.file (seen h) → IsUndone
  opens_undone form O =
      record { form = O.form; reopens = restored_opens f k.file (seen h) O; accepted = restored_accepted f k.file (seen h) O; reads = opens_reads f h k.file form O }

  pub gate_undone : (stage : Stage) → stage_gate stage ≡ true → KnowsFile f stage h k → IsUndone
  gate_undone stage e K = opens_undone (gate_form stage e K) (gate_opens stage e K)

  -- The gate is shut: the file is accepted, and is read as that image.
  pub record IsAtRest : Type 0 where
    pub accepted : AcceptWith f (seen h) []
    pub reads : IsReadAs f h k.file

  by_form : (g : Form) → AcceptWith g (seen h) [] → form_of (seen h) ≡ f → AcceptWith f (seen h) []
  by_form g A form = subst (λ i. AcceptWith i (seen h) []) (sym A.form ∙ form) A

  at_rest : form_of k.file ≡ f → RestsAt h k.file → IsAtRest
  at_rest form R = record { accepted = subst (λ g. AcceptWith g (seen h) []) form R.accepted; reads = rest_reads f h k.file form R }

  plan_accepted : (s : PrepareStage) → form_of k.file ≡ f → KnowsStage s h k.file k.image → AcceptWith f (seen h) []
  plan_accepted Unchanged form K = (at_rest form K).accepted
  plan_accepted (Begun txn) form K = (at_rest form (ready_rests txn h k.file k.image K)).accepted
  plan_accepted (Records txn) form K = (at_rest form (ready_rests txn h k.file k.image K)).accepted
  plan_accepted (Locked txn) form K = (at_rest form (ready_rests txn h k.file k.image K)).accepted
  plan_accepted (Planned state) form K = by_form (form_of K.before) K.state.stays.accepted (prepare_opens f (Planned state) h k.file k.image form K).form
  plan_accepted (Filled state) form K =
      by_form (form_of K.before) (subst (λ x. AcceptWith (form_of K.before) x []) (sym K.state.file) K.state.brings.before) (prepare_opens f (Filled state) h k.file k.image form K).form

  plan_rests : (s : PrepareStage) → form_of k.file ≡ f → KnowsStage s h k.file k.image → IsAtRest
  plan_rests s form K = record { accepted = plan_accepted s form K; reads = prepare_reads f s h k.file k.image form K }

  shut_rests : (c : Finish.Finishing) → finish_gate c ≡ false → form_of k.image ≡ f → KnowsFinish c h k.file k.image → k.file ≡ k.image → IsAtRest
  shut_rests (Open state) e form K same = absurd (cc e)
  shut_rests (Applied state) e form K same = absurd (cc e)
  shut_rests (Settled state) e form K same = absurd (cc e)
  shut_rests Shut e form K same = record { accepted = subst (λ g. AcceptWith g (seen h) []) form K.accepted; reads = subst (IsReadAs f h) (sym same) (end_reads f h k.image form K) }

  late_finish : (c : Finish.Finishing) → finish_gate c ≡ false → 3 ≤ finish_steps c
  late_finish (Open state) e = absurd (cc e)
  late_finish (Applied state) e = absurd (cc e)
  late_finish (Settled state) e = absurd (cc e)
  late_finish Shut e = omega arith

  -- so it is wherever all records are held for writing
  pub gate_rests : (stage : Stage) → stage_gate stage ≡ false → stage_records stage ≡ Some Write → KnowsFile f stage h k → IsAtRest
  gate_rests (At.Starting Starts.Begun) e writes K = absurd (cc writes)
  gate_rests (At.Starting Starts.Claimed) e writes K = absurd (cc writes)
  gate_rests (At.Starting Starts.Reading) e writes K = absurd (cc writes)
  gate_rests (At.Open txn command) e writes K = absurd (cc writes)
  gate_rests (At.Committing (Preparing p)) e writes K = plan_rests p.stage K.forms.0 K.at.0
  gate_rests (At.Committing (Finishing c)) e writes K = let late = late_finish c e in shut_rests c e K.forms.1 K.at.0 (K.at.1 (omega (arith, late)))
  gate_rests (At.Preparing p) e writes K = plan_rests p.stage K.forms.0 K.at
  gate_rests (At.Prepared (Opened state) command) e writes K = absurd (cc e)
  gate_rests (At.Prepared (Nothing changed) command) e writes K = at_rest K.forms.0 K.at.0
  gate_rests (At.Finishing c) e writes K = let late = late_finish c e in shut_rests c e K.forms.1 K.at.0 (K.at.1 late)
