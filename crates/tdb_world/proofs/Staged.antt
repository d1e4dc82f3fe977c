-- What the stage of the one aside says of its command, of its locks and of the file.
use Rattle.std.proofs.Common.{◌≡◌, ◌≢◌, ◌⊎◌, ℕ, ◌+◌, ◌<◌, ◌≤◌, List, [], Bool, true, false, nat_le, Option, Some, None, is_some, refl, sym, ◌∙◌, ap, subst, inl, inr, arith}
use Rattle.std.specs.Prelude.{if◌then◌else◌}
use Rattle.std.proofs.lemmas.Bool.{cases_Bool, leb-true}
use Rattle.tdb_disk.specs.History.{History, seen}
use Rattle.tdb_space.specs.Accepted.{AcceptWith}
use Rattle.tdb_space.specs.Form.{Form}
use Rattle.tdb_locks.specs.declared.kind.Kind.{Kind}
use Rattle.tdb_locks.specs.declared.kind.Kind.TheVariants.{Read, Write}
use Rattle.tdb_locks.specs.declared.piece.Piece.{Piece}
use Rattle.tdb_locks.specs.declared.turn.Turn.{Turn as TurnIs}
use Rattle.tdb_locks.specs.declared.turn.Turn.TheVariants as Turns
use Rattle.tdb_law.specs.Commands.{GroupCommand}
use Rattle.tdb_law.specs.Commands.GroupCommand.{Start, Commit, Prepare, Cancel}
use Rattle.tdb_law.specs.Commands.Command.{OnGroup}
use Rattle.tdb_law.specs.Ends.{waits}
use Rattle.tdb_law.specs.Images.{image_map}
use Rattle.tdb_law.specs.Openers.{Own, Task, Txn}
use Rattle.tdb_law.specs.Refusals.{Refusal, refusal}
use Rattle.tdb_law.specs.Rows.{changed_by, commits_in, gate_shut, is_changed}
use Rattle.tdb_law.proofs.Tests.{and_both, never_true}
use Rattle.tdb_steps.specs.Turns.{number_of}
use Rattle.tdb_txn_turns.specs.Prepares.{prepare_steps, stage_steps}
use Rattle.tdb_txn_turns.specs.declared.committing.Committing.TheVariants as Commits
use Rattle.tdb_txn_turns.specs.declared.preparing.PrepareStage.{PrepareStage}
use Rattle.tdb_txn_turns.specs.declared.preparing.PrepareStage.TheVariants.{Unchanged, Begun, Records, Locked, Planned, Filled}
use Rattle.tdb_txn_turns.specs.declared.starting.Starting.{Starting}
use Rattle.tdb_txn_turns.specs.declared.starting.Starting.TheVariants as Starts
use Rattle.tdb_law.specs.OneAside.Sides.{Past, Side}
use Rattle.tdb_txn_turns.specs.Starts.{start_steps}
use Rattle.tdb_txn_owner.specs.declared.open_txn.OpenTxn.{OpenTxn}
use Rattle.tdb_commands.specs.InLaw.{law_command, law_turn}
use Rattle.tdb_commands.specs.declared.command.Command.{Command}
use Rattle.tdb_commands.specs.declared.command.Command.TheVariants as Given
use Rattle.tdb_commands.specs.declared.options.Options.{Options}
use Rattle.tdb_txn_owner.specs.Ends.{task_of, IsBlocked}
use Rattle.tdb_txn_owner.specs.Stages.{is_close, is_closing, plan_records, stage_records, stage_task, Known, KnowsFile, IsSide}
use Rattle.tdb_txn_owner.specs.Turned.{BeginsOn, KnowsLeft, RestsLike}
use Rattle.tdb_txn_owner.specs.Wanting.{may_plan, open_wants, plan_wants, records_by, records_with, stage_wants}
use Rattle.tdb_txn_owner.specs.declared.stage.PreparedTxn.TheVariants.{Opened, Nothing}
use Rattle.tdb_txn_owner.specs.declared.stage.Stage.{Stage}
use Rattle.tdb_txn_owner.specs.declared.stage.Stage.TheVariants as At
use Rattle.tdb_txn_owner.specs.declared.wanting.Wants.{Wants}
use Rattle.tdb_txn_owner.proofs.Sided.{same_task}
use Rattle.tdb_world.specs.States.{once, writes_all}
use Rattle.tdb_world.proofs.Claimed.{all_claimed}

-- the last turn of a Start is taken on an accepted file
pub begins_on : (f : Form) (stage : Stage) (file : List ℕ) → (is_some (stage_records stage) ≡ true → AcceptWith f file []) → BeginsOn f stage file
begins_on f (At.Starting Starts.Begun) file A = tt
begins_on f (At.Starting Starts.Claimed) file A = tt
begins_on f (At.Starting Starts.Reading) file A = A refl
begins_on f (At.Open txn command) file A = tt
begins_on f (At.Committing c) file A = tt
begins_on f (At.Preparing p) file A = tt
begins_on f (At.Prepared left command) file A = tt
begins_on f (At.Finishing c) file A = tt

-- who writes all records goes on to, whatever the next turn wants
plan_up : (numbered : Bool) (s : PrepareStage) → writes_all (Some (plan_records s)) ≡ true → writes_all (records_with (plan_wants numbered s) (Some (plan_records s))) ≡ true
plan_up numbered Unchanged e = absurd (cc e)
plan_up numbered (Begun txn) e = absurd (cc e)
plan_up numbered (Records txn) e = refl
plan_up numbered (Locked txn) e = refl
plan_up numbered (Planned state) e = refl
plan_up numbered (Filled state) e = refl

pub goes_writing : (stage : Stage) → writes_all (stage_records stage) ≡ true → writes_all (records_with (stage_wants stage) (stage_records stage)) ≡ true
goes_writing (At.Starting Starts.Begun) e = absurd (cc e)
goes_writing (At.Starting Starts.Claimed) e = absurd (cc e)
goes_writing (At.Starting Starts.Reading) e = absurd (cc e)
goes_writing (At.Open txn command) e = absurd (cc e)
goes_writing (At.Committing (Commits.Preparing p)) e = plan_up p.numbered p.stage e
goes_writing (At.Committing (Commits.Finishing c)) e = refl
goes_writing (At.Preparing p) e = plan_up p.numbered p.stage e
goes_writing (At.Prepared left command) e = e
goes_writing (At.Finishing c) e = refl

-- a turn that isn't blocked takes the records that it wants
pub not_blocked : (turn : TurnIs) (wants : Wants) (held : Option Kind) → (IsBlocked (law_turn turn) → ⊥) → records_by turn wants held ≡ records_with wants held
not_blocked Turns.Step wants held free = refl
not_blocked (Turns.Blocked owner byte) wants held free = absurd (free tt)
not_blocked (Turns.Done reply) wants held free = refl

pub claimed_once : (wants : Wants) (held : Option Kind) → all_claimed wants (once held) ≡ once (records_with wants held)
claimed_once Wants.Nothing held = refl
claimed_once Wants.Transaction held = refl
claimed_once (Wants.Records kind) held = refl
claimed_once (Wants.Opening numbered) held = refl

pub writing_is : (held : Option Kind) → writes_all held ≡ true → held ≡ Some Write
writing_is None e = absurd (cc e)
writing_is (Some Read) e = absurd (cc e)
writing_is (Some Write) e = refl

pub not_writing : (held : Option Kind) → writes_all held ≡ false → held ≢ Some Write
not_writing None e is = absurd (cc is)
not_writing (Some Read) e is = absurd (cc is)
not_writing (Some Write) e is = absurd (cc e)

-- a commit has shut its gate by its third turn at the earliest, and by its eighth where it wasn't prepared
shut_late : (prepared : Option ℕ) (m : ℕ) → gate_shut prepared m ≡ true → 3 ≤ m
shut_late None m e = let late = leb-true 8 m e in omega (arith, late)
shut_late (Some steps) m e = leb-true 3 m (and_both (nat_le 4 steps) (nat_le 3 m) e).1

module _ (f : Form) (x : Own) (m : ℕ) where
  changed_at : (o : Option Txn) (q : Option Refusal) → x.txn ≡ o → changed_by q (OnGroup Commit) x m ≡ true → (t : Txn) × (x.txn ≡ Some t) × (gate_shut t.prepared m ≡ true)
  changed_at o (Some q) is e = absurd (cc e)
  changed_at None None is e = absurd (let off = rw is at e in cc off)
  changed_at (Some t) None is e = (t, is, (and_both (commits_in t) (gate_shut t.prepared m) (rw is at e)).1)

  pub shut_by : is_changed f (OnGroup Commit) x m ≡ true → (t : Txn) × (x.txn ≡ Some t) × (gate_shut t.prepared m ≡ true)
  unfolding is_changed
  shut_by e = changed_at x.txn (refusal f (OnGroup Commit) x) refl e

  pub early : m < 3 → is_changed f (OnGroup Commit) x m ≡ true → ⊥
  early few e = let by = shut_by e in let late = shut_late by.0.prepared m by.2 in omega (arith, few, late)

  pub early_free : (t : Txn) → x.txn ≡ Some t → t.prepared ≡ None → m < 8 → is_changed f (OnGroup Commit) x m ≡ true → ⊥
  early_free t is free few e =
      let by = shut_by e in
      let same : by.0 ≡ t = cc (by.1, is) in
      let late = leb-true 8 m (ap (λ p. gate_shut p m) (sym (ap (λ (u : Txn). u.prepared) same ∙ free)) ∙ by.2) in
      omega (arith, few, late)

few_steps : (s : PrepareStage) → stage_steps s ≤ 4
few_steps Unchanged = omega arith
few_steps (Begun txn) = omega arith
few_steps (Records txn) = omega arith
few_steps (Locked txn) = omega arith
few_steps (Planned state) = omega arith
few_steps (Filled state) = omega arith

-- the turn by which the file gets the change of a commit is one of a stage that writes all records
module _ (f : Form) (o : Options) (owner : ℕ) (ps : List Piece) (k : Known) (past : Past) (s : Side) (t : Task) (commits : t.command ≡ OnGroup Commit) (made : is_changed f t.command s.own (t.steps + 1) ≡ true) where
  made_now : is_changed f (OnGroup Commit) s.own (t.steps + 1) ≡ true
  made_now = subst (λ c. is_changed f c s.own (t.steps + 1) ≡ true) commits made

  at_first : t.steps ≡ 0 → ⊥
  at_first none = early f s.own (t.steps + 1) (omega (arith, none)) made_now

  pub change_writes : (stage : Stage) → stage_task stage ≡ Some t → IsSide f o owner ps stage k past s → writes_all (stage_records stage) ≡ true
  change_writes (At.Starting st) has S = absurd (let is = same_task _ t has in let bad = ap (λ (u : Task). u.command) is ∙ commits in cc bad)
  change_writes (At.Open txn None) has S = absurd (cc has)
  change_writes (At.Open txn (Some c)) has S = absurd (at_first (sym (ap (λ (u : Task). u.steps) (same_task (task_of (law_command c) 0) t has))))
  change_writes (At.Committing (Commits.Preparing p)) has S =
      absurd (let steps : prepare_steps p ≡ t.steps = ap (λ (u : Task). u.steps) (same_task (task_of (OnGroup Commit) (prepare_steps p)) t has) in
      let few = few_steps p.stage in
      early_free f s.own (t.steps + 1) S.own.txn S.own.has.outer.has S.own.has.prepared_is (omega (arith, steps, few)) made_now)
  change_writes (At.Committing (Commits.Finishing c)) has S = refl
  change_writes (At.Preparing p) has S = absurd (let is = same_task _ t has in let bad = ap (λ (u : Task). u.command) is ∙ commits in cc bad)
  change_writes (At.Prepared left None) has S = absurd (cc has)
  change_writes (At.Prepared left (Some c)) has S = absurd (at_first (sym (ap (λ (u : Task). u.steps) (same_task (task_of (law_command c) 0) t has))))
  change_writes (At.Finishing c) has S = refl

-- Who writes all records has a transaction; without a command it is prepared, by two steps at least.
module _ (f : Form) (o : Options) (owner : ℕ) (ps : List Piece) (k : Known) (past : Past) (s : Side) where
  pub writing_txn : (stage : Stage) → writes_all (stage_records stage) ≡ true → IsSide f o owner ps stage k past s → (t : Txn) × (s.own.txn ≡ Some t)
  writing_txn (At.Starting Starts.Begun) e S = absurd (cc e)
  writing_txn (At.Starting Starts.Claimed) e S = absurd (cc e)
  writing_txn (At.Starting Starts.Reading) e S = absurd (cc e)
  writing_txn (At.Open txn command) e S = absurd (cc e)
  writing_txn (At.Committing c) e S = (S.own.txn, S.own.has.outer.has)
  writing_txn (At.Preparing p) e S = (S.own.txn, S.own.has.outer.has)
  writing_txn (At.Prepared left command) e S = (S.own.txn, S.own.has.outer.has)
  writing_txn (At.Finishing c) e S = (S.own.txn, S.own.has.outer.has)

  pub idle_writing : (stage : Stage) → stage_task stage ≡ None → writes_all (stage_records stage) ≡ true → IsSide f o owner ps stage k past s
      → (t : Txn) × (s.own.txn ≡ Some t) × ((steps : ℕ) × (t.prepared ≡ Some steps) × (2 ≤ steps))
  idle_writing (At.Starting st) idle e S = absurd (cc idle)
  idle_writing (At.Open txn command) idle e S = absurd (cc e)
  idle_writing (At.Committing c) idle e S = absurd (cc idle)
  idle_writing (At.Preparing p) idle e S = absurd (cc idle)
  idle_writing (At.Prepared (Opened state) command) idle e S = (S.own.txn, S.own.has.outer.has, (4, S.own.has.prepared_is, omega arith))
  idle_writing (At.Prepared (Nothing true) command) idle e S = (S.own.txn, S.own.has.outer.has, (2, S.own.has.prepared_is, omega arith))
  idle_writing (At.Prepared (Nothing false) command) idle e S = absurd (cc e)
  idle_writing (At.Finishing c) idle e S = absurd (cc idle)

-- what is known of the file after a turn
pub knows_stage : (f : Form) (before after : Stage) (old new : History) (k : Known) → KnowsLeft f before (Some after) old new k → KnowsFile f after new k
knows_stage f (At.Starting s) after old new k K = K
knows_stage f (At.Open txn command) after old new k K = K
knows_stage f (At.Committing c) after old new k K = K
knows_stage f (At.Preparing p) after old new k K = K
knows_stage f (At.Prepared left command) after old new k K = K
knows_stage f (At.Finishing c) after old new k K = K

-- where the opener is back, the file has the map and the number that it had; nothing was done where others could read
-- it
pub record ReadsLike (f : Form) (stage : Stage) (old new : History) (k : Known) : Type 0 where
  pub map : image_map f (seen new) ≡ image_map f k.file
  pub number : number_of f (seen new) ≡ number_of f k.file
  pub still : writes_all (stage_records stage) ≡ false → new ≡ old
  pub accepted : writes_all (stage_records stage) ≡ true → AcceptWith f (seen new) []

module _ (f : Form) (old new : History) (k : Known) where
  rests : (stage : Stage) → RestsLike f new k.file × (stage_records stage ≢ Some Write → new ≡ old) → ReadsLike f stage old new k
  rests stage R = record { map = R.0.map; number = R.0.number; still = λ e. R.1 (not_writing (stage_records stage) e); accepted = λ e. R.0.accepted }

  pub knows_back : (stage : Stage) → KnowsLeft f stage None old new k → (writes_all (stage_records stage) ≡ false → seen old ≡ k.file) → ReadsLike f stage old new k
  knows_back (At.Starting st) same is =
      let file = is (never st) in
      record {
        map = ap (λ h. image_map f (seen h)) same ∙ ap (image_map f) file;
        number = ap (λ h. number_of f (seen h)) same ∙ ap (number_of f) file;
        still = λ e. same;
        accepted = λ e. absurd (never_true (sym (never st) ∙ e));
      }
    where
      never : (st : Starting) → writes_all (stage_records (At.Starting st)) ≡ false
      never Starts.Begun = refl
      never Starts.Claimed = refl
      never Starts.Reading = refl
  knows_back (At.Open txn command) R is = rests (At.Open txn command) R
  knows_back (At.Committing c) R is = rests (At.Committing c) R
  knows_back (At.Preparing p) R is = rests (At.Preparing p) R
  knows_back (At.Prepared left command) R is = rests (At.Prepared left command) R
  knows_back (At.Finishing c) R is = rests (At.Finishing c) R

-- who writes all records wants them no more
plan_has : (numbered : Bool) (s : PrepareStage) (kind : Kind) → writes_all (Some (plan_records s)) ≡ true → plan_wants numbered s ≡ Wants.Records kind → ⊥
plan_has numbered Unchanged kind e is = cc e
plan_has numbered (Begun txn) kind e is = cc e
plan_has numbered (Records txn) kind e is = cc is
plan_has numbered (Locked txn) kind e is = cc is
plan_has numbered (Planned state) kind e is = cc is
plan_has numbered (Filled state) kind e is = cc is

pub writing_wants : (stage : Stage) (kind : Kind) → writes_all (stage_records stage) ≡ true → stage_wants stage ≡ Wants.Records kind → ⊥
writing_wants (At.Starting Starts.Begun) kind e is = cc e
writing_wants (At.Starting Starts.Claimed) kind e is = cc e
writing_wants (At.Starting Starts.Reading) kind e is = cc e
writing_wants (At.Open txn command) kind e is = cc e
writing_wants (At.Committing (Commits.Preparing p)) kind e is = plan_has p.numbered p.stage kind e is
writing_wants (At.Committing (Commits.Finishing c)) kind e is = cc is
writing_wants (At.Preparing p) kind e is = plan_has p.numbered p.stage kind e is
writing_wants (At.Prepared left command) kind e is = cc is
writing_wants (At.Finishing c) kind e is = cc is

-- who comes to write them wanted them
pub came_to_write : (wants : Wants) (held : Option Kind) → writes_all held ≡ false → writes_all (records_with wants held) ≡ true → wants ≡ Wants.Records Write
came_to_write Wants.Nothing held e now = absurd (never_true (sym e ∙ now))
came_to_write Wants.Transaction held e now = absurd (never_true (sym e ∙ now))
came_to_write (Wants.Records Read) held e now = absurd (cc now)
came_to_write (Wants.Records Write) held e now = refl
came_to_write (Wants.Opening numbered) held e now = absurd (never_true (sym e ∙ now))

-- a command that may plan a commit
plan_is : (c : Command) → may_plan c ≡ true → (law_command c ≡ OnGroup Commit) ⊎ (law_command c ≡ OnGroup Prepare)
plan_is (Given.Fetch key) e = absurd (cc e)
plan_is (Given.Has key) e = absurd (cc e)
plan_is (Given.Store key value flag) e = absurd (cc e)
plan_is (Given.Append key value) e = absurd (cc e)
plan_is (Given.Delete key) e = absurd (cc e)
plan_is Given.Wipe e = absurd (cc e)
plan_is Given.Check e = absurd (cc e)
plan_is (Given.ChainLock key) e = absurd (cc e)
plan_is (Given.ChainLockNb key) e = absurd (cc e)
plan_is (Given.ChainUnlock key) e = absurd (cc e)
plan_is Given.LockAll e = absurd (cc e)
plan_is Given.LockAllRead e = absurd (cc e)
plan_is Given.UnlockAll e = absurd (cc e)
plan_is Given.Start e = absurd (cc e)
plan_is Given.Commit e = inl refl
plan_is Given.Prepare e = inr refl
plan_is Given.Cancel e = absurd (cc e)
plan_is Given.First e = absurd (cc e)
plan_is Given.Next e = absurd (cc e)
plan_is Given.EndWalk e = absurd (cc e)
plan_is Given.Seqnum e = absurd (cc e)
plan_is Given.Close e = absurd (cc e)

-- A turn that wants all records may be blocked: its command waits, and the file doesn't have its change yet.
module _ (f : Form) (x : Own) (n : ℕ) where
  start_not : (q : Option Refusal) → changed_by q (OnGroup Start) x n ≡ true → ⊥
  start_not None e = cc e
  start_not (Some q) e = cc e

  prepare_not : (q : Option Refusal) → changed_by q (OnGroup Prepare) x n ≡ true → ⊥
  prepare_not None e = cc e
  prepare_not (Some q) e = cc e

  cancel_not : (q : Option Refusal) → changed_by q (OnGroup Cancel) x n ≡ true → ⊥
  cancel_not None e = cc e
  cancel_not (Some q) e = cc e

  group_not : (g : GroupCommand) → (g ≡ Commit → n < 3) → is_changed f (OnGroup g) x n ≡ true → ⊥
  unfolding is_changed
  group_not Start few e = start_not (refusal f (OnGroup Start) x) e
  group_not Commit few e = early f x n (few refl) e
  group_not Prepare few e = prepare_not (refusal f (OnGroup Prepare) x) e
  group_not Cancel few e = cancel_not (refusal f (OnGroup Cancel) x) e

  only_commit : (g : GroupCommand) → (g ≡ Commit → n < 3) → is_changed f (OnGroup g) x n ≡ false
  only_commit g few = elim (cases_Bool (is_changed f (OnGroup g) x n)) [ inl e ↦ absurd (group_not g few e) | inr e ↦ e ]

plan_first : (numbered : Bool) (s : PrepareStage) (kind : Kind) → plan_wants numbered s ≡ Wants.Records kind → stage_steps s ≡ 0
plan_first numbered Unchanged kind is = absurd (cc is)
plan_first numbered (Begun txn) kind is = refl
plan_first numbered (Records txn) kind is = absurd (cc is)
plan_first numbered (Locked txn) kind is = absurd (cc is)
plan_first numbered (Planned state) kind is = absurd (cc is)
plan_first numbered (Filled state) kind is = absurd (cc is)

-- a command on a transaction that isn't far
pub record IsEarly (t : Task) : Type 0 where
  pub group : GroupCommand
  pub command : t.command ≡ OnGroup group
  pub steps : group ≡ Commit → t.steps < 3

module _ (kind : Kind) where
  given_early : (c : Command) → may_plan c ≡ true → IsEarly (task_of (law_command c) 0)
  given_early c e = elim (plan_is c e) [
    | inl is ↦ record { group = Commit; command = is; steps = λ g. omega arith }
    | inr is ↦ record { group = Prepare; command = is; steps = λ g. omega arith }
  ]

  open_plans : (txn : OpenTxn) (c : Command) (z : Bool) → may_plan c ≡ z → (if z then open_wants txn else Wants.Nothing) ≡ Wants.Records kind → may_plan c ≡ true
  open_plans txn c true is e = is
  open_plans txn c false is e = absurd (cc e)

  pub wants_early : (stage : Stage) (t : Task) → stage_wants stage ≡ Wants.Records kind → stage_task stage ≡ Some t → IsEarly t
  wants_early (At.Starting st) t ws has = subst IsEarly (same_task (task_of (OnGroup Start) (start_steps st)) t has) (record { group = Start; command = refl; steps = λ g. absurd (cc g) })
  wants_early (At.Open txn None) t ws has = absurd (cc ws)
  wants_early (At.Open txn (Some c)) t ws has = subst IsEarly (same_task (task_of (law_command c) 0) t has) (given_early c (open_plans txn c (may_plan c) refl ws))
  wants_early (At.Committing (Commits.Preparing p)) t ws has =
      subst IsEarly (same_task (task_of (OnGroup Commit) (prepare_steps p)) t has)
      (record { group = Commit; command = refl; steps = λ g. (let none = plan_first p.numbered p.stage kind ws in omega (arith, none)) })
  wants_early (At.Committing (Commits.Finishing c)) t ws has = absurd (cc ws)
  wants_early (At.Preparing p) t ws has = subst IsEarly (same_task (task_of (OnGroup Prepare) (prepare_steps p)) t has) (record { group = Prepare; command = refl; steps = λ g. absurd (cc g) })
  wants_early (At.Prepared left command) t ws has = absurd (cc ws)
  wants_early (At.Finishing c) t ws has = absurd (cc ws)

pub early_waits : (f : Form) (x : Own) (t : Task) → IsEarly t → (waits t.command ≡ true) × (is_changed f t.command x t.steps ≡ false)
early_waits f x t E =
    (subst (λ c. waits c ≡ true) (sym E.command) refl, subst (λ c. is_changed f c x t.steps ≡ false) (sym E.command) (only_commit f x t.steps E.group E.steps))

-- such a turn isn't that of a Close
plan_stays : (c : Command) → may_plan c ≡ true → is_close (Some c) ≡ false
plan_stays (Given.Fetch key) e = refl
plan_stays (Given.Has key) e = refl
plan_stays (Given.Store key value flag) e = refl
plan_stays (Given.Append key value) e = refl
plan_stays (Given.Delete key) e = refl
plan_stays Given.Wipe e = refl
plan_stays Given.Check e = refl
plan_stays (Given.ChainLock key) e = refl
plan_stays (Given.ChainLockNb key) e = refl
plan_stays (Given.ChainUnlock key) e = refl
plan_stays Given.LockAll e = refl
plan_stays Given.LockAllRead e = refl
plan_stays Given.UnlockAll e = refl
plan_stays Given.Start e = refl
plan_stays Given.Commit e = refl
plan_stays Given.Prepare e = refl
plan_stays Given.Cancel e = refl
plan_stays Given.First e = refl
plan_stays Given.Next e = refl
plan_stays Given.EndWalk e = refl
plan_stays Given.Seqnum e = refl
plan_stays Given.Close e = absurd (cc e)

pub wants_open : (kind : Kind) (stage : Stage) → stage_wants stage ≡ Wants.Records kind → is_closing stage ≡ false
wants_open kind (At.Starting st) ws = refl
wants_open kind (At.Open txn None) ws = refl
wants_open kind (At.Open txn (Some c)) ws = plan_stays c (open_plans kind txn c (may_plan c) refl ws)
wants_open kind (At.Committing c) ws = refl
wants_open kind (At.Preparing p) ws = refl
wants_open kind (At.Prepared left command) ws = absurd (cc ws)
wants_open kind (At.Finishing c) ws = refl
