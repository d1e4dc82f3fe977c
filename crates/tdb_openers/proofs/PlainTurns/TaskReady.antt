-- An opener's task before its turn.
use Rattle.std.proofs.Common.{◌≡◌, ℕ, ◌+◌, ◌≤◌, List, Some, None, refl, subst, arith, inl, inr}
use Rattle.tdb_space.specs.Form.{Form}
use Rattle.tdb_locks.specs.declared.piece.Piece.{Piece}
use Rattle.tdb_law.specs.Commands.{Turn}
use Rattle.tdb_law.specs.Commands.Turn.{Step, Blocked, Ends}
use Rattle.tdb_law.specs.Openers.{Own}
use Rattle.tdb_steps.specs.Order.{LookAfter, StoreAfter, DeleteAfter, WipeAfter, IsAfter}
use Rattle.tdb_steps.specs.declared.plain.Plain.{Plain}
use Rattle.tdb_steps.specs.declared.plain.Plain.TheVariants.{Fetch, Has, Store, Append, Delete, Wipe}
use Rattle.tdb_steps.specs.declared.stage.Stage.{Stage}
use Rattle.tdb_steps.specs.declared.stage.Stage.TheVariants.{Begun, Chained, Looked, Listed, Taken, Changed, Wiping, Ending}
use Rattle.tdb_steps.specs.declared.stage.WipeStage.TheVariants as Wipes
use Rattle.tdb_commands.specs.declared.options.Options.{Options}
use Rattle.tdb_openers.specs.declared.opener.Opener.{Opener}
use Rattle.tdb_openers.specs.declared.job.Job.{Job}
use Rattle.tdb_openers.specs.declared.job.Job.TheVariants as Jobs
use Rattle.tdb_openers.specs.declared.job.Checking.{Checking}
use Rattle.tdb_openers.specs.declared.job.Checking.TheVariants as Checks
use Rattle.tdb_openers.specs.declared.job.Task.{Task}
use Rattle.tdb_openers.specs.Openers.{rest_of, own_of, command_in, walk_in, walk_of, CheckAfter, JobStands, TaskStands}
use Rattle.tdb_openers.specs.Turning.{OpenerHolds, resting}
use Rattle.tdb_openers.specs.Jobs.{JobIsReady, task_after}
use Rattle.tdb_openers.specs.Laws.{MayStand}

-- no command has more than six steps
look_few : (stage : Stage) (n : ℕ) → LookAfter stage n → n ≤ 6
look_few Begun n is = omega (arith, is)
look_few Chained n is = omega (arith, is)
look_few (Looked found) n is = elim is [ ]
look_few (Listed found) n is = elim is [ ]
look_few (Taken found hand) n is = elim is [ ]
look_few (Changed hand) n is = elim is [ ]
look_few (Wiping locked) n is = elim is [ ]
look_few Ending n is = elim is [ ]

store_few : (stage : Stage) (n : ℕ) → StoreAfter stage n → n ≤ 6
store_few Begun n is = omega (arith, is)
store_few Chained n is = omega (arith, is)
store_few (Looked found) n is = omega (arith, is)
store_few (Listed found) n is = omega (arith, is)
store_few (Taken found hand) n is = omega (arith, is)
store_few (Changed hand) n is = omega (arith, is)
store_few (Wiping locked) n is = elim is [ ]
store_few Ending n is = elim is [ inl five ↦ omega (arith, five) | inr six ↦ omega (arith, six) ]

delete_few : (stage : Stage) (n : ℕ) → DeleteAfter stage n → n ≤ 6
delete_few Begun n is = omega (arith, is)
delete_few Chained n is = omega (arith, is)
delete_few (Looked found) n is = omega (arith, is)
delete_few (Listed found) n is = omega (arith, is)
delete_few (Taken found hand) n is = elim is [ ]
delete_few (Changed hand) n is = omega (arith, is)
delete_few (Wiping locked) n is = elim is [ ]
delete_few Ending n is = omega (arith, is)

wipe_few : (stage : Stage) (n : ℕ) → WipeAfter stage n → n ≤ 6
wipe_few Begun n is = omega (arith, is)
wipe_few Chained n is = elim is [ ]
wipe_few (Looked found) n is = elim is [ ]
wipe_few (Listed found) n is = elim is [ ]
wipe_few (Taken found hand) n is = elim is [ ]
wipe_few (Changed hand) n is = elim is [ ]
wipe_few (Wiping Wipes.Records) n is = omega (arith, is)
wipe_few (Wiping Wipes.FreeList) n is = omega (arith, is)
wipe_few Ending n is = omega (arith, is)

plain_few : (command : Plain) (stage : Stage) (n : ℕ) → IsAfter command stage n → n ≤ 6
plain_few (Fetch key) stage n is = look_few stage n is
plain_few (Has key) stage n is = look_few stage n is
plain_few (Store key value flag) stage n is = store_few stage n is
plain_few (Append key value) stage n is = store_few stage n is
plain_few (Delete key) stage n is = delete_few stage n is
plain_few Wipe stage n is = wipe_few stage n is

check_few : (checking : Checking) (n : ℕ) → CheckAfter checking n → n ≤ 6
check_few Checks.Begun n is = omega (arith, is)
check_few Checks.Records n is = omega (arith, is)
check_few Checks.FreeList n is = omega (arith, is)
check_few (Checks.Counted keys) n is = omega (arith, is)

steps_few : (f : Form) (x : Own) (job : Job) (n size : ℕ) → JobStands f x job n size → n ≤ 6
steps_few f x (Jobs.Refused command reply) n size K = let none = K.0 in omega (arith, none)
steps_few f x (Jobs.Plain d) n size K = plain_few d.command d.stage n K.after
steps_few f x (Jobs.Check checking) n size K = check_few checking n K.1
steps_few f x (Jobs.Locking locking) n size K = let none = K.0 in omega (arith, none)
steps_few f x Jobs.Seqnum n size K = let none = K.0 in omega (arith, none)
steps_few f x (Jobs.Walk walking) n size K = let few = K.0 in omega (arith, few)

module _ (f : Form) (options : Options) (x : Opener) (size owner : ℕ) (ps : List Piece) (M : MayStand f options size x)
    (holds : (t : Task) → x.task ≡ Some t → (who : ℕ) × (owner ≡ who + 1) × OpenerHolds f (own_of options x) (resting (rest_of x.walk)) (command_in t.job) t.steps who ps) (t : Task) (busy : x.task ≡ Some t) where
  task_stands : JobStands f (own_of options x) t.job t.steps size
  task_stands = subst (λ z. TaskStands f (own_of options x) z size) busy M.stands.1

  pub task_few : t.steps ≤ 6
  task_few = steps_few f (own_of options x) t.job t.steps size task_stands

  pub task_ready : (who : ℕ) → owner ≡ who + 1 → JobIsReady f (own_of options x) (resting (rest_of x.walk)) t.job t.steps who owner size ps
  task_ready who number = let h = holds t busy in let named = h.1 in record {
    number = number;
    stands = task_stands;
    holds = subst (λ w. OpenerHolds f (own_of options x) (resting (rest_of x.walk)) (command_in t.job) t.steps w ps) (omega (arith, named, number)) h.2;
  }

-- what is left of a task on no cursor is on none
pub after_beside : (job : Job) (n : ℕ) (turn : Turn) → walk_in job ≡ None → walk_of (task_after job n turn) ≡ None
after_beside job n Step off = off
after_beside job n (Blocked owner byte) off = off
after_beside job n (Ends r) off = refl
