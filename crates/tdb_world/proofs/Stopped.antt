-- What a turn leaves that failed, whoever took it.
use Rattle.std.proofs.Common.{◌≡◌, ℕ, List, Option, Some, None, refl, sym, ◌∙◌, subst, inl, inr, arith}
use Rattle.tdb_disk.specs.History.{History}
use Rattle.tdb_disk.specs.Stop.{Leaves, LeavesOnly}
use Rattle.tdb_disk.proofs.Runs.{leaves_start}
use Rattle.tdb_space.specs.Accepted.{AcceptWith}
use Rattle.tdb_space.specs.Extents.{HandPair}
use Rattle.tdb_space.specs.Form.{Form}
use Rattle.tdb_space.specs.Stays.{FrontStays}
use Rattle.tdb_space.proofs.Accepted.Areas.{area_within}
use Rattle.tdb_space.proofs.Stays.Changes.{changes_none}
use Rattle.tdb_steps.specs.declared.plain.Plain.{Plain}
use Rattle.tdb_steps.specs.declared.plain.Plain.TheVariants.{Fetch, Has, Store, Append, Delete, Wipe}
use Rattle.tdb_steps.specs.declared.stage.Stage.{Stage}
use Rattle.tdb_steps.specs.Machines.{CommandStopped, Doing, MachineStopped}
use Rattle.tdb_steps.specs.Machines.MachineStopped.{in_call, at_number}
use Rattle.tdb_steps.specs.Wiped.{WipeStopped}
use Rattle.tdb_steps.specs.Wiped.WipeStopped.{in_heads, in_stretches, at_end}
use Rattle.tdb_steps.proofs.WipeSteps.{front_stays}
use Rattle.tdb_walk.specs.Purging.{PurgeBroken}
use Rattle.tdb_walk.specs.Cursors.{At, dead_of}
use Rattle.tdb_walk.specs.declared.purging.DeadRecord.{DeadRecord}
use Rattle.tdb_law.specs.OneAside.Sides.{Past, Side}
use Rattle.tdb_law.specs.World.{State}
use Rattle.tdb_txn_turns.specs.declared.starting.Starting.{Starting}
use Rattle.tdb_txn_owner.specs.Holders.{HolderState, StageMayLeave}
use Rattle.tdb_txn_owner.specs.Stages.{Known, KnowsFile}
use Rattle.tdb_txn_owner.specs.declared.stage.Stage.TheVariants as Stages
use Rattle.tdb_openers.specs.Stopped.{JobStopped}
use Rattle.tdb_openers.specs.declared.job.Job.{Job}
use Rattle.tdb_openers.specs.declared.job.Job.TheVariants as Jobs
use Rattle.tdb_world.specs.States.{IsAside, IsStateOf, SideIs}
use Rattle.tdb_world.specs.States.IsStateOf.{of_whole, of_stale}
use Rattle.tdb_world.specs.Stopped.{StoppedAside}
use Rattle.tdb_world.specs.Whole.{form_at, Whole}
use Rattle.tdb_world.proofs.Settled.{same_holder}

-- Outside a transaction the header stays, but for the sequence number, and so does the undo area, whatever failed.
module _ (f : Form) (a b : List ℕ) (hands : List HandPair) (A : AcceptWith f a hands) where
  wipe_front : WipeStopped f a b → FrontStays f a b
  wipe_front (in_heads t) = front_stays f a b (record { size = t.size; header = t.below; undo_area = λ i some. t.above i (omega (arith, (area_within f a i A.area_ok some).0)) })
  wipe_front (in_stretches empty same) = front_stays f a b same
  wipe_front (at_end W) = front_stays f a b W.stays

  command_front : (command : Plain) (stage : Stage) → CommandStopped f a b command stage → FrontStays f a b
  command_front (Fetch key) stage T = T.only.front
  command_front (Has key) stage T = T.only.front
  command_front (Store key value flag) stage T = T.only.front
  command_front (Append key value) stage T = T.only.front
  command_front (Delete key) stage T = T.only.front
  command_front Wipe stage T = wipe_front T

  machine_front : (d : Doing) (n : ℕ) (others : List HandPair) → MachineStopped f a b d n others → FrontStays f a b
  machine_front d n others (in_call T) = command_front d.command d.stage T
  machine_front d n others (at_number reply U) = U.only.front

  still_front : b ≡ a → FrontStays f a b
  still_front same = subst (FrontStays f a) (sym same) (changes_none f a (λ k. ⊥)).front

  purge_front : (dead : Option DeadRecord) (others : List HandPair) → PurgeBroken f a b dead others → FrontStays f a b
  purge_front None others same = still_front same
  purge_front (Some d) others P = P.only.front

  pub job_front : (cursor : At) (job : Job) (n : ℕ) (others : List HandPair) → JobStopped f a b cursor job n others → FrontStays f a b
  job_front cursor (Jobs.Plain doing) n others S = machine_front doing n others S
  job_front cursor (Jobs.Walk walking) n others S = purge_front (dead_of cursor.place cursor.stage) others S
  job_front cursor (Jobs.Refused command reply) n others same = still_front same
  job_front cursor (Jobs.Check checking) n others same = still_front same
  job_front cursor (Jobs.Locking locking) n others same = still_front same
  job_front cursor Jobs.Seqnum n others same = still_front same

-- The turn of the one aside for which the lock of records was taken: no call changed the file, or the turn left what
-- its stage says.
pub used_stopped : (w : Whole) (holder : HolderState) (old mid new : History) → mid ≡ old → ((f : Form) (k : Known) → KnowsFile f holder.stage mid k → LeavesOnly mid new (StageMayLeave holder.stage mid k)) → StoppedAside w holder old new
used_stopped w holder old mid new same left = inr (λ image past s A. subst (λ h. LeavesOnly h new (StageMayLeave holder.stage h A.known)) same (left (form_at w) A.known (subst (λ h. KnowsFile (form_at w) holder.stage h A.known) (sym same) A.file)))

-- The first turn of a Start leaves what a stop might have left before.
module _ (w : Whole) (h g : History) (holder : HolderState) (st : Starting) (at : holder.stage ≡ Stages.Starting st) (is : w.aside ≡ Some holder) where
  side_stopped : (a : Option HolderState) (image : List ℕ) (past : Past) (side : Option Side) → a ≡ Some holder → SideIs w a h image past side → StoppedAside w holder h g → LeavesOnly h g (Leaves h)
  side_stopped a image past side there A (inl same) = subst (λ k. LeavesOnly h k (Leaves h)) (sym same) (leaves_start h (Leaves h) (λ image left. left))
  side_stopped None image past side there A (inr F) = absurd (cc there)
  side_stopped (Some other) image past None there A (inr F) = absurd A
  side_stopped (Some other) image past (Some s) there A (inr F) =
      let B : IsAside w holder h image past s = subst (λ z. IsAside w z h image past s) (same_holder (Some other) other holder refl there) A in
      subst (λ z. LeavesOnly h g (StageMayLeave z h B.known)) at (F image past s B)

  pub start_stopped : (state : State) → IsStateOf w h state → StoppedAside w holder h g → LeavesOnly h g (Leaves h)
  start_stopped state (of_whole S) F = side_stopped w.aside S.image S.past S.side is S.is_side F
  start_stopped state (of_stale S) F = absurd (let none = S.nobody in cc (sym is ∙ none))
