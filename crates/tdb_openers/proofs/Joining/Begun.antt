-- A command that has had no step is at its beginning: it holds no record and knows nothing, and takes no record out of
-- its chain.
use Rattle.std.proofs.Common.{◌≡◌, ℕ, List, [], Bool, Option, refl, sym, ap, subst, arith}
use Rattle.tdb_space.specs.Form.{Form}
use Rattle.tdb_law.specs.Openers.{Own}
use Rattle.tdb_steps.specs.declared.plain.Plain.{Plain}
use Rattle.tdb_steps.specs.declared.plain.Plain.TheVariants.{Fetch, Has, Store, Append, Delete, Wipe}
use Rattle.tdb_steps.specs.declared.stage.Stage.{Stage}
use Rattle.tdb_steps.specs.declared.stage.Stage.TheVariants.{Begun, Chained, Taken, Wiping, Ending}
use Rattle.tdb_steps.specs.declared.stage.WipeStage.TheVariants as Wipes
use Rattle.tdb_steps.specs.Machines.{DoingKnows}
use Rattle.tdb_steps.specs.Stages.{hands_in}
use Rattle.tdb_steps.specs.Order.{LookAfter, StoreAfter, DeleteAfter, WipeAfter, IsAfter}
use Rattle.tdb_openers.specs.declared.job.Checking.TheVariants as Checks
use Rattle.tdb_openers.specs.declared.job.Job.{Job}
use Rattle.tdb_openers.specs.declared.job.Job.TheVariants as Jobs
use Rattle.tdb_openers.specs.Cursors.{StageSpares, JobSpares}
use Rattle.tdb_openers.specs.Openers.{hands_of_job, JobStands, JobKnows}

look_begun : (stage : Stage) → LookAfter stage 0 → stage ≡ Begun
look_begun Begun is = refl
look_begun Chained is = absurd (omega (arith, is))
look_begun stage is = elim is [ ]

store_begun : (stage : Stage) → StoreAfter stage 0 → stage ≡ Begun
store_begun Begun is = refl
store_begun (Wiping stage) is = elim is [ ]
store_begun stage is = absurd (grind arith)

delete_begun : (stage : Stage) → DeleteAfter stage 0 → stage ≡ Begun
delete_begun Begun is = refl
delete_begun (Taken found hand) is = elim is [ ]
delete_begun (Wiping stage) is = elim is [ ]
delete_begun stage is = absurd (omega (arith, is))

wipe_begun : (stage : Stage) → WipeAfter stage 0 → stage ≡ Begun
wipe_begun Begun is = refl
wipe_begun (Wiping Wipes.Records) is = absurd (omega (arith, is))
wipe_begun (Wiping Wipes.FreeList) is = absurd (omega (arith, is))
wipe_begun Ending is = absurd (omega (arith, is))
wipe_begun stage is = elim is [ ]

pub begun_stage : (command : Plain) (stage : Stage) → IsAfter command stage 0 → stage ≡ Begun
begun_stage (Fetch key) stage is = look_begun stage is
begun_stage (Has key) stage is = look_begun stage is
begun_stage (Store key value flag) stage is = store_begun stage is
begun_stage (Append key value) stage is = store_begun stage is
begun_stage (Delete key) stage is = delete_begun stage is
begun_stage Wipe stage is = wipe_begun stage is

-- it knows nothing
bare_stage : (f : Form) (img : List ℕ) (command : Plain) (chain : ℕ) (seqnum : Bool) (stage : Stage) (whole : Option (List ℕ)) → IsAfter command stage 0 → DoingKnows f img (record { command = command; chain = chain; seqnum = seqnum; stage = stage; whole = whole })
bare_stage f img command chain seqnum stage whole is =
    subst (λ z. DoingKnows f img (record { command = command; chain = chain; seqnum = seqnum; stage = z; whole = whole })) (sym (begun_stage command stage is)) (record { found = tt; joined = λ key value e. tt; wants = tt })

module _ (f : Form) (x : Own) (size : ℕ) where
  pub bare_hands : (job : Job) → JobStands f x job 0 size → hands_of_job job ≡ []
  bare_hands (Jobs.Refused command reply) K = refl
  bare_hands (Jobs.Plain d) K = ap hands_in (begun_stage d.command d.stage K.after)
  bare_hands (Jobs.Check checking) K = refl
  bare_hands (Jobs.Locking locking) K = refl
  bare_hands Jobs.Seqnum K = refl
  bare_hands (Jobs.Walk walking) K = refl

  pub bare_knows : (img : List ℕ) (job : Job) → JobStands f x job 0 size → JobKnows f img job
  bare_knows img (Jobs.Refused command reply) K = tt
  bare_knows img (Jobs.Plain d) K = bare_stage f img d.command d.chain d.seqnum d.stage d.whole K.after
  bare_knows img (Jobs.Check Checks.Begun) K = tt
  bare_knows img (Jobs.Check Checks.Records) K = tt
  bare_knows img (Jobs.Check Checks.FreeList) K = tt
  bare_knows img (Jobs.Check (Checks.Counted keys)) K = absurd (let late = K.1 in omega (arith, late))
  bare_knows img (Jobs.Locking locking) K = tt
  bare_knows img Jobs.Seqnum K = tt
  bare_knows img (Jobs.Walk walking) K = tt

  -- a delete takes no record out of its chain
  plain_bare : (command : Plain) (stage : Stage) (stands : ℕ → Bool) → IsAfter command stage 0 → StageSpares stands command stage
  plain_bare (Fetch key) stage stands is = tt
  plain_bare (Has key) stage stands is = tt
  plain_bare (Store key value flag) stage stands is = tt
  plain_bare (Append key value) stage stands is = tt
  plain_bare (Delete key) stage stands is = subst (StageSpares stands (Delete key)) (sym (begun_stage (Delete key) stage is)) tt
  plain_bare Wipe stage stands is = tt

  pub bare_spares : (job : Job) (stands : ℕ → Bool) → JobStands f x job 0 size → JobSpares stands job
  bare_spares (Jobs.Refused command reply) stands K = tt
  bare_spares (Jobs.Plain d) stands K = plain_bare d.command d.stage stands K.after
  bare_spares (Jobs.Check checking) stands K = tt
  bare_spares (Jobs.Locking locking) stands K = tt
  bare_spares Jobs.Seqnum stands K = tt
  bare_spares (Jobs.Walk walking) stands K = tt
