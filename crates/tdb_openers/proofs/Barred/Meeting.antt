-- The turns of jobs that are shut out, and what they leave of their openers.
use Rattle.std.proofs.Common.{◌≡◌, ℕ, Option, Some, None, refl, sym, ap, subst, inl, inr, ◌⊎◌}
use Rattle.tdb_space.specs.Form.{Form}
use Rattle.tdb_locks.specs.declared.turn.Reply.{Reply}
use Rattle.tdb_locks.specs.declared.turn.Turn.{Turn}
use Rattle.tdb_locks.specs.declared.turn.Turn.TheVariants.{Step, Blocked, Done}
use Rattle.tdb_openers.specs.declared.opener.Opener.{Opener}
use Rattle.tdb_openers.specs.declared.job.Job.{Job}
use Rattle.tdb_openers.specs.declared.job.Job.TheVariants as Jobs
use Rattle.tdb_openers.specs.declared.job.Locking.{Locking}
use Rattle.tdb_openers.specs.declared.job.Locking.TheVariants as Locks
use Rattle.tdb_openers.specs.declared.job.Walking.{Walking}
use Rattle.tdb_openers.specs.declared.job.Walking.TheVariants as Walks
use Rattle.tdb_openers.specs.declared.job.Task.{Task}
use Rattle.tdb_openers.specs.ShutOut.{LockingMeets, WalkMeets, JobMeets, after_job, opener_after}

-- no such turn is a step
locking_stays : (f : Form) (locking : Locking) (holder : ℕ) → LockingMeets f locking holder Step → ⊥
locking_stays f (Locks.Chain key) holder M = cc
locking_stays f (Locks.ChainNb key) holder M = cc
locking_stays f (Locks.Unchain key) holder M = M
locking_stays f Locks.All holder M = cc
locking_stays f Locks.AllRead holder M = cc
locking_stays f Locks.UnlockAll holder M = M

walk_stays : (walking : Walking) → WalkMeets walking Step → ⊥
walk_stays Walks.First M = M
walk_stays Walks.Next M = M
walk_stays Walks.EndWalk M = cc
walk_stays Walks.Close M = cc

job_stays : (f : Form) (job : Job) (holder : ℕ) → JobMeets f job holder Step → ⊥
job_stays f (Jobs.Refused command reply) holder M = cc
job_stays f (Jobs.Plain d) holder M = cc
job_stays f (Jobs.Check checking) holder M = cc
job_stays f (Jobs.Locking locking) holder M = locking_stays f locking holder M
job_stays f Jobs.Seqnum holder M = M
job_stays f (Jobs.Walk walking) holder M = walk_stays walking M

-- so one that isn't blocked is the end of its job
pub ends_job : (f : Form) (job : Job) (holder : ℕ) (turn : Turn) (x : Opener) → JobMeets f job holder turn → (turn ≡ Step) ⊎ ((reply : Reply) × (turn ≡ Done reply)) → after_job job x ≡ opener_after turn job x
ends_job f job holder turn x M (inl step) = absurd (job_stays f job holder (subst (JobMeets f job holder) step M))
ends_job f job holder turn x M (inr done) = sym (ap (λ u. opener_after u job x) done.1)

-- and whatever command its opener has then, it is gone
pub without_job : (job : Job) (x : Opener) (o : Option Task) → after_job job (record x { task = o }) ≡ after_job job x
without_job (Jobs.Refused command reply) x o = refl
without_job (Jobs.Plain d) x o = refl
without_job (Jobs.Check checking) x o = refl
without_job (Jobs.Locking locking) x o = refl
without_job Jobs.Seqnum x o = refl
without_job (Jobs.Walk Walks.First) x o = refl
without_job (Jobs.Walk Walks.Next) x o = refl
without_job (Jobs.Walk Walks.EndWalk) x o = refl
without_job (Jobs.Walk Walks.Close) x o = refl

-- its cursor stays
job_walk : (job : Job) (x : Opener) → (after_job job x).walk ≡ x.walk
job_walk (Jobs.Refused command reply) x = refl
job_walk (Jobs.Plain d) x = refl
job_walk (Jobs.Check checking) x = refl
job_walk (Jobs.Locking locking) x = refl
job_walk Jobs.Seqnum x = refl
job_walk (Jobs.Walk Walks.First) x = refl
job_walk (Jobs.Walk Walks.Next) x = refl
job_walk (Jobs.Walk Walks.EndWalk) x = refl
job_walk (Jobs.Walk Walks.Close) x = refl

pub kept_walk : (turn : Turn) (job : Job) (x : Opener) → (opener_after turn job x).walk ≡ x.walk
kept_walk Step job x = refl
kept_walk (Blocked owner byte) job x = refl
kept_walk (Done reply) job x = job_walk job x

-- and it has no command
pub job_done : (job : Job) (x : Opener) → (after_job job x).task ≡ None
job_done (Jobs.Refused command reply) x = refl
job_done (Jobs.Plain d) x = refl
job_done (Jobs.Check checking) x = refl
job_done (Jobs.Locking locking) x = refl
job_done Jobs.Seqnum x = refl
job_done (Jobs.Walk Walks.First) x = refl
job_done (Jobs.Walk Walks.Next) x = refl
job_done (Jobs.Walk Walks.EndWalk) x = refl
job_done (Jobs.Walk Walks.Close) x = refl

pub same_job : (o : Option Task) (now t : Task) → o ≡ Some now → o ≡ Some t → now.job ≡ t.job
same_job o now t one other = let same : now ≡ t = cc in ap (λ (u : Task). u.job) same
