-- One opener: what stands in a file stands in a longer one, and who is live or busy; and a choice of equals.
use Rattle.std.proofs.Common.{◌≡◌, ℕ, ◌+◌, ◌<◌, ◌≤◌, List, length, slice_get, Bool, true, false, Option, Some, None, refl, sym, ◌∙◌, ap, inl, inr, arith}
use Rattle.std.specs.Prelude.{IfSome, unwrap_or, if◌then◌else◌}
use Rattle.std.proofs.lemmas.Option.{slice_get_cases}
use Rattle.tdb_space.specs.Form.{Form}
use Rattle.tdb_space.specs.Spare.{without_bound}
use Rattle.tdb_chain.specs.declared.place.Place.{Place}
use Rattle.tdb_chain.specs.Place.{StandsWithin}
use Rattle.tdb_law.specs.Openers.{Own, Task as LawTask}
use Rattle.tdb_law.proofs.Tests.{never_true}
use Rattle.tdb_steps.specs.declared.plain.Plain.{Plain}
use Rattle.tdb_steps.specs.declared.plain.Plain.TheVariants as Plains
use Rattle.tdb_steps.specs.declared.stage.Stage.{Stage}
use Rattle.tdb_steps.specs.declared.stage.Stage.TheVariants.{Begun, Chained, Looked, Listed, Taken, Changed, Wiping, Ending}
use Rattle.tdb_steps.specs.Stages.{LiesThere, OfDelete, OfStore}
use Rattle.tdb_steps.specs.Machines.{IsFit}
use Rattle.tdb_commands.specs.declared.options.Options.{Options}
use Rattle.tdb_openers.specs.declared.opener.Opener.{Opener}
use Rattle.tdb_openers.specs.declared.job.Job.{Job}
use Rattle.tdb_openers.specs.declared.job.Job.TheVariants as Jobs
use Rattle.tdb_openers.specs.declared.job.Task.{Task}
use Rattle.tdb_openers.specs.Openers.{own_at, own_of, law_task, JobStands, TaskStands, OpenerStands}

module _ (size longer : ℕ) (le : size ≤ longer) where
  within_longer : (p : Place) → StandsWithin p size → StandsWithin p longer
  within_longer p s = record {
    led = (let h = s.led in omega (arith, h));
    led_aligned = s.led_aligned;
    aligned = s.aligned;
    lies = record {
      content = record { aligned = s.lies.content.aligned; least = s.lies.content.least; within = (let h = s.lies.content.within in omega (arith, h)) };
      fits = s.lies.fits;
    };
  }

  there_longer : (o : Option Place) → LiesThere o size → LiesThere o longer
  there_longer None h = h
  there_longer (Some p) h = within_longer p h

  some_longer : (o : Option Place) → IfSome o (λ p. StandsWithin p size) → IfSome o (λ p. StandsWithin p longer)
  some_longer None h = h
  some_longer (Some p) h = within_longer p h

  delete_longer : (stage : Stage) → OfDelete stage size without_bound → OfDelete stage longer without_bound
  delete_longer Begun h = h
  delete_longer Chained h = h
  delete_longer (Looked found) h = there_longer found h
  delete_longer (Listed found) h = there_longer found h
  delete_longer (Taken found hand) h = h
  delete_longer (Changed hand) h = h
  delete_longer (Wiping locked) h = h
  delete_longer Ending h = h

  store_longer : (n : ℕ) (stage : Stage) → OfStore n stage size without_bound → OfStore n stage longer without_bound
  store_longer n Begun h = h
  store_longer n Chained h = h
  store_longer n (Looked found) h = some_longer found h
  store_longer n (Listed found) h = some_longer found h
  store_longer n (Taken found hand) h = record { within = some_longer found h.within; fits = h.fits; room = h.room }
  store_longer n (Changed hand) h = h
  store_longer n (Wiping locked) h = h
  store_longer n Ending h = h

  fit_longer : (command : Plain) (whole : Option (List ℕ)) (stage : Stage) → IsFit command whole stage size without_bound → IsFit command whole stage longer without_bound
  fit_longer (Plains.Fetch key) whole stage h = h
  fit_longer (Plains.Has key) whole stage h = h
  fit_longer (Plains.Store key value flag) whole stage h = store_longer (length key + length value) stage h
  fit_longer (Plains.Append key value) whole stage h = store_longer (length key + length (unwrap_or whole value)) stage h
  fit_longer (Plains.Delete key) whole stage h = delete_longer stage h
  fit_longer Plains.Wipe whole stage h = h

  job_longer : (f : Form) (x : Own) (job : Job) (n : ℕ) → JobStands f x job n size → JobStands f x job n longer
  job_longer f x (Jobs.Refused command reply) n h = h
  job_longer f x (Jobs.Plain doing) n h = record {
    granted = h.granted;
    chain = h.chain;
    counts = h.counts;
    after = h.after;
    fits = record { short = h.fits.short; short_whole = h.fits.short_whole; stage = fit_longer doing.command doing.whole doing.stage h.fits.stage };
  }
  job_longer f x (Jobs.Check checking) n h = h
  job_longer f x (Jobs.Locking locking) n h = h
  job_longer f x Jobs.Seqnum n h = h
  job_longer f x (Jobs.Walk walking) n h = h

  pub opener_longer : (f : Form) (options : Options) (z : Option Opener) → OpenerStands f options size z → OpenerStands f options longer z
  opener_longer f options None h = tt
  opener_longer f options (Some x) h = (h.0, task_longer x.task h.1, h.2)
    where
      task_longer : (task : Option Task) → TaskStands f (own_of options x) task size → TaskStands f (own_of options x) task longer
      task_longer None h = tt
      task_longer (Some t) h = job_longer f (own_of options x) t.job t.steps h

-- who has a command is live
pub busy_at : (z : Option Task) (u : LawTask) (live : Type 0) → ((t : Task) → z ≡ Some t → live) → law_task z ≡ Some u → live
busy_at None u live h e = cc
busy_at (Some t) u live h e = h t refl

-- who is live is one of the openers
pub live_at : (options : Options) (xs : List Opener) (o : ℕ) → (own_at options (slice_get xs o)).live ≡ true → o < length xs
live_at options xs o e =
    elim (slice_get_cases xs o).1 [
      | inl within ↦ within.1
      | inr past ↦ absurd (never_true (sym (ap (λ z. (own_at options z).live) past.1) ∙ e))
    ]

-- a choice of equals is no choice
pub either : {A : Type 0} (z : Bool) (v w : A) → v ≡ w → (if z then v else w) ≡ w
either true v w e = e
either false v w e = refl
