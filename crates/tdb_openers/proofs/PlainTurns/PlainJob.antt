-- A turn of a plain command, from what its machine says of it to the words of the law.
use Rattle.std.proofs.Common.{◌≡◌, ℕ, ◌+◌, List, ◌++◌, Option, None, Some, refl, sym, ◌∙◌, ap, subst}
use Rattle.std.specs.Prelude.{length, unwrap_or}
use Rattle.tdb_space.specs.Form.{Form}
use Rattle.tdb_space.specs.Pairs.{home}
use Rattle.tdb_space.specs.Spare.{Spare, without_bound}
use Rattle.tdb_space.specs.Extents.{HandPair}
use Rattle.tdb_space.specs.Accepted.{AcceptWith}
use Rattle.tdb_locks.specs.declared.turn.Turn.{Turn}
use Rattle.tdb_locks.specs.declared.turn.Turn.TheVariants as Turns
use Rattle.tdb_law.specs.Commands.Command.{OnMap}
use Rattle.tdb_law.specs.Openers.{Own}
use Rattle.tdb_law.specs.Refusals.{refusal}
use Rattle.tdb_law.specs.Effects.{task_left}
use Rattle.tdb_commands.specs.InLaw.{law_turn}
use Rattle.tdb_steps.specs.declared.plain.Plain.{Plain}
use Rattle.tdb_steps.specs.declared.plain.Plain.TheVariants.{Fetch, Has, Store, Append, Delete, Wipe}
use Rattle.tdb_steps.specs.declared.stage.Stage.{Stage}
use Rattle.tdb_steps.specs.declared.stage.Stage.TheVariants.{Begun, Chained, Looked, Listed, Taken, Changed, Wiping, Ending}
use Rattle.tdb_steps.specs.Stages.{hands_in, OfDelete, OfStore, OfWipe}
use Rattle.tdb_steps.specs.Order.{IsAfter}
use Rattle.tdb_steps.specs.Machines.{Doing, Fits, IsFit, Leaves, MachineTurned}
use Rattle.tdb_steps.specs.PlainCommands.{key_of, command_of, turn_of}
use Rattle.tdb_openers.specs.declared.job.Job.TheVariants as Jobs
use Rattle.tdb_openers.specs.Openers.{law_task, JobStands, TaskStands}
use Rattle.tdb_openers.specs.Turning.{TurnsImage}
use Rattle.tdb_openers.specs.Jobs.{task_after}

-- what fits a room fits one without bound
module _ (size : ℕ) (spare : Spare) where
  store_unbound : (n : ℕ) (stage : Stage) → OfStore n stage size spare → OfStore n stage size without_bound
  store_unbound n Begun h = h
  store_unbound n Chained h = h
  store_unbound n (Looked found) h = h
  store_unbound n (Listed found) h = h
  store_unbound n (Taken found hand) h = record { within = h.within; fits = h.fits; room = tt }
  store_unbound n (Changed hand) h = tt
  store_unbound n (Wiping locked) h = h
  store_unbound n Ending h = tt

  delete_unbound : (stage : Stage) → OfDelete stage size spare → OfDelete stage size without_bound
  delete_unbound Begun h = h
  delete_unbound Chained h = h
  delete_unbound (Looked found) h = h
  delete_unbound (Listed found) h = h
  delete_unbound (Taken found hand) h = h
  delete_unbound (Changed hand) h = tt
  delete_unbound (Wiping locked) h = h
  delete_unbound Ending h = tt

  wipe_unbound : (stage : Stage) → OfWipe stage spare → OfWipe stage without_bound
  wipe_unbound Begun h = h
  wipe_unbound Chained h = h
  wipe_unbound (Looked found) h = h
  wipe_unbound (Listed found) h = h
  wipe_unbound (Taken found hand) h = h
  wipe_unbound (Changed hand) h = h
  wipe_unbound (Wiping locked) h = h
  wipe_unbound Ending h = tt

  fit_unbound : (command : Plain) (whole : Option (List ℕ)) (stage : Stage) → IsFit command whole stage size spare → IsFit command whole stage size without_bound
  fit_unbound (Fetch key) whole stage h = h
  fit_unbound (Has key) whole stage h = h
  fit_unbound (Store key value flag) whole stage h = store_unbound (length key + length value) stage h
  fit_unbound (Append key value) whole stage h = store_unbound (length key + length (unwrap_or whole value)) stage h
  fit_unbound (Delete key) whole stage h = delete_unbound stage h
  fit_unbound Wipe whole stage h = wipe_unbound stage h

  fits_unbound : (d : Doing) → Fits d size spare → Fits d size without_bound
  fits_unbound d h = record { short = h.short; short_whole = h.short_whole; stage = fit_unbound d.command d.whole d.stage h.stage }

-- what is left of the command
module _ (f : Form) (d e : Doing) (n : ℕ) where
  pub left_stands : (x : Own) (size longer : ℕ) (spare : Spare) (turn : Turn) → JobStands f x (Jobs.Plain d) n size → Leaves d e n (turn_of turn) → Fits e longer spare
      → TaskStands f x (task_after (Jobs.Plain e) n (law_turn turn)) longer
  left_stands x size longer spare Turns.Step K L F = record {
    granted = subst (λ p. refusal f (OnMap (command_of p)) x ≡ None) (sym L.0) K.granted;
    chain = L.1 ∙ K.chain ∙ ap (λ p. home f (key_of p)) (sym L.0);
    counts = L.2 ∙ K.counts;
    after = L.3;
    fits = fits_unbound longer spare e F;
  }
  left_stands x size longer spare (Turns.Blocked owner byte) K L F = record {
    granted = subst (λ q. refusal f (OnMap (command_of q.command)) x ≡ None) (sym L) K.granted;
    chain = subst (λ q. q.chain ≡ home f (key_of q.command)) (sym L) K.chain;
    counts = subst (λ q. q.seqnum ≡ x.options.seqnum) (sym L) K.counts;
    after = subst (λ q. IsAfter q.command q.stage n) (sym L) K.after;
    fits = fits_unbound longer spare e F;
  }
  left_stands x size longer spare (Turns.Done r) K L F = tt

  pub left_is : (turn : Turn) → Leaves d e n (turn_of turn) → task_left (OnMap (command_of d.command)) n (law_turn turn) ≡ law_task (task_after (Jobs.Plain e) n (law_turn turn))
  left_is Turns.Step L = ap (λ p. Some (record { command = OnMap (command_of p); steps = n + 1 })) (sym L.0)
  left_is (Turns.Blocked owner byte) L = ap (λ q. Some (record { command = OnMap (command_of q.command); steps = n })) (sym L)
  left_is (Turns.Done r) L = refl

  pub left_image : (a b : List ℕ) (others : List HandPair) (turn : Turn) → Leaves d e n (turn_of turn) → MachineTurned f a b d e n (turn_of turn) others
      → TurnsImage f (record { steps = n; job = Jobs.Plain d }) (task_after (Jobs.Plain e) n (law_turn turn)) a b others
  left_image a b others Turns.Step L M = record { accepted = M.accepted; knows = M.knows; only = M.only }
  left_image a b others (Turns.Blocked owner byte) L M = record { accepted = M.accepted; knows = M.knows; only = M.only }
  left_image a b others (Turns.Done r) L M = record { accepted = subst (λ q. AcceptWith f b (hands_in q.stage ++ others)) L M.accepted; knows = tt; only = M.only }
