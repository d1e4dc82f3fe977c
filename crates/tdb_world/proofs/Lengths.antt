-- Openers of whom no command has locked a record stand over a file of any length: none has begun a change.
use Rattle.std.proofs.Common.{◌≡◌, ℕ, ◌<◌, ◌≤◌, List, [], ◌∷◌, slice_get, true, Option, Some, None, is_none, refl, sym, subst, inl, inr, arith, le_refl}
use Rattle.std.proofs.lemmas.Bool.{cases_eq}
use Rattle.tdb_space.specs.Form.{Form, form_in}
use Rattle.tdb_space.specs.Spare.{without_bound}
use Rattle.tdb_law.specs.Held.{held, locked, task_held}
use Rattle.tdb_law.specs.Openers.{Own, Spot}
use Rattle.tdb_law.specs.Refusals.{chain_byte}
use Rattle.tdb_law.specs.Rows.{all_end, lock_all, lock_chain, lock_free, map_locks}
use Rattle.tdb_law.specs.World.{HasFewChains}
use Rattle.tdb_law.proofs.Locks.{all_covered, chain_covered, chain_place, first_locked}
use Rattle.tdb_commands.specs.declared.options.Options.{Options}
use Rattle.tdb_steps.specs.Machines.{Doing, IsFit}
use Rattle.tdb_steps.specs.Order.{IsAfter}
use Rattle.tdb_steps.specs.PlainCommands.{command_of, key_of, store_of}
use Rattle.tdb_steps.specs.declared.flag.Flag.{Flag}
use Rattle.tdb_steps.specs.declared.flag.Flag.TheVariants as Flags
use Rattle.tdb_steps.specs.declared.plain.Plain.{Plain}
use Rattle.tdb_steps.specs.declared.plain.Plain.TheVariants as Plains
use Rattle.tdb_steps.specs.declared.stage.Stage.TheVariants.{Begun}
use Rattle.tdb_openers.specs.Aside.{LocksNoRecord}
use Rattle.tdb_openers.specs.Openers.{command_in, own_at, own_of, law_task, spot_at, spot_by, task_at, JobStands, OpenerStands, TaskStands}
use Rattle.tdb_openers.specs.Worlds.{state_in, Stands, World}
use Rattle.tdb_openers.specs.declared.job.Job.{Job}
use Rattle.tdb_openers.specs.declared.job.Job.TheVariants as Jobs
use Rattle.tdb_openers.specs.declared.job.Task.{Task}
use Rattle.tdb_openers.specs.declared.opener.Opener.{Opener}
use Rattle.tdb_openers.proofs.Joining.Begun.{begun_stage}
use Rattle.tdb_openers.proofs.PlainTurns.Busy.{held_is}

-- at its beginning a command on the map stands in a file of any length
begun_fit : (command : Plain) (whole : Option (List ℕ)) (size other : ℕ) → IsFit command whole Begun size without_bound → IsFit command whole Begun other without_bound
begun_fit (Plains.Fetch key) whole size other F = F
begun_fit (Plains.Has key) whole size other F = F
begun_fit (Plains.Store key value flag) whole size other F = F
begun_fit (Plains.Append key value) whole size other F = F
begun_fit (Plains.Delete key) whole size other F = F
begun_fit Plains.Wipe whole size other F = F

-- once it has had a step it has the chain of its key locked
module _ (f : Form) (few : HasFewChains f) (n : ℕ) (begun : 1 ≤ n) where
  chain_taken : (key : List ℕ) (s : ℕ) → 1 ≤ s → 1 ≤ locked (lock_chain f 0 key s ∷ []) n (chain_byte f key)
  chain_taken key s some = let first = first_locked (lock_chain f 0 key s) [] n (chain_byte f key) begun (chain_covered f 0 key s) in omega (arith, first, some)

  two_taken : (key : List ℕ) → 1 ≤ locked (lock_chain f 0 key 2 ∷ lock_free 2 2 ∷ []) n (chain_byte f key)
  two_taken key = let first = first_locked (lock_chain f 0 key 2) (lock_free 2 2 ∷ []) n (chain_byte f key) begun (chain_covered f 0 key 2) in omega (arith, first)

  store_taken : (flag : Flag) (key value : List ℕ) → 1 ≤ locked (map_locks f (store_of flag key value)) n (chain_byte f key)
  store_taken Flags.Replace key value = two_taken key
  store_taken Flags.Insert key value = two_taken key
  store_taken Flags.Modify key value = two_taken key

  plain_taken : (command : Plain) → 1 ≤ locked (map_locks f (command_of command)) n (chain_byte f (key_of command))
  plain_taken (Plains.Fetch key) = chain_taken key 1 (le_refl 1)
  plain_taken (Plains.Has key) = chain_taken key 1 (le_refl 1)
  plain_taken (Plains.Store key value flag) = store_taken flag key value
  plain_taken (Plains.Append key value) = two_taken key
  plain_taken (Plains.Delete key) = two_taken key
  plain_taken Plains.Wipe = let first = first_locked (lock_all 0 2) (lock_free 1 2 ∷ []) n (chain_byte f []) begun (all_covered f few 0 [] 2) in omega (arith, first)

module _ (f : Form) (few : HasFewChains f) (x : Own) (out : is_none x.txn ≡ true) (s : Spot) (n size other : ℕ) where
  plain_begun : (d : Doing) → JobStands f x (Jobs.Plain d) n size → ((b : ℕ) → 168 ≤ b → b < all_end → held f (command_in (Jobs.Plain d)) x s n b ≡ 0) → n ≡ 0
  plain_begun d K none = elim (cases_eq n 0) [
    | inl zero_steps ↦ zero_steps
    | inr some ↦ absurd (let byte = chain_byte f (key_of d.command) in
        let place = chain_place f few (key_of d.command) in
        let one = plain_taken f few n (omega (arith, some)) d.command in
        let is = held_is f (command_of d.command) x K.granted out s n byte in
        let bare = none byte place.above (omega (arith, place.below, place.far)) in
        omega (arith, one, is, bare))
  ]

  job_any : (job : Job) → ((b : ℕ) → 168 ≤ b → b < all_end → held f (command_in job) x s n b ≡ 0) → JobStands f x job n size → JobStands f x job n other
  job_any (Jobs.Refused command reply) none K = K
  job_any (Jobs.Plain d) none K =
      let at = begun_stage d.command d.stage (subst (IsAfter d.command d.stage) (plain_begun d K none) K.after) in
      record {
        granted = K.granted;
        chain = K.chain;
        counts = K.counts;
        after = K.after;
        fits = record {
          short = K.fits.short;
          short_whole = K.fits.short_whole;
          stage = subst (λ z. IsFit d.command d.whole z other without_bound) (sym at) (begun_fit d.command d.whole size other (subst (λ z. IsFit d.command d.whole z size without_bound) at K.fits.stage));
        };
      }
  job_any (Jobs.Check checking) none K = K
  job_any (Jobs.Locking locking) none K = K
  job_any Jobs.Seqnum none K = K
  job_any (Jobs.Walk walking) none K = K

module _ (f : Form) (few : HasFewChains f) (options : Options) (size other : ℕ) where
  task_any : (x : Opener) (task : Option Task) → ((b : ℕ) → 168 ≤ b → b < all_end → task_held f (own_of options x) (spot_by x.walk.cursor) (law_task task) b ≡ 0)
      → TaskStands f (own_of options x) task size → TaskStands f (own_of options x) task other
  task_any x None none K = tt
  task_any x (Some t) none K = job_any f few (own_of options x) refl (spot_by x.walk.cursor) t.steps size other t.job none K

  opener_any : (z : Option Opener) → ((b : ℕ) → 168 ≤ b → b < all_end → task_held f (own_at options z) (spot_at z) (task_at z) b ≡ 0) → OpenerStands f options size z → OpenerStands f options other z
  opener_any None none K = tt
  opener_any (Some x) none K = (K.0, task_any x x.task none K.1, K.2)

pub any_length : (w : World) (a : List ℕ) (size : ℕ) → Stands w a size → ((o : ℕ) → LocksNoRecord (form_in w.header) (state_in w a) o) → (b : List ℕ) (other : ℕ) → other ≤ w.options.limit → Stands w b other
any_length w a size W L b other short = record {
  sound = record {
    chains = W.sound.chains;
    agrees = W.sound.agrees;
    apart = W.sound.apart;
    stands = W.sound.stands;
    busy_there = W.sound.busy_there;
    live_joined = W.sound.live_joined;
    stale = λ e. absurd (cc e);
  };
  few = W.few;
  numbered = W.numbered;
  openers_stand = λ o. opener_any (form_in w.header) W.sound.chains w.options size other (slice_get w.openers o) (L o).command (W.openers_stand o);
  limit = W.limit;
  short = short;
}
