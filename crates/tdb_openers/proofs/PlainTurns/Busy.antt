-- What a command has locked by its stage: who knows anything of a chain has it locked for writing, and who holds a
-- record has the free list so.
use Rattle.std.proofs.Common.{◌≡◌, ℕ, ◌<◌, ◌≤◌, List, [], ◌∷◌, true, Option, None, is_none, refl, ◌∙◌, ap, inl, inr, ◌⊎◌, arith, le_trans}
use Rattle.std.specs.Prelude.{◌&&◌, if◌then◌else◌}
use Rattle.tdb_space.specs.Form.{Form}
use Rattle.tdb_space.specs.Pairs.{home}
use Rattle.tdb_space.specs.Extents.{HandPair}
use Rattle.tdb_chain.specs.declared.place.Place.{Place}
use Rattle.tdb_law.specs.Commands.{MapCommand}
use Rattle.tdb_law.specs.Commands.Command.{OnMap}
use Rattle.tdb_law.specs.MapCommands.{map_reads, map_touches}
use Rattle.tdb_law.specs.Openers.{Own, Spot}
use Rattle.tdb_law.specs.Refusals.{refusal}
use Rattle.tdb_law.specs.Rows.{lock_all, lock_free, lock_chain, map_locks, locks_by, look_by, look}
use Rattle.tdb_law.specs.Outcomes.{reads_by, reads, touches_by, touches}
use Rattle.tdb_law.specs.Held.{locked, held}
use Rattle.tdb_law.proofs.Maps.{is_key-refl}
use Rattle.tdb_law.proofs.Locks.{first_locked, rest_locked}
use Rattle.tdb_steps.specs.declared.flag.Flag.{Flag}
use Rattle.tdb_steps.specs.declared.flag.Flag.TheVariants as Flags
use Rattle.tdb_steps.specs.declared.plain.Plain.{Plain}
use Rattle.tdb_steps.specs.declared.plain.Plain.TheVariants as Plains
use Rattle.tdb_steps.specs.declared.stage.Stage.{Stage}
use Rattle.tdb_steps.specs.declared.stage.Stage.TheVariants.{Begun, Chained, Looked, Listed, Taken, Changed, Wiping, Ending}
use Rattle.tdb_steps.specs.declared.stage.WipeStage.TheVariants as Wipes
use Rattle.tdb_steps.specs.Stages.{hands_in, MayBeOut}
use Rattle.tdb_steps.specs.Order.{IsAfter}
use Rattle.tdb_steps.specs.PlainCommands.{key_of, store_of, command_of}
use Rattle.tdb_steps.specs.Machines.{IsOn}

-- a store touches its key
pub store_touches : (flag : Flag) (key value : List ℕ) → map_touches (store_of flag key value) key ≡ true
store_touches Flags.Replace key value = is_key-refl key
store_touches Flags.Insert key value = is_key-refl key
store_touches Flags.Modify key value = is_key-refl key

store_reads : (flag : Flag) (key value : List ℕ) → map_reads (store_of flag key value) key ≡ true
store_reads Flags.Replace key value = is_key-refl key
store_reads Flags.Insert key value = is_key-refl key
store_reads Flags.Modify key value = is_key-refl key

-- the command has its chain locked, and touches its key
pub record Writes (command : Plain) (n : ℕ) : Type 0 where
  pub begun : 1 ≤ n
  pub touches_key : map_touches (command_of command) (key_of command) ≡ true

pub looked_writes : (command : Plain) (found : Option Place) (n : ℕ) → IsAfter command (Looked found) n → Writes command n
looked_writes (Plains.Fetch key) found n is = elim is [ ]
looked_writes (Plains.Has key) found n is = elim is [ ]
looked_writes (Plains.Store key value flag) found n is = record { begun = omega (arith, is); touches_key = store_touches flag key value }
looked_writes (Plains.Append key value) found n is = record { begun = omega (arith, is); touches_key = is_key-refl key }
looked_writes (Plains.Delete key) found n is = record { begun = omega (arith, is); touches_key = is_key-refl key }
looked_writes Plains.Wipe found n is = elim is [ ]

pub listed_writes : (command : Plain) (found : Option Place) (n : ℕ) → IsAfter command (Listed found) n → Writes command n
listed_writes (Plains.Fetch key) found n is = elim is [ ]
listed_writes (Plains.Has key) found n is = elim is [ ]
listed_writes (Plains.Store key value flag) found n is = record { begun = omega (arith, is); touches_key = store_touches flag key value }
listed_writes (Plains.Append key value) found n is = record { begun = omega (arith, is); touches_key = is_key-refl key }
listed_writes (Plains.Delete key) found n is = record { begun = omega (arith, is); touches_key = is_key-refl key }
listed_writes Plains.Wipe found n is = elim is [ ]

pub taken_writes : (command : Plain) (found : Option Place) (hand : HandPair) (n : ℕ) → IsAfter command (Taken found hand) n → Writes command n
taken_writes (Plains.Fetch key) found hand n is = elim is [ ]
taken_writes (Plains.Has key) found hand n is = elim is [ ]
taken_writes (Plains.Store key value flag) found hand n is = record { begun = omega (arith, is); touches_key = store_touches flag key value }
taken_writes (Plains.Append key value) found hand n is = record { begun = omega (arith, is); touches_key = is_key-refl key }
taken_writes (Plains.Delete key) found hand n is = elim is [ ]
taken_writes Plains.Wipe found hand n is = elim is [ ]

-- the key by which a command has the chain k locked
pub on_reads : (f : Form) (command : Plain) (k : List ℕ) → IsOn f command (home f k) → (q : List ℕ) × (home f k ≡ home f q) × (map_reads (command_of command) q ≡ true)
on_reads f (Plains.Fetch key) k on = (key, on, is_key-refl key)
on_reads f (Plains.Has key) k on = (key, on, is_key-refl key)
on_reads f (Plains.Store key value flag) k on = (key, on, store_reads flag key value)
on_reads f (Plains.Append key value) k on = (key, on, is_key-refl key)
on_reads f (Plains.Delete key) k on = (key, on, is_key-refl key)
on_reads f Plains.Wipe k on = (k, refl, refl)

-- the free list is locked
module _ (f : Form) (n : ℕ) where
  second_locked : (key : List ℕ) → 2 < n → 2 ≤ locked (lock_chain f 0 key 2 ∷ lock_free 2 2 ∷ []) n 164
  second_locked key late = le_trans (first_locked (lock_free 2 2) [] n 164 late refl) (rest_locked (lock_chain f 0 key 2) (lock_free 2 2 ∷ []) n 164)

  store_frees : (flag : Flag) (key value : List ℕ) → 2 < n → 2 ≤ locked (map_locks f (command_of (Plains.Store key value flag))) n 164
  store_frees Flags.Replace key value late = second_locked key late
  store_frees Flags.Insert key value late = second_locked key late
  store_frees Flags.Modify key value late = second_locked key late

  taken_frees : (command : Plain) (found : Option Place) (hand : HandPair) → IsAfter command (Taken found hand) n → 2 ≤ locked (map_locks f (command_of command)) n 164
  taken_frees (Plains.Fetch key) found hand is = elim is [ ]
  taken_frees (Plains.Has key) found hand is = elim is [ ]
  taken_frees (Plains.Store key value flag) found hand is = store_frees flag key value (omega (arith, is))
  taken_frees (Plains.Append key value) found hand is = second_locked key (omega (arith, is))
  taken_frees (Plains.Delete key) found hand is = elim is [ ]
  taken_frees Plains.Wipe found hand is = elim is [ ]

  changed_frees : (command : Plain) (hand : HandPair) → IsAfter command (Changed hand) n → 2 ≤ locked (map_locks f (command_of command)) n 164
  changed_frees (Plains.Fetch key) hand is = elim is [ ]
  changed_frees (Plains.Has key) hand is = elim is [ ]
  changed_frees (Plains.Store key value flag) hand is = store_frees flag key value (omega (arith, is))
  changed_frees (Plains.Append key value) hand is = second_locked key (omega (arith, is))
  changed_frees (Plains.Delete key) hand is = second_locked key (omega (arith, is))
  changed_frees Plains.Wipe hand is = elim is [ ]

  -- who holds a record has the free list locked for writing
  pub hand_frees : (command : Plain) (stage : Stage) → IsAfter command stage n → (hands_in stage ≡ []) ⊎ (2 ≤ locked (map_locks f (command_of command)) n 164)
  hand_frees command Begun is = inl refl
  hand_frees command Chained is = inl refl
  hand_frees command (Looked found) is = inl refl
  hand_frees command (Listed found) is = inl refl
  hand_frees command (Taken found hand) is = inr (taken_frees command found hand is)
  hand_frees command (Changed hand) is = inr (changed_frees command hand is)
  hand_frees command (Wiping locked) is = inl refl
  hand_frees command Ending is = inl refl

  -- a wipe that wipes has it locked too
  wiping_frees : (command : Plain) → IsAfter command (Wiping Wipes.FreeList) n → 1 ≤ locked (map_locks f (command_of command)) n 164
  wiping_frees (Plains.Fetch key) is = elim is [ ]
  wiping_frees (Plains.Has key) is = elim is [ ]
  wiping_frees (Plains.Store key value flag) is = elim is [ ]
  wiping_frees (Plains.Append key value) is = elim is [ ]
  wiping_frees (Plains.Delete key) is = elim is [ ]
  wiping_frees Plains.Wipe is =
      let two : 2 ≤ locked (lock_free 1 2 ∷ []) n 164 = first_locked (lock_free 1 2) [] n 164 (omega (arith, is)) refl in
      le_trans (omega (arith, two)) (rest_locked (lock_all 0 2) (lock_free 1 2 ∷ []) n 164)

  pub stage_may : (command : Plain) (stage : Stage) (others : List HandPair) → IsAfter command stage n → (1 ≤ locked (map_locks f (command_of command)) n 164 → others ≡ []) → MayBeOut stage others
  stage_may command Begun others is none = tt
  stage_may command Chained others is none = tt
  stage_may command (Looked found) others is none = tt
  stage_may command (Listed found) others is none = tt
  stage_may command (Taken found hand) others is none = tt
  stage_may command (Changed hand) others is none = tt
  stage_may command (Wiping Wipes.Records) others is none = tt
  stage_may command (Wiping Wipes.FreeList) others is none = none (wiping_frees command is)
  stage_may command Ending others is none = tt

-- a command that isn't refused, outside a transaction
module _ (f : Form) (c : MapCommand) (x : Own) (granted : refusal f (OnMap c) x ≡ None) (free : is_none x.txn ≡ true) where
  pub held_is : (s : Spot) (n b : ℕ) → held f (OnMap c) x s n b ≡ locked (map_locks f c) n b
  unfolding held
  held_is s n b = ap (λ q. locked (locks_by f q (OnMap c) x s.purging) n b) granted ∙ ap (λ z. locked (if z then map_locks f c else []) n b) free

  pub look_is : look f (OnMap c) x ≡ 1
  look_is = ap (λ q. look_by q (OnMap c) x) granted ∙ ap (λ z. if z then 1 else 0) free

  pub reads_is : (k : List ℕ) → map_reads c k ≡ true → reads f (OnMap c) x k ≡ true
  reads_is k e = ap (λ q. reads_by q (OnMap c) x k) granted ∙ (ap (λ z. z && map_reads c k) free ∙ e)

  pub touches_is : (k : List ℕ) → map_touches c k ≡ true → touches f (OnMap c) x k ≡ true
  touches_is k e = ap (λ q. touches_by q (OnMap c) x k) granted ∙ (ap (λ z. z && map_touches c k) free ∙ e)
