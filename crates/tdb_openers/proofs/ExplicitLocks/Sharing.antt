-- While an opener that has nothing else holds all records, for reading or for writing, nobody else writes one, and no
-- command holds one.
use Rattle.std.proofs.Common.{◌≡◌, ◌≢◌, ℕ, ◌≤◌, ◌<◌, List, [], ◌∷◌, length, slice_get, true, Option, Some, None, is_none, refl, ◌∙◌, ap, subst, inl, inr, arith}
use Rattle.std.proofs.lemmas.Bool.{cases_eq, cases_lt}
use Rattle.tdb_space.specs.Form.{Form}
use Rattle.tdb_space.specs.Accepted.{AcceptWith}
use Rattle.tdb_locks.specs.declared.kind.Kind.{Kind}
use Rattle.tdb_locks.specs.declared.piece.Piece.{Piece}
use Rattle.tdb_law.specs.Openers.{Own, Spot}
use Rattle.tdb_law.specs.Refusals.{chain_byte}
use Rattle.tdb_law.specs.Rows.{Lock, lock_all, lock_chain, lock_free, map_locks, all_end}
use Rattle.tdb_law.specs.Held.{locked, all_held, held, task_held}
use Rattle.tdb_law.specs.World.{HasFewChains}
use Rattle.tdb_law.proofs.Locks.{all_covered, chain_covered, first_locked}
use Rattle.tdb_steps.specs.declared.flag.Flag.TheVariants as Flags
use Rattle.tdb_steps.specs.declared.plain.Plain.{Plain}
use Rattle.tdb_steps.specs.declared.plain.Plain.TheVariants as Plains
use Rattle.tdb_steps.specs.Machines.{Doing}
use Rattle.tdb_steps.specs.PlainCommands.{key_of, command_of}
use Rattle.tdb_openers.specs.Aside.{IsBare, OthersWriteNone, RecordsAreFree}
use Rattle.tdb_openers.specs.Calm.{WritesNoRecord}
use Rattle.tdb_openers.specs.Openers.{all_of, own_of, own_at, spot_by, spot_at, task_at, law_task, command_in, hands_at, hands_of_job, hands_of_task, JobStands, TaskStands, OpenerStands}
use Rattle.tdb_openers.specs.States.{WorldStands}
use Rattle.tdb_openers.specs.Turning.{law_table}
use Rattle.tdb_openers.specs.declared.job.Job.{Job}
use Rattle.tdb_openers.specs.declared.job.Job.TheVariants as Jobs
use Rattle.tdb_openers.specs.declared.job.Task.{Task}
use Rattle.tdb_openers.specs.declared.opener.Opener.{Opener}
use Rattle.tdb_commands.specs.declared.options.Options.{Options}
use Rattle.tdb_openers.proofs.Joining.AllHands.{joined_none}
use Rattle.tdb_openers.proofs.ExplicitLocks.Aside.{held_before, strong_some}
use Rattle.tdb_openers.proofs.ExplicitLocks.Beside.{all_here}
use Rattle.tdb_openers.proofs.PlainTurns.Busy.{held_is, hand_frees}
use Rattle.tdb_openers.proofs.Joining.Opening.{early, none_past}
use Rattle.tdb_openers.proofs.PlainTurns.PlainRows.{missed}

-- a command that has locked the free list for writing has locked the chain of its key so
module _ (f : Form) (few : HasFewChains f) (n : ℕ) where
  begun : (ls : List Lock) (b : ℕ) → 2 ≤ locked ls n b → 0 < n
  begun ls b two = elim (cases_eq n 0) [
    | inl none ↦ absurd (let bare = early ls n b none in omega (arith, two, bare))
    | inr some ↦ omega (arith, some)
  ]

  writes_chain : (key : List ℕ) (ls : List Lock) → 2 ≤ locked (lock_chain f 0 key 2 ∷ ls) n 164 → 2 ≤ locked (lock_chain f 0 key 2 ∷ ls) n (chain_byte f key)
  writes_chain key ls two = first_locked (lock_chain f 0 key 2) ls n (chain_byte f key) (begun (lock_chain f 0 key 2 ∷ ls) 164 two) (chain_covered f 0 key 2)

  only_reads : (key : List ℕ) → 2 ≤ locked (lock_chain f 0 key 1 ∷ []) n 164 → 2 ≤ locked (lock_chain f 0 key 1 ∷ []) n (chain_byte f key)
  only_reads key two = absurd (let bare = missed (lock_chain f 0 key 1 ∷ []) n 164 (inl (omega arith), tt) in omega (arith, two, bare))

  chain_too : (command : Plain) → 2 ≤ locked (map_locks f (command_of command)) n 164 → 2 ≤ locked (map_locks f (command_of command)) n (chain_byte f (key_of command))
  chain_too (Plains.Fetch key) two = only_reads key two
  chain_too (Plains.Has key) two = only_reads key two
  chain_too (Plains.Store key value Flags.Replace) two = writes_chain key (lock_free 2 2 ∷ []) two
  chain_too (Plains.Store key value Flags.Insert) two = writes_chain key (lock_free 2 2 ∷ []) two
  chain_too (Plains.Store key value Flags.Modify) two = writes_chain key (lock_free 2 2 ∷ []) two
  chain_too (Plains.Append key value) two = writes_chain key (lock_free 2 2 ∷ []) two
  chain_too (Plains.Delete key) two = writes_chain key (lock_free 2 2 ∷ []) two
  chain_too Plains.Wipe two = first_locked (lock_all 0 2) (lock_free 1 2 ∷ []) n (chain_byte f []) (begun (lock_all 0 2 ∷ lock_free 1 2 ∷ []) 164 two) (all_covered f few 0 [] 2)

-- so one that has locked no record for writing holds none
module _ (f : Form) (few : HasFewChains f) (x : Own) (out : is_none x.txn ≡ true) (s : Spot) (n size : ℕ) where
  plain_hands : (d : Doing) → JobStands f x (Jobs.Plain d) n size → ((b : ℕ) → 168 ≤ b → held f (command_in (Jobs.Plain d)) x s n b ≤ 1) → hands_of_job (Jobs.Plain d) ≡ []
  plain_hands d K most = elim (hand_frees f n d.command d.stage K.after) [
    | inl none ↦ none
    | inr frees ↦ absurd (let byte = chain_byte f (key_of d.command) in
        let two = chain_too f few n d.command frees in
        let is = held_is f (command_of d.command) x K.granted out s n byte in
        let one = most byte (omega arith) in
        omega (arith, two, is, one))
  ]

  job_hands : (job : Job) → JobStands f x job n size → ((b : ℕ) → 168 ≤ b → held f (command_in job) x s n b ≤ 1) → hands_of_job job ≡ []
  job_hands (Jobs.Refused command reply) K most = refl
  job_hands (Jobs.Plain d) K most = plain_hands d K most
  job_hands (Jobs.Check checking) K most = refl
  job_hands (Jobs.Locking locking) K most = refl
  job_hands Jobs.Seqnum K most = refl
  job_hands (Jobs.Walk walking) K most = refl

module _ (f : Form) (few : HasFewChains f) (options : Options) (size : ℕ) where
  task_hands : (x : Opener) (task : Option Task) → TaskStands f (own_of options x) task size → ((b : ℕ) → 168 ≤ b → task_held f (own_of options x) (spot_by x.walk.cursor) (law_task task) b ≤ 1) → hands_of_task task ≡ []
  task_hands x None K most = refl
  task_hands x (Some t) K most = job_hands f few (own_of options x) refl (spot_by x.walk.cursor) t.steps size t.job K most

  opener_hands : (z : Option Opener) → OpenerStands f options size z → ((b : ℕ) → 168 ≤ b → task_held f (own_at options z) (spot_at z) (task_at z) b ≤ 1) → hands_at z ≡ []
  opener_hands None K most = refl
  opener_hands (Some x) K most = task_hands x x.task K.1 most

module _ (f : Form) (options : Options) (xs : List Opener) (ps : List Piece) (a : List ℕ) (size who count : ℕ) (kind : Kind) (x : Opener) (W : WorldStands f options xs ps a size) (there : slice_get xs who ≡ Some x) (B : IsBare x)
    (all : x.held.all ≡ Some (kind, count)) where
  mine : (b : ℕ) → 168 ≤ b → b < all_end → 1 ≤ law_table ps who b
  mine b from to =
      let here = held_before f options xs ps a size who x W there B b ∙ (ap (λ z. all_held (all_of z) b) all ∙ all_here kind count b from to) in
      let some = strong_some kind in
      omega (arith, here, some.0)

  others_write : (o : ℕ) → o ≢ who → WritesNoRecord ps o
  others_write o ne b from = elim (cases_lt b all_end) [
    | inl to ↦ (let room = W.sound.apart o who b ne in let one = mine b from to in omega (arith, room, one))
    | inr past ↦ none_past f options xs ps a size W o b past
  ]

  hands : (o : ℕ) → hands_at (slice_get xs o) ≡ []
  hands o = elim (cases_eq o who) [
    | inl is ↦ ap (λ p. hands_at (slice_get xs p)) is ∙ (ap hands_at there ∙ ap hands_of_task B.idle)
    | inr ne ↦ opener_hands f W.sound.chains options size (slice_get xs o) (W.openers_stand o) (λ b from. (let whole = W.sound.agrees o b in let one = others_write o ne b from in omega (arith, whole, one)))
  ]

pub others_write_none : OthersWriteNone
others_write_none f options xs ps a size who count kind x W there B all o ne = others_write f options xs ps a size who count kind x W there B all o ne

pub records_are_free : RecordsAreFree
records_are_free f options xs ps a size who count kind x W there B all F =
    subst (AcceptWith f a) (joined_none (length xs) (λ o. hands_at (slice_get xs o)) (hands f options xs ps a size who count kind x W there B all)) F.accepted
