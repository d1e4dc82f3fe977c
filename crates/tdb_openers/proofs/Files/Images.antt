-- Another image of the file: the world stands over it, and so do its bytes where nobody has locked a record.
use Rattle.std.proofs.Common.{◌≡◌, ◌≢◌, ℕ, ◌<◌, ◌≤◌, List, [], ◌∷◌, length, slice_get, Bool, true, Option, Some, None, is_none, refl, sym, ◌∙◌, ap, subst, inl, inr, arith, le_refl}
use Rattle.std.proofs.lemmas.Bool.{cases_eq}
use Rattle.tdb_space.specs.Form.{Form}
use Rattle.tdb_space.specs.Accepted.{AcceptWith}
use Rattle.tdb_locks.specs.declared.kind.Kind.TheVariants.{Write}
use Rattle.tdb_locks.specs.declared.piece.Piece.{Piece}
use Rattle.tdb_law.specs.Commands.{MapCommand}
use Rattle.tdb_law.specs.Commands.Command.{OnMap}
use Rattle.tdb_law.specs.Openers.{Own, Spot}
use Rattle.tdb_law.specs.Refusals.{chain_byte, refusal}
use Rattle.tdb_law.specs.Rows.{lock_all, lock_chain, lock_free, map_locks, all_end}
use Rattle.tdb_law.specs.Held.{covers, held, locked, all_held, task_held}
use Rattle.tdb_law.specs.World.{HasFewChains}
use Rattle.tdb_law.proofs.Locks.{all_covered, chain_covered, chain_place, covers_within, first_locked}
use Rattle.tdb_steps.specs.declared.flag.Flag.{Flag}
use Rattle.tdb_steps.specs.declared.flag.Flag.TheVariants as Flags
use Rattle.tdb_steps.specs.declared.plain.Plain.{Plain}
use Rattle.tdb_steps.specs.declared.plain.Plain.TheVariants as Plains
use Rattle.tdb_steps.specs.PlainCommands.{key_of, store_of, command_of}
use Rattle.tdb_steps.specs.Machines.{Doing}
use Rattle.tdb_walk.specs.declared.standing.Standing.{Standing}
use Rattle.tdb_walk.specs.declared.standing.Standing.TheVariants.{Before, On, Past}
use Rattle.tdb_walk.specs.declared.stage.Stage.{Stage}
use Rattle.tdb_walk.specs.Cursors.{IsPlaced, Knows, spot_of}
use Rattle.tdb_openers.specs.Aside.{IsBare, LocksNoRecord, ImageKeepsWorld, ImageKeepsFile, LockKeepsFile}
use Rattle.tdb_openers.specs.Cursors.{is_stood, CursorKnows, OpenerSpares, TaskSpares, JobSpares, StandApart, cursor_at}
use Rattle.tdb_openers.specs.Openers.{all_of, own_of, own_at, spot_by, spot_at, spots_of, task_at, law_task, walk_of, steps_of, command_in, hands_at, hands_of_job, hands_of_task, JobStands, JobKnows, TaskStands, TaskKnows, OpenerStands, OpenerKnows}
use Rattle.tdb_openers.specs.States.{state_of, WorldStands}
use Rattle.tdb_openers.specs.Turning.{law_table}
use Rattle.tdb_openers.specs.declared.job.Checking.{Checking}
use Rattle.tdb_openers.specs.declared.job.Job.{Job}
use Rattle.tdb_openers.specs.declared.job.Job.TheVariants as Jobs
use Rattle.tdb_openers.specs.declared.job.Task.{Task}
use Rattle.tdb_openers.specs.declared.opener.Opener.{Opener}
use Rattle.tdb_commands.specs.declared.options.Options.{Options}
use Rattle.tdb_openers.proofs.Joining.AllHands.{joined_none}
use Rattle.tdb_openers.proofs.ExplicitLocks.Aside.{held_before, rests}
use Rattle.tdb_openers.proofs.Joining.Begun.{bare_hands, bare_knows, bare_spares}
use Rattle.tdb_openers.proofs.PlainTurns.Busy.{held_is}
use Rattle.tdb_openers.proofs.Walks.Rests.{rests_past, walk_well}
use Rattle.tdb_openers.proofs.Joining.Single.{opener_longer}
use Rattle.tdb_openers.proofs.PlainTurns.Standing.{walk_there}
use Rattle.tdb_openers.proofs.Joining.Stood.{stands_held}

pub image_keeps_world : ImageKeepsWorld
image_keeps_world f options xs ps a b size longer W more less = record {
  sound = record {
    chains = W.sound.chains;
    agrees = W.sound.agrees;
    apart = W.sound.apart;
    stands = W.sound.stands;
    busy_there = W.sound.busy_there;
    live_joined = W.sound.live_joined;
    stale = λ e. absurd (cc e);
  };
  few = W.few;
  numbered = W.numbered;
  openers_stand = λ o. opener_longer size longer more f options (slice_get xs o) (W.openers_stand o);
  limit = W.limit;
  short = less;
}

-- a command on the map has the chain of its key locked once it has had a step
module _ (f : Form) (few : HasFewChains f) (n : ℕ) (begun : 1 ≤ n) where
  chain_taken : (key : List ℕ) (s : ℕ) → 1 ≤ s → 1 ≤ locked (lock_chain f 0 key s ∷ []) n (chain_byte f key)
  chain_taken key s some = let first = first_locked (lock_chain f 0 key s) [] n (chain_byte f key) begun (chain_covered f 0 key s) in omega (arith, first, some)

  two_taken : (key : List ℕ) → 1 ≤ locked (lock_chain f 0 key 2 ∷ lock_free 2 2 ∷ []) n (chain_byte f key)
  two_taken key = let first = first_locked (lock_chain f 0 key 2) (lock_free 2 2 ∷ []) n (chain_byte f key) begun (chain_covered f 0 key 2) in omega (arith, first)

  store_taken : (flag : Flag) (key value : List ℕ) → 1 ≤ locked (map_locks f (store_of flag key value)) n (chain_byte f key)
  store_taken Flags.Replace key value = two_taken key
  store_taken Flags.Insert key value = two_taken key
  store_taken Flags.Modify key value = two_taken key

  plain_taken : (command : Plain) → 1 ≤ locked (map_locks f (command_of command)) n (chain_byte f (key_of command))
  plain_taken (Plains.Fetch key) = chain_taken key 1 (le_refl 1)
  plain_taken (Plains.Has key) = chain_taken key 1 (le_refl 1)
  plain_taken (Plains.Store key value flag) = store_taken flag key value
  plain_taken (Plains.Append key value) = two_taken key
  plain_taken (Plains.Delete key) = two_taken key
  plain_taken Plains.Wipe = let first = first_locked (lock_all 0 2) (lock_free 1 2 ∷ []) n (chain_byte f []) begun (all_covered f few 0 [] 2) in omega (arith, first)

  check_taken : 1 ≤ locked (map_locks f MapCommand.Check) n (chain_byte f [])
  check_taken = first_locked (lock_all 0 1) (lock_free 1 1 ∷ []) n (chain_byte f []) begun (all_covered f few 0 [] 1)

-- so one that has locked no record has had no step, where it isn't on a cursor
module _ (f : Form) (few : HasFewChains f) (x : Own) (out : is_none x.txn ≡ true) (s : Spot) (n size : ℕ) where
  abbrev LocksNone : Job → Type 0
  LocksNone job = (b : ℕ) → 168 ≤ b → b < all_end → held f (command_in job) x s n b ≡ 0

  none_begun : (c : MapCommand) (k : List ℕ) → refusal f (OnMap c) x ≡ None → (1 ≤ n → 1 ≤ locked (map_locks f c) n (chain_byte f k)) → ((b : ℕ) → 168 ≤ b → b < all_end → held f (OnMap c) x s n b ≡ 0) → n ≡ 0
  none_begun c k granted taken none = elim (cases_eq n 0) [
    | inl zero_steps ↦ zero_steps
    | inr some ↦ absurd (let place = chain_place f few k in
        let one = taken (omega (arith, some)) in
        let is = held_is f c x granted out s n (chain_byte f k) in
        let bare = none (chain_byte f k) place.above (omega (arith, place.below, place.far)) in
        omega (arith, one, is, bare))
  ]

  plain_begun : (d : Doing) → JobStands f x (Jobs.Plain d) n size → LocksNone (Jobs.Plain d) → n ≡ 0
  plain_begun d K none = none_begun (command_of d.command) (key_of d.command) K.granted (λ begun. plain_taken f few n begun d.command) none

  check_begun : (checking : Checking) → JobStands f x (Jobs.Check checking) n size → LocksNone (Jobs.Check checking) → n ≡ 0
  check_begun checking K none = none_begun MapCommand.Check [] K.0 (λ begun. check_taken f few n begun) none

  unlocked_hands : (job : Job) → JobStands f x job n size → LocksNone job → hands_of_job job ≡ []
  unlocked_hands (Jobs.Refused command reply) K none = refl
  unlocked_hands (Jobs.Plain d) K none = bare_hands f x size (Jobs.Plain d) (subst (λ m. JobStands f x (Jobs.Plain d) m size) (plain_begun d K none) K)
  unlocked_hands (Jobs.Check checking) K none = refl
  unlocked_hands (Jobs.Locking locking) K none = refl
  unlocked_hands Jobs.Seqnum K none = refl
  unlocked_hands (Jobs.Walk walking) K none = refl

  unlocked_knows : (img : List ℕ) (job : Job) → JobStands f x job n size → LocksNone job → JobKnows f img job
  unlocked_knows img (Jobs.Refused command reply) K none = tt
  unlocked_knows img (Jobs.Plain d) K none = bare_knows f x size img (Jobs.Plain d) (subst (λ m. JobStands f x (Jobs.Plain d) m size) (plain_begun d K none) K)
  unlocked_knows img (Jobs.Check checking) K none = bare_knows f x size img (Jobs.Check checking) (subst (λ m. JobStands f x (Jobs.Check checking) m size) (check_begun checking K none) K)
  unlocked_knows img (Jobs.Locking locking) K none = tt
  unlocked_knows img Jobs.Seqnum K none = tt
  unlocked_knows img (Jobs.Walk walking) K none = tt

  unlocked_spares : (stands : ℕ → Bool) (job : Job) → JobStands f x job n size → LocksNone job → JobSpares stands job
  unlocked_spares stands (Jobs.Refused command reply) K none = tt
  unlocked_spares stands (Jobs.Plain d) K none = bare_spares f x size (Jobs.Plain d) stands (subst (λ m. JobStands f x (Jobs.Plain d) m size) (plain_begun d K none) K)
  unlocked_spares stands (Jobs.Check checking) K none = tt
  unlocked_spares stands (Jobs.Locking locking) K none = tt
  unlocked_spares stands Jobs.Seqnum K none = tt
  unlocked_spares stands (Jobs.Walk walking) K none = tt

-- a cursor that stands on no record knows nothing
off_knows : (f : Form) (img : List ℕ) (place : Standing) (stage : Stage) → spot_of place ≡ None → Knows f img place stage
off_knows f img (On chain off) stage none = absurd (cc none)
off_knows f img (Before chain) stage none = tt
off_knows f img Past stage none = tt

module _ (f : Form) (few : HasFewChains f) (options : Options) (size : ℕ) where
  -- what an opener has locked, at its place
  abbrev Locks : Option Opener → Type 0
  Locks z = (b : ℕ) → 168 ≤ b → b < all_end → task_held f (own_at options z) (spot_at z) (task_at z) b ≡ 0

  task_hands : (x : Opener) (task : Option Task) → TaskStands f (own_of options x) task size → ((b : ℕ) → 168 ≤ b → b < all_end → task_held f (own_of options x) (spot_by x.walk.cursor) (law_task task) b ≡ 0) → hands_of_task task ≡ []
  task_hands x None K none = refl
  task_hands x (Some t) K none = unlocked_hands f few (own_of options x) refl (spot_by x.walk.cursor) t.steps size t.job K none

  task_knows : (img : List ℕ) (x : Opener) (task : Option Task) → TaskStands f (own_of options x) task size → ((b : ℕ) → 168 ≤ b → b < all_end → task_held f (own_of options x) (spot_by x.walk.cursor) (law_task task) b ≡ 0) → TaskKnows f img task
  task_knows img x None K none = tt
  task_knows img x (Some t) K none = unlocked_knows f few (own_of options x) refl (spot_by x.walk.cursor) t.steps size img t.job K none

  task_spares : (stands : ℕ → Bool) (x : Opener) (task : Option Task) → TaskStands f (own_of options x) task size → ((b : ℕ) → 168 ≤ b → b < all_end → task_held f (own_of options x) (spot_by x.walk.cursor) (law_task task) b ≡ 0) → TaskSpares stands task
  task_spares stands x None K none = tt
  task_spares stands x (Some t) K none = unlocked_spares f few (own_of options x) refl (spot_by x.walk.cursor) t.steps size stands t.job K none

  opener_hands : (z : Option Opener) → OpenerStands f options size z → Locks z → hands_at z ≡ []
  opener_hands None K none = refl
  opener_hands (Some x) K none = task_hands x x.task K.1 none

  opener_knows : (img : List ℕ) (z : Option Opener) → OpenerStands f options size z → Locks z → OpenerKnows f img z
  opener_knows img None K none = tt
  opener_knows img (Some x) K none = task_knows img x x.task K.1 none

  opener_spares : (stands : ℕ → Bool) (z : Option Opener) → OpenerStands f options size z → Locks z → OpenerSpares stands z
  opener_spares stands None K none = tt
  opener_spares stands (Some x) K none = task_spares stands x x.task K.1 none

cursor_off : (f : Form) (img : List ℕ) (z : Option Opener) → (spot_at z).stands ≡ None → CursorKnows f img z
cursor_off f img None none = tt
cursor_off f img (Some x) none = off_knows f img x.walk.cursor.place x.walk.cursor.stage none

apart_off : (z w : Option Opener) → (spot_at z).stands ≡ None → StandApart (cursor_at z) (cursor_at w)
apart_off None w none = tt
apart_off (Some x) None none = tt
apart_off (Some x) (Some y) none = λ due off on also. absurd (let bad = sym none ∙ on in cc bad)

pub image_keeps_file : ImageKeepsFile
image_keeps_file f options xs ps a b size W L A = record {
  accepted = subst (AcceptWith f b) (sym (joined_none (length xs) (λ o. hands_at (slice_get xs o)) (λ o. opener_hands f W.sound.chains options size (slice_get xs o) (W.openers_stand o) (L o).command))) A;
  known = λ o. opener_knows f W.sound.chains options size b (slice_get xs o) (W.openers_stand o) (L o).command;
  cursors = λ o. cursor_off f b (slice_get xs o) (L o).cursor;
  spared = λ o. opener_spares f W.sound.chains options size (is_stood (spots_of xs)) (slice_get xs o) (W.openers_stand o) (L o).command;
  alone = λ o p ne. apart_off (slice_get xs o) (slice_get xs p) (L o).cursor;
}

-- while one holds all records for writing, the others have locked none
module _ (f : Form) (options : Options) (xs : List Opener) (ps : List Piece) (a : List ℕ) (size who count : ℕ) (x : Opener) (W : WorldStands f options xs ps a size) (there : slice_get xs who ≡ Some x) (B : IsBare x) (all : x.held.all ≡ Some (Write, count)) where
  mine : (b : ℕ) → 168 ≤ b → b < all_end → 2 ≤ law_table ps who b
  mine b from to =
      let here = held_before f options xs ps a size who x W there B b ∙ ap (λ z. all_held (all_of z) b) all in
      let over : covers (lock_all 0 2) b ≡ true = covers_within (lock_all 0 2) b from to in
      let two = first_locked (lock_all 0 2) [] 1 b (le_refl 1) over in
      omega (arith, here, two)

  theirs : (o b : ℕ) → o ≢ who → 168 ≤ b → b < all_end → law_table ps o b ≡ 0
  theirs o b ne from to = let room = W.sound.apart o who b ne in let two = mine b from to in omega (arith, room, two)

  their_command : (o b : ℕ) → o ≢ who → 168 ≤ b → b < all_end → task_held f (own_at options (slice_get xs o)) (spot_at (slice_get xs o)) (task_at (slice_get xs o)) b ≡ 0
  their_command o b ne from to = let whole = W.sound.agrees o b in let none = theirs o b ne from to in omega (arith, whole, none)

  their_place : (o : ℕ) (z : Opener) → o ≢ who → slice_get xs o ≡ Some z → (place : Standing) → z.walk.cursor.place ≡ place → spot_of place ≡ None
  their_place o z ne at (On chain off) on =
      let S = walk_there f options xs ps a size o z W at in
      let above = (walk_well f z.held (own_of options z) (walk_of z.task) (steps_of z.task) z.walk.cursor S off (ap spot_of on)).above in
      let below = (subst IsPlaced on S.placed).1 in
      let one = stands_held f options xs ps a size W o z chain off at on in
      let none = theirs o off ne (omega (arith, above)) (omega (arith, below)) in
      absurd (omega (arith, one, none))
  their_place o z ne at (Before chain) on = refl
  their_place o z ne at Past on = refl

  their_cursor : (o : ℕ) (z : Option Opener) → o ≢ who → slice_get xs o ≡ z → (spot_at z).stands ≡ None
  their_cursor o None ne at = refl
  their_cursor o (Some z) ne at = their_place o z ne at z.walk.cursor.place refl

  -- and it has none itself
  its_own : LocksNoRecord f (state_of f options xs ps a) who
  its_own = record {
    command = λ b from to. ap (λ z. task_held f (own_at options z) (spot_at z) (task_at z) b) there ∙ ap (λ t. task_held f (own_of options x) (spot_by x.walk.cursor) (law_task t) b) B.idle;
    cursor = ap (λ z. (spot_at z).stands) there ∙ ap spot_of (rests_past f x.walk.shown x.walk.cursor.place x.walk.cursor.stage (rests f options xs ps a size who x W there B) B.no_cursor);
  }

  pub locks_none : (o : ℕ) → LocksNoRecord f (state_of f options xs ps a) o
  locks_none o = elim (cases_eq o who) [
    | inl is ↦ subst (LocksNoRecord f (state_of f options xs ps a)) (sym is) its_own
    | inr ne ↦ record { command = λ b from to. their_command o b ne from to; cursor = their_cursor o (slice_get xs o) ne refl }
  ]

pub lock_keeps_file : LockKeepsFile
lock_keeps_file f options xs ps a b size who count x W there B all A = image_keeps_file f options xs ps a b size W (locks_none f options xs ps a size who count x W there B all) A
