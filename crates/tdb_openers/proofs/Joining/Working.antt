-- An opener at work in a world that stands: what it has locked, which records may be out beside it, and what its
-- command relies on.
use Rattle.std.proofs.Common.{◌≡◌, ◌≢◌, ℕ, ◌+◌, ◌++◌, ◌∷◌, ◌≤◌, max, List, [], length, slice_get, true, Option, Some, None, is_none, refl, ◌∙◌, ap, subst, inl, inr, ◌⊎◌, arith}
use Rattle.std.proofs.lemmas.Bool.{cases_eq, eq-eqb, ne_eqb}
use Rattle.std.proofs.lemmas.Option.{slice_get_within}
use Rattle.tdb_space.specs.Form.{Form}
use Rattle.tdb_space.specs.Extents.{HandPair}
use Rattle.tdb_space.specs.Accepted.{AcceptWith}
use Rattle.tdb_locks.specs.declared.piece.Piece.{Piece}
use Rattle.tdb_law.specs.Commands.{MapCommand}
use Rattle.tdb_law.specs.Commands.Command.{OnMap}
use Rattle.tdb_law.specs.MapCommands.{map_reads}
use Rattle.tdb_law.specs.Openers.{Own, Spot}
use Rattle.tdb_law.specs.Refusals.{chain_byte}
use Rattle.tdb_law.specs.Rows.{lock_all, lock_free}
use Rattle.tdb_law.specs.Held.{locked, held, kept}
use Rattle.tdb_law.proofs.Covered.{read_held, touched_held}
use Rattle.tdb_law.proofs.Locks.{first_locked, rest_locked}
use Rattle.tdb_steps.specs.Holdings.{table_of}
use Rattle.tdb_steps.specs.Machines.{Doing}
use Rattle.tdb_steps.specs.PlainCommands.{key_of, command_of}
use Rattle.tdb_commands.specs.declared.options.Options.{Options}
use Rattle.tdb_openers.specs.declared.opener.Opener.{Opener}
use Rattle.tdb_openers.specs.declared.job.Job.{Job}
use Rattle.tdb_openers.specs.declared.job.Job.TheVariants as Jobs
use Rattle.tdb_openers.specs.declared.job.Checking.TheVariants as Checks
use Rattle.tdb_openers.specs.declared.job.Task.{Task}
use Rattle.tdb_openers.specs.Openers.{own_of, spot_by, command_in, hands_of_job, hands_of_task, hands_at, JobStands, TaskStands, OpenerStands, TaskKnows, OpenerKnows}
use Rattle.tdb_openers.specs.States.{WorldStands}
use Rattle.tdb_openers.specs.Turning.{JobMayBeOut}
use Rattle.tdb_openers.specs.Laws.{HasTask, hands_but, other_hands, ImageIsReady}
use Rattle.tdb_openers.proofs.PlainTurns.Standing.{opener_is_ready}
use Rattle.tdb_openers.proofs.Joining.AllHands.{joined_none, to_front}
use Rattle.tdb_openers.proofs.PlainTurns.Busy.{Writes, hand_frees, stage_may, held_is, look_is, reads_is, touches_is}

-- the opener o has had n steps of a job, and holds what these have locked and what it keeps
pub record Works (f : Form) (ps : List Piece) (size o : ℕ) (x : Own) (s : Spot) (job : Job) (n : ℕ) : Type 0 where
  pub holds : (b : ℕ) → table_of ps (o + 1) b ≡ max (held f (command_in job) x s n b) (kept f x s b)
  pub stands : JobStands f x job n size
  pub free : is_none x.txn ≡ true

module _ (f : Form) (options : Options) (xs : List Opener) (ps : List Piece) (a : List ℕ) (size : ℕ) (W : WorldStands f options xs ps a size) where
  pub works : (o : ℕ) (x : Opener) (t : Task) → HasTask xs o x t → Works f ps size o (own_of options x) (spot_by x.walk.cursor) t.job t.steps
  works o x t B = record {
    holds = (opener_is_ready f options xs ps a size o x t W B).holds;
    stands = subst (λ z. TaskStands f (own_of options x) z size) B.busy (subst (OpenerStands f options size) B.there (W.openers_stand o)).1;
    free = refl;
  }

  -- a command on the map holds the chains that it reads and those of the keys that it touches
  pub plain_writes : (o : ℕ) (x : Own) (s : Spot) (d : Doing) (n : ℕ) → Works f ps size o x s (Jobs.Plain d) n → Writes d.command n → 2 ≤ table_of ps (o + 1) (chain_byte f (key_of d.command))
  plain_writes o x s d n K writes =
      let c = command_of d.command in
      let before = look_is f c x K.stands.granted K.free in
      let start = writes.begun in
      let two = touched_held f W.sound.chains (OnMap c) x s n (key_of d.command) (touches_is f c x K.stands.granted K.free (key_of d.command) writes.touches_key) (omega (arith, before, start)) in
      omega (arith, two, K.holds (chain_byte f (key_of d.command)))

  pub plain_reads : (o : ℕ) (x : Own) (s : Spot) (d : Doing) (n : ℕ) → Works f ps size o x s (Jobs.Plain d) n → 1 ≤ n → (k : List ℕ) → map_reads (command_of d.command) k ≡ true → 1 ≤ table_of ps (o + 1) (chain_byte f k)
  plain_reads o x s d n K start k e =
      let c = command_of d.command in
      let before = look_is f c x K.stands.granted K.free in
      let one = read_held f W.sound.chains (OnMap c) x s n k (reads_is f c x K.stands.granted K.free k e) (omega (arith, before, start)) in
      omega (arith, one, K.holds (chain_byte f k))

  -- a check that has counted reads every chain
  pub check_reads : (o : ℕ) (x : Own) (s : Spot) (keys n : ℕ) → Works f ps size o x s (Jobs.Check (Checks.Counted keys)) n → (k : List ℕ) → 1 ≤ table_of ps (o + 1) (chain_byte f k)
  check_reads o x s keys n K k =
      let before = look_is f MapCommand.Check x K.stands.0 K.free in
      let late = K.stands.1 in
      let one = read_held f W.sound.chains (OnMap MapCommand.Check) x s n k (reads_is f MapCommand.Check x K.stands.0 K.free k refl) (omega (arith, before, late)) in
      omega (arith, one, K.holds (chain_byte f k))

  -- who holds a record has the free list locked for writing
  frees : (o : ℕ) (x : Own) (s : Spot) (job : Job) (n : ℕ) → Works f ps size o x s job n → (hands_of_job job ≡ []) ⊎ (2 ≤ table_of ps (o + 1) 164)
  frees o x s (Jobs.Refused command reply) n K = inl refl
  frees o x s (Jobs.Plain d) n K =
      elim (hand_frees f n d.command d.stage K.stands.after) [
        | inl none ↦ inl none
        | inr two ↦ inr (let is = held_is f (command_of d.command) x K.stands.granted K.free s n 164 in omega (arith, two, is, K.holds 164))
      ]
  frees o x s (Jobs.Check checking) n K = inl refl
  frees o x s (Jobs.Locking locking) n K = inl refl
  frees o x s Jobs.Seqnum n K = inl refl
  frees o x s (Jobs.Walk walking) n K = inl refl

  -- no record is out beside a wipe or a check that has the free list locked, where nobody else has it locked for
  -- writing
  may : (o : ℕ) (x : Own) (s : Spot) (job : Job) (n : ℕ) → Works f ps size o x s job n → (others : List HandPair) → (1 ≤ table_of ps (o + 1) 164 → others ≡ []) → JobMayBeOut job others
  may o x s (Jobs.Refused command reply) n K others none = tt
  may o x s (Jobs.Plain d) n K others none =
      stage_may f n d.command d.stage others K.stands.after (λ one. none (let is = held_is f (command_of d.command) x K.stands.granted K.free s n 164 in omega (arith, one, is, K.holds 164)))
  may o x s (Jobs.Check Checks.Begun) n K others none = tt
  may o x s (Jobs.Check Checks.Records) n K others none = tt
  may o x s (Jobs.Check Checks.FreeList) n K others none =
      none
      (let late = K.stands.1 in
      let one : 1 ≤ locked (lock_free 1 1 ∷ []) n 164 = first_locked (lock_free 1 1) [] n 164 (omega (arith, late)) refl in
      let both = rest_locked (lock_all 0 1) (lock_free 1 1 ∷ []) n 164 in
      let is = held_is f MapCommand.Check x K.stands.0 K.free s n 164 in
      omega (arith, one, both, is, K.holds 164))
  may o x s (Jobs.Check (Checks.Counted keys)) n K others none = tt
  may o x s (Jobs.Locking locking) n K others none = tt
  may o x s Jobs.Seqnum n K others none = tt
  may o x s (Jobs.Walk walking) n K others none = tt

  -- who else holds a record, while one has the free list locked
  module _ (who : ℕ) (mine : 1 ≤ table_of ps (who + 1) 164) where
    task_bare : (o : ℕ) → o ≢ who → (x : Opener) → slice_get xs o ≡ Some x → (u : Option Task) → x.task ≡ u → hands_of_task u ≡ []
    task_bare o ne x there None busy = refl
    task_bare o ne x there (Some t) busy =
        elim (frees o (own_of options x) (spot_by x.walk.cursor) t.job t.steps (works o x t (record { there = there; busy = busy }))) [
          | inl none ↦ none
          | inr two ↦ absurd (let room = W.sound.apart o who 164 ne in omega (arith, room, two, mine))
        ]

    bare : (o : ℕ) → o ≢ who → (z : Option Opener) → slice_get xs o ≡ z → hands_at z ≡ []
    bare o ne None there = refl
    bare o ne (Some x) there = task_bare o ne x there x.task refl

  nobody_out : (who : ℕ) → 1 ≤ table_of ps (who + 1) 164 → other_hands xs who ≡ []
  nobody_out who mine = joined_none (length xs) (hands_but xs who) (λ o. elim (cases_eq o who) [
    | inl is ↦ rw (eq-eqb o who is) refl
    | inr ne ↦ rw (ne_eqb o who ne) (bare who mine o ne (slice_get xs o) refl)
  ])

-- the hands of all but one
pub but_here : (xs : List Opener) (who : ℕ) → hands_but xs who who ≡ []
but_here xs who = rw (eq-eqb who who refl) refl

pub but_else : (xs : List Opener) (who o : ℕ) → o ≢ who → hands_but xs who o ≡ hands_at (slice_get xs o)
but_else xs who o ne = rw (ne_eqb o who ne) refl

pub image_is_ready : ImageIsReady
image_is_ready f options xs ps a size who x t W F B = record {
  may_be_out = may f options xs ps a size W who (own_of options x) (spot_by x.walk.cursor) t.job t.steps (works f options xs ps a size W who x t B) (other_hands xs who) (nobody_out f options xs ps a size W who);
  accepted = subst (λ l. AcceptWith f a (l ++ other_hands xs who)) (ap hands_at B.there ∙ ap hands_of_task B.busy)
      (to_front who (λ o. hands_at (slice_get xs o)) (hands_but xs who) (but_here xs who) (but_else xs who) f a (length xs) (slice_get_within xs who x B.there) F.accepted);
  knows = subst (TaskKnows f a) B.busy (subst (OpenerKnows f a) B.there (F.known who));
}
