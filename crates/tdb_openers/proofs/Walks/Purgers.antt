-- A cursor that is going to purge its record has the record's chain locked for writing, and the record stays dead while
-- that chain stays.
use Rattle.std.proofs.Common.{◌≡◌, ℕ, ◌+◌, ◌*◌, ◌<◌, ◌≤◌, Bool, false, List, length, slice_get, true, Option, Some, None, refl, sym, ◌∙◌, ap, subst, inl, inr, arith}
use Rattle.std.proofs.lemmas.Bool.{cases_eq}
use Rattle.tdb_space.specs.Form.{Form}
use Rattle.tdb_space.specs.Record.{magic_of, rec_len_of}
use Rattle.tdb_space.specs.Chain.{Member, chain_of, free_of}
use Rattle.tdb_space.specs.Pairs.{home}
use Rattle.tdb_space.specs.Extents.{HandPair, extents, extent_at}
use Rattle.tdb_space.specs.Accepted.{AcceptWith}
use Rattle.tdb_space.specs.Stays.{ChainStays}
use Rattle.tdb_space.proofs.Exchange.Kept.{word_kept}
use Rattle.tdb_space.proofs.Chain.Members.{member_held}
use Rattle.tdb_space.proofs.Extents.Counts.{once_in, times_all, times_two}
use Rattle.tdb_locks.specs.HeldLocks.{HeldLocks}
use Rattle.tdb_locks.specs.declared.piece.Piece.{Piece}
use Rattle.tdb_law.specs.Commands.{WalkCommand}
use Rattle.tdb_law.specs.Commands.Command.{OnWalk}
use Rattle.tdb_law.specs.Openers.{Own}
use Rattle.tdb_law.specs.Held.{holding}
use Rattle.tdb_law.specs.Refusals.{chain_byte}
use Rattle.tdb_steps.specs.Holdings.{table_of}
use Rattle.tdb_walk.specs.declared.standing.Standing.TheVariants.{On}
use Rattle.tdb_walk.specs.declared.stage.Stage.{Stage}
use Rattle.tdb_walk.specs.declared.stage.Stage.TheVariants.{Rested, Reading, Writing, Freeing}
use Rattle.tdb_walk.specs.Purging.{IsDeadIn}
use Rattle.tdb_walk.specs.Cursors.{At}
use Rattle.tdb_walk.specs.InLaw.{IsShown, StandsAfter, is_purging, spot_in}
use Rattle.tdb_walk.proofs.Rows.{never}
use Rattle.tdb_walk.proofs.Apart.{purger_holds}
use Rattle.tdb_commands.specs.declared.options.Options.{Options}
use Rattle.tdb_openers.specs.declared.opener.Opener.{Opener}
use Rattle.tdb_openers.specs.declared.job.Job.{Job}
use Rattle.tdb_openers.specs.declared.job.Job.TheVariants as Jobs
use Rattle.tdb_openers.specs.declared.job.Task.{Task}
use Rattle.tdb_openers.specs.Openers.{own_of, own_at, command_in, spot_at, spot_by, task_at, law_task, walk_command, walk_in, walk_of, steps_of, WalkAfter}
use Rattle.tdb_openers.specs.States.{WorldStands}
use Rattle.tdb_openers.proofs.PlainTurns.Standing.{walk_there}

-- no record is in two chains
pub one_chain : (f : Form) (a : List ℕ) (hands : List HandPair) (j k off : ℕ) → AcceptWith f a hands → j < f.chains → k < f.chains → Member off (chain_of f a j) → Member off (chain_of f a k) → j ≡ k
one_chain f a hands j k off A low_j low_k m n =
    elim (cases_eq j k) [
      | inl e ↦ e
      | inr ne ↦ absurd (let here = once_in (extent_at f.order a off) off (omega arith) (omega arith) in
          let both = times_two (λ l. extents f.order a (chain_of f a l)) j k off f.chains low_j low_k ne in
          omega (arith, here, both, member_held f.order a (chain_of f a j) off off m, member_held f.order a (chain_of f a k) off off n, times_all f a (chain_of f a) (free_of f a) hands off, A.apart off))
    ]

pub dead_stays : (f : Form) (a b : List ℕ) (hands : List HandPair) (chain off : ℕ) → chain < f.chains → AcceptWith f a hands → length a ≤ length b → ChainStays f a b chain → IsDeadIn f a chain off → IsDeadIn f b chain off
dead_stays f a b hands chain off low A longer S D = record {
  member = subst (Member off) (sym S.same_offsets) D.member;
  dead = λ used. D.dead (sym same_magic ∙ used);
}
  where
    same_magic : magic_of f.order b off ≡ magic_of f.order a off
    same_magic = word_kept f.order a b (off + 20) off (off + 24 + rec_len_of f.order a off)
        (λ i from to. S.bytes i (omega (arith, member_held f.order a (chain_of f a chain) off i D.member, once_in (extent_at f.order a off) i from (omega (arith, to))))) (omega arith) (omega arith)

-- a command on the cursor, in the law's words
pub walks_command : (job : Job) (w : WalkCommand) → walk_in job ≡ Some w → command_in job ≡ OnWalk w
walks_command (Jobs.Refused command reply) w e = absurd (cc e)
walks_command (Jobs.Plain d) w e = absurd (cc e)
walks_command (Jobs.Check checking) w e = absurd (cc e)
walks_command (Jobs.Locking locking) w e = absurd (cc e)
walks_command Jobs.Seqnum w e = absurd (cc e)
walks_command (Jobs.Walk walking) w e = let same : walk_command walking ≡ w = cc in ap OnWalk same

walks_task : (task : Option Task) (w : WalkCommand) → walk_of task ≡ Some w → law_task task ≡ Some (record { command = OnWalk w; steps = steps_of task })
walks_task None w e = absurd (cc e)
walks_task (Some t) w e = ap (λ c. Some (record { command = c; steps = t.steps })) (walks_command t.job w e)

-- a cursor on a record has shown a key of its chain, however far its command is
pub stage_shown : (f : Form) (held : HeldLocks) (x : Own) (w : WalkCommand) (chain off : ℕ) (stage : Stage) (gone : Bool) (n : ℕ) → StandsAfter f held x w (On chain off) stage gone n → IsShown f x.cursor chain off
stage_shown f held x w chain off Rested gone n S = S.0
stage_shown f held x w chain off Reading gone n S = S.0
stage_shown f held x w chain off Writing gone n S = S.0
stage_shown f held x w chain off Freeing gone n S = S.0

module _ (f : Form) (options : Options) (xs : List Opener) (ps : List Piece) (a : List ℕ) (size : ℕ) (W : WorldStands f options xs ps a size) (o : ℕ) (z : Opener) (there : slice_get xs o ≡ Some z) (chain off : ℕ) (on : z.walk.cursor.place ≡ On chain off) where
  abbrev here : At
  here = record { place = On chain off; stage = z.walk.cursor.stage }

  same_at : z.walk.cursor ≡ here
  same_at = λ i. record { place = on i; stage = z.walk.cursor.stage }

  holds_there : (w : WalkCommand) → walk_of z.task ≡ Some w → (b : ℕ) → table_of ps (o + 1) b ≡ holding f (own_of options z) (spot_in here false) (Some (record { command = OnWalk w; steps = steps_of z.task })) b
  holds_there w e b =
      W.sound.agrees o b ∙ (ap (λ y. holding f (own_at options y) (spot_at y) (task_at y) b) there
      ∙ (ap (λ p. holding f (own_of options z) (spot_by p) (law_task z.task) b) same_at ∙ ap (λ u. holding f (own_of options z) (spot_in here false) u b) (walks_task z.task w e)))

  abbrev Locks : Type 0
  Locks = (k : List ℕ) × (home f k ≡ chain) × (2 ≤ table_of ps (o + 1) (chain_byte f k))

  locks_by_task : (w : Option WalkCommand) → walk_of z.task ≡ w → WalkAfter f z.held (own_of options z) w (steps_of z.task) here → is_purging z.walk.cursor.stage ≡ true → Locks
  locks_by_task None e R due = absurd (never (sym (ap is_purging R.1) ∙ due))
  locks_by_task (Some w) e S due =
      let shown = stage_shown f z.held (own_of options z) w chain off z.walk.cursor.stage false (steps_of z.task) S in
      let two = purger_holds f z.held (own_of options z) w chain off z.walk.cursor.stage (steps_of z.task) refl S due in
      (shown.key, shown.filed, subst (λ j. 2 ≤ table_of ps (o + 1) (168 + 4 * j)) (sym shown.filed) (let same = holds_there w e (168 + 4 * chain) in omega (arith, two, same)))

  pub purger_locks : is_purging z.walk.cursor.stage ≡ true → Locks
  purger_locks due =
      locks_by_task (walk_of z.task) refl (subst (WalkAfter f z.held (own_of options z) (walk_of z.task) (steps_of z.task)) same_at (walk_there f options xs ps a size o z W there).stands) due
