-- An opener that is shut out: it holds no record, its cursor stands on none, and its command has had no step, or is a
-- move that has let go of its locks.
use Rattle.std.proofs.Common.{◌≡◌, ◌≢◌, ℕ, ◌+◌, ◌*◌, ◌<◌, ◌≤◌, ◌^◌, List, false, Option, Some, None, is_some, nat_lt, refl, sym, ◌∙◌, ap, subst, inl, inr, arith}
use Rattle.std.specs.Prelude.{◌&&◌, if◌then◌else◌}
use Rattle.std.proofs.lemmas.Bool.{cases_lt, le-ltb}
use Rattle.tdb_space.specs.Form.{Form, form_in, data_start}
use Rattle.tdb_space.specs.Pairs.{home}
use Rattle.tdb_space.proofs.Pairs.Maps.{home_below}
use Rattle.tdb_locks.specs.HeldLocks.{count_of}
use Rattle.tdb_locks.specs.declared.kind.Kind.{Kind}
use Rattle.tdb_locks.specs.declared.kind.Kind.TheVariants.{Read, Write}
use Rattle.tdb_law.specs.Commands.{MapCommand}
use Rattle.tdb_law.specs.Commands.Command.{OnMap}
use Rattle.tdb_law.specs.Openers.{Own, Spot, count_at, nowhere}
use Rattle.tdb_law.specs.Refusals.{refusal}
use Rattle.tdb_law.specs.Held.{all_held, stand_held, kept, held}
use Rattle.tdb_law.specs.World.{State, HasFewChains}
use Rattle.tdb_law.proofs.Covered.{none_held}
use Rattle.tdb_law.proofs.Walking.{put_else}
use Rattle.tdb_law.specs.OneAside.Sides.{Past, Side, heads_ahead, beside}
use Rattle.tdb_law.specs.OneAside.Shutting.{IsShutOut}
use Rattle.tdb_law.proofs.OneAside.Shut.{others_shut_out}
use Rattle.tdb_commands.specs.InLaw.{law_opener}
use Rattle.tdb_walk.specs.declared.standing.Standing.{Standing}
use Rattle.tdb_walk.specs.declared.standing.Standing.TheVariants.{Before, On, Past as PastChains}
use Rattle.tdb_walk.specs.Cursors.{IsPlaced, spot_of}
use Rattle.tdb_openers.specs.declared.opener.Opener.{Opener}
use Rattle.tdb_openers.specs.declared.job.Job.{Job}
use Rattle.tdb_openers.specs.declared.job.Job.TheVariants as Jobs
use Rattle.tdb_openers.specs.declared.job.Locking.TheVariants as Locks
use Rattle.tdb_openers.specs.declared.job.Walking.TheVariants as Walks
use Rattle.tdb_openers.specs.declared.job.Task.{Task}
use Rattle.tdb_openers.specs.Given.{IsShortLocking, unlock_told}
use Rattle.tdb_openers.specs.Openers.{rest_of, own_of, spot_by, walk_in, command_in, all_of}
use Rattle.tdb_openers.specs.ShutOut.{ShutsOut, MayMeet, IsMove}
use Rattle.tdb_openers.specs.Turning.{law_table}
use Rattle.tdb_openers.specs.Worlds.{World, state_in, law_of_task, Stands, IsBusy}
use Rattle.tdb_openers.proofs.ExplicitLocks.Beside.{all_past, below_bare}
use Rattle.tdb_openers.proofs.ExplicitLocks.Granted.{unchain_granted, unlock_all_granted}
use Rattle.tdb_openers.proofs.ExplicitLocks.Keeping.{counts_keep, kept_is, counted_kept}
use Rattle.tdb_openers.proofs.Joining.Occupied.{task_here, own_here, spot_here, stands, job_at, cursor_at, holds}
use Rattle.tdb_openers.proofs.ExplicitLocks.Owned.{own_count}
use Rattle.tdb_openers.proofs.Walks.Rests.{walk_well}

-- An opener with a command is shut out of a world that stands.
pub record IsBarred (w : World) (img : List ℕ) (past : Past) (s : Side) (holder who : ℕ) (x : Opener) (t : Task) (any : List ℕ) (size : ℕ) : Type 0 where
  pub busy : IsBusy w who x t
  pub other : holder ≢ who
  pub shuts : ShutsOut w img past s holder
  pub stands : Stands w any size

module _ {w : World} {img : List ℕ} {past : Past} {s : Side} {holder who : ℕ} {x : Opener} {t : Task} {any : List ℕ} {size : ℕ} (C : IsBarred w img past s holder who x t any size) where
  abbrev f : Form
  f = form_in w.header

  abbrev l : ℕ
  l = law_opener who

  abbrev own : Own
  own = own_of w.options x

  abbrev spot : Spot
  spot = spot_by x.walk.cursor

  abbrev p : State
  p = state_in w img

  abbrev q : State
  q = beside p past s

  pub apart : l ≢ s.here
  apart e = C.other (let one = C.shuts.counted in let two = C.busy.number.counted in omega (arith, one, two, e))

  -- what it has in the whole state
  pub its_own : q.own l ≡ own
  its_own = put_else p.own s.here s.own l apart ∙ own_here C.busy img

  pub its_spot : q.spot l ≡ spot
  its_spot = put_else p.spot s.here nowhere l apart ∙ spot_here C.busy img

  pub its_task : q.task l ≡ Some (law_of_task t)
  its_task = put_else p.task s.here s.task l apart ∙ task_here C.busy img

  pub its_view : q.view l ≡ heads_ahead s.heads (p.mark l)
  its_view =
      put_else (if s.shuts then (λ o. heads_ahead s.heads (p.mark o)) else p.view) s.here s.view l apart
      ∙ ap (λ z. (if z then (λ (o : ℕ). heads_ahead s.heads (p.mark o)) else p.view) l) C.shuts.shuts

  -- it stands in the world as one without records
  shut : IsShutOut f p l
  shut = others_shut_out f p past s l C.shuts.sound C.shuts.aside C.shuts.shuts apart

  pub few : HasFewChains f
  few = C.stands.sound.chains

  pub off_records : (chain off : ℕ) → x.walk.cursor.place ≡ On chain off → ⊥
  off_records chain off on =
      let far = shut.stands off (ap (λ (z : Spot). z.stands) (spot_here C.busy img) ∙ ap spot_of on) in
      let placed = subst IsPlaced on (cursor_at C.busy C.stands t.job refl).placed in
      let below = placed.1 in
      omega (arith, far, below)

  -- so it stands on none
  pub stands_on_none : spot_of x.walk.cursor.place ≡ None
  stands_on_none = at x.walk.cursor.place refl
    where
      at : (place : Standing) → x.walk.cursor.place ≡ place → spot_of place ≡ None
      at (On chain off) on = absurd (off_records chain off on)
      at (Before chain) on = refl
      at PastChains on = refl

  -- and it keeps none
  kept_none : (b : ℕ) → 168 ≤ b → b < 2 ^ 63 → kept f own spot b ≡ 0
  kept_none b from below = let none = shut.holds b from below in let whole = holds C.busy C.stands b in omega (arith, none, whole)

  -- nor anything else
  pub keeps_none : (b : ℕ) → kept f own spot b ≡ 0
  keeps_none b = elim (cases_lt b 168) [
    | inl low ↦ below_bare f few w.options x.live x.held (rest_of x.walk) (stands C.busy C.stands).0.counts (walk_well f x.held own (walk_in t.job) t.steps x.walk.cursor (cursor_at C.busy C.stands t.job refl)) b low
    | inr from ↦ elim (cases_lt b (2 ^ 63)) [
      | inl below ↦ kept_none b from below
      | inr past ↦ (let whole = kept_is f own spot refl b in
          let over : nat_lt b (data_start f) ≡ false = le-ltb b (data_start f) (let many = few.few in omega (arith, many, past)) in
          let bare : counts_keep f (count_at own b) b ≡ 0 = ap (λ z. if z && nat_lt 0 (count_at own b) then 2 else 0) over in
          let off = ap (λ o. stand_held o b) stands_on_none in
          let high = all_past x.held.all b past in
          omega (arith, whole, bare, off, high))
    ]
  ]

  -- so before its first step it holds nothing
  pub holds_none : t.steps ≡ 0 → (b : ℕ) → law_table w.table l b ≡ 0
  holds_none new b =
      let whole = holds C.busy C.stands b in
      let bare = ap (λ n. held f (command_in t.job) own spot n b) new ∙ none_held f (command_in t.job) own spot b in
      let keeps = keeps_none b in
      omega (arith, whole, bare, keeps)

  no_all : (all : Option (Kind × ℕ)) → x.held.all ≡ all → all ≡ None
  no_all None is = refl
  no_all (Some (Read, count)) is = absurd (let none = kept_none 168 (omega arith) (omega arith) in let whole = kept_is f own spot refl 168 in let here : all_held (all_of x.held.all) 168 ≡ 1 = ap (λ o. all_held (all_of o) 168) is in omega (arith, none, whole, here))
  no_all (Some (Write, count)) is = absurd (let none = kept_none 168 (omega arith) (omega arith) in let whole = kept_is f own spot refl 168 in let here : all_held (all_of x.held.all) 168 ≡ 2 = ap (λ o. all_held (all_of o) 168) is in omega (arith, none, whole, here))

  no_count : (key : List ℕ) → 0 < count_of x.held (home f key) → ⊥
  no_count key some =
      let low = home_below f key few.some in
      let many = few.few in
      let n = own_count w.options x.live x.held (rest_of x.walk) (stands C.busy C.stands).0.counts (home f key) in
      let two = counted_kept f own spot refl (168 + 4 * home f key) (omega (arith, low)) (omega (arith, n, some)) in
      let none = kept_none (168 + 4 * home f key) (omega arith) (omega (arith, low, many)) in
      omega (arith, two, none)

  -- its command is no unlock that isn't refused
  pub may_meet : (j : Job) → t.job ≡ j → (j ≡ Jobs.Seqnum → ⊥) → (IsMove j → ⊥) → MayMeet j
  may_meet (Jobs.Refused command reply) is ne still = tt
  may_meet (Jobs.Plain d) is ne still = tt
  may_meet (Jobs.Check checking) is ne still = tt
  may_meet (Jobs.Locking (Locks.Chain key)) is ne still = tt
  may_meet (Jobs.Locking (Locks.ChainNb key)) is ne still = tt
  may_meet (Jobs.Locking (Locks.Unchain key)) is ne still =
      let J = job_at C.busy C.stands _ is in
      no_count key (unchain_granted f w.options x.live x.held (rest_of x.walk) (stands C.busy C.stands).0.counts key J.1)
  may_meet (Jobs.Locking Locks.All) is ne still = tt
  may_meet (Jobs.Locking Locks.AllRead) is ne still = tt
  may_meet (Jobs.Locking Locks.UnlockAll) is ne still =
      let J = job_at C.busy C.stands _ is in
      let untold = unlock_all_granted f w.options x.live x.held (rest_of x.walk) (stands C.busy C.stands).0.counts J.1 in
      let bad = ap (unlock_told x.held (is_some x.walk.shown)) (sym (no_all x.held.all refl)) ∙ untold in
      cc bad
  may_meet Jobs.Seqnum is ne still = absurd (ne refl)
  may_meet (Jobs.Walk Walks.First) is ne still = still tt
  may_meet (Jobs.Walk Walks.Next) is ne still = still tt
  may_meet (Jobs.Walk Walks.EndWalk) is ne still = tt
  may_meet (Jobs.Walk Walks.Close) is ne still = tt

  pub short_lock : (locking : _) → t.job ≡ Jobs.Locking locking → IsShortLocking locking
  short_lock locking is = (job_at C.busy C.stands (Jobs.Locking locking) is).2

  -- a command on the map has had no step
  pub map_new : (c : MapCommand) → command_in t.job ≡ OnMap c → refusal f (OnMap c) own ≡ None → t.steps ≡ 0
  map_new c is granted = shut.new c t.steps (task_here C.busy img ∙ ap (λ d. Some (record { command = d; steps = t.steps })) is) (ap (λ (z : Own). z.txn) (own_here C.busy img)) (subst (λ z. refusal f (OnMap c) z ≡ None) (sym (own_here C.busy img)) granted)
