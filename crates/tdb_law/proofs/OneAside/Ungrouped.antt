-- Commands that begin and end no transaction, since they are on none or are refused: they need no number of an image.
use Rattle.std.proofs.Common.{◌≡◌, ℕ, Bool, true, false, Option, Some, None, refl, sym, ◌∙◌, ap}
use Rattle.std.specs.Prelude.{if◌then◌else◌}
use Rattle.tdb_space.specs.Form.{Form}
use Rattle.tdb_law.specs.Commands.{Command, Reply, Turn, is_done}
use Rattle.tdb_law.specs.Commands.GroupCommand.{Start, Commit, Prepare, Cancel}
use Rattle.tdb_law.specs.Commands.LockCommand.{ChainLock, ChainLockNb, ChainUnlock, LockAll, LockAllRead, UnlockAll}
use Rattle.tdb_law.specs.Commands.WalkCommand.{First, Next, EndWalk, Close}
use Rattle.tdb_law.specs.Commands.Command.{OnMap, OnLocks, Seqnum, OnGroup, OnWalk}
use Rattle.tdb_law.specs.Commands.Turn.{Step, Blocked, Ends}
use Rattle.tdb_law.specs.Openers.{Own, Map}
use Rattle.tdb_law.specs.Refusals.{Refusal, refusal}
use Rattle.tdb_law.specs.Outcomes.{changed_txn, own_by, own_after, own_left, own_refused, own_spared}
use Rattle.tdb_law.specs.Counting.{brings_by, number_by, image_number_by, image_number_after}
use Rattle.tdb_law.specs.Effects.{Effect}
use Rattle.tdb_law.specs.Effects.Effect.{effect_waits, effect_goes_on, effect_changes, effect_answers, effect_shows, effect_starves, effect_is_full, effect_is_busy, effect_numbers, effect_finishes}
use Rattle.tdb_law.specs.Turned.{number_next}
use Rattle.tdb_law.specs.OneAside.Turns.{IsApart, IsUngrouped}

-- outside a transaction none of them begins one
refused_out : (c : Command) (x : Own) → x.txn ≡ None → (own_refused c x).txn ≡ None
refused_out (OnMap c) x out = out
refused_out (OnLocks c) x out = out
refused_out Seqnum x out = out
refused_out (OnGroup Start) x out = out
refused_out (OnGroup Commit) x out = ap (λ t. (own_left t x).txn) out ∙ out
refused_out (OnGroup Prepare) x out = ap (λ t. (own_left t x).txn) out ∙ out
refused_out (OnGroup Cancel) x out = out
refused_out (OnWalk w) x out = out

after_out : (f : Form) (q : Option Refusal) (c : Command) (x : Own) (n : ℕ) (r : Reply) (m : Map) → IsApart q c → x.txn ≡ None → (own_by f q c x n r m).txn ≡ None
after_out f (Some q) c x n r m apart out = refused_out c x out
after_out f None (OnMap c) x n r m apart out = ap (changed_txn c) out
after_out f None (OnLocks (ChainLock k)) x n r m apart out = out
after_out f None (OnLocks (ChainLockNb k)) x n r m apart out = out
after_out f None (OnLocks (ChainUnlock k)) x n r m apart out = out
after_out f None (OnLocks LockAll) x n r m apart out = out
after_out f None (OnLocks LockAllRead) x n r m apart out = out
after_out f None (OnLocks UnlockAll) x n r m apart out = out
after_out f None Seqnum x n r m apart out = out
after_out f None (OnGroup g) x n r m apart out = absurd apart
after_out f None (OnWalk First) x n r m apart out = out
after_out f None (OnWalk Next) x n r m apart out = out
after_out f None (OnWalk EndWalk) x n r m apart out = out
after_out f None (OnWalk Close) x n r m apart out = refl

spared_out : (c : Command) (x : Own) → x.txn ≡ None → (own_spared c x).txn ≡ None
spared_out (OnMap c) x out = out
spared_out (OnLocks c) x out = out
spared_out Seqnum x out = out
spared_out (OnGroup Start) x out = out
spared_out (OnGroup Commit) x out = refl
spared_out (OnGroup Prepare) x out = refl
spared_out (OnGroup Cancel) x out = out
spared_out (OnWalk First) x out = out
spared_out (OnWalk Next) x out = out
spared_out (OnWalk EndWalk) x out = out
spared_out (OnWalk Close) x out = refl

module _ (f : Form) (c : Command) (n : ℕ) (x y : Own) (apart : IsApart (refusal f c x) c) (out : x.txn ≡ None) where
  same_out : y ≡ x → y.txn ≡ None
  same_out e = ap (λ z. z.txn) e ∙ out

  ended_out : (r : Reply) (m : Map) → y ≡ own_after f c x n r m → y.txn ≡ None
  ended_out r m e = ap (λ z. z.txn) e ∙ after_out f (refusal f c x) c x n r m apart out

  bare_out : y ≡ own_spared c x → y.txn ≡ None
  bare_out e = ap (λ z. z.txn) e ∙ spared_out c x out

  pub stays_out : {free : Type 0} {conflict : ℕ → ℕ → Type 0} {finds : Reply → Type 0} (number : ℕ) (file next : Map) (turn : Turn) → Effect f free conflict finds number c n x file turn y next → y.txn ≡ None
  stays_out number file next turn (effect_waits o b e conflict unchanged same own) = same_out own
  stays_out number file next turn (effect_goes_on e free unchanged same own) = same_out own
  stays_out number file next turn (effect_changes e free late unchanged made done changed own) = same_out own
  stays_out number file next turn (effect_answers r e free still uncounted ready unchanged says changed own) = ended_out r file own
  stays_out number file next turn (effect_shows r e free moving found same own) = ended_out r file own
  stays_out number file next turn (effect_starves e starving unchanged same own) = bare_out own
  stays_out number file next turn (effect_is_full len need e free filling ready unchanged done same own) = bare_out own
  stays_out number file next turn (effect_is_busy o b e conflict busy same own) = bare_out own
  stays_out number file next turn (effect_numbers q e free counting says same own) = same_out own
  stays_out number file next turn (effect_finishes e free made same own) = ended_out Reply.Done file own

-- one that is on no transaction is such a command, refused or not
pub ungrouped_apart : (q : Option Refusal) (c : Command) → IsUngrouped c → IsApart q c
ungrouped_apart None c apart = apart
ungrouped_apart (Some why) c apart = tt

-- the file's number doesn't depend on that of an image, and that of an image stays
brings_none : (q : Option Refusal) (c : Command) (x : Own) → IsApart q c → brings_by q c x ≡ false
brings_none (Some q) c x apart = refl
brings_none None (OnMap c) x apart = refl
brings_none None (OnLocks c) x apart = refl
brings_none None Seqnum x apart = refl
brings_none None (OnGroup g) x apart = absurd apart
brings_none None (OnWalk w) x apart = refl

number_apart : (r : Option Refusal) (c : Command) (x : Own) (q u v : ℕ) → IsApart r c → number_by r c x q u ≡ number_by r c x q v
number_apart (Some r) c x q u v apart = refl
number_apart None (OnMap c) x q u v apart = refl
number_apart None (OnLocks c) x q u v apart = refl
number_apart None Seqnum x q u v apart = refl
number_apart None (OnGroup g) x q u v apart = absurd apart
number_apart None (OnWalk w) x q u v apart = refl

pub next_apart : (f : Form) (c : Command) (n : ℕ) (x : Own) (turn : Turn) (q u v : ℕ) → IsApart (refusal f c x) c → number_next f c n x turn q u ≡ number_next f c n x turn q v
next_apart f c n x Step q u v apart = rw (brings_none (refusal f c x) c x apart) refl
next_apart f c n x (Blocked o b) q u v apart = refl
next_apart f c n x (Ends r) q u v apart = ap (λ z. if is_done r then z else q) (number_apart (refusal f c x) c x q u v apart)

image_apart : (r : Option Refusal) (c : Command) (x : Own) (q u : ℕ) → IsApart r c → x.txn ≡ None → image_number_by r c x q u ≡ u
image_apart (Some r) c x q u apart out = refl
image_apart None (OnMap c) x q u apart out = rw out refl
image_apart None (OnLocks c) x q u apart out = refl
image_apart None Seqnum x q u apart out = refl
image_apart None (OnGroup g) x q u apart out = absurd apart
image_apart None (OnWalk w) x q u apart out = refl

pub image_stays : (f : Form) (c : Command) (x : Own) (turn : Turn) (q u : ℕ) → IsApart (refusal f c x) c → x.txn ≡ None → u ≡ image_number_after f c x turn q u
image_stays f c x Step q u apart out = refl
image_stays f c x (Blocked o b) q u apart out = refl
image_stays f c x (Ends r) q u apart out = by_done (is_done r)
  where
    by_done : (z : Bool) → u ≡ (if z then image_number_by (refusal f c x) c x q u else u)
    by_done true = sym (image_apart (refusal f c x) c x q u apart out)
    by_done false = refl
