-- Turns that change nothing: one that is blocked, and the end of a command at its first turn.
use Rattle.std.proofs.Common.{◌≡◌, ℕ, max, List, [], Bool, true, false, Option, Some, None, is_none, is_some, refl, sym, ◌∙◌, ap, subst, inl, arith}
use Rattle.std.specs.Prelude.{if◌then◌else◌}
use Rattle.tdb_space.specs.Form.{Form}
use Rattle.tdb_law.specs.Commands.{Command, Reply, is_done}
use Rattle.tdb_law.specs.Commands.LockCommand.{ChainLockNb}
use Rattle.tdb_law.specs.Commands.WalkCommand.{Next}
use Rattle.tdb_law.specs.Commands.Command.{OnMap, OnLocks, Seqnum, OnGroup, OnWalk}
use Rattle.tdb_law.specs.Commands.Reply.{Busy, End, Number}
use Rattle.tdb_law.specs.Commands.Turn.{Ends}
use Rattle.tdb_law.specs.Openers.{Own, Txn, Mark, Spot, View, Task, seen}
use Rattle.tdb_law.specs.Refusals.{Refusal, refusal, says}
use Rattle.tdb_law.specs.Refusals.Refusal.{OnlyReads, IsPrepared, LocksStand, NothingLocked, NeverNests, NoneOpen, IsDoomed}
use Rattle.tdb_law.specs.Rows.{Lock, walk_locks, locks_by, locks, changed_by, is_changed}
use Rattle.tdb_law.specs.Outcomes.{key_shown, own_spared, moves_by, moves, counts_by, told_by, map_by, reads_by, own_by, own_refused, busies_by}
use Rattle.tdb_law.specs.Ends.{walk_ends, may_end, ends_by}
use Rattle.tdb_law.specs.Counting.{number_seen, number_or}
use Rattle.tdb_law.specs.Held.{kept, holding, wanted, decided, locked_next, is_gone, moves_at}
use Rattle.tdb_law.specs.World.{State, IsSound}
use Rattle.tdb_law.specs.Effects.{Effect, IsFree, IsFirstConflict, Finds, Stays}
use Rattle.tdb_law.specs.Effects.Effect.{effect_waits, effect_answers, effect_is_busy, effect_numbers}
use Rattle.tdb_law.specs.Effects.Stays.{stands_nowhere, stands_still}
use Rattle.tdb_law.specs.Turned.{Turned, want}
use Rattle.tdb_law.specs.Walks.{Shift, Walked}
use Rattle.tdb_law.proofs.Covered.{none_held}
use Rattle.tdb_law.proofs.Walking.{put_here, put_else}
use Rattle.tdb_law.proofs.Tests.{never_true}
use Rattle.tdb_law.specs.OneAside.Turns.{EndsAtOnce, without_task}
use Rattle.tdb_law.specs.OneAside.Turns.EndsAtOnce.{ends_refused, ends_busy, ends_numbered, ends_past}
use Rattle.tdb_law.specs.OneAside.Laws.{WaitingIsTurned, EndIsTurned}

-- a walk whose mark stays shifts, and loses nothing
pub still_shift : (f : Form) (lost : List ℕ → Type 0) (m : Mark) → Shift f lost m m
still_shift f lost m = record { inside = refl; reached = refl; fewer = λ k e. inl e; kept = λ k e. inl e }

pub waiting_is_turned : WaitingIsTurned
waiting_is_turned f w who t owner byte S ready mine waiting unchanged conflict = record {
  mine = mine;
  joined = refl;
  others = λ o ne. refl;
  others_own = λ o ne. refl;
  others_spot = λ o ne. refl;
  others_hold = λ o b ne. refl;
  others_number = λ o ne. refl;
  others_walk = λ o ne. still_shift f _ _;
  row = waiting;
  leaves = mine;
  leaves_spot = inl refl;
  effect = effect_waits owner byte refl conflict unchanged refl refl;
  holds = S.agrees who;
  walks = Walked.walk_rests owner byte refl refl (still_shift f _ _);
  ready = ready;
  stale = ready;
  settled = refl;
  number = refl;
  image_number = refl;
}

-- a command that moves no cursor moves none at its next turn; and where its row has no lock it wants nothing
pub unmoved : (f : Form) (c : Command) (x : Own) (a : Spot) (n : ℕ) → moves f c x ≡ false → moves_at f c x a n ≡ false
unmoved f (OnMap c) x a n still = refl
unmoved f (OnLocks c) x a n still = refl
unmoved f Seqnum x a n still = refl
unmoved f (OnGroup c) x a n still = refl
unmoved f (OnWalk c) x a n still = rw still refl

unlocked : (g : Bool) (ls : List Lock) (n b : ℕ) → ls ≡ [] → (if g then 0 else locked_next ls n b) ≡ 0
unlocked true ls n b e = refl
unlocked false ls n b e = rw e refl

pub wants_nothing : (f : Form) (c : Command) (x : Own) (a : Spot) (v : View) (n b : ℕ) → moves f c x ≡ false → locks f c x a.purging ≡ [] → wanted f c x a v n b ≡ 0
unfolding wanted
wants_nothing f c x a v n b still bare = rw (unmoved f c x a n still) (omega (arith, unlocked (is_gone c a) (locks f c x a.purging) n b bare))

-- a command that is done is none that is refused
refused_undone : (x : Own) (why : Refusal) → is_done (says x why) ≡ false
refused_undone x OnlyReads = refl
refused_undone x IsPrepared = refl
refused_undone x LocksStand = refl
refused_undone x NothingLocked = refl
refused_undone x NeverNests = refl
refused_undone x NoneOpen = refl
refused_undone x IsDoomed = refl

-- a cursor that stands on a record is outside a transaction, and stays there
stays : (f : Form) (w : State) (who : ℕ) (table want : ℕ → ℕ) (r : Reply) → IsSound f w → (p : Option ℕ) → (w.spot who).stands ≡ p → Stays f table want (w.own who) (w.own who) (w.spot who) (w.spot who) r
stays f w who table want r S None e = stands_nowhere e
stays f w who table want r S (Some place) e = let out = (S.stands who place e).0 in stands_still out out refl refl

-- nothing is in the way of a command that wants nothing, since another opener's locks alone never conflict
pub nothing_free : (f : Form) (w : State) (who : ℕ) (t : Task) → IsSound f w → ((b : ℕ) → want f w who t b ≡ 0) → IsFree w.table who (want f w who t)
nothing_free f w who t S none = record { free = λ p b ne. omega (arith, none b, S.apart p who b ne) }

module _ (f : Form) (w : State) (who : ℕ) (c : Command) (r : Reply) (S : IsSound f w) (ready : w.stale ≡ false) (mine : w.task who ≡ Some (record { command = c; steps = 0 })) (near : (w.spot who).gone ≡ false) where
  abbrev x : Own
  x = w.own who

  abbrev t : Task
  t = record { command = c; steps = 0 }

  abbrev EffectHere : Type 0
  EffectHere = Effect f (IsFree w.table who (want f w who t)) (IsFirstConflict w.table who (want f w who t)) (Finds f (w.table who) (want f w who t) (seen x w.file)) (number_seen x w.number (w.image_number who)) c 0 x w.file (Ends r) x w.file

  -- an end that changes nothing, by its effect
  ended : may_end f c x 0 r ≡ true → is_done r ≡ false → moves f c x ≡ false → EffectHere → Turned f w who t (Ends r) (without_task w who)
  ended row undone still effect = record {
    mine = mine;
    joined = refl;
    others = λ o ne. put_else w.task who None o ne;
    others_own = λ o ne. refl;
    others_spot = λ o ne. refl;
    others_hold = λ o b ne. refl;
    others_number = λ o ne. refl;
    others_walk = λ o ne. still_shift f _ _;
    row = inl row;
    leaves = put_here w.task who None who refl;
    leaves_spot = (stays f w who _ _ r S (w.spot who).stands refl, near);
    effect = effect;
    holds = λ b. S.agrees who b ∙ ap (λ u. holding f x (w.spot who) u b) mine ∙ ap (λ n. max n (kept f x (w.spot who) b)) (none_held f c x (w.spot who) b) ∙ sym (ap (λ u. holding f x (w.spot who) u b) (put_here w.task who None who refl));
    walks = Walked.walk_ends r refl still (λ cursor. still_shift f _ _);
    ready = ready;
    stale = ready;
    settled = rw undone refl;
    number = rw undone refl;
    image_number = rw undone refl;
  }

  -- what its row may have locked by a purge
  abbrev a : Spot
  a = decided (w.spot who) (w.view who) 0

  refused : (why : Refusal) → refusal f c x ≡ Some why → own_refused c x ≡ x → r ≡ says x why → Turned f w who t (Ends r) (without_task w who)
  unfolding is_changed
  refused why is stays says_why = ended (ap (λ q. ends_by q c x 0 r) is) (ap is_done says_why ∙ refused_undone x why) still
      (effect_answers r refl (nothing_free f w who t S (λ b. wants_nothing f c x a (w.view who) 0 b still (ap (λ q. locks_by f q c x a.purging) is)))
      still (ap (λ q. counts_by q c) is) (λ k reading. absurd (never_true (sym (ap (λ q. reads_by q c x k) is) ∙ reading))) (ap (λ q. changed_by q c x 0) is)
      (says_why ∙ sym (ap (λ q. told_by q c x w.file) is)) (sym (ap (λ q. map_by q c x w.file) is)) (sym (ap (λ q. own_by f q c x 0 r w.file) is ∙ stays)))
    where
      still : moves f c x ≡ false
      still = ap (λ q. moves_by q c x) is

  -- a command that isn't refused, of each kind
  module _ (granted : refusal f c x ≡ None) where
    busy : (k : List ℕ) (owner byte : ℕ) → c ≡ OnLocks (ChainLockNb k) → IsFirstConflict w.table who (want f w who t) owner byte → r ≡ Busy owner byte → Turned f w who t (Ends r) (without_task w who)
    busy k owner byte is conflict says_busy = ended (ap (λ q. ends_by q c x 0 r) granted ∙ ap (λ d. ends_by None d x 0 r) is) (ap is_done says_busy) (ap (λ q. moves_by q c x) granted ∙ ap (λ d. moves_by None d x) is)
        (effect_is_busy owner byte (ap Ends says_busy) conflict (ap (λ q. busies_by q c) granted ∙ ap (busies_by None) is) refl (sym (ap (λ d. own_spared d x) is)))

    numbered : c ≡ Seqnum → x.txn ≡ None → IsFree w.table who (want f w who t) → r ≡ Number w.number → Turned f w who t (Ends r) (without_task w who)
    numbered is out free says_number = ended (ap (λ q. ends_by q c x 0 r) granted ∙ ap (λ d. ends_by None d x 0 r) is) (ap is_done says_number) (ap (λ q. moves_by q c x) granted ∙ ap (λ d. moves_by None d x) is)
        (effect_numbers w.number (ap Ends says_number) free (ap (λ q. counts_by q c) granted ∙ ap (counts_by None) is) (sym (ap (λ o. number_or o w.number (w.image_number who)) out)) refl refl)

    past : c ≡ OnWalk Next → x.txn ≡ None → x.cursor ≡ None → r ≡ End → Turned f w who t (Ends r) (without_task w who)
    unfolding is_changed
    past is out none says_end =
        ended (ap (λ q. ends_by q c x 0 r) granted ∙ ap (λ d. ends_by None d x 0 r) is ∙ ap (λ o. ends_in o x.cursor) out ∙ ap (ends_in None) none) (ap is_done says_end) still
        (effect_answers r refl (nothing_free f w who t S (λ b. wants_nothing f c x a (w.view who) 0 b still (ap (λ q. locks_by f q c x a.purging) granted ∙ ap (λ d. locks_by f None d x a.purging) is ∙ ap (λ o. locks_in o x.cursor) out ∙ ap (locks_in None) none)))
        still (ap (λ q. counts_by q c) granted ∙ ap (counts_by None) is) (λ k reading. absurd (never_true (sym (ap (λ q. reads_by q c x k) granted ∙ ap (λ d. reads_by None d x k) is) ∙ reading)))
        (ap (λ q. changed_by q c x 0) granted ∙ ap (λ d. changed_by None d x 0) is) (says_end ∙ sym (ap (λ q. told_by q c x w.file) granted ∙ ap (λ d. told_by None d x w.file) is))
        (sym (ap (λ q. map_by q c x w.file) granted ∙ ap (λ d. map_by None d x w.file) is)) (sym (ap (λ q. own_by f q c x 0 r w.file) granted ∙ ap (λ d. own_by f None d x 0 r w.file) is ∙ ap (λ s. record x { cursor = key_shown s }) says_end ∙ ap (λ o. record x { cursor = o }) (sym none))))
      where
        ends_in : Option Txn → Option (List ℕ) → Bool
        ends_in o k = if is_none o then walk_ends Next k 0 else true

        locks_in : Option Txn → Option (List ℕ) → List Lock
        locks_in o k = if is_none o then walk_locks f Next k a.purging else []

        still : moves f c x ≡ false
        still = ap (λ q. moves_by q c x) granted ∙ ap (λ d. moves_by None d x) is ∙ ap is_some none

  at_once : EndsAtOnce f w who t r → Turned f w who t (Ends r) (without_task w who)
  at_once (ends_refused why is stays says_why) = refused why is stays says_why
  at_once (ends_busy k owner byte is granted conflict says_busy) = busy granted k owner byte is conflict says_busy
  at_once (ends_numbered is granted out free says_number) = numbered granted is out free says_number
  at_once (ends_past is granted out none says_end) = past granted is out none says_end

pub end_is_turned : EndIsTurned
end_is_turned f w who t r S ready mine new near =
    let same : record { command = t.command; steps = 0 } ≡ t = λ i. record { command = t.command; steps = sym new i } in
    subst (λ u. w.task who ≡ Some u → EndsAtOnce f w who u r → Turned f w who u (Ends r) (without_task w who)) same (λ mine. at_once f w who t.command r S ready mine near) mine
