-- Inside a transaction no command is told that it is busy, so that the reply in the law's words is the same by both
-- tables.
use Rattle.std.proofs.Common.{◌≡◌, ℕ, List, Bool, true, false, Option, Some, None, refl, ◌∙◌, ap, arith}
use Rattle.std.specs.Prelude.{if◌then◌else◌}
use Rattle.std.specs.FinMap.{get, empty}
use Rattle.tdb_space.specs.Form.{Form}
use Rattle.tdb_locks.specs.declared.turn.Reply.{Reply}
use Rattle.tdb_law.specs.Commands as Law
use Rattle.tdb_law.specs.Commands.{Command, MapCommand, WalkCommand}
use Rattle.tdb_law.specs.Commands.MapCommand.{Fetch, Has, Delete, Store, Insert, Modify, Append, Wipe, Check}
use Rattle.tdb_law.specs.Commands.WalkCommand.{First, Next, EndWalk, Close}
use Rattle.tdb_law.specs.Commands.Command.{OnMap, OnLocks, Seqnum, OnGroup, OnWalk}
use Rattle.tdb_law.specs.Commands.Turn.{Ends}
use Rattle.tdb_law.specs.Openers.{Own, Map, has, seen}
use Rattle.tdb_law.specs.MapCommands.{reply, fetched}
use Rattle.tdb_law.specs.Refusals.{Refusal, refusal, says}
use Rattle.tdb_law.specs.Refusals.Refusal.{OnlyReads, IsPrepared, LocksStand, NothingLocked, NeverNests, NoneOpen, IsDoomed}
use Rattle.tdb_law.specs.Outcomes.{told_by, walk_told}
use Rattle.tdb_law.specs.Effects.{Effect, IsFree, IsFirstConflict, Finds}
use Rattle.tdb_law.specs.Effects.Effect.{effect_waits, effect_goes_on, effect_changes, effect_answers, effect_shows, effect_starves, effect_is_full, effect_is_busy, effect_numbers, effect_finishes}
use Rattle.tdb_law.specs.Effects.Finds.{finds_pair, finds_end}
use Rattle.tdb_steps.specs.PlainCommands.{reply_of}
use Rattle.tdb_txn_turns.specs.InsideTxn.Turns.{TurnsInside}
use Rattle.tdb_commands.specs.InLaw.{law_reply}

-- the reply names another opener
abbrev is_busy : Law.Reply → Bool
is_busy (Law.Reply.Busy owner byte) = true
is_busy _ = false

fetched_idle : (v : Option (List ℕ)) → is_busy (fetched v) ≡ false
fetched_idle None = refl
fetched_idle (Some v) = refl

either : (b : Bool) (r s : Law.Reply) → is_busy r ≡ false → is_busy s ≡ false → is_busy (if b then r else s) ≡ false
either true r s first second = first
either false r s first second = second

reply_idle : (c : MapCommand) (m : Map) → is_busy (reply c m) ≡ false
reply_idle (Fetch k) m = fetched_idle (get m k)
reply_idle (Has k) m = either (has m k) _ _ refl refl
reply_idle (Delete k) m = either (has m k) _ _ refl refl
reply_idle (Store k v) m = refl
reply_idle (Insert k v) m = either (has m k) _ _ refl refl
reply_idle (Modify k v) m = either (has m k) _ _ refl refl
reply_idle (Append k v) m = refl
reply_idle Wipe m = refl
reply_idle Check m = refl

says_idle : (x : Own) (q : Refusal) → is_busy (says x q) ≡ false
says_idle x OnlyReads = refl
says_idle x IsPrepared = refl
says_idle x LocksStand = refl
says_idle x NothingLocked = refl
says_idle x NeverNests = refl
says_idle x NoneOpen = refl
says_idle x IsDoomed = refl

walk_idle : (w : WalkCommand) → is_busy (walk_told w) ≡ false
walk_idle First = refl
walk_idle Next = refl
walk_idle EndWalk = refl
walk_idle Close = refl

told_idle : (o : Option Refusal) (c : Command) (x : Own) (m : Map) → is_busy (told_by o c x m) ≡ false
told_idle (Some q) c x m = says_idle x q
told_idle None (OnMap c) x m = reply_idle c (seen x m)
told_idle None (OnLocks c) x m = refl
told_idle None Seqnum x m = refl
told_idle None (OnGroup c) x m = refl
told_idle None (OnWalk w) x m = walk_idle w

ended_same : (r s : Law.Reply) → Ends r ≡ Ends s → r ≡ s
ended_same r s e = cc

idle_as : (r s : Law.Reply) → Ends r ≡ Ends s → is_busy s ≡ false → is_busy r ≡ false
idle_as r s e h = ap is_busy (ended_same r s e) ∙ h

-- what a move finds
found_idle : (f : Form) (table want : ℕ → ℕ) (m : Map) (r : Law.Reply) → Finds f table want m r → is_busy r ≡ false
found_idle f table want m r (finds_pair k v is there held) = ap is_busy is
found_idle f table want m r (finds_end is) = ap is_busy is

-- where everybody reads every byte, and nothing is wanted, there is no conflict
module _ (f : Form) (c : Command) (x y : Own) (number : ℕ) (file next : Map) (r : Law.Reply) where
  abbrev table : ℕ → ℕ → ℕ
  table o b = 1

  abbrev want : ℕ → ℕ
  want b = 0

  idle_by : Effect f (IsFree table 0 want) (IsFirstConflict table 0 want) (Finds f (table 0) want (seen x file)) number c 0 x file (Ends r) y next → is_busy r ≡ false
  idle_by (effect_waits o b turn conflict before same own) = absurd (cc turn)
  idle_by (effect_goes_on turn free before same own) = absurd (cc turn)
  idle_by (effect_changes turn free looks before after says is own) = absurd (cc turn)
  idle_by (effect_answers s turn free unmoved uncounted ready before says is own) = idle_as r s turn (ap is_busy says ∙ told_idle (refusal f c x) c x file)
  idle_by (effect_shows s turn free moved found same own) = idle_as r s turn (found_idle f (table 0) want (seen x file) s found)
  idle_by (effect_starves turn starves before same own) = idle_as r Law.Reply.Memory turn refl
  idle_by (effect_is_full len need turn free fills ready before says same own) = idle_as r (Law.Reply.Full len need) turn refl
  idle_by (effect_is_busy o b turn conflict busies same own) = let two = conflict.conflict in absurd (omega (arith, two))
  idle_by (effect_numbers q turn free counts is same own) = idle_as r (Law.Reply.Number q) turn refl
  idle_by (effect_finishes turn free before same own) = idle_as r Law.Reply.Done turn refl

pub idle_inside : (f : Form) (x y : Own) (c : Command) (n p q : ℕ) (r : Law.Reply) → TurnsInside f x y c n p q r → is_busy r ≡ false
idle_inside f x y c n p q r T =
    idle_by f c x y _ empty empty r
    (T.effect (λ o b. 1) 0 (λ b. 0) empty (record { free = λ o b other. omega arith }) (λ b low high. omega arith))

-- the two tables of replies differ in the number of another opener alone
pub same_reply : (r : Reply) → is_busy (reply_of r) ≡ false → reply_of r ≡ law_reply r
same_reply Reply.Ok idle = refl
same_reply (Reply.Value v) idle = refl
same_reply (Reply.Pair k v) idle = refl
same_reply Reply.End idle = refl
same_reply Reply.KeyMissing idle = refl
same_reply Reply.KeyThere idle = refl
same_reply (Reply.Busy owner byte) idle = absurd (cc idle)
same_reply Reply.ReadOnly idle = refl
same_reply Reply.NoTransaction idle = refl
same_reply Reply.InTransaction idle = refl
same_reply Reply.Nesting idle = refl
same_reply Reply.Doomed idle = refl
same_reply (Reply.HeldLocks count) idle = refl
same_reply Reply.NotLocked idle = refl
same_reply (Reply.Full len need) idle = refl
same_reply Reply.Memory idle = refl
same_reply Reply.Yes idle = refl
same_reply Reply.No idle = refl
same_reply (Reply.Number n) idle = refl
