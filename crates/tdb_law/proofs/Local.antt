-- Every command is local: reply, map and opener afterwards depend on the keys of the file that it reads alone, and only
-- keys that it touches change.
use Rattle.std.proofs.Common.{◌≡◌, ℕ, List, Bool, true, false, cond, Option, Some, None, is_none, refl, ap}
use Rattle.std.specs.Prelude.{◌&&◌}
use Rattle.std.specs.FinMap.{get}
use Rattle.tdb_space.specs.Form.{Form}
use Rattle.tdb_law.specs.Commands.{MapCommand, Command, Reply, is_spare}
use Rattle.tdb_law.specs.Commands.GroupCommand.{Start, Commit, Prepare, Cancel}
use Rattle.tdb_law.specs.Commands.WalkCommand.{First, Next, EndWalk, Close}
use Rattle.tdb_law.specs.Commands.Command.{OnMap, OnLocks, Seqnum, OnGroup, OnWalk}
use Rattle.tdb_law.specs.Openers.{Own, Txn, Map, image_or, outside}
use Rattle.tdb_law.specs.MapCommands.{reply, after, map_reads, map_touches}
use Rattle.tdb_law.specs.Refusals.{Refusal, refusal, says}
use Rattle.tdb_law.specs.Refusals.Refusal.{OnlyReads, IsPrepared, LocksStand, NothingLocked, NeverNests, NoneOpen, IsDoomed}
use Rattle.tdb_law.specs.Rows.{changed_by, is_changed}
use Rattle.tdb_law.specs.Outcomes.{told_by, told, map_by, map_after, reads_by, reads, touches_by, touches, own_by, own_after, own_started, commits, moves_by, counts_by, busies_by}
use Rattle.tdb_law.proofs.Maps.{reply_same, after_same, after_untouched, reply_plain, touches_reads, maps_equal}

-- two maps agree at the keys that a command reads
abbrev pub AgreeBy : Option Refusal → Command → Own → Map → Map → Type 0
AgreeBy q c x m n = (k : List ℕ) → reads_by q c x k ≡ true → get m k ≡ get n k

reply_in : (c : MapCommand) (o : Option Txn) (m n : Map) → ((k : List ℕ) → is_none o && map_reads c k ≡ true → get m k ≡ get n k) → reply c (image_or o m) ≡ reply c (image_or o n)
reply_in c None m n agree = reply_same c m n agree
reply_in c (Some t) m n agree = refl

same_told_by : (q : Option Refusal) (c : Command) (x : Own) (m n : Map) → AgreeBy q c x m n → told_by q c x m ≡ told_by q c x n
same_told_by (Some q) c x m n agree = refl
same_told_by None (OnMap c) x m n agree = reply_in c x.txn m n agree
same_told_by None (OnLocks c) x m n agree = refl
same_told_by None Seqnum x m n agree = refl
same_told_by None (OnGroup c) x m n agree = refl
same_told_by None (OnWalk c) x m n agree = refl

after_in : (c : MapCommand) (o : Option Txn) (m n : Map) → ((k : List ℕ) → is_none o && map_reads c k ≡ true → get m k ≡ get n k)
    → (k : List ℕ) → is_none o && map_touches c k ≡ true → get (cond (is_none o) (after c m) m) k ≡ get (cond (is_none o) (after c n) n) k
after_in c None m n agree k e = after_same c m n agree k e
after_in c (Some t) m n agree k e = cc

commit_in : (o : Option Txn) (m n : Map) (k : List ℕ) → commits o ≡ true → get (cond (commits o) (image_or o m) m) k ≡ get (cond (commits o) (image_or o n) n) k
commit_in None m n k e = cc
commit_in (Some t) m n k e = rw e refl

same_after_by : (q : Option Refusal) (c : Command) (x : Own) (m n : Map) → AgreeBy q c x m n → (k : List ℕ) → touches_by q c x k ≡ true → get (map_by q c x m) k ≡ get (map_by q c x n) k
same_after_by (Some q) c x m n agree k e = cc
same_after_by None (OnMap c) x m n agree k e = after_in c x.txn m n agree k e
same_after_by None (OnLocks c) x m n agree k e = cc
same_after_by None Seqnum x m n agree k e = cc
same_after_by None (OnGroup Start) x m n agree k e = cc
same_after_by None (OnGroup Commit) x m n agree k e = commit_in x.txn m n k e
same_after_by None (OnGroup Prepare) x m n agree k e = cc
same_after_by None (OnGroup Cancel) x m n agree k e = cc
same_after_by None (OnWalk c) x m n agree k e = cc

else_in : (c : MapCommand) (o : Option Txn) (m : Map) (k : List ℕ) → is_none o && map_touches c k ≡ false → get (cond (is_none o) (after c m) m) k ≡ get m k
else_in c None m k e = after_untouched c m k e
else_in c (Some t) m k e = refl

untouched_by : (q : Option Refusal) (c : Command) (x : Own) (m : Map) (k : List ℕ) → touches_by q c x k ≡ false → get (map_by q c x m) k ≡ get m k
untouched_by (Some q) c x m k e = refl
untouched_by None (OnMap c) x m k e = else_in c x.txn m k e
untouched_by None (OnLocks c) x m k e = refl
untouched_by None Seqnum x m k e = refl
untouched_by None (OnGroup Start) x m k e = refl
untouched_by None (OnGroup Commit) x m k e = rw e refl
untouched_by None (OnGroup Prepare) x m k e = refl
untouched_by None (OnGroup Cancel) x m k e = refl
untouched_by None (OnWalk c) x m k e = refl

reads_in : (c : MapCommand) (o : Bool) (k : List ℕ) → o && map_touches c k ≡ true → o && map_reads c k ≡ true
reads_in c true k e = touches_reads c k e
reads_in c false k e = e

reads_touched_by : (q : Option Refusal) (c : Command) (x : Own) (k : List ℕ) → touches_by q c x k ≡ true → reads_by q c x k ≡ true
reads_touched_by (Some q) c x k e = e
reads_touched_by None (OnMap c) x k e = reads_in c (outside x) k e
reads_touched_by None (OnLocks c) x k e = e
reads_touched_by None Seqnum x k e = e
reads_touched_by None (OnGroup Start) x k e = cc
reads_touched_by None (OnGroup Commit) x k e = e
reads_touched_by None (OnGroup Prepare) x k e = e
reads_touched_by None (OnGroup Cancel) x k e = e
reads_touched_by None (OnWalk c) x k e = e

-- no plain reply is want of memory or space, nor that a lock is held
says_plainly : (x : Own) (q : Refusal) → is_spare (says x q) ≡ false
says_plainly x OnlyReads = refl
says_plainly x IsPrepared = refl
says_plainly x LocksStand = refl
says_plainly x NothingLocked = refl
says_plainly x NeverNests = refl
says_plainly x NoneOpen = refl
says_plainly x IsDoomed = refl

told_plain_by : (q : Option Refusal) (c : Command) (x : Own) (m : Map) → is_spare (told_by q c x m) ≡ false
told_plain_by (Some q) c x m = says_plainly x q
told_plain_by None (OnMap c) x m = reply_plain c (image_or x.txn m)
told_plain_by None (OnLocks c) x m = refl
told_plain_by None Seqnum x m = refl
told_plain_by None (OnGroup c) x m = refl
told_plain_by None (OnWalk First) x m = refl
told_plain_by None (OnWalk Next) x m = refl
told_plain_by None (OnWalk EndWalk) x m = refl
told_plain_by None (OnWalk Close) x m = refl

-- a Start outside a transaction reads all, and takes the map
started_in : (o : Option Txn) (x : Own) (m n : Map) → ((k : List ℕ) → is_none o ≡ true → get m k ≡ get n k) → own_started o x m ≡ own_started o x n
started_in None x m n agree = ap (own_started None x) (maps_equal m n (λ k. agree k refl))
started_in (Some t) x m n agree = refl

same_own_by : (f : Form) (q : Option Refusal) (c : Command) (x : Own) (steps : ℕ) (r : Reply) (m n : Map) → AgreeBy q c x m n → own_by f q c x steps r m ≡ own_by f q c x steps r n
same_own_by f (Some q) c x steps r m n agree = refl
same_own_by f None (OnMap c) x steps r m n agree = refl
same_own_by f None (OnLocks c) x steps r m n agree = refl
same_own_by f None Seqnum x steps r m n agree = refl
same_own_by f None (OnGroup Start) x steps r m n agree = started_in x.txn x m n agree
same_own_by f None (OnGroup Commit) x steps r m n agree = refl
same_own_by f None (OnGroup Prepare) x steps r m n agree = refl
same_own_by f None (OnGroup Cancel) x steps r m n agree = refl
same_own_by f None (OnWalk c) x steps r m n agree = refl

-- of a command whose change the file has: it neither moves, nor counts, nor meets a held lock; and the opener
-- afterwards doesn't depend on the map
pub record Changing (f : Form) (q : Option Refusal) (c : Command) (x : Own) : Type 0 where
  pub moves : moves_by q c x ≡ false
  pub counts : counts_by q c ≡ false
  pub busies : busies_by q c ≡ false
  pub own : (steps : ℕ) (r : Reply) (m n : Map) → own_by f q c x steps r m ≡ own_by f q c x steps r n

changing_by : (f : Form) (q : Option Refusal) (c : Command) (x : Own) (n : ℕ) → changed_by q c x n ≡ true → Changing f q c x
changing_by f (Some q) c x n e = absurd_of e
  where
    absurd_of : false ≡ true → Changing f (Some q) c x
    absurd_of e = cc
changing_by f None (OnMap c) x n e = record { moves = refl; counts = refl; busies = refl; own = λ steps r m z. refl }
changing_by f None (OnLocks c) x n e = cc
changing_by f None Seqnum x n e = cc
changing_by f None (OnGroup Start) x n e = cc
changing_by f None (OnGroup Commit) x n e = record { moves = refl; counts = refl; busies = refl; own = λ steps r m z. refl }
changing_by f None (OnGroup Prepare) x n e = cc
changing_by f None (OnGroup Cancel) x n e = cc
changing_by f None (OnWalk c) x n e = cc

module _ (f : Form) (c : Command) (x : Own) where
  -- two maps agree at the keys that the command reads
  abbrev pub Agree : Map → Map → Type 0
  Agree m n = (k : List ℕ) → reads f c x k ≡ true → get m k ≡ get n k

  pub same_told : (m n : Map) → Agree m n → told f c x m ≡ told f c x n
  same_told m n agree = same_told_by (refusal f c x) c x m n agree

  pub same_after : (m n : Map) → Agree m n → (k : List ℕ) → touches f c x k ≡ true → get (map_after f c x m) k ≡ get (map_after f c x n) k
  same_after m n agree k e = same_after_by (refusal f c x) c x m n agree k e

  pub untouched : (m : Map) (k : List ℕ) → touches f c x k ≡ false → get (map_after f c x m) k ≡ get m k
  untouched m k e = untouched_by (refusal f c x) c x m k e

  pub reads_touched : (k : List ℕ) → touches f c x k ≡ true → reads f c x k ≡ true
  reads_touched k e = reads_touched_by (refusal f c x) c x k e

  pub told_plain : (m : Map) → is_spare (told f c x m) ≡ false
  told_plain m = told_plain_by (refusal f c x) c x m

  pub same_own : (steps : ℕ) (r : Reply) (m n : Map) → Agree m n → own_after f c x steps r m ≡ own_after f c x steps r n
  same_own steps r m n agree = same_own_by f (refusal f c x) c x steps r m n agree

  pub changing : (n : ℕ) → is_changed f c x n ≡ true → Changing f (refusal f c x) c x
  unfolding is_changed
  changing n e = changing_by f (refusal f c x) c x n e
