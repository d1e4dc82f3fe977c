-- The law's table of refusals, by command, of an opener that has a transaction.
use Rattle.std.proofs.Common.{◌≡◌, ℕ, ◌+◌, List, [], ◌∷◌, Bool, true, false, ◌==◌, Option, Some, None, is_some, is_none, nat_lt, refl, sym, ◌∙◌, ap}
use Rattle.std.specs.Prelude.{◌&&◌, ◌||◌, not, if◌then◌else◌}
use Rattle.std.specs.Option.{option_map}
use Rattle.tdb_space.specs.Form.{Form}
use Rattle.tdb_space.specs.Pairs.{home}
use Rattle.tdb_locks.specs.HeldLocks.{HeldLocks, AreCounts, total_of, count_of}
use Rattle.tdb_locks.specs.declared.kind.Kind.{Kind}
use Rattle.tdb_locks.specs.declared.turn.Reply.{Reply}
use Rattle.tdb_law.specs.Commands as Law
use Rattle.tdb_law.specs.Openers.{Own, all_count, count_at}
use Rattle.tdb_law.specs.Refusals.{Refusal, refusal, says, held_count, chain_byte, first_that_applies, has_chains, has_cursor}
use Rattle.tdb_law.specs.Refusals.Refusal.{OnlyReads, IsPrepared, LocksStand, NothingLocked, NeverNests, NoneOpen, IsDoomed}
use Rattle.tdb_steps.specs.declared.flag.Flag.TheVariants as Flags
use Rattle.tdb_txn_turns.specs.InsideTxn.Counted.{all_lock}
use Rattle.tdb_commands.specs.InLaw.{law_command, law_reply}
use Rattle.tdb_commands.specs.declared.command.Command.{Command}
use Rattle.tdb_commands.specs.declared.command.Command.TheVariants as Given
use Rattle.tdb_commands.specs.declared.options.Options.{Options}
use Rattle.tdb_txn_owner.specs.declared.refusing.Level.{Level}
use Rattle.tdb_txn_owner.specs.Refusing.{StandsAt, is_writer, passes_prepared, counted_with, commit_told, inside_told}
use Rattle.tdb_txn_owner.proofs.Counts.{total_counted}

-- the reply to each command
abbrev pub told_in : Form → Options → Level → HeldLocks → Command → Option Reply
told_in f o level held c =
    if o.read_only && is_writer c then Some Reply.ReadOnly else if level.prepared && not (passes_prepared c) then Some Reply.InTransaction else inside_told f level o.nesting held c

-- the law's refusals of each command, by the same facts
abbrev commit_why : Level → HeldLocks → Option Refusal
commit_why level held = if level.doomed then Some IsDoomed else if not level.nested && nat_lt 0 (total_of held) then Some LocksStand else None

abbrev inside_why : Form → Level → Bool → HeldLocks → Command → Option Refusal
inside_why f level nesting held Given.Wipe = if level.walks then Some LocksStand else None
inside_why f level nesting held (Given.ChainUnlock key) = if count_of held (home f key) == 0 then Some NothingLocked else None
inside_why f level nesting held Given.UnlockAll = if is_none held.all then Some NothingLocked else None
inside_why f level nesting held Given.Start = if nesting then None else Some NeverNests
inside_why f level nesting held Given.Commit = commit_why level held
inside_why f level nesting held Given.Prepare = if level.nested then None else commit_why level held
inside_why f level nesting held _ = None

abbrev why_in : Form → Options → Level → HeldLocks → Command → Option Refusal
why_in f o level held c =
    if o.read_only && is_writer c then Some OnlyReads else if level.prepared && not (passes_prepared c) then Some IsPrepared else inside_why f level o.nesting held c

module _ (f : Form) (o : Options) (level : Level) (held : HeldLocks) (x : Own) (A : AreCounts held.chains) (S : StandsAt o level held x) where
  count_is : held_count x ≡ counted_with held level.walks
  count_is = ap (λ n. n + (if is_some x.cursor then 1 else 0)) (total_counted held x A S.counted) ∙ ap (λ b. total_of held + (if b then 1 else 0)) S.walks

  locks_told : Some (law_reply (Reply.HeldLocks (counted_with held level.walks))) ≡ Some (says x LocksStand)
  locks_told = ap (λ n. Some (Law.Reply.HeldLocks n)) (sym count_is)

  -- a reply tells a refusal, or that there is none
  abbrev Tells : Option Reply → Option Refusal → Type 0
  Tells r q = option_map law_reply r ≡ option_map (says x) q

  either : (b : Bool) (r s : Option Reply) (q w : Option Refusal) → Tells r q → Tells s w → Tells (if b then r else s) (if b then q else w)
  either true r s q w first second = first
  either false r s q w first second = second

  commit_tells : Tells (commit_told level held) (commit_why level held)
  commit_tells = either level.doomed _ _ _ _ refl (either (not level.nested && nat_lt 0 (total_of held)) _ _ _ _ locks_told refl)

  inside_tells : (nesting : Bool) (c : Command) → Tells (inside_told f level nesting held c) (inside_why f level nesting held c)
  inside_tells nesting (Given.Fetch key) = refl
  inside_tells nesting (Given.Has key) = refl
  inside_tells nesting (Given.Store key value flag) = refl
  inside_tells nesting (Given.Append key value) = refl
  inside_tells nesting (Given.Delete key) = refl
  inside_tells nesting Given.Wipe = either level.walks _ _ _ _ locks_told refl
  inside_tells nesting Given.Check = refl
  inside_tells nesting (Given.ChainLock key) = refl
  inside_tells nesting (Given.ChainLockNb key) = refl
  inside_tells nesting (Given.ChainUnlock key) = either (count_of held (home f key) == 0) _ _ _ _ refl refl
  inside_tells nesting Given.LockAll = refl
  inside_tells nesting Given.LockAllRead = refl
  inside_tells nesting Given.UnlockAll = either (is_none held.all) _ _ _ _ refl refl
  inside_tells nesting Given.Start = either nesting _ _ _ _ refl refl
  inside_tells nesting Given.Commit = commit_tells
  inside_tells nesting Given.Prepare = either level.nested _ _ _ _ refl commit_tells
  inside_tells nesting Given.Cancel = refl
  inside_tells nesting Given.First = refl
  inside_tells nesting Given.Next = refl
  inside_tells nesting Given.EndWalk = refl
  inside_tells nesting Given.Seqnum = refl
  inside_tells nesting Given.Close = refl

  tells : (c : Command) → Tells (told_in f o level held c) (why_in f o level held c)
  tells c = either (o.read_only && is_writer c) _ _ _ _ refl (either (level.prepared && not (passes_prepared c)) _ _ _ _ refl (inside_tells o.nesting c))

  -- the law's rows: of a command that reads, of one that writes, and of one that a prepared transaction takes
  reads : (r p : Bool) (q : Option Refusal) → (if p then Some IsPrepared else q) ≡ (if r && false then Some OnlyReads else if p && true then Some IsPrepared else q)
  reads true true q = refl
  reads true false q = refl
  reads false true q = refl
  reads false false q = refl

  writes : (r p : Bool) (q : Option Refusal) → (if r then Some OnlyReads else if p then Some IsPrepared else q) ≡ (if r && true then Some OnlyReads else if p && true then Some IsPrepared else q)
  writes true p q = refl
  writes false true q = refl
  writes false false q = refl

  passes : (r p : Bool) (q : Option Refusal) → q ≡ (if r && false then Some OnlyReads else if p && false then Some IsPrepared else q)
  passes true true q = refl
  passes true false q = refl
  passes false true q = refl
  passes false false q = refl

  or_false : (w : Bool) → (w || false || false) ≡ w
  or_false true = refl
  or_false false = refl

  count_here : (key : List ℕ) → count_at x (chain_byte f key) ≡ count_of held (home f key)
  count_here key = S.counted.chains (home f key)

  -- of a Prepare inside a transaction
  prepare_row : (p n d l : Bool)
      → first_that_applies ((false, NoneOpen) ∷ (p, IsPrepared) ∷ (if n then [] else (false, NoneOpen) ∷ (d, IsDoomed) ∷ (not n && l, LocksStand) ∷ []))
      ≡ (if p then Some IsPrepared else if n then None else if d then Some IsDoomed else if not n && l then Some LocksStand else None)
  prepare_row true n d l = refl
  prepare_row false true d l = refl
  prepare_row false false d l = refl

  -- of an unlock of all records inside a transaction
  unlock_row : (all : Option (Kind × ℕ)) (z : Bool)
      → first_that_applies ((not (is_some (all_lock all)), NothingLocked) ∷ ((all_count (all_lock all) == 1) && false && z, LocksStand) ∷ []) ≡ (if is_none all then Some NothingLocked else None)
  unlock_row None z = refl
  unlock_row (Some a) z = go (a.1 == 1)
    where
      go : (b : Bool) → ◌≡◌ {A = Option Refusal} (if b && false && z then Some LocksStand else None) None
      go true = refl
      go false = refl

  why_of : (c : Command) → refusal f (law_command c) x ≡ why_in f o level held c
  unfolding refusal
  why_of (Given.Fetch key) = rw (S.has, S.prepared) (reads o.read_only level.prepared None)
  why_of (Given.Has key) = rw (S.has, S.prepared) (reads o.read_only level.prepared None)
  why_of (Given.Store key value Flags.Replace) = rw (S.has, S.options, S.prepared) (writes o.read_only level.prepared None)
  why_of (Given.Store key value Flags.Insert) = rw (S.has, S.options, S.prepared) (writes o.read_only level.prepared None)
  why_of (Given.Store key value Flags.Modify) = rw (S.has, S.options, S.prepared) (writes o.read_only level.prepared None)
  why_of (Given.Append key value) = rw (S.has, S.options, S.prepared) (writes o.read_only level.prepared None)
  why_of (Given.Delete key) = rw (S.has, S.options, S.prepared) (writes o.read_only level.prepared None)
  why_of Given.Wipe =
      rw (S.has, S.options, S.prepared, S.walks)
      (ap (λ b. if o.read_only then Some OnlyReads else if level.prepared then Some IsPrepared else if b then Some LocksStand else None) (or_false level.walks)
      ∙ writes o.read_only level.prepared (if level.walks then Some LocksStand else None))
  why_of Given.Check = rw (S.has, S.prepared) (reads o.read_only level.prepared None)
  why_of (Given.ChainLock key) = rw (S.has, S.prepared) (reads o.read_only level.prepared None)
  why_of (Given.ChainLockNb key) = rw (S.has, S.prepared) (reads o.read_only level.prepared None)
  why_of (Given.ChainUnlock key) = rw (S.has, S.prepared, count_here key) (reads o.read_only level.prepared (if count_of held (home f key) == 0 then Some NothingLocked else None))
  why_of Given.LockAll = rw (S.has, S.prepared) (reads o.read_only level.prepared None)
  why_of Given.LockAllRead = rw (S.has, S.prepared) (reads o.read_only level.prepared None)
  why_of Given.UnlockAll =
      rw (S.has, S.prepared, S.counted.all)
      (ap (λ q. if level.prepared then Some IsPrepared else q) (unlock_row held.all (has_chains x || has_cursor x))
      ∙ reads o.read_only level.prepared (if is_none held.all then Some NothingLocked else None))
  why_of Given.Start =
      rw (S.has, S.options, S.prepared)
      (ap (λ q. if o.read_only then Some OnlyReads else if level.prepared then Some IsPrepared else q) (nests o.nesting)
      ∙ writes o.read_only level.prepared (if o.nesting then None else Some NeverNests))
    where
      nests : (b : Bool) → ◌≡◌ {A = Option Refusal} (if not b then Some NeverNests else None) (if b then None else Some NeverNests)
      nests true = refl
      nests false = refl
  why_of Given.Commit = rw (S.has, S.doomed, S.nested, total_counted held x A S.counted) (passes o.read_only level.prepared (commit_why level held))
  why_of Given.Prepare =
      rw (S.has, S.prepared, S.nested, S.doomed, total_counted held x A S.counted)
      (prepare_row level.prepared level.nested level.doomed (nat_lt 0 (total_of held)) ∙ reads o.read_only level.prepared (if level.nested then None else commit_why level held))
  why_of Given.Cancel = rw S.has (passes o.read_only level.prepared None)
  why_of Given.First = rw (S.has, S.prepared) (reads o.read_only level.prepared None)
  why_of Given.Next = rw (S.has, S.prepared) (reads o.read_only level.prepared None)
  why_of Given.EndWalk = rw (S.has, S.prepared) (reads o.read_only level.prepared None)
  why_of Given.Seqnum = rw (S.has, S.prepared) (reads o.read_only level.prepared None)
  why_of Given.Close = passes o.read_only level.prepared None

  -- the table is the law's
  pub told_law : (c : Command) → option_map law_reply (told_in f o level held c) ≡ option_map (says x) (refusal f (law_command c) x)
  told_law c = tells c ∙ ap (option_map (says x)) (sym (why_of c))
