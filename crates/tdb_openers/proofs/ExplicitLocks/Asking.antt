-- The law's table of refusals, by command, of an opener without a transaction.
use Rattle.std.proofs.Common.{◌≡◌, ℕ, [], ◌∷◌, Bool, true, false, ◌==◌, Option, Some, None, is_some, is_none, nat_lt, refl, sym, ◌∙◌, ap, ◌+◌, arith}
use Rattle.std.proofs.lemmas.Bool.Decides.{nat_tests}
use Rattle.std.specs.Prelude.{◌&&◌, ◌||◌, not, if◌then◌else◌}
use Rattle.std.specs.Option.{option_map}
use Rattle.tdb_space.specs.Form.{Form}
use Rattle.tdb_space.specs.Pairs.{home}
use Rattle.tdb_locks.specs.HeldLocks.{HeldLocks, AreCounts, total_of, count_of}
use Rattle.tdb_locks.specs.declared.kind.Kind.{Kind}
use Rattle.tdb_locks.specs.declared.kind.Kind.TheVariants.{Read, Write}
use Rattle.tdb_locks.specs.declared.turn.Reply.{Reply}
use Rattle.tdb_law.specs.Commands as Law
use Rattle.tdb_law.specs.Openers.{Own, all_count}
use Rattle.tdb_law.specs.Refusals.{refusal, says, has_chains, has_all, first_that_applies}
use Rattle.tdb_law.specs.Refusals.Refusal.{OnlyReads, LocksStand, NothingLocked}
use Rattle.tdb_steps.specs.declared.flag.Flag.TheVariants as Flags
use Rattle.tdb_commands.specs.InLaw.{law_command, law_reply}
use Rattle.tdb_commands.specs.declared.command.Command.{Command}
use Rattle.tdb_commands.specs.declared.command.Command.TheVariants as Given
use Rattle.tdb_commands.specs.declared.options.Options.{Options}
use Rattle.tdb_openers.specs.Openers.{AtRest, own_with, all_of}
use Rattle.tdb_openers.specs.Given.{held_count, holds_chains, reads_records, unlock_told, unlock_all_told}
use Rattle.tdb_openers.proofs.ExplicitLocks.Owned.{has_read, own_has, own_count, own_total}

-- the reply where locks or a cursor stand in the way, and to a change
abbrev pub held_told : HeldLocks → Bool → Bool → Option Reply
held_told held walks stand = if stand then Some (Reply.HeldLocks (held_count held walks)) else None

abbrev pub change_told : Bool → HeldLocks → Bool → Bool → Option Reply
change_told read_only held walks stand = if read_only then Some Reply.ReadOnly else held_told held walks stand

-- the reply to each command, of an opener with or without a cursor
abbrev pub told_in : Form → Bool → HeldLocks → Bool → Command → Option Reply
told_in f read_only held walks (Given.Store key value flag) = change_told read_only held walks (reads_records held.all)
told_in f read_only held walks (Given.Append key value) = change_told read_only held walks (reads_records held.all)
told_in f read_only held walks (Given.Delete key) = change_told read_only held walks (reads_records held.all)
told_in f read_only held walks Given.Wipe = change_told read_only held walks (walks || holds_chains held || reads_records held.all)
told_in f read_only held walks Given.Check = held_told held walks (holds_chains held || walks)
told_in f read_only held walks (Given.ChainLock key) = held_told held walks (reads_records held.all)
told_in f read_only held walks (Given.ChainLockNb key) = held_told held walks (reads_records held.all)
told_in f read_only held walks (Given.ChainUnlock key) = if count_of held (home f key) == 0 then Some Reply.NotLocked else None
told_in f read_only held walks Given.LockAll = held_told held walks (reads_records held.all || (is_none held.all && (holds_chains held || walks)))
told_in f read_only held walks Given.LockAllRead = held_told held walks (is_none held.all && (holds_chains held || walks))
told_in f read_only held walks Given.UnlockAll = unlock_all_told held walks
told_in f read_only held walks Given.Start = change_told read_only held walks (nat_lt 0 (total_of held) || walks)
told_in f read_only held walks Given.Commit = Some Reply.NoTransaction
told_in f read_only held walks Given.Prepare = Some Reply.NoTransaction
told_in f read_only held walks Given.Cancel = Some Reply.NoTransaction
told_in f read_only held walks _ = None

and_true : (b : Bool) → b && true ≡ b
and_true true = refl
and_true false = refl

-- what stands in the way of a lock of all records for writing
lock_all_stands : (all : Option (Kind × ℕ)) (chains walks : Bool) → not (has_all (all_of all) 2) && (chains || is_some (all_of all) || walks) ≡ reads_records all || (is_none all && (chains || walks))
lock_all_stands None true walks = refl
lock_all_stands None false walks = refl
lock_all_stands (Some (Read, count)) true walks = refl
lock_all_stands (Some (Read, count)) false walks = refl
lock_all_stands (Some (Write, count)) true walks = refl
lock_all_stands (Some (Write, count)) false walks = refl

lock_all_read_stands : (all : Option (Kind × ℕ)) (chains walks : Bool) → not (is_some (all_of all)) && (chains || walks) ≡ is_none all && (chains || walks)
lock_all_read_stands None chains walks = refl
lock_all_read_stands (Some all) chains walks = refl

-- a count of locks and of a cursor is some where one of them is
some_counted : (n : ℕ) (walks : Bool) → nat_lt 0 n || walks ≡ nat_lt 0 (n + (if walks then 1 else 0))
some_counted n true = let e : nat_lt 0 (n + 1) ≡ true = grind (arith, nat_tests) in elim (nat_lt 0 n) as (λ t. t || true ≡ nat_lt 0 (n + 1)) [ true ↦ sym e | false ↦ sym e ]
some_counted n false = elim (nat_lt 0 n) as (λ t. t || false ≡ t) [ true ↦ refl | false ↦ refl ] ∙ ap (λ m. nat_lt 0 m) (omega arith)

module _ (f : Form) (options : Options) (live : Bool) (held : HeldLocks) (rest : AtRest) (counts : AreCounts held.chains) where
  -- the opener in the law's words
  abbrev pub own : Own
  own = own_with options live held rest

  told_held : (t u : Bool) → t ≡ u → option_map law_reply (held_told held (is_some rest.shown) t) ≡ option_map (says own) (if u then Some LocksStand else None)
  told_held true true e = ap (λ n. Some (Law.Reply.HeldLocks n)) (sym (own_total options live held rest counts))
  told_held false false e = refl
  told_held true false e = absurd (cc e)
  told_held false true e = absurd (cc e)

  told_change : (r t u : Bool) → t ≡ u → option_map law_reply (change_told r held (is_some rest.shown) t) ≡ option_map (says own) (if r then Some OnlyReads else (if u then Some LocksStand else None))
  told_change true t u e = refl
  told_change false t u e = told_held t u e

  told_unlock : (n m : ℕ) → n ≡ m → option_map law_reply (if n == 0 then Some Reply.NotLocked else None) ≡ option_map (says own) (if m == 0 then Some NothingLocked else None)
  told_unlock n m e = at (n == 0) (m == 0) (ap (λ x. x == 0) e)
    where
      at : (t u : Bool) → t ≡ u → option_map law_reply (if t then Some Reply.NotLocked else None) ≡ option_map (says own) (if u then Some NothingLocked else None)
      at true true e = refl
      at false false e = refl
      at true false e = absurd (cc e)
      at false true e = absurd (cc e)

  told_unlock_all : (all : Option (Kind × ℕ)) → option_map law_reply (unlock_told held (is_some rest.shown) all)
      ≡ option_map (says own) (first_that_applies ((not (is_some (all_of all)), NothingLocked) ∷ ((all_count (all_of all) == 1) && true && (has_chains own || is_some rest.shown), LocksStand) ∷ []))
  told_unlock_all None = refl
  told_unlock_all (Some all) = told_held ((all.1 == 1) && (holds_chains held || is_some rest.shown)) ((all.1 == 1) && true && (has_chains own || is_some rest.shown))
      (ap (λ b. (all.1 == 1) && (b || is_some rest.shown)) (sym (own_has options live held rest counts)) ∙ ap (λ b. b && (has_chains own || is_some rest.shown)) (sym (and_true (all.1 == 1))))

  -- what stands in the way, by whether chains are held
  stands_by : (by : Bool → Bool) (u : Bool) → u ≡ by (has_chains own) → by (holds_chains held) ≡ u
  stands_by by u e = ap by (sym (own_has options live held rest counts)) ∙ sym e

  -- the table is the law's
  pub told_law : (c : Command) → option_map law_reply (told_in f options.read_only held (is_some rest.shown) c) ≡ option_map (says own) (refusal f (law_command c) own)
  unfolding refusal
  told_law (Given.Fetch key) = refl
  told_law (Given.Has key) = refl
  told_law (Given.Store key value Flags.Replace) = told_change options.read_only _ _ (sym (has_read held.all))
  told_law (Given.Store key value Flags.Insert) = told_change options.read_only _ _ (sym (has_read held.all))
  told_law (Given.Store key value Flags.Modify) = told_change options.read_only _ _ (sym (has_read held.all))
  told_law (Given.Append key value) = told_change options.read_only _ _ (sym (has_read held.all))
  told_law (Given.Delete key) = told_change options.read_only _ _ (sym (has_read held.all))
  told_law Given.Wipe = told_change options.read_only _ _ (ap (λ b. is_some rest.shown || b || reads_records held.all) (sym (own_has options live held rest counts)) ∙ ap (λ b. is_some rest.shown || has_chains own || b) (sym (has_read held.all)))
  told_law Given.Check = told_held _ _ (ap (λ b. b || is_some rest.shown) (sym (own_has options live held rest counts)))
  told_law (Given.ChainLock key) = told_held _ _ (sym (has_read held.all))
  told_law (Given.ChainLockNb key) = told_held _ _ (sym (has_read held.all))
  told_law (Given.ChainUnlock key) = told_unlock _ _ (sym (own_count options live held rest counts (home f key)))
  told_law Given.LockAll = told_held _ _ (stands_by (λ b. reads_records held.all || (is_none held.all && (b || is_some rest.shown))) _ (lock_all_stands held.all (has_chains own) (is_some rest.shown)))
  told_law Given.LockAllRead = told_held _ _ (stands_by (λ b. is_none held.all && (b || is_some rest.shown)) _ (lock_all_read_stands held.all (has_chains own) (is_some rest.shown)))
  told_law Given.UnlockAll = told_unlock_all held.all
  told_law Given.Start = told_change options.read_only _ _ (some_counted (total_of held) (is_some rest.shown) ∙ ap (λ n. nat_lt 0 n) (sym (own_total options live held rest counts)))
  told_law Given.Commit = refl
  told_law Given.Prepare = refl
  told_law Given.Cancel = refl
  told_law Given.First = refl
  told_law Given.Next = refl
  told_law Given.EndWalk = refl
  told_law Given.Seqnum = refl
  told_law Given.Close = refl
