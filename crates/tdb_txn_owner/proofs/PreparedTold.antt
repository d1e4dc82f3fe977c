-- What a prepared transaction refuses, in the words of the law.
use Rattle.std.proofs.Common.{◌≡◌, ℕ, Bool, true, false, Option, Some, None, refl, sym, ◌∙◌, ap, subst}
use Rattle.std.specs.Prelude.{◌&&◌, if◌then◌else◌}
use Rattle.std.specs.FinMap.{empty}
use Rattle.std.specs.Option.{option_map}
use Rattle.tdb_space.specs.Form.{Form}
use Rattle.tdb_locks.specs.HeldLocks.{nothing_held, HeldLocks}
use Rattle.tdb_locks.specs.declared.turn.Reply.{Reply}
use Rattle.tdb_law.specs.Commands.{Reply as LawReply}
use Rattle.tdb_law.specs.Openers.{Own, Txn}
use Rattle.tdb_law.specs.Refusals.{Refusal, refusal, says}
use Rattle.tdb_law.specs.Refusals.Refusal.{OnlyReads, IsPrepared}
use Rattle.tdb_steps.specs.declared.flag.Flag.TheVariants as Flags
use Rattle.tdb_txn_turns.specs.InsideTxn.Counted.{IsCounted}
use Rattle.tdb_commands.specs.InLaw.{law_command, law_reply, options_of}
use Rattle.tdb_commands.specs.declared.command.Command.{Command}
use Rattle.tdb_commands.specs.declared.command.Command.TheVariants as Given
use Rattle.tdb_commands.specs.declared.options.Options.{Options}
use Rattle.tdb_txn_owner.specs.declared.refusing.Level.{Level}
use Rattle.tdb_txn_owner.specs.Prepared.{prepared_told}
use Rattle.tdb_txn_owner.specs.Refusing.{is_writer, passes_prepared, StandsAt}
use Rattle.tdb_txn_owner.proofs.Started.{counts_none}

-- why a command isn't taken
abbrev pub prepared_why : Options → Command → Refusal
prepared_why o c = if o.read_only && is_writer c then OnlyReads else IsPrepared

-- the law's rows: of a command that reads, and of one that writes
reads : (r : Bool) → Some IsPrepared ≡ Some (if r && false then OnlyReads else IsPrepared)
reads true = refl
reads false = refl

writes : (r : Bool) → (if r then Some OnlyReads else Some IsPrepared) ≡ Some (if r && true then OnlyReads else IsPrepared)
writes true = refl
writes false = refl

-- of an opener whose transaction is prepared
module _ (f : Form) (o : Options) (x : Own) (txn : Txn) (steps : ℕ) (options : x.options ≡ options_of o) (has : x.txn ≡ Some txn) (is : txn.prepared ≡ Some steps) where
  pub why_prepared : (c : Command) → passes_prepared c ≡ false → refusal f (law_command c) x ≡ Some (prepared_why o c)
  unfolding refusal
  why_prepared (Given.Fetch key) other = rw (has, is) (reads o.read_only)
  why_prepared (Given.Has key) other = rw (has, is) (reads o.read_only)
  why_prepared (Given.Store key value Flags.Replace) other = rw (has, is, options) (writes o.read_only)
  why_prepared (Given.Store key value Flags.Insert) other = rw (has, is, options) (writes o.read_only)
  why_prepared (Given.Store key value Flags.Modify) other = rw (has, is, options) (writes o.read_only)
  why_prepared (Given.Append key value) other = rw (has, is, options) (writes o.read_only)
  why_prepared (Given.Delete key) other = rw (has, is, options) (writes o.read_only)
  why_prepared Given.Wipe other = rw (has, is, options) (writes o.read_only)
  why_prepared Given.Check other = rw (has, is) (reads o.read_only)
  why_prepared (Given.ChainLock key) other = rw (has, is) (reads o.read_only)
  why_prepared (Given.ChainLockNb key) other = rw (has, is) (reads o.read_only)
  why_prepared (Given.ChainUnlock key) other = rw (has, is) (reads o.read_only)
  why_prepared Given.LockAll other = rw (has, is) (reads o.read_only)
  why_prepared Given.LockAllRead other = rw (has, is) (reads o.read_only)
  why_prepared Given.UnlockAll other = rw (has, is) (reads o.read_only)
  why_prepared Given.Start other = rw (has, is, options) (writes o.read_only)
  why_prepared Given.Commit other = absurd (cc other)
  why_prepared Given.Prepare other = rw (has, is) (reads o.read_only)
  why_prepared Given.Cancel other = absurd (cc other)
  why_prepared Given.First other = rw (has, is) (reads o.read_only)
  why_prepared Given.Next other = rw (has, is) (reads o.read_only)
  why_prepared Given.EndWalk other = rw (has, is) (reads o.read_only)
  why_prepared Given.Seqnum other = rw (has, is) (reads o.read_only)
  why_prepared Given.Close other = absurd (cc other)

-- each opener is told the same
pub told_prepared : (o : Options) (c : Command) (x : Own) → says x (prepared_why o c) ≡ prepared_told o c
told_prepared o c x = go (o.read_only && is_writer c)
  where
    go : (b : Bool) → says x (if b then OnlyReads else IsPrepared) ≡ (if b then LawReply.ReadOnly else LawReply.InTransaction)
    go true = refl
    go false = refl

-- what the table of refusals tells is that
module _ (f : Form) (o : Options) (c : Command) (other : passes_prepared c ≡ false) where
  txn : Txn
  txn = record { image = empty; depth = 1; doomed = false; prepared = Some 0; changed = false; numbered = false }

  own : Own
  own = record { options = options_of o; live = true; txn = Some txn; counts = empty; all = None; cursor = None }

  abbrev level : Level
  level = record { prepared = true; nested = false; doomed = false; walks = false }

  chosen : (told : Option Reply) → option_map law_reply told ≡ Some (prepared_told o c) → (r : Reply) × (law_reply r ≡ prepared_told o c) × (told ≡ Some r)
  chosen None e = absurd (cc e)
  chosen (Some r) e = (r, (let same : law_reply r ≡ prepared_told o c = cc in same), refl)

  pub prepared_replies : (told : Option Reply) (held : HeldLocks) → held ≡ nothing_held
      → ((x : Own) → StandsAt o level held x → option_map law_reply told ≡ option_map (says x) (refusal f (law_command c) x)) → (r : Reply) × (law_reply r ≡ prepared_told o c) × (told ≡ Some r)
  unfolding txn own
  prepared_replies told held none tells =
      chosen told (tells own (record {
        options = refl;
        txn = txn;
        has = refl;
        prepared = refl;
        nested = refl;
        doomed = refl;
        counted = subst (λ h. IsCounted h own) (sym none) (counts_none own refl refl);
        walks = refl;
      })
      ∙ ap (option_map (says own)) (why_prepared f o own txn 0 refl refl refl c other) ∙ ap (λ r. Some r) (told_prepared o c own))

-- a reply that is told is the one
pub told_none : (told : Option Reply) (r : Reply) → told ≡ None → told ≡ Some r → ⊥
told_none told r none is = let e : ◌≡◌ {A = Option Reply} None (Some r) = sym none ∙ is in cc e

pub told_same : (told : Option Reply) (r s : Reply) → told ≡ Some r → told ≡ Some s → r ≡ s
told_same told r s first second = let e : Some r ≡ Some s = sym first ∙ second in cc
