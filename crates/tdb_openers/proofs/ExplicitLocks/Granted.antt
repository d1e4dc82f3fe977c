-- What an opener's explicit locks are where a command isn't refused.
use Rattle.std.proofs.Common.{◌≡◌, ℕ, ◌+◌, ◌*◌, ◌<◌, List, Bool, true, false, ◌==◌, Option, Some, None, is_none, is_some, unwrap_or, refl, sym, ◌∙◌, ap, arith}
use Rattle.std.specs.Prelude.{◌&&◌, ◌||◌, if◌then◌else◌}
use Rattle.std.specs.Option.{option_map}
use Rattle.std.proofs.lemmas.Bool.Decides.{nat_tests}
use Rattle.tdb_space.specs.Form.{Form}
use Rattle.tdb_space.specs.Pairs.{home}
use Rattle.tdb_locks.specs.HeldLocks.{HeldLocks, AreCounts, count_of}
use Rattle.tdb_locks.specs.declared.kind.Kind.{Kind}
use Rattle.tdb_locks.specs.declared.kind.Kind.TheVariants.{Read, Write}
use Rattle.tdb_locks.specs.declared.turn.Reply.{Reply}
use Rattle.tdb_law.specs.Commands as Law
use Rattle.tdb_law.specs.Refusals.{refusal, says}
use Rattle.tdb_law.specs.Held.{kept, all_held}
use Rattle.tdb_commands.specs.InLaw.{law_command, law_reply}
use Rattle.tdb_commands.specs.declared.command.Command.{Command}
use Rattle.tdb_commands.specs.declared.command.Command.TheVariants as Given
use Rattle.tdb_steps.specs.Holdings.{strength}
use Rattle.tdb_steps.specs.LockRows.{covers_all}
use Rattle.tdb_commands.specs.declared.options.Options.{Options}
use Rattle.tdb_openers.specs.Openers.{AtRest, own_with, all_of}
use Rattle.tdb_openers.specs.Given.{holds_chains, reads_records, unlock_all_told, IsWellHeld}
use Rattle.tdb_openers.specs.Turning.{StandsWell, resting}
use Rattle.tdb_commands.proofs.Counts.{no_chain}
use Rattle.tdb_openers.proofs.Walks.Rests.{stand_between}
use Rattle.tdb_openers.proofs.ExplicitLocks.Asking.{told_in, told_law}
use Rattle.tdb_openers.proofs.ExplicitLocks.Keeping.{kept_is, counts_keep, none_keep}
use Rattle.tdb_openers.proofs.ExplicitLocks.Beside.{no_counts}

untold : (o : Option Reply) → option_map law_reply o ≡ None → o ≡ None
untold None e = refl
untold (Some r) e = absurd (cc e)

pub not_told : (t : Bool) (r : Reply) → ◌≡◌ {A = Option Reply} (if t then Some r else None) None → t ≡ false
not_told true r e = absurd (cc e)
not_told false r e = refl

-- nothing is held where the strength is none
pub none_held_there : (o : Option Kind) → strength o ≡ 0 → o ≡ None
none_held_there None e = refl
none_held_there (Some Read) e = absurd (omega (arith, e))
none_held_there (Some Write) e = absurd (omega (arith, e))

module _ (f : Form) (options : Options) (live : Bool) (held : HeldLocks) (rest : AtRest) (counts : AreCounts held.chains) where
  pub untold_of : (c : Command) → refusal f (law_command c) (own_with options live held rest) ≡ None → told_in f options.read_only held (is_some rest.shown) c ≡ None
  untold_of c R = untold (told_in f options.read_only held (is_some rest.shown) c) (told_law f options live held rest counts c ∙ ap (option_map (says (own_with options live held rest))) R)

  pub chain_granted : (key : List ℕ) → refusal f (Law.Command.OnLocks (Law.LockCommand.ChainLock key)) (own_with options live held rest) ≡ None → reads_records held.all ≡ false
  chain_granted key R = not_told (reads_records held.all) _ (untold_of (Given.ChainLock key) R)

  pub chain_nb_granted : (key : List ℕ) → refusal f (Law.Command.OnLocks (Law.LockCommand.ChainLockNb key)) (own_with options live held rest) ≡ None → reads_records held.all ≡ false
  chain_nb_granted key R = not_told (reads_records held.all) _ (untold_of (Given.ChainLockNb key) R)

  pub unchain_granted : (key : List ℕ) → refusal f (Law.Command.OnLocks (Law.LockCommand.ChainUnlock key)) (own_with options live held rest) ≡ None → 0 < count_of held (home f key)
  unchain_granted key R = let e = not_told (count_of held (home f key) == 0) _ (untold_of (Given.ChainUnlock key) R) in grind (arith, nat_tests)

  pub all_granted : refusal f (Law.Command.OnLocks Law.LockCommand.LockAll) (own_with options live held rest) ≡ None
      → reads_records held.all || (is_none held.all && (holds_chains held || is_some rest.shown)) ≡ false
  all_granted R = not_told (reads_records held.all || (is_none held.all && (holds_chains held || is_some rest.shown))) _ (untold_of Given.LockAll R)

  pub all_read_granted : refusal f (Law.Command.OnLocks Law.LockCommand.LockAllRead) (own_with options live held rest) ≡ None
      → is_none held.all && (holds_chains held || is_some rest.shown) ≡ false
  all_read_granted R = not_told (is_none held.all && (holds_chains held || is_some rest.shown)) _ (untold_of Given.LockAllRead R)

  pub unlock_all_granted : refusal f (Law.Command.OnLocks Law.LockCommand.UnlockAll) (own_with options live held rest) ≡ None → unlock_all_told held (is_some rest.shown) ≡ None
  unlock_all_granted R = untold_of Given.UnlockAll R

  -- between chains nothing is kept where all records aren't
  pub between_bare : StandsWell f rest.shown rest.stands → (chain b : ℕ) → b + 1 ≡ 168 + 4 * chain → held.all ≡ None → kept f (own_with options live held rest) (resting rest) b ≡ 0
  between_bare K chain b next none =
      let whole = kept_is f (own_with options live held rest) (resting rest) refl b in
      let off = stand_between f rest.shown rest.stands b K (omega (arith, next)) in
      let bare = ap (λ o. counts_keep f (unwrap_or o 0) b) (no_chain held.chains b (λ c e. omega (arith, next, e))) ∙ none_keep f b in
      let zero_all = ap (λ o. all_held (all_of o) b) none in
      omega (arith, whole, bare, zero_all, off)

-- who holds a chain and not all records for writing holds no records
pub all_none : (held : HeldLocks) (chain : ℕ) → IsWellHeld held → 0 < count_of held chain → covers_all held.all Write ≡ false → held.all ≡ None
all_none held chain W some bare = at held.all refl
  where
    at : (all : Option (Kind × ℕ)) → held.all ≡ all → held.all ≡ None
    at None e = e
    at (Some (Write, n)) e = absurd (let c : ◌≡◌ {A = Bool} true false = sym (ap (λ o. covers_all o Write) e) ∙ bare in cc c)
    at (Some (Read, n)) e = absurd (let none = no_counts held (W.apart (ap reads_records e)) chain in omega (arith, none, some))
