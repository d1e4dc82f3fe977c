-- The first byte that a command wants at its next turn, where it has locked nothing yet and its cursor stands on no
-- record.
use Rattle.std.proofs.Common.{◌≡◌, ℕ, ◌+◌, ◌*◌, ◌<◌, ◌≤◌, ◌^◌, max, List, [], true, false, None, nat_le, is_none, refl, sym, ◌∙◌, ap, arith, le_refl}
use Rattle.std.specs.Prelude.{if◌then◌else◌}
use Rattle.std.proofs.lemmas.Bool.{lt-leb}
use Rattle.tdb_space.specs.Form.{Form}
use Rattle.tdb_space.specs.Pairs.{home}
use Rattle.tdb_space.proofs.Pairs.Maps.{home_below}
use Rattle.tdb_locks.specs.declared.kind.Kind.{Kind}
use Rattle.tdb_locks.specs.declared.kind.Kind.TheVariants.{Read, Write}
use Rattle.tdb_law.specs.Commands.{MapCommand, LockCommand}
use Rattle.tdb_law.specs.Commands.MapCommand.{Check}
use Rattle.tdb_law.specs.Commands.LockCommand.{ChainLock, ChainLockNb, LockAll, LockAllRead}
use Rattle.tdb_law.specs.Commands.Command.{OnMap, OnLocks}
use Rattle.tdb_law.specs.Openers.{Own, Spot, View}
use Rattle.tdb_law.specs.Refusals.{refusal}
use Rattle.tdb_law.specs.Rows.{map_locks, lock_locks, locks_by}
use Rattle.tdb_law.specs.Held.{covers, locked_next, wanted, decided}
use Rattle.tdb_law.specs.World.{HasFewChains}
use Rattle.tdb_law.proofs.Locks.{covers_within}
use Rattle.tdb_steps.specs.LockRows.{start_of, end_of, strength_of, lock_of, rows_of}
use Rattle.tdb_steps.specs.PlainCommands.{key_of, command_of}
use Rattle.tdb_steps.specs.Order.{IsAfter}
use Rattle.tdb_steps.specs.declared.plain.Plain.{Plain}
use Rattle.tdb_steps.specs.declared.plain.Plain.TheVariants.{Fetch, Has, Store, Append, Delete, Wipe}
use Rattle.tdb_steps.specs.declared.rows.LockRow.{LockRow}
use Rattle.tdb_steps.specs.declared.stage.Stage.TheVariants.{Begun}
use Rattle.tdb_steps.proofs.Holdings.{want}
use Rattle.tdb_steps.proofs.Turning.{row_facts}
use Rattle.tdb_openers.specs.Checked.{all_lock}
use Rattle.tdb_openers.specs.Locked.{chain_row, all_row}
use Rattle.tdb_openers.proofs.ExplicitLocks.Effected.{wants_locks}
use Rattle.tdb_openers.proofs.PlainTurns.PlainRows.{rows_are}

-- A command wants this byte of a record, and none before it.
pub record FirstAt (wants : ℕ → ℕ) (byte : ℕ) : Type 0 where
  pub from : 168 ≤ byte
  pub below : byte < 2 ^ 63
  pub some : 1 ≤ wants byte
  pub first : (b : ℕ) → b < byte → wants b ≡ 0

-- that of a lock is its start
strong : (kind : Kind) → 1 ≤ strength_of kind
strong Read = omega arith
strong Write = omega arith

pub row_first : (r : LockRow) (wants : ℕ → ℕ) → 168 ≤ start_of r.region → start_of r.region < 2 ^ 63 → start_of r.region < end_of r.region → ((b : ℕ) → wants b ≡ want r b) → FirstAt wants (start_of r.region)
row_first r wants from below reaches is = record {
  from = from;
  below = below;
  some = (let here : want r (start_of r.region) ≡ strength_of r.kind = (let over : covers (lock_of r) (start_of r.region) ≡ true = covers_within (lock_of r) (start_of r.region) (le_refl _) reaches in rw over refl) in
      omega (arith, is (start_of r.region), here, strong r.kind));
  first = λ b before. is b ∙ (let off : nat_le (start_of r.region) b ≡ false = lt-leb (start_of r.region) b before in rw off refl);
}

module _ (f : Form) (few : HasFewChains f) (x : Own) (out : x.txn ≡ None) (a : Spot) (v : View) where
  -- the byte of a chain
  chain_far : (chain : ℕ) → chain < f.chains → 168 + 4 * chain < 2 ^ 63
  chain_far chain low = omega (arith, low, few.few)

  -- a command on the map wants the first lock of its row
  module _ (c : MapCommand) (granted : refusal f (OnMap c) x ≡ None) where
    map_wants : (b : ℕ) → wanted f (OnMap c) x (decided a v 0) v 0 b ≡ locked_next (map_locks f c) 0 b
    unfolding wanted
    map_wants b =
        ap (λ q. max (locked_next (locks_by f q (OnMap c) x (decided a v 0).purging) 0 b) 0) granted
        ∙ (ap (λ o. max (locked_next (if is_none o then map_locks f c else []) 0 b) 0) out ∙ omega arith)

    pub map_first : (r : LockRow) → 168 ≤ start_of r.region → start_of r.region < 2 ^ 63 → start_of r.region < end_of r.region → ((b : ℕ) → locked_next (map_locks f c) 0 b ≡ want r b)
        → FirstAt (wanted f (OnMap c) x (decided a v 0) v 0) (start_of r.region)
    map_first r from below reaches is = row_first r (wanted f (OnMap c) x (decided a v 0) v 0) from below reaches (λ b. map_wants b ∙ is b)

  pub plain_first : (command : Plain) → refusal f (OnMap (command_of command)) x ≡ None → IsAfter command Begun 0
      → FirstAt (wanted f (OnMap (command_of command)) x (decided a v 0) v 0) (start_of (rows_of command (home f (key_of command))).first.region)
  plain_first command granted begun =
      let place = region_place command in
      map_first (command_of command) granted (rows_of command (home f (key_of command))).first place.0 place.1 place.2
      (λ b. ap (λ ls. locked_next ls 0 b) (sym (rows_are f command)) ∙ (row_facts command (home f (key_of command)) 0 Begun (rows_of command (home f (key_of command))).first begun refl).next b)
    where
      place_at : (key : List ℕ) → (168 ≤ 168 + 4 * home f key) × (168 + 4 * home f key < 2 ^ 63) × (168 + 4 * home f key < 168 + 4 * home f key + 1)
      place_at key = (omega arith, chain_far (home f key) (home_below f key few.some), omega arith)

      region_place : (command : Plain) → let start = start_of (rows_of command (home f (key_of command))).first.region in (168 ≤ start) × (start < 2 ^ 63) × (start < end_of (rows_of command (home f (key_of command))).first.region)
      region_place (Fetch key) = place_at key
      region_place (Has key) = place_at key
      region_place (Store key value flag) = place_at key
      region_place (Append key value) = place_at key
      region_place (Delete key) = place_at key
      region_place Wipe = (omega arith, omega arith, omega arith)

  pub check_first : refusal f (OnMap Check) x ≡ None → FirstAt (wanted f (OnMap Check) x (decided a v 0) v 0) 168
  check_first granted = map_first Check granted all_lock (omega arith) (omega arith) (omega arith) (λ b. omega arith)

  -- a command on explicit locks wants its lock
  lock_first : (c : LockCommand) (r : LockRow) → refusal f (OnLocks c) x ≡ None → 168 ≤ start_of r.region → start_of r.region < 2 ^ 63 → start_of r.region < end_of r.region → ((b : ℕ) → locked_next (lock_locks f c) 0 b ≡ want r b)
      → FirstAt (wanted f (OnLocks c) x (decided a v 0) v 0) (start_of r.region)
  lock_first c r granted from below reaches is =
      row_first r (wanted f (OnLocks c) x (decided a v 0) v 0) from below reaches
      (λ b. wants_locks f x c granted a v b ∙ (ap (λ o. locked_next (if is_none o then lock_locks f c else []) 0 b) out ∙ is b))

  pub chain_first : (key : List ℕ) → refusal f (OnLocks (ChainLock key)) x ≡ None → FirstAt (wanted f (OnLocks (ChainLock key)) x (decided a v 0) v 0) (168 + 4 * home f key)
  chain_first key granted = lock_first (ChainLock key) (chain_row (home f key)) granted (omega arith) (chain_far (home f key) (home_below f key few.some)) (omega arith) (λ b. omega arith)

  pub busy_first : (key : List ℕ) → refusal f (OnLocks (ChainLockNb key)) x ≡ None → FirstAt (wanted f (OnLocks (ChainLockNb key)) x (decided a v 0) v 0) (168 + 4 * home f key)
  busy_first key granted = lock_first (ChainLockNb key) (chain_row (home f key)) granted (omega arith) (chain_far (home f key) (home_below f key few.some)) (omega arith) (λ b. omega arith)

  pub all_first : refusal f (OnLocks LockAll) x ≡ None → FirstAt (wanted f (OnLocks LockAll) x (decided a v 0) v 0) 168
  all_first granted = lock_first LockAll (all_row Write) granted (omega arith) (omega arith) (omega arith) (λ b. omega arith)

  pub all_read_first : refusal f (OnLocks LockAllRead) x ≡ None → FirstAt (wanted f (OnLocks LockAllRead) x (decided a v 0) v 0) 168
  all_read_first granted = lock_first LockAllRead (all_row Read) granted (omega arith) (omega arith) (omega arith) (λ b. omega arith)
