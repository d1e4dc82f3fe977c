-- What a turn of a command on the transaction, or inside one, makes of the numbers, and of whether the world is
-- settled.
use Rattle.std.proofs.Common.{◌≡◌, ℕ, ◌+◌, Bool, true, false, Option, Some, None, refl, ap, ◌∙◌}
use Rattle.std.specs.Prelude.{◌&&◌, if◌then◌else◌}
use Rattle.std.proofs.Math.Bool.{and-false}
use Rattle.tdb_space.specs.Form.{Form}
use Rattle.tdb_law.specs.Commands.{Command, GroupCommand, Reply, is_done}
use Rattle.tdb_law.specs.Commands.GroupCommand.{Start, Commit, Prepare, Cancel}
use Rattle.tdb_law.specs.Commands.Command.{OnMap, OnLocks, Seqnum, OnGroup, OnWalk}
use Rattle.tdb_law.specs.Commands.Turn.{Step, Ends}
use Rattle.tdb_law.specs.Openers.{Own, outside}
use Rattle.tdb_law.specs.Refusals.{Refusal, refusal}
use Rattle.tdb_law.specs.Counting.{brings_by, image_number_by, image_number_after, number_by, number_after, settled_after, settles_by, unsettles_by}
use Rattle.tdb_law.specs.Rows.{is_changed}
use Rattle.tdb_law.specs.Turned.{number_next}
use Rattle.tdb_txn_turns.proofs.InsideTxn.Inside.{same_either}

-- a command on the transaction may step without unsettling anything
pub step_settles : (f : Form) (g : GroupCommand) (x : Own) (n : ℕ) (settled : Bool) → settled_after f (OnGroup g) x n Step settled ≡ settled
step_settles f g x n settled = go (refusal f (OnGroup g) x)
  where
    go : (o : Option Refusal) → (if unsettles_by o (OnGroup g) x n then false else settled) ≡ settled
    go None = refl
    go (Some why) = refl

-- an opener with a transaction
module _ (f : Form) (x : Own) (inside : outside x ≡ false) where
  settles_nothing : (o : Option Refusal) (c : Command) → settles_by o c x ≡ false
  settles_nothing None (OnMap c) = refl
  settles_nothing None (OnLocks c) = refl
  settles_nothing None Seqnum = refl
  settles_nothing None (OnGroup Start) = inside
  settles_nothing None (OnGroup Commit) = refl
  settles_nothing None (OnGroup Prepare) = refl
  settles_nothing None (OnGroup Cancel) = refl
  settles_nothing None (OnWalk w) = refl
  settles_nothing (Some why) c = refl

  pub end_settles : (c : Command) (n : ℕ) (r : Reply) (settled : Bool) → settled_after f c x n (Ends r) settled ≡ settled
  end_settles c n r settled = ap (λ b. if is_done r && b then true else settled) (settles_nothing (refusal f c x) c) ∙ ap (λ b. if b then true else settled) (and-false (is_done r))

  image_stays : (o : Option Refusal) (g : GroupCommand) (q p : ℕ) → image_number_by o (OnGroup g) x q p ≡ p
  image_stays None Start q p = ap (λ b. if b then q else p) inside
  image_stays None Commit q p = refl
  image_stays None Prepare q p = refl
  image_stays None Cancel q p = refl
  image_stays (Some why) g q p = refl

  pub image_kept : (g : GroupCommand) (r : Reply) (q p : ℕ) → image_number_after f (OnGroup g) x (Ends r) q p ≡ p
  image_kept g r q p = ap (λ k. if is_done r then k else p) (image_stays (refusal f (OnGroup g) x) g q p) ∙ same_either (is_done r) p

-- a command on the transaction that is no Commit leaves the file's number
pub data IsNoCommit : GroupCommand → Type 0 where
  starts : IsNoCommit Start
  prepares : IsNoCommit Prepare

module _ (f : Form) (x : Own) where
  brings_nothing : (g : GroupCommand) → IsNoCommit g → (o : Option Refusal) → brings_by o (OnGroup g) x ≡ false
  brings_nothing g starts None = refl
  brings_nothing g prepares None = refl
  brings_nothing g other (Some why) = refl

  number_stays : (g : GroupCommand) → IsNoCommit g → (o : Option Refusal) (q p : ℕ) → number_by o (OnGroup g) x q p ≡ q
  number_stays g starts None q p = refl
  number_stays g prepares None q p = refl
  number_stays g other (Some why) q p = refl

  pub step_counts : (g : GroupCommand) → IsNoCommit g → (n q p : ℕ) → number_next f (OnGroup g) n x Step q p ≡ q
  step_counts g other n q p = ap (λ b. if b && is_changed f (OnGroup g) x (n + 1) then p else q) (brings_nothing g other (refusal f (OnGroup g) x))

  pub end_counts : (g : GroupCommand) → IsNoCommit g → (r : Reply) (q p : ℕ) → number_after f (OnGroup g) x (Ends r) q p ≡ q
  end_counts g other r q p = ap (λ k. if is_done r then k else q) (number_stays g other (refusal f (OnGroup g) x) q p) ∙ same_either (is_done r) q
