-- What a stop leaves while the gate of a stale world is undone.
use Rattle.std.proofs.Common.{◌≡◌, ℕ, ◌≤◌, ◌⊎◌, [], true, length, sym, ◌∙◌, ap, subst, arith}
use Rattle.tdb_disk.specs.History.{synced, History, seen, Tried}
use Rattle.tdb_disk.specs.Stop.{Leaves, LeavesOnly, Quiet}
use Rattle.tdb_disk.proofs.Runs.{leaves_join, leaves_sync, leaves_weaker}
use Rattle.tdb_space.specs.Accepted.{AcceptWith, Shut}
use Rattle.tdb_space.specs.Form.{Form, form_of}
use Rattle.tdb_space.specs.Opening.{restored, Mild, Opens}
use Rattle.tdb_space.specs.Undoing.{Reopens}
use Rattle.tdb_law.specs.World.{State}
use Rattle.tdb_law.proofs.Tests.{never_true}
use Rattle.tdb_world.specs.States.{IsStateOf}
use Rattle.tdb_world.specs.States.IsStateOf.{of_whole, of_stale}
use Rattle.tdb_world.specs.Stops.{IsSafe, OpensToState}
use Rattle.tdb_world.specs.Whole.{form_at, Whole}
use Rattle.tdb_world.proofs.GateUndone.{gets_shorter}
use Rattle.tdb_world.proofs.Stopping.{accepted_safe, opens_to_state}

-- what a stop of an undo leaves of a quiet file
abbrev pub UndoStops : Form → History → History → Type 0
UndoStops f old new = let a = seen old in Quiet old → Opens a → Shut (form_of a) a ⊎ Mild a → form_of a ≡ f → LeavesOnly old new (Reopens (restored f a))

-- a sync of a safe file, whatever it answered
pub sync_stops : (f : Form) (h start mid : History) → start ≡ h → Tried synced start mid → IsSafe f h → LeavesOnly h mid (Reopens (restored f (seen h)))
sync_stops f h start mid same tried safe = leaves_weaker h mid (Leaves h) (Reopens (restored f (seen h))) safe (leaves_sync h mid (subst (λ z. Tried synced z mid) same tried))

module _ (f : Form) (h mid done : History) (same : seen mid ≡ seen h) (form : form_of (seen h) ≡ f) (opens : Opens (seen h)) where
  -- a sync that is done, and an undo, whatever it answered
  pub undo_stops : LeavesOnly h mid (Reopens (restored f (seen h))) → Quiet mid → UndoStops f mid done → Shut (form_of (seen h)) (seen h) ⊎ Mild (seen h)
      → LeavesOnly h done (Reopens (restored f (seen h)))
  undo_stops so_far quiet stops again =
      leaves_join h mid done (Reopens (restored f (seen h))) so_far
      (subst (λ a. Opens a → Shut (form_of a) a ⊎ Mild a → form_of a ≡ f → LeavesOnly mid done (Reopens (restored f a))) same (stops quiet) opens again form)

  -- after an undo the file is no longer than before, so nothing is cut
  pub never_cut : (later : History) (len size : ℕ) → (form_of (seen mid) ≡ f → Opens (seen mid) → seen done ≡ restored f (seen mid)) → len ≡ length (seen h) → length (seen done) ≡ size
      → (size ≤ len → later ≡ done) → later ≡ done
  never_cut later len size undo long short still =
      let made : seen done ≡ restored f (seen h) = subst (λ a. form_of a ≡ f → Opens a → seen done ≡ restored f a) same undo form opens in
      let less = gets_shorter f (seen h) form opens in
      let size_is = ap length made in
      still (omega (arith, less, size_is, long, short))

-- In each state of a stale world
module _ (w : Whole) (was : w.stale ≡ true) (h later : History) (state : State) where
  abbrev f : Form
  f = form_at w

  -- a stop of the undo leaves what opens to that state
  pub stale_stops : (IsSafe f h → form_of (seen h) ≡ f → Opens (seen h) → Shut (form_of (seen h)) (seen h) ⊎ Mild (seen h) → LeavesOnly h later (Reopens (restored f (seen h))))
      → IsStateOf w h state → IsSafe f h → LeavesOnly h later (OpensToState f state)
  stale_stops stops (of_whole S) safe = absurd (never_true (sym S.fresh ∙ was))
  stale_stops stops (of_stale S) safe =
      leaves_weaker h later (Reopens (restored f (seen h))) (OpensToState f state) (λ c reopens. opens_to_state w h state (of_stale S) c reopens)
      (stops safe S.form S.reopens.opens.opens S.reopens.again)

  -- and once it is done the file is safe
  pub stale_safe : (form_of (seen h) ≡ f → Opens (seen h) → Quiet later × (seen later ≡ restored f (seen h))) → IsStateOf w h state → IsSafe f later
  stale_safe undone (of_whole S) = absurd (never_true (sym S.fresh ∙ was))
  stale_safe undone (of_stale S) =
      let U = undone S.form S.reopens.opens.opens in
      accepted_safe f later U.0 (subst (λ i. AcceptWith f i []) (S.undone ∙ sym U.1) S.accepted)
