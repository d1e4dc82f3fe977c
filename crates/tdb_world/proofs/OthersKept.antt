-- What the other openers keep, where one opener takes a turn aside of them.
use Rattle.std.proofs.Common.{◌≡◌, ◌≢◌, ◌⊎◌, ℕ, ◌+◌, List, [], true, false, refl, sym, ap, subst, inl, inr}
use Rattle.std.specs.Prelude.{length, slice_get}
use Rattle.tdb_space.specs.Form.{Form}
use Rattle.tdb_locks.specs.declared.piece.Piece.{Piece}
use Rattle.tdb_law.specs.Commands.{Command, Turn}
use Rattle.tdb_law.specs.Commands.Turn.{Step}
use Rattle.tdb_law.specs.Layout.{IsOffRecords, chains_in, mark_of}
use Rattle.tdb_law.specs.Openers.{Mark, Task}
use Rattle.tdb_law.specs.Rows.{is_changed}
use Rattle.tdb_law.specs.Walks.{Lost, Shift}
use Rattle.tdb_steps.specs.Holdings.{table_of}
use Rattle.tdb_law.specs.OneAside.Sides.{Side}
use Rattle.tdb_law.proofs.OneAside.Committed.{gate_shifts}
use Rattle.tdb_txn_owner.specs.Lifts.{OthersKeep}
use Rattle.tdb_txn_owner.specs.Stages.{Known}
use Rattle.tdb_txn_owner.specs.Turned.{KeepsFile, keeps, brings}
use Rattle.tdb_openers.specs.States.{state_of}
use Rattle.tdb_openers.specs.Openers.{own_at, place_at, spot_at, task_at}
use Rattle.tdb_openers.specs.declared.opener.Opener.{Opener}
use Rattle.tdb_commands.specs.declared.options.Options.{Options}
use Rattle.tdb_openers.proofs.Walks.StillWalks.{still_shift}

-- From some openers to others only one changes, and each other one holds what it held.
pub record OneChanges (xs ys : List Opener) (ps qs : List Piece) (who : ℕ) : Type 0 where
  pub same_length : length ys ≡ length xs
  pub others : (o : ℕ) → o ≢ who → slice_get ys o ≡ slice_get xs o
  pub table : (o byte : ℕ) → o ≢ who → table_of qs (o + 1) byte ≡ table_of ps (o + 1) byte

-- the walks of others, by what a turn leaves of the file: none is moved, or they stand on no record where another image
-- comes
module _ (f : Form) (s : Side) (t : Task) (turn : Turn) (xs : List Opener) (old new : Known) (o : ℕ) where
  abbrev mark : Mark
  mark = mark_of f (chains_in f old.file) (place_at (slice_get xs o))

  abbrev Shifts : Turn → Command → List ℕ → Type 0
  Shifts u c img = Shift f (Lost f c t.steps s.own u false (mark_of f (chains_in f old.file) (place_at (slice_get xs o)))) (mark_of f (chains_in f old.file) (place_at (slice_get xs o))) (mark_of f (chains_in f img) (place_at (slice_get xs o)))

  walk_same : new.file ≡ old.file → Shifts turn t.command new.file
  walk_same same = subst (λ img. Shifts turn t.command img) (sym same) (still_shift f _ _)

  pub walk_keeps : (new.file ≡ old.file ⊎ IsOffRecords (place_at (slice_get xs o))) → KeepsFile f s t turn old new → Shifts turn t.command new.file
  walk_keeps off (keeps same) = walk_same same
  walk_keeps (inl same) (brings txn is step has image made accepted now) = walk_same same
  walk_keeps (inr off) (brings txn is step has image made accepted now) =
      subst (λ img. Shifts turn t.command img) (sym now)
      (subst (λ u. Shifts u t.command old.image) (sym step)
      (subst (λ c. Shifts Step c old.image) (sym is)
      (gate_shifts f s.own txn t.steps old.file old.image [] (place_at (slice_get xs o)) has image (subst (λ c. is_changed f c s.own (t.steps + 1) ≡ true) is made) accepted off)))

-- so the others keep all that is theirs
module _ (f : Form) (options : Options) (xs ys : List Opener) (ps qs : List Piece) (a b : List ℕ) (s : Side) (t : Task) (turn : Turn) (O : OneChanges xs ys ps qs s.here) where
  pub others_keep : ((o : ℕ) → o ≢ s.here → Shift f (Lost f t.command t.steps s.own turn false (mark_of f (chains_in f a) (place_at (slice_get xs o)))) (mark_of f (chains_in f a) (place_at (slice_get xs o))) (mark_of f (chains_in f b) (place_at (slice_get xs o))))
      → OthersKeep f (state_of f options xs ps a) (state_of f options ys qs b) s t turn
  others_keep walks = record {
    joined = O.same_length;
    task = λ o apart. ap task_at (O.others o apart);
    own = λ o apart. ap (own_at options) (O.others o apart);
    spot = λ o apart. ap spot_at (O.others o apart);
    table = λ o byte apart. O.table o byte apart;
    mark = λ o apart.
        let place = place_at (slice_get xs o) in
        let mark = mark_of f (chains_in f a) place in
        subst (λ now. Shift f (Lost f t.command t.steps s.own turn false mark) mark (mark_of f (chains_in f b) now)) (sym (ap place_at (O.others o apart))) (walks o apart);
    ready = refl;
    stale = refl;
  }
