-- What the heads of the chains tell while an opener holds all records for writing: others read nothing else of the
-- file.
use Rattle.std.specs.Prelude.{◌≡◌, ℕ, ◌≤◌, List, Bool, true, false, Some, nat_le, if◌then◌else◌, length}
use Rattle.tdb_disk.specs.History.{History, seen}
use Rattle.tdb_words.specs.Word.{word}
use Rattle.tdb_space.specs.Form.{Form, data_start, chain_head}
use Rattle.tdb_space.specs.Pairs.{home}
use Rattle.tdb_locks.specs.declared.kind.Kind.TheVariants.{Write}
use Rattle.tdb_locks.specs.declared.piece.Piece.{Piece}
use Rattle.tdb_law.specs.Images.{image_map}
use Rattle.tdb_law.specs.Openers.{has}
use Rattle.tdb_law.specs.OneAside.Passing.{IsOut}
use Rattle.tdb_law.specs.OneAside.Sides.{Past, Side}
use Rattle.tdb_txn_turns.specs.Committings.{commit_steps}
use Rattle.tdb_txn_turns.specs.Finishes.{finish_steps}
use Rattle.tdb_commands.specs.declared.options.Options.{Options}
use Rattle.tdb_txn_owner.specs.Stages.{stage_records, Known, KnowsFile, IsSide}
use Rattle.tdb_txn_owner.specs.declared.stage.Stage.{Stage}
use Rattle.tdb_txn_owner.specs.declared.stage.Stage.TheVariants as At

-- The heads in these bytes tell of an image: they are all there, and each key of the image's map is in a chain whose
-- head isn't 0. It may lead to records that hold no key.
pub record HeadsHold (f : Form) (bytes img : List ℕ) : Type 0 where
  pub reaches : data_start f ≤ length bytes
  pub keys : (k : List ℕ) → has (image_map f img) k ≡ true → word f.order bytes (chain_head (home f k)) ≡ 0 → ⊥

-- the opener has written what its transaction changes: after six steps of a Commit, or after one where it was prepared
abbrev pub is_written : Stage → Bool
is_written (At.Committing c) = nat_le 6 (commit_steps c)
is_written (At.Finishing s) = nat_le 1 (finish_steps s)
is_written stage = false

-- From then on they tell of the transaction's image, though the file is undone if that stops; and before of the file's.
abbrev pub HeadsAreThere : Type 0
HeadsAreThere = (f : Form) (stage : Stage) (h : History) (k : Known) → stage_records stage ≡ Some Write → KnowsFile f stage h k → HeadsHold f (seen h) (if is_written stage then k.image else k.file)

-- What the transaction's image lacks is then out of the file.
abbrev pub LackedAreOut : Type 0
LackedAreOut = (f : Form) (o : Options) (owner : ℕ) (ps : List Piece) (stage : Stage) (k : Known) (past : Past) (s : Side) → IsSide f o owner ps stage k past s → is_written stage ≡ true
    → (key : List ℕ) → has (image_map f k.image) key ≡ false → IsOut f s key
