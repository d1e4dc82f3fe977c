-- As what the file is read while a transaction is committed into it: as it was before, until the turn that shuts the
-- gate, and from then on as the transaction's image.
use Rattle.std.specs.Prelude.{◌≡◌, ℕ, ◌<◌, ◌≤◌, List}
use Rattle.tdb_disk.specs.History.{History, seen}
use Rattle.tdb_space.specs.Form.{Form, form_of}
use Rattle.tdb_space.specs.Opening.{restored}
use Rattle.tdb_law.specs.Images.{image_map}
use Rattle.tdb_law.specs.Openers.{Map}
use Rattle.tdb_steps.specs.Turns.{number_of}
use Rattle.tdb_txn.specs.Commit.{IsPrepared}
use Rattle.tdb_txn.specs.declared.planned.Plan.{Plan}
use Rattle.tdb_txn_turns.specs.Commits.{Carries, RestsAt}
use Rattle.tdb_txn_turns.specs.Committings.{commit_steps, KnowsCommit}
use Rattle.tdb_txn_turns.specs.Finishes.{finish_steps, IsShut, KnowsFinish}
use Rattle.tdb_txn_turns.specs.Prepares.{KnowsStage}
use Rattle.tdb_txn_turns.specs.declared.committing.Committing.{Committing}
use Rattle.tdb_txn_turns.specs.declared.finishing.Finishing.{Finishing}
use Rattle.tdb_txn_turns.specs.declared.preparing.PrepareStage.{PrepareStage}

-- the map and the sequence number of a file, by its history: where its gate is open, those that it has once it is
-- undone
abbrev pub file_map : Form → History → Map
file_map f h = image_map f (restored f (seen h))

abbrev pub file_number : Form → History → ℕ
file_number f h = number_of f (restored f (seen h))

-- the file has the map and the sequence number of an image
pub record IsReadAs (f : Form) (h : History) (img : List ℕ) : Type 0 where
  pub map : file_map f h ≡ image_map f img
  pub number : file_number f h ≡ number_of f img

-- At each stage of a Prepare the file is read as image r, which it was before.
abbrev pub PrepareReads : Type 0
PrepareReads = (f : Form) (s : PrepareStage) (h : History) (r b : List ℕ) → form_of r ≡ f → KnowsStage s h r b → IsReadAs f h r

-- So it is in a Commit until its eighth step, which shuts the gate; and from then on it is read as image b of the
-- transaction.
abbrev pub CommitReads : Type 0
CommitReads = (f : Form) (c : Committing) (h : History) (r b : List ℕ) → form_of r ≡ f → commit_steps c < 8 → KnowsCommit c h r b → IsReadAs f h r

abbrev pub ShutCommitReads : Type 0
ShutCommitReads = (f : Form) (c : Committing) (h : History) (r b : List ℕ) → form_of b ≡ f → 8 ≤ commit_steps c → KnowsCommit c h r b → IsReadAs f h b

-- The same of a Commit of a transaction whose Prepare opened the gate: its third step shuts it.
abbrev pub FinishReads : Type 0
FinishReads = (f : Form) (s : Finishing) (h : History) (r b : List ℕ) → form_of r ≡ f → finish_steps s < 3 → KnowsFinish s h r b → IsReadAs f h r

abbrev pub ShutFinishReads : Type 0
ShutFinishReads = (f : Form) (s : Finishing) (h : History) (r b : List ℕ) → form_of b ≡ f → 3 ≤ finish_steps s → KnowsFinish s h r b → IsReadAs f h b

-- while a transaction is prepared, with its gate open
abbrev pub PreparedReads : Type 0
PreparedReads = (f : Form) (plan : Plan) (h : History) (r b : List ℕ) → form_of r ≡ f → Carries (IsPrepared plan) h r b → IsReadAs f h r

-- where a Prepare found nothing to commit, and after the end of a transaction that wasn't committed
abbrev pub RestReads : Type 0
RestReads = (f : Form) (h : History) (r : List ℕ) → form_of r ≡ f → RestsAt h r → IsReadAs f h r

-- and after the end of a Commit
abbrev pub EndReads : Type 0
EndReads = (f : Form) (h : History) (b : List ℕ) → form_of b ≡ f → IsShut h b → IsReadAs f h b
