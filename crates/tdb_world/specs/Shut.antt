-- Whether the one aside shuts all others out.
use Rattle.std.specs.Prelude.{ℕ, ◌≡◌, ◌<◌, ◌↔◌, Bool, IsTrue, Some}
use Rattle.tdb_space.specs.Form.{Form}
use Rattle.tdb_locks.specs.declared.kind.Kind.TheVariants.{Write}
use Rattle.tdb_law.specs.OneAside.Sides.{Past, Side}
use Rattle.tdb_commands.specs.declared.options.Options.{Options}
use Rattle.tdb_txn_owner.specs.Holders.{HolderState}
use Rattle.tdb_txn_owner.specs.Stages.{stage_records, Known, IsSide}
use Rattle.tdb_world.specs.Whole.{Whole}

-- The one aside has this number and holds all records for writing, and the byte of the sequence number too or not.
pub record IsShutBy (w : Whole) (owner : ℕ) (bars : Bool) : Type 0 where
  pub holder : HolderState
  pub aside : w.aside ≡ Some holder
  pub writes : stage_records holder.stage ≡ Some Write
  pub named : owner ≡ holder.owner
  pub number : (f : Form) (o : Options) (k : Known) (past : Past) (s : Side) → IsSide f o holder.owner holder.locks holder.stage k past s → IsTrue bars ↔ (0 < s.table 48)

-- nobody aside does so
abbrev pub IsOpen : Whole → Type 0
IsOpen w = (h : HolderState) → w.aside ≡ Some h → stage_records h.stage ≡ Some Write → ⊥
