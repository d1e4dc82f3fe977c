-- What a world with transactions asks of the openers beside the one that has a transaction: that one holds all records
-- here, and has no command.
use Rattle.std.specs.Prelude.{ℕ, ◌≡◌, ◌≢◌, ◌≤◌, ◌<◌, List, [], slice_get, true, false, None, Some, Option, if◌then◌else◌}
use Rattle.tdb_space.specs.Form.{Form}
use Rattle.tdb_space.specs.Accepted.{AcceptWith}
use Rattle.tdb_locks.specs.declared.kind.Kind.{Kind}
use Rattle.tdb_locks.specs.declared.kind.Kind.TheVariants.{Write}
use Rattle.tdb_locks.specs.declared.locks.LockRefusal.{LockRefusal}
use Rattle.tdb_locks.specs.declared.locks.LockRefusal.TheVariants.{Conflict, Memory}
use Rattle.tdb_locks.specs.declared.piece.Piece.{Piece}
use Rattle.tdb_law.specs.World.{State}
use Rattle.tdb_law.specs.Rows.{lock_all, all_end}
use Rattle.tdb_law.specs.Held.{covers, all_held, task_held}
use Rattle.tdb_law.specs.Effects.{IsFree, IsFirstConflict}
use Rattle.tdb_commands.specs.InLaw.{law_opener}
use Rattle.tdb_steps.specs.Holdings.{table_of}
use Rattle.tdb_steps.specs.LockRows.{strength_of}
use Rattle.tdb_openers.specs.declared.opener.Opener.{Opener}
use Rattle.tdb_commands.specs.declared.options.Options.{Options}
use Rattle.tdb_openers.specs.Calm.{WritesNoRecord}
use Rattle.tdb_openers.specs.Given.{holds_chains}
use Rattle.tdb_openers.specs.Openers.{all_of}
use Rattle.tdb_openers.specs.States.{state_of, WorldStands, FileStands}
use Rattle.tdb_openers.specs.Turning.{law_table}
use Rattle.tdb_openers.specs.Laws.{IsPut}
use Rattle.tdb_openers.specs.Worlds.{World}

-- The opener is live, and has no command, no cursor, and no explicit lock but one of all records.
pub record IsBare (x : Opener) : Type 0 where
  pub live : x.live ≡ true
  pub idle : x.task ≡ None
  pub no_chains : holds_chains x.held ≡ false
  pub no_cursor : x.walk.shown ≡ None

-- the opener, where it holds all records so
abbrev pub with_records : Opener → Option (Kind × ℕ) → Opener
with_records x all = record x { held = record { chains = x.held.chains; all = all } }

-- The opener holds all records so, and no other byte; others hold what they held, and all else is as it was.
pub record HoldsRecords (old : World) (who : ℕ) (x : Opener) (all : Option (Kind × ℕ)) (new : World) : Type 0 where
  pub put : IsPut old.openers (law_opener who) (with_records x all) new.openers
  pub holds : (b : ℕ) → law_table new.table (law_opener who) b ≡ all_held (all_of all) b
  pub others : (o b : ℕ) → o ≢ law_opener who → law_table new.table o b ≡ law_table old.table o b
  pub numbered : (b : ℕ) → table_of new.table 0 b ≡ 0
  pub rest : record new { openers = old.openers; table = old.table } ≡ old

-- what a lock of all records wants at each byte
abbrev pub wants_all : Kind → ℕ → ℕ
wants_all kind b = if covers (lock_all 0 (strength_of kind)) b then strength_of kind else 0

-- no other opener's lock conflicts with it
abbrev pub AreFree : World → ℕ → Kind → Type 0
AreFree w who kind = IsFree (law_table w.table) (law_opener who) (wants_all kind)

-- where it isn't granted for a conflict, that is the first
abbrev pub AreBarred : World → ℕ → Kind → LockRefusal → Type 0
AreBarred w who kind (Conflict owner byte held) = IsFirstConflict (law_table w.table) (law_opener who) (wants_all kind) (law_opener owner) byte
AreBarred w who kind Memory = Unit {0}

-- In the words of the law: the opener's command has locked no chain and no record, and its cursor stands on none.
pub record LocksNoRecord (f : Form) (w : State) (o : ℕ) : Type 0 where
  pub command : (b : ℕ) → 168 ≤ b → b < all_end → task_held f (w.own o) (w.spot o) (w.task o) b ≡ 0
  pub cursor : (w.spot o).stands ≡ None

-- A world stands over any bytes of its file, which may be longer.
abbrev pub ImageKeepsWorld : Type 0
ImageKeepsWorld = (f : Form) (options : Options) (xs : List Opener) (ps : List Piece) (a b : List ℕ) (size longer : ℕ)
    → WorldStands f options xs ps a size → size ≤ longer → longer ≤ options.limit → WorldStands f options xs ps b longer

-- Where no opener's command has locked a record, and no cursor stands on one, the bytes of any accepted image stand.
abbrev pub ImageKeepsFile : Type 0
ImageKeepsFile = (f : Form) (options : Options) (xs : List Opener) (ps : List Piece) (a b : List ℕ) (size : ℕ)
    → WorldStands f options xs ps a size → ((o : ℕ) → LocksNoRecord f (state_of f options xs ps a) o) → AcceptWith f b [] → FileStands f xs b

-- So they do while an opener that has nothing else holds all records for writing.
abbrev pub LockKeepsFile : Type 0
LockKeepsFile = (f : Form) (options : Options) (xs : List Opener) (ps : List Piece) (a b : List ℕ) (size who count : ℕ) (x : Opener)
    → WorldStands f options xs ps a size → slice_get xs who ≡ Some x → IsBare x → x.held.all ≡ Some (Write, count) → AcceptWith f b [] → FileStands f xs b

-- No opener holds a byte below that of the free list: neither the opening lock nor the transaction lock, and not the
-- byte of the sequence number either, which is only asked for in one turn.
abbrev pub LowIsFree : Type 0
LowIsFree = (f : Form) (options : Options) (xs : List Opener) (ps : List Piece) (a : List ℕ) (size : ℕ)
    → WorldStands f options xs ps a size → (o b : ℕ) → b < 164 → table_of ps o b ≡ 0

-- While an opener that has nothing else holds all records, for reading or for writing, no other opener writes one,
abbrev pub OthersWriteNone : Type 0
OthersWriteNone = (f : Form) (options : Options) (xs : List Opener) (ps : List Piece) (a : List ℕ) (size who count : ℕ) (kind : Kind) (x : Opener)
    → WorldStands f options xs ps a size → slice_get xs who ≡ Some x → IsBare x → x.held.all ≡ Some (kind, count) → (o : ℕ) → o ≢ who → WritesNoRecord ps o

-- and no command holds one that is in no list, so the image is accepted as it is.
abbrev pub RecordsAreFree : Type 0
RecordsAreFree = (f : Form) (options : Options) (xs : List Opener) (ps : List Piece) (a : List ℕ) (size who count : ℕ) (kind : Kind) (x : Opener)
    → WorldStands f options xs ps a size → slice_get xs who ≡ Some x → IsBare x → x.held.all ≡ Some (kind, count) → FileStands f xs a → AcceptWith f a []
