-- A file that is built from pairs.
use Rattle.std.specs.Prelude.{◌≡◌, ℕ, List, [], ◌∷◌, ◌++◌, length, Some}
use Rattle.std.specs.Map.{lookup}
use Rattle.tdb_chain.specs.declared.refusal.ValueRefusal as Value
use Rattle.tdb_space.specs.Form.{Form}
use Rattle.tdb_space.specs.NewRecord.{rec_len_for}
use Rattle.tdb_space.specs.Pairs.{map_of, same_key}
use Rattle.tdb_space.specs.Accepted.{AcceptWith}
use Rattle.tdb_backup.specs.Filling.{HasNoRoom, KeepsHeader}
use Rattle.tdb_backup.specs.Room.{record_lengths, room_behind, room_in}
use Rattle.tdb_backup.specs.declared.refusal.InsertRefusal as Insert
use Rattle.tdb_backup.specs.declared.refusal.AddRefusal.{AddRefusal}
use Rattle.tdb_backup.specs.declared.refusal.AddRefusal.TheVariants as Add
use Rattle.tdb_backup.specs.declared.refusal.BackupRefusal.{BackupRefusal}
use Rattle.tdb_backup.specs.declared.refusal.BackupRefusal.TheVariants as Backup
use Rattle.tdb_backup.specs.declared.refusal.CopyRefusal.{CopyRefusal}
use Rattle.tdb_backup.specs.declared.refusal.CopyRefusal.TheVariants.{Read, Write, Full, Memory}

-- The image is accepted, and its map is that of these pairs. They were added to another image in their order: what is
-- left of its room is what their records leave within a limit, and the header is as it was.
pub record HoldsPairs (limit : ℕ) (first : List ℕ) (f : Form) (img : List ℕ) (given : List (List ℕ × List ℕ)) : Type 0 where
  pub accepted : AcceptWith f img []
  pub map : (k : List ℕ) → map_of f img k ≡ lookup (same_key k) given
  pub room : room_behind limit (room_in f first) (record_lengths given) ≡ Some (room_in f img)
  pub header : KeepsHeader first img

-- the image holds the first of these pairs
pub record HoldsFront (limit : ℕ) (first : List ℕ) (f : Form) (img : List ℕ) (order : List (List ℕ × List ℕ)) : Type 0 where
  pub given : List (List ℕ × List ℕ)
  pub rest : List (List ℕ × List ℕ)
  pub split : order ≡ given ++ rest
  pub holds : HoldsPairs limit first f img given

-- the image holds the first of these pairs, and has no room for the next one within a limit
pub record FullFor (first : List ℕ) (f : Form) (img : List ℕ) (order : List (List ℕ × List ℕ)) (limit len need : ℕ) : Type 0 where
  pub given : List (List ℕ × List ℕ)
  pub next : List ℕ × List ℕ
  pub rest : List (List ℕ × List ℕ)
  pub split : order ≡ given ++ next ∷ rest
  pub holds : HoldsPairs limit first f img given
  pub no_room : HasNoRoom f img img (rec_len_for (length next.0) (length next.1)) limit len need

-- why not all of these pairs are added, where the image is this one then
abbrev pub CopyCause : List ℕ → Form → List ℕ → List (List ℕ × List ℕ) → ℕ → CopyRefusal → Type 0
CopyCause first f img order limit Read = HoldsFront limit first f img order
CopyCause first f img order limit Write = Unit {0}
CopyCause first f img order limit (Full len need) = FullFor first f img order limit len need
CopyCause first f img order limit Memory = HoldsFront limit first f img order

-- a copy is refused as the pair that it is to read
abbrev pub of_read : Value.ValueRefusal → CopyRefusal
of_read Value.TheVariants.Io = Read
of_read Value.TheVariants.Memory = Memory

-- and as the pair that it is to add
abbrev pub of_insert : Insert.InsertRefusal → CopyRefusal
of_insert (Insert.TheVariants.Full len need) = Full len need
of_insert Insert.TheVariants.Io = Write
of_insert Insert.TheVariants.Memory = Memory

-- and as the pair that it is to add and to tell of
abbrev pub of_added : AddRefusal → BackupRefusal
of_added (Add.Insert e) = Backup.Copy (of_insert e)
of_added (Add.Log refusal) = Backup.Log refusal

-- Why not all of these pairs are added where logs are told of each growth: where the last one refused that, the image
-- holds the pairs up to the one by which it grew.
abbrev pub BackupRefused : List ℕ → Form → List ℕ → List (List ℕ × List ℕ) → ℕ → BackupRefusal → Type 0
BackupRefused first f img order limit (Backup.Copy e) = CopyCause first f img order limit e
BackupRefused first f img order limit (Backup.Log refusal) = HoldsFront limit first f img order
