-- What the types of the check stand for among the definitions of images.
use Rattle.std.specs.Prelude.{◌≡◌, ℕ, ◌+◌, ◌==◌, ◌%◌, ◌||◌, ◌&&◌, not, nat_lt, Bool, false, if◌then◌else◌, List, Option, Some, None}
use Rattle.tdb_words.specs.declared.record.Rec.{Rec}
use Rattle.tdb_words.specs.declared.record.TheConstants.{USED}
use Rattle.tdb_words.specs.declared.what.What.TheVariants.{BadRecord, Tailer, WrongHash}
use Rattle.tdb_words.specs.Hash.{h_jenkins}
use Rattle.tdb_words.specs.Record.{rec_at}
use Rattle.tdb_space.specs.Form.{Form}
use Rattle.tdb_space.specs.Record.{magic_of, key_at}
use Rattle.tdb_space.specs.FirstFault.{Fault, ListKind as Kind, chain_number, free_list, has_magic, is_bad, has_wrong_tailer, is_misfiled}
use Rattle.tdb_check.specs.declared.list_kind.ListKind.{ListKind}
use Rattle.tdb_check.specs.declared.list_kind.ListKind.TheVariants.{Chain, Free}
use Rattle.tdb_check.specs.declared.record.Found.{Found}
use Rattle.tdb_check.specs.declared.refusal.CheckRefusal.{CheckRefusal}
use Rattle.tdb_check.specs.declared.refusal.CheckRefusal.TheVariants.{Corrupt, Io, Memory}

-- which list it is
abbrev pub kind_of : ListKind → Kind
kind_of (Chain j) = chain_number j
kind_of Free = free_list

-- where the answer is a fault of the file, it is one of these
abbrev pub Names : CheckRefusal → (Fault → Type 0) → Type 0
Names (Corrupt what at) P = P (what, at)
Names Io P = Unit {0}
Names Memory P = Unit {0}

-- what is wrong with a record whatever stands before it in its list: it is bad, its tailer is wrong, or it is misfiled
abbrev pub own_fault : Form → Kind → List ℕ → ℕ → Option Fault
own_fault f kind img at =
    if is_bad f kind img at then Some (BadRecord, at)
    else if has_wrong_tailer f img at then Some (Tailer, at)
    else if is_misfiled f kind img at then Some (WrongHash, at)
    else None

-- the header of the record at an offset, and the Jenkins hash of a used one's key
pub record FoundAt (f : Form) (img : List ℕ) (at : ℕ) (found : Found) : Type 0 where
  pub header : found.header ≡ rec_at f.order img at
  pub mark : magic_of f.order img at ≡ USED → found.mark ≡ h_jenkins (key_at f.order img at)

-- a header makes a record bad, at this offset of a file of this length
abbrev pub is_bad_header : Kind → Rec → ℕ → ℕ → Bool
is_bad_header kind r at len =
    not (has_magic kind r.magic) || (not (r.rec_len % 4 == 0) || nat_lt len (at + 24 + r.rec_len)) || nat_lt r.rec_len 4
    || (r.magic == USED) && nat_lt r.rec_len (r.key_len + r.data_len + 4)

-- a used header with a key of this hash isn't filed in its list, of so many chains
abbrev pub is_misfiled_header : Kind → Rec → ℕ → ℕ → Bool
is_misfiled_header (chain_number j) r own chains = not (r.full_hash == own) || not (r.full_hash % chains == j)
is_misfiled_header free_list r own chains = false
