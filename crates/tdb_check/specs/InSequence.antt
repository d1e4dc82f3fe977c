-- Records as they stand in a file: the list of each, and what a window on the file shows of it.
use Rattle.std.specs.Prelude.{◌≡◌, ℕ, ◌+◌, ◌<◌, ◌≤◌, false, List, [], ◌∷◌, length, take, drop}
use Rattle.tdb_words.specs.declared.record.TheConstants.{USED}
use Rattle.tdb_space.specs.Form.{Form}
use Rattle.tdb_space.specs.Record.{Whole, IsChained, IsFree, magic_of, next_of}
use Rattle.tdb_space.specs.Accepted.{Filed}
use Rattle.tdb_space.specs.FirstFault.{ListKind as Kind, chain_number, free_list}
use Rattle.tdb_check.specs.declared.list_kind.ListKind.{ListKind}
use Rattle.tdb_check.specs.declared.list_kind.ListKind.TheVariants.{Chain, Free}
use Rattle.tdb_check.specs.declared.window.Window.{Window}
use Rattle.tdb_check.specs.declared.next_record.Member.{Member}
use Rattle.tdb_check.specs.declared.next_record.Filing.{Filing}
use Rattle.tdb_words.specs.Record.{rec_at}
use Rattle.tdb_words.specs.Hash.{h_of, h_jenkins}
use Rattle.tdb_check.specs.Seen.{kind_of, FoundAt, is_bad_header, is_misfiled_header}

-- the magic of the records of a list
abbrev pub IsOf : Kind → ℕ → Type 0
IsOf (chain_number j) magic = IsChained magic
IsOf free_list magic = IsFree magic

-- a used record of a chain is filed there
abbrev pub IsFiledIn : Form → Kind → List ℕ → ℕ → Type 0
IsFiledIn f (chain_number j) img at = (j < f.chains) × (magic_of f.order img at ≡ USED → Filed f img j at)
IsFiledIn f free_list img at = Unit {0}

-- a record of a list stands whole at an offset, and where it is used it is filed there
pub record StandsIn (f : Form) (kind : Kind) (img : List ℕ) (at : ℕ) : Type 0 where
  pub whole : Whole f img at
  pub magic : IsOf kind (magic_of f.order img at)
  pub filed : IsFiledIn f kind img at

-- from an offset on records of a list follow one another by their next words, to the end of the list
abbrev pub ListFrom : Form → Kind → List ℕ → ℕ → List ℕ → Type 0
ListFrom f kind img at [] = at ≡ 0
ListFrom f kind img at (x ∷ xs) = (at ≡ x) × StandsIn f kind img x × ListFrom f kind img (next_of f.order img x) xs

-- the chain is one of so many
abbrev pub IsAmong : ℕ → ListKind → Type 0
IsAmong chains (Chain j) = j < chains
IsAmong chains Free = Unit {0}

-- the offset behind the last byte that a window holds
abbrev pub reach_of : Window → ℕ
reach_of w = w.from + w.held

-- a window holds bytes of the image from an offset on
abbrev pub IsWindowOn : List ℕ → Window → Type 0
IsWindowOn img w = take w.held w.bytes.items ≡ take w.held (drop w.from img)

-- the key of a used record is whole in the bytes that begin with it; this is its mark, and by its hash it is filed in
-- this list
pub record HasKeyIn (filing : Filing) (bytes : List ℕ) (member : Member) : Type 0 where
  pub within : 24 + member.found.header.key_len ≤ length bytes
  pub mark : member.found.mark ≡ h_jenkins (take member.found.header.key_len (drop 24 bytes))
  pub filed : is_misfiled_header (kind_of member.list) member.found.header (h_of filing.hash (take member.found.header.key_len (drop 24 bytes))) filing.chains ≡ false

-- by the bytes that begin with a record at an offset of a file of this length: its header is this one and isn't bad, it
-- belongs to this list, and where it is used its key is whole in the bytes, has this mark and is filed there
pub record IsMemberIn (filing : Filing) (bytes : List ℕ) (at len : ℕ) (member : Member) : Type 0 where
  pub header : member.found.header ≡ rec_at filing.order bytes 0
  pub among : IsAmong filing.chains member.list
  pub magic : IsOf (kind_of member.list) member.found.header.magic
  pub good : is_bad_header (kind_of member.list) member.found.header at len ≡ false
  pub key : member.found.header.magic ≡ USED → HasKeyIn filing bytes member

-- the record at an offset stands in this list, with this header and mark
pub record MemberAt (f : Form) (img : List ℕ) (at : ℕ) (member : Member) : Type 0 where
  pub stands : StandsIn f (kind_of member.list) img at
  pub found : FoundAt f img at member.found
