-- The header of a file: its first 168 bytes.
use Rattle.std.specs.Prelude.{◌≡◌, ℕ, ◌+◌, ◌*◌, ◌≤◌, ◌==◌, Bool, ◌&&◌, ◌||◌, not, if◌then◌else◌, nat_eq, List, [], ◌∷◌, length, ◌++◌, replicate, Option, Some, None, is_none, unwrap_or, codes}
use Rattle.std.specs.List.{starts_with}
use Rattle.tdb_words.specs.declared.word.Order.{Order}
use Rattle.tdb_words.specs.declared.word.Order.TheVariants.{Little, Big}
use Rattle.tdb_words.specs.declared.hash.HashKind.{HashKind}
use Rattle.tdb_words.specs.declared.hash.HashKind.TheVariants.{Old, Jenkins}
use Rattle.tdb_words.specs.declared.header.Header.{Header}
use Rattle.tdb_words.specs.declared.header.HeaderFault.{HeaderFault}
use Rattle.tdb_words.specs.declared.header.HeaderFault.TheVariants.{NotTdb, Version, OldLocks, Mutexes, UnknownHash, NoBuckets}
use Rattle.tdb_words.specs.declared.record.TheConstants.{USED}
use Rattle.tdb_words.specs.Word.{word, bytes_of_word}
use Rattle.tdb_words.specs.Hash.{h_of}

-- how long a header is, and how much of it says something: what follows is reserved
abbrev pub header_length : ℕ
header_length = 168

abbrev pub known_length : ℕ
known_length = 64

-- The offsets of the words of a header, behind its text: the version, the number of chains, the locks word, where the
-- undo area stands, the sequence number, the two words of the hash, and the size of the mutexes
abbrev pub version_at : ℕ
version_at = 32

abbrev pub chains_at : ℕ
chains_at = 36

abbrev pub locks_at : ℕ
locks_at = 40

abbrev pub area_head : ℕ
area_head = 44

abbrev pub sequence_at : ℕ
sequence_at = 48

abbrev pub first_hash_at : ℕ
first_hash_at = 52

abbrev pub second_hash_at : ℕ
second_hash_at = 56

abbrev pub mutexes_at : ℕ
mutexes_at = 60

-- the text that a file begins with: `TDB file`, a newline and a zero byte
abbrev pub food : List ℕ
food = 84 ∷ 68 ∷ 66 ∷ 32 ∷ 102 ∷ 105 ∷ 108 ∷ 101 ∷ 10 ∷ 0 ∷ []

-- the version word
abbrev pub version : ℕ
version = 0x2601196D

-- the locks word of a file with Jenkins' hash, and of one that may have mutexes
abbrev pub jenkins_locks : ℕ
jenkins_locks = 0x0BAD1A51

abbrev pub mutex_locks : ℕ
mutex_locks = 0x0BAD1A52

-- the byte order in which the word at 32 is the version
abbrev pub order_named : List ℕ → Option Order
order_named img = if word Little img version_at == version then Some Little else if word Big img version_at == version then Some Big else None

-- the two words of a hash are those of the text and of the used magic
abbrev pub has_words : HashKind → Order → ℕ → ℕ → Bool
has_words h o first second = (first == h_of h food) && (second == h_of h (bytes_of_word o USED))

-- the hash that the two hash words name. Both 0 stand for the default hash
abbrev pub hash_named : Order → ℕ → ℕ → Option HashKind
hash_named o first second =
    if (first == 0) && (second == 0) then Some Old
    else if has_words Old o first second then Some Old
    else if has_words Jenkins o first second then Some Jenkins
    else None

-- the byte order of an image with a header
unfoldable pub header_order : List ℕ → Order
header_order img = unwrap_or (order_named img) Little

-- the hash of an image with a header
unfoldable pub header_hash : List ℕ → HashKind
header_hash img = unwrap_or (hash_named (header_order img) (word (header_order img) img first_hash_at) (word (header_order img) img second_hash_at)) Old

-- the number of chains
abbrev pub hash_size_of : List ℕ → ℕ
hash_size_of img = word (header_order img) img chains_at

-- where the undo area stands, or 0
abbrev pub recovery_start_of : List ℕ → ℕ
recovery_start_of img = word (header_order img) img area_head

-- the sequence number
abbrev pub sequence_of : List ℕ → ℕ
sequence_of img = word (header_order img) img sequence_at

-- where the records begin: past the header, the head of the free list and the heads of the chains
abbrev pub start : List ℕ → ℕ
start img = header_length + 4 * (hash_size_of img + 1)

-- the first of the six conditions that holds of a header, in this order
unfoldable pub header_fault : List ℕ → Option HeaderFault
header_fault img =
    let o = header_order img in
    let locks = word o img locks_at in
    if not (starts_with nat_eq img food) then Some NotTdb
    else if is_none (order_named img) then Some Version
    else if not ((locks == 0) || (locks == jenkins_locks) || (locks == mutex_locks)) then Some OldLocks
    else if (locks == mutex_locks) && not (word o img mutexes_at == 0) then Some Mutexes
    else if is_none (hash_named o (word o img first_hash_at) (word o img second_hash_at)) then Some UnknownHash
    else if word o img chains_at == 0 then Some NoBuckets
    else None

-- the word that is printed for a fault
abbrev pub fault_text : HeaderFault → List ℕ
fault_text NotTdb = codes "NotTdb"
fault_text Version = codes "Version"
fault_text OldLocks = codes "OldLocks"
fault_text Mutexes = codes "Mutexes"
fault_text UnknownHash = codes "UnknownHash"
fault_text NoBuckets = codes "NoBuckets"

-- an image has a header without a fault
pub record HeaderOk (img : List ℕ) : Type 0 where
  pub long_enough : header_length ≤ length img
  pub no_fault : header_fault img ≡ None

-- what the header of an image says
abbrev pub header_at : List ℕ → Header
header_at img = record {
  order = header_order img;
  hash = header_hash img;
  hash_size = hash_size_of img;
  recovery_start = recovery_start_of img;
  sequence = sequence_of img;
}

-- the locks word of a new file
abbrev pub locks_of : HashKind → ℕ
locks_of Old = 0
locks_of Jenkins = jenkins_locks

-- a header with these words. Those that aren't named, as at 44 and 48, are 0
abbrev pub header_with : Order → ℕ → ℕ → ℕ → ℕ → List ℕ
header_with o size locks first second =
    food ++ replicate 22 0
    ++ bytes_of_word o version ++ bytes_of_word o size ++ bytes_of_word o locks ++ replicate 8 0
    ++ bytes_of_word o first ++ bytes_of_word o second ++ replicate 108 0

-- the header of a new file: its number of chains, and what names its hash
abbrev pub new_header : ℕ → Order → HashKind → List ℕ
new_header size o h = header_with o size (locks_of h) (h_of h food) (h_of h (bytes_of_word o USED))
