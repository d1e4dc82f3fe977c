-- A file with mutexes: the database stands behind them. In front stands a header that says how many bytes to pass, and
-- the database begins with a header of its own, which says the same again.
use Rattle.std.specs.Prelude.{ℕ, ◌%◌, ◌==◌, ◌&&◌, nat_lt, Bool, true, false, if◌then◌else◌, Option, Some, None, List, length, drop}
use Rattle.tdb_disk.specs.Image.{overlay}
use Rattle.tdb_words.specs.declared.header.HeaderFault.{HeaderFault}
use Rattle.tdb_words.specs.declared.header.HeaderFault.TheVariants.{NotTdb, Version, OldLocks, Mutexes, UnknownHash, NoBuckets}
use Rattle.tdb_words.specs.Word.{word, bytes_of_word}
use Rattle.tdb_words.specs.Header.{header_order, header_fault, header_length, mutexes_at}

-- the offset of the word that says how many bytes stand in front of the database: a header and the mutexes
abbrev pub mutexes_length_at : ℕ
mutexes_length_at = 64

-- the word for features of a file that has mutexes and no other feature
abbrev pub only_mutexes : ℕ
only_mutexes = 1

-- a header is refused for its features
abbrev pub asks_features : Option HeaderFault → Bool
asks_features (Some Mutexes) = true
asks_features (Some NotTdb) = false
asks_features (Some Version) = false
asks_features (Some OldLocks) = false
asks_features (Some UnknownHash) = false
asks_features (Some NoBuckets) = false
asks_features None = false

-- Where the mutexes end by the header of an image, where it asks for these and for no other feature, and else 0. The
-- stock library takes whole pages for them, so it is a multiple of 4.
abbrev pub mutexes_end : List ℕ → ℕ
mutexes_end img =
    if (word (header_order img) img mutexes_at == only_mutexes) && (word (header_order img) img mutexes_length_at % 4 == 0) then word (header_order img) img mutexes_length_at else 0

-- where the database begins by the header of an image: behind its mutexes, where it has these, and else at 0
abbrev pub database_at : List ℕ → ℕ
database_at img = if nat_lt (length img) header_length then 0 else if asks_features (header_fault img) then mutexes_end img else 0

-- the database of a file
abbrev pub database_in : List ℕ → List ℕ
database_in img = drop (database_at img) img

-- A database whose header doesn't say that it has mutexes. Of one behind mutexes the word for features counts as 0: it
-- tells of the file, and the database is read from behind them already.
abbrev pub without_mutexes : List ℕ → List ℕ
without_mutexes img = if database_at img == 0 then img else overlay img mutexes_at (bytes_of_word (header_order img) 0)
