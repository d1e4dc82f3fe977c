-- How much room a file has for records, and what is left of it as they are added: a number and a list, which don't ask
-- what the bytes are.
use Rattle.std.specs.Prelude.{ℕ, ◌+◌, List, [], ◌∷◌, length, map, Option, None, Some, option_and_then}
use Rattle.std.specs.Option.{option_or}
use Rattle.tdb_space.specs.Chain.{free_of}
use Rattle.tdb_space.specs.Extents.{HandPair}
use Rattle.tdb_space.specs.Form.{Form}
use Rattle.tdb_space.specs.NewRecord.{rec_len_for}
use Rattle.tdb_free.specs.FreeList.{Taken, free_pairs, give_to, taken}
use Rattle.tdb_free.specs.Growth.{grown_hand, grown_length}

-- the length of a file, and its free records in the order of the free list, each by its offset and its rec_len
pub record Room : Type 0 where
  pub len : ℕ
  pub free : List HandPair

-- that of an image
abbrev pub room_in : Form → List ℕ → Room
room_in f img = record { len = length img; free = free_pairs f img (free_of f img) }

-- what is left of a file of this length from whose free records one was taken
abbrev pub room_taken : ℕ → Option Taken → Option Room
room_taken len None = None
room_taken len (Some t) = Some (record { len = len; free = t.pairs })

-- what is left where the file grows to a length first, what it gains is given to the free list, and a record of so many
-- bytes behind its header is taken then
abbrev pub room_grown : Room → ℕ → Option ℕ → Option Room
room_grown r rec_len None = None
room_grown r rec_len (Some to) = room_taken to (taken (give_to r.free (grown_hand r.len to)) rec_len)

-- What is left where a record of so many bytes behind its header is taken: from the first free record that is long
-- enough; or, where none is, after the file has grown within the limit. Where it can't grow so far there is no room.
abbrev pub room_left : ℕ → Room → ℕ → Option Room
room_left limit r rec_len = option_or (room_taken r.len (taken r.free rec_len)) (room_grown r rec_len (grown_length r.len (24 + rec_len) limit))

-- what is left where records of these lengths are taken, one after the other
abbrev pub room_behind : ℕ → Room → List ℕ → Option Room
room_behind limit r [] = Some r
room_behind limit r (n ∷ ns) = option_and_then (λ s. room_behind limit s ns) (room_left limit r n)

-- the lengths of the records of pairs
abbrev pub record_lengths : List (List ℕ × List ℕ) → List ℕ
record_lengths given = map (λ p. rec_len_for (length p.0) (length p.1)) given
