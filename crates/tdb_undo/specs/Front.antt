-- The first bytes of a file before an undo and after it.
use Rattle.std.specs.Prelude.{ℕ, ◌==◌, Bool, ◌&&◌, not, nat_lt, List, slice_index}
use Rattle.tdb_space.specs.Opening.{lies_in}
use Rattle.tdb_words.specs.Header.{area_head, known_length}

-- one of the first 64 bytes becomes another, and it isn't one of the word at 44
abbrev pub differs : List ℕ → List ℕ → ℕ → Bool
differs before after i = nat_lt i known_length && (not (lies_in area_head 4 i) && not (slice_index before i == slice_index after i))
