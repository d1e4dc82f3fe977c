-- Why the front of an image is refused.
use Rattle.std.specs.Prelude.{◌≡◌, ℕ, ◌+◌, ◌*◌, ◌%◌, ◌==◌, ◌||◌, not, nat_lt, Bool, List, Some}
use Rattle.tdb_words.specs.declared.what.What.TheVariants.{Short as TooShort, Header as BadHeader}
use Rattle.tdb_words.specs.Header.{header_fault, header_length}
use Rattle.tdb_space.specs.FirstFault.{front_fault}
use Rattle.tdb_check.specs.declared.front.FrontRefusal.{FrontRefusal}
use Rattle.tdb_check.specs.declared.front.FrontRefusal.TheVariants.{Short, Header, Io}

-- a file of so many chains and of this length ends within a word, or before its records begin
abbrev pub is_short_length : ℕ → ℕ → Bool
is_short_length chains len = not (len % 4 == 0) || nat_lt len (header_length + 4 * (chains + 1))

-- the refusal is the fault of the image's front; of the header it is the first that the header has
abbrev pub Refuses : List ℕ → FrontRefusal → Type 0
Refuses img (Short len) = front_fault img ≡ Some (TooShort, len)
Refuses img (Header fault) = (front_fault img ≡ Some (BadHeader, 0)) × (header_fault img ≡ Some fault)
Refuses img Io = Unit {0}
