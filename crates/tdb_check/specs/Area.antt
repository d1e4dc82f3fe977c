-- The undo area by what was read of it.
use Rattle.std.specs.Prelude.{ℕ, ◌+◌, ◌*◌, ◌%◌, ◌==◌, ◌||◌, not, nat_lt, Bool, if◌then◌else◌, Option, Some, None, List, [], ◌∷◌}
use Rattle.tdb_words.specs.declared.record.Rec.{Rec}
use Rattle.tdb_words.specs.declared.record.TheConstants.{GATE_OPEN, GATE_SHUT}
use Rattle.tdb_words.specs.declared.what.What.TheVariants.{AreaBad, UndoBad}
use Rattle.tdb_words.specs.Header.{header_length}
use Rattle.tdb_space.specs.Extents.{Extent as Held}
use Rattle.tdb_space.specs.FirstFault.{Fault}
use Rattle.tdb_check.specs.declared.extent.Extent.{Extent}
use Rattle.tdb_check.specs.Extent.{extent_seen}

-- no record header can stand at an offset of a file of so many chains and of this length
abbrev pub is_out_at : ℕ → ℕ → ℕ → Bool
is_out_at chains len at = not (at % 4 == 0) || nat_lt at (header_length + 4 * (chains + 1)) || nat_lt len (at + 24)

-- what is wrong with an undo area that has this header, at this offset of a file of this length
abbrev pub header_area_fault : Rec → ℕ → ℕ → Option Fault
header_area_fault r at len =
    if not (r.rec_len % 4 == 0) || nat_lt len (at + 24 + r.rec_len) then Some (AreaBad, at + 4)
    else if r.magic == GATE_OPEN then Some (UndoBad, at + 20)
    else if not (r.magic == GATE_SHUT) then Some (AreaBad, at + 20)
    else None

-- the extent of the undo area, where there is one
abbrev pub area_seen : Option Extent → List Held
area_seen None = []
area_seen (Some e) = extent_seen e ∷ []
