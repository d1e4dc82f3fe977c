-- How many bytes of a file a recovery reads at most, and the filling of an undo area.
use Rattle.std.specs.Prelude.{ℕ, ◌+◌, ◌*◌, if◌then◌else◌, List, sum_by}
use Rattle.tdb_space.specs.Form.{Form}
use Rattle.tdb_space.specs.Record.{data_len_of}
use Rattle.tdb_space.specs.Extents.{Extent}
use Rattle.tdb_space.specs.Opening.{is_open}
use Rattle.tdb_space.specs.Undoing.{area_at}

-- Of an area whose content has so many bytes, by each of the two ways along its entries: the content in blocks, which
-- overlap by less than an entry's two words, and what each entry keeps. That is no more than twice the content.
abbrev pub entries_reads : ℕ → ℕ
entries_reads content = 2 * content

-- Of a recovery: the word that leads to the undo area, and the area's header. Where the gate is open, the first 64
-- bytes of the file as well, and the entries twice: to test them, and to write them back.
abbrev pub recovery_reads : Form → List ℕ → ℕ
recovery_reads f img = 28 + (if is_open f img then 64 + 2 * entries_reads (data_len_of f.order img (area_at f img)) else 0)

-- how many bytes these runs have in all
abbrev pub run_bytes : List Extent → ℕ
run_bytes es = sum_by (λ e. e.1) es
