-- How many bytes of a file the calls on its free list read at most.
use Rattle.std.specs.Prelude.{ℕ, ◌+◌, ◌*◌, List, length}
use Rattle.tdb_space.specs.Extents.{HandPair}
use Rattle.tdb_free.specs.FreeList.{is_long_enough}
use Rattle.tdb_free.specs.Search.{count_before}

-- Of so many writes of so many bytes in all. A view that keeps pages may read two pages, 8192 bytes in all, to fill
-- those that a write touches in part.
abbrev pub write_reads : ℕ → ℕ → ℕ
write_reads writes bytes = bytes + 8192 * writes

-- Of a search for a record of so many bytes: the head of the list, and 24 bytes of each record up to the first that is
-- long enough. Where none is, 24 bytes more.
abbrev pub search_reads : ℕ → List HandPair → ℕ
search_reads rec_len pairs = 28 + 24 * count_before (is_long_enough rec_len) pairs

-- Of a give that goes along so many records at most: 12 bytes beside the hand, the head of the list twice, four bytes
-- of each of these records, the headers of two neighbours, and what its writes take.
abbrev pub give_reads : ℕ → ℕ
give_reads most = 68 + 4 * most + write_reads 5 40

-- Of a take, where the file grows too: the search; the give of what the file gains, along the whole list; a second
-- search, which ends at the first record; and what the writes take.
abbrev pub take_reads : ℕ → List HandPair → ℕ
take_reads rec_len pairs = search_reads rec_len pairs + (68 + 4 * length pairs) + 28 + write_reads 9 88
