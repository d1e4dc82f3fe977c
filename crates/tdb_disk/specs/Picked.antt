-- Three images that a stop may leave.
use Rattle.std.specs.Prelude.{ℕ, List, length, replicate, take}
use Rattle.tdb_disk.specs.History.{wrote, wrote_word, grew, cut, synced, History, began, called, seen}
use Rattle.tdb_disk.specs.Image.{overlay, padded}
use Rattle.tdb_disk.specs.declared.pick.Pick.{Pick}
use Rattle.tdb_disk.specs.declared.pick.Pick.TheVariants.{Synced, Read, Torn}

-- the bytes as of the last sync
abbrev pub synced_image : History → List ℕ
synced_image (began bytes) = bytes
synced_image (called h (wrote at bytes)) = synced_image h
synced_image (called h (wrote_word at bytes)) = synced_image h
synced_image (called h (grew to)) = synced_image h
synced_image (called h (cut to)) = synced_image h
synced_image (called h synced) = seen h

-- the bytes as a read gives them, but 0xA5 in each range that was written since the last sync
abbrev pub torn_image : History → List ℕ
torn_image (began bytes) = bytes
torn_image (called h (wrote at bytes)) = overlay (torn_image h) at (replicate (length bytes) 0xA5)
torn_image (called h (wrote_word at bytes)) = overlay (torn_image h) at bytes
torn_image (called h (grew to)) = padded (torn_image h) to
torn_image (called h (cut to)) = take to (torn_image h)
torn_image (called h synced) = seen h

-- the image that is picked
abbrev pub picked : Pick → History → List ℕ
picked Synced h = synced_image h
picked Read h = seen h
picked Torn h = torn_image h
