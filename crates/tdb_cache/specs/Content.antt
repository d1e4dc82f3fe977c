-- The content of a file in memory, and which bytes of it the file has.
use Rattle.std.specs.Prelude.{◌≡◌, ℕ, ◌<◌, ◌≤◌, ◌⊎◌, List, length, slice_index}
use Rattle.tdb_cache.specs.declared.content.Content.{Content}

-- the most bytes that are kept, 1 MiB
abbrev pub most_content : ℕ
most_content = 1048576

-- the bytes that are kept
abbrev pub content_bytes : Content → List ℕ
content_bytes content = content.bytes.items

-- the byte at this place isn't one of those that are to be written
abbrev pub IsWritten : Content → ℕ → Type 0
IsWritten content at = (at < content.pending.start) ⊎ (content.pending.end ≤ at)

-- the bytes that aren't to be written are those of the image
abbrev pub SameWritten : Content → List ℕ → Type 0
SameWritten content image =
    (at : ℕ) → at < length image → IsWritten content at → slice_index (content_bytes content) at ≡ slice_index image at
