-- The bytes of a record that a walk holds.
use Rattle.std.specs.Prelude.{◌≡◌, ℕ, ◌+◌, ◌-◌, ◌≤◌, List, take, drop}
use Rattle.tdb_words.specs.declared.record.Rec.{Rec}
use Rattle.tdb_backup.specs.declared.held.Held.{Held}

-- the key and the value of the record that was read last
abbrev pub pair_held : Held → List ℕ × List ℕ
pair_held h = (take (h.value_at - h.key_at) (drop h.key_at h.bytes.items), take (h.end - h.value_at) (drop h.value_at h.bytes.items))

-- at least the header of the record at an offset was read, and nothing behind the end of a file of this length
pub record IsFront (h : Held) (at len : ℕ) : Type 0 where
  pub header : 24 ≤ h.end
  pub inside : at + h.end ≤ len

-- the bytes that were read are those of the image from an offset on
abbrev pub Shows : Held → List ℕ → ℕ → Type 0
Shows h img at = take h.end h.bytes.items ≡ take h.end (drop at img)

-- a pair is the key and the value that stand behind a header at an offset, where the header is this one
abbrev pub IsPairOf : Rec → List ℕ → ℕ → List ℕ × List ℕ → Type 0
IsPairOf r img at pair = pair ≡ (take r.key_len (drop (at + 24) img), take r.data_len (drop (at + 24 + r.key_len) img))
