-- What is noted of the keys of one chain, and what it says of two records with one key.
use Rattle.std.specs.Prelude.{◌≡◌, ℕ, ◌+◌, ◌<◌, ◌≤◌, ◌==◌, ◌%◌, nat_lt, Bool, true, Option, Some, None, List, [], ◌∷◌, ◌++◌, length, map, count_by, slice_index, slice_index_or, if◌then◌else◌}
use Rattle.std.specs.List.{All, IsDistinct}
use Rattle.tdb_words.specs.declared.record.TheConstants.{USED}
use Rattle.sha2.specs.Sha256.{sha256}
use Rattle.tdb_words.specs.declared.word.Order.TheVariants.{Little}
use Rattle.tdb_words.specs.Word.{word}
use Rattle.tdb_words.specs.Hash.{h_jenkins}
use Rattle.tdb_space.specs.Form.{Form}
use Rattle.tdb_space.specs.Record.{magic_of, key_len_of, key_at}
use Rattle.tdb_space.specs.Pairs.{same_key}
use Rattle.tdb_space.specs.Accepted.{KeysDiffer}
use Rattle.tdb_space.specs.FirstFault.{has_twin}
use Rattle.tdb_check.specs.declared.keys.Noted.{Noted}
use Rattle.tdb_check.specs.declared.keys.Keys.{Keys}

-- a record has its key within the image, where it is used
abbrev pub IsKeyed : Form → List ℕ → ℕ → Type 0
IsKeyed f img at = magic_of f.order img at ≡ USED → at + 24 + key_len_of f.order img at ≤ length img

-- what is noted of a used record: Jenkins' hash of its key is its mark
abbrev pub noted_at : Form → List ℕ → ℕ → Noted
noted_at f img at = record { mark = h_jenkins (key_at f.order img at); key_len = key_len_of f.order img at; at = at }

-- what is noted of the used ones among these records
abbrev pub notes_of : Form → List ℕ → List ℕ → List Noted
notes_of f img [] = []
notes_of f img (x ∷ xs) = if magic_of f.order img x == USED then noted_at f img x ∷ notes_of f img xs else notes_of f img xs

abbrev pub mark_of : Noted → ℕ
mark_of e = e.mark

-- the key of a noted record
abbrev pub key_of_noted : Form → List ℕ → Noted → List ℕ
key_of_noted f img e = key_at f.order img e.at

-- a noted record's key stands in the image, and has its length and its mark
pub record IsNoted (mark : List ℕ → ℕ) (f : Form) (img : List ℕ) (e : Noted) : Type 0 where
  pub within : e.at + 24 + e.key_len ≤ length img
  pub long : e.key_len ≡ key_len_of f.order img e.at
  pub marked : e.mark ≡ mark (key_of_noted f img e)

abbrev pub AllNoted : (List ℕ → ℕ) → Form → List ℕ → List Noted → Type 0
AllNoted mark f img = All (IsNoted mark f img)

-- a noted record, marked by the first word of the digest of its key
abbrev pub digest_mark : List ℕ → ℕ
digest_mark key = word Little (sha256 key) 0

abbrev pub digested : Form → List ℕ → Noted → Noted
digested f img e = record { mark = digest_mark (key_of_noted f img e); key_len = e.key_len; at = e.at }

-- the marks of the first so many records rise
abbrev pub MarksRise : List Noted → ℕ → Type 0
MarksRise es n = (i : ℕ) (d : Noted) → i + 1 < n → mark_of (slice_index_or es i d) < mark_of (slice_index_or es (i + 1) d)

-- among the first so many records, at most eight that follow each other have one mark
abbrev pub NoLargeGroup : List Noted → ℕ → Type 0
NoLargeGroup es n = (i : ℕ) (d : Noted) → i + 8 < n → mark_of (slice_index_or es i d) ≡ mark_of (slice_index_or es (i + 8) d) → ⊥

-- no two noted records have the same key
abbrev pub NotedDiffer : Form → List ℕ → List Noted → Type 0
NotedDiffer f img es = IsDistinct same_key (map (key_of_noted f img) es)

-- one before a noted record has its key
abbrev pub TwinAt : Form → List ℕ → List Noted → ℕ → Type 0
TwinAt f img es i = (k : ℕ) × (k < i) × ((d : Noted) → key_of_noted f img (slice_index_or es k d) ≡ key_of_noted f img (slice_index_or es i d))

-- none of those before a noted record has its key, from a place on
abbrev pub NoTwinBefore : Form → List ℕ → List Noted → ℕ → ℕ → Type 0
NoTwinBefore f img es i from = (k : ℕ) (d : Noted) → from ≤ k → k < i → key_of_noted f img (slice_index_or es k d) ≡ key_of_noted f img (slice_index_or es i d) → ⊥

-- the used ones among these records are noted
pub record KeptIn (f : Form) (img xs : List ℕ) (k : Keys) : Type 0 where
  pub noted : k.noted.items ≡ notes_of f img xs
  pub all_noted : AllNoted h_jenkins f img k.noted.items

-- what is found among records: that no two have one key, or the first whose key an earlier one has
abbrev pub TwinFound : Form → List ℕ → List ℕ → Option ℕ → Type 0
TwinFound f img xs None = KeysDiffer f img xs
TwinFound f img xs (Some at) = (ys : List ℕ) × (zs : List ℕ) × (xs ≡ ys ++ at ∷ zs) × KeysDiffer f img ys × (has_twin f img ys at ≡ true)

-- Where a table counts a place once at most, at most one of these records has a mark of that place.
abbrev pub CountsMarks : List ℕ → List Noted → Type 0
CountsMarks counts es = (k : ℕ) → k < length counts → slice_index counts k ≤ 1 → count_by (λ e. e.mark % length counts == k) es ≤ 1

-- a mark of its place is counted more than once
abbrev pub is_alike : List ℕ → Noted → Bool
is_alike counts e = nat_lt 1 (slice_index counts (e.mark % length counts))

-- some of these records are noted, and where no two of them have the same key, no two of all have
pub record KeptAlike (f : Form) (img xs : List ℕ) (k : Keys) : Type 0 where
  pub ys : List ℕ
  pub kept : KeptIn f img ys k
  pub enough : KeysDiffer f img ys → KeysDiffer f img xs
