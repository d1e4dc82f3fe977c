-- The text of the pairs that can be read, and what of it is written.
use Rattle.std.specs.Prelude.{◌≡◌, ◌⊎◌, ℕ, ◌≤◌, List, [], ◌++◌, length, map, take}
use Rattle.tdb_dump.specs.declared.pairs.Pair.{Pair}
use Rattle.tdb_dump.specs.DumpText.{dump_text}
use Rattle.tdb_space.specs.Form.{Form}
use Rattle.tdb_rescue.specs.Rescued.{rescued}

-- the pair of an entry, as a dump holds it
abbrev pub as_pair : ℕ × List ℕ × List ℕ → Pair
as_pair e = record { key = e.1; value = e.2 }

-- the dump text of the pairs of some entries
abbrev pub text_of : List (ℕ × List ℕ × List ℕ) → List ℕ
text_of entries = dump_text (map as_pair entries)

-- the dump text of the pairs that can be read in an image
abbrev pub rescued_text : Form → List ℕ → List ℕ
rescued_text f img = text_of (rescued f img)

-- of a text only some bytes, from its beginning on, were written behind what was there
abbrev pub WroteFront : List ℕ → List ℕ → List ℕ → Type 0
WroteFront before text now = (n : ℕ) × (n ≤ length text) × (now ≡ before ++ take n text)

-- the text that was held was written and isn't held any more, or nothing was done
abbrev pub HandedOn : List ℕ → List ℕ → List ℕ → List ℕ → Type 0
HandedOn before held now left = ((now ≡ before) × (left ≡ held)) ⊎ ((now ≡ before ++ held) × (left ≡ []))
