-- The listing of an image, and what one that is refused leaves.
use Rattle.std.specs.Prelude.{◌≡◌, ◌⊎◌, ℕ, ◌≤◌, List, [], ◌++◌, length, map, take}
use Rattle.tdb_chain.specs.declared.refusal.ValueRefusal as Value
use Rattle.tdb_dump.specs.declared.listing.Listing.{Listing}
use Rattle.tdb_dump.specs.declared.pairs.Pair.{Pair}
use Rattle.tdb_dump.specs.Listing.{entry_text, listing_text}
use Rattle.tdb_space.specs.Form.{Form}
use Rattle.tdb_space.specs.Pairs.{order_of}
use Rattle.tdb_backup.specs.declared.refusal.DumpRefusal.{DumpRefusal}
use Rattle.tdb_backup.specs.declared.refusal.DumpRefusal.TheVariants.{Io, Memory}

-- a key and its value, as a dump holds them
abbrev pub as_pair : List ℕ × List ℕ → Pair
as_pair p = record { key = p.0; value = p.1 }

-- what is written of a key and its value
abbrev pub text_of : Listing → List ℕ × List ℕ → List ℕ
text_of listing p = entry_text listing p.0 p.1

-- the listing of these keys and values
abbrev pub order_text : Listing → List (List ℕ × List ℕ) → List ℕ
order_text listing order = listing_text listing (map as_pair order)

-- the listing of an image: of all its pairs, in order
abbrev pub listing_of : Listing → Form → List ℕ → List ℕ
listing_of listing f img = order_text listing (order_of f img)

-- of a text only some bytes, from its beginning on, were written behind what was there
abbrev pub WroteFront : List ℕ → List ℕ → List ℕ → Type 0
WroteFront before text now = (n : ℕ) × (n ≤ length text) × (now ≡ before ++ take n text)

-- Behind the pairs that were given at most one was listed: of its text, behind what was held, only some bytes, from its
-- beginning on, were written.
pub record WroteNext (listing : Listing) (order given : List (List ℕ × List ℕ)) (before held now : List ℕ) : Type 0 where
  pub next : List (List ℕ × List ℕ)
  pub rest : List (List ℕ × List ℕ)
  pub split : order ≡ given ++ next ++ rest
  pub one : length next ≤ 1
  pub wrote : WroteFront before (held ++ order_text listing next) now

-- the text that was held was written and isn't held any more, or nothing was done
abbrev pub HandedOn : List ℕ → List ℕ → List ℕ → List ℕ → Type 0
HandedOn before held now left = ((now ≡ before) × (left ≡ held)) ⊎ ((now ≡ before ++ held) × (left ≡ []))

-- a listing is refused as the pair that it is to write
abbrev pub of_value : Value.ValueRefusal → DumpRefusal
of_value Value.TheVariants.Io = Io
of_value Value.TheVariants.Memory = Memory
