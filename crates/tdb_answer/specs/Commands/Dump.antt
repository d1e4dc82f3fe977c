-- The command that prints all pairs of a file, or the value of one key alone.
use Rattle.std.specs.Prelude.{ℕ, Option, None, Some, List}
use Rattle.tdb_backup.specs.Dump.{listing_of}
use Rattle.tdb_dump.specs.declared.listing.Listing.{Listing}
use Rattle.tdb_space.specs.Form.{form_of}
use Rattle.tdb_space.specs.Pairs.{map_of}
use Rattle.tdb_answer.specs.declared.ending.Reply.{Reply}
use Rattle.tdb_answer.specs.declared.ending.Reply.TheVariants.{Escaped, KeyMissing}

-- the value of a key alone, or that the map has none
abbrev pub escaped_value : Option (List ℕ) → Reply
escaped_value None = KeyMissing
escaped_value (Some value) = Escaped value

-- what is replied over a file with these bytes where the value of a key is asked for
abbrev pub value_reply : List ℕ → List ℕ → Reply
value_reply key img = escaped_value (map_of (form_of img) img key)

-- what is printed of the pairs of a file with these bytes, in the order of its chains
abbrev pub pairs_text : Listing → List ℕ → List ℕ
pairs_text listing img = listing_of listing (form_of img) img
