-- The command that shows the value of a key.
use Rattle.std.specs.Prelude.{ℕ, Option, None, Some, List}
use Rattle.tdb_space.specs.Form.{form_of}
use Rattle.tdb_space.specs.Pairs.{map_of}
use Rattle.tdb_answer.specs.declared.ending.Reply.{Reply}
use Rattle.tdb_answer.specs.declared.ending.Reply.TheVariants.{Value, KeyMissing}

-- the value, or that the map has none
abbrev pub shown : Option (List ℕ) → Reply
shown None = KeyMissing
shown (Some value) = Value value

-- what is replied over a file that is read as these bytes
abbrev pub show_reply : List ℕ → List ℕ → Reply
show_reply key img = shown (map_of (form_of img) img key)
