-- The command that checks a file, and tells how many keys it has.
use Rattle.std.specs.Prelude.{ℕ, List, length}
use Rattle.tdb_space.specs.Form.{form_of}
use Rattle.tdb_space.specs.Pairs.{order_of}
use Rattle.tdb_answer.specs.declared.ending.Reply.{Reply}
use Rattle.tdb_answer.specs.declared.ending.Reply.TheVariants.{Number}

-- how many keys a file with these bytes has
abbrev pub keys_in : List ℕ → ℕ
keys_in img = length (order_of (form_of img) img)

-- what is replied over a file that is read as these bytes, which was checked as it was opened
abbrev pub check_reply : List ℕ → Reply
check_reply img = Number (keys_in img)
