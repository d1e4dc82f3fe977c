-- The command that adds a key: where the key isn't there it does what a store does.
use Rattle.std.specs.Prelude.{ℕ, if◌then◌else◌, List, is_some}
use Rattle.tdb_space.specs.Form.{form_of}
use Rattle.tdb_space.specs.Pairs.{map_of}
use Rattle.tdb_answer.specs.declared.ending.Reply.{Reply}
use Rattle.tdb_answer.specs.declared.ending.Reply.TheVariants.{KeyThere}
use Rattle.tdb_answer.specs.Commands.Store.{store_reply}

-- what is replied over a file that is read as these bytes and may have so many: that the key is there, or what a store
-- replies
abbrev pub insert_reply : ℕ → List ℕ → List ℕ → List ℕ → Reply
insert_reply limit key value img =
    if is_some (map_of (form_of img) img key) then KeyThere else store_reply limit key value img
