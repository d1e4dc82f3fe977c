-- The command that opens a file and gives it back.
use Rattle.std.specs.Prelude.{ℕ, List}
use Rattle.tdb_answer.specs.declared.ending.Reply.{Reply}
use Rattle.tdb_answer.specs.declared.ending.Reply.TheVariants.{Closed}

-- what is replied over a file that is read as these bytes: that it is given back
abbrev pub quit_reply : List ℕ → Reply
quit_reply img = Closed
