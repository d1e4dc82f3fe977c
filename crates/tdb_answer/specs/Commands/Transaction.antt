-- The words of transactions, each as a command alone.
use Rattle.std.specs.Prelude.{ℕ, List}
use Rattle.tdb_answer.specs.declared.ending.Reply.{Reply}
use Rattle.tdb_answer.specs.declared.ending.Reply.TheVariants.{Done, NoTransaction}

-- what is replied over a file that is read as these bytes: that a transaction was started, which is cancelled at the
-- end
abbrev pub start_reply : List ℕ → Reply
start_reply img = Done

-- that there is none to commit, or to cancel, since a command alone has started none
abbrev pub commit_reply : List ℕ → Reply
commit_reply img = NoTransaction

abbrev pub cancel_reply : List ℕ → Reply
cancel_reply img = NoTransaction
