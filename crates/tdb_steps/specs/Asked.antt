-- What a command asks for of a key: a reply, and the value that the key has afterwards, both by the value that it has
-- before.
use Rattle.std.specs.Prelude.{ℕ, List, [], ◌++◌, Option, None, Some, unwrap_or}
use Rattle.tdb_locks.specs.declared.turn.Reply.{Reply}
use Rattle.tdb_steps.specs.declared.flag.Flag.{Flag}
use Rattle.tdb_steps.specs.declared.flag.Flag.TheVariants.{Insert, Modify}

-- the reply to a command and the value that its key has afterwards, by what value the key has before, if any
pub record Asked : Type 0 where
  pub reply : Option (List ℕ) → Reply
  pub left : Option (List ℕ) → Option (List ℕ)

-- a fetch replies the value, and leaves it
abbrev pub fetched : Option (List ℕ) → Reply
fetched None = Reply.KeyMissing
fetched (Some v) = Reply.Value v

abbrev pub fetches : Asked
fetches = record { reply = fetched; left = λ v. v }

-- whether the key is there
abbrev pub is_there : Option (List ℕ) → Reply
is_there None = Reply.No
is_there (Some v) = Reply.Yes

abbrev pub asks : Asked
asks = record { reply = is_there; left = λ v. v }

-- a store with a flag: `Insert` refuses a key that is there, and `Modify` one that isn't
abbrev pub stored : Flag → Option (List ℕ) → Reply
stored Insert (Some v) = Reply.KeyThere
stored Modify None = Reply.KeyMissing
stored _ _ = Reply.Ok

abbrev pub stores : Flag → List ℕ → Asked
stores flag value = record { reply = stored flag; left = λ _. Some value }

-- the bytes that a key has, or none, and others behind them
abbrev pub joined : Option (List ℕ) → List ℕ → List ℕ
joined old more = unwrap_or old [] ++ more

abbrev pub appends : List ℕ → Asked
appends more = record { reply = λ _. Reply.Ok; left = λ v. Some (joined v more) }

-- a delete refuses a key that isn't there
abbrev pub deleted : Option (List ℕ) → Reply
deleted None = Reply.KeyMissing
deleted (Some v) = Reply.Ok

abbrev pub deletes : Asked
deletes = record { reply = deleted; left = λ _. None }

-- of each key a wipe asks that it has no value afterwards, whatever it has before
abbrev pub wipes : Asked
wipes = record { reply = λ _. Reply.Ok; left = λ _. None }
