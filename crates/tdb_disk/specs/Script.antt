-- Which calls of a form in memory are to fail.
use Rattle.std.specs.Prelude.{ℕ, ◌+◌, ◌≡◌, ◌<◌, ◌≤◌, ◌⊎◌, Contains, min, Result, IsErr}
use Rattle.tdb_disk.specs.Count.{last_count, Rose}
use Rattle.tdb_disk.specs.declared.script.Call.{Call}
use Rattle.tdb_disk.specs.declared.script.Call.TheVariants.{Len, Read, Write, WriteWord, Grow, Cut, Sync, Take, Rename, Remove}
use Rattle.tdb_disk.specs.declared.script.Made.{Made}
use Rattle.tdb_disk.specs.declared.script.Script.{Script}

-- how many calls of a kind were made, which is the number of the next one
abbrev pub number_of : Made → Call → ℕ
number_of made Len = made.len
number_of made Read = made.read
number_of made Write = made.write
number_of made WriteWord = made.write_word
number_of made Grow = made.grow
number_of made Cut = made.cut
number_of made Sync = made.sync
number_of made Take = made.take
number_of made Rename = made.rename
number_of made Remove = made.remove

-- no call was made
abbrev pub unmade : Made
unmade =
    record { len = 0; read = 0; write = 0; write_word = 0; grow = 0; cut = 0; sync = 0; take = 0; rename = 0; remove = 0 }

-- a count with one more, up to its last value
abbrev pub one_more : ℕ → ℕ
one_more n = min (n + 1) last_count

-- the counts after one more call of a kind
abbrev pub made_more : Made → Call → Made
made_more made Len = record made { len = one_more made.len }
made_more made Read = record made { read = one_more made.read }
made_more made Write = record made { write = one_more made.write }
made_more made WriteWord = record made { write_word = one_more made.write_word }
made_more made Grow = record made { grow = one_more made.grow }
made_more made Cut = record made { cut = one_more made.cut }
made_more made Sync = record made { sync = one_more made.sync }
made_more made Take = record made { take = one_more made.take }
made_more made Rename = record made { rename = one_more made.rename }
made_more made Remove = record made { remove = one_more made.remove }

-- the script after one more call of a kind
abbrev pub counted : Script → Call → Script
counted script call = record script { made = made_more script.made call }

-- the next call of a kind is one of those that are to fail
abbrev pub Fails : Script → Call → Type 0
Fails script call = Contains script.failing.items (call, number_of script.made call)

-- A call fails exactly where the list names it or it found no memory, and it is counted.
pub record FailsExactly {V F : Type 0} (call : Call) (before now : Script) (starved_before starved_now : ℕ)
    (answer : Result V F) : Type 0 where
  pub named : Fails before call → IsErr answer
  pub starved : starved_before < starved_now → IsErr answer
  pub only : IsErr answer → Fails before call ⊎ Rose starved_before starved_now
  pub never_falls : starved_before ≤ starved_now
  pub counts : now ≡ counted before call
