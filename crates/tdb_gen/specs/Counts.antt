-- What is counted of the lines of plays.
use Rattle.std.specs.Prelude.{ℕ, ◌+◌, min, Bool, true, false, List, count_by, if◌then◌else◌}
use Rattle.tdb_disk.specs.Count.{last_count}
use Rattle.tdb_locks.specs.declared.turn.Reply.{Reply}
use Rattle.tdb_locks.specs.declared.turn.Turn.TheVariants.{Blocked, Done}
use Rattle.tdb_commands.specs.declared.line.Line.{Line}
use Rattle.tdb_commands.specs.declared.line.Line.TheVariants.{Took}
use Rattle.tdb_gen.specs.declared.counts.Counts.{Counts}

-- the line of a turn that was blocked
abbrev pub is_blocked : Line → Bool
is_blocked (Took who command (Blocked owner byte)) = true
is_blocked line = false

-- the line of a turn that ended its command with such a reply
abbrev pub is_end : (Reply → Bool) → Line → Bool
is_end is (Took who command (Done reply)) = is reply
is_end is line = false

abbrev pub is_ok : Reply → Bool
is_ok Reply.Ok = true
is_ok reply = false

abbrev pub is_value : Reply → Bool
is_value (Reply.Value value) = true
is_value reply = false

abbrev pub is_missing : Reply → Bool
is_missing Reply.KeyMissing = true
is_missing reply = false

abbrev pub is_yes : Reply → Bool
is_yes Reply.Yes = true
is_yes reply = false

abbrev pub is_no : Reply → Bool
is_no Reply.No = true
is_no reply = false

abbrev pub is_full : Reply → Bool
is_full (Reply.Full len need) = true
is_full reply = false

abbrev pub is_memory : Reply → Bool
is_memory Reply.Memory = true
is_memory reply = false

-- how many lines are such; a count of 64 bits stands still at its greatest
abbrev pub counted : (Line → Bool) → List Line → ℕ
counted is lines = min (count_by is lines) last_count

abbrev pub counts_of : List Line → Counts
counts_of lines = record {
  ok = counted (is_end is_ok) lines;
  values = counted (is_end is_value) lines;
  missing = counted (is_end is_missing) lines;
  yes = counted (is_end is_yes) lines;
  no = counted (is_end is_no) lines;
  full = counted (is_end is_full) lines;
  memory = counted (is_end is_memory) lines;
  blocked = counted is_blocked lines;
}

-- one more, where it is such
abbrev pub more : ℕ → Bool → ℕ
more n is = if is then min (n + 1) last_count else n

-- counts with one more line
abbrev pub counts_with : Counts → Line → Counts
counts_with c line = record {
  ok = more c.ok (is_end is_ok line);
  values = more c.values (is_end is_value line);
  missing = more c.missing (is_end is_missing line);
  yes = more c.yes (is_end is_yes line);
  no = more c.no (is_end is_no line);
  full = more c.full (is_end is_full line);
  memory = more c.memory (is_end is_memory line);
  blocked = more c.blocked (is_blocked line);
}
