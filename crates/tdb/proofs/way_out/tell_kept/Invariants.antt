-- No name is taken before and behind each look.
use Rattle.std.proofs.Common.{◌≡◌, ℕ, List, false}
use Rattle.tdb_files.specs.DirFiles.{name_is_taken}
use Rattle.tdb.proofs.way_out.tell_kept.Given as goal

abbrev pub invariant-loop-name : goal.invariant-loop-name
invariant-loop-name l = (name : List ℕ) → name_is_taken l.files name ≡ false
