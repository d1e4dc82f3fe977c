-- The names that were gone over are all new and were seen, so what is left tells whether all are.
use Rattle.std.proofs.Common.{◌≡◌, ℕ, List, drop}
use Rattle.tdb_cmdline.specs.Lines.Backup.{all_differ, HasNames}
use Rattle.tdb_cmdline.proofs.BackupNames.{all_new}
use Rattle.tdb_cmdline.proofs.lines.backup.all_differ.Given as goal

abbrev pub invariant-loop-name : goal.invariant-loop-name
invariant-loop-name l = (before : List (List ℕ)) × HasNames l.seen before × (all_differ l.fn.names ≡ all_new before (drop l.name-index l.fn.names))
