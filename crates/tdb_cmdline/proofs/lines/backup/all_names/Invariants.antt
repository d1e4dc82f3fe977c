-- The names of the files that are left come behind those that were pushed.
use Rattle.std.proofs.Common.{◌≡◌, ◌∷◌, ◌++◌, drop}
use Rattle.tdb_cmdline.specs.Lines.Backup.{all_names}
use Rattle.tdb_cmdline.proofs.lines.backup.all_names.Given as goal

abbrev pub invariant-loop-name : goal.invariant-loop-name
invariant-loop-name l = l.names ++ all_names l.fn.verify l.fn.suffix (drop l.name-index l.fn.more) ≡ all_names l.fn.verify l.fn.suffix (l.fn.file ∷ l.fn.more)
