-- The files that were gone over were copied, so what is left of the others tells what is left of all.
use Rattle.std.proofs.Common.{◌≡◌, ◌∷◌, ℕ, List, drop, false, IsTrue}
use Rattle.tdb_cmdline.specs.CopyNames.{IsNameAmong, NamesDiffer}
use Rattle.tdb_answer.proofs.Copies.{Carries}
use Rattle.tdb_answer.specs.Takes.{MayTakeEach, copies_take}
use Rattle.tdb_answer.proofs.Hearing.{BackupCarries}
use Rattle.tdb_answer.proofs.commands.backup.back_up.Given as goal

abbrev pub invariant-loop-name : goal.invariant-loop-name
invariant-loop-name g l = record {
  take : MayTakeEach g.F.Files.may_take (copies_take l.fn.suffix (drop l.name-index l.fn.more));
  free : (other : List ℕ) → g.F.Files.is_taken l.files other ≡ false;
  sound : g.F.Files.faults l.files ≡ g.F.Files.faults l.fn.files;
  others : (other : List ℕ) → (IsNameAmong false l.fn.suffix (l.fn.file ∷ l.fn.more) other → ⊥) → g.F.Files.held l.files other ≡ g.F.Files.held l.fn.files other;
  differ : NamesDiffer false l.fn.suffix (drop l.name-index l.fn.more);
  within : (other : List ℕ) → IsNameAmong false l.fn.suffix (drop l.name-index l.fn.more) other → IsNameAmong false l.fn.suffix (l.fn.file ∷ l.fn.more) other;
  stays : (other : List ℕ) → IsNameAmong false l.fn.suffix (drop l.name-index l.fn.more) other → g.F.Files.held l.files other ≡ g.F.Files.held l.fn.files other;
  hears : IsTrue g.F.D.Disk.tells → BackupCarries (l.fn.file ∷ l.fn.more) (g.F.Files.held l.fn.files) (g.L.Logs.logs l.fn.logs) (drop l.name-index l.fn.more) (g.L.Logs.logs l.logs);
  carries : IsTrue g.F.D.Disk.tells → Carries l.fn.suffix (l.fn.file ∷ l.fn.more) (g.F.Files.held l.fn.files) (g.F.Files.faults l.fn.files) (drop l.name-index l.fn.more) (g.F.Files.held l.files) (g.F.Files.faults l.files);
}
