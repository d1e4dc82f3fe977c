-- The files that were gone over were verified and told, so what is left of the others tells what is left of all.
use Rattle.std.proofs.Common.{◌≡◌, ◌∷◌, ℕ, List, drop, true, false, IsTrue}
use Rattle.tdb_cmdline.specs.CopyNames.{IsNameAmong, NamesDiffer}
use Rattle.tdb_answer.specs.Takes.{MayTakeEach, verified_take}
use Rattle.tdb_answer.proofs.Hearing.{VerifyCarries}
use Rattle.tdb_answer.proofs.Verifying.{Carries}
use Rattle.tdb_answer.proofs.commands.verify.verify_files.Given as goal

abbrev pub invariant-loop-name : goal.invariant-loop-name
invariant-loop-name g l = record {
  take : MayTakeEach g.F.Files.may_take (verified_take l.fn.suffix (drop l.name-index l.fn.more));
  free : (other : List ℕ) → g.F.Files.is_taken l.files other ≡ false;
  sound : g.F.Files.faults l.files ≡ g.F.Files.faults l.fn.files;
  heard : g.K.Sink.faults l.output ≡ g.K.Sink.faults l.fn.output;
  others : (other : List ℕ) → (IsNameAmong true l.fn.suffix (l.fn.file ∷ l.fn.more) other → ⊥) → g.F.Files.held l.files other ≡ g.F.Files.held l.fn.files other;
  differ : NamesDiffer true l.fn.suffix (drop l.name-index l.fn.more);
  within : (other : List ℕ) → IsNameAmong true l.fn.suffix (drop l.name-index l.fn.more) other → IsNameAmong true l.fn.suffix (l.fn.file ∷ l.fn.more) other;
  stays : (other : List ℕ) → IsNameAmong true l.fn.suffix (drop l.name-index l.fn.more) other → g.F.Files.held l.files other ≡ g.F.Files.held l.fn.files other;
  hears : IsTrue g.F.D.Disk.tells → VerifyCarries l.fn.suffix (l.fn.file ∷ l.fn.more) (g.F.Files.held l.fn.files) (g.L.Logs.logs l.fn.logs) (drop l.name-index l.fn.more) (g.L.Logs.logs l.logs);
  carries : IsTrue g.F.D.Disk.tells
      → Carries g.K.Sink.tells l.fn.suffix (l.fn.file ∷ l.fn.more) (g.F.Files.held l.fn.files) (g.K.Sink.written l.fn.output) (drop l.name-index l.fn.more) (g.F.Files.held l.files) (g.K.Sink.written l.output);
}
