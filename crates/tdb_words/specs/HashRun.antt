-- What a hash over pieces has read.
use Rattle.std.specs.Prelude.{ℕ, List}
use Rattle.tdb_words.specs.declared.hash.HashKind.{HashKind}
use Rattle.tdb_words.specs.declared.hash.HashKind.TheVariants.{Old, Jenkins}
use Rattle.tdb_words.specs.declared.hash.Way.{Way}
use Rattle.tdb_words.specs.declared.hash.Way.TheVariants.{Old as OldWay, Jenkins as JenkinsWay}
use Rattle.tdb_words.specs.declared.hash.HashRun.{HashRun}
use Rattle.tdb_words.specs.Running.{OldHolds, JenkinsHolds}

abbrev pub WayHolds : Way → HashKind → ℕ → List ℕ → Type 0
WayHolds (OldWay run) Old n bytes = OldHolds run.value run.shift n bytes
WayHolds (JenkinsWay run) Jenkins n bytes = JenkinsHolds run.mixer run.waiting run.held n bytes
WayHolds (OldWay run) Jenkins n bytes = ⊥
WayHolds (JenkinsWay run) Old n bytes = ⊥

-- the run hashes a key of n bytes by this hash, and has read these bytes, in pieces that were joined
pub record Holds (run : HashRun) (h : HashKind) (n : ℕ) (bytes : List ℕ) : Type 0 where
  pub way : WayHolds run.way h n bytes
