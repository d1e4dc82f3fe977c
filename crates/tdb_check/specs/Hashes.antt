-- The two hashes of a key, whole and over pieces.
use Rattle.std.specs.Prelude.{◌≡◌, ℕ, Option, Some, None, List}
use Rattle.tdb_words.specs.declared.hash.HashKind.{HashKind}
use Rattle.tdb_words.specs.declared.hash.HashKind.TheVariants.{Jenkins}
use Rattle.tdb_words.specs.declared.hash.HashRun.{HashRun}
use Rattle.tdb_words.specs.Hash.{h_of, h_jenkins}
use Rattle.tdb_words.specs.HashRun.{Holds}
use Rattle.tdb_check.specs.declared.hashes.KeyHashes.{KeyHashes}
use Rattle.tdb_check.specs.declared.hashes.KeyRun.{KeyRun}

-- the hash of a key in a file of this kind, and its Jenkins hash
pub record AreHashesOf (h : HashKind) (key : List ℕ) (hashes : KeyHashes) : Type 0 where
  pub own : hashes.own ≡ h_of h key
  pub mark : hashes.mark ≡ h_jenkins key

-- the file's own hash has read these bytes of a key of n bytes; where it is Jenkins' it needs no run of its own
abbrev pub OwnHolds : HashKind → ℕ → List ℕ → Option HashRun → Type 0
OwnHolds h n bytes None = h ≡ Jenkins
OwnHolds h n bytes (Some run) = Holds run h n bytes

-- both hashes have read these bytes of a key of n bytes
pub record BothHold (h : HashKind) (n : ℕ) (bytes : List ℕ) (run : KeyRun) : Type 0 where
  pub mark : Holds run.mark Jenkins n bytes
  pub own : OwnHolds h n bytes run.own
