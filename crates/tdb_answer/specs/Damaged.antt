-- Which files can be mended, and why one is refused.
use Rattle.std.specs.Prelude.{◌≡◌, ◌⊎◌, ◌<◌, ◌≤◌, ℕ, Bool, true, false, None, Some, List, length}
use Rattle.tdb_words.specs.declared.what.What.TheVariants.{Short, Header as BadHeader}
use Rattle.tdb_words.specs.Header.{header_fault}
use Rattle.tdb_mend.specs.Files.{looked_at, file_front_fault, FileCanBeMended, IsFileMendFault}
use Rattle.tdb_open.specs.declared.halt.Halt.{Halt}
use Rattle.tdb_open.specs.declared.halt.Halt.TheVariants as H
use Rattle.tdb_open.specs.declared.halt.Refusal.{Refusal}
use Rattle.tdb_open.specs.declared.halt.Refusal.TheVariants.{TooLong, Header, Corrupt, NeedsRecovery}
use Rattle.tdb_open.specs.declared.limits.TheConstants.{LONGEST_FILE}

-- a file with these bytes can be mended: it isn't too long, its front has no fault, but that it may have mutexes, and
-- its database can be read as the stock library would read it
pub record CanMend (img : List ℕ) : Type 0 where
  pub within : length img ≤ LONGEST_FILE
  pub front : file_front_fault img ≡ None
  pub mends : FileCanBeMended img

-- It is refused so: it is too long; or its header has a fault, of which the first is told; or its length is none of a
-- file with its header; or another fault keeps it from being mended, of which the first is told. Of a file with mutexes
-- it is the header and the length of the database behind them.
abbrev pub IsUnmendable : List ℕ → Refusal → Type 0
IsUnmendable img (TooLong len) = (len ≡ length img) × (LONGEST_FILE < len)
IsUnmendable img (Header fault) = (length img ≤ LONGEST_FILE) × (file_front_fault img ≡ Some (BadHeader, 0)) × (header_fault (looked_at img) ≡ Some fault)
IsUnmendable img (Corrupt what at) =
    (length img ≤ LONGEST_FILE) × (((what ≡ Short) × (file_front_fault img ≡ Some (what, at))) ⊎ ((file_front_fault img ≡ None) × IsFileMendFault img (what, at)))
IsUnmendable img NeedsRecovery = ⊥

-- whether a file with these bytes can be mended
abbrev pub MendsSo : List ℕ → Bool → Type 0
MendsSo img true = CanMend img
MendsSo img false = CanMend img → ⊥

-- where the mending of a file with these bytes halted, it is refused so, a call failed, or memory was wanting
abbrev pub MendHalts : List ℕ → Halt → Type 0
MendHalts img (H.Refused refusal) = IsUnmendable img refusal
MendHalts img H.Device = Unit {0}
MendHalts img H.Memory = Unit {0}
MendHalts img H.Log = ⊥
