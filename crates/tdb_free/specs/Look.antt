-- What looks like a free record beside a stretch of the file, from a few words there.
use Rattle.std.specs.Prelude.{◌≡◌, ◌⊎◌, ℕ, ◌+◌, ◌-◌, ◌≤◌, List, length}
use Rattle.tdb_words.specs.declared.record.TheConstants.{FREE}
use Rattle.tdb_words.specs.declared.word.Order.{Order}
use Rattle.tdb_words.specs.Word.{word}
use Rattle.tdb_space.specs.Record.{magic_of}
use Rattle.tdb_space.specs.Extents.{HandPair}
use Rattle.tdb_free.specs.FreeList.{end_of}

-- a header fits into the image at an offset, and its magic is that of a free record
pub record LooksFree (o : Order) (img : List ℕ) (at : ℕ) : Type 0 where
  pub within : at + 24 ≤ length img
  pub magic : magic_of o img at ≡ FREE

-- what ends at a place starts at this offset, by the word in front of the place, which is the length of a record
pub record StartsByTailer (o : Order) (img : List ℕ) (at start : ℕ) : Type 0 where
  pub within : at ≤ length img
  pub least : 28 ≤ word o img (at - 4)
  pub back : start + word o img (at - 4) ≡ at

-- what ends at a place looks free, where it starts by the word in front of the place
abbrev pub EndsFree : Order → List ℕ → ℕ → Type 0
EndsFree o img at = (start : ℕ) × StartsByTailer o img at start × LooksFree o img start

-- what starts where a hand ends looks free, or what ends where it starts
abbrev pub FreeBeside : Order → List ℕ → HandPair → Type 0
FreeBeside o img hand = LooksFree o img (end_of hand) ⊎ EndsFree o img hand.0
