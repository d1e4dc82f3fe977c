-- Groups before they are prepared.
use Rattle.std.specs.Prelude.{ℕ, ◌≡◌, length}
use Rattle.tdb_group.specs.Group.{GroupState, IsOpen}

-- A group has so many files, in whose transactions commands may be done.
pub record IsBegun (count : ℕ) (g : GroupState) : Type 0 where
  pub open_still : IsOpen g
  pub unfinished : g.finished ≡ 0
  pub files : length g.files ≡ count
