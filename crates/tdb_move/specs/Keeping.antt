-- That a key which is moved is at each moment in one of the two files.
use Rattle.std.specs.Prelude.{ℕ, ◌≡◌, List, Some, length, slice_get}
use Rattle.std.specs.FinMap.{get}
use Rattle.tdb_law.specs.Openers.{Map}
use Rattle.tdb_world.specs.Calm.{OpensToMap}
use Rattle.tdb_world.specs.OverFile.{OverFile}
use Rattle.tdb_group.specs.Members.{Maps, form_of_file}
use Rattle.tdb_group.specs.Stops.{AfterSome, AreLeftSince}

-- The files of a group are two, of which the first has this value for a key after its transaction, and the second
-- before it.
pub record HandsOver (key value : List ℕ) (ps : ℕ → Maps) (files : List OverFile) : Type 0 where
  pub two : length files ≡ 2
  pub gets : get (ps 0).after key ≡ Some value
  pub had : get (ps 1).before key ≡ Some value

-- one of these images opens to a map that gives the key this value
pub record KeyIsThere (key value : List ℕ) (files : List OverFile) (images : ℕ → List ℕ) : Type 0 where
  pub at : ℕ
  pub file : OverFile
  pub there : slice_get files at ≡ Some file
  pub map : Map
  pub opens : OpensToMap (form_of_file file) map (images at)
  pub gives : get map key ≡ Some value

-- The law of a move: in any call of its group whose stops come behind some number of its files, so in a command, a
-- preparation, a commit and a cancel, a stop at any moment leaves the key with its value in one of the two.
abbrev pub KeyStays : Type 0
KeyStays = (key value : List ℕ) (ps : ℕ → Maps) (olds news : List OverFile) (least most : ℕ) → HandsOver key value ps olds → AfterSome least most ps olds news
    → (images : ℕ → List ℕ) → AreLeftSince olds news images → KeyIsThere key value olds images
