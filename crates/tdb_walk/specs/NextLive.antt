-- The next live record from a place on, over the lists of records of the chains.
use Rattle.std.specs.Prelude.{◌≡◌, ℕ, ◌+◌, ◌%◌, ◌≤◌, ◌<◌, List, [], Option, None, Some, nat_lt, ◌==◌, if◌then◌else◌}
use Rattle.std.specs.List.{find}
use Rattle.tdb_words.specs.declared.record.TheConstants.{USED}
use Rattle.tdb_words.specs.Record.{rec_at}
use Rattle.tdb_space.specs.Form.{Form, data_start}
use Rattle.tdb_space.specs.Chain.{chain_of, Member}
use Rattle.tdb_law.specs.Layout.{Cell, Chains, Place, behind, chains_in}
use Rattle.tdb_law.specs.Layout.Place.{off_chains, before_chain, on_record}
use Rattle.tdb_walk.specs.declared.live.Live.{Live}
use Rattle.tdb_walk.specs.declared.standing.Standing.{Standing}
use Rattle.tdb_walk.specs.declared.standing.Standing.TheVariants.{Before, On, Past}

-- the first live record of these
abbrev pub first_live : List Cell → Option Cell
first_live cs = find (λ c. c.live) cs

-- What a walk that has come to a place still has before it of a chain: all of a chain that it hasn't entered, of that
-- in which it stands the records behind its own, and nothing of those that it has left.
abbrev pub left_in : Chains → Place → ℕ → List Cell
left_in cs off_chains j = []
left_in cs (before_chain i) j = if nat_lt j i then [] else cs j
left_in cs (on_record i p) j = if j == i then behind (cs i) p else (if nat_lt j i then [] else cs j)

-- none of the first chains, so many of them, has a live record left from a place on
abbrev pub NoneLive : Chains → Place → ℕ → Type 0
NoneLive cs place n = (j : ℕ) → j < n → first_live (left_in cs place j) ≡ None

-- The next live record from a place on: in the first chain that has one left, the first one there.
pub record IsNextLive (f : Form) (cs : Chains) (place : Place) (chain : ℕ) (cell : Cell) : Type 0 where
  pub below : chain < f.chains
  pub passed : NoneLive cs place chain
  pub first : first_live (left_in cs place chain) ≡ Some cell

-- a record as it was found in a chain of an image
abbrev pub live_at : Form → List ℕ → ℕ → Option Cell → Option Live
live_at f img chain None = None
live_at f img chain (Some c) = Some (record { chain = chain; off = c.place; rec = rec_at f.order img c.place })

-- what is found from a place on in an image: the next live record, or none where none is left
abbrev pub IsNext : Form → List ℕ → Place → Option Live → Type 0
IsNext f img place None = NoneLive (chains_in f img) place f.chains
IsNext f img place (Some live) = (cell : Cell) × IsNextLive f (chains_in f img) place live.chain cell × (live_at f img live.chain (Some cell) ≡ Some live)

-- the place in the chains where a cursor stands
abbrev pub place_of : Standing → Place
place_of (Before chain) = before_chain chain
place_of (On chain off) = on_record chain off
place_of Past = off_chains

-- a cursor that stands on a record stands on one of an image's chain
abbrev pub StandsIn : Form → List ℕ → Standing → Type 0
StandsIn f img (On chain off) = (chain < f.chains) × Member off (chain_of f img chain)
StandsIn f img place = Unit {0}

-- a live record can stand in a file of this length, and has room there for its key and its value; its chain is one of
-- the file's
pub record IsWithin (f : Form) (size : ℕ) (live : Live) : Type 0 where
  pub below : live.chain < f.chains
  pub aligned : live.off % 4 ≡ 0
  pub above : data_start f ≤ live.off
  pub used : live.rec.magic ≡ USED
  pub fits : live.off + 24 + live.rec.key_len + live.rec.data_len + 4 ≤ size
