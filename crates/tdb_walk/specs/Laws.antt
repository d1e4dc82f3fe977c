-- What the end of a move means for the keys that are further on.
use Rattle.std.specs.Prelude.{◌≡◌, ℕ, ◌+◌, ◌≤◌, ◌<◌, List, None, Some, true, false}
use Rattle.tdb_space.specs.Form.{Form}
use Rattle.tdb_space.specs.Record.{key_at}
use Rattle.tdb_space.specs.Pairs.{home}
use Rattle.tdb_space.specs.Extents.{HandPair}
use Rattle.tdb_space.specs.Accepted.{AcceptWith}
use Rattle.tdb_law.specs.Layout.{Chains, Place, chains_in, live_in, ahead_of, reached_of}
use Rattle.tdb_law.specs.Layout.Place.{off_chains, before_chain, on_record}
use Rattle.tdb_law.specs.Going.{GoesOn}
use Rattle.tdb_walk.specs.declared.live.Live.{Live}
use Rattle.tdb_walk.specs.NextLive.{left_in, NoneLive, IsNext}

-- a key is further on exactly where what is left of its chain has a live record with it
abbrev pub AheadIsLeft : Type 0
AheadIsLeft = (f : Form) (cs : Chains) (place : Place) (k : List ℕ) → ahead_of f cs place k ≡ live_in (left_in cs place (home f k)) k

-- where no live record is left, no key is further on
abbrev pub EndsRightly : Type 0
EndsRightly = (f : Form) (cs : Chains) (place : Place) (k : List ℕ) → 0 < f.chains → NoneLive cs place f.chains → ahead_of f cs place k ≡ false

-- a walk that has come to a place hasn't entered the chains from this number on
abbrev pub IsUnentered : Place → ℕ → Type 0
IsUnentered off_chains n = ⊥
IsUnentered (before_chain i) n = i ≤ n
IsUnentered (on_record i p) n = i + 1 ≤ n

-- A cursor that stands before a chain then, where no chain before it has a live record left, has gone on and lost no
-- key.
abbrev pub BlocksRightly : Type 0
BlocksRightly = (f : Form) (cs : Chains) (place : Place) (n : ℕ) → IsUnentered place n → NoneLive cs place n → GoesOn f cs place (before_chain n) None

-- A walk has come from a place to a later one at a key: it has gone on to that key, which was further on and is so no
-- longer, and whose chain it has entered.
pub record ComesTo (f : Form) (cs : Chains) (place later : Place) (key : List ℕ) : Type 0 where
  pub goes : GoesOn f cs place later (Some key)
  pub was : ahead_of f cs place key ≡ true
  pub behind : ahead_of f cs later key ≡ false
  pub reached : home f key < reached_of later

-- A cursor that stands on the next live record of an accepted image has come to its key.
abbrev pub ComesRightly : Type 0
ComesRightly = (f : Form) (img : List ℕ) (hands : List HandPair) (place : Place) (live : Live) → AcceptWith f img hands → IsNext f img place (Some live)
    → ComesTo f (chains_in f img) place (on_record live.chain live.off) (key_at f.order img live.off)

-- all of these
pub record MovesAreWalks : Type 0 where
  pub ahead : AheadIsLeft
  pub ends : EndsRightly
  pub blocks : BlocksRightly
  pub comes : ComesRightly
