-- The steps by which a cursor goes on through the chains.
use Rattle.std.specs.Prelude.{ℕ, ◌+◌, ◌≡◌, ◌≤◌, ◌<◌, ◌⊎◌, List, [], ◌∷◌, true, false, Option, Some, None, if◌then◌else◌}
use Rattle.tdb_space.specs.Form.{Form}
use Rattle.tdb_law.specs.Layout.{Cell, Chains, Place, behind, ahead_of, reached_of}
use Rattle.tdb_law.specs.Layout.Place.{before_chain, on_record}

-- A cursor has gone on from a place to a later one and has come to this key, or to none: it has entered no fewer
-- chains, no key has come to be further on, and each that was is the one come to, or is further on still.
pub record GoesOn (f : Form) (cs : Chains) (place later : Place) (key : Option (List ℕ)) : Type 0 where
  pub reached : reached_of place ≤ reached_of later
  pub fewer : (k : List ℕ) → ahead_of f cs later k ≡ true → ahead_of f cs place k ≡ true
  pub kept : (k : List ℕ) → ahead_of f cs place k ≡ true → (key ≡ Some k) ⊎ (ahead_of f cs later k ≡ true)

-- the key that is come to with a record: its own where it is used
abbrev pub key_met : Cell → Option (List ℕ)
key_met c = if c.live then Some c.key else None

-- To the next record of its chain; from before a chain to its first record; past the last record of a chain; past a
-- chain without one. (No record comes twice in a chain, so behind the one that is come to stand those that stood behind
-- it.)
abbrev pub ToNext : Type 0
ToNext = (f : Form) (cs : Chains) (i p : ℕ) (c : Cell) (rest : List Cell) → behind (cs i) p ≡ c ∷ rest → behind (cs i) c.place ≡ rest → GoesOn f cs (on_record i p) (on_record i c.place) (key_met c)

abbrev pub ToFirst : Type 0
ToFirst = (f : Form) (cs : Chains) (i : ℕ) (c : Cell) (rest : List Cell) → cs i ≡ c ∷ rest → behind (cs i) c.place ≡ rest → GoesOn f cs (before_chain i) (on_record i c.place) (key_met c)

abbrev pub PastLast : Type 0
PastLast = (f : Form) (cs : Chains) (i p : ℕ) → behind (cs i) p ≡ [] → GoesOn f cs (on_record i p) (before_chain (i + 1)) None

abbrev pub PastEmpty : Type 0
PastEmpty = (f : Form) (cs : Chains) (i : ℕ) → cs i ≡ [] → GoesOn f cs (before_chain i) (before_chain (i + 1)) None

-- steps that come to no key go on with a step that comes to one or none
abbrev pub StepsJoin : Type 0
StepsJoin = (f : Form) (cs : Chains) (a b c : Place) (key : Option (List ℕ)) → GoesOn f cs a b None → GoesOn f cs b c key → GoesOn f cs a c key

-- past the last chain no key is further on
abbrev pub NoneLeft : Type 0
NoneLeft = (f : Form) (cs : Chains) (i : ℕ) (k : List ℕ) → f.chains ≤ i → 0 < f.chains → ahead_of f cs (before_chain i) k ≡ false
