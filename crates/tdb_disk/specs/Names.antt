-- What a set of files says of names: functions of a name, as a list of bytes.
use Rattle.std.specs.Prelude.{◌≡◌, ◌≢◌, ℕ, List, Option, Some, None}

-- nothing changed at any name
abbrev pub SameAll : {X : Type 0} → (List ℕ → X) → (List ℕ → X) → Type 0
SameAll old new = (name : List ℕ) → new name ≡ old name

-- nothing changed at any other name
abbrev pub SameBut : {X : Type 0} → List ℕ → (List ℕ → X) → (List ℕ → X) → Type 0
SameBut name old new = (other : List ℕ) → other ≢ name → new other ≡ old other

-- what is held at a name after another file was renamed to it: that file, where there was one
abbrev pub moved : {X : Type 0} → Option X → Option X → Option X
moved None there = there
moved (Some from) there = Some from
