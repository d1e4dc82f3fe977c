-- What a turn of a command leaves of walks through the chain of its key.
use Rattle.std.specs.Prelude.{ℕ, ◌≡◌, ◌<◌, List, Bool, true, false}
use Rattle.tdb_space.specs.Form.{Form}
use Rattle.tdb_space.specs.Chain.{Member, chain_of}
use Rattle.tdb_space.specs.Pairs.{home}
use Rattle.tdb_law.specs.Layout.{Cell, Keeps, live_in, behind, chains_in}
use Rattle.tdb_steps.specs.declared.stage.Stage.{Stage}
use Rattle.tdb_steps.specs.declared.stage.Stage.TheVariants.{Changed}
use Rattle.tdb_steps.specs.declared.stage.Next.{Next}
use Rattle.tdb_steps.specs.declared.stage.Next.TheVariants.{Step}
use Rattle.tdb_steps.specs.Stages.{is_changed, is_changed_after}

-- each record on which a cursor stands is one of a chain
abbrev pub StandInChains : Form → List ℕ → (ℕ → Bool) → Type 0
StandInChains f img stands = (p : ℕ) → stands p ≡ true → (j : ℕ) × (j < f.chains) × Member p (chain_of f img j)

-- a turn that leads to an old record as a hand hasn't taken out one on which a cursor stands
abbrev pub SparesStood : (ℕ → Bool) → Next → Type 0
SparesStood stands (Step (Changed hand)) = stands hand.0 ≡ false
SparesStood stands next = Unit {0}

-- A chain keeps all keys: each has its used record in it as before, also behind each record on which a cursor stands.
pub record KeepsAll (stands : ℕ → Bool) (cs later : List Cell) : Type 0 where
  pub whole : (q : List ℕ) → live_in later q ≡ live_in cs q
  pub behind_same : (p : ℕ) (q : List ℕ) → stands p ≡ true → live_in (behind later p) q ≡ live_in (behind cs p) q

-- A chain keeps all keys but this one, where the turn makes the change; else it keeps all.
abbrev pub KeepsBy : Bool → Bool → (ℕ → Bool) → List ℕ → List Cell → List Cell → Type 0
KeepsBy false true stands key cs later = Keeps stands key cs later
KeepsBy _ _ stands key cs later = KeepsAll stands cs later

-- From image a to image b the chain of a key has each record still on which a cursor stands, and it keeps its keys so,
-- by whether the change was made before and is made after.
pub record WalksKept (f : Form) (a b key : List ℕ) (stands : ℕ → Bool) (before after : Bool) : Type 0 where
  pub members : (p : ℕ) → stands p ≡ true → Member p (chain_of f a (home f key)) → Member p (chain_of f b (home f key))
  pub keeps : KeepsBy before after stands key (chains_in f a (home f key)) (chains_in f b (home f key))

-- A turn keeps walks so, wherever cursors stand, unless it takes out a record on which one does.
abbrev pub KeepsWalks : Form → List ℕ → List ℕ → List ℕ → Stage → Next → Type 0
KeepsWalks f a b key old next = (stands : ℕ → Bool) → StandInChains f a stands → SparesStood stands next → WalksKept f a b key stands (is_changed old) (is_changed_after next)
