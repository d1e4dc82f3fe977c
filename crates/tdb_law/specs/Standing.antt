-- When the state of a replay stands for a world.
use Rattle.std.specs.Prelude.{ℕ, ◌+◌, ◌≡◌, ◌<◌, ◌⊎◌, List, Bool, true, false, Option, Some, None}
use Rattle.std.specs.FinMap.{get}
use Rattle.tdb_space.specs.Form.{Form}
use Rattle.tdb_space.specs.Pairs.{home}
use Rattle.tdb_law.specs.Commands.{Command}
use Rattle.tdb_law.specs.Commands.Reply.{Done}
use Rattle.tdb_law.specs.Openers.{Own, Txn, Map, Task, Spot, seen, has}
use Rattle.tdb_law.specs.Outcomes.{told, map_after, touches}
use Rattle.tdb_law.specs.Counting.{brings}
use Rattle.tdb_law.specs.World.{State, IsPending}
use Rattle.tdb_law.specs.Walks.{IsPlain, begins}
use Rattle.tdb_law.specs.Replay.{Replay, taken}

-- a command that had no line yet has had no step; one that had is known with its steps
abbrev pub IsSame : Option Task → Option Task → Type 0
IsSame None None = Unit {0}
IsSame None (Some t) = t.steps ≡ 0
IsSame (Some u) None = ⊥
IsSame (Some u) (Some t) = u ≡ t

-- A key's difference between the file and the committed map is a pending command's.
pub record IsTouchedBy (f : Form) (w : State) (k : List ℕ) : Type 0 where
  pub owner : ℕ
  pub command : Command
  pub own : Own
  pub pending : IsPending f w owner command own
  pub touched : touches f command own k ≡ true

-- The committed map is the file's, but for the commands whose change the file has and which aren't told yet: each is
-- done on the committed map, and what it makes of that map at the keys that it touches is what the file has there.
pub record MapStands (f : Form) (w : State) (m : Map) : Type 0 where
  pub replies : (o : ℕ) (c : Command) (x : Own) → IsPending f w o c x → told f c x m ≡ Done
  pub pending : (o : ℕ) (c : Command) (x : Own) → IsPending f w o c x → (k : List ℕ) → touches f c x k ≡ true → get w.file k ≡ get (map_after f c x m) k
  pub each : (k : List ℕ) → (get w.file k ≡ get m k) ⊎ IsTouchedBy f w k

-- A key whose record a pending plain command has linked anew: in the chain of the record on which the walk stands, or
-- by the walker's own command.
pub record IsBehind (f : Form) (w : State) (o : ℕ) (k : List ℕ) : Type 0 where
  pub owner : ℕ
  pub command : Command
  pub own : Own
  pub pending : IsPending f w owner command own
  pub plain : IsPlain command
  pub touched : touches f command own k ≡ true
  pub near : (owner ≡ o) ⊎ (((w.mark o).inside ≡ true) × (home f k + 1 ≡ (w.mark o).reached))

-- A walk is on its way: what it has shown is not further on and its chain is entered; and what it owes was shown, is
-- further on, or is linked anew.
pub record IsOnWay (f : Form) (w : State) (o : ℕ) (shown owed : List ℕ → Bool) : Type 0 where
  pub behind : (k : List ℕ) → shown k ≡ true → (w.mark o).ahead k ≡ false
  pub reached : (k : List ℕ) → shown k ≡ true → home f k < (w.mark o).reached
  pub due : (k : List ℕ) → owed k ≡ true → (shown k ≡ true) ⊎ ((w.mark o).ahead k ≡ true) ⊎ IsBehind f w o k

-- a First that has had a line and hasn't moved yet
abbrev pub is_fresh : Form → Option Task → Own → Spot → Bool
is_fresh f None x a = false
is_fresh f (Some u) x a = begins f u.command x a

-- The lists of a walk stand for it. A First that hasn't moved has shown nothing.
abbrev pub WalkStandsBy : Bool → Form → State → ℕ → (List ℕ → Bool) → (List ℕ → Bool) → Type 0
WalkStandsBy true f w o shown owed = (k : List ℕ) → shown k ≡ false
WalkStandsBy false f w o shown owed = IsOnWay f w o shown owed

abbrev pub WalkStands : Form → State → Replay → ℕ → Type 0
WalkStands f w s o = WalkStandsBy (is_fresh f (s.begun o) (s.own o) (w.spot o)) f w o (s.shown o) (s.due o)

-- a pending commit that brings its number into the file
pub record IsBringing (f : Form) (w : State) : Type 0 where
  pub owner : ℕ
  pub command : Command
  pub own : Own
  pub pending : IsPending f w owner command own
  pub brings : brings f command own ≡ true

-- an image that nothing has changed, or whose Prepare found nothing, has the committed map
pub record IsUntouched (m : Map) (t : Txn) : Type 0 where
  pub image : t.changed ≡ false → t.image ≡ m
  pub prepared : t.prepared ≡ Some 0 → t.changed ≡ false

-- A replay stands for a world: openers, commands, staleness and settledness are the world's; the committed map is the
-- file's but for pending changes; the lists of each walk stand for it; and the number is the file's, but for a pending
-- commit that brings one.
pub record Stands (f : Form) (w : State) (s : Replay) : Type 0 where
  pub joined : s.joined ≡ w.joined
  pub same : (o : ℕ) → IsSame (s.begun o) (w.task o)
  pub owns : (o : ℕ) → s.own o ≡ w.own o
  pub stale : s.stale ≡ w.stale
  pub settled : s.settled ≡ w.settled
  pub maps : MapStands f w s.map
  pub gone : (o : ℕ) → s.begun o ≡ None → (w.spot o).gone ≡ false
  pub due : (o : ℕ) (k : List ℕ) → s.due o k ≡ true → (has (seen (w.own o) s.map) k ≡ true) × (taken f s o k ≡ false)
  pub walks : (o : ℕ) → WalkStands f w s o
  pub image_number : (o : ℕ) → s.image_number o ≡ w.image_number o
  pub shut : (o : ℕ) (c : Command) (x : Own) → IsPending f w o c x → brings f c x ≡ true → w.number ≡ w.image_number o
  pub number : (s.number ≡ w.number) ⊎ IsBringing f w
  pub untouched : (o : ℕ) (t : Txn) → (w.own o).txn ≡ Some t → IsUntouched s.map t
