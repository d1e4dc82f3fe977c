-- What a turn does to walks: one that the turn doesn't move keeps its place, and may lose keys by changes alone; a move
-- goes on.
use Rattle.std.specs.Prelude.{ℕ, ◌+◌, ◌≡◌, ◌≢◌, ◌≤◌, ◌<◌, ◌⊎◌, List, Bool, true, false, ◌&&◌, not, Option, Some, None, is_some, if◌then◌else◌}
use Rattle.tdb_space.specs.Form.{Form}
use Rattle.tdb_space.specs.Pairs.{home}
use Rattle.tdb_law.specs.Commands.{Command, Reply, Turn, is_first}
use Rattle.tdb_law.specs.Commands.GroupCommand.{Commit}
use Rattle.tdb_law.specs.Commands.Command.{OnMap, OnGroup}
use Rattle.tdb_law.specs.Commands.Reply.{End, Memory, Pair}
use Rattle.tdb_law.specs.Commands.Turn.{Step, Blocked, Ends}
use Rattle.tdb_law.specs.Openers.{Own, Mark, Spot, Task, seen, has}
use Rattle.tdb_law.specs.Refusals.{chain_byte}
use Rattle.tdb_law.specs.Rows.{is_changed}
use Rattle.tdb_law.specs.Outcomes.{moves, touches, touched}
use Rattle.tdb_law.specs.Counting.{takes}
use Rattle.tdb_law.specs.World.{State}

-- a command on the map
abbrev pub IsPlain : Command → Type 0
IsPlain (OnMap c) = Unit {0}
IsPlain c = ⊥

-- A key has its record no longer further on than a walk has come. By the turn: its command is done and touched the key;
-- or another's command takes it out of the file; or it links the key's record anew, in front of its chain, while the
-- walk stands on a record of that chain (or the command is the walker's own).
pub data Lost (f : Form) (c : Command) (n : ℕ) (x : Own) (turn : Turn) (mine : Bool) (mark : Mark) (k : List ℕ) : Type 0 where
  lost_by_done : touched c turn k ≡ true → Lost f c n x turn mine mark k
  lost_by_taking : mine ≡ false → turn ≡ Step → takes f c x (n + 1) k ≡ true → Lost f c n x turn mine mark k
  lost_by_passing : turn ≡ Step → is_changed f c x (n + 1) ≡ true → touches f c x k ≡ true → IsPlain c
      → (mine ≡ true) ⊎ ((mark.inside ≡ true) × (home f k + 1 ≡ mark.reached)) → Lost f c n x turn mine mark k

-- A walk that isn't moved: it stands as it stood and has entered as many chains. What is further on now was so before,
-- or is in a chain that isn't entered yet; and what was further on is so still, or is lost.
pub record Shift (f : Form) (lost : List ℕ → Type 0) (mark later : Mark) : Type 0 where
  pub inside : later.inside ≡ mark.inside
  pub reached : later.reached ≡ mark.reached
  pub fewer : (k : List ℕ) → later.ahead k ≡ true → (mark.ahead k ≡ true) ⊎ (mark.reached ≤ home f k)
  pub kept : (k : List ℕ) → mark.ahead k ≡ true → (later.ahead k ≡ true) ⊎ lost k

-- the keys that a move must come to: from the start each key of the map that it sees, else those further on
abbrev pub Due : State → ℕ → Bool → List ℕ → Type 0
Due old who start k = (if start then has (seen (old.own who) old.file) k else (old.mark who).ahead k) ≡ true

-- A walk that begins misses what another's command has taken out of the file. One that goes on was told of that by the
-- turn that took it out; but the map of the file isn't that of a commit before its gate is shut, so it misses what a
-- commit has taken out.
abbrev pub IsMissed : Bool → Command → Type 0
IsMissed true c = Unit {0}
IsMissed false c = c ≡ OnGroup Commit

-- another opener's unfinished command takes the key out of the file, so that a walk misses it
pub record TakenBy (f : Form) (old : State) (start : Bool) (o : ℕ) (k : List ℕ) : Type 0 where
  pub task : Task
  pub has_task : old.task o ≡ Some task
  pub taken_out : takes f task.command (old.own o) task.steps k ≡ true
  pub missed : IsMissed start task.command

abbrev pub Taken : Form → State → ℕ → Bool → List ℕ → Type 0
Taken f old who start k = (o : ℕ) × (o ≢ who) × TakenBy f old start o k

-- A move that doesn't begin a walk holds the chain in which it stands, and never goes back. Each key that was due is
-- the one shown, or is further on, or was taken out when the walk began, or by a commit.
pub record Moves (f : Form) (old new : State) (who : ℕ) (start : Bool) (key : Option (List ℕ)) : Type 0 where
  pub holds : start ≡ false → (old.mark who).inside ≡ true → (k : List ℕ) → home f k + 1 ≡ (old.mark who).reached → 1 ≤ old.table who (chain_byte f k)
  pub further : start ≡ false → (old.mark who).reached ≤ (new.mark who).reached
  pub fewer : start ≡ false → (k : List ℕ) → (new.mark who).ahead k ≡ true → (old.mark who).ahead k ≡ true
  pub kept : (k : List ℕ) → Due old who start k → (key ≡ Some k) ⊎ ((new.mark who).ahead k ≡ true) ⊎ Taken f old who start k

-- it arrives at a key that was further on and is so no longer, in a chain that it has entered
pub record Arrives (f : Form) (old new : State) (who : ℕ) (start : Bool) (k : List ℕ) : Type 0 where
  pub moved : Moves f old new who start (Some k)
  pub was : start ≡ false → (old.mark who).ahead k ≡ true
  pub behind : (new.mark who).ahead k ≡ false
  pub reached : home f k < (new.mark who).reached

-- it finds nothing further on
pub record Finishes (f : Form) (old : State) (who : ℕ) (start : Bool) : Type 0 where
  pub holds : start ≡ false → (old.mark who).inside ≡ true → (k : List ℕ) → home f k + 1 ≡ (old.mark who).reached → 1 ≤ old.table who (chain_byte f k)
  pub nothing : (k : List ℕ) → Due old who start k → Taken f old who start k

-- a First that moves begins a walk, unless it has begun it already and was blocked
abbrev pub begins : Form → Command → Own → Spot → Bool
begins f c x a = is_first c && (moves f c x && not a.gone)

-- What a turn does to the walk of the opener whose turn it is. A walk that isn't moved shifts; one that ends is of no
-- more account.
pub data Walked (f : Form) (old new : State) (who : ℕ) (c : Command) (n : ℕ) (turn : Turn) : Type 0 where
  walk_steps : turn ≡ Step → Shift f (Lost f c n (old.own who) turn true (old.mark who)) (old.mark who) (new.mark who) → Walked f old new who c n turn
  walk_rests : (o b : ℕ) → turn ≡ Blocked o b → (new.spot who).gone ≡ (old.spot who).gone → Shift f (Lost f c n (old.own who) turn true (old.mark who)) (old.mark who) (new.mark who)
      → Walked f old new who c n turn
  walk_ends : (r : Reply) → turn ≡ Ends r → moves f c (old.own who) ≡ false
      → (is_some (new.own who).cursor ≡ true → Shift f (Lost f c n (old.own who) turn true (old.mark who)) (old.mark who) (new.mark who)) → Walked f old new who c n turn
  walk_arrives : (k v : List ℕ) → turn ≡ Ends (Pair k v) → moves f c (old.own who) ≡ true → Arrives f old new who (begins f c (old.own who) (old.spot who)) k → Walked f old new who c n turn
  walk_finishes : turn ≡ Ends End → moves f c (old.own who) ≡ true → Finishes f old who (begins f c (old.own who) (old.spot who)) → Walked f old new who c n turn
  walk_halts : (o b : ℕ) → turn ≡ Blocked o b → moves f c (old.own who) ≡ true → (new.spot who).gone ≡ true → (new.mark who).inside ≡ false
      → Moves f old new who (begins f c (old.own who) (old.spot who)) None → Walked f old new who c n turn
  walk_fails : turn ≡ Ends Memory → moves f c (old.own who) ≡ true → Walked f old new who c n turn
