-- Moves of openers that are shut out: they pass over the chains whose heads are 0.
use Rattle.std.specs.Prelude.{ℕ, ◌+◌, ◌*◌, ◌≡◌, ◌≤◌, ◌<◌, ◌⊎◌, ◌↔◌, List, true, false, Some, None}
use Rattle.tdb_space.specs.Form.{Form}
use Rattle.tdb_space.specs.Pairs.{home}
use Rattle.tdb_law.specs.Commands.{WalkCommand}
use Rattle.tdb_law.specs.Commands.GroupCommand.{Commit}
use Rattle.tdb_law.specs.Commands.WalkCommand.{First}
use Rattle.tdb_law.specs.Commands.Command.{OnGroup, OnWalk}
use Rattle.tdb_law.specs.Openers.{Own, Map, Mark, Spot, Task, nowhere, has}
use Rattle.tdb_law.specs.Refusals.{chain_byte}
use Rattle.tdb_law.specs.Outcomes.{walk_moves}
use Rattle.tdb_law.specs.Counting.{takes}
use Rattle.tdb_law.specs.Ends.{walk_ends}
use Rattle.tdb_law.specs.World.{State}
use Rattle.tdb_law.specs.OneAside.Sides.{Side, but_at}

-- the commit of the opener aside has taken the key out of the file
pub record IsOut (f : Form) (s : Side) (k : List ℕ) : Type 0 where
  pub task : Task
  pub has_task : s.task ≡ Some task
  pub commits : task.command ≡ OnGroup Commit
  pub taken_out : takes f task.command s.own task.steps k ≡ true

-- What the heads tell of the map of the file, an open gate undone: each of its keys is in a chain whose head isn't 0,
-- or is out of the file.
abbrev pub HeadsTell : Form → Map → Side → Type 0
HeadsTell f m s = (k : List ℕ) → has m k ≡ true → (s.heads (chain_byte f k) ≡ true) ⊎ IsOut f s k

-- A walk that has come to the front of a chain: what is further on are the keys of the file in this chain and in those
-- behind it.
pub record IsBeforeChain (f : Form) (file : Map) (chain : ℕ) (m : Mark) : Type 0 where
  pub inside : m.inside ≡ false
  pub reached : m.reached ≡ chain
  pub ahead : (k : List ℕ) → (m.ahead k ≡ true) ↔ ((has file k ≡ true) × (chain ≤ home f k))

-- A move has been blocked before, and goes on from there; or it is the first turn of a First without a cursor.
pub data IsReadyToMove (f : Form) (file : Map) (x : Own) (a : Spot) (m : Mark) (w : WalkCommand) (n : ℕ) : Type 0 where
  goes_on : a.gone ≡ true → walk_ends w x.cursor n ≡ true → IsBeforeChain f file m.reached m → IsReadyToMove f file x a m w n
  begins_walk : a.gone ≡ false → n ≡ 0 → w ≡ First → x.cursor ≡ None → m.inside ≡ false → m.reached ≡ 0 → IsReadyToMove f file x a m w n

-- The next turn of an opener's command is a move of its cursor, which stands on no record. So it has no lock to take
-- but those of the chains on its way.
pub record IsAtMove (f : Form) (p : State) (who : ℕ) (t : Task) : Type 0 where
  pub walk : WalkCommand
  pub asks : t.command ≡ OnWalk walk
  pub outside : (p.own who).txn ≡ None
  pub moving : walk_moves walk (p.own who) ≡ true
  pub stands : (p.spot who).stands ≡ None
  pub ready : IsReadyToMove f p.file (p.own who) (p.spot who) (p.mark who) walk t.steps

-- the world where its command has ended, and its cursor with it, whose walk is of no more account
abbrev pub without_walk : State → ℕ → Mark → State
without_walk p who m = record p {
  task = but_at who None p.task;
  own = but_at who (record (p.own who) { cursor = None }) p.own;
  spot = but_at who nowhere p.spot;
  mark = but_at who m p.mark;
}

-- the world where its move was blocked: it has let go of its locks, and its walk has come so far
abbrev pub with_halt : State → ℕ → Mark → State
with_halt p who m = record p {
  spot = but_at who (record nowhere { gone = true }) p.spot;
  mark = but_at who m p.mark;
}

-- no chain from one number up to another has a head that isn't 0
abbrev pub AreHeadless : Side → ℕ → ℕ → Type 0
AreHeadless s from to = (b : ℕ) → 168 + 4 * from ≤ b → b < 168 + 4 * to → s.heads b ≡ false

-- this chain is the first from a number on that has one
pub record IsFirstHead (f : Form) (s : Side) (from chain : ℕ) : Type 0 where
  pub least : from ≤ chain
  pub below : chain < f.chains
  pub empty : AreHeadless s from chain
  pub head : s.heads (168 + 4 * chain) ≡ true
