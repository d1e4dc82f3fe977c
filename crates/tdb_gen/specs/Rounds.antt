-- Rounds of turns of three openers whose commands are each on one key: in each round one goes on, and so all are done
-- in the end.
use Rattle.std.specs.Prelude.{ℕ, ◌+◌, ◌-◌, ◌≡◌, ◌≤◌, List, false, true, Option, None, Some}
use Rattle.std.specs.FinMap.{empty}
use Rattle.tdb_space.specs.Form.{Form}
use Rattle.tdb_law.specs.Commands.{Command}
use Rattle.tdb_law.specs.Commands.Command.{OnMap}
use Rattle.tdb_law.specs.Commands.MapCommand.{Wipe, Check}
use Rattle.tdb_law.specs.Held.{holding}
use Rattle.tdb_law.specs.Lines.{Line}
use Rattle.tdb_law.specs.Openers.{Own, Task}
use Rattle.tdb_law.specs.Plays.{Course}
use Rattle.tdb_law.specs.World.{State}
use Rattle.tdb_commands.specs.InLaw.{law_plays}
use Rattle.tdb_commands.specs.declared.play.Play.{Play}
use Rattle.tdb_gen.specs.Plays.{joins, round, group_plays}

-- nobody has an unfinished command
abbrev pub IsIdle : State → Type 0
IsIdle w = (o : ℕ) → w.task o ≡ None

-- a command on one key
abbrev pub IsOnKey : Command → Type 0
IsOnKey (OnMap Wipe) = ⊥
IsOnKey (OnMap Check) = ⊥
IsOnKey (OnMap c) = Unit {0}
IsOnKey c = ⊥

-- an opener has neither a transaction nor an explicit lock nor a cursor
pub record IsBare (x : Own) : Type 0 where
  pub txn : x.txn ≡ None
  pub counts : x.counts ≡ empty
  pub all : x.all ≡ None
  pub cursor : x.cursor ≡ None

-- an unfinished command of a live opener is on one key, and has had at most six steps
pub record IsUnderWay (x : Own) (t : Task) : Type 0 where
  pub keyed : IsOnKey t.command
  pub few : t.steps ≤ 6
  pub live : x.live ≡ true

-- So it is with all openers of a world, who hold what their commands have locked and nothing else. No gate stands open.
pub record OnKeys (f : Form) (w : State) : Type 0 where
  pub agrees : (o b : ℕ) → w.table o b ≡ holding f (w.own o) (w.spot o) (w.task o) b
  pub bare : (o : ℕ) → IsBare (w.own o)
  pub nowhere : (o : ℕ) → (w.spot o).stands ≡ None
  pub busy : (o : ℕ) (t : Task) → w.task o ≡ Some t → IsUnderWay (w.own o) t
  pub fresh : w.stale ≡ false

-- how many turns a command may still have that aren't blocked, and those of the first three openers
abbrev pub turns_left : Option Task → ℕ
turns_left None = 0
turns_left (Some t) = 7 - t.steps

abbrev pub left_of_three : State → ℕ
left_of_three w = turns_left (w.task 0) + turns_left (w.task 1) + turns_left (w.task 2)

-- nobody but them has a command
abbrev pub OnlyThree : State → Type 0
OnlyThree w = (o : ℕ) → 3 ≤ o → w.task o ≡ None

-- In each round one of their commands goes on, where one is unfinished: who holds the free list isn't blocked; who
-- waits for it waits for such a one; and who waits for a chain waits for one who has had a turn.
abbrev pub RoundGoesOn : Type 0
RoundGoesOn = (f : Form) (old new : State) (lines : List Line) → OnKeys f old → OnlyThree old → Course f old (law_plays round) lines new
    → OnKeys f new × OnlyThree new × (left_of_three new ≤ left_of_three old - 1)

-- nobody has a command, and all is so with the openers
pub record IsReady (f : Form) (w : State) : Type 0 where
  pub keys : OnKeys f w
  pub idle : IsIdle w

-- plays lead from such a world to such a world: all commands that they give are done behind them
abbrev pub AreDone : List Play → Type 0
AreDone plays = (f : Form) (old new : State) (lines : List Line) → IsReady f old → Course f old (law_plays plays) lines new → IsReady f new

-- So it is with joins, and with the plays of a group.
abbrev pub JoinsAreDone : Type 0
JoinsAreDone = AreDone joins

abbrev pub GroupsAreDone : Type 0
GroupsAreDone = (n seed group : ℕ) → AreDone (group_plays n seed group)
