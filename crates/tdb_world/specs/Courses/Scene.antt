-- A moment of plays whose text is written as they are taken.
use Rattle.std.specs.Prelude.{ℕ, List}
use Rattle.tdb_law.specs.World.{State}
use Rattle.tdb_log.specs.Logs.{Logged}
use Rattle.tdb_world.specs.OverFile.{OverFile, HasState}

-- the world with its disk, what is written on the output, and the logs
pub record Scene : Type 0 where
  pub over : OverFile
  pub written : List ℕ
  pub logs : List Logged

abbrev pub scene : OverFile → List ℕ → List Logged → Scene
scene over written logs = record { over = over; written = written; logs = logs }

-- a state that the world may have at a moment
abbrev pub IsStateAt : Scene → State → Type 0
IsStateAt s state = HasState s.over state
