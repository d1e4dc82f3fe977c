-- What the death of an opener makes of a world.
use Rattle.std.specs.Prelude.{ℕ, ◌+◌, ◌≡◌, ◌≢◌, true, false, None}
use Rattle.tdb_locks.specs.LockTable.{held}
use Rattle.tdb_law.specs.Openers.{closed}
use Rattle.tdb_law.specs.World.{State}
use Rattle.tdb_law.specs.Lines.{MayDie}
use Rattle.tdb_law.specs.OneAside.Sides.{but_at}
use Rattle.tdb_openers.specs.declared.opener.Opener.{Opener}
use Rattle.tdb_openers.specs.Laws.{IsPut}
use Rattle.tdb_openers.specs.Openers.{law_task}
use Rattle.tdb_openers.specs.Worlds.{World, fresh, IsNumber}

-- an opener that has died: it isn't live, and has nothing
abbrev pub died : Opener
died = record fresh { live = false }

-- The opener with this number has died, and holds no lock any more; the other openers and their locks stay.
pub record HasDied (old : World) (who : ℕ) (new : World) : Type 0 where
  pub place : ℕ
  pub counted : who ≡ place + 1
  pub put : IsPut old.openers place died new.openers
  pub lost : (b : ℕ) → held new.table who b ≡ None
  pub others : (o b : ℕ) → o ≢ who → held new.table o b ≡ held old.table o b
  pub rest : record new { openers = old.openers; table = old.table } ≡ old

-- The opener with this number is live, and may die: it has no command, or one that would end a transaction and is
-- refused.
pub record CanDie (w : World) (who : ℕ) (x : Opener) : Type 0 where
  pub number : IsNumber w who x
  pub live : x.live ≡ true
  pub may_die : MayDie (law_task x.task)

-- an opener of the law is live, and may die
pub record MayDieIn (w : State) (who : ℕ) : Type 0 where
  pub live : (w.own who).live ≡ true
  pub may_die : MayDie (w.task who)

-- the state of the law in which this opener has ended, and holds nothing; all else is as it was
abbrev pub without_opener : State → ℕ → State
without_opener w who = record w { own = but_at who (closed (w.own who)) w.own; table = but_at who (λ b. 0) w.table }
