-- What a call leaves of a view as it was.
use Rattle.std.specs.Prelude.{◌≡◌, ℕ, false}
use Rattle.tdb_disk.specs.History.{History}
use Rattle.tdb_space.specs.declared.space.Space.{Ghosts}

-- a call that only looks: it leaves the length, the bytes, what the header states, the spare room, the disk under the
-- view, and the references that the view holds
pub record Looked {S : Type 0} (g : Ghosts S) (old new : S) : Type 0 where
  pub size : g.size new ≡ g.size old
  pub image : g.image new ≡ g.image old
  pub form : g.form new ≡ g.form old
  pub spare : g.spare new ≡ g.spare old
  pub disk : g.disk new ≡ g.disk old
  pub under : g.under new ≡ g.under old

-- a call that writes: it leaves what the header states, the references, and the disk where writes don't reach it
pub record Wrote {S : Type 0} (g : Ghosts S) (old new : S) : Type 0 where
  pub form : g.form new ≡ g.form old
  pub disk : g.writes_through ≡ false → g.disk new ≡ g.disk old
  pub under : g.under new ≡ g.under old
