-- What a turn of an opener leaves of the file where it fails.
use Rattle.std.specs.Prelude.{◌≡◌, ℕ, List}
use Rattle.tdb_space.specs.Form.{Form}
use Rattle.tdb_space.specs.Extents.{HandPair}
use Rattle.tdb_steps.specs.Machines.{MachineStopped}
use Rattle.tdb_walk.specs.Purging.{PurgeBroken}
use Rattle.tdb_walk.specs.Cursors.{At, dead_of}
use Rattle.tdb_openers.specs.declared.job.Job.{Job}
use Rattle.tdb_openers.specs.declared.job.Job.TheVariants.{Plain, Walk}

-- From image a to image b a turn of a job failed that has had n steps, of an opener with this cursor, where other
-- commands hold these records. A command on the map leaves what its machine leaves; one on the cursor what a purge
-- leaves, where it was to purge a record; and else nothing has changed.
abbrev pub JobStopped : Form → List ℕ → List ℕ → At → Job → ℕ → List HandPair → Type 0
JobStopped f a b cursor (Plain doing) n others = MachineStopped f a b doing n others
JobStopped f a b cursor (Walk walking) n others = PurgeBroken f a b (dead_of cursor.place cursor.stage) others
JobStopped f a b cursor job n others = b ≡ a
