-- What contracts see of a world that has its disk.
use Rattle.std.specs.Prelude.{ℕ, ◌≡◌, List, Bool, refl}
use Rattle.std.specs.Coded.{Coded, code_by, coded_ℕ, coded_bool, coded×}
use Rattle.tdb_disk.specs.History.{History, seen}
use Rattle.tdb_disk.specs.declared.disk.Disk.{Ghosts}
use Rattle.tdb_law.specs.World.{State}
use Rattle.tdb_commands.specs.declared.line.Line.{Line}
use Rattle.tdb_world.specs.Histories.{history_code}
use Rattle.tdb_world.specs.Whole.{Whole, WorldFits}
use Rattle.tdb_world.specs.States.{IsStateOf}
use Rattle.tdb_world.specs.Courses.Led.{Moment, moment}

-- The world; what its disk tells of the file, the history, the length and the counts of faults, of syncs and of bytes
-- that were read; and whether the disk failed in a call, after which no other may be made on it.
pub record OverFile : Type 0 where
  pub world : Whole
  pub history : History
  pub size : ℕ
  pub faults : ℕ
  pub syncs : ℕ
  pub bytes_read : ℕ
  pub spent : Bool

-- it is stored as the tuple of its fields
abbrev pub over_file_code : Coded Whole → Coded OverFile
over_file_code world =
    code_by (Whole × (History × (ℕ × (ℕ × (ℕ × (ℕ × Bool))))))
    (coded× world (coded× history_code (coded× coded_ℕ (coded× coded_ℕ (coded× coded_ℕ (coded× coded_ℕ coded_bool))))))
    (λ w. (w.world, (w.history, (w.size, (w.faults, (w.syncs, (w.bytes_read, w.spent)))))))
    (λ p. record { world = p.0; history = p.1.0; size = p.1.1.0; faults = p.1.1.1.0; syncs = p.1.1.1.1.0; bytes_read = p.1.1.1.1.1.0; spent = p.1.1.1.1.1.1 })
    (λ _. refl)

-- a state of the law that the world may have
abbrev pub HasState : OverFile → State → Type 0
HasState w state = IsStateOf w.world w.history state

-- the openers fit the file
abbrev pub FitsFile : OverFile → Type 0
FitsFile w = WorldFits w.world (seen w.history) w.size

-- a moment of plays in it, with the lines of their report
abbrev pub moment_of : OverFile → List Line → Moment
moment_of w lines = moment w.world w.history w.size w.faults lines

-- a disk tells what is known of the file
pub record IsDiskOf {D : Type 0} (g : Ghosts D) (disk : D) (w : OverFile) : Type 0 where
  pub history : g.history disk ≡ w.history
  pub size : g.size disk ≡ w.size
  pub faults : g.faults disk ≡ w.faults
  pub syncs : g.syncs disk ≡ w.syncs
  pub bytes_read : g.bytes_read disk ≡ w.bytes_read

-- the header and the options of the openers stay
pub record KeepsForm (old new : OverFile) : Type 0 where
  pub header : new.world.openers.header ≡ old.world.openers.header
  pub options : new.world.openers.options ≡ old.world.openers.options

-- only the openers changed: no call was made on the disk
pub record OnlyInMemory (old new : OverFile) : Type 0 where
  pub file : new ≡ record old { world = new.world }
  pub form : KeepsForm old new
