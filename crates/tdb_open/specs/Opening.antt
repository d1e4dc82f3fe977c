-- Which files are opened, what an opening answers of one, why one is refused, and what an opening leaves of one.
use Rattle.std.specs.Prelude.{◌≡◌, ◌≢◌, ℕ, ◌<◌, ◌≤◌, ◌⊎◌, Bool, true, false, Option, List, length, Some, None}
use Rattle.tdb_words.specs.declared.what.What.TheVariants.{Short as TooShort, Header as BadHeader}
use Rattle.tdb_words.specs.Header.{header_at, header_fault}
use Rattle.tdb_disk.specs.History.{History, seen}
use Rattle.tdb_disk.specs.Stop.{Quiet, LeavesOnly}
use Rattle.tdb_space.specs.Form.{form_of}
use Rattle.tdb_space.specs.Accepted.{Accept, Shut}
use Rattle.tdb_space.specs.FirstFault.{front_fault, IsFirstFault}
use Rattle.tdb_space.specs.Opening.{is_open, restored, Opens, Mild}
use Rattle.tdb_space.specs.OpeningFault.{opening_fault, IsOpeningFault}
use Rattle.tdb_space.specs.Undoing.{Reopens}
use Rattle.tdb_check.specs.Report.{Counted}
use Rattle.tdb_chain.specs.declared.refusal.ValueRefusal as Value
use Rattle.tdb_check.specs.declared.front.FrontRefusal as Front
use Rattle.tdb_check.specs.declared.refusal.CheckRefusal as Check
use Rattle.tdb_log.specs.declared.log.LogRefusal as LogIs
use Rattle.tdb_undo.specs.declared.refusal.UndoRefusal as Undo
use Rattle.tdb_open.specs.declared.halt.Refusal.{Refusal}
use Rattle.tdb_open.specs.declared.halt.Refusal.TheVariants.{TooLong, Header, Corrupt, NeedsRecovery}
use Rattle.tdb_open.specs.declared.halt.Fault as F
use Rattle.tdb_open.specs.declared.halt.Halt.{Halt}
use Rattle.tdb_open.specs.declared.halt.Halt.TheVariants.{Refused, Device, Memory, Log}
use Rattle.tdb_open.specs.declared.opening.Opened.{Opened}
use Rattle.tdb_open.specs.declared.limits.TheConstants.{LONGEST_FILE}

-- the bytes that a file with these is read as: what its undo gives, where the gate of its undo area is open
abbrev pub opened_bytes : List ℕ → List ℕ
opened_bytes img = restored (form_of img) img

-- a file with these bytes is opened: they can be opened, and are no more than the most
pub record CanOpen (img : List ℕ) : Type 0 where
  pub opens : Opens img
  pub within : length img ≤ LONGEST_FILE

-- A file with these bytes is refused so: it is too long; or its own header has a fault, of which the first is told;
-- or the first fault that opening it meets is another one. A fault of a header that only the undo gives is of the
-- kind Header and told with its place.
abbrev pub IsRefused : List ℕ → Refusal → Type 0
IsRefused img (TooLong len) = (len ≡ length img) × (LONGEST_FILE < len)
IsRefused img (Header fault) = (length img ≤ LONGEST_FILE) × (front_fault img ≡ Some (BadHeader, 0)) × (header_fault img ≡ Some fault)
IsRefused img (Corrupt what at) = (length img ≤ LONGEST_FILE) × (front_fault img ≢ Some (BadHeader, 0)) × IsOpeningFault img (what, at)
IsRefused img NeedsRecovery = ⊥

-- a file with these bytes can be opened to be read alone: nothing has to be undone first
pub record OpensToRead (img : List ℕ) : Type 0 where
  pub opens : Opens img
  pub shut : is_open (form_of img) img ≡ false

-- it is opened so: it is besides no longer than the longest
pub record CanRead (img : List ℕ) : Type 0 where
  pub can_open : CanOpen img
  pub shut : is_open (form_of img) img ≡ false

-- It would have to be undone first: it isn't too long, its front is sound, and the gate of its undo area is open.
pub record HasOpenGate (img : List ℕ) : Type 0 where
  pub within : length img ≤ LONGEST_FILE
  pub front : front_fault img ≡ None
  pub gate_open : is_open (form_of img) img ≡ true

-- A file with these bytes is refused so where it is to be read alone: it would have to be undone first, whatever else
-- is wrong with it; or it is refused as any other opening refuses it.
abbrev pub IsRefusedToRead : List ℕ → Refusal → Type 0
IsRefusedToRead img (TooLong len) = IsRefused img (TooLong len)
IsRefusedToRead img (Header fault) = IsRefused img (Header fault)
IsRefusedToRead img (Corrupt what at) = IsRefused img (Corrupt what at) × (HasOpenGate img → ⊥)
IsRefusedToRead img NeedsRecovery = HasOpenGate img

-- an opened file is one with these bytes: it is rightly opened, and its header and its counts are those of the bytes
-- it is read as
pub record IsOpenedOn (img : List ℕ) (o : Opened) : Type 0 where
  pub can_open : CanOpen img
  pub header : o.header ≡ header_at (opened_bytes img)
  pub counted : Counted (opened_bytes img) o.report

-- the same of a file in which there is nothing to undo any more
pub record IsCheckedOn (img : List ℕ) (o : Opened) : Type 0 where
  pub accepted : Accept img
  pub header : o.header ≡ header_at img
  pub counted : Counted img o.report

-- where a look into a file with these bytes was refused, they are refused so
abbrev pub HaltsRightly : List ℕ → Halt → Type 0
HaltsRightly img (Refused refusal) = IsRefused img refusal
HaltsRightly img Device = Unit {0}
HaltsRightly img Memory = Unit {0}
HaltsRightly img Log = Unit {0}

-- the same of a file that was to be read alone; memory is wanting for the check of one that needn't be undone
abbrev pub ReadHaltsRightly : List ℕ → Halt → Type 0
ReadHaltsRightly img (Refused refusal) = IsRefusedToRead img refusal
ReadHaltsRightly img Device = Unit {0}
ReadHaltsRightly img Memory = HasOpenGate img → ⊥
ReadHaltsRightly img Log = HasOpenGate img → ⊥

-- whether a look into a file that was to be read alone was refused because that would have to be undone first
abbrev pub asks_for_undo : Halt → Bool
asks_for_undo (Refused NeedsRecovery) = true
asks_for_undo (Refused (TooLong len)) = false
asks_for_undo (Refused (Header fault)) = false
asks_for_undo (Refused (Corrupt what at)) = false
asks_for_undo Device = false
asks_for_undo Memory = false
asks_for_undo Log = false

-- where bytes that an undo gave are refused, their first fault is told with its place, also one of their header; this
-- is before any log is told of it
abbrev pub HaltsAtFault : List ℕ → Halt → Type 0
HaltsAtFault img (Refused (TooLong len)) = ⊥
HaltsAtFault img (Refused (Header fault)) = ⊥
HaltsAtFault img (Refused (Corrupt what at)) = IsFirstFault img (what, at)
HaltsAtFault img (Refused NeedsRecovery) = ⊥
HaltsAtFault img Device = Unit {0}
HaltsAtFault img Memory = Unit {0}
HaltsAtFault img Log = ⊥

-- opening undoes a file with these bytes: it isn't too long, its front is sound, the gate of its undo area is open,
-- and nothing is wrong with what that keeps
pub record IsUndone (img : List ℕ) : Type 0 where
  pub within : length img ≤ LONGEST_FILE
  pub front : front_fault img ≡ None
  pub gate_open : is_open (form_of img) img ≡ true
  pub sound : opening_fault (form_of img) img ≡ None

-- a file was undone, and is what the undo gives; all of it is on the medium, where the file was
pub record Undone (old now : History) : Type 0 where
  pub was : IsUndone (seen old)
  pub bytes : seen now ≡ opened_bytes (seen old)
  pub quiet : Quiet old → Quiet now

-- a file was undone, or is as before
abbrev pub SameOrUndone : History → History → Type 0
SameOrUndone old now = Undone old now ⊎ (now ≡ old)

-- a file was undone, where opening undoes it, and else is as before
abbrev pub UndoneIfOpen : History → History → Type 0
UndoneIfOpen old now = Undone old now ⊎ ((IsUndone (seen old) → ⊥) × (now ≡ old))

-- A call failed in the midst of the undo of a file whose gate was open. Where all of the file was on the medium, it
-- opens, and its undo changes no byte by which the header is known, then every stop leaves one that opens to the map
-- that was to be restored.
pub record UndoBroken (old now : History) : Type 0 where
  pub gate_open : is_open (form_of (seen old)) (seen old) ≡ true
  pub stops : Quiet old → Opens (seen old) → Mild (seen old) → LeavesOnly old now (Reopens (opened_bytes (seen old)))

-- what a look into a file leaves of it where a call failed
abbrev pub LookBroken : History → History → Type 0
LookBroken old now = SameOrUndone old now ⊎ UndoBroken old now

-- What an opening did, whatever it answered: where all of a file was on the medium that can be opened, and whose undo
-- changes no byte by which its header is known, every stop leaves one that opens to the map and the sequence number
-- that it is read as.
abbrev pub OpensSafely : History → History → Type 0
OpensSafely old now = Quiet old → Opens (seen old) → Shut (form_of (seen old)) (seen old) ⊎ Mild (seen old) → LeavesOnly old now (Reopens (opened_bytes (seen old)))

-- what is held at a name is as before, or its file was undone
abbrev pub HeldOrUndone : Option History → Option History → Type 0
HeldOrUndone old now = (now ≡ old) ⊎ ((h : History) × (k : History) × (old ≡ Some h) × (now ≡ Some k) × Undone h k)

-- a call failed in the midst of the undo of the file at a name
abbrev pub HeldBroken : Option History → Option History → Type 0
HeldBroken old now = (h : History) × (k : History) × (old ≡ Some h) × (now ≡ Some k) × UndoBroken h k

-- what an opening that halted leaves
abbrev pub HaltLeaves : Halt → History → History → Type 0
HaltLeaves (Refused refusal) old now = UndoneIfOpen old now
HaltLeaves Device old now = LookBroken old now
HaltLeaves Memory old now = UndoneIfOpen old now
HaltLeaves Log old now = UndoneIfOpen old now

-- a file with these bytes, which may have so many, is refused so: it has more, or any other opening refuses it so
abbrev pub IsRefusedBelow : ℕ → List ℕ → Refusal → Type 0
IsRefusedBelow limit img refusal = ((refusal ≡ TooLong (length img)) × (limit < length img)) ⊎ ((length img ≤ limit) × IsRefused img refusal)

-- what its opening leaves of it: what it was, where it has more, and else it was undone, where it is one to be undone
abbrev pub OpenedBelow : ℕ → History → History → Type 0
OpenedBelow limit old now = ((limit < length (seen old)) × (now ≡ old)) ⊎ UndoneIfOpen old now

-- where a file that may have so many bytes wasn't opened, it is refused so, and this is left of it
abbrev pub HaltsBelow : ℕ → List ℕ → Halt → Type 0
HaltsBelow limit img (Refused refusal) = IsRefusedBelow limit img refusal
HaltsBelow limit img Device = Unit {0}
HaltsBelow limit img Memory = Unit {0}
HaltsBelow limit img Log = Unit {0}

abbrev pub LeavesBelow : ℕ → Halt → History → History → Type 0
LeavesBelow limit (Refused refusal) old now = OpenedBelow limit old now
LeavesBelow limit Device old now = LookBroken old now
LeavesBelow limit Memory old now = UndoneIfOpen old now
LeavesBelow limit Log old now = UndoneIfOpen old now

-- a file that may have so many bytes and is to be read alone is refused so, and where it wasn't opened, it is
abbrev pub IsRefusedToReadBelow : ℕ → List ℕ → Refusal → Type 0
IsRefusedToReadBelow limit img refusal = ((refusal ≡ TooLong (length img)) × (limit < length img)) ⊎ ((length img ≤ limit) × IsRefusedToRead img refusal)

abbrev pub ReadHaltsBelow : ℕ → List ℕ → Halt → Type 0
ReadHaltsBelow limit img (Refused refusal) = IsRefusedToReadBelow limit img refusal
ReadHaltsBelow limit img Device = Unit {0}
ReadHaltsBelow limit img Memory = Unit {0}
ReadHaltsBelow limit img Log = Unit {0}

-- how a look halts where the front is refused
abbrev pub of_front : Front.FrontRefusal → Halt
of_front (Front.TheVariants.Short len) = Refused (Corrupt TooShort len)
of_front (Front.TheVariants.Header fault) = Refused (Header fault)
of_front Front.TheVariants.Io = Device

-- and where it is the front that an undo gave
abbrev pub of_restored_front : Front.FrontRefusal → Halt
of_restored_front (Front.TheVariants.Short len) = Refused (Corrupt TooShort len)
of_restored_front (Front.TheVariants.Header fault) = Refused (Corrupt BadHeader 0)
of_restored_front Front.TheVariants.Io = Device

-- and where the undo area is refused
abbrev pub of_undo : Undo.UndoRefusal → Halt
of_undo (Undo.TheVariants.UndoBad what at) = Refused (Corrupt what at)
of_undo Undo.TheVariants.Io = Device

-- and where the check gives no report
abbrev pub of_check : Check.CheckRefusal → Halt
of_check (Check.TheVariants.Corrupt what at) = Refused (Corrupt what at)
of_check Check.TheVariants.Io = Device
of_check Check.TheVariants.Memory = Memory

-- how an act ends where the value of a record isn't given
abbrev pub of_value : Value.ValueRefusal → F.Fault
of_value Value.TheVariants.Io = F.TheVariants.Device
of_value Value.TheVariants.Memory = F.TheVariants.Memory

-- and how a look halts where an act gave no reply
abbrev pub of_fault : F.Fault → Halt
of_fault F.TheVariants.Device = Device
of_fault F.TheVariants.Memory = Memory
of_fault F.TheVariants.Log = Log

-- and how it halts where a log didn't take a notice
abbrev pub of_log : LogIs.LogRefusal → Halt
of_log LogIs.TheVariants.Failed = Log
of_log LogIs.TheVariants.Memory = Memory

-- and an act
abbrev pub log_fault : LogIs.LogRefusal → F.Fault
log_fault LogIs.TheVariants.Failed = F.TheVariants.Log
log_fault LogIs.TheVariants.Memory = F.TheVariants.Memory
