-- What logs are told while a file is opened.
use Rattle.std.specs.Prelude.{ℕ, ◌≡◌, ◌<◌, ◌≤◌, ◌⊎◌, List, [], ◌∷◌, ◌++◌, length, Result, Ok, Err}
use Rattle.tdb_check.specs.Report.{Counted}
use Rattle.tdb_check.specs.declared.report.Report.{Report}
use Rattle.tdb_log.specs.Logs.{Logged, ToldAll, ToldUpTo}
use Rattle.tdb_log.specs.declared.log.LogRefusal.{LogRefusal}
use Rattle.tdb_log.specs.declared.log.LogRefusal.TheVariants as L
use Rattle.tdb_log.specs.declared.notice.Notice.{Notice}
use Rattle.tdb_log.specs.declared.notice.Notice.TheVariants as N
use Rattle.tdb_space.specs.Form.{form_of}
use Rattle.tdb_space.specs.Opening.{entries}
use Rattle.tdb_undo.specs.Entries.{lengths}
use Rattle.tdb_open.specs.declared.halt.Halt.{Halt}
use Rattle.tdb_open.specs.declared.halt.Halt.TheVariants.{Refused, Device, Memory, Log}
use Rattle.tdb_open.specs.declared.halt.Refusal.{Refusal}
use Rattle.tdb_open.specs.declared.halt.Refusal.TheVariants.{TooLong, Header, Corrupt, NeedsRecovery}
use Rattle.tdb_open.specs.declared.opening.Opened.{Opened}
use Rattle.tdb_open.specs.Opening.{opened_bytes, CanOpen, IsRefused, IsUndone}

-- what a check that accepts a file tells: what it counted
abbrev pub checked : Report → Notice
checked report = N.Checked report.live report.dead_bytes

-- what is told of a file that is refused: its first fault, where that has a place
abbrev pub refusal_tells : Refusal → List Notice
refusal_tells (TooLong len) = []
refusal_tells (Header fault) = []
refusal_tells (Corrupt what at) = N.Refused what at ∷ []
refusal_tells NeedsRecovery = []

-- what is told of the answer of an opening
abbrev pub verdict : Result Opened Halt → List Notice
verdict (Ok o) = checked o.report ∷ []
verdict (Err (Refused refusal)) = refusal_tells refusal
verdict (Err Device) = []
verdict (Err Memory) = []
verdict (Err Log) = []

-- An undo is told, with how many bytes were put back. It is made of a file whose gate is open, where nothing is wrong
-- with what its undo area keeps; of any other file no undo is told.
abbrev pub UndoTells : List ℕ → List Notice → Type 0
UndoTells img notices = ((notices ≡ N.Recovered (lengths (entries (form_of img) img)) ∷ []) × IsUndone img) ⊎ ((notices ≡ []) × (IsUndone img → ⊥))

-- What an opening of a file with these bytes tells: its undo, if one is made, and then what the check counted, or why
-- it is refused.
pub data OpeningTells (img : List ℕ) (notices : List Notice) : Type 0 where
  tells_checked : (undo : List Notice) (report : Report) → UndoTells img undo → CanOpen img → Counted (opened_bytes img) report → notices ≡ undo ++ checked report ∷ [] → OpeningTells img notices
  tells_refused : (undo : List Notice) (refusal : Refusal) → UndoTells img undo → IsRefused img refusal → notices ≡ undo ++ refusal_tells refusal → OpeningTells img notices

-- the last log was told the undo of a file with these bytes, if one is made
abbrev pub UndoTold : List ℕ → List Logged → List Logged → Type 0
UndoTold img old new = (undo : List Notice) × UndoTells img undo × ToldAll undo old new

-- it refused a notice of an opening so, and was told those before it
abbrev pub RefusesNotice : LogRefusal → List ℕ → List Logged → List Logged → Type 0
RefusesNotice refusal img old new = (notices : List Notice) × OpeningTells img notices × ToldUpTo refusal notices old new

-- What logs heard of an opening of a file with these bytes, by its answer: all that there is to tell; where a call of
-- the disk failed, the undo at most; where memory was wanting for the check, the undo; and where the last log refused a
-- notice, those before it.
abbrev pub OpeningHeard : List ℕ → List Logged → List Logged → Result Opened Halt → Type 0
OpeningHeard img old new (Ok o) = (undo : List Notice) × UndoTells img undo × ToldAll (undo ++ checked o.report ∷ []) old new
OpeningHeard img old new (Err (Refused refusal)) = (undo : List Notice) × UndoTells img undo × ToldAll (undo ++ refusal_tells refusal) old new
OpeningHeard img old new (Err Device) = (new ≡ old) ⊎ UndoTold img old new
OpeningHeard img old new (Err Memory) = UndoTold img old new ⊎ RefusesNotice L.Memory img old new
OpeningHeard img old new (Err Log) = RefusesNotice L.Failed img old new

-- the same before the answer is told
abbrev pub UndoHeard : List ℕ → List Logged → List Logged → Result Opened Halt → Type 0
UndoHeard img old new (Ok o) = UndoTold img old new
UndoHeard img old new (Err (Refused refusal)) = UndoTold img old new
UndoHeard img old new (Err Device) = (new ≡ old) ⊎ UndoTold img old new
UndoHeard img old new (Err Memory) = UndoTold img old new ⊎ RefusesNotice L.Memory img old new
UndoHeard img old new (Err Log) = RefusesNotice L.Failed img old new

-- The same of an opening to read alone, which undoes nothing.
abbrev pub ReadingHeard : List ℕ → List Logged → List Logged → Result Opened Halt → Type 0
ReadingHeard img old new (Ok o) = ToldAll (checked o.report ∷ []) old new
ReadingHeard img old new (Err (Refused refusal)) = ToldAll (refusal_tells refusal) old new
ReadingHeard img old new (Err Device) = new ≡ old
ReadingHeard img old new (Err Memory) = (new ≡ old) ⊎ RefusesNotice L.Memory img old new
ReadingHeard img old new (Err Log) = RefusesNotice L.Failed img old new

-- What is answered of a file that has more bytes than it may, and isn't looked into: that it is too long, unless its
-- length couldn't be read. So no log failed, and memory wasn't wanting.
abbrev pub IsTooLong : List ℕ → Result Opened Halt → Type 0
IsTooLong img answer = (answer ≡ Err (Refused (TooLong (length img)))) ⊎ (answer ≡ Err Device)

-- What logs heard of an opening of a file that may have so many bytes: nothing of one that has more.
abbrev pub BelowHeard : ℕ → List ℕ → List Logged → List Logged → Result Opened Halt → Type 0
BelowHeard limit img old new answer =
    ((limit < length img) × (new ≡ old) × IsTooLong img answer) ⊎ ((length img ≤ limit) × OpeningHeard img old new answer)

-- The same of an opening to read alone.
abbrev pub ReadingBelowHeard : ℕ → List ℕ → List Logged → List Logged → Result Opened Halt → Type 0
ReadingBelowHeard limit img old new answer =
    ((limit < length img) × (new ≡ old) × IsTooLong img answer) ⊎ ((length img ≤ limit) × ReadingHeard img old new answer)
