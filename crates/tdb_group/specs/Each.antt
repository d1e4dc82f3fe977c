-- What becomes of files that are prepared, or cancelled, one after the other.
use Rattle.std.specs.Prelude.{ℕ, ◌≡◌, ◌⊎◌, ◌<◌, ◌≤◌, List, [], ◌∷◌, ◌++◌, Bool, IsTrue, false, true, Some, Result, Ok, Err, IfErr, MatchResult, length, slice_get}
use Rattle.tdb_disk.specs.Count.{Rose}
use Rattle.tdb_log.specs.Logs.{Logged, ToldAll, ToldUpTo, growth}
use Rattle.tdb_log.specs.declared.log.LogRefusal.TheVariants as Unheard
use Rattle.tdb_log.specs.declared.notice.Notice.{Notice}
use Rattle.tdb_world.specs.OverFile.{KeepsForm, OverFile}
use Rattle.tdb_group.specs.Faults.{stop_at}
use Rattle.tdb_group.specs.Files.{IsAt, IsFull, StaysAt}
use Rattle.tdb_group.specs.Group.{EachFile, EachPair, Standing}
use Rattle.tdb_group.specs.Members.{IsSettled, Maps}
use Rattle.tdb_group.specs.Turns.{Ran}
use Rattle.tdb_group.specs.declared.stop.FileStop.{FileStop}
use Rattle.tdb_group.specs.declared.stop.GroupStop.{GroupStop}
use Rattle.tdb_group.specs.declared.stop.GroupStop.TheVariants.{Refused, Io, LogFailed, Memory}

-- what holds unless the disk of a file failed
abbrev pub UnlessFailed : {V : Type 0} → Result V GroupStop → Type 0 → Type 0
UnlessFailed (Ok v) p = p
UnlessFailed (Err (Refused at reply)) p = p
UnlessFailed (Err (Io at)) p = Unit {0}
UnlessFailed (Err (LogFailed at)) p = p
UnlessFailed (Err (Memory at)) p = p

-- A file went on in a call of a group. Its count of faults never falls; and unless a disk failed the count is as it
-- was, and the world keeps its form.
pub record WentOn {V : Type 0} (answer : Result V GroupStop) (old new : OverFile) : Type 0 where
  pub rises : old.faults ≤ new.faults
  pub quiet : UnlessFailed answer (new.faults ≡ old.faults)
  pub form : UnlessFailed answer (KeepsForm old new)

-- the answer of a call that cancels files, as that of the group
abbrev pub cancel_answer : Result (Unit {0}) ℕ → Result (Unit {0}) GroupStop
cancel_answer (Ok v) = Ok tt
cancel_answer (Err at) = Err (Io at)

-- each stop since then leaves of each file what opens to its map before
abbrev pub StayEach : (ℕ → Maps) → List OverFile → List OverFile → Type 0
StayEach ps olds news = EachPair olds news (λ n old now. StaysAt (ps n).before old now)

-- The count of faults rose of the disk of one file.
pub record RoseAt (olds news : List OverFile) (at : ℕ) : Type 0 where
  pub before : OverFile
  pub after : OverFile
  pub was : slice_get olds at ≡ Some before
  pub is : slice_get news at ≡ Some after
  pub rose : Rose before.faults after.faults

-- the notices that tell how files grew, in their order
abbrev pub growths : List OverFile → List OverFile → List Notice
growths (old ∷ olds) (now ∷ news) = growth old.size now.size ++ growths olds news
growths olds news = []

-- no disk failed in any call
abbrev pub AllWell : List OverFile → List OverFile → Type 0
AllWell olds news = EachPair olds news (λ n old now. Ran {V = Unit {0}} old now (Ok tt))

-- none did where there was no room for a file, or all are prepared
abbrev pub WellIfDone : List OverFile → List OverFile → Result (Unit {0}) GroupStop → Type 0
WellIfDone olds news (Ok v) = AllWell olds news
WellIfDone olds news (Err (Refused at reply)) = AllWell olds news
WellIfDone olds news (Err stop) = Unit {0}

-- What a preparation of files left, by its answer: all are prepared; there was no room for one, and then this holds; or
-- a disk failed.
abbrev pub PreparationLeft : Type 0 → (ℕ → Maps) → List OverFile → List OverFile → Result (Unit {0}) GroupStop → Type 0
PreparationLeft Full ps olds news (Ok v) = Standing true 0 ps news
PreparationLeft Full ps olds news (Err (Refused at reply)) = IsFull reply × Full
PreparationLeft Full ps olds news (Err (Io at)) = RoseAt olds news at
PreparationLeft Full ps olds news (Err stop) = Unit {0}

-- What the last log heard of it: how each file grew; or it took some of these notices, and failed at the next.
abbrev pub HeardEach : List OverFile → List OverFile → List Logged → List Logged → Result (Unit {0}) GroupStop → Type 0
HeardEach olds news before after (Ok v) = ToldAll (growths olds news) before after
HeardEach olds news before after (Err (LogFailed at)) = ToldUpTo Unheard.Failed (growths olds news) before after
HeardEach olds news before after (Err stop) = Unit {0}

-- Files were prepared in their order, all or those in front of one that can't be.
pub record PreparedEach (tells : Bool) (olds news : List OverFile) (before after : List Logged) (answer : Result (Unit {0}) GroupStop) : Type 0 where
  pub count : length news ≡ length olds
  pub number : IfErr answer (λ stop. stop_at stop < length olds)
  pub well : WellIfDone olds news answer
  pub went : EachPair olds news (λ n old now. WentOn answer old now)
  pub heard : HeardEach olds news before after answer
  pub left : IsTrue tells → (ps : ℕ → Maps) → Standing false 0 ps olds → PreparationLeft (EachFile news (λ n w. IsAt (ps n).before w)) ps olds news answer
  pub stops : IsTrue tells → (ps : ℕ → Maps) → Standing false 0 ps olds → StayEach ps olds news

-- the answer for some files with one file more, which has this number: that of the first that failed
abbrev pub with_file : Result (Unit {0}) ℕ → Result (Unit {0}) FileStop → ℕ → Result (Unit {0}) ℕ
with_file (Ok v) (Ok w) at = Ok tt
with_file (Ok v) (Err stop) at = Err at
with_file (Err first) own at = Err first

-- A disk failed, and those of no file before it: the transaction of each of those is over, and it has its map. So it is
-- of every other file whose disk didn't fail too.
pub record FailedFirst (ps : ℕ → Maps) (olds news : List OverFile) (at : ℕ) : Type 0 where
  pub rose : RoseAt olds news at
  pub before : EachFile news (λ n w. n < at → IsSettled (ps n).before w)
  pub others : EachPair olds news (λ n old now. IsSettled (ps n).before now ⊎ Rose old.faults now.faults)

-- The transactions of all files were cancelled. Where a disk failed this is the first such file.
pub record CancelledEach (tells : Bool) (olds news : List OverFile) (answer : Result (Unit {0}) ℕ) : Type 0 where
  pub count : length news ≡ length olds
  pub number : IfErr answer (λ at. at < length olds)
  pub went : EachPair olds news (λ n old now. WentOn (cancel_answer answer) old now)
  pub left : IsTrue tells → (ps : ℕ → Maps) → EachFile olds (λ n w. IsAt (ps n).before w) → MatchResult answer (λ _. EachFile news (λ n w. IsSettled (ps n).before w)) (λ at. FailedFirst ps olds news at)
  pub stops : IsTrue tells → (ps : ℕ → Maps) → EachFile olds (λ n w. IsAt (ps n).before w) → StayEach ps olds news
