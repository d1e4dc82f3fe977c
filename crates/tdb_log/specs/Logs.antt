-- A list of logs, of which the last is told notices.
use Rattle.std.specs.Prelude.{ℕ, ◌≡◌, ◌≢◌, List, [], ◌∷◌, ◌++◌, Bool, IsTrue, Option, None, Some, if◌then◌else◌, nat_lt}
use Rattle.tdb_disk.specs.Count.{Rose}
use Rattle.tdb_log.specs.declared.log.LogRefusal.{LogRefusal}
use Rattle.tdb_log.specs.declared.log.LogRefusal.TheVariants.{Failed, Memory}
use Rattle.tdb_log.specs.declared.notice.Notice.{Notice}
use Rattle.tdb_log.specs.declared.notice.Notice.TheVariants.{Grew}

-- A log, as a contract sees it: whether it tells, the notices so far, which say something only where it does, and its
-- count of faults.
pub record Logged : Type 0 where
  pub tells : Bool
  pub notices : List Notice
  pub faults : ℕ

-- a log took a notice
pub record Took (notice : Notice) (old new : Logged) : Type 0 where
  pub tells : new.tells ≡ old.tells
  pub notices : IsTrue old.tells → new.notices ≡ old.notices ++ notice ∷ []
  pub faults : new.faults ≡ old.faults

-- A log refused a notice: it has heard what it had, and its count of faults rose where it failed.
pub record Refused (refusal : LogRefusal) (old new : Logged) : Type 0 where
  pub tells : new.tells ≡ old.tells
  pub notices : IsTrue old.tells → new.notices ≡ old.notices
  pub failed : refusal ≡ Failed → Rose old.faults new.faults
  pub wanting : refusal ≡ Memory → new.faults ≡ old.faults

-- Of logs the last became this, and the others are as before; where there is none, there is none.
abbrev pub LastBecame : (Logged → Logged → Type 0) → List Logged → List Logged → Type 0
LastBecame Became [] new = new ≡ []
LastBecame Became (log ∷ []) new = (now : Logged) × (new ≡ now ∷ []) × Became log now
LastBecame Became (log ∷ next ∷ others) new = (now : List Logged) × (new ≡ log ∷ now) × LastBecame Became (next ∷ others) now

-- The last of logs refused a notice. Where there is none, nothing is refused.
pub record LastRefused (refusal : LogRefusal) (old new : List Logged) : Type 0 where
  pub some : old ≢ []
  pub last : LastBecame (Refused refusal) old new

-- logs but the last
abbrev pub but_last : List Logged → List Logged
but_last [] = []
but_last (log ∷ []) = []
but_last (log ∷ next ∷ others) = log ∷ but_last (next ∷ others)

-- the last log took what there is to tell, if anything
abbrev pub ToldIfAny : Option Notice → List Logged → List Logged → Type 0
ToldIfAny None old new = new ≡ old
ToldIfAny (Some notice) old new = LastBecame (Took notice) old new

-- the last log took notices, one after the other
abbrev pub ToldAll : List Notice → List Logged → List Logged → Type 0
ToldAll [] old new = new ≡ old
ToldAll (notice ∷ notices) old new = (mid : List Logged) × LastBecame (Took notice) old mid × ToldAll notices mid new

-- The last log took some of these notices, and refused the next.
pub record ToldUpTo (refusal : LogRefusal) (notices : List Notice) (old new : List Logged) : Type 0 where
  pub front : List Notice
  pub notice : Notice
  pub rest : List Notice
  pub parts : notices ≡ front ++ notice ∷ rest
  pub mid : List Logged
  pub told : ToldAll front old mid
  pub refused : LastRefused refusal mid new

-- that a file grew from one length to another, if it did
abbrev pub growth : ℕ → ℕ → List Notice
growth from to = if nat_lt from to then Grew from to ∷ [] else []
