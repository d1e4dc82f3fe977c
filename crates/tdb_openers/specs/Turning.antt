-- What one turn of an opener makes of the lock table, of the file and of the opener, in the words of the law
-- (`tdb_law`).
use Rattle.std.specs.Prelude.{ℕ, ◌+◌, ◌%◌, ◌≡◌, ◌≢◌, ◌≤◌, List, [], ◌++◌, Bool, Option, Some, is_some, true, false}
use Rattle.tdb_words.specs.Word.{word}
use Rattle.tdb_words.specs.Header.{sequence_at}
use Rattle.tdb_space.specs.Form.{Form, data_start}
use Rattle.tdb_space.specs.Extents.{HandPair}
use Rattle.tdb_space.specs.Accepted.{AcceptWith}
use Rattle.tdb_space.specs.Stays.{ChangesOnly}
use Rattle.tdb_locks.specs.declared.piece.Piece.{Piece}
use Rattle.tdb_law.specs.Commands.{Command, Turn}
use Rattle.tdb_law.specs.Openers.{Own, Spot, View, Task as LawTask}
use Rattle.tdb_law.specs.Ends.{IsRow}
use Rattle.tdb_law.specs.Held.{holding, wanted, decided}
use Rattle.tdb_law.specs.Effects.{Effect, IsFree, IsFirstConflict, Finds, task_left}
use Rattle.tdb_law.specs.Turned.{number_next}
use Rattle.tdb_law.specs.Walks.{Lost, Shift}
use Rattle.tdb_law.specs.Layout.{Place, chains_in, mark_of}
use Rattle.tdb_law.specs.Images.{image_map}
use Rattle.tdb_steps.specs.Holdings.{table_of}
use Rattle.tdb_steps.specs.Stages.{MayBeOut}
use Rattle.tdb_steps.specs.Machines.{IsOn}
use Rattle.tdb_openers.specs.declared.job.Job.{Job}
use Rattle.tdb_openers.specs.declared.job.Job.TheVariants.{Plain, Check}
use Rattle.tdb_openers.specs.declared.job.Checking.TheVariants.{FreeList}
use Rattle.tdb_openers.specs.declared.job.Task.{Task}
use Rattle.tdb_openers.specs.Openers.{AtRest, hands_of_job, hands_of_task, JobKnows, TaskKnows}

-- a lock table in the law's numbers: openers are counted from 0 there, and from 1 in the table
abbrev pub law_table : List Piece → ℕ → ℕ → ℕ
law_table ps o b = table_of ps (o + 1) b

-- what only the world knows of an opener whose cursor rests
abbrev pub resting : AtRest → Spot
resting rest = record { stands = rest.stands; purging = false; gone = false }

-- what the file adds to an opener whose command is on no cursor: nothing has to be purged, and no move is on its way
abbrev pub no_view : View
no_view = record { must = false; way = λ b. false }

-- what the next turn of a command wants, by what only the world and only the file know of its opener
abbrev pub wants : Form → Command → Own → Spot → View → ℕ → ℕ → ℕ
wants f c x s v n b = wanted f c x (decided s v n) v n b

-- A cursor that stands on a record, which lies behind the heads of all chains and at a whole word, has shown a key.
pub record RestsWell (f : Form) (cursor : Option (List ℕ)) (place : ℕ) : Type 0 where
  pub shown : is_some cursor ≡ true
  pub above : data_start f ≤ place
  pub aligned : place % 4 ≡ 0

abbrev pub StandsWell : Form → Option (List ℕ) → Option ℕ → Type 0
StandsWell f cursor stands = (place : ℕ) → stands ≡ Some place → RestsWell f cursor place

-- Before a turn: the opener holds what the steps of its command have locked and what it keeps, no other's locks
-- conflict with it, and where its cursor stands on a record it does so well.
pub record OpenerHolds (f : Form) (x : Own) (s : Spot) (c : Command) (n : ℕ) (who : ℕ) (ps : List Piece) : Type 0 where
  pub holds : (b : ℕ) → law_table ps who b ≡ holding f x s (Some (record { command = c; steps = n })) b
  pub apart : (o b : ℕ) → o ≢ who → law_table ps who b + law_table ps o b ≤ 2
  pub numbered : (b : ℕ) → table_of ps 0 b ≡ 0
  pub rests : StandsWell f x.cursor s.stands

-- A turn of a command that has had n steps, of an opener x who is y afterwards, with this spot and this command left.
-- Whatever the bytes of the file are: the row of the command allows the turn; the opener holds what is left; others
-- hold what they held, and no locks conflict.
pub record TurnsLocks (f : Form) (x y : Own) (z : Spot) (c : Command) (n : ℕ) (left : Option LawTask) (who : ℕ) (old new : List Piece) (turn : Turn) : Type 0 where
  pub row : IsRow f c x n turn
  pub leaves : left ≡ task_left c n turn
  pub holds : (b : ℕ) → law_table new who b ≡ holding f y z left b
  pub others : (o b : ℕ) → o ≢ who → table_of new (o + 1) b ≡ table_of old (o + 1) b
  pub apart : (o b : ℕ) → o ≢ who → law_table new who b + law_table new o b ≤ 2
  pub numbered : (b : ℕ) → table_of new 0 b ≡ 0

-- The effect of the turn on the file's bytes, a before it and b after it, is one of the law's kinds, and so is what
-- becomes of the sequence number; s is the opener's spot before it, and v its view.
pub record TurnsFile (f : Form) (x y : Own) (s : Spot) (v : View) (c : Command) (n : ℕ) (who : ℕ) (old : List Piece) (a b : List ℕ) (turn : Turn) : Type 0 where
  pub effect : Effect f (IsFree (law_table old) who (wants f c x s v n)) (IsFirstConflict (law_table old) who (wants f c x s v n))
      (Finds f (law_table old who) (wants f c x s v n) (image_map f a)) (word f.order a sequence_at) c n x (image_map f a) turn y (image_map f b)
  pub number : word f.order b sequence_at ≡ number_next f c n x turn (word f.order a sequence_at) 0

-- What a turn leaves of a walk at this place, of its own opener or of another: it isn't moved, and what is further on
-- is lost by the turn alone.
abbrev pub TurnsWalk : Form → Own → Command → ℕ → Turn → List ℕ → List ℕ → Place → Type 0
TurnsWalk f x c n turn a b place = (mine : Bool) → Shift f (Lost f c n x turn mine (mark_of f (chains_in f a) place)) (mark_of f (chains_in f a) place) (mark_of f (chains_in f b) place)

-- The hands of other commands that may be out before a turn: any. But where a wipe or a check has locked all records
-- and the free list there is none: the locks of whoever had one would conflict.
abbrev pub JobMayBeOut : Job → List HandPair → Type 0
JobMayBeOut (Plain doing) others = MayBeOut doing.stage others
JobMayBeOut (Check FreeList) others = others ≡ []
JobMayBeOut job others = Unit {0}

-- the chains that a command is on
abbrev pub JobIsOn : Form → Job → ℕ → Type 0
JobIsOn f (Plain doing) k = IsOn f doing.command k
JobIsOn f job k = ⊥

-- The image before a turn, where other commands hold these records: it is accepted with them and with the command's
-- own, and is as the command knows it.
pub record ImageBefore (f : Form) (job : Job) (a : List ℕ) (others : List HandPair) : Type 0 where
  pub may_be_out : JobMayBeOut job others
  pub accepted : AcceptWith f a (hands_of_job job ++ others)
  pub knows : JobKnows f a job

-- What a turn of a task makes of the image a, which is b after it, where other commands hold these records and this
-- task is left: b is accepted with them and with what is left, which knows it. At most the chains that the command is
-- on changed, and none at its first turn, which locks them.
pub record TurnsImage (f : Form) (t : Task) (left : Option Task) (a b : List ℕ) (others : List HandPair) : Type 0 where
  pub accepted : AcceptWith f b (hands_of_task left ++ others)
  pub knows : TaskKnows f b left
  pub only : ChangesOnly f a b (λ k. JobIsOn f t.job k × (1 ≤ t.steps))
