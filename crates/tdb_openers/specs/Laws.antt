-- The laws that lift what an opener does to the world: from what holds between any two calls, to what holds after it,
-- and to the law's words for it (`tdb_law`).
use Rattle.std.specs.Prelude.{ℕ, IsTrue, Bool, ◌+◌, ◌≡◌, ◌≢◌, ◌<◌, ◌≤◌, ◌==◌, List, [], ◌∷◌, ◌++◌, Some, None, true, length, slice_get, set, if◌then◌else◌}
use Rattle.std.specs.FinMap.{len}
use Rattle.tdb_space.specs.Form.{Form}
use Rattle.tdb_space.specs.Pairs.{joined, order_of}
use Rattle.tdb_space.specs.Extents.{HandPair}
use Rattle.tdb_space.specs.Accepted.{AcceptWith}
use Rattle.tdb_locks.specs.HeldLocks.{nothing_held}
use Rattle.tdb_locks.specs.declared.piece.Piece.{Piece}
use Rattle.tdb_locks.specs.declared.turn.Turn.{Turn as TurnIs}
use Rattle.tdb_law.specs.Commands.{WalkCommand, Turn}
use Rattle.tdb_commands.specs.InLaw.{law_turn, options_of}
use Rattle.tdb_law.specs.Lines.{most_openers}
use Rattle.tdb_law.specs.Openers.{View}
use Rattle.tdb_law.specs.Turned.{Turned}
use Rattle.tdb_law.specs.World.{HasFewChains}
use Rattle.tdb_law.specs.Events.{Joins, Given}
use Rattle.tdb_law.specs.Beginning.{IsLoaded}
use Rattle.tdb_law.specs.Images.{image_map}
use Rattle.tdb_commands.specs.declared.options.Options.{Options}
use Rattle.tdb_openers.specs.declared.opener.Opener.{Opener}
use Rattle.tdb_openers.specs.declared.job.Job.{Job}
use Rattle.tdb_openers.specs.declared.job.Task.{Task}
use Rattle.tdb_openers.specs.Openers.{no_walk, JobStands, own_of, spot_by, command_in, walk_in, law_task, hands_at, place_at, spots_of, OpenerStands}
use Rattle.tdb_openers.specs.States.{state_of, view_for, WorldStands, FileStands}
use Rattle.tdb_openers.specs.Cursors.{is_stood, CursorsBeside, LeavesCursors}
use Rattle.tdb_openers.specs.Turning.{OpenerHolds, TurnsLocks, TurnsFile, TurnsWalk, ImageBefore, TurnsImage}
use Rattle.tdb_openers.specs.Walked.{WalkTurned}

-- among these openers this one has this task
pub record HasTask (openers : List Opener) (who : ℕ) (x : Opener) (t : Task) : Type 0 where
  pub there : slice_get openers who ≡ Some x
  pub busy : x.task ≡ Some t

-- one opener is this one afterwards, and the others stay
pub record IsPut (old : List Opener) (who : ℕ) (y : Opener) (new : List Opener) : Type 0 where
  pub same_length : length new ≡ length old
  pub there : slice_get new who ≡ Some y
  pub others : (o : ℕ) → o ≢ who → slice_get new o ≡ slice_get old o

-- the records that the commands of all openers but one hold
abbrev pub hands_but : List Opener → ℕ → ℕ → List HandPair
hands_but openers who o = if o == who then [] else hands_at (slice_get openers o)

abbrev pub other_hands : List Opener → ℕ → List HandPair
other_hands openers who = joined (length openers) (hands_but openers who)

-- an opener stands, in a file of this length, and has a task only where it is live
pub record MayStand (f : Form) (options : Options) (size : ℕ) (y : Opener) : Type 0 where
  pub stands : OpenerStands f options size (Some y)
  pub busy_live : (t : Task) → y.task ≡ Some t → y.live ≡ true

-- What holds before a turn: the opener holds what its task has locked and what it keeps.
abbrev pub OpenerIsReady : Type 0
OpenerIsReady = (f : Form) (options : Options) (xs : List Opener) (ps : List Piece) (a : List ℕ) (size who : ℕ) (x : Opener) (t : Task)
    → WorldStands f options xs ps a size → HasTask xs who x t → OpenerHolds f (own_of options x) (spot_by x.walk.cursor) (command_in t.job) t.steps who ps

-- The image is accepted with the records of its command and with those of all others, and the command knows it.
abbrev pub ImageIsReady : Type 0
ImageIsReady = (f : Form) (options : Options) (xs : List Opener) (ps : List Piece) (a : List ℕ) (size who : ℕ) (x : Opener) (t : Task)
    → WorldStands f options xs ps a size → FileStands f xs a → HasTask xs who x t → ImageBefore f t.job a (other_hands xs who)

-- And the cursors of all openers stand beside it.
abbrev pub CursorsAreBeside : Type 0
CursorsAreBeside = (f : Form) (options : Options) (xs : List Opener) (ps : List Piece) (a : List ℕ) (size who : ℕ) (x : Opener) (t : Task)
    → WorldStands f options xs ps a size → FileStands f xs a → HasTask xs who x t → CursorsBeside f a (is_stood (spots_of xs)) t

-- After a turn that did to the lock table what it may, the world stands, whatever the bytes of the file are.
abbrev pub TurnKeepsWorld : Type 0
TurnKeepsWorld = (f : Form) (options : Options) (xs ys : List Opener) (ps qs : List Piece) (a b : List ℕ) (size longer who : ℕ) (x y : Opener) (t : Task) (turn : Turn)
    → WorldStands f options xs ps a size → HasTask xs who x t → IsPut xs who y ys
    → TurnsLocks f (own_of options x) (own_of options y) (spot_by y.walk.cursor) (command_in t.job) t.steps (law_task y.task) who ps qs turn
    → MayStand f options longer y → size ≤ longer → longer ≤ options.limit → WorldStands f options ys qs b longer

-- After a turn of a command on no cursor that also did to the file what it may, and left cursors what it may, its bytes
-- stand: others still know their chains, since who changes a chain has it locked.
abbrev pub TurnKeepsFile : Type 0
TurnKeepsFile = (f : Form) (options : Options) (xs ys : List Opener) (ps : List Piece) (a b : List ℕ) (size who : ℕ) (x y : Opener) (t : Task) (v : View) (turn : Turn)
    → WorldStands f options xs ps a size → FileStands f xs a → HasTask xs who x t → IsPut xs who y ys
    → TurnsFile f (own_of options x) (own_of options y) (spot_by x.walk.cursor) v (command_in t.job) t.steps who ps a b turn
    → TurnsImage f t y.task a b (other_hands xs who) → walk_in t.job ≡ None → y.walk ≡ x.walk → LeavesCursors f (own_of options x) t y.task turn a b (is_stood (spots_of xs)) → FileStands f ys b

-- what the file adds to the cursor of an opener of a world, where its command is this one
abbrev pub view_in : Form → Options → List Opener → List ℕ → ℕ → Opener → Task → View
view_in f options xs a who x t = view_for f options a (set (spots_of xs) who 0) x (command_in t.job)

-- And it is a turn of the law, where its command is on no cursor, and shifts all walks.
abbrev pub TurnIsTurned : Type 0
TurnIsTurned = (f : Form) (options : Options) (xs ys : List Opener) (ps qs : List Piece) (a b : List ℕ) (size who : ℕ) (x y : Opener) (t : Task) (turn : Turn)
    → WorldStands f options xs ps a size → HasTask xs who x t → IsPut xs who y ys
    → TurnsLocks f (own_of options x) (own_of options y) (spot_by y.walk.cursor) (command_in t.job) t.steps (law_task y.task) who ps qs turn
    → TurnsFile f (own_of options x) (own_of options y) (spot_by x.walk.cursor) (view_in f options xs a who x t) (command_in t.job) t.steps who ps a b turn
    → walk_in t.job ≡ None → y.walk ≡ x.walk → ((o : ℕ) → TurnsWalk f (own_of options x) (command_in t.job) t.steps turn a b (place_at (slice_get xs o)))
    → Turned f (state_of f options xs ps a) who (record { command = command_in t.job; steps = t.steps }) turn (state_of f options ys qs b)

-- After a turn of a command on the opener's cursor the world stands too, whatever the bytes of the file are; and where
-- a contract sees these, they stand, and it is a turn of the law.
abbrev pub WalkKeepsWorld : Type 0
WalkKeepsWorld = (f : Form) (options : Options) (xs ys : List Opener) (ps qs : List Piece) (a b c : List ℕ) (size longer who : ℕ) (x y : Opener) (t : Task) (w : WalkCommand) (stood_on : List ℕ) (did : TurnIs) (tells : Bool)
    → WorldStands f options xs ps a size → HasTask xs who x t → walk_in t.job ≡ Some w → IsPut xs who y ys → WalkTurned tells f a b size ps qs (who + 1) stood_on w options.read_only t x y did
    → size ≤ longer → longer ≤ options.limit → WorldStands f options ys qs c longer

abbrev pub WalkKeepsFile : Type 0
WalkKeepsFile = (f : Form) (options : Options) (xs ys : List Opener) (ps qs : List Piece) (a b : List ℕ) (size who : ℕ) (x y : Opener) (t : Task) (w : WalkCommand) (did : TurnIs) (tells : Bool)
    → IsTrue tells → WorldStands f options xs ps a size → FileStands f xs a → HasTask xs who x t → walk_in t.job ≡ Some w → IsPut xs who y ys
    → WalkTurned tells f a b size ps qs (who + 1) (set (spots_of xs) who 0) w options.read_only t x y did → FileStands f ys b

abbrev pub WalkIsTurned : Type 0
WalkIsTurned = (f : Form) (options : Options) (xs ys : List Opener) (ps qs : List Piece) (a b : List ℕ) (size who : ℕ) (x y : Opener) (t : Task) (w : WalkCommand) (did : TurnIs) (tells : Bool)
    → IsTrue tells → WorldStands f options xs ps a size → FileStands f xs a → HasTask xs who x t → walk_in t.job ≡ Some w → IsPut xs who y ys
    → WalkTurned tells f a b size ps qs (who + 1) (set (spots_of xs) who 0) w options.read_only t x y did
    → Turned f (state_of f options xs ps a) who (record { command = command_in t.job; steps = t.steps }) (law_turn did) (state_of f options ys qs b)

-- a new opener comes behind these; it has nothing yet
pub record IsJoined (old : List Opener) (y : Opener) (new : List Opener) : Type 0 where
  pub pushed : new ≡ old ++ (y ∷ [])
  pub live : y.live ≡ true
  pub idle : y.task ≡ None
  pub nothing : y.held ≡ nothing_held
  pub bare : y.walk ≡ no_walk

-- Where there is room it leaves a world that stands, and joins in the words of the law; and it leaves bytes that stand.
-- Nobody holds the opening lock, which only a transaction takes.
abbrev pub JoinKeepsWorld : Type 0
JoinKeepsWorld = (f : Form) (options : Options) (xs ys : List Opener) (ps : List Piece) (a : List ℕ) (size : ℕ) (y : Opener)
    → WorldStands f options xs ps a size → IsJoined xs y ys → length xs < most_openers → WorldStands f options ys ps a size

abbrev pub JoinKeepsFile : Type 0
JoinKeepsFile = (f : Form) (xs ys : List Opener) (a : List ℕ) (y : Opener) → FileStands f xs a → IsJoined xs y ys → FileStands f ys a

abbrev pub JoinJoins : Type 0
JoinJoins = (f : Form) (options : Options) (xs ys : List Opener) (ps : List Piece) (a : List ℕ) (size : ℕ) (y : Opener)
    → WorldStands f options xs ps a size → IsJoined xs y ys → length xs < most_openers → Joins f (state_of f options xs ps a) (length xs) (state_of f options ys ps a)

-- A live opener without a task is given a job, and is y then.
pub record IsGiven (x : Opener) (job : Job) (y : Opener) : Type 0 where
  pub live : x.live ≡ true
  pub idle : x.task ≡ None
  pub task : y.task ≡ Some (record { steps = 0; job = job })
  pub same_live : y.live ≡ x.live
  pub same_held : y.held ≡ x.held
  pub same_walk : y.walk ≡ x.walk

-- A job that stands at its beginning leaves a world that stands and bytes that do, and is given in the words of the
-- law.
abbrev pub GiftKeepsWorld : Type 0
GiftKeepsWorld = (f : Form) (options : Options) (xs ys : List Opener) (ps : List Piece) (a : List ℕ) (size who : ℕ) (x y : Opener) (job : Job)
    → WorldStands f options xs ps a size → slice_get xs who ≡ Some x → IsPut xs who y ys → IsGiven x job y → JobStands f (own_of options x) job 0 size → WorldStands f options ys ps a size

abbrev pub GiftKeepsFile : Type 0
GiftKeepsFile = (f : Form) (options : Options) (xs ys : List Opener) (a : List ℕ) (size who : ℕ) (x y : Opener) (job : Job)
    → FileStands f xs a → slice_get xs who ≡ Some x → IsPut xs who y ys → IsGiven x job y → JobStands f (own_of options x) job 0 size → FileStands f ys a

abbrev pub GiftIsGiven : Type 0
GiftIsGiven = (f : Form) (options : Options) (xs ys : List Opener) (ps : List Piece) (a : List ℕ) (who : ℕ) (x y : Opener) (job : Job)
    → slice_get xs who ≡ Some x → IsPut xs who y ys → IsGiven x job y → Given (state_of f options xs ps a) who (command_in job) (state_of f options ys ps a)

-- A world without openers, whose lock table is empty, stands; so do the bytes of an accepted image; and it is just
-- loaded.
abbrev pub EmptyStands : Type 0
EmptyStands = (f : Form) (options : Options) (a : List ℕ) (size : ℕ) → HasFewChains f → options.limit ≤ 4294963200 → size ≤ options.limit → WorldStands f options [] [] a size

abbrev pub EmptyFileStands : Type 0
EmptyFileStands = (f : Form) (a : List ℕ) → AcceptWith f a [] → FileStands f [] a

abbrev pub EmptyIsLoaded : Type 0
EmptyIsLoaded = (f : Form) (options : Options) (a : List ℕ) → HasFewChains f → IsLoaded f (state_of f options [] [] a) (options_of options)

-- The map of an accepted image has as many keys as the image has pairs, which a check counts.
abbrev pub KeysAreCounted : Type 0
KeysAreCounted = (f : Form) (img : List ℕ) (hands : List HandPair) → AcceptWith f img hands → len (image_map f img) ≡ length (order_of f img)
