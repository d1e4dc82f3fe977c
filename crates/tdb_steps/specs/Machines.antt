-- A machine: what a command has between two of its turns, what it needs and knows, and what a turn makes of an image.
use Rattle.std.specs.Prelude.{ℕ, ◌+◌, ◌^◌, ◌≡◌, ◌≤◌, ◌<◌, ◌⊎◌, List, [], ◌++◌, length, Bool, false, true, ◌&&◌, Option, None, IfSome, unwrap_or}
use Rattle.tdb_chain.specs.declared.place.Place.{Place}
use Rattle.tdb_space.specs.Form.{Form}
use Rattle.tdb_space.specs.Pairs.{home, map_of}
use Rattle.tdb_space.specs.NewRecord.{rec_len_for}
use Rattle.tdb_space.specs.Extents.{HandPair}
use Rattle.tdb_space.specs.Accepted.{AcceptWith}
use Rattle.tdb_space.specs.Spare.{Spare}
use Rattle.tdb_space.specs.Stays.{ChangesOnly, ChainStays, ChainsStay}
use Rattle.tdb_law.specs.Commands.{MapCommand, Reply, Turn}
use Rattle.tdb_law.specs.Commands.Reply.{Done, Memory, Full}
use Rattle.tdb_law.specs.Commands.Turn.{Step, Blocked, Ends}
use Rattle.tdb_law.specs.Openers.{Map}
use Rattle.tdb_law.specs.MapCommands.{reply, after, map_fills, map_changes as may_change}
use Rattle.tdb_law.specs.Counting.{raised}
use Rattle.tdb_law.specs.Commands as Law
use Rattle.tdb_locks.specs.declared.turn.Reply as Replies
use Rattle.tdb_law.specs.Rows.{map_changed}
use Rattle.tdb_law.specs.Ends.{map_last, map_ends}
use Rattle.tdb_steps.specs.declared.plain.Plain.{Plain}
use Rattle.tdb_steps.specs.declared.plain.Plain.TheVariants.{Fetch, Has, Store, Append, Delete, Wipe}
use Rattle.tdb_steps.specs.declared.stage.Stage.{Stage}
use Rattle.tdb_steps.specs.declared.stage.Stage.TheVariants.{Begun, Looked, Listed, Ending}
use Rattle.tdb_steps.specs.declared.stage.Next.{Next}
use Rattle.tdb_steps.specs.Turns.{number_of, Makes, TurnStopped, AppendMakes, WipeMakes, StoresRightly, AppendsRightly, DeletesRightly, WipesRightly, LooksRightly}
use Rattle.tdb_steps.specs.Asked.{joined}
use Rattle.tdb_steps.specs.Wiped.{WipeStopped}
use Rattle.tdb_steps.specs.Stages.{hands_in, is_done, is_changed, MayBeOut, IsIdle, Knows, IsTooShort, IsJoined, OfLook, OfStore, OfDelete, OfWipe}
use Rattle.tdb_steps.specs.PlainCommands.{IsKeyed, key_of, asked_of, command_of, IsMapOf}
use Rattle.tdb_steps.specs.Order.{IsAfter}
use Rattle.tdb_steps.specs.Walks.{StandInChains, SparesStood, WalksKept}

-- the command, the chain of its key, whether its change counts in the sequence number, the stage, and the bytes that an
-- append has joined
pub record Doing : Type 0 where
  pub command : Plain
  pub chain : ℕ
  pub seqnum : Bool
  pub stage : Stage
  pub whole : Option (List ℕ)

-- a command that has had no turn
abbrev pub begun : Plain → ℕ → Bool → Doing
begun command chain seqnum = record { command = command; chain = chain; seqnum = seqnum; stage = Begun; whole = None }

-- the key and the value of a command are short enough for the words of a file
abbrev pub IsShort : Plain → Type 0
IsShort (Fetch key) = length key < 2 ^ 32
IsShort (Has key) = length key < 2 ^ 32
IsShort (Store key value flag) = (length key < 2 ^ 32) × (length value < 2 ^ 32)
IsShort (Append key value) = (length key < 2 ^ 32) × (length value < 2 ^ 32)
IsShort (Delete key) = length key < 2 ^ 32
IsShort Wipe = Unit {0}

-- so are the bytes that an append has joined: two values' length at most
abbrev pub IsShortWhole : Option (List ℕ) → Type 0
IsShortWhole whole = IfSome whole (λ bytes. length bytes < 2 ^ 33)

-- what a stage of a command, which may have joined bytes, needs of a view of this length and room, whatever its bytes
-- are
abbrev pub IsFit : Plain → Option (List ℕ) → Stage → ℕ → Spare → Type 0
IsFit (Fetch key) whole stage size spare = OfLook stage
IsFit (Has key) whole stage size spare = OfLook stage
IsFit (Store key value flag) whole stage size spare = OfStore (length key + length value) stage size spare
IsFit (Append key value) whole stage size spare = OfStore (length key + length (unwrap_or whole value)) stage size spare
IsFit (Delete key) whole stage size spare = OfDelete stage size spare
IsFit Wipe whole stage size spare = OfWipe stage spare

pub record Fits (d : Doing) (size : ℕ) (spare : Spare) : Type 0 where
  pub short : IsShort d.command
  pub short_whole : IsShortWhole d.whole
  pub stage : IsFit d.command d.whole d.stage size spare

-- an append has the bytes that it writes, where it needs them
abbrev pub HasJoined : Form → List ℕ → Plain → Option (List ℕ) → Stage → Type 0
HasJoined f img command whole stage = (key value : List ℕ) → command ≡ Append key value → IsJoined f img key value whole stage

-- The record that a store or an append has found is too short for the value that it is to leave its key: so it is from
-- the look to the take.
abbrev pub CantUpdate : Form → List ℕ → Plain → Option Place → Type 0
CantUpdate f img (Store key value flag) found = IsTooShort (length value) found
CantUpdate f img (Append key value) found = IsTooShort (length (joined (map_of f img key) value)) found
CantUpdate f img command found = Unit {0}

abbrev pub WantsRecord : Form → List ℕ → Plain → Stage → Type 0
WantsRecord f img command (Looked found) = CantUpdate f img command found
WantsRecord f img command (Listed found) = CantUpdate f img command found
WantsRecord f img command stage = Unit {0}

-- what a machine knows of an image
pub record DoingKnows (f : Form) (img : List ℕ) (d : Doing) : Type 0 where
  pub found : Knows f img (key_of d.command) (asked_of d.command) d.stage
  pub joined : HasJoined f img d.command d.whole d.stage
  pub wants : WantsRecord f img d.command d.stage

-- What a machine knows between two of its turns it still knows after any change that leaves the chain of its key.
abbrev pub MachineKnowledgeStays : Type 0
MachineKnowledgeStays =
    (f : Form) (a b : List ℕ) (d : Doing) (hands news : List HandPair) → AcceptWith f a hands → AcceptWith f b news → length a ≤ length b
    → ChainStays f a b (home f (key_of d.command)) → DoingKnows f a d → DoingKnows f b d

-- what a turn of a command makes of an image; an append has joined `was` before it, and `now` after it
abbrev pub CommandMakes : Form → List ℕ → List ℕ → Plain → Option (List ℕ) → Option (List ℕ) → Stage → Next → Type 0
CommandMakes f a b (Append key value) was now old next = AppendMakes f a b key value was now old next
CommandMakes f a b Wipe was now old next = WipeMakes f a b old next
CommandMakes f a b command was now old next = Makes f a b (key_of command) (asked_of command) old next

-- What a turn of a command from a stage leaves where it fails: a wipe what one leaves, and any other command what a
-- turn on its key leaves.
abbrev pub CommandStopped : Form → List ℕ → List ℕ → Plain → Stage → Type 0
CommandStopped f a b Wipe stage = WipeStopped f a b
CommandStopped f a b command stage = TurnStopped f a b (key_of command) (hands_in stage)

-- so it is for whatever other hands may be out
abbrev pub CommandStops : Form → List ℕ → List ℕ → Plain → Stage → Type 0
CommandStops f a b command stage =
    (others : List HandPair) → MayBeOut stage others → AcceptWith f a (hands_in stage ++ others) → Knows f a (key_of command) (asked_of command) stage → CommandStopped f a b command stage

-- How a turn of a command goes on: a store or an append updates in place exactly where the value fits, and takes a
-- record as the free list gives it, or replies Full exactly where it has none that is long enough and the file can't
-- grow up to the limit; a record is marked as dead exactly where a cursor stands on it.
abbrev pub CommandRightly : Form → List ℕ → List ℕ → Plain → Option (List ℕ) → ℕ → List ℕ → Stage → Next → Type 0
CommandRightly f a b (Store key value flag) whole limit stood_on stage next =
    StoresRightly f a b key (length value) (rec_len_for (length key) (length value)) limit stood_on stage next
CommandRightly f a b (Append key value) whole limit stood_on stage next = AppendsRightly f a b key value whole limit stood_on stage next
CommandRightly f a b (Delete key) whole limit stood_on stage next = DeletesRightly f a b key stood_on stage next
CommandRightly f a b Wipe whole limit stood_on stage next = WipesRightly f a b stage next
CommandRightly f a b command whole limit stood_on stage next = LooksRightly stage next

-- the chains that a command may change: that of its key, and a wipe any
abbrev pub IsOn : Form → Plain → ℕ → Type 0
IsOn f Wipe k = Unit {0}
IsOn f command k = k ≡ home f (key_of command)

-- the sequence number after a turn: raised where changes count, and the command is done and may change the map
abbrev pub number_after : Bool → MapCommand → Turn → ℕ → ℕ
number_after counting c (Ends r) q = raised (Law.is_done r && (may_change c && counting)) q
number_after counting c turn q = q

-- the reply to a command raises the sequence number
abbrev pub is_counted : Doing → Replies.Reply → Bool
is_counted d reply = is_done reply && (may_change (command_of d.command) && d.seqnum)

-- From image a, accepted with some hands, to image b at most the sequence number changed: it is raised where it is
-- counted.
pub record Counted (f : Form) (a b : List ℕ) (counts : Bool) (hands : List HandPair) : Type 0 where
  pub stay : ChainsStay f a b hands
  pub number : number_of f b ≡ raised counts (number_of f a)

-- a turn from this stage of a machine makes no call that changes the file
abbrev pub IsQuiet : Doing → Type 0
IsQuiet d = IsIdle d.stage × (d.stage ≡ Ending → d.seqnum ≡ false)

-- What a turn of a command that has had n steps makes of the file's map m, in the words of a world:
--   waits      blocked; the map stays
--   goes_on    a step that leaves the map
--   changes    the step that makes the change, turns before the command is told
--   answers    an end with the reply on the map, and the map as the command leaves it
--   starves    an end for want of memory; the map stays
--   is_full    an end for want of space, of a command that would have been done
--   finishes   an end with Done of a command whose change is made
pub data MapTurned (f : Form) (b : List ℕ) (c : MapCommand) (n : ℕ) (m : Map) (turn : Turn) : Type 0 where
  map_waits : (o byte : ℕ) → turn ≡ Blocked o byte → map_changed c n ≡ false → IsMapOf f b m → MapTurned f b c n m turn
  map_goes_on : turn ≡ Step → map_changed c (n + 1) ≡ map_changed c n → IsMapOf f b m → MapTurned f b c n m turn
  map_changes : turn ≡ Step → 1 ≤ n → map_changed c n ≡ false → map_changed c (n + 1) ≡ true → reply c m ≡ Done → IsMapOf f b (after c m) → MapTurned f b c n m turn
  map_answers : (r : Reply) → turn ≡ Ends r → 1 ≤ n → map_changed c n ≡ false → r ≡ reply c m → IsMapOf f b (after c m) → MapTurned f b c n m turn
  map_starves : turn ≡ Ends Memory → map_changed c n ≡ false → IsMapOf f b m → MapTurned f b c n m turn
  map_is_full : (len need : ℕ) → turn ≡ Ends (Full len need) → map_fills c ≡ true → 1 ≤ n → map_changed c n ≡ false → reply c m ≡ Done → IsMapOf f b m → MapTurned f b c n m turn
  map_finishes : turn ≡ Ends Done → map_changed c n ≡ true → IsMapOf f b m → MapTurned f b c n m turn

-- the turns that the row of a command allows after n steps: a step below the last, a block, an end by the table, or for
-- want of memory
abbrev pub MapRow : MapCommand → ℕ → Turn → Type 0
MapRow c n Step = n < map_last c
MapRow c n (Blocked o byte) = Unit {0}
MapRow c n (Ends r) = (map_ends c n r ≡ true) ⊎ ((r ≡ Memory) × (n ≤ map_last c))

-- the change of a command is made after a turn that has led a machine from d to e
abbrev pub is_changed_then : Doing → Doing → Turn → Bool
is_changed_then d e Step = is_changed e.stage
is_changed_then d e (Blocked o byte) = is_changed d.stage
is_changed_then d e (Ends r) = Law.is_done r

-- the turn hasn't taken out a record on which a cursor stands
abbrev pub Spares : (ℕ → Bool) → Doing → Turn → Type 0
Spares stands e Step = SparesStood stands (Next.Step e.stage)
Spares stands e turn = Unit {0}

-- A turn of a machine led from image a to image b, where other hands are out that stay as they are. The new image is
-- accepted with them and the machine's own. At most the chain of its key changed, or any by a wipe, and that only after
-- its first turn, which locks it, or all. The turn is one of the command's row, the map and the reply are as the
-- command says, and the sequence number is raised where the command counts and is done. Walks through the chain of its
-- key are kept, wherever cursors stand.
pub record MachineTurned (f : Form) (a b : List ℕ) (d e : Doing) (n : ℕ) (turn : Turn) (others : List HandPair) : Type 0 where
  pub accepted : AcceptWith f b (hands_in e.stage ++ others)
  pub knows : DoingKnows f b e
  pub only : ChangesOnly f a b (λ k. IsOn f d.command k × (1 ≤ n))
  pub map : (m : Map) → IsMapOf f a m → MapTurned f b (command_of d.command) n m turn
  pub number : number_of f b ≡ number_after d.seqnum (command_of d.command) turn (number_of f a)
  pub walks : IsKeyed d.command → (stands : ℕ → Bool) → StandInChains f a stands → Spares stands e turn → WalksKept f a b (key_of d.command) stands (is_changed d.stage) (is_changed_then d e turn)

-- A turn of a machine made of image a what it makes, with this reply to come; and then the disk failed where the
-- sequence number was to be raised. Image b is as the turn leaves it, but for the number perhaps.
pub record TurnUncounted (f : Form) (a b : List ℕ) (d : Doing) (n : ℕ) (reply : Reply) (others : List HandPair) : Type 0 where
  pub accepted : AcceptWith f b others
  pub only : ChangesOnly f a b (λ k. IsOn f d.command k × (1 ≤ n))
  pub map : (m : Map) → IsMapOf f a m → MapTurned f b (command_of d.command) n m (Ends reply)

-- How a turn of a machine failed that has had n steps, where other hands are out: in a call of its command, or after
-- it, where the sequence number was to be raised.
pub data MachineStopped (f : Form) (a b : List ℕ) (d : Doing) (n : ℕ) (others : List HandPair) : Type 0 where
  in_call : CommandStopped f a b d.command d.stage → MachineStopped f a b d n others
  at_number : (reply : Reply) → TurnUncounted f a b d n reply others → MachineStopped f a b d n others

-- what a turn leaves of the machine: after a step it has had one more, blocked it is as it was, and at its end it is
-- before its first turn
abbrev pub Leaves : Doing → Doing → ℕ → Turn → Type 0
Leaves d e n Step = (e.command ≡ d.command) × (e.chain ≡ d.chain) × (e.seqnum ≡ d.seqnum) × IsAfter e.command e.stage (n + 1)
Leaves d e n (Blocked o byte) = e ≡ d
Leaves d e n (Ends r) = e ≡ begun d.command d.chain d.seqnum
