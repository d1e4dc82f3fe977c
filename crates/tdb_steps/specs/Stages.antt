-- What a stage of a command holds, knows and needs.
use Rattle.std.specs.Prelude.{◌≡◌, ℕ, ◌+◌, ◌/◌, ◌≤◌, ◌<◌, Bool, true, false, List, [], ◌∷◌, Option, None, Some, IfSome, unwrap_or}
use Rattle.tdb_space.specs.Form.{Form}
use Rattle.tdb_space.specs.Pairs.{map_of}
use Rattle.tdb_space.specs.Extents.{HandPair}
use Rattle.tdb_space.specs.Spare.{Spare, RoomForAll}
use Rattle.tdb_chain.specs.declared.place.Place.{Place}
use Rattle.tdb_chain.specs.Place.{StandsWithin, IsFound}
use Rattle.tdb_locks.specs.declared.turn.Reply.{Reply}
use Rattle.tdb_steps.specs.declared.stage.Stage.{Stage}
use Rattle.tdb_steps.specs.declared.plain.Plain.{Plain}
use Rattle.tdb_steps.specs.declared.plain.Plain.TheVariants.{Wipe}
use Rattle.tdb_steps.specs.declared.stage.WipeStage.TheVariants.{Records, FreeList}
use Rattle.tdb_steps.specs.declared.stage.Stage.TheVariants.{Begun, Chained, Looked, Listed, Taken, Changed, Wiping, Ending}
use Rattle.tdb_steps.specs.declared.stage.Next.{Next}
use Rattle.tdb_steps.specs.declared.stage.Next.TheVariants.{Step, Done}
use Rattle.tdb_steps.specs.Asked.{Asked, joined}

-- the record that a stage holds, which is in no list
abbrev pub hands_in : Stage → List HandPair
hands_in (Taken found hand) = hand ∷ []
hands_in (Changed hand) = hand ∷ []
hands_in _ = []

abbrev pub hands_after : Next → List HandPair
hands_after (Step stage) = hands_in stage
hands_after (Done reply) = []

-- a lock holds the chain of the key, or all chains: from the first turn to the last
abbrev pub HoldsChain : Stage → Type 0
HoldsChain Begun = ⊥
HoldsChain _ = Unit {0}

-- the record of the key was found, or that there is none; and the command, which isn't refused, will reply Ok
pub record IsKnown (f : Form) (img key : List ℕ) (asked : Asked) (place : Option Place) : Type 0 where
  pub found : IsFound f img key place
  pub granted : asked.reply (map_of f img key) ≡ Reply.Ok

-- what a stage knows of an image
abbrev pub Knows : Form → List ℕ → List ℕ → Asked → Stage → Type 0
Knows f img key asked (Looked found) = IsKnown f img key asked found
Knows f img key asked (Listed found) = IsKnown f img key asked found
Knows f img key asked (Taken found hand) = IsKnown f img key asked found
Knows f img key asked _ = Unit {0}

abbrev pub KnowsAfter : Form → List ℕ → List ℕ → Asked → Next → Type 0
KnowsAfter f img key asked (Step stage) = Knows f img key asked stage
KnowsAfter f img key asked (Done reply) = Unit {0}

-- the record that was found, if there is one, is too short to take a value of so many bytes where it stands
abbrev pub IsTooShort : ℕ → Option Place → Type 0
IsTooShort n None = Unit {0}
IsTooShort n (Some place) = place.rec.rec_len < place.rec.key_len + n + 4

-- From its look to its link an append has the bytes that it writes, which it has joined, or which are those to be
-- appended: what the key has in an image, and those to be appended behind it.
abbrev pub IsJoined : Form → List ℕ → List ℕ → List ℕ → Option (List ℕ) → Stage → Type 0
IsJoined f img key more whole (Looked found) = unwrap_or whole more ≡ joined (map_of f img key) more
IsJoined f img key more whole (Listed found) = unwrap_or whole more ≡ joined (map_of f img key) more
IsJoined f img key more whole (Taken found hand) = unwrap_or whole more ≡ joined (map_of f img key) more
IsJoined f img key more whole _ = Unit {0}

abbrev pub JoinedAfter : Form → List ℕ → List ℕ → List ℕ → Option (List ℕ) → Next → Type 0
JoinedAfter f img key more whole (Step stage) = IsJoined f img key more whole stage
JoinedAfter f img key more whole (Done reply) = Unit {0}

-- the change is made
abbrev pub is_changed : Stage → Bool
is_changed (Changed hand) = true
is_changed Ending = true
is_changed _ = false

-- the command has made its change, or ended with it
abbrev pub is_done : Reply → Bool
is_done Reply.Ok = true
is_done _ = false

abbrev pub is_changed_after : Next → Bool
is_changed_after (Step stage) = is_changed stage
is_changed_after (Done reply) = is_done reply

-- A place that was found lies in a file of this length; of a command that goes on only where its key is there, there is
-- one.
abbrev pub LiesThere : Option Place → ℕ → Type 0
LiesThere None size = ⊥
LiesThere (Some place) size = StandsWithin place size

-- the record that was taken is long enough for so many bytes, and the view has room for all that is left to write
pub record CanLink (found : Option Place) (hand : HandPair) (size n : ℕ) (spare : Spare) : Type 0 where
  pub within : IfSome found (λ place. StandsWithin place size)
  pub fits : n + 4 ≤ hand.1
  pub room : RoomForAll spare (13 + hand.1 / 4096) (80 + hand.1)

-- the stages of a command that only looks
abbrev pub OfLook : Stage → Type 0
OfLook Begun = Unit {0}
OfLook Chained = Unit {0}
OfLook _ = ⊥

-- the stages of a delete, and what each needs of a file of this length, whatever its bytes are
abbrev pub OfDelete : Stage → ℕ → Spare → Type 0
OfDelete (Looked found) size spare = LiesThere found size
OfDelete (Listed found) size spare = LiesThere found size
OfDelete (Taken found hand) size spare = ⊥
OfDelete (Changed hand) size spare = RoomForAll spare 6 44
OfDelete (Wiping stage) size spare = ⊥
OfDelete Ending size spare = RoomForAll spare 1 4
OfDelete _ size spare = Unit {0}

-- the stages of a store of so many bytes, key and value, and what each needs
abbrev pub OfStore : ℕ → Stage → ℕ → Spare → Type 0
OfStore n (Looked found) size spare = IfSome found (λ place. StandsWithin place size)
OfStore n (Listed found) size spare = IfSome found (λ place. StandsWithin place size)
OfStore n (Taken found hand) size spare = CanLink found hand size n spare
OfStore n (Changed hand) size spare = RoomForAll spare 6 44
OfStore n (Wiping stage) size spare = ⊥
OfStore n Ending size spare = RoomForAll spare 1 4
OfStore n _ size spare = Unit {0}

-- the stages of a wipe, and what each needs
abbrev pub OfWipe : Stage → Spare → Type 0
OfWipe Begun spare = Unit {0}
OfWipe (Wiping stage) spare = Unit {0}
OfWipe Ending spare = RoomForAll spare 1 4
OfWipe _ spare = ⊥

-- The hands of other commands that may be out at a stage: any. But where a wipe has locked all records and the free
-- list, there is none: the locks of whoever had one would conflict.
abbrev pub MayBeOut : Stage → List HandPair → Type 0
MayBeOut (Wiping FreeList) others = others ≡ []
MayBeOut _ others = Unit {0}

-- the stage after the turn that takes the first lock of a command, and after any turn that takes one
abbrev pub first_stage : Plain → Stage
first_stage Wipe = Wiping Records
first_stage _ = Chained

abbrev pub locked_stage : Plain → Stage → Stage
locked_stage command Begun = first_stage command
locked_stage command (Looked found) = Listed found
locked_stage command (Wiping Records) = Wiping FreeList
locked_stage command stage = stage

-- a turn leads to such a stage, or to the end
abbrev pub Leads : (Stage → Type 0) → Next → Type 0
Leads Of (Step stage) = Of stage
Leads Of (Done reply) = Unit {0}

-- the turn from this stage neither looks nor writes: it takes or lets go of locks alone
abbrev pub IsIdle : Stage → Type 0
IsIdle Begun = Unit {0}
IsIdle (Looked found) = Unit {0}
IsIdle (Wiping Records) = Unit {0}
IsIdle Ending = Unit {0}
IsIdle _ = ⊥

-- the command is done
abbrev pub IsEnd : Next → Type 0
IsEnd (Step stage) = ⊥
IsEnd (Done reply) = Unit {0}

-- a command that is done leaves room to write the sequence number
abbrev pub CanCount : Spare → Next → Type 0
CanCount spare (Done Reply.Ok) = RoomForAll spare 1 4
CanCount spare next = Unit {0}
