-- In which order the turns of a command come, whatever the bytes of the file are.
use Rattle.std.specs.Prelude.{ℕ, ◌≡◌, ◌⊎◌}
use Rattle.tdb_locks.specs.declared.turn.Reply.{Reply}
use Rattle.tdb_steps.specs.declared.stage.Stage.{Stage}
use Rattle.tdb_steps.specs.declared.stage.Stage.TheVariants.{Begun, Chained, Looked, Listed, Taken, Changed, Wiping, Ending}
use Rattle.tdb_steps.specs.declared.stage.WipeStage.TheVariants.{Records, FreeList}
use Rattle.tdb_steps.specs.declared.stage.Next.{Next}
use Rattle.tdb_steps.specs.declared.stage.Next.TheVariants.{Step, Done}
use Rattle.tdb_steps.specs.declared.plain.Plain.{Plain}
use Rattle.tdb_steps.specs.declared.plain.Plain.TheVariants.{Fetch, Has, Store, Append, Delete, Wipe}

-- a reply that doesn't say that space is wanting
abbrev pub NotFull : Reply → Type 0
NotFull (Reply.Full len need) = ⊥
NotFull reply = Unit {0}

-- yes or no
abbrev pub IsYesOrNo : Reply → Type 0
IsYesOrNo Reply.Yes = Unit {0}
IsYesOrNo Reply.No = Unit {0}
IsYesOrNo reply = ⊥

-- where a turn ends the question whether a key is there, it says yes or no, for which no memory is taken
abbrev pub AnswersHas : Next → Type 0
AnswersHas (Step stage) = Unit {0}
AnswersHas (Done reply) = IsYesOrNo reply

-- a look of a command that only looks ends it
abbrev pub LookEnds : Next → Type 0
LookEnds (Step stage) = ⊥
LookEnds (Done reply) = NotFull reply

-- a look of a change goes on with what it found, or ends
abbrev pub LooksOn : Next → Type 0
LooksOn (Step (Looked found)) = Unit {0}
LooksOn (Step stage) = ⊥
LooksOn (Done reply) = NotFull reply

-- a record is taken, or space or memory is wanting
abbrev pub TakesOn : Next → Type 0
TakesOn (Step (Taken found hand)) = Unit {0}
TakesOn (Step stage) = ⊥
TakesOn (Done (Reply.Full len need)) = Unit {0}
TakesOn (Done Reply.Memory) = Unit {0}
TakesOn (Done reply) = ⊥

-- a record is linked, and an old one is to be given back or not
abbrev pub LinksOn : Next → Type 0
LinksOn (Step (Changed hand)) = Unit {0}
LinksOn (Step Ending) = Unit {0}
LinksOn next = ⊥

-- a record is taken out of its chain, or memory is wanting
abbrev pub UnlinksOn : Next → Type 0
UnlinksOn (Step (Changed hand)) = Unit {0}
UnlinksOn (Done Reply.Memory) = Unit {0}
UnlinksOn next = ⊥

abbrev pub LookOrder : Stage → Next → Type 0
LookOrder Begun next = next ≡ Step Chained
LookOrder Chained next = LookEnds next
LookOrder stage next = ⊥

abbrev pub StoreOrder : Stage → Next → Type 0
StoreOrder Begun next = next ≡ Step Chained
StoreOrder Chained next = LooksOn next
StoreOrder (Looked found) next = next ≡ Step (Listed found)
StoreOrder (Listed found) next = TakesOn next
StoreOrder (Taken found hand) next = LinksOn next
StoreOrder (Changed hand) next = next ≡ Step Ending
StoreOrder (Wiping stage) next = ⊥
StoreOrder Ending next = next ≡ Done Reply.Ok

abbrev pub DeleteOrder : Stage → Next → Type 0
DeleteOrder Begun next = next ≡ Step Chained
DeleteOrder Chained next = LooksOn next
DeleteOrder (Looked found) next = next ≡ Step (Listed found)
DeleteOrder (Listed found) next = UnlinksOn next
DeleteOrder (Taken found hand) next = ⊥
DeleteOrder (Changed hand) next = next ≡ Step Ending
DeleteOrder (Wiping stage) next = ⊥
DeleteOrder Ending next = next ≡ Done Reply.Ok

-- a wipe has both locks before it wipes, or finds that memory is wanting
abbrev pub WipeOrder : Stage → Next → Type 0
WipeOrder Begun next = next ≡ Step (Wiping Records)
WipeOrder (Wiping Records) next = next ≡ Step (Wiping FreeList)
WipeOrder (Wiping FreeList) next = (next ≡ Step Ending) ⊎ (next ≡ Done Reply.Memory)
WipeOrder Ending next = next ≡ Done Reply.Ok
WipeOrder stage next = ⊥

abbrev pub InOrder : Plain → Stage → Next → Type 0
InOrder (Fetch key) stage next = LookOrder stage next
InOrder (Has key) stage next = LookOrder stage next
InOrder (Store key value flag) stage next = StoreOrder stage next
InOrder (Append key value) stage next = StoreOrder stage next
InOrder (Delete key) stage next = DeleteOrder stage next
InOrder Wipe stage next = WipeOrder stage next

-- How many steps a command has had at each stage: one for each turn before, and an old record that was given back is a
-- step more.
abbrev pub LookAfter : Stage → ℕ → Type 0
LookAfter Begun n = n ≡ 0
LookAfter Chained n = n ≡ 1
LookAfter stage n = ⊥

abbrev pub StoreAfter : Stage → ℕ → Type 0
StoreAfter Begun n = n ≡ 0
StoreAfter Chained n = n ≡ 1
StoreAfter (Looked found) n = n ≡ 2
StoreAfter (Listed found) n = n ≡ 3
StoreAfter (Taken found hand) n = n ≡ 4
StoreAfter (Changed hand) n = n ≡ 5
StoreAfter (Wiping stage) n = ⊥
StoreAfter Ending n = (n ≡ 5) ⊎ (n ≡ 6)

abbrev pub DeleteAfter : Stage → ℕ → Type 0
DeleteAfter Begun n = n ≡ 0
DeleteAfter Chained n = n ≡ 1
DeleteAfter (Looked found) n = n ≡ 2
DeleteAfter (Listed found) n = n ≡ 3
DeleteAfter (Taken found hand) n = ⊥
DeleteAfter (Changed hand) n = n ≡ 4
DeleteAfter (Wiping stage) n = ⊥
DeleteAfter Ending n = n ≡ 5

abbrev pub WipeAfter : Stage → ℕ → Type 0
WipeAfter Begun n = n ≡ 0
WipeAfter (Wiping Records) n = n ≡ 1
WipeAfter (Wiping FreeList) n = n ≡ 2
WipeAfter Ending n = n ≡ 3
WipeAfter stage n = ⊥

abbrev pub IsAfter : Plain → Stage → ℕ → Type 0
IsAfter (Fetch key) stage n = LookAfter stage n
IsAfter (Has key) stage n = LookAfter stage n
IsAfter (Store key value flag) stage n = StoreAfter stage n
IsAfter (Append key value) stage n = StoreAfter stage n
IsAfter (Delete key) stage n = DeleteAfter stage n
IsAfter Wipe stage n = WipeAfter stage n
