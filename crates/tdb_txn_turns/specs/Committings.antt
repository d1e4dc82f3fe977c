-- The turns of an outer Commit: those of a Prepare, and then those that end it.
use Rattle.std.specs.Prelude.{ℕ, ◌+◌, ◌≡◌, ◌<◌, List, Bool}
use Rattle.tdb_disk.specs.History.{History}
use Rattle.tdb_space.specs.Undoing.{Reopens}
use Rattle.tdb_law.specs.Commands.{Reply, Turn}
use Rattle.tdb_law.specs.Rows.{Lock, commit_locks}
use Rattle.tdb_txn_turns.specs.Finishes.{finish_steps, FinishFits, FinishSyncs, IsShut, KnowsFinish, MayLeave}
use Rattle.tdb_txn_turns.specs.Prepares.{prepare_steps, prepare_row, IsPlanning, KnowsStage, StageFits, StageSyncs}
use Rattle.tdb_txn_turns.specs.declared.committing.Committing.{Committing}
use Rattle.tdb_txn_turns.specs.declared.committing.Committing.TheVariants.{Preparing, Finishing}
use Rattle.tdb_txn_turns.specs.declared.committing.CommitTurn.{CommitTurn}
use Rattle.tdb_txn_turns.specs.declared.committing.CommitTurn.TheVariants.{Step, Blocked, Full, Memory, Done}
use Rattle.tdb_txn_turns.specs.declared.finishing.Finishing.TheVariants.{Open, Shut}
use Rattle.tdb_txn_turns.specs.declared.preparing.PrepareStage.TheVariants.{Unchanged}
use Rattle.tdb_txn_turns.specs.declared.preparing.PrepareTurn.{PrepareTurn}
use Rattle.tdb_txn_turns.specs.declared.preparing.PrepareTurn.TheVariants as To

-- how many steps a Commit has had
abbrev pub commit_steps : Committing → ℕ
commit_steps (Preparing p) = prepare_steps p
commit_steps (Finishing s) = 5 + finish_steps s

-- a turn of it, as a turn of a world
abbrev pub commit_turn : CommitTurn → Turn
commit_turn (Step next) = Turn.Step
commit_turn (Blocked owner byte again) = Turn.Blocked owner byte
commit_turn (Full len need) = Turn.Ends (Reply.Full len need)
commit_turn Memory = Turn.Ends Reply.Memory
commit_turn Done = Turn.Ends Reply.Done

-- what a turn of a Prepare makes of a Commit: where that is done the gate is open, and where it finds nothing the
-- Commit is done
abbrev pub commit_after : PrepareTurn → CommitTurn
commit_after (To.Step next) = Step (Preparing next)
commit_after (To.Blocked owner byte again) = Blocked owner byte (Preparing again)
commit_after To.Nothing = Done
commit_after (To.Full len need) = Full len need
commit_after To.Memory = Memory
commit_after (To.Done state) = Step (Finishing (Open state))

-- the turn opened the gate
abbrev pub IsOpened : PrepareTurn → Type 0
IsOpened (To.Done state) = Unit {0}
IsOpened _ = ⊥

-- whether its changes raise the sequence number, as far as it knows that still
abbrev pub IsNumbered : Committing → Bool → Type 0
IsNumbered (Preparing p) numbered = p.numbered ≡ numbered
IsNumbered (Finishing s) numbered = Unit {0}

-- the locks of its row
abbrev pub commit_row : Committing → Bool → List Lock
commit_row (Preparing p) numbered = prepare_row p
commit_row (Finishing s) numbered = commit_locks numbered

-- what it asks of the file's length
abbrev pub CommitFits : Committing → ℕ → ℕ → Type 0
CommitFits (Preparing p) size limit = StageFits p.stage size limit
CommitFits (Finishing s) size limit = FinishFits s size

-- what it knows, of image r of the file before the Commit and image b of the transaction
abbrev pub KnowsCommit : Committing → History → List ℕ → List ℕ → Type 0
KnowsCommit (Preparing p) h r b = KnowsStage p.stage h r b
KnowsCommit (Finishing s) h r b = KnowsFinish s h r b

-- what a stop in its next turn may leave
abbrev pub CommitMayLeave : Committing → List ℕ → List ℕ → List ℕ → Type 0
CommitMayLeave (Preparing p) r b c = Reopens r c
CommitMayLeave (Finishing s) r b c = MayLeave s r b c

-- it has come to its end: nothing was changed in its transaction, or the plan found nothing to commit, or the gate is
-- shut
pub data CanEnd (c : Committing) : Type 0 where
  unchanged : (numbered : Bool) → c ≡ Preparing (record { numbered = numbered; stage = Unchanged }) → CanEnd c
  planned : commit_steps c ≡ 2 → CanEnd c
  shut : c ≡ Finishing Shut → CanEnd c

-- it may have more than one turn
abbrev pub MayGoOn : Committing → Type 0
MayGoOn (Preparing p) = IsPlanning p.stage
MayGoOn (Finishing s) = Unit {0}

-- the turns in their order; whether its changes raise the sequence number stays
abbrev pub CommitLeads : Committing → CommitTurn → Type 0
CommitLeads c (Step next) = MayGoOn c × MayGoOn next × (commit_steps next ≡ commit_steps c + 1) × ((numbered : Bool) → IsNumbered c numbered → IsNumbered next numbered)
CommitLeads c (Blocked owner byte again) = MayGoOn c × (commit_steps c < 2) × (again ≡ c)
CommitLeads c (Full len need) = MayGoOn c × (commit_steps c ≡ 2)
CommitLeads c Memory = MayGoOn c × (commit_steps c < 3)
CommitLeads c Done = CanEnd c

-- What a turn does to the file. It is done with no call, where the file opens to the map of image b already: that is r
-- where nothing was to be committed.
abbrev pub CommitMade : List ℕ → List ℕ → History → History → Committing → CommitTurn → Type 0
CommitMade r b old new c (Step next) = KnowsCommit next new r b
CommitMade r b old new c (Blocked owner byte again) = new ≡ old
CommitMade r b old new c (Full len need) = new ≡ old
CommitMade r b old new c Memory = new ≡ old
CommitMade r b old new c Done = (new ≡ old) × (commit_steps c ≡ 2 → b ≡ r) × (commit_steps c ≡ 8 → IsShut new b)

-- what it leaves of the file's length
abbrev pub CommitLeaves : ℕ → ℕ → ℕ → CommitTurn → Type 0
CommitLeaves limit before now (Step next) = CommitFits next now limit
CommitLeaves limit before now _ = now ≡ before

-- how many syncs a turn makes
abbrev pub StepSyncs : Committing → ℕ → ℕ → Type 0
StepSyncs (Preparing p) before now = StageSyncs p.stage before now
StepSyncs (Finishing s) before now = FinishSyncs s before now

-- One that ends before the undo area is filled makes none: nothing is to be committed then.
abbrev pub LastSyncs : Committing → ℕ → ℕ → Type 0
LastSyncs (Preparing p) before now = now ≡ before
LastSyncs (Finishing s) before now = FinishSyncs s before now

-- of one that ends without room or memory nothing is said
abbrev pub CommitSyncs : Committing → ℕ → ℕ → CommitTurn → Type 0
CommitSyncs c before now Done = LastSyncs c before now
CommitSyncs c before now (Full len need) = Unit {0}
CommitSyncs c before now Memory = Unit {0}
CommitSyncs c before now _ = StepSyncs c before now
