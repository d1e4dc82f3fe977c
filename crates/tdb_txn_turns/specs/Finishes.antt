-- The turns that end a commit whose gate is open: the last four of a Commit, and those of a Commit after a Prepare.
use Rattle.std.specs.Prelude.{ℕ, ◌+◌, ◌≡◌, ◌⊎◌, List, []}
use Rattle.tdb_disk.specs.Count.{RoseBy}
use Rattle.tdb_disk.specs.History.{History, seen}
use Rattle.tdb_disk.specs.Stop.{Quiet}
use Rattle.tdb_space.specs.Accepted.{AcceptWith}
use Rattle.tdb_space.specs.Form.{form_of}
use Rattle.tdb_space.specs.Undoing.{Reopens}
use Rattle.tdb_law.specs.Commands.{Reply, Turn}
use Rattle.tdb_txn.specs.Commit.{IsPrepared, IsApplied, IsSettled}
use Rattle.tdb_txn.specs.CommitStates.{prepared_plan, applied_plan, settled_plan, plan_length}
use Rattle.tdb_txn_turns.specs.Commits.{Carries, OpensAs}
use Rattle.tdb_txn_turns.specs.declared.finishing.Finishing.{Finishing}
use Rattle.tdb_txn_turns.specs.declared.finishing.Finishing.TheVariants.{Open, Applied, Settled, Shut}
use Rattle.tdb_txn_turns.specs.declared.finishing.FinishTurn.{FinishTurn}
use Rattle.tdb_txn_turns.specs.declared.finishing.FinishTurn.TheVariants.{Step, Done}

-- how many steps it has had since the gate was opened
abbrev pub finish_steps : Finishing → ℕ
finish_steps (Open state) = 0
finish_steps (Applied state) = 1
finish_steps (Settled state) = 2
finish_steps Shut = 3

-- a turn of it, as a turn of a world
abbrev pub finish_turn : FinishTurn → Turn
finish_turn (Step next) = Turn.Step
finish_turn Done = Turn.Ends Reply.Done

-- what a stage asks of the file's length
abbrev pub FinishFits : Finishing → ℕ → Type 0
FinishFits (Open state) size = size ≡ plan_length (prepared_plan state)
FinishFits (Applied state) size = size ≡ plan_length (applied_plan state)
FinishFits (Settled state) size = size ≡ plan_length (settled_plan state)
FinishFits Shut size = Unit {0}

-- The commit is done but for its end: a stop leaves the file as it is, and it is accepted, in the form of the
-- transaction's image b, and opens to the map of that.
pub record IsShut (h : History) (b : List ℕ) : Type 0 where
  pub quiet : Quiet h
  pub accepted : AcceptWith (form_of b) (seen h) []
  pub opens : OpensAs b (seen h)

-- what is known at each stage, of image r of the file before the commit and image b of the transaction
abbrev pub KnowsFinish : Finishing → History → List ℕ → List ℕ → Type 0
KnowsFinish (Open state) h r b = Carries (IsPrepared (prepared_plan state)) h r b
KnowsFinish (Applied state) h r b = Carries (IsApplied (applied_plan state)) h r b
KnowsFinish (Settled state) h r b = Carries (IsSettled (settled_plan state)) h r b
KnowsFinish Shut h r b = IsShut h b

-- What a stop in the turn from a stage may leave: what opens to the map before; in the turn that shuts the gate also
-- what opens to that of the transaction; and from then on that alone.
abbrev pub MayLeave : Finishing → List ℕ → List ℕ → List ℕ → Type 0
MayLeave (Open state) r b c = Reopens r c
MayLeave (Applied state) r b c = Reopens r c
MayLeave (Settled state) r b c = Reopens r c ⊎ OpensAs b c
MayLeave Shut r b c = OpensAs b c

-- the turns in their order
abbrev pub FinishLeads : Finishing → FinishTurn → Type 0
FinishLeads s (Step next) = finish_steps next ≡ finish_steps s + 1
FinishLeads s Done = s ≡ Shut

-- what a turn does to the file; the last makes no call
abbrev pub FinishMade : List ℕ → List ℕ → History → History → FinishTurn → Type 0
FinishMade r b old new (Step next) = KnowsFinish next new r b
FinishMade r b old new Done = (new ≡ old) × IsShut new b

-- what it leaves of the file's length
abbrev pub FinishLeaves : ℕ → FinishTurn → Type 0
FinishLeaves size (Step next) = FinishFits next size
FinishLeaves size Done = Unit {0}

-- how many syncs the turn from a stage makes
abbrev pub FinishSyncs : Finishing → ℕ → ℕ → Type 0
FinishSyncs (Open state) before now = now ≡ before
FinishSyncs (Applied state) before now = RoseBy 1 before now
FinishSyncs (Settled state) before now = RoseBy 1 before now
FinishSyncs Shut before now = now ≡ before
