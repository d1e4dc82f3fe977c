-- The turns of this crate are those of a world's rows: what a world says that the opener holds, and which turns it
-- allows.
use Rattle.std.specs.Prelude.{ℕ, ◌≡◌, ◌≤◌, max, true, false, None, Some}
use Rattle.tdb_space.specs.Form.{Form}
use Rattle.tdb_law.specs.Commands.{GroupCommand}
use Rattle.tdb_law.specs.Commands.GroupCommand.{Start, Commit, Prepare}
use Rattle.tdb_law.specs.Commands.Command.{OnGroup}
use Rattle.tdb_law.specs.Ends.{IsRow}
use Rattle.tdb_law.specs.Held.{holding, kept, locked, locked_next, txn_held, wanted}
use Rattle.tdb_law.specs.Openers.{Map, Own, Spot, Txn, View}
use Rattle.tdb_law.specs.Outcomes.{begun_txn}
use Rattle.tdb_law.specs.Refusals.{refusal}
use Rattle.tdb_law.specs.Rows.{commit_locks, commits_in, plans_in, start_locks}
use Rattle.tdb_txn_turns.specs.Committings.{commit_steps, commit_turn, CommitLeads}
use Rattle.tdb_txn_turns.specs.Finishes.{finish_steps, finish_turn, FinishLeads}
use Rattle.tdb_txn_turns.specs.Prepares.{prepare_steps, prepare_turn, start_held, PrepareLeads}
use Rattle.tdb_txn_turns.specs.Starts.{start_steps, start_turn, StartLeads}
use Rattle.tdb_txn_turns.specs.declared.committing.Committing.{Committing}
use Rattle.tdb_txn_turns.specs.declared.committing.CommitTurn.{CommitTurn}
use Rattle.tdb_txn_turns.specs.declared.committing.Committing.TheVariants as Commits
use Rattle.tdb_txn_turns.specs.declared.finishing.Finishing.{Finishing}
use Rattle.tdb_txn_turns.specs.declared.finishing.FinishTurn.{FinishTurn}
use Rattle.tdb_txn_turns.specs.declared.preparing.Preparing.{Preparing}
use Rattle.tdb_txn_turns.specs.declared.preparing.PrepareStage.{PrepareStage}
use Rattle.tdb_txn_turns.specs.declared.preparing.PrepareStage.TheVariants.{Unchanged}
use Rattle.tdb_txn_turns.specs.declared.preparing.PrepareTurn.{PrepareTurn}
use Rattle.tdb_txn_turns.specs.declared.starting.Starting.{Starting}
use Rattle.tdb_txn_turns.specs.declared.starting.StartTurn.{StartTurn}

-- An opener without a transaction holds, with a Start that isn't refused, what its row has locked beside what it keeps,
-- and its next turn wants what the row wants. The transaction that has begun keeps the locks of the row.
abbrev pub StartHolds : Type 0
StartHolds =
    (f : Form) (x : Own) (a : Spot) (v : View) (n b : ℕ) → refusal f (OnGroup Start) x ≡ None → x.txn ≡ None
    → (holding f x a (Some (record { command = OnGroup Start; steps = n })) b ≡ max (locked start_locks n b) (kept f x a b)) × (wanted f (OnGroup Start) x a v n b ≡ locked_next start_locks n b)

abbrev pub StartKeeps : Type 0
StartKeeps = (f : Form) (x : Own) (a : Spot) (m : Map) (b : ℕ) → kept f (record x { txn = Some (begun_txn x m) }) a b ≡ locked start_locks 2 b

-- a command that commits or prepares
pub data Ends : GroupCommand → Type 0 where
  commits : Ends Commit
  prepares : Ends Prepare

-- With a Commit or a Prepare of a transaction that has the change to plan, it holds what the row has locked beside the
-- locks of its Start. The transaction that is prepared keeps both.
abbrev pub CommitHolds : Type 0
CommitHolds =
    (f : Form) (x : Own) (t : Txn) (a : Spot) (v : View) (g : GroupCommand) (n b : ℕ) → Ends g → refusal f (OnGroup g) x ≡ None → x.txn ≡ Some t → plans_in t ≡ true
    → (holding f x a (Some (record { command = OnGroup g; steps = n })) b ≡ max (locked (commit_locks t.numbered) n b) (start_held b)) × (wanted f (OnGroup g) x a v n b ≡ locked_next (commit_locks t.numbered) n b)

abbrev pub PrepareKeeps : Type 0
PrepareKeeps = (f : Form) (x : Own) (t : Txn) (a : Spot) (n b : ℕ) → kept f (record x { txn = Some (record t { prepared = Some n }) }) a b ≡ max (locked (commit_locks t.numbered) n b) (start_held b)

-- With a Commit of a prepared transaction it holds what that keeps, and wants nothing.
abbrev pub FinishHolds : Type 0
FinishHolds =
    (f : Form) (x : Own) (t : Txn) (a : Spot) (v : View) (steps n b : ℕ) → x.txn ≡ Some t → t.prepared ≡ Some steps
    → (holding f x a (Some (record { command = OnGroup Commit; steps = n })) b ≡ txn_held t b) × (wanted f (OnGroup Commit) x a v n b ≡ 0)

-- each turn is one that the row of its command allows
abbrev pub StartRow : Type 0
StartRow =
    (f g : Form) (x : Own) (len : ℕ) (s : Starting) (turn : StartTurn) → refusal f (OnGroup Start) x ≡ None → x.txn ≡ None → StartLeads g len s turn
    → IsRow f (OnGroup Start) x (start_steps s) (start_turn turn)

-- the transaction has a change to plan, unless the machine knows of none
abbrev pub HasPlan : Txn → PrepareStage → Type 0
HasPlan t Unchanged = plans_in t ≡ false
HasPlan t _ = plans_in t ≡ true

abbrev pub PrepareRow : Type 0
PrepareRow =
    (f : Form) (x : Own) (t : Txn) (p : Preparing) (turn : PrepareTurn) → refusal f (OnGroup Prepare) x ≡ None → x.txn ≡ Some t → HasPlan t p.stage → PrepareLeads p turn
    → IsRow f (OnGroup Prepare) x (prepare_steps p) (prepare_turn turn)

-- the same of a Commit, whose transaction isn't prepared
abbrev pub HasChange : Txn → Committing → Type 0
HasChange t (Commits.Preparing p) = HasPlan t p.stage
HasChange t (Commits.Finishing s) = plans_in t ≡ true

abbrev pub CommitRow : Type 0
CommitRow =
    (f : Form) (x : Own) (t : Txn) (c : Committing) (turn : CommitTurn) → refusal f (OnGroup Commit) x ≡ None → x.txn ≡ Some t → t.prepared ≡ None → HasChange t c → CommitLeads c turn
    → IsRow f (OnGroup Commit) x (commit_steps c) (commit_turn turn)

-- and of a Commit after a Prepare that opened the gate
abbrev pub FinishRow : Type 0
FinishRow =
    (f : Form) (x : Own) (t : Txn) (s : Finishing) (turn : FinishTurn) (steps : ℕ) → refusal f (OnGroup Commit) x ≡ None → x.txn ≡ Some t → t.prepared ≡ Some steps → commits_in t ≡ true → 4 ≤ steps
    → FinishLeads s turn → IsRow f (OnGroup Commit) x (finish_steps s) (finish_turn turn)
