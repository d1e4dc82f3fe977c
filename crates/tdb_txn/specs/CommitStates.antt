-- What a contract sees of the states of a commit.
use Rattle.std.specs.Prelude.{ℕ}
use Rattle.tdb_txn.specs.declared.planned.Plan.{Plan}
use Rattle.tdb_txn.specs.declared.states.Planned.{Planned}
use Rattle.tdb_txn.specs.declared.states.Filled.{Filled}
use Rattle.tdb_txn.specs.declared.states.Prepared.{Prepared}
use Rattle.tdb_txn.specs.declared.states.Applied.{Applied}
use Rattle.tdb_txn.specs.declared.states.Settled.{Settled}

-- the length of the file while the plan is brought in
abbrev pub plan_length : Plan → ℕ
plan_length plan = plan.file_length

-- the plan of each state
abbrev pub planned_plan : Planned → Plan
planned_plan state = state.plan

abbrev pub filled_plan : Filled → Plan
filled_plan state = state.plan

abbrev pub prepared_plan : Prepared → Plan
prepared_plan state = state.plan

abbrev pub applied_plan : Applied → Plan
applied_plan state = state.plan

abbrev pub settled_plan : Settled → Plan
settled_plan state = state.plan
