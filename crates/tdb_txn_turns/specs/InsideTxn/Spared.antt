-- What a command on the map leaves of a cursor that stands on a record: it takes no such record out of its chain.
use Rattle.std.specs.Prelude.{ℕ, ◌≡◌, List, true, Some, Contains}
use Rattle.tdb_space.specs.Form.{Form}
use Rattle.tdb_space.specs.Chain.{Member, chain_of}
use Rattle.tdb_law.specs.Commands.{MapCommand, Reply, Turn}
use Rattle.tdb_law.specs.Commands.Command.{OnMap}
use Rattle.tdb_law.specs.Commands.Turn.{Step, Ends}
use Rattle.tdb_law.specs.Outcomes.{touched}
use Rattle.tdb_law.specs.Walks.{Shift}
use Rattle.tdb_law.specs.Layout.{chains_in, mark_of}
use Rattle.tdb_law.specs.Layout.Place.{on_record}
use Rattle.tdb_steps.specs.declared.plain.Plain.{Plain}
use Rattle.tdb_steps.specs.declared.plain.Plain.TheVariants.{Delete}
use Rattle.tdb_steps.specs.declared.stage.Stage.{Stage}
use Rattle.tdb_steps.specs.declared.stage.Stage.TheVariants.{Looked, Listed, Changed}
use Rattle.tdb_steps.specs.Machines.{Doing}

-- No cursor stands on the record that a command has taken out of its chain, nor on the one that a delete has found and
-- takes out next.
abbrev pub StageSpares : List ℕ → Stage → Plain → Type 0
StageSpares stood_on (Changed hand) command = Contains stood_on hand.0 → ⊥
StageSpares stood_on (Looked (Some place)) (Delete key) = Contains stood_on place.off → ⊥
StageSpares stood_on (Listed (Some place)) (Delete key) = Contains stood_on place.off → ⊥
StageSpares stood_on stage command = Unit {0}

-- so it is after a step
abbrev pub TurnSpares : List ℕ → Doing → Turn → Type 0
TurnSpares stood_on d Step = StageSpares stood_on d.stage d.command
TurnSpares stood_on d turn = Unit {0}

-- A command with this reply leaves a walk that stands on a record, from image a to image b: the record is one of its
-- chain still, and each key that was further on is so still, unless the command is done and touched it.
pub record WalkKept (f : Form) (a b : List ℕ) (chain off : ℕ) (c : MapCommand) (r : Reply) : Type 0 where
  pub member : Member off (chain_of f b chain)
  pub shift : Shift f (λ k. touched (OnMap c) (Ends r) k ≡ true) (mark_of f (chains_in f a) (on_record chain off)) (mark_of f (chains_in f b) (on_record chain off))
