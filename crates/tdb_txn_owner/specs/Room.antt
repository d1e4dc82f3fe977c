-- The room that a turn of the opener aside finds, by its stage.
use Rattle.std.specs.Prelude.{ℕ, ◌≡◌, List, None, Some}
use Rattle.tdb_space.specs.Form.{Form}
use Rattle.tdb_law.specs.Commands.{Turn}
use Rattle.tdb_law.specs.Openers.{Own}
use Rattle.tdb_law.specs.Refusals.{refusal}
use Rattle.tdb_steps.specs.Room.{FullExactly, HasNoRoom}
use Rattle.tdb_txn.specs.Committing.{MayCommit}
use Rattle.tdb_txn_turns.specs.InsideTxn.OwnTxns.{form_of, image_of}
use Rattle.tdb_txn_turns.specs.Room.{CommitFull, FullJustWhere, NeverFull, PrepareFull}
use Rattle.tdb_commands.specs.InLaw.{law_command}
use Rattle.tdb_commands.specs.declared.command.Command.{Command}
use Rattle.tdb_commands.specs.declared.options.Options.{Options}
use Rattle.tdb_txn_owner.specs.declared.open_txn.OpenTxn.{OpenTxn}
use Rattle.tdb_txn_owner.specs.declared.stage.Stage.{Stage}
use Rattle.tdb_txn_owner.specs.declared.stage.Stage.TheVariants as At
use Rattle.tdb_txn_owner.specs.Given.{IsMapped}
use Rattle.tdb_txn_owner.specs.Open.{HasOpen}
use Rattle.tdb_txn_owner.specs.Stages.{Known}

-- Over a file with these bytes a command on the map ends with Full exactly where the transaction's image has no room.
abbrev pub FullInside : OpenTxn → List ℕ → ℕ → Command → Turn → Type 0
FullInside t base limit command turn = MayCommit t.own.txn base → IsMapped command → FullExactly (form_of t.own) (image_of t.own base) limit (law_command command) turn

-- so where the opener's own state doesn't refuse it
abbrev pub GrantedFull : Options → OpenTxn → List ℕ → Command → Turn → Type 0
GrantedFull o t base command turn = (x : Own) → HasOpen o t base x → refusal (form_of t.own) (law_command command) x ≡ None → FullInside t base o.limit command turn

-- the opener's own state doesn't refuse the command, and the image has no room for what it stores
pub record GrantedLacks (f : Form) (img : List ℕ) (limit : ℕ) (command : Command) (x : Own) (len need : ℕ) : Type 0 where
  pub granted : refusal f (law_command command) x ≡ None
  pub lacks : HasNoRoom f img limit (law_command command) len need

-- A turn from a stage ends with Full exactly so. Inside its transaction the image of that has no room for what the
-- command stores; in a Commit and a Prepare the plan has none in the file; at the other stages no turn ends so.
abbrev pub StageFull : Form → ℕ → Stage → Known → Own → Turn → Type 0
StageFull f limit (At.Open txn (Some command)) k x turn = FullJustWhere (GrantedLacks f k.image limit command x) turn
StageFull f limit (At.Committing c) k x turn = CommitFull c limit k.file turn
StageFull f limit (At.Preparing p) k x turn = PrepareFull p.stage limit k.file turn
StageFull f limit stage k x turn = NeverFull turn
