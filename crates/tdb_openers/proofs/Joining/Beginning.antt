-- Commands on a transaction of an opener that has none: but for a Start they are refused.
use Rattle.std.proofs.Common.{◌≡◌, Option, Some, None, refl, sym, ◌∙◌, ap}
use Rattle.std.specs.Option.{option_map}
use Rattle.tdb_space.specs.Form.{Form}
use Rattle.tdb_locks.specs.declared.turn.Reply.{Reply}
use Rattle.tdb_law.specs.Commands.GroupCommand.{Commit, Prepare, Cancel}
use Rattle.tdb_law.specs.Commands.Command.{OnGroup}
use Rattle.tdb_law.specs.Openers.{Own}
use Rattle.tdb_law.specs.Refusals.{Refusal, refusal, says}
use Rattle.tdb_law.specs.Refusals.Refusal.{NoneOpen}
use Rattle.tdb_commands.specs.InLaw.{law_command, law_reply}
use Rattle.tdb_commands.specs.declared.command.Command.{Command}
use Rattle.tdb_commands.specs.declared.command.Command.TheVariants as Given
use Rattle.tdb_openers.specs.Given.{IsServed, IsBeginning}

commit_refused : (f : Form) (x : Own) → x.txn ≡ None → refusal f (OnGroup Commit) x ≡ Some NoneOpen
unfolding refusal
commit_refused f x out = rw out refl

prepare_refused : (f : Form) (x : Own) → x.txn ≡ None → refusal f (OnGroup Prepare) x ≡ Some NoneOpen
unfolding refusal
prepare_refused f x out = rw out refl

cancel_refused : (f : Form) (x : Own) → x.txn ≡ None → refusal f (OnGroup Cancel) x ≡ Some NoneOpen
unfolding refusal
cancel_refused f x out = rw out refl

not_granted : (q : Option Refusal) (why : Refusal) → q ≡ Some why → q ≡ None → ⊥
not_granted q why is none = cc

-- where the code tells no refusal there is none
pub untold : (x : Own) (r : Option Reply) (q : Option Refusal) → r ≡ None → option_map law_reply r ≡ option_map (says x) q → q ≡ None
untold x r None none e = refl
untold x r (Some why) none e = absurd (let bad = ap (option_map law_reply) (sym none) ∙ e in cc bad)

-- so one that is granted, and doesn't begin a transaction, needs none
pub served_granted : (f : Form) (x : Own) (c : Command) → x.txn ≡ None → refusal f (law_command c) x ≡ None → (IsBeginning f x c → ⊥) → IsServed c
served_granted f x Given.Start out granted begun = begun (record { start = refl; granted = granted })
served_granted f x Given.Commit out granted begun = not_granted _ NoneOpen (commit_refused f x out) granted
served_granted f x Given.Prepare out granted begun = not_granted _ NoneOpen (prepare_refused f x out) granted
served_granted f x Given.Cancel out granted begun = not_granted _ NoneOpen (cancel_refused f x out) granted
served_granted f x _ out granted begun = tt
