-- The turn is the opener's in the view of the file.
use Rattle.std.proofs.Common.{ℕ, List, sym, ap, subst}
use Rattle.std.specs.Prelude.{Result, IfOk, IsTrue}
use Rattle.tdb_disk.specs.History.{seen}
use Rattle.tdb_locks.specs.declared.turn.Turn.{Turn}
use Rattle.tdb_law.specs.OneAside.Sides.{Past, Side}
use Rattle.tdb_commands.specs.InLaw.{law_opener, law_turn}
use Rattle.tdb_openers.specs.ShutOut.{HeadsShow, IsTurnBeside, ShutsOut}
use Rattle.tdb_openers.specs.Worlds.{World, law_of_task, IsBusy, Stands}
use Rattle.tdb_openers.specs.declared.job.Task.{Task}
use Rattle.tdb_openers.specs.declared.opener.Opener.{Opener}
use Rattle.tdb_world.specs.Whole.{Whole}
use Rattle.tdb_world.proofs.all_openers.AllOpeners.passing_turn.Goals as goal

-- a turn beside the one aside, of openers that are these, in a file of these bytes
abbrev Passes : {E : Type 0} → Result Turn E → Type 0 → World → List ℕ → ℕ → ℕ → World → Type 0
Passes r tells z a who holder v = IfOk r (λ turn. tells → (img : List ℕ) (past : Past) (s : Side) (x : Opener) (t : Task) → IsBusy z who x t → ShutsOut z img past s holder → HeadsShow z img a s
    → IsTurnBeside z v img past s (law_opener who) (law_of_task t) (law_turn turn))

pub returns-clause-openers : goal.returns-clause-openers
returns-clause-openers g c img size W = c.move_shut_out.ensures.stands img size (subst (λ z. Stands z img size) (sym (ap (λ (z : Whole). z.openers) c.self.view_is)) W)

pub returns-clause-turned : goal.returns-clause-turned
returns-clause-turned g c =
    let is = ap (λ (z : Whole). z.openers) c.self.view_is in
    let a = ap (λ d. seen (g.D.Disk.history d)) c.new-view.ensures.disk in
    subst (λ z. Passes c.move_shut_out.result (IsTrue g.D.Disk.tells) z (seen (g.D.Disk.history c.args.d.now)) c.args.who c.args.holder c.move_shut_out.new.self) is
    (subst (λ y. Passes c.move_shut_out.result (IsTrue g.D.Disk.tells) c.self.inside.openers y c.args.who c.args.holder c.move_shut_out.new.self) a c.move_shut_out.ensures.turned)
