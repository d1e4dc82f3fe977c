-- Each command is what takes its turn.
use Rattle.std.proofs.Common.{Some, sym, subst}
use Rattle.tdb_disk.specs.Stop.{LeavesOnly}
use Rattle.tdb_space.specs.Form.{form_in}
use Rattle.tdb_space.specs.Undoing.{Reopens}
use Rattle.tdb_txn_owner.specs.declared.stage.Stage.TheVariants as Stage
use Rattle.tdb_txn_owner.specs.Wents.{TurnsFrom}
use Rattle.tdb_txn_owner.proofs.OpenEnds.{open_stops}
use Rattle.tdb_txn_owner.proofs.Opened.{stays_inner, weaker}
use Rattle.tdb_txn_owner.specs.Given.{IsMapped}
use Rattle.tdb_txn_owner.proofs.inside.inner_turn.Goals as goal

pub returns-in-Close-clause-turned : goal.returns-in-Close-clause-turned
returns-in-Close-clause-turned g c told =
    let a = c.args in
    let f = form_in a.header.now in
    let h = g.D.Disk.history a.d.now in
    subst (λ k. TurnsFrom f a.options.now a.owner a.locks.now c.close_turn.new.locks (Stage.Open a.txn (Some k)) c.close_turn.result h h) (sym c.in-Close.is) (c.close_turn.ensures.turned f a.options.now h)

pub returns-in-Close-clause-stops : goal.returns-in-Close-clause-stops
returns-in-Close-clause-stops g c told k K = open_stops (form_in c.args.header.now) (g.D.Disk.history c.args.d.now) c.args.txn c.args.command k K

pub returns-in_default-clause-turned : goal.returns-in_default-clause-turned
returns-in_default-clause-turned g c =
    let a = c.args in weaker c.stay_turn.result _ _ (λ went turned told. turned told a.owner a.locks.now) c.stay_turn.ensures.turned

pub returns-in_default-clause-stops : goal.returns-in_default-clause-stops
returns-in_default-clause-stops g c told k K =
    let f = form_in c.args.header.now in
    let h = g.D.Disk.history c.args.d.now in
    subst (λ new. LeavesOnly h new (Reopens k.file)) (sym c.stay_turn.ensures.history) (open_stops f h c.args.txn c.args.command k K)

pub stay_turn-requires-clause-inside : goal.stay_turn-requires-clause-inside
stay_turn-requires-clause-inside g c = stays_inner c.args.command _ c.in_default.not-Close c.requires.inner c.requires.fits.1.1

pub returns-in-Close-clause-full : goal.returns-in-Close-clause-full
returns-in-Close-clause-full g c told x H R M mapped = absurd (subst IsMapped c.in-Close.is mapped)
