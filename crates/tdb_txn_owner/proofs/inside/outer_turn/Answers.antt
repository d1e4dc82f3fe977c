-- Each command is what takes its turn.
use Rattle.std.proofs.Common.{Some, sym, subst, IfOk}
use Rattle.tdb_disk.specs.Stop.{LeavesOnly}
use Rattle.tdb_space.specs.Form.{form_in}
use Rattle.tdb_space.specs.Undoing.{Reopens}
use Rattle.tdb_txn_owner.specs.declared.stage.Stage.TheVariants as Stage
use Rattle.tdb_txn_owner.specs.Stages.{KnowsFile}
use Rattle.tdb_txn_owner.specs.Wents.{TurnsFrom}
use Rattle.tdb_txn_owner.proofs.OpenEnds.{open_stops}
use Rattle.tdb_txn_owner.proofs.Opened.{stays_outer, weaker}
use Rattle.tdb_txn_owner.specs.Wanting.{RecordsGo}
use Rattle.tdb_txn_owner.specs.Given.{IsMapped}
use Rattle.tdb_txn_owner.proofs.Room.{every}
use Rattle.tdb_txn_owner.proofs.inside.outer_turn.Goals as goal

pub returns-in-Close-clause-turned : goal.returns-in-Close-clause-turned
returns-in-Close-clause-turned g c told =
    let a = c.args in
    let f = form_in a.header.now in
    let h = g.D.Disk.history a.d.now in
    subst (λ k. TurnsFrom f a.options.now a.owner a.locks.now c.close_turn.new.locks (Stage.Open a.txn (Some k)) c.close_turn.result h h) (sym c.in-Close.is) (c.close_turn.ensures.turned f a.options.now h)

pub returns-in-Close-clause-stops : goal.returns-in-Close-clause-stops
returns-in-Close-clause-stops g c told k K = open_stops (form_in c.args.header.now) (g.D.Disk.history c.args.d.now) c.args.txn c.args.command k K

pub returns-in-Cancel-clause-turned : goal.returns-in-Cancel-clause-turned
returns-in-Cancel-clause-turned g c told =
    let a = c.args in
    let f = form_in a.header.now in
    let h = g.D.Disk.history a.d.now in
    subst (λ k. TurnsFrom f a.options.now a.owner a.locks.now c.cancel_turn.new.locks (Stage.Open a.txn (Some k)) c.cancel_turn.result h h) (sym c.in-Cancel.is) (c.cancel_turn.ensures.turned f a.options.now h)

pub returns-in-Cancel-clause-stops : goal.returns-in-Cancel-clause-stops
returns-in-Cancel-clause-stops g c told k K = open_stops (form_in c.args.header.now) (g.D.Disk.history c.args.d.now) c.args.txn c.args.command k K

pub returns-in-Commit-clause-turned : goal.returns-in-Commit-clause-turned
returns-in-Commit-clause-turned g c =
    let a = c.args in
    let f = form_in a.header.now in
    let h = g.D.Disk.history a.d.now in
    let new = g.D.Disk.history c.commit_outer.new.d in
    weaker c.commit_outer.result _ _
    (λ went turned told. subst (λ k. TurnsFrom f a.options.now a.owner a.locks.now c.commit_outer.new.locks (Stage.Open a.txn (Some k)) went h new) (sym c.in-Commit.is) (turned told f a.options.now))
    c.commit_outer.ensures.turned

pub returns-in-Commit-clause-stops : goal.returns-in-Commit-clause-stops
returns-in-Commit-clause-stops g c told k K =
    let f = form_in c.args.header.now in
    let h = g.D.Disk.history c.args.d.now in
    c.commit_outer.ensures.stops told f k (subst (λ e. KnowsFile f (Stage.Open c.args.txn (Some e)) h k) c.in-Commit.is K)

pub returns-in-Prepare-clause-turned : goal.returns-in-Prepare-clause-turned
returns-in-Prepare-clause-turned g c =
    let a = c.args in
    let f = form_in a.header.now in
    let h = g.D.Disk.history a.d.now in
    let new = g.D.Disk.history c.prepare_outer.new.d in
    weaker c.prepare_outer.result _ _
    (λ went turned told. subst (λ k. TurnsFrom f a.options.now a.owner a.locks.now c.prepare_outer.new.locks (Stage.Open a.txn (Some k)) went h new) (sym c.in-Prepare.is) (turned told f a.options.now))
    c.prepare_outer.ensures.turned

pub returns-in-Prepare-clause-stops : goal.returns-in-Prepare-clause-stops
returns-in-Prepare-clause-stops g c told k K =
    let f = form_in c.args.header.now in
    let h = g.D.Disk.history c.args.d.now in
    c.prepare_outer.ensures.stops told f k (subst (λ e. KnowsFile f (Stage.Open c.args.txn (Some e)) h k) c.in-Prepare.is K)

pub returns-in_default-clause-turned : goal.returns-in_default-clause-turned
returns-in_default-clause-turned g c =
    let a = c.args in weaker c.stay_turn.result _ _ (λ went turned told. turned told a.owner a.locks.now) c.stay_turn.ensures.turned

pub returns-in_default-clause-stops : goal.returns-in_default-clause-stops
returns-in_default-clause-stops g c told k K =
    let f = form_in c.args.header.now in
    let h = g.D.Disk.history c.args.d.now in
    subst (λ new. LeavesOnly h new (Reopens k.file)) (sym c.stay_turn.ensures.history) (open_stops f h c.args.txn c.args.command k K)

pub stay_turn-requires-clause-inside : goal.stay_turn-requires-clause-inside
stay_turn-requires-clause-inside g c =
    let d = c.in_default in stays_outer c.args.command _ d.not-Close d.not-Cancel d.not-Commit d.not-Prepare c.requires.fits.1.1

pub returns-in-Commit-clause-records : goal.returns-in-Commit-clause-records
returns-in-Commit-clause-records g c =
    subst (λ k. IfOk c.commit_outer.result (λ went. RecordsGo (Stage.Open c.args.txn (Some k)) went.turn went.stage)) (sym c.in-Commit.is) c.commit_outer.ensures.records

pub returns-in-Prepare-clause-records : goal.returns-in-Prepare-clause-records
returns-in-Prepare-clause-records g c =
    subst (λ k. IfOk c.prepare_outer.result (λ went. RecordsGo (Stage.Open c.args.txn (Some k)) went.turn went.stage)) (sym c.in-Prepare.is) c.prepare_outer.ensures.records

-- Full, of a command on the map
pub returns-in-Close-clause-full : goal.returns-in-Close-clause-full
returns-in-Close-clause-full g c told x H R M mapped = absurd (subst IsMapped c.in-Close.is mapped)

pub returns-in-Cancel-clause-full : goal.returns-in-Cancel-clause-full
returns-in-Cancel-clause-full g c told x H R M mapped = absurd (subst IsMapped c.in-Cancel.is mapped)

pub returns-in-Commit-clause-full : goal.returns-in-Commit-clause-full
returns-in-Commit-clause-full g c = every c.commit_outer.result _ (λ went told x H R M mapped. absurd (subst IsMapped c.in-Commit.is mapped))

pub returns-in-Prepare-clause-full : goal.returns-in-Prepare-clause-full
returns-in-Prepare-clause-full g c = every c.prepare_outer.result _ (λ went told x H R M mapped. absurd (subst IsMapped c.in-Prepare.is mapped))
