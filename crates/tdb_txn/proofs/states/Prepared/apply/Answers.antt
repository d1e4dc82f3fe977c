use Rattle.std.proofs.Common.{refl}
use Rattle.tdb_disk.proofs.Runs.{leaves_join, leaves_now}
use Rattle.tdb_space.specs.Scheme.{Within}
use Rattle.tdb_txn.specs.Commit.{scheme_of, opened}
use Rattle.tdb_txn.proofs.StatesKept.{within_stops, prepared_within, runs_clear, tail_may, run_bytes, tail_bytes, apply_done}
use Rattle.tdb_txn.proofs.states.Prepared.apply.Goals as goal

pub returns-in_err-write_runs-clause-stops : goal.returns-in_err-write_runs-clause-stops
returns-in_err-write_runs-clause-stops g c told a b state =
    let plan = c.args.self.plan in
    let first = g.D.Disk.history c.args.d.now in
    within_stops plan first (g.D.Disk.history c.write_runs.new.d) a b state.brings
    (c.write_runs.ensures.stops told (scheme_of plan) (opened plan a) refl (runs_clear plan a b state.brings) (prepared_within plan first a b state))

pub returns-in_err-write_range-clause-stops : goal.returns-in_err-write_range-clause-stops
returns-in_err-write_range-clause-stops g c told a b state =
    let plan = c.args.self.plan in
    let base = opened plan a in
    let first = g.D.Disk.history c.args.d.now in
    let mid = g.D.Disk.history c.write_runs.new.d in
    let runs = c.write_runs.ensures.stops told (scheme_of plan) base refl (runs_clear plan a b state.brings) (prepared_within plan first a b state) in
    within_stops plan first (g.D.Disk.history c.write_range.new.d) a b state.brings
    (leaves_join first mid (g.D.Disk.history c.write_range.new.d) (Within (scheme_of plan) base) runs
    (c.write_range.ensures.stops told (scheme_of plan) base (tail_may plan a b state.brings) (leaves_now first mid (Within (scheme_of plan) base) runs)))

pub returns-clause-stops : goal.returns-clause-stops
returns-clause-stops g c told a b state =
    let plan = c.args.self.plan in
    let base = opened plan a in
    let first = g.D.Disk.history c.args.d.now in
    let mid = g.D.Disk.history c.write_runs.new.d in
    let runs = c.write_runs.ensures.stops told (scheme_of plan) base refl (runs_clear plan a b state.brings) (prepared_within plan first a b state) in
    within_stops plan first (g.D.Disk.history c.write_range.new.d) a b state.brings
    (leaves_join first mid (g.D.Disk.history c.write_range.new.d) (Within (scheme_of plan) base) runs
    (c.write_range.ensures.stops told (scheme_of plan) base (tail_may plan a b state.brings) (leaves_now first mid (Within (scheme_of plan) base) runs)))

pub returns-clause-applied : goal.returns-clause-applied
returns-clause-applied g c told a b state =
    let plan = c.args.self.plan in
    let base = opened plan a in
    let first = g.D.Disk.history c.args.d.now in
    let mid = g.D.Disk.history c.write_runs.new.d in
    let last = g.D.Disk.history c.write_range.new.d in
    let runs = c.write_runs.ensures.stops told (scheme_of plan) base refl (runs_clear plan a b state.brings) (prepared_within plan first a b state) in
    let left =
    leaves_join first mid last (Within (scheme_of plan) base) runs
    (c.write_range.ensures.stops told (scheme_of plan) base (tail_may plan a b state.brings) (leaves_now first mid (Within (scheme_of plan) base) runs)) in
    let put = c.in_ok-write_runs.ensures.put told b (λ i held. run_bytes plan first a b state i held) in
    apply_done plan first mid last a b state left put (c.in_ok-write_range.ensures.put told b (tail_bytes plan first mid a b state put))
