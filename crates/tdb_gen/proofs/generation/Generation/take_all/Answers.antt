-- The joins and then the groups were taken, or they broke off.
use Rattle.std.proofs.Common.{◌≡◌, Result, Ok, Err, subst}
use Rattle.std.proofs.lemmas.Result.{err_from_is_err_and}
use Rattle.tdb_gen.specs.declared.fault.GenFault.{GenFault}
use Rattle.tdb_gen.specs.Plays.{joins, groups, group_list, together}
use Rattle.tdb_gen.specs.Taking.{Place, place, Taken}
use Rattle.tdb_gen.proofs.Parting.{all_parts}
use Rattle.tdb_gen.proofs.Takings.{taken_join, taken_more}
use Rattle.tdb_gen.proofs.generation.Generation.take_all.Goals as goal
use Rattle.tdb_gen.proofs.generation.Generation.take_all.Goals.{After-join_openers}

-- before the joins, and behind them
abbrev start : (g : _) (c : After-join_openers g) → Place
start g c = place c.args.world.now c.args.self.now.counts (g.L.Logs.logs c.args.logs.now)

abbrev joined : (g : _) (c : After-join_openers g) → Place
joined g c = place c.join_openers.new.world c.args.self.now.counts (g.L.Logs.logs c.args.logs.now)

-- how the joins were taken, where they ended so
ended : (g : _) (c : After-join_openers g) (answer : Result (Unit {0}) GenFault) → c.join_openers.result ≡ answer → Taken g.D.Disk.tells (start g c) (joined g c) joins answer
ended g c answer e = subst (Taken g.D.Disk.tells (start g c) (joined g c) joins) e (c.join_openers.ensures.taken c.args.self.now.counts (g.L.Logs.logs c.args.logs.now))

pub take_groups-requires-clause-unspent : goal.take_groups-requires-clause-unspent
take_groups-requires-clause-unspent g c = (ended g ((goal.at.take_groups-requires-clause-unspent g c).After-join_openers) (Ok tt) c.in_ok-join_openers.was).unspent

-- the joins broke off
pub returns-in_err-join_openers : goal.returns-in_err-join_openers
returns-in_err-join_openers g c = record {
  taken = λ seed from.
      (let q = err_from_is_err_and c.from_residual.result c.from_residual.ensures.1 in
      let a = (goal.at.returns-in_err-join_openers g c).After-join_openers in
      let e = c.in_err-join_openers.field-0.0 in
      rw (q.1, q.2)
      (record {
        taken = taken_more g.D.Disk.tells (start g a) (joined g a) joins (together (group_list c.args.commands seed (groups c.args.commands))) e (ended g a (Err e) c.in_err-join_openers.was);
        parts = tt;
      }));
}

-- all of them, or the groups broke off
pub returns : goal.returns
returns g c = record {
  taken = λ seed from.
      (let a = (goal.at.returns g c).After-join_openers in
      let last = place c.take_groups.new.world c.take_groups.new.self.counts (g.L.Logs.logs c.take_groups.new.logs) in
      all_parts g.D.Disk.tells c.args.commands seed (start g a) (joined g a) last (ended g a (Ok tt) c.in_ok-join_openers.was) c.in_ok-join_openers.ensures.joined c.take_groups.result (c.take_groups.ensures.taken seed from));
}
