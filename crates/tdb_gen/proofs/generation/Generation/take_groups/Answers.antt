-- One group more was taken, or broke off.
use Rattle.std.proofs.Common.{◌≡◌, ◌+◌, ◌*◌, ◌/◌, ◌%◌, ◌<◌, ◌≤◌, ◌∙◌, ℕ, min, drop, Ok, Err, subst, arith}
use Rattle.std.proofs.lemmas.Result.{err_from_is_err_and}
use Rattle.tdb_gen.specs.Numbers.{IsFrom}
use Rattle.tdb_gen.specs.Plays.{groups, group_plays, group_list, together}
use Rattle.tdb_gen.specs.Taking.{Place, place, Taken}
use Rattle.tdb_gen.proofs.Grouping.{groups_more, groups_up, group_at, group_after, groups_cut}
use Rattle.tdb_gen.proofs.Takings.{taken_none, taken_join, taken_more}
use Rattle.tdb_gen.proofs.generation.Generation.take_groups.Goals as goal
use Rattle.tdb_gen.proofs.generation.Generation.take_groups.Goals.{After-take_group}

-- before all groups, before the next one, and behind it
abbrev first : (g : _) (c : After-take_group g) → Place
first g c = place c.args.world.now c.args.self.now.counts (g.L.Logs.logs c.args.logs.now)

abbrev mid : (g : _) (c : After-take_group g) → Place
mid g c = place c.loop.world c.loop.self.counts (g.L.Logs.logs c.loop.logs)

abbrev last : (g : _) (c : After-take_group g) → Place
last g c = place c.take_group.new.world c.take_group.new.self.counts (g.L.Logs.logs c.take_group.new.logs)

-- there is a next group, and it begins at the next command
inside : (g : _) (c : After-take_group g) → c.loop.counter < c.args.commands / 3 + min 1 (c.args.commands % 3)
inside g c = subst (λ k. c.loop.counter < k) c.div_ceil-end.ensures c.loop-test.true

begins : (g : _) (c : After-take_group g) → c.loop.self.generator.index ≡ 3 * c.loop.counter
begins g c = c.loop.invariant.index ∙ group_at c.args.commands c.loop.counter (inside g c)

-- the groups with it
more : (g : _) (c : After-take_group g) (seed : ℕ) → IsFrom seed c.args.self.now.generator → Taken g.D.Disk.tells (first g c) (last g c) (together (group_list c.args.commands seed (c.loop.counter + 1))) c.take_group.result
more g c seed from =
    subst (λ ps. Taken g.D.Disk.tells (first g c) (last g c) ps c.take_group.result) (groups_more c.args.commands seed c.loop.counter)
    (taken_join g.D.Disk.tells (first g c) (mid g c) (last g c) (together (group_list c.args.commands seed c.loop.counter)) (c.loop.invariant.taken seed from) c.take_group.result (group_plays c.args.commands seed c.loop.counter)
    (c.take_group.ensures.taken seed c.loop.counter (c.loop.invariant.from seed from) (begins g c)))

pub loop-init : goal.loop-init
loop-init g c = record {
  taken = λ seed from. taken_none g.D.Disk.tells (place c.args.world.now c.args.self.now.counts (g.L.Logs.logs c.args.logs.now)) c.requires.unspent;
  index = (let none = c.requires.first in omega (arith, none));
  from = λ seed from. from;
}

pub take_group-requires-clause-unspent : goal.take_group-requires-clause-unspent
take_group-requires-clause-unspent g c = (c.loop.invariant.taken c.requires.seed.0 c.requires.seed.1).unspent

pub returns-in_err-take_group : goal.returns-in_err-take_group
returns-in_err-take_group g c = record {
  taken = λ seed from.
      (let q = err_from_is_err_and c.from_residual.result c.from_residual.ensures.1 in
      let a = (goal.at.returns-in_err-take_group g c).After-take_group in
      let low = inside g a in
      let up = groups_up c.args.commands in
      let within : c.loop.counter + 1 ≤ groups c.args.commands = omega (arith, low, up) in
      rw (q.1, q.2)
      (subst (λ ps. Taken g.D.Disk.tells (first g a) (last g a) ps (Err c.in_err-take_group.field-0.0)) (groups_cut c.args.commands seed (c.loop.counter + 1) (groups c.args.commands) within)
      (taken_more g.D.Disk.tells (first g a) (last g a) (together (group_list c.args.commands seed (c.loop.counter + 1))) (together (drop (c.loop.counter + 1) (group_list c.args.commands seed (groups c.args.commands)))) c.in_err-take_group.field-0.0
      (subst (λ r. Taken g.D.Disk.tells (first g a) (last g a) (together (group_list c.args.commands seed (c.loop.counter + 1))) r) c.in_err-take_group.was (more g a seed from)))));
}

pub loop-preserved : goal.loop-preserved
loop-preserved g c =
    let a = (goal.at.loop-preserved g c).After-take_group in
    record {
      taken = λ seed from. subst (λ r. Taken g.D.Disk.tells (first g a) (last g a) (together (group_list c.args.commands seed (c.loop.counter + 1))) r) c.in_ok-take_group.was (more g a seed from);
      index = c.in_ok-take_group.ensures.index ∙ group_after c.args.commands c.loop.counter c.loop.self.generator.index c.loop.invariant.index;
      from = λ seed from. c.in_ok-take_group.ensures.from seed (c.loop.invariant.from seed from);
    }

pub returns : goal.returns
returns g c = record {
  taken = λ seed from.
      (let up = groups_up c.args.commands in
      let end = c.div_ceil-end.ensures in
      let least = c.loop-test.false in
      let most = c.loop.auto.counter-end in
      let all : c.loop.counter ≡ groups c.args.commands = omega (arith, up, end, least, most) in
      subst (λ n. Taken g.D.Disk.tells (place c.args.world.now c.args.self.now.counts (g.L.Logs.logs c.args.logs.now))
      (place c.loop.world c.loop.self.counts (g.L.Logs.logs c.loop.logs)) (together (group_list c.args.commands seed n)) (Ok tt))
      all (c.loop.invariant.taken seed from));
}
