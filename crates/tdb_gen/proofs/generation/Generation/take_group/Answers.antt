-- The commands of the group were given and its rounds taken, or they broke off.
use Rattle.std.proofs.Common.{◌≡◌, ◌-◌, ◌*◌, ℕ, min, List, subst}
use Rattle.std.proofs.lemmas.Result.{err_from_is_err_and}
use Rattle.tdb_commands.specs.declared.play.Play.{Play}
use Rattle.tdb_gen.specs.Numbers.{IsFrom}
use Rattle.tdb_gen.specs.Plays.{gifts, rounds}
use Rattle.tdb_gen.specs.Taking.{Place, place, Taken}
use Rattle.tdb_gen.proofs.Takings.{taken_join, taken_more}
use Rattle.tdb_gen.proofs.generation.Generation.take_group.Goals as goal
use Rattle.tdb_gen.proofs.generation.Generation.take_group.Goals.{After-give_group}

-- before the group, and behind its gifts
abbrev first : (g : _) (c : After-give_group g) → Place
first g c = place c.args.world.now c.args.self.now.counts (g.L.Logs.logs c.args.logs.now)

abbrev mid : (g : _) (c : After-give_group g) → Place
mid g c = place c.give_group.new.world c.args.self.now.counts (g.L.Logs.logs c.args.logs.now)

-- the gifts of a group
abbrev given : (g : _) (c : After-give_group g) → ℕ → ℕ → List Play
given g c seed group = gifts seed (3 * group) (min 3 (c.args.commands - 3 * group))

gave : (g : _) (c : After-give_group g) (seed group : ℕ) → IsFrom seed c.args.self.now.generator → c.args.self.now.generator.index ≡ 3 * group → Taken g.D.Disk.tells (first g c) (mid g c) (given g c seed group) c.give_group.result
gave g c seed group from at =
    subst (λ i. Taken g.D.Disk.tells (first g c) (mid g c) (gifts seed i (min 3 (c.args.commands - i))) c.give_group.result) at
    (c.give_group.ensures.taken seed from c.args.self.now.counts (g.L.Logs.logs c.args.logs.now))

pub returns-in_err-give_group-clause-taken : goal.returns-in_err-give_group-clause-taken
returns-in_err-give_group-clause-taken g c seed group from at =
    let a = (goal.at.returns-in_err-give_group-clause-taken g c).After-give_group in
    let q = err_from_is_err_and c.from_residual.result c.from_residual.ensures.1 in
    let e = c.in_err-give_group.field-0.0 in
    let G = subst (Taken g.D.Disk.tells (first g a) (mid g a) (given g a seed group)) c.in_err-give_group.was (gave g a seed group from at) in
    rw (q.1, q.2) (taken_more g.D.Disk.tells (first g a) (mid g a) (given g a seed group) (rounds 24) e G)

pub take_rounds-requires : goal.take_rounds-requires
take_rounds-requires g c = record { unspent = c.give_group.ensures.unspent }

pub returns-clause-taken : goal.returns-clause-taken
returns-clause-taken g c seed group from at =
    let a = (goal.at.returns-clause-taken g c).After-give_group in
    let G = subst (Taken g.D.Disk.tells (first g a) (mid g a) (given g a seed group)) c.in_ok-give_group.was (gave g a seed group from at) in
    let last = place c.take_rounds.new.world c.take_rounds.new.counts (g.L.Logs.logs c.take_rounds.new.logs) in
    taken_join g.D.Disk.tells (first g a) (mid g a) last (given g a seed group) G c.take_rounds.result (rounds 24) c.take_rounds.ensures.taken
