-- The opener joined, or nothing changed.
use Rattle.std.proofs.Common.{◌∷◌, []}
use Rattle.tdb_commands.specs.declared.play.Play.TheVariants.{Join}
use Rattle.tdb_gen.proofs.Gifting.{any_not, join_taken, one_joined}
use Rattle.tdb_gen.proofs.group.join.Goals as goal

pub returns-in-Ok-clause-taken : goal.returns-in-Ok-clause-taken
returns-in-Ok-clause-taken g c = join_taken g.D.Disk.tells c.args.world.now c.join.new.self c.in-Ok.field-0 c.requires.unspent c.in-Ok.ensures.joined

pub returns-in-Ok-clause-joined : goal.returns-in-Ok-clause-joined
returns-in-Ok-clause-joined g c = one_joined c.args.world.now.world c.join.new.self.world c.in-Ok.field-0 c.in-Ok.ensures.joined.leads

pub returns-in-Err-clause-taken : goal.returns-in-Err-clause-taken
returns-in-Err-clause-taken g c = any_not g.D.Disk.tells c.args.world.now c.join.new.self (Join ∷ []) c.requires.unspent c.in-Err.ensures.err
