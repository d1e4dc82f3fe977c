-- The opener joined, or nothing changed.
use Rattle.std.proofs.Common.{Err}
use Rattle.tdb_merge.specs.Parts.{Outside}
use Rattle.tdb_merge.specs.declared.fault.MergeFault.TheVariants.{Memory}
use Rattle.tdb_merge.proofs.Parts.{join_led, join_ran, led_not, ran_kept}
use Rattle.tdb_merge.proofs.playing.join.Goals as goal

pub returns-in-Ok-clause-ran : goal.returns-in-Ok-clause-ran
returns-in-Ok-clause-ran g c = join_ran g.D.Disk.tells c.args.world.now c.join.new.self c.in-Ok.field-0 c.in-Ok.ensures.joined c.requires.unspent

pub returns-in-Ok-clause-led : goal.returns-in-Ok-clause-led
returns-in-Ok-clause-led g c m n = join_led g.D.Disk.tells c.args.world.now c.join.new.self c.in-Ok.field-0 c.in-Ok.ensures.joined m n

pub returns-in-Err-clause-ran : goal.returns-in-Err-clause-ran
returns-in-Err-clause-ran g c = ran_kept c.args.world.now c.join.new.self (Err Memory) c.in-Err.ensures.err c.requires.unspent

pub returns-in-Err-clause-led : goal.returns-in-Err-clause-led
returns-in-Err-clause-led g c m n = led_not g.D.Disk.tells m n Outside Outside m c.args.world.now c.join.new.self c.in-Err.ensures.err
