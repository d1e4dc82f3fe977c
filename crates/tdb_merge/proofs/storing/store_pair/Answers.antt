-- The pair isn't chosen, or it is stored, or there is no memory for it.
use Rattle.std.proofs.Common.{[], ◌∷◌, Err, sym, subst}
use Rattle.std.specs.FinMap.{insert}
use Rattle.std.proofs.lemmas.Result.{err_from_is_err_and}
use Rattle.tdb_backup.specs.Traversal.{pair_at_hand}
use Rattle.tdb_commands.specs.Short.{IsShortCommand}
use Rattle.tdb_rewrite.specs.Rewritten.{chosen}
use Rattle.tdb_merge.specs.Parts.{Inside, stored}
use Rattle.tdb_merge.specs.declared.fault.MergeFault.TheVariants.{Memory}
use Rattle.tdb_merge.proofs.Choosing.{led_passed, led_stored, none_chosen, one_chosen}
use Rattle.tdb_merge.proofs.Parts.{led_none, led_wanting, ran_none}
use Rattle.tdb_merge.proofs.storing.store_pair.Goals as goal

pub returns-then-not-starts_with-clause-ran : goal.returns-then-not-starts_with-clause-ran
returns-then-not-starts_with-clause-ran g c = ran_none c.args.world.now _ c.requires.unspent

pub returns-then-not-starts_with-clause-led : goal.returns-then-not-starts_with-clause-led
returns-then-not-starts_with-clause-led g c m n b =
    let prefix = c.args.prefix.now in
    let pair = pair_at_hand c.args.traversal.now in
    led_passed g.D.Disk.tells m n b prefix pair c.args.world.now (none_chosen prefix c.key.result.now pair c.starts_with.result c.starts_with.ensures.value c.key.ensures c.if-not-starts_with.true)

pub returns-in_err-command-clause-ran : goal.returns-in_err-command-clause-ran
returns-in_err-command-clause-ran g c =
    let q = err_from_is_err_and c.from_residual.result c.from_residual.ensures.1 in
    rw (q.1, q.2) (ran_none c.args.world.now (Err Memory) c.requires.unspent)

pub returns-in_err-command-clause-led : goal.returns-in_err-command-clause-led
returns-in_err-command-clause-led g c m n b =
    let q = err_from_is_err_and c.from_residual.result c.from_residual.ensures.1 in
    rw (q.1, q.2)
    (led_wanting g.D.Disk.tells m n (Inside b) (Inside b) (Inside (stored b (chosen c.args.prefix.now (pair_at_hand c.args.traversal.now ∷ [])))) m c.args.world.now c.args.world.now (led_none g.D.Disk.tells m n (Inside b) c.args.world.now))

pub do_command-requires-clause-short : goal.do_command-requires-clause-short
do_command-requires-clause-short g c = subst IsShortCommand (sym c.in_ok-command.ensures) (c.requires.key_short, c.requires.value_short)

pub returns-clause-led : goal.returns-clause-led
returns-clause-led g c m n b =
    let prefix = c.args.prefix.now in
    let pair = pair_at_hand c.args.traversal.now in
    led_stored g.D.Disk.tells m n b prefix pair c.args.world.now c.do_command.new.world c.do_command.result c.in_ok-command.command (one_chosen prefix c.key.result.now pair c.starts_with.result c.starts_with.ensures.value c.key.ensures c.if-not-starts_with.false) c.in_ok-command.ensures
    (λ does. c.do_command.ensures.led m n (Inside b) m (Inside (insert b pair.0 pair.1)) does)
