-- It joined, began, stored and committed, or broke off in one of these.
use Rattle.std.proofs.Common.{Ok, Err, ap, subst}
use Rattle.std.proofs.lemmas.Result.{err_from_is_err_and}
use Rattle.tdb_space.specs.Form.{form_in}
use Rattle.tdb_space.specs.Pairs.{order_of}
use Rattle.tdb_law.specs.Openers.{Map}
use Rattle.tdb_rewrite.specs.Rewritten.{chosen}
use Rattle.tdb_world.specs.Stops.{IsSafe}
use Rattle.tdb_world.specs.Whole.{form_at}
use Rattle.tdb_merge.specs.Faults.{UnlessDevice}
use Rattle.tdb_merge.specs.Parts.{Committed, Inside, Led, Outside, Ran, stored}
use Rattle.tdb_merge.proofs.Commands.{commit_does, start_does}
use Rattle.tdb_merge.proofs.Parts.{led_broke, led_join, ran_join}
use Rattle.tdb_merge.proofs.Whole.{safe_done, safe_end}
use Rattle.tdb_merge.proofs.merging.merge_in.Goals as goal
use Rattle.tdb_merge.proofs.merging.merge_in.Goals.{After-store_pairs}

pub returns-in_err-join-clause-ran : goal.returns-in_err-join-clause-ran
returns-in_err-join-clause-ran g c =
    let q = err_from_is_err_and c.from_residual.result c.from_residual.ensures.1 in
    rw (q.1, q.2) c.in_err-join.ensures.ran

pub returns-in_err-join-clause-led : goal.returns-in_err-join-clause-led
returns-in_err-join-clause-led g c told hands A m =
    let q = err_from_is_err_and c.from_residual.result c.from_residual.ensures.1 in
    let n = stored m (chosen c.args.prefix.now (order_of (g.S.Space.form c.args.from.now) (g.S.Space.image c.args.from.now))) in
    rw (q.1, q.2) (led_broke g.D.Disk.tells m n Outside Outside Committed n m c.args.world.now c.join.new.world c.in_err-join.field-0.0 (c.in_err-join.ensures.led m n))

pub do_command-requires-clause-unspent : goal.do_command-requires-clause-unspent
do_command-requires-clause-unspent g c = c.in_ok-join.ensures.ran.unspent

pub returns-in_err-do_command-clause-ran : goal.returns-in_err-do_command-clause-ran
returns-in_err-do_command-clause-ran g c =
    let q = err_from_is_err_and c.from_residual-in_err-do_command.result c.from_residual-in_err-do_command.ensures.1 in
    rw (q.1, q.2) (ran_join c.args.world.now c.join.new.world c.do_command.new.world (Err c.in_err-do_command.field-0.0) c.in_ok-join.ensures.ran c.in_err-do_command.ensures.ran)

pub returns-in_err-do_command-clause-led : goal.returns-in_err-do_command-clause-led
returns-in_err-do_command-clause-led g c told hands A m =
    let q = err_from_is_err_and c.from_residual-in_err-do_command.result c.from_residual-in_err-do_command.ensures.1 in
    let n = stored m (chosen c.args.prefix.now (order_of (g.S.Space.form c.args.from.now) (g.S.Space.image c.args.from.now))) in
    let e = c.in_err-do_command.field-0.0 in
    rw (q.1, q.2)
    (led_broke g.D.Disk.tells m n Outside (Inside m) Committed n m c.args.world.now c.do_command.new.world e
    (led_join g.D.Disk.tells m n Outside Outside (Inside m) m c.args.world.now c.join.new.world c.do_command.new.world (Err e) c.in_ok-join.ensures.ran (c.in_ok-join.ensures.led m n)
    (c.in_err-do_command.ensures.led m n Outside m (Inside m) (start_does m n))))

-- joined and begun
begun_ran : (g : _) (c : After-store_pairs g) → Ran c.args.world.now c.do_command.new.world (Ok tt)
begun_ran g c = ran_join c.args.world.now c.join.new.world c.do_command.new.world (Ok tt) c.in_ok-join.ensures.ran c.in_ok-do_command.ensures.ran

begun_led : (g : _) (c : After-store_pairs g) (m n : Map) → Led g.D.Disk.tells m n Outside m (Inside m) c.args.world.now c.do_command.new.world (Ok tt)
begun_led g c m n =
    led_join g.D.Disk.tells m n Outside Outside (Inside m) m c.args.world.now c.join.new.world c.do_command.new.world (Ok tt) c.in_ok-join.ensures.ran (c.in_ok-join.ensures.led m n)
    (c.in_ok-do_command.ensures.led m n Outside m (Inside m) (start_does m n))

pub store_pairs-requires : goal.store_pairs-requires
store_pairs-requires g c = record { unspent = c.in_ok-do_command.ensures.ran.unspent }

pub returns-in_err-store_pairs-clause-ran : goal.returns-in_err-store_pairs-clause-ran
returns-in_err-store_pairs-clause-ran g c =
    let a = (goal.at.returns-in_err-store_pairs-clause-ran g c).After-store_pairs in
    let q = err_from_is_err_and c.from_residual-in_err-store_pairs.result c.from_residual-in_err-store_pairs.ensures.1 in
    rw (q.1, q.2) (ran_join c.args.world.now c.do_command.new.world c.store_pairs.new.world (Err c.in_err-store_pairs.field-0.0) (begun_ran g a) c.in_err-store_pairs.ensures.ran)

pub returns-in_err-store_pairs-clause-led : goal.returns-in_err-store_pairs-clause-led
returns-in_err-store_pairs-clause-led g c told hands A m =
    let a = (goal.at.returns-in_err-store_pairs-clause-led g c).After-store_pairs in
    let q = err_from_is_err_and c.from_residual-in_err-store_pairs.result c.from_residual-in_err-store_pairs.ensures.1 in
    let n = stored m (chosen c.args.prefix.now (order_of (g.S.Space.form c.args.from.now) (g.S.Space.image c.args.from.now))) in
    let e = c.in_err-store_pairs.field-0.0 in
    rw (q.1, q.2)
    (led_broke g.D.Disk.tells m n Outside (Inside n) Committed n m c.args.world.now c.store_pairs.new.world e
    (led_join g.D.Disk.tells m n Outside (Inside m) (Inside n) m c.args.world.now c.do_command.new.world c.store_pairs.new.world (Err e) (begun_ran g a) (begun_led g a m n) (c.in_err-store_pairs.ensures.led told hands A m n)))

-- and stored
stored_ran : (g : _) (c : After-store_pairs g) → Ran c.do_command.new.world c.store_pairs.new.world (Ok tt) → Ran c.args.world.now c.store_pairs.new.world (Ok tt)
stored_ran g c ran = ran_join c.args.world.now c.do_command.new.world c.store_pairs.new.world (Ok tt) (begun_ran g c) ran

pub do_command-requires-2-clause-unspent : goal.do_command-requires-2-clause-unspent
do_command-requires-2-clause-unspent g c = c.in_ok-store_pairs.ensures.ran.unspent

pub returns-clause-ran : goal.returns-clause-ran
returns-clause-ran g c =
    let a = (goal.at.returns-clause-ran g c).After-store_pairs in
    ran_join c.args.world.now c.store_pairs.new.world c.do_command-2.new.world c.do_command-2.result (stored_ran g a c.in_ok-store_pairs.ensures.ran) c.do_command-2.ensures.ran

pub returns-clause-led : goal.returns-clause-led
returns-clause-led g c told hands A m =
    let a = (goal.at.returns-clause-led g c).After-store_pairs in
    let n = stored m (chosen c.args.prefix.now (order_of (g.S.Space.form c.args.from.now) (g.S.Space.image c.args.from.now))) in
    let t = g.D.Disk.tells in
    let stores = led_join t m n Outside (Inside m) (Inside n) m c.args.world.now c.do_command.new.world c.store_pairs.new.world (Ok tt) (begun_ran g a) (begun_led g a m n) (c.in_ok-store_pairs.ensures.led told hands A m n) in
    led_join t m n Outside (Inside n) Committed n c.args.world.now c.store_pairs.new.world c.do_command-2.new.world c.do_command-2.result (stored_ran g a c.in_ok-store_pairs.ensures.ran) stores (c.do_command-2.ensures.led m n (Inside n) n Committed (commit_does m n))

pub returns-clause-safe : goal.returns-clause-safe
returns-clause-safe g c =
    safe_done g.S.Space.tells g.D.Disk.tells (g.S.Space.form c.args.from.now) (g.S.Space.image c.args.from.now) c.args.world.now (IsSafe (form_at c.args.world.now.world) c.do_command-2.new.world.history) c.do_command-2.result
    (λ heard told hands A m R.
    (let a = (goal.at.returns-clause-safe g c).After-store_pairs in
    let n = stored m (chosen c.args.prefix.now (order_of (g.S.Space.form c.args.from.now) (g.S.Space.image c.args.from.now))) in
    subst (λ f. UnlessDevice c.do_command-2.result (IsSafe f c.do_command-2.new.world.history)) (ap form_in (begun_ran g a).header)
    (safe_end g.D.Disk.tells m n c.do_command.new.world c.store_pairs.new.world c.do_command-2.new.world c.do_command-2.result told c.in_ok-store_pairs.ensures.ran (c.in_ok-store_pairs.ensures.led heard hands A m n)
    (c.do_command-2.ensures.led m n (Inside n) n Committed (commit_does m n)) ((begun_led g a m n).left told R))))
