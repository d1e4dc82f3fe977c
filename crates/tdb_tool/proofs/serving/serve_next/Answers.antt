use Rattle.std.proofs.Common.{subst}
use Rattle.std.proofs.lemmas.Result.{err_from_is_err_and}
use Rattle.tdb_tool.specs.Asked.{NextIs}
use Rattle.tdb_tool.specs.Lines.{lines_left}
use Rattle.tdb_world.specs.Courses.Scene.{scene}
use Rattle.tdb_tool.proofs.Fine.{said_fine}
use Rattle.tdb_tool.proofs.Sessions.{not_read, skipped, taken, broken_off}
use Rattle.tdb_tool.proofs.serving.serve_next.Goals as goal

-- no line was read
pub returns-in_err-next_asked-clause-next : goal.returns-in_err-next_asked-clause-next
returns-in_err-next_asked-clause-next g c =
    let q = err_from_is_err_and c.from_residual.result c.from_residual.ensures.1 in
    let r = c.args.reader.now in
    let n = c.next_asked.new.reader in
    let s = scene c.args.world.now (g.K.Sink.written c.args.output.now) (g.L.Logs.logs c.args.logs.now) in
    rw (q.1, q.2)
    (not_read g.D.Disk.tells g.I.Source.tells g.K.Sink.tells s s r.at n.at (lines_left r (g.I.Source.left c.args.input.now)) (lines_left n (g.I.Source.left c.next_asked.new.input)) c.in_err-next_asked.field-0.0 c.in_err-next_asked.ensures.fault c.requires.unspent)

-- a line was read
pub take_order-requires-clause-served : goal.take_order-requires-clause-served
take_order-requires-clause-served g c =
    let r = c.args.reader.now in
    let n = c.next_asked.new.reader in
    let m = subst (λ a. NextIs g.I.Source.tells r.at (lines_left r (g.I.Source.left c.args.input.now)) a n.at (lines_left n (g.I.Source.left c.next_asked.new.input))) c.in-Order.is c.in_ok-next_asked.ensures.is in
    said_fine r.at m.0 c.in-Order.order m.3.0

pub returns-in_err-take_order-in-Order-clause-next : goal.returns-in_err-take_order-in-Order-clause-next
returns-in_err-take_order-in-Order-clause-next g c =
    let q = err_from_is_err_and c.from_residual-in_err-take_order-in-Order.result c.from_residual-in_err-take_order-in-Order.ensures.1 in
    let r = c.args.reader.now in
    let n = c.next_asked.new.reader in
    let m = subst (λ a. NextIs g.I.Source.tells r.at (lines_left r (g.I.Source.left c.args.input.now)) a n.at (lines_left n (g.I.Source.left c.next_asked.new.input))) c.in-Order.is c.in_ok-next_asked.ensures.is in
    rw (q.1, q.2)
    (broken_off g.D.Disk.tells g.I.Source.tells g.K.Sink.tells (scene c.args.world.now (g.K.Sink.written c.args.output.now) (g.L.Logs.logs c.args.logs.now)) (scene c.take_order.new.world (g.K.Sink.written c.take_order.new.output) (g.L.Logs.logs c.take_order.new.logs)) r.at n.at _ _ c.in-Order.order m c.in_err-take_order-in-Order.field-0.0 c.in_err-take_order-in-Order.ensures.ran)

pub returns-in-Nothing-clause-next : goal.returns-in-Nothing-clause-next
returns-in-Nothing-clause-next g c =
    let r = c.args.reader.now in
    let n = c.next_asked.new.reader in
    let m = subst (λ a. NextIs g.I.Source.tells r.at (lines_left r (g.I.Source.left c.args.input.now)) a n.at (lines_left n (g.I.Source.left c.next_asked.new.input))) c.in-Nothing.is c.in_ok-next_asked.ensures.is in
    let s = scene c.args.world.now (g.K.Sink.written c.args.output.now) (g.L.Logs.logs c.args.logs.now) in
    skipped g.D.Disk.tells g.I.Source.tells g.K.Sink.tells s s r.at n.at _ _ c.requires.unspent m

pub returns-in_ok-take_order-in-Order-clause-next : goal.returns-in_ok-take_order-in-Order-clause-next
returns-in_ok-take_order-in-Order-clause-next g c =
    let r = c.args.reader.now in
    let n = c.next_asked.new.reader in
    let m = subst (λ a. NextIs g.I.Source.tells r.at (lines_left r (g.I.Source.left c.args.input.now)) a n.at (lines_left n (g.I.Source.left c.next_asked.new.input))) c.in-Order.is c.in_ok-next_asked.ensures.is in
    taken g.D.Disk.tells g.I.Source.tells g.K.Sink.tells (scene c.args.world.now (g.K.Sink.written c.args.output.now) (g.L.Logs.logs c.args.logs.now)) (scene c.take_order.new.world (g.K.Sink.written c.take_order.new.output) (g.L.Logs.logs c.take_order.new.logs)) r.at n.at _ _ c.in-Order.order m c.in_ok-take_order-in-Order.ensures.ran
