-- A turn without a lock is that of the command, with the stage and the joined bytes taken out and put back.
use Rattle.std.proofs.Common.{◌≡◌, ◌&&◌, List, ◌∙◌, ap, sym, subst, arith}
use Rattle.tdb_steps.specs.declared.stage.Stage.{Stage}
use Rattle.tdb_steps.specs.declared.stage.Next.{Next}
use Rattle.tdb_steps.specs.Machines.{Doing, begun, IsShort, Fits, Counted}
use Rattle.tdb_steps.proofs.Turning.{act_stepped, act_ended, act_broke, act_halted, rightly_stepped, rightly_ended}
use Rattle.tdb_space.specs.Extents.{HandPair}
use Rattle.tdb_space.specs.Accepted.{AcceptWith}
use Rattle.tdb_space.specs.Stays.{ChainsStay}
use Rattle.tdb_law.specs.MapCommands.{map_changes}
use Rattle.tdb_steps.specs.Order.{InOrder}
use Rattle.tdb_steps.specs.PlainCommands.{command_of}
use Rattle.tdb_steps.proofs.Counted.{end_rightly, begun_fits}
use Rattle.tdb_steps.proofs.Rowed.{act_row}
use Rattle.tdb_space.proofs.Results.{on_err}
use Rattle.tdb_steps.specs.Reads.{costs_of, number_reads, TurnReads}
use Rattle.tdb_steps.proofs.Reading.{read_besides}
use Rattle.tdb_steps.specs.Memory.{TakesValue}
use Rattle.tdb_steps.proofs.Starving.{done_so}
use Rattle.tdb_steps.proofs.machine.Machine.act_turn.Goals as goal

pub returns-in-Step-clause-made : goal.returns-in-Step-clause-made
returns-in-Step-clause-made g c told small n others =
    act_stepped (g.S.Space.form c.args.s.now) (g.S.Space.image c.args.s.now) (g.S.Space.image c.act.new.s) c.self.inside.command c.self.inside.chain c.self.inside.seqnum n c.self.inside.stage c.replace-stage.result c.self.inside.whole c.take-whole.result c.act.new.whole c.in_ok-next.field-0 c.args.self.now _ others
    (sym c.self.view_is) c.replace-stage.ensures.value c.take-whole.ensures.value c.in_ok-next.ensures.order (c.in_ok-next.ensures.made told small) c.args.limit c.args.stood_on.now (c.in_ok-next.ensures.rightly told small) c.in-Step.next c.in-Step.is
    (ap (λ x. record { command = c.self.inside.command; chain = c.self.inside.chain; seqnum = c.self.inside.seqnum; stage = x; whole = c.act.new.whole }) c.replace.ensures.after)

pub returns-in_ok-count-in-Done-clause-made : goal.returns-in_ok-count-in-Done-clause-made
returns-in_ok-count-in-Done-clause-made g c told small n others =
    let f = g.S.Space.form c.args.s.now in
    let m = g.S.Space.image c.act.new.s in
    let b = g.S.Space.image c.count.new.s in
    let command = c.self.inside.command in
    let chain = c.self.inside.chain in
    let seqnum = c.self.inside.seqnum in
    let restarted : record { command = command; chain = chain; seqnum = seqnum; stage = c.replace-stage.new.dest; whole = c.take-whole.new.self } ≡ begun command chain seqnum =
    ap (λ x. record { command = command; chain = chain; seqnum = seqnum; stage = x; whole = c.take-whole.new.self }) c.replace-stage.ensures.after ∙ ap (λ w. record { command = command; chain = chain; seqnum = seqnum; stage = Stage.Begun; whole = w }) c.take-whole.ensures.after in
    act_ended f (g.S.Space.image c.args.s.now) m command chain seqnum n c.self.inside.stage c.replace-stage.result c.self.inside.whole c.take-whole.result c.act.new.whole c.in_ok-next.field-0 c.args.self.now _ others
    (sym c.self.view_is) c.replace-stage.ensures.value c.take-whole.ensures.value c.in_ok-next.ensures.order (c.in_ok-next.ensures.made told small) b c.in-Done.reply c.in-Done.is restarted
    (λ hands A. subst (λ x. Counted f m b x hands) c.counts.ensures (subst (λ x. (hands : List HandPair) → AcceptWith x m hands → Counted x m b c.counts.result hands) c.act.ensures.wrote.form (c.in_ok-count-in-Done.ensures.counted told) hands A))

pub returns-in_ok-count-in-Done-clause-fits : goal.returns-in_ok-count-in-Done-clause-fits
returns-in_ok-count-in-Done-clause-fits g c =
    let command = c.self.inside.command in
    let chain = c.self.inside.chain in
    let seqnum = c.self.inside.seqnum in
    let restarted : record { command = command; chain = chain; seqnum = seqnum; stage = c.replace-stage.new.dest; whole = c.take-whole.new.self } ≡ begun command chain seqnum =
    ap (λ x. record { command = command; chain = chain; seqnum = seqnum; stage = x; whole = c.take-whole.new.self }) c.replace-stage.ensures.after ∙ ap (λ w. record { command = command; chain = chain; seqnum = seqnum; stage = Stage.Begun; whole = w }) c.take-whole.ensures.after in
    subst (λ x. Fits x (g.S.Space.size c.count.new.s) (g.S.Space.spare c.count.new.s)) (sym restarted)
    (begun_fits command chain seqnum (g.S.Space.size c.count.new.s) (g.S.Space.spare c.count.new.s) (subst (λ x. IsShort x.command) (sym c.self.view_is) c.requires.fits.short))

pub returns-in-Step-clause-rightly : goal.returns-in-Step-clause-rightly
returns-in-Step-clause-rightly g c told small busy =
    rightly_stepped (g.S.Space.form c.args.s.now) (g.S.Space.image c.args.s.now) (g.S.Space.image c.act.new.s) c.self.inside.command c.self.inside.chain c.self.inside.seqnum c.self.inside.stage c.replace-stage.result c.self.inside.whole c.take-whole.result c.args.limit c.args.stood_on.now c.in_ok-next.field-0 c.args.self.now (record { command = c.self.inside.command; chain = c.self.inside.chain; seqnum = c.self.inside.seqnum; stage = c.replace.new.dest; whole = c.act.new.whole })
    (sym c.self.view_is) c.replace-stage.ensures.value c.take-whole.ensures.value (c.in_ok-next.ensures.rightly told small) c.in-Step.next c.in-Step.is c.replace.ensures.after

pub returns-in_ok-count-in-Done-clause-rightly : goal.returns-in_ok-count-in-Done-clause-rightly
returns-in_ok-count-in-Done-clause-rightly g c told small busy =
    let f = g.S.Space.form c.args.s.now in
    let a = g.S.Space.image c.args.s.now in
    let m = g.S.Space.image c.act.new.s in
    let b = g.S.Space.image c.count.new.s in
    let d = c.args.self.now in
    let r = c.in-Done.reply in
    let taken : c.replace-stage.result ≡ d.stage = c.replace-stage.ensures.value ∙ ap (λ x. x.stage) c.self.view_is in
    let order : InOrder d.command d.stage (Next.Done r) = subst (λ x. InOrder x d.stage (Next.Done r)) (ap (λ x. x.command) c.self.view_is) (subst (λ x. InOrder c.self.inside.command x (Next.Done r)) taken (subst (InOrder c.self.inside.command c.replace-stage.result) c.in-Done.is c.in_ok-next.ensures.order)) in
    end_rightly f a m b c.args.limit c.args.stood_on.now d.command d.whole d.stage r
    (λ left. (c.count.ensures.idle (c.counts.ensures ∙ ap (λ x. x && (map_changes (command_of c.self.inside.command) && c.self.inside.seqnum)) left)).image) order busy
    (rightly_ended f a m c.self.inside.command c.self.inside.chain c.self.inside.seqnum c.self.inside.stage c.replace-stage.result c.self.inside.whole c.take-whole.result c.args.limit c.args.stood_on.now c.in_ok-next.field-0 d d
    (sym c.self.view_is) c.replace-stage.ensures.value c.take-whole.ensures.value (c.in_ok-next.ensures.rightly told small) r c.in-Done.is)

pub returns-in_ok-count-in-Done-clause-row : goal.returns-in_ok-count-in-Done-clause-row
returns-in_ok-count-in-Done-clause-row g c n is =
    act_row c.self.inside.command c.self.inside.chain c.self.inside.seqnum n c.self.inside.stage c.replace-stage.result c.self.inside.whole c.in_ok-next.field-0 (Next.Done c.in-Done.reply) c.args.self.now
    (sym c.self.view_is) c.replace-stage.ensures.value c.in_ok-next.ensures.order c.in-Done.is is

-- the command failed
pub returns-in_err-next-clause-stopped : goal.returns-in_err-next-clause-stopped
returns-in_err-next-clause-stopped g c = on_err c.from_residual.result (λ told small n others is may A K.
    act_broke (g.S.Space.form c.args.s.now) (g.S.Space.image c.args.s.now) (g.S.Space.image c.act.new.s) c.self.inside.command c.self.inside.chain c.self.inside.seqnum n c.self.inside.stage c.replace-stage.result c.self.inside.whole c.args.self.now others
    (sym c.self.view_is) c.replace-stage.ensures.value (c.in_err-next.ensures.stopped told small) may A K)

-- or the number couldn't be raised
pub returns-in_err-count-in-Done-clause-stopped : goal.returns-in_err-count-in-Done-clause-stopped
returns-in_err-count-in-Done-clause-stopped g c = on_err c.from_residual-in_err-count-in-Done.result (λ told small n others is may A K.
    (let m = g.S.Space.image c.act.new.s in
    let b = g.S.Space.image c.count.new.s in
    act_halted (g.S.Space.form c.args.s.now) (g.S.Space.image c.args.s.now) m c.self.inside.command c.self.inside.chain c.self.inside.seqnum n c.self.inside.stage c.replace-stage.result c.self.inside.whole c.take-whole.result c.act.new.whole c.in_ok-next.field-0 c.args.self.now c.args.self.now others
    (sym c.self.view_is) c.replace-stage.ensures.value c.take-whole.ensures.value c.in_ok-next.ensures.order (c.in_ok-next.ensures.made told small) b c.in-Done.reply c.in-Done.is
    (subst (λ x. (hands : List HandPair) → AcceptWith x m hands → ChainsStay x m b hands) c.act.ensures.wrote.form (c.in_err-count-in-Done.ensures.stopped told)) is may A K))

-- what was read
pub returns-in-Step-clause-reads : goal.returns-in-Step-clause-reads
returns-in-Step-clause-reads g c told small hands A =
    let f = g.S.Space.form c.args.s.now in
    let img = g.S.Space.image c.args.s.now in
    let before = g.S.Space.bytes_read c.args.s.now in
    let act = subst (λ w. TurnReads (costs_of f img c.self.inside.command w) 0 c.self.inside.stage before (g.S.Space.bytes_read c.act.new.s)) c.take-whole.ensures.value
    (subst (λ x. TurnReads (costs_of f img c.self.inside.command c.take-whole.result) 0 x before (g.S.Space.bytes_read c.act.new.s)) c.replace-stage.ensures.value (c.act.ensures.reads told small hands A)) in
    subst (λ (d : Doing). TurnReads (costs_of f img d.command d.whole) number_reads d.stage before (g.S.Space.bytes_read c.act.new.s)) c.self.view_is
    (read_besides (costs_of f img c.self.inside.command c.self.inside.whole) 0 number_reads c.self.inside.stage before (g.S.Space.bytes_read c.act.new.s) (g.S.Space.bytes_read c.act.new.s) act (record { no_more = omega arith; never_falls = omega arith }) (omega arith))

pub returns-in_ok-count-in-Done-clause-reads : goal.returns-in_ok-count-in-Done-clause-reads
returns-in_ok-count-in-Done-clause-reads g c told small hands A =
    let f = g.S.Space.form c.args.s.now in
    let img = g.S.Space.image c.args.s.now in
    let before = g.S.Space.bytes_read c.args.s.now in
    let act = subst (λ w. TurnReads (costs_of f img c.self.inside.command w) 0 c.self.inside.stage before (g.S.Space.bytes_read c.act.new.s)) c.take-whole.ensures.value
    (subst (λ x. TurnReads (costs_of f img c.self.inside.command c.take-whole.result) 0 x before (g.S.Space.bytes_read c.act.new.s)) c.replace-stage.ensures.value (c.act.ensures.reads told small hands A)) in
    subst (λ (d : Doing). TurnReads (costs_of f img d.command d.whole) number_reads d.stage before (g.S.Space.bytes_read c.count.new.s)) c.self.view_is
    (read_besides (costs_of f img c.self.inside.command c.self.inside.whole) number_reads number_reads c.self.inside.stage before (g.S.Space.bytes_read c.act.new.s) (g.S.Space.bytes_read c.count.new.s) act c.count.ensures.bytes_read (omega arith))

pub returns-in_err-next-clause-reads : goal.returns-in_err-next-clause-reads
returns-in_err-next-clause-reads g c told small hands A =
    let f = g.S.Space.form c.args.s.now in
    let img = g.S.Space.image c.args.s.now in
    let before = g.S.Space.bytes_read c.args.s.now in
    let act = subst (λ w. TurnReads (costs_of f img c.self.inside.command w) 0 c.self.inside.stage before (g.S.Space.bytes_read c.act.new.s)) c.take-whole.ensures.value
    (subst (λ x. TurnReads (costs_of f img c.self.inside.command c.take-whole.result) 0 x before (g.S.Space.bytes_read c.act.new.s)) c.replace-stage.ensures.value (c.act.ensures.reads told small hands A)) in
    subst (λ (d : Doing). TurnReads (costs_of f img d.command d.whole) number_reads d.stage before (g.S.Space.bytes_read c.act.new.s)) c.self.view_is
    (read_besides (costs_of f img c.self.inside.command c.self.inside.whole) 0 number_reads c.self.inside.stage before (g.S.Space.bytes_read c.act.new.s) (g.S.Space.bytes_read c.act.new.s) act (record { no_more = omega arith; never_falls = omega arith }) (omega arith))

pub returns-in_err-count-in-Done-clause-reads : goal.returns-in_err-count-in-Done-clause-reads
returns-in_err-count-in-Done-clause-reads g c told small hands A =
    let f = g.S.Space.form c.args.s.now in
    let img = g.S.Space.image c.args.s.now in
    let before = g.S.Space.bytes_read c.args.s.now in
    let act = subst (λ w. TurnReads (costs_of f img c.self.inside.command w) 0 c.self.inside.stage before (g.S.Space.bytes_read c.act.new.s)) c.take-whole.ensures.value
    (subst (λ x. TurnReads (costs_of f img c.self.inside.command c.take-whole.result) 0 x before (g.S.Space.bytes_read c.act.new.s)) c.replace-stage.ensures.value (c.act.ensures.reads told small hands A)) in
    subst (λ (d : Doing). TurnReads (costs_of f img d.command d.whole) number_reads d.stage before (g.S.Space.bytes_read c.count.new.s)) c.self.view_is
    (read_besides (costs_of f img c.self.inside.command c.self.inside.whole) number_reads number_reads c.self.inside.stage before (g.S.Space.bytes_read c.act.new.s) (g.S.Space.bytes_read c.count.new.s) act c.count.ensures.bytes_read (omega arith))

-- over a disk it ends for want of memory only where it takes a value
pub returns-in_ok-count-in-Done-clause-starves : goal.returns-in_ok-count-in-Done-clause-starves
returns-in_ok-count-in-Done-clause-starves g c is free =
    subst (λ (d : Doing). TakesValue d.command d.stage) c.self.view_is
    (subst (TakesValue c.self.inside.command) c.replace-stage.ensures.value (c.in_ok-next.ensures.starves (c.in-Done.is ∙ ap Next.Done (done_so is)) free))
