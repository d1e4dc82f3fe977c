-- A turn takes the lock that it wants, or none is wanted; the reply lets go of what the command took.
use Rattle.std.proofs.Common.{◌≡◌, None, Some, refl, sym, ◌∙◌, subst}
use Rattle.tdb_steps.specs.LockRows.{row_at, rows_of, locks_in}
use Rattle.tdb_steps.specs.LockTurns.{LockLed}
use Rattle.tdb_steps.specs.Holdings.{LocksTurned}
use Rattle.tdb_steps.specs.PlainCommands.{turn_of}
use Rattle.tdb_steps.proofs.Turning.{lock_turned, row_facts, row_idle, lock_stage, locks_idle}
use Rattle.tdb_steps.proofs.Rowed.{lock_table, act_table, end_table, ended_rows}
use Rattle.tdb_steps.proofs.machine.Machine.step.Goals.{in-Done, in_default-turn}
use Rattle.tdb_steps.specs.Reads.{costs_of, number_reads}
use Rattle.tdb_steps.proofs.Reading.{nothing_read}
use Rattle.tdb_space.proofs.Results.{on_err}
use Rattle.tdb_steps.proofs.Starving.{outside_lock, outside_act}
use Rattle.tdb_steps.proofs.machine.Machine.step.Goals as goal

pub returns-in-Some-clause-made : goal.returns-in-Some-clause-made
returns-in-Some-clause-made g c told small n others is may A K =
    let d = c.args.self.now in
    lock_turned (g.S.Space.form c.args.s.now) (g.S.Space.image c.args.s.now) d.command d.chain d.seqnum n d.whole others d.stage c.lock_turn.new.self c.lock_turn.result c.args.held.now c.args.owner c.args.locks.now c.lock_turn.new.locks c.rows-rows.result c.in-Some.row
    (sym c.wanted.ensures ∙ c.in-Some.is) c.lock_turn.ensures.led is A K

pub returns-in-Some-clause-rightly : goal.returns-in-Some-clause-rightly
returns-in-Some-clause-rightly g c told small busy =
    let d = c.args.self.now in
    absurd (busy (locks_idle d.stage (lock_stage c.rows-rows.result d.stage c.in-Some.row (sym c.wanted.ensures ∙ c.in-Some.is))))

pub returns-in-Some-clause-locks : goal.returns-in-Some-clause-locks
returns-in-Some-clause-locks g c n kept is H =
    let d = c.args.self.now in
    let at = subst (λ x. row_at x d.stage ≡ Some c.in-Some.row) c.rows-rows.ensures (sym c.wanted.ensures ∙ c.in-Some.is) in
    lock_table c.args.held.now kept c.args.owner n c.args.locks.now c.lock_turn.new.locks (rows_of d.command d.chain) H d c.lock_turn.new.self c.in-Some.row c.lock_turn.result (row_facts d.command d.chain n d.stage c.in-Some.row is at)
    (subst (λ x. LockLed c.args.held.now c.args.owner c.args.locks.now c.lock_turn.new.locks x c.in-Some.row d c.lock_turn.new.self c.lock_turn.result) c.rows-rows.ensures c.lock_turn.ensures.led)

pub returns-clause-locks : goal.returns-clause-locks
returns-clause-locks g c n kept is H =
    let d = c.args.self.now in
    let rows = rows_of d.command d.chain in
    let at = subst (λ x. row_at x d.stage ≡ None) c.rows-rows.ensures (sym c.wanted.ensures ∙ c.in_default.is) in
    let idle = row_idle d.command d.chain n d.stage is at in
    elim c.match-turn.branch [
      | in-Done w ↦
          subst (λ x. LocksTurned (locks_in rows) kept c.args.owner n c.args.locks.now x (turn_of c.in_ok-turn.turn)) (sym w.locks-is)
          (end_table c.args.held.now kept c.args.owner n c.args.locks.now w.let_go.new.locks rows H c.in_ok-turn.turn _ w.in-Done.is
          (ended_rows c.args.held.now c.args.owner c.args.locks.now w.let_go.new.locks d c.act_turn.new.self c.in_ok-turn.turn _ w.in-Done.is c.in_ok-turn.ensures.led w.let_go.ensures) idle)
      | in_default-turn w ↦
          act_table c.args.held.now kept c.args.owner n c.args.locks.now c.match-turn.locks rows H d c.act_turn.new.self c.in_ok-turn.turn c.in_ok-turn.ensures.led w.in_default-turn.not-Done w.locks-is idle
    ]

-- the turn failed
pub returns-in_err-turn-clause-stopped : goal.returns-in_err-turn-clause-stopped
returns-in_err-turn-clause-stopped g c = on_err c.from_residual.result c.in_err-turn.ensures.stopped

-- a turn that takes a lock reads nothing
pub returns-in-Some-clause-reads : goal.returns-in-Some-clause-reads
returns-in-Some-clause-reads g c told small hands A =
    nothing_read (costs_of (g.S.Space.form c.args.s.now) (g.S.Space.image c.args.s.now) c.args.self.now.command c.args.self.now.whole) number_reads c.args.self.now.stage (g.S.Space.bytes_read c.args.s.now) (g.S.Space.bytes_read c.args.s.now) refl

-- over a disk it ends for want of memory only where it takes a lock or a value
pub returns-in-Some-clause-starves : goal.returns-in-Some-clause-starves
returns-in-Some-clause-starves g c free n is =
    let d = c.args.self.now in
    outside_lock (g.S.Space.form c.args.s.now) d n c.in-Some.row c.lock_turn.result (subst (λ x. row_at x d.stage ≡ Some c.in-Some.row) c.rows-rows.ensures (sym c.wanted.ensures ∙ c.in-Some.is)) is

pub returns-clause-starves : goal.returns-clause-starves
returns-clause-starves g c free n is = outside_act (g.S.Space.form c.args.s.now) c.args.self.now n c.in_ok-turn.turn (λ e. c.in_ok-turn.ensures.starves e free) is
