-- In its own lock table no turn of it is blocked.
use Rattle.std.proofs.Common.{sym, subst}
use Rattle.tdb_space.specs.Form.{form_in}
use Rattle.tdb_commands.specs.InLaw.{law_turn}
use Rattle.tdb_txn_owner.specs.Ends.{IsBlocked}
use Rattle.tdb_txn_owner.specs.Holders.{HolderState}
use Rattle.tdb_txn_owner.proofs.HolderTurns.{alone_goes_on, busy_task, may_alone, own_table, TurnsAt}
use Rattle.tdb_txn_owner.specs.Room.{StageFull}
use Rattle.tdb_txn_owner.proofs.Room.{FullsAt}
use Rattle.tdb_txn_owner.proofs.Synced.{PlansAt}
use Rattle.tdb_txn_owner.specs.Syncs.{HolderPlans}
use Rattle.tdb_txn_owner.proofs.txn_owner.TxnOwner.turn.Goals as goal

pub returns-clause-blocked : goal.returns-clause-blocked
returns-clause-blocked g c told k past s S K begins blocked =
    let v = c.args.self in
    let f = form_in c.args.header.now in
    let o = c.args.options.now in
    let h = g.D.Disk.history c.args.d.now in
    let new = g.D.Disk.history c.stage_turn.new.d in
    let rs = c.stage_turn.new.locks in
    let went = c.in_ok-went.went in
    let busy = busy_task v.stage c.requires.busy in
    let t = busy.0 in
    let turns = subst (λ (w : HolderState). TurnsAt f o w.owner w.locks rs w.stage h new went) c.self.view_is (c.in_ok-went.ensures.turned told) in
    alone_goes_on f o v.owner v.locks v.stage k past s t S busy.1 rs went.stage h new (law_turn went.turn)
    (turns (own_table f o v.owner v.locks v.stage k past s t S busy.1) k past s t S K begins busy.1 (may_alone f o v.owner v.locks v.stage k past s t S busy.1))
    (subst (λ u. IsBlocked (law_turn u)) c.after_turn.ensures.turn blocked)

-- and there it tells of Full
pub returns-clause-full : goal.returns-clause-full
returns-clause-full g c told k past s S K begins =
    let v = c.args.self in
    let f = form_in c.args.header.now in
    let o = c.args.options.now in
    let went = c.in_ok-went.went in
    let busy = busy_task v.stage c.requires.busy in
    let fulls = subst (λ (w : HolderState). FullsAt f o w.owner w.locks w.stage (g.D.Disk.history c.args.d.now) (law_turn went.turn)) c.self.view_is (c.in_ok-went.ensures.full told) in
    subst (λ u. StageFull f o.limit v.stage k s.own (law_turn u)) (sym c.after_turn.ensures.turn)
    (fulls (own_table f o v.owner v.locks v.stage k past s busy.0 S busy.1) k past s busy.0 S K begins busy.1 (may_alone f o v.owner v.locks v.stage k past s busy.0 S busy.1))

-- and how many syncs a step makes that sees to the undo area
pub returns-clause-plans : goal.returns-clause-plans
returns-clause-plans g c told f k K =
    let v = c.args.self in
    let went = c.in_ok-went.went in
    let h = g.D.Disk.history c.args.d.now in
    let before = g.D.Disk.syncs c.args.d.now in
    let now = g.D.Disk.syncs c.stage_turn.new.d in
    let plans = subst (λ (w : HolderState). PlansAt w.stage h went.turn before now) c.self.view_is (c.in_ok-went.ensures.plans told) in
    subst (λ u. HolderPlans v.stage k.file u before now) (sym c.after_turn.ensures.turn) (plans f k K)
