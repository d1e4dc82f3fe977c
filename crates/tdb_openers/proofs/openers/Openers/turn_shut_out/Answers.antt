-- The turn is one of the opener's job, which is a turn of the law beside who is aside.
use Rattle.std.proofs.Common.{◌≡◌, ◌≢◌, ℕ, MatchBool, refl, ap, subst}
use Rattle.tdb_locks.specs.declared.turn.Turn.TheVariants.{Step}
use Rattle.tdb_space.specs.Form.{Form, form_in}
use Rattle.tdb_openers.specs.declared.job.Job.{Job}
use Rattle.tdb_openers.specs.declared.job.Job.TheVariants as Jobs
use Rattle.tdb_openers.specs.declared.job.Locking.TheVariants as Locks
use Rattle.tdb_openers.specs.declared.job.Walking.TheVariants as Walks
use Rattle.tdb_openers.specs.Openers.{command_in}
use Rattle.tdb_openers.specs.ShutOut.{JobMeets}
use Rattle.tdb_openers.specs.Worlds.{World}
use Rattle.tdb_openers.proofs.Checks.AskedNumber.{asks_new}
use Rattle.tdb_openers.proofs.ExplicitLocks.OwnSide.{own_barred}
use Rattle.tdb_openers.proofs.Barred.ShutOut.{IsBarred, may_meet, short_lock}
use Rattle.tdb_openers.proofs.Barred.ShutWorlds.{meets_beside, meets_world, meets_bytes}
use Rattle.tdb_openers.proofs.openers.Openers.turn_shut_out.Goals as goal

-- no job has a step then
never_steps : (f : Form) (job : Job) (holder : ℕ) → JobMeets f job holder Step → ⊥
never_steps f (Jobs.Refused command reply) holder M = cc M
never_steps f (Jobs.Plain doing) holder M = cc M
never_steps f (Jobs.Check checking) holder M = cc M
never_steps f (Jobs.Locking (Locks.Chain key)) holder M = cc M
never_steps f (Jobs.Locking (Locks.ChainNb key)) holder M = cc M
never_steps f (Jobs.Locking (Locks.Unchain key)) holder M = M
never_steps f (Jobs.Locking Locks.All) holder M = cc M
never_steps f (Jobs.Locking Locks.AllRead) holder M = cc M
never_steps f (Jobs.Locking Locks.UnlockAll) holder M = M
never_steps f Jobs.Seqnum holder M = M
never_steps f (Jobs.Walk Walks.First) holder M = M
never_steps f (Jobs.Walk Walks.Next) holder M = M
never_steps f (Jobs.Walk Walks.EndWalk) holder M = cc M
never_steps f (Jobs.Walk Walks.Close) holder M = cc M

pub returns-then-asks_number-clause-asks : goal.returns-then-asks_number-clause-asks
returns-then-asks_number-clause-asks c x t B =
    let asks = subst (λ z. MatchBool z (t.job ≡ Jobs.Seqnum) (t.job ≢ Jobs.Seqnum)) c.if-asks_number.true (c.asks_number.ensures x t B) in
    λ i. record { command = command_in (asks i); steps = asks_new B c.requires.stands.2 asks i }

pub meet-requires-clause-chains : goal.meet-requires-clause-chains
meet-requires-clause-chains c = let W = c.requires.stands.2 in W.sound.chains.some

pub meet-requires-clause-short : goal.meet-requires-clause-short
meet-requires-clause-short c x t locking B is =
    let C = own_barred c.requires.shut c.requires.other B c.requires.stands.2 in
    short_lock C locking is

pub meet-requires-clause-meets : goal.meet-requires-clause-meets
meet-requires-clause-meets c x t B =
    let C = own_barred c.requires.shut c.requires.other B c.requires.stands.2 in
    may_meet C t.job refl (subst (λ z. MatchBool z (t.job ≡ Jobs.Seqnum) (t.job ≢ Jobs.Seqnum)) c.if-asks_number.false (c.asks_number.ensures x t B)) (c.requires.still x t B)

pub returns-clause-turned : goal.returns-clause-turned
returns-clause-turned c img past s x t B O =
    let C : IsBarred c.args.self.now img past s c.args.holder c.args.who x t c.requires.stands.0 c.requires.stands.1 = record { busy = B; other = c.requires.other; shuts = O; stands = c.requires.stands.2 } in
    meets_beside C c.meet.result (c.meet.ensures.meets x t B) (c.meet.ensures.replaced x t B)

pub returns-clause-stands : goal.returns-clause-stands
returns-clause-stands c img size W =
    let x = c.requires.busy.0 in
    let t = c.requires.busy.1 in
    let B = c.requires.busy.2 in
    let C = own_barred c.requires.shut c.requires.other B W in
    meets_world C c.meet.result (c.meet.ensures.meets x t B) (c.meet.ensures.replaced x t B)

pub returns-clause-bytes : goal.returns-clause-bytes
returns-clause-bytes c img F =
    let x = c.requires.busy.0 in
    let t = c.requires.busy.1 in
    let B = c.requires.busy.2 in
    let C = own_barred c.requires.shut c.requires.other B c.requires.stands.2 in
    meets_bytes C c.meet.result (c.meet.ensures.meets x t B) (c.meet.ensures.replaced x t B) img F

pub returns-clause-header : goal.returns-clause-header
returns-clause-header c = let R = c.meet.ensures.replaced c.requires.busy.0 c.requires.busy.1 c.requires.busy.2 in ap (λ (z : World). z.header) R.rest

pub returns-clause-options : goal.returns-clause-options
returns-clause-options c = let R = c.meet.ensures.replaced c.requires.busy.0 c.requires.busy.1 c.requires.busy.2 in ap (λ (z : World). z.options) R.rest

pub returns-clause-others : goal.returns-clause-others
returns-clause-others c = let R = c.meet.ensures.replaced c.requires.busy.0 c.requires.busy.1 c.requires.busy.2 in R.put.others

pub returns-clause-step : goal.returns-clause-step
returns-clause-step c is =
    let t = c.requires.busy.1 in
    let f = form_in c.args.self.now.header in
    never_steps f t.job c.args.holder (subst (JobMeets f t.job c.args.holder) is (c.meet.ensures.meets c.requires.busy.0 t c.requires.busy.2))

pub returns-clause-joined : goal.returns-clause-joined
returns-clause-joined c = let R = c.meet.ensures.replaced c.requires.busy.0 c.requires.busy.1 c.requires.busy.2 in R.put.same_length
