-- The opener that takes the turn is the one with the number.
use Rattle.std.proofs.Common.{◌-◌, ◌≡◌, Some, sym, ap, subst, ◌∙◌}
use Rattle.tdb_openers.specs.declared.opener.Opener.{Opener}
use Rattle.tdb_openers.specs.declared.job.Task.{Task}
use Rattle.tdb_space.specs.Form.{form_in}
use Rattle.tdb_openers.specs.ShutOut.{JobMeets, opener_after}
use Rattle.tdb_openers.specs.Worlds.{World}
use Rattle.tdb_openers.proofs.Barred.Meeting.{kept_walk}
use Rattle.tdb_openers.proofs.Joining.Putting.{spots_still}
use Rattle.tdb_openers.proofs.Joining.Putting.{is_numbered, replaced, busy_there}
use Rattle.tdb_openers.proofs.openers.Openers.meet.Goals as goal

pub turn_shut_out-requires-clause-busy : goal.turn_shut_out-requires-clause-busy
turn_shut_out-requires-clause-busy c =
    let B = c.requires.busy.2 in
    let v : World = record { header = c.self.inside.header; options = c.self.inside.options; openers = c.self.inside.list.items; table = c.self.inside.locks } in
    (c.requires.busy.1, ap (λ (z : Opener). z.task) (is_numbered v c.args.self.now c.self.view_is c.args.who c.requires.busy.0 c.in-Some.opener.now B.number c.in-Some.ensures.item.1) ∙ B.busy)

pub turn_shut_out-requires-clause-short : goal.turn_shut_out-requires-clause-short
turn_shut_out-requires-clause-short c t locking has is =
    let x = c.requires.busy.0 in
    let B = c.requires.busy.2 in
    let v : World = record { header = c.self.inside.header; options = c.self.inside.options; openers = c.self.inside.list.items; table = c.self.inside.locks } in
    c.requires.short x t locking (busy_there v c.args.self.now c.self.view_is c.args.who x c.in-Some.opener.now B.number c.in-Some.ensures.item.1 t has) is

pub turn_shut_out-requires-clause-meets : goal.turn_shut_out-requires-clause-meets
turn_shut_out-requires-clause-meets c t has =
    let x = c.requires.busy.0 in
    let B = c.requires.busy.2 in
    let v : World = record { header = c.self.inside.header; options = c.self.inside.options; openers = c.self.inside.list.items; table = c.self.inside.locks } in
    c.requires.meets x t (busy_there v c.args.self.now c.self.view_is c.args.who x c.in-Some.opener.now B.number c.in-Some.ensures.item.1 t has)

pub invariant_of-self : goal.invariant_of-self
invariant_of-self c =
    let B = c.requires.busy.2 in
    let v : World = record { header = c.self.inside.header; options = c.self.inside.options; openers = c.self.inside.list.items; table = c.self.inside.locks } in
    let d : Opener = c.in-Some.opener.now in
    let t : Task = c.requires.busy.1 in
    let has : d.task ≡ Some t = ap (λ (z : Opener). z.task) (is_numbered v c.args.self.now c.self.view_is c.args.who c.requires.busy.0 d B.number c.in-Some.ensures.item.1) ∙ B.busy in
    c.self.invariant
    ∙ sym (spots_still c.self.inside.list.items (c.args.who - 1) d _ c.in-Some.ensures.item.1
    (ap (λ (z : Opener). z.walk) (c.turn_shut_out.ensures.after t has) ∙ kept_walk c.turn_shut_out.result t.job d))

pub returns-clause-meets : goal.returns-clause-meets
returns-clause-meets c x t B =
    let v : World = record { header = c.self.inside.header; options = c.self.inside.options; openers = c.self.inside.list.items; table = c.self.inside.locks } in
    let d : Opener = c.in-Some.opener.now in
    let has : d.task ≡ Some t = ap (λ (z : Opener). z.task) (is_numbered v c.args.self.now c.self.view_is c.args.who x d B.number c.in-Some.ensures.item.1) ∙ B.busy in
    subst (λ (w : World). JobMeets (form_in w.header) t.job c.args.holder c.turn_shut_out.result) c.self.view_is (c.turn_shut_out.ensures.meets t has)

pub returns-clause-replaced : goal.returns-clause-replaced
returns-clause-replaced c x t B =
    let v : World = record { header = c.self.inside.header; options = c.self.inside.options; openers = c.self.inside.list.items; table = c.self.inside.locks } in
    let d : Opener = c.in-Some.opener.now in
    let same = is_numbered v c.args.self.now c.self.view_is c.args.who x d B.number c.in-Some.ensures.item.1 in
    replaced v c.args.self.now c.self.view_is c.args.who x d B.number c.in-Some.ensures.item.1 (opener_after c.turn_shut_out.result t.job x) c.turn_shut_out.new.self
    (c.turn_shut_out.ensures.after t (ap (λ (z : Opener). z.task) same ∙ B.busy) ∙ ap (opener_after c.turn_shut_out.result t.job) same)
