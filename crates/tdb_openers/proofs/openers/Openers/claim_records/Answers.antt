-- The opener that claims all records is the one with the number.
use Rattle.std.proofs.Common.{◌-◌, sym, subst, ◌∙◌}
use Rattle.tdb_openers.specs.Aside.{AreFree, AreBarred}
use Rattle.tdb_openers.specs.Worlds.{IsNumber, Stands}
use Rattle.tdb_openers.proofs.ExplicitLocks.Aside.{are_free, are_barred, claims, if_refused, on_both, on_one}
use Rattle.tdb_openers.proofs.Joining.Putting.{spots_still}
use Rattle.tdb_openers.proofs.openers.Openers.claim_records.Goals as goal

pub invariant_of-self : goal.invariant_of-self
invariant_of-self c = c.self.invariant ∙ sym (spots_still c.self.inside.list.items (c.args.who - 1) c.in-Some.opener.now c.lock_records.new.self c.in-Some.ensures.item.1 c.lock_records.ensures.walk)

pub returns-clause-taken : goal.returns-clause-taken
returns-clause-taken c =
    on_both c.lock_records.result _ _ _
    (λ opener taken x N. claims (record { header = c.self.inside.header; options = c.self.inside.options; openers = c.self.inside.list.items; table = c.self.inside.locks }) c.args.self.now c.self.view_is c.args.who x
    c.requires.bare.0 c.requires.bare.1 c.requires.bare.2 N c.requires.stands.0 c.requires.stands.1 c.requires.stands.2 c.in-Some.opener.now c.lock_records.new.self c.lock_records.new.locks c.in-Some.ensures.item.1 c.args.kind opener taken)
    c.lock_records.ensures.opener c.lock_records.ensures.taken

pub returns-clause-free : goal.returns-clause-free
returns-clause-free c =
    let e = c.self.view_is in
    on_one c.lock_records.result _ _
    (λ free. subst (λ w. AreFree w c.args.who c.args.kind) e (are_free _ c.args.who c.requires.bare.0 (subst (λ w. IsNumber w c.args.who c.requires.bare.0) (sym e) c.requires.bare.1) c.requires.bare.2 c.args.kind free))
    c.lock_records.ensures.free

pub returns-clause-barred : goal.returns-clause-barred
returns-clause-barred c =
    let e = c.self.view_is in
    if_refused c.lock_records.result _ _
    (λ refusal way. subst (λ w. AreBarred w c.args.who c.args.kind refusal) e
    (are_barred _ c.args.who c.requires.bare.0 (subst (λ w. IsNumber w c.args.who c.requires.bare.0) (sym e) c.requires.bare.1) c.requires.bare.2
    c.requires.stands.0 c.requires.stands.1 (subst (λ w. Stands w c.requires.stands.0 c.requires.stands.1) (sym e) c.requires.stands.2) c.args.kind refusal way))
    c.lock_records.ensures.refused
