-- The opener that lets go of all records is the one with the number, and the world stands as before.
use Rattle.std.proofs.Common.{◌-◌, None, sym, ap, subst, ◌∙◌}
use Rattle.tdb_walk.specs.declared.walk.Walk.{Walk}
use Rattle.tdb_openers.specs.declared.opener.Opener.{Opener}
use Rattle.tdb_openers.specs.Worlds.{IsNumber, Stands}
use Rattle.tdb_openers.proofs.ExplicitLocks.Aside.{alone_there, releases, stands_with, bytes_with, left_apart}
use Rattle.tdb_openers.proofs.Joining.Putting.{spots_still}
use Rattle.tdb_openers.proofs.openers.Openers.let_go_of_records.Goals as goal

pub let_go_of_records-requires : goal.let_go_of_records-requires
let_go_of_records-requires c =
    let e = c.self.view_is in
    let B = c.requires.bare in
    let S = c.requires.stands in
    record { alone = alone_there _ c.args.who B.0 (subst (λ w. IsNumber w c.args.who B.0) (sym e) B.1) B.2 S.0 S.1 (subst (λ w. Stands w S.0 S.1) (sym e) S.2) }

abbrev walk_of : Opener → Walk
walk_of x = x.walk

pub invariant_of-self : goal.invariant_of-self
invariant_of-self c = c.self.invariant ∙ sym (spots_still c.self.inside.list.items (c.args.who - 1) c.in-Some.opener.now c.let_go_of_records.new.self c.in-Some.ensures.item.1 (ap walk_of c.let_go_of_records.ensures.opener))

pub returns-clause-let_go : goal.returns-clause-let_go
returns-clause-let_go c x N =
    releases (record { header = c.self.inside.header; options = c.self.inside.options; openers = c.self.inside.list.items; table = c.self.inside.locks }) c.args.self.now c.self.view_is c.args.who x
    c.requires.bare.0 c.requires.bare.1 c.requires.bare.2 N c.requires.stands.0 c.requires.stands.1 c.requires.stands.2 c.in-Some.opener.now c.let_go_of_records.new.self c.let_go_of_records.new.locks c.in-Some.ensures.item.1
    c.let_go_of_records.ensures.opener c.let_go_of_records.ensures.let_go

pub returns-clause-stands : goal.returns-clause-stands
returns-clause-stands c img size W =
    let B = c.requires.bare in
    stands_with c.args.self.now c.args.who B.0 B.1 B.2 None tt _ (returns-clause-let_go c B.0 B.1) img (λ o b ne. left_apart c.args.self.now.table o b) size W

pub returns-clause-bytes : goal.returns-clause-bytes
returns-clause-bytes c img F =
    let B = c.requires.bare in
    bytes_with c.args.self.now c.args.who B.0 B.1 B.2 None tt _ (returns-clause-let_go c B.0 B.1) img F
