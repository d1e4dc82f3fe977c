-- Who stands at the place of a number has it.
use Rattle.std.proofs.Common.{◌≡◌, ◌<◌, ◌-◌, length, slice_index_or, subst, arith}
use Rattle.tdb_openers.specs.Worlds.{World, IsNumber}
use Rattle.tdb_openers.proofs.Joining.Putting.{has_number}
use Rattle.tdb_openers.proofs.openers.Openers.opener.Goals as goal

pub returns-clause-number : goal.returns-clause-number
returns-clause-number c =
    let d = c.in-Some.opener.now in
    let w : World = record { header = c.self.inside.header; options = c.self.inside.options; openers = c.self.inside.list.items; table = c.self.inside.locks } in
    let xs = c.deref.ensures.value in
    let low = subst (λ l. c.args.who - 1 < length l) xs c.in-Some.ensures.lookup.3.0 in
    let item = subst (λ l. d ≡ slice_index_or l (c.args.who - 1) d) xs c.in-Some.ensures.lookup.1 in
    let some = c.if-who-eq0.false in
    subst (λ z. IsNumber z c.args.who d) c.self.view_is (has_number w c.args.who d (omega (arith, some)) low item)
