-- The opener that loses its command is the one with the number.
use Rattle.std.proofs.Common.{◌-◌, None, refl, sym, ap, ◌∙◌}
use Rattle.tdb_openers.specs.declared.opener.Opener.{Opener}
use Rattle.tdb_openers.specs.Worlds.{World}
use Rattle.tdb_openers.proofs.Joining.Putting.{spots_still}
use Rattle.tdb_openers.proofs.Joining.Putting.{is_numbered, replaced}
use Rattle.tdb_openers.proofs.openers.Openers.drop_task.Goals as goal

pub invariant_of-self : goal.invariant_of-self
invariant_of-self c = c.self.invariant ∙ sym (spots_still c.self.inside.list.items (c.args.who - 1) c.in-Some.opener.now _ c.in-Some.ensures.item.1 refl)

pub returns : goal.returns
returns c x N =
    let v : World = record { header = c.self.inside.header; options = c.self.inside.options; openers = c.self.inside.list.items; table = c.self.inside.locks } in
    let d : Opener = c.in-Some.opener.now in
    let same = is_numbered v c.args.self.now c.self.view_is c.args.who x d N c.in-Some.ensures.item.1 in
    replaced v c.args.self.now c.self.view_is c.args.who x d N c.in-Some.ensures.item.1 (record x { task = None }) (record d { task = None }) (ap (λ (z : Opener). record z { task = None }) same)
