-- The opener in whose place one is put that has died is the one with the number.
use Rattle.std.proofs.Common.{◌-◌, ◌<◌, length, set, slice_set, sym, ap, subst, ◌∙◌}
use Rattle.tdb_walk.specs.Spots.{spot_number}
use Rattle.tdb_openers.specs.declared.opener.Opener.{Opener}
use Rattle.tdb_openers.specs.Openers.{spots_of}
use Rattle.tdb_openers.specs.Died.{HasDied}
use Rattle.tdb_openers.specs.Worlds.{World, IsNumber}
use Rattle.tdb_openers.proofs.Joining.Deaths.{has_died}
use Rattle.tdb_openers.proofs.Joining.Putting.{has_spot}
use Rattle.tdb_openers.proofs.Walks.WalkStepping.{spots_put}
use Rattle.tdb_openers.proofs.openers.Openers.strip.Goals as goal

pub set-requires : goal.set-requires
set-requires c =
    let N = subst (λ w. IsNumber w c.args.who c.requires.0) (sym c.self.view_is) c.requires.1 in
    subst (λ l. c.args.who - 1 < length l) (sym c.self.invariant) (has_spot c.self.inside.list.items c.args.who N.place c.requires.0 N.counted N.there)

pub invariant_of-self : goal.invariant_of-self
invariant_of-self c =
    let xs = c.self.inside.list.items in
    c.set.ensures
    ∙ (ap (λ l. set l (c.args.who - 1) 0) c.self.invariant
    ∙ (ap (λ n. set (spots_of xs) (c.args.who - 1) n) (sym (ap (λ (z : Opener). spot_number z.walk.cursor.place) c.bare.ensures)) ∙ sym (spots_put xs (c.args.who - 1) c.bare.result)))

pub returns : goal.returns
returns c =
    let w : World = record { header = c.self.inside.header; options = c.self.inside.options; openers = c.self.inside.list.items; table = c.self.inside.locks } in
    let N = subst (λ z. IsNumber z c.args.who c.requires.0) (sym c.self.view_is) c.requires.1 in
    subst (λ z. HasDied z c.args.who (record w { openers = slice_set w.openers (c.args.who - 1) c.bare.result; table = c.drop_owner.new.self })) c.self.view_is
    (has_died w c.args.who c.requires.0 c.bare.result c.drop_owner.new.self N c.bare.ensures c.drop_owner.ensures.gone c.drop_owner.ensures.others)
