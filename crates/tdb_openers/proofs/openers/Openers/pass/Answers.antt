-- The opener that takes the turn is the one with the number.
use Rattle.std.proofs.Common.{◌-◌, IsTrue, refl, sym, ap, subst, ◌∙◌}
use Rattle.std.proofs.lemmas.Result.{IfOk-weaker}
use Rattle.tdb_walk.specs.Cursors.{spot_of}
use Rattle.tdb_openers.specs.declared.opener.Opener.{Opener}
use Rattle.tdb_openers.specs.ShutOut.{HasPassed}
use Rattle.tdb_openers.specs.Worlds.{World}
use Rattle.tdb_openers.proofs.Joining.Putting.{is_numbered, off_number, replaced, spots_alike}
use Rattle.tdb_openers.proofs.openers.Openers.pass.Goals as goal

pub move_shut_out-requires : goal.move_shut_out-requires
move_shut_out-requires g c =
    let v : World = record { header = c.self.inside.header; options = c.self.inside.options; openers = c.self.inside.list.items; table = c.self.inside.locks } in
    let x = c.requires.there.0 in
    let N = c.requires.there.1 in
    record { off = ap (λ (z : Opener). spot_of z.walk.cursor.place) (is_numbered v c.args.self.now c.self.view_is c.args.who x c.in-Some.opener.now N c.in-Some.ensures.item.1) ∙ c.requires.off x N }

pub invariant_of-self : goal.invariant_of-self
invariant_of-self g c =
    let v : World = record { header = c.self.inside.header; options = c.self.inside.options; openers = c.self.inside.list.items; table = c.self.inside.locks } in
    let x = c.requires.there.0 in
    let N = c.requires.there.1 in
    let d : Opener = c.in-Some.opener.now in
    let off = ap (λ (z : Opener). spot_of z.walk.cursor.place) (is_numbered v c.args.self.now c.self.view_is c.args.who x d N c.in-Some.ensures.item.1) ∙ c.requires.off x N in
    c.self.invariant
    ∙ sym (spots_alike c.self.inside.list.items (c.args.who - 1) d _ c.in-Some.ensures.item.1
    (off_number c.move_shut_out.new.self.walk.cursor.place c.move_shut_out.ensures.off ∙ sym (off_number d.walk.cursor.place off)))

pub returns-clause-passed : goal.returns-clause-passed
returns-clause-passed g c =
    let v : World = record { header = c.self.inside.header; options = c.self.inside.options; openers = c.self.inside.list.items; table = c.self.inside.locks } in
    let d : Opener = c.in-Some.opener.now in
    let y : Opener = c.move_shut_out.new.self in
    let f = g.S.Space.form c.args.s.now in
    let img = g.S.Space.image c.args.s.now in
    let size = g.S.Space.size c.args.s.now in
    IfOk-weaker c.move_shut_out.result _ _
    (λ turn P x N. (let same = is_numbered v c.args.self.now c.self.view_is c.args.who x d N c.in-Some.ensures.item.1 in record {
      later = y;
      passed = subst (λ z. HasPassed (IsTrue g.S.Space.tells) f img size c.args.holder z y turn) same P;
      replaced = replaced v c.args.self.now c.self.view_is c.args.who x d N c.in-Some.ensures.item.1 y y refl;
    })) c.move_shut_out.ensures.passed
