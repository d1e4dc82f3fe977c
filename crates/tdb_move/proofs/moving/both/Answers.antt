-- A world wasn't added, or both were.
use Rattle.std.proofs.Common.{ap, refl, subst, sym, ◌∙◌}
use Rattle.tdb_group.specs.Calls.{Added, NotAdded}
use Rattle.tdb_group.specs.Group.{GroupState}
use Rattle.tdb_group.proofs.Files.{loaded_stays}
use Rattle.tdb_move.specs.Parts.{NotBoth}
use Rattle.tdb_move.proofs.Whole.{both_began, first_not, last_one, second_not}
use Rattle.tdb_move.proofs.moving.both.Goals as goal

pub returns-in-Ok-clause-began : goal.returns-in-Ok-clause-began
returns-in-Ok-clause-began g c =
    both_began g.D.Disk.tells c.args.from c.args.into c.add.new.self c.add-2.new.self c.in_default.field-0 c.in-Ok.field-0
    (subst (λ z. Added g.D.Disk.tells c.args.into z c.add.new.self c.in_default.field-0) c.new-group.ensures c.in_default.ensures.added) c.in-Ok.ensures.added

pub returns-in-Err-clause-not : goal.returns-in-Err-clause-not
returns-in-Err-clause-not g c =
    subst (NotBoth g.D.Disk.tells c.args.from c.args.into c.args.from c.in-Err.into) (sym c.from.ensures)
    (first_not g.D.Disk.tells c.args.from c.args.into c.in-Err.into c.add.new.self c.in-Err.stop refl
    (subst (λ z. NotAdded g.D.Disk.tells c.args.into c.in-Err.into z c.add.new.self c.in-Err.stop) c.new-group.ensures c.in-Err.ensures.refused)
    (λ told s J safe. loaded_stays c.args.from s J safe))

pub returns-in-Some-clause-not : goal.returns-in-Some-clause-not
returns-in-Some-clause-not g c =
    let A = subst (λ z. Added g.D.Disk.tells c.args.into z c.add.new.self c.in_default.field-0) c.new-group.ensures c.in_default.ensures.added in
    let N = c.in-Err-add.ensures.refused in
    subst (NotBoth g.D.Disk.tells c.args.from c.args.into c.in-Err-add.from c.in-Some.into) (sym c.from-in-Err-add.ensures)
    (second_not g.D.Disk.tells c.args.from c.args.into c.in-Err-add.from c.add.new.self c.add-2.new.self c.in_default.field-0 c.in-Err-add.stop A N c.in-Some.into
    (last_one c.pop.new.self c.in-Some.into A.begun (sym (c.end-worlds.ensures ∙ ap (λ (z : GroupState). z.files) N.same ∙ ap (λ (z : GroupState). z.files) A.files) ∙ c.in-Some.ensures.some)))
