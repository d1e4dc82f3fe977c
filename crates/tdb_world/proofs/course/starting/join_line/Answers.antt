-- A join is one of the law, and so is each refusal.
use Rattle.std.proofs.Common.{refl, sym, subst, arith}
use Rattle.tdb_law.specs.Lines.{Line as LawLine}
use Rattle.tdb_law.specs.Plays.Gives.{gives_answer, gives_opener}
use Rattle.tdb_commands.specs.InLaw.{law_opener}
use Rattle.tdb_world.specs.States.{IsStateOf}
use Rattle.tdb_world.proofs.Courses.Standings.{joined_in}
use Rattle.tdb_world.proofs.course.starting.join_line.Goals as goal

pub returns-in-Ok-clause-gives : goal.returns-in-Ok-clause-gives
returns-in-Ok-clause-gives c h state is =
    let J = c.in-Ok.ensures.joins h state is in
    (J.0, J.1, gives_opener (law_opener c.in-Ok.who) refl refl J.2)

pub returns-in-Err-Blocked-clause-gives : goal.returns-in-Err-Blocked-clause-gives
returns-in-Err-Blocked-clause-gives c h state is =
    let blocked = c.in-Err-Blocked.ensures.blocked c.in-Err-Blocked.owner c.in-Err-Blocked.field-0-is in
    let few = blocked.0 in
    let joined = joined_in c.args.world.now h state is in (
      state,
      subst (λ w. IsStateOf w h state) (sym c.in-Err-Blocked.ensures.err) is,
      gives_answer (LawLine.JoinBlocked (law_opener c.in-Err-Blocked.owner)) refl refl (omega (arith, few, joined), blocked.1 h state is),
    )

pub returns-in-Err-Many-clause-gives : goal.returns-in-Err-Many-clause-gives
returns-in-Err-Many-clause-gives c h state is =
    let many = (c.in-Err-Many.ensures.many c.in-Err-Many.field-0-0 c.in-Err-Many.field-0-is).1 in
    let joined = joined_in c.args.world.now h state is in
    (state, subst (λ w. IsStateOf w h state) (sym c.in-Err-Many.ensures.err) is, gives_answer LawLine.JoinMany refl refl (omega (arith, many, joined)))

pub returns-in-Err-Memory-clause-gives : goal.returns-in-Err-Memory-clause-gives
returns-in-Err-Memory-clause-gives c h state is = (state, subst (λ w. IsStateOf w h state) (sym c.in-Err-Memory.ensures.err) is, gives_answer LawLine.JoinMemory refl refl tt)
