-- A busy opener takes a turn; another has nothing to do.
use Rattle.std.proofs.Common.{refl, inl, inr}
use Rattle.tdb_law.specs.Plays.{Play as LawPlay}
use Rattle.tdb_commands.specs.declared.line.Line.TheVariants as Lines
use Rattle.tdb_commands.specs.InLaw.{law_opener}
use Rattle.tdb_world.specs.Courses.Told.{IsAnswered}
use Rattle.tdb_world.proofs.Courses.Standings.{free_live, free_task}
use Rattle.tdb_world.proofs.Courses.UnreportedTurns.{nothing_to_do}
use Rattle.tdb_world.proofs.course.unreported.turn_unreported.Goals as goal

pub busy_turn-requires-clause-busy : goal.busy_turn-requires-clause-busy
busy_turn-requires-clause-busy g c = c.standing.ensures.busy c.in-Busy.is

pub returns-in-Absent-clause-led : goal.returns-in-Absent-clause-led
returns-in-Absent-clause-led g c =
    let w = c.args.world.now in
    let h = g.D.Disk.history c.args.d.now in
    let size = g.D.Disk.size c.args.d.now in
    let faults = g.D.Disk.faults c.args.d.now in
    let who = c.args.who in
    let logs = g.L.Logs.logs c.args.logs.now in
    elim c.in-Absent.is [
      | inl absent ↦
          let said : IsAnswered w (LawPlay.TakeTurn (law_opener who)) (Lines.Absent who) = λ h state is. (refl, c.standing.ensures.absent absent h state is) in
          nothing_to_do g.D.Disk.tells w h size faults who (Lines.Absent who) logs c.requires.fits said refl (logs, refl, refl) (inr refl)
      | inr idle ↦
          let free = c.standing.ensures.idle idle in
          let said : IsAnswered w (LawPlay.TakeTurn (law_opener who)) (Lines.Idle who) =
          λ h state is. (refl, free_live w _ _ c.requires.fits who h state is free, free_task w _ _ c.requires.fits who h state is free) in
          nothing_to_do g.D.Disk.tells w h size faults who (Lines.Idle who) logs c.requires.fits said refl (logs, refl, refl) (inl refl)
    ]
