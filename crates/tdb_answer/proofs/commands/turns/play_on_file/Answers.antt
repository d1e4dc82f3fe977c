use Rattle.std.proofs.Common.{◌≡◌, [], ◌<◌, true, Ok, Err, Some, refl, sym, ◌∙◌, ap, arith}
use Rattle.std.specs.Prelude.{OnErr}
use Rattle.std.proofs.lemmas.Bool.{and_parts}
use Rattle.tdb_disk.specs.Count.{Rose}
use Rattle.tdb_disk.specs.History.{began}
use Rattle.tdb_disk.specs.declared.files.Take.TheVariants.{Existing, ReadOnly, New}
use Rattle.tdb_answer.specs.Stops.{SaysAllLines}
use Rattle.tdb_answer.proofs.Acting.{rose_earlier}
use Rattle.tdb_answer.proofs.Held.{held_there}
use Rattle.tdb_answer.proofs.StopsTurning.{held_stops, same_stops, stops_when}
use Rattle.tdb_answer.proofs.Turning.{cause_played, left_played, began_played, all_played, heard_played, untaken_plays, untaken_heard}
use Rattle.tdb_answer.proofs.commands.turns.play_on_file.Goals as goal
use Rattle.tdb_answer.proofs.commands.turns.play_on_file.Goals.{After-take, After-give, then-options, else-options}

-- it isn't to be made
not_new : (g : _) (c : After-take g) → c.if-options.how ≡ New → ⊥
not_new g c is = elim c.if-options.branch [
  | then-options w ↦ (let wrong : ReadOnly ≡ New = sym w.how-is ∙ is in cc)
  | else-options w ↦ (let wrong : Existing ≡ New = sym w.how-is ∙ is in cc)
]

not_new_given : (g : _) (c : After-give g) → c.if-options.how ≡ New → ⊥
not_new_given g c is = elim c.if-options.branch [
  | then-options w ↦ (let wrong : ReadOnly ≡ New = sym w.how-is ∙ is in cc)
  | else-options w ↦ (let wrong : Existing ≡ New = sym w.how-is ∙ is in cc)
]

-- the file that was taken is what was held at its name
there : (g : _) (c : After-give g) → g.F.D.Disk.tells ≡ true → g.F.Files.held c.args.files.now c.args.name.now ≡ Some (g.F.D.Disk.history c.in-Ok.disk)
there g c told = held_there (g.F.Files.held c.args.files.now c.args.name.now) (began []) (g.F.D.Disk.history c.in-Ok.disk)
    (λ none. let wrong = (c.in-Ok.ensures.missing told).1 (none, not_new_given g c) in cc) (c.in-Ok.ensures.disk told)

-- a call that failed on its disk counts among those of the files
rose : (g : _) (c : After-give g) → Rose (g.F.D.Disk.faults c.in-Ok.disk) (g.F.D.Disk.faults c.play_on_disk-disk.result.0) → Rose (g.F.Files.faults c.args.files.now) (g.F.Files.faults c.give.new.self)
rose g c failed =
    let some : 0 < g.F.D.Disk.faults c.play_on_disk-disk.result.0 = omega (arith, failed, c.in-Ok.ensures.disk_faults) in
    rose_earlier (g.F.Files.faults c.args.files.now) (g.F.Files.faults c.take.new.self) (g.F.Files.faults c.give.new.self) c.in-Ok.ensures.cause.never_falls (c.give.ensures.faulty some)

pub returns-in-Ok-clause-cause : goal.returns-in-Ok-clause-cause
returns-in-Ok-clause-cause g c told =
    let a = (goal.at.returns-in-Ok-clause-cause g c).After-give in
    cause_played c.args.options.now c.args.name.now (g.F.D.Disk.history c.in-Ok.disk) (g.F.D.Disk.history c.play_on_disk-disk.result.0) c.args.plays.now g.K.Sink.tells (g.K.Sink.written c.args.output.now) (g.K.Sink.written c.play_on_disk-disk.new.output) (g.L.Logs.logs c.args.logs.now) (g.L.Logs.logs c.play_on_disk-disk.new.logs)
    (g.F.Files.held c.args.files.now c.args.name.now) (there g a told) (g.F.Files.faults c.args.files.now) (g.F.Files.faults c.give.new.self) c.play_on_disk-disk.result.1 (c.play_on_disk-disk.ensures.played told) (λ is. rose g a (c.play_on_disk-disk.ensures.counted.failed is told))

pub returns-in-Ok-clause-left : goal.returns-in-Ok-clause-left
returns-in-Ok-clause-left g c told =
    left_played c.args.options.now c.args.name.now (g.F.D.Disk.history c.in-Ok.disk) (g.F.D.Disk.history c.play_on_disk-disk.result.0) c.args.plays.now g.K.Sink.tells (g.K.Sink.written c.args.output.now) (g.K.Sink.written c.play_on_disk-disk.new.output) (g.L.Logs.logs c.args.logs.now) (g.L.Logs.logs c.play_on_disk-disk.new.logs)
    (g.F.Files.held c.args.files.now c.args.name.now) (there g ((goal.at.returns-in-Ok-clause-left g c).After-give) told) (g.F.Files.held c.give.new.self c.args.name.now) c.play_on_disk-disk.result.1 (c.give.ensures.held told) (c.play_on_disk-disk.ensures.played told)

pub returns-in-Ok-clause-began : goal.returns-in-Ok-clause-began
returns-in-Ok-clause-began g c both =
    let parts = and_parts g.K.Sink.tells g.F.D.Disk.tells both in
    began_played c.args.options.now c.args.name.now (g.F.D.Disk.history c.in-Ok.disk) (g.F.D.Disk.history c.play_on_disk-disk.result.0) c.args.plays.now g.K.Sink.tells (g.K.Sink.written c.args.output.now) (g.K.Sink.written c.play_on_disk-disk.new.output) (g.L.Logs.logs c.args.logs.now) (g.L.Logs.logs c.play_on_disk-disk.new.logs)
    (g.F.Files.held c.args.files.now c.args.name.now) (there g ((goal.at.returns-in-Ok-clause-began g c).After-give) parts.1) c.play_on_disk-disk.result.1 parts.0 (c.play_on_disk-disk.ensures.played parts.1)

pub returns-in-Ok-clause-whole : goal.returns-in-Ok-clause-whole
returns-in-Ok-clause-whole g c told is =
    all_played c.args.options.now c.args.name.now (g.F.D.Disk.history c.in-Ok.disk) (g.F.D.Disk.history c.play_on_disk-disk.result.0) c.args.plays.now g.K.Sink.tells (g.K.Sink.written c.args.output.now) (g.K.Sink.written c.play_on_disk-disk.new.output) (g.L.Logs.logs c.args.logs.now) (g.L.Logs.logs c.play_on_disk-disk.new.logs)
    (g.F.Files.held c.args.files.now c.args.name.now) (there g ((goal.at.returns-in-Ok-clause-whole g c).After-give) told) (g.F.Files.held c.give.new.self c.args.name.now) c.play_on_disk-disk.result.1 (c.give.ensures.held told) (c.play_on_disk-disk.ensures.played told) is

pub returns-in-Ok-clause-stops : goal.returns-in-Ok-clause-stops
returns-in-Ok-clause-stops g c told =
    let a = (goal.at.returns-in-Ok-clause-stops g c).After-give in
    let held = g.F.Files.held c.args.files.now c.args.name.now in
    let given = g.F.Files.held c.give.new.self c.args.name.now in
    let before = g.K.Sink.written c.args.output.now in
    let after = g.K.Sink.written c.play_on_disk-disk.new.output in
    let done = SaysAllLines c.play_on_disk-disk.result.1 in
    let unfailed : Type 0 = OnErr c.play_on_disk-disk.result.1 ⊥ in
    let sound : Type 0 = Rose (g.F.D.Disk.faults c.in-Ok.disk) (g.F.D.Disk.faults c.play_on_disk-disk.result.0) → ⊥ in
    let calm : Type 0 = Rose (g.F.Files.faults c.args.files.now) (g.F.Files.faults c.give.new.self) → ⊥ in
    stops_when c.args.options.now c.args.plays.now held given g.K.Sink.tells done unfailed sound done unfailed calm before after (λ so. so) (λ so. so) (λ so failed. so (rose g a failed))
    (held_stops c.args.options.now c.args.plays.now held given g.K.Sink.tells done unfailed sound (g.F.D.Disk.history c.in-Ok.disk) (g.F.D.Disk.history c.play_on_disk-disk.result.0) before after (there g a told) (c.give.ensures.held told) (c.play_on_disk-disk.ensures.stops told))

pub returns-in-Ok-clause-logged : goal.returns-in-Ok-clause-logged
returns-in-Ok-clause-logged g c told =
    heard_played c.args.options.now c.args.name.now (g.F.D.Disk.history c.in-Ok.disk) (g.F.D.Disk.history c.play_on_disk-disk.result.0) c.args.plays.now g.K.Sink.tells (g.K.Sink.written c.args.output.now) (g.K.Sink.written c.play_on_disk-disk.new.output) (g.L.Logs.logs c.args.logs.now) (g.L.Logs.logs c.play_on_disk-disk.new.logs)
    (g.F.Files.held c.args.files.now c.args.name.now) (there g ((goal.at.returns-in-Ok-clause-logged g c).After-give) told) c.play_on_disk-disk.result.1 (c.play_on_disk-disk.ensures.played told)

-- the file wasn't taken
pub returns-in-Err-clause-logged : goal.returns-in-Err-clause-logged
returns-in-Err-clause-logged g c told =
    untaken_heard c.args.options.now c.args.name.now (g.F.Files.held c.args.files.now c.args.name.now) c.in-Err.refusal c.untaken.result
    (λ is. not_new g ((goal.at.returns-in-Err-clause-logged g c).After-take) (c.in-Err.ensures.there_how (ap Err is))) (λ is. ((c.in-Err.ensures.missing told).0 (ap Err is)).0)
    _ _ refl c.untaken.ensures

pub returns-in-Err-clause-cause : goal.returns-in-Err-clause-cause
returns-in-Err-clause-cause g c told =
    untaken_plays c.args.options.now c.args.name.now (g.F.Files.held c.args.files.now c.args.name.now) c.in-Err.refusal c.untaken.result
    (λ is. not_new g ((goal.at.returns-in-Err-clause-cause g c).After-take) (c.in-Err.ensures.there_how (ap Err is))) (λ is. ((c.in-Err.ensures.missing told).0 (ap Err is)).0)
    _ _ (λ is. c.in-Err.ensures.cause.failed is) c.untaken.ensures

pub returns-in-Err-clause-stops : goal.returns-in-Err-clause-stops
returns-in-Err-clause-stops g c told =
    same_stops c.args.options.now c.args.plays.now (g.F.Files.held c.args.files.now c.args.name.now) (g.F.Files.held c.take.new.self c.args.name.now) g.K.Sink.tells _ _ _ (g.K.Sink.written c.args.output.now) (c.in-Err.ensures.refused_held c.args.name.now)
