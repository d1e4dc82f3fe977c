-- All plays were taken in a world that was just made or loaded, which was given up then, or they broke off.
use Rattle.std.proofs.Common.{◌≡◌, ◌≤◌, [], ◌∙◌, length, Ok, Err, true, refl, sym, ap, subst, arith}
use Rattle.tdb_disk.specs.Count.{HasCauseOf}
use Rattle.tdb_disk.specs.History.{seen}
use Rattle.tdb_space.specs.Accepted.{AcceptWith}
use Rattle.tdb_space.specs.Form.{form_in}
use Rattle.tdb_space.specs.Pairs.{order_of}
use Rattle.tdb_law.specs.World.{State}
use Rattle.tdb_world.specs.States.{IsStateOf}
use Rattle.tdb_world.specs.Whole.{form_at, options_at}
use Rattle.tdb_gen.specs.declared.fault.GenFault.TheVariants.{Io, Log}
use Rattle.tdb_gen.specs.Generated.{IsFirst, GeneratedOver}
use Rattle.tdb_gen.specs.Taking.{UnlessIo, Place, place}
use Rattle.tdb_gen.proofs.Generating.{accepted, broke_over, broke_cause, broke_quiet, done_over, at_ok, at_err, just_first, three_there}
use Rattle.tdb_gen.proofs.load.generate.Goals as goal
use Rattle.tdb_gen.proofs.load.generate.Goals.{After-take_all}

-- before all plays, and behind them
abbrev start : (g : _) (c : After-take_all g) → Place
start g c = place c.args.world c.new-generation.result.counts (g.L.Logs.logs c.args.logs.now)

abbrev last : (g : _) (c : After-take_all g) → Place
last g c = place c.take_all.new.world c.take_all.new.self.counts (g.L.Logs.logs c.take_all.new.logs)

-- a state of the world
just : (g : _) (c : After-take_all g) → g.D.Disk.tells ≡ true
    → (state : State) × IsStateOf c.args.world.world c.args.world.history state × IsFirst (form_at c.args.world.world) (options_at c.args.world.world) (seen c.args.world.history) state
just g c told = let J = c.requires.begun.1.state told in (J.0, J.1.of_world, just_first c.args.world.world c.args.world.history J.0 J.1)

pub take_all-requires-clause-seed : goal.take_all-requires-clause-seed
take_all-requires-clause-seed g c = (c.args.seed, c.new-generation.ensures.from)

-- they broke off
pub returns-in-Err-clause-generated : goal.returns-in-Err-clause-generated
returns-in-Err-clause-generated g c told =
    let a = (goal.at.returns-in-Err-clause-generated g c).After-take_all in
    let j = just g a told in
    let T = (c.in-Err.ensures.taken c.args.seed c.new-generation.ensures.from).taken in
    let w = c.args.world in
    subst (λ h. GeneratedOver (form_at w.world) (options_at w.world) (seen w.history) c.args.commands c.args.seed (seen h) (g.L.Logs.logs c.args.logs.now) (g.L.Logs.logs c.take_all.new.logs) (Err c.in-Err.fault)) (sym c.close.ensures.history)
    (broke_over (options_at w.world) c.args.commands c.args.seed (start g a) (last g a) j.0 j.2 c.in-Err.fault T.header (T.told told j.0 j.1))

pub returns-in-Err-clause-cause : goal.returns-in-Err-clause-cause
returns-in-Err-clause-cause g c told =
    let a = (goal.at.returns-in-Err-clause-cause g c).After-take_all in
    let j = just g a told in
    let T = (c.in-Err.ensures.taken c.args.seed c.new-generation.ensures.from).taken in
    rw c.close.ensures.faults (broke_cause c.args.world.faults c.take_all.new.world.faults c.in-Err.fault T.rises T.quiet (T.rose told j.0 j.1))

pub returns-in-Err-clause-rises : goal.returns-in-Err-clause-rises
returns-in-Err-clause-rises g c = rw c.close.ensures.faults (c.in-Err.ensures.taken c.args.seed c.new-generation.ensures.from).taken.rises

pub returns-in-Err-clause-quiet : goal.returns-in-Err-clause-quiet
returns-in-Err-clause-quiet g c =
    rw c.close.ensures.faults (broke_quiet c.args.world.faults c.take_all.new.world.faults c.in-Err.fault (c.in-Err.ensures.taken c.args.seed c.new-generation.ensures.from).taken.quiet)

-- all was taken, and what was counted is told
pub returns-in-Ok-clause-generated : goal.returns-in-Ok-clause-generated
returns-in-Ok-clause-generated g c told =
    let a = (goal.at.returns-in-Ok-clause-generated g c).After-take_all in
    let w = c.args.world in
    let j = just g a told in
    let f = form_at w.world in
    let C = c.close-disk.ensures in
    let T = c.in-Ok.ensures.taken c.args.seed c.new-generation.ensures.from in
    let mid = T.parts.mid in
    let three : length mid.over.world.openers.openers ≡ 3 = three_there w.world mid.over.world w.history j.0 j.1 j.2.loaded.joined T.parts.three in
    let img = seen (last g a).over.history in
    let A : AcceptWith f img [] = accepted (options_at w.world) c.args.commands c.args.seed (start g a) (last g a) j.0 j.2 g.D.Disk.tells mid T.parts.joined T.parts.done told j.1 in
    let form : form_in c.args.header.now ≡ f = sym (ap form_in c.requires.header) in
    let told_so = c.summary-told in
    subst (λ h. GeneratedOver f (options_at w.world) (seen w.history) c.args.commands c.args.seed (seen h) (g.L.Logs.logs c.args.logs.now) (g.L.Logs.logs c.take_all.new.logs) told_so.result) (sym (told_so.ensures.history ∙ C.history))
    (done_over (options_at w.world) c.args.commands c.args.seed (start g a) (last g a) j.0 j.2 g.D.Disk.tells mid T.parts.joined T.parts.done told j.1 c.new-generation.ensures.counts three told_so.result
    (λ s e. (
      at_ok told_so.result _ told_so.ensures.commands s e,
      at_ok told_so.result _ told_so.ensures.counts s e,
      subst (λ k. AcceptWith f (seen k) [] → s.live ≡ length (order_of f (seen k))) C.history
          (subst (λ h. AcceptWith h (seen (g.D.Disk.history c.close-disk.result)) [] → s.live ≡ length (order_of h (seen (g.D.Disk.history c.close-disk.result)))) form (at_ok told_so.result _ told_so.ensures.live s e told)) A,
      at_ok told_so.result _ told_so.ensures.length s e ∙ sym (g.met.D.Disk.told_size c.close-disk.result told) ∙ ap (λ k. length (seen k)) C.history,
    ))
    (λ e. at_err told_so.result _ told_so.ensures.fault Log e refl))

pub returns-in-Ok-clause-cause : goal.returns-in-Ok-clause-cause
returns-in-Ok-clause-cause g c told =
    let a = (goal.at.returns-in-Ok-clause-cause g c).After-take_all in
    let w = c.args.world in
    let j = just g a told in
    let C = c.close-disk.ensures in
    let T = c.in-Ok.ensures.taken c.args.seed c.new-generation.ensures.from in
    let A = accepted (options_at w.world) c.args.commands c.args.seed (start g a) (last g a) j.0 j.2 g.D.Disk.tells T.parts.mid T.parts.joined T.parts.done told j.1 in
    let form : form_in c.args.header.now ≡ form_at w.world = sym (ap form_in c.requires.header) in
    subst (λ k. HasCauseOf Io k (g.D.Disk.faults c.summary-told.new.disk) c.summary-told.result) (C.faults ∙ T.taken.quiet)
    (c.summary-told.ensures.cause told (subst (λ k. AcceptWith (form_in c.args.header.now) (seen k) []) (sym C.history) (subst (λ h. AcceptWith h (seen (last g a).over.history) []) (sym form) A)))

pub returns-in-Ok-clause-rises : goal.returns-in-Ok-clause-rises
returns-in-Ok-clause-rises g c =
    let one = (c.in-Ok.ensures.taken c.args.seed c.new-generation.ensures.from).taken.rises in
    let two = c.close-disk.ensures.faults in
    let three = c.summary-told.ensures.rises in
    omega (arith, one, two, three)

pub returns-in-Ok-clause-quiet : goal.returns-in-Ok-clause-quiet
returns-in-Ok-clause-quiet g c =
    let T = c.in-Ok.ensures.taken c.args.seed c.new-generation.ensures.from in
    subst (λ k. UnlessIo c.summary-told.result (g.D.Disk.faults c.summary-told.new.disk ≡ k)) (c.close-disk.ensures.faults ∙ T.taken.quiet) c.summary-told.ensures.quiet
