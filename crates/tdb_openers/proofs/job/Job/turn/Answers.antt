-- Each arm does what its kind of turn says.
use Rattle.std.proofs.Common.{None, [], ◌<◌, false, refl, sym, ◌∙◌, ap, subst, arith, ◌≡◌}
use Rattle.tdb_locks.specs.declared.turn.Turn.TheVariants as Turns
use Rattle.tdb_openers.specs.declared.job.Job.TheVariants as Jobs
use Rattle.tdb_commands.specs.InLaw.{law_command, law_reply, law_turn}
use Rattle.tdb_openers.specs.Openers.{own_with, command_in, IsRefused}
use Rattle.std.proofs.lemmas.Result.{IfOk-weaker, on_err_weaker}
use Rattle.tdb_locks.specs.LockTable.{held}
use Rattle.tdb_openers.proofs.Checks.CheckReady.{number_alone}
use Rattle.tdb_openers.specs.Turning.{TurnsFile, ImageBefore, OpenerHolds, resting}
use Rattle.tdb_openers.specs.Calm.{IsMidway}
use Rattle.tdb_openers.specs.Jobs.{IsPlain, JobIsReady, JobTurned, JobFiled}
use Rattle.tdb_steps.specs.Room.{FullOutside}
use Rattle.tdb_space.specs.Form.{form_in}
use Rattle.tdb_law.specs.World.{HasFewChains}
use Rattle.tdb_openers.specs.Cursors.{is_stood}
use Rattle.tdb_openers.proofs.PlainTurns.JobFiles.{same_filed, same_leaves}
use Rattle.tdb_openers.proofs.ExplicitLocks.LockingJob.{locking_turned, number_turned}
use Rattle.tdb_law.specs.Commands as Law
use Rattle.tdb_law.specs.Openers.{View}
use Rattle.tdb_law.specs.Held.{kept}
use Rattle.tdb_law.specs.Images.{image_map}
use Rattle.tdb_law.proofs.HandsOut.{image_answers}
use Rattle.tdb_openers.proofs.Checks.CheckJob.{of_three, of_four, has_keys, check_ready_alone, check_ready_holds, check_turned, check_file, check_image, accepted_before}
use Rattle.tdb_space.proofs.Results.{on_err}
use Rattle.tdb_openers.specs.Stopped.{JobStopped}
use Rattle.tdb_steps.specs.Memory.{StarvesOutside}
use Rattle.tdb_openers.proofs.PlainTurns.Fullness.{plain_starves, refused_starves}
use Rattle.tdb_openers.proofs.job.Job.turn.Goals as goal

-- what doesn't depend on a view
any_view : View
any_view = record { must = false; way = λ b. false }

pub seqnum_turn-requires : goal.seqnum_turn-requires
seqnum_turn-requires g c =
    let f = g.S.Space.form c.args.s.now in
    let ps = c.args.locks.now in
    let J = c.requires.ready in
    let x = own_with c.args.options.now c.args.live c.args.held.now J.0 in
    let ready = subst (λ j. JobIsReady f x (resting J.0) j J.1 J.2 c.args.owner (g.S.Space.size c.args.s.now) ps) c.in-Seqnum.is J.3 in
    let holds = subst (λ m. OpenerHolds f x (resting J.0) (command_in Jobs.Seqnum) m J.2 ps) ready.stands.0 ready.holds in
    record {
      alone = subst (λ o. held ps o 47 ≡ None) (sym ready.number)
          (number_alone f c.args.options.now c.args.live c.args.held.now J.0 J.2 ps (record { few = c.requires.few; counts = c.requires.well.counts; holds = holds }));
    }

pub returns-in-Refused-clause-file : goal.returns-in-Refused-clause-file
returns-in-Refused-clause-file g c told rest v n who others J I =
    let f = g.S.Space.form c.args.s.now in
    let x = own_with c.args.options.now c.args.live c.args.held.now rest in
    let a = g.S.Space.image c.args.s.now in
    let ps = c.args.locks.now in
    let job = Jobs.Refused c.in-Refused.command c.in-Refused.reply in
    let left = Jobs.Refused c.in-Refused.command c.replace.new.dest in
    let ready = subst (λ j. JobIsReady f x (resting rest) j n who c.args.owner (g.S.Space.size c.args.s.now) ps) c.in-Refused.is J in
    let before = subst (λ j. ImageBefore f j a others) c.in-Refused.is I in
    let refused = subst (λ r. IsRefused f x (law_command c.in-Refused.command) (law_reply r)) (sym c.replace.ensures.value) ready.stands.1 in
    let holds = subst (λ m. OpenerHolds f x (resting rest) (command_in job) m who ps) ready.stands.0 ready.holds in
    let E = c.refused_turn.ensures.turned f x rest v c.in-Refused.command who ps refl refused holds in
    subst (λ j. JobFiled f x x (resting rest) v j left n who ps a a others c.args.spots.now (law_turn c.refused_turn.result)) (sym c.in-Refused.is)
    (subst (λ t. JobFiled f x x (resting rest) v job left n who ps a a others c.args.spots.now (law_turn t)) (sym c.refused_turn.ensures.turn)
    (same_filed f x x (resting rest) v job left n who ps a others c.args.spots.now refl refl tt before.accepted _ ready.stands.0 (λ stands. tt) (E.file a)))

pub returns-in-Plain-clause-file : goal.returns-in-Plain-clause-file
returns-in-Plain-clause-file g c =
    let f = g.S.Space.form c.args.s.now in
    let a = g.S.Space.image c.args.s.now in
    let b = g.S.Space.image c.turn.new.s in
    let size = g.S.Space.size c.args.s.now in
    let within = c.requires.within in
    let limit = c.requires.limit in
    IfOk-weaker c.turn.result _ _
    (λ turn filed told rest v n who others J I.
    let x = own_with c.args.options.now c.args.live c.args.held.now rest in
    let ready = subst (λ j. JobIsReady f x (resting rest) j n who c.args.owner size c.args.locks.now) c.in-Plain.is J in
    let before = subst (λ j. ImageBefore f j a others) c.in-Plain.is I in
    let small : size < 4294967296 = omega (arith, within, limit) in
    subst (λ j. JobFiled f x x (resting rest) v j (Jobs.Plain c.turn.new.self) n who c.args.locks.now a b others c.args.spots.now (law_turn turn)) (sym c.in-Plain.is)
    (filed told small c.args.options.now c.args.live rest v n who others ready before)) c.turn.ensures.filed

pub returns-in-Plain-clause-full : goal.returns-in-Plain-clause-full
returns-in-Plain-clause-full g c =
    let f = g.S.Space.form c.args.s.now in
    let a = g.S.Space.image c.args.s.now in
    let size = g.S.Space.size c.args.s.now in
    let within = c.requires.within in
    let limit = c.requires.limit in
    IfOk-weaker c.turn.result _ _
    (λ turn full told rest n who others J I plain.
    let x = own_with c.args.options.now c.args.live c.args.held.now rest in
    let ready = subst (λ j. JobIsReady f x (resting rest) j n who c.args.owner size c.args.locks.now) c.in-Plain.is J in
    let before = subst (λ j. ImageBefore f j a others) c.in-Plain.is I in
    let small : size < 4294967296 = omega (arith, within, limit) in
    subst (λ j. FullOutside f a c.args.options.now.limit (record { command = command_in j; steps = n }) (law_turn turn)) (sym c.in-Plain.is)
    (full told small c.args.options.now c.args.live rest n who others ready before)) c.turn.ensures.full

-- nothing else stores
pub returns-in-Refused-clause-full : goal.returns-in-Refused-clause-full
returns-in-Refused-clause-full g c told rest n who others J I plain = absurd (subst IsPlain c.in-Refused.is plain)

pub returns-in-Locking-clause-full : goal.returns-in-Locking-clause-full
returns-in-Locking-clause-full g c told rest n who others J I plain = absurd (subst IsPlain c.in-Locking.is plain)

pub returns-in-Check-clause-full : goal.returns-in-Check-clause-full
returns-in-Check-clause-full g c = IfOk-weaker c.check_turn.result _ _ (λ turn row told rest n who others J I plain. absurd (subst IsPlain c.in-Check.is plain)) c.check_turn.ensures.row

pub returns-in-Seqnum-clause-full : goal.returns-in-Seqnum-clause-full
returns-in-Seqnum-clause-full g c = IfOk-weaker c.seqnum_turn.result _ _ (λ turn locks told rest n who others J I plain. absurd (subst IsPlain c.in-Seqnum.is plain)) c.seqnum_turn.ensures.locks

pub returns-in-Locking-clause-turned : goal.returns-in-Locking-clause-turned
returns-in-Locking-clause-turned g c rest n who J =
    let h = form_in c.args.header.now in
    let form = c.requires.form in
    let x = own_with c.args.options.now c.args.live c.args.held.now rest in
    let y = own_with c.args.options.now c.args.live c.locking_turn.new.held rest in
    let size = g.S.Space.size c.args.s.now in
    let ps = c.args.locks.now in
    let qs = c.locking_turn.new.locks in
    let job = Jobs.Locking c.in-Locking.locking in
    let ready = subst (λ f. JobIsReady f x (resting rest) job n who c.args.owner size ps) form (subst (λ j. JobIsReady (g.S.Space.form c.args.s.now) x (resting rest) j n who c.args.owner size ps) c.in-Locking.is J) in
    let holds = subst (λ m. OpenerHolds h x (resting rest) (command_in job) m who ps) ready.stands.0 ready.holds in
    let E = c.locking_turn.ensures.turned c.args.options.now c.args.live rest who ready.number (record { few = subst HasFewChains form c.requires.few; granted = ready.stands.1; holds = holds }) in
    subst (λ j. JobTurned (g.S.Space.form c.args.s.now) x y (resting rest) j job n who size ps qs (law_turn c.locking_turn.result)) (sym c.in-Locking.is)
    (subst (λ f. JobTurned f x y (resting rest) job job n who size ps qs (law_turn c.locking_turn.result)) (sym form)
    (locking_turned h x y (resting rest) (resting rest) any_view c.in-Locking.locking who size ps qs ready.stands.1 ready.stands.2 refl n (law_turn c.locking_turn.result) ready.stands.0 E.locks (E.file any_view [])))

pub returns-in-Locking-clause-file : goal.returns-in-Locking-clause-file
returns-in-Locking-clause-file g c told rest v n who others J I =
    let h = form_in c.args.header.now in
    let form = c.requires.form in
    let x = own_with c.args.options.now c.args.live c.args.held.now rest in
    let y = own_with c.args.options.now c.args.live c.locking_turn.new.held rest in
    let a = g.S.Space.image c.args.s.now in
    let ps = c.args.locks.now in
    let job = Jobs.Locking c.in-Locking.locking in
    let ready = subst (λ f. JobIsReady f x (resting rest) job n who c.args.owner (g.S.Space.size c.args.s.now) ps) form
    (subst (λ j. JobIsReady (g.S.Space.form c.args.s.now) x (resting rest) j n who c.args.owner (g.S.Space.size c.args.s.now) ps) c.in-Locking.is J) in
    let before = subst (λ f. ImageBefore f job a others) form (subst (λ j. ImageBefore (g.S.Space.form c.args.s.now) j a others) c.in-Locking.is I) in
    let holds = subst (λ m. OpenerHolds h x (resting rest) (command_in job) m who ps) ready.stands.0 ready.holds in
    let E = c.locking_turn.ensures.turned c.args.options.now c.args.live rest who ready.number (record { few = subst HasFewChains form c.requires.few; granted = ready.stands.1; holds = holds }) in
    subst (λ j. JobFiled (g.S.Space.form c.args.s.now) x y (resting rest) v j job n who ps a a others c.args.spots.now (law_turn c.locking_turn.result)) (sym c.in-Locking.is)
    (subst (λ f. JobFiled f x y (resting rest) v job job n who ps a a others c.args.spots.now (law_turn c.locking_turn.result)) (sym form)
    (same_filed h x y (resting rest) v job job n who ps a others c.args.spots.now refl refl tt before.accepted (law_turn c.locking_turn.result) ready.stands.0 (λ stands. tt) (E.file v a)))

pub returns-in-Seqnum-clause-file : goal.returns-in-Seqnum-clause-file
returns-in-Seqnum-clause-file g c =
    let f = g.S.Space.form c.args.s.now in
    let a = g.S.Space.image c.args.s.now in
    let b = g.S.Space.image c.seqnum_turn.new.s in
    let ps = c.args.locks.now in
    let size = g.S.Space.size c.args.s.now in
    IfOk-weaker c.seqnum_turn.result _ _
    (λ turn file told rest v n who others J I.
    let x = own_with c.args.options.now c.args.live c.args.held.now rest in
    let ready = subst (λ j. JobIsReady f x (resting rest) j n who c.args.owner size ps) c.in-Seqnum.is J in
    let before = subst (λ j. ImageBefore f j a others) c.in-Seqnum.is I in
    let holds = subst (λ m. OpenerHolds f x (resting rest) (command_in Jobs.Seqnum) m who ps) ready.stands.0 ready.holds in
    let long = before.accepted.long in
    let whole = g.met.S.Space.told_size c.args.s.now told in
    let made = file told (omega (arith, long, whole)) c.args.options.now c.args.live c.args.held.now rest who ready.number v (record { few = c.requires.few; counts = c.requires.well.counts; holds = holds }) in
    subst (λ j. JobFiled f x x (resting rest) v j j n who ps a b others c.args.spots.now (law_turn turn)) (sym c.in-Seqnum.is)
    (subst (λ z. JobFiled f x x (resting rest) v Jobs.Seqnum Jobs.Seqnum n who ps a z others c.args.spots.now (law_turn turn)) (sym c.seqnum_turn.ensures.looked.image)
    (same_filed f x x (resting rest) v Jobs.Seqnum Jobs.Seqnum n who ps a others c.args.spots.now refl refl tt before.accepted (law_turn turn) ready.stands.0 (λ stands. tt)
    (subst (λ z. TurnsFile f x x (resting rest) v (command_in Jobs.Seqnum) 0 who ps a z (law_turn turn)) c.seqnum_turn.ensures.looked.image made)))) c.seqnum_turn.ensures.file

pub check_turn-requires : goal.check_turn-requires
check_turn-requires g c =
    let f = g.S.Space.form c.args.s.now in
    let J = c.requires.ready in
    let x = own_with c.args.options.now c.args.live c.args.held.now J.0 in
    let ready = subst (λ j. JobIsReady f x (resting J.0) j J.1 J.2 c.args.owner (g.S.Space.size c.args.s.now) c.args.locks.now) c.in-Check.is J.3 in
    record { alone = check_ready_alone f c.requires.few c.args.options.now c.args.live c.args.held.now J.0 c.requires.well.counts c.in-Check.checking J.1 J.2 c.args.owner (g.S.Space.size c.args.s.now) c.args.locks.now ready }

pub returns-in-Check-clause-turned : goal.returns-in-Check-clause-turned
returns-in-Check-clause-turned g c =
    let f = g.S.Space.form c.args.s.now in
    let ps = c.args.locks.now in
    let size = g.S.Space.size c.args.s.now in
    of_three c.check_turn.result _ _ _ _
    (λ turn locks row leaves rest n who J.
    let x = own_with c.args.options.now c.args.live c.args.held.now rest in
    let ready = subst (λ j. JobIsReady f x (resting rest) j n who c.args.owner size ps) c.in-Check.is J in
    subst (λ j. JobTurned f x x (resting rest) j (Jobs.Check c.check_turn.new.checking) n who (g.S.Space.size c.check_turn.new.s) ps c.check_turn.new.locks (law_turn turn)) (sym c.in-Check.is)
    (check_turned f c.requires.few c.args.options.now c.args.live c.args.held.now rest c.requires.well.counts c.in-Check.checking n who c.args.owner size ps ready c.check_turn.new.checking c.check_turn.new.locks (g.S.Space.size c.check_turn.new.s) turn leaves
    (row n ready.stands.1)
    (locks n (kept f x (resting rest)) ready.stands.1 (check_ready_holds f c.requires.few c.args.options.now c.args.live c.args.held.now rest c.requires.well.counts c.in-Check.checking n who c.args.owner size ps ready))))
    c.check_turn.ensures.locks c.check_turn.ensures.row c.check_turn.ensures.leaves

pub returns-in-Check-clause-file : goal.returns-in-Check-clause-file
returns-in-Check-clause-file g c =
    let f = g.S.Space.form c.args.s.now in
    let a = g.S.Space.image c.args.s.now in
    let ps = c.args.locks.now in
    let size = g.S.Space.size c.args.s.now in
    of_four c.check_turn.result _ _ _ _ _
    (λ turn locks map leaves counted told rest v n who others J I.
    let x = own_with c.args.options.now c.args.live c.args.held.now rest in
    let ready = subst (λ j. JobIsReady f x (resting rest) j n who c.args.owner size ps) c.in-Check.is J in
    let before = subst (λ j. ImageBefore f j a others) c.in-Check.is I in
    subst (λ j. JobFiled f x x (resting rest) v j (Jobs.Check c.check_turn.new.checking) n who ps a (g.S.Space.image c.check_turn.new.s) others c.args.spots.now (law_turn turn)) (sym c.in-Check.is)
    (subst (λ b. JobFiled f x x (resting rest) v (Jobs.Check c.in-Check.checking) (Jobs.Check c.check_turn.new.checking) n who ps a b others c.args.spots.now (law_turn turn)) (sym c.check_turn.ensures.looked.image)
    (record {
      file = check_file f c.requires.few c.args.options.now c.args.live c.args.held.now rest c.requires.well.counts c.in-Check.checking n who c.args.owner size ps ready v c.check_turn.new.locks turn a
          (locks n (kept f x (resting rest)) ready.stands.1 (check_ready_holds f c.requires.few c.args.options.now c.args.live c.args.held.now rest c.requires.well.counts c.in-Check.checking n who c.args.owner size ps ready))
          (map n f a (image_map f a) ready.stands.1 (λ k. image_answers f a k) (has_keys f a c.in-Check.checking before.knows));
      cursors = λ C. same_leaves f x (Jobs.Check c.in-Check.checking) (Jobs.Check c.check_turn.new.checking) n a a (is_stood c.args.spots.now) refl (λ stands. tt) (law_turn turn);
      image = check_image f c.requires.few c.args.options.now c.args.live c.args.held.now rest c.requires.well.counts c.in-Check.checking n who c.args.owner size ps ready c.check_turn.new.checking turn a others leaves before (counted told);
    })))
    c.check_turn.ensures.locks c.check_turn.ensures.map c.check_turn.ensures.leaves c.check_turn.ensures.counted

pub returns-in-Check-clause-cause : goal.returns-in-Check-clause-cause
returns-in-Check-clause-cause g c told rest n who others J I =
    let f = g.S.Space.form c.args.s.now in
    let a = g.S.Space.image c.args.s.now in
    let before = subst (λ j. ImageBefore f j a others) c.in-Check.is I in
    c.check_turn.ensures.cause told (accepted_before f a c.in-Check.checking others before)

pub turn-requires-clause-ready : goal.turn-requires-clause-ready
turn-requires-clause-ready g c =
    let f = g.S.Space.form c.args.s.now in
    let J = c.requires.ready in
    let x = own_with c.args.options.now c.args.live c.args.held.now J.0 in
    (c.args.options.now, c.args.live, J.0, J.1, J.2, subst (λ j. JobIsReady f x (resting J.0) j J.1 J.2 c.args.owner (g.S.Space.size c.args.s.now) c.args.locks.now) c.in-Plain.is J.3)

pub locking_turn-requires-clause-may : goal.locking_turn-requires-clause-may
locking_turn-requires-clause-may g c =
    let h = form_in c.args.header.now in
    let form = c.requires.form in
    let size = g.S.Space.size c.args.s.now in
    let ps = c.args.locks.now in
    let J = c.requires.ready in
    let x = own_with c.args.options.now c.args.live c.args.held.now J.0 in
    let job = Jobs.Locking c.in-Locking.locking in
    let ready = subst (λ f. JobIsReady f x (resting J.0) job J.1 J.2 c.args.owner size ps) form (subst (λ j. JobIsReady (g.S.Space.form c.args.s.now) x (resting J.0) j J.1 J.2 c.args.owner size ps) c.in-Locking.is J.3) in
    let holds = subst (λ m. OpenerHolds h x (resting J.0) (command_in job) m J.2 ps) ready.stands.0 ready.holds in
    (c.args.options.now, c.args.live, J.0, J.2, ready.number, record { few = subst HasFewChains form c.requires.few; granted = ready.stands.1; holds = holds })

pub returns-in-Refused-clause-turned : goal.returns-in-Refused-clause-turned
returns-in-Refused-clause-turned g c rest n who J =
    let f = g.S.Space.form c.args.s.now in
    let x = own_with c.args.options.now c.args.live c.args.held.now rest in
    let size = g.S.Space.size c.args.s.now in
    let ps = c.args.locks.now in
    let job = Jobs.Refused c.in-Refused.command c.in-Refused.reply in
    let left = Jobs.Refused c.in-Refused.command c.replace.new.dest in
    let ready = subst (λ j. JobIsReady f x (resting rest) j n who c.args.owner size ps) c.in-Refused.is J in
    let refused = subst (λ r. IsRefused f x (law_command c.in-Refused.command) (law_reply r)) (sym c.replace.ensures.value) ready.stands.1 in
    let holds = subst (λ m. OpenerHolds f x (resting rest) (command_in job) m who ps) ready.stands.0 ready.holds in
    let E = c.refused_turn.ensures.turned f x rest any_view c.in-Refused.command who ps refl refused holds in
    subst (λ j. JobTurned f x x (resting rest) j left n who size ps ps (law_turn c.refused_turn.result)) (sym c.in-Refused.is)
    (subst (λ t. JobTurned f x x (resting rest) job left n who size ps ps (law_turn t)) (sym c.refused_turn.ensures.turn)
    (subst (λ m. JobTurned f x x (resting rest) job left m who size ps ps (Law.Turn.Ends (law_reply c.replace.result))) (sym ready.stands.0) (record { locks = E.locks; stands = tt; lives = λ t e. refl })))

pub returns-in-Plain-clause-turned : goal.returns-in-Plain-clause-turned
returns-in-Plain-clause-turned g c =
    let f = g.S.Space.form c.args.s.now in
    let size = g.S.Space.size c.args.s.now in
    let ps = c.args.locks.now in
    IfOk-weaker c.turn.result _ _
    (λ turn turned rest n who J.
    let x = own_with c.args.options.now c.args.live c.args.held.now rest in
    subst (λ j. JobTurned f x x (resting rest) j (Jobs.Plain c.turn.new.self) n who (g.S.Space.size c.turn.new.s) ps c.turn.new.locks (law_turn turn)) (sym c.in-Plain.is)
    (turned c.args.options.now c.args.live rest n who (subst (λ j. JobIsReady f x (resting rest) j n who c.args.owner size ps) c.in-Plain.is J))) c.turn.ensures.turned

pub returns-in-Seqnum-clause-turned : goal.returns-in-Seqnum-clause-turned
returns-in-Seqnum-clause-turned g c =
    let f = g.S.Space.form c.args.s.now in
    let size = g.S.Space.size c.args.s.now in
    let ps = c.args.locks.now in
    IfOk-weaker c.seqnum_turn.result _ _
    (λ turn locks rest n who J.
    let x = own_with c.args.options.now c.args.live c.args.held.now rest in
    let ready = subst (λ j. JobIsReady f x (resting rest) j n who c.args.owner size ps) c.in-Seqnum.is J in
    let holds = subst (λ m. OpenerHolds f x (resting rest) (command_in Jobs.Seqnum) m who ps) ready.stands.0 ready.holds in
    let made = locks f c.args.options.now c.args.live c.args.held.now rest who ready.number (record { few = c.requires.few; counts = c.requires.well.counts; holds = holds }) in
    subst (λ j. JobTurned f x x (resting rest) j j n who (g.S.Space.size c.seqnum_turn.new.s) ps c.seqnum_turn.new.locks (law_turn turn)) (sym c.in-Seqnum.is)
    (number_turned f x (resting rest) who (g.S.Space.size c.seqnum_turn.new.s) ps c.seqnum_turn.new.locks ready.stands.1 n (law_turn turn) ready.stands.0 made)) c.seqnum_turn.ensures.locks

pub returns-in-Plain-clause-calm : goal.returns-in-Plain-clause-calm
returns-in-Plain-clause-calm g c rest n who J =
    let x = own_with c.args.options.now c.args.live c.args.held.now rest in
    c.turn.ensures.calm c.args.options.now c.args.live rest n who (subst (λ j. JobIsReady (g.S.Space.form c.args.s.now) x (resting rest) j n who c.args.owner (g.S.Space.size c.args.s.now) c.args.locks.now) c.in-Plain.is J)

pub returns-in-Plain-clause-spared : goal.returns-in-Plain-clause-spared
returns-in-Plain-clause-spared g c rest n who J spares =
    let f = g.S.Space.form c.args.s.now in
    let x = own_with c.args.options.now c.args.live c.args.held.now rest in
    c.turn.ensures.spared c.args.options.now c.args.live rest n who (subst (λ j. JobIsReady f x (resting rest) j n who c.args.owner (g.S.Space.size c.args.s.now) c.args.locks.now) c.in-Plain.is J)
    (subst (λ j. IsMidway f x (record { command = command_in j; steps = n }) → ⊥) c.in-Plain.is spares)

-- A turn of a command on the map that failed leaves what its machine leaves; one of another leaves the file.
pub returns-in-Plain-clause-stopped : goal.returns-in-Plain-clause-stopped
returns-in-Plain-clause-stopped g c =
    let f = g.S.Space.form c.args.s.now in
    let a = g.S.Space.image c.args.s.now in
    let b = g.S.Space.image c.turn.new.s in
    let size = g.S.Space.size c.args.s.now in
    let within = c.requires.within in
    let limit = c.requires.limit in
    on_err_weaker c.turn.result
    (λ stopped told cursor rest n who others J I.
    (let x = own_with c.args.options.now c.args.live c.args.held.now rest in
    let ready = subst (λ j. JobIsReady f x (resting rest) j n who c.args.owner size c.args.locks.now) c.in-Plain.is J in
    let before = subst (λ j. ImageBefore f j a others) c.in-Plain.is I in
    let small : size < 4294967296 = omega (arith, within, limit) in
    subst (λ j. JobStopped f a b cursor j n others) (sym c.in-Plain.is) (stopped told small c.args.options.now c.args.live rest n who others ready before))) c.turn.ensures.stopped

pub returns-in-Check-clause-stopped : goal.returns-in-Check-clause-stopped
returns-in-Check-clause-stopped g c = on_err c.check_turn.result (λ told cursor rest n who others J I.
    subst (λ j. JobStopped (g.S.Space.form c.args.s.now) (g.S.Space.image c.args.s.now) (g.S.Space.image c.check_turn.new.s) cursor j n others) (sym c.in-Check.is) c.check_turn.ensures.looked.image)

pub returns-in-Seqnum-clause-stopped : goal.returns-in-Seqnum-clause-stopped
returns-in-Seqnum-clause-stopped g c = on_err c.seqnum_turn.result (λ told cursor rest n who others J I.
    subst (λ j. JobStopped (g.S.Space.form c.args.s.now) (g.S.Space.image c.args.s.now) (g.S.Space.image c.seqnum_turn.new.s) cursor j n others) (sym c.in-Seqnum.is) c.seqnum_turn.ensures.looked.image)

-- memory is wanting where each kind of command takes it
pub returns-in-Plain-clause-starves : goal.returns-in-Plain-clause-starves
returns-in-Plain-clause-starves g c =
    let f = g.S.Space.form c.args.s.now in
    IfOk-weaker c.turn.result _ _
    (λ turn starves rest n who J.
    subst (λ j. StarvesOutside f (record { command = command_in j; steps = n }) (law_turn turn)) (sym c.in-Plain.is)
    (starves c.args.options.now c.args.live rest n who
    (subst (λ j. JobIsReady f (own_with c.args.options.now c.args.live c.args.held.now rest) (resting rest) j n who c.args.owner (g.S.Space.size c.args.s.now) c.args.locks.now) c.in-Plain.is J))) c.turn.ensures.starves

pub returns-in-Refused-clause-starves : goal.returns-in-Refused-clause-starves
returns-in-Refused-clause-starves g c rest n who J =
    let f = g.S.Space.form c.args.s.now in
    let x = own_with c.args.options.now c.args.live c.args.held.now rest in
    let ready = subst (λ j. JobIsReady f x (resting rest) j n who c.args.owner (g.S.Space.size c.args.s.now) c.args.locks.now) c.in-Refused.is J in
    refused_starves f x (law_command c.in-Refused.command) c.in-Refused.reply (record { command = command_in c.args.self.now; steps = n }) c.refused_turn.result
    (c.refused_turn.ensures.turn ∙ ap Turns.Done c.replace.ensures.value) ready.stands.1

pub returns-in-Check-clause-starves : goal.returns-in-Check-clause-starves
returns-in-Check-clause-starves g c =
    let f = g.S.Space.form c.args.s.now in
    IfOk-weaker c.check_turn.result _ _
    (λ turn starves rest n who J.
    let ready = subst (λ j. JobIsReady f (own_with c.args.options.now c.args.live c.args.held.now rest) (resting rest) j n who c.args.owner (g.S.Space.size c.args.s.now) c.args.locks.now) c.in-Check.is J in
    subst (λ j. StarvesOutside f (record { command = command_in j; steps = n }) (law_turn turn)) (sym c.in-Check.is) (plain_starves f (record { command = Law.Command.OnMap Law.MapCommand.Check; steps = n }) turn (starves f n ready.stands.1))) c.check_turn.ensures.starves

pub returns-in-Locking-clause-starves : goal.returns-in-Locking-clause-starves
returns-in-Locking-clause-starves g c rest n who J b on e = absurd (cc (sym (ap command_in c.in-Locking.is) ∙ on))

pub returns-in-Seqnum-clause-starves : goal.returns-in-Seqnum-clause-starves
returns-in-Seqnum-clause-starves g c = IfOk-weaker c.seqnum_turn.result _ _ (λ turn locks rest n who J b on e. absurd (cc (sym (ap command_in c.in-Seqnum.is) ∙ on))) c.seqnum_turn.ensures.locks
