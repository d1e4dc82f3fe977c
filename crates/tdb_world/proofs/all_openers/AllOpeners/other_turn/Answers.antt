-- The turn is one on the bytes of the file, or that of an opener that is shut out.
use Rattle.std.proofs.Common.{◌≡◌, sym, subst, inl, inr, arith}
use Rattle.std.specs.Prelude.{Result, IfOk, OnOk, IsTrue}
use Rattle.std.proofs.Common.{Ok, Err}
use Rattle.tdb_disk.specs.History.{History, seen}
use Rattle.tdb_locks.specs.declared.turn.Turn.TheVariants.{Step}
use Rattle.tdb_law.specs.World.{State}
use Rattle.tdb_commands.specs.InLaw.{law_opener, law_turn}
use Rattle.tdb_openers.specs.Worlds.{Stands}
use Rattle.tdb_openers.proofs.ExplicitLocks.Aside.{on_one}
use Rattle.tdb_world.specs.States.{IsStateOf}
use Rattle.tdb_world.specs.Steps.{HasCommand, TurnLeads}
use Rattle.tdb_world.specs.Steps.HasCommand.{by_job}
use Rattle.tdb_world.specs.Room.{FullOfTurn}
use Rattle.tdb_world.specs.Room.EndsFullRightly.{full_in_file, full_never}
use Rattle.tdb_world.specs.Room.StoresNothing.{is_shut_out}
use Rattle.tdb_world.specs.Stopped.StoppedTurn.{stopped_in_file, stopped_shut_out}
use Rattle.tdb_world.specs.Stops.{IsChanging, IsSafe}
use Rattle.tdb_world.specs.Whole.{form_at, WorldFits}
use Rattle.tdb_txn_turns.proofs.Room.{never}
use Rattle.tdb_world.proofs.OtherTurns.{OnlyOne, with_openers, open_fits, open_leads, put_openers, same_fits, shut_leads, shut_not_full, still_among}
use Rattle.tdb_world.proofs.Spared.{not_midway, writes_not}
use Rattle.tdb_world.proofs.Outside.{file_stands}
use Rattle.std.proofs.lemmas.Result.{IfOk-weaker, on_err_weaker}
use Rattle.tdb_world.proofs.Stopped.{job_front}
use Rattle.tdb_world.proofs.Stopping.{still_leaves}
use Rattle.tdb_world.proofs.all_openers.AllOpeners.other_turn.Given
use Rattle.tdb_world.specs.Room.{StarvesInFile}
use Rattle.tdb_world.proofs.all_openers.AllOpeners.other_turn.Goals as goal
use Rattle.tdb_world.proofs.all_openers.AllOpeners.other_turn.Goals.{After-turn_in_file}

-- what holds of the value of an answer that is Ok
if_ok : {V E : Type 0} (r : Result V E) (P : Type 0) (Q R : V → Type 0) → ((x : V) → P → Q x → R x) → OnOk r P → IfOk r Q → IfOk r R
if_ok (Ok x) P Q R from p q = from x p q
if_ok (Err e) P Q R from p q = tt

on_ok : {V E : Type 0} (r : Result V E) (Q R : V → Type 0) → ((x : V) → Q x → R x) → IfOk r Q → IfOk r R
on_ok (Ok x) Q R from q = from x q
on_ok (Err e) Q R from q = tt

always_ok : {V E : Type 0} (r : Result V E) (P : Type 0) → P → OnOk r P
always_ok (Ok x) P p = p
always_ok (Err e) P p = tt

pub returns-in-Some-clause-fits : goal.returns-in-Some-clause-fits
returns-in-Some-clause-fits g c =
    let old = c.args.self.now in
    let new = c.turn_beside.new.self in
    let E = c.turn_beside.ensures in
    let img = seen (g.D.Disk.history c.args.d.now) in
    let size = g.D.Disk.size c.args.d.now in
    let b = seen (g.D.Disk.history c.turn_beside.new.d) in
    let later = g.D.Disk.size c.turn_beside.new.d in
    let K : OnlyOne old.openers new.openers (law_opener c.args.who) = record { header = E.header; options = E.options; joined = E.joined; others = E.others } in
    always_ok c.turn_beside.result (WorldFits new b later)
    (subst (λ z. WorldFits z b later) (sym (put_openers old new E.rest))
    (subst (λ y. WorldFits (with_openers old new.openers) (seen y) later) (sym E.history) (subst (WorldFits (with_openers old new.openers) img) (sym E.size)
    (same_fits old new.openers c.args.who c.requires.named c.requires.among c.requires.begun K c.requires.fresh img size c.requires.fits (E.openers img size c.requires.fits.openers)))))

pub returns-in-Some-clause-turned : goal.returns-in-Some-clause-turned
returns-in-Some-clause-turned g c =
    let old = c.args.self.now in
    let new = c.turn_beside.new.self in
    let E = c.turn_beside.ensures in
    let h = g.D.Disk.history c.args.d.now in
    let later = g.D.Disk.history c.turn_beside.new.d in
    let x = c.requires.busy.0 in
    let t = c.requires.busy.1 in
    let B = c.requires.busy.2 in
    let K : OnlyOne old.openers new.openers (law_opener c.args.who) = record { header = E.header; options = E.options; joined = E.joined; others = E.others } in
    on_ok c.turn_beside.result _ (λ turn. IsTrue g.D.Disk.tells → TurnLeads old new h later c.args.who (law_turn turn))
    (λ turn turned told. subst (λ z. TurnLeads old z h later c.args.who (law_turn turn)) (sym (put_openers old new E.rest))
    (subst (λ y. TurnLeads old (with_openers old new.openers) h y c.args.who (law_turn turn)) (sym E.history)
    (shut_leads old new.openers c.args.who x t (law_turn turn) (seen h) (g.D.Disk.size c.args.d.now) c.requires.named B c.requires.among c.requires.begun c.requires.fresh c.requires.fits K h c.in-Some.field-0.owner c.in-Some.field-0.bars c.in-Some.ensures.some
    (λ img past s O barred free shows. turned told img past s x t B O barred free shows))))
    E.turned

pub returns-in-None-clause-fits : goal.returns-in-None-clause-fits
returns-in-None-clause-fits g c =
    let old = c.args.self.now in
    let new = c.turn_in_file.new.self in
    let E = c.turn_in_file.ensures in
    let a = seen (g.D.Disk.history c.args.d.now) in
    let b = seen (g.D.Disk.history c.turn_in_file.new.d) in
    let size = g.D.Disk.size c.args.d.now in
    let longer = g.D.Disk.size c.turn_in_file.new.d in
    let K : OnlyOne old.openers new.openers (law_opener c.args.who) = record { header = E.header; options = E.options; joined = E.joined; others = E.others } in
    on_one c.turn_in_file.result (Stands new.openers b longer) (WorldFits new b longer)
    (λ W. subst (λ z. WorldFits z b longer) (sym (put_openers old new E.rest))
    (open_fits old new.openers c.args.who c.requires.named c.requires.among c.requires.begun K c.requires.fresh c.in-None.ensures.none a b size longer (λ calm. (E.calm calm).1) c.requires.fits W))
    E.stands

pub returns-in-None-clause-turned : goal.returns-in-None-clause-turned
returns-in-None-clause-turned g c =
    let old = c.args.self.now in
    let new = c.turn_in_file.new.self in
    let E = c.turn_in_file.ensures in
    let h = g.D.Disk.history c.args.d.now in
    let later = g.D.Disk.history c.turn_in_file.new.d in
    let x = c.requires.busy.0 in
    let t = c.requires.busy.1 in
    let B = c.requires.busy.2 in
    let K : OnlyOne old.openers new.openers (law_opener c.args.who) = record { header = E.header; options = E.options; joined = E.joined; others = E.others } in
    if_ok c.turn_in_file.result _ _ (λ turn. IsTrue g.D.Disk.tells → TurnLeads old new h later c.args.who (law_turn turn))
    (λ turn bytes turned told. subst (λ z. TurnLeads old z h later c.args.who (law_turn turn)) (sym (put_openers old new E.rest))
    (open_leads old new.openers c.args.who x t (law_turn turn) (seen h) (g.D.Disk.size c.args.d.now) c.requires.named B c.requires.among c.requires.begun c.requires.fresh c.requires.fits K h later c.in-None.ensures.none
    (bytes told) (λ F. turned told F x t B) (λ calm. (E.calm calm).0)))
    E.bytes E.turned

pub returns-in-None-clause-busy : goal.returns-in-None-clause-busy
returns-in-None-clause-busy g c =
    let old = c.args.self.now in
    let new = c.turn_in_file.new.self in
    let E = c.turn_in_file.ensures in
    let K : OnlyOne old.openers new.openers (law_opener c.args.who) = record { header = E.header; options = E.options; joined = E.joined; others = E.others } in
    if_ok c.turn_in_file.result _ _ (λ turn. turn ≡ Step → HasCommand new c.args.who)
    (λ turn stands busy is. subst (λ z. HasCommand z c.args.who) (sym (put_openers old new E.rest))
    (let B = busy is in by_job B.0 B.1 B.2 c.requires.begun (still_among old new.openers c.args.who c.requires.named c.requires.among c.requires.begun K)))
    E.stands E.busy

pub returns-in-Some-clause-full : goal.returns-in-Some-clause-full
returns-in-Some-clause-full g c =
    let old = c.args.self.now in
    let new = c.turn_beside.new.self in
    let E = c.turn_beside.ensures in
    let h = g.D.Disk.history c.args.d.now in
    let x = c.requires.busy.0 in
    let t = c.requires.busy.1 in
    let B = c.requires.busy.2 in
    let Z = c.in-Some.ensures.some in
    let K : OnlyOne old.openers new.openers (law_opener c.args.who) = record { header = E.header; options = E.options; joined = E.joined; others = E.others } in
    on_ok c.turn_beside.result _ (λ turn. IsTrue g.D.Disk.tells → FullOfTurn old h c.args.who (law_turn turn))
    (λ turn turned told state S. full_never (is_shut_out c.requires.among Z.holder Z.aside Z.writes) (never (law_turn turn)
    (shut_not_full old new.openers c.args.who x t (law_turn turn) (seen h) (g.D.Disk.size c.args.d.now) c.requires.named B c.requires.among c.requires.begun c.requires.fresh c.requires.fits K h c.in-Some.field-0.owner c.in-Some.field-0.bars Z
    (λ img past s O barred free shows. turned told img past s x t B O barred free shows) state S)))
    E.turned

pub returns-in-None-clause-full : goal.returns-in-None-clause-full
returns-in-None-clause-full g c =
    let old = c.args.self.now in
    let h = g.D.Disk.history c.args.d.now in
    let B = c.requires.busy in
    IfOk-weaker c.turn_in_file.result _ _
    (λ turn full told state S. full_in_file B.0 B.1 (record { busy = B.2; among = c.requires.among; begun = c.requires.begun; open_to = c.in-None.ensures.none })
    (full told (file_stands old h state c.requires.fresh c.in-None.ensures.none S) B.0 B.1 B.2))
    c.turn_in_file.ensures.full

pub returns-in-Some-clause-stops : goal.returns-in-Some-clause-stops
returns-in-Some-clause-stops g c told state S safe never =
    still_leaves c.args.self.now (g.D.Disk.history c.args.d.now) (g.D.Disk.history c.turn_beside.new.d) state (law_opener c.args.who) c.turn_beside.ensures.history S safe

pub returns-in-Some-clause-safe : goal.returns-in-Some-clause-safe
returns-in-Some-clause-safe g c =
    always_ok c.turn_beside.result _ (λ told state S safe never. subst (IsSafe (form_at c.args.self.now)) (sym c.turn_beside.ensures.history) safe)

pub returns-in-Some-clause-busy : goal.returns-in-Some-clause-busy
returns-in-Some-clause-busy g c = on_ok c.turn_beside.result _ _ (λ turn never is. absurd (never is)) c.turn_beside.ensures.step

pub returns-in-Some-clause-cause : goal.returns-in-Some-clause-cause
returns-in-Some-clause-cause g c told state S = c.turn_beside.ensures.cause

pub returns-in-Some-clause-done : goal.returns-in-Some-clause-done
returns-in-Some-clause-done g c = c.turn_beside.ensures.cause.done

pub returns-in-Some-clause-rises : goal.returns-in-Some-clause-rises
returns-in-Some-clause-rises g c = c.turn_beside.ensures.cause.never_falls

pub returns-in-Some-clause-longer : goal.returns-in-Some-clause-longer
returns-in-Some-clause-longer g c = always_ok c.turn_beside.result _ (let same = c.turn_beside.ensures.size in omega (arith, same))

-- a turn that doesn't go on with a change leaves the history
module _ (g : Given.Over) (c : After-turn_in_file g) (state : State) where
  abbrev h : History
  h = g.D.Disk.history c.args.d.now

  same : IsStateOf c.args.self.now h state → (IsChanging (form_at c.args.self.now) state (law_opener c.args.who) → ⊥) → g.D.Disk.history c.turn_in_file.new.d ≡ h
  same S never =
      let B = c.requires.busy in
      c.turn_in_file.ensures.spared B.0 B.1 B.2 (not_midway c.args.self.now c.args.who B.0 B.1 h state c.requires.named B.2 c.requires.among c.requires.begun S never)

pub returns-in-None-clause-stops : goal.returns-in-None-clause-stops
returns-in-None-clause-stops g c told state S safe never =
    still_leaves c.args.self.now (g.D.Disk.history c.args.d.now) (g.D.Disk.history c.turn_in_file.new.d) state (law_opener c.args.who)
    (same g (goal.at.returns-in-None-clause-stops g c).After-turn_in_file state S never) S safe

pub returns-in-None-clause-safe : goal.returns-in-None-clause-safe
returns-in-None-clause-safe g c =
    on_one c.turn_in_file.result _ _
    (λ done told state S safe never. subst (IsSafe (form_at c.args.self.now)) (sym (same g (goal.at.returns-in-None-clause-safe g c).After-turn_in_file state S never)) safe)
    c.turn_in_file.ensures.done

pub returns-in-Some-clause-still : goal.returns-in-Some-clause-still
returns-in-Some-clause-still g c state S never = c.turn_beside.ensures.history

pub returns-in-None-clause-still : goal.returns-in-None-clause-still
returns-in-None-clause-still g c state S never =
    let B = c.requires.busy in
    elim (writes_not c.args.self.now _ c.args.who B.0 B.1 _ (g.D.Disk.history c.args.d.now) state c.requires.named c.requires.fits.openers B.2 c.requires.among c.requires.begun S never) [
      | inl moves ↦ c.turn_in_file.ensures.moves B.0 B.1 B.2 moves
      | inr spares ↦ c.turn_in_file.ensures.spared B.0 B.1 B.2 spares
    ]

pub returns-in-None-clause-no_sync : goal.returns-in-None-clause-no_sync
returns-in-None-clause-no_sync g c state S never =
    let B = c.requires.busy in
    c.turn_in_file.ensures.no_sync B.0 B.1 B.2 (not_midway c.args.self.now c.args.who B.0 B.1 (g.D.Disk.history c.args.d.now) state c.requires.named B.2 c.requires.among c.requires.begun S never)

-- an opener that is shut out changes nothing
pub returns-in-Some-clause-stopped : goal.returns-in-Some-clause-stopped
returns-in-Some-clause-stopped g c = on_err_weaker c.turn_beside.result (λ failed told state S. stopped_shut_out c.turn_beside.ensures.history) c.turn_beside.ensures.cause.failed

pub returns-in-None-clause-stopped : goal.returns-in-None-clause-stopped
returns-in-None-clause-stopped g c =
    let old = c.args.self.now in
    let h = g.D.Disk.history c.args.d.now in
    let B = c.requires.busy in
    on_err_weaker c.turn_in_file.result
    (λ stopped told state S.
    (let F = file_stands old h state c.requires.fresh c.in-None.ensures.none S in
    let left = stopped told F B.0 B.1 B.2 in
    stopped_in_file B.0 B.1 (record { busy = B.2; among = c.requires.among; begun = c.requires.begun; open_to = c.in-None.ensures.none })
    (record { front = job_front (form_at old) (seen h) (seen (g.D.Disk.history c.turn_in_file.new.d)) _ F.accepted B.0.walk.cursor B.1.job B.1.steps _ left; left = left })))
    c.turn_in_file.ensures.stopped

-- where memory is wanting
pub returns-in-None-clause-starves : goal.returns-in-None-clause-starves
returns-in-None-clause-starves g c = IfOk-weaker c.turn_in_file.result _ _ (λ turn starves x t H. starves x t H.busy) c.turn_in_file.ensures.starves

pub returns-in-Some-clause-starves : goal.returns-in-Some-clause-starves
returns-in-Some-clause-starves g c =
    let Z = c.in-Some.ensures.some in
    on_ok c.turn_beside.result _ (λ turn. StarvesInFile c.args.self.now c.args.who (law_turn turn)) (λ turn turned x t H. absurd (H.open_to Z.holder Z.aside Z.writes)) c.turn_beside.ensures.turned
