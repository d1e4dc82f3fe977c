-- A turn of the command is one of its machine.
use Rattle.std.proofs.Common.{ap, refl, inl, inr}
use Rattle.std.specs.Prelude.{Result, Ok, Err, IfOk, OnErr, ◌≡◌, ℕ}
use Rattle.tdb_steps.specs.Order.{IsAfter}
use Rattle.tdb_law.specs.Commands.Command.{OnMap}
use Rattle.tdb_steps.specs.PlainCommands.{command_of, turn_of}
use Rattle.tdb_steps.specs.Machines.{Doing, begun, Leaves}
use Rattle.tdb_space.specs.declared.io.Io.{Io}
use Rattle.tdb_locks.specs.declared.turn.Turn.{Turn}
use Rattle.tdb_locks.specs.declared.turn.Turn.TheVariants as Turns
use Rattle.tdb_openers.proofs.PlainTurns.PlainReady.{ready_alone, ready_holds, ready_turned, ready_file}
use Rattle.tdb_openers.specs.Openers.{own_with}
use Rattle.tdb_openers.specs.Turning.{resting}
use Rattle.tdb_openers.proofs.PlainTurns.Calm.{plain_calm, plain_spared}
use Rattle.tdb_openers.proofs.PlainTurns.PlainJob.{left_image}
use Rattle.tdb_openers.proofs.PlainTurns.PlainCursors.{plain_cursors}
use Rattle.tdb_openers.proofs.PlainTurns.Fullness.{plain_full, plain_starves}
use Rattle.std.proofs.lemmas.Result.{IfOk-weaker, on_err_weaker}
use Rattle.tdb_openers.proofs.plain.plain_turn.Goals as goal

-- what holds of an answer by four facts, by three, and by two
by_four : {T E : Type 0} (r : Result T E) (P Q R S W : T → Type 0) → ((x : T) → P x → Q x → R x → S x → W x) → IfOk r P → IfOk r Q → IfOk r R → IfOk r S → IfOk r W
by_four (Ok x) P Q R S W then p q s t = then x p q s t
by_four (Err e) P Q R S W then p q s t = tt

by_three : {T E : Type 0} (r : Result T E) (P Q R W : T → Type 0) → ((x : T) → P x → Q x → R x → W x) → IfOk r P → IfOk r Q → IfOk r R → IfOk r W
by_three (Ok x) P Q R W then p q s = then x p q s
by_three (Err e) P Q R W then p q s = tt

by_two : {T E : Type 0} (r : Result T E) (P Q W : T → Type 0) → ((x : T) → P x → Q x → W x) → IfOk r P → IfOk r Q → IfOk r W
by_two (Ok x) P Q W then p q = then x p q
by_two (Err e) P Q W then p q = tt

pub step-requires-clause-alone : goal.step-requires-clause-alone
step-requires-clause-alone g c =
    let w = c.requires.ready in
    ready_alone (g.S.Space.form c.args.s.now) c.requires.few w.0 w.1 c.args.held.now w.2 c.requires.well.counts c.args.machine.now w.3 w.4 c.args.owner (g.S.Space.size c.args.s.now) c.args.locks.now w.5

pub returns-clause-turned : goal.returns-clause-turned
returns-clause-turned g c =
    let f = g.S.Space.form c.args.s.now in
    let held = c.args.held.now in
    let d = c.args.machine.now in
    let size = g.S.Space.size c.args.s.now in
    by_four c.step.result _ _ _ _ _
    (λ turn leaves row locks fits options live rest n who J.
    let is = J.stands.after in
    let H = ready_holds f c.requires.few options live held rest c.requires.well.counts d n who c.args.owner size c.args.locks.now J in
    ready_turned f c.requires.few options live held rest c.requires.well.counts d n who c.args.owner size c.args.locks.now J c.step.new.self c.step.new.locks (g.S.Space.size c.step.new.s)
    (g.S.Space.spare c.step.new.s) turn (leaves n is) (row n is) (locks n _ is H) fits) c.step.ensures.leaves c.step.ensures.row c.step.ensures.locks c.step.ensures.fits

pub returns-clause-file : goal.returns-clause-file
returns-clause-file g c =
    let f = g.S.Space.form c.args.s.now in
    let held = c.args.held.now in
    let d = c.args.machine.now in
    let size = g.S.Space.size c.args.s.now in
    by_two c.step.result _ _ _
    (λ turn made locks told small options live rest v n who others J I.
    let is = J.stands.after in
    let H = ready_holds f c.requires.few options live held rest c.requires.well.counts d n who c.args.owner size c.args.locks.now J in
    ready_file f c.requires.few options live held rest c.requires.well.counts d n who c.args.owner size c.args.locks.now J v c.step.new.self c.step.new.locks turn (g.S.Space.image c.args.s.now)
    (g.S.Space.image c.step.new.s) others (locks n _ is H) (made told small n others is I.may_be_out I.accepted I.knows)) c.step.ensures.made c.step.ensures.locks

pub returns-clause-image : goal.returns-clause-image
returns-clause-image g c =
    let f = g.S.Space.form c.args.s.now in
    by_two c.step.result _ _ _
    (λ turn made leaves told small options live rest n who others J I.
    let is = J.stands.after in
    left_image f c.args.machine.now c.step.new.self n (g.S.Space.image c.args.s.now) (g.S.Space.image c.step.new.s) others turn (leaves n is)
    (made told small n others is I.may_be_out I.accepted I.knows)) c.step.ensures.made c.step.ensures.leaves

-- the command stays, however the turn ended
same_command : (r : Result Turn Io) (d e : Doing) (n : ℕ) → IfOk r (λ turn. (m : ℕ) → IsAfter d.command d.stage m → Leaves d e m (turn_of turn)) → OnErr r (e ≡ begun d.command d.chain d.seqnum)
    → IsAfter d.command d.stage n → e.command ≡ d.command
same_command (Ok Turns.Step) d e n leaves given_up is = (leaves n is).0
same_command (Ok (Turns.Blocked owner byte)) d e n leaves given_up is = ap (λ z. z.command) (leaves n is)
same_command (Ok (Turns.Done reply)) d e n leaves given_up is = ap (λ z. z.command) (leaves n is)
same_command (Err fault) d e n leaves given_up is = ap (λ z. z.command) given_up

pub returns-clause-same : goal.returns-clause-same
returns-clause-same g c =
    let w = c.requires.ready in
    same_command c.step.result c.args.machine.now c.step.new.self w.3 c.step.ensures.leaves c.step.ensures.given_up w.5.stands.after

pub returns-clause-cursors : goal.returns-clause-cursors
returns-clause-cursors g c =
    let f = g.S.Space.form c.args.s.now in
    by_three c.step.result _ _ _ _
    (λ turn made leaves rightly told small options live rest n who others J I C.
    let is = J.stands.after in
    plain_cursors f (g.S.Space.image c.args.s.now) (g.S.Space.image c.step.new.s) c.args.machine.now c.step.new.self n turn others (own_with options live c.args.held.now rest) c.args.limit c.args.stood_on.now
    I.accepted I.knows (made told small n others is I.may_be_out I.accepted I.knows) is (leaves n is) refl J.stands.granted (λ quiet. (c.step.ensures.idle quiet).image) (rightly told small) C)
    c.step.ensures.made c.step.ensures.leaves c.step.ensures.rightly

pub returns-clause-full : goal.returns-clause-full
returns-clause-full g c =
    by_four c.step.result _ _ _ _ _
    (λ turn made row rightly starves told small options live rest n who others J I.
    let is = J.stands.after in
    plain_full (g.S.Space.form c.args.s.now) (g.S.Space.image c.args.s.now) (g.S.Space.image c.step.new.s) c.args.machine.now c.step.new.self n c.args.limit c.args.stood_on.now others turn is I.accepted I.knows
    (row n is) (made told small n others is I.may_be_out I.accepted I.knows) (rightly told small) (starves c.requires.spare n is))
    c.step.ensures.made c.step.ensures.row c.step.ensures.rightly c.step.ensures.starves

-- a machine that isn't quiet, and may change the map, holds its chain for writing
pub returns-clause-calm : goal.returns-clause-calm
returns-clause-calm g c options live rest n who J calm =
    elim (plain_calm (g.S.Space.form c.args.s.now) c.requires.few (own_with options live c.args.held.now rest) (resting rest) c.args.machine.now n who c.args.locks.now refl J.stands.granted J.stands.after J.holds calm) [
      | inl looks ↦ c.step.ensures.looked looks
      | inr quiet ↦ c.step.ensures.idle quiet
    ]

-- one that isn't in the middle of a change is quiet, or doesn't change the map
pub returns-clause-spared : goal.returns-clause-spared
returns-clause-spared g c options live rest n who J spares =
    elim (plain_spared (g.S.Space.form c.args.s.now) (own_with options live c.args.held.now rest) c.args.machine.now n refl J.stands.granted J.stands.after spares) [
      | inl looks ↦ c.step.ensures.looked looks
      | inr quiet ↦ c.step.ensures.idle quiet
    ]

-- what a failed step of the machine leaves
pub returns-clause-stopped : goal.returns-clause-stopped
returns-clause-stopped g c =
    on_err_weaker c.step.result (λ stopped told small options live rest n who others J I. stopped told small n others J.stands.after I.may_be_out I.accepted I.knows) c.step.ensures.stopped

-- memory is wanting for a lock or a value
pub returns-clause-starves : goal.returns-clause-starves
returns-clause-starves g c =
    IfOk-weaker c.step.result _ _ (λ turn starves options live rest n who J. plain_starves (g.S.Space.form c.args.s.now) (record { command = OnMap (command_of c.args.machine.now.command); steps = n }) turn (starves c.requires.spare n J.stands.after)) c.step.ensures.starves
