-- Each turn goes on from the steps before it, and there are fewer than eight.
use Rattle.std.proofs.Common.{◌≡◌, ◌<◌, ◌≤◌, ◌++◌, ℕ, List, [], true, refl, sym, ◌∙◌, subst, arith}
use Rattle.std.specs.Prelude.{◌^◌}
use Rattle.tdb_space.specs.Form.{Form}
use Rattle.tdb_space.specs.Accepted.{AcceptWith}
use Rattle.tdb_locks.specs.declared.turn.Turn.{Turn}
use Rattle.tdb_locks.specs.declared.turn.Turn.TheVariants as Turns
use Rattle.tdb_steps.specs.PlainCommands.{command_of, reply_of, turn_of}
use Rattle.tdb_steps.specs.Stages.{hands_in}
use Rattle.tdb_steps.specs.Machines.{Doing, DoingKnows, Leaves, MachineTurned, MapRow}
use Rattle.tdb_law.specs.Commands.Command.{OnMap}
use Rattle.tdb_law.specs.MapCommands.{map_fills}
use Rattle.tdb_steps.specs.declared.plain.Plain.{Plain}
use Rattle.tdb_steps.specs.Room.{FullAtTake}
use Rattle.tdb_txn_turns.specs.InsideTxn.Spared.{StageSpares, TurnSpares}
use Rattle.tdb_txn_turns.proofs.InsideTxn.Fullness.{room_left, full_ends}
use Rattle.tdb_txn_turns.proofs.InsideTxn.WalkKept.{walk_begins, walk_goes_on, walk_ends_so}
use Rattle.tdb_txn_turns.proofs.InsideTxn.Progress.{Progress, last_few, none_out, of_begun, of_step, progress_begins, progress_goes_on, progress_ends}
use Rattle.tdb_txn_turns.proofs.inside_txn.alone.take_turns.Goals as goal

short : (size limit : ℕ) → size ≤ limit → limit ≤ 4294963200 → size < 2 ^ 32
short size limit within low = omega (arith, within, low)

-- what a turn makes, over a view of the same form
made_on : (f h : Form) (a b : List ℕ) (was now : Doing) (n : ℕ) (turn to : Turn) → turn ≡ to → h ≡ f
    → (AcceptWith h a (hands_in was.stage ++ []) → DoingKnows h a was → MachineTurned h a b was now n (turn_of turn) [])
    → AcceptWith f a (hands_in was.stage ++ []) → DoingKnows f a was → MachineTurned f a b was now n (turn_of to) []
made_on f h a b was now n turn to is form made A K =
    subst (λ t. MachineTurned f a b was now n (turn_of t) []) is
    (subst (λ x. AcceptWith x a (hands_in was.stage ++ []) → DoingKnows x a was → MachineTurned x a b was now n (turn_of turn) []) form made A K)

-- so it is with the records on which cursors stand
spares_on : (f h : Form) (b : List ℕ) (was now : Doing) (stood_on : List ℕ) (turn to : Turn) → turn ≡ to → h ≡ f
    → (AcceptWith h b (hands_in was.stage ++ []) → DoingKnows h b was → StageSpares stood_on was.stage was.command → TurnSpares stood_on now (turn_of turn))
    → AcceptWith f b (hands_in was.stage ++ []) → DoingKnows f b was → StageSpares stood_on was.stage was.command → TurnSpares stood_on now (turn_of to)
spares_on f h b was now stood_on turn to is form spares A K S =
    subst (λ t. TurnSpares stood_on now (turn_of t)) is (subst (λ x. AcceptWith x b (hands_in was.stage ++ []) → DoingKnows x b was → StageSpares stood_on was.stage was.command → TurnSpares stood_on now (turn_of turn)) form spares A K S)

-- when it ends with Full, over a view of the same form
full_on : (f h : Form) (b : List ℕ) (limit : ℕ) (command : Plain) (was : Doing) (n : ℕ) (turn to : Turn) → turn ≡ to → h ≡ f → was.command ≡ command
    → (AcceptWith h b (hands_in was.stage ++ []) → DoingKnows h b was → FullAtTake h b limit (record { command = OnMap (command_of was.command); steps = n }) (turn_of turn))
    → AcceptWith f b (hands_in was.stage ++ []) → DoingKnows f b was → FullAtTake f b limit (record { command = OnMap (command_of command); steps = n }) (turn_of to)
full_on f h b limit command was n turn to is form of full A K =
    subst (λ t. FullAtTake f b limit (record { command = OnMap (command_of command); steps = n }) (turn_of t)) is
    (subst (λ p. FullAtTake f b limit (record { command = OnMap (command_of p); steps = n }) (turn_of turn)) of
    (subst (λ x. AcceptWith x b (hands_in was.stage ++ []) → DoingKnows x b was → FullAtTake x b limit (record { command = OnMap (command_of was.command); steps = n }) (turn_of turn)) form full A K))

pub loop-taken-init : goal.loop-taken-init
loop-taken-init g c =
    let S = g.S.Space in
    let d = c.args.machine.now in
    record {
      of = of_begun d c.requires.begun;
      few = omega arith;
      fits = c.requires.fits;
      made = λ told A. subst (λ m. Progress (S.form c.args.s.now) (S.image c.args.s.now) (S.image c.args.s.now) d.command m 0) (sym c.requires.begun)
          (progress_begins (S.form c.args.s.now) (S.image c.args.s.now) d.command d.chain d.seqnum A);
      spares = λ told A. subst (λ m. StageSpares c.args.stood_on.now m.stage m.command) (sym c.requires.begun) tt;
      walks = λ told A keyed chain off there in_chain. walk_begins (S.form c.args.s.now) c.args.stood_on.now chain off in_chain.0 there (S.image c.args.s.now) (command_of d.command) in_chain.1;
      still = λ told A fills early. refl;
      roomy = λ told A late. absurd (omega (arith, late));
      longer = omega arith;
      within = c.requires.within;
      wrote = record { form = refl; disk = λ e. refl; under = refl };
      faults = refl;
      bytes_read = omega arith;
    }

pub loop-taken-preserved : goal.loop-taken-preserved
loop-taken-preserved g c =
    let S = g.S.Space in
    let a = c.args.s.now in
    let b = c.loop-taken.s in
    let d = c.args.machine.now in
    let was = c.loop-taken.machine in
    let now = c.turn_alone.new.machine in
    let n = c.loop-taken._taken in
    let I = c.loop-taken.invariant in
    let e = c.in_ok-turn.ensures in
    let W = e.wrote in
    let row = subst (λ t. MapRow (command_of was.command) n (turn_of t)) c.in-Step.is (e.row n I.of.after) in
    record {
      of = of_step d.command d.seqnum was now n I.of (subst (λ t. Leaves was now n (turn_of t)) c.in-Step.is (e.leaves n I.of.after));
      few = let most = last_few (command_of was.command) in omega (arith, row, most);
      fits = e.fits;
      made = λ told A.
          let form = I.wrote.form in
          let P = I.made told A in
          progress_goes_on (S.form a) (S.image a) (S.image b) (S.image c.turn_alone.new.s) d.command d.seqnum was now n I.of P
          (made_on (S.form a) (S.form b) (S.image b) (S.image c.turn_alone.new.s) was now n c.in_ok-turn.turn Turns.Step c.in-Step.is form
          (e.made told (short (S.size b) c.args.limit I.within c.requires.limit) n I.of.after (none_out was.stage)) P.accepted P.knows);
      spares = λ told A.
          let P = I.made told A in
          spares_on (S.form a) (S.form b) (S.image b) was now c.args.stood_on.now c.in_ok-turn.turn Turns.Step c.in-Step.is I.wrote.form
          (e.spares told (short (S.size b) c.args.limit I.within c.requires.limit) n I.of.after) P.accepted P.knows (I.spares told A);
      walks = λ told A keyed chain off there in_chain.
          let P = I.made told A in
          let few = short (S.size b) c.args.limit I.within c.requires.limit in
          walk_goes_on (S.form a) c.args.stood_on.now chain off in_chain.0 there (S.image a) (S.image b) (S.image c.turn_alone.new.s) d.command was now n I.of.command keyed I.of.after P.accepted (I.walks told A keyed chain off there in_chain)
          (made_on (S.form a) (S.form b) (S.image b) (S.image c.turn_alone.new.s) was now n c.in_ok-turn.turn Turns.Step c.in-Step.is I.wrote.form (e.made told few n I.of.after (none_out was.stage)) P.accepted P.knows)
          (subst (λ t. Leaves was now n (turn_of t)) c.in-Step.is (e.leaves n I.of.after))
          (spares_on (S.form a) (S.form b) (S.image b) was now c.args.stood_on.now c.in_ok-turn.turn Turns.Step c.in-Step.is I.wrote.form (e.spares told few n I.of.after) P.accepted P.knows (I.spares told A));
      still = λ told A fills early.
          let P = I.made told A in
          e.still told (short (S.size b) c.args.limit I.within c.requires.limit) n I.of.after (omega (arith, early)) (subst (λ x. AcceptWith x (S.image b) (hands_in was.stage ++ [])) (sym I.wrote.form) P.accepted)
          (subst (λ p. map_fills (command_of p) ≡ true) (sym I.of.command) fills) c.in-Step.is ∙ I.still told A fills (omega (arith, early));
      roomy = λ told A late len need N.
          let P = I.made told A in
          room_left (S.form a) (S.image a) (S.image b) c.args.limit (command_of d.command) n len need (omega (arith, late)) (λ later. I.roomy told A later len need N) (I.still told A)
          (full_on (S.form a) (S.form b) (S.image b) c.args.limit d.command was n c.in_ok-turn.turn Turns.Step c.in-Step.is I.wrote.form I.of.command (e.full told (short (S.size b) c.args.limit I.within c.requires.limit) n I.of.after) P.accepted P.knows) N;
      longer = let one = I.longer in let two = e.longer in omega (arith, one, two);
      within = e.within I.within;
      wrote = record { form = W.form ∙ I.wrote.form; disk = λ z. W.disk z ∙ I.wrote.disk z; under = W.under ∙ I.wrote.under };
      faults = e.cause.done ∙ I.faults;
      bytes_read = let one = I.bytes_read in let two = e.bytes_read in omega (arith, one, two);
    }

pub returns-in-Done-clause-done : goal.returns-in-Done-clause-done
returns-in-Done-clause-done g c told A =
    let S = g.S.Space in
    let a = c.args.s.now in
    let b = c.loop-taken.s in
    let d = c.args.machine.now in
    let was = c.loop-taken.machine in
    let now = c.turn_alone.new.machine in
    let n = c.loop-taken._taken in
    let I = c.loop-taken.invariant in
    let e = c.in_ok-turn.ensures in
    let P = I.made told A in
    progress_ends (S.form a) (S.image a) (S.image b) (S.image c.turn_alone.new.s) d.command d.seqnum was now n I.of P (reply_of c.in-Done.reply)
    (made_on (S.form a) (S.form b) (S.image b) (S.image c.turn_alone.new.s) was now n c.in_ok-turn.turn (Turns.Done c.in-Done.reply) c.in-Done.is I.wrote.form
    (e.made told (short (S.size b) c.args.limit I.within c.requires.limit) n I.of.after (none_out was.stage)) P.accepted P.knows)
    (subst (λ t. Leaves was now n (turn_of t)) c.in-Done.is (e.leaves n I.of.after))

pub returns-in-Done-clause-full : goal.returns-in-Done-clause-full
returns-in-Done-clause-full g c told A =
    let S = g.S.Space in
    let a = c.args.s.now in
    let b = c.loop-taken.s in
    let d = c.args.machine.now in
    let was = c.loop-taken.machine in
    let n = c.loop-taken._taken in
    let I = c.loop-taken.invariant in
    let e = c.in_ok-turn.ensures in
    let P = I.made told A in
    let row = subst (λ p. MapRow (command_of p) n (turn_of (Turns.Done c.in-Done.reply))) I.of.command (subst (λ t. MapRow (command_of was.command) n (turn_of t)) c.in-Done.is (e.row n I.of.after)) in
    full_ends (S.form a) (S.image a) (S.image b) c.args.limit d.command n (reply_of c.in-Done.reply) row (I.roomy told A) (I.still told A)
    (full_on (S.form a) (S.form b) (S.image b) c.args.limit d.command was n c.in_ok-turn.turn (Turns.Done c.in-Done.reply) c.in-Done.is I.wrote.form I.of.command (e.full told (short (S.size b) c.args.limit I.within c.requires.limit) n I.of.after) P.accepted P.knows)

pub returns-in-Done-clause-walks : goal.returns-in-Done-clause-walks
returns-in-Done-clause-walks g c told A keyed chain off there in_chain =
    let S = g.S.Space in
    let a = c.args.s.now in
    let b = c.loop-taken.s in
    let was = c.loop-taken.machine in
    let now = c.turn_alone.new.machine in
    let n = c.loop-taken._taken in
    let I = c.loop-taken.invariant in
    let e = c.in_ok-turn.ensures in
    let P = I.made told A in
    walk_ends_so (S.form a) c.args.stood_on.now chain off in_chain.0 there (S.image a) (S.image b) (S.image c.turn_alone.new.s) c.args.machine.now.command was now n I.of.command keyed I.of.after P.accepted (I.walks told A keyed chain off there in_chain)
    (reply_of c.in-Done.reply)
    (made_on (S.form a) (S.form b) (S.image b) (S.image c.turn_alone.new.s) was now n c.in_ok-turn.turn (Turns.Done c.in-Done.reply) c.in-Done.is I.wrote.form
    (e.made told (short (S.size b) c.args.limit I.within c.requires.limit) n I.of.after (none_out was.stage)) P.accepted P.knows)
    (subst (λ t. Leaves was now n (turn_of t)) c.in-Done.is (e.leaves n I.of.after))
