-- A turn of a plain command that is ready for it, from what its machine says of the turn to the words of the law.
use Rattle.std.proofs.Common.{ℕ, ◌+◌, List, Bool, refl, sym, ◌∙◌, ap, subst}
use Rattle.tdb_words.specs.Word.{word}
use Rattle.tdb_space.specs.Form.{Form}
use Rattle.tdb_space.specs.Spare.{Spare}
use Rattle.tdb_space.specs.Extents.{HandPair}
use Rattle.tdb_locks.specs.HeldLocks.{HeldLocks, AreCounts}
use Rattle.tdb_locks.specs.declared.piece.Piece.{Piece}
use Rattle.tdb_locks.specs.declared.turn.Turn.{Turn}
use Rattle.tdb_law.specs.Commands as Law
use Rattle.tdb_law.specs.Commands.Command.{OnMap}
use Rattle.tdb_law.specs.Openers.{View}
use Rattle.tdb_law.specs.Held.{kept}
use Rattle.tdb_law.specs.Rows.{map_locks}
use Rattle.tdb_law.specs.World.{HasFewChains}
use Rattle.tdb_law.specs.Effects.{task_left}
use Rattle.tdb_law.specs.Turned.{number_next}
use Rattle.tdb_law.specs.Images.{image_map}
use Rattle.tdb_law.proofs.HandsOut.{image_answers}
use Rattle.tdb_commands.specs.InLaw.{law_turn}
use Rattle.tdb_steps.specs.Holdings.{HoldsBefore, LocksTurned}
use Rattle.tdb_steps.specs.LockRows.{locks_in, rows_of, AllStandAlone}
use Rattle.tdb_steps.specs.Machines.{Doing, Fits, Leaves, MachineTurned, MapRow, number_after}
use Rattle.tdb_steps.specs.PlainCommands.{command_of, turn_of}
use Rattle.tdb_commands.specs.declared.options.Options.{Options}
use Rattle.tdb_openers.specs.declared.job.Job.TheVariants as Jobs
use Rattle.tdb_openers.specs.Openers.{AtRest, own_with}
use Rattle.tdb_openers.specs.Turning.{TurnsLocks, TurnsFile, resting}
use Rattle.tdb_openers.specs.Jobs.{JobIsReady, JobTurned}
use Rattle.tdb_openers.proofs.PlainTurns.PlainRows.{rows_are, rows_alone, holds_before}
use Rattle.tdb_openers.proofs.PlainTurns.PlainTurned.{plain_locks, plain_effect, plain_number, Effected}
use Rattle.tdb_openers.proofs.PlainTurns.PlainJob.{left_stands, left_is}
use Rattle.tdb_openers.proofs.Joining.Recounted.{turn_is}

module _ (f : Form) (few : HasFewChains f) (options : Options) (live : Bool) (held : HeldLocks) (rest : AtRest) (counts : AreCounts held.chains) (d : Doing) (n who owner size : ℕ) (ps : List Piece)
    (J : JobIsReady f (own_with options live held rest) (resting rest) (Jobs.Plain d) n who owner size ps) where
  -- its locks stand alone, and it holds what it is to hold
  pub ready_alone : AllStandAlone held owner ps (rows_of d.command d.chain)
  ready_alone =
      subst (λ o. AllStandAlone held o ps (rows_of d.command d.chain)) (sym J.number)
      (subst (λ i. AllStandAlone held (who + 1) ps (rows_of d.command i)) (sym J.stands.chain) (rows_alone f few options live held rest counts J.holds.rests d.command n who ps J.stands.granted J.holds))

  pub ready_holds : HoldsBefore held (kept f (own_with options live held rest) (resting rest)) owner n ps (rows_of d.command d.chain)
  ready_holds =
      subst (λ o. HoldsBefore held (kept f (own_with options live held rest) (resting rest)) o n ps (rows_of d.command d.chain)) (sym J.number)
      (subst (λ i. HoldsBefore held (kept f (own_with options live held rest) (resting rest)) (who + 1) n ps (rows_of d.command i)) (sym J.stands.chain)
      (holds_before f few options live held rest counts J.holds.rests d.command n who ps J.stands.granted J.holds))

  in_law : (new : List Piece) (turn : Law.Turn) → LocksTurned (locks_in (rows_of d.command d.chain)) (kept f (own_with options live held rest) (resting rest)) owner n ps new turn
      → LocksTurned (map_locks f (command_of d.command)) (kept f (own_with options live held rest) (resting rest)) (who + 1) n ps new turn
  in_law new turn L =
      subst (λ ls. LocksTurned ls (kept f (own_with options live held rest) (resting rest)) (who + 1) n ps new turn) (ap (λ i. locks_in (rows_of d.command i)) J.stands.chain ∙ rows_are f d.command)
      (subst (λ o. LocksTurned (locks_in (rows_of d.command d.chain)) (kept f (own_with options live held rest) (resting rest)) o n ps new turn) J.number L)

  -- whatever the bytes are
  pub ready_turned : (e : Doing) (new : List Piece) (longer : ℕ) (spare : Spare) (turn : Turn) → Leaves d e n (turn_of turn) → MapRow (command_of d.command) n (turn_of turn)
      → LocksTurned (locks_in (rows_of d.command d.chain)) (kept f (own_with options live held rest) (resting rest)) owner n ps new (turn_of turn) → Fits e longer spare
      → JobTurned f (own_with options live held rest) (own_with options live held rest) (resting rest) (Jobs.Plain d) (Jobs.Plain e) n who longer ps new (law_turn turn)
  ready_turned e new longer spare turn leaves row L F = record {
    locks = subst (λ z. TurnsLocks f (own_with options live held rest) (own_with options live held rest) (resting rest) (OnMap (command_of d.command)) n z who ps new (law_turn turn)) (left_is f d e n turn leaves)
        (subst (λ t. TurnsLocks f (own_with options live held rest) (own_with options live held rest) (resting rest) (OnMap (command_of d.command)) n (task_left (OnMap (command_of d.command)) n t) who ps new t) (turn_is turn)
        (plain_locks f (command_of d.command) options live held rest n who ps J.stands.granted J.holds new (turn_of turn) (in_law new (turn_of turn) L) row));
    stands = left_stands f d e n (own_with options live held rest) size longer spare turn J.stands leaves F;
    lives = λ t e. refl;
  }

  -- of the bytes
  pub ready_file : (v : View) (e : Doing) (new : List Piece) (turn : Turn) (a b : List ℕ) (others : List HandPair)
      → LocksTurned (locks_in (rows_of d.command d.chain)) (kept f (own_with options live held rest) (resting rest)) owner n ps new (turn_of turn) → MachineTurned f a b d e n (turn_of turn) others
      → TurnsFile f (own_with options live held rest) (own_with options live held rest) (resting rest) v (OnMap (command_of d.command)) n who ps a b (law_turn turn)
  ready_file v e new turn a b others L M = record {
    effect = subst (Effected f (command_of d.command) options live held rest n who ps J.stands.granted J.holds v a b) (turn_is turn)
        (plain_effect f (command_of d.command) options live held rest n who ps J.stands.granted J.holds v a b (turn_of turn) (in_law new (turn_of turn) L).rightly (M.map (image_map f a) (λ k. image_answers f a k)));
    number = M.number ∙ ap (λ z. number_after z (command_of d.command) (turn_of turn) (word f.order a 48)) J.stands.counts
        ∙ plain_number f (command_of d.command) options live held rest n who ps J.stands.granted J.holds (turn_of turn) (word f.order a 48)
        ∙ ap (λ t. number_next f (OnMap (command_of d.command)) n (own_with options live held rest) t (word f.order a 48) 0) (turn_is turn);
  }
