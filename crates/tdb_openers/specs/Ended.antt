-- What a turn that ends a command makes of the lock table, of any file, which it leaves, and of the opener, in the
-- words of the law.
use Rattle.std.specs.Prelude.{ℕ, Bool, List, None}
use Rattle.tdb_space.specs.Form.{Form}
use Rattle.tdb_locks.specs.declared.piece.Piece.{Piece}
use Rattle.tdb_law.specs.Commands.{Command, Reply}
use Rattle.tdb_law.specs.Commands.Command.{Seqnum}
use Rattle.tdb_law.specs.Commands.Turn.{Ends}
use Rattle.tdb_law.specs.World.{HasFewChains}
use Rattle.tdb_locks.specs.HeldLocks.{HeldLocks, AreCounts}
use Rattle.tdb_commands.specs.declared.options.Options.{Options}
use Rattle.tdb_openers.specs.Openers.{AtRest, own_with}
use Rattle.tdb_law.specs.Openers.{Own, Spot, View}
use Rattle.tdb_openers.specs.Turning.{OpenerHolds, TurnsLocks, TurnsFile, resting}

pub record EndTurned (f : Form) (x y : Own) (s : Spot) (v : View) (c : Command) (who : ℕ) (ps qs : List Piece) (r : Reply) : Type 0 where
  pub locks : TurnsLocks f x y s c 0 None who ps qs (Ends r)
  pub file : (img : List ℕ) → TurnsFile f x y s v c 0 who ps img img (Ends r)

-- Before the turn that asks for the sequence number, which no opener's own state refuses: the opener holds what it
-- keeps.
pub record MayCount (f : Form) (options : Options) (live : Bool) (held : HeldLocks) (rest : AtRest) (who : ℕ) (ps : List Piece) : Type 0 where
  pub few : HasFewChains f
  pub counts : AreCounts held.chains
  pub holds : OpenerHolds f (own_with options live held rest) (resting rest) Seqnum 0 who ps
