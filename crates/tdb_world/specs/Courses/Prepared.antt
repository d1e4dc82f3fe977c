-- What a report tells of the Commit of a prepared transaction.
use Rattle.std.specs.Prelude.{ℕ, zero, suc, ◌+◌, ◌≡◌, ◌≤◌, ◌==◌, List, [], ◌∷◌, Some, if◌then◌else◌}
use Rattle.tdb_space.specs.Form.{Form}
use Rattle.tdb_law.specs.Beginning.{IsLoaded}
use Rattle.tdb_law.specs.Commands.{Turn}
use Rattle.tdb_law.specs.Commands.Reply.{Done}
use Rattle.tdb_law.specs.Commands.Turn.{Step, Ends}
use Rattle.tdb_law.specs.Ends.{commit_last}
use Rattle.tdb_law.specs.Lines.{Line}
use Rattle.tdb_law.specs.Lines.Line.{Died, Took}
use Rattle.tdb_law.specs.Openers.{Options, Txn}
use Rattle.tdb_law.specs.World.{State}
use Rattle.tdb_world.specs.Prepared.{CommitsPrepared}
use Rattle.tdb_world.specs.Courses.Stops.{Leads}

-- the turns that lines tell of an opener, up to its death
abbrev pub turns_of : ℕ → List Line → List Turn
turns_of o [] = []
turns_of o (Took who c turn ∷ lines) = if who == o then turn ∷ turns_of o lines else turns_of o lines
turns_of o (Died who ∷ lines) = if who == o then [] else turns_of o lines
turns_of o (line ∷ lines) = turns_of o lines

-- so many steps, and then the end of a command that is done
abbrev pub steps_and_done : ℕ → List Turn
steps_and_done zero = Ends Done ∷ []
steps_and_done (suc n) = Step ∷ steps_and_done n

-- the turns of two lists are the same, as far as both go
abbrev pub AreAlike : List Turn → List Turn → Type 0
AreAlike [] ys = Unit {0}
AreAlike (x ∷ xs) [] = Unit {0}
AreAlike (x ∷ xs) (y ∷ ys) = (x ≡ y) × AreAlike xs ys

-- Where the report of a world just loaded has come to a state in which an opener has a Commit of its prepared
-- transaction, with so many steps left, these are three at most, and the lines behind tell of this opener these steps,
-- and then that the Commit is done; whatever they tell of others between.
abbrev pub PreparedCommitsEnd : Type 0
PreparedCommitsEnd =
    (f : Form) (options : Options) (old mid new : State) (front rest : List Line) (o : ℕ) (txn : Txn) (steps left : ℕ)
    → IsLoaded f old options → Leads f old front mid → Leads f mid rest new → CommitsPrepared mid o txn steps → steps + left ≡ commit_last (Some txn)
    → (left ≤ 3) × AreAlike (steps_and_done left) (turns_of o rest)
