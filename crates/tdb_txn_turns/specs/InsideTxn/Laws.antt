-- The laws of what is done inside a transaction without a call on it.
use Rattle.std.specs.Prelude.{ℕ, ◌≡◌, ◌<◌, false, None, Some}
use Rattle.tdb_space.specs.Form.{Form}
use Rattle.tdb_law.specs.Commands.{Command, Reply}
use Rattle.tdb_law.specs.Commands.GroupCommand.{Commit, Prepare}
use Rattle.tdb_law.specs.Commands.Command.{OnGroup}
use Rattle.tdb_law.specs.Commands.Reply.{Done}
use Rattle.tdb_law.specs.Commands.Turn.{Ends}
use Rattle.tdb_law.specs.Openers.{Own, Txn, Map, Mark, seen}
use Rattle.tdb_law.specs.Outcomes.{moves}
use Rattle.tdb_law.specs.Walks.{Walked}
use Rattle.tdb_law.specs.World.{HasFewChains, State}
use Rattle.tdb_law.specs.Refusals.{Refusal, refusal, says}
use Rattle.tdb_txn_turns.specs.InsideTxn.Turns.{ReadsAll, TurnsInside}
use Rattle.tdb_txn_turns.specs.InsideTxn.Walks.{WalkedInside}

-- An inner Prepare does nothing, and is done.
abbrev pub PreparesInside : Type 0
PreparesInside = (f : Form) (x : Own) (t : Txn) (n p : ℕ) → x.txn ≡ Some t → t.prepared ≡ None → 1 < t.depth → TurnsInside f x x (OnGroup Prepare) n p p Done

-- A command that the opener's own state refuses does nothing; but a Commit and a Prepare that are refused end their
-- transaction.
abbrev pub IsEnd : Command → Type 0
IsEnd (OnGroup Commit) = Unit {0}
IsEnd (OnGroup Prepare) = Unit {0}
IsEnd c = ⊥

abbrev pub RefusesInside : Type 0
RefusesInside = (f : Form) (x : Own) (t : Txn) (c : Command) (why : Refusal) (n p : ℕ) → x.txn ≡ Some t → (IsEnd c → ⊥) → refusal f c x ≡ Some why → TurnsInside f x x c n p p (says x why)

-- What a command in one turn does to the walk of its opener's cursor is what the law asks of that turn, in all states
-- that show it: the opener reads the bytes of all chains and records, and no move of it is blocked.
abbrev pub WalksAreLawful : Type 0
WalksAreLawful =
    (f : Form) (old new : State) (who : ℕ) (c : Command) (r : Reply) → HasFewChains f → ReadsAll old.table who → (old.spot who).gone ≡ false
    → WalkedInside f (seen (old.own who) old.file) (old.mark who) (new.mark who) (old.own who) (new.own who) c r → Walked f old new who c 0 (Ends r)

-- A command that moves no cursor leaves a walk that stays where it was, and one after which there is no cursor ends it.
abbrev pub WalksStay : Type 0
WalksStay = (f : Form) (m : Map) (mark : Mark) (x y : Own) (c : Command) (r : Reply) → moves f c x ≡ false → WalkedInside f m mark mark x y c r

abbrev pub WalksEnd : Type 0
WalksEnd = (f : Form) (m : Map) (mark later : Mark) (x y : Own) (c : Command) (r : Reply) → moves f c x ≡ false → y.cursor ≡ None → WalkedInside f m mark later x y c r
