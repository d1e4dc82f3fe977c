-- Small reports, some lawful and some not: what the definitions say of each.
use Rattle.std.specs.Prelude.{ℕ, List, [], ◌∷◌, ◌++◌, true, false, Option, Some, None}
use Rattle.std.specs.FinMap.{insert, empty}
use Rattle.tdb_words.specs.declared.word.Order.TheVariants.{Little}
use Rattle.tdb_words.specs.declared.hash.HashKind.TheVariants.{Old}
use Rattle.tdb_space.specs.Form.{Form}
use Rattle.tdb_law.specs.Commands.{Turn}
use Rattle.tdb_law.specs.Commands.MapCommand.{Fetch, Store}
use Rattle.tdb_law.specs.Commands.GroupCommand.{Start, Commit}
use Rattle.tdb_law.specs.Commands.WalkCommand.{First, Next}
use Rattle.tdb_law.specs.Commands.Command.{OnMap, OnGroup, OnWalk}
use Rattle.tdb_law.specs.Commands.Reply.{Done, Value, Pair}
use Rattle.tdb_law.specs.Commands.Turn.{Step, Blocked, Ends}
use Rattle.tdb_law.specs.Openers.{Map, Options, Own, Txn, Task, opened, nowhere}
use Rattle.tdb_law.specs.Held.{holding}
use Rattle.tdb_law.specs.World.{State}
use Rattle.tdb_law.specs.Turned.{Turned}
use Rattle.tdb_law.specs.Refusals.{chain_byte}
use Rattle.tdb_law.specs.Replay.{Replay, put}
use Rattle.tdb_law.specs.Lines.{Line, IsLawful}
use Rattle.tdb_law.specs.Lines.Line.{Joined, Took}
use Rattle.tdb_law.specs.Beginning.{beginning, nobody}

-- a small file of eight chains, which has the pair of a and 1; and a world with no options
abbrev pub small : Form
small = record { order = Little; hash = Old; chains = 8 }

abbrev pub a : List ℕ
a = 97 ∷ []

abbrev pub one : List ℕ
one = 49 ∷ []

abbrev pub two : List ℕ
two = 50 ∷ []

abbrev pub one_pair : Map
one_pair = insert empty a one

abbrev pub at_first : Replay
at_first = beginning (record { nesting = false; read_only = false; seqnum = false }) one_pair 0

-- the lock byte of the chain of a
abbrev pub byte_a : ℕ
byte_a = chain_byte small a

-- two openers join
abbrev pub two_join : List Line
two_join = Joined 0 ∷ Joined 1 ∷ []

abbrev pub stores : Turn → Line
stores turn = Took 0 (OnMap (Store a two)) turn

abbrev pub fetches : Turn → Line
fetches turn = Took 1 (OnMap (Fetch a)) turn

-- A store has locked its chain, and a fetch of the same key is blocked by it until the store is done; then it sees the
-- new value.
abbrev pub row_of_two : List Line
row_of_two = two_join ++ stores Step ∷ fetches (Blocked 0 byte_a) ∷ stores (Ends Done) ∷ fetches Step ∷ fetches (Ends (Value two)) ∷ []

-- The first opener is in its transaction, in which it has stored 2 at a; the second has joined.
abbrev pub options : Options
options = record { nesting = false; read_only = false; seqnum = false }

abbrev pub group : Txn
group = record { image = insert one_pair a two; depth = 1; doomed = false; prepared = None; changed = true; numbered = false }

abbrev pub in_group : Own
in_group = record (opened (nobody options)) { txn = Some group }

abbrev pub at_group : Replay
at_group = record at_first { joined = 2; own = put (put (λ o. nobody options) 0 in_group) 1 (opened (nobody options)) }

abbrev pub commits_to : Turn → Line
commits_to turn = Took 0 (OnGroup Commit) turn

abbrev pub stores_too : Turn → Line
stores_too turn = Took 1 (OnMap (Store a one)) turn

abbrev pub starts_too : Turn → Line
starts_too turn = Took 1 (OnGroup Start) turn

-- A commit takes nine turns. A store of another opener is blocked all the while, and goes on after its end.
abbrev pub row_of_commit : List Line
row_of_commit =
    stores_too (Blocked 0 byte_a)
    ∷ commits_to Step ∷ commits_to Step ∷ commits_to Step ∷ commits_to Step ∷ commits_to Step ∷ commits_to Step ∷ commits_to Step ∷ commits_to Step
    ∷ stores_too (Blocked 0 byte_a) ∷ commits_to (Ends Done) ∷ stores_too Step ∷ stores_too (Ends Done) ∷ []

-- Not lawful: a fetch that sees the new value before the commit's last turn.
abbrev pub seen_early : List Line
seen_early =
    commits_to Step ∷ commits_to Step ∷ commits_to Step ∷ commits_to Step ∷ commits_to Step ∷ commits_to Step ∷ commits_to Step ∷ commits_to Step
    ∷ fetches Step ∷ fetches (Ends (Value two)) ∷ []

-- Not lawful: a second transaction beside the first.
abbrev pub second_start : List Line
second_start = starts_too Step ∷ starts_too Step ∷ starts_too (Ends Done) ∷ []

-- Not lawful: a turn that is blocked by an opener who holds nothing.
abbrev pub blocked_by_nobody : List Line
blocked_by_nobody = two_join ++ fetches (Blocked 0 byte_a) ∷ []

-- Not lawful: a store that is done before it took its lock.
abbrev pub done_unlocked : List Line
done_unlocked = two_join ++ stores (Ends Done) ∷ []

-- Not lawful: a pair that a walk shows twice.
abbrev pub shown_twice : List Line
shown_twice = two_join ++ Took 0 (OnWalk First) (Ends (Pair a one)) ∷ Took 0 (OnWalk Next) Step ∷ Took 0 (OnWalk Next) (Ends (Pair a one)) ∷ []

-- what is said of a report, from the beginning and from the transaction on
abbrev pub IsRight : Replay → List Line → Type 0
IsRight s lines = IsLawful small s lines

abbrev pub IsWrong : Replay → List Line → Type 0
IsWrong s lines = IsLawful small s lines → ⊥

-- A small world: one opener has joined, and has this command; its table is what its openers hold.
abbrev pub one_task : ℕ → Task
one_task n = record { command = OnMap (Fetch a); steps = n }

abbrev pub one_own : ℕ → Own
one_own = put (λ o. nobody options) 0 (opened (nobody options))

abbrev pub one_at : ℕ → ℕ → Option Task
one_at n = put (λ o. None) 0 (Some (one_task n))

abbrev pub one_world : ℕ → State
one_world n = record {
  file = one_pair;
  table = λ o b. holding small (one_own o) nowhere (one_at n o) b;
  joined = 1;
  task = one_at n;
  own = one_own;
  spot = λ o. nowhere;
  view = λ o. record { must = false; way = λ b. false };
  mark = λ o. record { inside = false; reached = 0; ahead = λ k. false };
  stale = false;
  settled = false;
  number = 0;
  image_number = λ o. 0;
}

-- The first turn of its fetch locks the chain.
abbrev pub FetchLocks : Type 0
FetchLocks = Turned small (one_world 0) 0 (one_task 0) Step (one_world 1)
