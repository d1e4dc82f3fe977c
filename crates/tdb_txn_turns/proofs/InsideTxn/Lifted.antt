-- What a command does to its opener's walk is what the law asks, in the states that show it.
use Rattle.std.proofs.Common.{◌≡◌, ℕ, ◌≤◌, List, Bool, false, Some, is_some, refl, sym, ◌∙◌, ap, subst, inl, inr, arith}
use Rattle.std.specs.Prelude.{◌&&◌, not}
use Rattle.std.proofs.lemmas.Bool.{false≢true}
use Rattle.tdb_space.specs.Form.{Form}
use Rattle.tdb_space.proofs.Pairs.Maps.{home_below}
use Rattle.tdb_law.specs.Commands.{Command, Reply, is_first}
use Rattle.tdb_law.specs.Commands.Turn.{Ends}
use Rattle.tdb_law.specs.Openers.{Map, nowhere, seen}
use Rattle.tdb_law.specs.Outcomes.{moves}
use Rattle.tdb_law.specs.Refusals.{chain_byte}
use Rattle.tdb_law.specs.Walks.{Arrives, Finishes, Walked, begins}
use Rattle.tdb_law.specs.Walks.Walked.{walk_ends, walk_arrives, walk_finishes, walk_fails}
use Rattle.tdb_law.specs.World.{HasFewChains, State}
use Rattle.tdb_txn_turns.specs.InsideTxn.Laws.{WalksAreLawful, WalksEnd, WalksStay}
use Rattle.tdb_txn_turns.specs.InsideTxn.Turns.{ReadsAll}
use Rattle.tdb_txn_turns.specs.InsideTxn.Walks.{ArrivesInside, FinishesInside, WalkedInside}
use Rattle.tdb_txn_turns.specs.InsideTxn.Walks.WalkedInside.{shifts, arrives, finishes, fails}

-- an opener who reads all records reads the chain of each key
pub reads_chain : (f : Form) (table : ℕ → ℕ → ℕ) (who : ℕ) (k : List ℕ) → HasFewChains f → ReadsAll table who → 1 ≤ table who (chain_byte f k)
reads_chain f table who k few reads =
    let low = home_below f k few.some in
    let most = few.few in
    reads (chain_byte f k) (omega arith) (omega (arith, low, most))

module _ (f : Form) (old new : State) (who : ℕ) (c : Command) (r : Reply) (few : HasFewChains f) (reads : ReadsAll old.table who) (granted : (old.spot who).gone ≡ false) where
  abbrev m : Map
  m = seen (old.own who) old.file

  begun : begins f c (old.own who) nowhere ≡ begins f c (old.own who) (old.spot who)
  begun = ap (λ g. is_first c && (moves f c (old.own who) && not g)) (sym granted)

  lift_arrives : (start : Bool) (k : List ℕ) → ArrivesInside f m (old.mark who) (new.mark who) start k → Arrives f old new who start k
  lift_arrives start k A = record {
    moved = record {
      holds = λ e inside q here. reads_chain f old.table who q few reads;
      further = A.further;
      fewer = A.fewer;
      kept = λ q due. elim (A.kept q due) [ inl same ↦ inl (ap Some same) | inr ahead ↦ inr (inl ahead) ];
    };
    was = A.was;
    behind = A.behind;
    reached = A.reached;
  }

  lift_finishes : (start : Bool) → FinishesInside m (old.mark who) start → Finishes f old who start
  lift_finishes start nothing = record { holds = λ e inside q here. reads_chain f old.table who q few reads; nothing = λ q due. absurd (nothing q due) }

  lifted : WalkedInside f m (old.mark who) (new.mark who) (old.own who) (new.own who) c r → Walked f old new who c 0 (Ends r)
  lifted (shifts still shift) = walk_ends r refl still shift
  lifted (arrives k v is moving A) = walk_arrives k v (ap Ends is) moving (lift_arrives (begins f c (old.own who) (old.spot who)) k (subst (λ s. ArrivesInside f m (old.mark who) (new.mark who) s k) begun A))
  lifted (finishes is moving nothing) = walk_finishes (ap Ends is) moving (lift_finishes (begins f c (old.own who) (old.spot who)) (subst (FinishesInside m (old.mark who)) begun nothing))
  lifted (fails is moving) = walk_fails (ap Ends is) moving

pub walks_are_lawful : WalksAreLawful
walks_are_lawful f old new who c r few reads granted W = lifted f old new who c r few reads granted W

pub walks_stay : WalksStay
walks_stay f m mark x y c r still = shifts still (λ some. record { inside = refl; reached = refl; fewer = λ k e. inl e; kept = λ k e. inl e })

pub walks_end : WalksEnd
walks_end f m mark later x y c r still none = shifts still (λ some. absurd (false≢true (sym (ap is_some none) ∙ some)))
