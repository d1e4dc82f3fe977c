-- The lock table as strengths, in the words of the law of cursors; and an opener's explicit locks there.
use Rattle.std.proofs.Common.{◌≡◌, ℕ, ◌+◌, List, Bool, Option, Some, None, unwrap_or, refl, ap, arith}
use Rattle.tdb_locks.specs.HeldLocks.{HeldLocks, AreCounts}
use Rattle.tdb_locks.specs.LockTable.{held}
use Rattle.tdb_locks.specs.declared.kind.Kind.{Kind}
use Rattle.tdb_locks.specs.declared.kind.Kind.TheVariants.{Read, Write}
use Rattle.tdb_locks.specs.declared.piece.Piece.{Piece}
use Rattle.tdb_locks.proofs.Strengths as Locks
use Rattle.tdb_steps.specs.Holdings.{strength}
use Rattle.tdb_walk.specs.InLaw.{IsAll, HoldsExplicit, strengths}
use Rattle.tdb_commands.specs.declared.options.Options.{Options}
use Rattle.tdb_openers.specs.Openers.{AtRest, all_of, own_with}
use Rattle.tdb_openers.specs.Turning.{law_table}
use Rattle.tdb_commands.proofs.Counts.{no_chain}
use Rattle.tdb_openers.proofs.ExplicitLocks.Owned.{own_count}

same_strength : (o : Option Kind) → Locks.strength o ≡ strength o
same_strength None = refl
same_strength (Some Read) = refl
same_strength (Some Write) = refl

pub strengths_are : (ps : List Piece) → strengths ps ≡ law_table ps
strengths_are ps = λ i o b. same_strength (held ps (o + 1) b) i

all_explicit : (all : Option (Kind × ℕ)) → IsAll all (all_of all)
all_explicit None = refl
all_explicit (Some (Read, count)) = (count, refl)
all_explicit (Some (Write, count)) = (count, refl)

pub explicit_of : (options : Options) (live : Bool) (locks : HeldLocks) (rest : AtRest) → AreCounts locks.chains → HoldsExplicit locks (own_with options live locks rest)
explicit_of options live locks rest counts = record {
  chains = λ j. own_count options live locks rest counts j;
  free = ap (λ o. unwrap_or o 0) (no_chain locks.chains 164 (λ c e. omega (arith, e)));
  all = all_explicit locks.all;
}
