-- What was found so far, and how long its content is.
use Rattle.std.proofs.Common.{◌≡◌, ◌∙◌, ℕ, ◌+◌, ◌-◌, ◌^◌, ◌<◌, ◌≤◌, List, [], ◌∷◌, ◌++◌, true, false, min, sym, ap, subst, arith}
use Rattle.tdb_space.specs.Extents.{Extent}
use Rattle.tdb_space.specs.Runs.{Changed, ChangedRuns}
use Rattle.tdb_txn.specs.Found.{FoundSoFar, HasRuns, Keeps}
use Rattle.tdb_txn.specs.declared.found.Found.{Found}
use Rattle.tdb_space.specs.Planned.{content_length}
use Rattle.tdb_txn.proofs.ContentLengths.{content_end}
use Rattle.tdb_txn.proofs.Scans.{scan_end, scan_none, scan_skip}

-- what is kept of runs doesn't know where a run that may go on stands
pub keeps_on : (runs : List Extent) (found : Found) (from to next : ℕ) → Keeps runs found → Keeps runs (record found { from = from; to = to; next = next })
keeps_on runs found from to next K = record { content = K.content; list = K.list; some = K.some }

-- no byte up to another place changes
pub found_skip : (a b : List ℕ) (old : ℕ) (skip : Extent) (found : Found) (m : ℕ) → found.next ≤ m → ((i : ℕ) → found.next ≤ i → i < m → Changed a b old skip i → ⊥) → FoundSoFar a b old skip found
    → FoundSoFar a b old skip (record found { next = m })
found_skip a b old skip found m up none F = record {
  runs = F.runs;
  keeps = keeps_on F.runs found found.from found.to m F.keeps;
  scanned = scan_skip (Changed a b old skip) F.runs found.from found.to found.next m up none F.scanned;
}

-- a run is counted, and put on the list, unless memory is wanting, or was before
module _ (runs : List Extent) (old new : Found) (run : Extent) (K : Keeps runs old) (counted : new.content ≡ min (old.content + (8 + run.1)) (2 ^ 64 - 1)) where
  counts_more : new.content ≡ min (content_length (runs ++ run ∷ [])) (2 ^ 64 - 1)
  counts_more = let was = K.content in let more = content_end runs run in omega (arith, counted, was, more)

  some_more : 8 ≤ content_length (runs ++ run ∷ [])
  some_more = let more = content_end runs run in omega (arith, more)

  pub keeps_listed : old.starved ≡ false → new.list ≡ old.list ++ run ∷ [] → Keeps (runs ++ run ∷ []) new
  keeps_listed fed listed = record { content = counts_more; list = λ e. listed ∙ ap (λ (es : List Extent). es ++ run ∷ []) (K.list fed); some = λ e. some_more }

  pub keeps_lost : new.starved ≡ true → Keeps (runs ++ run ∷ []) new
  keeps_lost starved = record { content = counts_more; list = λ e. absurd (cc (sym starved ∙ e)); some = λ e. some_more }

-- all that changes was looked at: the runs that are done are those of the bytes that change
pub record Finished (a b : List ℕ) (old : ℕ) (skip : Extent) (found : Found) : Type 0 where
  pub runs : List Extent
  pub keeps : Keeps runs found
  pub changed : ChangedRuns a b old skip runs

module _ (a b : List ℕ) (old : ℕ) (skip : Extent) (s now : Found) (F : FoundSoFar a b old skip s) (low : (i : ℕ) → Changed a b old skip i → i < s.next) where
  pub closed_all : s.from < s.to → Keeps (F.runs ++ (s.from, s.to - s.from) ∷ []) now → Finished a b old skip now
  closed_all some K = record {
    runs = F.runs ++ (s.from, s.to - s.from) ∷ [];
    keeps = K;
    changed = scan_end (Changed a b old skip) F.runs s.from s.to s.next some low F.scanned;
  }

  pub stood_all : s.to ≤ s.from → Finished a b old skip s
  stood_all none = record { runs = F.runs; keeps = F.keeps; changed = scan_none (Changed a b old skip) F.runs s.from s.to s.next none low F.scanned }

module _ (a b : List ℕ) (old : ℕ) (skip : Extent) (now : Found) (D : Finished a b old skip now) where
  pub finished_fed : now.starved ≡ false → ChangedRuns a b old skip now.list
  finished_fed fed = subst (λ (es : List Extent). ChangedRuns a b old skip es) (sym (D.keeps.list fed)) D.changed

  pub finished_starved : now.starved ≡ true → HasRuns a b old skip now.content
  finished_starved starved = record { runs = D.runs; changed = D.changed; long = D.keeps.content; some = D.keeps.some starved }
