-- What a turn reads, by what its parts do.
use Rattle.std.proofs.Common.{◌≡◌, ℕ, ◌+◌, ◌≤◌, refl, subst, arith}
use Rattle.tdb_disk.specs.Count.{RoseUpTo}
use Rattle.tdb_steps.specs.declared.stage.Stage.{Stage}
use Rattle.tdb_steps.specs.declared.stage.Stage.TheVariants.{Begun, Chained, Looked, Listed, Taken, Changed, Wiping, Ending}
use Rattle.tdb_steps.specs.Reads.{Costs, most_read, TurnReads}

-- the turns of two commands cost the same, but for their looks
pub record CostsAlike (a b : Costs) : Type 0 where
  pub taking : b.taking ≡ a.taking
  pub giving : b.giving ≡ a.giving
  pub wiping : b.wiping ≡ a.wiping

-- so does a turn that doesn't look
same_most : (a b : Costs) (stage : Stage) → CostsAlike a b → (stage ≡ Chained → ⊥) → most_read b stage ≡ most_read a stage
same_most a b Begun same not = refl
same_most a b Chained same not = absurd (not refl)
same_most a b (Looked found) same not = refl
same_most a b (Listed found) same not = same.taking
same_most a b (Taken found hand) same not = refl
same_most a b (Changed hand) same not = same.giving
same_most a b (Wiping stage) same not = same.wiping
same_most a b Ending same not = refl

pub other_turn : (a b : Costs) (besides : ℕ) (stage : Stage) (x y : ℕ) → CostsAlike a b → (stage ≡ Chained → ⊥) → TurnReads b besides stage x y → TurnReads a besides stage x y
other_turn a b besides stage x y same not read = subst (λ most. RoseUpTo (most + besides) x y) (same_most a b stage same not) read

-- a turn that reads nothing
pub nothing_read : (costs : Costs) (besides : ℕ) (stage : Stage) (x y : ℕ) → y ≡ x → TurnReads costs besides stage x y
nothing_read costs besides stage x y same = record { no_more = omega (arith, same); never_falls = omega (arith, same) }

-- what is read behind a turn is read besides
pub read_besides : (costs : Costs) (n besides : ℕ) (stage : Stage) (x y z : ℕ) → TurnReads costs 0 stage x y → RoseUpTo n y z → n ≤ besides → TurnReads costs besides stage x z
read_besides costs n besides stage x y z turn more few = record { no_more = omega (arith, turn.no_more, more.no_more, few); never_falls = omega (arith, turn.never_falls, more.never_falls) }
