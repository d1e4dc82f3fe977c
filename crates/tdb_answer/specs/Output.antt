-- What a run writes to.
use Rattle.std.specs.Prelude.{ℕ, Bool, List}

-- what an output holds before and after, where it tells, and how often its calls had failed
pub record Output : Type 0 where
  pub tells : Bool
  pub before : List ℕ
  pub after : List ℕ
  pub faults_before : ℕ
  pub faults_after : ℕ

-- what an output took, from what it held before and after
abbrev pub output_by : Bool → List ℕ → List ℕ → ℕ → ℕ → Output
output_by tells before after faults_before faults_after = record { tells = tells; before = before; after = after; faults_before = faults_before; faults_after = faults_after }
