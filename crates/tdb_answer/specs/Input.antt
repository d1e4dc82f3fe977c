-- What a run reads.
use Rattle.std.specs.Prelude.{ℕ, Bool, List}

-- the bytes that the input had left before a run, where it tells them, and how often its calls had failed before and
-- after
pub record Input : Type 0 where
  pub tells : Bool
  pub text : List ℕ
  pub faults_before : ℕ
  pub faults_after : ℕ

abbrev pub input_by : Bool → List ℕ → ℕ → ℕ → Input
input_by tells text faults_before faults_after = record { tells = tells; text = text; faults_before = faults_before; faults_after = faults_after }
