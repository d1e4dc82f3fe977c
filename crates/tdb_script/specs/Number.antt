-- Numbers of openers.
use Rattle.std.specs.Prelude.{◌≡◌, ◌≢◌, ℕ, ◌≤◌, List, slice_index}
use Rattle.std.specs.Str.Parse.{IsNumeral, digits_value}
use Rattle.tdb_script.specs.declared.limits.TheConstants.{MOST_NUMBER}

-- One to nine decimal digits, which write the number, and of which the first isn't 0.
pub record IsNumber (word : List ℕ) (n : ℕ) : Type 0 where
  pub digits : IsNumeral 10 word
  pub front : slice_index word 0 ≢ 48
  pub value : n ≡ digits_value 10 word
  pub least : 1 ≤ n
  pub most : n ≤ MOST_NUMBER
