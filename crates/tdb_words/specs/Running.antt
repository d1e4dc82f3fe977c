-- What a hash that runs over pieces holds: the bytes so far of a key of a known length.
use Rattle.std.specs.Prelude.{◌≡◌, ℕ, ◌+◌, ◌*◌, ◌%◌, ◌^◌, List, length, take, drop, fold}
use Rattle.tdb_words.specs.declared.jenkins.Mixer.{Mixer}
use Rattle.tdb_words.specs.Hash.{shifted_sum, start_words, round, twelves}

-- the default hash: the sum over the bytes so far of a key of n bytes, and the shift of the next one
pub record OldHolds (value shift n : ℕ) (bytes : List ℕ) : Type 0 where
  pub sum : value ≡ (0x238F13AF * n + shifted_sum bytes) % 2 ^ 32
  pub next : shift ≡ 5 * length bytes % 24

-- Jenkins' hash: the three words after a round for each twelve bytes but the last, and the last 1 to 12
-- bytes, which wait. Only where there was no byte none waits
pub record JenkinsHolds (mixer : Mixer) (waiting : List ℕ) (held n : ℕ) (bytes : List ℕ) : Type 0 where
  pub full : ℕ
  pub count : 12 * full + held ≡ length bytes
  pub none_waits : held ≡ 0 → full ≡ 0
  pub words : mixer ≡ fold round (start_words n) (twelves full bytes)
  pub last : take held waiting ≡ drop (12 * full) bytes
