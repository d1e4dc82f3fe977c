-- A world just loaded, and the replay that begins with it.
use Rattle.std.specs.Prelude.{ℕ, ◌≡◌, false, None}
use Rattle.std.specs.FinMap.{empty}
use Rattle.tdb_space.specs.Form.{Form}
use Rattle.tdb_law.specs.Openers.{Options, Own, Map, nowhere}
use Rattle.tdb_law.specs.World.{State, HasFewChains}
use Rattle.tdb_law.specs.Replay.{Replay}

-- an opener that hasn't joined, in a world with these options
abbrev pub nobody : Options → Own
nobody options = record { options = options; live = false; txn = None; counts = empty; all = None; cursor = None }

-- Nobody has joined, and nobody has or holds anything. The world is neither stale nor settled.
pub record IsLoaded (f : Form) (w : State) (options : Options) : Type 0 where
  pub chains : HasFewChains f
  pub joined : w.joined ≡ 0
  pub task : (o : ℕ) → w.task o ≡ None
  pub own : (o : ℕ) → w.own o ≡ nobody options
  pub spot : (o : ℕ) → w.spot o ≡ nowhere
  pub table : (o b : ℕ) → w.table o b ≡ 0
  pub stale : w.stale ≡ false
  pub settled : w.settled ≡ false
  pub image_number : (o : ℕ) → w.image_number o ≡ 0

-- the replay's state with this map and this number, before anybody joined
abbrev pub beginning : Options → Map → ℕ → Replay
beginning options m number = record {
  map = m;
  own = λ o. nobody options;
  joined = 0;
  begun = λ o. None;
  shown = λ o k. false;
  due = λ o k. false;
  stale = false;
  settled = false;
  number = number;
  image_number = λ o. 0;
  grows = false;
}
