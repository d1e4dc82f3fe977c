-- The state of a world in two parts: a plain one, in which nobody has a transaction, and the opener aside that has one.
use Rattle.std.specs.Prelude.{ℕ, Bool, ◌≡◌, ◌≤◌, ◌<◌, ◌+◌, ◌*◌, ◌^◌, ◌==◌, ◌&&◌, true, false, Option, None, nat_le, if◌then◌else◌}
use Rattle.tdb_law.specs.Openers.{Own, View, Mark, Task, nowhere}
use Rattle.tdb_law.specs.World.{State}

-- What a plain state doesn't have: whether the world is settled, and the number of each opener's image.
pub record Past : Type 0 where
  pub settled : Bool
  pub numbers : ℕ → ℕ

-- The opener aside: it has a transaction, or a Start, of which it has had a step. What it holds at each lock byte, its
-- command, what it has, what the file adds to its cursor, and where its walk has come. Its cursor stands on no record.
-- It shuts the others out while it holds all records for writing; all that they may read then is which heads of chains
-- in the file aren't 0, as a test on the lock bytes of these chains.
pub record Side : Type 0 where
  pub here : ℕ
  pub table : ℕ → ℕ
  pub task : Option Task
  pub own : Own
  pub view : View
  pub mark : Mark
  pub shuts : Bool
  pub heads : ℕ → Bool

-- a function with another value at one opener
abbrev pub but_at : {A : Type 0} → ℕ → A → (ℕ → A) → ℕ → A
but_at here x g o = if o == here then x else g o

-- What the file adds to a cursor that is shut out: nothing has to be purged, and on the way of a move are the chains,
-- from the one that its walk enters next on, whose heads aren't 0.
abbrev pub heads_ahead : (ℕ → Bool) → Mark → View
heads_ahead heads m = record { must = false; way = λ b. nat_le (168 + 4 * m.reached) b && heads b }

-- the state of a world where nobody is aside
abbrev pub alone : State → Past → State
alone p past = record p { settled = past.settled; image_number = past.numbers }

-- and where this opener is: all others are as in the plain state, but for the views of moves that are shut out
abbrev pub beside : State → Past → Side → State
beside p past s = record (alone p past) {
  table = but_at s.here s.table p.table;
  task = but_at s.here s.task p.task;
  own = but_at s.here s.own p.own;
  spot = but_at s.here nowhere p.spot;
  view = but_at s.here s.view (if s.shuts then (λ o. heads_ahead s.heads (p.mark o)) else p.view);
  mark = but_at s.here s.mark p.mark;
}

-- one of them, or nobody, is aside
abbrev pub whole : State → Past → Option Side → State
whole p past None = alone p past
whole p past (Option.Some s) = beside p past s

-- A plain state: nobody has a transaction, and no gate stands open.
pub record IsPlain (p : State) : Type 0 where
  pub outside : (o : ℕ) → (p.own o).txn ≡ None
  pub ready : p.stale ≡ false

-- An opener is aside of a plain state in which it holds all records as it does, has no command, and has no cursor on a
-- record. It has joined, is live, and holds no byte between the opening lock and the records that others may want, but
-- those of a transaction.
pub record StandsAside (p : State) (s : Side) : Type 0 where
  pub joined : s.here < p.joined
  pub idle : p.task s.here ≡ None
  pub spot : p.spot s.here ≡ nowhere
  pub records : (b : ℕ) → 49 ≤ b → s.table b ≡ p.table s.here b
  pub below : (b : ℕ) → b < 49 → p.table s.here b ≡ 0
  pub shuts : s.shuts ≡ true → (b : ℕ) → 168 ≤ b → b < 2 ^ 63 → s.table b ≡ 2
