-- Ways and turns over lock tables that say the same, and what others hold where a cursor lets go.
use Rattle.std.proofs.Common.{◌≡◌, ℕ, List, Option, Some, None, Ok, Err, refl, subst, inl, inr}
use Rattle.std.specs.Prelude.{Result, IfOk}
use Rattle.tdb_space.specs.Form.{Form}
use Rattle.tdb_locks.specs.HeldLocks.{HeldLocks}
use Rattle.tdb_locks.specs.declared.piece.Piece.{Piece}
use Rattle.tdb_locks.specs.declared.turn.Turn.{Turn}
use Rattle.tdb_law.specs.Layout.{Place}
use Rattle.tdb_walk.specs.declared.live.Live.{Live}
use Rattle.tdb_walk.specs.declared.way.Way.{Way}
use Rattle.tdb_walk.specs.declared.way.Way.TheVariants.{Met, Blocked as Stopped, End}
use Rattle.tdb_walk.specs.NextLive.{IsNext}
use Rattle.tdb_words.specs.Record.{rec_at}
use Rattle.tdb_walk.specs.Way.{SameLocks, IsWay}
use Rattle.tdb_walk.specs.Cursors.{At, Came}
use Rattle.tdb_walk.specs.Cursors.Came.{shown, barred, wants}
use Rattle.tdb_walk.proofs.Locked.{can_read_then, held_off_then, others_same, free_then, first_then}

-- a way is the same over each table that says the same of the others
pub way_then : (f : Form) (img : List ℕ) (old new : List Piece) (owner : ℕ) (own : HeldLocks) (place : Place) (from : ℕ) (way : Way) → SameLocks old new → IsWay f img new owner own place from way → IsWay f img old owner own place from way
way_then f img old new owner own place from (Met live) same (next, free) = (next, λ j above low filled. can_read_then owner old new own j same (free j above low filled))
way_then f img old new owner own place from End same (next, free) = (next, λ j above low filled. can_read_then owner old new own j same (free j above low filled))
way_then f img old new owner own place from (Stopped chain other byte) same way = record {
  above = way.above;
  below = way.below;
  passed = way.passed;
  free = λ j above low filled. can_read_then owner old new own j same (way.free j above low filled);
  filled = way.filled;
  off = held_off_then owner old new own chain other byte same way.off;
}

-- so is what a turn at a record does
pub came_then : (f : Form) (img : List ℕ) (old new : List Piece) (owner : ℕ) (own : HeldLocks) (live : Live) (at later : At) (turn : Turn) → SameLocks old new → Came f img new owner own live at later turn → Came f img old owner own live at later turn
came_then f img old new owner own live at later turn same (shown says stands (inl over)) = shown says stands (inl over)
came_then f img old new owner own live at later turn same (shown says stands (inr free)) = shown says stands (inr (free_then owner old new (others_same owner old new same) _ _ _ free))
came_then f img old new owner own live at later turn same (barred other byte says stays bar) = barred other byte says stays (record { uncovered = bar.uncovered; kind = bar.kind; conflict = first_then owner old new (others_same owner old new same) _ _ _ other byte bar.kind bar.conflict })
came_then f img old new owner own live at later turn same (wants says ended) = wants says ended

-- the header of the record that is come to
header_of : (f : Form) (img : List ℕ) (a b : Live) → a.rec ≡ rec_at f.order img a.off → ◌≡◌ {A = Option Live} (Some a) (Some b) → b.rec ≡ rec_at f.order img b.off
header_of f img a b read same = subst (λ o. header o) same read
  where
    header : Option Live → Type 0
    header None = ⊥
    header (Some live) = live.rec ≡ rec_at f.order img live.off

pub header_met : (f : Form) (img : List ℕ) (place : Place) (live : Live) → IsNext f img place (Some live) → live.rec ≡ rec_at f.order img live.off
header_met f img place live (cell, next, read) = header_of f img (record { chain = live.chain; off = cell.place; rec = rec_at f.order img cell.place }) live refl read

-- what holds of each value holds of that of a result
pub ok_more : {V E : Type 0} {P Q : V → Type 0} (r : Result V E) → ((v : V) → P v → Q v) → IfOk r P → IfOk r Q
ok_more (Ok v) more p = more v p
ok_more (Err e) more p = p

pub ok_two : {V E : Type 0} {P Q R : V → Type 0} (r : Result V E) → ((v : V) → P v → Q v → R v) → IfOk r P → IfOk r Q → IfOk r R
ok_two (Ok v) both p q = both v p q
ok_two (Err e) both p q = p

pub ok_three : {V E : Type 0} {P Q R S : V → Type 0} (r : Result V E) → ((v : V) → P v → Q v → R v → S v) → IfOk r P → IfOk r Q → IfOk r R → IfOk r S
ok_three (Ok v) all p q s = all v p q s
ok_three (Err e) all p q s = p
