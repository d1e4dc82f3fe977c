-- What a stop at any moment of a run of calls may leave, call by call.
use Rattle.std.proofs.Common.{◌≡◌, ℕ, ◌+◌, ◌≤◌, ◌⊎◌, inl, inr, List, refl, sym, subst, arith}
use Rattle.tdb_disk.specs.History.{Event, wrote, wrote_word, synced, History, began, called, seen, clock, Tried, TriedOver, Extends}
use Rattle.tdb_disk.specs.Image.{overlay}
use Rattle.tdb_disk.specs.Stop.{Torn, Leaves, LeftSince, Quiet, LeavesOnly}
use Rattle.tdb_disk.proofs.Stop.{leaves_seen}

-- a history goes on from itself
pub extends_itself : (h : History) → Extends h h
extends_itself (began bytes) = refl
extends_itself (called h event) = inl refl

-- what goes on from a history that goes on from a first one goes on from the first one
pub extends_further : (a b c : History) → Extends a b → Extends b c → Extends a c
extends_further a b (began bytes) first second = subst (Extends a) second first
extends_further a b (called h event) first (inl same) = subst (Extends a) same first
extends_further a b (called h event) first (inr second) = inr (extends_further a b h first second)

-- the clock never goes back
pub clock_later : (old new : History) → Extends old new → clock old ≤ clock new
clock_later old (began bytes) same = subst (λ h. clock old ≤ clock h) same (omega arith)
clock_later old (called h event) (inl same) = subst (λ h. clock old ≤ clock h) same (omega arith)
clock_later old (called h event) (inr earlier) = let later : clock old ≤ clock h = clock_later old h earlier in omega (arith, later)

-- since this moment there is no other
pub left_since_now : (h : History) (image : List ℕ) → LeftSince (clock h) h image → Leaves h image
left_since_now (began bytes) image left = left
left_since_now (called h event) image (inl left) = left
left_since_now (called h event) image (inr earlier) = absurd (let late : clock h + 1 ≤ clock h = earlier.0 in omega (arith, late))

-- this moment is one of those since an earlier one
pub left_now : (from : ℕ) (h : History) (image : List ℕ) → Leaves h image → LeftSince from h image
left_now from (began bytes) image left = left
left_now from (called h event) image left = inl left

-- a stop since the first of two moments was since the second, or before it
pub left_before_or_since : (a b : History) (from : ℕ) (image : List ℕ) → Extends a b → LeftSince from b image
    → LeftSince (clock a) b image ⊎ LeftSince from a image
left_before_or_since a (began bytes) from image same left = inl left
left_before_or_since a (called h event) from image (inl same) left = inr (subst (λ k. LeftSince from k image) (sym same) left)
left_before_or_since a (called h event) from image (inr earlier) (inl left) = inl (inl left)
left_before_or_since a (called h event) from image (inr earlier) (inr before) =
    elim (left_before_or_since a h from image earlier before.1) [
      | inl since ↦ inl (inr (clock_later a h earlier, since))
      | inr first ↦ inr first
    ]

-- before the first call of a run
pub leaves_start : (h : History) (P : List ℕ → Type 0) → ((image : List ℕ) → Leaves h image → P image) → LeavesOnly h h P
leaves_start h P here = record {
  extends = extends_itself h;
  each = λ image left. here image (left_since_now h image left);
}

-- one more call, whatever it answered
pub leaves_called : (old mid : History) (event : Event) (P : List ℕ → Type 0) → LeavesOnly old mid P
    → ((image : List ℕ) → Leaves (called mid event) image → P image) → LeavesOnly old (called mid event) P
leaves_called old mid event P so_far here = record {
  extends = inr so_far.extends;
  each = λ image left. elim left [ inl now ↦ here image now | inr before ↦ so_far.each image before.1 ];
}

pub leaves_tried : (old mid new : History) (event : Event) (P : List ℕ → Type 0) → LeavesOnly old mid P
    → ((image : List ℕ) → Leaves (called mid event) image → P image) → Tried event mid new → LeavesOnly old new P
leaves_tried old mid new event P so_far here (inl same) = subst (λ h. LeavesOnly old h P) (sym same) so_far
leaves_tried old mid new event P so_far here (inr done) =
    subst (λ h. LeavesOnly old h P) (sym done) (leaves_called old mid event P so_far here)

-- one more write, whatever it answered: of each image before it, any bytes in its range
pub leaves_write : (old mid new : History) (at n : ℕ) (P : List ℕ → Type 0) → LeavesOnly old mid P
    → ((image from : List ℕ) → Leaves mid from → Torn at n from image → P image) → TriedOver at n mid new → LeavesOnly old new P
leaves_write old mid new at n P so_far here (inl same) = subst (λ h. LeavesOnly old h P) (sym same) so_far
leaves_write old mid new at n P so_far here (inr (bytes, sized, done)) =
    subst (λ h. LeavesOnly old h P) (sym done)
    (leaves_called old mid (wrote at bytes) P so_far
    (λ image left. here image left.0 left.1 (subst (λ m. Torn at m left.0 image) sized left.2)))

-- two runs, the second of which goes on from the first
pub leaves_join : (a b c : History) (P : List ℕ → Type 0) → LeavesOnly a b P → LeavesOnly b c P → LeavesOnly a c P
leaves_join a b c P first second = record {
  extends = extends_further a b c first.extends second.extends;
  each = λ image left. elim (left_before_or_since b c (clock a) image second.extends left) [
    | inl since ↦ second.each image since
    | inr before ↦ first.each image before
  ];
}

-- what implies a property in place of it
pub leaves_weaker : (a b : History) (P Q : List ℕ → Type 0) → ((image : List ℕ) → P image → Q image)
    → LeavesOnly a b P → LeavesOnly a b Q
leaves_weaker a b P Q weaker only = record {
  extends = only.extends;
  each = λ image left. weaker image (only.each image left);
}

-- a stop right after a run leaves an image with its property
pub leaves_now : (a b : History) (P : List ℕ → Type 0) → LeavesOnly a b P → (image : List ℕ) → Leaves b image → P image
leaves_now a b P only image left = only.each image (left_now (clock a) b image left)

-- what is seen after a run has its property
pub leaves_seen_now : (a b : History) (P : List ℕ → Type 0) → LeavesOnly a b P → P (seen b)
leaves_seen_now a b P only = leaves_now a b P only (seen b) (leaves_seen b)

-- a sync leaves only what a stop before it might have left
pub leaves_sync : (old new : History) → Tried synced old new → LeavesOnly old new (Leaves old)
leaves_sync old new tried =
    leaves_tried old old new synced (Leaves old) (leaves_start old (Leaves old) (λ image left. left))
    (λ image is_seen. subst (Leaves old) (sym is_seen) (leaves_seen old)) tried

-- one more sync, whatever it answered, adds nothing to what a stop may leave
pub leaves_then_sync : (old mid new : History) (P : List ℕ → Type 0)
    → LeavesOnly old mid P → Tried synced mid new → LeavesOnly old new P
leaves_then_sync old mid new P so_far tried =
    leaves_tried old mid new synced P so_far (λ image is_seen. subst P (sym is_seen) (leaves_seen_now old mid P so_far)) tried

-- a run on a quiet disk begins with what a read gives
pub leaves_quiet : (h : History) (P : List ℕ → Type 0) → Quiet h → P (seen h) → LeavesOnly h h P
leaves_quiet h P quiet here = leaves_start h P (λ image left. subst P (sym (quiet image left)) here)

-- a disk that begins is quiet
pub quiet_began : (bytes : List ℕ) → Quiet (began bytes)
quiet_began bytes = λ image left. left

-- a sync that answered Ok makes the disk quiet
pub quiet_synced : (h new : History) → new ≡ called h synced → Quiet new
quiet_synced h new done = subst Quiet (sym done) (λ image left. left)

-- a quiet disk stays quiet where the history stays, as under a read
pub quiet_same : (old new : History) → new ≡ old → Quiet old → Quiet new
quiet_same old new same quiet = subst Quiet (sym same) quiet

-- a quiet disk stays quiet under a sync, whatever it answered
pub quiet_sync : (old new : History) → Tried synced old new → Quiet old → Quiet new
quiet_sync old new (inl same) quiet = quiet_same old new same quiet
quiet_sync old new (inr done) quiet = quiet_synced old new done

-- on a quiet disk, the write of a word leaves the image or the image with the word
pub quiet_word : (h : History) (at : ℕ) (word image : List ℕ) → Quiet h → Leaves (called h (wrote_word at word)) image
    → (image ≡ seen h) ⊎ (image ≡ overlay (seen h) at word)
quiet_word h at word image quiet (from, left, inl same) = inl (subst (λ d. image ≡ d) (quiet from left) same)
quiet_word h at word image quiet (from, left, inr whole) =
    inr (subst (λ d. image ≡ overlay d at word) (quiet from left) whole)
