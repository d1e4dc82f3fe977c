-- One block more of a run of writes.
use Rattle.std.proofs.Common.{◌≡◌, ℕ, ◌+◌, ◌-◌, ◌<◌, ◌≤◌, ◌⊎◌, Bool, true, false, List, length, take, drop, slice_index, refl, ◌∙◌, ap, subst, inl, inr, arith}
use Rattle.std.proofs.lemmas.Bool.{cases_Bool}
use Rattle.std.proofs.lemmas.List.{get_or-take, get_or-drop, length-take, length-drop}
use Rattle.tdb_disk.specs.History.{History, TriedOver}
use Rattle.tdb_disk.specs.Image.{overlay}
use Rattle.tdb_disk.specs.Stop.{Torn, LeavesOnly}
use Rattle.tdb_disk.proofs.Image.{length-overlay, overlay_below, overlay_above, overlay_in}
use Rattle.tdb_disk.proofs.Runs.{leaves_start, leaves_write, leaves_weaker, leaves_join, leaves_now}
use Rattle.tdb_space.specs.Opening.{lies_in}
use Rattle.tdb_undo.specs.Torn.{TornAt, TornIn, Put}
use Rattle.tdb_undo.proofs.Lies.{lies_not, lies_where, lies_outside}

-- true is not false
both : (b : Bool) → b ≡ true → b ≡ false → ⊥
both b right wrong = cc

pub torn_none : (places : ℕ → Bool) (a : List ℕ) → TornAt places a a
torn_none places a = record { size = refl; others = λ i _. refl }

pub torn_over : (places : ℕ → Bool) (a b c : List ℕ) → TornAt places a b → TornAt places b c → TornAt places a c
torn_over places a b c one two = record {
  size = two.size ∙ one.size;
  others = λ i out. two.others i out ∙ one.others i out;
}

-- a run begins with what a stop might have left before
pub start_torn : (h : History) (places : ℕ → Bool) → LeavesOnly h h (TornIn places h)
start_torn h places = leaves_start h (TornIn places h) (λ image left. (image, left, torn_none places image))

-- more places in place of some
pub wider_torn : (old new : History) (some more : ℕ → Bool) → ((i : ℕ) → more i ≡ false → some i ≡ false)
    → LeavesOnly old new (TornIn some old) → LeavesOnly old new (TornIn more old)
wider_torn old new some more wider only = leaves_weaker old new (TornIn some old) (TornIn more old)
    (λ image torn. (torn.0, torn.1, record { size = torn.2.size; others = λ i out. torn.2.others i (wider i out) })) only

-- one run after another
pub join_torn : (a b c : History) (places : ℕ → Bool) → LeavesOnly a b (TornIn places a) → LeavesOnly b c (TornIn places b) → LeavesOnly a c (TornIn places a)
join_torn a b c places one two =
    leaves_join a b c (TornIn places a) one
    (leaves_weaker b c (TornIn places b) (TornIn places a)
    (λ image torn. (let before = leaves_now a b (TornIn places a) one torn.0 torn.1 in
    (before.0, before.1, torn_over places before.0 torn.0 image before.2 torn.2)))
    two)

-- one write more, whatever it answered
pub write_torn : (old mid new : History) (places : ℕ → Bool) (at n : ℕ) → ((i : ℕ) → at ≤ i → i < at + n → places i ≡ true)
    → LeavesOnly old mid (TornIn places old) → TriedOver at n mid new → LeavesOnly old new (TornIn places old)
write_torn old mid new places at n within so_far tried =
    leaves_write old mid new at n (TornIn places old) so_far
    (λ image from left torn. (let before = leaves_now old mid (TornIn places old) so_far from left in
    (before.0, before.1, torn_over places before.0 from image before.2 (record { size = torn.size; others = λ i out. torn_there at n places within from image torn i out }))))
    tried
  where
    torn_there : (at n : ℕ) (places : ℕ → Bool) → ((i : ℕ) → at ≤ i → i < at + n → places i ≡ true) → (from image : List ℕ) → Torn at n from image
        → (i : ℕ) → places i ≡ false → slice_index image i ≡ slice_index from i
    torn_there at n places within from image torn i out = elim (cases_Bool (lies_in at n i)) [
      | inl here ↦ (let p = lies_where at n i here in absurd (both (places i) (within i p.0 p.1) out))
      | inr there ↦ elim (lies_outside at n i there) [ inl low ↦ torn.below i low | inr high ↦ torn.above i high ]
    ]

-- nothing was put yet
pub put_none : (byte : ℕ → ℕ) (to : ℕ) (a : List ℕ) → Put (lies_in to 0) byte a a
put_none byte to a = record {
  size = refl;
  others = λ i _. refl;
  inside = λ i in_it. absurd (let p = lies_where to 0 i in_it in omega (arith, p.0, p.1));
}

-- one block more was put behind what was put
pub put_more : (byte : ℕ → ℕ) (to done size : ℕ) (first now bytes : List ℕ) → to + (done + size) ≤ length first → length bytes ≡ size
    → Put (lies_in to done) byte first now
    → ((k : ℕ) → k < size → slice_index bytes k ≡ byte (to + done + k))
    → Put (lies_in to (done + size)) byte first (overlay now (to + done) bytes)
put_more byte to done size first now bytes within sized so_far here = record {
  size = length-overlay now (to + done) bytes ∙ so_far.size;
  others = λ i out. elim (lies_outside to (done + size) i out) [
    | inl low ↦ (
        overlay_below now (to + done) bytes i (omega (arith, low))
        ∙ so_far.others i (lies_not to done i (inl low)))
    | inr high ↦ (
        overlay_above now (to + done) bytes i (omega (arith, high, sized))
        ∙ so_far.others i (lies_not to done i (inr (omega (arith, high)))))
  ];
  inside = λ i in_it. (let p = lies_where to (done + size) i in_it in elim (cases_Bool (lies_in to done i)) [
    | inl before ↦ (let q = lies_where to done i before in
        overlay_below now (to + done) bytes i (omega (arith, q.1))
        ∙ so_far.inside i before)
    | inr behind ↦ elim (lies_outside to done i behind) [
      | inl low ↦ absurd (omega (arith, low, p.0))
      | inr high ↦ (
          overlay_in now (to + done) bytes i high (omega (arith, p.1, sized)) (omega (arith, p.1, within, so_far.size))
          ∙ here (i - (to + done)) (omega (arith, high, p.1))
          ∙ ap byte (let e : to + done + (i - (to + done)) ≡ i = omega (arith, high) in e))
    ]
  ]);
}

-- a block that was read further on in the image, while the bytes before it were copied
pub put_copied : (from to count done size : ℕ) (first now bytes : List ℕ) → from + count ≤ length first → to + count ≤ length first
    → (from + count ≤ to) ⊎ (to + count ≤ from) → done + size ≤ count
    → Put (lies_in to done) (λ i. slice_index first (from + (i - to))) first now
    → bytes ≡ take size (drop (from + done) now)
    → Put (lies_in to (done + size)) (λ i. slice_index first (from + (i - to))) first (overlay now (to + done) bytes)
put_copied from to count done size first now bytes source target apart fits so_far read =
    let sized : length bytes ≡ size = ap length read ∙ part_length now (from + done) size (omega (arith, source, fits, so_far.size)) in
    put_more (λ i. slice_index first (from + (i - to))) to done size first now bytes (omega (arith, target, fits)) sized so_far
    (λ k low.
    ap (λ l. slice_index l k) read
    ∙ part_byte now (from + done) size k low
    ∙ so_far.others (from + done + k) (lies_not to done (from + done + k) (elim apart [ inl before ↦ inl (omega (arith, before, fits, low)) | inr behind ↦ inr (omega (arith, behind, fits)) ]))
    ∙ ap (slice_index first) (let e : from + done + k ≡ from + (to + done + k - to) = omega arith in e))
  where
    part_length : (img : List ℕ) (at n : ℕ) → at + n ≤ length img → length (take n (drop at img)) ≡ n
    part_length img at n within = omega (arith, length-take n (drop at img), length-drop at img, within)

    part_byte : (img : List ℕ) (at n k : ℕ) → k < n → slice_index (take n (drop at img)) k ≡ slice_index img (at + k)
    part_byte img at n k low = get_or-take n (drop at img) k 0 low ∙ get_or-drop at img k 0

-- a block of zeros
pub put_zeros : (from done size : ℕ) (first now bytes : List ℕ) → from + (done + size) ≤ length first → length bytes ≡ size
    → Put (lies_in from done) (λ i. 0) first now
    → ((k : ℕ) → k < size → slice_index bytes k ≡ 0)
    → Put (lies_in from (done + size)) (λ i. 0) first (overlay now (from + done) bytes)
put_zeros from done size first now bytes within sized so_far zeros =
    put_more (λ i. 0) from done size first now bytes within sized so_far zeros

-- the same bytes told in another way
pub put_alike : (places : ℕ → Bool) (byte other : ℕ → ℕ) (a b : List ℕ) → ((i : ℕ) → places i ≡ true → byte i ≡ other i) → Put places byte a b → Put places other a b
put_alike places byte other a b alike put = record {
  size = put.size;
  others = put.others;
  inside = λ i in_it. put.inside i in_it ∙ alike i in_it;
}

-- where there is no byte between two places, nothing was put there
pub put_empty : (byte : ℕ → ℕ) (from to : ℕ) (a : List ℕ) → to ≤ from → Put (lies_in from (to - from)) byte a a
put_empty byte from to a over =
    let none : 0 ≡ to - from = omega (arith, over) in
    subst (λ n. Put (lies_in from n) byte a a) none (put_none byte from a)
