-- Bytes that were read of an image, and one block more of a run that is copied within it.
use Rattle.std.proofs.Common.{◌≡◌, ℕ, ◌+◌, ◌-◌, ◌<◌, ◌≤◌, ◌⊎◌, List, length, take, drop, slice_index, ◌∙◌, ap, subst, inl, inr, arith}
use Rattle.std.proofs.lemmas.List.{get_or-take, get_or-drop, length-take, length-drop}
use Rattle.tdb_disk.specs.Image.{overlay}
use Rattle.tdb_space.specs.Opening.{lies_in}
use Rattle.tdb_undo.specs.Torn.{Put}
use Rattle.tdb_undo.proofs.Blocks.{put_none, put_more}
use Rattle.tdb_undo.proofs.Lies.{lies_not}

-- a part of an image: how long it is, and its bytes
pub part_length : (img : List ℕ) (at n : ℕ) → at + n ≤ length img → length (take n (drop at img)) ≡ n
part_length img at n within = omega (arith, length-take n (drop at img), length-drop at img, within)

pub part_byte : (img : List ℕ) (at n k : ℕ) → k < n → slice_index (take n (drop at img)) k ≡ slice_index img (at + k)
part_byte img at n k low = get_or-take n (drop at img) k 0 low ∙ get_or-drop at img k 0

-- Old bytes stand at a source, the first of them for an offset, and those from one place up to another are copied. None
-- was.
pub piece_none : (source off from : ℕ) (first : List ℕ) → Put (lies_in from (from - from)) (λ i. slice_index first (source + (i - off))) first first
piece_none source off from first =
    let none : 0 ≡ from - from = omega arith in
    subst (λ n. Put (lies_in from n) (λ i. slice_index first (source + (i - off))) first first) none (put_none (λ i. slice_index first (source + (i - off))) from first)

-- a block more was
pub piece_more : (source off from to at size : ℕ) (first now bytes : List ℕ) → off ≤ from → from ≤ at → at + size ≤ to → to ≤ length first → source + (to - off) ≤ length first
    → (source + (to - off) ≤ from) ⊎ (to ≤ source)
    → Put (lies_in from (at - from)) (λ i. slice_index first (source + (i - off))) first now
    → bytes ≡ take size (drop (source + (at - off)) now)
    → Put (lies_in from (at + size - from)) (λ i. slice_index first (source + (i - off))) first (overlay now at bytes)
piece_more source off from to at size first now bytes above low fits target room apart so_far read =
    let sized : length bytes ≡ size = ap length read ∙ part_length now (source + (at - off)) size (omega (arith, above, low, fits, room, so_far.size)) in
    let there : from + (at - from) ≡ at = omega (arith, low) in
    let grown : at - from + size ≡ at + size - from = omega (arith, low) in
    let more = put_more (λ i. slice_index first (source + (i - off))) from (at - from) size first now bytes (omega (arith, low, fits, target)) sized so_far
    (λ k under.
    (let beside : (source + (at - off) + k < from) ⊎ (from + (at - from) ≤ source + (at - off) + k) =
    elim apart [ inl before ↦ inl (omega (arith, before, fits, under, above, low)) | inr behind ↦ inr (omega (arith, behind, fits, low)) ] in
    let moved : source + (at - off) + k ≡ source + (from + (at - from) + k - off) = omega (arith, above, low) in
    ap (λ l. slice_index l k) read
    ∙ part_byte now (source + (at - off)) size k under
    ∙ so_far.others (source + (at - off) + k) (lies_not from (at - from) (source + (at - off) + k) beside)
    ∙ ap (slice_index first) moved)) in
    subst (λ n. Put (lies_in from n) (λ i. slice_index first (source + (i - off))) first (overlay now at bytes)) grown
    (subst (λ n. Put (lies_in from (at - from + size)) (λ i. slice_index first (source + (i - off))) first (overlay now n bytes)) there more)

-- all of it was, where that is more than nothing
pub piece_all : (source off from to at : ℕ) (first now : List ℕ) → from ≤ at → at - from ≤ to - from → to ≤ at
    → Put (lies_in from (at - from)) (λ i. slice_index first (source + (i - off))) first now
    → Put (lies_in from (to - from)) (λ i. slice_index first (source + (i - off))) first now
piece_all source off from to at first now low within over so_far =
    let same : at - from ≡ to - from = omega (arith, low, within, over) in
    subst (λ n. Put (lies_in from n) (λ i. slice_index first (source + (i - off))) first now) same so_far
