-- What stays true of the blocks that are kept where one of them changes.
use Rattle.std.proofs.Common.{◌≡◌, ℕ, ◌+◌, ◌-◌, ◌<◌, ◌≤◌, List, Option, Some, None, length, take, drop, inl, inr, sym, ap, subst, refl, ◌∙◌, arith, is_some, option_map, Ok, Err, Bool}
use Rattle.std.specs.Prelude.{IsSome, IsTrue, OnErr, OnOk, Result}
use Rattle.tdb_disk.specs.History.{History, seen}
use Rattle.std.proofs.lemmas.Bool.{cases_eq, cases_lt, false≢true}
use Rattle.std.proofs.lemmas.Grind.{common_steps}
use Rattle.tdb_cache.specs.Blocks.{block_at, block_start, block_end, block_size, AllSized, AllShown, AllStay, KeepsFront, OthersStay, Reaches, SameKept}
use Rattle.tdb_cache.proofs.Bytes.{cut_block, overlay_join, padded_block, part_of_block, patched_block, other_block}
use Rattle.tdb_disk.specs.Image.{overlay, padded}
use Rattle.tdb_disk.proofs.Image.{length-overlay}
use Rattle.tdb_cache.specs.declared.blocks.Blocks.{Blocks}

-- a block that is kept now has its length in the file
pub AllSized-keep : (old new : Blocks) (number size : ℕ) (bytes : List ℕ) → block_at new number ≡ Some bytes
    → OthersStay number old new → block_start number + length bytes ≡ block_end size number → AllSized old size → AllSized new size
AllSized-keep old new number size bytes here others long before = λ other block is. elim (cases_eq other number) [
  | inl same ↦ grind (arith)
  | inr apart ↦ before other block (sym (others other apart) ∙ is)
]

-- a block that is kept now holds what the image has there
pub AllShown-keep : (old new : Blocks) (number : ℕ) (image bytes : List ℕ) → block_at new number ≡ Some bytes
    → OthersStay number old new → bytes ≡ take (length bytes) (drop (block_start number) image) → AllShown old image
    → AllShown new image
AllShown-keep old new number image bytes here others shown before = λ other block is. elim (cases_eq other number) [
  | inl same ↦ grind (arith)
  | inr apart ↦ before other block (sym (others other apart) ∙ is)
]

-- the same blocks have the same lengths
pub AllSized-same : (old new : Blocks) (size : ℕ) → AllStay old new
    → AllSized old size → AllSized new size
AllSized-same old new size same before = λ number block is. before number block (sym (same number) ∙ is)

-- the same blocks hold the same bytes
pub AllShown-same : (old new : Blocks) (image : List ℕ) → AllStay old new
    → AllShown old image → AllShown new image
AllShown-same old new image same before = λ number block is. before number block (sym (same number) ∙ is)

-- what is there is some value
pub some_of : (x : Option (List ℕ)) → IsSome x → (block : List ℕ) × (x ≡ Some block)
some_of None there = absurd (false≢true there)
some_of (Some block) there = (block, refl)

-- where a value is a function's at some value or none, and it is there, so is the other
pub mapped_some : (f : List ℕ → List ℕ) (old : Option (List ℕ)) (block : List ℕ) → option_map f old ≡ Some block
    → (before : List ℕ) × (old ≡ Some before) × (block ≡ f before)
mapped_some f None block is = grind (arith)
mapped_some f (Some before) block is = (before, refl, grind (arith))

-- a block that is written over keeps its length
pub AllSized-patch : (old new : Blocks) (number within size : ℕ) (piece : List ℕ)
    → block_at new number ≡ option_map (λ block. overlay block within piece) (block_at old number)
    → OthersStay number old new → AllSized old size → AllSized new size
AllSized-patch old new number within size piece patched others before = λ other block is. elim (cases_eq other number) [
  | inl same ↦
      let there : block_at new number ≡ Some block = rw (← same) is in
      let old_block = mapped_some (λ block. overlay block within piece) (block_at old number) block (sym patched ∙ there) in
      let sized : block_start number + length old_block.0 ≡ block_end size number = before number old_block.0 old_block.1 in
      rw (same, old_block.2, length-overlay) sized
  | inr apart ↦ before other block (sym (others other apart) ∙ is)
]

-- so it reaches as far as before
pub Reaches-patch : (old new : Blocks) (number within size : ℕ) (piece : List ℕ)
    → block_at new number ≡ option_map (λ block. overlay block within piece) (block_at old number)
    → OthersStay number old new → Reaches old size → Reaches new size
Reaches-patch old new number within size piece patched others before = λ other block is. elim (cases_eq other number) [
  | inl same ↦
      let there : block_at new number ≡ Some block = rw (← same) is in
      let old_block = mapped_some (λ block. overlay block within piece) (block_at old number) block (sym patched ∙ there) in
      let reaches : block_end size number ≤ block_start number + length old_block.0 = before number old_block.0 old_block.1 in
      rw (same, old_block.2, length-overlay) reaches
  | inr apart ↦ before other block (sym (others other apart) ∙ is)
]

-- a function's value is there where its argument is
pub is_some-map : (f : List ℕ → List ℕ) (old : Option (List ℕ)) → is_some (option_map f old) ≡ is_some old
is_some-map f None = refl
is_some-map f (Some before) = refl

-- the same blocks are kept
pub SameKept-patch : (old new : Blocks) (number within : ℕ) (piece : List ℕ)
    → block_at new number ≡ option_map (λ block. overlay block within piece) (block_at old number)
    → OthersStay number old new → SameKept old new
SameKept-patch old new number within piece patched others = λ other. elim (cases_eq other number) [
  | inl same ↦ rw (same, patched) (is_some-map (λ block. overlay block within piece) (block_at old number))
  | inr apart ↦ ap is_some (others other apart)
]

-- the bytes that are kept of an image are those of the image in which the same bytes are written over
pub AllShown-patch : (old new : Blocks) (number within : ℕ) (image piece : List ℕ)
    → block_at new number ≡ option_map (λ block. overlay block within piece) (block_at old number)
    → OthersStay number old new → within + length piece ≤ block_size
    → block_start number + within + length piece ≤ length image → AllSized old (length image) → AllShown old image
    → AllShown new (overlay image (block_start number + within) piece)
AllShown-patch old new number within image piece patched others one_block inside sized before =
    λ other block is. elim (cases_eq other number) [
      | inl same ↦
          let there : block_at new number ≡ Some block = rw (← same) is in
          let old_block = mapped_some (λ block. overlay block within piece) (block_at old number) block (sym patched ∙ there) in
          let long : block_start number + length old_block.0 ≡ block_end (length image) number = sized number old_block.0 old_block.1 in
          rw (same, old_block.2, length-overlay)
          (patched_block image old_block.0 piece (block_start number) within (before number old_block.0 old_block.1)
          (omega (arith, long)))
      | inr apart ↦
          let was : block_at old other ≡ Some block = sym (others other apart) ∙ is in
          let long : block_start other + length block ≡ block_end (length image) other = sized other block was in
          other_block image block piece (block_start other) (block_start number + within) (before other block was)
          (elim (cases_lt other number) [
            | inl low ↦ inl (omega (arith, long))
            | inr high ↦ inr (omega (arith, long))
          ])
    ]

-- the same while the bytes of a range are written over, one part after another
pub AllShown-more : (old new : Blocks) (number within off done end : ℕ) (image bytes : List ℕ)
    → block_at new number ≡ option_map (λ block. overlay block within (take (end - done) (drop done bytes))) (block_at old number)
    → OthersStay number old new → block_start number + within ≡ off + done → done < end → end ≤ length bytes
    → within + end ≤ block_size + done → off + length bytes ≤ length image → AllSized old (length image)
    → AllShown old (overlay image off (take done bytes)) → AllShown new (overlay image off (take end bytes))
AllShown-more old new number within off done end image bytes patched others start more inside one_block room sized before =
    let front = overlay image off (take done bytes) in
    let piece = take (end - done) (drop done bytes) in
    let same_length : length front ≡ length image = length-overlay image off (take done bytes) in
    let long : length piece ≡ end - done = grind (arith, common_steps) in
    let step = AllShown-patch old new number within front piece patched others (omega (arith, long))
    (omega (arith, long, same_length, start)) (rw same_length sized) before in
    subst (λ (x : List ℕ). AllShown new x)
    (ap (λ at. overlay front at piece) start ∙ overlay_join image bytes off done end (omega arith) inside room) step

-- a part of a range that lies within the file lies within the block, if that is kept
pub piece_inside : (blocks : Blocks) (number within n size : ℕ) → AllSized blocks size
    → block_start number + within + n ≤ size → within + n ≤ block_size
    → (block : List ℕ) → block_at blocks number ≡ Some block → within + n ≤ length block
piece_inside blocks number within n size sized range one_block block is =
    let long : block_start number + length block ≡ block_end size number = sized number block is in omega (arith, long)

-- the same where the blocks are only known to reach so far
pub piece_reached : (blocks : Blocks) (number within n size : ℕ) → Reaches blocks size
    → block_start number + within + n ≤ size → within + n ≤ block_size
    → (block : List ℕ) → block_at blocks number ≡ Some block → within + n ≤ length block
piece_reached blocks number within n size reaches range one_block block is =
    let long : block_end size number ≤ block_start number + length block = reaches number block is in omega (arith, long)

-- what is copied out of a block that is kept is what the image has there
pub copied_bytes : (blocks : Blocks) (number within n size : ℕ) (image buf : List ℕ) → IsSome (block_at blocks number)
    → ((block : List ℕ) → block_at blocks number ≡ Some block → buf ≡ take n (drop within block))
    → AllSized blocks size → block_start number + within + n ≤ size → within + n ≤ block_size → AllShown blocks image
    → buf ≡ take n (drop (block_start number + within) image)
copied_bytes blocks number within n size image buf there copied sized range one_block shown =
    let kept : (block : List ℕ) × (block_at blocks number ≡ Some block) = some_of (block_at blocks number) there in
    copied kept.0 kept.1
    ∙ part_of_block image kept.0 (block_start number) within n (shown number kept.0 kept.1)
    (piece_inside blocks number within n size sized range one_block kept.0 kept.1)

-- the front blocks of a file have their lengths in any file that is as long
pub AllSized-front : (old new : Blocks) (first from to : ℕ) → KeepsFront first old new → block_start first ≤ from
    → block_start first ≤ to → AllSized old from → AllSized new to
AllSized-front old new first from to keeps before_long now_long before = λ other block is. elim (cases_lt other first) [
  | inl front ↦
      let long : block_start other + length block ≡ block_end from other = before other block (sym (keeps.front other front) ∙ is) in
      omega (arith, long)
  | inr behind ↦ absurd (grind (arith, is, keeps.none other behind))
]

-- they hold what a longer file has there
pub AllShown-grow : (old new : Blocks) (first to : ℕ) (image : List ℕ) → KeepsFront first old new
    → block_start first ≤ length image → AllSized old (length image) → AllShown old image → AllShown new (padded image to)
AllShown-grow old new first to image keeps long sized before = λ other block is. elim (cases_lt other first) [
  | inl front ↦
      let was : block_at old other ≡ Some block = sym (keeps.front other front) ∙ is in
      let size : block_start other + length block ≡ block_end (length image) other = sized other block was in
      padded_block image block (block_start other) to (before other block was) (omega (arith, size))
  | inr behind ↦ absurd (grind (arith, is, keeps.none other behind))
]

-- and what a shorter one has
pub AllShown-cut : (old new : Blocks) (first to : ℕ) (image : List ℕ) → KeepsFront first old new
    → block_start first ≤ to → to ≤ length image → AllSized old (length image) → AllShown old image
    → AllShown new (take to image)
AllShown-cut old new first to image keeps long shorter sized before = λ other block is. elim (cases_lt other first) [
  | inl front ↦
      let was : block_at old other ≡ Some block = sym (keeps.front other front) ∙ is in
      let size : block_start other + length block ≡ block_end (length image) other = sized other block was in
      cut_block image block (block_start other) to (before other block was) (omega (arith, size)) shorter
  | inr behind ↦ absurd (grind (arith, is, keeps.none other behind))
]

-- after a call that changed the length, where all blocks are dropped if it failed, those that are kept have their
-- lengths
pub AllSized-settle : {V F : Type 0} (answer : Result V F) (forgot now : Blocks) (size to : ℕ)
    → OnErr answer ((number : ℕ) → block_at now number ≡ None) → OnOk answer (now ≡ forgot) → OnOk answer (size ≡ to)
    → AllSized forgot to → AllSized now size
AllSized-settle (Ok value) forgot now size to none same done sized = rw (same, done) sized
AllSized-settle (Err fault) forgot now size to none same done sized = λ number block is. absurd (grind (arith, is, none number))

-- and they hold what the image has there
pub AllShown-settle : {V F : Type 0} (answer : Result V F) (forgot now : Blocks) (tells : Bool) (was is : History)
    → OnErr answer ((number : ℕ) → block_at now number ≡ None) → OnOk answer (now ≡ forgot)
    → OnOk answer (IsTrue tells → is ≡ was) → IsTrue tells → AllShown forgot (seen was) → AllShown now (seen is)
AllShown-settle (Ok value) forgot now tells was is none same done told shown = rw (same, done told) shown
AllShown-settle (Err fault) forgot now tells was is none same done told shown =
    λ number block there. absurd (grind (arith, there, none number))
