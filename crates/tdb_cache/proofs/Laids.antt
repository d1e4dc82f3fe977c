-- What a read gives of an image with the blocks that are kept laid over it.
use Rattle.std.proofs.Common.{◌≡◌, ◌≢◌, ◌∙◌, ℕ, ◌+◌, ◌-◌, ◌*◌, ◌/◌, ◌%◌, ◌<◌, ◌≤◌, List, ◌++◌, Option, Some, None, ◌⊎◌, length, take, drop, inl, inr, refl, sym, ap, subst, arith, is_some, Ok, Err, Bool}
use Rattle.std.specs.Prelude.{IsSome, IsTrue, OnOk, Result, slice_index}
use Rattle.std.proofs.lemmas.Bool.{cases_eq, cases_lt, false≢true}
use Rattle.std.proofs.lemmas.Grind.{common_steps, same_number_lists}
use Rattle.std.proofs.lemmas.List.{places, same_lists}
use Rattle.std.proofs.lemmas.Option.{same_Some}
use Rattle.std.proofs.lemmas.Slice.{overwrites}
use borrow.Rule.Slice.PartMut.{put_mid}
use Rattle.std.proofs.lemmas.List.FromFn.{length-map-range_with_len, get_or-map-range_with_len}
use Rattle.tdb_disk.specs.History.{History, called, seen, wrote, wrote_word, Tried, TriedOver}
use Rattle.tdb_disk.specs.Image.{overlay}
use Rattle.tdb_disk.proofs.Image.{length-overlay, overlay_above, overlay_below, overlay_in}
use Rattle.tdb_cache.specs.Blocks.{block_at, block_end, block_size, block_start, AllShown, AllSized, KeepsFront, OthersStay, SameKept}
use Rattle.tdb_cache.specs.Laid.{byte_at, byte_of, laid, LiesInKept, NoneKept}
use Rattle.tdb_cache.specs.View.{ViewTried, ViewTriedOver}
use Rattle.tdb_cache.specs.declared.blocks.Blocks.{Blocks}
use Rattle.tdb_cache.proofs.Tables.{some_of}

-- a block is kept or it isn't
pub none_or_some : (x : Option (List ℕ)) → (x ≡ None) ⊎ ((block : List ℕ) × (x ≡ Some block))
none_or_some None = inl refl
none_or_some (Some block) = inr (block, refl)

-- bytes that were written are what the image has there
own_bytes : (image bytes : List ℕ) (at : ℕ) → at + length bytes ≤ length image
    → bytes ≡ take (length bytes) (drop at (overlay image at bytes))
own_bytes image bytes at range = same_lists _ _ (grind (arith, common_steps)) (λ k d h. grind (arith, places))

-- a byte of a front
slice_index-take : (n : ℕ) (xs : List ℕ) (at : ℕ) → at < n → slice_index (take n xs) at ≡ slice_index xs at
slice_index-take n xs at within = grind (arith, places, within)

-- a byte of what is behind a front
slice_index-drop : (n : ℕ) (xs : List ℕ) (at : ℕ) → n ≤ at → slice_index (drop n xs) (at - n) ≡ slice_index xs at
slice_index-drop n xs at behind = grind (arith, places, behind)

-- a place behind the start of a block, and in another, is behind its end
above_block : (at number len : ℕ) → block_start number ≤ at → at / block_size ≢ number → len ≤ block_size
    → block_start number + len ≤ at
above_block at number len from apart short = elim (cases_lt at (block_start number + len)) [
  | inl inside ↦ absurd (apart (omega (arith, from, inside, short)))
  | inr behind ↦ behind
]

-- what isn't kept now wasn't
none_before : (old new : Option (List ℕ)) → is_some new ≡ is_some old → new ≡ None → old ≡ None
none_before None new same none = refl
none_before (Some block) new same none = absurd (false≢true (ap is_some (sym none) ∙ same))

-- a byte that is the same in two images is so where both are written over
overlay_same : (one two bytes : List ℕ) (off at : ℕ) → length one ≡ length two → at < length two
    → slice_index one at ≡ slice_index two at → slice_index (overlay one off bytes) at ≡ slice_index (overlay two off bytes) at
overlay_same one two bytes off at long within same = elim (cases_lt at off) [
  | inl below ↦ overlay_below one off bytes at below ∙ same ∙ sym (overlay_below two off bytes at below)
  | inr from ↦ elim (cases_lt at (off + length bytes)) [
    | inl inside ↦ overlay_in one off bytes at from inside (omega (arith, within, long))
        ∙ sym (overlay_in two off bytes at from inside within)
    | inr above ↦ overlay_above one off bytes at above ∙ same ∙ sym (overlay_above two off bytes at above)
  ]
]

-- blocks that are laid over an image keep its length
pub length-laid : (blocks : Blocks) (image : List ℕ) → length (laid blocks image) ≡ length image
length-laid blocks image = length-map-range_with_len (λ at. byte_at blocks at (slice_index image at)) 0 (length image)

-- a byte of it
pub laid_at : (blocks : Blocks) (image : List ℕ) (at : ℕ) → at < length image
    → slice_index (laid blocks image) at ≡ byte_at blocks at (slice_index image at)
laid_at blocks image at within =
    get_or-map-range_with_len (λ at. byte_at blocks at (slice_index image at)) 0 (length image) at at 0 within (omega arith)

-- a byte whose block isn't kept
pub byte_unkept : (blocks : Blocks) (at other : ℕ) → block_at blocks (at / block_size) ≡ None → byte_at blocks at other ≡ other
byte_unkept blocks at other none = rw none refl

-- a byte whose block is kept
pub byte_kept : (blocks : Blocks) (at other : ℕ) (block : List ℕ) → block_at blocks (at / block_size) ≡ Some block
    → byte_at blocks at other ≡ slice_index block (at % block_size)
byte_kept blocks at other block is = rw is refl

-- it isn't one of the image's
pub byte_same : (blocks : Blocks) (at one other : ℕ) → IsSome (block_at blocks (at / block_size))
    → byte_at blocks at one ≡ byte_at blocks at other
byte_same blocks at one other there =
    let kept = some_of (block_at blocks (at / block_size)) there in
    byte_kept blocks at one kept.0 kept.1 ∙ sym (byte_kept blocks at other kept.0 kept.1)

-- what a read gives has the blocks that are kept
pub AllShown-laid : (blocks : Blocks) (image : List ℕ) → AllSized blocks (length image) → AllShown blocks (laid blocks image)
AllShown-laid blocks image sized = λ number block is.
    let long : block_start number + length block ≡ block_end (length image) number = sized number block is in
    let size : length (laid blocks image) ≡ length image = length-laid blocks image in
    same_number_lists block (take (length block) (drop (block_start number) (laid blocks image)))
    (grind (arith, common_steps, size, long)) (λ k h.
    let at = block_start number + k in
    let here : at / block_size ≡ number = omega (arith, long, h) in
    let within : at % block_size ≡ k = omega (arith, long, h) in
    let kept : block_at blocks (at / block_size) ≡ Some block = rw here is in
    let byte : slice_index (laid blocks image) at ≡ slice_index block k =
    laid_at blocks image at (omega (arith, long, h)) ∙ byte_kept blocks at (slice_index image at) block kept ∙ ap (slice_index block) within in
    grind (arith, places, byte, h))

-- and is what has the blocks, and the image's bytes elsewhere
pub laid-only : (blocks : Blocks) (image view : List ℕ) → AllSized blocks (length image) → length view ≡ length image
    → AllShown blocks view
    → ((at : ℕ) → at < length image → block_at blocks (at / block_size) ≡ None → slice_index view at ≡ slice_index image at)
    → laid blocks image ≡ view
laid-only blocks image view sized size shown rest =
    same_number_lists (laid blocks image) view (length-laid blocks image ∙ sym size) (λ at h.
    let within : at < length image = omega (arith, h, length-laid blocks image) in
    laid_at blocks image at within ∙ (elim (none_or_some (block_at blocks (at / block_size))) [
      | inl none ↦ byte_unkept blocks at (slice_index image at) none ∙ sym (rest at within none)
      | inr (block, is) ↦
          let number = at / block_size in
          let k = at % block_size in
          let long : block_start number + length block ≡ block_end (length image) number = sized number block is in
          let start : block_start number + k ≡ at = omega arith in
          let inside : k < length block = omega (arith, long, within) in
          let there : block ≡ take (length block) (drop (block_start number) view) = shown number block is in
          let byte : slice_index (take (length block) (drop (block_start number) view)) k ≡ slice_index view at =
          grind (arith, places, inside, start) in
          byte_kept blocks at (slice_index image at) block is ∙ ap (λ xs. slice_index xs k) there ∙ byte
    ]))

-- where none is kept it is the image
pub laid-none : (blocks : Blocks) (image : List ℕ) → NoneKept blocks → laid blocks image ≡ image
laid-none blocks image none =
    same_number_lists (laid blocks image) image (length-laid blocks image) (λ at h.
    laid_at blocks image at (omega (arith, h, length-laid blocks image))
    ∙ byte_unkept blocks at (slice_index image at) (none (at / block_size)))

-- where none is kept all have their lengths
pub AllSized-none : (blocks : Blocks) (size : ℕ) → NoneKept blocks → AllSized blocks size
AllSized-none blocks size none = λ number block is. absurd (grind (arith, is, none number))

-- the same blocks are laid the same
pub laid-same : (old new : Blocks) (image : List ℕ) → ((number : ℕ) → block_at new number ≡ block_at old number)
    → laid new image ≡ laid old image
laid-same old new image same =
    same_number_lists (laid new image) (laid old image) (length-laid new image ∙ sym (length-laid old image)) (λ at h.
    let within : at < length image = omega (arith, h, length-laid new image) in
    laid_at new image at within
    ∙ ap (λ block. byte_of block (at % block_size) (slice_index image at)) (same (at / block_size))
    ∙ sym (laid_at old image at within))

-- a block with the image's own bytes changes nothing
pub laid-keep : (old new : Blocks) (number : ℕ) (image bytes : List ℕ) → block_at old number ≡ None
    → block_at new number ≡ Some bytes → OthersStay number old new
    → block_start number + length bytes ≡ block_end (length image) number
    → bytes ≡ take (length bytes) (drop (block_start number) image) → laid new image ≡ laid old image
laid-keep old new number image bytes none here others long shown =
    same_number_lists (laid new image) (laid old image) (length-laid new image ∙ sym (length-laid old image)) (λ at h.
    let within : at < length image = omega (arith, h, length-laid new image) in
    laid_at new image at within ∙ (elim (cases_eq (at / block_size) number) [
      | inl same ↦
          let k = at % block_size in
          let start : block_start number + k ≡ at = omega (arith, same) in
          let inside : k < length bytes = omega (arith, long, within, start) in
          let byte : slice_index (take (length bytes) (drop (block_start number) image)) k ≡ slice_index image at =
          grind (arith, places, inside, start) in
          let kept : block_at new (at / block_size) ≡ Some bytes = rw same here in
          let gone : block_at old (at / block_size) ≡ None = rw same none in
          byte_kept new at (slice_index image at) bytes kept ∙ ap (λ xs. slice_index xs k) shown ∙ byte
          ∙ sym (byte_unkept old at (slice_index image at) gone)
      | inr apart ↦ ap (λ block. byte_of block (at % block_size) (slice_index image at)) (others (at / block_size) apart)
    ])
    ∙ sym (laid_at old image at within))

-- a block that is written to the image, whole or not, and is kept changes nothing
pub laid-over_kept : (blocks : Blocks) (number : ℕ) (image bytes other : List ℕ) → block_at blocks number ≡ Some bytes
    → length other ≡ length bytes → length bytes ≤ block_size
    → laid blocks (overlay image (block_start number) other) ≡ laid blocks image
laid-over_kept blocks number image bytes other here same_length short =
    let now = overlay image (block_start number) other in
    let size : length now ≡ length image = length-overlay image (block_start number) other in
    same_number_lists (laid blocks now) (laid blocks image) (length-laid blocks now ∙ size ∙ sym (length-laid blocks image)) (λ at h.
    let within : at < length image = omega (arith, h, length-laid blocks now, size) in
    laid_at blocks now at (omega (arith, within, size)) ∙ (elim (cases_eq (at / block_size) number) [
      | inl same ↦
          let kept : block_at blocks (at / block_size) ≡ Some bytes = rw same here in
          byte_kept blocks at (slice_index now at) bytes kept ∙ sym (byte_kept blocks at (slice_index image at) bytes kept)
      | inr apart ↦ ap (byte_at blocks at) (elim (cases_lt at (block_start number)) [
        | inl below ↦ overlay_below image (block_start number) other at below
        | inr from ↦ overlay_above image (block_start number) other at (above_block at number (length other) from apart (omega (arith, same_length, short)))
      ])
    ])
    ∙ sym (laid_at blocks image at within))

-- bytes that are written over in the blocks that are kept and in the image are written over in what a read gives
pub laid-overlay : (old new : Blocks) (image now bytes : List ℕ) (off : ℕ) → AllSized old (length image)
    → AllSized new (length image) → SameKept old new → off + length bytes ≤ length image → length now ≡ length image
    → AllShown new (overlay (laid old image) off bytes)
    → ((at : ℕ) → at < length image → block_at old (at / block_size) ≡ None → slice_index now at ≡ slice_index (overlay image off bytes) at)
    → laid new now ≡ overlay (laid old image) off bytes
laid-overlay old new image now bytes off sized sized_now same range size shown rest =
    let view = laid old image in
    let long : length view ≡ length image = length-laid old image in
    laid-only new now (overlay view off bytes) (rw size sized_now) (length-overlay view off bytes ∙ long ∙ sym size) shown
    (λ at h none.
    let within : at < length image = omega (arith, h, size) in
    let before : block_at old (at / block_size) ≡ None = none_before (block_at old (at / block_size)) (block_at new (at / block_size)) (same (at / block_size)) none in
    let byte : slice_index view at ≡ slice_index image at = laid_at old image at within ∙ byte_unkept old at (slice_index image at) before in
    overlay_same view image bytes off at long within byte ∙ sym (rest at within before))

-- a write to the image beside what is kept is other bytes in the same range of what a read gives
pub laid-tried : (blocks : Blocks) (old new : History) (off n : ℕ) → off + n ≤ length (seen old) → TriedOver off n old new
    → ViewTriedOver off n (laid blocks (seen old)) (laid blocks (seen new))
laid-tried blocks old new off n range tried = elim tried [
  | inl unchanged ↦ inl (rw unchanged refl)
  | inr (bytes, fits, done) ↦
      let image = seen old in
      let now = overlay image off bytes in
      let is : seen new ≡ now = ap seen done in
      let view = laid blocks now in
      let size : length now ≡ length image = length-overlay image off bytes in
      let long : length view ≡ length image = length-laid blocks now ∙ size in
      let other = take n (drop off view) in
      let other_long : length other ≡ n = grind (arith, common_steps, long, range) in
      inr (
        other,
        other_long,
        ap (laid blocks) is
            ∙ same_number_lists view (overlay (laid blocks image) off other)
            (long ∙ sym (length-overlay (laid blocks image) off other ∙ length-laid blocks image)) (λ at h.
            let within : at < length image = omega (arith, h, long) in
            elim (cases_lt at off) [
              | inl below ↦
                  laid_at blocks now at (omega (arith, within, size))
                  ∙ ap (byte_at blocks at) (overlay_below image off bytes at below)
                  ∙ sym (overlay_below (laid blocks image) off other at below ∙ laid_at blocks image at within)
              | inr from ↦ elim (cases_lt at (off + n)) [
                | inl inside ↦
                    let byte : slice_index other (at - off) ≡ slice_index view at = grind (arith, places, from, inside, long, range) in
                    sym (overlay_in (laid blocks image) off other at from (omega (arith, inside, other_long))
                    (omega (arith, within, length-laid blocks image)) ∙ byte)
                | inr above ↦
                    laid_at blocks now at (omega (arith, within, size))
                    ∙ ap (byte_at blocks at) (overlay_above image off bytes at (omega (arith, above, fits)))
                    ∙ sym (overlay_above (laid blocks image) off other at (omega (arith, above, other_long)) ∙ laid_at blocks image at within)
              ]
            ]),
      )
]

-- what is written to the image in a block that isn't kept is written in what a read gives
pub laid-beside : (blocks : Blocks) (image bytes : List ℕ) (off : ℕ) → block_at blocks (off / block_size) ≡ None
    → off % block_size + length bytes ≤ block_size
    → laid blocks (overlay image off bytes) ≡ overlay (laid blocks image) off bytes
laid-beside blocks image bytes off none one_block =
    let now = overlay image off bytes in
    let size : length now ≡ length image = length-overlay image off bytes in
    let long : length (laid blocks now) ≡ length image = length-laid blocks now ∙ size in
    same_number_lists (laid blocks now) (overlay (laid blocks image) off bytes)
    (long ∙ sym (length-overlay (laid blocks image) off bytes ∙ length-laid blocks image)) (λ at h.
    let within : at < length image = omega (arith, h, long) in
    laid_at blocks now at (omega (arith, within, size)) ∙ (elim (cases_lt at off) [
      | inl below ↦
          ap (byte_at blocks at) (overlay_below image off bytes at below)
          ∙ sym (overlay_below (laid blocks image) off bytes at below ∙ laid_at blocks image at within)
      | inr from ↦ elim (cases_lt at (off + length bytes)) [
        | inl inside ↦
            let here : at / block_size ≡ off / block_size = omega (arith, from, inside, one_block) in
            byte_unkept blocks at (slice_index now at) (rw here none)
            ∙ overlay_in image off bytes at from inside within
            ∙ sym (overlay_in (laid blocks image) off bytes at from inside (omega (arith, within, length-laid blocks image)))
        | inr above ↦
            ap (byte_at blocks at) (overlay_above image off bytes at above)
            ∙ sym (overlay_above (laid blocks image) off bytes at above ∙ laid_at blocks image at within)
      ]
    ]))

-- a word that is written there, old or new as a whole
pub laid-tried_word : (blocks : Blocks) (old new : History) (off : ℕ) (w : List ℕ) → block_at blocks (off / block_size) ≡ None
    → off % block_size + length w ≤ block_size → Tried (wrote_word off w) old new
    → ViewTried (wrote_word off w) (laid blocks (seen old)) (laid blocks (seen new))
laid-tried_word blocks old new off w none one_block tried = elim tried [
  | inl unchanged ↦ inl (rw unchanged refl)
  | inr done ↦ inr (ap (λ h. laid blocks (seen h)) done ∙ laid-beside blocks (seen old) w off none one_block)
]

-- bytes of a range over which the blocks that are kept were laid are those that a read gives
pub laid-read : (blocks : Blocks) (image before buf : List ℕ) (off n : ℕ) → off + n ≤ length image → length buf ≡ n
    → ((at : ℕ) → at < n → slice_index buf at ≡ byte_at blocks (off + at) (slice_index before at))
    → ((at : ℕ) → at < n → byte_at blocks (off + at) (slice_index before at) ≡ byte_at blocks (off + at) (slice_index image (off + at)))
    → buf ≡ take n (drop off (laid blocks image))
laid-read blocks image before buf off n range size over same =
    let long : length (laid blocks image) ≡ length image = length-laid blocks image in
    same_number_lists buf (take n (drop off (laid blocks image))) (grind (arith, common_steps, long, range, size)) (λ at h.
    let within : at < n = omega (arith, h, size) in
    let byte : slice_index (take n (drop off (laid blocks image))) at ≡ slice_index (laid blocks image) (off + at) =
    grind (arith, places, within) in
    over at within ∙ same at within
    ∙ sym (byte ∙ laid_at blocks image (off + at) (omega (arith, within, range))))

-- the same where the bytes were those of the image
pub laid-read_image : (blocks : Blocks) (image before : List ℕ) (off n : ℕ) → before ≡ take n (drop off image) → (at : ℕ) → at < n
    → byte_at blocks (off + at) (slice_index before at) ≡ byte_at blocks (off + at) (slice_index image (off + at))
laid-read_image blocks image before off n is at within =
    let byte : slice_index (take n (drop off image)) at ≡ slice_index image (off + at) = grind (arith, places, within) in
    ap (byte_at blocks (off + at)) (ap (λ xs. slice_index xs at) is ∙ byte)

-- and where they lie in one block that is kept
pub laid-read_kept : (blocks : Blocks) (off n one other : ℕ) → LiesInKept blocks off n → (at : ℕ) → at < n
    → byte_at blocks (off + at) one ≡ byte_at blocks (off + at) other
laid-read_kept blocks off n one other held at within =
    let here : (off + at) / block_size ≡ off / block_size = omega (arith, within, held.one_block) in
    byte_same blocks (off + at) one other (rw here held.kept)

-- a part more of a range over which the blocks are laid
pub lay-more : (blocks : Blocks) (start buf piece : List ℕ) (off done end number within : ℕ) → done < end → end ≤ length buf
    → block_start number + within ≡ off + done → within + end ≤ block_size + done → length piece ≡ end - done
    → ((block : List ℕ) → block_at blocks number ≡ Some block → piece ≡ take (end - done) (drop within block))
    → (block_at blocks number ≡ None → piece ≡ take (end - done) (drop done buf))
    → ((block : List ℕ) → block_at blocks number ≡ Some block → within + (end - done) ≤ length block)
    → ((at : ℕ) → at < done → slice_index buf at ≡ byte_at blocks (off + at) (slice_index start at))
    → ((at : ℕ) → done ≤ at → slice_index buf at ≡ slice_index start at) → (at : ℕ) → at < end
    → slice_index (put_mid done (end - done) buf piece) at ≡ byte_at blocks (off + at) (slice_index start at)
lay-more blocks start buf piece off done end number within more inside at_start one_block size kept unkept reach front back at h =
    let joined : take end (put_mid done (end - done) buf piece) ≡ take done buf ++ piece = grind (arith, common_steps, overwrites) in
    let first : slice_index (put_mid done (end - done) buf piece) at ≡ slice_index (take end (put_mid done (end - done) buf piece)) at =
    sym (slice_index-take end (put_mid done (end - done) buf piece) at h) in
    let both : slice_index (put_mid done (end - done) buf piece) at ≡ slice_index (take done buf ++ piece) at =
    first ∙ ap (λ xs. slice_index xs at) joined in
    elim (cases_lt at done) [
      | inl before ↦
          let byte : slice_index (take done buf ++ piece) at ≡ slice_index buf at = grind (arith, places, before, inside, more) in
          both ∙ byte ∙ front at before
      | inr from ↦
          let k = at - done in
          let byte : slice_index (take done buf ++ piece) at ≡ slice_index piece k = grind (arith, places, from, h, size, inside) in
          let here : (off + at) / block_size ≡ number = omega (arith, from, h, at_start, one_block) in
          let place : (off + at) % block_size ≡ within + k = omega (arith, from, h, at_start, one_block) in
          both ∙ byte ∙ (elim (none_or_some (block_at blocks number)) [
            | inl none ↦
                let own : slice_index (take (end - done) (drop done buf)) k ≡ slice_index buf at = grind (arith, places, from, h, inside) in
                ap (λ xs. slice_index xs k) (unkept none) ∙ own ∙ back at from
                ∙ sym (byte_unkept blocks (off + at) (slice_index start at) (rw here none))
            | inr (block, is) ↦
                let own : slice_index (take (end - done) (drop within block)) k ≡ slice_index block (within + k) =
                grind (arith, places, from, h, reach block is) in
                ap (λ xs. slice_index xs k) (kept block is) ∙ own
                ∙ sym (byte_kept blocks (off + at) (slice_index start at) block (rw here is) ∙ ap (slice_index block) place)
          ])
    ]

-- and what lies behind it is as it was
pub lay-rest : (start buf piece : List ℕ) (done end : ℕ) → done < end → end ≤ length buf → length piece ≡ end - done
    → ((at : ℕ) → done ≤ at → slice_index buf at ≡ slice_index start at) → (at : ℕ) → end ≤ at
    → slice_index (put_mid done (end - done) buf piece) at ≡ slice_index start at
lay-rest start buf piece done end more inside size back at behind =
    let rest : drop end (put_mid done (end - done) buf piece) ≡ drop end buf = grind (arith, common_steps, overwrites) in
    let now : slice_index (put_mid done (end - done) buf piece) at ≡ slice_index (drop end (put_mid done (end - done) buf piece)) (at - end) =
    sym (slice_index-drop end (put_mid done (end - done) buf piece) at behind) in
    let was : slice_index (drop end buf) (at - end) ≡ slice_index buf at = slice_index-drop end buf at behind in
    now ∙ ap (λ xs. slice_index xs (at - end)) rest ∙ was ∙ back at (omega (arith, more, behind))

-- a block that was tried to be written and is kept changes nothing
pub laid-kept_tried : (blocks : Blocks) (number : ℕ) (old new : History) (bytes : List ℕ) → block_at blocks number ≡ Some bytes
    → length bytes ≤ block_size → TriedOver (block_start number) (length bytes) old new
    → laid blocks (seen new) ≡ laid blocks (seen old)
laid-kept_tried blocks number old new bytes here short tried = elim tried [
  | inl unchanged ↦ ap (λ h. laid blocks (seen h)) unchanged
  | inr (other, fits, done) ↦
      ap (λ h. laid blocks (seen h)) done ∙ laid-over_kept blocks number (seen old) bytes other here fits short
]

-- a block that the image has may be dropped, if no other one is behind it
pub laid-forget : (old new : Blocks) (number : ℕ) (image : List ℕ) → KeepsFront number old new
    → ((other : ℕ) → number < other → block_at old other ≡ None) → AllSized old (length image)
    → ((block : List ℕ) → block_at old number ≡ Some block → block ≡ take (length block) (drop (block_start number) image))
    → laid new image ≡ laid old image
laid-forget old new number image front last sized shown =
    let others : OthersStay number old new = λ other apart. elim (cases_lt other number) [
      | inl before ↦ front.front other before
      | inr from ↦ front.none other from ∙ sym (last other (omega (arith, from, apart)))
    ] in
    elim (none_or_some (block_at old number)) [
      | inl none ↦ laid-same old new image (λ other. elim (cases_eq other number) [
        | inl same ↦ rw same (front.none number (omega arith) ∙ sym none)
        | inr apart ↦ others other apart
      ])
      | inr (block, is) ↦
          sym (laid-keep new old number image block (front.none number (omega arith)) is (λ other apart. sym (others other apart))
          (sized number block is) (shown block is))
    ]

-- the blocks in front have their lengths
pub AllSized-fewer : (old new : Blocks) (number size : ℕ) → KeepsFront number old new → AllSized old size → AllSized new size
AllSized-fewer old new number size front sized = λ other block is. elim (cases_lt other number) [
  | inl before ↦ sized other block (sym (front.front other before) ∙ is)
  | inr from ↦ absurd (grind (arith, is, front.none other from))
]

-- bytes that are written over in one block that is kept are written in what a read gives
pub laid-held : (old new : Blocks) (image bytes : List ℕ) (off : ℕ) → AllSized old (length image) → AllSized new (length image)
    → SameKept old new → off + length bytes ≤ length image
    → ((view : List ℕ) → off + length bytes ≤ length view → AllSized old (length view) → AllShown old view → AllShown new (overlay view off bytes))
    → LiesInKept old off (length bytes) → laid new image ≡ overlay (laid old image) off bytes
laid-held old new image bytes off sized sized_now same range shown held =
    let long : length (laid old image) ≡ length image = length-laid old image in
    laid-overlay old new image image bytes off sized sized_now same range refl
    (shown (laid old image) (omega (arith, range, long)) (rw long sized) (AllShown-laid old image sized)) (λ at within none.
    elim (cases_lt at off) [
      | inl below ↦ sym (overlay_below image off bytes at below)
      | inr from ↦ elim (cases_lt at (off + length bytes)) [
        | inl inside ↦
            let here : at / block_size ≡ off / block_size = omega (arith, from, inside, held.one_block) in
            let kept = some_of (block_at old (off / block_size)) held.kept in
            let gone : block_at old (off / block_size) ≡ None = rw (← here) none in absurd (grind (arith, kept.1, gone))
        | inr above ↦ sym (overlay_above image off bytes at above)
      ]
    ])

-- and so are bytes that are written over in the image and in the blocks that are kept
pub laid-written : (old new : Blocks) (image bytes : List ℕ) (off : ℕ) → AllSized old (length image) → AllSized new (length image)
    → SameKept old new → off + length bytes ≤ length image
    → ((view : List ℕ) → off + length bytes ≤ length view → AllSized old (length view) → AllShown old view → AllShown new (overlay view off bytes))
    → laid new (overlay image off bytes) ≡ overlay (laid old image) off bytes
laid-written old new image bytes off sized sized_now same range shown =
    let long : length (laid old image) ≡ length image = length-laid old image in
    laid-overlay old new image (overlay image off bytes) bytes off sized sized_now same range (length-overlay image off bytes)
    (shown (laid old image) (omega (arith, range, long)) (rw long sized) (AllShown-laid old image sized)) (λ at within none. refl)

-- a try from what is the same
pub tried_same : (off n : ℕ) (first old new : List ℕ) → old ≡ first → ViewTriedOver off n old new → ViewTriedOver off n first new
tried_same off n first old new same tried = subst (λ x. ViewTriedOver off n x new) same tried

-- a block that was written is what the image has there
pub shown_done : {V F : Type 0} (answer : Result V F) (blocks : Blocks) (number : ℕ) (old new : History) (bytes : List ℕ)
    (tells : Bool) → block_at blocks number ≡ Some bytes
    → (IsTrue tells → block_start number + length bytes ≤ length (seen old))
    → OnOk answer (IsTrue tells → new ≡ called old (wrote (block_start number) bytes))
    → OnOk answer (IsTrue tells → (block : List ℕ) → block_at blocks number ≡ Some block
    → block ≡ take (length block) (drop (block_start number) (seen new)))
shown_done (Ok value) blocks number old new bytes tells here range done = λ told block is.
    let same : bytes ≡ block = same_Some _ _ (sym here ∙ is) in
    let shown : bytes ≡ take (length bytes) (drop (block_start number) (seen new)) =
    rw (done told) (own_bytes (seen old) bytes (block_start number) (range told)) in
    subst (λ (b : List ℕ). b ≡ take (length b) (drop (block_start number) (seen new))) same shown
shown_done (Err fault) blocks number old new bytes tells here range done = tt

-- where no block is pending after a flush that answered Ok the image is what a read gave
pub flushed_shown : {V F : Type 0} (answer : Result V F) (blocks : Blocks) (image first : List ℕ) (tells : Bool)
    → OnOk answer (NoneKept blocks) → (IsTrue tells → laid blocks image ≡ first) → OnOk answer (IsTrue tells → image ≡ first)
flushed_shown (Ok value) blocks image first tells none same = λ told. sym (laid-none blocks image none) ∙ same told
flushed_shown (Err fault) blocks image first tells none same = tt

-- a block isn't kept where a range within it lies in none that is
pub unheld : (blocks : Blocks) (off n : ℕ) → (LiesInKept blocks off n → ⊥) → off % block_size + n ≤ block_size
    → block_at blocks (off / block_size) ≡ None
unheld blocks off n apart one_block = elim (none_or_some (block_at blocks (off / block_size))) [
  | inl none ↦ none
  | inr (block, is) ↦ absurd (apart (record {
    kept = grind (arith, is);
    one_block = one_block;
  }))
]

-- a word that was written to the image beside the blocks is written in what a read gives
pub word_done : {V F : Type 0} (answer : Result V F) (blocks : Blocks) (old new : History) (off : ℕ) (w first : List ℕ)
    (tells : Bool) → block_at blocks (off / block_size) ≡ None → off % block_size + length w ≤ block_size
    → (IsTrue tells → laid blocks (seen old) ≡ first) → OnOk answer (IsTrue tells → new ≡ called old (wrote_word off w))
    → OnOk answer (IsTrue tells → laid blocks (seen new) ≡ overlay first off w)
word_done (Ok value) blocks old new off w first tells none one_block same done = λ told.
    ap (λ h. laid blocks (seen h)) (done told) ∙ laid-beside blocks (seen old) w off none one_block
    ∙ ap (λ view. overlay view off w) (same told)
word_done (Err fault) blocks old new off w first tells none one_block same done = tt
